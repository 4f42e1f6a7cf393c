-- How many facts a merge adds, where jobs are retired on either side.
use Rattle.std.specs.Prelude.{◌≡◌, ℕ, ◌+◌, ◌&&◌, ◌||◌, Bool, true, false, cond, not, List, [], ◌∷◌, ◌++◌, length, refl, filter}
use Rattle.std.proofs.Common.{ap, sym, ◌∙◌, arith}
use Rattle.std.proofs.lemmas.Bool.{true≢false}
use Rattle.std.proofs.lemmas.List.Folds.{list_any-append}
use Rattle.std.specs.List.{list_any}
use Rattle.std.specs.Ordering.{eq_by_cmp}
use Rattle.identity.specs.declared.job_ids.JobId.{JobId}
use Rattle.identity.specs.Keys.{ids_cmp, ids_in}
use Rattle.tile_fact.specs.declared.fact.Fact.{Fact}
use Rattle.tile_fact.specs.Order.{fact_cmp}
use Rattle.fact_store.specs.Facts.{FactSet, facts_in, holds, join, lacked, names_one, without}
use Rattle.fact_store.specs.inside.SortedLists.{rises, set_of}
use Rattle.fact_store.proofs.KeyLaws.{any_filter}
use Rattle.fact_store.proofs.SetLaws.{holds-facts_in, holds-join, rises-facts_in, same_set}
use Rattle.fact_store.proofs.SortedLaws.{facts_in-set_of, holds-set_of}
use Rattle.fact_store.proofs.RemoveLaws.{rises_filter, set_of-stays, stays}

-- the facts of the set that are of these jobs, rising
abbrev pub of_jobs : FactSet → List JobId → List Fact
of_jobs s jobs = filter (λ f. names_one jobs f.key) (facts_in s)

-- no fact of the set is of these jobs
abbrev pub HasNone : FactSet → List JobId → Type 0
HasNone s jobs = (f : Fact) → holds s f ≡ true → names_one jobs f.key ≡ false

-- lists that rise and have the same are one
same_list : (xs ys : List Fact) → rises xs ≡ true → rises ys ≡ true
    → ((g : Fact) → list_any (eq_by_cmp fact_cmp g) xs ≡ list_any (eq_by_cmp fact_cmp g) ys) → xs ≡ ys
same_list xs ys h k same =
    sym (facts_in-set_of xs h)
    ∙ ap facts_in (same_set (set_of xs) (set_of ys) (λ g. holds-set_of xs g h ∙ same g ∙ sym (holds-set_of ys g k)))
    ∙ facts_in-set_of ys k

set_of-facts_in : (s : FactSet) → set_of (facts_in s) ≡ s
set_of-facts_in s = same_set _ _ (λ g. holds-set_of (facts_in s) g (rises-facts_in s) ∙ sym (holds-facts_in s g))

pub facts_in-without : (s : FactSet) (jobs : List JobId) → facts_in (without s jobs) ≡ filter (stays jobs) (facts_in s)
facts_in-without s jobs =
    ap (λ t. facts_in (without t jobs)) (sym (set_of-facts_in s))
    ∙ ap facts_in (sym (set_of-stays jobs (facts_in s) (rises-facts_in s)))
    ∙ facts_in-set_of (filter (stays jobs) (facts_in s)) (rises_filter (stays jobs) (facts_in s) (rises-facts_in s))

-- what passes a test, parted by another one
parted : (p q : Fact → Bool) (xs : List Fact)
    → length (filter p (filter (λ f. not (q f)) xs)) + length (filter p (filter q xs)) ≡ length (filter p xs)
parted p q [] = refl
parted p q (x ∷ xs) =
    let rest = parted p q xs in
    elim (q x) as (λ b. length (filter p (cond (not b) (x ∷ filter (λ f. not (q f)) xs) (filter (λ f. not (q f)) xs)))
    + length (filter p (cond b (x ∷ filter q xs) (filter q xs))) ≡ length (cond (p x) (x ∷ filter p xs) (filter p xs))) [
      | true ↦ elim (p x) as (λ b. length (filter p (filter (λ f. not (q f)) xs)) + length (cond b (x ∷ filter p (filter q xs)) (filter p (filter q xs)))
          ≡ length (cond b (x ∷ filter p xs) (filter p xs))) [ true ↦ omega (arith, rest) | false ↦ rest ]
      | false ↦ elim (p x) as (λ b. length (cond b (x ∷ filter p (filter (λ f. not (q f)) xs)) (filter p (filter (λ f. not (q f)) xs)))
          + length (filter p (filter q xs)) ≡ length (cond b (x ∷ filter p xs) (filter p xs))) [ true ↦ omega (arith, rest) | false ↦ rest ]
    ]

in_other : (a b x y : Bool) → (a ≡ true → x ≡ false) → (b ≡ true → y ≡ false) → (((a || b) && (x || y)) && not a) ≡ (b && x)
in_other true b true y h k = absurd (true≢false (h refl))
in_other true true false true h k = refl
in_other true true false false h k = refl
in_other true false false true h k = refl
in_other true false false false h k = refl
in_other false true x true h k = absurd (true≢false (k refl))
in_other false true true false h k = refl
in_other false true false false h k = refl
in_other false false x y h k = refl

module _ (old other : FactSet) (ours theirs : List JobId) (own : HasNone old ours) (their : HasNone other theirs) where
  abbrev jobs : List JobId
  jobs = ours ++ theirs

  -- what a join adds of retired jobs are the other's facts of jobs that are retired here
  retired_again : filter (λ f. not (holds old f)) (filter (λ f. names_one jobs f.key) (facts_in (join old other))) ≡ of_jobs other ours
  retired_again =
      same_list _ _
      (rises_filter (λ f. not (holds old f)) _ (rises_filter (λ f. names_one jobs f.key) _ (rises-facts_in (join old other))))
      (rises_filter (λ f. names_one ours f.key) _ (rises-facts_in other))
      (λ g. any_filter (λ f. not (holds old f)) g (filter (λ f. names_one jobs f.key) (facts_in (join old other)))
      ∙ ap (λ b. b && not (holds old g)) (any_filter (λ f. names_one jobs f.key) g (facts_in (join old other)))
      ∙ ap (λ b. (b && names_one jobs g.key) && not (holds old g)) (sym (holds-facts_in (join old other) g) ∙ holds-join old other g)
      ∙ ap (λ b. ((holds old g || holds other g) && b) && not (holds old g)) (list_any-append (eq_by_cmp ids_cmp (ids_in g.key)) ours theirs)
      ∙ in_other (holds old g) (holds other g) (names_one ours g.key) (names_one theirs g.key) (own g) (their g)
      ∙ sym (any_filter (λ f. names_one ours f.key) g (facts_in other)
      ∙ ap (λ b. b && names_one ours g.key) (sym (holds-facts_in other g))))

  -- so many facts are new after a merge, and so many of the other's are of jobs that are retired here
  pub new_and_retired : length (lacked old (without (join old other) jobs)) + length (of_jobs other ours) ≡ length (lacked old (join old other))
  unfolding lacked
  new_and_retired =
      ap (λ xs. length (filter (λ f. not (holds old f)) xs) + length (of_jobs other ours)) (facts_in-without (join old other) jobs)
      ∙ ap (λ ys. length (filter (λ f. not (holds old f)) (filter (stays jobs) (facts_in (join old other)))) + length ys) (sym retired_again)
      ∙ parted (λ f. not (holds old f)) (λ f. names_one jobs f.key) (facts_in (join old other))
