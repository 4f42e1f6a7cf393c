-- A target has one list of ranges with room.
use Rattle.std.proofs.Common.{ℕ, zero, suc, arith, ◌<◌, ◌≤◌, ◌≡◌, inl, inr, Option, Some, None, List, [], ◌∷◌, refl, sym, ap}
use Rattle.std.proofs.Common.{◌∙◌, subst}
use Rattle.std.specs.Prelude.{slice_get}
use Rattle.std.specs.Option.{option_map}
use Rattle.std.proofs.lemmas.Bool.{cases_eq}
use Rattle.std.proofs.lemmas.Option.{same_Some, slice_get-map}
use Rattle.tile_boxes.specs.Targets.{Target}
use Rattle.tile_boxes.specs.Costs.{steps}
use Rattle.overlap_tiles.specs.Lives.{IsReadAt}
use Rattle.overlap_tiles.specs.Ranges.{LieApart, LieWithin, HaveRoom}
use Rattle.overlap_tiles.proofs.StepsHaveWhatTheyRead.{lives_last}

-- lists with the same elements at the same places
same_at : {X : Type 0} → (xs ys : List X) → ((k : ℕ) → slice_get xs k ≡ slice_get ys k) → xs ≡ ys
same_at [] [] same = refl
same_at [] (y ∷ ys) same = absurd (let e : None ≡ Some y = same 0 in cc)
same_at (x ∷ xs) [] same = absurd (let e : Some x ≡ None = same 0 in cc)
same_at (x ∷ xs) (y ∷ ys) same =
    let first = same_Some x y (same 0) in
    let rest = same_at xs ys (λ k. same (suc k)) in
    λ i. first i ∷ rest i

module _ (t : Target) (xs : List (ℕ × ℕ)) (m : ℕ) (ys : List (ℕ × ℕ)) (n : ℕ) (first : HaveRoom t xs m) (second : HaveRoom t ys n) where
  -- where all before are the same, this range starts no later in the second list
  no_later : (k : ℕ) → ((l : ℕ) → l < k → slice_get xs l ≡ slice_get ys l) → (a b : ℕ × ℕ) → slice_get xs k ≡ Some a
      → slice_get ys k ≡ Some b → a.1 ≡ b.1 → b.0 ≤ a.0
  no_later k before a b here there same =
      second.least k a.0 b there (λ l c less at lives.
      subst (λ (len : ℕ). LieApart c (a.0, len)) same (first.apart l k c a less (before l less ∙ at) here lives))

  lengths_at : (k : ℕ) → option_map (λ r. r.1) (slice_get xs k) ≡ option_map (λ r. r.1) (slice_get ys k)
  lengths_at k =
      sym (slice_get-map (λ r. r.1) xs k) ∙ ap (λ (ls : List ℕ). slice_get ls k) (first.lengths ∙ sym second.lengths)
      ∙ slice_get-map (λ r. r.1) ys k

pub fits_no_later : (t : Target) (xs : List (ℕ × ℕ)) (m : ℕ) (ys : List (ℕ × ℕ)) (n : ℕ) → HaveRoom t xs m → HaveRoom t ys n → xs ≡ ys
    → n ≤ m
fits_no_later t xs m ys n first second same = second.whole m (subst (LieWithin m) same first.within)

next_same : (t : Target) (xs : List (ℕ × ℕ)) (m : ℕ) (ys : List (ℕ × ℕ)) (n : ℕ) → HaveRoom t xs m → HaveRoom t ys n → (k : ℕ)
    → ((l : ℕ) → l < k → slice_get xs l ≡ slice_get ys l) → slice_get xs k ≡ slice_get ys k
next_same t xs m ys n first second k before = by (slice_get xs k) (slice_get ys k) refl refl (lengths_at t xs m ys n first second k)
  where
    by : (o p : Option (ℕ × ℕ)) → slice_get xs k ≡ o → slice_get ys k ≡ p → option_map (λ r. r.1) o ≡ option_map (λ r. r.1) p
        → slice_get xs k ≡ slice_get ys k
    by None None here there len = here ∙ sym there
    by None (Some b) here there len = absurd (cc)
    by (Some a) None here there len = absurd (cc)
    by (Some a) (Some b) here there len =
        let same = same_Some a.1 b.1 len in
        let up = no_later t xs m ys n first second k before a b here there same in
        let down = no_later t ys n xs m second first k (λ l less. sym (before l less)) b a there here (sym same) in
        let start : a.0 ≡ b.0 = omega arith in
        here ∙ (λ i. Some (start i, same i)) ∙ sym there

all_same : (t : Target) (xs : List (ℕ × ℕ)) (m : ℕ) (ys : List (ℕ × ℕ)) (n : ℕ) → HaveRoom t xs m → HaveRoom t ys n → (k l : ℕ)
    → l < k → slice_get xs l ≡ slice_get ys l
all_same t xs m ys n first second zero l less = absurd (omega arith)
all_same t xs m ys n first second (suc k) l less =
    let before = all_same t xs m ys n first second k in
    elim (cases_eq l k) [
      | inl e ↦ subst (λ (j : ℕ). slice_get xs j ≡ slice_get ys j) (sym e) (next_same t xs m ys n first second k before)
      | inr other ↦ before l (omega arith)
    ]

pub one_list : (t : Target) (xs : List (ℕ × ℕ)) (m : ℕ) (ys : List (ℕ × ℕ)) (n : ℕ) → HaveRoom t xs m → HaveRoom t ys n
    → (xs ≡ ys) × (m ≡ n)
one_list t xs m ys n first second =
    let same : xs ≡ ys = same_at xs ys (λ k. all_same t xs m ys n first second (suc k) k (omega arith)) in
    let up = fits_no_later t xs m ys n first second same in
    let down = fits_no_later t ys n xs m second first (sym same) in
    (same, omega arith)

-- what a step reads lies apart from each range that is written before
pub not_written_over : (t : Target) (ranges : List (ℕ × ℕ)) (size k l m : ℕ) (a b : ℕ × ℕ) → HaveRoom t ranges size → k < l → l ≤ m
    → IsReadAt t.job (steps t) k m → slice_get ranges k ≡ Some a → slice_get ranges l ≡ Some b → LieApart a b
not_written_over t ranges size k l m a b room less most read first second =
    room.apart k l a b less first second (lives_last t.job (steps t) k l m less most read)
