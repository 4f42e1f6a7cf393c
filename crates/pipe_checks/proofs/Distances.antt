-- The distances of the stages from a goal, level by level.
use Rattle.std.proofs.Common.{ℕ, zero, suc, ◌+◌, ◌<◌, ◌≤◌, ◌≡◌, ◌≢◌, ◌⊎◌, inl, inr, true, false, cond, eqb, List, [], ◌∷◌, Option}
use Rattle.std.proofs.Common.{Some, None, is_none, length, get_or, slice_get, sym, ◌∙◌, ap, refl, subst, arith}
use Rattle.std.proofs.lemmas.Bool.{cases_lt, eq-eqb}
use Rattle.std.proofs.lemmas.Bool.Decides.{eqb_tells}
use Rattle.std.proofs.lemmas.Option.{slice_get_within, slice_get-get_or, same_Some, none-some}
use Rattle.std.proofs.lemmas.List.{get_or_past}
use Rattle.std.proofs.lemmas.List.Sums.{sum_by-cons}
use Rattle.std.specs.Prelude.{Contains}
use Rattle.pipe_checks.specs.StageLinks.{StageLinks}
use Rattle.pipe_checks.proofs.Unknown.{unknowns-le}
use Rattle.pipe_checks.specs.Graph.{links_at, Reads, Way}
use Rattle.pipe_checks.specs.inside.Search.{unknowns, SomeAt, LeadsOn, IsStepAt, IsStepFrom, AreDistances}

-- the distances up to k are known, and no others
pub record KnownUpTo (g : List StageLinks) (goal k : ℕ) (far : List (Option ℕ)) : Type 0 where
  pub each : length far ≡ length g
  pub way : (t d : ℕ) → slice_get far t ≡ Some (Some d) → Way g d t goal
  pub most : (t d : ℕ) → slice_get far t ≡ Some (Some d) → d ≤ k
  pub least : (t m : ℕ) → m ≤ k → Way g m t goal → (d : ℕ) × (slice_get far t ≡ Some (Some d)) × (d ≤ m)

-- a stage that reads another has a number
pub reads_within : (g : List StageLinks) (s t : ℕ) → Reads g s t → s < length g
reads_within g s t r = by_place (cases_lt s (length g))
  where
    by_place : (s < length g) ⊎ (length g ≤ s) → s < length g
    by_place (inl h) = h
    by_place (inr h) =
        let none : length (links_at g s).reads ≡ 0 = ap (λ (l : StageLinks). length l.reads) (get_or_past g s _ h) in
        omega (arith, r.1)

-- a stage is known, or not yet
cases_known : (far : List (Option ℕ)) (t : ℕ) → t < length far
    → ((d : ℕ) × (slice_get far t ≡ Some (Some d))) ⊎ (slice_get far t ≡ Some None)
cases_known far t h = by_value (get_or far t None) (slice_get-get_or far t None h)
  where
    by_value : (o : Option ℕ) → slice_get far t ≡ Some o → ((d : ℕ) × (slice_get far t ≡ Some (Some d))) ⊎ (slice_get far t ≡ Some None)
    by_value None e = inr e
    by_value (Some d) e = inl (d, e)

-- some read at a distance, from one that is
pub some_at : (far : List (Option ℕ)) (reads : List ℕ) (t k : ℕ) → Contains reads t → slice_get far t ≡ Some (Some k) → SomeAt far reads k
some_at far reads t k c e = (c.0, t, c.1, c.2, e)

-- where nothing leads on, all is known
pub all_known : (g : List StageLinks) (goal k : ℕ) (far : List (Option ℕ)) → k < length g → KnownUpTo g goal k far → (LeadsOn g far k → ⊥)
    → AreDistances g goal far
all_known g goal k far h known stops =
    record { each = known.each; way = known.way; low = λ t d e. omega (arith, known.most t d e); least = least }
  where
    lesser : (t m e : ℕ) → e ≤ m → (d : ℕ) × (slice_get far t ≡ Some (Some d)) × (d ≤ e)
        → (d : ℕ) × (slice_get far t ≡ Some (Some d)) × (d ≤ m)
    lesser t m e l f = (f.0, f.1, omega (arith, f.2))

    reached : (t m u e : ℕ) → Reads g t u → slice_get far u ≡ Some (Some e) → e ≤ m
        → (d : ℕ) × (slice_get far t ≡ Some (Some d)) × (d ≤ suc m)
    reached t m u e r at l = by_distance (cases_lt e k)
      where
        far_one : e ≡ k → ((d : ℕ) × (slice_get far t ≡ Some (Some d))) ⊎ (slice_get far t ≡ Some None)
            → (d : ℕ) × (slice_get far t ≡ Some (Some d)) × (d ≤ suc m)
        far_one same (inl f) = (f.0, f.1, omega (arith, known.most t f.0 f.1))
        far_one same (inr none) =
            absurd (stops (t, none, some_at far (links_at g t).reads u k r (subst (λ n. slice_get far u ≡ Some (Some n)) same at)))

        by_distance : (e < k) ⊎ (k ≤ e) → (d : ℕ) × (slice_get far t ≡ Some (Some d)) × (d ≤ suc m)
        by_distance (inl less) = lesser t (suc m) (suc e) (omega arith) (known.least t (suc e) (omega arith) (u, r, known.way u e at))
        by_distance (inr more) =
            far_one (omega (arith, known.most u e at)) (cases_known far t (omega (arith, known.each, reads_within g t u r)))

    least : (t m : ℕ) → Way g m t goal → (d : ℕ) × (slice_get far t ≡ Some (Some d)) × (d ≤ m)
    least t zero w = known.least t zero (omega arith) w
    least t (suc m) w = let f = least w.0 m w.2 in reached t m w.0 f.0 w.1 f.1 f.2

-- what is known stays
keeps : (g : List StageLinks) (k : ℕ) (far next : List (Option ℕ)) → IsStepFrom g far k next → (t d : ℕ) → slice_get far t ≡ Some (Some d)
    → slice_get next t ≡ Some (Some d)
keeps g k far next step t d at = by_step (get_or next t None) there (step.step t (get_or next t None) there)
  where
    there : slice_get next t ≡ Some (get_or next t None)
    there = slice_get-get_or next t None (omega (arith, step.each, slice_get_within far t (Some d) at))

    by_step : (o : Option ℕ) → slice_get next t ≡ Some o → IsStepAt g far k t o → slice_get next t ≡ Some (Some d)
    by_step o e (inl w) = e ∙ ap Some (w.2 ∙ same_Some _ _ (sym w.1 ∙ at))
    by_step o e (inr (inl w)) = absurd (none-some d (same_Some _ _ (sym w.0 ∙ at)))
    by_step o e (inr (inr w)) = absurd (none-some d (same_Some _ _ (sym w.0 ∙ at)))

-- where a stage reads one at the distance k, its own is known
finds : (g : List StageLinks) (k : ℕ) (far next : List (Option ℕ)) → IsStepFrom g far k next → (t : ℕ) → t < length far
    → SomeAt far (links_at g t).reads k → (d : ℕ) × (slice_get next t ≡ Some (Some d)) × (((slice_get far t ≡ Some (Some d))) ⊎ (d ≡ k + 1))
finds g k far next step t h reads = by_step (get_or next t None) there (step.step t (get_or next t None) there)
  where
    there : slice_get next t ≡ Some (get_or next t None)
    there = slice_get-get_or next t None (omega (arith, step.each))

    by_step : (o : Option ℕ) → slice_get next t ≡ Some o → IsStepAt g far k t o
        → (d : ℕ) × (slice_get next t ≡ Some (Some d)) × (((slice_get far t ≡ Some (Some d))) ⊎ (d ≡ k + 1))
    by_step o e (inl w) = (w.0, e ∙ ap Some w.2, inl w.1)
    by_step o e (inr (inl w)) = (k + 1, e ∙ ap Some w.2, inr refl)
    by_step o e (inr (inr w)) = absurd (w.1 reads)

-- one level more
pub one_level : (g : List StageLinks) (goal k : ℕ) (far next : List (Option ℕ)) → KnownUpTo g goal k far → IsStepFrom g far k next
    → KnownUpTo g goal (k + 1) next
one_level g goal k far next known step = record { each = step.each ∙ known.each; way = way; most = most; least = least }
  where
    way : (t d : ℕ) → slice_get next t ≡ Some (Some d) → Way g d t goal
    way t d e = by_step (step.step t (Some d) e)
      where
        by_step : IsStepAt g far k t (Some d) → Way g d t goal
        by_step (inl w) = subst (λ n. Way g n t goal) (sym (same_Some _ _ w.2)) (known.way t w.0 w.1)
        by_step (inr (inl w)) =
            let one : suc k ≡ d = omega (arith, same_Some d (k + 1) w.2) in
            subst (λ n. Way g n t goal) one (w.1.1, (w.1.0, w.1.2, w.1.3), known.way w.1.1 k w.1.4)
        by_step (inr (inr w)) = absurd (none-some d (sym w.2))

    most : (t d : ℕ) → slice_get next t ≡ Some (Some d) → d ≤ k + 1
    most t d e = by_step (step.step t (Some d) e)
      where
        by_step : IsStepAt g far k t (Some d) → d ≤ k + 1
        by_step (inl w) = omega (arith, known.most t w.0 w.1, same_Some d w.0 w.2)
        by_step (inr (inl w)) = omega (arith, same_Some d (k + 1) w.2)
        by_step (inr (inr w)) = absurd (none-some d (sym w.2))

    kept : (t m : ℕ) → (d : ℕ) × (slice_get far t ≡ Some (Some d)) × (d ≤ m) → (d : ℕ) × (slice_get next t ≡ Some (Some d)) × (d ≤ m)
    kept t m f = (f.0, keeps g k far next step t f.0 f.1, f.2)

    reached : (t u e : ℕ) → Reads g t u → slice_get far u ≡ Some (Some e) → e ≤ k
        → (d : ℕ) × (slice_get next t ≡ Some (Some d)) × (d ≤ suc k)
    reached t u e r at l = by_distance (cases_lt e k)
      where
        known_too : (d : ℕ) × (slice_get next t ≡ Some (Some d)) × (((slice_get far t ≡ Some (Some d))) ⊎ (d ≡ k + 1))
            → (d : ℕ) × (slice_get next t ≡ Some (Some d)) × (d ≤ suc k)
        known_too f = (f.0, f.1, at_most f.0 f.2)
          where
            at_most : (d : ℕ) → ((slice_get far t ≡ Some (Some d))) ⊎ (d ≡ k + 1) → d ≤ suc k
            at_most d (inl p) = omega (arith, known.most t d p)
            at_most d (inr p) = omega (arith, p)

        by_distance : (e < k) ⊎ (k ≤ e) → (d : ℕ) × (slice_get next t ≡ Some (Some d)) × (d ≤ suc k)
        by_distance (inl less) =
            let f = known.least t (suc e) (omega arith) (u, r, known.way u e at) in
            kept t (suc k) (f.0, f.1, omega (arith, f.2))
        by_distance (inr more) =
            let same : e ≡ k = omega arith in
            known_too (finds g k far next step t (omega (arith, known.each, reads_within g t u r))
            (some_at far (links_at g t).reads u k r (subst (λ n. slice_get far u ≡ Some (Some n)) same at)))

    far_one : (t : ℕ) → Way g (suc k) t goal → (d : ℕ) × (slice_get next t ≡ Some (Some d)) × (d ≤ suc k)
    far_one t w = let f = known.least w.0 k (omega arith) w.2 in reached t w.0 f.0 w.1 f.1 f.2

    least : (t m : ℕ) → m ≤ k + 1 → Way g m t goal → (d : ℕ) × (slice_get next t ≡ Some (Some d)) × (d ≤ m)
    least t m h w = by_length (cases_lt k m)
      where
        by_length : (k < m) ⊎ (m ≤ k) → (d : ℕ) × (slice_get next t ≡ Some (Some d)) × (d ≤ m)
        by_length (inl more) =
            let same : m ≡ suc k = omega arith in
            let f = far_one t (subst (λ n. Way g n t goal) same w) in
            (f.0, f.1, omega (arith, f.2))
        by_length (inr less) = kept t m (known.least t m less w)

-- ---- ever fewer are unknown

abbrev one_unknown : Option ℕ → ℕ
one_unknown o = cond (is_none o) 1 0

unknowns-cons : (x : Option ℕ) (xs : List (Option ℕ)) → unknowns (x ∷ xs) ≡ one_unknown x + unknowns xs
unknowns-cons x xs = sum_by-cons one_unknown x xs

one_falls : (x y : Option ℕ) → ((e : ℕ) → x ≡ Some e → y ≡ Some e) → one_unknown y ≤ one_unknown x
one_falls None None h = omega arith
one_falls None (Some e) h = omega arith
one_falls (Some e) None h = absurd (none-some e (h e refl))
one_falls (Some e) (Some f) h = omega arith

unknowns_fall : (xs ys : List (Option ℕ)) → length ys ≡ length xs
    → ((i e : ℕ) → slice_get xs i ≡ Some (Some e) → slice_get ys i ≡ Some (Some e)) → unknowns ys ≤ unknowns xs
unknowns_fall [] [] l h = omega arith
unknowns_fall [] (y ∷ ys) l h = absurd (omega arith)
unknowns_fall (x ∷ xs) [] l h = absurd (omega arith)
unknowns_fall (x ∷ xs) (y ∷ ys) l h =
    omega (
      arith,
      unknowns-cons x xs,
      unknowns-cons y ys,
      one_falls x y (λ e p. same_Some _ _ (h 0 e (ap Some p))),
      unknowns_fall xs ys (omega arith) (λ i e p. h (suc i) e p),
    )

unknowns_fall_at : (xs ys : List (Option ℕ)) (i d : ℕ) → length ys ≡ length xs
    → ((i e : ℕ) → slice_get xs i ≡ Some (Some e) → slice_get ys i ≡ Some (Some e)) → slice_get xs i ≡ Some None
    → slice_get ys i ≡ Some (Some d) → unknowns ys < unknowns xs
unknowns_fall_at [] ys i d l h none some = absurd (none-some None none)
unknowns_fall_at (x ∷ xs) [] i d l h none some = absurd (none-some (Some d) some)
unknowns_fall_at (x ∷ xs) (y ∷ ys) zero d l h none some =
    omega (
      arith,
      unknowns-cons x xs,
      unknowns-cons y ys,
      one_before none,
      one_after some,
      unknowns_fall xs ys (omega arith) (λ i e p. h (suc i) e p),
    )
  where
    one_before : Some x ≡ Some None → ◌≡◌ {A = ℕ} (one_unknown x) 1
    one_before e = ap one_unknown (same_Some x None e)

    one_after : Some y ≡ Some (Some d) → ◌≡◌ {A = ℕ} (one_unknown y) 0
    one_after e = ap one_unknown (same_Some y (Some d) e)
unknowns_fall_at (x ∷ xs) (y ∷ ys) (suc i) d l h none some =
    omega (
      arith,
      unknowns-cons x xs,
      unknowns-cons y ys,
      one_falls x y (λ e p. same_Some _ _ (h 0 e (ap Some p))),
      unknowns_fall_at xs ys i d (omega arith) (λ i e p. h (suc i) e p) none some,
    )

pub fewer_unknown : (g : List StageLinks) (k : ℕ) (far next : List (Option ℕ)) → IsStepFrom g far k next → LeadsOn g far k
    → unknowns next < unknowns far
fewer_unknown g k far next step more =
    let f = finds g k far next step more.0 (slice_get_within far more.0 None more.1) more.2 in
    unknowns_fall_at far next more.0 f.0 step.each (keeps g k far next step) more.1 f.1

-- the goal alone is known at first
pub known_at_first : (g : List StageLinks) (goal n : ℕ) (far : List (Option ℕ)) → n ≡ length g → goal < n → length far ≡ n
    → ((t : ℕ) → t < n → slice_get far t ≡ Some (cond (eqb t goal) (Some 0) None)) → KnownUpTo g goal 0 far
known_at_first g goal n far e h each only = record { each = each ∙ e; way = way; most = most; least = least }
  where
    is_goal : (t d : ℕ) → slice_get far t ≡ Some (Some d) → (t ≡ goal) × (d ≡ 0)
    is_goal t d p = by_test (eqb_tells t goal)
      where
        at : slice_get far t ≡ Some (cond (eqb t goal) (Some 0) None)
        at = only t (omega (arith, each, slice_get_within far t (Some d) p))

        by_test : ((eqb t goal ≡ true) × (t ≡ goal)) ⊎ ((eqb t goal ≡ false) × (t ≢ goal)) → (t ≡ goal) × (d ≡ 0)
        by_test (inl q) = (q.1, same_Some _ _ (same_Some _ _ (sym p ∙ at ∙ ap (λ b. Some (cond b (Some 0) None)) q.0)))
        by_test (inr q) = absurd (none-some d (sym (same_Some _ _ (sym p ∙ at ∙ ap (λ b. Some (cond b (Some 0) None)) q.0))))

    way : (t d : ℕ) → slice_get far t ≡ Some (Some d) → Way g d t goal
    way t d p = let f = is_goal t d p in subst (λ n. Way g n t goal) (sym f.1) f.0

    most : (t d : ℕ) → slice_get far t ≡ Some (Some d) → d ≤ 0
    most t d p = let f = is_goal t d p in omega (arith, f.1)

    at_goal : (t : ℕ) → t ≡ goal → slice_get far t ≡ Some (Some 0)
    at_goal t q = only t (omega (arith, q)) ∙ ap (λ b. Some (cond b (Some 0) None)) (eq-eqb t goal q)

    least : (t m : ℕ) → m ≤ 0 → Way g m t goal → (d : ℕ) × (slice_get far t ≡ Some (Some d)) × (d ≤ m)
    least t zero l w = (0, at_goal t w, omega arith)
    least t (suc m) l w = absurd (omega arith)

-- where one is known, fewer than all are unknown
unknowns_some : (xs : List (Option ℕ)) (i d : ℕ) → slice_get xs i ≡ Some (Some d) → unknowns xs + 1 ≤ length xs
unknowns_some [] i d e = absurd (none-some (Some d) e)
unknowns_some (x ∷ xs) zero d e = omega (arith, unknowns-cons x xs, unknowns-le xs, none_here e)
  where
    none_here : Some x ≡ Some (Some d) → ◌≡◌ {A = ℕ} (one_unknown x) 0
    none_here p = ap one_unknown (same_Some x (Some d) p)
unknowns_some (x ∷ xs) (suc i) d e =
    omega (arith, unknowns-cons x xs, unknowns_some xs i d e, one_falls None x (λ e p. absurd (none-some e p)))

pub room_at_first : (n goal : ℕ) (far : List (Option ℕ)) → goal < n → length far ≡ n
    → ((t : ℕ) → t < n → slice_get far t ≡ Some (cond (eqb t goal) (Some 0) None)) → unknowns far + 1 ≤ n
room_at_first n goal far h each only =
    let known : slice_get far goal ≡ Some (Some 0) = only goal h ∙ ap (λ b. Some (cond b (Some 0) None)) (eq-eqb goal goal refl) in
    omega (arith, each, unknowns_some far goal 0 known)
