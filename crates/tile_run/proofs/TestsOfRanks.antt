-- Tests of the ranks of stages.
use Rattle.std.proofs.Common.{true, false, eqb, ℕ, ◌≡◌, ◌⊎◌, inl, inr, List, Option, Some, None, slice_get, sym, ap, ◌∙◌}
use Rattle.std.specs.Option.{option_eq, option_map, option_map_or}
use Rattle.std.proofs.lemmas.Bool.{eqb-true}
use Rattle.std.proofs.lemmas.Bool.Decides.{eqb_tells}
use Rattle.job.specs.Pipeline.{Stage, rank_of}

pub rank_there : (stages : List Stage) (g rank : ℕ) → option_eq eqb (option_map (λ s. s.rank) (slice_get stages g)) (Some rank) ≡ true
    → rank_of stages g ≡ rank
rank_there stages g rank = by_stage (slice_get stages g)
  where
    by_stage : (o : Option Stage) → option_eq eqb (option_map (λ s. s.rank) o) (Some rank) ≡ true → option_map_or (λ s. s.rank) o 0 ≡ rank
    by_stage None e = cc
    by_stage (Some s) e = eqb-true s.rank rank e

pub rank_elsewhere : (stages : List Stage) (g rank : ℕ) → option_eq eqb (option_map (λ s. s.rank) (slice_get stages g)) (Some rank) ≡ false
    → (s : Stage) → slice_get stages g ≡ Some s → s.rank ≡ rank → ⊥
rank_elsewhere stages g rank e s there is =
    let passed : eqb s.rank rank ≡ false =
    sym (ap (λ (o : Option Stage). option_eq eqb (option_map (λ t. t.rank) o) (Some rank)) there) ∙ e in
    by_test (eqb_tells s.rank rank) passed
  where
    by_test : ((eqb s.rank rank ≡ true) × (s.rank ≡ rank)) ⊎ ((eqb s.rank rank ≡ false) × (s.rank ≡ rank → ⊥)) → eqb s.rank rank ≡ false → ⊥
    by_test (inl p) f = cc
    by_test (inr p) f = p.1 is
