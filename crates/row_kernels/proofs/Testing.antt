-- Tests one after another.
use Rattle.std.proofs.Common.{arith, ℕ, ℤ, zero, suc, map, ◌≡◌, ◌<◌, List, [], ◌∷◌, length, drop, sym, ap}
use Rattle.std.specs.Prelude.{◌&&◌, slice_index_or}
use Rattle.operators.specs.Tests.{Test}
use Rattle.operators.specs.Values.{is_passed, all_passed}

-- the tests from one on: that one, and those after it
pub passed_step : {X : Type 0} (f : X → Test) (xs : List X) (i : ℕ) (x : X) (r c : ℤ) → i < length xs → x ≡ slice_index_or xs i x
    → all_passed (map f (drop i xs)) r c ≡ (is_passed (f x) r c && all_passed (map f (drop (suc i) xs)) r c)
passed_step f [] i x r c l e = absurd (omega arith)
passed_step f (y ∷ ys) zero x r c l e = ap (λ z. is_passed (f z) r c && all_passed (map f ys) r c) (sym e)
passed_step f (y ∷ ys) (suc i) x r c l e = passed_step f ys i x r c (omega arith) e
