-- Numbers that may exceed 64 bits.
use Rattle.std.specs.Prelude.{ℕ, ◌≤◌, ◌^◌, Option, IfSome, IfNone}

-- the least number that is enough, or none if no number of 64 bits is
pub record IsLeast (enough : ℕ → Type 0) (found : Option ℕ) : Type 0 where
  pub some : IfSome found enough
  pub least : IfSome found (λ n. (m : ℕ) → enough m → n ≤ m)
  pub none : IfNone found ((m : ℕ) → enough m → 2 ^ 64 ≤ m)
