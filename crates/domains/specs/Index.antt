-- An index takes v to the greatest whole number that is at most (mul * v + add) / div.
use Rattle.std.specs.Prelude.{ℤ, pos, negsuc, ◌≡◌, ◌+ℤ◌, ◌*ℤ◌, ◌≤ℤ◌}
use Rattle.domains.specs.Arithmetic.{floor_div}
use Rattle.domains.specs.Span.{Ends, Holds}

-- how contracts see an index: by its three numbers
pub record Scale : Type 0 where
  pub mul : ℤ
  pub add : ℤ
  pub div : ℤ

-- what holds of each Index of the program
pub record IsIndex (x : Scale) : Type 0 where
  pub mul_least : pos 1 ≤ℤ x.mul
  pub mul_most : x.mul ≤ℤ pos 16
  pub add_least : negsuc 4095 ≤ℤ x.add
  pub add_most : x.add ≤ℤ pos 4096
  pub div_least : pos 1 ≤ℤ x.div
  pub div_most : x.div ≤ℤ pos 16

-- the index at v
abbrev pub index_at : Scale → ℤ → ℤ
index_at x v = floor_div (x.mul *ℤ v +ℤ x.add) x.div

-- t goes from the least to the greatest index at the numbers of s
pub record IsImage (x : Scale) (s t : Ends) : Type 0 where
  pub within : (v : ℤ) → Holds s v → Holds t (index_at x v)
  pub least : (v : ℤ) × Holds s v × (index_at x v ≡ t.lo)
  pub greatest : (v : ℤ) × Holds s v × (index_at x v ≡ t.hi)

-- the image of a span, by its ends: an index never falls
abbrev pub image_of : Scale → Ends → Ends
image_of x s = record { lo = index_at x s.lo; hi = index_at x s.hi }
