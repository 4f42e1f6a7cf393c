-- The parts of a span: each of its numbers lies in exactly one.
use Rattle.std.proofs.Common.{ℕ, ℤ, pos, suc, ◌≡◌, ◌+◌, ◌*◌, ◌/◌, ◌<◌, ◌≤◌, ◌+ℤ◌, ◌≤ℤ◌, inl, inr, sym, ◌∙◌, subst, arith}
use Rattle.std.specs.Int.{int_gap, div_ceil}
use Rattle.std.proofs.Math.Nat.{mod-lt, mul-le-mul_left, mul-le-mul_right, suc-mul, lt_of_mul-lt-mul_right, lt_of_lt_of_le, div-eq_of_lt-le}
use Rattle.std.proofs.lemmas.Nat.{div-add-mod'}
use Rattle.std.proofs.lemmas.Bool.{cases_lt}
use Rattle.std.proofs.lemmas.Grind.{div_ceil_times}
use Rattle.std.proofs.lemmas.Int.{ints, clamps}
use Rattle.domains.proofs.Lengths.{gap_is, len_is}
use Rattle.domains.specs.Span.{Ends, Holds, IsSpan, len_of}
use Rattle.domains.specs.Tiles.{part_of, part_count, part_at, IsPlace}

-- part i begins below the end exactly where there are more than i parts
pub starts_below : (n side i : ℕ) → 1 ≤ side → i < div_ceil n side → i * side < n
starts_below n side i p h =
    let some : 0 < side = omega arith in
    let more : suc i ≤ div_ceil n side = omega arith in
    omega (arith, (div_ceil_times n side some).1, suc-mul i side, mul-le-mul_right side more)

pub starts_in : (n side i : ℕ) → 1 ≤ side → i * side < n → i < div_ceil n side
starts_in n side i p h =
    let some : 0 < side = omega arith in
    lt_of_mul-lt-mul_right side (lt_of_lt_of_le h (div_ceil_times n side some).0)

pub len_small : (s : Ends) → IsSpan s → len_of s ≤ 2097153
len_small s h = omega (arith, ints, len_is s h)

-- there are no more parts than numbers
pub parts_few : (n side : ℕ) → 1 ≤ side → div_ceil n side ≤ n
parts_few n side p =
    elim (cases_lt n (div_ceil n side)) [ inr h ↦ h | inl h ↦ absurd (omega (arith, starts_below n side n p h, mul-le-mul_left n p)) ]

-- a part begins within its span
pub starts_within : (s : Ends) (side i : ℕ) → IsSpan s → 1 ≤ side → i < part_count s side → (s.lo +ℤ pos (i * side)) ≤ℤ s.hi
starts_within s side i h p k =
    let low = starts_below (len_of s) side i p k in
    omega (arith, ints, len_is s h)

pub part_fits : (s : Ends) (side i : ℕ) → IsSpan s → 1 ≤ side → i < part_count s side → IsSpan (part_of s side i)
part_fits s side i h p k =
    let low = starts_within s side i h p k in
    let next : (i + 1) * side ≡ i * side + side = omega arith in
    record { least = omega (arith, ints, clamps); ordered = omega (arith, ints, clamps); most = omega (arith, ints, clamps) }

-- the numbers of a part are those of the span at so many places from its first on
pub part_inside : (s : Ends) (side i : ℕ) (v : ℤ) → Holds (part_of s side i) v → Holds s v
part_inside s side i v h = let low = h.0 in let high = h.1 in (omega (arith, ints, clamps), omega (arith, ints, clamps))

place_at : (o side k : ℕ) → 1 ≤ side → k * side ≤ o → o < (k + 1) * side → o / side ≡ k
place_at o side k p low high = div-eq_of_lt-le side low high

pub place_only : (s : Ends) (side : ℕ) (v : ℤ) (k : ℕ) → 1 ≤ side → Holds (part_of s side k) v → k ≡ part_at s side v
place_only s side v k p h =
    let low = h.0 in let high = h.1 in
    let begins : s.lo ≤ℤ v = omega (arith, ints) in
    let o = gap_is s.lo v begins in
    sym (place_at (int_gap s.lo v) side k p (omega (arith, ints)) (omega (arith, ints, clamps)))

pub place_is : (s : Ends) (side : ℕ) (v : ℤ) → 1 ≤ side → IsSpan s → Holds s v → IsPlace s side v (part_at s side v)
place_is s side v p h k =
    let low = k.0 in let high = k.1 in
    let some : 0 < side = omega arith in
    let o = gap_is s.lo v low in
    let len = len_is s h in
    let split = div-add-mod' (int_gap s.lo v) side in
    let small = mod-lt (int_gap s.lo v) some in
    let next = suc-mul (int_gap s.lo v / side) side in
    record {
      there = starts_in (len_of s) side (part_at s side v) p (omega (arith, ints));
      holds = (omega (arith, ints), omega (arith, ints, clamps));
      only = λ i f. place_only s side v i p f;
    }

pub place_from : (s : Ends) (side : ℕ) (v : ℤ) (i : ℕ) → i ≡ part_at s side v → 1 ≤ side → IsSpan s → Holds s v
    → Holds s v × IsPlace s side v i
place_from s side v i e p h k = (k, subst (IsPlace s side v) (sym e) (place_is s side v p h k))

pub ends_from : (t u : Ends) (lo hi : ℤ) → t ≡ record { lo = lo; hi = hi } → lo ≡ u.lo → hi ≡ u.hi → t ≡ u
ends_from t u lo hi e f g = e ∙ (λ i. record { lo = f i; hi = g i })

pub place_few : (s : Ends) (side : ℕ) (v : ℤ) (i : ℕ) → 1 ≤ side → IsSpan s → IsPlace s side v i → i < 2097153
place_few s side v i p h k = omega (arith, parts_few (len_of s) side p, len_small s h, k.there)
