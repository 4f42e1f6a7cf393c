-- Numbers and their bytes: each is got back from the other.
use Rattle.std.proofs.Common.{rules, ◌≡◌, ℕ, ℤ, pos, negsuc, zero, suc, ◌+◌, ◌-◌, ◌*◌, ◌^◌, ◌<◌, ◌≤◌, List, [], ◌∷◌, ◌++◌, length}
use Rattle.std.proofs.Common.{take, drop, refl, sym, ap, ◌∙◌, arith, inl, inr, FitsSigned}
use Rattle.std.proofs.lemmas.Bool.{cases_lt}
use Rattle.std.proofs.lemmas.Int.{to_z-of_z, of_z-to_z, ints}
use Rattle.std.proofs.lemmas.List.{take_at, drop_at, take-append-drop}
use Rattle.std.proofs.lemmas.List.{length-append, length-take, length-drop, get_or-drop, get_or-take, get_or_past}
use Rattle.std.proofs.lemmas.List.Concat.{flat_map-cons}
use Rattle.std.proofs.lemmas.Nat.{be_bytes_2, be_bytes_4, be_bytes_8, from_be_bytes-to_be_bytes_2, from_be_bytes-to_be_bytes_4}
use Rattle.std.proofs.lemmas.Nat.{from_be_bytes-to_be_bytes_8}
use Rattle.std.specs.Int.{Width, w16, w32, w64, byte_len, from_be_bytes, to_be_bytes, cast_signed, cast_unsigned}
use Rattle.std.specs.List.{flat_map, AllByRecursion}
use Rattle.tile_fact.specs.FactFile.{AreBytes, number_bytes}
use Rattle.tile_fact.specs.Numbers.{number_in, first_numbers}

pub AreBytes-drop : (n : ℕ) (bytes : List ℕ) → AreBytes bytes → AreBytes (drop n bytes)
AreBytes-drop n bytes h i = rw get_or-drop (h (n + i))

pub AreBytes-take : (n : ℕ) (bytes : List ℕ) → AreBytes bytes → AreBytes (take n bytes)
AreBytes-take n bytes h i =
    elim (cases_lt i n) [
      | inl lt ↦ rw (get_or-take n bytes i 0 lt) (h i)
      | inr le ↦ rw (get_or_past (take n bytes) i 0 (omega (arith, length-take n bytes))) (omega arith)
    ]

pub record IsWide (w : Width) (limit : ℕ) : Type 0 where
  pub len : (n : ℕ) → length (to_be_bytes w n) ≡ byte_len w
  pub back : (bytes : List ℕ) → length bytes ≡ byte_len w → AreBytes bytes → to_be_bytes w (from_be_bytes w bytes) ≡ bytes
  pub again : (n : ℕ) → n < limit → from_be_bytes w (to_be_bytes w n) ≡ n
  pub below : (bytes : List ℕ) → AreBytes bytes → from_be_bytes w bytes < limit

pub wide16 : IsWide w16 (2 ^ 16)
wide16 = record {
  len = λ n. refl;
  back = λ bytes len fits. be_bytes_2 bytes _ len fits refl;
  again = λ n lt. from_be_bytes-to_be_bytes_2 n lt;
  below = λ bytes fits. omega (arith, fits 0, fits 1);
}

pub wide32 : IsWide w32 (2 ^ 32)
wide32 = record {
  len = λ n. refl;
  back = λ bytes len fits. be_bytes_4 bytes _ len fits refl;
  again = λ n lt. from_be_bytes-to_be_bytes_4 n lt;
  below = λ bytes fits. omega (arith, fits 0, fits 1, fits 2, fits 3);
}

pub wide64 : IsWide w64 (2 ^ 64)
wide64 = record {
  len = λ n. refl;
  back = λ bytes len fits. be_bytes_8 bytes _ len fits refl;
  again = λ n lt. from_be_bytes-to_be_bytes_8 n lt;
  below = λ bytes fits. omega (arith, fits 0, fits 1, fits 2, fits 3, fits 4, fits 5, fits 6, fits 7);
}

-- ---- numbers with a sign

pub record IsSigned (w : Width) (limit : ℕ) : Type 0 where
  pub wide : IsWide w limit
  pub bits_back : (n : ℕ) → n < limit → cast_unsigned w (cast_signed w n) ≡ n
  pub fits : (n : ℕ) → n < limit → FitsSigned w (cast_signed w n)
  pub bits_below : (z : ℤ) → FitsSigned w z → cast_unsigned w z < limit

suc_mul : (n k : ℕ) → suc n * k ≡ k + n * k
suc_mul n k = grind arith

fits_32 : (n : ℕ) → n < 2 ^ 32 → FitsSigned w32 (cast_signed w32 n)
fits_32 n lt = search (rules, arith, ints)

fits_64 : (n : ℕ) → n < 2 ^ 64 → FitsSigned w64 (cast_signed w64 n)
fits_64 n lt = search (rules, arith, ints)

below_32 : (z : ℤ) → FitsSigned w32 z → cast_unsigned w32 z < 2 ^ 32
below_32 (pos n) f = let h : n < 2 ^ 31 = f.sfits in omega arith
below_32 (negsuc n) f = let h : n < 2 ^ 31 = f.sfits in omega arith

below_64 : (z : ℤ) → FitsSigned w64 z → cast_unsigned w64 z < 2 ^ 64
below_64 (pos n) f = let h : n < 2 ^ 63 = f.sfits in omega arith
below_64 (negsuc n) f = let h : n < 2 ^ 63 = f.sfits in omega arith

pub signed32 : IsSigned w32 (2 ^ 32)
signed32 = record {
  wide = wide32;
  bits_back = λ n lt. of_z-to_z w32 n lt;
  fits = λ n lt. fits_32 n lt;
  bits_below = λ z f. below_32 z f;
}

pub signed64 : IsSigned w64 (2 ^ 64)
signed64 = record {
  wide = wide64;
  bits_back = λ n lt. of_z-to_z w64 n lt;
  fits = λ n lt. fits_64 n lt;
  bits_below = λ z f. below_64 z f;
}

number_back : (w : Width) (limit : ℕ) → IsSigned w limit → (bytes : List ℕ) → byte_len w ≤ length bytes → AreBytes bytes
    → number_bytes w (number_in w bytes) ≡ take (byte_len w) bytes
number_back w limit s bytes long fits =
    let front = AreBytes-take (byte_len w) bytes fits in
    let below = s.wide.below (take (byte_len w) bytes) front in
    ap (to_be_bytes w) (s.bits_back (from_be_bytes w (take (byte_len w) bytes)) below)
    ∙ s.wide.back (take (byte_len w) bytes) (omega (arith, length-take (byte_len w) bytes)) front

pub numbers_back : (w : Width) (limit : ℕ) → IsSigned w limit → (n : ℕ) (bytes : List ℕ) → length bytes ≡ n * byte_len w → AreBytes bytes
    → (flat_map (number_bytes w) (first_numbers w n bytes) ≡ bytes) × AllByRecursion (FitsSigned w) (first_numbers w n bytes)
unfolding first_numbers
numbers_back w limit s zero bytes is fits = (sym (nil_of bytes (omega arith)), tt)
  where
    nil_of : (xs : List ℕ) → length xs ≡ 0 → xs ≡ []
    nil_of [] e = refl
    nil_of (x ∷ xs) e = absurd (omega arith)
numbers_back w limit s (suc n) bytes is fits =
    let long : byte_len w ≤ length bytes = longer n (byte_len w) (length bytes) is in
    let rest : length (drop (byte_len w) bytes) ≡ n * byte_len w =
    length-drop (byte_len w) bytes ∙ shorter n (byte_len w) (length bytes) is in
    let others = numbers_back w limit s n (drop (byte_len w) bytes) rest (AreBytes-drop (byte_len w) bytes fits) in
    let front = number_back w limit s bytes long fits in
    let below = s.wide.below (take (byte_len w) bytes) (AreBytes-take (byte_len w) bytes fits) in
    (rw (flat_map-cons, front, others.0) (take-append-drop (byte_len w) bytes), (s.fits _ below, others.1))
  where
    longer : (n k l : ℕ) → l ≡ suc n * k → k ≤ l
    longer n k l e = omega (arith, suc_mul n k)

    shorter : (n k l : ℕ) → l ≡ suc n * k → l - k ≡ n * k
    shorter n k l e = omega (arith, suc_mul n k)

pub numbers_again : (w : Width) (limit : ℕ) → IsSigned w limit → (numbers : List ℤ) → AllByRecursion (FitsSigned w) numbers
    → (first_numbers w (length numbers) (flat_map (number_bytes w) numbers) ≡ numbers)
    × (length (flat_map (number_bytes w) numbers) ≡ length numbers * byte_len w)
unfolding first_numbers
numbers_again w limit s [] fits = (refl, omega arith)
numbers_again w limit s (z ∷ zs) fits =
    let others = numbers_again w limit s zs fits.1 in
    let front = number_bytes w z in
    let behind = flat_map (number_bytes w) zs in
    let len : length front ≡ byte_len w = s.wide.len (cast_unsigned w z) in
    let all : flat_map (number_bytes w) (z ∷ zs) ≡ front ++ behind = flat_map-cons (number_bytes w) z zs in
    let taken : take (byte_len w) (front ++ behind) ≡ front = take_at front behind (byte_len w) len in
    let left : drop (byte_len w) (front ++ behind) ≡ behind = drop_at front behind (byte_len w) len in
    let bits : from_be_bytes w front ≡ cast_unsigned w z = s.wide.again (cast_unsigned w z) (s.bits_below z fits.0) in
    let first : number_in w (front ++ behind) ≡ z = rw (taken, bits) (to_z-of_z w z fits.0) in (
      ap (first_numbers w (suc (length zs))) all ∙ rw (first, left, others.0) refl,
      ap length all ∙ length-append front behind ∙ omega (arith, len, others.1, suc_mul (length zs) (byte_len w)),
    )
