-- The parts of a record.
use Rattle.std.proofs.Common.{◌≡◌, ℕ, zero, suc, ◌-◌, ◌*◌, ◌/◌, ◌^◌, ◌≤◌, ◌<◌, Bool, true, false, cond, ltb, List, [], ◌∷◌}
use Rattle.std.proofs.Common.{length, Result, Ok, Err, refl, sym, ap, subst, ◌∙◌, arith, length-append}
use Rattle.std.proofs.lemmas.Bool.{ltb-false}
use Rattle.std.specs.Int.{Width, w32, w64, from_be_bytes}
use Rattle.tile_fact.specs.declared.fault.FactFault.{FactFault}
use Rattle.tile_fact.specs.declared.fault.FactFault.TheVariants.{TooLong}
use Rattle.tile_fact.specs.declared.kind.FactBodyKind.{FactBodyKind}
use Rattle.tile_fact.specs.declared.kind.FactBodyKind.TheVariants.{OfTile, OfPartial}
use Rattle.tile_fact.specs.Bodies.{IsWithin}
use Rattle.tile_fact.specs.Numbers.{kind_byte, bytes_each, most, first_numbers, body_in}
use Rattle.tile_fact.specs.Reading.{part_read, count_read, kind_read, length_read}
use Rattle.tile_fact.proofs.PartLaws.{Part, bind_ok, part_takes}

pub count_takes : (total : ℕ) (bytes : List ℕ) (n : ℕ) (rest : List ℕ) → count_read total bytes ≡ Ok (n, rest)
    → (part : List ℕ) × Part bytes 4 part rest × (n ≡ from_be_bytes w32 part)
unfolding count_read
count_takes total bytes n rest e =
    let b = bind_ok (part_read total 4 bytes) (λ part. Ok (from_be_bytes w32 part.0, part.1)) (n, rest) e in
    let same : ◌≡◌ {A = ℕ × List ℕ} (from_be_bytes w32 b.0.0, b.0.1) (n, rest) = ok_same _ _ b.2 in
    let rest-is : b.0.1 ≡ rest = ap (λ (p : ℕ × List ℕ). p.1) same in (
      b.0.0,
      subst (λ (r : List ℕ). Part bytes 4 b.0.0 r) rest-is (part_takes total 4 bytes b.0.0 b.0.1 b.1),
      sym (ap (λ (p : ℕ × List ℕ). p.0) same),
    )
  where
    ok_same : (x y : ℕ × List ℕ) → (let r : Result (ℕ × List ℕ) FactFault = Ok x in r) ≡ Ok y → x ≡ y
    ok_same x y h = cc

pub kind_takes : (total : ℕ) (bytes : List ℕ) (kind : FactBodyKind) (rest : List ℕ) → kind_read total bytes ≡ Ok (kind, rest)
    → bytes ≡ kind_byte kind ∷ rest
unfolding kind_read
kind_takes total [] kind rest e = absurd cc
kind_takes total (zero ∷ bytes) kind rest e =
    let same : ◌≡◌ {A = FactBodyKind × List ℕ} (OfTile, bytes) (kind, rest) = cc in ap (λ (p : FactBodyKind × List ℕ). kind_byte p.0 ∷ p.1) same
kind_takes total (suc zero ∷ bytes) kind rest e =
    let same : ◌≡◌ {A = FactBodyKind × List ℕ} (OfPartial, bytes) (kind, rest) = cc in ap (λ (p : FactBodyKind × List ℕ). kind_byte p.0 ∷ p.1) same
kind_takes total (suc (suc byte) ∷ bytes) kind rest e = absurd cc

guard_len : (b : Bool) (d : FactFault) (x y : ℕ × List ℕ) → cond b (Err d) (Ok x) ≡ Ok y → (b ≡ false) × (x ≡ y)
guard_len true d x y e = absurd cc
guard_len false d x y e = (refl, cc)

pub length_takes : (total : ℕ) (kind : FactBodyKind) (bytes : List ℕ) (n : ℕ) (rest : List ℕ) → length_read total kind bytes ≡ Ok (n, rest)
    → (count_read total bytes ≡ Ok (n, rest)) × (n ≤ most kind)
unfolding length_read
length_takes total kind bytes n rest e =
    let b =
    bind_ok (count_read total bytes) (λ len. cond (ltb (most kind) len.0) (Err (TooLong (total - length bytes))) (Ok len)) (n, rest)
    e in
    let g = guard_len (ltb (most kind) b.0.0) (TooLong (total - length bytes)) b.0 (n, rest) b.2 in
    let fits : b.0.0 ≤ most kind = ltb-false _ _ g.0 in
    (b.1 ∙ ap (λ (x : ℕ × List ℕ). Ok x) g.1, subst (λ (x : ℕ × List ℕ). x.0 ≤ most kind) g.1 fits)

pub count_of_numbers : (w : Width) (n : ℕ) (bytes : List ℕ) → length (first_numbers w n bytes) ≡ n
unfolding first_numbers
count_of_numbers w zero bytes = refl
count_of_numbers w (suc n) bytes = ap suc (count_of_numbers w n _)

pub body_within : (kind : FactBodyKind) (bytes : List ℕ) (len : ℕ) → length bytes ≡ len * bytes_each kind → len ≤ most kind
    → IsWithin (body_in kind bytes)
body_within OfTile bytes len is fits = omega (arith, count_of_numbers w32 (length bytes / 4) bytes)
body_within OfPartial bytes len is fits = omega (arith, count_of_numbers w64 (length bytes / 8) bytes)

pub most_bytes : (kind : FactBodyKind) (len : ℕ) → len ≤ most kind → len * bytes_each kind < 2 ^ 64
most_bytes OfTile len fits = omega arith
most_bytes OfPartial len fits = omega arith

pub part_shorter : (bytes : List ℕ) (len : ℕ) (part rest : List ℕ) → Part bytes len part rest → length rest ≤ length bytes
part_shorter bytes len part rest p = omega (arith, ap length p.whole, length-append part rest)

pub kind_shorter : (total : ℕ) (bytes : List ℕ) (kind : FactBodyKind) (rest : List ℕ) → kind_read total bytes ≡ Ok (kind, rest)
    → length rest ≤ length bytes
kind_shorter total bytes kind rest e = omega (arith, ap length (kind_takes total bytes kind rest e))

pub length_shorter : (total : ℕ) (kind : FactBodyKind) (bytes : List ℕ) (n : ℕ) (rest : List ℕ) → length_read total kind bytes ≡ Ok (n, rest)
    → length rest ≤ length bytes
length_shorter total kind bytes n rest e =
    let c = count_takes total bytes n rest (length_takes total kind bytes n rest e).0 in part_shorter bytes 4 c.0 rest c.1
