-- Bodies and their bytes: each is got back from the other.
use Rattle.std.proofs.Common.{◌≡◌, ℕ, ◌*◌, ◌/◌, ◌^◌, ◌≤◌, List, ◌∷◌, ◌++◌, length, refl, ap, ◌∙◌, arith}
use Rattle.std.specs.Int.{w32, w64, to_be_bytes}
use Rattle.std.specs.List.{flat_map}
use Rattle.tile_fact.specs.declared.body.Body.{Body}
use Rattle.tile_fact.specs.declared.body.Body.TheVariants.{Tile, Partial}
use Rattle.tile_fact.specs.declared.kind.FactBodyKind.{FactBodyKind}
use Rattle.tile_fact.specs.declared.kind.FactBodyKind.TheVariants.{OfTile, OfPartial}
use Rattle.tile_fact.specs.Bodies.{IsWithin, numbers}
use Rattle.tile_fact.specs.FactFile.{AreBytes, number_bytes, body_bytes, HasFittingNumbers}
use Rattle.tile_fact.specs.Numbers.{kind_byte, bytes_each, most, first_numbers, body_in}
use Rattle.tile_fact.proofs.BytesLaws.{signed32, signed64, numbers_back, numbers_again}
use Rattle.tile_fact.proofs.RecordLaws.{count_of_numbers}

pub kind_of : Body → FactBodyKind
kind_of (Tile samples) = OfTile
kind_of (Partial bins) = OfPartial

-- the bytes of the numbers
pub data_of : Body → List ℕ
data_of (Tile samples) = flat_map (number_bytes w32) samples
data_of (Partial bins) = flat_map (number_bytes w64) bins

pub body_parts : (body : Body) → body_bytes body ≡ kind_byte (kind_of body) ∷ (to_be_bytes w32 (length (numbers body)) ++ data_of body)
unfolding kind_of data_of
body_parts (Tile samples) = refl
body_parts (Partial bins) = refl

pub body_most : (body : Body) → IsWithin body → length (numbers body) ≤ most (kind_of body)
unfolding kind_of
body_most (Tile samples) h = h
body_most (Partial bins) h = h

pub body_data : (body : Body) → HasFittingNumbers body → length (data_of body) ≡ length (numbers body) * bytes_each (kind_of body)
unfolding kind_of data_of
body_data (Tile samples) fits = (numbers_again w32 (2 ^ 32) signed32 samples fits).1
body_data (Partial bins) fits = (numbers_again w64 (2 ^ 64) signed64 bins fits).1

pub body_again : (body : Body) → HasFittingNumbers body → body_in (kind_of body) (data_of body) ≡ body
unfolding kind_of data_of
body_again (Tile samples) fits =
    let both = numbers_again w32 (2 ^ 32) signed32 samples fits in
    let count : length (flat_map (number_bytes w32) samples) / 4 ≡ length samples = omega (arith, both.1) in
    ap Tile (ap (λ (n : ℕ). first_numbers w32 n (flat_map (number_bytes w32) samples)) count ∙ both.0)
body_again (Partial bins) fits =
    let both = numbers_again w64 (2 ^ 64) signed64 bins fits in
    let count : length (flat_map (number_bytes w64) bins) / 8 ≡ length bins = omega (arith, both.1) in
    ap Partial (ap (λ (n : ℕ). first_numbers w64 n (flat_map (number_bytes w64) bins)) count ∙ both.0)

pub body_back : (kind : FactBodyKind) (len : ℕ) (bytes : List ℕ) → length bytes ≡ len * bytes_each kind → AreBytes bytes
    → (body_bytes (body_in kind bytes) ≡ kind_byte kind ∷ (to_be_bytes w32 len ++ bytes)) × HasFittingNumbers (body_in kind bytes)
body_back OfTile len bytes is fits =
    let count : length bytes / 4 ≡ len = omega arith in
    let whole : length bytes ≡ (length bytes / 4) * 4 = omega arith in
    let both = numbers_back w32 (2 ^ 32) signed32 (length bytes / 4) bytes whole fits in
    let n : length (first_numbers w32 (length bytes / 4) bytes) ≡ len = count_of_numbers w32 (length bytes / 4) bytes ∙ count in (
      ap (λ (k : ℕ). 0 ∷ (to_be_bytes w32 k ++ flat_map (number_bytes w32) (first_numbers w32 (length bytes / 4) bytes))) n
          ∙ ap (λ (l : List ℕ). 0 ∷ (to_be_bytes w32 len ++ l)) both.0,
      both.1,
    )
body_back OfPartial len bytes is fits =
    let count : length bytes / 8 ≡ len = omega arith in
    let whole : length bytes ≡ (length bytes / 8) * 8 = omega arith in
    let both = numbers_back w64 (2 ^ 64) signed64 (length bytes / 8) bytes whole fits in
    let n : length (first_numbers w64 (length bytes / 8) bytes) ≡ len = count_of_numbers w64 (length bytes / 8) bytes ∙ count in (
      ap (λ (k : ℕ). 1 ∷ (to_be_bytes w32 k ++ flat_map (number_bytes w64) (first_numbers w64 (length bytes / 8) bytes))) n
          ∙ ap (λ (l : List ℕ). 1 ∷ (to_be_bytes w32 len ++ l)) both.0,
      both.1,
    )
