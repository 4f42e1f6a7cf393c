-- Keys and their bytes: each is got back from the other.
use Rattle.std.proofs.Common.{◌≡◌, ℕ, ◌+◌, ◌^◌, ◌≤◌, List, [], ◌++◌, length, take, drop, refl, sym, ap, ◌∙◌, append-nil, arith}
use Rattle.std.proofs.lemmas.List.{take_at, drop_at, take-append-drop, length-append, length-take, length-drop, drop_all, drop-drop}
use Rattle.std.specs.Int.{Width, w16, w32, byte_len, from_be_bytes, to_be_bytes}
use Rattle.identity.specs.declared.key.Key.{Key}
use Rattle.tile_fact.specs.FactFile.{AreBytes, IsKey, key_bytes}
use Rattle.tile_fact.specs.Numbers.{key_in}
use Rattle.tile_fact.proofs.BytesLaws.{AreBytes-drop, AreBytes-take, IsWide, wide16, wide32}

drop_twice : (at len : ℕ) (bytes : List ℕ) → drop len (drop at bytes) ≡ drop (at + len) bytes
drop_twice at len bytes = drop-drop len at bytes

-- a field in the middle of the bytes, and what is behind it
field : (at len : ℕ) (bytes : List ℕ) → drop at bytes ≡ take len (drop at bytes) ++ drop (at + len) bytes
field at len bytes =
    sym (take-append-drop len (drop at bytes)) ∙ ap (λ (l : List ℕ). take len (drop at bytes) ++ l) (drop_twice at len bytes)

-- the same of a number
number_field : (w : Width) (limit : ℕ) → IsWide w limit → (at : ℕ) (bytes : List ℕ) → at + byte_len w ≤ length bytes → AreBytes bytes
    → drop at bytes ≡ to_be_bytes w (from_be_bytes w (take (byte_len w) (drop at bytes))) ++ drop (at + byte_len w) bytes
number_field w limit wide at bytes long fits =
    let part = take (byte_len w) (drop at bytes) in
    let len : length part ≡ byte_len w = omega (arith, length-take (byte_len w) (drop at bytes), length-drop at bytes) in
    field at (byte_len w) bytes
    ∙ ap (λ (l : List ℕ). l ++ drop (at + byte_len w) bytes)
    (sym (wide.back part len (AreBytes-take (byte_len w) (drop at bytes) (AreBytes-drop at bytes fits))))

pub key_back : (bytes : List ℕ) → length bytes ≡ 74 → AreBytes bytes → key_bytes (key_in bytes) ≡ bytes
key_back bytes len fits =
    let program = field 0 32 bytes in
    let input = field 32 32 bytes in
    let stage = number_field w16 (2 ^ 16) wide16 64 bytes (omega arith) fits in
    let row = number_field w32 (2 ^ 32) wide32 66 bytes (omega arith) fits in
    let col = number_field w32 (2 ^ 32) wide32 70 bytes (omega arith) fits in
    let none : drop 74 bytes ≡ [] = drop_all 74 bytes (omega arith) in
    let key = key_in bytes in
    let last : drop 70 bytes ≡ to_be_bytes w32 key.col =
    col ∙ ap (λ (l : List ℕ). to_be_bytes w32 key.col ++ l) none ∙ append-nil (to_be_bytes w32 key.col) in
    let fourth : drop 66 bytes ≡ to_be_bytes w32 key.row ++ to_be_bytes w32 key.col =
    row ∙ ap (λ (l : List ℕ). to_be_bytes w32 key.row ++ l) last in
    let third : drop 64 bytes ≡ to_be_bytes w16 key.stage ++ (to_be_bytes w32 key.row ++ to_be_bytes w32 key.col) =
    stage ∙ ap (λ (l : List ℕ). to_be_bytes w16 key.stage ++ l) fourth in
    let second : drop 32 bytes ≡ key.input ++ (to_be_bytes w16 key.stage ++ (to_be_bytes w32 key.row ++ to_be_bytes w32 key.col)) =
    input ∙ ap (λ (l : List ℕ). key.input ++ l) third in
    sym (program ∙ ap (λ (l : List ℕ). key.program ++ l) second)

pub key_is : (bytes : List ℕ) → length bytes ≡ 74 → AreBytes bytes → IsKey (key_in bytes)
key_is bytes len fits = record {
  program = record { count = omega (arith, length-take 32 bytes); are_bytes = AreBytes-take 32 bytes fits };
  input =
      record {
        count =
            omega (arith, length-take 32 (drop 32 bytes), length-drop 32 bytes);
        are_bytes =
            AreBytes-take 32 (drop 32 bytes) (AreBytes-drop 32 bytes fits);
      };
  stage = wide16.below (take 2 (drop 64 bytes)) (AreBytes-take 2 (drop 64 bytes) (AreBytes-drop 64 bytes fits));
  row = wide32.below (take 4 (drop 66 bytes)) (AreBytes-take 4 (drop 66 bytes) (AreBytes-drop 66 bytes fits));
  col = wide32.below (take 4 (drop 70 bytes)) (AreBytes-take 4 (drop 70 bytes) (AreBytes-drop 70 bytes fits));
}

-- the parts in front of a list in parts
drop_part : (at len : ℕ) (bytes part rest : List ℕ) → drop at bytes ≡ part ++ rest → length part ≡ len → drop (at + len) bytes ≡ rest
drop_part at len bytes part rest is count = sym (drop_twice at len bytes) ∙ ap (drop len) is ∙ drop_at part rest len count

take_part : (at len : ℕ) (bytes part rest : List ℕ) → drop at bytes ≡ part ++ rest → length part ≡ len → take len (drop at bytes) ≡ part
take_part at len bytes part rest is count = ap (take len) is ∙ take_at part rest len count

pub key_length : (key : Key) → IsKey key → length (key_bytes key) ≡ 74
key_length key is = omega (
  arith,
  length-append key.program (key.input ++ (to_be_bytes w16 key.stage ++ (to_be_bytes w32 key.row ++ to_be_bytes w32 key.col))),
  length-append key.input (to_be_bytes w16 key.stage ++ (to_be_bytes w32 key.row ++ to_be_bytes w32 key.col)),
  is.program.count,
  is.input.count,
)

one_key : (a b : Key) → a.program ≡ b.program → a.input ≡ b.input → a.stage ≡ b.stage → a.row ≡ b.row → a.col ≡ b.col → a ≡ b
one_key a b p q s r c i = record { program = p i; input = q i; stage = s i; row = r i; col = c i }

pub key_again : (key : Key) → IsKey key → key_in (key_bytes key) ≡ key
key_again key is =
    let bytes = key_bytes key in
    let last = to_be_bytes w32 key.col in
    let fourth = to_be_bytes w32 key.row ++ last in
    let third = to_be_bytes w16 key.stage ++ fourth in
    let second = key.input ++ third in
    let a : drop 32 bytes ≡ second = drop_part 0 32 bytes key.program second refl is.program.count in
    let b : drop 64 bytes ≡ third = drop_part 32 32 bytes key.input third a is.input.count in
    let c : drop 66 bytes ≡ fourth = drop_part 64 2 bytes (to_be_bytes w16 key.stage) fourth b refl in
    let d : drop 70 bytes ≡ last = drop_part 66 4 bytes (to_be_bytes w32 key.row) last c refl in
    let e : drop 70 bytes ≡ last ++ [] = d ∙ sym (append-nil last) in
    one_key (key_in bytes) key (take_part 0 32 bytes key.program second refl is.program.count)
    (take_part 32 32 bytes key.input third a is.input.count)
    (ap (from_be_bytes w16) (take_part 64 2 bytes (to_be_bytes w16 key.stage) fourth b refl) ∙ wide16.again key.stage is.stage)
    (ap (from_be_bytes w32) (take_part 66 4 bytes (to_be_bytes w32 key.row) last c refl) ∙ wide32.again key.row is.row)
    (ap (from_be_bytes w32) (take_part 70 4 bytes last [] e refl) ∙ wide32.again key.col is.col)
