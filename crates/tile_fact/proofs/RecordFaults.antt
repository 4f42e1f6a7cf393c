-- Why there is no record in front of the bytes.
use Rattle.std.proofs.Common.{◌≡◌, ℕ, zero, suc, ◌+◌, ◌-◌, ◌*◌, ◌^◌, ◌<◌, ◌≤◌, ◌⊎◌, inl, inr, Bool, true, false, cond, ltb, List}
use Rattle.std.proofs.Common.{[], ◌∷◌, ◌++◌, length, Result, Ok, Err, refl, sym, ap, subst, ◌∙◌, arith}
use Rattle.std.proofs.lemmas.Bool.{ltb-true}
use Rattle.std.proofs.lemmas.List.{length-append}
use Rattle.std.specs.Int.{w32, from_be_bytes, to_be_bytes}
use Rattle.tile_fact.specs.declared.fact.Fact.{Fact}
use Rattle.tile_fact.specs.declared.fault.FactFault.{FactFault}
use Rattle.tile_fact.specs.declared.fault.FactFault.TheVariants.{BadMagic, Cut, NotRising, BadKind, TooLong, TrailingBytes, Memory, RetiredFact}
use Rattle.tile_fact.specs.declared.fault.FactFault.TheVariants.{NothingRetired}
use Rattle.tile_fact.specs.declared.kind.FactBodyKind.{FactBodyKind}
use Rattle.tile_fact.specs.FactFile.{AreBytes}
use Rattle.tile_fact.specs.Faults.{IsCutRecord}
use Rattle.tile_fact.specs.Numbers.{kind_byte, bytes_each, most, key_in, fact_of}
use Rattle.tile_fact.specs.Reading.{◌>>=◌, part_read, count_read, kind_read, length_read, record_read}
use Rattle.tile_fact.proofs.BytesLaws.{wide32}
use Rattle.tile_fact.proofs.FactLaws.{part_bytes, behind_bytes, after_key, after_kind, after_len, by_steps}
use Rattle.tile_fact.proofs.PartLaws.{part_takes, part_cut}
use Rattle.tile_fact.proofs.RecordLaws.{count_takes, kind_takes, length_takes}

pub bind_err : {A B : Type 0} (r : Result A FactFault) (f : A → Result B FactFault) (e : FactFault) → (r >>= f) ≡ Err e
    → (r ≡ Err e) ⊎ ((x : A) × (r ≡ Ok x) × (f x ≡ Err e))
bind_err (Ok x) f e h = inr (x, refl, h)
bind_err (Err d) f e h = inl cc

-- the fault of a record that begins at this place and the bytes that would be it
abbrev pub IsRecordFault : ℕ → ℕ → List ℕ → FactFault → Type 0
IsRecordFault total start bytes (BadMagic at) = ⊥
IsRecordFault total start bytes (Cut at) = (at ≡ total) × IsCutRecord bytes
IsRecordFault total start bytes (NotRising at) = ⊥
IsRecordFault total start bytes (BadKind at) =
    (key : List ℕ) × (byte : ℕ) × (body : List ℕ) × (bytes ≡ key ++ byte ∷ body) × (length key ≡ 74) × (1 < byte) × (at ≡ start + 74)
IsRecordFault total start bytes (TooLong at) =
    (key : List ℕ) × (kind : FactBodyKind) × (len : ℕ) × (behind : List ℕ) × (bytes ≡ key ++ kind_byte kind ∷ (to_be_bytes w32 len ++ behind))
    × (length key ≡ 74)
    × (len < 2 ^ 32) × (most kind < len) × (at ≡ start + 75)
IsRecordFault total start bytes (TrailingBytes at) = ⊥
IsRecordFault total start bytes Memory = ⊥
IsRecordFault total start bytes (RetiredFact at) = ⊥
IsRecordFault total start bytes (NothingRetired at) = ⊥

kind_fault : (total start : ℕ) (bytes key rest : List ℕ) (e : FactFault) → start + length bytes ≡ total → bytes ≡ key ++ rest
    → length key ≡ 74 → kind_read total rest ≡ Err e → IsRecordFault total start bytes e
unfolding kind_read
kind_fault total start bytes key [] e place whole len h =
    let is : e ≡ Cut total = cc in
    subst (λ (d : FactFault). IsRecordFault total start bytes d) (sym is) (refl, inl (omega (arith, ap length whole, length-append key [])))
kind_fault total start bytes key (zero ∷ rest) e place whole len h = absurd cc
kind_fault total start bytes key (suc zero ∷ rest) e place whole len h = absurd cc
kind_fault total start bytes key (suc (suc byte) ∷ rest) e place whole len h =
    let is : e ≡ BadKind (total - length (suc (suc byte) ∷ rest)) = cc in
    let at : total - length (suc (suc byte) ∷ rest) ≡ start + 74 =
    omega (arith, ap length whole, length-append key (suc (suc byte) ∷ rest)) in
    subst (λ (d : FactFault). IsRecordFault total start bytes d) (sym is) (key, suc (suc byte), rest, whole, len, omega arith, at)

pub count_cut : (total : ℕ) (bytes : List ℕ) (e : FactFault) → count_read total bytes ≡ Err e → (length bytes < 4) × (e ≡ Cut total)
unfolding count_read
count_cut total bytes e h = elim (bind_err (part_read total 4 bytes) (λ part. Ok (from_be_bytes w32 part.0, part.1)) e h) [
  | inl f ↦ part_cut total 4 bytes e f
  | inr (x, is, never) ↦ absurd (not_both _ _ never)
]
  where
    not_both : (x : ℕ × List ℕ) (e : FactFault) → (let r : Result (ℕ × List ℕ) FactFault = Ok x in r) ≡ Err e → ⊥
    not_both x e h = cc

guard_len : (b : Bool) (d e : FactFault) (x : ℕ × List ℕ) → cond b (Err d) (Ok x) ≡ Err e → (b ≡ true) × (e ≡ d)
guard_len true d e x h = (refl, cc)
guard_len false d e x h = absurd cc

length_fails : (total : ℕ) (kind : FactBodyKind) (bytes : List ℕ) (e : FactFault) → length_read total kind bytes ≡ Err e
    → ((length bytes < 4) × (e ≡ Cut total))
    ⊎ ((x : ℕ × List ℕ) × (count_read total bytes ≡ Ok x) × (most kind < x.0) × (e ≡ TooLong (total - length bytes)))
unfolding length_read
length_fails total kind bytes e h =
    elim (bind_err (count_read total bytes) (λ len. cond (ltb (most kind) len.0) (Err (TooLong (total - length bytes))) (Ok len)) e h) [
      | inl f ↦ inl (count_cut total bytes e f)
      | inr (x, is, f) ↦
          let g = guard_len (ltb (most kind) x.0) (TooLong (total - length bytes)) e x f in inr (x, is, ltb-true (most kind) x.0 g.0, g.1)
    ]

-- the length is the four bytes that were read
pub count_whole : (total : ℕ) (bytes : List ℕ) (n : ℕ) (rest : List ℕ) → AreBytes bytes → count_read total bytes ≡ Ok (n, rest)
    → (bytes ≡ to_be_bytes w32 n ++ rest) × (n < 2 ^ 32) × AreBytes rest
count_whole total bytes n rest fits h =
    let c = count_takes total bytes n rest h in
    let both = part_bytes _ _ _ _ c.1 fits in
    let four : to_be_bytes w32 n ≡ c.0 = ap (to_be_bytes w32) c.2 ∙ wide32.back c.0 c.1.len_is both.0 in
    let below : from_be_bytes w32 c.0 < 2 ^ 32 = wide32.below c.0 both.0 in
    (c.1.whole ∙ ap (λ (l : List ℕ). l ++ rest) (sym four), subst (λ (k : ℕ). k < 2 ^ 32) (sym c.2) below, both.1)

length_fault : (total start : ℕ) (bytes key : List ℕ) (kind : FactBodyKind) (rest : List ℕ) (e : FactFault) → start + length bytes ≡ total
    → bytes ≡ key ++ (kind_byte kind ∷ rest) → length key ≡ 74
    → AreBytes rest → length_read total kind rest ≡ Err e → IsRecordFault total start bytes e
length_fault total start bytes key kind rest e place whole len fits h = elim (length_fails total kind rest e h) [
  | inl (short, is) ↦ subst (λ (d : FactFault). IsRecordFault total start bytes d) (sym is)
      (refl, inr (key, kind, rest, whole, len, inl short))
  | inr (x, read, long, is) ↦
      let c = count_whole total rest x.0 x.1 fits read in
      let at : total - length rest ≡ start + 75 = omega (arith, ap length whole, length-append key (kind_byte kind ∷ rest)) in
      subst (λ (d : FactFault). IsRecordFault total start bytes d) (sym is)
      (key, kind, x.0, x.1, whole ∙ ap (λ (l : List ℕ). key ++ (kind_byte kind ∷ l)) c.0, len, c.1, long, at)
]

numbers_fault : (total start : ℕ) (bytes key : List ℕ) (kind : FactBodyKind) (n : ℕ) (rest : List ℕ) (e : FactFault)
    → bytes ≡ key ++ (kind_byte kind ∷ (to_be_bytes w32 n ++ rest)) → length key ≡ 74
    → n ≤ most kind → after_len total key kind n rest ≡ Err e → IsRecordFault total start bytes e
numbers_fault total start bytes key kind n rest e whole len fits h =
    elim (bind_err (part_read total (n * bytes_each kind) rest) (λ numbers. Ok (fact_of (key_in key) kind numbers.0, numbers.1)) e h) [
      | inl f ↦ let c = part_cut total (n * bytes_each kind) rest e f in
          subst (λ (d : FactFault). IsRecordFault total start bytes d) (sym c.1)
          (refl, inr (key, kind, to_be_bytes w32 n ++ rest, whole, len, inr (n, rest, refl, fits, c.0)))
      | inr (x, is, never) ↦ absurd (not_both _ _ never)
    ]
  where
    not_both : (x : Fact × List ℕ) (e : FactFault) → (let r : Result (Fact × List ℕ) FactFault = Ok x in r) ≡ Err e → ⊥
    not_both x e h = cc

pub record_faults : (total start : ℕ) (bytes : List ℕ) (e : FactFault) → start + length bytes ≡ total → AreBytes bytes
    → record_read total bytes ≡ Err e → IsRecordFault total start bytes e
record_faults total start bytes e place fits h =
    elim (bind_err (part_read total 74 bytes) (λ key. after_key total key.0 key.1) e (sym (by_steps total bytes) ∙ h)) [
      | inl f ↦
          let c = part_cut total 74 bytes e f in
          subst (λ (d : FactFault). IsRecordFault total start bytes d) (sym c.1) (refl, inl (omega (arith, c.0)))
      | inr (key, read_key, f) ↦
          let k = part_takes total 74 bytes key.0 key.1 read_key in
          let key_fits = part_bytes _ _ _ _ k fits in
          elim (bind_err (kind_read total key.1) (λ kind. after_kind total key.0 kind.0 kind.1) e f) [
            | inl g ↦ kind_fault total start bytes key.0 key.1 e place k.whole k.len_is g
            | inr (kind, read_fact_body_kind, g) ↦
                let d = kind_takes total key.1 kind.0 kind.1 read_fact_body_kind in
                let whole = k.whole ∙ ap (λ (l : List ℕ). key.0 ++ l) d in
                let kind_fits = behind_bytes (kind_byte kind.0 ∷ []) kind.1 (subst (λ (l : List ℕ). AreBytes l) d key_fits.1) in
                elim (bind_err (length_read total kind.0 kind.1) (λ len. after_len total key.0 kind.0 len.0 len.1) e g) [
                  | inl f2 ↦ length_fault total start bytes key.0 kind.0 kind.1 e place whole k.len_is kind_fits f2
                  | inr (len, read_len, f2) ↦
                      let l = length_takes total kind.0 kind.1 len.0 len.1 read_len in
                      let c = count_whole total kind.1 len.0 len.1 kind_fits l.0 in
                      numbers_fault total start bytes key.0 kind.0 len.0 len.1 e
                      (whole ∙ ap (λ (m : List ℕ). key.0 ++ (kind_byte kind.0 ∷ m)) c.0) k.len_is l.1 f2
                ]
          ]
    ]
