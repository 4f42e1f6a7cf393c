-- A record and its fact: each is got back from the other.
use Rattle.std.proofs.Common.{◌≡◌, ℕ, ◌-◌, ◌*◌, ◌^◌, ◌<◌, ◌≤◌, true, false, ltb, List, [], ◌∷◌, ◌++◌, length, Result, Ok, Err}
use Rattle.std.proofs.Common.{refl, sym, ap, subst, ◌∙◌, append_assoc, arith}
use Rattle.std.proofs.lemmas.Bool.{lt-ltb, le-ltb}
use Rattle.std.proofs.lemmas.List.{take_at, drop_at}
use Rattle.std.specs.Int.{w32, to_be_bytes}
use Rattle.identity.specs.declared.key.Key.{Key}
use Rattle.tile_fact.specs.declared.body.Body.{Body}
use Rattle.tile_fact.specs.declared.fact.Fact.{Fact}
use Rattle.tile_fact.specs.declared.fault.FactFault.{FactFault}
use Rattle.tile_fact.specs.declared.fault.FactFault.TheVariants.{TooLong}
use Rattle.tile_fact.specs.declared.kind.FactBodyKind.{FactBodyKind}
use Rattle.tile_fact.specs.declared.kind.FactBodyKind.TheVariants.{OfTile, OfPartial}
use Rattle.tile_fact.specs.Bodies.{numbers}
use Rattle.tile_fact.specs.FactFile.{AreBytes, IsFact, key_bytes, body_bytes, fact_record}
use Rattle.tile_fact.specs.Numbers.{kind_byte, bytes_each, most, key_in, body_in, fact_of}
use Rattle.tile_fact.specs.Reading.{◌>>=◌, part_read, count_read, kind_read, length_read, record_read}
use Rattle.tile_fact.proofs.BodyLaws.{kind_of, data_of, body_parts, body_most, body_data, body_again, body_back}
use Rattle.tile_fact.proofs.BytesLaws.{AreBytes-take, AreBytes-drop, wide32}
use Rattle.tile_fact.proofs.KeyLaws.{key_back, key_is, key_length, key_again}
use Rattle.tile_fact.proofs.PartLaws.{Part, bind_ok, part_takes, part_again}
use Rattle.tile_fact.proofs.RecordLaws.{count_takes, kind_takes, length_takes, body_within}

pub front_bytes : (p q : List ℕ) → AreBytes (p ++ q) → AreBytes p
front_bytes p q h = subst (λ (l : List ℕ). AreBytes l) (take_at p q (length p) refl) (AreBytes-take (length p) (p ++ q) h)

pub behind_bytes : (p q : List ℕ) → AreBytes (p ++ q) → AreBytes q
behind_bytes p q h = subst (λ (l : List ℕ). AreBytes l) (drop_at p q (length p) refl) (AreBytes-drop (length p) (p ++ q) h)

pub part_bytes : (bytes : List ℕ) (len : ℕ) (part rest : List ℕ) → Part bytes len part rest → AreBytes bytes → AreBytes part × AreBytes rest
part_bytes bytes len part rest p h =
    let whole = subst (λ (l : List ℕ). AreBytes l) p.whole h in (front_bytes part rest whole, behind_bytes part rest whole)

-- ---- the steps behind the key

abbrev pub after_len : ℕ → List ℕ → FactBodyKind → ℕ → List ℕ → Result (Fact × List ℕ) FactFault
after_len total key kind len rest =
    part_read total (len * bytes_each kind) rest >>= λ numbers. Ok (fact_of (key_in key) kind numbers.0, numbers.1)

abbrev pub after_kind : ℕ → List ℕ → FactBodyKind → List ℕ → Result (Fact × List ℕ) FactFault
after_kind total key kind rest = length_read total kind rest >>= λ len. after_len total key kind len.0 len.1

abbrev pub after_key : ℕ → List ℕ → List ℕ → Result (Fact × List ℕ) FactFault
after_key total key rest = kind_read total rest >>= λ kind. after_kind total key kind.0 kind.1

pub by_steps : (total : ℕ) (bytes : List ℕ) → record_read total bytes ≡ (part_read total 74 bytes >>= λ key. after_key total key.0 key.1)
unfolding record_read
by_steps total bytes = refl

-- ---- what was read

pub record Taken (bytes : List ℕ) (fact : Fact) (rest : List ℕ) : Type 0 where
  pub whole : bytes ≡ fact_record fact ++ rest
  pub fact_is : IsFact fact
  pub rest_bytes : AreBytes rest

same_pair : (x y : Fact × List ℕ) → (let r : Result (Fact × List ℕ) FactFault = Ok x in r) ≡ Ok y → x ≡ y
same_pair x y h = cc

four_parts : (key kind len raw rest : List ℕ) → (key ++ (kind ++ (len ++ raw))) ++ rest ≡ key ++ (kind ++ (len ++ (raw ++ rest)))
four_parts key kind len raw rest = simp append_assoc

pub regroup : (fact : Fact) (rest : List ℕ)
    → fact_record fact ++ rest
    ≡ key_bytes fact.key
    ++ (kind_byte (kind_of fact.body) ∷ (to_be_bytes w32 (length (numbers fact.body)) ++ (data_of fact.body ++ rest)))
regroup fact rest =
    ap (λ (l : List ℕ). (key_bytes fact.key ++ l) ++ rest) (body_parts fact.body)
    ∙ four_parts (key_bytes fact.key) (kind_byte (kind_of fact.body) ∷ []) (to_be_bytes w32 (length (numbers fact.body)))
    (data_of fact.body) rest

made_fact : (key : List ℕ) (kind : FactBodyKind) (len : ℕ) (raw : List ℕ) → length key ≡ 74 → AreBytes key → length raw ≡ len * bytes_each kind
    → len ≤ most kind → AreBytes raw
    → IsFact (fact_of (key_in key) kind raw)
    × (fact_record (fact_of (key_in key) kind raw) ≡ key ++ (kind_byte kind ∷ (to_be_bytes w32 len ++ raw)))
made_fact key kind len raw key_len key_fits data_len fits data_fits =
    let body = body_back kind len raw data_len data_fits in (
      record { key = key_is key key_len key_fits; within = body_within kind raw len data_len fits; numbers = body.1 },
      ap (λ (l : List ℕ). l ++ body_bytes (body_in kind raw)) (key_back key key_len key_fits) ∙ ap (λ (l : List ℕ). key ++ l) body.0,
    )

pub record_takes : (total : ℕ) (bytes : List ℕ) (fact : Fact) (rest : List ℕ) → AreBytes bytes → record_read total bytes ≡ Ok (fact, rest)
    → Taken bytes fact rest
record_takes total bytes fact rest fits e =
    let a = bind_ok (part_read total 74 bytes) (λ key. after_key total key.0 key.1) (fact, rest) (sym (by_steps total bytes) ∙ e) in
    let b = bind_ok (kind_read total a.0.1) (λ kind. after_kind total a.0.0 kind.0 kind.1) (fact, rest) a.2 in
    let c = bind_ok (length_read total b.0.0 b.0.1) (λ len. after_len total a.0.0 b.0.0 len.0 len.1) (fact, rest) b.2 in
    let d =
    bind_ok (part_read total (c.0.0 * bytes_each b.0.0) c.0.1) (λ numbers. Ok (fact_of (key_in a.0.0) b.0.0 numbers.0, numbers.1))
    (fact, rest) c.2 in
    let key = part_takes total 74 bytes a.0.0 a.0.1 a.1 in
    let kind = kind_takes total a.0.1 b.0.0 b.0.1 b.1 in
    let len = length_takes total b.0.0 b.0.1 c.0.0 c.0.1 c.1 in
    let count = count_takes total b.0.1 c.0.0 c.0.1 len.0 in
    let raw = part_takes total (c.0.0 * bytes_each b.0.0) c.0.1 d.0.0 d.0.1 d.1 in
    let key_fits = part_bytes _ _ _ _ key fits in
    let kind_fits = behind_bytes (kind_byte b.0.0 ∷ []) b.0.1 (subst (λ (l : List ℕ). AreBytes l) kind key_fits.1) in
    let count_fits = part_bytes _ _ _ _ count.1 kind_fits in
    let data_fits = part_bytes _ _ _ _ raw count_fits.1 in
    let four : to_be_bytes w32 c.0.0 ≡ count.0 = ap (to_be_bytes w32) count.2 ∙ wide32.back count.0 count.1.len_is count_fits.0 in
    let made = made_fact a.0.0 b.0.0 c.0.0 d.0.0 key.len_is key_fits.0 raw.len_is len.1 data_fits.0 in
    let inner : b.0.1 ≡ to_be_bytes w32 c.0.0 ++ (d.0.0 ++ d.0.1) =
    count.1.whole ∙ ap (λ (l : List ℕ). l ++ c.0.1) (sym four) ∙ ap (λ (l : List ℕ). to_be_bytes w32 c.0.0 ++ l) raw.whole in
    let outer : bytes ≡ a.0.0 ++ (kind_byte b.0.0 ∷ (to_be_bytes w32 c.0.0 ++ (d.0.0 ++ d.0.1))) =
    key.whole ∙ ap (λ (l : List ℕ). a.0.0 ++ l) kind ∙ ap (λ (l : List ℕ). a.0.0 ++ (kind_byte b.0.0 ∷ l)) inner in
    let whole : bytes ≡ fact_record (fact_of (key_in a.0.0) b.0.0 d.0.0) ++ d.0.1 =
    outer ∙ sym (ap (λ (l : List ℕ). l ++ d.0.1) made.1 ∙ four_parts a.0.0 (kind_byte b.0.0 ∷ []) (to_be_bytes w32 c.0.0) d.0.0 d.0.1) in
    subst (λ (x : Fact × List ℕ). Taken bytes x.0 x.1) (same_pair _ _ d.2)
    (record { whole = whole; fact_is = made.0; rest_bytes = data_fits.1 })

-- ---- what was written

pub kind_again : (total : ℕ) (kind : FactBodyKind) (rest : List ℕ) → kind_read total (kind_byte kind ∷ rest) ≡ Ok (kind, rest)
unfolding kind_read
kind_again total OfTile rest = refl
kind_again total OfPartial rest = refl

pub count_again : (total n : ℕ) (rest : List ℕ) → n < 2 ^ 32 → count_read total (to_be_bytes w32 n ++ rest) ≡ Ok (n, rest)
unfolding count_read
count_again total n rest lt = rw (part_again total 4 (to_be_bytes w32 n) rest refl, wide32.again n lt) refl

most_fits : (kind : FactBodyKind) (n : ℕ) → n ≤ most kind → n < 2 ^ 32
most_fits OfTile n le = omega arith
most_fits OfPartial n le = omega arith

pub length_again : (total : ℕ) (kind : FactBodyKind) (n : ℕ) (rest : List ℕ) → n ≤ most kind
    → length_read total kind (to_be_bytes w32 n ++ rest) ≡ Ok (n, rest)
unfolding length_read
length_again total kind n rest le =
    let test : ltb (most kind) n ≡ false = le-ltb _ _ le in
    rw (count_again total n rest (most_fits kind n le), test) refl

pub length_too_long : (total : ℕ) (kind : FactBodyKind) (n : ℕ) (rest : List ℕ) → n < 2 ^ 32 → most kind < n
    → length_read total kind (to_be_bytes w32 n ++ rest) ≡ Err (TooLong (total - length (to_be_bytes w32 n ++ rest)))
unfolding length_read
length_too_long total kind n rest lt long =
    let test : ltb (most kind) n ≡ true = lt-ltb _ _ long in
    rw (count_again total n rest lt, test) refl

same_fact : (fact : Fact) (key : Key) (body : Body) → key ≡ fact.key → body ≡ fact.body
    → (let f : Fact = record { key = key; body = body } in f) ≡ fact
same_fact fact key body k b i = record { key = k i; body = b i }

pub record_again : (total : ℕ) (fact : Fact) (rest : List ℕ) → IsFact fact → record_read total (fact_record fact ++ rest) ≡ Ok (fact, rest)
record_again total fact rest is =
    let kind = kind_of fact.body in
    let len = length (numbers fact.body) in
    let raw = data_of fact.body in
    let key = key_bytes fact.key in
    let third : part_read total (len * bytes_each kind) (raw ++ rest) ≡ Ok (raw, rest) =
    part_again total (len * bytes_each kind) raw rest (body_data fact.body is.numbers) in
    let again : fact_of (key_in key) kind raw ≡ fact =
    same_fact fact (key_in key) (body_in kind raw) (key_again fact.key is.key) (body_again fact.body is.numbers) in
    let fourth : after_len total key kind len (raw ++ rest) ≡ Ok (fact, rest) = rw third (ap (λ (f : Fact). Ok (f, rest)) again) in
    let second : after_kind total key kind (to_be_bytes w32 len ++ (raw ++ rest)) ≡ Ok (fact, rest) =
    rw (length_again total kind len (raw ++ rest) (body_most fact.body is.within)) fourth in
    let first : after_key total key (kind_byte kind ∷ (to_be_bytes w32 len ++ (raw ++ rest))) ≡ Ok (fact, rest) =
    rw (kind_again total kind (to_be_bytes w32 len ++ (raw ++ rest))) second in
    ap (record_read total) (regroup fact rest) ∙ by_steps total _
    ∙ rw (part_again total 74 key (kind_byte kind ∷ (to_be_bytes w32 len ++ (raw ++ rest))) (key_length fact.key is.key)) first
