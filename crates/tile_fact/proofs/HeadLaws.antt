-- The head of a file: the magic, the retired jobs and the count of facts.
use Rattle.std.proofs.Common.{◌≡◌, ◌≢◌, ℕ, zero, suc, ◌+◌, ◌-◌, ◌^◌, ◌<◌, ◌≤◌, ◌⊎◌, inl, inr, Bool, true, false, cond, eqb, List}
use Rattle.std.proofs.Common.{[], ◌∷◌, ◌++◌, length, get_or, take, drop, codes, Option, None, Result, Ok, Err, refl, sym, ap, subst}
use Rattle.std.proofs.Common.{◌∙◌, append_assoc, arith}
use Rattle.std.proofs.lemmas.Bool.{cases_lt, eqb-true}
use Rattle.std.proofs.lemmas.Bool.Decides.{eqb_tells}
use Rattle.std.proofs.lemmas.List.{take_all, take_at, drop_at, take-append-drop, length-append, length-take, length-drop}
use Rattle.std.proofs.Math.Dec.{eqb-suc-zero}
use Rattle.std.specs.Int.{w32, to_be_bytes}
use Rattle.std.specs.List.{flat_map}
use Rattle.identity.specs.declared.job_ids.JobId.{JobId}
use Rattle.identity.specs.Keys.{ids_cmp}
use Rattle.tile_fact.specs.declared.fault.FactFault.{FactFault}
use Rattle.tile_fact.specs.declared.fault.FactFault.TheVariants.{BadMagic, Cut, NotRising, NothingRetired}
use Rattle.tile_fact.specs.declared.version.FactFileVersion.{FactFileVersion}
use Rattle.tile_fact.specs.declared.version.FactFileVersion.TheVariants.{OfFacts, OfBoth}
use Rattle.tile_fact.specs.FactFile.{magic, retired_magic, AreBytes, IsIds, AreIds, ids_bytes, head_of}
use Rattle.tile_fact.specs.Faults.{HasIds, IsFault}
use Rattle.tile_fact.specs.Numbers.{pair_in}
use Rattle.tile_fact.specs.Reading.{◌>>=◌, is_above, magic_read, version_read, count_read, pair_read, list_read, retired_read, head_read}
use Rattle.tile_fact.proofs.BytesLaws.{AreBytes-take, AreBytes-drop}
use Rattle.tile_fact.proofs.FactLaws.{count_again, behind_bytes}
use Rattle.tile_fact.proofs.FileLaws.{Behind, one_behind}
use Rattle.tile_fact.proofs.PairLaws.{pair_cut, pair_low, pair_high}
use Rattle.tile_fact.proofs.RecordFaults.{count_whole, count_cut}
use Rattle.tile_fact.proofs.RisingLaws.{last_after, rises_more, not_rising}
use Rattle.tile_fact.proofs.ViewLaws.{ReadView, then_view, IsNext, AreNext, list_view, list_again, all_more}

-- ---- the magic

true_not_false : true ≡ false → ⊥
true_not_false h = cc

magic_ok : (at : ℕ) (wanted bytes rest : List ℕ) → magic_read at wanted bytes ≡ Ok rest → bytes ≡ wanted ++ rest
unfolding magic_read
magic_ok at [] bytes rest h = cc
magic_ok at (w ∷ ws) [] rest h = absurd cc
magic_ok at (w ∷ ws) (b ∷ bs) rest h = elim (eqb_tells b w) [
  | inl (is, same) ↦
      let more : magic_read (at + 1) ws bs ≡ Ok rest =
      ap (λ (t : Bool). cond t (magic_read (at + 1) ws bs) (Err (BadMagic at))) (sym is) ∙ h in
      ap (λ (l : List ℕ). b ∷ l) (magic_ok (at + 1) ws bs rest more) ∙ ap (λ (c : ℕ). c ∷ (ws ++ rest)) same
  | inr (isnt, differs) ↦
      absurd (never at rest (ap (λ (t : Bool). cond t (magic_read (at + 1) ws bs) (Err (BadMagic at))) (sym isnt) ∙ h))
]
  where
    never : (at : ℕ) (rest : List ℕ) → (let r : Result (List ℕ) FactFault = Err (BadMagic at) in r) ≡ Ok rest → ⊥
    never at rest h = cc

-- the first byte that differs, or the end before the last
abbrev MagicFault : ℕ → List ℕ → List ℕ → FactFault → Type 0
MagicFault at wanted bytes e =
    ((i : ℕ) × (i < length wanted) × (i < length bytes) × (take i bytes ≡ take i wanted) × (get_or bytes i 0 ≢ get_or wanted i 0)
    × (e ≡ BadMagic (at + i)))
    ⊎ ((length bytes < length wanted) × (bytes ≡ take (length bytes) wanted) × (e ≡ Cut (at + length bytes)))

magic_next : (at b w : ℕ) (ws bs : List ℕ) (e : FactFault) → b ≡ w → MagicFault (at + 1) ws bs e → MagicFault at (w ∷ ws) (b ∷ bs) e
magic_next at b w ws bs e same f = elim f [
  | inl (i, in_wanted, in_bytes, front, differs, is) ↦
      inl (
        suc i,
        omega arith,
        omega arith,
        ap (λ (l : List ℕ). b ∷ l) front ∙ ap (λ (c : ℕ). c ∷ take i ws) same,
        differs,
        is ∙ ap (λ (n : ℕ). BadMagic n) (omega arith),
      )
  | inr (short, front, is) ↦
      inr (
        omega arith,
        ap (λ (l : List ℕ). b ∷ l) front ∙ ap (λ (c : ℕ). c ∷ take (length bs) ws) same,
        is ∙ ap (λ (n : ℕ). Cut n) (omega arith),
      )
]

magic_err : (at : ℕ) (wanted bytes : List ℕ) (e : FactFault) → magic_read at wanted bytes ≡ Err e → MagicFault at wanted bytes e
unfolding magic_read
magic_err at [] bytes e h = absurd cc
magic_err at (w ∷ ws) [] e h =
    let is : e ≡ Cut at = cc in
    inr (omega arith, refl, is ∙ ap (λ (n : ℕ). Cut n) (omega arith))
magic_err at (w ∷ ws) (b ∷ bs) e h = elim (eqb_tells b w) [
  | inl (is, same) ↦
      magic_next at b w ws bs e same
      (magic_err (at + 1) ws bs e (ap (λ (t : Bool). cond t (magic_read (at + 1) ws bs) (Err (BadMagic at))) (sym is) ∙ h))
  | inr (isnt, differs) ↦
      inl (
        0,
        omega arith,
        omega arith,
        refl,
        differs,
        fault at e (ap (λ (t : Bool). cond t (magic_read (at + 1) ws bs) (Err (BadMagic at))) (sym isnt) ∙ h)
            ∙ ap (λ (n : ℕ). BadMagic n) (omega arith),
      )
]
  where
    fault : (at : ℕ) (e : FactFault) → (let r : Result (List ℕ) FactFault = Err (BadMagic at) in r) ≡ Err e → e ≡ BadMagic at
    fault at e h = cc

-- both magics begin alike
record AreAlike (i : ℕ) : Type 0 where
  front : take i (codes "PTF") ≡ take i magic
  first : get_or (codes "PTF") i 0 ≡ get_or magic i 0
  second : get_or (codes "PTF") i 0 ≡ get_or retired_magic i 0

alike : (i : ℕ) → i < 3 → AreAlike i
alike zero lt = record { front = refl; first = refl; second = refl }
alike (suc zero) lt = record { front = refl; first = refl; second = refl }
alike (suc (suc zero)) lt = record { front = refl; first = refl; second = refl }
alike (suc (suc (suc i))) lt = absurd (omega arith)

magic_fault : (bytes : List ℕ) (e : FactFault) → MagicFault 0 (codes "PTF") bytes e → IsFault bytes e
magic_fault bytes e f = elim f [
  | inl (i, in_front, in_bytes, front, differs, is) ↦
      let same = alike i in_front in
      subst (λ (d : FactFault). IsFault bytes d) (sym (is ∙ ap (λ (n : ℕ). BadMagic n) (omega arith)))
      (record {
        in_magic = omega arith;
        in_bytes = in_bytes;
        front = front ∙ same.front;
        differs = λ h. differs (h ∙ sym same.first);
        differs_too = λ h. differs (h ∙ sym same.second);
      })
  | inr (short, front, is) ↦
      subst (λ (d : FactFault). IsFault bytes d) (sym (is ∙ ap (λ (n : ℕ). Cut n) (omega arith))) (
        refl,
        inl (record { short = omega arith; front = inl (take_all 4 bytes (omega arith) ∙ front ∙ (alike (length bytes) short).front) }),
      )
]

magic_view : (bytes : List ℕ) (r : Result (List ℕ) FactFault) → magic_read 0 (codes "PTF") bytes ≡ r
    → ReadView bytes (λ behind. bytes ≡ codes "PTF" ++ behind) r
magic_view bytes (Ok behind) is = magic_ok 0 (codes "PTF") bytes behind is
magic_view bytes (Err e) is = magic_fault bytes e (magic_err 0 (codes "PTF") bytes e is)

-- ---- the version

magic_of : FactFileVersion → List ℕ
magic_of OfFacts = magic
magic_of OfBoth = retired_magic

abbrev HasMagic : List ℕ → FactFileVersion × List ℕ → Type 0
HasMagic bytes x = bytes ≡ magic_of x.0 ++ x.1

-- a test tells whether two numbers are one
abbrev Told : ℕ → Bool → ℕ → Type 0
Told a b n = ((b ≡ true) × (a ≡ n)) ⊎ ((b ≡ false) × (a ≢ n))

version_view : (bytes front : List ℕ) → bytes ≡ codes "PTF" ++ front → ReadView bytes (HasMagic bytes) (version_read front)
unfolding version_read magic_of
version_view bytes [] whole =
    let len : length bytes ≡ 3 = ap length whole in
    subst (λ (i : ℕ). IsFault bytes (Cut i)) len (
      refl,
      inl (record {
        short = omega arith;
        front =
            inl (take_all 4 bytes (omega arith) ∙ whole ∙ ap (λ (i : ℕ). take i magic) (sym len));
      }),
    )
version_view bytes (byte ∷ rest) whole = first (eqb byte 49) (eqb_tells byte 49) (eqb byte 50) (eqb_tells byte 50)
  where
    neither : byte ≢ 49 → byte ≢ 50 → IsFault bytes (BadMagic 3)
    neither one two =
        let own : get_or bytes 3 0 ≡ byte = ap (λ (l : List ℕ). get_or l 3 0) whole in
        record {
          in_magic = omega arith;
          in_bytes = omega (arith, ap length whole);
          front = ap (take 3) whole;
          differs = λ h. one (sym own ∙ h);
          differs_too = λ h. two (sym own ∙ h);
        }

    first : (b : Bool) → Told byte b 49 → (d : Bool) → Told byte d 50
        → ReadView bytes (HasMagic bytes) (cond b (Ok (OfFacts, rest)) (cond d (Ok (OfBoth, rest)) (Err (BadMagic 3))))
    first true (inl is) d other = whole ∙ ap (λ (b : ℕ). codes "PTF" ++ (b ∷ rest)) is.1
    first true (inr isnt) d other = absurd (true_not_false isnt.0)
    first false (inl is) d other = absurd (true_not_false (sym is.0))
    first false (inr isnt) true (inl is) = whole ∙ ap (λ (b : ℕ). codes "PTF" ++ (b ∷ rest)) is.1
    first false (inr isnt) true (inr other) = absurd (true_not_false other.0)
    first false (inr isnt) false (inl is) = absurd (true_not_false (sym is.0))
    first false (inr isnt) false (inr other) = neither isnt.1 other.1

-- ---- identities

two_halves : (front : List ℕ) → length front ≡ 64 → AreBytes front → (ids_bytes (pair_in front) ≡ front) × IsIds (pair_in front)
two_halves front len fits =
    let behind = drop 32 front in
    let rest : length behind ≡ 32 = omega (arith, length-drop 32 front) in
    let second : take 32 behind ≡ behind = take_all 32 behind (omega arith) in (
      ap (λ (l : List ℕ). take 32 front ++ l) second ∙ take-append-drop 32 front,
      record {
        program = record { count = omega (arith, length-take 32 front); are_bytes = AreBytes-take 32 front fits };
        input = record { count = ap length second ∙ rest; are_bytes = AreBytes-take 32 behind (AreBytes-drop 32 front fits) };
      },
    )

one_pair : (a b : JobId) → a.program ≡ b.program → a.input ≡ b.input → a ≡ b
one_pair a b p q i = record { program = p i; input = q i }

ids_length : (ids : JobId) → IsIds ids → length (ids_bytes ids) ≡ 64
ids_length ids is = omega (arith, length-append ids.program ids.input, is.program.count, is.input.count)

pair_again : (ids : JobId) → IsIds ids → pair_in (ids_bytes ids) ≡ ids
pair_again ids is =
    let behind : drop 32 (ids_bytes ids) ≡ ids.input = drop_at ids.program ids.input 32 is.program.count in
    one_pair (pair_in (ids_bytes ids)) ids (take_at ids.program ids.input 32 is.program.count)
    (ap (take 32) behind ∙ take_all 32 ids.input (omega (arith, is.input.count)))

step_again : (total : ℕ) (last : Option JobId) (ids : JobId) (rest : List ℕ) → IsIds ids → is_above ids_cmp last ids ≡ true
    → pair_read total last (ids_bytes ids ++ rest) ≡ Ok (ids, rest)
step_again total last ids rest is above =
    let bytes = ids_bytes ids ++ rest in
    let len = ids_length ids is in
    let own : pair_in (take 64 bytes) ≡ ids = ap pair_in (take_at (ids_bytes ids) rest 64 len) ∙ pair_again ids is in
    pair_high total last bytes (omega (arith, len, length-append (ids_bytes ids) rest)) (ap (is_above ids_cmp last) own ∙ above)
    ∙ ap (λ (i : JobId). Ok (i, drop 64 bytes)) own ∙ ap (λ (l : List ℕ). Ok (ids, l)) (drop_at (ids_bytes ids) rest 64 len)

module _ (bytes : List ℕ) (count : ℕ) where
  -- behind these identities this is left
  abbrev BehindIds : List JobId → List ℕ → Type 0
  BehindIds ids rest = HasIds bytes count ids (length bytes - length rest) rest × AreBytes rest

  module _ (ids : List JobId) (rest : List ℕ) (few : length ids < count) (h : BehindIds ids rest) where
    pair_short : length rest < 64 → IsFault bytes (Cut (length bytes))
    pair_short short = (
      refl,
      inr (inl (record { count = count; ids = ids; start = length bytes - length rest; rest = rest; has = h.0; cut = inl (few, short) })),
    )

    module _ (long : 64 ≤ length rest) where
      pair : JobId
      pair = pair_in (take 64 rest)

      halves : (ids_bytes pair ≡ take 64 rest) × IsIds pair
      unfolding pair
      halves = two_halves (take 64 rest) (omega (arith, length-take 64 rest)) (AreBytes-take 64 rest h.1)

      parts : rest ≡ ids_bytes pair ++ drop 64 rest
      parts = sym (take-append-drop 64 rest) ∙ ap (λ (l : List ℕ). l ++ drop 64 rest) (sym halves.0)

      pair_low_fault : is_above ids_cmp (last_after None ids) pair ≡ false → IsFault bytes (NotRising (length bytes - length rest))
      pair_low_fault low =
          inl (record {
            count = count;
            ids = ids;
            low_ids = pair;
            behind = drop 64 rest;
            has = subst (λ (l : List ℕ). HasIds bytes count ids (length bytes - length rest) l) parts h.0;
            few = few;
            ids_are = halves.1;
            low = not_rising ids_cmp ids pair low;
          })

      pair_more : is_above ids_cmp (last_after None ids) pair ≡ true → BehindIds (ids ++ pair ∷ []) (drop 64 rest)
      pair_more high = (
        record {
          some = h.0.some;
          count_fits = h.0.count_fits;
          each = all_more IsIds ids pair h.0.each halves.1;
          rise = rises_more ids_cmp None ids pair h.0.rise high;
          whole =
              h.0.whole
              ∙ ap (λ (l : List ℕ). retired_magic ++ (to_be_bytes w32 count ++ l)) (one_behind ids_bytes ids pair rest (drop 64 rest) parts);
          place = omega (arith, h.0.place, length-drop 64 rest);
        },
        AreBytes-drop 64 rest h.1,
      )

      by_order : (b : Bool) → is_above ids_cmp (last_after None ids) pair ≡ b
          → ReadView bytes (IsNext BehindIds ids) (pair_read (length bytes) (last_after None ids) rest)
      unfolding pair
      by_order true high =
          subst (λ (r : Result (JobId × List ℕ) FactFault). ReadView bytes (IsNext BehindIds ids) r)
          (sym (pair_high (length bytes) (last_after None ids) rest long high)) (pair_more high)
      by_order false low =
          subst (λ (r : Result (JobId × List ℕ) FactFault). ReadView bytes (IsNext BehindIds ids) r)
          (sym (pair_low (length bytes) (last_after None ids) rest long low)) (pair_low_fault low)

  pair_view : (ids : List JobId) (rest : List ℕ) → length ids < count → BehindIds ids rest
      → ReadView bytes (IsNext BehindIds ids) (pair_read (length bytes) (last_after None ids) rest)
  pair_view ids rest few h = elim (cases_lt (length rest) 64) [
    | inl short ↦
        subst (λ (r : Result (JobId × List ℕ) FactFault). ReadView bytes (IsNext BehindIds ids) r)
        (sym (pair_cut (length bytes) (last_after None ids) rest short)) (pair_short ids rest few h short)
    | inr long ↦ by_order ids rest few h long (is_above ids_cmp (last_after None ids) (pair ids rest few h long)) refl
  ]

-- ---- counts

abbrev IsCounted : List ℕ → ℕ × List ℕ → Type 0
IsCounted behind x = (behind ≡ to_be_bytes w32 x.0 ++ x.1) × (x.0 < 2 ^ 32) × AreBytes x.1

count_view : (bytes behind : List ℕ) → AreBytes behind → (length behind < 4 → IsFault bytes (Cut (length bytes)))
    → ReadView bytes (IsCounted behind) (count_read (length bytes) behind)
count_view bytes behind fits cut = by (count_read (length bytes) behind) refl
  where
    by : (r : Result (ℕ × List ℕ) FactFault) → count_read (length bytes) behind ≡ r → ReadView bytes (IsCounted behind) r
    by (Ok x) is = count_whole (length bytes) behind x.0 x.1 fits is
    by (Err e) is =
        let f = count_cut (length bytes) behind e is in subst (λ (d : FactFault). IsFault bytes d) (sym f.1) (cut f.0)

-- ---- the retired jobs

head_some : (ids : List JobId) → 0 < length ids → head_of ids ≡ retired_magic ++ (to_be_bytes w32 (length ids) ++ flat_map ids_bytes ids)
head_some [] some = absurd (omega arith)
head_some (i ∷ more) some = refl

-- these are retired, and this is left behind them
record IsHead (bytes : List ℕ) (retired : List JobId) (rest : List ℕ) : Type 0 where
  ids : AreIds retired
  whole : bytes ≡ head_of retired ++ rest
  fits : AreBytes rest
  cut : length rest < 4 → IsFault bytes (Cut (length bytes))

short_head : (bytes wanted behind : List ℕ) → length wanted ≡ 4 → bytes ≡ wanted ++ behind → length behind < 4
    → (length bytes < 8) × (take 4 bytes ≡ take (length bytes) wanted)
short_head bytes wanted behind len whole short =
    let all : length bytes ≡ 4 + length behind = ap length whole ∙ length-append wanted behind ∙ omega (arith, len) in (
      omega (arith, all),
      ap (take 4) whole ∙ take_at wanted behind 4 len ∙ sym (take_all (length bytes) wanted (omega (arith, all, len))),
    )

ids_head : (bytes : List ℕ) (n : ℕ) (ids : List JobId) (rest : List ℕ) → 0 < n → BehindIds bytes n ids rest → length ids ≡ n
    → IsHead bytes ids rest
ids_head bytes n ids rest some h all =
    let count : to_be_bytes w32 n ≡ to_be_bytes w32 (length ids) = ap (to_be_bytes w32) (sym all) in
    record {
      ids = record { count = subst (λ (k : ℕ). k < 2 ^ 32) (sym all) h.0.count_fits; each = h.0.each; rise = h.0.rise };
      whole =
          h.0.whole
          ∙ ap (λ (l : List ℕ). retired_magic ++ (l ++ (flat_map ids_bytes ids ++ rest))) count
          ∙ ap (λ (l : List ℕ). retired_magic ++ l) (sym (append_assoc (to_be_bytes w32 (length ids)) (flat_map ids_bytes ids) rest))
          ∙ sym (append_assoc retired_magic (to_be_bytes w32 (length ids) ++ flat_map ids_bytes ids) rest)
          ∙ ap (λ (l : List ℕ). l ++ rest) (sym (head_some ids (omega (arith, all))));
      fits = h.1;
      cut = λ short. (
        refl,
        inr (inl (record { count = n; ids = ids; start = length bytes - length rest; rest = rest; has = h.0; cut = inr (all, short) })),
      );
    }

as_view : {A : Type 0} (bytes : List ℕ) (P Q : A → Type 0) (r : Result A FactFault) → ((a : A) → P a → Q a) → ReadView bytes P r
    → ReadView bytes Q r
as_view bytes P Q (Ok a) more v = more a v
as_view bytes P Q (Err e) more v = v

abbrev HasHead : List ℕ → List JobId × List ℕ → Type 0
HasHead bytes x = IsHead bytes x.0 x.1

some_ids : (bytes behind : List ℕ) (x : ℕ × List ℕ) → bytes ≡ retired_magic ++ behind → IsCounted behind x → (b : Bool) → eqb x.0 0 ≡ b
    → ReadView bytes (HasHead bytes) (cond b (Err (NothingRetired 4)) (list_read (pair_read (length bytes)) x.0 None x.1))
some_ids bytes behind x whole is true none =
    let zero_is : x.0 ≡ 0 = eqb-true x.0 0 none in
    record {
      rest = x.1;
      whole = whole ∙ ap (λ (l : List ℕ). retired_magic ++ l) is.0 ∙ ap (λ (n : ℕ). retired_magic ++ (to_be_bytes w32 n ++ x.1)) zero_is;
      place = refl;
    }
some_ids bytes behind x whole is false more =
    let n = x.0 in
    let some : 0 < n = not_zero n more in
    let all : bytes ≡ retired_magic ++ (to_be_bytes w32 n ++ x.1) = whole ∙ ap (λ (l : List ℕ). retired_magic ++ l) is.0 in
    let start : BehindIds bytes n [] x.1 = (
      record { some = some; count_fits = is.1; each = tt; rise = tt; whole = all; place = omega (arith, ap length all) },
      is.2,
    ) in
    as_view bytes (AreNext (BehindIds bytes n) n []) (HasHead bytes) (list_read (pair_read (length bytes)) n None x.1)
    (λ ids v. ids_head bytes n ids.0 ids.1 some v.0 v.1)
    (list_view (pair_read (length bytes)) bytes n (BehindIds bytes n) (pair_view bytes n) n [] x.1 start (omega arith))
  where
    not_zero : (n : ℕ) → eqb n 0 ≡ false → 0 < n
    not_zero zero e = absurd cc
    not_zero (suc n) e = omega arith

retired_view : (bytes : List ℕ) (version : FactFileVersion) (behind : List ℕ) → bytes ≡ magic_of version ++ behind → AreBytes behind
    → ReadView bytes (HasHead bytes) (retired_read (length bytes) version behind)
unfolding retired_read magic_of
retired_view bytes OfFacts behind whole fits =
    record {
      ids = record { count = omega arith; each = tt; rise = tt };
      whole = whole;
      fits = fits;
      cut = λ short. let f = short_head bytes magic behind refl whole short in (refl, inl (record { short = f.0; front = inl f.1 }));
    }
retired_view bytes OfBoth behind whole fits =
    then_view bytes (IsCounted behind) (HasHead bytes) (count_read (length bytes) behind)
    (λ count. cond (eqb count.0 0) (Err (NothingRetired 4)) (list_read (pair_read (length bytes)) count.0 None count.1))
    (count_view bytes behind fits
    (λ short. let f = short_head bytes retired_magic behind refl whole short in (refl, inl (record { short = f.0; front = inr f.1 }))))
    (λ x is. some_ids bytes behind x whole is (eqb x.0 0) refl)

-- ---- the head

-- what is read behind the version
abbrev pub after_version : ℕ → FactFileVersion × List ℕ → Result (List JobId × ℕ × List ℕ) FactFault
after_version total version =
    retired_read total version.0 version.1 >>= λ retired. count_read total retired.1 >>= λ count. Ok (retired.0, count.0, count.1)

abbrev pub StartsRecords : List ℕ → List JobId × ℕ × List ℕ → Type 0
StartsRecords bytes h = Behind bytes h.0 h.1 [] h.2

starts : (bytes : List ℕ) (x : List JobId × List ℕ) → HasHead bytes x
    → ReadView bytes (StartsRecords bytes) (count_read (length bytes) x.1 >>= λ count. Ok (x.0, count.0, count.1))
starts bytes x head =
    then_view bytes (IsCounted x.1) (StartsRecords bytes) (count_read (length bytes) x.1) (λ count. Ok (x.0, count.0, count.1))
    (count_view bytes x.1 head.fits head.cut)
    (λ count is.
    let all : bytes ≡ head_of x.0 ++ (to_be_bytes w32 count.0 ++ count.1) =
    head.whole ∙ ap (λ (l : List ℕ). head_of x.0 ++ l) is.0 in (
      record {
        ids = head.ids;
        count_fits = is.1;
        each = tt;
        rise = tt;
        apart = tt;
        whole = all;
        place = omega (
          arith,
          ap length all,
          length-append (head_of x.0) (to_be_bytes w32 count.0 ++ count.1),
          length-append (to_be_bytes w32 count.0) count.1,
        );
      },
      is.2,
    ))

pub head_view : (bytes : List ℕ) → AreBytes bytes → ReadView bytes (StartsRecords bytes) (head_read bytes)
unfolding head_read
head_view bytes fits =
    then_view bytes (λ front. bytes ≡ codes "PTF" ++ front) (StartsRecords bytes) (magic_read 0 (codes "PTF") bytes)
    (λ front. version_read front >>= λ version. after_version (length bytes) version)
    (magic_view bytes (magic_read 0 (codes "PTF") bytes) refl)
    (λ front whole.
    then_view bytes (HasMagic bytes) (StartsRecords bytes) (version_read front) (after_version (length bytes))
    (version_view bytes front whole)
    (λ version is.
    then_view bytes (HasHead bytes) (StartsRecords bytes) (retired_read (length bytes) version.0 version.1)
    (λ retired. count_read (length bytes) retired.1 >>= λ count. Ok (retired.0, count.0, count.1))
    (retired_view bytes version.0 version.1 is (behind_bytes (magic_of version.0) version.1 (subst (λ (l : List ℕ). AreBytes l) is fits)))
    (starts bytes)))

-- ---- what was written is read again

version_again : (version : FactFileVersion) (rest : List ℕ)
    → head_read (magic_of version ++ rest) ≡ after_version (length (magic_of version ++ rest)) (version, rest)
unfolding head_read magic_read version_read magic_of
version_again OfFacts rest = refl
version_again OfBoth rest = refl

none_again : (total n : ℕ) (rest : List ℕ) → n < 2 ^ 32 → after_version total (OfFacts, to_be_bytes w32 n ++ rest) ≡ Ok ([], n, rest)
unfolding retired_read
none_again total n rest lt = rw (count_again total n rest lt) refl

some_again : (total : ℕ) (ids : List JobId) (n : ℕ) (rest : List ℕ) → 0 < length ids → AreIds ids → n < 2 ^ 32
    → after_version total (OfBoth, to_be_bytes w32 (length ids) ++ (flat_map ids_bytes ids ++ (to_be_bytes w32 n ++ rest))) ≡ Ok (ids, n, rest)
unfolding retired_read
some_again total ids n rest some are lt =
    let behind = to_be_bytes w32 n ++ rest in
    let counted = count_again total (length ids) (flat_map ids_bytes ids ++ behind) are.count in
    let listed : list_read (pair_read total) (length ids) None (flat_map ids_bytes ids ++ behind) ≡ Ok (ids, behind) =
    list_again (pair_read total) ids_cmp ids_bytes IsIds (step_again total) ids None behind are.each are.rise in
    let test : eqb (length ids) 0 ≡ false = not_none (length ids) some in
    rw (counted, test, listed, count_again total n rest lt) refl
  where
    not_none : (n : ℕ) → 0 < n → eqb n 0 ≡ false
    not_none zero h = absurd (omega arith)
    not_none (suc n) h = eqb-suc-zero n

pub head_again : (retired : List JobId) (n : ℕ) (rest : List ℕ) → AreIds retired → n < 2 ^ 32
    → head_read (head_of retired ++ (to_be_bytes w32 n ++ rest)) ≡ Ok (retired, n, rest)
unfolding magic_of
head_again [] n rest are lt = version_again OfFacts (to_be_bytes w32 n ++ rest) ∙ none_again _ n rest lt
head_again (i ∷ more) n rest are lt =
    let ids = i ∷ more in
    let count = to_be_bytes w32 (length ids) in
    let behind = to_be_bytes w32 n ++ rest in
    let parts : head_of ids ++ behind ≡ retired_magic ++ (count ++ (flat_map ids_bytes ids ++ behind)) =
    append_assoc retired_magic (count ++ flat_map ids_bytes ids) behind
    ∙ ap (λ (l : List ℕ). retired_magic ++ l) (append_assoc count (flat_map ids_bytes ids) behind) in
    ap head_read parts ∙ version_again OfBoth (count ++ (flat_map ids_bytes ids ++ behind))
    ∙ some_again _ ids n rest (omega arith) are lt
