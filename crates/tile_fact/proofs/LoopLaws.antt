-- Reading one thing after another, as a loop does.
use Rattle.std.proofs.Common.{◌≡◌, ℕ, zero, suc, ◌-◌, ◌+◌, ◌≤◌, ◌<◌, Bool, false, true, cond, List, [], ◌∷◌, ◌++◌, length, Option, None}
use Rattle.std.proofs.Common.{Some, Result, Ok, Err, refl, sym, ap, subst, ◌∙◌, append_assoc, append-nil, arith}
use Rattle.std.proofs.lemmas.Bool.{eqb-true}
use Rattle.std.proofs.Math.Dec.{eqb-suc-zero}
use Rattle.std.specs.Prelude.{◌==◌}
use Rattle.identity.specs.declared.job_ids.JobId.{JobId}
use Rattle.tile_fact.specs.declared.fact.Fact.{Fact}
use Rattle.tile_fact.specs.declared.fault.FactFault.{FactFault}
use Rattle.tile_fact.specs.declared.fault.FactFault.TheVariants.{NotRising, TrailingBytes, RetiredFact}
use Rattle.tile_fact.specs.FactFile.{is_retired}
use Rattle.tile_fact.specs.Gives.{IsRead}
use Rattle.tile_fact.specs.Order.{fact_cmp}
use Rattle.tile_fact.specs.Reading.{◌>>=◌, is_above, list_read, record_read, fact_read, end_read, body_read}

-- what was read before, and what is still read
abbrev pub with_front : {X : Type 0} → List X → Result (List X × List ℕ) FactFault → Result (List X × List ℕ) FactFault
with_front front read = read >>= λ x. Ok (front ++ x.0, x.1)

regroup : {X : Type 0} (front : List X) (x : X) (read : Result (List X × List ℕ) FactFault)
    → with_front front (read >>= λ others. Ok (x ∷ others.0, others.1)) ≡ with_front (front ++ x ∷ []) read
regroup {X = X} front x (Ok others) = ap (λ (l : List X). Ok (l, others.1)) (sym (append_assoc front (x ∷ []) others.0))
regroup front x (Err e) = refl

pub starts : {X : Type 0} (read : Result (List X × List ℕ) FactFault) → with_front [] read ≡ read
starts (Ok x) = refl
starts (Err e) = refl

pub never_read : {Y : Type 0} (r : Result Y FactFault) (e : FactFault) → r ≡ Err e → IsRead r → ⊥
never_read (Ok y) e h read = cc
never_read (Err d) e h read = read

is_read : {Y : Type 0} (r : Result Y FactFault) (y : Y) → r ≡ Ok y → IsRead r
is_read (Ok x) y e = tt
is_read (Err d) y e = absurd cc

module _ {X : Type 0} (step : Option X → List ℕ → Result (X × List ℕ) FactFault) (front : List X) (count i : ℕ) (last : Option X)
    (bytes : List ℕ) (whole : Result (List X × List ℕ) FactFault) (so_far : with_front front (list_read step (count - i) last bytes) ≡ whole) where
  pub goes_on : (x : X) (behind : List ℕ) → i < count → step last bytes ≡ Ok (x, behind)
      → with_front (front ++ x ∷ []) (list_read step (count - (i + 1)) (Some x) behind) ≡ whole
  unfolding list_read
  goes_on x behind lt h =
      let k : count - i ≡ suc (count - (i + 1)) = omega arith in
      let one : with_front front (list_read step (count - i) last bytes) ≡ with_front (front ++ x ∷ [])
      (list_read step (count - (i + 1)) (Some x) behind) =
      rw (k, h) (regroup front x (list_read step (count - (i + 1)) (Some x) behind)) in
      sym one ∙ so_far

  pub fails : (e : FactFault) → i < count → step last bytes ≡ Err e → whole ≡ Err e
  unfolding list_read
  fails e lt h =
      let k : count - i ≡ suc (count - (i + 1)) = omega arith in
      let one : with_front front (list_read step (count - i) last bytes) ≡ Err e = rw (k, h) refl in
      sym so_far ∙ one

  pub is_done : count ≤ i → whole ≡ Ok (front, bytes)
  unfolding list_read
  is_done le =
      let k : count - i ≡ 0 = omega arith in
      let one : with_front front (list_read step (count - i) last bytes) ≡ Ok (front, bytes) =
      rw k (ap (λ (l : List X). Ok (l, bytes)) (append-nil front)) in
      sym so_far ∙ one

  -- where reading ends well, each step does
  pub must_step : i < count → IsRead whole → IsRead (step last bytes)
  must_step lt read = by (step last bytes) refl
    where
      by : (r : Result (X × List ℕ) FactFault) → step last bytes ≡ r → IsRead r
      by (Ok x) h = tt
      by (Err e) h = never_read whole e (fails e lt h) read

-- ---- a record

module _ (total : ℕ) (retired : List JobId) (last : Option Fact) (bytes : List ℕ) where
  pub fact_err : (e : FactFault) → record_read total bytes ≡ Err e → fact_read total retired last bytes ≡ Err e
  unfolding fact_read
  fact_err e h = rw h refl

  pub fact_low : (x : Fact × List ℕ) → record_read total bytes ≡ Ok x → is_above fact_cmp last x.0 ≡ false
      → fact_read total retired last bytes ≡ Err (NotRising (total - length bytes))
  unfolding fact_read
  fact_low x h low = rw (h, low) refl

  pub fact_gone : (x : Fact × List ℕ) → record_read total bytes ≡ Ok x → is_above fact_cmp last x.0 ≡ true
      → is_retired retired x.0 ≡ true → fact_read total retired last bytes ≡ Err (RetiredFact (total - length bytes))
  unfolding fact_read
  fact_gone x h high gone = rw (h, high, gone) refl

  pub fact_next : (x : Fact × List ℕ) → record_read total bytes ≡ Ok x → is_above fact_cmp last x.0 ≡ true
      → is_retired retired x.0 ≡ false → fact_read total retired last bytes ≡ Ok x
  unfolding fact_read
  fact_next x h high live = rw (h, high, live) refl

-- where a record is read, and its fact may stand here, it is the step's answer
pub fact_of_step : (total : ℕ) (retired : List JobId) (last : Option Fact) (bytes : List ℕ) (x : Fact × List ℕ)
    → record_read total bytes ≡ Ok x → IsRead (fact_read total retired last bytes) → fact_read total retired last bytes ≡ Ok x
unfolding fact_read
fact_of_step total retired last bytes x h read =
    let is : fact_read total retired last bytes ≡ judged (is_above fact_cmp last x.0) (is_retired retired x.0) = rw h refl in
    is ∙ by (is_above fact_cmp last x.0) (is_retired retired x.0) (subst IsRead is read)
  where
    judged : Bool → Bool → Result (Fact × List ℕ) FactFault
    judged above of = cond above (cond of (Err (RetiredFact (total - length bytes))) (Ok x)) (Err (NotRising (total - length bytes)))

    by : (above of : Bool) → IsRead (judged above of) → judged above of ≡ Ok x
    by true false read = refl
    by true true read = absurd read
    by false of read = absurd read

-- ---- the records as a whole

module _ (total : ℕ) (retired : List JobId) (count : ℕ) (bytes : List ℕ) where
  pub body_fails : (e : FactFault) → list_read (fact_read total retired) count None bytes ≡ Err e
      → body_read total retired count bytes ≡ Err e
  unfolding body_read
  body_fails e h = rw h refl

  pub body_ends : (rest : List ℕ) (facts : List Fact) → list_read (fact_read total retired) count None bytes ≡ Ok (facts, rest)
      → body_read total retired count bytes ≡ end_read total facts rest
  unfolding body_read
  body_ends rest facts h = rw h refl

  pub body_has_records : IsRead (body_read total retired count bytes) → IsRead (list_read (fact_read total retired) count None bytes)
  unfolding body_read
  body_has_records read = first_read (list_read (fact_read total retired) count None bytes) (λ x. end_read total x.0 x.1) read
    where
      first_read : {A B : Type 0} (r : Result A FactFault) (f : A → Result B FactFault) → IsRead (r >>= f) → IsRead r
      first_read (Ok x) f h = tt
      first_read (Err e) f h = h

pub ends_well : (total : ℕ) (facts : List Fact) (rest : List ℕ) → length rest ≡ 0 → end_read total facts rest ≡ Ok facts
unfolding end_read
ends_well total facts rest none = rw none refl

pub ends_late : (total : ℕ) (facts : List Fact) (rest : List ℕ) → 0 < length rest
    → end_read total facts rest ≡ Err (TrailingBytes (total - length rest))
unfolding end_read
ends_late total facts [] some = absurd (omega arith)
ends_late total facts (byte ∷ rest) some = rw (eqb-suc-zero (length rest)) refl

pub read_ends : (total : ℕ) (facts : List Fact) (rest : List ℕ) → IsRead (end_read total facts rest) → end_read total facts rest ≡ Ok facts
unfolding end_read
read_ends total facts [] read = refl
read_ends total facts (byte ∷ rest) read = absurd (never_read _ _ (ends_late total facts (byte ∷ rest) (omega arith)) read)

-- ---- what the loops give

pub checked : (facts : List Fact) (total : ℕ) (retired : List JobId) (count : ℕ) (bytes rest : List ℕ)
    → list_read (fact_read total retired) count None bytes ≡ Ok (facts, rest)
    → length rest ≡ 0 → IsRead (body_read total retired count bytes)
checked facts total retired count bytes rest h none =
    is_read _ facts (body_ends total retired count bytes rest facts h ∙ ends_well total facts rest none)

-- the facts of records that were checked
pub are_all : (total : ℕ) (retired : List JobId) (count : ℕ) (bytes rest : List ℕ) (facts : List Fact)
    → IsRead (body_read total retired count bytes) → list_read (fact_read total retired) count None bytes ≡ Ok (facts, rest)
    → body_read total retired count bytes ≡ Ok facts
are_all total retired count bytes rest facts read h =
    let ends = body_ends total retired count bytes rest facts h in
    ends ∙ read_ends total facts rest (subst (λ (r : Result (List Fact) FactFault). IsRead r) ends read)

pub some_left : (n : ℕ) → false ≡ (n == 0) → 0 < n
some_left zero e = absurd cc
some_left (suc n) e = omega arith

pub none_left : (n : ℕ) → true ≡ (n == 0) → n ≡ 0
none_left n e = eqb-true n 0 (sym e)
