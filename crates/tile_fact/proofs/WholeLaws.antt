-- The whole file.
use Rattle.std.proofs.Common.{◌≡◌, ℕ, ◌^◌, ◌<◌, inl, inr, false, List, [], ◌∷◌, ◌++◌, length, None}
use Rattle.std.proofs.Common.{Result, Ok, Err, refl, sym, ap, subst, ◌∙◌, append-nil, arith}
use Rattle.std.specs.Int.{w32, to_be_bytes}
use Rattle.std.specs.List.{flat_map}
use Rattle.identity.specs.declared.job_ids.JobId.{JobId}
use Rattle.tile_fact.specs.declared.fact.Fact.{Fact}
use Rattle.tile_fact.specs.declared.fault.FactFault.{FactFault}
use Rattle.tile_fact.specs.declared.fault.FactFault.TheVariants.{Memory}
use Rattle.tile_fact.specs.FactFile.{AreBytes, IsFact, AreContents, IsFactFile, fact_record, head_of, is_retired}
use Rattle.tile_fact.specs.Faults.{IsFault}
use Rattle.tile_fact.specs.Gives.{IsRead, Fails}
use Rattle.tile_fact.specs.Order.{fact_cmp}
use Rattle.tile_fact.specs.Reading.{◌>>=◌, list_read, fact_read, end_read, body_read, head_read, file_read}
use Rattle.tile_fact.proofs.FactLaws.{record_again}
use Rattle.tile_fact.proofs.FileLaws.{Behind, records_view}
use Rattle.tile_fact.proofs.HeadLaws.{StartsRecords, head_view, head_again}
use Rattle.tile_fact.proofs.LoopLaws.{ends_late, fact_next}
use Rattle.tile_fact.proofs.ViewLaws.{ReadView, then_view, AreNext, list_again, all_both}

-- ---- the file of some jobs and facts is read as these

body_again : (total : ℕ) (retired : List JobId) (facts : List Fact) → AreContents retired facts
    → body_read total retired (length facts) (flat_map fact_record facts) ≡ Ok facts
unfolding body_read end_read
body_again total retired facts is =
    let Good : Fact → Type 0 = λ f. IsFact f × (is_retired retired f ≡ false) in
    let records : list_read (fact_read total retired) (length facts) None (flat_map fact_record facts) ≡ Ok (facts, []) =
    ap (list_read (fact_read total retired) (length facts) None) (sym (append-nil (flat_map fact_record facts)))
    ∙ list_again (fact_read total retired) fact_cmp fact_record Good
    (λ last fact rest good above. fact_next total retired last _ (fact, rest) (record_again total fact rest good.0) above good.1) facts None []
    (all_both IsFact (λ f. is_retired retired f ≡ false) facts is.facts_are.each is.apart) is.facts_are.rise in
    rw records refl

pub file_again : (bytes : List ℕ) (retired : List JobId) (facts : List Fact) → IsFactFile bytes retired facts
    → file_read bytes ≡ Ok (retired, facts)
unfolding file_read
file_again bytes retired facts is =
    ap file_read is.spelled
    ∙ rw (
      head_again retired (length facts) (flat_map fact_record facts) is.contents.ids is.contents.facts_are.count,
      body_again _ retired facts is.contents,
    ) refl

-- ---- what is read

abbrev pub HasContents : List ℕ → List JobId × List Fact → Type 0
HasContents bytes x = IsFactFile bytes x.0 x.1

module _ (bytes : List ℕ) (retired : List JobId) (count : ℕ) where
  whole_file : (facts : List Fact) → AreNext (Behind bytes retired count) count [] (facts, []) → IsFactFile bytes retired facts
  whole_file facts v =
      let has = v.0.0 in
      record {
        contents =
            record {
              ids = has.ids;
              facts_are =
                  record { count = subst (λ (n : ℕ). n < 2 ^ 32) (sym v.1) has.count_fits; each = has.each; rise = has.rise };
              apart = has.apart;
            };
        spelled =
            has.whole
            ∙ ap (λ (l : List ℕ). head_of retired ++ (to_be_bytes w32 count ++ l)) (append-nil (flat_map fact_record facts))
            ∙ ap (λ (n : ℕ). head_of retired ++ (to_be_bytes w32 n ++ flat_map fact_record facts)) (sym v.1);
      }

  end_view : (facts : List Fact) (rest : List ℕ) → AreNext (Behind bytes retired count) count [] (facts, rest)
      → ReadView bytes (IsFactFile bytes retired) (end_read (length bytes) facts rest)
  unfolding end_read
  end_view facts [] v = whole_file facts v
  end_view facts (byte ∷ rest) v =
      subst (λ (r : Result (List Fact) FactFault). ReadView bytes (IsFactFile bytes retired) r)
      (sym (ends_late (length bytes) facts (byte ∷ rest) (omega arith)))
      (record { retired = retired; count = count; facts = facts; rest = byte ∷ rest; has = v.0.0; all = v.1; some = omega arith })

  body_view : (rest : List ℕ) → Behind bytes retired count [] rest
      → ReadView bytes (IsFactFile bytes retired) (body_read (length bytes) retired count rest)
  unfolding body_read
  body_view rest h =
      then_view bytes (AreNext (Behind bytes retired count) count []) (IsFactFile bytes retired)
      (list_read (fact_read (length bytes) retired) count None rest) (λ x. end_read (length bytes) x.0 x.1)
      (records_view bytes retired count rest h) (λ x v. end_view x.0 x.1 v)

pub file_view : (bytes : List ℕ) → AreBytes bytes → ReadView bytes (HasContents bytes) (file_read bytes)
unfolding file_read
file_view bytes fits =
    then_view bytes (StartsRecords bytes) (HasContents bytes) (head_read bytes)
    (λ head. body_read (length bytes) head.0 head.1 head.2 >>= λ facts. Ok (head.0, facts)) (head_view bytes fits)
    (λ head h.
    then_view bytes (IsFactFile bytes head.0) (HasContents bytes) (body_read (length bytes) head.0 head.1 head.2) (λ facts. Ok (head.0, facts))
    (body_view bytes head.0 head.1 head.2 h) (λ facts is. is))

-- ---- what callers see

pub is_found : (bytes : List ℕ) (x : List JobId × List Fact) → AreBytes bytes → file_read bytes ≡ Ok x → IsFactFile bytes x.0 x.1
is_found bytes x fits e =
    subst (λ (r : Result (List JobId × List Fact) FactFault). ReadView bytes (HasContents bytes) r) e (file_view bytes fits)

pub same_contents : (bytes : List ℕ) (x : List JobId × List Fact) (retired : List JobId) (facts : List Fact) → file_read bytes ≡ Ok x
    → IsFactFile bytes retired facts → x ≡ (retired, facts)
same_contents bytes x retired facts e is = same_ok x (retired, facts) (sym e ∙ file_again bytes retired facts is)
  where
    same_ok : (a b : List JobId × List Fact) → (let r : Result (List JobId × List Fact) FactFault = Ok a in r) ≡ Ok b → a ≡ b
    same_ok a b h = cc

-- no bytes are two files
pub one_file : (bytes : List ℕ) (jobs others : List JobId) (facts other_facts : List Fact) → IsFactFile bytes jobs facts
    → IsFactFile bytes others other_facts → (jobs ≡ others) × (facts ≡ other_facts)
one_file bytes jobs others facts other_facts is also =
    let same = same_contents bytes (jobs, facts) others other_facts (file_again bytes jobs facts is) also in
    (ap (λ (x : List JobId × List Fact). x.0) same, ap (λ (x : List JobId × List Fact). x.1) same)

pub is_memory : (bytes : List ℕ) (retired : List JobId) (facts : List Fact) (e : FactFault) → Fails e (file_read bytes)
    → IsFactFile bytes retired facts → e ≡ Memory
is_memory bytes retired facts e f is = elim f [
  | inl failed ↦ absurd (not_both (retired, facts) e (sym (file_again bytes retired facts is) ∙ failed))
  | inr (memory, read) ↦ memory
]
  where
    not_both : (a : List JobId × List Fact) (e : FactFault) → (let r : Result (List JobId × List Fact) FactFault = Ok a in r) ≡ Err e → ⊥
    not_both a e h = cc

memory_fault : (bytes : List ℕ) (r : Result (List JobId × List Fact) FactFault) → ReadView bytes (HasContents bytes) r → IsRead r
    → IsFault bytes Memory
memory_fault bytes (Ok x) v read = (x.0, x.1, v)
memory_fault bytes (Err e) v read = absurd read

pub is_fault : (bytes : List ℕ) (e : FactFault) → AreBytes bytes → Fails e (file_read bytes) → IsFault bytes e
is_fault bytes e fits f = elim f [
  | inl failed ↦
      subst (λ (r : Result (List JobId × List Fact) FactFault). ReadView bytes (HasContents bytes) r) failed (file_view bytes fits)
  | inr (memory, read) ↦ subst (λ (d : FactFault). IsFault bytes d) (sym memory)
      (memory_fault bytes (file_read bytes) (file_view bytes fits) read)
]
