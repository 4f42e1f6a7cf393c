-- The records of a file one after the other.
use Rattle.std.proofs.Common.{◌≡◌, ℕ, ◌-◌, ◌<◌, inr, Bool, true, false, cond, List, [], ◌∷◌, ◌++◌, length}
use Rattle.std.proofs.Common.{None, Result, Ok, Err, refl, sym, ap, subst, ◌∙◌, append_assoc, append-nil, arith}
use Rattle.std.proofs.lemmas.List.{length-append}
use Rattle.std.proofs.lemmas.List.Concat.{flat_map-cons, flat_map-append}
use Rattle.std.specs.Int.{w32, to_be_bytes}
use Rattle.std.specs.List.{flat_map}
use Rattle.identity.specs.declared.job_ids.JobId.{JobId}
use Rattle.tile_fact.specs.declared.fact.Fact.{Fact}
use Rattle.tile_fact.specs.declared.fault.FactFault.{FactFault}
use Rattle.tile_fact.specs.declared.fault.FactFault.TheVariants.{BadMagic, Cut, NotRising, BadKind, TooLong, TrailingBytes, Memory, RetiredFact}
use Rattle.tile_fact.specs.declared.fault.FactFault.TheVariants.{NothingRetired}
use Rattle.tile_fact.specs.FactFile.{AreBytes, IsFact, fact_record, head_of, is_retired}
use Rattle.tile_fact.specs.Faults.{HasRecords, IsFault}
use Rattle.tile_fact.specs.Order.{fact_cmp}
use Rattle.tile_fact.specs.Reading.{◌>>=◌, is_above, record_read, fact_read, list_read}
use Rattle.tile_fact.proofs.FactLaws.{Taken, record_takes}
use Rattle.tile_fact.proofs.RecordFaults.{IsRecordFault, record_faults}
use Rattle.tile_fact.proofs.RisingLaws.{last_after, rises_more, not_rising}
use Rattle.tile_fact.proofs.ViewLaws.{ReadView, IsNext, AreNext, list_view, all_more}

-- list of things with one more behind them
pub one_behind : {X : Type 0} (written : X → List ℕ) (xs : List X) (x : X) (rest behind : List ℕ) → rest ≡ written x ++ behind
    → flat_map written xs ++ rest ≡ flat_map written (xs ++ x ∷ []) ++ behind
one_behind written xs x rest behind is =
    let one : flat_map written (xs ++ x ∷ []) ≡ flat_map written xs ++ written x =
    flat_map-append written xs (x ∷ [])
    ∙ ap (λ (l : List ℕ). flat_map written xs ++ l) (flat_map-cons written x [] ∙ append-nil (written x)) in
    ap (λ (l : List ℕ). flat_map written xs ++ l) is ∙ sym (append_assoc (flat_map written xs) (written x) behind)
    ∙ ap (λ (l : List ℕ). l ++ behind) (sym one)

module _ (bytes : List ℕ) (retired : List JobId) (count : ℕ) where
  -- behind these facts this is left
  abbrev pub Behind : List Fact → List ℕ → Type 0
  Behind facts rest = HasRecords bytes retired count facts (length bytes - length rest) rest × AreBytes rest

  module _ (facts : List Fact) (at : ℕ) (rest : List ℕ) (h : HasRecords bytes retired count facts at rest) (few : length facts < count) where
    here : length bytes - length rest ≡ at
    here = omega (arith, h.place)

    lift_fault : (e : FactFault) → IsRecordFault (length bytes) at rest e → IsFault bytes e
    lift_fault (BadMagic i) f = absurd f
    lift_fault (Cut i) f = (
      f.0,
      inr (inr (record {
        start = at;
        rest = rest;
        awaits = record { retired = retired; count = count; facts = facts; has = h; few = few };
        cut = f.1;
      })),
    )
    lift_fault (NotRising i) f = absurd f
    lift_fault (BadKind i) (key, byte, body, whole, len, bad, place) =
        record {
          start = at;
          key = key;
          byte = byte;
          body = body;
          awaits =
              record {
                retired = retired;
                count = count;
                facts = facts;
                has = subst (λ (l : List ℕ). HasRecords bytes retired count facts at l) whole h;
                few = few;
              };
          key_is = len;
          no_kind = bad;
          place = place;
        }
    lift_fault (TooLong i) (key, kind, len, behind, whole, key_len, fits, long, place) =
        record {
          start = at;
          key = key;
          kind = kind;
          len = len;
          behind = behind;
          awaits =
              record {
                retired = retired;
                count = count;
                facts = facts;
                has = subst (λ (l : List ℕ). HasRecords bytes retired count facts at l) whole h;
                few = few;
              };
          key_is = key_len;
          len_fits = fits;
          too_long = long;
          place = place;
        }
    lift_fault (TrailingBytes i) f = absurd f
    lift_fault Memory f = absurd f
    lift_fault (RetiredFact i) f = absurd f
    lift_fault (NothingRetired i) f = absurd f

    module _ (fact : Fact) (behind : List ℕ) (t : Taken rest fact behind) where
      low_fault : is_above fact_cmp (last_after None facts) fact ≡ false → IsFault bytes (NotRising (length bytes - length rest))
      low_fault low =
          subst (λ (i : ℕ). IsFault bytes (NotRising i)) (sym here) (inr (record {
            retired = retired;
            count = count;
            facts = facts;
            fact = fact;
            behind = behind;
            has = subst (λ (l : List ℕ). HasRecords bytes retired count facts at l) t.whole h;
            few = few;
            fact_is = t.fact_is;
            low = not_rising fact_cmp facts fact low;
          }))

      module _ (high : is_above fact_cmp (last_after None facts) fact ≡ true) where
        gone_fault : is_retired retired fact ≡ true → IsFault bytes (RetiredFact (length bytes - length rest))
        gone_fault gone =
            subst (λ (i : ℕ). IsFault bytes (RetiredFact i)) (sym here) (record {
              retired = retired;
              count = count;
              facts = facts;
              fact = fact;
              behind = behind;
              has = subst (λ (l : List ℕ). HasRecords bytes retired count facts at l) t.whole h;
              few = few;
              fact_is = t.fact_is;
              high = rises_more fact_cmp None facts fact h.rise high;
              is_of = gone;
            })

        has_more : is_retired retired fact ≡ false → Behind (facts ++ fact ∷ []) behind
        has_more live = (
          record {
            ids = h.ids;
            count_fits = h.count_fits;
            each = all_more IsFact facts fact h.each t.fact_is;
            rise = rises_more fact_cmp None facts fact h.rise high;
            apart = all_more (λ f. is_retired retired f ≡ false) facts fact h.apart live;
            whole =
                h.whole
                ∙ ap (λ (l : List ℕ). head_of retired ++ (to_be_bytes w32 count ++ l)) (one_behind fact_record facts fact rest behind t.whole);
            place = omega (arith, h.place, ap length t.whole, length-append (fact_record fact) behind);
          },
          t.rest_bytes,
        )

        by_retirement : (b : Bool) → is_retired retired fact ≡ b
            → ReadView bytes (IsNext Behind facts) (cond b (Err (RetiredFact (length bytes - length rest))) (Ok (fact, behind)))
        by_retirement true gone = gone_fault gone
        by_retirement false live = has_more live

      by_order : (b : Bool) → is_above fact_cmp (last_after None facts) fact ≡ b
          → ReadView bytes (IsNext Behind facts)
          (cond b (cond (is_retired retired fact) (Err (RetiredFact (length bytes - length rest))) (Ok (fact, behind)))
          (Err (NotRising (length bytes - length rest))))
      by_order true high = by_retirement high (is_retired retired fact) refl
      by_order false low = low_fault low

    by_record : AreBytes rest → (r : Result (Fact × List ℕ) FactFault) → record_read (length bytes) rest ≡ r
        → ReadView bytes (IsNext Behind facts)
        (r >>= λ first. cond (is_above fact_cmp (last_after None facts) first.0)
        (cond (is_retired retired first.0) (Err (RetiredFact (length bytes - length rest))) (Ok first))
        (Err (NotRising (length bytes - length rest))))
    by_record fits (Ok x) is =
        by_order x.0 x.1 (record_takes (length bytes) rest x.0 x.1 fits is) (is_above fact_cmp (last_after None facts) x.0) refl
    by_record fits (Err e) is = lift_fault e (record_faults (length bytes) at rest e h.place fits is)

  fact_view : (facts : List Fact) (rest : List ℕ) → length facts < count → Behind facts rest
      → ReadView bytes (IsNext Behind facts)
      (fact_read (length bytes) retired (last_after None facts) rest)
  unfolding fact_read
  fact_view facts rest few h =
      by_record facts (length bytes - length rest) rest h.0 few h.1 (record_read (length bytes) rest) refl

  pub records_view : (rest : List ℕ) → Behind [] rest
      → ReadView bytes (AreNext Behind count [])
      (list_read (fact_read (length bytes) retired) count None rest)
  records_view rest h = list_view (fact_read (length bytes) retired) bytes count Behind fact_view count [] rest h (omega arith)
