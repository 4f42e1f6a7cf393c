-- A worker goes on from where it stands.
use Rattle.std.proofs.Common.{◌≡◌, ◌∙◌, sym, ap, subst}
use Rattle.std.proofs.Math.Seq.{split_at}
use Rattle.std.proofs.lemmas.List.{length-append, map-append, take_more}
use Rattle.std.proofs.lemmas.List.Sums.{fold-append}
use Rattle.std.specs.List.{fold}
use Rattle.std.specs.Prelude.{◌≤◌, ◌<◌, ◌+◌, ℕ, suc, Option, List, [], ◌∷◌, ◌++◌, length, map, take, drop, get_or}
use Rattle.identity.specs.declared.key.Key.{Key}
use Rattle.tile_fact.specs.declared.fact.Fact.{Fact}
use Rattle.tile_fact.specs.declared.update.Update.{Update}
use Rattle.farm_turns.specs.Calls.{Call, Calls, Entered, Computed, Released}
use Rattle.farm_turns.specs.Shifts.{IsAt, HasTurned, HasRun, GoesThrough, one_more}
use Rattle.farm_turns.specs.Turns.{A_key, WorkOutcome, Progress, IsWorkOutcome, MakeOutcome, PassReason, after_turn, with_call, passed_key, after_keeping, after_making, open_keys, after_picking, after_parcels, after_restarting, after_passing_all, after_parcel, after_passing, after_working}
use Rattle.farm_turns.specs.declared.counts.TurnCounts.{TurnCounts}
use Rattle.farm_turns.specs.declared.rules.TurnRules.{TurnRules}

module _ {S : Type 0} (has_log : S → List Call → Type 0) where
  -- by one call
  pub at_call : {old new : S} {counts : TurnCounts} (call : Call) (g : Progress) → Calls has_log old new call → IsAt has_log old counts g
      → IsAt has_log new counts (with_call g call)
  at_call call g calls at = record {
    log = calls g.log at.log;
    repeated = at.repeated;
    lost = at.lost;
    settled = at.settled;
    settling = at.settling;
  }

  pub at_computed : {old new : S} {counts : TurnCounts} (key : Key) (facts facts' : List Fact) (made made' : Option Fact) (g : Progress)
      → facts ≡ facts' → made ≡ made' → Calls has_log old new (Computed key facts made) → IsAt has_log old counts g
      → IsAt has_log new counts (with_call g (Computed key facts' made'))
  at_computed {new} {counts} key facts facts' made made' g same one calls at =
      subst (λ (fs : List Fact). IsAt has_log new counts (with_call g (Computed key fs made'))) same
      (subst (λ (m : Option Fact). IsAt has_log new counts (with_call g (Computed key facts m))) one
      (at_call (Computed key facts made) g calls at))

  -- by one parcel more
  pub at_parcel : {place : S} {counts : TurnCounts} (now rules : TurnRules) (s : Progress) (parcels : List (List Update)) (updates : List Update) (n : ℕ)
      → now ≡ rules → length parcels ≡ n → IsAt has_log place counts (after_parcel now (fold (after_parcel rules) s parcels) updates)
      → (more : List (List Update)) × (length more ≡ n + 1) × IsAt has_log place counts (fold (after_parcel rules) s more)
  at_parcel {place} {counts} now rules s parcels updates n same len at = (
    parcels ++ updates ∷ [],
    length-append parcels (updates ∷ []) ∙ ap (λ (k : ℕ). k + 1) len,
    rw (fold-append (after_parcel rules) s parcels (updates ∷ []))
        (subst (λ (r : TurnRules). IsAt has_log place counts (after_parcel r (fold (after_parcel rules) s parcels) updates)) same at),
  )

  -- by one key more that is passed over
  pub at_passed : {place : S} {counts : TurnCounts} (now rules : TurnRules) (turn : ℕ) (s : Progress) (keys : List Key) (i : ℕ) (passed : List (Key × PassReason)) (key : Key) (why : PassReason)
      → now ≡ rules → i < length keys → key ≡ get_or keys i key → map passed_key passed ≡ take i keys
      → IsAt has_log place counts (after_passing now turn (after_passing_all rules turn s passed) key why)
      → (more : List (Key × PassReason)) × (map passed_key more ≡ take (i + 1) keys) × IsAt has_log place counts (after_passing_all rules turn s more)
  at_passed {place} {counts} now rules turn s keys i passed key why same within is front at = (
    passed ++ (key, why) ∷ [],
    map-append passed_key passed ((key, why) ∷ []) ∙ ap (λ (ks : List Key). ks ++ key ∷ []) front
        ∙ ap (λ (k : Key). take i keys ++ k ∷ []) is ∙ sym (take_more keys i key within),
    rw (fold-append (λ (before : Progress) (p : Key × PassReason). after_passing rules turn before p.0 p.1) _ passed ((key, why) ∷ []))
        (subst (λ (r : TurnRules). IsAt has_log place counts (after_passing r turn (after_passing_all rules turn s passed) key why)) same at),
  )

  -- by a key that is picked, what is made of it, and the end of its lease
  pub at_worked : {p0 p1 p2 p3 : S} {c0 c1 c2 c3 : TurnCounts} (rules r1 r2 : TurnRules) (turn : ℕ) (key : Key) (needs : List Key) → r1 ≡ rules → r2 ≡ r1
      → ((g : Progress) → IsAt has_log p0 c0 g → (passed : List (Key × PassReason)) × (rest : List Key)
      × (open_keys rules g ≡ map passed_key passed ++ key ∷ rest) × IsAt has_log p1 c1 (after_picking rules turn (after_passing_all rules turn g passed) key needs))
      → ((g : Progress) → IsAt has_log p1 c1 g → (making : MakeOutcome) × IsAt has_log p2 c2 (after_making r1 turn key needs g making))
      → ((g : Progress) → IsAt has_log p2 c2 g → IsAt has_log p3 c3 (with_call g (Released turn r2.number key)))
      → (g : Progress) → IsAt has_log p0 c0 g
      → (finding : WorkOutcome) × IsWorkOutcome rules g finding × IsAt has_log p3 c3 (after_working rules turn g finding)
  at_worked {p1} {p2} {p3} {c1} {c2} {c3} rules r1 r2 turn key needs same1 same2 pick make release g at =
      let p = pick g at in
      let m = subst (λ (x : TurnRules). (g : Progress) → IsAt has_log p1 c1 g → (making : MakeOutcome) × IsAt has_log p2 c2 (after_making x turn key needs g making)) same1 make _ p.3 in
      let r = subst (λ (x : TurnRules). (g : Progress) → IsAt has_log p2 c2 g → IsAt has_log p3 c3 (with_call g (Released turn x.number key))) (same2 ∙ same1) release in
      (A_key p.0 key needs m.0, (p.1, p.2), r _ m.1)

  -- through a turn
  pub at_turn : {p0 p1 p2 p3 p4 p5 : S} {c0 c2 c3 c4 c5 : TurnCounts} (rules r2 r4 : TurnRules) (turn : ℕ) → r2 ≡ rules → r4 ≡ rules
      → Calls has_log p0 p1 (Entered rules.number turn)
      → ((g : Progress) → IsAt has_log p1 c0 g
      → (parcels : List (List Update)) × (length parcels ≤ rules.setup.capacity) × IsAt has_log p2 c2 (after_parcels rules g parcels))
      → ((g : Progress) → IsAt has_log p2 c2 g
      → (finding : WorkOutcome) × IsWorkOutcome r2 g finding × IsAt has_log p3 c3 (after_working r2 turn g finding))
      → ((g : Progress) → IsAt has_log p3 c3 g → IsAt has_log p4 c4 (after_keeping turn g))
      → ((g : Progress) → IsAt has_log p4 c4 g → IsAt has_log p5 c5 (after_restarting r4 turn g))
      → (g : Progress) → IsAt has_log p0 c0 g → HasTurned has_log p5 c5 rules turn g
  at_turn {p2} {p3} {p4} {p5} {c2} {c3} {c4} {c5} rules r2 r4 turn same2 same4 enter receive work keep restart g at =
      let r = receive (with_call g (Entered rules.number turn)) (at_call (Entered rules.number turn) g enter at) in
      let w = subst (λ (x : TurnRules). (g : Progress) → IsAt has_log p2 c2 g
      → (finding : WorkOutcome) × IsWorkOutcome x g finding × IsAt has_log p3 c3 (after_working x turn g finding)) same2 work _ r.2 in
      let e = subst (λ (x : TurnRules). (g : Progress) → IsAt has_log p4 c4 g → IsAt has_log p5 c5 (after_restarting x turn g)) same4 restart _ (keep _ w.2) in
      record {
        results = record { parcels = r.0; finding = w.0 };
        can = record { room = r.1; in_order = w.1 };
        at = e;
      }

  -- through one turn more
  pub at_one_more : {place : S} {counts : TurnCounts} (now rules : TurnRules) (s : Progress) (turns : ℕ) (g : Progress) → now ≡ rules
      → GoesThrough rules s turns g → HasTurned has_log place counts now (turns + 1) g → HasRun has_log place counts rules (turns + 1) s
  at_one_more {place} {counts} now rules s turns g same through turned =
      let t = subst (λ (r : TurnRules). HasTurned has_log place counts r (turns + 1) g) same turned in
      record { after = after_turn rules (turns + 1) g t.results; through = one_more turns g t.results through t.can; at = t.at }

-- a list is what stands before a place, what stands there, and the rest
pub cut_at : (keys before : List Key) (i : ℕ) (key : Key) → i < length keys → key ≡ get_or keys i key → before ≡ take i keys
    → keys ≡ before ++ key ∷ drop (suc i) keys
cut_at keys before i key within is front =
    split_at keys i key within ∙ ap (λ (k : Key). take i keys ++ k ∷ drop (suc i) keys) (sym is)
    ∙ ap (λ (ks : List Key). ks ++ key ∷ drop (suc i) keys) (sym front)
