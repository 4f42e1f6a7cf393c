use Rattle.std.proofs.Common.{rules, ◌≡◌, ℕ, max, List, None, if◌then◌else◌, refl, ap, sym, ◌∙◌, arith}
use Rattle.std.specs.BTreeMap.{get}
use Rattle.std.specs.Option.{option_or}
use Rattle.identity.specs.Keys.{key_cmp}
use Rattle.identity.specs.declared.key.Key.{Key}
use Rattle.leases.specs.declared.entry.LeaseEntry.{LeaseEntry}
use Rattle.leases.specs.Leases.{is_same_key}
use Rattle.leases.specs.Rules.{claim_by}
use Rattle.leases.specs.Standing.{lease_unless_over, StandsFor}
use Rattle.leases.proofs.StandingDesks.{shown_later, claim_done, put_lease, put_none}
use Rattle.leases.proofs.desk.Desk.claim.Goals as goal
use Rattle.leases.proofs.desk.Desk.claim.Goals.{in-Some+in-Ok, in_default}

pub returns-in_default-insert-clause-memory : goal.returns-in_default-insert-clause-memory
returns-in_default-insert-clause-memory c = λ h t s is_memory.
    let none = c.in_default-insert.ensures.absent in
    sym (shown_later c.args.self.now h t (max t c.args.now) c.args.key s (omega arith)) ∙ ap (lease_unless_over (max t c.args.now)) none

pub returns : goal.returns
returns c =
    let table : (q : Key) → get key_cmp c.match-to_lease.self.leases q ≡ option_or (if is_same_key c.args.key q then c.to_lease.result else None)
    (get key_cmp c.args.self.now.leases q) =
    λ q. elim c.match-to_lease.branch [
      | in-Some+in-Ok w ↦
          ap (λ d. get key_cmp d.leases q) w.self-is
          ∙ (w.in-Ok.ensures.updates.0 q
          ∙ put_lease (is_same_key c.args.key q) w.in-Some.lease c.to_lease.result (get key_cmp c.args.self.now.leases q) w.in-Some.is)
      | in_default w ↦ ap (λ d. get key_cmp d.leases q) w.self-is
          ∙ put_none (is_same_key c.args.key q) c.to_lease.result (get key_cmp c.args.self.now.leases q) w.in_default.is
    ] in
    let done =
    λ (h : List LeaseEntry) (t : ℕ) (s : StandsFor c.args.self.now h t). claim_done c.args.self.now
    (record { clock = c.max-time.result; leases = c.match-to_lease.self.leases }) h t c.args.now c.max-time.result
    c.args.node c.args.key c.args.ttl c.from_lease_in_force-claim.result c.to_lease.result s c.max-time.ensures
    (c.from_lease_in_force-claim.ensures ∙ ap (λ o. claim_by o c.max-time.result c.args.node c.args.ttl) c.find_lease_in_force.ensures) c.to_lease.ensures refl table
    in
    record {
      answer = λ h t s some. (done h t s).0;
      memory = search rules;
      stands = λ h t s. (done h t s).1;
      kept = search rules;
    }
