use Rattle.std.proofs.Common.{rules, ℕ, List, refl, ap, sym, ◌∙◌}
use Rattle.std.specs.BTreeMap.{get}
use Rattle.identity.specs.Keys.{key_cmp}
use Rattle.leases.specs.declared.entry.LeaseEntry.{LeaseEntry}
use Rattle.leases.specs.Rules.{release_by}
use Rattle.leases.specs.Standing.{StandsFor}
use Rattle.leases.proofs.StandingDesks.{without, release_done, not_released}
use Rattle.leases.proofs.desk.Desk.release.Goals as goal

pub returns-in-Released : goal.returns-in-Released
returns-in-Released c =
    let answer = c.from_lease_in_force-release.ensures ∙ ap (λ o. release_by o c.args.node) c.find_lease_in_force.ensures in
    let done = λ (h : List LeaseEntry) (t : ℕ) (s : StandsFor c.args.self.now h t).
    release_done c.args.self.now (record { clock = c.max-self.result; leases = c.remove.new.self }) h t c.args.now c.max-self.result
    c.args.node
    c.args.key.now c.from_lease_in_force-release.result s c.max-self.ensures answer refl
    (λ q. c.remove.ensures.updates.0 q ∙ ap (λ r. without c.args.key.now q r (get key_cmp c.args.self.now.leases q)) (sym c.in-Released.is))
    in
    record {
      answer = λ h t s. (done h t s).0;
      stands = λ h t s. (done h t s).1;
      kept = search rules;
      fewer = search rules;
    }

pub returns-in_default : goal.returns-in_default
returns-in_default c =
    let answer = c.from_lease_in_force-release.ensures ∙ ap (λ o. release_by o c.args.node) c.find_lease_in_force.ensures in
    let other = not_released c.from_lease_in_force-release.result c.in_default.not-Released in
    let done = λ (h : List LeaseEntry) (t : ℕ) (s : StandsFor c.args.self.now h t).
    release_done c.args.self.now (record { clock = c.max-self.result; leases = c.args.self.now.leases }) h t c.args.now c.max-self.result
    c.args.node
    c.args.key.now c.from_lease_in_force-release.result s c.max-self.ensures answer refl
    (λ q. ap (λ r. without c.args.key.now q r (get key_cmp c.args.self.now.leases q)) (sym other)) in
    record {
      answer = λ h t s. (done h t s).0;
      stands = λ h t s. (done h t s).1;
      kept = search rules;
      fewer = search rules;
    }
