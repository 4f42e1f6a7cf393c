use Rattle.std.proofs.Common.{rules, ◌≡◌, max, refl, ap, ◌∙◌, arith}
use Rattle.std.specs.Option.{option_map}
use Rattle.leases.specs.declared.entry.Lease.{Lease}
use Rattle.leases.specs.Standing.{shown_lease}
use Rattle.leases.proofs.StandingDesks.{shown_later, stands_later}
use Rattle.leases.proofs.desk.Desk.holder.Goals as goal

pub returns-clause-answer : goal.returns-clause-answer
returns-clause-answer c = λ h t s.
    let when : c.max-self.result ≡ max t c.args.now = c.max-self.ensures ∙ ap (λ k. max k c.args.now) s.clock in
    let node : c.map.result ≡ option_map (λ (l : Lease). l.node) c.find_lease_in_force.result = search rules in
    node ∙ ap (option_map (λ l. l.node))
    (c.find_lease_in_force.ensures
    ∙ (ap (λ x. shown_lease x c.args.self.now c.args.key.now) when ∙ shown_later c.args.self.now h t _ c.args.key.now s (omega arith)))

pub returns-clause-stands : goal.returns-clause-stands
returns-clause-stands c = λ h t s.
    stands_later _ _ h t _ s (omega arith) (c.max-self.ensures ∙ ap (λ k. max k c.args.now) s.clock) refl
