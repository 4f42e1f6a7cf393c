use Rattle.std.proofs.Common.{◌≡◌, nat_eq, true, Some, None, ℕ, sym, ap, ◌∙◌}
use Rattle.std.specs.Prelude.{if◌then◌else◌, slice_get}
use Rattle.std.specs.List.{list_all}
use Rattle.grouping.specs.Greedy.{group}
use Rattle.grouping.specs.inside.Trials.{grouping_of}
use Rattle.grouping.proofs.KeptIsBox.{common_is}
use Rattle.grouping.proofs.greedy.Grouper.find_common_group.Goals as goal

pub returns-then-are_all_in_group : goal.returns-then-are_all_in_group
returns-then-are_all_in_group c =
    let grouping = grouping_of c.args.self.now in
    let first = c.in_ok-first.field-0.now in
    let at : slice_get c.args.readers.now 0 ≡ Some first = sym c.in_ok-first.ensures.value in
    let all : list_all (λ g. nat_eq (group grouping g) (group grouping first)) c.args.readers.now ≡ true =
    ap (λ (n : ℕ). list_all (λ g. nat_eq (group grouping g) n) c.args.readers.now) (sym c.get_group_of_stage-first.ensures) ∙ sym c.are_all_in_group.ensures
    ∙ c.if-are_all_in_group.true in
    ap Some c.get_group_of_stage-first.ensures
    ∙ sym (common_is grouping c.args.readers.now first at ∙ ap (λ b. if b then Some (group grouping first) else None) all)

pub returns-else-are_all_in_group : goal.returns-else-are_all_in_group
returns-else-are_all_in_group c =
    let grouping = grouping_of c.args.self.now in
    let first = c.in_ok-first.field-0.now in
    let at : slice_get c.args.readers.now 0 ≡ Some first = sym c.in_ok-first.ensures.value in
    let some = ap (λ (n : ℕ). list_all (λ g. nat_eq (group grouping g) n) c.args.readers.now) (sym c.get_group_of_stage-first.ensures)
    ∙ sym c.are_all_in_group.ensures ∙ c.if-are_all_in_group.false in
    sym (common_is grouping c.args.readers.now first at ∙ ap (λ b. if b then Some (group grouping first) else None) some)
