use Rattle.std.proofs.Common.{rules, ◌≡◌, ◌-ℤ◌, pos}
use Rattle.std.specs.Prelude.{IfSome}
use Rattle.part_stages.proofs.Spans.{found_step}
use Rattle.part_stages.proofs.part_reads.find_part_span_under_index.Goals as goal

pub returns : goal.returns
returns c =
    let s = c.args.span.now in
    let i = c.args.index.now in
    let low : IfSome c.move_part_span.result (λ t. t.lo ≡ s.lo -ℤ i.add) = search rules in
    let high : IfSome c.move_part_span.result (λ t. t.hi ≡ s.hi -ℤ i.add) = search rules in
    let one : i.mul ≡ pos 1 = search rules in
    let undivided : i.div ≡ pos 1 = search rules in
    found_step s i c.move_part_span.result one undivided low high
