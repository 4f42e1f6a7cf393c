use Rattle.std.proofs.Common.{◌≡◌, length, take}
use Rattle.fact_lines.specs.Texts.{lines}
use Rattle.fact_lines.specs.inside.Gathering.{Gathers}
use Rattle.fact_lines.proofs.join.collect_contents_of_fact_file_lines.Given as goal

abbrev pub invariant-loop-line : goal.invariant-loop-line
invariant-loop-line l = record {
  count : l.number ≡ length l.yielded;
  gathered : Gathers (take l.number (lines l.text)) l.contents.retired.items l.contents.facts.items;
}
