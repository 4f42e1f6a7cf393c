use Rattle.std.proofs.Common.{ap, sym, ◌∙◌}
use Rattle.column_phases.specs.Phases.{phase_box}
use Rattle.column_phases.proofs.TestLaws.{phase_box_some}
use Rattle.column_phases.proofs.phase.ColumnPhase.find_column_phase_box.Goals as goal

pub returns-in-Some-find_column_phase_span : goal.returns-in-Some-find_column_phase_span
returns-in-Some-find_column_phase_span c =
    let phase = c.args.self.now in
    let found = c.in-Some-find_column_phase_span in
    phase_box_some phase.period phase.rest c.in-Some.area found.cols found.ensures.some found.ensures.ordered
    ∙ ap (phase_box phase.period phase.rest) (sym c.in-Some.is)
