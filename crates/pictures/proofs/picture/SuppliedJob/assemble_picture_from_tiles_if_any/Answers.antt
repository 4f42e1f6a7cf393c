use Rattle.std.proofs.Common.{sym, ap, ◌∙◌}
use Rattle.std.specs.Option.{option_map}
use Rattle.job.specs.Views.{output_view}
use Rattle.pictures.proofs.picture.SuppliedJob.assemble_picture_from_tiles_if_any.Goals as goal

pub assemble_picture-requires-clause-output : goal.assemble_picture-requires-clause-output
assemble_picture-requires-clause-output g c =
    c.args.self.now.job.now.well.output (output_view c.in-Some.output) (sym c.output.ensures ∙ ap (option_map output_view) c.in-Some.is)

pub assemble_picture-requires-clause-stored : goal.assemble_picture-requires-clause-stored
assemble_picture-requires-clause-stored g c =
    c.requires (output_view c.in-Some.output) (sym c.output.ensures ∙ ap (option_map output_view) c.in-Some.is)
