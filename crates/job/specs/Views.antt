-- What contracts see of a job in memory: without where its parts lie, and vectors as their lists.
use Rattle.std.specs.Prelude.{map}
use Rattle.std.specs.Option.{option_map}
use Rattle.job.specs.declared.stage.Body.{Body as KeptBody}
use Rattle.job.specs.declared.stage.Body.TheVariants.{Plane, Function, Accumulator}
use Rattle.job.specs.declared.stage.Stage.{Stage as KeptStage}
use Rattle.job.specs.declared.outputs.Output.{Output as KeptOutput}
use Rattle.job.specs.declared.outputs.Parameter.{Parameter as KeptParameter}
use Rattle.job.specs.declared.bound_pipeline.BoundPipeline.{BoundPipeline}
pub use Rattle.operators.specs.Views.{axis_view, test_view}
pub use Rattle.job.specs.FormulaViews.{formula_view}
pub use Rattle.job.specs.CaseViews.{case_view}
use Rattle.job.specs.Pipeline.{Body, plane, function, accumulator, Stage, Output, Parameter, Pipeline}

abbrev pub body_view : KeptBody → Body
body_view (Plane n) = plane n
body_view (Function f) = function (map case_view f.cases.items) (option_map formula_view f.otherwise)
body_view (Accumulator a) = accumulator a.fold a.bins (formula_view a.value) (formula_view a.bin)

abbrev pub stage_view : KeptStage → Stage
stage_view s = record { name = s.name; rank = s.rank; domain = s.domain; body = body_view s.body }

abbrev pub output_view : KeptOutput → Output
output_view o = record { stages = o.stages.items; max = o.max }

abbrev pub parameter_view : KeptParameter → Parameter
parameter_view p = record { name = p.name; value = p.value }

-- the job as mathematics
abbrev pub pipeline_of : BoundPipeline → Pipeline
pipeline_of parts =
    record {
      stages = map stage_view parts.stages.items;
      output = option_map output_view parts.output;
      params = map parameter_view parts.params.items;
      tables = parts.tables.items;
      picture = parts.picture;
      sides = parts.sides;
    }
