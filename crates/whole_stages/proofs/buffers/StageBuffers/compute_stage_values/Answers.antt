use Rattle.std.proofs.Common.{◌≡◌, ◌<◌, ℤ, Some, map, length, slice_get, subst, sym, ap, ◌∙◌}
use Rattle.std.specs.Prelude.{All}
use Rattle.std.specs.Global.{Vec}
use Rattle.std.specs.Option.{option_map}
use Rattle.std.proofs.lemmas.Result.{IfOk-weaker}
use Rattle.domains.specs.Area.{HoldsPoint}
use Rattle.domains.specs.declared.area.Area.{Area}
use Rattle.netpbm.specs.Image.{Image}
use Rattle.job.specs.Boxes.{AreBoxed}
use Rattle.job.specs.Kept.{pipeline_in}
use Rattle.job.specs.Pipeline.{Body, Stage, Pipeline, plane, function}
use Rattle.job.specs.Reads.{BodyReads, formulas_of}
use Rattle.job.specs.Values.{sample_at}
use Rattle.job.specs.Views.{case_view, formula_view, body_view, stage_view}
use Rattle.job.specs.WellFormed.{InDomainRange, IsBody, IsFormula, picture_area}
use Rattle.tile_eval.specs.Cases.{function_value}
use Rattle.tile_eval.specs.Raster.{raster, stage_values}
use Rattle.whole_stages.specs.Known.{sample_in, AreKnownOf, IsKnownAt}
use Rattle.whole_stages.proofs.Knowing.{known_there, reads_known, functions_known, planes_known, stage_values_is}
use Rattle.whole_stages.proofs.buffers.StageBuffers.compute_stage_values.Goals as goal

pub convert_whole_plane_of_picture-requires : goal.convert_whole_plane_of_picture-requires
convert_whole_plane_of_picture-requires c =
    let job : Pipeline = pipeline_in c.args.job.now in
    let s : Stage = stage_view c.in-Some.stage.now in
    let there : slice_get job.stages c.args.number ≡ Some s = sym c.in-Some.ensures in
    let is : s.body ≡ plane c.in-Plane.plane = ap body_view (sym c.body.ensures ∙ c.in-Plane.is) in
    subst (λ (p : Image). c.in-Plane.plane < length p.planes) (sym c.picture.ensures)
    (subst (IsBody job.picture s.domain) is (c.args.job.now.well.stages c.args.number s there).body).0

pub evaluate_whole_function-requires : goal.evaluate_whole_function-requires
evaluate_whole_function-requires c =
    let job : Pipeline = pipeline_in c.args.job.now in
    let s : Stage = stage_view c.in-Some.stage.now in
    let there : slice_get job.stages c.args.number ≡ Some s = sym c.in-Some.ensures in
    let own = c.args.job.now.well.stages c.args.number s there in
    let is = ap body_view (sym c.body.ensures ∙ c.in-Function.is) in
    let buffers = c.args.self.now.buffers.items in
    record {
      rows =
          subst (λ (a : Area). InDomainRange a.rows) (sym c.domain.ensures) own.rows;
      cols =
          subst (λ (a : Area). InDomainRange a.cols) (sym c.domain.ensures) own.cols;
      tests =
          subst (IsBody job.picture s.domain) is own.body;
      formulas =
          subst (λ (b : Body). All IsFormula (formulas_of b)) is own.formulas;
      boxes = (
        c.domain.result.now,
        (λ r x h. h),
        subst (AreBoxed c.domain.result.now) is (subst (λ (a : Area). AreBoxed a s.body) (sym c.domain.ensures) own.boxes),
      );
      reads =
          λ r k inside.
          subst (λ (b : Body). BodyReads (IsKnownAt buffers) b r k) is
          (reads_known job c.args.job.now.well (IsKnownAt buffers) (AreKnownOf job buffers) (known_there job buffers c.requires.right)
          c.args.number s there (c.requires.inputs s there) r k
          (subst (λ (a : Area). HoldsPoint a r k) c.domain.ensures inside));
    }

pub returns-in-Plane : goal.returns-in-Plane
returns-in-Plane c =
    let job : Pipeline = pipeline_in c.args.job.now in
    let s : Stage = stage_view c.in-Some.stage.now in
    let there : slice_get job.stages c.args.number ≡ Some s = sym c.in-Some.ensures in
    let is : s.body ≡ plane c.in-Plane.plane = ap body_view (sym c.body.ensures ∙ c.in-Plane.is) in
    IfOk-weaker c.convert_whole_plane_of_picture.result _ (λ (values : Vec ℤ). values.items ≡ stage_values job c.args.number) (λ values e.
    e ∙ ap (λ (p : Image). raster (picture_area p) (sample_at p c.in-Plane.plane)) c.picture.ensures
    ∙ planes_known job c.args.job.now.well c.args.number s there c.in-Plane.plane is
    ∙ sym (stage_values_is job c.args.number s there))
    c.convert_whole_plane_of_picture.ensures

pub returns-in-Function : goal.returns-in-Function
returns-in-Function c =
    let job : Pipeline = pipeline_in c.args.job.now in
    let s : Stage = stage_view c.in-Some.stage.now in
    let there : slice_get job.stages c.args.number ≡ Some s = sym c.in-Some.ensures in
    let f = c.in-Function.function in
    let cases = map case_view f.cases.items in
    let otherwise = option_map formula_view f.otherwise in
    let is : s.body ≡ function cases otherwise = ap body_view (sym c.body.ensures ∙ c.in-Function.is) in
    let buffers = c.args.self.now.buffers.items in
    IfOk-weaker c.evaluate_whole_function.result _ (λ (values : Vec ℤ). values.items ≡ stage_values job c.args.number) (λ values e.
    e ∙ ap (λ (a : Area). raster a (function_value (λ g r k. sample_in (slice_get buffers g) r k) cases otherwise)) c.domain.ensures
    ∙ functions_known job c.args.job.now.well c.args.number s there buffers c.requires.right c.requires.inputs cases otherwise is
    ∙ sym (stage_values_is job c.args.number s there))
    c.evaluate_whole_function.ensures
