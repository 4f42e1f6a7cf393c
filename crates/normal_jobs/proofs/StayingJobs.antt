-- A job stays one where other stages stand for its own.
use Rattle.std.proofs.Common.{ℕ, ◌*◌, ◌≤◌, ◌≡◌, List, Some, ap, sym, subst, ◌∙◌, refl}
use Rattle.std.specs.Prelude.{All, IsTrue, slice_get, slice_index}
use Rattle.std.proofs.lemmas.List.Elements.{All-weaker}
use Rattle.domains.specs.Area.{HoldsPoint}
use Rattle.domains.specs.Span.{Ends, len_of}
use Rattle.domains.specs.Tiles.{tile_rows, tile_cols}
use Rattle.domains.specs.declared.area.Area.{Area}
use Rattle.netpbm.specs.Image.{Image, InRange}
use Rattle.job.specs.Answers.{has_tiles, height_of, width_of}
use Rattle.job.specs.Boxes.{AreBoxed, box_of}
use Rattle.job.specs.Formula.{Test}
use Rattle.job.specs.OtherStages.{with_stages}
use Rattle.job.specs.Pipeline.{Body, plane, function, accumulator, Stage, Output, Pipeline}
use Rattle.job.specs.Reads.{formulas_of, IsRanked}
use Rattle.job.specs.WellFormed.{InDomainRange, IsBody, IsFunction, IsJob, IsOutput, IsOutputPlane, IsReadable, IsStage, IsTest}
use Rattle.joined_formulas.specs.Joins.{AreFormulasOf}
use Rattle.joined_formulas.specs.declared.known.StageFormula.{StageFormula}
use Rattle.normal_jobs.specs.StandIns.{StandsForCase, StandsForBody, StandsForStage, StandForStages}
use Rattle.normal_jobs.proofs.Zipped.{Before, After, find_before, find_after, same_at, same_length, zip_all}
use Rattle.normal_jobs.proofs.Formulas.{formulas_stand, formulas_stay}
use Rattle.part_stages.proofs.Weaker.{reads_weaker}
use Rattle.normal_jobs.proofs.Reading.{body_reads_stay, readable_stays}

module _ (known : List StageFormula) where
  -- ---- bodies

  body_stays : (picture : Image) (domain : Area) (b d : Body) → StandsForBody known b d → IsBody picture domain b → IsBody picture domain d
  body_stays picture domain (plane n) (plane m) z is = subst (λ (k : ℕ). IsBody picture domain (plane k)) (sym z) is
  body_stays picture domain (plane n) (function others other) z is = absurd z
  body_stays picture domain (plane n) (accumulator other ends amount place) z is = absurd z
  body_stays picture domain (function cases otherwise) (plane m) z is = absurd z
  body_stays picture domain (function cases otherwise) (function others other) z is =
      zip_all (StandsForCase known) (λ p. All IsTest p.tests) (λ p. All IsTest p.tests)
      (λ p q stands tests. subst (λ (ts : List Test). All IsTest ts) (sym stands.tests) tests) cases others z.0 is
  body_stays picture domain (function cases otherwise) (accumulator other ends amount place) z is = absurd z
  body_stays picture domain (accumulator fold bins value bin) (plane m) z is = absurd z
  body_stays picture domain (accumulator fold bins value bin) (function others other) z is = absurd z
  body_stays picture domain (accumulator fold bins value bin) (accumulator other ends amount place) z is =
      subst (λ (e : Ends). InDomainRange e × (len_of e ≤ 4096)) (sym z.range) is

  boxes_stay : (domain : Area) (b d : Body) → StandsForBody known b d → AreBoxed domain b → AreBoxed domain d
  boxes_stay domain (plane n) (plane m) z boxed = tt
  boxes_stay domain (plane n) (function others other) z boxed = absurd z
  boxes_stay domain (plane n) (accumulator other ends amount place) z boxed = absurd z
  boxes_stay domain (function cases otherwise) (plane m) z boxed = absurd z
  boxes_stay domain (function cases otherwise) (function others other) z boxed =
      zip_all (StandsForCase known) (λ p. p.box ≡ box_of domain p.tests) (λ p. p.box ≡ box_of domain p.tests)
      (λ p q stands is. stands.box ∙ is ∙ ap (box_of domain) (sym stands.tests)) cases others z.0 boxed
  boxes_stay domain (function cases otherwise) (accumulator other ends amount place) z boxed = absurd z
  boxes_stay domain (accumulator fold bins value bin) (plane m) z boxed = absurd z
  boxes_stay domain (accumulator fold bins value bin) (function others other) z boxed = absurd z
  boxes_stay domain (accumulator fold bins value bin) (accumulator other ends amount place) z boxed = tt

  tiled_back : (b d : Body) → StandsForBody known b d → IsTrue (has_tiles d) → IsTrue (has_tiles b)
  tiled_back (plane n) (plane m) z has = has
  tiled_back (plane n) (function others other) z has = absurd z
  tiled_back (plane n) (accumulator other ends amount place) z has = absurd z
  tiled_back (function cases otherwise) d z has = refl
  tiled_back (accumulator fold bins value bin) d z has = refl

  function_stays : (b d : Body) → StandsForBody known b d → IsFunction b → IsFunction d
  function_stays (plane n) d z is = absurd is
  function_stays (function cases otherwise) (plane m) z is = absurd z
  function_stays (function cases otherwise) (function others other) z is = tt
  function_stays (function cases otherwise) (accumulator other ends amount place) z is = absurd z
  function_stays (accumulator fold bins value bin) d z is = absurd is

  -- ---- sides

  module _ (job : Pipeline) (ts : List Stage) (z : StandForStages known job.stages ts) where
    pub height_stays : (g : ℕ) → height_of (with_stages ts job) g ≡ height_of job g
    height_stays g =
        same_at (StandsForStage known) (λ s. len_of s.domain.rows) (λ s. len_of s.domain.rows) 0 job.stages ts z g
        (λ s t there stands. ap (λ (a : Area). len_of a.rows) stands.domain)

    pub width_stays : (g : ℕ) → width_of (with_stages ts job) g ≡ width_of job g
    width_stays g =
        same_at (StandsForStage known) (λ s. len_of s.domain.cols) (λ s. len_of s.domain.cols) 0 job.stages ts z g
        (λ s t there stands. ap (λ (a : Area). len_of a.cols) stands.domain)

    -- ---- stages and outputs

    module _ (whole : IsJob job) (of : AreFormulasOf job known) (ranked : IsRanked ts) where
      stage_stays : (g : ℕ) (s t : Stage) → slice_get ts g ≡ Some t → StandsForStage known s t → IsStage job s → IsStage (with_stages ts job) t
      stage_stays g s t there stands is =
          record {
            rank = ranked g t there;
            rows = subst (λ (a : Area). InDomainRange a.rows) (sym stands.domain) is.rows;
            cols = subst (λ (a : Area). InDomainRange a.cols) (sym stands.domain) is.cols;
            body =
                subst (λ (a : Area). IsBody job.picture a t.body) (sym stands.domain)
                (body_stays job.picture s.domain s.body t.body stands.body is.body);
            boxes =
                subst (λ (a : Area). AreBoxed a t.body) (sym stands.domain) (boxes_stay s.domain s.body t.body stands.body is.boxes);
            formulas = formulas_stay known job whole of (formulas_of s.body) (formulas_of t.body) (formulas_stand known s.body t.body stands.body) is.formulas;
            reads = λ r c inside.
                reads_weaker (IsReadable job.stages) (IsReadable ts) (readable_stays known job.stages ts z) t.body r c
                (body_reads_stay known job whole of r c s.body t.body stands.body
                (is.reads r c (subst (λ (a : Area). HoldsPoint a r c) stands.domain inside)));
            tiles = λ has.
                subst (λ (a : Area). tile_rows (record { area = a; sides = job.sides }) * tile_cols (record { area = a; sides = job.sides }) ≤ 65536)
                (sym stands.domain) (is.tiles (tiled_back s.body t.body stands.body has));
          }

      plane_stays : (height width g : ℕ) → IsOutputPlane job height width g → IsOutputPlane (with_stages ts job) height width g
      plane_stays height width g of =
          let found : After (StandsForStage known) ts g of.stage = find_after (StandsForStage known) job.stages ts z g of.stage of.there in
          record {
            stage = found.item;
            there = found.there;
            function = function_stays of.stage.body found.item.body found.related.body of.function;
            rows = ap (λ (a : Area). len_of a.rows) found.related.domain ∙ of.rows;
            cols = ap (λ (a : Area). len_of a.cols) found.related.domain ∙ of.cols;
          }

      output_stays : (o : Output) → IsOutput job o → IsOutput (with_stages ts job) o
      output_stays o is =
          let first : ℕ = slice_index o.stages 0 in
          record {
            planes = is.planes;
            height = subst (λ (n : ℕ). InRange 4096 n) (sym (height_stays first)) is.height;
            width = subst (λ (n : ℕ). InRange 4096 n) (sym (width_stays first)) is.width;
            equal_sides =
                subst (λ (n : ℕ). All (IsOutputPlane (with_stages ts job) n (width_of (with_stages ts job) first)) o.stages)
                (sym (height_stays first))
                (subst (λ (n : ℕ). All (IsOutputPlane (with_stages ts job) (height_of job first) n) o.stages) (sym (width_stays first))
                (All-weaker (IsOutputPlane job (height_of job first) (width_of job first))
                (IsOutputPlane (with_stages ts job) (height_of job first) (width_of job first))
                (plane_stays (height_of job first) (width_of job first)) o.stages is.equal_sides));
            max = is.max;
          }

      pub job_stays : IsJob (with_stages ts job)
      job_stays =
          record {
            stages = λ g t there.
                let found : Before (StandsForStage known) job.stages g t = find_before (StandsForStage known) job.stages ts z g t there in
                stage_stays g found.item t there found.related (whole.stages g found.item found.there);
            few_stages = subst (λ (n : ℕ). n ≤ 65536) (same_length (StandsForStage known) job.stages ts z) whole.few_stages;
            output = λ o there. output_stays o (whole.output o there);
            params = whole.params;
            tables = whole.tables;
            few_tables = whole.few_tables;
            picture = whole.picture;
            sides = whole.sides;
          }
