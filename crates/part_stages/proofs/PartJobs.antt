-- A job with stages for parts behind its own.
use Rattle.std.proofs.Common.{ℕ, ◌<◌, ◌≡◌, ℤ, List, [], ◌∷◌, ◌++◌, Some, length, map, slice_get, ap, sym, subst, ◌∙◌, refl}
use Rattle.std.specs.Prelude.{All}
use Rattle.std.proofs.lemmas.List.Elements.{All-nil, All-cons, All-head, All-tail, All-weaker}
use Rattle.std.proofs.lemmas.Option.{same_Some}
use Rattle.domains.specs.Area.{HoldsPoint}
use Rattle.domains.specs.Index.{index_at}
use Rattle.job.specs.Formula.{Formula}
use Rattle.job.specs.OtherStages.{with_stages}
use Rattle.job.specs.Pipeline.{Body, function, Stage, Pipeline}
use Rattle.job.specs.Reads.{Read, point, window, BodyReads, CaseReads, EachRead, EachTaken, formulas_of, rank_by, reads_in, reads_of, stage_read}
use Rattle.job.specs.Values.{body_value, kernel_column, kernel_row, value}
use Rattle.job.specs.Views.{formula_view, stage_view}
use Rattle.job.specs.WellFormed.{IsBody, IsFormula, IsFunction, IsJob, IsReadable, IsStage, IsTest, IsValued}
use Rattle.job.specs.Boxes.{AreBoxed, box_of}
use Rattle.job.proofs.Solving.{ranked_is, value_solves}
use Rattle.joined_formulas.specs.Joins.{IsFormulaOf, IsKnown}
use Rattle.joined_formulas.specs.declared.known.StageFormula.{StageFormula}
use Rattle.part_stages.specs.HasMore.{HasMore}
use Rattle.part_stages.specs.Parts.{job_with, stages_with, AreBelow, ArePartStages, IsClosed, IsPartKnown, IsPartStage, IsSomePartStage}
use Rattle.part_stages.specs.declared.part_stages.PartStages.{PartStages}
use Rattle.part_stages.proofs.Behind.{nth_left}
use Rattle.part_stages.proofs.LongerAnswers.{image_longer, totals_longer}
use Rattle.part_stages.proofs.LongerJobs.{first_plane, job_longer, rank_by_same, readable_longer, values_longer}
use Rattle.part_stages.proofs.Pushing.{append_nothing}
use Rattle.part_stages.proofs.Weaker.{taken_weaker}

-- the reads of a function that is one formula
pub reads_alone : (f : Formula) → reads_of (function [] (Some f)) ≡ reads_in f
reads_alone f = append_nothing (reads_in f)

-- ---- what is read is among the first stages

module _ (job : Pipeline) (more : List Stage) where
  abbrev all : List Stage
  all = job.stages ++ more

  readable_back : (g : ℕ) (r c : ℤ) → g < length job.stages → IsReadable all g r c → IsReadable job.stages g r c
  readable_back g r c below x =
      record { stage = x.stage; there = sym (nth_left job.stages more g below) ∙ x.there; valued = x.valued; within = x.within }

  taken_back : (r c : ℤ) (x : Read) → stage_read x < length job.stages → EachTaken (IsReadable all) x r c → EachTaken (IsReadable job.stages) x r c
  taken_back r c (point g i j) below taken = readable_back g (index_at i r) (index_at j c) below taken
  taken_back r c (window g kernel) below taken =
      λ a b la lb. readable_back g (kernel_row kernel r a) (kernel_column kernel c b) below (taken a b la lb)

  pub all_back : (r c : ℤ) (reads : List Read) → AreBelow (length job.stages) reads
      → All (λ x. EachTaken (IsReadable all) x r c) reads → All (λ x. EachTaken (IsReadable job.stages) x r c) reads
  all_back r c [] below each = All-nil (λ x. EachTaken (IsReadable job.stages) x r c)
  all_back r c (x ∷ reads) below each =
      All-cons (λ y. EachTaken (IsReadable job.stages) y r c) x reads
      (taken_back r c x (All-head (λ y. stage_read y < length job.stages) x reads below) (All-head (λ y. EachTaken (IsReadable all) y r c) x reads each))
      (all_back r c reads (All-tail (λ y. stage_read y < length job.stages) x reads below) (All-tail (λ y. EachTaken (IsReadable all) y r c) x reads each))

-- ---- the stage of a part

module _ (job : Pipeline) (more : List Stage) (is : IsJob job) (closed : IsClosed job) (f : Formula) (s : Stage) (of : IsPartStage job f s) where
  abbrev P : ℕ → ℤ → ℤ → Type 0
  P = IsReadable (job.stages ++ more)

  taken_inside : (r c : ℤ) → HoldsPoint s.domain r c → EachRead P f r c
  taken_inside r c inside =
      All-weaker (λ x. EachTaken (IsReadable job.stages) x r c) (λ x. EachTaken P x r c)
      (taken_weaker (IsReadable job.stages) P (readable_longer job more is closed) r c) (reads_in f) (of.area.points.inside r c inside)

  rank_is : s.rank ≡ rank_by (job.stages ++ more) s.body
  rank_is =
      of.rank
      ∙ sym (rank_by_same job more is closed (function [] (Some f)) (subst (AreBelow (length job.stages)) (sym (reads_alone f)) of.below))
      ∙ ap (rank_by (job.stages ++ more)) (sym of.body)

  pub part_formed : IsStage (with_stages (job.stages ++ more) job) s
  part_formed =
      record {
        rank = rank_is;
        rows = of.area.rows;
        cols = of.area.cols;
        body = subst (IsBody job.picture s.domain) (sym of.body) (All-nil (λ p. All IsTest p.tests));
        boxes = subst (AreBoxed s.domain) (sym of.body) (All-nil (λ p. p.box ≡ box_of s.domain p.tests));
        formulas =
            subst (λ (b : Body). All IsFormula (formulas_of b)) (sym of.body) (All-cons IsFormula f [] of.formula (All-nil IsFormula));
        reads = λ r c inside.
            subst (λ (b : Body). BodyReads P b r c) (sym of.body) (
              All-nil (λ p. CaseReads P p r c),
              λ g there. subst (λ (h : Formula). EachRead P h r c) (same_Some f g there) (taken_inside r c inside),
            );
        tiles = λ has. of.area.few;
      }

-- ---- what is known

-- a stage that is one formula at all points has its value
module _ (job : Pipeline) (is : IsJob job) (v : ℕ) (s : Stage) (f : Formula) (there : slice_get job.stages v ≡ Some s)
    (body : s.body ≡ function [] (Some f)) where
  is_there : (r c : ℤ) → IsReadable job.stages v r c → HoldsPoint s.domain r c
  is_there r c x = subst (λ (t : Stage). HoldsPoint t.domain r c) (sym (same_Some s x.stage (sym there ∙ x.there))) x.within

  pub only_formula : IsFormulaOf job v f
  only_formula =
      record {
        formula = All-head IsFormula f [] (subst (λ (b : Body). All IsFormula (formulas_of b)) body (is.stages v s there).formulas);
        reads = λ r c x.
            (subst (λ (b : Body). BodyReads (IsReadable job.stages) b r c) body ((is.stages v s there).reads r c (is_there r c x))).1 f refl;
        value = λ r c x.
            sym (value_solves job (ranked_is job is) v s there (subst IsValued (sym body) tt) r c (is_there r c x)
            ∙ ap (λ (b : Body). body_value job.picture (value job) b r c) body);
      }

module _ (job : Pipeline) (parts : PartStages) (is : IsJob job) (closed : IsClosed job) (of : ArePartStages job parts) where
  abbrev behind : List Stage
  behind = map stage_view parts.stages.items

  formed : IsJob (job_with job parts)
  formed =
      job_longer job behind is closed
      (All-weaker (IsSomePartStage job) (IsStage (job_with job parts))
      (λ s some. part_formed job behind is closed some.formula s some.is) behind of.each) of.few

  known_is : (k : StageFormula) → IsPartKnown job (stages_with job parts) k → IsKnown (job_with job parts) k
  known_is k known =
      record {
        formula = only_formula (job_with job parts) formed k.stage known.stage (formula_view k.formula) known.there known.body;
        whole = λ whole r c each.
            record {
              stage = known.stage;
              there = known.there;
              valued = subst IsValued (sym known.body) tt;
              within = known.whole r c (all_back job behind r c (reads_in (formula_view k.formula)) known.below each);
            };
      }

  functions : All (λ s. IsFunction s.body) behind
  functions =
      All-weaker (IsSomePartStage job) (λ s. IsFunction s.body) (λ s some. subst IsFunction (sym some.is.body) tt) behind of.each

  same : (g : ℕ) (r c : ℤ) → IsReadable job.stages g r c → value (job_with job parts) g r c ≡ value job g r c
  same = values_longer job behind is closed formed

  pub has_more : HasMore job parts
  has_more =
      record {
        formed = formed;
        functions = functions;
        known = All-weaker (IsPartKnown job (stages_with job parts)) (IsKnown (job_with job parts)) known_is parts.known.items of.known;
        values = same;
        image = image_longer job behind is functions same (first_plane job behind is closed);
        totals = totals_longer job behind is functions same;
      }
