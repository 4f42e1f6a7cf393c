-- What stands for a formula that a whole stage is known to have.
use Rattle.std.proofs.Common.{ℤ, ◌≡◌, true, List, [], sym, subst, ◌∙◌}
use Rattle.std.specs.Prelude.{Contains}
use Rattle.std.proofs.lemmas.List.Elements.{All-nil, All-cons, All-contains}
use Rattle.domains.specs.Index.{index_at}
use Rattle.job.specs.Formula.{Formula, read}
use Rattle.job.specs.Pipeline.{Pipeline}
use Rattle.job.specs.Reads.{point, EachRead, EachTaken}
use Rattle.job.specs.Values.{value}
use Rattle.job.specs.Views.{formula_view}
use Rattle.job.specs.WellFormed.{IsReadable}
use Rattle.joined_formulas.specs.StandsIn.{StandsIn}
use Rattle.joined_formulas.specs.Joins.{IsKnown, IsWhole, Joins}
use Rattle.joined_formulas.specs.inside.Parts.{IsPartRead}
use Rattle.joined_formulas.specs.declared.known.StageFormula.{StageFormula}

module _ (job : Pipeline) (k : StageFormula) (is : IsKnown job k) (whole : IsWhole job k.stage (formula_view k.formula)) (f g : Formula)
    (part : IsPartRead k f g) where
  -- where all that the formula reads has a value, the stage has one
  stage_there : (r c : ℤ) → EachRead (IsReadable job.stages) f r c
      → IsReadable job.stages k.stage (index_at part.row r) (index_at part.column c)
  stage_there r c each = whole (index_at part.row r) (index_at part.column c) (part.at.reads job.stages r c each)

  read_stands : StandsIn job f (read k.stage part.row part.column)
  read_stands =
      record {
        formula = λ formed. (part.row_index, part.column_index);
        reads = λ r c each.
            All-cons (λ x. EachTaken (IsReadable job.stages) x r c) (point k.stage part.row part.column) [] (stage_there r c each)
            (All-nil (λ x. EachTaken (IsReadable job.stages) x r c));
        value = λ r c formed rows columns each.
            sym (is.formula.value (index_at part.row r) (index_at part.column c) (stage_there r c each))
            ∙ sym (part.at.value (value job) r c);
      }

  pub part_stands : StandsIn job f g
  part_stands = subst (StandsIn job f) (sym part.is) read_stands

pub known_part : (known : List StageFormula) (k : StageFormula) (f g : Formula) → Contains known k → k.whole ≡ true → IsPartRead k f g
    → Joins known f g
known_part known k f g there whole part =
    record {
      stands = λ job is of.
          let entry : IsKnown job k = All-contains (IsKnown job) known k of there in
          part_stands job k entry (entry.whole whole) f g part;
    }
