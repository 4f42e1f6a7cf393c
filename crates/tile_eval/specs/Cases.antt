-- What a function by cases is at a point, and where its cases lie.
use Rattle.std.specs.Prelude.{ℕ, ℤ, pos, Option, Some, None, List, All}
use Rattle.std.specs.Option.{option_map_or}
use Rattle.domains.specs.Area.{HoldsPoint, IsSubarea}
use Rattle.domains.specs.declared.area.Area.{Area}
use Rattle.job.specs.Formula.{Formula}
use Rattle.job.specs.Pipeline.{JobCase, Body, function}
use Rattle.job.specs.Reads.{BodyReads, formulas_of}
use Rattle.job.specs.Values.{Valuation, formula_value, chosen}
use Rattle.job.specs.Boxes.{AreBoxed}
use Rattle.job.specs.WellFormed.{InDomainRange, IsFormula, IsTest}

-- the point lies in the box, if there is one
abbrev pub InBox : Option Area → ℤ → ℤ → Type 0
InBox None r c = ⊥
InBox (Some box) r c = HoldsPoint box r c

-- the value of the case that is chosen at a point, else of the other formula, else 0
abbrev pub function_value : Valuation → List JobCase → Option Formula → ℤ → ℤ → ℤ
function_value env cases otherwise r c = option_map_or (λ f. formula_value env f r c) (chosen cases otherwise r c) (pos 0)

-- the boxes of the cases are those of a domain in which the area lies
abbrev pub AreBoxedAround : Area → Body → Type 0
AreBoxedAround area body = (domain : Area) × IsSubarea area domain × AreBoxed domain body

-- has says of a stage, a row and a column whether a sample is available. A function is computable at each point of an area:
-- the area lies where domains do, and in a domain that has the boxes of the cases; the numbers of the text fit, and all that
-- is read is available
pub record IsComputable (has : ℕ → ℤ → ℤ → Type 0) (area : Area) (cases : List JobCase) (otherwise : Option Formula) : Type 0 where
  pub rows : InDomainRange area.rows
  pub cols : InDomainRange area.cols
  pub tests : All (λ p. All IsTest p.tests) cases
  pub formulas : All IsFormula (formulas_of (function cases otherwise))
  pub boxes : AreBoxedAround area (function cases otherwise)
  pub reads : (r c : ℤ) → HoldsPoint area r c → BodyReads has (function cases otherwise) r c
