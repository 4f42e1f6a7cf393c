-- Medians of three, as formulas.
use Rattle.std.specs.Prelude.{◌≡◌}
use Rattle.operators.specs.declared.operator.BinaryOp.TheVariants.{Min, Max}
use Rattle.job.specs.Formula.{Formula, binary}

-- f is the lesser of two formulas, and g the greater
pub record AreLesserAndGreater (f g : Formula) : Type 0 where
  pub first : Formula
  pub second : Formula
  pub lesser : f ≡ binary Min first second
  pub greater : g ≡ binary Max first second

-- the median of two and of a third one, by the lesser and the greater of the two
abbrev pub median : Formula → Formula → Formula → Formula
median lesser greater third = binary Max lesser (binary Min greater third)
