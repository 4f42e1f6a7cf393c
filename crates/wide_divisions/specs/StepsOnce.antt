-- A step of a division can be computed in one way: any two proofs of it are equal.
use Rattle.std.proofs.Props.{props}
use Rattle.wide_divisions.specs.declared.step.DivisionStep.{DivisionStep}
use Rattle.wide_divisions.specs.declared.step.DivisionStepRest.{DivisionStepRest}
use Rattle.wide_divisions.specs.declared.step.DivisionStepRest.TheVariants.{Read, Capped}
use Rattle.wide_divisions.specs.DivisionSteps.{IsRightRest, IsRightStep}

IsRightRest-prop : (rest : DivisionStepRest) → IsProp (IsRightRest rest)
IsRightRest-prop (Read x) = hlevel props
IsRightRest-prop (Capped factor x most) = hlevel props

pub IsRightStep-prop : (step : DivisionStep) → IsProp (IsRightStep step)
IsRightStep-prop step = hlevel (IsRightRest-prop step.rest, props)
