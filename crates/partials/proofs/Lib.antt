pub mod PartialsJoin
pub mod TrueTilesGiveTotals
pub mod LastStepIsTile
