-- The reads of a stage.
use Rattle.std.specs.Prelude.{ℕ, Bool, List}

-- a stage: whether it is a plane of the picture, and the stages that it reads, by their numbers
pub record StageLinks : Type 0 where
  pub is_plane : Bool
  pub reads : List ℕ
