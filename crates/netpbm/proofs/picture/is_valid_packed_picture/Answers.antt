-- The parts of a picture.
use Rattle.netpbm.specs.MadePlane.{MadePlane}
use Rattle.netpbm.proofs.Planes.{image_in, image_out}
use Rattle.netpbm.proofs.picture.is_valid_packed_picture.Goals as goal

pub returns-then-is_valid_picture_shape : goal.returns-then-is_valid_picture_shape
returns-then-is_valid_picture_shape c =
    let view = λ (plane : MadePlane). plane.samples in (
      λ t. image_in view _ _ _ _ (c.is_valid_picture_shape.ensures.0 c.if-is_valid_picture_shape.true) (c.has_valid_packed_planes.ensures.0 t),
      λ h. c.has_valid_packed_planes.ensures.1 (image_out view _ _ _ _ h).1,
    )
