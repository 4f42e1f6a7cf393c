use Rattle.std.proofs.Common.{refl}
use Rattle.tile_sources.proofs.plane_buffer.PlaneBuffer.convert_samples.Goals as goal

pub write_converted_samples_of_plane_area-requires-clause-area : goal.write_converted_samples_of_plane_area-requires-clause-area
write_converted_samples_of_plane_area-requires-clause-area c = c.if-is_plane_area_in_picture.ensures.area refl
