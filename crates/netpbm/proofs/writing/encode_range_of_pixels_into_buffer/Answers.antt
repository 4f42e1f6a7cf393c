-- The bytes of three planes in turn.
use Rattle.netpbm.proofs.Written.{raster_bytes}
use Rattle.netpbm.proofs.writing.encode_range_of_pixels_into_buffer.Goals as goal

pub returns-in-Some-clause-written : goal.returns-in-Some-clause-written
returns-in-Some-clause-written c =
    let a = c.args in
    let lent = c.in-Some in
    raster_bytes a.picture.now lent.red.now lent.green.now lent.blue.now c.write_interleaved_colour_bytes.new.out a.start a.end c.requires.image
    lent.ensures.small lent.ensures.planes c.requires.within c.write_interleaved_colour_bytes.ensures
