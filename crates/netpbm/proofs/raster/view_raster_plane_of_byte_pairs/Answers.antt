-- Two bytes are a sample.
use Rattle.netpbm.proofs.ColourPlaces.{pairs_are}
use Rattle.netpbm.proofs.raster.view_raster_plane_of_byte_pairs.Goals as goal

pub returns : goal.returns
returns c = let a = c.args in let r = c.requires in pairs_are a.colours a.area a.plane a.raster.now r.colours r.plane r.whole
