-- Each byte is a sample.
use Rattle.netpbm.proofs.ColourPlaces.{bytes_are}
use Rattle.netpbm.proofs.raster.view_raster_plane_of_bytes.Goals as goal

pub returns : goal.returns
returns c = let a = c.args in let r = c.requires in bytes_are a.colours a.area a.plane a.raster.now r.colours r.plane r.whole
