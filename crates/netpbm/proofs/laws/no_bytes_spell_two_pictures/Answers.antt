-- Reading answers one thing alone.
use Rattle.std.proofs.Common.{◌∙◌, sym}
use Rattle.netpbm.proofs.PictureLaws.{picture_complete}
use Rattle.netpbm.proofs.laws.no_bytes_spell_two_pictures.Goals as goal

pub returns : goal.returns
returns c = λ bytes p q h k. let e = sym (picture_complete bytes p h) ∙ picture_complete bytes q k in cc
