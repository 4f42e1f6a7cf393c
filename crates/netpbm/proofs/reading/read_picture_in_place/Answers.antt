-- What callers see of what reading gives.
use Rattle.std.proofs.Common.{subst}
use Rattle.netpbm.proofs.RawLaws.{AreBytes}
use Rattle.netpbm.proofs.KeptLaws.{AreBytes-drop}
use Rattle.netpbm.proofs.ReadLaws.{is_found, is_only, is_fault}
use Rattle.netpbm.proofs.reading.read_picture_in_place.Goals as goal

pub returns-clause-found : goal.returns-clause-found
returns-clause-found c =
    let are = subst AreBytes c.as_slice.ensures.value c.picture_bytes_are_below_256.ensures in
    is_found _ c.read_plain_or_keep_raw_picture.result (AreBytes-drop c.args.start c.args.input.items are) c.read_plain_or_keep_raw_picture.ensures

pub returns-clause-only : goal.returns-clause-only
returns-clause-only c = λ p h. is_only _ c.read_plain_or_keep_raw_picture.result p c.read_plain_or_keep_raw_picture.ensures h

pub returns-clause-fault : goal.returns-clause-fault
returns-clause-fault c =
    let are = subst AreBytes c.as_slice.ensures.value c.picture_bytes_are_below_256.ensures in
    is_fault _ c.read_plain_or_keep_raw_picture.result (AreBytes-drop c.args.start c.args.input.items are) c.read_plain_or_keep_raw_picture.ensures
