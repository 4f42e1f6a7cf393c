-- The numbers and the printed names of the faults, and where each is.
use Rattle.std.specs.Prelude.{ℕ, List, codes, Option, Some, None}
use Rattle.netpbm.specs.declared.fault.PicFault.{PicFault}
use Rattle.netpbm.specs.declared.fault.PicFault.TheVariants.{OtherFormat, HeaderCut, BadNumber, BadSize, BadMax}
use Rattle.netpbm.specs.declared.fault.PicFault.TheVariants.{CommentBehindDigit, RasterCut, SampleTooBig, TrailingBytes, Memory}

abbrev pub number_of : PicFault → ℕ
number_of (OtherFormat at) = 1
number_of (HeaderCut at) = 2
number_of (BadNumber at) = 3
number_of (BadSize at) = 4
number_of (BadMax at) = 5
number_of (CommentBehindDigit at) = 6
number_of (RasterCut at) = 7
number_of (SampleTooBig at) = 8
number_of (TrailingBytes at) = 9
number_of Memory = 10

abbrev pub name_of : PicFault → List ℕ
name_of (OtherFormat at) = codes "OtherFormat"
name_of (HeaderCut at) = codes "HeaderCut"
name_of (BadNumber at) = codes "BadNumber"
name_of (BadSize at) = codes "BadSize"
name_of (BadMax at) = codes "BadMax"
name_of (CommentBehindDigit at) = codes "CommentBehindDigit"
name_of (RasterCut at) = codes "RasterCut"
name_of (SampleTooBig at) = codes "SampleTooBig"
name_of (TrailingBytes at) = codes "TrailingBytes"
name_of Memory = codes "Memory"

abbrev pub offset_of : PicFault → Option ℕ
offset_of (OtherFormat at) = Some at
offset_of (HeaderCut at) = Some at
offset_of (BadNumber at) = Some at
offset_of (BadSize at) = Some at
offset_of (BadMax at) = Some at
offset_of (CommentBehindDigit at) = Some at
offset_of (RasterCut at) = Some at
offset_of (SampleTooBig at) = Some at
offset_of (TrailingBytes at) = Some at
offset_of Memory = None
