-- What contracts see of a read in memory.
use Rattle.std.specs.Prelude.{◌≡◌, List}
use Rattle.std.proofs.Props.{props}
use Rattle.job.specs.declared.reads.Read.{Read as KeptRead}
use Rattle.job.specs.declared.reads.Read.TheVariants.{Point, Window}
use Rattle.job.specs.Reads.{Read, point, window}

abbrev pub read_view : KeptRead → Read
read_view (Point g i j) = point g i j
read_view (Window g kernel) = window g kernel

-- lists of reads are equal in one way
pub same_reads-prop : (xs ys : List Read) → IsProp (xs ≡ ys)
same_reads-prop xs ys = hlevel props
