-- Chains of reads: in whose tiles an inlined function is computed.
use Rattle.std.specs.Prelude.{ℕ, ◌≡◌, Bool, true, List, take}
use Rattle.std.specs.List.{fold}
use Rattle.job.specs.Pipeline.{Pipeline}
use Rattle.tile_boxes.specs.Order.{backward}
use Rattle.tile_boxes.specs.Schedules.{is_inlined}
use Rattle.grouping.specs.Greedy.{is_reader_of_stage, Grouping, initial_grouping, visited}

-- a chain of reads leads from stage t to t itself; and from each stage r that it leads to, it leads on to each inlined function x
-- that r reads
pub data ChainLeads (job : Pipeline) (inlining : List Bool) (t : ℕ) : ℕ → Type 0 where
  itself : ChainLeads job inlining t t
  on : (r x : ℕ) → ChainLeads job inlining t r → is_reader_of_stage job x r ≡ true → is_inlined inlining x ≡ true
      → ChainLeads job inlining t x

-- what is chosen when the first k stages have been visited
abbrev pub grouping_after : Pipeline → ℕ → ℕ → Grouping
grouping_after job percent k = fold (visited job percent) (initial_grouping job) (take k (backward job.stages))
