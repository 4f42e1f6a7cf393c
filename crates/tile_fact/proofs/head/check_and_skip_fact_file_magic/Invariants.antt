use Rattle.std.proofs.Common.{◌≡◌, ◌≤◌, length, drop}
use Rattle.std.specs.Prelude.{codes}
use Rattle.tile_fact.specs.Reading.{magic_read}
use Rattle.tile_fact.proofs.head.check_and_skip_fact_file_magic.Given as goal

-- what is left to read is as the whole
abbrev pub invariant-loop-at : goal.invariant-loop-at
invariant-loop-at l = (l.at ≤ length l.bytes) × (magic_read l.at (drop l.at (codes "PTF")) (drop l.at l.bytes) ≡ magic_read 0 (codes "PTF") l.bytes)
