use Rattle.std.proofs.Common.{List, arith, length, subst, ◌++◌, ◌≡◌}
use Rattle.std.specs.Prelude.{codes}
use Rattle.tables.specs.declared.table.Table.{Table}
use Rattle.job.specs.Identity.{given_bytes, tables_bytes}
use Rattle.job.specs.Views.{pipeline_of}
use Rattle.job.proofs.Hashed.{holds_with, holds_without}
use Rattle.job.proofs.hashing.hash_input_parts_before_picture.Goals as goal

pub returns-then-is_empty : goal.returns-then-is_empty
returns-then-is_empty g c = λ m held.
    let none : length c.args.parts.now.tables.items ≡ 0 = grind arith in
    holds_without (g.D.Digest.holds c.hash_input_sides_and_parameters.new.hasher) m (pipeline_of c.args.parts.now) none
    (c.hash_input_sides_and_parameters.ensures _ (c.update.ensures m held))

pub returns-else-is_empty : goal.returns-else-is_empty
returns-else-is_empty g c = λ m held.
    let some : length c.args.parts.now.tables.items ≡ 0 → ⊥ = λ none. grind arith in
    let job = pipeline_of c.args.parts.now in
    let P = g.D.Digest.holds c.hash_input_tables.new.hasher in
    holds_with P m job some
    (subst (λ (ts : List Table). P (m ++ codes "PTI2" ++ given_bytes job ++ tables_bytes ts)) c.as_slice-tables.ensures.value
    (c.hash_input_tables.ensures _ (c.hash_input_sides_and_parameters-else-is_empty.ensures _ (c.update-else-is_empty.ensures m held))))
