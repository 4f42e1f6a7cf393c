use Rattle.std.proofs.Common.{◌≡◌, ◌∙◌, ◌+◌, ℤ, ap, arith, of_z, rules, set, subst, sym, to_z, w32, w64}
use Rattle.std.proofs.lemmas.Int.{to_z-of_z}
use Rattle.tables.specs.Lines.{cut_to_32}
use Rattle.tables.proofs.PartLaws.{nothing_left, something_left}
use Rattle.tables.proofs.IntegerLaws.{Read, all_read, no_number, none_read, one_more_read, too_few_words, too_many_words}
use Rattle.tables.proofs.integers.fill_table_entries.Goals as goal

pub loop-k-init : goal.loop-k-init
loop-k-init c = none_read c.args.text c.args.entries.now

pub returns-in_default-clause-refused : goal.returns-in_default-clause-refused
returns-in_default-clause-refused c not_true zs each =
    too_few_words c.args.text.now c.loop-k.k c.loop-k.rest c.loop-k.entries zs c.loop-k.invariant c.in_default.is (omega arith) (omega (arith, each))

pub returns-in_default-parse_table_integer-clause-refused : goal.returns-in_default-parse_table_integer-clause-refused
returns-in_default-parse_table_integer-clause-refused c not_true zs each =
    no_number c.args.text.now c.loop-k.k c.loop-k.rest c.split_table_line_at_first_byte.result.1 c.loop-k.entries c.in-Some.words
    c.split_table_line_at_first_byte.result.0.now zs c.loop-k.invariant c.in-Some.is c.split_table_line_at_first_byte.ensures
    c.in_default-parse_table_integer.ensures.none

pub loop-k-preserved : goal.loop-k-preserved
loop-k-preserved c =
    let more =
    one_more_read c.args.text.now c.loop-k.k c.loop-k.rest c.split_table_line_at_first_byte.result.1 c.loop-k.entries c.in-Some.words
    c.split_table_line_at_first_byte.result.0.now c.in-Some-parse_table_integer.number c.loop-k.invariant c.in-Some.is
    c.split_table_line_at_first_byte.ensures c.in-Some-parse_table_integer.ensures.some (omega arith) in
    let entry : to_z w32 (of_z w32 c.clamp_table_entry_to_int32.result) ≡ cut_to_32 c.in-Some-parse_table_integer.number =
    to_z-of_z w32 c.clamp_table_entry_to_int32.result (search rules) ∙ c.clamp_table_entry_to_int32.ensures
    ∙ ap cut_to_32 (to_z-of_z w64 c.in-Some-parse_table_integer.number c.in-Some-parse_table_integer.ensures.some.fits) in
    subst (λ (z : ℤ). Read c.args.text.now (c.loop-k.k + 1) c.split_table_line_at_first_byte.result.1 (set c.loop-k.entries c.loop-k.k z))
    (sym entry) more

pub returns-clause-filled : goal.returns-clause-filled
returns-clause-filled c so =
    let ended = nothing_left c.loop-k.rest c.is_none.result c.is_none.ensures so in
    let (zs, spelled, each, clamped) =
    all_read c.args.text.now c.loop-k.k c.loop-k.rest c.loop-k.entries c.loop-k.invariant ended (omega arith) in
    (zs, spelled, omega (arith, each), clamped)

pub returns-clause-refused : goal.returns-clause-refused
returns-clause-refused c not_true zs each =
    let (rest, is) = something_left c.loop-k.rest c.is_none.result c.is_none.ensures not_true in
    too_many_words c.args.text.now c.loop-k.k c.loop-k.rest c.loop-k.entries rest zs c.loop-k.invariant is (omega arith) (omega (arith, each))
