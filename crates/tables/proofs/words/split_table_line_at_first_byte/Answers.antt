use Rattle.std.proofs.Common.{◌∙◌, sym}
use Rattle.tables.proofs.PartLaws.{not_parted, parted_at}
use Rattle.tables.proofs.words.split_table_line_at_first_byte.Goals as goal

pub returns-in-Some : goal.returns-in-Some
returns-in-Some c =
    parted_at c.args.byte c.args.text.now c.in-Some.end (sym c.find_first_byte_of_table_line.ensures ∙ c.in-Some.is)

pub returns-in-None : goal.returns-in-None
returns-in-None c = not_parted c.args.byte c.args.text.now (sym c.find_first_byte_of_table_line.ensures ∙ c.in-None.is)
