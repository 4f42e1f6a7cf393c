use Rattle.std.proofs.Common.{◌≡◌, true, false, rules}
use Rattle.std.specs.Char.{is_ascii_hexdigit}
use Rattle.std.proofs.lemmas.Iterator.{YieldsList-from_slice, cases_from_all}
use Rattle.fact_lines.proofs.HexLaws.{digits_are}
use Rattle.fact_lines.proofs.line.is_hex_fact_line.Goals as goal

pub returns-then-line-eq0 : goal.returns-then-line-eq0
returns-then-line-eq0 c =
    digits_are c.args.line.now c.all.result c.if-line-eq0.true
    (cases_from_all _ _ _ (λ d. is_ascii_hexdigit d ≡ true) (λ d. is_ascii_hexdigit d ≡ false) c.all.ensures.ran
    (YieldsList-from_slice c.args.line.now c.iter.ensures.rest) (λ x q k. search rules) (λ x q k. search rules))
