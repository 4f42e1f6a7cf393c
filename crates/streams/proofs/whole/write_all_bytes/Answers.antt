-- The bytes that one more call took stand behind those before.
use Rattle.std.proofs.Common.{◌++◌, take, subst, sym, ap, ◌∙◌, rules}
use Rattle.std.proofs.lemmas.List.{take_rest}
use Rattle.std.specs.Io.KnownBytes.{Appends}
use Rattle.std.proofs.KnownBytes.{Appends-trans}
use lib.Seq.{take-add}
use Rattle.streams.proofs.whole.write_all_bytes.Goals as goal

pub loop-done-preserved : goal.loop-done-preserved
loop-done-preserved g c =
    let done = c.loop-done.done in
    let count = c.in-Ok.count in
    let bytes = c.args.bytes.now in
    let joined = ap (λ l. take done bytes ++ take count l) (take_rest bytes done) ∙ sym (take-add done count bytes) in
    (search rules, subst (Appends _ _) joined (Appends-trans _ _ _ _ _ c.loop-done.invariant.1 c.in-Ok.ensures.bytes), search rules)
