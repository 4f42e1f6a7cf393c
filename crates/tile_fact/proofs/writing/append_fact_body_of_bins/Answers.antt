use Rattle.std.proofs.Common.{rules, ◌≡◌, ℕ, ◌++◌, ◌∷◌, List, length, get_or, pos, ap, ◌∙◌}
use Rattle.std.specs.Int.{w32, w64, to_be_bytes}
use Rattle.tile_fact.specs.FactFile.{number_bytes}
use Rattle.tile_fact.proofs.WritingLaws.{one_more}
use Rattle.tile_fact.proofs.writing.append_fact_body_of_bins.Goals as goal

pub loop-bin-preserved : goal.loop-bin-preserved
loop-bin-preserved c =
    let bin : c.to_be_bytes-in-loop-bin.result ≡ number_bytes w64 (get_or c.args.bins.now c.loop-bin.bin-index (pos 0)) = search rules in
    one_more c.args.bytes.now.items (1 ∷ to_be_bytes w32 (length c.args.bins.now)) (number_bytes w64) c.args.bins.now c.loop-bin.bin-index
    (pos 0) _ _ c.loop-bin-test.true
    c.loop-bin.invariant (c.in_ok-extend_from_slice-2.ensures.items ∙ ap (λ (l : List ℕ). c.loop-bin.bytes.items ++ l) bin)
