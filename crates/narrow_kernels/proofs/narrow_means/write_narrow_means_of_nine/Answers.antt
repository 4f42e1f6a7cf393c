use Rattle.std.proofs.Common.{rules, arith, ◌≡◌, ◌-◌, ◌*◌, ◌<◌, ◌≤◌, length, take, drop}
use Rattle.std.proofs.lemmas.Grind.{common_steps}
use Rattle.narrow_kernels.proofs.NarrowMeans.{block_written}
use Rattle.narrow_kernels.proofs.narrow_means.write_narrow_means_of_nine.Goals as goal

pub loop-block-preserved : goal.loop-block-preserved
loop-block-preserved c = λ k h l.
    let first = 512 * c.loop-block.block in
    let end = c.min-end.result in
    let out = c.loop-block.out in
    let new = c.write_narrow_block_of_means.new.out in
    let same : length out ≡ length c.args.out.now = c.loop-block.auto.out in
    let start : first ≤ end = first_of (search rules, grind (arith, common_steps, c.min-end.ensures)) in
    let short : end ≤ length out = first_of (search rules, grind (arith, common_steps, c.min-end.ensures)) in
    let count : length new ≡ end - first = first_of (search rules, grind (arith, common_steps, c.write_narrow_block_of_means.auto.out)) in
    let whole : k < length out = first_of (search rules, grind (arith, common_steps)) in
    let inside : k < end = first_of (search rules, grind (arith, common_steps, c.min-end.ensures)) in
    let part : length (take (end - first) (drop first out)) ≡ end - first = grind (arith, common_steps) in
    block_written first end k out new c.args.a.now c.args.b.now c.args.c.now start short count inside
    (omega (arith, c.requires.a)) (omega (arith, c.requires.b)) (omega (arith, c.requires.c))
    (λ m. c.loop-block.invariant k m whole)
    (λ m. c.write_narrow_block_of_means.ensures (k - first) (omega arith))
