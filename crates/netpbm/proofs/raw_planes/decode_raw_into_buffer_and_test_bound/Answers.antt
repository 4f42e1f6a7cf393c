-- No sample can be above the greatest.
use Rattle.std.proofs.Common.{◌≤◌, refl, arith}
use Rattle.std.proofs.lemmas.List.Elements.{All-from_get_or}
use Rattle.std.proofs.lemmas.Bool.{OnTrue_at}
use Rattle.netpbm.specs.Raw.{decoded}
use Rattle.netpbm.proofs.Written.{All-part}
use Rattle.netpbm.proofs.raw_planes.decode_raw_into_buffer_and_test_bound.Goals as goal

pub returns-then-is_greatest_possible_raw_sample-clause-bounded : goal.returns-then-is_greatest_possible_raw_sample-clause-bounded
returns-then-is_greatest_possible_raw_sample-clause-bounded c =
    let a = c.args in
    let bytes = All-from_get_or (λ b. b ≤ 255) a.raster.now 0 (λ k lt. omega (arith, c.type_inv.raster k)) in
    let all = OnTrue_at c.if-is_greatest_possible_raw_sample.true c.is_greatest_possible_raw_sample.ensures a.raster.now bytes in
    (λ _. All-part a.max (decoded a.max a.raster.now) a.start a.end all, λ _. refl)
