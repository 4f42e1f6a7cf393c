use Rattle.std.proofs.Common.{rules, refl, arith, ◌≡◌, ◌<◌, ℕ, [], length, slice_index_or}
use Rattle.std.proofs.lemmas.List.{ext_get_or}
use Rattle.job.proofs.sameness.has_same_input_planes.Goals as goal

pub returns : goal.returns
returns c = (λ _. ext_get_or [] c.args.a.now.planes c.args.b.now.planes as_many each, λ _. refl)
  where
    as_many : length c.args.a.now.planes ≡ length c.args.b.now.planes
    as_many = search rules

    all : c.loop-plane.plane ≡ length c.args.a.now.planes
    all = search rules

    each : (j : ℕ) → j < length c.args.a.now.planes → slice_index_or c.args.a.now.planes j [] ≡ slice_index_or c.args.b.now.planes j []
    each j l = c.loop-plane.invariant j (omega arith)
