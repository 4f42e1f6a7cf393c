-- A piece more, and the whole.
use Rattle.std.proofs.Common.{◌≡◌, ◌≤◌, ◌*◌, length, List, ℕ, subst, rules}
use Rattle.std.specs.Prelude.{IfOk}
use Rattle.netpbm.specs.Planes.{samples_of}
use Rattle.netpbm.proofs.Rasters.{thirds_more, are_separated}
use Rattle.netpbm.proofs.colours.split_into_colour_planes.Goals as goal

pub loop-done-preserved : goal.loop-done-preserved
loop-done-preserved c =
    let xs = c.args.samples.now in
    let done = c.loop-done.done in
    let end = c.min-end.result in
    let so_far = c.loop-done.invariant in
    let on : done ≤ end = search rules in
    let fits : 3 * end ≤ length xs = search rules in (
      search rules,
      thirds_more 0 xs _ _ done end on fits so_far.1 c.in_ok-append_interleaved.ensures.red,
      thirds_more 1 xs _ _ done end on fits so_far.2 c.in_ok-append_interleaved.ensures.green,
      thirds_more 2 xs _ _ done end on fits so_far.3 c.in_ok-append_interleaved.ensures.blue,
    )

pub returns : goal.returns
returns c =
    let so_far = c.loop-done.invariant in
    subst (λ (l : List (List ℕ)). IfOk c.into_planes.result (λ planes. samples_of planes.items ≡ l))
    (are_separated c.args.samples.now _ _ _ c.loop-done.done (search rules) so_far.1 so_far.2 so_far.3) c.into_planes.ensures
