use Rattle.std.proofs.Common.{arith, rules, sym, ◌∙◌, subst}
use Rattle.std.proofs.lemmas.Bool.{false≢true}
use Rattle.pipe_checks.specs.inside.Search.{LeadsOn, IsStepFrom}
use Rattle.pipe_checks.proofs.Distances.{known_at_first, room_at_first, one_level, fewer_unknown, all_known}
use Rattle.pipe_checks.proofs.cycles.compute_cycle_distances_to_stage.Goals as goal

pub loop-alloc-init : goal.loop-alloc-init
loop-alloc-init c = (
  known_at_first c.args.graph.now c.args.goal _ c.in_ok-far.far.items (search rules) c.requires c.in_ok-far.ensures.each
      c.in_ok-far.ensures.only,
  omega (arith, room_at_first _ c.args.goal c.in_ok-far.far.items c.requires c.in_ok-far.ensures.each c.in_ok-far.ensures.only),
)

pub loop-alloc-smaller : goal.loop-alloc-smaller
loop-alloc-smaller c =
    let g = c.args.graph.now in
    let k = c.loop-alloc.steps in
    let more = subst (λ xs. LeadsOn g xs k) c.deref.ensures.value (c.can_extend_cycle_distances.ensures.0 c.loop-alloc-test.true) in
    let step = subst (λ xs. IsStepFrom g xs k c.in_ok-far-2.far.items) c.deref-in-loop-alloc.ensures.value c.in_ok-far-2.ensures in
    fewer_unknown g k c.loop-alloc.far.items c.in_ok-far-2.far.items step more

pub loop-alloc-preserved : goal.loop-alloc-preserved
loop-alloc-preserved c =
    let g = c.args.graph.now in
    let k = c.loop-alloc.steps in
    let more = subst (λ xs. LeadsOn g xs k) c.deref.ensures.value (c.can_extend_cycle_distances.ensures.0 c.loop-alloc-test.true) in
    let step = subst (λ xs. IsStepFrom g xs k c.in_ok-far-2.far.items) c.deref-in-loop-alloc.ensures.value c.in_ok-far-2.ensures in
    let fewer = fewer_unknown g k c.loop-alloc.far.items c.in_ok-far-2.far.items step more in
    let room = c.loop-alloc.invariant.1 in
    (one_level g c.args.goal k c.loop-alloc.far.items c.in_ok-far-2.far.items c.loop-alloc.invariant.0 step, omega (arith, fewer, room))

pub returns : goal.returns
returns c =
    let g = c.args.graph.now in
    let k = c.loop-alloc.steps in
    let room = c.loop-alloc.invariant.1 in
    all_known g c.args.goal k c.loop-alloc.far.items (omega (arith, room)) c.loop-alloc.invariant.0
    (λ more. false≢true
    (sym c.loop-alloc-test.false ∙ c.can_extend_cycle_distances.ensures.1 (subst (λ xs. LeadsOn g xs k) (sym c.deref.ensures.value) more)))
