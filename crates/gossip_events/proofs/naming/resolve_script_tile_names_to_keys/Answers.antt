use Rattle.std.proofs.Common.{◌++◌, [], ◌∷◌, ap, cond, sym, ◌∙◌}
use Rattle.gossip_events.proofs.KeyLaws.{more_keys, no_keys}
use Rattle.gossip_events.proofs.naming.resolve_script_tile_names_to_keys.Goals as goal

pub loop-place-preserved : goal.loop-place-preserved
loop-place-preserved c =
    let keys = c.loop-place.keys.items in
    let longer = c.push.ensures.items ∙ ap (λ t. cond t (keys ++ (c.in-Some.key ∷ [])) keys) (sym c.in_ok-map_err.ensures.variant) in
    more_keys c.args.jobs.now c.args.places.now c.loop-place.place-index _ keys _ _ c.loop-place-test.true c.loop-place.invariant
    c.in-Some.ensures.some longer

pub returns-in_default-clause-none : goal.returns-in_default-clause-none
returns-in_default-clause-none c =
    no_keys c.args.jobs.now c.args.places.now c.loop-place.place-index _ c.loop-place-test.true c.in_default.ensures.none
