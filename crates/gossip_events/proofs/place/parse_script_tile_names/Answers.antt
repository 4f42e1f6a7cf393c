use Rattle.std.proofs.Common.{◌++◌, [], ◌∷◌, ap, cond, sym, ◌∙◌}
use Rattle.std.proofs.lemmas.Result.{err_from_is_err_and}
use Rattle.gossip_events.proofs.PlaceLaws.{more_places, no_places}
use Rattle.gossip_events.proofs.place.parse_script_tile_names.Goals as goal

pub loop-word-preserved : goal.loop-word-preserved
loop-word-preserved c =
    let places = c.loop-word.items.items in
    let longer =
    c.push.ensures.items ∙ ap (λ t. cond t (places ++ (c.in_ok-place.place ∷ [])) places) (sym c.in_ok-map_err.ensures.variant) in
    more_places c.args.words.now c.loop-word.word-index _ places _ _ c.loop-word-test.true c.loop-word.invariant c.in_ok-place.ensures.some
    longer

pub returns-in_err-place-clause-none : goal.returns-in_err-place-clause-none
returns-in_err-place-clause-none c =
    let p = err_from_is_err_and c.from_residual.result c.from_residual.ensures.1 in
    rw (p.1, p.2) (λ is. no_places c.args.words.now c.loop-word.word-index _ c.loop-word-test.true (c.in_err-place.ensures.none is))
