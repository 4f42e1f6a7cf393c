use Rattle.std.proofs.Common.{◌+◌, ◌≡◌, max, map, drop, Some, None, get_or, slice_get, arith, sym, ◌∙◌, ap, subst, rules}
use Rattle.std.proofs.lemmas.Option.{none-some, same_Some}
use borrow.Author.Count.{below_more}
use Rattle.domains.specs.Greatest.{greatest}
use Rattle.pipe_checks.specs.inside.Search.{known_rank, SomeUnranked}
use Rattle.pipe_checks.proofs.Ranking.{above_step, known_is, known_past, none_of_them}
use Rattle.pipe_checks.proofs.ranks.find_graph_rank_above_reads.Goals as goal
use Rattle.pipe_checks.proofs.ranks.find_graph_rank_above_reads.Goals.{in-Some-Some, in-None}

pub loop-stage-preserved : goal.loop-stage-preserved
loop-stage-preserved c =
    elim c.match-get_graph_rank_or_distance.branch [
      | in-Some-Some w ↦ (
          let at = get_or c.reads-stage-items.result.now c.loop-stage.stage-index 0 in
          let got : slice_get c.args.ranks.now at ≡ Some (Some w.in-Some-Some.rank) =
          sym c.get_graph_rank_or_distance.ensures ∙ w.in-Some-Some.is ∙ ap Some w.in-Some-Some.field-0-is in
          let most : w.max-greatest.result ≡ max c.loop-stage.greatest w.in-Some-Some.rank = search rules in
          let step =
          above_step c.args.ranks.now c.reads-stage-items.result.now c.loop-stage.stage-index c.loop-stage.greatest w.in-Some-Some.rank
          c.loop-stage-test.true (known_is _ at _ got) c.loop-stage.invariant.0 in
          let fits = c.requires at _ got in (
            ap (λ n. max n
                (greatest (map (known_rank c.args.ranks.now) (drop (c.loop-stage.stage-index + 1) c.reads-stage-items.result.now))))
                (w.greatest-is ∙ most) ∙ step,
            below_more _ _ c.loop-stage.invariant.1 (λ none. none-some _ (sym (same_Some _ _ (sym got ∙ none)))),
            omega (arith, w.greatest-is, most, fits, c.loop-stage.invariant.2),
          ))
      | in-None w ↦ (
          let at = get_or c.reads-stage-items.result.now c.loop-stage.stage-index 0 in
          let got : slice_get c.args.ranks.now at ≡ None = sym c.get_graph_rank_or_distance.ensures ∙ w.in-None.is in
          let step =
          above_step c.args.ranks.now c.reads-stage-items.result.now c.loop-stage.stage-index c.loop-stage.greatest 0
          c.loop-stage-test.true (known_past _ at got) c.loop-stage.invariant.0 in
          let same : c.match-get_graph_rank_or_distance.greatest ≡ max c.loop-stage.greatest 0 = omega (arith, w.greatest-is) in (
            ap (λ n. max n
                (greatest (map (known_rank c.args.ranks.now) (drop (c.loop-stage.stage-index + 1) c.reads-stage-items.result.now)))) same
                ∙ step,
            below_more _ _ c.loop-stage.invariant.1 (λ none. none-some _ (sym got ∙ none)),
            omega (arith, w.greatest-is, c.loop-stage.invariant.2),
          ))
    ]

pub returns-then-is_plane-clause-ranked : goal.returns-then-is_plane-clause-ranked
returns-then-is_plane-clause-ranked c =
    subst (λ xs. SomeUnranked c.args.ranks.now xs → ⊥) c.reads-stage-items.ensures
    (none_of_them _ _ (λ k h. c.loop-stage.invariant.1 k (omega arith)))

pub returns-else-is_plane-clause-ranked : goal.returns-else-is_plane-clause-ranked
returns-else-is_plane-clause-ranked c =
    subst (λ xs. SomeUnranked c.args.ranks.now xs → ⊥) c.reads-stage-items.ensures
    (none_of_them _ _ (λ k h. c.loop-stage.invariant.1 k (omega arith)))
