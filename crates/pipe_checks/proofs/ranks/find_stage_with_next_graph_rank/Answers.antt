use Rattle.std.proofs.Common.{None, arith, sym, subst}
use Rattle.std.proofs.lemmas.Option.{slice_get_within}
use borrow.Author.Count.{below_more}
use Rattle.pipe_checks.specs.inside.Search.{SomeUnranked}
use Rattle.pipe_checks.proofs.Unknown.{known_at}
use Rattle.pipe_checks.proofs.Ranking.{links_read}
use Rattle.pipe_checks.proofs.ranks.find_stage_with_next_graph_rank.Goals as goal
use Rattle.pipe_checks.proofs.ranks.find_stage_with_next_graph_rank.Goals.{then-is_none+in_default, else-is_none}

pub loop-stage-preserved : goal.loop-stage-preserved
loop-stage-preserved c =
    elim c.if-is_none.branch [
      | then-is_none+in_default w ↦ below_more _ _ c.loop-stage.invariant (λ none.
          subst (λ l. SomeUnranked c.args.ranks.now l.reads) (sym (links_read _ _ _ c.loop-stage-test.true c.index-graph-stage.is))
          w.in_default.ensures.unranked)
      | else-is_none w ↦ below_more _ _ c.loop-stage.invariant
          (λ none. absurd (known_at c.args.ranks.now c.loop-stage.stage w.if-is_none.ensures none))
    ]

pub returns-clause-stuck : goal.returns-clause-stuck
returns-clause-stuck c = λ s none.
    c.loop-stage.invariant s (omega (arith, slice_get_within c.args.ranks.now s None none, c.requires.each)) none
