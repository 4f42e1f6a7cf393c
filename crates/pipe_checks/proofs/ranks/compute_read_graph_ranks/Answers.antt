use Rattle.std.proofs.Common.{ℕ, ◌≡◌, Option, Some, None, slice_get, sym, ◌∙◌, subst, rules}
use Rattle.std.proofs.lemmas.Option.{IfSome_then}
use Rattle.std.specs.Global.{Vec}
use Rattle.pipe_checks.specs.Graph.{links_at, IsAcyclic}
use Rattle.pipe_checks.specs.inside.Search.{known_rank, rank_over, SomeUnranked, AreRanked}
use Rattle.pipe_checks.proofs.Ranking.{ranked_more, ranked_fewer, ranked_start, ranking_of, stuck_is_cyclic}
use Rattle.pipe_checks.proofs.Unknown.{none_then}
use Rattle.domains.proofs.Places.{ok_then}
use Rattle.pipe_checks.proofs.ranks.compute_read_graph_ranks.Goals as goal

pub loop-stage-init : goal.loop-stage-init
loop-stage-init c = subst (AreRanked c.args.graph.now) (sym c.in_ok-ranks.ensures) (ranked_start c.args.graph.now _ (search rules))

pub loop-stage-smaller : goal.loop-stage-smaller
loop-stage-smaller c =
    ranked_fewer c.loop-stage.ranks.items c.in-Some.stage c.in-Some.rank
    (subst (λ xs. slice_get xs c.in-Some.stage ≡ Some None) c.deref.ensures.value c.in-Some.ensures.unknown)

pub loop-stage-preserved : goal.loop-stage-preserved
loop-stage-preserved c =
    let g = c.args.graph.now in
    let s = c.in-Some.stage in
    let r = c.in-Some.rank in
    let same = c.deref.ensures.value in
    ranked_more g c.loop-stage.ranks.items s r c.loop-stage.invariant
    (subst (λ xs. slice_get xs s ≡ Some None) same c.in-Some.ensures.unknown)
    (subst (λ xs. r ≡ rank_over (known_rank xs) (links_at g s)) same c.in-Some.ensures.rank)
    (subst (λ xs. SomeUnranked xs (links_at g s).reads → ⊥) same c.in-Some.ensures.ranked)

pub returns-clause-some : goal.returns-clause-some
returns-clause-some c =
    ok_then _ c.unwrap_graph_ranks_if_all_known.ensures.all (λ (o : Option (Vec ℕ)) all. IfSome_then o all (λ (v : Vec ℕ) e. ranking_of c.args.graph.now
    c.loop-stage.ranks.items v.items c.loop-stage.invariant (e ∙ c.deref-2.ensures.value)))

pub returns-clause-none : goal.returns-clause-none
returns-clause-none c =
    ok_then _ c.unwrap_graph_ranks_if_all_known.ensures.none (λ (o : Option (Vec ℕ)) none. none_then {Q = IsAcyclic c.args.graph.now → ⊥} o none (λ u acyclic.
    stuck_is_cyclic c.args.graph.now c.loop-stage.ranks.items c.loop-stage.invariant.each
    (subst (λ xs. (s : ℕ) → slice_get xs s ≡ Some None → SomeUnranked xs (links_at c.args.graph.now s).reads) c.deref.ensures.value
    c.in_default.ensures.stuck)
    u.0 (subst (λ xs. slice_get xs u.0 ≡ Some None) c.deref-2.ensures.value u.1) acyclic))
