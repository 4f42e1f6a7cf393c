use Rattle.std.proofs.Common.{rules, arith, ℕ, ◌≡◌, ◌+◌, ◌-◌, ◌/◌, ◌+ℤ◌, pos, to_z, of_z, w32, FitsSigned, ap, ◌∙◌, subst}
use Rattle.std.proofs.lemmas.Int.{to_z-of_z}
use Rattle.domains.specs.Index.{index_at}
use Rattle.domains.specs.Span.{Holds}
use Rattle.tile_sources.proofs.RowsCrossTiles.{first_held, more_held}
use Rattle.tile_sources.proofs.supplied_tiles.count_first_points_in_supplied_tile.Goals as goal

pub loop-held-init : goal.loop-held-init
loop-held-init c = record {
  some = search rules;
  ordered = search rules;
  most = search rules;
  within = first_held c.args.span.now c.args.col.now c.args.points.now.col c.requires.held;
}

pub loop-held-preserved-then-holds : goal.loop-held-preserved-then-holds
loop-held-preserved-then-holds c =
    let middle : ℕ = c.loop-held.held + (c.loop-held.end - c.loop-held.held) / 2 in
    let found : FitsSigned w32 c.at.result = search rules in
    let at_k : FitsSigned w32 c.column.result = search rules in
    let col : to_z w32 (of_z w32 c.at.result) ≡ index_at c.args.col.now (c.args.points.now.col +ℤ pos middle) =
    to_z-of_z w32 _ found ∙ c.at.ensures.value ∙ ap (index_at c.args.col.now) (to_z-of_z w32 _ at_k ∙ c.column.ensures) in
    record {
      some = omega arith;
      ordered = omega arith;
      most = c.loop-held.invariant.most;
      within =
          more_held c.args.span.now c.args.col.now c.args.points.now.col middle c.at.ensures.within c.requires.held
          (subst (Holds c.args.span.now) col (c.holds.ensures.0 c.if-holds.true));
    }
