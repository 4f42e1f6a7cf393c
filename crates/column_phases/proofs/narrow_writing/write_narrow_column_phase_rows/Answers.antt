use Rattle.std.proofs.Common.{arith, ℕ, suc, ◌≡◌, ◌<◌, ◌+◌, ◌%◌, pos, length, ap, sym, ◌∙◌}
use Rattle.std.proofs.lemmas.Int.{ints, by_lt_z}
use Rattle.column_phases.specs.inside.Rows.{row_start, row_place}
use Rattle.row_loops.specs.Rows.{at}
use Rattle.column_phases.proofs.RowLaws.{rows_end, place_before}
use Rattle.column_phases.proofs.narrow_writing.write_narrow_column_phase_rows.Goals as goal

pub write_narrow_column_phase-end-requires-clause-few : goal.write_narrow_column_phase-end-requires-clause-few
write_narrow_column_phase-end-requires-clause-few g c =
    let all = c.args.phases.now in
    let short = c.loop-place-test.true in
    let count = c.count_column_phases-place-end.ensures.count in
    let last =
    rows_end (length all.functions.items) all.least all.most (length c.loop-place.out) c.loop-place.place (omega (arith, short, count)) in
    omega (arith, last, c.loop-place.invariant.begun)

pub loop-place-preserved : goal.loop-place-preserved
loop-place-preserved g c =
    let all = c.args.phases.now in
    let P = length all.functions.items in
    let step = c.write_narrow_column_phase-end in
    let kept : length step.new.out ≡ length c.loop-place.out = step.auto.out in
    let next : suc c.loop-place.place ≡ c.loop-place.place + 1 = omega arith in
    record {
      begun = step.ensures.end ∙ (λ i. row_start P (sym kept i) (next i));
      made = λ k h l.
          let inside : k < length c.loop-place.out = omega (arith, h, kept) in
          ap (λ (n : ℕ). at step.new.out (row_place P n k)) kept
          ∙ by_lt_z (pos (k % P)) (pos c.loop-place.place)
          (λ less.
          let few : k % P < c.loop-place.place = omega (arith, ints, less) in
          let before = place_before P all.least all.most (length c.loop-place.out) k c.loop-place.place inside few in
          step.ensures.before (row_place P (length c.loop-place.out) k) (omega (arith, before, c.loop-place.invariant.begun))
          ∙ c.loop-place.invariant.made k inside few)
          (λ more.
          let same : k % P ≡ c.loop-place.place = omega (arith, ints, more, l) in
          step.ensures.row k inside same);
    }
