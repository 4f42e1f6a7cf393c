use Rattle.std.proofs.Common.{rules, arith, ℕ, ℤ, pos, ◌≡◌, ◌<◌, ◌≤◌, ◌+◌, ◌*◌, ◌+ℤ◌, length, refl, ap, sym, ◌∙◌, w32, FitsSigned}
use Rattle.std.specs.Int.{int_gap}
use Rattle.std.proofs.lemmas.Int.{to_z-of_z}
use Rattle.domains.specs.Area.{HoldsPoint}
use Rattle.domains.specs.Span.{len_of}
use Rattle.domains.proofs.Lengths.{gap_is}
use Rattle.job.specs.Values.{sample_at}
use Rattle.job.specs.WellFormed.{picture_area}
use Rattle.row_kernels.proofs.Places.{gap_below}
use Rattle.tile_eval.proofs.Grid.{rows_more, row_len, line_within, same_place}
use Rattle.tile_eval.specs.Rows.{at}
use Rattle.tile_sources.proofs.PlanesAreWide.{nth_there}
use Rattle.tile_sources.proofs.plane_buffer.write_converted_samples_of_plane_area.Goals as goal

pub read_plane_row_for_tile-requires-clause-there : goal.read_plane_row_for_tile-requires-clause-there
read_plane_row_for_tile-requires-clause-there c =
    let area = c.args.area.now in
    let i = c.loop-i.i in
    let count = c.len-count.result in
    let wide : count ≡ len_of area.cols = c.len-count.ensures.number in
    let lt : i < len_of area.rows = omega (arith, c.len-i-end.ensures.number) in
    let within = line_within i (len_of area.rows) count (len_of area.rows * count) lt refl in
    let long : len_of area.rows * count ≤ length c.loop-i.out =
    rw wide (omega (arith, c.requires.len, c.loop-i.auto.out)) in
    let whole : i * count + count ≤ length c.loop-i.out = omega (arith, within, long) in
    let cut = row_len (i * count) count c.loop-i.out whole in
    let row : FitsSigned w32 c.compute_coordinate_at_place-row.result = search rules in
    let col : FitsSigned w32 c.lo-in-loop-i.result = search rules in
    let row_is : c.compute_coordinate_at_place-row.result ≡ area.rows.lo +ℤ pos i = search rules in
    let col_is : c.lo-in-loop-i.result ≡ area.cols.lo = search rules in
    rw cut (rw (to_z-of_z w32 c.compute_coordinate_at_place-row.result row) (rw (to_z-of_z w32 c.lo-in-loop-i.result col) (λ k h.
    let below : k < len_of area.cols = omega (arith, h, wide) in
    same_place (HoldsPoint (picture_area c.args.picture.now)) (area.rows.lo +ℤ pos i) area.cols.lo c.compute_coordinate_at_place-row.result
    c.lo-in-loop-i.result k row_is col_is (nth_there area (picture_area c.args.picture.now) i k c.requires.area lt below))))

pub loop-i-preserved : goal.loop-i-preserved
loop-i-preserved c =
    let area = c.args.area.now in
    let i = c.loop-i.i in
    let count = c.len-count.result in
    let f : ℕ → ℕ → ℤ = λ j k. sample_at c.args.picture.now c.args.plane (area.rows.lo +ℤ pos j) (area.cols.lo +ℤ pos k) in
    let wide : count ≡ len_of area.cols = c.len-count.ensures.number in
    let lt : i < len_of area.rows = omega (arith, c.len-i-end.ensures.number) in
    let within = line_within i (len_of area.rows) count (len_of area.rows * count) lt refl in
    let long : len_of area.rows * count ≤ length c.loop-i.out =
    rw wide (omega (arith, c.requires.len, c.loop-i.auto.out)) in
    let whole : i * count + count ≤ length c.loop-i.out = omega (arith, within, long) in
    let from : i * count ≤ length c.loop-i.out = omega (arith, whole) in
    let cut = row_len (i * count) count c.loop-i.out whole in
    let row : FitsSigned w32 c.compute_coordinate_at_place-row.result = search rules in
    let col : FitsSigned w32 c.lo-in-loop-i.result = search rules in
    let row_is : c.compute_coordinate_at_place-row.result ≡ area.rows.lo +ℤ pos i = search rules in
    let col_is : c.lo-in-loop-i.result ≡ area.cols.lo = search rules in
    rows_more f i count c.loop-i.out c.read_plane_row_for_tile.new.out from (c.read_plane_row_for_tile.auto.out ∙ cut) c.loop-i.invariant (λ k h.
    let below : k < length _ = omega (arith, h, cut) in
    c.read_plane_row_for_tile.ensures k below
    ∙ (λ x. sample_at c.args.picture.now c.args.plane ((to_z-of_z w32 c.compute_coordinate_at_place-row.result row ∙ row_is) x)
    ((to_z-of_z w32 c.lo-in-loop-i.result col ∙ col_is) x +ℤ pos k)))

pub returns : goal.returns
returns c = λ r v holds.
    let area = c.args.area.now in
    let i : ℕ = int_gap area.rows.lo r in
    let k : ℕ = int_gap area.cols.lo v in
    let wide : c.len-count.result ≡ len_of area.cols = c.len-count.ensures.number in
    let row : i < c.loop-i.i = omega (arith, gap_below area.rows r holds.0, c.len-i-end.ensures.number) in
    let col : k < c.len-count.result = omega (arith, gap_below area.cols v holds.1, wide) in
    ap (λ (n : ℕ). at c.loop-i.out (i * n + k)) (sym wide)
    ∙ c.loop-i.invariant i row k col
    ∙ (λ x. sample_at c.args.picture.now c.args.plane (gap_is area.rows.lo r holds.0.0 x) (gap_is area.cols.lo v holds.1.0 x))
