use Rattle.std.proofs.Common.{rules, arith, ◌≡◌, ◌<◌, ◌+◌, ◌+ℤ◌, pos, length, ap, ◌∙◌, sym}
use Rattle.domains.specs.Area.{point_count}
use Rattle.row_loops.specs.Rows.{at}
use Rattle.row_kernels.specs.Places.{place_of}
use Rattle.row_kernels.proofs.Places.{row_within, first_there, place_along}
use Rattle.row_kernels.proofs.buffer_view.BufferView.slice_row.Goals as goal

pub slice_buffer_view_values_from_place-requires : goal.slice_buffer_view_values_from_place-requires
slice_buffer_view_values_from_place-requires c =
    let some : 0 < c.args.count = search rules in
    let place : c.locate_point.result ≡ place_of c.args.self.now.area c.args.row c.args.first = search rules in
    let size : length c.args.self.now.values.now ≡ point_count c.args.self.now.area = c.args.self.now.size in
    omega (arith, row_within c.args.self.now.area c.args.row c.args.first c.args.count some c.requires)

pub returns-clause-values : goal.returns-clause-values
returns-clause-values c = λ k h.
    let some : 0 < c.args.count = omega arith in
    let place : c.locate_point.result ≡ place_of c.args.self.now.area c.args.row c.args.first = search rules in
    let there = first_there c.args.self.now.area c.args.row c.args.first c.args.count some c.requires in
    let along : c.locate_point.result + k ≡ place_of c.args.self.now.area c.args.row (c.args.first +ℤ pos k) =
    ap (λ n. n + k) place ∙ sym (place_along c.args.self.now.area c.args.row c.args.first k there.1.0) in
    c.slice_buffer_view_values_from_place.ensures.values k h ∙ ap (at c.args.self.now.values.now) along
