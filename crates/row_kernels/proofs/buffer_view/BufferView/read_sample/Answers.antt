use Rattle.std.proofs.Common.{rules, arith, ◌≡◌, length, ap, ◌∙◌, w32, FitsSigned}
use Rattle.std.proofs.lemmas.Int.{to_z-of_z}
use Rattle.domains.specs.Area.{point_count}
use Rattle.row_loops.specs.Rows.{at}
use Rattle.row_kernels.specs.Places.{place_of}
use Rattle.row_kernels.proofs.Places.{place_below}
use Rattle.row_kernels.proofs.buffer_view.BufferView.read_sample.Goals as goal

pub read_value_at_place-requires : goal.read_value_at_place-requires
read_value_at_place-requires c =
    let place : c.locate_point.result ≡ place_of c.args.self.now.area c.args.row c.args.col = search rules in
    let size : length c.args.self.now.values.now ≡ point_count c.args.self.now.area = c.args.self.now.size in
    omega (arith, place_below c.args.self.now.area c.args.row c.args.col c.requires)

pub returns : goal.returns
returns c =
    let place : c.locate_point.result ≡ place_of c.args.self.now.area c.args.row c.args.col = search rules in
    let fits : FitsSigned w32 c.read_value_at_place.result = search rules in
    to_z-of_z w32 c.read_value_at_place.result fits ∙ c.read_value_at_place.ensures ∙ ap (at c.args.self.now.values.now) place
