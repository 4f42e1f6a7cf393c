use Rattle.std.proofs.Common.{rules, List, ◌≡◌, Some, slice_get, FitsSigned, w32, to_z, of_z, ap, subst, ◌∙◌}
use Rattle.std.proofs.lemmas.Int.{to_z-of_z}
use Rattle.std.proofs.lemmas.Option.{get_or_from_slice_get}
use Rattle.job.specs.Formula.{read}
use Rattle.normal_formulas.specs.declared.sums.NormalTerm.{NormalTerm}
use Rattle.normal_formulas.proofs.KernelLaws.{read_taken}
use Rattle.normal_formulas.proofs.kernels.take_normal_read.Goals as goal

pub returns : goal.returns
returns c = λ s.
    let ts = c.args.terms.now.items in
    let place = c.in_ok-place.place in
    let t = c.in_ok-place.ensures.term in
    let there : slice_get ts place ≡ Some t =
    subst (λ (xs : List NormalTerm). slice_get xs place ≡ Some t) c.deref.ensures.value c.in_ok-place.ensures.there in
    let fits : FitsSigned w32 c.remove.result.factor = search rules in
    read_taken s ts c.remove.new.self.items place t (to_z w32 (of_z w32 c.remove.result.factor)) (read c.args.stage c.args.row c.args.column)
    there c.in_ok-place.ensures.is
    (to_z-of_z w32 c.remove.result.factor fits
    ∙ ap (λ (x : NormalTerm). x.factor) (c.remove.ensures.value ∙ get_or_from_slice_get ts place t c.remove.result there))
    c.remove.ensures.items
