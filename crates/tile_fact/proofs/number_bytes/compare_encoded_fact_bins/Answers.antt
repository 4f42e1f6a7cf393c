use Rattle.std.proofs.Common.{FitsSigned, rules, refl, ◌≡◌, ◌<◌, length, sym, ◌∙◌, arith}
use Rattle.std.proofs.lemmas.Int.{to_z-of_z}
use Rattle.std.specs.Int.{w64}
use Rattle.std.specs.Ordering.{int_cmp}
use Rattle.tile_fact.specs.Numbers.{number_in}
use Rattle.tile_fact.proofs.NumberLaws.{bin_step, bin_end, unequal_first}
use Rattle.tile_fact.proofs.NumberLaws.{equal_first, longer_first, shorter_first, both_end, is_equal, is_unequal}
use Rattle.tile_fact.proofs.number_bytes.compare_encoded_fact_bins.Goals as goal
use Rattle.tile_fact.proofs.number_bytes.compare_encoded_fact_bins.Goals.{then-loop-a_rest-test+else-b_rest-ge8, else-loop-a_rest-test}

pub returns-then-ne : goal.returns-then-ne
returns-then-ne c =
    let a = c.loop-a_rest.a_rest.now in
    let b = c.loop-a_rest.b_rest.now in
    let x = c.decode_first_fact_bin-x.result.0 in
    let y = c.decode_first_fact_bin-y.result.0 in
    let x_fits : FitsSigned w64 x = search rules in
    let y_fits : FitsSigned w64 y = search rules in
    let order : c.cmp-order.result ≡ int_cmp (number_in w64 a) (number_in w64 b) =
    rw (c.cmp-order.ensures, to_z-of_z w64 x x_fits, to_z-of_z w64 y y_fits, c.decode_first_fact_bin-x.ensures.bin, c.decode_first_fact_bin-y.ensures.bin) refl in
    unequal_first _ _ _ _ _ _ _ order (is_unequal _ c.if-ne.ensures) (bin_step a (omega arith)) (bin_step b (omega arith))
    ∙ c.loop-a_rest.invariant

pub loop-a_rest-preserved : goal.loop-a_rest-preserved
loop-a_rest-preserved c =
    let a = c.loop-a_rest.a_rest.now in
    let b = c.loop-a_rest.b_rest.now in
    let x = c.decode_first_fact_bin-x.result.0 in
    let y = c.decode_first_fact_bin-y.result.0 in
    let x_fits : FitsSigned w64 x = search rules in
    let y_fits : FitsSigned w64 y = search rules in
    let order : c.cmp-order.result ≡ int_cmp (number_in w64 a) (number_in w64 b) =
    rw (c.cmp-order.ensures, to_z-of_z w64 x x_fits, to_z-of_z w64 y y_fits, c.decode_first_fact_bin-x.ensures.bin, c.decode_first_fact_bin-y.ensures.bin) refl in
    rw (c.decode_first_fact_bin-x.ensures.behind, c.decode_first_fact_bin-y.ensures.behind)
    (equal_first _ _ _ _ _ _ (sym order ∙ is_equal _ c.if-ne.ensures) (bin_step a (omega arith)) (bin_step b (omega arith))
    ∙ c.loop-a_rest.invariant)

pub returns-then-a_rest-ge8 : goal.returns-then-a_rest-ge8
returns-then-a_rest-ge8 c =
    let short : length c.loop-a_rest.b_rest.now < 8 =
    elim c.loop-a_rest-test.branch [ then-loop-a_rest-test+else-b_rest-ge8 w ↦ omega arith | else-loop-a_rest-test w ↦ omega arith ] in
    sym (sym c.loop-a_rest.invariant
    ∙ longer_first _ _ _ _ (bin_step c.loop-a_rest.a_rest.now (omega arith)) (bin_end c.loop-a_rest.b_rest.now short))

pub returns-then-b_rest-ge8-2 : goal.returns-then-b_rest-ge8-2
returns-then-b_rest-ge8-2 c =
    sym (sym c.loop-a_rest.invariant
    ∙ shorter_first _ _ _ _ (bin_end c.loop-a_rest.a_rest.now (omega arith)) (bin_step c.loop-a_rest.b_rest.now (omega arith)))

pub returns-else-b_rest-ge8-2 : goal.returns-else-b_rest-ge8-2
returns-else-b_rest-ge8-2 c =
    sym (sym c.loop-a_rest.invariant
    ∙ both_end _ _ (bin_end c.loop-a_rest.a_rest.now (omega arith)) (bin_end c.loop-a_rest.b_rest.now (omega arith)))
