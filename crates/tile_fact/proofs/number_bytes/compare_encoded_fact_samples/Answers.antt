use Rattle.std.proofs.Common.{FitsSigned, rules, refl, ◌≡◌, ◌<◌, length, sym, ◌∙◌, arith}
use Rattle.std.proofs.lemmas.Int.{to_z-of_z}
use Rattle.std.specs.Int.{w32}
use Rattle.std.specs.Ordering.{int_cmp}
use Rattle.tile_fact.specs.Numbers.{number_in}
use Rattle.tile_fact.proofs.NumberLaws.{sample_step, sample_end, unequal_first, equal_first, longer_first, shorter_first}
use Rattle.tile_fact.proofs.NumberLaws.{both_end, is_equal, is_unequal}
use Rattle.tile_fact.proofs.number_bytes.compare_encoded_fact_samples.Goals as goal
use Rattle.tile_fact.proofs.number_bytes.compare_encoded_fact_samples.Goals.{then-loop-a_rest-test+else-b_rest-ge4, else-loop-a_rest-test}

pub returns-then-ne : goal.returns-then-ne
returns-then-ne c =
    let a = c.loop-a_rest.a_rest.now in
    let b = c.loop-a_rest.b_rest.now in
    let x = c.decode_first_fact_sample-x.result.0 in
    let y = c.decode_first_fact_sample-y.result.0 in
    let x_fits : FitsSigned w32 x = search rules in
    let y_fits : FitsSigned w32 y = search rules in
    let order : c.cmp-order.result ≡ int_cmp (number_in w32 a) (number_in w32 b) =
    rw (
      c.cmp-order.ensures,
      to_z-of_z w32 x x_fits,
      to_z-of_z w32 y y_fits,
      c.decode_first_fact_sample-x.ensures.sample,
      c.decode_first_fact_sample-y.ensures.sample,
    ) refl in
    unequal_first _ _ _ _ _ _ _ order (is_unequal _ c.if-ne.ensures) (sample_step a (omega arith)) (sample_step b (omega arith))
    ∙ c.loop-a_rest.invariant

pub loop-a_rest-preserved : goal.loop-a_rest-preserved
loop-a_rest-preserved c =
    let a = c.loop-a_rest.a_rest.now in
    let b = c.loop-a_rest.b_rest.now in
    let x = c.decode_first_fact_sample-x.result.0 in
    let y = c.decode_first_fact_sample-y.result.0 in
    let x_fits : FitsSigned w32 x = search rules in
    let y_fits : FitsSigned w32 y = search rules in
    let order : c.cmp-order.result ≡ int_cmp (number_in w32 a) (number_in w32 b) =
    rw (
      c.cmp-order.ensures,
      to_z-of_z w32 x x_fits,
      to_z-of_z w32 y y_fits,
      c.decode_first_fact_sample-x.ensures.sample,
      c.decode_first_fact_sample-y.ensures.sample,
    ) refl in
    rw (c.decode_first_fact_sample-x.ensures.behind, c.decode_first_fact_sample-y.ensures.behind)
    (equal_first _ _ _ _ _ _ (sym order ∙ is_equal _ c.if-ne.ensures) (sample_step a (omega arith)) (sample_step b (omega arith))
    ∙ c.loop-a_rest.invariant)

pub returns-then-a_rest-ge4 : goal.returns-then-a_rest-ge4
returns-then-a_rest-ge4 c =
    let short : length c.loop-a_rest.b_rest.now < 4 =
    elim c.loop-a_rest-test.branch [ then-loop-a_rest-test+else-b_rest-ge4 w ↦ omega arith | else-loop-a_rest-test w ↦ omega arith ] in
    sym (sym c.loop-a_rest.invariant
    ∙ longer_first _ _ _ _ (sample_step c.loop-a_rest.a_rest.now (omega arith)) (sample_end c.loop-a_rest.b_rest.now short))

pub returns-then-b_rest-ge4-2 : goal.returns-then-b_rest-ge4-2
returns-then-b_rest-ge4-2 c =
    sym (sym c.loop-a_rest.invariant
    ∙ shorter_first _ _ _ _ (sample_end c.loop-a_rest.a_rest.now (omega arith)) (sample_step c.loop-a_rest.b_rest.now (omega arith)))

pub returns-else-b_rest-ge4-2 : goal.returns-else-b_rest-ge4-2
returns-else-b_rest-ge4-2 c =
    sym (sym c.loop-a_rest.invariant
    ∙ both_end _ _ (sample_end c.loop-a_rest.a_rest.now (omega arith)) (sample_end c.loop-a_rest.b_rest.now (omega arith)))
