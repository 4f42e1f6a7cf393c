use Rattle.std.proofs.Common.{rules, ℕ, ◌≡◌, ◌<◌, ◌+ℤ◌, ◌∙◌, pos, refl, subst, ap, sym, length, slice_index_or, FitsSigned, w16, w32}
use Rattle.std.specs.Prelude.{if◌then◌else◌}
use Rattle.std.specs.Ordering.{int_eq}
use Rattle.std.proofs.lemmas.Int.{to_z-of_z}
use Rattle.domains.specs.Arithmetic.{floor_rem}
use Rattle.row_loops.specs.Rows.{at}
use Rattle.row_kernels.proofs.Leaving.{kept_where, taken_more, next_rest, tested}
use Rattle.narrow_kernels.proofs.narrow_masks.copy_narrow_columns_with_remainder.Goals as goal

pub loop-k-init : goal.loop-k-init
loop-k-init c =
    let col : FitsSigned w32 c.args.points.now.col = search rules in
    let passed = simp to_z-of_z at c.count_columns_to_first_with_remainder-first.ensures.first in
    record {
      done = λ j l h. kept_where c.args.rest _ _ (at c.args.other.now j) _ (passed j l) refl;
      ahead = λ j l. refl;
      here = simp to_z-of_z at c.count_columns_to_first_with_remainder-first.ensures.lands;
    }

pub loop-k-preserved : goal.loop-k-preserved
loop-k-preserved c =
    let small : c.args.rest < c.args.modulus = search rules in
    let lt : c.loop-k.k < length c.loop-k.out = search rules in
    let fits : FitsSigned w16 (slice_index_or c.args.other.now c.loop-k.k (pos 0)) = search rules in
    record {
      done = λ j near h.
          let inside : j < length c.loop-k.out = search rules in
          taken_more c.args.points.now.col c.args.modulus c.args.rest c.args.other.now c.args.out.now c.loop-k.k c.loop-k.out _ small lt
          (to_z-of_z w16 _ fits) c.loop-k.invariant.here c.loop-k.invariant.done c.loop-k.invariant.ahead j near inside;
      ahead = search rules;
      here = next_rest c.args.points.now.col c.args.modulus c.args.rest c.args.other.now c.args.out.now c.loop-k.k small
          c.loop-k.invariant.here;
    }

pub returns-then-modulus-eq2 : goal.returns-then-modulus-eq2
returns-then-modulus-eq2 c = λ k h.
    let two : c.args.modulus ≡ 2 = search rules in
    let small : c.count_columns_to_first_with_remainder-first.result < 2 = search rules in
    let col : FitsSigned w32 c.args.points.now.col = search rules in
    let lands : floor_rem (c.args.points.now.col +ℤ pos c.count_columns_to_first_with_remainder-first.result) (pos 2) ≡ pos c.args.rest =
    subst (λ (m : ℕ). floor_rem (c.args.points.now.col +ℤ pos c.count_columns_to_first_with_remainder-first.result) (pos m) ≡ pos c.args.rest) two
    (simp to_z-of_z at c.count_columns_to_first_with_remainder-first.ensures.lands) in
    c.copy_narrow_places_with_remainder_by_two.ensures k h ∙ tested c.args.points.now.col c.count_columns_to_first_with_remainder-first.result c.args.rest small lands k _ _
    ∙ ap (λ (m : ℕ). if int_eq (floor_rem (c.args.points.now.col +ℤ pos k) (pos m)) (pos c.args.rest) then at c.args.other.now k
    else at c.args.out.now k) (sym two)
