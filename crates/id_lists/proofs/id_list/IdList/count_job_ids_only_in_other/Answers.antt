use Rattle.std.proofs.Common.{◌≡◌, ◌∙◌, true, false, refl, arith, ap, sym, filter, length}
use Rattle.std.proofs.lemmas.List.{take_all}
use Rattle.std.specs.List.{list_any}
use Rattle.std.specs.Ordering.{eq_by_cmp}
use Rattle.identity.specs.Keys.{ids_cmp}
use Rattle.id_lists.proofs.ListLaws.{all_counted, is_lacked, one_counted}
use Rattle.id_lists.specs.IdLists.{ids_lacked}
use Rattle.id_lists.proofs.id_list.IdList.count_job_ids_only_in_other.Goals as goal
use Rattle.id_lists.proofs.id_list.IdList.count_job_ids_only_in_other.Goals.{then-not-has_listed_job_id, else-not-has_listed_job_id}

pub loop-ids-init : goal.loop-ids-init
loop-ids-init c = record { counted = refl; few = omega arith }

pub overflow_add-count : goal.overflow_add-count
overflow_add-count c = omega (arith, c.loop-ids.invariant.few, c.loop-ids-test.true, c.loop-ids.auto.ids-index-end)

pub loop-ids-preserved : goal.loop-ids-preserved
loop-ids-preserved c =
    let xs = c.self.inside.ids.items in
    let ys = c.deref-ids-items.result.now in
    let i = c.ids-item.result in
    let asked : c.has_listed_job_id.result ≡ list_any (eq_by_cmp ids_cmp i) xs =
    c.has_listed_job_id.ensures ∙ ap (list_any (eq_by_cmp ids_cmp i)) c.deref.ensures.value in
    elim c.if-not-has_listed_job_id.branch [
      | then-not-has_listed_job_id w ↦
          record {
            counted =
                one_counted xs ys c.loop-ids.ids-index i c.loop-ids.count c.if-not-has_listed_job_id.count false c.loop-ids-test.true
                c.ids-item.is (sym asked ∙ w.if-not-has_listed_job_id.true) c.loop-ids.invariant.counted w.count-is;
            few = omega (arith, w.count-is, c.loop-ids.invariant.few);
          }
      | else-not-has_listed_job_id w ↦
          record {
            counted =
                one_counted xs ys c.loop-ids.ids-index i c.loop-ids.count c.if-not-has_listed_job_id.count true c.loop-ids-test.true
                c.ids-item.is (sym asked ∙ w.if-not-has_listed_job_id.false) c.loop-ids.invariant.counted (omega (arith, w.count-is));
            few = omega (arith, w.count-is, c.loop-ids.invariant.few);
          }
    ]

pub returns-clause-count : goal.returns-clause-count
returns-clause-count c =
    let xs = c.self.inside.ids.items in
    let ys = c.deref-ids-items.result.now in
    c.loop-ids.invariant.counted
    ∙ ap (λ zs. length (filter (is_lacked xs) zs)) (take_all c.loop-ids.ids-index ys (omega (arith, c.loop-ids-test.false)))
    ∙ ap (λ zs. length (filter (is_lacked xs) zs)) c.deref-ids-items.ensures.value
    ∙ all_counted xs c.other.inside.ids.items c.other.invariant
    ∙ (λ i. length (ids_lacked (c.self.view_is i) (c.other.view_is i)))
