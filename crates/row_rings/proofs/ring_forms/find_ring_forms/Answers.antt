use Rattle.row_rings.proofs.ring_forms.find_ring_forms.Goals as goal

pub returns-then-are_ring_forms_right-clause-right : goal.returns-then-are_ring_forms_right-clause-right
returns-then-are_ring_forms_right-clause-right c = c.are_ring_forms_right.ensures.right c.if-are_ring_forms_right.true
