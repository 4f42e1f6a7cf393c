-- Facts are totally ordered, and facts between which the order sees no difference are one.
use Rattle.std.proofs.Common.{◌≡◌, ◌↔◌, refl, ap, ◌∙◌, rules}
use Rattle.std.specs.declared.cmp.Ordering.{Ordering}
use Rattle.std.specs.declared.cmp.Ordering.TheVariants.{Less, Equal, Greater}
use Rattle.std.specs.Cmp.{IsTotalOrder, nat_cmp_total, int_cmp_total, on_total, then_total}
use Rattle.std.specs.Cmp.Lexicographic.{slice_cmp, lists_total}
use Rattle.std.specs.FinSet.{IsAntisymmetric, int_cmp-IsAntisymmetric, slice_cmp-IsAntisymmetric}
use Rattle.std.specs.Ordering.{int_cmp, ordering_reverse, ordering_then}
use Rattle.identity.proofs.KeyLaws.{key_order, same_key}
use Rattle.identity.specs.Keys.{key_cmp}
use Rattle.tile_fact.specs.declared.body.Body.{Body}
use Rattle.tile_fact.specs.declared.body.Body.TheVariants.{Tile, Partial}
use Rattle.tile_fact.specs.declared.fact.Fact.{Fact}
use Rattle.tile_fact.specs.Bodies.{kind, numbers}
use Rattle.tile_fact.specs.Order.{body_cmp, fact_cmp}

body_order : IsTotalOrder body_cmp
body_order = then_total (on_total kind nat_cmp_total) (on_total numbers (lists_total int_cmp_total))

pub fact_order : IsTotalOrder fact_cmp
unfolding fact_cmp
fact_order = then_total (on_total (λ f. f.key) key_order) (on_total (λ f. f.body) body_order)

not_less : (r : Ordering) → r ≡ ordering_reverse r → r ≡ Equal
not_less Less h = absurd (search rules)
not_less Equal h = refl
not_less Greater h = absurd (search rules)

tied : (a b : Ordering) → ordering_then a b ≡ Equal → (a ≡ Equal) × (b ≡ Equal)
tied Less b h = absurd (search rules)
tied Equal b h = (refl, h)
tied Greater b h = absurd (search rules)

same_numbers : IsAntisymmetric (slice_cmp int_cmp)
same_numbers = slice_cmp-IsAntisymmetric int_cmp-IsAntisymmetric

same_body : (a b : Body) → body_cmp a b ≡ Equal → a ≡ b
same_body (Tile xs) (Tile ys) h = ap Tile (same_numbers xs ys h)
same_body (Tile xs) (Partial ys) h = cc
same_body (Partial xs) (Tile ys) h = cc
same_body (Partial xs) (Partial ys) h = ap Partial (same_numbers xs ys h)

one_fact : (a b : Fact) → a.key ≡ b.key → a.body ≡ b.body → a ≡ b
one_fact a b k n i = record { key = k i; body = n i }

pub same_fact : (a b : Fact) → fact_cmp a b ≡ Equal → a ≡ b
unfolding fact_cmp
same_fact a b h =
    let both = tied (key_cmp a.key b.key) (body_cmp a.body b.body) h in one_fact a b (same_key _ _ both.0) (same_body _ _ both.1)

pub equal_facts : (a b : Fact) → (fact_cmp a b ≡ Equal) ↔ (a ≡ b)
equal_facts a b = (same_fact a b, λ h. ap (λ f. fact_cmp f b) h ∙ not_less (fact_cmp b b) (fact_order.antisymm b b))
