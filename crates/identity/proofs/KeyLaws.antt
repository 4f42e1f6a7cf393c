-- Keys are totally ordered, and keys between which the order sees no difference are one.
use Rattle.std.proofs.Common.{◌≡◌, ◌↔◌, refl, ap, ◌∙◌, rules}
use Rattle.std.specs.declared.cmp.Ordering.{Ordering}
use Rattle.std.specs.declared.cmp.Ordering.TheVariants.{Less, Equal, Greater}
use Rattle.std.specs.Cmp.{IsTotalOrder, nat_cmp_total, on_total, then_total}
use Rattle.std.specs.Cmp.Lexicographic.{slice_cmp, nat_list_cmp_total}
use Rattle.std.specs.Ordering.{nat_cmp, ordering_reverse, ordering_then}
use Rattle.std.proofs.lemmas.Map.Lookups.{exact_unsigned, exact_bytes}
use Rattle.identity.specs.declared.key.Key.{Key}
use Rattle.identity.specs.Keys.{key_cmp}

pub key_order : IsTotalOrder key_cmp
key_order =
    then_total (on_total (λ k. k.program) nat_list_cmp_total) (then_total (on_total (λ k. k.input) nat_list_cmp_total)
    (then_total (on_total (λ k. k.stage) nat_cmp_total)
    (then_total (on_total (λ k. k.row) nat_cmp_total) (on_total (λ k. k.col) nat_cmp_total))))

not_less : (r : Ordering) → r ≡ ordering_reverse r → r ≡ Equal
not_less Less h = absurd (search rules)
not_less Equal h = refl
not_less Greater h = absurd (search rules)

tied : (a b : Ordering) → ordering_then a b ≡ Equal → (a ≡ Equal) × (b ≡ Equal)
tied Less b h = absurd (search rules)
tied Equal b h = (refl, h)
tied Greater b h = absurd (search rules)

one_key : (a b : Key) → a.program ≡ b.program → a.input ≡ b.input → a.stage ≡ b.stage → a.row ≡ b.row → a.col ≡ b.col → a ≡ b
one_key a b p q s r c i = record { program = p i; input = q i; stage = s i; row = r i; col = c i }

pub same_key : (a b : Key) → key_cmp a b ≡ Equal → a ≡ b
same_key a b h =
    let program = tied (slice_cmp nat_cmp a.program b.program) _ h in
    let input = tied (slice_cmp nat_cmp a.input b.input) _ program.1 in
    let stage = tied (nat_cmp a.stage b.stage) _ input.1 in
    let row = tied (nat_cmp a.row b.row) _ stage.1 in
    one_key a b (exact_bytes _ _ program.0) (exact_bytes _ _ input.0) (exact_unsigned _ _ stage.0) (exact_unsigned _ _ row.0)
    (exact_unsigned _ _ row.1)

pub equal_keys : (a b : Key) → (key_cmp a b ≡ Equal) ↔ (a ≡ b)
equal_keys a b = (same_key a b, λ h. ap (λ k. key_cmp k b) h ∙ not_less (key_cmp b b) (key_order.antisymm b b))
