-- Parameters that all have values, and stages that all have domains.
use Rattle.std.proofs.Common.{ℕ, zero, suc, ℤ, ◌<◌, ◌≡◌, true, Option, Some, None, is_some, Result, Ok, Err, List}
use Rattle.std.proofs.Common.{[], ◌∷◌, length, slice_get, refl, sym, ◌∙◌, ap, subst, arith}
use Rattle.std.specs.Option.{option_map}
use Rattle.std.proofs.lemmas.Bool.{false≢true}
use Rattle.std.proofs.lemmas.List.{length-map}
use Rattle.std.proofs.lemmas.Option.{same_Some, slice_get-map, slice_get_within}
use Rattle.domains.specs.declared.area.Area.{Area}
use Rattle.pipe_tree.specs.Tree.{Declaration}
use Rattle.pipe_checks.specs.declared.symbol.Symbol.{Symbol}
use Rattle.pipe_bounds.specs.declared.params.Setting.{Setting}
use Rattle.pipe_bounds.specs.StageBounds.{StageBounds, domains_in, IsBoundsOf, AreBoundsOf}
use Rattle.pipe_bounds.specs.declared.fault.BoundFault.{BoundFault}
use Rattle.pipe_bounds.specs.Within.{IsStageDomain, HaveDomains}

pub some_of : (o : Option ℤ) → is_some o ≡ true → (v : ℤ) × (o ≡ Some v)
some_of None e = absurd (false≢true e)
some_of (Some v) e = (v, refl)

-- a fault is the same fault where another answer stands beside it
pub still_err : {X Y : Type 0} (f g : BoundFault) → ◌≡◌ {A = Result X BoundFault} (Err f) (Err g)
    → ◌≡◌ {A = Result Y BoundFault} (Err f) (Err g)
still_err f g e = let same : f ≡ g = cc in ap Err same

pub some_within : {X : Type 0} (xs : List X) (i : ℕ) → i < length xs → (x : X) × (slice_get xs i ≡ Some x)
some_within [] i h = absurd (omega arith)
some_within (x ∷ xs) zero h = (x, refl)
some_within (x ∷ xs) (suc i) h = some_within xs i (omega arith)

domain_of : (ss : List Setting) (ds : List Declaration) (s : Symbol) (b : StageBounds)
    → (d : Declaration) × (slice_get ds s.item ≡ Some d) × IsBoundsOf ss d b → IsStageDomain ss ds s (Ok b.domain)
domain_of ss ds s b h = (h.0, h.1, h.2.domain)

-- where the first stages have their domains in a list, each of them has one
pub domains_before : (ss : List Setting) (ds : List Declaration) (stages : List Symbol) (found : List StageBounds) (k : ℕ)
    → length found ≡ k
    → ((i : ℕ) (s : Symbol) (b : StageBounds) → slice_get stages i ≡ Some s → slice_get found i ≡ Some b
    → (d : Declaration) × (slice_get ds s.item ≡ Some d) × IsBoundsOf ss d b) → (i : ℕ) (s : Symbol) → i < k
    → slice_get stages i ≡ Some s → (a : Area) × IsStageDomain ss ds s (Ok a)
domains_before ss ds stages found k each stage i s less there =
    let b = some_within found i (omega (arith, each, less)) in
    (b.0.domain, domain_of ss ds s b.0 (stage i s b.0 there b.1))

-- the domains that were found are those of the stages
pub found_domains : (ss : List Setting) (ds : List Declaration) (stages : List Symbol) (found : List StageBounds)
    → AreBoundsOf ss ds stages found → HaveDomains ss ds stages (domains_in found)
found_domains ss ds stages found h = record { each = length-map found (λ (b : StageBounds). b.domain) ∙ h.each; domain = domain }
  where
    domain : (k : ℕ) (s : Symbol) (a : Area) → slice_get stages k ≡ Some s → slice_get (domains_in found) k ≡ Some a
        → IsStageDomain ss ds s (Ok a)
    domain k s a there has =
        let b = some_within found k (omega (arith, h.each, slice_get_within stages k s there)) in
        let same : b.0.domain ≡ a =
        same_Some b.0.domain a
        (sym (slice_get-map (λ (x : StageBounds). x.domain) found k ∙ ap (option_map (λ (x : StageBounds). x.domain)) b.1) ∙ has) in
        subst (λ (x : Area). IsStageDomain ss ds s (Ok x)) same (domain_of ss ds s b.0 (h.stage k s b.0 there b.1))

-- what was found of the stage that a loop has before it
pub bounds_here : (ss : List Setting) (ds : List Declaration) (stages : List Symbol) (found : List StageBounds) (k : ℕ) (s : Symbol)
    (d : Declaration) (b : StageBounds) → AreBoundsOf ss ds stages found → slice_get stages k ≡ Some s → slice_get ds s.item ≡ Some d
    → slice_get found k ≡ Some b → IsBoundsOf ss d b
bounds_here ss ds stages found k s d b h stage item there =
    let here = h.stage k s b stage there in
    subst (λ (e : Declaration). IsBoundsOf ss e b) (same_Some here.0 d (sym here.1 ∙ item)) here.2

pub domain_here : (found : List StageBounds) (k : ℕ) (b : StageBounds) (a : Area) → slice_get found k ≡ Some b → a ≡ b.domain
    → slice_get (domains_in found) k ≡ Some a
domain_here found k b a there is =
    slice_get-map (λ (x : StageBounds). x.domain) found k ∙ ap (option_map (λ (x : StageBounds). x.domain)) there ∙ ap Some (sym is)
