-- Finite sets of facts. A set is represented by its facts in their order, each once, so that sets of the same facts are one
-- value.
use Rattle.std.specs.Coded.{Coded, code_by, coded×, coded⊎, coded_list, coded_ℕ, coded_ℤ}
use base.Stored.{coded_unit}
use Rattle.std.specs.FinMap as map
use Rattle.std.specs.List.{find, list_any}
use Rattle.std.specs.Ordering.{eq_by_cmp, is_lt}
use Rattle.std.specs.Prelude.{◌≡◌, ℕ, ℤ, Bool, true, not, List, [], ◌∷◌, Option, filter, slice_get, refl, ◌⊎◌}
use Rattle.std.proofs.Common.{inl, inr}
use Rattle.identity.specs.declared.key.Key.{Key}
use Rattle.identity.specs.Keys.{key_cmp, ids_cmp, ids_in}
use Rattle.identity.specs.declared.job_ids.JobId.{JobId}
use Rattle.tile_fact.specs.declared.body.Body.{Body}
use Rattle.tile_fact.specs.declared.body.Body.TheVariants.{Tile, Partial}
use Rattle.tile_fact.specs.declared.fact.Fact.{Fact}
use Rattle.tile_fact.specs.Order.{fact_cmp}

-- ---- sets

-- a finite set of facts
abbrev pub FactSet : Type 0
FactSet = map.FinMap fact_cmp (Unit {0})

-- the set of no facts
unfoldable pub nothing : FactSet
nothing = map.empty

-- whether a fact is in the set
unfoldable pub holds : FactSet → Fact → Bool
holds s f = map.contains_key s f

-- the facts of the set, rising, each once
unfoldable pub facts_in : FactSet → List Fact
facts_in s = map.keys s

-- the set with one more fact, or the same set where it has the fact
unfoldable pub with_fact : FactSet → Fact → FactSet
with_fact s f = map.insert s f tt

-- the set with these facts too
unfoldable pub with_facts : FactSet → List Fact → FactSet
with_facts s [] = s
with_facts s (f ∷ fs) = with_fact (with_facts s fs) f

-- the facts that are in the one or in the other
unfoldable pub join : FactSet → FactSet → FactSet
join s t = with_facts s (facts_in t)

-- each fact of the first set is in the second
abbrev pub IsSubset : FactSet → FactSet → Type 0
IsSubset s t = (f : Fact) → holds s f ≡ true → holds t f ≡ true

-- the facts of the second set that the first lacks, rising
unfoldable pub lacked : FactSet → FactSet → List Fact
lacked s t = filter (λ f. not (holds s f)) (facts_in t)

-- ---- keys

abbrev pub same_key : Key → Key → Bool
same_key a b = eq_by_cmp key_cmp a b

-- the facts of one key, rising
unfoldable pub facts_of : FactSet → Key → List Fact
facts_of s key = filter (λ f. same_key key f.key) (facts_in s)

-- ---- jobs

-- whether a key names a tile of one of these jobs
abbrev pub names_one : List JobId → Key → Bool
names_one jobs key = list_any (eq_by_cmp ids_cmp (ids_in key)) jobs

-- the set without the facts of these jobs
unfoldable pub without : FactSet → List JobId → FactSet
without s jobs = map.retain_keys s (λ f. not (names_one jobs f.key))

-- ---- from fact to fact

unfoldable pub least : FactSet → Option Fact
least s = slice_get (facts_in s) 0

-- the least of the facts above a given one, which need not be in the set
unfoldable pub least_above : FactSet → Fact → Option Fact
least_above s f = find (λ g. is_lt (fact_cmp f g)) (facts_in s)

-- ---- sets as values that have a code, as each model's value has

abbrev coded_key : Coded Key
coded_key =
    code_by (List ℕ × (List ℕ × (ℕ × (ℕ × ℕ))))
    (coded× (coded_list coded_ℕ) (coded× (coded_list coded_ℕ) (coded× coded_ℕ (coded× coded_ℕ coded_ℕ))))
    (λ k. (k.program, (k.input, (k.stage, (k.row, k.col)))))
    (λ p. record { program = p.0; input = p.1.0; stage = p.1.1.0; row = p.1.1.1.0; col = p.1.1.1.1 })
    (λ _. refl)

abbrev parts_of : Body → (List ℤ) ⊎ (List ℤ)
parts_of (Tile samples) = inl samples
parts_of (Partial bins) = inr bins

abbrev body_of : (List ℤ) ⊎ (List ℤ) → Body
body_of (inl samples) = Tile samples
body_of (inr bins) = Partial bins

pub body_back : (body : Body) → body_of (parts_of body) ≡ body
body_back (Tile samples) = refl
body_back (Partial bins) = refl

abbrev coded_body : Coded Body
coded_body = code_by ((List ℤ) ⊎ (List ℤ)) (coded⊎ (coded_list coded_ℤ) (coded_list coded_ℤ)) parts_of body_of body_back

abbrev pub coded_fact : Coded Fact
coded_fact = code_by (Key × Body) (coded× coded_key coded_body) (λ f. (f.key, f.body)) (λ p. record { key = p.0; body = p.1 }) (λ _. refl)

abbrev pub coded_set : Coded FactSet
coded_set = map.code coded_fact coded_unit
