-- The order of facts: by key, then kind, then numbers. And which lists rise.
use Rattle.std.specs.Cmp.Lexicographic.{slice_cmp}
use Rattle.std.specs.declared.cmp.Ordering.{Ordering}
use Rattle.std.specs.declared.cmp.Ordering.TheVariants.{Less}
use Rattle.std.specs.Ordering.{nat_cmp, int_cmp, then_cmp, on}
use Rattle.std.specs.Prelude.{◌≡◌, List, [], ◌∷◌, Option, None, Some, IfSome}
use Rattle.identity.specs.declared.job_ids.JobId.{JobId}
use Rattle.identity.specs.Keys.{ids_cmp, key_cmp}
use Rattle.tile_fact.specs.declared.body.Body.{Body}
use Rattle.tile_fact.specs.declared.fact.Fact.{Fact}
use Rattle.tile_fact.specs.Bodies.{kind, numbers}

-- a tile before a partial, and then by the first number that differs; a list that ends comes before one that continues
abbrev pub body_cmp : Body → Body → Ordering
body_cmp = then_cmp (on kind nat_cmp) (on numbers (slice_cmp int_cmp))

unfoldable pub fact_cmp : Fact → Fact → Ordering
fact_cmp = then_cmp (on (λ f. f.key) key_cmp) (on (λ f. f.body) body_cmp)

abbrev pub IsBelow : Fact → Fact → Type 0
IsBelow a b = fact_cmp a b ≡ Less

-- each is above the one before it, and the first above the last one before them, if there is one
abbrev pub RisesBehind : {X : Type 0} → (X → X → Ordering) → Option X → List X → Type 0
RisesBehind cmp last [] = Unit {0}
RisesBehind cmp last (x ∷ xs) = IfSome last (λ before. cmp before x ≡ Less) × RisesBehind cmp (Some x) xs

abbrev pub RisesAbove : Option Fact → List Fact → Type 0
RisesAbove last facts = RisesBehind fact_cmp last facts

-- each is above the one before it
abbrev pub Rises : List Fact → Type 0
Rises facts = RisesAbove None facts

abbrev pub IdsRise : List JobId → Type 0
IdsRise ids = RisesBehind ids_cmp None ids
