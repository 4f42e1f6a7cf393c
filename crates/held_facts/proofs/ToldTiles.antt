-- What facts tell of tiles.
use Rattle.std.proofs.Common.{arith, ℕ, ℤ, ◌≡◌, ◌==◌, Bool, true, false, cond, List, [], ◌∷◌, ◌&&◌, Option, Some, None, refl, sym}
use Rattle.std.proofs.Common.{ap, ◌∙◌, subst, inl, inr}
use Rattle.std.specs.Option.{option_and_then}
use Rattle.std.specs.Prelude.{Contains, find, slice_get}
use Rattle.std.proofs.lemmas.Bool.{and_parts, eqb-true, false≢true}
use Rattle.std.proofs.lemmas.List.Elements.{Contains-append_right}
use Rattle.std.proofs.lemmas.Option.{same_Some, none-some}
use Rattle.domains.proofs.PairLists.{Contains-here, Contains-cases}
use Rattle.domains.specs.Area.{point_count}
use Rattle.domains.specs.Tiles.{tile_area}
use Rattle.fact_audit.specs.Shapes.{IsTileShape, BodyFits, FitsJob}
use Rattle.fact_audit.specs.TrueFacts.{BodyIsTrue, IsTrueOf}
use Rattle.job.specs.Answers.{grid_of}
use Rattle.job.specs.Pipeline.{Pipeline}
use Rattle.job.specs.Values.{value}
use Rattle.tile_eval.specs.Raster.{raster, IsTrueTile}
use Rattle.tile_fact.specs.declared.body.Body.{Body}
use Rattle.tile_fact.specs.declared.body.Body.TheVariants.{Tile, Partial}
use Rattle.tile_fact.specs.declared.fact.Fact.{Fact}
use Rattle.tile_sources.specs.KnownTiles.{AreTrue, AreWhole}
use Rattle.held_facts.specs.Making.{samples_in, is_of_tile, tiles_in}

-- ---- what is found first

found_is : {X : Type 0} → (p : X → Bool) (xs : List X) (x : X) → find p xs ≡ Some x → Contains xs x × (p x ≡ true)
found_is p [] x e = absurd (none-some x e)
found_is p (y ∷ ys) x e = by (p y) refl e (found_is p ys x)
  where
    by : (b : Bool) → p y ≡ b → cond b (Some y) (find p ys) ≡ Some x → (find p ys ≡ Some x → Contains ys x × (p x ≡ true))
        → Contains (y ∷ ys) x × (p x ≡ true)
    by true is e later =
        let same = same_Some y x e in (subst (Contains (y ∷ ys)) same (Contains-here y ys), subst (λ z. p z ≡ true) same is)
    by false is e later = let rest = later e in (Contains-append_right (y ∷ []) ys x rest.0, rest.1)

some_found : {X : Type 0} → (p : X → Bool) (xs : List X) (x : X) → Contains xs x → p x ≡ true → (y : X) × (find p xs ≡ Some y)
some_found {X = X} p [] x h t = absurd (omega (arith, h.1))
some_found {X = X} p (y ∷ ys) x h t = by (p y) refl (λ later. some_found p ys x later t)
  where
    by : (b : Bool) → p y ≡ b → (Contains ys x → (z : X) × (find p ys ≡ Some z)) → (z : X) × (cond b (Some y) (find p ys) ≡ Some z)
    by true is later = (y, refl)
    by false is later =
        elim (Contains-cases y ys x h) [ inl same ↦ absurd (false≢true (sym is ∙ ap p same ∙ t)) | inr k ↦ later k ]

-- ---- the fact that tells a tile

pub of_tile : (g i j : ℕ) (f : Fact) → is_of_tile g i j f ≡ true → (f.key.stage ≡ g) × (f.key.row ≡ i) × (f.key.col ≡ j)
of_tile g i j f e =
    let first = and_parts (f.key.stage == g) (f.key.row == i && f.key.col == j) e in
    let rest = and_parts (f.key.row == i) (f.key.col == j) first.1 in
    (eqb-true f.key.stage g first.0, eqb-true f.key.row i rest.0, eqb-true f.key.col j rest.1)

pub record IsFirstOf (facts : List Fact) (g i j : ℕ) (f : Fact) : Type 0 where
  pub there : Contains facts f
  pub stage : f.key.stage ≡ g
  pub row : f.key.row ≡ i
  pub col : f.key.col ≡ j

first_is : (facts : List Fact) (g i j : ℕ) (f : Fact) → find (is_of_tile g i j) facts ≡ Some f → IsFirstOf facts g i j f
first_is facts g i j f e =
    let found = found_is (is_of_tile g i j) facts f e in
    let at = of_tile g i j f found.1 in
    record { there = found.0; stage = at.0; row = at.1; col = at.2 }

-- where a fact of the tile is among them, the first one tells the tile
pub first_of : (facts : List Fact) (g i j : ℕ) (f : Fact) → Contains facts f → is_of_tile g i j f ≡ true
    → (h : Fact) × IsFirstOf facts g i j h × (tiles_in facts g i j ≡ samples_in h.body)
first_of facts g i j f there is =
    let first = some_found (is_of_tile g i j) facts f there is in
    (first.0, first_is facts g i j first.0 first.1, ap (option_and_then (λ h. samples_in h.body)) first.1)

tile_is : (b : Body) (xs : List ℤ) → samples_in b ≡ Some xs → b ≡ Tile xs
tile_is (Tile ys) xs e = ap Tile (same_Some ys xs e)
tile_is (Partial ys) xs e = absurd (none-some xs e)

pub record IsTold (facts : List Fact) (g i j : ℕ) (xs : List ℤ) : Type 0 where
  pub fact : Fact
  pub first : IsFirstOf facts g i j fact
  pub body : fact.body ≡ Tile xs

told : (facts : List Fact) (g i j : ℕ) (xs : List ℤ) → tiles_in facts g i j ≡ Some xs → IsTold facts g i j xs
told facts g i j xs e = by (find (is_of_tile g i j) facts) refl e
  where
    by : (o : Option Fact) → find (is_of_tile g i j) facts ≡ o → option_and_then (λ f. samples_in f.body) o ≡ Some xs
        → IsTold facts g i j xs
    by None is e = absurd (none-some xs e)
    by (Some f) is e = record { fact = f; first = first_is facts g i j f is; body = tile_is f.body xs e }

-- ---- facts that fit, and facts that are true

pub told_whole : (job : Pipeline) (facts : List Fact) → ((f : Fact) → Contains facts f → FitsJob f job) → AreWhole job (tiles_in facts)
told_whole job facts fit g s there i j xs tile given =
    let one = told facts g i j xs given in
    let key = one.fact.key in
    let shape : IsTileShape job key.stage key.row key.col xs = subst (BodyFits job key) one.body (fit one.fact one.first.there) in
    let stage : shape.tile.stage ≡ s = same_Some shape.tile.stage s
    (sym shape.tile.tile.there ∙ ap (slice_get job.stages) one.first.stage ∙ there) in
    shape.count ∙ ap point_count (shape.tile.tile.is ∙ (λ n. tile_area (grid_of job (stage n)) (one.first.row n) (one.first.col n)))

pub told_true : (job : Pipeline) (facts : List Fact) → ((f : Fact) → Contains facts f → IsTrueOf f job) → AreTrue job (tiles_in facts)
told_true job facts right g s there i j xs tile given =
    let one = told facts g i j xs given in
    let key = one.fact.key in
    let true_tile : IsTrueTile job key.stage key.row key.col xs =
    subst (BodyIsTrue job key) one.body (right one.fact one.first.there) in
    let stage : true_tile.tile.stage ≡ s = same_Some true_tile.tile.stage s
    (sym true_tile.tile.tile.there ∙ ap (slice_get job.stages) one.first.stage ∙ there) in
    let area : true_tile.area ≡ tile_area (grid_of job s) i j =
    true_tile.tile.tile.is ∙ (λ n. tile_area (grid_of job (stage n)) (one.first.row n) (one.first.col n)) in
    true_tile.values ∙ (λ n. raster (area n) (value job (one.first.stage n)))
