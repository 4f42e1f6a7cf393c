-- What is held of a key of which one fact is held.
use Rattle.std.proofs.Common.{ℕ, ℤ, ◌≡◌, refl, sym, ap, ◌∙◌, subst, true, Some, None, List, [], ◌∷◌, length}
use Rattle.std.specs.Prelude.{slice_get}
use Rattle.std.specs.List.{Contains, flat_map}
use Rattle.std.proofs.lemmas.Bool.{true≢false}
use Rattle.std.proofs.lemmas.List.{append-nil}
use Rattle.std.proofs.lemmas.Option.{same_Some}
use Rattle.domains.proofs.PairLists.{Contains-here}
use Rattle.domains.specs.Span.{Ends, len_of}
use Rattle.fact_audit.specs.Shapes.{BodyFits, IsTileShape, IsPartialShape}
use Rattle.fact_store.proofs.KeyLaws.{in_facts_of}
use Rattle.identity.specs.declared.key.Key.{Key}
use Rattle.job.specs.Answers.{is_accumulator}
use Rattle.job.specs.Pipeline.{Body, plane, function, accumulator, Pipeline, Stage}
use Rattle.job.specs.Readers.{stage_bins}
use Rattle.job.specs.WellFormed.{IsFunction}
use Rattle.tile_fact.specs.declared.body.Body as fact_body
use Rattle.tile_fact.specs.declared.body.Body.TheVariants.{Tile, Partial}
use Rattle.tile_fact.specs.declared.fact.Fact.{Fact}
use Rattle.held_facts.specs.Answers.{counted, known_of}
use Rattle.held_facts.specs.declared.answers.Known.TheVariants.{One}
use Rattle.held_facts.specs.HeldAnswers.{HasOneFact, IsReady, samples_in, bins_in, partials_of}
use Rattle.held_facts.specs.Facts.{FactSet, holds, facts_of}

-- ---- the fact

pub held_of_key : (s : FactSet) (key : Key) (fact : Fact) → facts_of s key ≡ fact ∷ [] → (holds s fact ≡ true) × (fact.key ≡ key)
held_of_key s key fact alone = (in_facts_of s key fact).0 (subst (λ xs. Contains xs fact) (sym alone) (Contains-here fact []))

pub first_alone : (s : FactSet) (key : Key) (fact : Fact) → facts_of s key ≡ fact ∷ [] → slice_get (facts_of s key) 0 ≡ Some fact
first_alone s key fact alone = ap (λ xs. slice_get xs 0) alone

-- the body fits the key that is asked for
pub fits_key : (s : FactSet) (job : Pipeline) (key : Key) (is : IsReady s job key) → BodyFits job key is.fact.body
fits_key s job key is =
    subst (λ (k : Key). BodyFits job k is.fact.body) ((held_of_key s key is.fact is.alone).1) is.is

-- ---- by the kind of the stage

of_both : (body : Body) → IsFunction body → is_accumulator body ≡ true → ⊥
of_both (plane n) f e = f
of_both (function cases otherwise) f e = true≢false (sym e)
of_both (accumulator way bins value bin) f e = f

one_stage : (job : Pipeline) (g : ℕ) (a b : Stage) → slice_get job.stages g ≡ Some a → slice_get job.stages g ≡ Some b → a ≡ b
one_stage job g a b p q = same_Some a b (sym p ∙ q)

-- what fits a function's tile has a number for each point
pub function_fits : (job : Pipeline) (key : Key) (stage : Stage) (body : fact_body.Body) → slice_get job.stages key.stage ≡ Some stage
    → IsFunction stage.body → BodyFits job key body
    → (xs : List ℤ) × (samples_in body ≡ Some xs) × IsTileShape job key.stage key.row key.col xs
function_fits job key stage (Tile xs) there is fits = (xs, refl, fits)
function_fits job key stage (Partial xs) there is fits =
    let tile = fits.has.tile in
    absurd (of_both tile.stage.body
    (subst (λ (s : Stage). IsFunction s.body) (one_stage job key.stage stage tile.stage there tile.tile.there) is) tile.accumulator)

-- what fits an accumulator's tile has a number for each bin
pub accumulator_fits : (job : Pipeline) (key : Key) (stage : Stage) (body : fact_body.Body) → slice_get job.stages key.stage ≡ Some stage
    → is_accumulator stage.body ≡ true → BodyFits job key body
    → (xs : List ℤ) × (body ≡ Partial xs)
accumulator_fits job key stage (Partial xs) there is fits = (xs, refl)
accumulator_fits job key stage (Tile xs) there is fits =
    let tile = fits.tile in
    absurd (of_both tile.stage.body tile.function
    (subst (λ (s : Stage). is_accumulator s.body ≡ true) (one_stage job key.stage stage tile.stage there tile.tile.there) is))

pub bins_fit : (job : Pipeline) (key : Key) (xs : List ℤ) (span : Ends) → IsPartialShape job key.stage key.row key.col xs
    → stage_bins (slice_get job.stages key.stage) ≡ Some span → length xs ≡ len_of span
bins_fit job key xs span fits there =
    fits.count
    ∙ ap len_of (same_Some fits.ends span (sym fits.has.are ∙ sym (ap stage_bins fits.has.tile.tile.there) ∙ there))

-- ---- the partials

pub partials_alone : (s : FactSet) (key : Key) (fact : Fact) → facts_of s key ≡ fact ∷ [] → partials_of s key ≡ bins_in fact.body
partials_alone s key fact alone =
    ap (λ xs. flat_map (λ f. bins_in f.body) xs) alone ∙ append-nil (bins_in fact.body)

-- ---- what is read of a key

alone : (xs : List Fact) (fact : Fact) → counted (length xs) ≡ One → slice_get xs 0 ≡ Some fact → xs ≡ fact ∷ []
alone [] fact one e = absurd (cc)
alone (x ∷ []) fact one e = ap (λ y. y ∷ []) (same_Some x fact e)
alone (x ∷ y ∷ more) fact one e = absurd (cc)

some_there : (xs : List Fact) → counted (length xs) ≡ One → slice_get xs 0 ≡ None → ⊥
some_there [] one e = absurd (cc)
some_there (x ∷ []) one e = absurd (cc)
some_there (x ∷ y ∷ more) one e = absurd (cc)

pub one_read : (s : FactSet) (key : Key) (P : Fact → Type 0) (fact : Fact) → known_of s key ≡ One
    → slice_get (facts_of s key) 0 ≡ Some fact → P fact → HasOneFact s key P
one_read s key P fact one there is = record { fact = fact; alone = alone (facts_of s key) fact one there; is = is }

pub one_there : (s : FactSet) (key : Key) → known_of s key ≡ One → slice_get (facts_of s key) 0 ≡ None → ⊥
one_there s key one none = some_there (facts_of s key) one none

pub bins_read : (s : FactSet) (job : Pipeline) (key : Key) (fact : Fact) (xs : List ℤ) → IsReady s job key
    → slice_get (facts_of s key) 0 ≡ Some fact → fact.body ≡ Partial xs
    → (span : Ends) → stage_bins (slice_get job.stages key.stage) ≡ Some span → length xs ≡ len_of span
bins_read s job key fact xs is there body span at =
    let same = same_Some is.fact fact (sym (first_alone s key is.fact is.alone) ∙ there) in
    bins_fit job key xs span
    (subst (BodyFits job key) (ap (λ (f : Fact). f.body) same ∙ body) (fits_key s job key is)) at
