-- Needs that are ready, and the tiles that their facts tell.
use Rattle.std.proofs.Common.{arith, ℕ, ◌≡◌, ◌+◌, ◌++◌, ◌<◌, ◌≤◌, ◌==◌, true, false, not, List, [], ◌∷◌, ◌&&◌, Option, Some, None}
use Rattle.std.proofs.Common.{length, take, refl, sym, ap, ◌∙◌, subst, inl, inr}
use Rattle.std.specs.Option.{is_none, option_map_or}
use Rattle.std.specs.List.{flat_map}
use Rattle.std.specs.Prelude.{Contains, slice_get}
use Rattle.std.proofs.lemmas.Bool.{and_parts, eq-eqb, false≢true}
use Rattle.std.proofs.lemmas.List.{take_more, take_all, append-nil}
use Rattle.std.proofs.lemmas.List.Concat.{flat_map-append}
use Rattle.std.proofs.lemmas.Option.{same_Some, slice_get_within, slice_get-get_or, get_or_from_slice_get}
use Rattle.domains.proofs.Places.{all_more}
use Rattle.domains.proofs.PairLists.{Contains-here, Contains-cases}
use Rattle.fact_audit.specs.Shapes.{BodyFits, FitsJob}
use Rattle.fact_store.proofs.KeyLaws.{in_facts_of}
use Rattle.tile_boxes.proofs.Lists.{Contains-flat_map}
use Rattle.tile_boxes.specs.Schedules.{is_function_stage, is_function_body}
use Rattle.tile_boxes.specs.Targets.{Target, is_function_other_than_target}
use Rattle.tile_boxes.specs.Schedules.{is_inlined}
use Rattle.identity.specs.declared.key.Key.{Key}
use Rattle.job.specs.Answers.{is_accumulator}
use Rattle.job.specs.Pipeline.{Body, plane, function, accumulator, Stage, Pipeline}
use Rattle.job.specs.WellFormed.{IsJob}
use Rattle.overlap_tiles.proofs.Lists.{Contains-from_flat_map, Contains-from_map}
use Rattle.overlap_tiles.proofs.NeedsAreExact.{from_needs}
use Rattle.overlap_tiles.specs.Needs.{key_of, needs, needed_keys}
use Rattle.tile_fact.specs.declared.body.Body as facts
use Rattle.tile_fact.specs.declared.body.Body.TheVariants.{Tile, Partial}
use Rattle.tile_fact.specs.declared.fact.Fact.{Fact}
use Rattle.tile_run.proofs.FirstFound.{none_of}
use Rattle.tile_sources.specs.KnownTiles.{AreWhole}
use Rattle.one_tile.specs.Runs.{is_missing, first_missing}
use Rattle.held_facts.specs.Making.{samples_in, is_of_tile, needed_tiles, IsReady}
use Rattle.held_facts.specs.Answers.{counted, known_of}
use Rattle.held_facts.specs.declared.answers.Known.TheVariants.{One}
use Rattle.held_facts.specs.declared.make_fault.MakeFault.{MakeFault}
use Rattle.held_facts.specs.inside.Needing.{AreReady, IsNeedFault, IsNeedsFault}
use Rattle.held_facts.specs.Facts.{FactSet, facts_of}
use Rattle.held_facts.proofs.ToldTiles.{first_of, told_whole}

-- ---- the facts of needs that are ready

one_fits : (s : FactSet) (job : Pipeline) (need : Key) → IsReady s job need → (f : Fact) → Contains (facts_of s need) f → FitsJob f job
one_fits s job need ready f c =
    elim (Contains-cases ready.fact [] f (subst (λ (fs : List Fact). Contains fs f) ready.alone c)) [
      | inl same ↦ subst (λ (x : Fact). FitsJob x job) same ready.is
      | inr k ↦ absurd (omega (arith, k.1))
    ]

one_there : (s : FactSet) (job : Pipeline) (need : Key) → IsReady s job need → (f : Fact) × Contains (facts_of s need) f
one_there s job need ready =
    (ready.fact, subst (λ (fs : List Fact). Contains fs ready.fact) (sym ready.alone) (Contains-here ready.fact []))

module _ (s : FactSet) (job : Pipeline) (keys : List Key) (ready : AreReady s job keys) where
  pub all_fit : (f : Fact) → Contains (flat_map (facts_of s) keys) f → FitsJob f job
  all_fit f there =
      let at = Contains-from_flat_map (facts_of s) keys f there in one_fits s job at.0 (ready at.0 at.1) f at.2

  pub needed_whole : AreWhole job (needed_tiles s keys)
  needed_whole = told_whole job (flat_map (facts_of s) keys) all_fit

  of_itself : (need : Key) (f : Fact) → f.key ≡ need → is_of_tile need.stage need.row need.col f ≡ true
  of_itself need f e =
      (λ n. eq-eqb f.key.stage need.stage (ap (λ (k : Key). k.stage) e) n
      && (eq-eqb f.key.row need.row (ap (λ (k : Key). k.row) e) n && eq-eqb f.key.col need.col (ap (λ (k : Key). k.col) e) n))

  no_partial : (g h : ℕ) (stage : Stage) → g ≡ h → slice_get job.stages g ≡ Some stage → is_function_stage job h ≡ true
      → is_accumulator stage.body ≡ true → ⊥
  no_partial g h stage e there function' bins =
      apart stage.body
      (sym (ap (λ (o : Option Stage). option_map_or (λ x. is_function_body x.body) o false) there) ∙ ap (is_function_stage job) e ∙ function')
      bins
    where
      apart : (b : Body) → is_function_body b ≡ true → is_accumulator b ≡ true → ⊥
      apart (plane n) f a = false≢true f
      apart (function cases otherwise) f a = false≢true a
      apart (accumulator way bins value bin) f a = false≢true f

  is_told : (need : Key) → is_function_stage job need.stage ≡ true → (f : Fact) → f.key.stage ≡ need.stage → FitsJob f job
      → is_none (samples_in f.body) ≡ false
  is_told need function' f stage fits = by f.body fits
    where
      by : (b : facts.Body) → BodyFits job f.key b → is_none (samples_in b) ≡ false
      by (Tile xs) h = refl
      by (Partial xs) h =
          absurd (no_partial f.key.stage need.stage h.has.tile.stage stage h.has.tile.tile.there function' h.has.tile.accumulator)

  need_told : (need : Key) → Contains keys need → is_function_stage job need.stage ≡ true → is_missing (needed_tiles s keys) need ≡ false
  need_told need asked function' =
      let one = one_there s job need (ready need asked) in
      let there = Contains-flat_map (facts_of s) keys need one.0 asked one.1 in
      let own : one.0.key ≡ need = ((in_facts_of s need one.0).0 one.1).1 in
      let first = first_of (flat_map (facts_of s) keys) need.stage need.row need.col one.0 there (of_itself need one.0 own) in
      ap is_none first.2 ∙ is_told need function' first.0 first.1.stage (all_fit first.0 first.1.there)

  pub all_told : ((need : Key) → Contains keys need → is_function_stage job need.stage ≡ true)
      → first_missing (needed_tiles s keys) keys ≡ None
  all_told functions = none_of (is_missing (needed_tiles s keys)) keys (λ need asked. need_told need asked (functions need asked))

-- ---- needs of a target

pub needed_function : (program : List ℕ) (t : Target) → IsJob t.job → (need : Key) → Contains (needed_keys program t) need
    → is_function_stage t.job need.stage ≡ true
needed_function program t good need asked =
    let at = Contains-from_map (key_of program t.job) (needs t) need asked in
    let needed = from_needs t at.0 good at.1 in
    let boxed = and_parts (is_function_other_than_target t at.0.stage) (not (is_inlined t.inlining at.0.stage)) needed.stored in
    let function' = and_parts (is_function_stage t.job at.0.stage) (not (at.0.stage == t.stage)) boxed.0 in
    subst (λ (k : Key). is_function_stage t.job k.stage ≡ true) at.2 function'.0

-- ---- one need after another

flat_one : {X A : Type 0} → (f : X → List A) (x : X) → flat_map f (x ∷ []) ≡ f x
flat_one f x = append-nil (f x)

module _ (s : FactSet) (job : Pipeline) (keys : List Key) where
  -- the needs before this place are ready
  abbrev pub AreReadyBefore : ℕ → Type 0
  AreReadyBefore i = (k : ℕ) (need : Key) → k < i → slice_get keys k ≡ Some need → IsReady s job need

  pub facts_more : (i : ℕ) (need : Key) (facts : List Fact) (fact : Fact) → slice_get keys i ≡ Some need
      → facts ≡ flat_map (facts_of s) (take i keys) → facts_of s need ≡ fact ∷ []
      → facts ++ fact ∷ [] ≡ flat_map (facts_of s) (take (i + 1) keys)
  facts_more i need facts fact there before one =
      let low = slice_get_within keys i need there in
      (λ n. before n ++ sym one n)
      ∙ ap (λ fs. flat_map (facts_of s) (take i keys) ++ fs) (sym (flat_one (facts_of s) need))
      ∙ sym (flat_map-append (facts_of s) (take i keys) (need ∷ []))
      ∙ ap (λ k. flat_map (facts_of s) (take i keys ++ k ∷ [])) (sym (get_or_from_slice_get keys i need need there))
      ∙ ap (flat_map (facts_of s)) (sym (take_more keys i need low))

  ready_one : (need : Key) (fact : Fact) → facts_of s need ≡ fact ∷ [] → FitsJob fact job → IsReady s job need
  ready_one need fact one fits = record { fact = fact; alone = one; is = fits }

  pub ready_more : (i : ℕ) (need : Key) (fact : Fact) → slice_get keys i ≡ Some need → facts_of s need ≡ fact ∷ [] → FitsJob fact job
      → AreReadyBefore i → AreReadyBefore (i + 1)
  ready_more i need fact there one fits before =
      all_more (λ (k : ℕ) (x : Key). IsReady s job x) keys i need there (ready_one need fact one fits) before

  pub ready_all : (i : ℕ) → length keys ≤ i → AreReadyBefore i → AreReady s job keys
  ready_all i past before need asked =
      before asked.0 need (let low = asked.1 in omega arith) (slice_get-get_or keys asked.0 need asked.1 ∙ ap Some asked.2)

  pub facts_all : (i : ℕ) (facts : List Fact) → length keys ≤ i → facts ≡ flat_map (facts_of s) (take i keys)
      → facts ≡ flat_map (facts_of s) keys
  facts_all i facts past before = before ∙ ap (flat_map (facts_of s)) (take_all i keys past)

  pub stops : (i : ℕ) (need : Key) (why : MakeFault) → slice_get keys i ≡ Some need → AreReadyBefore i → IsNeedFault s job need why
      → IsNeedsFault s job keys why
  stops i need why there before reason =
      inr (record { place = i; need = need; there = there; reason = reason; before = before })

-- ---- the facts of one need

one_of : (fs : List Fact) (f : Fact) → One ≡ counted (length fs) → slice_get fs 0 ≡ Some f → fs ≡ f ∷ []
one_of [] f e there = absurd (cc)
one_of (x ∷ []) f e there = let same = same_Some x f there in ap (λ y. y ∷ []) same
one_of (x ∷ y ∷ more) f e there = absurd (cc)

none_of_one : (fs : List Fact) → One ≡ counted (length fs) → slice_get fs 0 ≡ None → ⊥
none_of_one [] e none = cc
none_of_one (x ∷ more) e none = cc

module _ (s : FactSet) (need : Key) (known : One ≡ known_of s need) where
  pub the_one : (f : Fact) → slice_get (facts_of s need) 0 ≡ Some f → facts_of s need ≡ f ∷ []
  the_one f there = one_of (facts_of s need) f known there

  pub is_there : slice_get (facts_of s need) 0 ≡ None → ⊥
  is_there none = none_of_one (facts_of s need) known none
