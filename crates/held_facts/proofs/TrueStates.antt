-- States that hold true facts alone.
use Rattle.std.proofs.Common.{ℕ, ℤ, ◌≡◌, ◌||◌, refl, sym, ap, ◌∙◌, subst, Bool, true, false, cond, Option, Some, None, List, []}
use Rattle.std.proofs.Common.{◌∷◌, ◌++◌, map, filter}
use Rattle.std.specs.Prelude.{slice_get, length}
use Rattle.std.specs.List.{Contains, flat_map, list_any, range_with_len}
use Rattle.std.specs.Option.{option_map_or}
use Rattle.std.specs.Ordering.{eq_by_cmp, is_eq}
use Rattle.std.proofs.lemmas.Bool.{true≢false}
use Rattle.std.proofs.lemmas.Cmp.{tied_itself}
use Rattle.std.proofs.lemmas.List.Concat.{flat_map_single}
use Rattle.std.proofs.lemmas.List.Elements.{Contains-append_right}
use Rattle.std.proofs.lemmas.List.Sorted.{IsPermutation-refl}
use Rattle.std.proofs.lemmas.Option.{same_Some, slice_get-get_or, option_and_then_some, none-some}
use Rattle.accumulators.proofs.TakenPartials.{taken_partials}
use Rattle.pictures.proofs.TrueImage.{image_true}
use Rattle.accumulators.specs.Answers.{body_gathered, gathered_at, IsAnswer}
use Rattle.accumulators.specs.Gatherings.{body_gathered_from, gathered_from}
use Rattle.accumulators.specs.declared.answer.Answer.{Answer}
use Rattle.catalog.specs.Entries.{Entry, IsCatalog, ids_in, ids_of}
use Rattle.domains.proofs.Covers.{Contains-tiles_of}
use Rattle.domains.proofs.PairLists.{Contains-here}
use Rattle.domains.specs.Tiles.{tile_area, tiles_of}
use Rattle.fact_audit.proofs.Judging.{one_true, true_fits}
use Rattle.fact_audit.specs.TrueFacts.{BodyIsTrue, IsTrueOf}
use Rattle.fact_store.proofs.KeyLaws.{any_filter, in_facts_of}
use Rattle.fact_store.proofs.SetLaws.{split, rises-facts_in}
use Rattle.fact_store.proofs.SortedLaws.{none_below}
use Rattle.fact_store.specs.Facts.{facts_of}
use Rattle.fact_store.specs.inside.SortedLists.{below_each, rises}
use Rattle.tile_boxes.proofs.Lists.{flat_map-same}
use Rattle.identity.specs.declared.key.Key.{Key}
use Rattle.job.specs.Answers.{grid_of, has_tiles, is_accumulator, is_output, is_result}
use Rattle.job.specs.Pipeline.{Body, plane, function, accumulator, Pipeline, Stage}
use Rattle.job.specs.Totals.{totals_over}
use Rattle.job.specs.Values.{value}
use Rattle.job.specs.WellFormed.{IsJob}
use Rattle.overlap_tiles.specs.Work.{is_accumulator_at, wanted_keys}
use Rattle.tile_eval.specs.Raster.{raster}
use Rattle.tile_fact.proofs.OrderLaws.{fact_order}
use Rattle.tile_fact.specs.declared.body.Body as fact_body
use Rattle.tile_fact.specs.declared.body.Body.TheVariants.{Tile, Partial}
use Rattle.tile_fact.specs.declared.fact.Fact.{Fact}
use Rattle.tile_fact.specs.Order.{fact_cmp}
use Rattle.tile_sources.specs.KnownTiles.{AreTrue}
use Rattle.held_facts.specs.Answers.{IsNotHeld, counted}
use Rattle.held_facts.specs.HeldAnswers.{HoldsTrueFacts, IsReady, AllAreReady, IsDisputed, IsMisshapen, IsAnswerFault}
use Rattle.held_facts.specs.HeldAnswers.{IsHeldAnswer, IsFaultOfTrueFacts, held_partials, held_tiles, partials_of, samples_in}
use Rattle.held_facts.specs.HeldAnswers.{bins_in}
use Rattle.held_facts.specs.Facts.{FactSet, facts_in, same_key}
use Rattle.held_facts.specs.declared.answer_fault.AnswerFault.{AnswerFault}
use Rattle.held_facts.specs.declared.answer_fault.AnswerFault.TheVariants as fault
use Rattle.held_facts.specs.declared.answers.Known.TheVariants as known
use Rattle.held_facts.specs.inside.Judging.{tile_key}
use Rattle.held_facts.proofs.HeldPartials.{by_tiles}
use Rattle.held_facts.proofs.HeldPictures.{grid_there, outputs_held}
use Rattle.held_facts.proofs.OneHeld.{held_of_key, fits_key, accumulator_fits, partials_alone}
use Rattle.held_facts.proofs.WantedTiles.{wanted_key, key_wanted}

-- ---- no fact stands twice

itself : (f : Fact) → eq_by_cmp fact_cmp f f ≡ true
itself f = ap is_eq (tied_itself fact_order f)

-- one that passes is in the list
passes_in : (p : Fact → Bool) (f : Fact) (more xs : List Fact) → filter p xs ≡ f ∷ more → list_any (eq_by_cmp fact_cmp f) xs ≡ true
passes_in p f more xs at =
    (split (list_any (eq_by_cmp fact_cmp f) xs) (p f)
    (sym (any_filter p f xs) ∙ ap (list_any (eq_by_cmp fact_cmp f)) at
    ∙ ap (λ b. b || list_any (eq_by_cmp fact_cmp f) more) (itself f))).0

-- the first of a list is passed over, or is not behind itself
twice_after : (p : Fact → Bool) (x f : Fact) (more xs : List Fact) (b : Bool) → below_each x xs ≡ true
    → (filter p xs ≡ f ∷ f ∷ more → ⊥) → cond b (x ∷ filter p xs) (filter p xs) ≡ f ∷ f ∷ more → ⊥
twice_after p x f more xs false low rest at = rest at
twice_after p x f more xs true low rest at =
    let first : x ≡ f = cc in
    let behind : filter p xs ≡ f ∷ more = cc in
    true≢false (sym (passes_in p f more xs behind) ∙ ap (λ g. list_any (eq_by_cmp fact_cmp g) xs) (sym first) ∙ none_below x xs low)

twice_in : (p : Fact → Bool) (f : Fact) (more xs : List Fact) → rises xs ≡ true → filter p xs ≡ f ∷ f ∷ more → ⊥
twice_in p f more [] up e = absurd (cc)
twice_in p f more (x ∷ xs) up e =
    let parts = split (below_each x xs) (rises xs) up in
    twice_after p x f more xs (p x) parts.0 (λ at. twice_in p f more xs parts.1 at) e

two_of_key : (s : FactSet) (key : Key) (f : Fact) (more : List Fact) → facts_of s key ≡ f ∷ f ∷ more → ⊥
unfolding facts_of
two_of_key s key f more e = twice_in (λ g. same_key key g.key) f more (facts_in s) (rises-facts_in s) e

-- ---- lists

head_in : {X : Type 0} (xs : List X) (x : X) → slice_get xs 0 ≡ Some x → Contains xs x
head_in [] x e = absurd (none-some x e)
head_in (y ∷ ys) x e = subst (Contains (y ∷ ys)) (same_Some y x e) (Contains-here y ys)

flat_map_each : {X A : Type 0} (f g : X → List A) (xs : List X) → ((x : X) → Contains xs x → f x ≡ g x) → flat_map f xs ≡ flat_map g xs
flat_map_each f g [] same = refl
flat_map_each f g (x ∷ xs) same =
    λ i. same x (Contains-here x xs) i ++ flat_map_each f g xs (λ y has. same y (Contains-append_right (x ∷ []) xs y has)) i

-- ---- stages

tiled_too : (body : Body) → is_accumulator body ≡ true → has_tiles body ≡ true
tiled_too (plane n) e = absurd (true≢false (sym e))
tiled_too (function cases otherwise) e = refl
tiled_too (accumulator way bins value' bin) e = refl

or_right : (a b : Bool) → b ≡ true → (a || b) ≡ true
or_right true b e = refl
or_right false b e = e

accumulator_wanted : (job : Pipeline) (g : ℕ) (stage : Stage) → slice_get job.stages g ≡ Some stage → is_accumulator stage.body ≡ true
    → is_result job g ≡ true
accumulator_wanted job g stage at is =
    or_right (is_output job g) (is_accumulator_at job g)
    (ap (λ (o : Option Stage). option_map_or (λ t. is_accumulator t.body) o false) at ∙ is)

-- what is no accumulator gathers nothing
gathers_nothing : (job : Pipeline) (g : ℕ) (stage : Stage) (xs : List (List ℤ)) → slice_get job.stages g ≡ Some stage
    → is_accumulator stage.body ≡ false → gathered_from job g xs ≡ gathered_at job g
gathers_nothing job g stage xs at is =
    ap (λ (o : Option Stage). option_map_or (λ t. body_gathered_from g xs t.body) o []) at ∙ by_body stage.body is
    ∙ sym (ap (λ (o : Option Stage). option_map_or (λ t. body_gathered job g t.body) o []) at)
  where
    by_body : (b : Body) → is_accumulator b ≡ false → body_gathered_from g xs b ≡ body_gathered job g b
    by_body (plane n) e = refl
    by_body (function cases otherwise) e = refl
    by_body (accumulator way bins value' bin) e = absurd (true≢false e)

module _ (catalog : List Entry) (entry : Entry) (s : FactSet) (is : IsCatalog catalog) (here : Contains catalog entry)
    (right : HoldsTrueFacts catalog s) where
  abbrev program : List ℕ
  program = (ids_of entry).program

  abbrev job : Pipeline
  job = entry.pipeline

  there : slice_get catalog here.0 ≡ Some entry
  there = slice_get-get_or catalog here.0 entry here.1 ∙ ap Some here.2

  -- what is held of a key of the job is true of the job
  pub true_body : (key : Key) (fact : Fact) → ids_in key ≡ ids_of entry → Contains (facts_of s key) fact → BodyIsTrue job key fact.body
  true_body key fact ids has =
      let of = (in_facts_of s key fact).0 has in
      let told = right fact of.0 in
      let place = is.apart (ids_of entry) told.index here.0 (told.entry, told.there, told.ids ∙ ap ids_in of.1 ∙ ids)
      (entry, there, refl) in
      let same = same_Some told.entry entry (sym told.there ∙ ap (slice_get catalog) place ∙ there) in
      subst (λ (k : Key). BodyIsTrue job k fact.body) of.1
      (subst (λ (e : Entry). IsTrueOf fact e.pipeline) same told.holds)

  -- ---- the picture

  true_samples : (g i j : ℕ) (stage : Stage) (body : fact_body.Body) (xs : List ℤ) → slice_get job.stages g ≡ Some stage
      → samples_in body ≡ Some xs → BodyIsTrue job (tile_key program job g i j) body
      → xs ≡ raster (tile_area (grid_of job stage) i j) (value job g)
  true_samples g i j stage (Partial ys) xs at e told = absurd (none-some xs e)
  true_samples g i j stage (Tile ys) xs at e told =
      let same = same_Some told.tile.stage stage (sym told.tile.tile.there ∙ at) in
      sym (same_Some ys xs e) ∙ told.values
      ∙ ap (λ a. raster a (value job g)) (told.tile.tile.is ∙ ap (λ (x : Stage). tile_area (grid_of job x) i j) same)

  pub true_tiles : AreTrue job (held_tiles s program job)
  true_tiles g stage at i j xs tile given =
      let key = tile_key program job g i j in
      option_and_then_some _ _ xs given (λ grid _ inner.
      option_and_then_some _ (slice_get (facts_of s key) 0) xs inner (λ fact first samples.
      true_samples g i j stage fact.body xs at samples (true_body key fact refl (head_in (facts_of s key) fact first))))

  -- ---- the totals

  true_bins : (g i j : ℕ) (stage : Stage) (xs : List ℤ) → slice_get job.stages g ≡ Some stage
      → BodyIsTrue job (tile_key program job g i j) (Partial xs)
      → xs ≡ totals_over job (tile_area (grid_of job stage) i j) g
  true_bins g i j stage xs at told =
      let same = same_Some told.tile.stage stage (sym told.tile.tile.there ∙ at) in
      told.totals
      ∙ ap (λ a. totals_over job a g) (told.tile.tile.is ∙ ap (λ (x : Stage). tile_area (grid_of job x) i j) same)

  module _ (ready : AllAreReady s program job) where
    one_partial : (g i j : ℕ) (stage : Stage) → slice_get job.stages g ≡ Some stage → is_accumulator stage.body ≡ true
        → IsReady s job (tile_key program job g i j)
        → partials_of s (tile_key program job g i j) ≡ totals_over job (tile_area (grid_of job stage) i j) g ∷ []
    one_partial g i j stage at kind one =
        let key = tile_key program job g i j in
        let fits = accumulator_fits job key stage one.fact.body at kind (fits_key s job key one) in
        let told = true_body key one.fact refl (subst (λ fs. Contains fs one.fact) (sym one.alone) (Contains-here one.fact [])) in
        partials_alone s key one.fact one.alone ∙ ap bins_in fits.1
        ∙ ap (λ xs. xs ∷ []) (true_bins g i j stage fits.0 at (subst (BodyIsTrue job key) fits.1 told))

    true_partials : (g : ℕ) (stage : Stage) → slice_get job.stages g ≡ Some stage → is_accumulator stage.body ≡ true
        → held_partials s program job g ≡ map (λ t. totals_over job (tile_area (grid_of job stage) t.0 t.1) g)
        (tiles_of (grid_of job stage))
    true_partials g stage at kind =
        let grid = grid_of job stage in
        let there = grid_there job g stage at (tiled_too stage.body kind) in
        by_tiles s program job g grid there
        ∙ flat_map_each _ (λ t. totals_over job (tile_area grid t.0 t.1) g ∷ []) (tiles_of grid) (λ t has.
        one_partial g t.0 t.1 stage at kind
        (ready (tile_key program job g t.0 t.1) (key_wanted program job (record { stage = g; row = t.0; col = t.1 }) (record {
          wanted = accumulator_wanted job g stage at kind;
          grid = grid;
          there = there;
          tile = (Contains-tiles_of grid t.0 t.1).0 has;
        }))))
        ∙ flat_map_single (λ t. totals_over job (tile_area grid t.0 t.1) g) (tiles_of grid)

    pub stage_gathers : IsJob job → (g : ℕ) → gathered_from job g (held_partials s program job g) ≡ gathered_at job g
    stage_gathers good g = by (slice_get job.stages g) refl
      where
        by_kind : (stage : Stage) (b : Bool) → slice_get job.stages g ≡ Some stage → is_accumulator stage.body ≡ b
            → gathered_from job g (held_partials s program job g) ≡ gathered_at job g
        by_kind stage false at kind = gathers_nothing job g stage (held_partials s program job g) at kind
        by_kind stage true at kind =
            ap (gathered_from job g) (true_partials g stage at kind)
            ∙ taken_partials job g stage (tiles_of (grid_of job stage)) good at (IsPermutation-refl (tiles_of (grid_of job stage)))

        by : (o : Option Stage) → slice_get job.stages g ≡ o → gathered_from job g (held_partials s program job g) ≡ gathered_at job g
        by None at =
            ap (λ (o : Option Stage). option_map_or (λ t. body_gathered_from g (held_partials s program job g) t.body) o []) at
            ∙ sym (ap (λ (o : Option Stage). option_map_or (λ t. body_gathered job g t.body) o []) at)
        by (Some stage) at = by_kind stage (is_accumulator stage.body) at refl

  pub true_answer : (answer : Answer) → IsJob job → IsHeldAnswer s program job answer → IsAnswer job answer
  true_answer answer good held = record {
    picture = held.picture ∙ image_true job (held_tiles s program job) good true_tiles (outputs_held s program job held.ready good);
    totals =
        held.totals
        ∙ flat_map-same (λ g. gathered_from job g (held_partials s program job g)) (gathered_at job) (range_with_len 0 (length job.stages))
        (stage_gathers held.ready good);
  }

  -- ---- faults

  alone_is_held : (key : Key) → IsReady s job key → IsNotHeld s key → ⊥
  alone_is_held key one none = let e = one.alone in absurd (cc)

  pub no_dispute : (key : Key) → IsDisputed s key → ⊥
  no_dispute key disputed = by (facts_of s key) refl disputed
    where
      same_fact : (a b : Fact) → Contains (facts_of s key) a → Contains (facts_of s key) b → a ≡ b
      same_fact a b has also =
          let first = (in_facts_of s key a).0 has in
          let second = (in_facts_of s key b).0 also in
          one_true catalog a b is (right a first.0) (right b second.0) (first.1 ∙ sym second.1)

      by : (xs : List Fact) → facts_of s key ≡ xs → counted (length xs) ≡ known.Disputed → ⊥
      by [] at e = absurd (cc)
      by (a ∷ []) at e = absurd (cc)
      by (a ∷ b ∷ more) at e =
          let first = subst (λ fs. Contains fs a) (sym at) (Contains-here a (b ∷ more)) in
          let second = subst (λ fs. Contains fs b) (sym at) (Contains-append_right (a ∷ []) (b ∷ more) b (Contains-here b more)) in
          two_of_key s key a more (at ∙ ap (λ f. a ∷ f ∷ more) (sym (same_fact a b first second)))

  none_misshapen : (key : Key) → Contains (wanted_keys program job) key → IsMisshapen s job key → ⊥
  none_misshapen key has wrong =
      let ids : ids_in key ≡ ids_of entry = ap ids_in (sym (wanted_key program job key has).is) in
      let fact = wrong.fact in
      let own = held_of_key s key fact wrong.alone in
      let told = true_body key fact ids (subst (λ fs. Contains fs fact) (sym wrong.alone) (Contains-here fact [])) in
      wrong.is (true_fits job fact (subst (λ k. BodyIsTrue job k fact.body) (sym own.1) told))

  pub true_fault : (f : AnswerFault) → IsAnswerFault s program job f → IsFaultOfTrueFacts s program job f
  true_fault (fault.Missing key) told = record {
    asked = told.0.wanted;
    not_held = told.1;
    least = λ other has none low. alone_is_held other (told.0.below other has low) none;
  }
  true_fault (fault.Disputed key) told = no_dispute key told.1
  true_fault (fault.Misshapen key) told = none_misshapen key told.0.wanted told.1
  true_fault fault.Memory told = λ key has none. alone_is_held key (told key has) none
  true_fault fault.Retired told = told
