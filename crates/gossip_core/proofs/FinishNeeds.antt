-- What a tile needs is made before it, and one true fact of it is ready.
use Rattle.std.proofs.Common.{arith, ℕ, ◌<◌, ◌≡◌, ◌&&◌, ◌||◌, inl, inr, refl, sym, ap, subst, Bool, true, false, not, Option}
use Rattle.std.proofs.Common.{List, [], ◌∷◌, length}
use Rattle.std.specs.Prelude.{◌==◌, AllPairs, IsSomeAnd}
use Rattle.std.specs.List.{Contains}
use Rattle.std.proofs.lemmas.Bool.{and_parts}
use Rattle.std.proofs.lemmas.List.Elements.{All-contains}
use Rattle.catalog.specs.Entries.{Entry, IsCatalog, ids_in, ids_of}
use Rattle.domains.proofs.PairLists.{Contains-cases, Contains-here}
use Rattle.domains.specs.Tiles.{HasTile}
use Rattle.domains.specs.declared.area.Area.{Area}
use Rattle.domains.specs.declared.grid.Grid.{Grid}
use Rattle.fact_audit.proofs.Judging.{true_fits}
use Rattle.fact_audit.specs.TrueFacts.{BodyIsTrue}
use Rattle.fact_store.proofs.KeyLaws.{in_facts_of}
use Rattle.tile_boxes.proofs.Lists.{AllPairs-head}
use Rattle.tile_boxes.specs.Schedules.{is_function_stage, is_inlined}
use Rattle.tile_boxes.specs.Targets.{is_function_other_than_target, target_over}
use Rattle.identity.specs.declared.key.Key.{Key}
use Rattle.job.proofs.Solving.{ranked_is}
use Rattle.job.specs.Answers.{Tile}
use Rattle.job.specs.Pipeline.{Pipeline, rank_of}
use Rattle.job.specs.WellFormed.{IsJob}
use Rattle.held_facts.proofs.TrueStates.{no_dispute, true_body}
use Rattle.held_facts.specs.Answers.{IsNotHeld, known_of, counted}
use Rattle.held_facts.specs.HeldAnswers.{HoldsTrueFacts, IsMisshapen}
use Rattle.held_facts.specs.Facts.{FactSet, facts_of}
use Rattle.held_facts.specs.declared.answers.Known.TheVariants as known
use Rattle.overlap_tiles.proofs.BoxesAreLower.{box_low}
use Rattle.overlap_tiles.specs.Needs.{IsNeeded}
use Rattle.overlap_tiles.specs.Work.{IsWork, IsWorkedBefore, is_accumulator_at, is_stored_function}
use Rattle.tile_fact.specs.declared.fact.Fact.{Fact}

-- ---- needs

or_left : (a b : Bool) → a ≡ true → (a || b) ≡ true
or_left true b e = refl
or_left false b e = absurd (cc)

both : (a b : Bool) → a ≡ true → b ≡ true → (a && b) ≡ true
both true b e f = f
both false b e f = absurd (cc)

module _ (job : Pipeline) (inlining : List Bool) (g : ℕ) (area : Area) (m : Tile) (is : IsNeeded (target_over job inlining g area) m) where
  -- a needed tile is one of a stored function
  pub needed_is_work : IsWork job inlining m
  needed_is_work =
      let stored = and_parts (is_function_other_than_target (target_over job inlining g area) m.stage) (not (is_inlined inlining m.stage)) is.stored in
      let function = and_parts (is_function_stage job m.stage) (not (m.stage == g)) stored.0 in
      record {
        tile = subst (λ (o : Option Grid). IsSomeAnd o (λ d. HasTile d m.row m.col)) (sym is.there) is.meets.there;
        made = or_left (is_stored_function job inlining m.stage) (is_accumulator_at job m.stage)
            (both (is_function_stage job m.stage) (not (is_inlined inlining m.stage)) function.0 stored.1);
      }

  -- of a stage of lower rank
  pub needed_is_lower : IsJob job → rank_of job.stages m.stage < rank_of job.stages g
  needed_is_lower good = box_low (target_over job inlining g area) (ranked_is job good) m.stage is.area is.boxed

-- a stage of lower rank than the first tile's has none of the tiles in dependence order from there on
pub none_lower : (job : Pipeline) (t : Tile) (ts : List Tile) (m : Tile) → AllPairs (IsWorkedBefore job) (t ∷ ts) → Contains (t ∷ ts) m
    → rank_of job.stages m.stage < rank_of job.stages t.stage → ⊥
none_lower job t ts m order has low = elim (Contains-cases t ts m has) [
  | inl same ↦ (let stages = ap (λ (x : Tile). rank_of job.stages x.stage) same in omega arith)
  | inr later ↦ behind (All-contains (IsWorkedBefore job t) ts m (AllPairs-head (IsWorkedBefore job) t ts order) later)
]
  where
    behind : IsWorkedBefore job t m → ⊥
    behind (inl (inl ranks)) = omega arith
    behind (inl (inr numbers)) = let ranks = numbers.0 in omega arith
    behind (inr (same, places)) = let stages = ap (rank_of job.stages) same in omega arith

-- ---- what is held of them

no_count : (fs : List Fact) → counted (length fs) ≡ known.Nothing → (fs ≡ [] → ⊥) → ⊥
no_count [] e some = some refl
no_count (x ∷ []) e some = cc
no_count (x ∷ y ∷ more) e some = cc

pub none_missing : (s : FactSet) (need : Key) → ¬ IsNotHeld s need → known_of s need ≡ known.Nothing → ⊥
none_missing s need some none = no_count (facts_of s need) none some

module _ (catalog : List Entry) (entry : Entry) (s : FactSet) (is : IsCatalog catalog) (here : Contains catalog entry)
    (right : HoldsTrueFacts catalog s) (need : Key) where
  pub none_disputed : known_of s need ≡ known.Disputed → ⊥
  none_disputed = no_dispute catalog entry s is here right need

  pub none_misshapen : ids_in need ≡ ids_of entry → IsMisshapen s entry.pipeline need → ⊥
  none_misshapen ids wrong =
      let fact = wrong.fact in
      let has = subst (λ (fs : List Fact). Contains fs fact) (sym wrong.alone) (Contains-here fact []) in
      let told = true_body catalog entry s is here right need fact ids has in
      let own = ((in_facts_of s need fact).0 has).1 in
      wrong.is (true_fits entry.pipeline fact (subst (λ (k : Key). BodyIsTrue entry.pipeline k fact.body) (sym own) told))
