-- What a state of true facts answers for a job, exactly.
use Rattle.std.proofs.Common.{◌≡◌, sym, ap, ◌∙◌, subst, refl, List, [], ◌∷◌}
use Rattle.std.specs.List.{Contains, range_with_len}
use Rattle.std.specs.Prelude.{ℕ, length}
use Rattle.pictures.proofs.TrueImage.{image_true}
use Rattle.accumulators.specs.Answers.{IsAnswer, all_gathered, gathered_at}
use Rattle.accumulators.specs.Gatherings.{gathered_from}
use Rattle.pictures.specs.Pictures.{given_image}
use Rattle.accumulators.specs.declared.answer.Answer.{Answer}
use Rattle.catalog.specs.Entries.{Entry, IsCatalog, ids_in, ids_of}
use Rattle.domains.proofs.PairLists.{Contains-here}
use Rattle.fact_audit.proofs.Judging.{true_fits}
use Rattle.fact_audit.specs.TrueFacts.{BodyIsTrue}
use Rattle.fact_store.proofs.KeyLaws.{in_facts_of}
use Rattle.tile_boxes.proofs.Lists.{flat_map-same}
use Rattle.identity.specs.declared.key.Key.{Key}
use Rattle.job.specs.Answers.{image}
use Rattle.job.specs.Pipeline.{Pipeline}
use Rattle.job.specs.WellFormed.{IsJob}
use Rattle.overlap_tiles.specs.Work.{wanted_keys}
use Rattle.tile_fact.specs.declared.fact.Fact.{Fact}
use Rattle.held_facts.proofs.HeldPictures.{outputs_held}
use Rattle.held_facts.proofs.TrueStates.{no_dispute, stage_gathers, true_answer, true_body, true_fault, true_tiles}
use Rattle.held_facts.proofs.WantedTiles.{wanted_key}
use Rattle.held_facts.specs.Answers.{AreHeld, IsLeastNotHeld, IsNotHeld, counted}
use Rattle.held_facts.specs.HeldAnswers as held
use Rattle.held_facts.specs.HeldAnswers.{AllAreReady, HoldsTrueFacts, IsFaultOfTrueFacts, IsFirstUnready}
use Rattle.held_facts.specs.HeldAnswers.{IsReady, held_partials, held_tiles, held_totals}
use Rattle.held_facts.specs.Facts.{FactSet, facts_of}
use Rattle.held_facts.specs.declared.answer_fault.AnswerFault.{AnswerFault}
use Rattle.held_facts.specs.declared.answer_fault.AnswerFault.TheVariants as fault
use Rattle.node_state.specs.HeldAnswers.{IsAnswerFault}
use Rattle.node_state.specs.States.{IsState, State}
use Rattle.gossip_core.specs.Headline.{AnswersExactly, IsFaultOfTrueState}
use Rattle.gossip_core.proofs.Unretired.{not_retired}

module _ (catalog : List Entry) (entry : Entry) (state : State) (is : IsCatalog catalog) (here : Contains catalog entry)
    (right : HoldsTrueFacts catalog state.facts) (good : IsJob entry.pipeline) (live : IsState state) where
  abbrev s : FactSet
  s = state.facts

  abbrev program : List ℕ
  program = (ids_of entry).program

  abbrev job : Pipeline
  job = entry.pipeline

  -- what is held of a wanted key is one fact, and fits
  alone_fits : (key : Key) (f : Fact) → Contains (wanted_keys program job) key → facts_of s key ≡ f ∷ [] → IsReady s job key
  alone_fits key f has alone =
      let ids : ids_in key ≡ ids_of entry = ap ids_in (sym (wanted_key program job key has).is) in
      let among = subst (λ (fs : List Fact). Contains fs f) (sym alone) (Contains-here f []) in
      let own = ((in_facts_of s key f).0 among).1 in
      let told = true_body catalog entry s is here right key f ids among in
      record { fact = f; alone = alone; is = true_fits job f (subst (λ (k : Key). BodyIsTrue job k f.body) (sym own) told) }

  held_ready : (key : Key) → Contains (wanted_keys program job) key → ¬ IsNotHeld s key → IsReady s job key
  held_ready key has some = by (facts_of s key) refl
    where
      by : (fs : List Fact) → facts_of s key ≡ fs → IsReady s job key
      by [] at = absurd (some at)
      by (f ∷ []) at = alone_fits key f has at
      by (f ∷ g ∷ more) at = absurd (no_dispute catalog entry s is here right key (ap (λ (fs : List Fact). counted (length fs)) at))

  all_ready : AreHeld s (wanted_keys program job) → AllAreReady s program job
  all_ready all key has = held_ready key has (all key has)

  all_held : AllAreReady s program job → AreHeld s (wanted_keys program job)
  all_held ready key has none = let e = (ready key has).alone in absurd (cc)

  -- the wanted keys below the least that is not held are ready
  least_is_first : (key : Key) → IsLeastNotHeld s (wanted_keys program job) key → IsFirstUnready s program job key
  least_is_first key of = record {
    wanted = of.asked;
    below = λ other has low. held_ready other has (λ none. of.least other has none low);
  }

  fault_is : (f : AnswerFault) → IsFaultOfTrueFacts s program job f → held.IsAnswerFault s program job f
  fault_is (fault.Missing key) told = (least_is_first key told, told.not_held)
  fault_is (fault.Disputed key) told = absurd told
  fault_is (fault.Misshapen key) told = absurd told
  fault_is fault.Memory told = all_ready told
  fault_is fault.Retired told = absurd told

  -- ---- the same of a state, in which the job is retired or not

  told_fault : (f : AnswerFault) → held.IsAnswerFault s program job f → IsFaultOfTrueFacts s program job f
  told_fault f told = true_fault catalog entry s is here right f told

  fault_told : (f : AnswerFault) → IsAnswerFault state program job f → IsFaultOfTrueState state entry f
  fault_told (fault.Missing key) told = (told.0, told_fault (fault.Missing key) told.1)
  fault_told (fault.Disputed key) told = (told.0, told_fault (fault.Disputed key) told.1)
  fault_told (fault.Misshapen key) told = (told.0, told_fault (fault.Misshapen key) told.1)
  fault_told fault.Memory told = (told.0, told_fault fault.Memory told.1)
  fault_told fault.Retired told = told

  state_fault : (f : AnswerFault) → IsFaultOfTrueState state entry f → IsAnswerFault state program job f
  state_fault (fault.Missing key) told = (told.0, fault_is (fault.Missing key) told.1)
  state_fault (fault.Disputed key) told = (told.0, fault_is (fault.Disputed key) told.1)
  state_fault (fault.Misshapen key) told = (told.0, fault_is (fault.Misshapen key) told.1)
  state_fault fault.Memory told = (told.0, fault_is fault.Memory told.1)
  state_fault fault.Retired told = told

  module _ (ready : AllAreReady s program job) where
    image_is : given_image job (held_tiles s program job) ≡ image job
    image_is =
        image_true job (held_tiles s program job) good (true_tiles catalog entry s is here right) (outputs_held s program job ready good)

    totals_are : held_totals s program job ≡ all_gathered job
    totals_are =
        flat_map-same (λ g. gathered_from job g (held_partials s program job g)) (gathered_at job)
        (range_with_len 0 (length job.stages)) (stage_gathers catalog entry s is here right ready good)

    held_answer : (answer : Answer) → IsAnswer job answer → held.IsHeldAnswer s program job answer
    held_answer answer told = record {
      ready = ready;
      picture = told.picture ∙ sym image_is;
      totals = told.totals ∙ sym totals_are;
    }

  pub answers_exactly : AnswersExactly state entry
  answers_exactly = record {
    answer = λ answer. (
      (λ gives. (gives.0, all_held gives.1.ready, true_answer catalog entry s is here right answer good gives.1)),
      λ told. (told.0, held_answer (all_ready told.1) answer told.2),
    );
    held = λ result answer. (
      λ gives. (all_held gives.1.ready, true_answer catalog entry s is here right answer good gives.1),
      λ told. (not_retired entry state good result live told.0, held_answer (all_ready told.0) answer told.1),
    );
    fault = λ f. (fault_told f, state_fault f);
  }
