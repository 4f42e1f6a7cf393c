-- What a state answers for a job: the wanted keys that it lacks; the picture and the totals, or why there are none. They come
-- from the numbers that it holds, whatever these are. Wanted are the keys of all tiles of outputs and accumulators. A job is
-- specified by the identity of its program and by its pipeline.
use Rattle.std.specs.List.{Contains, flat_map, range_with_len}
use Rattle.std.specs.Option.{option_and_then}
use Rattle.std.specs.Prelude.{◌≡◌, ℕ, ℤ, ◌==◌, Bool, List, [], ◌∷◌, map, filter, length, slice_get}
use Rattle.accumulators.specs.Answers.{Gathered, gathered}
use Rattle.accumulators.specs.Gatherings.{gathered_from}
use Rattle.pictures.specs.Pictures.{given_image}
use Rattle.accumulators.specs.declared.answer.Answer.{Answer}
use Rattle.identity.specs.declared.key.Key.{Key}
use Rattle.job.specs.Answers.{tiles}
use Rattle.job.specs.Pipeline.{Pipeline}
use Rattle.job.specs.Readers.{grid_at}
use Rattle.overlap_tiles.specs.Needs.{key_of, IsKeyBefore}
use Rattle.overlap_tiles.specs.Work.{wanted_keys}
use Rattle.tile_fact.specs.declared.body.Body.{Body}
use Rattle.tile_fact.specs.declared.body.Body.TheVariants.{Tile, Partial}
use Rattle.tile_sources.specs.KnownTiles.{KnownTiles}
use Rattle.held_facts.specs.Answers.{IsNotHeld, AreHeld, IsLeastNotHeld, known_of}
use Rattle.held_facts.specs.Facts.{FactSet, facts_of}
pub use Rattle.held_facts.specs.HeldFacts.{HasOneFact, HoldsTrueFacts, IsMisshapen, IsReady, samples_in}
use Rattle.held_facts.specs.declared.answer_fault.AnswerFault.{AnswerFault}
use Rattle.held_facts.specs.declared.answer_fault.AnswerFault.TheVariants as fault
use Rattle.held_facts.specs.declared.answers.Known.TheVariants as known

-- ---- what is lacked

-- whether nothing is held of the key
abbrev pub lacks : FactSet → Key → Bool
lacks s key = length (facts_of s key) == 0

-- the wanted keys of which nothing is held, rising as these do
abbrev pub missing_keys : FactSet → List ℕ → Pipeline → List Key
missing_keys s program job = filter (lacks s) (wanted_keys program job)

-- ---- what is held of a wanted key

-- two facts or more are held
abbrev pub IsDisputed : FactSet → Key → Type 0
IsDisputed s key = known_of s key ≡ known.Disputed

-- each wanted key is ready
abbrev pub AllAreReady : FactSet → List ℕ → Pipeline → Type 0
AllAreReady s program job = (key : Key) → Contains (wanted_keys program job) key → IsReady s job key

-- ---- why there is no answer

-- the key is wanted, and all wanted keys below it are ready
pub record IsFirstUnready (s : FactSet) (program : List ℕ) (job : Pipeline) (key : Key) : Type 0 where
  pub wanted : Contains (wanted_keys program job) key
  pub below : (other : Key) → Contains (wanted_keys program job) other → IsKeyBefore other key → IsReady s job other

-- the least wanted key that is not ready, and what is wrong with it. Memory is refused only where all are ready
abbrev pub IsAnswerFault : FactSet → List ℕ → Pipeline → AnswerFault → Type 0
IsAnswerFault s program job (fault.Missing key) = IsFirstUnready s program job key × IsNotHeld s key
IsAnswerFault s program job (fault.Disputed key) = IsFirstUnready s program job key × IsDisputed s key
IsAnswerFault s program job (fault.Misshapen key) = IsFirstUnready s program job key × IsMisshapen s job key
IsAnswerFault s program job fault.Memory = AllAreReady s program job
-- held facts do not report that a job is retired
IsAnswerFault s program job fault.Retired = ⊥

-- ---- the numbers that are held

-- the samples that are held of a tile: those of the first fact of its key. Stages without tiles have none
abbrev pub held_tiles : FactSet → List ℕ → Pipeline → KnownTiles
held_tiles s program job g i j =
    option_and_then
    (λ grid. option_and_then (λ fact. samples_in fact.body)
    (slice_get (facts_of s (key_of program job (record { stage = g; row = i; col = j }))) 0))
    (grid_at job g)

-- the bins of a partial
abbrev pub bins_in : Body → List (List ℤ)
bins_in (Tile samples) = []
bins_in (Partial bins) = bins ∷ []

-- the partials that are held of a key
abbrev pub partials_of : FactSet → Key → List (List ℤ)
partials_of s key = flat_map (λ fact. bins_in fact.body) (facts_of s key)

-- all that are held of a stage, tile by tile
abbrev pub held_partials : FactSet → List ℕ → Pipeline → ℕ → List (List ℤ)
held_partials s program job g = flat_map (λ t. partials_of s (key_of program job t)) (tiles job g)

-- what the accumulators accumulate from them, bin by bin, in the order of the stages
abbrev pub held_totals : FactSet → List ℕ → Pipeline → List Gathered
held_totals s program job = flat_map (λ g. gathered_from job g (held_partials s program job g)) (range_with_len 0 (length job.stages))

-- ---- the answer

-- the picture has the held numbers, each clamped to 0 and the greatest sample; the totals are accumulated from all held partials
pub record IsHeldAnswer (s : FactSet) (program : List ℕ) (job : Pipeline) (answer : Answer) : Type 0 where
  pub ready : AllAreReady s program job
  pub picture : answer.picture ≡ given_image job (held_tiles s program job)
  pub totals : map gathered answer.totals.items ≡ held_totals s program job

-- ---- where all that is held is true

-- nothing is held of the least key that is not ready; no key is disputed, and none is misshapen
abbrev pub IsFaultOfTrueFacts : FactSet → List ℕ → Pipeline → AnswerFault → Type 0
IsFaultOfTrueFacts s program job (fault.Missing key) = IsLeastNotHeld s (wanted_keys program job) key
IsFaultOfTrueFacts s program job (fault.Disputed key) = ⊥
IsFaultOfTrueFacts s program job (fault.Misshapen key) = ⊥
IsFaultOfTrueFacts s program job fault.Memory = AreHeld s (wanted_keys program job)
IsFaultOfTrueFacts s program job fault.Retired = ⊥
