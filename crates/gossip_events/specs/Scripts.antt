-- Scripts: texts that specify events, one line for each. Words are separated by one blank. Nodes, messages and the tiles of jobs
-- are named by numbers. Empty lines, and lines that begin with `#`, specify nothing.
use Rattle.std.specs.List.{slice_split}
use Rattle.std.specs.Prelude.{◌≡◌, ℕ, ◌<◌, ◌^◌, ◌==◌, ◌≤◌, Bool, true, not, Some, List, [], ◌∷◌, codes, filter, length, slice_get}
use Rattle.std.specs.Str.Parse.{IsNumeral, digits_value}
use Rattle.catalog.specs.Entries.{Entry, ids_of}
use Rattle.identity.specs.declared.job_ids.JobId.{JobId}
use Rattle.identity.specs.declared.key.Key.{Key}
use Rattle.gossip_events.specs.declared.event.Event.{Event}
use Rattle.gossip_events.specs.declared.event.Event.TheVariants as events
use Rattle.gossip_events.specs.declared.order.ScriptRequest.{ScriptRequest}
use Rattle.gossip_events.specs.declared.order.ScriptRequest.TheVariants.{Make, Retire, Send, Plain}
use Rattle.gossip_events.specs.declared.places.TileName.{TileName}
use Rattle.gossip_events.specs.declared.verb.EventVerb.{EventVerb}
use Rattle.gossip_events.specs.declared.verb.EventVerb.TheVariants as verbs

-- ---- lines and words

-- the parts before the first line feed, between each two, and after the last
abbrev pub lines : List ℕ → List (List ℕ)
lines text = slice_split (λ byte. byte == 10) text

-- an empty line, or one that begins with `#`
abbrev pub is_passed_over : List ℕ → Bool
is_passed_over [] = true
is_passed_over (byte ∷ line) = byte == 35

-- the lines that specify events
abbrev pub event_lines : List (List ℕ) → List (List ℕ)
event_lines all = filter (λ line. not (is_passed_over line)) all

-- the parts before the first blank, between each two, and after the last
abbrev pub words : List ℕ → List (List ℕ)
words line = slice_split (λ byte. byte == 32) line

-- ---- numbers and tiles

-- digits alone, of a number within 32 bits
pub record SpellsNumber (word : List ℕ) (n : ℕ) : Type 0 where
  pub digits : IsNumeral 10 word
  pub value : n ≡ digits_value 10 word
  pub fits : n < 2 ^ 32

abbrev pub SpellsNode : List ℕ → ℕ → Type 0
SpellsNode word n = SpellsNumber word n × (n < 2 ^ 8)

abbrev pub SpellsStage : List ℕ → ℕ → Type 0
SpellsStage word n = SpellsNumber word n × (n < 2 ^ 16)

-- a job's number, a stage, a row and a column
abbrev pub NamePlace : List (List ℕ) → TileName → Type 0
NamePlace (job ∷ stage ∷ row ∷ col ∷ []) place =
    SpellsNumber job place.job × SpellsStage stage place.stage × SpellsNumber row place.row × SpellsNumber col place.col
NamePlace _ place = ⊥

-- `JOB:STAGE:ROW:COL`
abbrev pub SpellsPlace : List ℕ → TileName → Type 0
SpellsPlace word place = NamePlace (slice_split (λ byte. byte == 58) word) place

-- a tile for each word
abbrev pub SpellPlaces : List (List ℕ) → List TileName → Type 0
SpellPlaces [] [] = Unit {0}
SpellPlaces (word ∷ words) (place ∷ places) = SpellsPlace word place × SpellPlaces words places
SpellPlaces [] (place ∷ places) = ⊥
SpellPlaces (word ∷ words) [] = ⊥

-- ---- what a line requests

abbrev pub verb_word : EventVerb → List ℕ
verb_word verbs.Make = codes "make"
verb_word verbs.Retire = codes "retire"
verb_word verbs.Send = codes "send"
verb_word verbs.Deliver = codes "deliver"
verb_word verbs.Merge = codes "merge"
verb_word verbs.Keep = codes "keep"
verb_word verbs.Restart = codes "restart"

abbrev pub IsLoneNode : List (List ℕ) → ℕ → Type 0
IsLoneNode (word ∷ []) n = SpellsNode word n
IsLoneNode _ n = ⊥

-- two words: P holds of the first, and Q of the second
abbrev pub AreTwo : List (List ℕ) → (List ℕ → Type 0) → (List ℕ → Type 0) → Type 0
AreTwo (first ∷ second ∷ []) P Q = P first × Q second
AreTwo _ P Q = ⊥

-- two nodes and a tile for each word after them
abbrev pub AreSent : List (List ℕ) → ℕ → ℕ → List TileName → Type 0
AreSent (first ∷ second ∷ rest) node to places = SpellsNode first node × SpellsNode second to × SpellPlaces rest places
AreSent _ node to places = ⊥

-- the words that follow a verb that names neither a job nor a tile: `deliver N K`, `merge A B`, `keep N`, `restart N`
abbrev pub FollowPlain : EventVerb → List (List ℕ) → Event → Type 0
FollowPlain verbs.Deliver rest (events.Deliver node message) = AreTwo rest (λ w. SpellsNode w node) (λ w. SpellsNumber w message)
FollowPlain verbs.Merge rest (events.Merge node other) = AreTwo rest (λ w. SpellsNode w node) (λ w. SpellsNode w other)
FollowPlain verbs.Keep rest (events.Keep node) = IsLoneNode rest node
FollowPlain verbs.Restart rest (events.Restart node) = IsLoneNode rest node
FollowPlain _ rest _ = ⊥

-- the words that follow a verb: `make N KEY`, `retire N JOB`, `send N M KEY..`, or those of an event that names neither a job nor
-- a tile
abbrev pub FollowVerb : EventVerb → List (List ℕ) → ScriptRequest → Type 0
FollowVerb verbs.Make rest (Make node place) = AreTwo rest (λ w. SpellsNode w node) (λ w. SpellsPlace w place)
FollowVerb verbs.Retire rest (Retire node job) = AreTwo rest (λ w. SpellsNode w node) (λ w. SpellsNumber w job)
FollowVerb verbs.Send rest (Send node to places) = AreSent rest node to places
FollowVerb verb rest (Plain event) = FollowPlain verb rest event
FollowVerb _ rest _ = ⊥

-- a verb and what follows it
abbrev pub SpellsOrder : List (List ℕ) → ScriptRequest → Type 0
SpellsOrder [] order = ⊥
SpellsOrder (first ∷ rest) order = (verb : EventVerb) × (first ≡ verb_word verb) × FollowVerb verb rest order

-- ---- events

-- the identities of the catalog's job of this number
abbrev pub AreIdsAt : List Entry → ℕ → JobId → Type 0
AreIdsAt jobs number ids = (job : Entry) × (slice_get jobs number ≡ Some job) × (ids ≡ ids_of job)

-- the key of a tile of the catalog's job of this number
pub record IsKeyOf (jobs : List Entry) (place : TileName) (key : Key) : Type 0 where
  pub job : Entry
  pub there : slice_get jobs place.job ≡ Some job
  pub program : key.program ≡ (ids_of job).program
  pub input : key.input ≡ (ids_of job).input
  pub stage : key.stage ≡ place.stage
  pub row : key.row ≡ place.row
  pub col : key.col ≡ place.col

abbrev pub AreKeysOf : List Entry → List TileName → List Key → Type 0
AreKeysOf jobs [] [] = Unit {0}
AreKeysOf jobs (place ∷ places) (key ∷ keys) = IsKeyOf jobs place key × AreKeysOf jobs places keys
AreKeysOf jobs [] (key ∷ keys) = ⊥
AreKeysOf jobs (place ∷ places) [] = ⊥

-- the event that is requested, with the keys of its tiles or the identities of its job
abbrev pub IsAsked : List Entry → ScriptRequest → Event → Type 0
IsAsked jobs (Make node place) event = (key : Key) × IsKeyOf jobs place key × (event ≡ events.Make node key)
IsAsked jobs (Retire node job) event = (ids : JobId) × AreIdsAt jobs job ids × (event ≡ events.Retire node ids)
IsAsked jobs (Send node to places) event = (keys : List Key) × AreKeysOf jobs places keys × (event ≡ events.Send node to keys)
IsAsked jobs (Plain told) event = event ≡ told

-- the line specifies the event
abbrev pub TellsEvent : List Entry → List ℕ → Event → Type 0
TellsEvent jobs line event = (order : ScriptRequest) × SpellsOrder (words line) order × IsAsked jobs order event

-- ---- scripts

-- an event for each line
abbrev pub TellEvents : List Entry → List (List ℕ) → List Event → Type 0
TellEvents jobs [] [] = Unit {0}
TellEvents jobs (line ∷ lines) (event ∷ events) = TellsEvent jobs line event × TellEvents jobs lines events
TellEvents jobs [] (event ∷ events) = ⊥
TellEvents jobs (line ∷ lines) [] = ⊥

-- the most events of a script
abbrev pub most_events : ℕ
most_events = 65536

-- the events that these lines specify, in order
pub record AreEvents (jobs : List Entry) (all : List (List ℕ)) (events : List Event) : Type 0 where
  pub told : TellEvents jobs (event_lines all) events
  pub few : length events ≤ most_events
