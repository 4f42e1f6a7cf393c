-- What the words ask for, by what clap found in them, and that refused words ask for nothing.
use Rattle.std.proofs.Common.{◌≡◌, ◌≢◌, ◌≤◌, ◌<◌, ◌↔◌, ◌∙◌, ℕ, Bool, IsTrue, List, [], ◌∷◌, codes, get_or, length, arith, Option}
use Rattle.std.proofs.Common.{Some, Ok, Err, Bor, true, inl, inr, map, option_map, refl, sym, ap, subst}
use Rattle.std.specs.Prelude.{string_bytes}
use Rattle.std.proofs.lemmas.Option.{same_Some}
use Rattle.std.proofs.lemmas.Slice.Eq.{bytes_eq-Decides}
use Rattle.std.specs.Str.{bytes_eq}
use Rattle.std.specs.declared.alloc.Global.{Global}
use Rattle.std.specs.declared.string.String.{String}
use Rattle.clap.specs.Words.{App, FailsBy, HasMatchesOf, IsAmong, Kinds, Row, Text, fault_of, found_of, is_simple}
use Rattle.clap.specs.Words.{is_simple_and_free, kind_of, rows_of, subcommand_of, subcommand_rows_of}
use Rattle.clap.specs.declared.error.Error.{Error}
use Rattle.clap.specs.declared.error.kind.ErrorKind.{ErrorKind}
use Rattle.clap.specs.declared.error.kind.ErrorKind.TheVariants.{OutOfMemory}
use Rattle.clap.specs.declared.parser.matches.ArgMatches.{ArgMatches}
use Rattle.clap.proofs.OnLiterals.{clap_on_literals}
use Rattle.command_line.specs.Asking.{AskForMerge, IsJobRequestOf}
use Rattle.command_line.specs.Tasks.{AsksFor, word_of}
use Rattle.command_line.specs.Usage.{usage}
use Rattle.command_line.specs.declared.tasks.CommandTask.{CommandTask}
use Rattle.command_line.specs.declared.words.JobRequest.{JobRequest}

usage_is_simple : is_simple usage ≡ true
unfolding clap_on_literals
usage_is_simple = refl

usage_is_free : is_simple_and_free usage ≡ true
unfolding clap_on_literals
usage_is_free = refl

abbrev texts : List (String Global) → List Text
texts = map string_bytes

abbrev rows_in : Option (Bor Text × Bor ArgMatches) → Option (List Row)
rows_in = option_map (λ p. rows_of (found_of p.1.now))

-- the rows of the command that was entered
pub entered : (words : List (String Global)) (app : App) (m : ArgMatches) (p q : Option (Bor Text × Bor ArgMatches)) → app ≡ usage
    → HasMatchesOf app (texts words) m
    → rows_in p ≡ option_map (λ p. p.1) (subcommand_rows_of m) → p ≡ q
    → option_map (λ p. p.1) (subcommand_of usage (texts words)) ≡ rows_in q
entered words app m p q is matches rows same =
    let found = subst (λ (a : App). HasMatchesOf a (texts words) m) is matches usage_is_simple in
    ap (option_map (λ p. p.1)) (sym found.1) ∙ sym rows ∙ ap rows_in same

-- words that are parsed are a command line of the usage text
pub accepted : (words : List (String Global)) (app : App) (m : ArgMatches) → app ≡ usage
    → (is_simple_and_free app ≡ true → FailsBy {T = ArgMatches} (fault_of app (texts words)) (Ok m))
    → fault_of usage (texts words) ≡ []
accepted words app m is fails =
    subst (λ (a : App). is_simple_and_free a ≡ true → FailsBy {T = ArgMatches} (fault_of a (texts words)) (Ok m)) is fails usage_is_free

none_among : (k : ErrorKind) (kinds : Kinds) → kinds ≡ [] → IsAmong k kinds → ⊥
none_among k kinds empty among = subst (λ (ks : Kinds). IsAmong k ks) empty among

-- words that are refused are none
pub refused : (words : List (String Global)) (app : App) (e : Error) → app ≡ usage
    → (is_simple_and_free app ≡ true → FailsBy {T = ArgMatches} (fault_of app (texts words)) (Err e))
    → kind_of e ≢ OutOfMemory → (request : JobRequest) → ¬ IsJobRequestOf words request
refused words app e is fails kind request asked =
    elim (subst (λ (a : App). is_simple_and_free a ≡ true → FailsBy {T = ArgMatches} (fault_of a (texts words)) (Err e)) is fails
    usage_is_free) [
      | inl memory ↦ kind memory
      | inr among ↦ none_among (kind_of e) (fault_of usage (texts words)) asked.accepted among
    ]

pub same_rows : (words : List (String Global)) (request : JobRequest) (asked : IsJobRequestOf words request) (rows : List Row)
    → option_map (λ p. p.1) (subcommand_of usage (texts words)) ≡ Some rows → asked.rows ≡ rows
same_rows words request asked rows is = same_Some asked.rows rows (sym asked.given ∙ is)

-- ---- tasks

-- tasks that the words ask for have the same word
pub same_word : (words : List (String Global)) (a b : CommandTask) → AsksFor words a → AsksFor words b → word_of a ≡ word_of b
same_word words a b (first, here, is) (other, there, says) =
    sym is ∙ ap string_bytes (same_Some first other (sym here ∙ there)) ∙ says

-- and a task of that word is asked for
pub asks_too : (words : List (String Global)) (a b : CommandTask) → AsksFor words a → word_of b ≡ word_of a → AsksFor words b
asks_too words a b (first, here, is) same = (first, here, is ∙ sym same)

-- ---- merge

-- one word, of which a test tells whether it is `merge`
pub one_word : (words : List (String Global)) (word : String Global) (text : List ℕ) (b : Bool) → 1 ≤ length words → length words < 2
    → word ≡ get_or words 0 word → text ≡ string_bytes word → b ≡ bytes_eq text (codes "merge") → IsTrue b ↔ AskForMerge words
one_word [] word text b some few first spelled tested = absurd (omega arith)
one_word (w ∷ []) word text b some few first spelled tested =
    let is = bytes_eq-Decides text (codes "merge") in
    let same : string_bytes w ≡ text = ap string_bytes (sym first) ∙ sym spelled in (
      λ true. ap (λ t. t ∷ []) (same ∙ is.0 (subst IsTrue tested true)),
      λ asked. let alone : string_bytes w ≡ codes "merge" = cc in subst IsTrue (sym tested) (is.1 (sym same ∙ alone)),
    )
one_word (v ∷ w ∷ ws) word text b some few first spelled tested = absurd (omega arith)
