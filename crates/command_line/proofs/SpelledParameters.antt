-- Words that spell parameters, one after the other.
use Rattle.std.proofs.Common.{◌≡◌, ◌∙◌, ℕ, ℤ, zero, suc, ◌+◌, ◌<◌, ◌++◌, List, [], ◌∷◌, Bor, length, get_or, map, take, sym, ap}
use Rattle.std.proofs.Common.{subst, arith, add-one}
use Rattle.std.specs.Prelude.{string_bytes}
use Rattle.std.proofs.Math.Seq.{take-suc}
use Rattle.std.proofs.lemmas.List.{map-append}
use Rattle.clap.specs.Words.{Text}
use Rattle.command_line.specs.Asking.{AreParameters, Given}
use Rattle.command_line.specs.Values.{SpellsParameter}

one_behind : (words : List Text) (given : List Given) (word : Text) (g : Given) → AreParameters words given
    → SpellsParameter word (string_bytes g.0) g.1
    → AreParameters (words ++ word ∷ []) (given ++ g ∷ [])
one_behind [] [] word (name, value) are is = (is, tt)
one_behind [] ((n, v) ∷ hs) word g are is = absurd are
one_behind (w ∷ ws) [] word g are is = absurd are
one_behind (w ∷ ws) ((n, v) ∷ hs) word g are is = (are.0, one_behind ws hs word g are.1 is)

abbrev texts : List (Bor Text) → List Text
texts = map (λ w. w.now)

-- the next word spells one more
pub more_parameters : (words : List (Bor Text)) (i : ℕ) (d : Bor Text) (given new : List Given) (g : Given) (name : Text) → i < length words
    → AreParameters (texts (take i words)) given → SpellsParameter (get_or words i d).now name g.1 → name ≡ string_bytes g.0
    → new ≡ given ++ g ∷ []
    → AreParameters (texts (take (i + 1) words)) new
more_parameters words i d given new g name within are spelled named grown =
    let is = subst (λ (n : Text). SpellsParameter (get_or words i d).now n g.1) named spelled in
    let front : take (i + 1) words ≡ take i words ++ get_or words i d ∷ [] =
    ap (λ n. take n words) (add-one i) ∙ take-suc words i d within in
    let behind = one_behind (texts (take i words)) given (get_or words i d).now g are is in
    subst (λ (gs : List Given). AreParameters (texts (take (i + 1) words)) gs) (sym grown)
    (subst (λ (ws : List Text). AreParameters ws (given ++ g ∷ []))
    (sym (ap texts front ∙ map-append (λ w. w.now) (take i words) (get_or words i d ∷ []))) behind)

-- where a word spells none, the words are no parameters
pub no_parameters : (words : List (Bor Text)) (i : ℕ) (d : Bor Text) → i < length words
    → ((name : List ℕ) (z : ℤ) → ¬ SpellsParameter (get_or words i d).now name z)
    → (given : List Given) → ¬ AreParameters (texts words) given
no_parameters [] i d within none given are = absurd (omega arith)
no_parameters (w ∷ ws) i d within none [] are = are
no_parameters (w ∷ ws) zero d within none ((n, v) ∷ gs) are = none (string_bytes n) v are.0
no_parameters (w ∷ ws) (suc i) d within none ((n, v) ∷ gs) are = no_parameters ws i d (omega arith) none gs are.1
