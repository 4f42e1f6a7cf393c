-- Words that name tiles, one after the other.
use Rattle.std.proofs.Common.{◌≡◌, ◌∙◌, ℕ, zero, suc, ◌+◌, ◌<◌, ◌++◌, List, [], ◌∷◌, Bor, length, get_or, map, take, sym, ap, subst, arith}
use Rattle.std.proofs.lemmas.List.{take_more, map-append}
use Rattle.gossip_events.specs.Scripts.{NamePlace, SpellPlaces, SpellsNumber, SpellsPlace}
use Rattle.gossip_events.specs.declared.places.TileName.{TileName}

-- four parts of which the last is no number name no tile
pub no_column : (parts : List (Bor (List ℕ))) (d : Bor (List ℕ)) (place : TileName) → length parts ≡ 4
    → ((n : ℕ) → ¬ SpellsNumber (get_or parts 3 d).now n) → ¬ NamePlace (map (λ p. p.now) parts) place
no_column [] d place four none named = named
no_column (a ∷ []) d place four none named = named
no_column (a ∷ b ∷ []) d place four none named = named
no_column (a ∷ b ∷ c ∷ []) d place four none named = named
no_column (a ∷ b ∷ c ∷ e ∷ []) d place four none named = none place.col named.3
no_column (a ∷ b ∷ c ∷ e ∷ f ∷ parts) d place four none named = named

one_more : (words : List (List ℕ)) (places : List TileName) (word : List ℕ) (place : TileName) → SpellPlaces words places
    → SpellsPlace word place → SpellPlaces (words ++ word ∷ []) (places ++ place ∷ [])
one_more [] [] word place are is = (is, tt)
one_more [] (p ∷ places) word place are is = absurd are
one_more (w ∷ words) [] word place are is = absurd are
one_more (w ∷ words) (p ∷ places) word place are is = (are.0, one_more words places word place are.1 is)

abbrev texts : List (Bor (List ℕ)) → List (List ℕ)
texts words = map (λ w. w.now) words

-- the next word names one more
pub more_places : (words : List (Bor (List ℕ))) (i : ℕ) (d : Bor (List ℕ)) (places new : List TileName) (place : TileName) → i < length words
    → SpellPlaces (texts (take i words)) places → SpellsPlace (get_or words i d).now place → new ≡ places ++ place ∷ []
    → SpellPlaces (texts (take (i + 1) words)) new
more_places words i d places new place within are is grown =
    let front = take_more words i d within in
    subst (λ (ps : List TileName). SpellPlaces (texts (take (i + 1) words)) ps) (sym grown)
    (subst (λ (ws : List (List ℕ)). SpellPlaces ws (places ++ place ∷ []))
    (sym (ap texts front ∙ map-append (λ w. w.now) (take i words) (get_or words i d ∷ [])))
    (one_more (texts (take i words)) places (get_or words i d).now place are is))

-- where a word names none, the words name no tiles
pub no_places : (words : List (Bor (List ℕ))) (i : ℕ) (d : Bor (List ℕ)) → i < length words
    → ((place : TileName) → ¬ SpellsPlace (get_or words i d).now place)
    → (places : List TileName) → ¬ SpellPlaces (texts words) places
no_places [] i d within none places are = absurd (omega (arith, within))
no_places (w ∷ ws) i d within none [] are = are
no_places (w ∷ ws) zero d within none (p ∷ ps) are = none p are.0
no_places (w ∷ ws) (suc i) d within none (p ∷ ps) are = no_places ws i d (omega (arith, within)) none ps are.1
