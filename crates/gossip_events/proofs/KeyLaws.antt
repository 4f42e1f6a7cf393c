-- The keys of tiles, one after the other.
use Rattle.std.proofs.Common.{◌≡◌, ℕ, zero, suc, ◌+◌, ◌<◌, ◌++◌, List, [], ◌∷◌, length, get_or, take, sym, subst, arith}
use Rattle.std.proofs.lemmas.List.{take_more}
use Rattle.catalog.specs.Entries.{Entry}
use Rattle.identity.specs.declared.key.Key.{Key}
use Rattle.gossip_events.specs.Scripts.{AreKeysOf, IsKeyOf}
use Rattle.gossip_events.specs.declared.places.TileName.{TileName}

one_more : (jobs : List Entry) (places : List TileName) (keys : List Key) (place : TileName) (key : Key) → AreKeysOf jobs places keys
    → IsKeyOf jobs place key → AreKeysOf jobs (places ++ place ∷ []) (keys ++ key ∷ [])
one_more jobs [] [] place key are is = (is, tt)
one_more jobs [] (k ∷ keys) place key are is = absurd are
one_more jobs (p ∷ places) [] place key are is = absurd are
one_more jobs (p ∷ places) (k ∷ keys) place key are is = (are.0, one_more jobs places keys place key are.1 is)

-- the next tile has a key
pub more_keys : (jobs : List Entry) (places : List TileName) (i : ℕ) (d : TileName) (keys new : List Key) (key : Key) → i < length places
    → AreKeysOf jobs (take i places) keys → IsKeyOf jobs (get_or places i d) key → new ≡ keys ++ key ∷ []
    → AreKeysOf jobs (take (i + 1) places) new
more_keys jobs places i d keys new key within are is grown =
    subst (λ (ks : List Key). AreKeysOf jobs (take (i + 1) places) ks) (sym grown)
    (subst (λ (ps : List TileName). AreKeysOf jobs ps (keys ++ key ∷ [])) (sym (take_more places i d within))
    (one_more jobs (take i places) keys (get_or places i d) key are is))

-- where a tile has none, the tiles have no keys
pub no_keys : (jobs : List Entry) (places : List TileName) (i : ℕ) (d : TileName) → i < length places
    → ((key : Key) → ¬ IsKeyOf jobs (get_or places i d) key) → (keys : List Key) → ¬ AreKeysOf jobs places keys
no_keys jobs [] i d within none keys are = absurd (omega (arith, within))
no_keys jobs (p ∷ ps) i d within none [] are = are
no_keys jobs (p ∷ ps) zero d within none (k ∷ ks) are = none k are.0
no_keys jobs (p ∷ ps) (suc i) d within none (k ∷ ks) are = no_keys jobs ps i d (omega (arith, within)) none ks are.1
