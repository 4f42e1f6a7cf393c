-- One number more is written.
use Rattle.std.proofs.Common.{◌≡◌, ℕ, ◌+◌, ◌<◌, List, ◌++◌, length, get_or, take, ap, ◌∙◌, append_assoc}
use Rattle.std.proofs.lemmas.List.{take_more, flat_map_more}
use Rattle.std.specs.List.{flat_map}

pub one_more : {X : Type 0} (old pre : List ℕ) (f : X → List ℕ) (xs : List X) (i : ℕ) (d : X) (bytes new : List ℕ) → i < length xs
    → bytes ≡ old ++ (pre ++ flat_map f (take i xs))
    → new ≡ bytes ++ f (get_or xs i d) → new ≡ old ++ (pre ++ flat_map f (take (i + 1) xs))
one_more old pre f xs i d bytes new lt so_far written =
    rw (written, so_far, take_more xs i d lt)
    (append_assoc old (pre ++ flat_map f (take i xs)) (f (get_or xs i d))
    ∙ ap (λ (l : List ℕ). old ++ l) (flat_map_more f pre (take i xs) (get_or xs i d)))
