-- The longest front of a text whose bytes pass a test.
use Rattle.std.proofs.Common.{◌≡◌, ℕ, suc, ◌+◌, ◌<◌, Bool, true, false, List, [], ◌∷◌, ◌++◌, length, take, drop, refl, ap, ◌∙◌, arith}
use Rattle.std.specs.List.{prefix_len, AllPass, list_all}
use Rattle.std.proofs.lemmas.List.{length-take, get_or-take}
use Rattle.std.proofs.lemmas.List.Sums.{prefix_len_passes}
use Rattle.std.proofs.lemmas.Bool.{and_parts, and_from, cond-true, cond-false, cond_both}

pub AllPass-run : (p : ℕ → Bool) (text : List ℕ) (n : ℕ) → n ≡ prefix_len p text → AllPass p (take n text)
AllPass-run p text n e k d lt =
    let below : k < n = omega (arith, length-take n text) in
    ap p (get_or-take n text k d below) ∙ prefix_len_passes p text k d (omega arith)

-- bytes that all pass, and none behind them that does
pub run_is : (p : ℕ → Bool) (bytes rest : List ℕ) → list_all p bytes ≡ true → prefix_len p rest ≡ 0
    → prefix_len p (bytes ++ rest) ≡ length bytes
run_is p [] rest all stops = stops
run_is p (b ∷ bytes) rest all stops =
    let parts = and_parts (p b) (list_all p bytes) all in
    cond-true (p b) (1 + prefix_len p (bytes ++ rest)) 0 parts.0 ∙ ap (λ (n : ℕ). 1 + n) (run_is p bytes rest parts.1 stops) ∙ omega arith

-- nothing behind the run passes
pub run_stops : (p : ℕ → Bool) (text : List ℕ) → prefix_len p (drop (prefix_len p text) text) ≡ 0
run_stops p [] = refl
run_stops p (b ∷ text) =
    cond_both (p b) (1 + prefix_len p text) 0
    (λ (n : ℕ). (p b ≡ true → n ≡ suc (prefix_len p text)) → (p b ≡ false → n ≡ 0) → prefix_len p (drop n (b ∷ text)) ≡ 0)
    (λ passes is _. ap (λ (n : ℕ). prefix_len p (drop n (b ∷ text))) (is passes) ∙ run_stops p text)
    (λ fails _ _. cond-false (p b) (1 + prefix_len p text) 0 fails)
    (λ passes. cond-true (p b) (1 + prefix_len p text) 0 passes ∙ omega arith)
    (λ fails. cond-false (p b) (1 + prefix_len p text) 0 fails)

-- the run passes
pub run_passes : (p : ℕ → Bool) (text : List ℕ) → list_all p (take (prefix_len p text) text) ≡ true
run_passes p [] = refl
run_passes p (b ∷ text) =
    cond_both (p b) (1 + prefix_len p text) 0
    (λ (n : ℕ). (p b ≡ true → n ≡ suc (prefix_len p text)) → list_all p (take n (b ∷ text)) ≡ true)
    (λ passes is. ap (λ (n : ℕ). list_all p (take n (b ∷ text))) (is passes) ∙ and_from (p b) _ passes (run_passes p text))
    (λ fails _. refl)
    (λ passes. cond-true (p b) (1 + prefix_len p text) 0 passes ∙ omega arith)

-- a run of a narrower test is within one of a wider test
pub run_within : (p q : ℕ → Bool) (bytes : List ℕ) → ((b : ℕ) → p b ≡ true → q b ≡ true) → list_all p bytes ≡ true → list_all q bytes ≡ true
run_within p q [] wider all = refl
run_within p q (b ∷ bytes) wider all =
    let parts = and_parts (p b) (list_all p bytes) all in
    and_from (q b) (list_all q bytes) (wider b parts.0) (run_within p q bytes wider parts.1)

pub narrower_stops : (p q : ℕ → Bool) (rest : List ℕ) → ((b : ℕ) → p b ≡ true → q b ≡ true) → prefix_len q rest ≡ 0 → prefix_len p rest ≡ 0
narrower_stops p q [] wider stops = refl
narrower_stops p q (b ∷ rest) wider stops =
    cond_both (p b) (1 + prefix_len p rest) 0 (λ (n : ℕ). n ≡ 0)
    (λ passes. let more = cond-true (q b) (1 + prefix_len q rest) 0 (wider b passes) in absurd (omega arith))
    (λ fails. refl)
