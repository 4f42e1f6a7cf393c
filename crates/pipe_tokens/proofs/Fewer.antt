-- The fewer tokens, the shorter their spelling.
use Rattle.std.proofs.Common.{◌≡◌, ℕ, ◌+◌, ◌≤◌, Bool, false, List, [], ◌∷◌, length, ap, ◌∙◌, arith}
use Rattle.std.specs.List.{AllByRecursion}
use Rattle.std.proofs.lemmas.List.{length-append}
use Rattle.pipe_tokens.specs.declared.token.Token.{Token}
use Rattle.pipe_tokens.specs.Spelling.{bytes_of, begins_word, blank_behind, spelling, HasSpelling}
use Rattle.pipe_tokens.specs.Subsequence.{IsSubsequence, nothing, keeps, leaves_out}
use Rattle.pipe_tokens.proofs.Respelled.{bytes_some}
use Rattle.pipe_tokens.proofs.Shortest.{cost, blank_short}

cost-cons : (behind_word : Bool) (t : Token) (ts : List Token)
    → cost behind_word (t ∷ ts) ≡ length (blank_behind behind_word (t ∷ [])) + (length (bytes_of t) + cost (begins_word t) ts)
unfolding spelling
cost-cons behind_word t ts =
    let whole : length (spelling (t ∷ ts)) ≡ length (bytes_of t) + cost (begins_word t) ts =
    length-append (bytes_of t) _
    ∙ ap (λ (n : ℕ). length (bytes_of t) + n) (length-append (blank_behind (begins_word t) ts) (spelling ts)) in
    ap (λ (n : ℕ). length (blank_behind behind_word (t ∷ [])) + n) whole

-- behind a word or not, a blank is all that differs
cost_near : (b c : Bool) (ts : List Token) → cost b ts ≤ cost c ts + 1
cost_near b c ts = omega (arith, blank_short b ts)

fewer_cost : (few many : List Token) → IsSubsequence few many → AllByRecursion HasSpelling many → (behind_word : Bool)
    → cost behind_word few ≤ cost behind_word many
fewer_cost _ _ nothing h behind_word = omega arith
fewer_cost _ _ (keeps t few many sub) h behind_word =
    omega (arith, cost-cons behind_word t few, cost-cons behind_word t many, fewer_cost few many sub h.1 (begins_word t))
fewer_cost _ _ (leaves_out t few many sub) h behind_word =
    omega (
      arith,
      cost-cons behind_word t many,
      bytes_some t h.0,
      cost_near behind_word (begins_word t) few,
      fewer_cost few many sub h.1 (begins_word t),
    )

pub fewer_is_shorter : (few many : List Token) → IsSubsequence few many → AllByRecursion HasSpelling many
    → length (spelling few) ≤ length (spelling many)
fewer_is_shorter few many sub h = omega (arith, fewer_cost few many sub h false, no_blank few, no_blank many)
  where
    no_blank : (ts : List Token) → length (blank_behind false ts) ≤ 0
    no_blank [] = omega arith
    no_blank (t ∷ ts) = omega arith
