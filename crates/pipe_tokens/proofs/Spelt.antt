-- One token more is spelled.
use Rattle.std.proofs.Common.{◌≡◌, ℕ, ◌+◌, ◌<◌, ◌≤◌, Bool, true, false, cond}
use Rattle.std.proofs.Common.{List, [], ◌∷◌, ◌++◌, length, get_or, drop, sym, ap, ◌∙◌, append_assoc}
use Rattle.std.specs.Prelude.{◌&&◌}
use Rattle.std.proofs.lemmas.Bool.{and_from, and_left, and_right, cond-true, cond-false}
use Rattle.std.proofs.lemmas.List.{append-nil, drop_more, drop_all}
use Rattle.pipe_tokens.specs.declared.token.Token.{Token}
use Rattle.pipe_tokens.specs.Spelling.{bytes_of, begins_word, blank_behind, spelling}

-- a blank, where both are words
abbrev pub blank : Bool → Bool → List ℕ
blank behind_word is_word = cond (behind_word && is_word) (32 ∷ []) []

pub with_blank : (behind_word is_word : Bool) (before : List ℕ) → behind_word ≡ true → is_word ≡ true
    → before ++ 32 ∷ [] ≡ before ++ blank behind_word is_word
with_blank behind_word is_word before b w =
    sym (ap (λ (x : List ℕ). before ++ x) (cond-true (behind_word && is_word) (32 ∷ []) [] (and_from behind_word is_word b w)))

pub first_no_blank : (behind_word is_word : Bool) (before : List ℕ) → behind_word ≡ false → before ≡ before ++ blank behind_word is_word
first_no_blank behind_word is_word before b =
    sym (ap (λ (x : List ℕ). before ++ x) (cond-false (behind_word && is_word) (32 ∷ []) [] (and_left behind_word is_word b))
    ∙ append-nil before)

pub next_no_blank : (behind_word is_word : Bool) (before : List ℕ) → is_word ≡ false → before ≡ before ++ blank behind_word is_word
next_no_blank behind_word is_word before w =
    sym (ap (λ (x : List ℕ). before ++ x) (cond-false (behind_word && is_word) (32 ∷ []) [] (and_right behind_word is_word w))
    ∙ append-nil before)

-- what is left to spell
abbrev pub left : Bool → List Token → List ℕ
left behind_word ts = blank_behind behind_word ts ++ spelling ts

pub goes_on : (ts : List Token) (i : ℕ) (t : Token) (before middle after total : List ℕ) (behind_word is_word : Bool) → i < length ts
    → t ≡ get_or ts i t → is_word ≡ begins_word t
    → middle ≡ before ++ blank behind_word is_word → after ≡ middle ++ bytes_of t
    → before ++ left behind_word (drop i ts) ≡ total → after ++ left is_word (drop (i + 1) ts) ≡ total
unfolding spelling
goes_on ts i t before middle after total behind_word is_word lt at word spaced bytes so_far =
    let others = drop (i + 1) ts in
    let next : drop i ts ≡ t ∷ others = drop_more ts i t lt ∙ ap (λ (u : Token). u ∷ others) (sym at) in
    let gap = blank behind_word (begins_word t) in
    let parts : after ≡ (before ++ gap) ++ bytes_of t =
    bytes ∙ ap (λ (x : List ℕ). x ++ bytes_of t) (spaced ∙ ap (λ (w : Bool). before ++ blank behind_word w) word) in
    ap (λ (w : Bool). after ++ left w others) word
    ∙ ap (λ (x : List ℕ). x ++ left (begins_word t) others) parts
    ∙ append_assoc (before ++ gap) (bytes_of t) (left (begins_word t) others)
    ∙ append_assoc before gap (bytes_of t ++ left (begins_word t) others)
    ∙ ap (λ (us : List Token). before ++ left behind_word us) (sym next)
    ∙ so_far

pub is_done : (ts : List Token) (i : ℕ) (before total : List ℕ) (behind_word : Bool) → length ts ≤ i
    → before ++ left behind_word (drop i ts) ≡ total → before ≡ total
unfolding spelling
is_done ts i before total behind_word le so_far =
    sym (append-nil before) ∙ ap (λ (us : List Token). before ++ left behind_word us) (sym (drop_all i ts le)) ∙ so_far
