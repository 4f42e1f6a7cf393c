-- What texts begin with, lists with separators, and readers by a key of the token ahead.
use Rattle.std.proofs.Common.{Bool, true, false, ◌≡◌, ℕ, ◌<◌, List, [], ◌∷◌, ◌++◌, length, Option, Some, sym, ap, subst}
use Rattle.std.proofs.Common.{length-append, arith, inl, inr}
use Rattle.pipe_tokens.specs.declared.token.Token.{Token}
use Rattle.pipe_tokens.specs.declared.token.Token.TheVariants as token
use Rattle.pipe_tree.specs.declared.limits.Role.{Role}
use Rattle.pipe_tree.specs.declared.limits.Role.TheVariants as roles
use Rattle.pipe_tree.specs.Tokens.{head}
use Rattle.pipe_tree.specs.Limits.{Tagged}
use Rattle.pipe_tree.specs.Grammar as g
use Rattle.pipe_tree.specs.Grammar.{Rule, Then, Gives, Takes, Means, Some_of, many, ◌or◌}
use Rattle.pipe_tree.specs.Reading.{At, Reader, ◌>>=◌, gives, by_key, choose, while, next_behind, separated, expect}
use Rattle.pipe_tree.proofs.Laws.{on, on-append, state, Sound, Follow, Any, Ends, All, Parses, Starts, retarget, parses_then}
use Rattle.pipe_tree.proofs.Laws.{parses_next, parses_gives, token_rule}
use Rattle.pipe_tree.proofs.LoopLaws.{Turns, loop_unroll, parses_loop, loop_follows}

-- ---- what texts begin with

abbrev pub Passing : (Option Token → Bool) → Follow
Passing test h = test h ≡ true

abbrev pub Failing : (Option Token → Bool) → Follow
Failing test h = test h ≡ false

pub starts_then : {X Y : Type 0} (R : Rule X) (Q : X → Rule Y) (S T F : Follow) → Starts R S F → ((x : X) → Starts (Q x) T S)
    → Starts (Then R Q) T F
starts_then R Q S T F first second text rest y p t =
    subst (λ (l : List Tagged). F (head (on l rest))) (sym p.parts)
    (subst (λ (l : List Token). F (head l)) (sym (on-append p.front p.back rest))
    (first p.front (on p.back rest) p.value p.first (second p.value p.back rest y p.second t)))

-- where the first text is not empty
pub starts_by : {X Y : Type 0} (R : Rule X) (Q : X → Rule Y) (T F : Follow) → Starts R Any F → Starts (Then R Q) T F
starts_by R Q T F first = starts_then R Q Any T F first (λ x text rest y p t. tt)

pub starts_token : (t : Token) (role : Role) (S F : Follow) → F (Some t) → Starts (token_rule t role) S F
starts_token t role S F f text rest x p s = subst (λ (l : List Tagged). F (head (on l rest))) (sym p.text_is) f

-- a rule that begins with one token
pub starts_with : {Y : Type 0} (t : Token) (role : Role) (Q : Unit {0} → Rule Y) (S F : Follow) → F (Some t)
    → Starts (Then (token_rule t role) Q) S F
starts_with t role Q S F f = starts_by (token_rule t role) Q S F (starts_token t role Any F f)

pub starts_means : {X : Type 0} (meaning : Option Token → Option X) (role : Role) (S F : Follow)
    → ((t : Token) (x : X) → meaning (Some t) ≡ Some x → F (Some t)) → Starts (Means meaning role) S F
starts_means meaning role S F f text rest x p s = subst (λ (l : List Tagged). F (head (on l rest))) (sym p.text_is) (f p.token x p.means)

pub starts_int : (role : Role) (S F : Follow) → ((k : ℕ) → F (Some (token.Int k))) → F (Some token.TooBig) → Starts (g.int role) S F
starts_int role S F f b text rest x (inl p) s = subst (λ (l : List Tagged). F (head (on l rest))) (sym p.it.text_is) (f p.which)
starts_int role S F f b text rest x (inr p) s = subst (λ (l : List Tagged). F (head (on l rest))) (sym p.text_is) b

pub starts_gives : {X : Type 0} (x : X) (S F : Follow) → ((h : Option Token) → S h → F h) → Starts (Gives x) S F
starts_gives x S F f text rest y p s = subst (λ (l : List Tagged). F (head (on l rest))) (sym p.empty) (f (head rest) s)

pub starts_or : {X : Type 0} (R Q : Rule X) (S F : Follow) → Starts R S F → Starts Q S F → Starts (R or Q) S F
starts_or R Q S F p q text rest x (inl h) s = p text rest x h s
starts_or R Q S F p q text rest x (inr h) s = q text rest x h s

-- behind what goes on where a test passes
abbrev pub Behind : (Option Token → Bool) → Follow → Follow
Behind test S h = (test h ≡ false) × S h

-- ---- texts that are not empty

pub long_front : {X Y : Type 0} (R : Rule X) (Q : X → Rule Y) → ((text : List Tagged) (x : X) → R text x → 0 < length text)
    → (text : List Tagged) (y : Y) → Then R Q text y → 0 < length text
long_front R Q long text y p = omega (arith, ap length p.parts, length-append p.front p.back, long p.front p.value p.first)

pub long_token : (t : Token) (role : Role) (text : List Tagged) (x : Unit {0}) → token_rule t role text x → 0 < length text
long_token t role text x p = omega (arith, ap length p.text_is)

pub long_means : {X : Type 0} (meaning : Option Token → Option X) (role : Role) (text : List Tagged) (x : X) → Means meaning role text x
    → 0 < length text
long_means meaning role text x p = omega (arith, ap length p.text_is)

-- ---- lists with separators

-- behind an element stands no separator that is not one
module _ {X : Type 0} (n : ℕ) (test : Option Token → Bool) (t : Token) (role : Role) (passes : test (Some t) ≡ true) (one : Reader X)
    (S : Follow) (follows : S (Some t)) (R : Rule X)
    (separates : Parses n (expect test roles.Plain) Any (λ _. token_rule t roles.Plain)) (reads : Parses n one S (λ _. R)) where
  abbrev E : Follow
  E = Behind test S

  turn : (xs : List X) → Parses n (next_behind (expect test roles.Plain) one xs) S (λ _. g.next_behind (token_rule t roles.Plain) R xs)
  turn xs =
      parses_next n _ _ S _ _ separates (λ _.
      parses_then n one _ S S _ _ reads (λ x. parses_gives n (xs ++ x ∷ []) S) (λ m x. starts_gives _ S S (λ h s. s)))

  separated_turns : Turns n (λ _. test) (next_behind (expect test roles.Plain) one) S E
      (λ xs _. g.next_behind (token_rule t roles.Plain) R xs)
  separated_turns = record {
    each = turn;
    some = λ m a b text p. long_front (token_rule t roles.Plain) _ (long_token t roles.Plain) text b p;
    begins = λ m a b text rest p s. starts_with t roles.Plain _ S (λ h. test h ≡ true) passes text rest b p s;
    follows = λ m a b text rest p s. starts_with t roles.Plain _ S S follows text rest b p s;
    stops = λ a h e. e.0;
    ends = λ h e. e.1;
  }

  pub parses_separated : Parses n (separated test one) E (λ _. g.separated (token_rule t roles.Plain) R)
  parses_separated =
      parses_then n one _ S E _ _ reads (λ x. parses_loop n _ _ S E _ separated_turns (x ∷ []))
      (λ m x. loop_follows n _ _ S E _ separated_turns m (x ∷ []))

  pub separated_unroll : (xs : List X) (s : At)
      → while test (next_behind (expect test roles.Plain) one) xs s
      ≡ choose test (next_behind (expect test roles.Plain) one xs >>= while test (next_behind (expect test roles.Plain) one)) (gives xs)
      s
  separated_unroll xs s = loop_unroll n _ _ S E _ separated_turns xs s

-- ---- by a key of the token ahead

module _ {K X : Type 0} (key : Option Token → K) (f : K → Reader X) where
  pub key_sound : (R W : Rule X) (s : At) → Sound (f (key (head s.rest))) R W s (f (key (head s.rest)) s)
      → Sound (by_key key f) R W s (by_key key f s)
  key_sound R W s p =
      retarget (f (key (head s.rest))) (by_key key f) R W s (f (key (head s.rest)) s) (λ s' e. ap (λ (h : Option Token). f (key h) s') e) p

  pub key_all : (deep : Type 0) (S : Follow) (R : Rule X) (k : K) → Starts R S (λ h. key h ≡ k) → All deep (f k) S R
      → All deep (by_key key f) S R
  key_all deep S R k starts p = record {
    read_all = λ c text rest x h s.
        subst (λ (q : K). Ends deep c x text rest (f q (state c (on text rest)))) (sym (starts text rest x h s))
        (p.read_all c text rest x h s);
  }
