-- Affine sums, spans and variables are read as the grammar says.
use Rattle.std.proofs.Common.{Bool, true, false, ◌≡◌, ℕ, List, [], Some, None, refl}
use Rattle.pipe_tokens.specs.declared.token.Token.{Token}
use Rattle.pipe_tokens.specs.declared.token.Token.TheVariants as token
use Rattle.pipe_tokens.specs.declared.token.Punct.TheVariants as marks
use Rattle.pipe_tokens.specs.declared.token.Keyword.TheVariants as words
use Rattle.pipe_tree.specs.declared.limits.Role.TheVariants as roles
use Rattle.pipe_tree.specs.declared.tree.AffineTerm.{AffineTerm}
use Rattle.pipe_tree.specs.Operators.{name_at, sign_at}
use Rattle.pipe_tree.specs.Lookahead.{is_mark_at, is_number_at}
use Rattle.pipe_tree.specs.Grammar as g
use Rattle.pipe_tree.specs.Reading.{At, ◌>>=◌, gives, choose, while, minus, factor_end, scaled_name, term, is_sign_at, next_term}
use Rattle.pipe_tree.specs.Reading.{affine, span, a_variable}
use Rattle.pipe_tree.proofs.Laws.{Follow, Any, Parses, Starts, parses_then, parses_next, parses_gives, parses_choose}
use Rattle.pipe_tree.proofs.TokenLaws.{parses_mark, parses_word, parses_name, parses_sign, parses_int}
use Rattle.pipe_tree.proofs.LoopLaws.{Turns, loop_unroll, parses_loop, loop_follows}
use Rattle.pipe_tree.proofs.StartLaws.{Passing, Failing, starts_then, starts_by, starts_with, starts_means, starts_int}
use Rattle.pipe_tree.proofs.StartLaws.{starts_gives, starts_or, long_front, long_means}

-- ---- what may follow

abbrev pub NoMinus : Follow
NoMinus h = is_mark_at marks.Minus h ≡ false

abbrev pub NoStar : Follow
NoStar h = is_mark_at marks.Star h ≡ false

-- behind an affine sum
abbrev pub NoTerm : Follow
NoTerm h = (is_mark_at marks.Star h ≡ false) × (is_sign_at h ≡ false)

pub name_is_no_number : (t : Token) (x : List ℕ) → name_at (Some t) ≡ Some x → is_number_at (Some t) ≡ false
name_is_no_number (token.Name y) x e = refl
name_is_no_number t x e = absurd cc

pub name_is_no_minus : (t : Token) (x : List ℕ) → name_at (Some t) ≡ Some x → NoMinus (Some t)
name_is_no_minus (token.Name y) x e = refl
name_is_no_minus t x e = absurd cc

sign_is_no_star : (t : Token) (x : Bool) → sign_at (Some t) ≡ Some x → NoStar (Some t)
sign_is_no_star (token.Punct marks.Plus) x e = refl
sign_is_no_star (token.Punct marks.Minus) x e = refl
sign_is_no_star t x e = absurd cc

pub sign_is_sign : (t : Token) (x : Bool) → sign_at (Some t) ≡ Some x → is_sign_at (Some t) ≡ true
sign_is_sign (token.Punct marks.Plus) x e = refl
sign_is_sign (token.Punct marks.Minus) x e = refl
sign_is_sign t x e = absurd cc

module _ (n : ℕ) where
  pub parses_minus : Parses n minus NoMinus (λ _. g.minus)
  parses_minus =
      parses_choose n (is_mark_at marks.Minus) _ _ NoMinus _ _
      (parses_next n _ _ NoMinus _ _ (parses_mark n marks.Minus roles.Plain) (λ _. parses_gives n true NoMinus))
      (parses_gives n false NoMinus)
      (λ m. starts_with (token.Punct marks.Minus) roles.Plain _ NoMinus (Passing (is_mark_at marks.Minus)) refl)
      (λ m. starts_gives false NoMinus NoMinus (λ h s. s))

  parses_factor_end : (k : ℕ) → Parses n (factor_end k) NoStar (λ _. g.factor_end k)
  parses_factor_end k =
      parses_choose n (is_mark_at marks.Star) _ _ NoStar _ _
      (parses_next n _ _ NoStar _ _ (parses_mark n marks.Star roles.Plain) (λ _.
      parses_next n _ _ NoStar _ _ (parses_name n roles.Plain) (λ x. parses_gives n (k, Some x) NoStar)))
      (parses_gives n (k, None) NoStar)
      (λ m. starts_with (token.Punct marks.Star) roles.Plain _ NoStar (Passing (is_mark_at marks.Star)) refl)
      (λ m. starts_gives (k, None) NoStar NoStar (λ h s. s))

  pub parses_scaled_name : Parses n scaled_name NoStar (λ _. g.scaled_name)
  unfolding scaled_name
  parses_scaled_name =
      parses_choose n is_number_at _ _ NoStar _ _
      (parses_next n _ _ NoStar _ _ (parses_int roles.Plain n) (λ k. parses_factor_end k))
      (parses_next n _ _ NoStar _ _ (parses_name n roles.Plain) (λ x. parses_gives n (1, Some x) NoStar))
      (λ m. starts_by (g.int roles.Plain) _ NoStar (Passing is_number_at)
      (starts_int roles.Plain Any (Passing is_number_at) (λ k. refl) refl))
      (λ m. starts_by (g.name roles.Plain) _ NoStar (Failing is_number_at)
      (starts_means name_at roles.Plain Any (Failing is_number_at) name_is_no_number))

  parses_term : (negative : Bool) (terms : List AffineTerm) → Parses n (term negative terms) NoStar (λ _. g.term negative terms)
  parses_term negative terms =
      parses_then n scaled_name _ NoStar NoStar _ _ parses_scaled_name (λ f. parses_gives n _ NoStar)
      (λ m f. starts_gives _ NoStar NoStar (λ h s. s))

  -- a term begins with a number or a name
  term_starts : (negative : Bool) (terms : List AffineTerm) → Starts (g.term negative terms) NoStar NoMinus
  term_starts negative terms =
      starts_by g.scaled_name _ NoStar NoMinus
      (starts_or _ _ Any NoMinus
      (starts_by (g.int roles.Plain) _ Any NoMinus (starts_int roles.Plain Any NoMinus (λ k. refl) refl))
      (starts_by (g.name roles.Plain) _ Any NoMinus (starts_means name_at roles.Plain Any NoMinus name_is_no_minus)))

  parses_next_term : (terms : List AffineTerm) → Parses n (next_term terms) NoStar (λ _. g.next_term terms)
  parses_next_term terms = parses_next n _ _ NoStar _ _ (parses_sign n roles.Plain) (λ negative. parses_term negative terms)

  affine_turns : Turns n (λ _. is_sign_at) next_term NoStar NoTerm (λ terms _. g.next_term terms)
  affine_turns = record {
    each = parses_next_term;
    some = λ m a b text p. long_front (g.sign roles.Plain) _ (long_means sign_at roles.Plain) text b p;
    begins =
        λ m a b text rest p s. starts_by (g.sign roles.Plain) _ NoStar (Passing is_sign_at)
        (starts_means sign_at roles.Plain Any (Passing is_sign_at) sign_is_sign) text rest b p s;
    follows =
        λ m a b text rest p s. starts_by (g.sign roles.Plain) _ NoStar NoStar (starts_means sign_at roles.Plain Any NoStar sign_is_no_star)
        text rest b p s;
    stops = λ a h e. e.1;
    ends = λ h e. e.0;
  }

  pub affine_unroll : (terms : List AffineTerm) (s : At)
      → while is_sign_at next_term terms s ≡ choose is_sign_at (next_term terms >>= while is_sign_at next_term) (gives terms) s
  affine_unroll terms s = loop_unroll n _ _ NoStar NoTerm _ affine_turns terms s

  pub parses_affine : Parses n affine NoTerm (λ _. g.affine)
  unfolding affine g.affine
  parses_affine =
      parses_then n minus _ NoMinus NoTerm _ _ parses_minus
      (λ negative. parses_then n (term negative []) _ NoStar NoTerm _ _ (parses_term negative [])
      (λ terms. parses_loop n _ _ NoStar NoTerm _ affine_turns terms)
      (λ m terms. loop_follows n _ _ NoStar NoTerm _ affine_turns m terms))
      (λ m negative. starts_then (g.term negative []) _ NoStar NoTerm NoMinus (term_starts negative [])
      (λ terms. loop_follows n _ _ NoStar NoTerm _ affine_turns m terms))

  pub parses_span : Parses n span Any (λ _. g.span)
  unfolding span g.span
  parses_span =
      parses_next n _ _ Any _ _ (parses_mark n marks.OpenSquare roles.Plain) (λ _.
      parses_then n affine _ NoTerm Any _ _ parses_affine (λ first.
      parses_next n _ _ Any _ _ (parses_mark n marks.DotDot roles.Plain) (λ _.
      parses_then n affine _ NoTerm Any _ _ parses_affine (λ last.
      parses_next n _ _ Any _ _ (parses_mark n marks.CloseSquare roles.Plain) (λ _.
      parses_gives n _ Any))
      (λ m last. starts_with (token.Punct marks.CloseSquare) roles.Plain _ Any NoTerm (refl, refl))))
      (λ m first. starts_with (token.Punct marks.DotDot) roles.Plain _ Any NoTerm (refl, refl)))

  pub parses_variable : Parses n a_variable Any (λ _. g.a_variable)
  unfolding a_variable g.a_variable
  parses_variable =
      parses_next n _ _ Any _ _ (parses_name n roles.Plain) (λ x.
      parses_next n _ _ Any _ _ (parses_word n words.In roles.Plain) (λ _.
      parses_next n _ _ Any _ _ parses_span (λ s.
      parses_gives n _ Any)))
