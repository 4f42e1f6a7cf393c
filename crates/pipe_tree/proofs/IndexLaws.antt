-- Indices, reads, kernels and stencils are read as the grammar says.
use Rattle.std.proofs.Common.{Bool, false, ◌≡◌, ℕ, List, Some, refl}
use Rattle.std.specs.Prelude.{ℤ, pos}
use Rattle.pipe_tokens.specs.declared.token.Token.{Token}
use Rattle.pipe_tokens.specs.declared.token.Token.TheVariants as token
use Rattle.pipe_tokens.specs.declared.token.Punct.TheVariants as marks
use Rattle.pipe_tokens.specs.declared.token.Keyword.TheVariants as words
use Rattle.pipe_tree.specs.declared.limits.Role.TheVariants as roles
use Rattle.pipe_tree.specs.Operators.{name_at, sign_at}
use Rattle.pipe_tree.specs.Lookahead.{is_mark_at, is_number_at}
use Rattle.pipe_tree.specs.Grammar as g
use Rattle.pipe_tree.specs.Tree.{number}
use Rattle.pipe_tree.specs.Reading.{At, ◌>>=◌, gives, choose, while, next_behind, mark, minus, is_sign_at, scaled, addend}
use Rattle.pipe_tree.specs.Reading.{divisor, index_end, grouped_index, index, read_end}
use Rattle.pipe_tree.specs.Reading.{entry, row, kernel, a_stencil, literal_number}
use Rattle.pipe_tree.proofs.Laws.{Follow, Any, Parses, Starts, parses_then, parses_next, parses_gives, parses_any, parses_choose}
use Rattle.pipe_tree.proofs.TokenLaws.{parses_mark, parses_word, parses_name, parses_sign, parses_int}
use Rattle.pipe_tree.proofs.StartLaws.{Behind, Passing, Failing, starts_then, starts_by, starts_with, starts_means, starts_int}
use Rattle.pipe_tree.proofs.StartLaws.{starts_gives, starts_or, parses_separated, separated_unroll}
use Rattle.pipe_tree.proofs.AffineLaws.{NoMinus, name_is_no_number, sign_is_sign, parses_minus}

-- ---- what may follow

abbrev pub NoSign : Follow
NoSign h = is_sign_at h ≡ false

abbrev pub NoSlash : Follow
NoSlash h = is_mark_at marks.Slash h ≡ false

-- behind an index
abbrev pub NoIndexEnd : Follow
NoIndexEnd h = (is_mark_at marks.Slash h ≡ false) × (is_sign_at h ≡ false)

-- behind a name that no index is behind
abbrev pub NoRound : Follow
NoRound h = is_mark_at marks.OpenRound h ≡ false

-- behind a name that stands alone
abbrev pub NoOpen : Follow
NoOpen h = (is_mark_at marks.OpenRound h ≡ false) × (is_mark_at marks.OpenSquare h ≡ false)

name_is_no_round : (t : Token) (x : List ℕ) → name_at (Some t) ≡ Some x → NoRound (Some t)
name_is_no_round (token.Name y) x e = refl
name_is_no_round t x e = absurd cc

sign_is_no_slash : (t : Token) (x : Bool) → sign_at (Some t) ≡ Some x → NoSlash (Some t)
sign_is_no_slash (token.Punct marks.Plus) x e = refl
sign_is_no_slash (token.Punct marks.Minus) x e = refl
sign_is_no_slash t x e = absurd cc

module _ (n : ℕ) where
  pub parses_scaled : Parses n scaled Any (λ _. g.scaled)
  unfolding scaled
  parses_scaled =
      parses_choose n is_number_at _ _ Any _ _
      (parses_next n _ _ Any _ _ (parses_int roles.Plain n) (λ m.
      parses_next n _ _ Any _ _ (parses_mark n marks.Star roles.Plain) (λ _.
      parses_next n _ _ Any _ _ (parses_name n roles.Plain) (λ x. parses_gives n (m, x) Any))))
      (parses_next n _ _ Any _ _ (parses_name n roles.Plain) (λ x. parses_gives n (1, x) Any))
      (λ m. starts_by (g.int roles.Plain) _ Any (Passing is_number_at) (starts_int roles.Plain Any (Passing is_number_at) (λ k. refl) refl))
      (λ m. starts_by (g.name roles.Plain) _ Any (Failing is_number_at)
      (starts_means name_at roles.Plain Any (Failing is_number_at) name_is_no_number))

  scaled_starts : Starts g.scaled Any NoRound
  scaled_starts =
      starts_or _ _ Any NoRound
      (starts_by (g.int roles.Plain) _ Any NoRound (starts_int roles.Plain Any NoRound (λ k. refl) refl))
      (starts_by (g.name roles.Plain) _ Any NoRound (starts_means name_at roles.Plain Any NoRound name_is_no_round))

  pub parses_addend : Parses n addend NoSign (λ _. g.addend)
  unfolding addend
  parses_addend =
      parses_choose n is_sign_at _ _ NoSign _ _
      (parses_next n _ _ NoSign _ _ (parses_sign n roles.Plain) (λ negative.
      parses_next n _ _ NoSign _ _ (parses_int roles.Plain n) (λ k. parses_gives n _ NoSign)))
      (parses_gives n (pos 0) NoSign)
      (λ m. starts_by (g.sign roles.Plain) _ NoSign (Passing is_sign_at)
      (starts_means sign_at roles.Plain Any (Passing is_sign_at) sign_is_sign))
      (λ m. starts_gives (pos 0) NoSign NoSign (λ h s. s))

  addend_starts : Starts g.addend NoIndexEnd NoSlash
  addend_starts =
      starts_or _ _ NoIndexEnd NoSlash
      (starts_by (g.sign roles.Plain) _ NoIndexEnd NoSlash (starts_means sign_at roles.Plain Any NoSlash sign_is_no_slash))
      (starts_gives (pos 0) NoIndexEnd NoSlash (λ h s. s.0))

  pub parses_divisor : Parses n divisor Any (λ _. g.divisor)
  unfolding divisor
  parses_divisor = parses_next n _ _ Any _ _ (parses_mark n marks.Slash roles.Plain) (λ _. parses_int roles.Plain n)

  parses_index_end : (f : ℕ × List ℕ) → Parses n (index_end f) NoIndexEnd (λ _. g.index_end f)
  parses_index_end f =
      parses_choose n (is_mark_at marks.Slash) _ _ NoIndexEnd _ _
      (parses_next n _ _ NoIndexEnd _ _ parses_divisor (λ d. parses_gives n _ NoIndexEnd))
      (parses_then n addend _ NoSign NoIndexEnd _ _ parses_addend (λ k. parses_gives n _ NoIndexEnd)
      (λ m k. starts_gives _ NoIndexEnd NoSign (λ h s. s.1)))
      (λ m. starts_by g.divisor _ NoIndexEnd (Passing (is_mark_at marks.Slash))
      (starts_with (token.Punct marks.Slash) roles.Plain _ Any (Passing (is_mark_at marks.Slash)) refl))
      (λ m. starts_then g.addend _ NoIndexEnd NoIndexEnd NoSlash addend_starts (λ k. starts_gives _ NoIndexEnd NoIndexEnd (λ h s. s)))

  pub parses_grouped_index : Parses n grouped_index Any (λ _. g.grouped_index)
  unfolding grouped_index
  parses_grouped_index =
      parses_next n _ _ Any _ _ (parses_mark n marks.OpenRound roles.Plain) (λ _.
      parses_next n _ _ Any _ _ parses_scaled (λ f.
      parses_then n addend _ NoSign Any _ _ parses_addend (λ k.
      parses_next n _ _ Any _ _ (parses_mark n marks.CloseRound roles.Plain) (λ _.
      parses_next n _ _ Any _ _ parses_divisor (λ d.
      parses_gives n _ Any)))
      (λ m k. starts_with (token.Punct marks.CloseRound) roles.Plain _ Any NoSign refl)))

  pub parses_index : Parses n index NoIndexEnd (λ _. g.index)
  unfolding index g.index
  parses_index =
      parses_choose n (is_mark_at marks.OpenRound) _ _ NoIndexEnd _ _
      (parses_any n grouped_index NoIndexEnd _ parses_grouped_index)
      (parses_next n _ _ NoIndexEnd _ _ parses_scaled (λ f. parses_index_end f))
      (λ m. starts_with (token.Punct marks.OpenRound) roles.Plain _ NoIndexEnd (Passing (is_mark_at marks.OpenRound)) refl)
      (λ m. starts_by g.scaled _ NoIndexEnd NoRound scaled_starts)

  pub parses_read_end : (x : List ℕ) → Parses n (read_end x) Any (λ _. g.read_end x)
  parses_read_end x =
      parses_next n _ _ Any _ _ (parses_mark n marks.OpenRound roles.Plain) (λ _.
      parses_then n index _ NoIndexEnd Any _ _ parses_index (λ i.
      parses_next n _ _ Any _ _ (parses_mark n marks.Comma roles.Plain) (λ _.
      parses_then n index _ NoIndexEnd Any _ _ parses_index (λ j.
      parses_next n _ _ Any _ _ (parses_mark n marks.CloseRound roles.Plain) (λ _.
      parses_gives n _ Any))
      (λ m j. starts_with (token.Punct marks.CloseRound) roles.Plain _ Any NoIndexEnd (refl, refl))))
      (λ m i. starts_with (token.Punct marks.Comma) roles.Plain _ Any NoIndexEnd (refl, refl)))

  -- ---- kernels

  pub parses_entry : Parses n entry Any (λ _. g.entry)
  unfolding entry
  parses_entry =
      parses_then n minus _ NoMinus Any _ _ (parses_minus n) (λ negative.
      parses_next n _ _ Any _ _ (parses_int roles.Plain n) (λ k. parses_gives n _ Any))
      (λ m negative. starts_by (g.int roles.Plain) _ Any NoMinus (starts_int roles.Plain Any NoMinus (λ k. refl) refl))

  pub parses_row : Parses n row Any (λ _. g.row)
  unfolding row g.row
  parses_row =
      parses_next n _ _ Any _ _ (parses_mark n marks.OpenSquare roles.Plain) (λ _.
      parses_then n _ _ _ Any _ _ (parses_separated n (is_mark_at marks.Comma) (token.Punct marks.Comma) roles.Plain refl entry Any tt
      g.entry (parses_mark n marks.Comma roles.Plain) parses_entry) (λ es.
      parses_next n _ _ Any _ _ (parses_mark n marks.CloseSquare roles.Plain) (λ _.
      parses_gives n _ Any))
      (λ m es. starts_with (token.Punct marks.CloseSquare) roles.Plain _ Any (Behind (is_mark_at marks.Comma) Any) (refl, tt)))

  pub row_unroll : (es : List ℤ) (s : At)
      → while (is_mark_at marks.Comma) (next_behind (mark marks.Comma roles.Plain) entry) es s
      ≡ choose (is_mark_at marks.Comma) (next_behind (mark marks.Comma roles.Plain) entry es
      >>= while (is_mark_at marks.Comma) (next_behind (mark marks.Comma roles.Plain) entry)) (gives es) s
  row_unroll es s =
      separated_unroll n (is_mark_at marks.Comma) (token.Punct marks.Comma) roles.Plain refl entry Any tt g.entry
      (parses_mark n marks.Comma roles.Plain) parses_entry es s

  pub parses_kernel : Parses n kernel Any (λ _. g.kernel)
  unfolding kernel g.kernel
  parses_kernel =
      parses_next n _ _ Any _ _ (parses_mark n marks.OpenSquare roles.Plain) (λ _.
      parses_then n _ _ _ Any _ _ (parses_separated n (is_mark_at marks.Comma) (token.Punct marks.Comma) roles.Plain refl row Any tt g.row
      (parses_mark n marks.Comma roles.Plain) parses_row) (λ rows.
      parses_next n _ _ Any _ _ (parses_mark n marks.CloseSquare roles.Plain) (λ _.
      parses_gives n _ Any))
      (λ m rows. starts_with (token.Punct marks.CloseSquare) roles.Plain _ Any (Behind (is_mark_at marks.Comma) Any) (refl, tt)))

  pub kernel_unroll : (rows : List (List ℤ)) (s : At)
      → while (is_mark_at marks.Comma) (next_behind (mark marks.Comma roles.Plain) row) rows s
      ≡ choose (is_mark_at marks.Comma) (next_behind (mark marks.Comma roles.Plain) row rows
      >>= while (is_mark_at marks.Comma) (next_behind (mark marks.Comma roles.Plain) row)) (gives rows) s
  kernel_unroll rows s =
      separated_unroll n (is_mark_at marks.Comma) (token.Punct marks.Comma) roles.Plain refl row Any tt g.row
      (parses_mark n marks.Comma roles.Plain) parses_row rows s

  pub parses_stencil : Parses n a_stencil Any (λ _. g.a_stencil)
  unfolding a_stencil
  parses_stencil =
      parses_next n _ _ Any _ _ (parses_word n words.Stencil roles.Node) (λ _.
      parses_next n _ _ Any _ _ (parses_mark n marks.OpenRound roles.Plain) (λ _.
      parses_next n _ _ Any _ _ (parses_name n roles.Plain) (λ x.
      parses_next n _ _ Any _ _ (parses_mark n marks.Comma roles.Plain) (λ _.
      parses_next n _ _ Any _ _ (parses_int roles.Plain n) (λ d.
      parses_next n _ _ Any _ _ (parses_mark n marks.Comma roles.Plain) (λ _.
      parses_next n _ _ Any _ _ parses_kernel (λ k.
      parses_next n _ _ Any _ _ (parses_mark n marks.CloseRound roles.Plain) (λ _.
      parses_gives n _ Any))))))))

  pub parses_literal_number : Parses n literal_number Any (λ _. g.literal_number)
  parses_literal_number = parses_next n _ _ Any _ _ (parses_int roles.Node n) (λ k. parses_gives n (number k) Any)
