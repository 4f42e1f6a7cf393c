-- Items are read as the grammar says.
use Rattle.std.proofs.Common.{false, ◌≡◌, ℕ, List, [], Some, None, refl}
use Rattle.pipe_tokens.specs.declared.token.Token.{Token}
use Rattle.pipe_tokens.specs.declared.token.Token.TheVariants as token
use Rattle.pipe_tokens.specs.declared.token.Punct.TheVariants as marks
use Rattle.pipe_tokens.specs.declared.token.Keyword.TheVariants as words
use Rattle.pipe_tree.specs.declared.limits.Role.{Role}
use Rattle.pipe_tree.specs.declared.limits.Role.TheVariants as roles
use Rattle.operators.specs.declared.operator.Relation.{Relation}
use Rattle.pipe_tree.specs.declared.tree.Test.{Test}
use Rattle.pipe_tree.specs.Operators.{relation_at}
use Rattle.pipe_tree.specs.Lookahead.{is_mark_at, is_word_at}
use Rattle.pipe_tree.specs.Tree.{Branch}
use Rattle.pipe_tree.specs.Grammar as g
use Rattle.pipe_tree.specs.Reading.{At, ◌>>=◌, gives, choose, while, word, names_end, names, a_param, a_table, an_image, variables}
use Rattle.pipe_tree.specs.Reading.{test_end, a_test, condition, next_behind}
use Rattle.pipe_tree.specs.Reading.{value, a_case, cases_at, otherwise, a_function, an_accumulator, an_output}
use Rattle.pipe_tree.proofs.Laws.{Follow, Any, Parses, Starts, parses_then, parses_next, parses_gives, parses_choose}
use Rattle.pipe_tree.proofs.TokenLaws.{parses_mark, parses_word, parses_name, parses_int, parses_relation, parses_fold}
use Rattle.pipe_tree.proofs.LoopLaws.{Turns, loop_unroll, parses_loop}
use Rattle.pipe_tree.proofs.StartLaws.{Passing, Failing, starts_then, starts_by, starts_with, starts_means, starts_gives}
use Rattle.pipe_tree.proofs.StartLaws.{starts_or, long_front, long_token, parses_separated, separated_unroll}
use Rattle.pipe_tree.proofs.AffineLaws.{NoTerm, parses_affine, parses_span, parses_variable}
use Rattle.pipe_tree.proofs.ExpressionLaws.{NoOperator, parses_expression}

-- ---- what may follow

abbrev pub NoComma : Follow
NoComma h = is_mark_at marks.Comma h ≡ false

-- behind a condition
abbrev pub NoAnd : Follow
NoAnd h = (is_word_at words.And h ≡ false) × NoTerm h

abbrev pub NoCase : Follow
NoCase h = is_word_at words.Case h ≡ false

abbrev pub NoElse : Follow
NoElse h = is_word_at words.Else h ≡ false

abbrev NoBranch : Follow
NoBranch h = NoCase h × NoElse h

relation_is_no_percent : (t : Token) (x : Relation) → relation_at (Some t) ≡ Some x → is_mark_at marks.Percent (Some t) ≡ false
relation_is_no_percent (token.Punct marks.AtMost) x e = refl
relation_is_no_percent (token.Punct marks.AtLeast) x e = refl
relation_is_no_percent (token.Punct marks.Equals) x e = refl
relation_is_no_percent t x e = absurd cc

module _ (n : ℕ) where
  -- ---- parameters, tables and images

  pub parses_param : Parses n a_param Any (λ _. g.a_param)
  unfolding a_param
  parses_param =
      parses_next n _ _ Any _ _ (parses_word n words.Param roles.Plain) (λ _.
      parses_next n _ _ Any _ _ (parses_name n roles.Param) (λ x.
      parses_next n _ _ Any _ _ (parses_mark n marks.Semicolon roles.Plain) (λ _.
      parses_gives n _ Any)))

  pub parses_table : Parses n a_table Any (λ _. g.a_table)
  unfolding a_table
  parses_table =
      parses_next n _ _ Any _ _ (parses_word n words.Table roles.Plain) (λ _.
      parses_next n _ _ Any _ _ (parses_name n roles.Table) (λ x.
      parses_next n _ _ Any _ _ (parses_span n) (λ s.
      parses_next n _ _ Any _ _ (parses_mark n marks.Semicolon roles.Plain) (λ _.
      parses_gives n _ Any))))

  parses_names_end : (role : Role) (x : List ℕ) → Parses n (names_end role x) NoComma (λ _. g.names_end role x)
  parses_names_end role x =
      parses_choose n (is_mark_at marks.Comma) _ _ NoComma _ _
      (parses_next n _ _ NoComma _ _ (parses_mark n marks.Comma roles.Plain) (λ _.
      parses_next n _ _ NoComma _ _ (parses_name n role) (λ y.
      parses_next n _ _ NoComma _ _ (parses_mark n marks.Comma roles.Plain) (λ _.
      parses_next n _ _ NoComma _ _ (parses_name n role) (λ z.
      parses_gives n _ NoComma)))))
      (parses_gives n _ NoComma)
      (λ m. starts_with (token.Punct marks.Comma) roles.Plain _ NoComma (Passing (is_mark_at marks.Comma)) refl)
      (λ m. starts_gives _ NoComma NoComma (λ h s. s))

  pub parses_names : (role : Role) → Parses n (names role) NoComma (λ _. g.names role)
  unfolding names
  parses_names role = parses_next n _ _ NoComma _ _ (parses_name n role) (parses_names_end role)

  pub parses_image : Parses n an_image Any (λ _. g.an_image)
  unfolding an_image g.an_image
  parses_image =
      parses_next n _ _ Any _ _ (parses_word n words.Image roles.Plain) (λ _.
      parses_then n _ _ NoComma Any _ _ (parses_names roles.Stage) (λ ns.
      parses_next n _ _ Any _ _ (parses_mark n marks.OpenRound roles.Plain) (λ _.
      parses_then n _ _ NoTerm Any _ _ (parses_affine n) (λ rows.
      parses_next n _ _ Any _ _ (parses_mark n marks.Comma roles.Plain) (λ _.
      parses_then n _ _ NoTerm Any _ _ (parses_affine n) (λ columns.
      parses_next n _ _ Any _ _ (parses_mark n marks.CloseRound roles.Plain) (λ _.
      parses_next n _ _ Any _ _ (parses_mark n marks.Semicolon roles.Plain) (λ _.
      parses_gives n _ Any)))
      (λ m columns. starts_with (token.Punct marks.CloseRound) roles.Plain _ Any NoTerm (refl, refl))))
      (λ m rows. starts_with (token.Punct marks.Comma) roles.Plain _ Any NoTerm (refl, refl))))
      (λ m ns. starts_with (token.Punct marks.OpenRound) roles.Plain _ Any NoComma refl))

  -- ---- functions

  pub parses_variables : Parses n variables Any (λ _. g.variables)
  unfolding variables g.variables
  parses_variables =
      parses_next n _ _ Any _ _ (parses_mark n marks.OpenRound roles.Plain) (λ _.
      parses_next n _ _ Any _ _ (parses_variable n) (λ r.
      parses_next n _ _ Any _ _ (parses_mark n marks.Comma roles.Plain) (λ _.
      parses_next n _ _ Any _ _ (parses_variable n) (λ c.
      parses_next n _ _ Any _ _ (parses_mark n marks.CloseRound roles.Plain) (λ _.
      parses_gives n _ Any)))))

  parses_test_end : (x : List ℕ) → Parses n (test_end x) NoTerm (λ _. g.test_end x)
  parses_test_end x =
      parses_choose n (is_mark_at marks.Percent) _ _ NoTerm _ _
      (parses_next n _ _ NoTerm _ _ (parses_mark n marks.Percent roles.Plain) (λ _.
      parses_next n _ _ NoTerm _ _ (parses_int roles.Plain n) (λ k.
      parses_next n _ _ NoTerm _ _ (parses_mark n marks.Equals roles.Plain) (λ _.
      parses_next n _ _ NoTerm _ _ (parses_int roles.Plain n) (λ r.
      parses_gives n _ NoTerm)))))
      (parses_next n _ _ NoTerm _ _ (parses_relation n) (λ r.
      parses_then n _ _ NoTerm NoTerm _ _ (parses_affine n) (λ bound. parses_gives n _ NoTerm)
      (λ m bound. starts_gives _ NoTerm NoTerm (λ h s. s))))
      (λ m. starts_with (token.Punct marks.Percent) roles.Plain _ NoTerm (Passing (is_mark_at marks.Percent)) refl)
      (λ m. starts_by g.relation _ NoTerm (Failing (is_mark_at marks.Percent))
      (starts_means relation_at roles.Plain Any (Failing (is_mark_at marks.Percent)) relation_is_no_percent))

  pub parses_test : Parses n a_test NoTerm (λ _. g.a_test)
  unfolding a_test
  parses_test = parses_next n _ _ NoTerm _ _ (parses_name n roles.Plain) parses_test_end

  pub parses_condition : Parses n condition NoAnd (λ _. g.condition)
  unfolding condition g.condition
  parses_condition =
      parses_separated n (is_word_at words.And) (token.Keyword words.And) roles.Plain refl a_test NoTerm (refl, refl) g.a_test
      (parses_word n words.And roles.Plain) parses_test

  pub condition_unroll : (tests : List Test) (s : At)
      → while (is_word_at words.And) (next_behind (word words.And roles.Plain) a_test) tests s
      ≡ choose (is_word_at words.And) (next_behind (word words.And roles.Plain) a_test tests
      >>= while (is_word_at words.And) (next_behind (word words.And roles.Plain) a_test)) (gives tests) s
  condition_unroll tests s =
      separated_unroll n (is_word_at words.And) (token.Keyword words.And) roles.Plain refl a_test NoTerm (refl, refl) g.a_test
      (parses_word n words.And roles.Plain) parses_test tests s

  pub parses_value : Parses n (value n) Any g.value
  unfolding value
  parses_value =
      parses_next n _ _ Any _ _ (parses_mark n marks.Colon roles.Plain) (λ _.
      parses_then n _ _ NoOperator Any _ _ (parses_expression n) (λ e.
      parses_next n _ _ Any _ _ (parses_mark n marks.Semicolon roles.Plain) (λ _.
      parses_gives n _ Any))
      (λ m e. starts_with (token.Punct marks.Semicolon) roles.Plain _ Any NoOperator ((refl, refl), refl, refl)))

  parses_case : (cases : List Branch) → Parses n (a_case n cases) Any (λ m. g.a_case m cases)
  parses_case cases =
      parses_next n _ _ Any _ _ (parses_word n words.Case roles.Case) (λ _.
      parses_then n _ _ NoAnd Any _ _ parses_condition (λ c.
      parses_next n _ _ Any _ _ parses_value (λ e.
      parses_gives n _ Any))
      (λ m c. starts_by (g.value m) _ Any NoAnd (starts_with (token.Punct marks.Colon) roles.Plain _ Any NoAnd (refl, (refl, refl)))))

  case_turns : Turns n (λ _. is_word_at words.Case) (a_case n) Any NoCase (λ cases m. g.a_case m cases)
  case_turns = record {
    each = parses_case;
    some = λ m a b text p. long_front _ _ (long_token (token.Keyword words.Case) roles.Case) text b p;
    begins =
        λ m a b text rest p s. starts_with (token.Keyword words.Case) roles.Case _ Any (Passing (is_word_at words.Case)) refl text rest b p
        s;
    follows = λ m a b text rest p s. tt;
    stops = λ a h e. e;
    ends = λ h e. tt;
  }

  pub parses_cases : Parses n (cases_at n) NoCase (λ m. g.many (g.a_case m) [])
  unfolding cases_at
  parses_cases = parses_loop n _ _ Any NoCase _ case_turns []

  pub cases_unroll : (cases : List Branch) (s : At)
      → while (is_word_at words.Case) (a_case n) cases s
      ≡ choose (is_word_at words.Case) (a_case n cases >>= while (is_word_at words.Case) (a_case n)) (gives cases) s
  cases_unroll cases s = loop_unroll n _ _ Any NoCase _ case_turns cases s

  pub parses_otherwise : Parses n (otherwise n) NoElse g.otherwise
  unfolding otherwise
  parses_otherwise =
      parses_choose n (is_word_at words.Else) _ _ NoElse _ _
      (parses_next n _ _ NoElse _ _ (parses_word n words.Else roles.Plain) (λ _.
      parses_next n _ _ NoElse _ _ parses_value (λ e. parses_gives n _ NoElse)))
      (parses_gives n None NoElse)
      (λ m. starts_with (token.Keyword words.Else) roles.Plain _ NoElse (Passing (is_word_at words.Else)) refl)
      (λ m. starts_gives None NoElse NoElse (λ h s. s))

  otherwise_starts : (m : ℕ) → Starts (g.otherwise m) NoBranch NoCase
  otherwise_starts m =
      starts_or _ _ NoBranch NoCase
      (starts_with (token.Keyword words.Else) roles.Plain _ NoBranch NoCase refl)
      (starts_gives None NoBranch NoCase (λ h s. s.0))

  pub parses_function : Parses n (a_function n) Any g.a_function
  unfolding a_function g.a_function
  parses_function =
      parses_next n _ _ Any _ _ (parses_word n words.Func roles.Function) (λ _.
      parses_next n _ _ Any _ _ (parses_name n roles.Stage) (λ x.
      parses_next n _ _ Any _ _ parses_variables (λ vs.
      parses_next n _ _ Any _ _ (parses_mark n marks.OpenCurly roles.Plain) (λ _.
      parses_then n _ _ NoCase Any _ _ parses_cases (λ cases.
      parses_then n _ _ NoElse Any _ _ parses_otherwise (λ e.
      parses_next n _ _ Any _ _ (parses_mark n marks.CloseCurly roles.Plain) (λ _.
      parses_gives n _ Any))
      (λ m e. starts_with (token.Punct marks.CloseCurly) roles.Plain _ Any NoElse refl))
      (λ m cases. starts_then (g.otherwise m) _ NoBranch Any NoCase (otherwise_starts m)
      (λ e. starts_with (token.Punct marks.CloseCurly) roles.Plain _ Any NoBranch (refl, refl)))))))

  -- ---- accumulators and outputs

  pub parses_accumulator : Parses n (an_accumulator n) Any g.an_accumulator
  unfolding an_accumulator g.an_accumulator
  parses_accumulator =
      parses_next n _ _ Any _ _ (parses_word n words.Accum roles.Plain) (λ _.
      parses_next n _ _ Any _ _ (parses_name n roles.Stage) (λ x.
      parses_next n _ _ Any _ _ (parses_span n) (λ bins.
      parses_next n _ _ Any _ _ (parses_word n words.Over roles.Plain) (λ _.
      parses_next n _ _ Any _ _ parses_variables (λ vs.
      parses_next n _ _ Any _ _ (parses_fold n) (λ f.
      parses_then n _ _ NoOperator Any _ _ (parses_expression n) (λ v.
      parses_next n _ _ Any _ _ (parses_word n words.At roles.Plain) (λ _.
      parses_then n _ _ NoOperator Any _ _ (parses_expression n) (λ b.
      parses_next n _ _ Any _ _ (parses_mark n marks.Semicolon roles.Plain) (λ _.
      parses_gives n _ Any))
      (λ m b. starts_with (token.Punct marks.Semicolon) roles.Plain _ Any NoOperator ((refl, refl), refl, refl))))
      (λ m v. starts_with (token.Keyword words.At) roles.Plain _ Any NoOperator ((refl, refl), refl, refl))))))))

  pub parses_output : Parses n an_output Any (λ _. g.an_output)
  unfolding an_output
  parses_output =
      parses_next n _ _ Any _ _ (parses_word n words.Output roles.Plain) (λ _.
      parses_then n _ _ NoComma Any _ _ (parses_names roles.Plain) (λ ns.
      parses_next n _ _ Any _ _ (parses_word n words.Max roles.Plain) (λ _.
      parses_next n _ _ Any _ _ (parses_int roles.Plain n) (λ most.
      parses_next n _ _ Any _ _ (parses_mark n marks.Semicolon roles.Plain) (λ _.
      parses_gives n _ Any))))
      (λ m ns. starts_with (token.Keyword words.Max) roles.Plain _ Any NoComma refl))
