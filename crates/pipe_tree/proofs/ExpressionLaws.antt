-- Expressions are read as the grammar says, within any levels.
use Rattle.std.proofs.Common.{Bool, true, false, ◌≡◌, ℕ, zero, suc, ◌<◌, List, [], ◌∷◌, Option, Some, None, Ok, Err, refl, ap}
use Rattle.std.proofs.Common.{arith, inl, inr}
use Rattle.pipe_tokens.specs.declared.token.Token.{Token}
use Rattle.pipe_tokens.specs.declared.token.Token.TheVariants as token
use Rattle.pipe_tokens.specs.declared.token.Punct.{Punct}
use Rattle.pipe_tokens.specs.declared.token.Punct.TheVariants as marks
use Rattle.pipe_tokens.specs.declared.token.Keyword.TheVariants as words
use Rattle.pipe_tree.specs.declared.fault.ParseFaultKind.TheVariants.{TooDeep}
use Rattle.pipe_tree.specs.declared.limits.TextCounts.{TextCounts}
use Rattle.pipe_tree.specs.declared.limits.Role.{Role}
use Rattle.pipe_tree.specs.declared.limits.Role.TheVariants as roles
use Rattle.pipe_tree.specs.declared.ahead.CallOp.{CallOp}
use Rattle.pipe_tree.specs.declared.ahead.CallOp.TheVariants as calls
use Rattle.pipe_tree.specs.declared.ahead.ProductOp.{ProductOp}
use Rattle.pipe_tree.specs.declared.ahead.ProductOp.TheVariants as factors
use Rattle.pipe_tree.specs.declared.ahead.Opening.{Opening}
use Rattle.pipe_tree.specs.declared.ahead.Opening.TheVariants as opening
use Rattle.pipe_tree.specs.declared.ahead.UnaryStart.{UnaryStart}
use Rattle.pipe_tree.specs.declared.ahead.UnaryStart.TheVariants as start
use Rattle.operators.specs.declared.operator.Relation.{Relation}
use Rattle.pipe_tree.specs.Tokens.{head}
use Rattle.pipe_tree.specs.Limits.{Tagged, fits}
use Rattle.pipe_tree.specs.Operators.{name_at, sign_at, factor_at, call_at, relation_at}
use Rattle.pipe_tree.specs.Lookahead.{is_mark_at, start_by, start_at}
use Rattle.pipe_tree.specs.Grammar as g
use Rattle.pipe_tree.specs.Grammar.{Rule, Then, Gives, many, ◌or◌, leaf, Unary, Product, Expression}
use Rattle.pipe_tree.specs.Faults.{GoesOn}
use Rattle.pipe_tree.specs.Tree.{Node, lookup, variable}
use Rattle.pipe_tree.specs.Reading.{At, Answer, Reader, ◌>>=◌, gives, stop, by_key, choose, while, mark, is_factor_at, is_sign_at}
use Rattle.pipe_tree.specs.Reading.{literal_number, name, name_end, named, read_end, entry_of, a_stencil, operand, product_more, product_of, sum_more, sum_of}
use Rattle.pipe_tree.specs.Reading.{negation, group, arguments, called, selected, opened}
use Rattle.pipe_tree.specs.Reading.{unary_by, unary_at, entry_at, product_at, expression_at}
use Rattle.pipe_tree.proofs.Laws.{on, state, tagged, Within, Sound, HasText, Follow, Any, Ends, All, Parses, Starts, widen}
use Rattle.pipe_tree.proofs.Laws.{refuse_sound, or_all, or_wider, all_weaker, choose_left, choose_right, choose_when, then_all, then_at, then_wider}
use Rattle.pipe_tree.proofs.Laws.{then_has, has_within, token_rule, parses_then, parses_next, parses_gives}
use Rattle.pipe_tree.proofs.TokenLaws.{parses_mark, parses_word, parses_name, parses_sign, parses_factor, parses_call, parses_relation}
use Rattle.pipe_tree.proofs.TokenLaws.{parses_int, call_good}
use Rattle.pipe_tree.proofs.LoopLaws.{Turns, loop_unroll, parses_loop, loop_follows}
use Rattle.pipe_tree.proofs.StartLaws.{Passing, Failing, starts_by, starts_with, starts_means, starts_int, starts_gives, long_front}
use Rattle.pipe_tree.proofs.StartLaws.{long_means, key_sound, key_all}
use Rattle.pipe_tree.proofs.AffineLaws.{sign_is_sign}
use Rattle.pipe_tree.proofs.IndexLaws.{NoOpen, parses_read_end, parses_stencil, parses_literal_number}

-- ---- what may follow

-- behind a product
abbrev pub NoFactor : Follow
NoFactor h = NoOpen h × (is_factor_at h ≡ false)

-- behind an expression
abbrev pub NoOperator : Follow
NoOperator h = NoOpen h × (is_factor_at h ≡ false) × (is_sign_at h ≡ false)

factor_is_factor : (t : Token) (x : ProductOp) → factor_at (Some t) ≡ Some x → is_factor_at (Some t) ≡ true
factor_is_factor (token.Punct marks.Star) x e = refl
factor_is_factor (token.Punct marks.Slash) x e = refl
factor_is_factor (token.Punct marks.Percent) x e = refl
factor_is_factor (token.Punct marks.ShiftLeft) x e = refl
factor_is_factor (token.Punct marks.ShiftRight) x e = refl
factor_is_factor t x e = absurd cc

factor_is_no_open : (t : Token) (x : ProductOp) → factor_at (Some t) ≡ Some x → NoOpen (Some t)
factor_is_no_open (token.Punct marks.OpenRound) x e = absurd cc
factor_is_no_open (token.Punct marks.OpenSquare) x e = absurd cc
factor_is_no_open (token.Punct marks.Star) x e = (refl, refl)
factor_is_no_open (token.Punct marks.Slash) x e = (refl, refl)
factor_is_no_open (token.Punct marks.Percent) x e = (refl, refl)
factor_is_no_open (token.Punct marks.ShiftLeft) x e = (refl, refl)
factor_is_no_open (token.Punct marks.ShiftRight) x e = (refl, refl)
factor_is_no_open t x e = absurd cc

sign_is_no_factor : (t : Token) (x : Bool) → sign_at (Some t) ≡ Some x → NoFactor (Some t)
sign_is_no_factor (token.Punct marks.Plus) x e = ((refl, refl), refl)
sign_is_no_factor (token.Punct marks.Minus) x e = ((refl, refl), refl)
sign_is_no_factor t x e = absurd cc

relation_is_no_operator : (t : Token) (x : Relation) → relation_at (Some t) ≡ Some x → NoOperator (Some t)
relation_is_no_operator (token.Punct marks.AtMost) x e = ((refl, refl), refl, refl)
relation_is_no_operator (token.Punct marks.AtLeast) x e = ((refl, refl), refl, refl)
relation_is_no_operator (token.Punct marks.Equals) x e = ((refl, refl), refl, refl)
relation_is_no_operator t x e = absurd cc

name_starts_name : (t : Token) (x : List ℕ) → name_at (Some t) ≡ Some x → start_at (Some t) ≡ start.Name
name_starts_name (token.Name y) x e = refl
name_starts_name t x e = absurd cc

call_starts_call : (t : Token) (c : CallOp) → call_at (Some t) ≡ Some c → start_at (Some t) ≡ start.Opening opening.Call
call_starts_call t c e = ap (λ (o : Option CallOp). start_by o (Some t)) e

-- ---- products and sums, over what reads a unary

module _ (n : ℕ) (u : Reader Node) (U : ℕ → Rule Node) (reads : Parses n u NoOpen U) where
  parses_operand : (a : Node) (f : ProductOp) → Parses n (operand u a f) NoOpen (λ m. g.operand (U m) a f)
  parses_operand a factors.Times =
      parses_then n u _ NoOpen NoOpen _ _ reads (λ b. parses_gives n _ NoOpen) (λ m b. starts_gives _ NoOpen NoOpen (λ h s. s))
  parses_operand a (factors.Literal op) = parses_next n _ _ NoOpen _ _ (parses_int roles.Plain n) (λ k. parses_gives n _ NoOpen)

  product_turns : Turns n (λ _. is_factor_at) (product_more u) NoOpen NoFactor (λ a m. g.product_more (U m) a)
  product_turns = record {
    each = λ a. parses_next n _ _ NoOpen _ _ (parses_factor n) (λ f. parses_operand a f);
    some = λ m a b text p. long_front g.factor _ (long_means factor_at roles.Node) text b p;
    begins =
        λ m a b text rest p s. starts_by g.factor _ NoOpen (Passing is_factor_at)
        (starts_means factor_at roles.Node Any (Passing is_factor_at) factor_is_factor) text rest b p s;
    follows =
        λ m a b text rest p s. starts_by g.factor _ NoOpen NoOpen (starts_means factor_at roles.Node Any NoOpen factor_is_no_open) text rest
        b p s;
    stops = λ a h e. e.1;
    ends = λ h e. e.0;
  }

  pub product_unroll : (a : Node) (s : At)
      → while is_factor_at (product_more u) a s ≡ choose is_factor_at (product_more u a >>= while is_factor_at (product_more u)) (gives a) s
  product_unroll a s = loop_unroll n _ _ NoOpen NoFactor _ product_turns a s

  pub parses_product : Parses n (product_of u) NoFactor (λ m. g.product (U m))
  parses_product =
      parses_then n u _ NoOpen NoFactor _ _ reads (λ a. parses_loop n _ _ NoOpen NoFactor _ product_turns a)
      (λ m a. loop_follows n _ _ NoOpen NoFactor _ product_turns m a)

module _ (n : ℕ) (p : Reader Node) (P : ℕ → Rule Node) (reads : Parses n p NoFactor P) where
  sum_turns : Turns n (λ _. is_sign_at) (sum_more p) NoFactor NoOperator (λ a m. g.sum_more (P m) a)
  sum_turns = record {
    each = λ a. parses_next n _ _ NoFactor _ _ (parses_sign n roles.Node) (λ negative.
        parses_then n p _ NoFactor NoFactor _ _ reads (λ b. parses_gives n _ NoFactor)
        (λ m b. starts_gives _ NoFactor NoFactor (λ h s. s)));
    some = λ m a b text q. long_front (g.sign roles.Node) _ (long_means sign_at roles.Node) text b q;
    begins =
        λ m a b text rest q s. starts_by (g.sign roles.Node) _ NoFactor (Passing is_sign_at)
        (starts_means sign_at roles.Node Any (Passing is_sign_at) sign_is_sign) text rest b q s;
    follows =
        λ m a b text rest q s. starts_by (g.sign roles.Node) _ NoFactor NoFactor
        (starts_means sign_at roles.Node Any NoFactor sign_is_no_factor) text rest b q s;
    stops = λ a h e. e.2;
    ends = λ h e. (e.0, e.1);
  }

  pub sum_unroll : (a : Node) (s : At)
      → while is_sign_at (sum_more p) a s ≡ choose is_sign_at (sum_more p a >>= while is_sign_at (sum_more p)) (gives a) s
  sum_unroll a s = loop_unroll n _ _ NoFactor NoOperator _ sum_turns a s

  pub parses_sum : Parses n (sum_of p) NoOperator (λ m. g.sums (P m))
  parses_sum =
      parses_then n p _ NoFactor NoOperator _ _ reads (λ a. parses_loop n _ _ NoFactor NoOperator _ sum_turns a)
      (λ m a. loop_follows n _ _ NoFactor NoOperator _ sum_turns m a)

-- ---- what opens a level

ends_mark : {Y : Type 0} (m : Punct) (role : Role) (Q : Unit {0} → Rule Y) (T : Follow) → NoOperator (Some (token.Punct m))
    → Starts (Then (g.mark m role) Q) T NoOperator
ends_mark m role Q T f = starts_with (token.Punct m) role Q T NoOperator f

module _ (n : ℕ) (u : Reader Node) (U : ℕ → Rule Node) (reads : Parses n u NoOpen U) where
  pub parses_negation : Parses n (negation u) NoOpen (λ m. g.negation (U m))
  parses_negation =
      parses_next n _ _ NoOpen _ _ (parses_mark n marks.Minus roles.Node) (λ _.
      parses_then n u _ NoOpen NoOpen _ _ reads (λ a. parses_gives n _ NoOpen) (λ m a. starts_gives _ NoOpen NoOpen (λ h s. s)))

module _ (n : ℕ) (e : Reader Node) (E : ℕ → Rule Node) (reads : Parses n e NoOperator E) where
  -- the last operand, and the mark behind it
  closed_by : (c : Punct) → NoOperator (Some (token.Punct c)) → (f : Node → Node)
      → Parses n (e >>= λ a. mark c roles.Plain >>= λ _. gives (f a)) Any
      (λ m. Then (E m) (λ a. Then (g.mark c roles.Plain) (λ _. Gives (f a))))
  closed_by c no_operator f =
      parses_then n e _ NoOperator Any _ _ reads
      (λ a. parses_next n _ _ Any _ _ (parses_mark n c roles.Plain) (λ _. parses_gives n (f a) Any))
      (λ m a. ends_mark c roles.Plain _ Any no_operator)

  -- the last operand, and the parenthesis behind it
  last : (f : Node → Node)
      → Parses n (e >>= λ a. mark marks.CloseRound roles.Plain >>= λ _. gives (f a)) Any
      (λ m. Then (E m) (λ a. Then (g.mark marks.CloseRound roles.Plain) (λ _. Gives (f a))))
  last f = closed_by marks.CloseRound ((refl, refl), refl, refl) f

  pub parses_entry_of : (x : List ℕ) → Parses n (entry_of e x) Any (λ m. g.entry_of (E m) x)
  parses_entry_of x =
      parses_next n _ _ Any _ _ (parses_mark n marks.OpenSquare roles.Plain) (λ _.
      closed_by marks.CloseSquare ((refl, refl), refl, refl) (lookup x))

  pub parses_group : Parses n (group e) Any (λ m. g.group (E m))
  parses_group = parses_next n _ _ Any _ _ (parses_mark n marks.OpenRound roles.Plain) (λ _. last (λ a. a))

  -- an operand that ends the operands
  final : (f : Node → Node) → Parses n (e >>= λ a. gives (f a)) NoOperator (λ m. Then (E m) (λ a. Gives (f a)))
  final f =
      parses_then n e _ NoOperator NoOperator _ _ reads (λ a. parses_gives n (f a) NoOperator)
      (λ m a. starts_gives (f a) NoOperator NoOperator (λ h s. s))

  parses_arguments : (c : CallOp) → Parses n (arguments e c) NoOperator (λ m. g.arguments (E m) c)
  parses_arguments (calls.Unary op) = final _
  parses_arguments (calls.Binary op) =
      parses_then n e _ NoOperator NoOperator _ _ reads
      (λ a. parses_next n _ _ NoOperator _ _ (parses_mark n marks.Comma roles.Plain) (λ _. final _))
      (λ m a. ends_mark marks.Comma roles.Plain _ NoOperator ((refl, refl), refl, refl))
  parses_arguments (calls.Ternary op) =
      parses_then n e _ NoOperator NoOperator _ _ reads (λ a.
      parses_next n _ _ NoOperator _ _ (parses_mark n marks.Comma roles.Plain) (λ _.
      parses_then n e _ NoOperator NoOperator _ _ reads
      (λ b. parses_next n _ _ NoOperator _ _ (parses_mark n marks.Comma roles.Plain) (λ _. final _))
      (λ m b. ends_mark marks.Comma roles.Plain _ NoOperator ((refl, refl), refl, refl))))
      (λ m a. ends_mark marks.Comma roles.Plain _ NoOperator ((refl, refl), refl, refl))

  pub parses_called : Parses n (called e) Any (λ m. g.called (E m))
  parses_called =
      parses_next n _ _ Any _ _ (parses_call n) (λ c.
      parses_next n _ _ Any _ _ (parses_mark n marks.OpenRound roles.Plain) (λ _.
      parses_then n _ _ NoOperator Any _ _ (parses_arguments c)
      (λ a. parses_next n _ _ Any _ _ (parses_mark n marks.CloseRound roles.Plain) (λ _. parses_gives n a Any))
      (λ m a. ends_mark marks.CloseRound roles.Plain _ Any ((refl, refl), refl, refl))))

  pub parses_selected : Parses n (selected e) Any (λ m. g.selected (E m))
  parses_selected =
      parses_next n _ _ Any _ _ (parses_word n words.Select roles.Node) (λ _.
      parses_next n _ _ Any _ _ (parses_mark n marks.OpenRound roles.Plain) (λ _.
      parses_then n e _ NoOperator Any _ _ reads (λ a.
      parses_next n _ _ Any _ _ (parses_relation n) (λ r.
      parses_then n e _ NoOperator Any _ _ reads (λ b.
      parses_next n _ _ Any _ _ (parses_mark n marks.Comma roles.Plain) (λ _.
      parses_then n e _ NoOperator Any _ _ reads (λ c.
      parses_next n _ _ Any _ _ (parses_mark n marks.Comma roles.Plain) (λ _. last _))
      (λ m c. ends_mark marks.Comma roles.Plain _ Any ((refl, refl), refl, refl))))
      (λ m b. ends_mark marks.Comma roles.Plain _ Any ((refl, refl), refl, refl))))
      (λ m a. starts_by g.relation _ Any NoOperator (starts_means relation_at roles.Plain Any NoOperator relation_is_no_operator))))

-- ---- unaries, by what they begin with

deeper_ends : {X : Type 0} (D E : Type 0) (c : TextCounts) (x : X) (text : List Tagged) (rest : List Token) (a : Answer X) → (D → E)
    → Ends D c x text rest a → Ends E c x text rest a
deeper_ends D E c x text rest (Ok a) up e = e
deeper_ends D E c x text rest (Err h) up (inl e) = inl (e.0, up e.1)
deeper_ends D E c x text rest (Err h) up (inr e) = inr e

deeper : {X : Type 0} (D E : Type 0) (r : Reader X) (S : Follow) (R : Rule X) → (D → E) → All D r S R → All E r S R
deeper D E r S R up p =
    record { read_all = λ c text rest x h t. deeper_ends D E c x text rest (r (state c (on text rest))) up (p.read_all c text rest x h t) }

-- what no level matters to
at_levels : {X : Type 0} (deep : Type 0) (r : Reader X) (S : Follow) (R : Rule X) → Parses 0 r S (λ _. R) → All deep r S R
at_levels deep r S R p = deeper (0 < 0) deep r S R (λ less. absurd (omega (arith, less))) (p.all 0)

-- names, whatever reads the entries of tables
module _ (deep : Type 0) (entry : List ℕ → Reader Node) where
  name_all : All deep (name roles.Node) Any (g.name roles.Node)
  name_all = at_levels deep (name roles.Node) Any (g.name roles.Node) (parses_name 0 roles.Node)

  read_all_end : (x : List ℕ) → All deep (name_end entry x) NoOpen (g.read_end x)
  read_all_end x =
      choose_left deep (is_mark_at marks.OpenRound) (read_end x) _ NoOpen (g.read_end x)
      (starts_with (token.Punct marks.OpenRound) roles.Plain _ NoOpen (Passing (is_mark_at marks.OpenRound)) refl)
      (all_weaker deep (read_end x) Any NoOpen (g.read_end x) (λ h s. tt)
      (at_levels deep (read_end x) Any (g.read_end x) (parses_read_end 0 x)))

  variable_all : (x : List ℕ) → All deep (name_end entry x) NoOpen (Gives (variable x))
  variable_all x =
      choose_right deep (is_mark_at marks.OpenRound) (read_end x) _ NoOpen (Gives (variable x))
      (starts_gives (variable x) NoOpen (Failing (is_mark_at marks.OpenRound)) (λ h s. s.0))
      (choose_right deep (is_mark_at marks.OpenSquare) (entry x) (gives (variable x)) NoOpen (Gives (variable x))
      (starts_gives (variable x) NoOpen (Failing (is_mark_at marks.OpenSquare)) (λ h s. s.1))
      (at_levels deep (gives (variable x)) NoOpen (Gives (variable x)) (parses_gives 0 (variable x) NoOpen)))

  named_all : All deep (named entry) NoOpen g.named
  unfolding named
  named_all =
      then_all deep (name roles.Node) (name_end entry) Any NoOpen (g.name roles.Node) g.name_end name_all
      (λ x. or_all deep (name_end entry x) NoOpen (g.read_end x) (Gives (variable x)) (read_all_end x) (variable_all x))
      (λ x text rest y p s. tt)

  looked_all : (E : Rule Node) → ((x : List ℕ) → All deep (entry x) NoOpen (g.entry_of E x)) → All deep (named entry) NoOpen (g.looked_up E)
  unfolding named
  looked_all E each =
      then_all deep (name roles.Node) (name_end entry) Any NoOpen (g.name roles.Node) (g.entry_of E) name_all
      (λ x. choose_right deep (is_mark_at marks.OpenRound) (read_end x) _ NoOpen (g.entry_of E x)
      (starts_with (token.Punct marks.OpenSquare) roles.Plain _ NoOpen (Failing (is_mark_at marks.OpenRound)) refl)
      (choose_left deep (is_mark_at marks.OpenSquare) (entry x) (gives (variable x)) NoOpen (g.entry_of E x)
      (starts_with (token.Punct marks.OpenSquare) roles.Plain _ NoOpen (Passing (is_mark_at marks.OpenSquare)) refl) (each x)))
      (λ x text rest y p s. tt)

module _ (deep : Type 0) (open_level : Opening → Reader Node) (entry : List ℕ → Reader Node) where
  leaf_all : All deep (by_key start_at (unary_by open_level entry)) NoOpen leaf
  leaf_all =
      let key = key_all start_at (unary_by open_level entry) deep NoOpen in
      let any = λ (r : Reader Node) (R : Rule Node) (p : All deep r Any R). all_weaker deep r Any NoOpen R (λ h s. tt) p in
      or_all deep _ NoOpen _ _
      (or_all deep _ NoOpen _ _
      (key g.literal_number start.Number (starts_by (g.int roles.Node) _ NoOpen (λ h. start_at h ≡ start.Number)
      (starts_int roles.Node Any (λ h. start_at h ≡ start.Number) (λ k. refl) refl))
      (any literal_number g.literal_number (at_levels deep literal_number Any g.literal_number (parses_literal_number 0))))
      (key g.named start.Name (starts_by (g.name roles.Node) _ NoOpen (λ h. start_at h ≡ start.Name)
      (starts_means name_at roles.Node Any (λ h. start_at h ≡ start.Name) name_starts_name))
      (named_all deep entry)))
      (key g.a_stencil start.Stencil (starts_with (token.Keyword words.Stencil) roles.Node _ NoOpen (λ h. start_at h ≡ start.Stencil) refl)
      (any a_stencil g.a_stencil (at_levels deep a_stencil Any g.a_stencil (parses_stencil 0))))

  -- what opens a level, each as the rule says
  levels_all : (U E : Rule Node) → All deep (open_level opening.Minus) NoOpen (g.negation U)
      → All deep (open_level opening.Group) NoOpen (g.group E) → All deep (open_level opening.Call) NoOpen (g.called E)
      → All deep (open_level opening.Select) NoOpen (g.selected E) → ((x : List ℕ) → All deep (entry x) NoOpen (g.entry_of E x))
      → All deep (by_key start_at (unary_by open_level entry)) NoOpen (leaf or g.opened U E or g.looked_up E)
  levels_all U E negated grouped called selected looked =
      let key = key_all start_at (unary_by open_level entry) deep NoOpen in
      or_all deep _ NoOpen _ _
      (or_all deep _ NoOpen _ _ leaf_all
      (or_all deep _ NoOpen _ _
      (or_all deep _ NoOpen _ _
      (or_all deep _ NoOpen _ _
      (key (g.negation U) (start.Opening opening.Minus)
      (starts_with (token.Punct marks.Minus) roles.Node _ NoOpen (λ h. start_at h ≡ start.Opening opening.Minus) refl) negated)
      (key (g.group E) (start.Opening opening.Group)
      (starts_with (token.Punct marks.OpenRound) roles.Plain _ NoOpen (λ h. start_at h ≡ start.Opening opening.Group) refl) grouped))
      (key (g.called E) (start.Opening opening.Call) (starts_by g.call _ NoOpen (λ h. start_at h ≡ start.Opening opening.Call)
      (starts_means call_at roles.Node Any (λ h. start_at h ≡ start.Opening opening.Call) call_starts_call)) called))
      (key (g.selected E) (start.Opening opening.Select)
      (starts_with (token.Keyword words.Select) roles.Node _ NoOpen (λ h. start_at h ≡ start.Opening opening.Select) refl) selected)))
      (key (g.looked_up E) start.Name (starts_by (g.name roles.Node) _ NoOpen (λ h. start_at h ≡ start.Name)
      (starts_means name_at roles.Node Any (λ h. start_at h ≡ start.Name) name_starts_name)) (looked_all deep entry E looked))

-- ---- the levels

leaf_has : HasText leaf
leaf_has = has_within g.literal_number leaf (λ text x p. inl (inl p)) (parses_literal_number 0).has

leaf_in_unary : (n : ℕ) → Within leaf (Unary n)
unfolding Unary
leaf_in_unary zero text x p = p
leaf_in_unary (suc n) text x p = inl (inl p)

unary_has : (n : ℕ) → HasText (Unary n)
unary_has n = has_within leaf (Unary n) (leaf_in_unary n) leaf_has

-- what a level that is opened stands for
abbrev Level : ℕ → Rule Node
Level n = g.opened (Unary n) (g.sums (g.product (Unary n)))

level_in_unary : (n : ℕ) → Within (Level n) (Unary (suc n))
unfolding Unary
level_in_unary n text x p = inl (inr p)

-- the rule of each opening
abbrev opened_rule : Rule Node → Rule Node → Opening → Rule Node
opened_rule U E opening.Minus = g.negation U
opened_rule U E opening.Group = g.group E
opened_rule U E opening.Call = g.called E
opened_rule U E opening.Select = g.selected E

opened_within : (U E : Rule Node) (o : Opening) → Within (opened_rule U E o) (g.opened U E)
opened_within U E opening.Minus text x p = inl (inl (inl p))
opened_within U E opening.Group text x p = inl (inl (inr p))
opened_within U E opening.Call text x p = inl (inr p)
opened_within U E opening.Select text x p = inr p

-- a rule that begins with a token goes on with it
going_by : {X : Type 0} (R : Rule X) (t : Token) (role : Role) (x : X) (Q : X → Rule Node) → R (tagged t role ∷ []) x → fits t ≡ true
    → HasText (Q x) → GoesOn (Then R Q) [] (Some t) (λ u. fits u.token ≡ true)
going_by R t role x Q first good q = record {
  next = tagged t role;
  more = q.text;
  value = q.value;
  ahead_is = refl;
  holds = good;
  rule =
      record { front = tagged t role ∷ []; back = q.text; value = x; parts = refl; first = first; second = q.rule };
}

going_with : (t : Token) (role : Role) (Q : Unit {0} → Rule Node) → fits t ≡ true → HasText (Q tt)
    → GoesOn (Then (token_rule t role) Q) [] (Some t) (λ u. fits u.token ≡ true)
going_with t role Q good q = going_by (token_rule t role) t role tt Q (record { text_is = refl; value = refl }) good q

goes_within : (R Q : Rule Node) (h : Option Token) (P : Tagged → Type 0) → Within R Q → GoesOn R [] h P → GoesOn Q [] h P
goes_within R Q h P up f =
    record { next = f.next; more = f.more; value = f.value; ahead_is = f.ahead_is; rule = up _ _ f.rule; holds = f.holds }

mark_has : (m : Punct) (role : Role) → HasText (g.mark m role)
mark_has m role = (parses_mark 0 m role).has

zero_many : (T : Node → Rule Node) (a : Node) → HasText (many T a)
zero_many T a = record { text = []; value = a; rule = record { which = 0; it = record { empty = refl; value = refl } } }

sum_has : HasText (g.sums (g.product (Unary 0)))
sum_has =
    then_has (g.product (Unary 0)) _ (then_has (Unary 0) _ (unary_has 0) (λ a. zero_many (g.product_more (Unary 0)) a))
    (λ a. zero_many (g.sum_more (g.product (Unary 0))) a)

closes : (f : Node → Node)
    → HasText (Then (g.sums (g.product (Unary 0))) (λ a. Then (g.mark marks.CloseRound roles.Plain) (λ _. Gives (f a))))
closes f = then_has _ _ sum_has (λ a. then_has _ _ (mark_has marks.CloseRound roles.Plain) (λ _. (parses_gives 0 (f a) Any).has))

-- an argument, and what is behind the comma
argument : (Q : Node → Rule Node) → ((a : Node) → HasText (Q a))
    → HasText (Then (g.sums (g.product (Unary 0))) (λ a. Then (g.mark marks.Comma roles.Plain) (λ _. Q a)))
argument Q has = then_has _ _ sum_has (λ a. then_has _ _ (mark_has marks.Comma roles.Plain) (λ _. has a))

-- the operands of a call
arguments_have : (c : CallOp) → HasText (g.arguments (g.sums (g.product (Unary 0))) c)
arguments_have (calls.Unary op) = then_has _ _ sum_has (λ a. (parses_gives 0 _ Any).has)
arguments_have (calls.Binary op) = argument _ (λ a. then_has _ _ sum_has (λ b. (parses_gives 0 _ Any).has))
arguments_have (calls.Ternary op) = argument _ (λ a. argument _ (λ b. then_has _ _ sum_has (λ c. (parses_gives 0 _ Any).has)))

-- a level that is opened has its place, if there is one more level
deep_by : (h : Option Token) (c : Option CallOp) (o : Opening) → call_at h ≡ c → start_by c h ≡ start.Opening o
    → GoesOn (Unary 1) [] h (λ t. fits t.token ≡ true)
deep_by (Some t) (Some c) o is e =
    goes_within (g.called (g.sums (g.product (Unary 0)))) (Unary 1) _ _ (λ text x p. level_in_unary 0 text x (inl (inr p)))
    (going_by g.call t roles.Node c _ (record { token = t; text_is = refl; means = is }) (call_good t c is)
    (then_has _ _ (mark_has marks.OpenRound roles.Plain) (λ _. then_has _ _ (arguments_have c) (λ a.
    then_has _ _ (mark_has marks.CloseRound roles.Plain) (λ _. (parses_gives 0 a Any).has)))))
deep_by None (Some c) o is e = absurd cc
deep_by (Some (token.Punct marks.Minus)) None o is e =
    goes_within (g.negation (Unary 0)) (Unary 1) _ _ (λ text x p. level_in_unary 0 text x (inl (inl (inl p))))
    (going_with (token.Punct marks.Minus) roles.Node _ refl (then_has _ _ (unary_has 0) (λ a. (parses_gives 0 _ Any).has)))
deep_by (Some (token.Punct marks.OpenRound)) None o is e =
    goes_within (g.group (g.sums (g.product (Unary 0)))) (Unary 1) _ _ (λ text x p. level_in_unary 0 text x (inl (inl (inr p))))
    (going_with (token.Punct marks.OpenRound) roles.Plain _ refl (closes (λ a. a)))
deep_by (Some (token.Keyword words.Select)) None o is e =
    goes_within (g.selected (g.sums (g.product (Unary 0)))) (Unary 1) _ _ (λ text x p. level_in_unary 0 text x (inr p))
    (going_with (token.Keyword words.Select) roles.Node _ refl (then_has _ _ (mark_has marks.OpenRound roles.Plain) (λ _.
    then_has _ _ sum_has (λ a. then_has _ _ (parses_relation 0).has (λ r. argument _ (λ b. argument _ (λ c. closes _)))))))
deep_by (Some t) None o is e = absurd cc
deep_by None None o is e = absurd cc

too_deep : (h : Option Token) (o : Opening) → start_at h ≡ start.Opening o → GoesOn (Unary 1) [] h (λ t. fits t.token ≡ true)
too_deep h o e = deep_by h (call_at h) o refl e

-- ---- names

closes_square : (f : Node → Node)
    → HasText (Then (g.sums (g.product (Unary 0))) (λ a. Then (g.mark marks.CloseSquare roles.Plain) (λ _. Gives (f a))))
closes_square f = then_has _ _ sum_has (λ a. then_has _ _ (mark_has marks.CloseSquare roles.Plain) (λ _. (parses_gives 0 (f a) Any).has))

-- what may stand behind a name: Q has the entries of tables
abbrev NameEnd : (List ℕ → Rule Node) → List ℕ → Rule Node
NameEnd Q x = g.name_end x or Q x

abbrev Named : (List ℕ → Rule Node) → Rule Node
Named Q = Then (g.name roles.Node) (NameEnd Q)

end_has : (Q : List ℕ → Rule Node) (x : List ℕ) → HasText (NameEnd Q x)
end_has Q x = has_within (Gives (variable x)) (NameEnd Q x) (λ text y p. inl (inr p)) (parses_gives 0 (variable x) Any).has

module _ (entry : List ℕ → Reader Node) (Q V : List ℕ → Rule Node)
    (opens : (x : List ℕ) (s : At) → is_mark_at marks.OpenSquare (head s.rest) ≡ true
    → Sound (entry x) (NameEnd Q x) (NameEnd V x) s (entry x s)) where
  behind_sound : (x : List ℕ) (s : At) → Sound (name_end entry x) (NameEnd Q x) (NameEnd V x) s (name_end entry x s)
  behind_sound x s =
      choose_when (is_mark_at marks.OpenRound) (read_end x) (choose (is_mark_at marks.OpenSquare) (entry x) (gives (variable x)))
      (NameEnd Q x) (NameEnd V x) s (is_mark_at marks.OpenRound (head s.rest)) refl
      (λ _. widen (read_end x) (g.read_end x) (g.read_end x) (NameEnd Q x) (NameEnd V x) s (read_end x s) (λ text y p. inl (inl p))
      (λ text y p. inl (inl p)) ((parses_read_end 0 x).sound s))
      (choose_when (is_mark_at marks.OpenSquare) (entry x) (gives (variable x)) (NameEnd Q x) (NameEnd V x) s
      (is_mark_at marks.OpenSquare (head s.rest)) refl (opens x s)
      (widen (gives (variable x)) (Gives (variable x)) (Gives (variable x)) (NameEnd Q x) (NameEnd V x) s (gives (variable x) s)
      (λ text y p. inl (inr p)) (λ text y p. inl (inr p)) ((parses_gives 0 (variable x) Any).sound s)))

  named_sound : (s : At) → Sound (named entry) (Named Q) (Named V) s (named entry s)
  unfolding named
  named_sound s =
      then_at (name roles.Node) (name_end entry) (g.name roles.Node) (g.name roles.Node) (NameEnd Q) (NameEnd V) s (name roles.Node s)
      (λ text x p. p) (end_has Q) (end_has V) ((parses_name 0 roles.Node).sound s) (λ b reads. behind_sound b.0 b.1)

-- no entry
abbrev none_of : List ℕ → Rule Node
none_of x text a = ⊥

named_within_leaf : Within (Named none_of) leaf
named_within_leaf text a p = by p.second
  where
    by : NameEnd none_of p.value p.back a → leaf text a
    by (inl q) = inl (inr (record { front = p.front; back = p.back; value = p.value; parts = p.parts; first = p.first; second = q }))
    by (inr q) = absurd q

named_within : (n : ℕ) → Within (Named (g.entry_of (g.sums (g.product (Unary n))))) (Unary (suc n))
unfolding Unary
named_within n text a p = by p.second
  where
    by : NameEnd (g.entry_of (g.sums (g.product (Unary n)))) p.value p.back a → Unary (suc n) text a
    by (inl q) = inl (inl (inl (inr (record {
      front = p.front;
      back = p.back;
      value = p.value;
      parts = p.parts;
      first = p.first;
      second = q;
    }))))
    by (inr q) = inr (record { front = p.front; back = p.back; value = p.value; parts = p.parts; first = p.first; second = q })

-- where no level is left, an entry has its place if there is one more
deep_entry : (x : List ℕ) (h : Option Token) → is_mark_at marks.OpenSquare h ≡ true
    → GoesOn (NameEnd (g.entry_of (g.sums (g.product (Unary 0)))) x) [] h (λ t. fits t.token ≡ true)
deep_entry x (Some (token.Punct marks.OpenSquare)) e =
    goes_within (g.entry_of (g.sums (g.product (Unary 0))) x) (NameEnd (g.entry_of (g.sums (g.product (Unary 0)))) x) _ _
    (λ text y p. inr p) (going_with (token.Punct marks.OpenSquare) roles.Plain _ refl (closes_square (lookup x)))
deep_entry x h e = absurd cc

stop_entry : (x : List ℕ) (s : At) → is_mark_at marks.OpenSquare (head s.rest) ≡ true
    → Sound (stop TooDeep) (NameEnd none_of x) (NameEnd (g.entry_of (g.sums (g.product (Unary 0)))) x) s (stop TooDeep s)
stop_entry x s e = record {
  text = [];
  last = s.rest;
  counts = s.counts;
  parts = refl;
  remaining = refl;
  few = refl;
  again = λ more e'. refl;
  more = [];
  value = variable x;
  begins = inl (inr (record { empty = refl; value = refl }));
  reaches = deep_entry x (head s.rest) e;
}

-- what opens no level, with any reader of levels
leaf_sound : (open_level : Opening → Reader Node) (entry : List ℕ → Reader Node) (R W : Rule Node) → Within leaf R → Within leaf W → (s : At)
    → ((o : Opening) → start_at (head s.rest) ≡ start.Opening o → Sound (open_level o) R W s (open_level o s))
    → Sound (named entry) R W s (named entry s) → (k : UnaryStart)
    → start_at (head s.rest) ≡ k → Sound (unary_by open_level entry k) R W s (unary_by open_level entry k s)
leaf_sound open_level entry R W up wide s opens names start.Number e =
    widen literal_number g.literal_number g.literal_number R W s (literal_number s) (λ text x p. up text x (inl (inl p)))
    (λ text x p. wide text x (inl (inl p))) ((parses_literal_number 0).sound s)
leaf_sound open_level entry R W up wide s opens names start.Name e = names
leaf_sound open_level entry R W up wide s opens names start.Stencil e =
    widen a_stencil g.a_stencil g.a_stencil R W s (a_stencil s) (λ text x p. up text x (inr p)) (λ text x p. wide text x (inr p))
    ((parses_stencil 0).sound s)
leaf_sound open_level entry R W up wide s opens names (start.Opening o) e = opens o e
leaf_sound open_level entry R W up wide s opens names start.Nothing e = refuse_sound R W (has_within leaf R up leaf_has) s

stop_deep : (s : At) (o : Opening) → start_at (head s.rest) ≡ start.Opening o → Sound (stop TooDeep) (Unary 0) (Unary 1) s (stop TooDeep s)
stop_deep s o e =
    let l = unary_has 0 in
    record {
      text = [];
      last = s.rest;
      counts = s.counts;
      parts = refl;
      remaining = refl;
      few = refl;
      again = λ more e'. refl;
      more = l.text;
      value = l.value;
      begins = l.rule;
      reaches = too_deep (head s.rest) o e;
    }

deep_all : (deep : Type 0) (R : Rule Node) → deep → All deep (stop TooDeep) NoOpen R
deep_all deep R d = record { read_all = λ c text rest x p s. inl (refl, d) }

zero_all : (m : ℕ) → All (0 < m) (unary_at 0) NoOpen (Unary m)
unfolding unary_at Unary
zero_all zero = leaf_all (0 < 0) (λ _. stop TooDeep) (λ _. stop TooDeep)
zero_all (suc m) =
    let D = 0 < suc m in
    let d : D = omega arith in
    levels_all D (λ _. stop TooDeep) (λ _. stop TooDeep) (Unary m) (g.sums (g.product (Unary m))) (deep_all D _ d) (deep_all D _ d)
    (deep_all D _ d) (deep_all D _ d) (λ x. deep_all D _ d)

zero_wider : Within (Unary 0) (Unary 1)
unfolding Unary
zero_wider text x p = inl (inl p)

zero_sound : (s : At) → Sound (unary_at 0) (Unary 0) (Unary 1) s (unary_at 0 s)
unfolding unary_at
zero_sound s =
    key_sound start_at (unary_by (λ _. stop TooDeep) (λ _. stop TooDeep)) (Unary 0) (Unary 1) s
    (leaf_sound (λ _. stop TooDeep) (λ _. stop TooDeep) (Unary 0) (Unary 1) (leaf_in_unary 0) (leaf_in_unary 1) s (stop_deep s)
    (widen (named (λ _. stop TooDeep)) (Named none_of) (Named (g.entry_of (g.sums (g.product (Unary 0))))) (Unary 0) (Unary 1) s
    (named (λ _. stop TooDeep) s) (λ text x p. leaf_in_unary 0 text x (named_within_leaf text x p)) (named_within 0)
    (named_sound (λ _. stop TooDeep) none_of (g.entry_of (g.sums (g.product (Unary 0)))) stop_entry s))
    (start_at (head s.rest)) refl)

zero_parses : Parses 0 (unary_at 0) NoOpen Unary
zero_parses = record { sound = zero_sound; wider = zero_wider; has = unary_has 0; all = zero_all }

module _ (n : ℕ) (reads : Parses n (unary_at n) NoOpen Unary) where
  abbrev E : ℕ → Rule Node
  E m = g.sums (g.product (Unary m))

  abbrev u : Reader Node
  u = unary_at n

  abbrev e : Reader Node
  e = sum_of (product_of (unary_at n))

  inner : Parses n e NoOperator (λ m. g.sums (g.product (Unary m)))
  inner = parses_sum n (product_of u) (λ m. g.product (Unary m)) (parses_product n u Unary reads)

  open_sound : (s : At) (o : Opening)
      → Sound (opened u e o) (opened_rule (Unary n) (E n) o) (opened_rule (Unary (suc n)) (E (suc n)) o) s (opened u e o s)
  open_sound s opening.Minus = (parses_negation n u Unary reads).sound s
  open_sound s opening.Group = (parses_group n e E inner).sound s
  open_sound s opening.Call = (parses_called n e E inner).sound s
  open_sound s opening.Select = (parses_selected n e E inner).sound s

  open_within : (s : At) (o : Opening) → Sound (opened u e o) (Unary (suc n)) (Unary (suc (suc n))) s (opened u e o s)
  open_within s o =
      widen (opened u e o) (opened_rule (Unary n) (E n) o) (opened_rule (Unary (suc n)) (E (suc n)) o) (Unary (suc n)) (Unary (suc (suc n)))
      s (opened u e o s)
      (λ text x p. level_in_unary n text x (opened_within (Unary n) (E n) o text x p))
      (λ text x p. level_in_unary (suc n) text x (opened_within (Unary (suc n)) (E (suc n)) o text x p))
      (open_sound s o)

  entries_sound : (x : List ℕ) (s : At) → is_mark_at marks.OpenSquare (head s.rest) ≡ true
      → Sound (entry_of e x) (NameEnd (g.entry_of (E n)) x) (NameEnd (g.entry_of (E (suc n))) x) s (entry_of e x s)
  entries_sound x s is =
      widen (entry_of e x) (g.entry_of (E n) x) (g.entry_of (E (suc n)) x) (NameEnd (g.entry_of (E n)) x) (NameEnd (g.entry_of (E (suc n))) x)
      s (entry_of e x s) (λ text y p. inr p) (λ text y p. inr p) ((parses_entry_of n e E inner x).sound s)

  names_sound : (s : At) → Sound (named (entry_of e)) (Unary (suc n)) (Unary (suc (suc n))) s (named (entry_of e) s)
  names_sound s =
      widen (named (entry_of e)) (Named (g.entry_of (E n))) (Named (g.entry_of (E (suc n)))) (Unary (suc n)) (Unary (suc (suc n))) s
      (named (entry_of e) s) (named_within n) (named_within (suc n))
      (named_sound (entry_of e) (g.entry_of (E n)) (g.entry_of (E (suc n))) entries_sound s)

  next_sound : (s : At) → Sound (unary_at (suc n)) (Unary (suc n)) (Unary (suc (suc n))) s (unary_at (suc n) s)
  unfolding unary_at
  next_sound s =
      key_sound start_at (unary_by (opened u e) (entry_of e)) (Unary (suc n)) (Unary (suc (suc n))) s
      (leaf_sound (opened u e) (entry_of e) (Unary (suc n)) (Unary (suc (suc n))) (leaf_in_unary (suc n)) (leaf_in_unary (suc (suc n))) s
      (λ o is. open_within s o) (names_sound s) (start_at (head s.rest)) refl)

  next_wider : Within (Unary (suc n)) (Unary (suc (suc n)))
  unfolding Unary
  next_wider =
      or_wider _ _ _ _
      (or_wider leaf _ leaf _ (λ text x p. p)
      (or_wider _ _ _ _
      (or_wider _ _ _ _
      (or_wider _ _ _ _
      (parses_negation n u Unary reads).wider
      (parses_group n e E inner).wider)
      (parses_called n e E inner).wider)
      (parses_selected n e E inner).wider))
      (then_wider (g.name roles.Node) (g.name roles.Node) (g.entry_of (E n)) (g.entry_of (E (suc n))) (λ text x p. p)
      (λ x. (parses_entry_of n e E inner x).wider))

  next_all : (m : ℕ) → All (suc n < m) (unary_at (suc n)) NoOpen (Unary m)
  unfolding unary_at Unary
  next_all zero = leaf_all (suc n < 0) (opened u e) (entry_of e)
  next_all (suc m) =
      let D = suc n < suc m in
      let up : n < m → D = λ less. omega (arith, less) in
      let any =
      λ (r : Reader Node) (R : Rule Node) (p : All (n < m) r Any R). deeper (n < m) D r NoOpen R up
      (all_weaker (n < m) r Any NoOpen R (λ h s. tt) p) in
      levels_all D (opened u e) (entry_of e) (Unary m) (E m)
      (deeper (n < m) D (negation u) NoOpen (g.negation (Unary m)) up ((parses_negation n u Unary reads).all m))
      (any (group e) (g.group (E m)) ((parses_group n e E inner).all m))
      (any (called e) (g.called (E m)) ((parses_called n e E inner).all m))
      (any (selected e) (g.selected (E m)) ((parses_selected n e E inner).all m))
      (λ x. any (entry_of e x) (g.entry_of (E m) x) ((parses_entry_of n e E inner x).all m))

  next_parses : Parses (suc n) (unary_at (suc n)) NoOpen Unary
  next_parses = record { sound = next_sound; wider = next_wider; has = unary_has (suc n); all = next_all }

pub parses_unary : (n : ℕ) → Parses n (unary_at n) NoOpen Unary
parses_unary zero = zero_parses
parses_unary (suc n) = next_parses n (parses_unary n)

pub parses_product_at : (n : ℕ) → Parses n (product_at n) NoFactor Product
unfolding product_at Product
parses_product_at n = parses_product n (unary_at n) Unary (parses_unary n)

pub parses_expression : (n : ℕ) → Parses n (expression_at n) NoOperator Expression
unfolding expression_at Expression
parses_expression n = parses_sum n (product_at n) Product (parses_product_at n)

-- ---- one turn of each loop

pub product_at_unroll : (n : ℕ) (a : Node) (s : At)
    → while is_factor_at (product_more (unary_at n)) a s
    ≡ choose is_factor_at (product_more (unary_at n) a >>= while is_factor_at (product_more (unary_at n))) (gives a) s
product_at_unroll n a s = product_unroll n (unary_at n) Unary (parses_unary n) a s

pub expression_unroll : (n : ℕ) (a : Node) (s : At)
    → while is_sign_at (sum_more (product_at n)) a s
    ≡ choose is_sign_at (sum_more (product_at n) a >>= while is_sign_at (sum_more (product_at n))) (gives a) s
expression_unroll n a s = sum_unroll n (product_at n) Product (parses_product_at n) a s

-- ---- a unary that begins with a name

pub names_at : (levels : ℕ) (s : At) → start_at (head s.rest) ≡ start.Name → unary_at levels s ≡ named (entry_at levels) s
unfolding unary_at
names_at zero s e = ap (λ k. unary_by (λ _. stop TooDeep) (λ _. stop TooDeep) k s) e
names_at (suc n) s e =
    ap (λ k. unary_by (opened (unary_at n) (sum_of (product_of (unary_at n)))) (entry_of (sum_of (product_of (unary_at n)))) k s) e
