-- What is counted in a text is what its tree has.
use Rattle.std.proofs.Common.{Bool, true, false, ◌≡◌, ℕ, zero, suc, ◌+◌, ◌≤◌, List, [], ◌∷◌, ◌++◌, Option, Some, None, refl, sym}
use Rattle.std.proofs.Common.{ap, subst, ◌∙◌, arith, inl, inr}
use Rattle.std.specs.Prelude.{if◌then◌else◌, nat_lt, All}
use Rattle.std.proofs.lemmas.List.Elements.{All-push}
use Rattle.std.proofs.lemmas.List.Sums.{sum_by_push, sum_by-cons}
use Rattle.pipe_tokens.specs.declared.token.Token.{Token}
use Rattle.pipe_tokens.specs.declared.token.Token.TheVariants as token
use Rattle.pipe_tokens.specs.declared.token.Keyword.TheVariants as words
use Rattle.pipe_tree.specs.declared.limits.TextCounts.{TextCounts}
use Rattle.pipe_tree.specs.declared.limits.Role.{Role}
use Rattle.pipe_tree.specs.declared.limits.Role.TheVariants as roles
use Rattle.pipe_tree.specs.declared.ahead.CallOp.{CallOp}
use Rattle.pipe_tree.specs.declared.ahead.CallOp.TheVariants as calls
use Rattle.pipe_tree.specs.declared.ahead.ProductOp.{ProductOp}
use Rattle.pipe_tree.specs.declared.ahead.ProductOp.TheVariants as factors
use Rattle.pipe_tree.specs.declared.tree.Names.{Names}
use Rattle.pipe_tree.specs.declared.tree.Names.TheVariants.{One, Three}
use Rattle.pipe_tree.specs.Limits.{Tagged, fits, counted, counted_next, counted_all, none_yet, most_levels}
use Rattle.pipe_tree.specs.Grammar as g
use Rattle.pipe_tree.specs.Grammar.{Rule, Then, Gives, Takes, Means, Some_of, many, times, ◌or◌}
use Rattle.pipe_tree.specs.Faults.{IsText}
use Rattle.pipe_tree.specs.Sizes.{Weights, nodes, stages, params, tables, cases, node_size, cases_size, optional_size, names_size}
use Rattle.pipe_tree.specs.Sizes.{item_size, size, KeepsLimits}
use Rattle.pipe_tree.specs.Tree.{Node, number, variable, read, lookup, unary, binary, ternary, literal, select, stencil, Branch}
use Rattle.pipe_tree.specs.Tree.{Function, Declaration, image, table, param, function, accumulator, output}
use Rattle.pipe_tree.proofs.Laws.{counted_all-append, counted_all-none}

-- ---- the weight of a text

abbrev pub role_weight : Weights → Role → ℕ
role_weight w roles.Node = w.node
role_weight w roles.Stage = w.stage
role_weight w roles.Param = w.param
role_weight w roles.Table = w.table
role_weight w roles.Function = w.function
role_weight w roles.Case = w.case
role_weight w roles.Plain = 0

abbrev pub weight : Weights → List Tagged → ℕ
weight w [] = 0
weight w (t ∷ text) = role_weight w t.role + weight w text

weight-append : (w : Weights) (a b : List Tagged) → weight w (a ++ b) ≡ weight w a + weight w b
weight-append w [] b = omega arith
weight-append w (t ∷ a) b = omega (arith, weight-append w a b)

module _ (w : Weights) where
  -- a text of the rule weighs what its value does
  abbrev Weighs : {X : Type 0} → Rule X → (X → ℕ) → Type 0
  Weighs {X} R h = (text : List Tagged) (x : X) → R text x → weight w text ≡ h x

  -- behind k, it makes up the value
  abbrev Adds : {X : Type 0} → ℕ → Rule X → (X → ℕ) → Type 0
  Adds {X} k R h = (text : List Tagged) (x : X) → R text x → k + weight w text ≡ h x

  adds : {X : Type 0} (R : Rule X) (h : X → ℕ) → Adds 0 R h → Weighs R h
  adds R h p text x q = omega (arith, p text x q)

  adds_after : {X : Type 0} (k : ℕ) (R : Rule X) (h : X → ℕ) → Weighs R h → Adds k R (λ x. k + h x)
  adds_after k R h p text x q = omega (arith, p text x q)

  -- one rule behind another
  both : {X Y : Type 0} (k : ℕ) (R : Rule X) (Q : X → Rule Y) (f : X → ℕ) (h : Y → ℕ) → Weighs R f → ((x : X) → Adds (k + f x) (Q x) h)
      → Adds k (Then R Q) h
  both k R Q f h first second text y p =
      omega (arith, ap (weight w) p.parts, weight-append w p.front p.back, first p.front p.value p.first, second p.value p.back y p.second)

  -- where the first, with what is before it, makes up a value
  behind : {X Y : Type 0} (k : ℕ) (R : Rule X) (Q : X → Rule Y) (f : X → ℕ) (h : Y → ℕ) → Adds k R f → ((x : X) → Adds (f x) (Q x) h)
      → Adds k (Then R Q) h
  behind k R Q f h first second text y p =
      omega (arith, ap (weight w) p.parts, weight-append w p.front p.back, first p.front p.value p.first, second p.value p.back y p.second)

  -- where the first weighs nothing
  light : {X Y : Type 0} (k : ℕ) (R : Rule X) (Q : X → Rule Y) (h : Y → ℕ) → Weighs R (λ _. 0) → ((x : X) → Adds k (Q x) h)
      → Adds k (Then R Q) h
  light k R Q h first second text y p =
      omega (arith, ap (weight w) p.parts, weight-append w p.front p.back, first p.front p.value p.first, second p.value p.back y p.second)

  gives : {X : Type 0} (k : ℕ) (x : X) (h : X → ℕ) → k ≡ h x → Adds k (Gives x) h
  gives k x h e text y p = omega (arith, ap (weight w) p.empty, ap h p.value, e)

  choice : {X : Type 0} (k : ℕ) (R Q : Rule X) (h : X → ℕ) → Adds k R h → Adds k Q h → Adds k (R or Q) h
  choice k R Q h p q text x (inl r) = p text x r
  choice k R Q h p q text x (inr r) = q text x r

  changed : {X : Type 0} (k k' : ℕ) (R : Rule X) (h : X → ℕ) → k ≡ k' → Adds k R h → Adds k' R h
  changed k k' R h e p text x q = omega (arith, e, p text x q)

  times_adds : {A : Type 0} (T : A → Rule A) (h : A → ℕ) → ((a : A) → Adds (h a) (T a) h) → (n : ℕ) (a : A) → Adds (h a) (times T n a) h
  times_adds T h each zero a = gives (h a) a h refl
  times_adds T h each (suc n) a =
      λ text y p. omega (
        arith,
        ap (weight w) p.parts,
        weight-append w p.front p.back,
        each a p.front p.value p.first,
        times_adds T h each n p.value p.back y p.second,
      )

  many_adds : {A : Type 0} (T : A → Rule A) (h : A → ℕ) → ((a : A) → Adds (h a) (T a) h) → (a : A) → Adds (h a) (many T a) h
  many_adds T h each a text x p = times_adds T h each p.which a text x p.it

  -- ---- tokens

  takes : {X : Type 0} (t : Token) (role : Role) (x : X) → Weighs (Takes t role x) (λ _. role_weight w role)
  takes t role x text y p = omega (arith, ap (weight w) p.text_is)

  means : {X : Type 0} (meaning : Option Token → Option X) (role : Role) → Weighs (Means meaning role) (λ _. role_weight w role)
  means meaning role text x p = omega (arith, ap (weight w) p.text_is)

  int : (role : Role) → Weighs (g.int role) (λ _. role_weight w role)
  int role text x (inl p) = omega (arith, ap (weight w) p.it.text_is)
  int role text x (inr p) = omega (arith, ap (weight w) p.text_is)

  -- ---- what weighs nothing

  sep : {X : Type 0} (S : Rule (Unit {0})) (R : Rule X) → Weighs S (λ _. 0) → Weighs R (λ _. 0) → Adds 0 (g.separated S R) (λ _. 0)
  sep S R s r =
      light 0 R _ (λ _. 0) r (λ x. many_adds (g.next_behind S R) (λ _. 0)
      (λ xs. light 0 S _ (λ _. 0) s (λ _. light 0 R _ (λ _. 0) r (λ y. gives 0 _ (λ _. 0) refl))) (x ∷ []))

  minus : Adds 0 g.minus (λ _. 0)
  minus = choice 0 _ _ _ (light 0 _ _ _ (takes _ roles.Plain _) (λ _. gives 0 true (λ _. 0) refl)) (gives 0 false (λ _. 0) refl)

  scaled_name : Adds 0 g.scaled_name (λ _. 0)
  scaled_name =
      choice 0 _ _ _
      (light 0 _ _ _ (int roles.Plain) (λ n. choice 0 _ _ _
      (light 0 _ _ _ (takes _ roles.Plain _) (λ _. light 0 _ _ _ (means _ roles.Plain) (λ x. gives 0 _ (λ _. 0) refl)))
      (gives 0 _ (λ _. 0) refl)))
      (light 0 _ _ _ (means _ roles.Plain) (λ x. gives 0 _ (λ _. 0) refl))

  affine : Adds 0 g.affine (λ _. 0)
  unfolding g.affine
  affine =
      light 0 _ _ _ (adds _ _ minus)
      (λ b. light 0 _ _ _ (adds _ _ (light 0 _ _ (λ _. 0) (adds _ _ scaled_name) (λ f. gives 0 _ (λ _. 0) refl)))
      (λ ts. many_adds g.next_term (λ _. 0)
      (λ us. light 0 _ _ _ (means _ roles.Plain) (λ c. light 0 _ _ _ (adds _ _ scaled_name) (λ f. gives 0 _ (λ _. 0) refl))) ts))

  span : Adds 0 g.span (λ _. 0)
  unfolding g.span
  span =
      light 0 _ _ _ (takes _ roles.Plain _) (λ _. light 0 _ _ _ (adds _ _ affine) (λ a. light 0 _ _ _ (takes _ roles.Plain _)
      (λ _. light 0 _ _ _ (adds _ _ affine) (λ b. light 0 _ _ _ (takes _ roles.Plain _) (λ _. gives 0 _ (λ _. 0) refl)))))

  a_variable : Adds 0 g.a_variable (λ _. 0)
  unfolding g.a_variable
  a_variable =
      light 0 _ _ _ (means _ roles.Plain)
      (λ x. light 0 _ _ _ (takes _ roles.Plain _) (λ _. light 0 _ _ _ (adds _ _ span) (λ s. gives 0 _ (λ _. 0) refl)))

  variables : Adds 0 g.variables (λ _. 0)
  unfolding g.variables
  variables =
      light 0 _ _ _ (takes _ roles.Plain _) (λ _. light 0 _ _ _ (adds _ _ a_variable) (λ r. light 0 _ _ _ (takes _ roles.Plain _)
      (λ _. light 0 _ _ _ (adds _ _ a_variable) (λ c. light 0 _ _ _ (takes _ roles.Plain _) (λ _. gives 0 _ (λ _. 0) refl)))))

  scaled : Adds 0 g.scaled (λ _. 0)
  scaled = choice 0 _ _ _
      (light 0 _ _ _ (int roles.Plain)
      (λ m. light 0 _ _ _ (takes _ roles.Plain _) (λ _. light 0 _ _ _ (means _ roles.Plain) (λ x. gives 0 _ (λ _. 0) refl))))
      (light 0 _ _ _ (means _ roles.Plain) (λ x. gives 0 _ (λ _. 0) refl))

  addend : Adds 0 g.addend (λ _. 0)
  addend =
      choice 0 _ _ _ (light 0 _ _ _ (means _ roles.Plain) (λ b. light 0 _ _ _ (int roles.Plain) (λ n. gives 0 _ (λ _. 0) refl)))
      (gives 0 _ (λ _. 0) refl)

  divisor : Adds 0 g.divisor (λ _. 0)
  divisor = light 0 _ _ (λ _. 0) (takes _ roles.Plain _) (λ _. adds_after 0 (g.int roles.Plain) (λ _. 0) (int roles.Plain))

  index : Adds 0 g.index (λ _. 0)
  unfolding g.index
  index = choice 0 _ _ _
      (light 0 _ _ _ (takes _ roles.Plain _) (λ _. light 0 _ _ _ (adds _ _ scaled) (λ f. light 0 _ _ _ (adds _ _ addend)
      (λ k. light 0 _ _ _ (takes _ roles.Plain _) (λ _. light 0 _ _ _ (adds _ _ divisor) (λ d. gives 0 _ (λ _. 0) refl))))))
      (light 0 _ _ _ (adds _ _ scaled) (λ f. choice 0 _ _ _
      (light 0 _ _ _ (adds _ _ divisor) (λ d. gives 0 _ (λ _. 0) refl))
      (light 0 _ _ _ (adds _ _ addend) (λ k. gives 0 _ (λ _. 0) refl))))

  entry : Adds 0 g.entry (λ _. 0)
  entry = light 0 _ _ _ (adds _ _ minus) (λ b. light 0 _ _ _ (int roles.Plain) (λ n. gives 0 _ (λ _. 0) refl))

  row : Adds 0 g.row (λ _. 0)
  unfolding g.row
  row =
      light 0 _ _ _ (takes _ roles.Plain _) (λ _. light 0 _ _ _ (adds _ _ (sep _ _ (takes _ roles.Plain _) (adds _ _ entry)))
      (λ es. light 0 _ _ _ (takes _ roles.Plain _) (λ _. gives 0 _ (λ _. 0) refl)))

  kernel : Adds 0 g.kernel (λ _. 0)
  unfolding g.kernel
  kernel =
      light 0 _ _ _ (takes _ roles.Plain _) (λ _. light 0 _ _ _ (adds _ _ (sep _ _ (takes _ roles.Plain _) (adds _ _ row)))
      (λ es. light 0 _ _ _ (takes _ roles.Plain _) (λ _. gives 0 _ (λ _. 0) refl)))

  condition : Adds 0 g.condition (λ _. 0)
  unfolding g.condition
  condition = sep _ _ (takes _ roles.Plain _) (adds _ _ (light 0 _ _ _ (means _ roles.Plain) (λ x. choice 0 _ _ _
      (light 0 _ _ _ (takes _ roles.Plain _) (λ _. light 0 _ _ _ (int roles.Plain)
      (λ m. light 0 _ _ _ (takes _ roles.Plain _) (λ _. light 0 _ _ _ (int roles.Plain) (λ r. gives 0 _ (λ _. 0) refl)))))
      (light 0 _ _ _ (means _ roles.Plain) (λ r. light 0 _ _ _ (adds _ _ affine) (λ b. gives 0 _ (λ _. 0) refl))))))

  -- ---- expressions

  abbrev node : Node → ℕ
  node = node_size w.node

  leaf : Adds 0 g.leaf node
  leaf = choice 0 _ _ _
      (choice 0 _ _ _
      (both 0 _ _ _ _ (int roles.Node) (λ n. gives _ _ node (omega arith)))
      (both 0 _ _ _ _ (means _ roles.Node) (λ x. choice _ _ _ _
      (light _ _ _ _ (takes _ roles.Plain _) (λ _. light _ _ _ _ (adds _ _ index) (λ i. light _ _ _ _ (takes _ roles.Plain _)
      (λ _. light _ _ _ _ (adds _ _ index) (λ j. light _ _ _ _ (takes _ roles.Plain _) (λ _. gives _ _ node (omega arith)))))))
      (gives _ _ node (omega arith)))))
      (both 0 _ _ _ _ (takes _ roles.Node _) (λ _. light _ _ _ _ (takes _ roles.Plain _) (λ _. light _ _ _ _ (means _ roles.Plain)
      (λ x. light _ _ _ _ (takes _ roles.Plain _) (λ _. light _ _ _ _ (int roles.Plain) (λ d. light _ _ _ _ (takes _ roles.Plain _)
      (λ _. light _ _ _ _ (adds _ _ kernel) (λ k. light _ _ _ _ (takes _ roles.Plain _) (λ _. gives _ _ node (omega arith))))))))))

  module _ (U : Rule Node) (strong : Weighs U node) where
    operand : (a : Node) (f : ProductOp) → Adds (node a + w.node) (g.operand U a f) node
    operand a factors.Times = both _ _ _ _ _ strong (λ b. gives _ _ node (omega arith))
    operand a (factors.Literal op) = light _ _ _ _ (int roles.Plain) (λ n. gives _ _ node (omega arith))

    product : Weighs (g.product U) node
    product =
        adds _ _ (both 0 _ _ _ _ strong (λ a. changed (node a) _ _ _ (omega arith)
        (many_adds (g.product_more U) node (λ b. both (node b) _ _ _ _ (means _ roles.Node) (λ f. operand b f)) a)))

    sums : Weighs (g.sums U) node
    sums =
        adds _ _ (both 0 _ _ _ _ strong (λ a. changed (node a) _ _ _ (omega arith) (many_adds (g.sum_more U) node
        (λ b. both (node b) _ _ _ _ (means _ roles.Node) (λ c. both _ _ _ _ _ strong (λ d. gives _ _ node (omega arith)))) a)))

  module _ (U E : Rule Node) (strong : Weighs U node) (inner : Weighs E node) where
    arguments : (c : CallOp) → Adds w.node (g.arguments E c) node
    arguments (calls.Unary op) = both _ _ _ _ _ inner (λ a. gives _ _ node (omega arith))
    arguments (calls.Binary op) =
        both _ _ _ _ _ inner (λ a. light _ _ _ _ (takes _ roles.Plain _)
        (λ _. both _ _ _ _ _ inner (λ b. gives _ _ node (omega arith))))
    arguments (calls.Ternary op) =
        both _ _ _ _ _ inner (λ a. light _ _ _ _ (takes _ roles.Plain _)
        (λ _. both _ _ _ _ _ inner (λ b. light _ _ _ _ (takes _ roles.Plain _)
        (λ _. both _ _ _ _ _ inner (λ c. gives _ _ node (omega arith))))))

    called : Adds 0 (g.called E) node
    called =
        both 0 _ _ _ _ (means _ roles.Node) (λ c. light _ _ _ _ (takes _ roles.Plain _)
        (λ _. behind _ _ _ node _ (changed w.node _ _ _ (omega arith) (arguments c)) (λ a. light _ _ _ _ (takes _ roles.Plain _)
        (λ _. gives _ _ node (omega arith)))))

    opened : Adds 0 (g.opened U E) node
    opened =
        choice 0 _ _ _ (choice 0 _ _ _ (choice 0 _ _ _
        (both 0 _ _ _ _ (takes _ roles.Node _) (λ _. both _ _ _ _ _ strong (λ a. gives _ _ node (omega arith))))
        (light 0 _ _ _ (takes _ roles.Plain _)
        (λ _. both _ _ _ _ _ inner (λ a. light _ _ _ _ (takes _ roles.Plain _) (λ _. gives _ _ node (omega arith))))))
        called)
        (both 0 _ _ _ _ (takes _ roles.Node _) (λ _. light _ _ _ _ (takes _ roles.Plain _) (λ _. both _ _ _ _ _ inner
        (λ a. light _ _ _ _ (means _ roles.Plain) (λ r. both _ _ _ _ _ inner (λ b. light _ _ _ _ (takes _ roles.Plain _)
        (λ _. both _ _ _ _ _ inner (λ c. light _ _ _ _ (takes _ roles.Plain _)
        (λ _. both _ _ _ _ _ inner (λ d. light _ _ _ _ (takes _ roles.Plain _) (λ _. gives _ _ node (omega arith))))))))))))

    looked : Adds 0 (g.looked_up E) node
    looked =
        both 0 _ _ _ _ (means _ roles.Node) (λ x. light _ _ _ _ (takes _ roles.Plain _) (λ _. both _ _ _ _ _ inner
        (λ a. light _ _ _ _ (takes _ roles.Plain _) (λ _. gives _ _ node (omega arith)))))

  unaries : (m : ℕ) → Weighs (g.Unary m) node
  unfolding g.Unary
  unaries zero = adds _ _ leaf
  unaries (suc m) =
      adds _ _ (choice 0 _ _ _ (choice 0 _ _ _ leaf
      (opened (g.Unary m) (g.sums (g.product (g.Unary m))) (unaries m) (sums (g.product (g.Unary m)) (product (g.Unary m) (unaries m)))))
      (looked (g.Unary m) (g.sums (g.product (g.Unary m))) (unaries m) (sums (g.product (g.Unary m)) (product (g.Unary m) (unaries m)))))

  expression : (m : ℕ) → Weighs (g.Expression m) node
  unfolding g.Expression g.Product
  expression m = sums (g.product (g.Unary m)) (product (g.Unary m) (unaries m))

  -- ---- items

  names : (role : Role) → Weighs (g.names role) (names_size (role_weight w role))
  names role = adds _ _ (both 0 _ _ _ _ (means _ role) (λ x. choice _ _ _ _
      (light _ _ _ _ (takes _ roles.Plain _) (λ _. both _ _ _ _ _ (means _ role) (λ y. light _ _ _ _ (takes _ roles.Plain _)
      (λ _. both _ _ _ _ _ (means _ role) (λ z. gives _ _ (names_size (role_weight w role)) (omega arith))))))
      (gives _ _ (names_size (role_weight w role)) (omega arith))))

  value : (m : ℕ) → Weighs (g.value m) node
  value m =
      adds _ _ (light 0 _ _ _ (takes _ roles.Plain _)
      (λ _. both 0 _ _ _ _ (expression m) (λ e. light _ _ _ _ (takes _ roles.Plain _) (λ _. gives _ _ node (omega arith)))))

  a_case : (m : ℕ) (cs : List Branch) → Adds (cases_size w cs) (g.a_case m cs) (cases_size w)
  a_case m cs =
      both _ _ _ _ _ (takes _ roles.Case _) (λ _. light _ _ _ _ (adds _ _ condition) (λ c. both _ _ _ _ _ (value m) (λ e.
      gives _ _ (cases_size w)
      (omega (arith, sum_by_push (λ (b : Branch). w.case + node_size w.node b.value) cs (record { condition = c; value = e }))))))

  otherwise : (m : ℕ) → Weighs (g.otherwise m) (optional_size w.node)
  otherwise m =
      adds _ _ (choice 0 _ _ _
      (light 0 _ _ _ (takes _ roles.Plain _) (λ _. both 0 _ _ _ _ (value m) (λ e. gives _ _ (optional_size w.node) (omega arith))))
      (gives 0 _ (optional_size w.node) refl))

  a_param : Weighs g.a_param (λ _. w.param)
  a_param =
      adds _ _ (light 0 _ _ _ (takes _ roles.Plain _) (λ _. both 0 _ _ _ _ (means _ roles.Param)
      (λ x. light _ _ _ _ (takes _ roles.Plain _) (λ _. gives _ _ (λ _. w.param) (omega arith)))))

  a_table : Weighs g.a_table (λ _. w.table)
  a_table =
      adds _ _ (light 0 _ _ _ (takes _ roles.Plain _) (λ _. both 0 _ _ _ _ (means _ roles.Table) (λ x. light _ _ _ _ (adds _ _ span)
      (λ s. light _ _ _ _ (takes _ roles.Plain _) (λ _. gives _ _ (λ _. w.table) (omega arith))))))

  an_image : Weighs g.an_image (λ i. names_size w.stage i.names)
  unfolding g.an_image
  an_image =
      adds _ _ (light 0 _ _ _ (takes _ roles.Plain _) (λ _. both 0 _ _ _ _ (names roles.Stage) (λ ns. light _ _ _ _ (takes _ roles.Plain _)
      (λ _. light _ _ _ _ (adds _ _ affine) (λ a. light _ _ _ _ (takes _ roles.Plain _) (λ _. light _ _ _ _ (adds _ _ affine)
      (λ b. light _ _ _ _ (takes _ roles.Plain _)
      (λ _. light _ _ _ _ (takes _ roles.Plain _) (λ _. gives _ _ (λ i. names_size w.stage i.names) (omega arith))))))))))

  a_function : (m : ℕ) → Weighs (g.a_function m) (λ f. item_size w (function f))
  unfolding g.a_function
  a_function m =
      adds _ _ (both 0 _ _ _ _ (takes _ roles.Function _) (λ _. both _ _ _ _ _ (means _ roles.Stage)
      (λ x. light _ _ _ _ (adds _ _ variables) (λ vs. light _ _ _ _ (takes _ roles.Plain _) (λ _.
      both _ _ _ (cases_size w) _ (adds _ _ (changed (cases_size w []) 0 _ _ refl (many_adds (g.a_case m) (cases_size w) (a_case m) [])))
      (λ cs. both _ _ _ _ _ (otherwise m)
      (λ e. light _ _ _ _ (takes _ roles.Plain _) (λ _. gives _ _ (λ f. item_size w (function f)) (omega arith)))))))))

  an_accumulator : (m : ℕ) → Weighs (g.an_accumulator m) (λ a. item_size w (accumulator a))
  unfolding g.an_accumulator
  an_accumulator m =
      adds _ _ (light 0 _ _ _ (takes _ roles.Plain _) (λ _. both 0 _ _ _ _ (means _ roles.Stage) (λ x. light _ _ _ _ (adds _ _ span)
      (λ bs. light _ _ _ _ (takes _ roles.Plain _)
      (λ _. light _ _ _ _ (adds _ _ variables) (λ vs. light _ _ _ _ (means _ roles.Plain) (λ f.
      both _ _ _ _ _ (expression m) (λ v. light _ _ _ _ (takes _ roles.Plain _) (λ _. both _ _ _ _ _ (expression m)
      (λ b. light _ _ _ _ (takes _ roles.Plain _) (λ _. gives _ _ (λ a. item_size w (accumulator a)) (omega arith))))))))))))

  no_names : (ns : Names) → 0 + names_size 0 ns ≡ 0
  no_names (One x) = refl
  no_names (Three x y z) = refl

  an_output : Weighs g.an_output (λ _. 0)
  an_output =
      adds _ _ (light 0 _ _ _ (takes _ roles.Plain _) (λ _. both 0 _ _ _ _ (names roles.Plain) (λ ns. light _ _ _ _ (takes _ roles.Plain _)
      (λ _. light _ _ _ _ (int roles.Plain) (λ n. light _ _ _ _ (takes _ roles.Plain _) (λ _. gives _ _ (λ _. 0) (no_names ns)))))))

  -- one more item
  pushed : (items : List Declaration) (d : Declaration) (k : ℕ) → k ≡ item_size w d → size w items + k ≡ size w (items ++ d ∷ [])
  pushed items d k e = omega (arith, e, sum_by_push (item_size w) items d)

  other : (m : ℕ) (items : List Declaration) → Adds (size w items) (g.other m items) (size w)
  other m items =
      choice _ _ _ _ (choice _ _ _ _ (choice _ _ _ _ (choice _ _ _ _
      (both _ _ _ _ _ a_param (λ p. gives _ _ (size w) (pushed items (param p) _ refl)))
      (both _ _ _ _ _ (a_function m) (λ f. gives _ _ (size w) (pushed items (function f) _ refl))))
      (both _ _ _ _ _ (an_accumulator m) (λ a. gives _ _ (size w) (pushed items (accumulator a) _ refl))))
      (both _ _ _ _ _ (λ text o p. an_output text o p.it) (λ o. gives _ _ (size w) (pushed items (output o) _ refl))))
      (both _ _ _ _ _ a_table (λ t. gives _ _ (size w) (pushed items (table t) _ refl)))

  pub program_weighs : (m : ℕ) → Weighs (g.Program m) (size w)
  unfolding g.Program
  program_weighs m =
      adds _ _ (both 0 _ _ (size w) _ (adds _ _ (changed (size w []) 0 _ _ refl (many_adds (g.other m) (size w) (other m) [])))
      (λ before. both _ _ _ _ _ an_image (λ i.
      changed (size w (before ++ image i ∷ [])) _ _ _ (sym (pushed before (image i) _ refl) ∙ omega arith)
      (many_adds (g.other m) (size w) (other m) (before ++ image i ∷ [])))))

-- ---- what is counted

abbrev functions : Weights
functions = record { node = 0; stage = 0; param = 0; table = 0; function = 1; case = 0 }

-- one more token
record Steps (role : Role) (c d : TextCounts) : Type 0 where
  more_nodes : c.nodes + role_weight nodes role ≡ d.nodes
  more_stages : c.stages + role_weight stages role ≡ d.stages
  more_params : c.params + role_weight params role ≡ d.params
  more_tables : c.tables + role_weight tables role ≡ d.tables
  few_nodes : c.nodes ≤ 4096 → d.nodes ≤ 4096
  few_stages : c.stages ≤ 64 → d.stages ≤ 64
  few_params : c.params ≤ 64 → d.params ≤ 64
  few_tables : c.tables ≤ 16 → d.tables ≤ 16

some_is : {X : Type 0} (x y : X) → Some x ≡ Some y → x ≡ y
some_is x y e = cc

step_if : (role : Role) (c e d : TextCounts) (b : Bool) → (if b then Some e else None) ≡ Some d → (b ≡ true → Steps role c e) → Steps role c d
step_if role c e d true is s = subst (λ (q : TextCounts). Steps role c q) (some_is e d is) (s refl)
step_if role c e d false is s = absurd cc

step : (role : Role) (c d : TextCounts) → counted role c ≡ Some d → Steps role c d
step roles.Plain c d e =
    subst (λ (q : TextCounts). Steps roles.Plain c q) (some_is c d e) (record {
      more_nodes =
          omega arith;
      more_stages = omega arith;
      more_params = omega arith;
      more_tables = omega arith;
      few_nodes = λ h. h;
      few_stages = λ h. h;
      few_params = λ h. h;
      few_tables = λ h. h;
    })
step roles.Node c d e =
    step_if roles.Node c (record c { nodes = c.nodes + 1 }) d (nat_lt c.nodes 4096) e (λ less. record {
      more_nodes =
          omega arith;
      more_stages =
          omega arith;
      more_params = omega arith;
      more_tables = omega arith;
      few_nodes = λ h. grind (arith, less);
      few_stages = λ h. h;
      few_params = λ h. h;
      few_tables = λ h. h;
    })
step roles.Stage c d e =
    step_if roles.Stage c (record c { stages = c.stages + 1 }) d (nat_lt c.stages 64) e (λ less. record {
      more_nodes =
          omega arith;
      more_stages =
          omega arith;
      more_params = omega arith;
      more_tables = omega arith;
      few_nodes = λ h. h;
      few_stages = λ h. grind (arith, less);
      few_params = λ h. h;
      few_tables = λ h. h;
    })
step roles.Param c d e =
    step_if roles.Param c (record c { params = c.params + 1 }) d (nat_lt c.params 64) e (λ less. record {
      more_nodes =
          omega arith;
      more_stages =
          omega arith;
      more_params = omega arith;
      more_tables = omega arith;
      few_nodes = λ h. h;
      few_stages = λ h. h;
      few_params = λ h. grind (arith, less);
      few_tables = λ h. h;
    })
step roles.Table c d e =
    step_if roles.Table c (record c { tables = c.tables + 1 }) d (nat_lt c.tables 16) e (λ less. record {
      more_nodes =
          omega arith;
      more_stages =
          omega arith;
      more_params = omega arith;
      more_tables = omega arith;
      few_nodes = λ h. h;
      few_stages = λ h. h;
      few_params = λ h. h;
      few_tables = λ h. grind (arith, less);
    })
step roles.Function c d e =
    subst (λ (q : TextCounts). Steps roles.Function c q) (some_is (record c { cases = 0 }) d e) (record {
      more_nodes =
          omega arith;
      more_stages = omega arith;
      more_params = omega arith;
      more_tables = omega arith;
      few_nodes = λ h. h;
      few_stages = λ h. h;
      few_params = λ h. h;
      few_tables = λ h. h;
    })
step roles.Case c d e =
    step_if roles.Case c (record c { cases = c.cases + 1 }) d (nat_lt c.cases 16) e (λ less. record {
      more_nodes =
          omega arith;
      more_stages = omega arith;
      more_params = omega arith;
      more_tables = omega arith;
      few_nodes = λ h. h;
      few_stages = λ h. h;
      few_params = λ h. h;
      few_tables = λ h. h;
    })

next_step : (t : Tagged) (c d : TextCounts) (b : Bool) → (if b then counted t.role c else None) ≡ Some d → Steps t.role c d
next_step t c d true e = step t.role c d e
next_step t c d false e = absurd cc

-- a text within the limits weighs no more than they allow
record Few (c : TextCounts) (text : List Tagged) : Type 0 where
  few_nodes : c.nodes ≤ 4096 → c.nodes + weight nodes text ≤ 4096
  few_stages : c.stages ≤ 64 → c.stages + weight stages text ≤ 64
  few_params : c.params ≤ 64 → c.params + weight params text ≤ 64
  few_tables : c.tables ≤ 16 → c.tables + weight tables text ≤ 16

few_next : (t : Tagged) (text : List Tagged) (c d : TextCounts) → Steps t.role c d → Few d text → Few c (t ∷ text)
few_next t text c d s f = record {
  few_nodes = λ h. omega (arith, s.more_nodes, f.few_nodes (s.few_nodes h));
  few_stages = λ h. omega (arith, s.more_stages, f.few_stages (s.few_stages h));
  few_params = λ h. omega (arith, s.more_params, f.few_params (s.few_params h));
  few_tables = λ h. omega (arith, s.more_tables, f.few_tables (s.few_tables h));
}

few_by : (t : Tagged) (text : List Tagged) (c d : TextCounts) → ((c1 : TextCounts) → counted_all (Some c1) text ≡ Some d → Few c1 text)
    → (o : Option TextCounts) → counted_next (Some c) t ≡ o → counted_all o text ≡ Some d → Few c (t ∷ text)
few_by t text c d others None is e = let never = counted_all-none text in absurd cc
few_by t text c d others (Some c1) is e = few_next t text c c1 (next_step t c c1 (fits t.token) is) (others c1 e)

few : (text : List Tagged) (c d : TextCounts) → counted_all (Some c) text ≡ Some d → Few c text
few [] c d e = record {
  few_nodes = λ h. omega (arith, h);
  few_stages = λ h. omega (arith, h);
  few_params = λ h. omega (arith, h);
  few_tables = λ h. omega (arith, h);
}
few (t ∷ text) c d e = few_by t text c d (λ c1 later. few text c1 d later) (counted_next (Some c) t) refl e

-- ---- the cases of one function

no_node : (a : Node) → node_size 0 a ≡ 0
no_node (number n) = refl
no_node (variable x) = refl
no_node (read x i j) = refl
no_node (unary op a) = omega (arith, no_node a)
no_node (binary op a b) = omega (arith, no_node a, no_node b)
no_node (literal op a n) = omega (arith, no_node a)
no_node (lookup x a) = omega (arith, no_node a)
no_node (ternary op a b c) = omega (arith, no_node a, no_node b, no_node c)
no_node (select a r b c d) = omega (arith, no_node a, no_node b, no_node c, no_node d)
no_node (stencil x d k) = refl

-- behind a token that begins no function
case_if : (c e d : TextCounts) (b : Bool) → (if b then Some e else None) ≡ Some d → e.cases ≡ c.cases → c.cases ≡ d.cases
case_if c e d true is same = sym same ∙ ap (λ (q : TextCounts). q.cases) (some_is e d is)
case_if c e d false is same = absurd cc

-- one more token, which begins no function
record Case (role : Role) (c d : TextCounts) : Type 0 where
  more : c.cases + role_weight cases role ≡ d.cases
  few : c.cases ≤ 16 → d.cases ≤ 16

kept : (role : Role) (c d : TextCounts) → role_weight cases role ≡ 0 → c.cases ≡ d.cases → Case role c d
kept role c d light same = record { more = omega (arith, light, same); few = λ h. omega (arith, same, h) }

case_more : (c d : TextCounts) (b : Bool) → nat_lt c.cases 16 ≡ b → (if b then Some (record c { cases = c.cases + 1 }) else None) ≡ Some d
    → Case roles.Case c d
case_more c d true less e =
    let same = ap (λ (q : TextCounts). q.cases) (some_is (record c { cases = c.cases + 1 }) d e) in
    record { more = omega (arith, same); few = λ h. grind (arith, less, same) }
case_more c d false less e = absurd cc

case_step : (role : Role) (c d : TextCounts) → role_weight functions role ≡ 0 → counted role c ≡ Some d → Case role c d
case_step roles.Plain c d f e = kept roles.Plain c d refl (ap (λ (q : TextCounts). q.cases) (some_is c d e))
case_step roles.Node c d f e = kept roles.Node c d refl (case_if c (record c { nodes = c.nodes + 1 }) d (nat_lt c.nodes 4096) e refl)
case_step roles.Stage c d f e = kept roles.Stage c d refl (case_if c (record c { stages = c.stages + 1 }) d (nat_lt c.stages 64) e refl)
case_step roles.Param c d f e = kept roles.Param c d refl (case_if c (record c { params = c.params + 1 }) d (nat_lt c.params 64) e refl)
case_step roles.Table c d f e = kept roles.Table c d refl (case_if c (record c { tables = c.tables + 1 }) d (nat_lt c.tables 16) e refl)
case_step roles.Function c d f e = absurd (omega (arith, f))
case_step roles.Case c d f e = case_more c d (nat_lt c.cases 16) refl e

case_next : (t : Tagged) (c d : TextCounts) (b : Bool) → role_weight functions t.role ≡ 0 → (if b then counted t.role c else None) ≡ Some d
    → Case t.role c d
case_next t c d true f e = case_step t.role c d f e
case_next t c d false f e = absurd cc

few_cases_by : (t : Tagged) (text : List Tagged) (c d : TextCounts) → role_weight functions t.role ≡ 0 → c.cases ≤ 16
    → ((c1 : TextCounts) → counted_all (Some c1) text ≡ Some d → c1.cases ≤ 16 → c1.cases + weight cases text ≤ 16) → (o : Option TextCounts)
    → counted_next (Some c) t ≡ o → counted_all o text ≡ Some d → c.cases + weight cases (t ∷ text) ≤ 16
few_cases_by t text c d f h others None is e = let never = counted_all-none text in absurd cc
few_cases_by t text c d f h others (Some c1) is e =
    let s = case_next t c c1 (fits t.token) f is in omega (arith, s.more, others c1 e (s.few h))

few_cases : (text : List Tagged) (c d : TextCounts) → weight functions text ≡ 0 → counted_all (Some c) text ≡ Some d → c.cases ≤ 16
    → c.cases + weight cases text ≤ 16
few_cases [] c d f e h = omega (arith, h)
few_cases (t ∷ text) c d f e h =
    few_cases_by t text c d (omega (arith, f)) h (λ c1 later h1. few_cases text c1 d (omega (arith, f)) later h1) (counted_next (Some c) t)
    refl e

-- behind a function's word
few_behind : (t : Token) (text : List Tagged) (c d : TextCounts) (b : Bool) → fits t ≡ b
    → counted_all (if b then Some (record c { cases = 0 }) else None) text ≡ Some d → weight functions text ≡ 0 → weight cases text ≤ 16
few_behind t text c d true good e f = omega (arith, few_cases text (record c { cases = 0 }) d f e (omega arith))
few_behind t text c d false good e f = let never = counted_all-none text in absurd cc

no_cases : (cs : List Branch) → cases_size functions cs ≡ 0
no_cases [] = refl
no_cases (b ∷ cs) = omega (arith, sum_by-cons (λ (q : Branch). 0 + node_size 0 q.value) b cs, no_node b.value, no_cases cs)

no_option : (o : Option Node) → optional_size 0 o ≡ 0
no_option None = refl
no_option (Some a) = no_node a

function_cases : (m : ℕ) (text : List Tagged) (f : Function) (c d : TextCounts) → g.a_function m text f → counted_all (Some c) text ≡ Some d
    → item_size cases (function f) ≤ 16
unfolding g.a_function
function_cases m text f c d p e =
    let t = p.first.text_is in
    let whole = p.parts ∙ ap (λ (l : List Tagged). l ++ p.back) t in
    let heavy = a_function functions m text f p in
    let cased = a_function cases m text f p in
    let light : weight functions p.back ≡ 0 = omega (arith, ap (weight functions) whole, heavy, no_cases f.cases, no_option f.otherwise) in
    let counted_back = sym (ap (counted_all (Some c)) whole) ∙ e in
    omega (arith, ap (weight cases) whole, cased, few_behind (token.Keyword words.Func) p.back c d true refl counted_back light)

-- ---- all items

split : (a b : List Tagged) (c d : TextCounts) (o : Option TextCounts) → counted_all (Some c) a ≡ o → counted_all o b ≡ Some d
    → (c1 : TextCounts) × (counted_all (Some c) a ≡ Some c1) × (counted_all (Some c1) b ≡ Some d)
split a b c d None is e = let never = counted_all-none b in absurd cc
split a b c d (Some c1) is e = (c1, is, e)

split_text : (text a b : List Tagged) (c d : TextCounts) → text ≡ a ++ b → counted_all (Some c) text ≡ Some d
    → (c1 : TextCounts) × (counted_all (Some c) a ≡ Some c1) × (counted_all (Some c1) b ≡ Some d)
split_text text a b c d is e =
    split a b c d (counted_all (Some c) a) refl (sym (counted_all-append (Some c) a b) ∙ sym (ap (counted_all (Some c)) is) ∙ e)

abbrev FewCases : Declaration → Type 0
FewCases item = item_size cases item ≤ 16

other_cases : (m : ℕ) (items : List Declaration) (text : List Tagged) (x : List Declaration) (c d : TextCounts) → g.other m items text x
    → counted_all (Some c) text ≡ Some d → All FewCases items → All FewCases x
other_cases m items text x c d (inl (inl (inl (inl p)))) e all =
    subst (All FewCases) (sym p.second.value) (All-push FewCases items (param p.value) all (omega arith))
other_cases m items text x c d (inl (inl (inl (inr p)))) e all =
    let s = split_text text p.front p.back c d p.parts e in
    subst (All FewCases) (sym p.second.value)
    (All-push FewCases items (function p.value) all (function_cases m p.front p.value c s.0 p.first s.1))
other_cases m items text x c d (inl (inl (inr p))) e all =
    subst (All FewCases) (sym p.second.value)
    (All-push FewCases items (accumulator p.value) all (omega (arith, no_node p.value.value, no_node p.value.bin)))
other_cases m items text x c d (inl (inr p)) e all =
    subst (All FewCases) (sym p.second.value) (All-push FewCases items (output p.value) all (omega arith))
other_cases m items text x c d (inr p) e all =
    subst (All FewCases) (sym p.second.value) (All-push FewCases items (table p.value) all (omega arith))

times_cases : (m n : ℕ) (items : List Declaration) (text : List Tagged) (x : List Declaration) (c d : TextCounts)
    → times (g.other m) n items text x → counted_all (Some c) text ≡ Some d → All FewCases items → All FewCases x
times_cases m zero items text x c d p e all = subst (All FewCases) (sym p.value) all
times_cases m (suc n) items text x c d p e all =
    let s = split_text text p.front p.back c d p.parts e in
    times_cases m n p.value p.back x s.0 d p.second s.2 (other_cases m items p.front p.value c s.0 p.first s.1 all)

no_image_cases : (ns : Names) → names_size 0 ns ≤ 16
no_image_cases (One x) = omega arith
no_image_cases (Three x y z) = omega arith

program_cases : (m : ℕ) (text : List Tagged) (x : List Declaration) (c d : TextCounts) → g.Program m text x → counted_all (Some c) text ≡ Some d
    → All FewCases x
unfolding g.Program
program_cases m text x c d p e =
    let s = split_text text p.front p.back c d p.parts e in
    let q = p.second in
    let r = split_text p.back q.front q.back s.0 d q.parts s.2 in
    let before = times_cases m p.first.which [] p.front p.value c s.0 p.first.it s.1 (λ k e less. absurd (omega (arith, less))) in
    times_cases m q.second.which (p.value ++ image q.value ∷ []) q.back x r.0 d q.second.it r.2
    (All-push FewCases p.value (image q.value) before (no_image_cases q.value.names))

pub keeps_limits : (bytes : List ℕ) (tree : List Declaration) → IsText bytes tree → KeepsLimits tree
keeps_limits bytes tree is =
    let t = is.text in
    let f = few t.text none_yet t.counts t.few in
    record {
      few_nodes = omega (arith, program_weighs nodes most_levels t.text tree t.program, f.few_nodes (omega arith));
      few_stages = omega (arith, program_weighs stages most_levels t.text tree t.program, f.few_stages (omega arith));
      few_params = omega (arith, program_weighs params most_levels t.text tree t.program, f.few_params (omega arith));
      few_tables = omega (arith, program_weighs tables most_levels t.text tree t.program, f.few_tables (omega arith));
      few_cases = program_cases most_levels t.text tree none_yet t.counts t.program t.few;
    }
