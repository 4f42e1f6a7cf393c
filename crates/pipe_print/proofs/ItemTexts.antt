-- The canonical texts of items and programs.
use Rattle.std.proofs.Common.{◌≡◌, ℕ, List, [], ◌∷◌, ◌++◌, Option, sym, ap, ◌∙◌, append_assoc, inl, inr}
use Rattle.std.specs.List.{flat_map}
use Rattle.std.proofs.lemmas.List.{append-nil}
use Rattle.pipe_tokens.specs.declared.token.Token.{Token}
use Rattle.pipe_tokens.specs.declared.token.Token.TheVariants as token
use Rattle.pipe_tokens.specs.declared.token.Keyword.TheVariants as word
use Rattle.pipe_tree.specs.declared.tree.Test.{Test}
use Rattle.pipe_tree.specs.declared.tree.Names.{Names}
use Rattle.pipe_tree.specs.declared.tree.Param.{Param}
use Rattle.pipe_tree.specs.declared.tree.Image.{Image}
use Rattle.pipe_tree.specs.declared.tree.Table.{Table}
use Rattle.pipe_tree.specs.declared.tree.Output.{Output}
use Rattle.pipe_tree.specs.declared.tree.Variable.{Variable}
use Rattle.pipe_tree.specs.Limits.{Tagged}
use Rattle.pipe_tree.specs.Tree.{Node, Branch, Function, Accumulator, Declaration, param, image, table, function, accumulator, output}
use Rattle.pipe_tree.specs.Grammar.{names, a_param, a_table, an_image, variables, a_test, condition, value, a_case, otherwise, a_function}
use Rattle.pipe_tree.specs.Grammar.{an_accumulator, an_output, FirstOutput, other, Program}
use Rattle.pipe_print.specs.Canonical as c
use Rattle.pipe_print.specs.Canonical.{names_tokens, variables_tokens, test_tokens, condition_tokens, value_tokens, case_tokens}
use Rattle.pipe_print.specs.Canonical.{otherwise_tokens, param_tokens, table_tokens, image_tokens, function_tokens, accumulator_tokens}
use Rattle.pipe_print.specs.Canonical.{output_tokens, item_tokens, canonical_tokens}
use Rattle.pipe_print.proofs.Printed.{Printed, chain, gives, takes, relabel, becomes, Adds, adds_one, many_adds, flat_map-append}
use Rattle.pipe_print.proofs.SingleTokens.{name_printed, relation_printed, fold_printed, int_printed}
use Rattle.pipe_print.proofs.AffineTexts.{affine_printed, span_printed, variable_printed}
use Rattle.pipe_print.proofs.IndexTexts.{separated_printed}
use Rattle.pipe_print.proofs.ExpressionTexts.{expression_printed}

-- ---- names

names_printed : {role : _} (text : List Tagged) (ns : Names) → names role text ns → Printed (names role) ns (names_tokens ns) text
names_printed text ns p = elim p.second [
  | inl q ↦
      let r = q.second in
      let s = r.second in
      let u = s.second in
      relabel (ap names_tokens (sym u.second.value))
      (chain p (name_printed p.first) (becomes (λ t k. inl k) (chain q (takes q.first)
      (chain r (name_printed r.first) (chain s (takes s.first) (chain u (name_printed u.first) (gives u.second)))))))
  | inr q ↦ relabel (ap names_tokens (sym q.value)) (chain p (name_printed p.first) (becomes (λ t k. inr k) (gives q)))
]

-- ---- items that have no expressions

param_printed : (text : List Tagged) (x : Param) → a_param text x → Printed a_param x (param_tokens x) text
param_printed text x p1 =
    let p2 = p1.second in
    let p3 = p2.second in
    relabel (ap param_tokens (sym p3.second.value))
    (chain p1 (takes p1.first) (chain p2 (name_printed p2.first) (chain p3 (takes p3.first) (gives p3.second))))

table_printed : (text : List Tagged) (x : Table) → a_table text x → Printed a_table x (table_tokens x) text
table_printed text x p1 =
    let p2 = p1.second in
    let p3 = p2.second in
    let p4 = p3.second in
    relabel (ap table_tokens (sym p4.second.value))
    (chain p1 (takes p1.first) (chain p2 (name_printed p2.first)
    (chain p3 (span_printed p3.front p3.value p3.first) (chain p4 (takes p4.first) (gives p4.second)))))

image_printed : (text : List Tagged) (x : Image) → an_image text x → Printed an_image x (image_tokens x) text
unfolding an_image
image_printed text x p1 =
    let p2 = p1.second in
    let p3 = p2.second in
    let p4 = p3.second in
    let p5 = p4.second in
    let p6 = p5.second in
    let p7 = p6.second in
    let p8 = p7.second in
    relabel (ap image_tokens (sym p8.second.value))
    (chain p1 (takes p1.first) (chain p2 (names_printed p2.front p2.value p2.first)
    (chain p3 (takes p3.first) (chain p4 (affine_printed p4.front p4.value p4.first)
    (chain p5 (takes p5.first) (chain p6 (affine_printed p6.front p6.value p6.first)
    (chain p7 (takes p7.first) (chain p8 (takes p8.first) (gives p8.second)))))))))

output_printed : (text : List Tagged) (x : Output) → an_output text x → Printed an_output x (output_tokens x) text
output_printed text x p1 =
    let p2 = p1.second in
    let p3 = p2.second in
    let p4 = p3.second in
    let p5 = p4.second in
    relabel (ap output_tokens (sym p5.second.value))
    (chain p1 (takes p1.first) (chain p2 (names_printed p2.front p2.value p2.first)
    (chain p3 (takes p3.first) (chain p4 (int_printed p4.first) (chain p5 (takes p5.first) (gives p5.second))))))

variables_printed : (text : List Tagged) (vs : Variable × Variable) → variables text vs
    → Printed variables vs (variables_tokens vs.0 vs.1) text
unfolding variables
variables_printed text vs p1 =
    let p2 = p1.second in
    let p3 = p2.second in
    let p4 = p3.second in
    let p5 = p4.second in
    relabel (ap (λ (vs : Variable × Variable). variables_tokens vs.0 vs.1) (sym p5.second.value))
    (chain p1 (takes p1.first) (chain p2 (variable_printed p2.front p2.value p2.first)
    (chain p3 (takes p3.first) (chain p4 (variable_printed p4.front p4.value p4.first) (chain p5 (takes p5.first) (gives p5.second))))))

-- ---- conditions

test_printed : (text : List Tagged) (t : Test) → a_test text t → Printed a_test t (test_tokens t) text
test_printed text t p = elim p.second [
  | inl q1 ↦
      let q2 = q1.second in
      let q3 = q2.second in
      let q4 = q3.second in
      relabel (ap test_tokens (sym q4.second.value))
      (chain p (name_printed p.first) (becomes (λ t k. inl k) (chain q1 (takes q1.first)
      (chain q2 (int_printed q2.first) (chain q3 (takes q3.first) (chain q4 (int_printed q4.first) (gives q4.second)))))))
  | inr q1 ↦
      let q2 = q1.second in
      relabel (ap (λ (l : List Token). c.name p.value ++ (c.mark (c.relation_mark q1.value) ++ l)) (append-nil (c.affine_tokens q2.value))
      ∙ ap test_tokens (sym q2.second.value))
      (chain p (name_printed p.first) (becomes (λ t k. inr k)
      (chain q1 (relation_printed q1.first) (chain q2 (affine_printed q2.front q2.value q2.first) (gives q2.second)))))
]

condition_printed : (text : List Tagged) (tests : List Test) → condition text tests → Printed condition tests (condition_tokens tests) text
unfolding condition
condition_printed text tests p = separated_printed (token.Keyword word.And) a_test test_tokens test_printed text tests p

-- ---- items with expressions

module _ (levels : ℕ) where
  value_printed : (text : List Tagged) (e : Node) → value levels text e → Printed (value levels) e (value_tokens e) text
  value_printed text e p1 =
      let p2 = p1.second in
      let p3 = p2.second in
      relabel (ap value_tokens (sym p3.second.value)) (chain p1 (takes p1.first)
      (chain p2 (expression_printed levels p2.front p2.value p2.first) (chain p3 (takes p3.first) (gives p3.second))))

  case_adds : (cases more : List Branch) (text : List Tagged) → a_case levels cases text more
      → Adds (a_case levels cases) case_tokens cases text more
  case_adds cases more text p1 =
      let p2 = p1.second in
      let p3 = p2.second in
      adds_one (record { condition = p2.value; value = p3.value }) p3.second.value
      (relabel (ap (λ (l : List Token). c.word word.Case ++ (condition_tokens p2.value ++ l)) (append-nil (value_tokens p3.value)))
      (chain p1 (takes p1.first) (chain p2 (condition_printed p2.front p2.value p2.first)
      (chain p3 (value_printed p3.front p3.value p3.first) (gives p3.second)))))

  otherwise_printed : (text : List Tagged) (e : Option Node) → otherwise levels text e
      → Printed (otherwise levels) e (otherwise_tokens e) text
  otherwise_printed text e (inl p1) =
      let p2 = p1.second in
      relabel
      (ap (λ (l : List Token). c.word word.Else ++ l) (append-nil (value_tokens p2.value)) ∙ ap otherwise_tokens (sym p2.second.value))
      (becomes (λ t k. inl k) (chain p1 (takes p1.first) (chain p2 (value_printed p2.front p2.value p2.first) (gives p2.second))))
  otherwise_printed text e (inr p) = relabel (ap otherwise_tokens (sym p.value)) (becomes (λ t k. inr k) (gives p))

  function_printed : (text : List Tagged) (f : Function) → a_function levels text f → Printed (a_function levels) f (function_tokens f) text
  unfolding a_function
  function_printed text f p1 =
      let p2 = p1.second in
      let p3 = p2.second in
      let p4 = p3.second in
      let p5 = p4.second in
      let p6 = p5.second in
      let p7 = p6.second in
      let cases = many_adds (a_case levels) case_tokens case_adds [] p5.value p5.front p5.first in
      relabel (ap function_tokens (sym p7.second.value))
      (chain p1 (takes p1.first)
      (chain p2 (name_printed p2.first) (chain p3 (variables_printed p3.front p3.value p3.first) (chain p4 (takes p4.first)
      (chain p5 (relabel (ap (flat_map case_tokens) (sym cases.list)) cases.printed)
      (chain p6 (otherwise_printed p6.front p6.value p6.first) (chain p7 (takes p7.first) (gives p7.second))))))))

  accumulator_printed : (text : List Tagged) (a : Accumulator) → an_accumulator levels text a
      → Printed (an_accumulator levels) a (accumulator_tokens a) text
  unfolding an_accumulator
  accumulator_printed text a p1 =
      let p2 = p1.second in
      let p3 = p2.second in
      let p4 = p3.second in
      let p5 = p4.second in
      let p6 = p5.second in
      let p7 = p6.second in
      let p8 = p7.second in
      let p9 = p8.second in
      let p10 = p9.second in
      relabel (ap accumulator_tokens (sym p10.second.value))
      (chain p1 (takes p1.first) (chain p2 (name_printed p2.first) (chain p3 (span_printed p3.front p3.value p3.first)
      (chain p4 (takes p4.first) (chain p5 (variables_printed p5.front p5.value p5.first)
      (chain p6 (fold_printed p6.first) (chain p7 (expression_printed levels p7.front p7.value p7.first) (chain p8 (takes p8.first)
      (chain p9 (expression_printed levels p9.front p9.value p9.first) (chain p10 (takes p10.first) (gives p10.second)))))))))))

  -- ---- programs

  first_output : (items : List Declaration) (text : List Tagged) (o : Output) → FirstOutput items text o
      → Printed (FirstOutput items) o (output_tokens o) text
  first_output items text o p = becomes (λ t k. record { no_other = p.no_other; it = k }) (output_printed text o p.it)

  other_adds : (items more : List Declaration) (text : List Tagged) → other levels items text more
      → Adds (other levels items) item_tokens items text more
  other_adds items more text (inl (inl (inl (inl p)))) =
      adds_one (param p.value) p.second.value (relabel (append-nil (param_tokens p.value))
      (becomes (λ t k. inl (inl (inl (inl k)))) (chain p (param_printed p.front p.value p.first) (gives p.second))))
  other_adds items more text (inl (inl (inl (inr p)))) =
      adds_one (function p.value) p.second.value (relabel (append-nil (function_tokens p.value))
      (becomes (λ t k. inl (inl (inl (inr k)))) (chain p (function_printed p.front p.value p.first) (gives p.second))))
  other_adds items more text (inl (inl (inr p))) =
      adds_one (accumulator p.value) p.second.value (relabel (append-nil (accumulator_tokens p.value))
      (becomes (λ t k. inl (inl (inr k))) (chain p (accumulator_printed p.front p.value p.first) (gives p.second))))
  other_adds items more text (inl (inr p)) =
      adds_one (output p.value) p.second.value (relabel (append-nil (output_tokens p.value))
      (becomes (λ t k. inl (inr k)) (chain p (first_output items p.front p.value p.first) (gives p.second))))
  other_adds items more text (inr p) =
      adds_one (table p.value) p.second.value (relabel (append-nil (table_tokens p.value))
      (becomes (λ t k. inr k) (chain p (table_printed p.front p.value p.first) (gives p.second))))

  -- A program's canonical text is read with as many levels.
  pub program_printed : (text : List Tagged) (tree : List Declaration) → Program levels text tree
      → Printed (Program levels) tree (canonical_tokens tree) text
  unfolding Program
  program_printed text tree p =
      let q = p.second in
      let before = many_adds (other levels) item_tokens other_adds [] p.value p.front p.first in
      let items : List Declaration = p.value ++ image q.value ∷ [] in
      let behind = many_adds (other levels) item_tokens other_adds items tree q.back q.second in
      let list : canonical_tokens tree ≡ canonical_tokens p.value ++ (image_tokens q.value ++ canonical_tokens behind.added) =
      ap canonical_tokens (behind.list ∙ append_assoc p.value (image q.value ∷ []) behind.added)
      ∙ flat_map-append item_tokens p.value (image q.value ∷ behind.added) in
      relabel (sym list)
      (chain p (relabel (ap canonical_tokens (sym before.list)) before.printed)
      (chain q (image_printed q.front q.value q.first) behind.printed))
