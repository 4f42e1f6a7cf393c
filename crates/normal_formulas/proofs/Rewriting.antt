-- Formulas that may stand for others: in steps, and part by part.
use Rattle.std.proofs.Common.{ℕ, ℤ, ◌≡◌, List, ◌++◌, ap, refl, sym, subst, ◌∙◌}
use Rattle.std.specs.Prelude.{All, if◌then◌else◌, Result, Ok, Err, OnOk}
use Rattle.std.proofs.lemmas.List.Elements.{All-append}
use Rattle.operators.specs.declared.operator.UnaryOp.{UnaryOp}
use Rattle.operators.specs.declared.operator.BinaryOp.{BinaryOp}
use Rattle.operators.specs.declared.operator.TernaryOp.{TernaryOp}
use Rattle.operators.specs.declared.operator.LiteralOp.{LiteralOp}
use Rattle.operators.specs.declared.operator.Relation.{Relation}
use Rattle.tables.specs.Entries.{Entries, entry_at}
use Rattle.job.specs.Formula.{Formula, unary, binary, ternary, literal, lookup, select}
use Rattle.job.specs.Values.{formula_value, unary_value, binary_value, ternary_value, literal_value, is_related}
use Rattle.job.specs.Reads.{Read, reads_in, stage_read, EachTaken}
use Rattle.job.proofs.Agreeing.{All-left, All-right}
use Rattle.normal_formulas.specs.Rewrites.{Fits32, Rewrites}
use Rattle.normal_formulas.proofs.Standing.{Stands, stands, rewrites}

-- ---- steps

pub as_it_is : (f : Formula) → Stands f f
as_it_is f =
    record {
      formula = λ is. is;
      value = λ env r c is rows columns fit. refl;
      reads = λ P r c each. each;
      stages = λ P is each. each;
      back = λ P is each. each;
    }

pub in_steps : (f g h : Formula) → Stands f g → Stands g h → Stands f h
in_steps f g h x y =
    record {
      formula = λ is. y.formula (x.formula is);
      value = λ env r c is rows columns fit.
          y.value env r c (x.formula is) rows columns (x.reads (Fits32 env) r c fit) ∙ x.value env r c is rows columns fit;
      reads = λ P r c each. y.reads P r c (x.reads P r c each);
      stages = λ P is each. y.stages P (x.formula is) (x.stages P is each);
      back = λ P is each. x.back P is (y.back P (x.formula is) each);
    }

-- ---- two lists

module _ (P : Read → Type 0) (xs ys us vs : List Read) where
  pub both_lists : (All P xs → All P us) → (All P ys → All P vs) → All P (xs ++ ys) → All P (us ++ vs)
  both_lists f g each = All-append P us vs (f (All-left P xs ys each)) (g (All-right P xs ys each))

-- ---- parts

pub in_unary : (op : UnaryOp) (a b : Formula) → Stands a b → Stands (unary op a) (unary op b)
in_unary op a b x =
    record {
      formula = x.formula;
      value = λ env r c is rows columns fit. ap (unary_value op) (x.value env r c is rows columns fit);
      reads = x.reads;
      stages = x.stages;
      back = x.back;
    }

pub in_literal : (op : LiteralOp) (n : ℕ) (a b : Formula) → Stands a b → Stands (literal op a n) (literal op b n)
in_literal op n a b x =
    record {
      formula = λ is. (is.0, x.formula is.1);
      value = λ env r c is rows columns fit. ap (λ (z : ℤ). literal_value op z n) (x.value env r c is.1 rows columns fit);
      reads = x.reads;
      stages = λ P is each. x.stages P is.1 each;
      back = λ P is each. x.back P is.1 each;
    }

pub in_lookup : (t : Entries) (a b : Formula) → Stands a b → Stands (lookup t a) (lookup t b)
in_lookup t a b x =
    record {
      formula = λ is. (is.0, x.formula is.1);
      value = λ env r c is rows columns fit. ap (entry_at t) (x.value env r c is.1 rows columns fit);
      reads = x.reads;
      stages = λ P is each. x.stages P is.1 each;
      back = λ P is each. x.back P is.1 each;
    }

-- the left part of two
binary_left : (op : BinaryOp) (a b p : Formula) → Stands a b → Stands (binary op a p) (binary op b p)
binary_left op a b p x =
    record {
      formula = λ is. (x.formula is.0, is.1);
      value = λ env r c is rows columns fit.
          ap (λ (z : ℤ). binary_value op z (formula_value env p r c))
          (x.value env r c is.0 rows columns (All-left (λ y. EachTaken (Fits32 env) y r c) (reads_in a) (reads_in p) fit));
      reads = λ P r c.
          both_lists (λ y. EachTaken P y r c) (reads_in a) (reads_in p) (reads_in b) (reads_in p) (x.reads P r c) (λ each. each);
      stages = λ P is.
          both_lists (λ y. P (stage_read y)) (reads_in a) (reads_in p) (reads_in b) (reads_in p) (x.stages P is.0) (λ each. each);
      back = λ P is.
          both_lists (λ y. P (stage_read y)) (reads_in b) (reads_in p) (reads_in a) (reads_in p) (x.back P is.0) (λ each. each);
    }

binary_right : (op : BinaryOp) (a b p : Formula) → Stands a b → Stands (binary op p a) (binary op p b)
binary_right op a b p x =
    record {
      formula = λ is. (is.0, x.formula is.1);
      value = λ env r c is rows columns fit.
          ap (binary_value op (formula_value env p r c))
          (x.value env r c is.1 rows columns (All-right (λ y. EachTaken (Fits32 env) y r c) (reads_in p) (reads_in a) fit));
      reads = λ P r c.
          both_lists (λ y. EachTaken P y r c) (reads_in p) (reads_in a) (reads_in p) (reads_in b) (λ each. each) (x.reads P r c);
      stages = λ P is.
          both_lists (λ y. P (stage_read y)) (reads_in p) (reads_in a) (reads_in p) (reads_in b) (λ each. each) (x.stages P is.1);
      back = λ P is.
          both_lists (λ y. P (stage_read y)) (reads_in p) (reads_in b) (reads_in p) (reads_in a) (λ each. each) (x.back P is.1);
    }

pub in_binary : (op : BinaryOp) (a b p q : Formula) → Stands a b → Stands p q → Stands (binary op a p) (binary op b q)
in_binary op a b p q x y = in_steps (binary op a p) (binary op b p) (binary op b q) (binary_left op a b p x) (binary_right op p q b y)

pub in_ternary : (op : TernaryOp) (a b p q u v : Formula) → Stands a b → Stands p q → Stands u v
    → Stands (ternary op a p u) (ternary op b q v)
in_ternary op a b p q u v x y z =
    record {
      formula = λ is. (x.formula is.0, y.formula is.1, z.formula is.2);
      value = λ env r c is rows columns fit.
          let Q : Read → Type 0 = λ w. EachTaken (Fits32 env) w r c in
          let front : All Q (reads_in a ++ reads_in p) = All-left Q (reads_in a ++ reads_in p) (reads_in u) fit in
          ap (λ (w : ℤ). ternary_value op w (formula_value env q r c) (formula_value env v r c))
          (x.value env r c is.0 rows columns (All-left Q (reads_in a) (reads_in p) front))
          ∙ ap (λ (w : ℤ). ternary_value op (formula_value env a r c) w (formula_value env v r c))
          (y.value env r c is.1 rows columns (All-right Q (reads_in a) (reads_in p) front))
          ∙ ap (λ (w : ℤ). ternary_value op (formula_value env a r c) (formula_value env p r c) w)
          (z.value env r c is.2 rows columns (All-right Q (reads_in a ++ reads_in p) (reads_in u) fit));
      reads = λ P r c.
          let Q : Read → Type 0 = λ w. EachTaken P w r c in
          both_lists Q (reads_in a ++ reads_in p) (reads_in u) (reads_in b ++ reads_in q) (reads_in v)
          (both_lists Q (reads_in a) (reads_in p) (reads_in b) (reads_in q) (x.reads P r c) (y.reads P r c)) (z.reads P r c);
      stages = λ P is.
          let Q : Read → Type 0 = λ w. P (stage_read w) in
          both_lists Q (reads_in a ++ reads_in p) (reads_in u) (reads_in b ++ reads_in q) (reads_in v)
          (both_lists Q (reads_in a) (reads_in p) (reads_in b) (reads_in q) (x.stages P is.0) (y.stages P is.1)) (z.stages P is.2);
      back = λ P is.
          let Q : Read → Type 0 = λ w. P (stage_read w) in
          both_lists Q (reads_in b ++ reads_in q) (reads_in v) (reads_in a ++ reads_in p) (reads_in u)
          (both_lists Q (reads_in b) (reads_in q) (reads_in a) (reads_in p) (x.back P is.0) (y.back P is.1)) (z.back P is.2);
    }

-- one of two numbers by a comparison
abbrev chosen : Relation → ℤ → ℤ → ℤ → ℤ → ℤ
chosen relation x y first second = if is_related relation x y then first else second

pub in_select : (relation : Relation) (a b p q u v m n : Formula) → Stands a b → Stands p q → Stands u v → Stands m n
    → Stands (select a relation p u m) (select b relation q v n)
in_select relation a b p q u v m n x y z t =
    record {
      formula = λ is. (x.formula is.0, y.formula is.1, z.formula is.2, t.formula is.3);
      value = λ env r c is rows columns fit.
          let Q : Read → Type 0 = λ w. EachTaken (Fits32 env) w r c in
          let three : All Q (reads_in a ++ reads_in p ++ reads_in u) =
          All-left Q (reads_in a ++ reads_in p ++ reads_in u) (reads_in m) fit in
          let two : All Q (reads_in a ++ reads_in p) = All-left Q (reads_in a ++ reads_in p) (reads_in u) three in
          ap (λ (w : ℤ). chosen relation w (formula_value env q r c) (formula_value env v r c) (formula_value env n r c))
          (x.value env r c is.0 rows columns (All-left Q (reads_in a) (reads_in p) two))
          ∙ ap (λ (w : ℤ). chosen relation (formula_value env a r c) w (formula_value env v r c) (formula_value env n r c))
          (y.value env r c is.1 rows columns (All-right Q (reads_in a) (reads_in p) two))
          ∙ ap (λ (w : ℤ). chosen relation (formula_value env a r c) (formula_value env p r c) w (formula_value env n r c))
          (z.value env r c is.2 rows columns (All-right Q (reads_in a ++ reads_in p) (reads_in u) three))
          ∙ ap (λ (w : ℤ). chosen relation (formula_value env a r c) (formula_value env p r c) (formula_value env u r c) w)
          (t.value env r c is.3 rows columns (All-right Q (reads_in a ++ reads_in p ++ reads_in u) (reads_in m) fit));
      reads = λ P r c.
          let Q : Read → Type 0 = λ w. EachTaken P w r c in
          both_lists Q (reads_in a ++ reads_in p ++ reads_in u) (reads_in m) (reads_in b ++ reads_in q ++ reads_in v) (reads_in n)
          (both_lists Q (reads_in a ++ reads_in p) (reads_in u) (reads_in b ++ reads_in q) (reads_in v)
          (both_lists Q (reads_in a) (reads_in p) (reads_in b) (reads_in q) (x.reads P r c) (y.reads P r c)) (z.reads P r c)) (t.reads P r c);
      stages = λ P is.
          let Q : Read → Type 0 = λ w. P (stage_read w) in
          both_lists Q (reads_in a ++ reads_in p ++ reads_in u) (reads_in m) (reads_in b ++ reads_in q ++ reads_in v) (reads_in n)
          (both_lists Q (reads_in a ++ reads_in p) (reads_in u) (reads_in b ++ reads_in q) (reads_in v)
          (both_lists Q (reads_in a) (reads_in p) (reads_in b) (reads_in q) (x.stages P is.0) (y.stages P is.1)) (z.stages P is.2))
          (t.stages P is.3);
      back = λ P is.
          let Q : Read → Type 0 = λ w. P (stage_read w) in
          both_lists Q (reads_in b ++ reads_in q ++ reads_in v) (reads_in n) (reads_in a ++ reads_in p ++ reads_in u) (reads_in m)
          (both_lists Q (reads_in b ++ reads_in q) (reads_in v) (reads_in a ++ reads_in p) (reads_in u)
          (both_lists Q (reads_in b) (reads_in q) (reads_in a) (reads_in p) (x.back P is.0) (y.back P is.1)) (z.back P is.2))
          (t.back P is.3);
    }

-- ---- the same, as contracts say it

pub same : (f g : Formula) → g ≡ f → Rewrites f g
same f g e = subst (Rewrites f) (sym e) (rewrites f f (as_it_is f))

pub steps : (f g h : Formula) → Rewrites f g → Rewrites g h → Rewrites f h
steps f g h x y = rewrites f h (in_steps f g h (stands f g x) (stands g h y))

pub unary_part : (op : UnaryOp) (a b : Formula) → Rewrites a b → Rewrites (unary op a) (unary op b)
unary_part op a b x = rewrites (unary op a) (unary op b) (in_unary op a b (stands a b x))

pub literal_part : (op : LiteralOp) (n : ℕ) (a b : Formula) → Rewrites a b → Rewrites (literal op a n) (literal op b n)
literal_part op n a b x = rewrites (literal op a n) (literal op b n) (in_literal op n a b (stands a b x))

pub lookup_part : (t : Entries) (a b : Formula) → Rewrites a b → Rewrites (lookup t a) (lookup t b)
lookup_part t a b x = rewrites (lookup t a) (lookup t b) (in_lookup t a b (stands a b x))

pub binary_parts : (op : BinaryOp) (a b p q : Formula) → Rewrites a b → Rewrites p q → Rewrites (binary op a p) (binary op b q)
binary_parts op a b p q x y = rewrites (binary op a p) (binary op b q) (in_binary op a b p q (stands a b x) (stands p q y))

pub ternary_parts : (op : TernaryOp) (a b p q u v : Formula) → Rewrites a b → Rewrites p q → Rewrites u v
    → Rewrites (ternary op a p u) (ternary op b q v)
ternary_parts op a b p q u v x y z =
    rewrites (ternary op a p u) (ternary op b q v) (in_ternary op a b p q u v (stands a b x) (stands p q y) (stands u v z))

pub select_parts : (relation : Relation) (a b p q u v m n : Formula) → Rewrites a b → Rewrites p q → Rewrites u v → Rewrites m n
    → Rewrites (select a relation p u m) (select b relation q v n)
select_parts relation a b p q u v m n x y z t =
    rewrites (select a relation p u m) (select b relation q v n)
    (in_select relation a b p q u v m n (stands a b x) (stands p q y) (stands u v z) (stands m n t))

pub from_same : (f g h : Formula) → f ≡ g → Rewrites g h → Rewrites f h
from_same f g h e x = subst (λ (y : Formula). Rewrites y h) (sym e) x

-- what follows from what a clause says of an Ok with no value
pub on_ok_then : {X Y : Type 0} {P Q : Type 0} (r : Result X Y) → OnOk r P → (P → Q) → OnOk r Q
on_ok_then (Ok x) p f = f p
on_ok_then (Err e) p f = tt
