-- Formulas that may stand for others in a job: in steps, and part by part.
use Rattle.std.proofs.Common.{ℕ, ℤ, ◌≡◌, List, ◌++◌, ap, refl, sym, subst, ◌∙◌}
use Rattle.std.specs.Prelude.{All, if◌then◌else◌}
use Rattle.std.proofs.lemmas.List.Elements.{All-weaker}
use Rattle.operators.specs.declared.operator.UnaryOp.{UnaryOp}
use Rattle.operators.specs.declared.operator.BinaryOp.{BinaryOp}
use Rattle.operators.specs.declared.operator.TernaryOp.{TernaryOp}
use Rattle.operators.specs.declared.operator.LiteralOp.{LiteralOp}
use Rattle.operators.specs.declared.operator.Relation.{Relation}
use Rattle.tables.specs.Entries.{Entries, entry_at}
use Rattle.domains.specs.Index.{index_at}
use Rattle.job.specs.Formula.{Formula, unary, binary, ternary, literal, lookup, select}
use Rattle.job.specs.Pipeline.{Pipeline}
use Rattle.job.specs.Values.{formula_value, unary_value, binary_value, ternary_value, literal_value, is_related, value, kernel_row, kernel_column}
use Rattle.job.specs.Reads.{Read, point, window, reads_in, EachTaken}
use Rattle.job.specs.WellFormed.{IsJob, IsReadable}
use Rattle.job.proofs.Agreeing.{All-left, All-right}
use Rattle.job.proofs.Solving.{value_fits}
use Rattle.normal_formulas.specs.Rewrites.{Fits32, Rewrites}
use Rattle.normal_formulas.proofs.Standing.{Stands, stands}
use Rattle.normal_formulas.proofs.Rewriting.{both_lists}
use Rattle.joined_formulas.specs.StandsIn.{StandsIn}
use Rattle.joined_formulas.specs.Joins.{Joins}
use Rattle.joined_formulas.specs.declared.known.StageFormula.{StageFormula}

module _ (job : Pipeline) where
  -- a read takes what has a value
  abbrev IsTaken : ℤ → ℤ → Read → Type 0
  IsTaken r c x = EachTaken (IsReadable job.stages) x r c

  -- ---- steps

  as_it_is : (f : Formula) → StandsIn job f f
  as_it_is f = record { formula = λ is. is; reads = λ r c each. each; value = λ r c is rows columns each. refl }

  in_steps : (f g h : Formula) → StandsIn job f g → StandsIn job g h → StandsIn job f h
  in_steps f g h x y =
      record {
        formula = λ is. y.formula (x.formula is);
        reads = λ r c each. y.reads r c (x.reads r c each);
        value = λ r c is rows columns each.
            y.value r c (x.formula is) rows columns (x.reads r c each) ∙ x.value r c is rows columns each;
      }

  taken_fits : IsJob job → (r c : ℤ) (x : Read) → IsTaken r c x → EachTaken (Fits32 (value job)) x r c
  taken_fits is r c (point g i j) taken = value_fits job is g (index_at i r) (index_at j c) taken
  taken_fits is r c (window g kernel) taken =
      λ a b la lb. value_fits job is g (kernel_row kernel r a) (kernel_column kernel c b) (taken a b la lb)

  -- what may stand for a formula in all jobs may in this one
  rewritten : IsJob job → (f g : Formula) → Rewrites f g → StandsIn job f g
  rewritten is f g x =
      let s : Stands f g = stands f g x in
      record {
        formula = s.formula;
        reads = λ r c. s.reads (IsReadable job.stages) r c;
        value = λ r c formula rows columns each.
            s.value (value job) r c formula rows columns
            (All-weaker (IsTaken r c) (λ y. EachTaken (Fits32 (value job)) y r c) (taken_fits is r c) (reads_in f) each);
      }

  -- ---- parts

  in_unary : (op : UnaryOp) (a b : Formula) → StandsIn job a b → StandsIn job (unary op a) (unary op b)
  in_unary op a b x =
      record {
        formula = x.formula;
        reads = x.reads;
        value = λ r c is rows columns each. ap (unary_value op) (x.value r c is rows columns each);
      }

  in_literal : (op : LiteralOp) (n : ℕ) (a b : Formula) → StandsIn job a b → StandsIn job (literal op a n) (literal op b n)
  in_literal op n a b x =
      record {
        formula = λ is. (is.0, x.formula is.1);
        reads = x.reads;
        value = λ r c is rows columns each. ap (λ (z : ℤ). literal_value op z n) (x.value r c is.1 rows columns each);
      }

  in_lookup : (t : Entries) (a b : Formula) → StandsIn job a b → StandsIn job (lookup t a) (lookup t b)
  in_lookup t a b x =
      record {
        formula = λ is. (is.0, x.formula is.1);
        reads = x.reads;
        value = λ r c is rows columns each. ap (entry_at t) (x.value r c is.1 rows columns each);
      }

  in_binary : (op : BinaryOp) (a b p q : Formula) → StandsIn job a b → StandsIn job p q → StandsIn job (binary op a p) (binary op b q)
  in_binary op a b p q x y =
      record {
        formula = λ is. (x.formula is.0, y.formula is.1);
        reads = λ r c.
            both_lists (IsTaken r c) (reads_in a) (reads_in p) (reads_in b) (reads_in q) (x.reads r c) (y.reads r c);
        value = λ r c is rows columns each.
            ap (λ (z : ℤ). binary_value op z (formula_value (value job) q r c))
            (x.value r c is.0 rows columns (All-left (IsTaken r c) (reads_in a) (reads_in p) each))
            ∙ ap (λ (z : ℤ). binary_value op (formula_value (value job) a r c) z)
            (y.value r c is.1 rows columns (All-right (IsTaken r c) (reads_in a) (reads_in p) each));
      }

  in_ternary : (op : TernaryOp) (a b p q u v : Formula) → StandsIn job a b → StandsIn job p q → StandsIn job u v
      → StandsIn job (ternary op a p u) (ternary op b q v)
  in_ternary op a b p q u v x y z =
      record {
        formula = λ is. (x.formula is.0, y.formula is.1, z.formula is.2);
        reads = λ r c.
            both_lists (IsTaken r c) (reads_in a ++ reads_in p) (reads_in u) (reads_in b ++ reads_in q) (reads_in v)
            (both_lists (IsTaken r c) (reads_in a) (reads_in p) (reads_in b) (reads_in q) (x.reads r c) (y.reads r c)) (z.reads r c);
        value = λ r c is rows columns each.
            let front : All (IsTaken r c) (reads_in a ++ reads_in p) = All-left (IsTaken r c) (reads_in a ++ reads_in p) (reads_in u) each in
            ap (λ (w : ℤ). ternary_value op w (formula_value (value job) q r c) (formula_value (value job) v r c))
            (x.value r c is.0 rows columns (All-left (IsTaken r c) (reads_in a) (reads_in p) front))
            ∙ ap (λ (w : ℤ). ternary_value op (formula_value (value job) a r c) w (formula_value (value job) v r c))
            (y.value r c is.1 rows columns (All-right (IsTaken r c) (reads_in a) (reads_in p) front))
            ∙ ap (λ (w : ℤ). ternary_value op (formula_value (value job) a r c) (formula_value (value job) p r c) w)
            (z.value r c is.2 rows columns (All-right (IsTaken r c) (reads_in a ++ reads_in p) (reads_in u) each));
      }

  -- one of two numbers by a comparison
  abbrev chosen : Relation → ℤ → ℤ → ℤ → ℤ → ℤ
  chosen relation x y first second = if is_related relation x y then first else second

  in_select : (relation : Relation) (a b p q u v m n : Formula) → StandsIn job a b → StandsIn job p q → StandsIn job u v → StandsIn job m n
      → StandsIn job (select a relation p u m) (select b relation q v n)
  in_select relation a b p q u v m n x y z t =
      record {
        formula = λ is. (x.formula is.0, y.formula is.1, z.formula is.2, t.formula is.3);
        reads = λ r c.
            let Q : Read → Type 0 = IsTaken r c in
            both_lists Q (reads_in a ++ reads_in p ++ reads_in u) (reads_in m) (reads_in b ++ reads_in q ++ reads_in v) (reads_in n)
            (both_lists Q (reads_in a ++ reads_in p) (reads_in u) (reads_in b ++ reads_in q) (reads_in v)
            (both_lists Q (reads_in a) (reads_in p) (reads_in b) (reads_in q) (x.reads r c) (y.reads r c)) (z.reads r c)) (t.reads r c);
        value = λ r c is rows columns each.
            let Q : Read → Type 0 = IsTaken r c in
            let at : Formula → ℤ = λ f. formula_value (value job) f r c in
            let three : All Q (reads_in a ++ reads_in p ++ reads_in u) =
            All-left Q (reads_in a ++ reads_in p ++ reads_in u) (reads_in m) each in
            let two : All Q (reads_in a ++ reads_in p) = All-left Q (reads_in a ++ reads_in p) (reads_in u) three in
            ap (λ (w : ℤ). chosen relation w (at q) (at v) (at n)) (x.value r c is.0 rows columns (All-left Q (reads_in a) (reads_in p) two))
            ∙ ap (λ (w : ℤ). chosen relation (at a) w (at v) (at n)) (y.value r c is.1 rows columns (All-right Q (reads_in a) (reads_in p) two))
            ∙ ap (λ (w : ℤ). chosen relation (at a) (at p) w (at n)) (z.value r c is.2 rows columns (All-right Q (reads_in a ++ reads_in p) (reads_in u) three))
            ∙ ap (λ (w : ℤ). chosen relation (at a) (at p) (at u) w)
            (t.value r c is.3 rows columns (All-right Q (reads_in a ++ reads_in p ++ reads_in u) (reads_in m) each));
      }

-- ---- in each job of whose stages this is known

module _ (known : List StageFormula) where
  pub same : (f g : Formula) → g ≡ f → Joins known f g
  same f g e = record { stands = λ job is of. subst (StandsIn job f) (sym e) (as_it_is job f) }

  pub steps : (f g h : Formula) → Joins known f g → Joins known g h → Joins known f h
  steps f g h x y = record { stands = λ job is of. in_steps job f g h (x.stands job is of) (y.stands job is of) }

  pub by_rewriting : (f g : Formula) → Rewrites f g → Joins known f g
  by_rewriting f g x = record { stands = λ job is of. rewritten job is f g x }

  pub from_same : (f g h : Formula) → f ≡ g → Joins known g h → Joins known f h
  from_same f g h e x = subst (λ (y : Formula). Joins known y h) (sym e) x

  pub unary_part : (op : UnaryOp) (a b : Formula) → Joins known a b → Joins known (unary op a) (unary op b)
  unary_part op a b x = record { stands = λ job is of. in_unary job op a b (x.stands job is of) }

  pub literal_part : (op : LiteralOp) (n : ℕ) (a b : Formula) → Joins known a b → Joins known (literal op a n) (literal op b n)
  literal_part op n a b x = record { stands = λ job is of. in_literal job op n a b (x.stands job is of) }

  pub lookup_part : (t : Entries) (a b : Formula) → Joins known a b → Joins known (lookup t a) (lookup t b)
  lookup_part t a b x = record { stands = λ job is of. in_lookup job t a b (x.stands job is of) }

  pub binary_parts : (op : BinaryOp) (a b p q : Formula) → Joins known a b → Joins known p q → Joins known (binary op a p) (binary op b q)
  binary_parts op a b p q x y = record { stands = λ job is of. in_binary job op a b p q (x.stands job is of) (y.stands job is of) }

  pub ternary_parts : (op : TernaryOp) (a b p q u v : Formula) → Joins known a b → Joins known p q → Joins known u v
      → Joins known (ternary op a p u) (ternary op b q v)
  ternary_parts op a b p q u v x y z =
      record { stands = λ job is of. in_ternary job op a b p q u v (x.stands job is of) (y.stands job is of) (z.stands job is of) }

  pub select_parts : (relation : Relation) (a b p q u v m n : Formula) → Joins known a b → Joins known p q → Joins known u v → Joins known m n
      → Joins known (select a relation p u m) (select b relation q v n)
  select_parts relation a b p q u v m n x y z t =
      record {
        stands = λ job is of.
            in_select job relation a b p q u v m n (x.stands job is of) (y.stands job is of) (z.stands job is of) (t.stands job is of);
      }
