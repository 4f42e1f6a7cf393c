-- Formulas that are at a point what others are at the point of two indices, part by part.
use Rattle.std.proofs.Common.{ℕ, ℤ, ◌≡◌, List, [], ◌++◌, ap, refl, sym, subst}
use Rattle.std.specs.Prelude.{All, if◌then◌else◌}
use Rattle.std.proofs.lemmas.List.Elements.{All-nil, All-cons, All-head, All-append}
use Rattle.operators.specs.declared.operator.UnaryOp.{UnaryOp}
use Rattle.operators.specs.declared.operator.BinaryOp.{BinaryOp}
use Rattle.operators.specs.declared.operator.TernaryOp.{TernaryOp}
use Rattle.operators.specs.declared.operator.LiteralOp.{LiteralOp}
use Rattle.operators.specs.declared.operator.Relation.{Relation}
use Rattle.tables.specs.Entries.{Entries, entry_at}
use Rattle.domains.specs.Index.{Scale, index_at}
use Rattle.job.specs.Formula.{Formula, number, read, unary, binary, ternary, literal, lookup, select}
use Rattle.job.specs.Pipeline.{Stage}
use Rattle.job.specs.Reads.{Read, point, reads_in, EachRead, EachTaken}
use Rattle.job.specs.Values.{formula_value, unary_value, binary_value, ternary_value, literal_value, is_related}
use Rattle.job.specs.WellFormed.{IsReadable}
use Rattle.job.proofs.Agreeing.{All-left, All-right}
use Rattle.joined_formulas.specs.inside.Parts.{IsPartAt}

-- what all items of two lists have those of two others have
both_apart : (P Q : Read → Type 0) (xs ys us vs : List Read) → (All P xs → All Q us) → (All P ys → All Q vs)
    → All P (xs ++ ys) → All Q (us ++ vs)
both_apart P Q xs ys us vs f g all = All-append Q us vs (f (All-left P xs ys all)) (g (All-right P xs ys all))

module _ (i j : Scale) where
  -- what a read takes at a point, and at the point of the indices
  abbrev Here : List Stage → ℤ → ℤ → Read → Type 0
  Here stages r c x = EachTaken (IsReadable stages) x r c

  abbrev There : List Stage → ℤ → ℤ → Read → Type 0
  There stages r c x = EachTaken (IsReadable stages) x (index_at i r) (index_at j c)

  pub number_part : (n : ℤ) → IsPartAt i j (number n) (number n)
  number_part n =
      record { reads = λ stages r c each. All-nil (There stages r c); value = λ env r c. refl }

  -- what does not move is its own part at the point itself
  pub own_part : ((v : ℤ) → index_at i v ≡ v) → ((v : ℤ) → index_at j v ≡ v) → (f : Formula) → IsPartAt i j f f
  own_part own_row own_column f =
      record {
        reads = λ stages r c each.
            subst (λ (z : ℤ). EachRead (IsReadable stages) f z (index_at j c)) (sym (own_row r))
            (subst (λ (z : ℤ). EachRead (IsReadable stages) f r z) (sym (own_column c)) each);
        value = λ env r c. (λ k. formula_value env f (sym (own_row r) k) (sym (own_column c) k));
      }

  pub read_part : (g : ℕ) (a b x y : Scale) → ((v : ℤ) → index_at x v ≡ index_at a (index_at i v))
      → ((v : ℤ) → index_at y v ≡ index_at b (index_at j v)) → IsPartAt i j (read g a b) (read g x y)
  read_part g a b x y at_row at_column =
      record {
        reads = λ stages r c each.
            All-cons (There stages r c) (point g a b) []
            (subst (λ (z : ℤ). IsReadable stages g (index_at a (index_at i r)) z) (at_column c)
            (subst (λ (z : ℤ). IsReadable stages g z (index_at y c)) (at_row r)
            (All-head (Here stages r c) (point g x y) [] each)))
            (All-nil (There stages r c));
        value = λ env r c. (λ k. env g (at_row r k) (at_column c k));
      }

  pub unary_part_at : (op : UnaryOp) (a b : Formula) → IsPartAt i j a b → IsPartAt i j (unary op a) (unary op b)
  unary_part_at op a b x =
      record { reads = x.reads; value = λ env r c. ap (unary_value op) (x.value env r c) }

  pub literal_part_at : (op : LiteralOp) (n : ℕ) (a b : Formula) → IsPartAt i j a b → IsPartAt i j (literal op a n) (literal op b n)
  literal_part_at op n a b x =
      record { reads = x.reads; value = λ env r c. ap (λ (z : ℤ). literal_value op z n) (x.value env r c) }

  pub lookup_part_at : (t : Entries) (a b : Formula) → IsPartAt i j a b → IsPartAt i j (lookup t a) (lookup t b)
  lookup_part_at t a b x =
      record { reads = x.reads; value = λ env r c. ap (entry_at t) (x.value env r c) }

  pub binary_part_at : (op : BinaryOp) (a b p q : Formula) → IsPartAt i j a b → IsPartAt i j p q
      → IsPartAt i j (binary op a p) (binary op b q)
  binary_part_at op a b p q x y =
      record {
        reads = λ stages r c.
            both_apart (Here stages r c) (There stages r c) (reads_in b) (reads_in q) (reads_in a) (reads_in p)
            (x.reads stages r c) (y.reads stages r c);
        value = λ env r c. (λ k. binary_value op (x.value env r c k) (y.value env r c k));
      }

  pub ternary_part_at : (op : TernaryOp) (a b p q u v : Formula) → IsPartAt i j a b → IsPartAt i j p q → IsPartAt i j u v
      → IsPartAt i j (ternary op a p u) (ternary op b q v)
  ternary_part_at op a b p q u v x y z =
      record {
        reads = λ stages r c.
            both_apart (Here stages r c) (There stages r c) (reads_in b ++ reads_in q) (reads_in v) (reads_in a ++ reads_in p) (reads_in u)
            (both_apart (Here stages r c) (There stages r c) (reads_in b) (reads_in q) (reads_in a) (reads_in p)
            (x.reads stages r c) (y.reads stages r c)) (z.reads stages r c);
        value = λ env r c. (λ k. ternary_value op (x.value env r c k) (y.value env r c k) (z.value env r c k));
      }

  pub select_part_at : (relation : Relation) (a b p q u v m n : Formula) → IsPartAt i j a b → IsPartAt i j p q → IsPartAt i j u v
      → IsPartAt i j m n → IsPartAt i j (select a relation p u m) (select b relation q v n)
  select_part_at relation a b p q u v m n x y z t =
      record {
        reads = λ stages r c.
            both_apart (Here stages r c) (There stages r c) (reads_in b ++ reads_in q ++ reads_in v) (reads_in n)
            (reads_in a ++ reads_in p ++ reads_in u) (reads_in m)
            (both_apart (Here stages r c) (There stages r c) (reads_in b ++ reads_in q) (reads_in v) (reads_in a ++ reads_in p) (reads_in u)
            (both_apart (Here stages r c) (There stages r c) (reads_in b) (reads_in q) (reads_in a) (reads_in p)
            (x.reads stages r c) (y.reads stages r c)) (z.reads stages r c)) (t.reads stages r c);
        value = λ env r c. (λ k.
            if is_related relation (x.value env r c k) (y.value env r c k) then z.value env r c k else t.value env r c k);
      }

  pub part_from : (f g h k : Formula) → f ≡ h → g ≡ k → IsPartAt i j h k → IsPartAt i j f g
  part_from f g h k same other x =
      subst (λ (z : Formula). IsPartAt i j z g) (sym same) (subst (λ (z : Formula). IsPartAt i j h z) (sym other) x)
