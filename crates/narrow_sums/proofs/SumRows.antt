-- What holds of a sum holds of the formula that it begins with, and of its terms.
use Rattle.std.proofs.Common.{arith, ℕ, ℤ, ◌≡◌, ◌-◌, ◌≤◌, pos, subst}
use Rattle.std.proofs.Common.{List, [], ◌∷◌, All, Bool, true, false, Some, None}
use Rattle.std.specs.Prelude.{if◌then◌else◌, Option, slice_index_or}
use Rattle.std.specs.Option.{ForSome}
use Rattle.std.specs.Ordering.{int_eq}
use Rattle.std.proofs.lemmas.Bool.{false≢true}
use Rattle.std.proofs.lemmas.List.Elements.{All-nil, All-cons}
use Rattle.operators.specs.declared.operator.BinaryOp.{BinaryOp}
use Rattle.operators.specs.declared.operator.BinaryOp.TheVariants.{Add, Sub, Mul, Min, Max}
use Rattle.operators.specs.declared.operator.LiteralOp.{LiteralOp}
use Rattle.job.specs.Formula.{Formula, number, binary, literal}
use Rattle.job.specs.Values.{Valuation}
use Rattle.job.specs.WellFormed.{IsFormula}
use Rattle.tile_eval.specs.Reading.{ReadsWithin, HasRoom}
use Rattle.tile_eval.proofs.Rooms.{enough_room, least_room}
use Rattle.value_ranges.specs.Narrow.{IsNarrow}
use Rattle.narrow_sums.specs.NarrowFormulas.{NarrowWithin}
use Rattle.narrow_sums.specs.NarrowSums.{adds}
use Rattle.narrow_sums.specs.SumTerms.{read_formula, part_formula, term_formula, joined_terms, first_joined, terms_formula}
use Rattle.narrow_sums.specs.SumRows.{with_number, with_quotient, with_center, around_terms, sum_row_formula, joined_sum_formula, RowReadsWithin}
use Rattle.narrow_sums.specs.declared.terms.NarrowSumRead.{NarrowSumRead}
use Rattle.narrow_sums.specs.declared.terms.NarrowSumTerm.{NarrowSumTerm}
use Rattle.narrow_sums.specs.declared.sum_row.NarrowSumQuotient.{NarrowSumQuotient}
use Rattle.narrow_sums.specs.declared.sum_row.NarrowSumRow.{NarrowSumRow}

-- ---- what parts inherit

-- what holds of a formula that ends in an operator holds of its operands
pub record IsInherited (P : Formula → Type 0) : Type 0 where
  pub left : (op : BinaryOp) (a b : Formula) → P (binary op a b) → P a
  pub right : (op : BinaryOp) (a b : Formula) → P (binary op a b) → P b
  pub divided : (op : LiteralOp) (a : Formula) (n : ℕ) → P (literal op a n) → P a

module _ (P : Formula → Type 0) (own : IsInherited P) where
  pub in_number : (o : Option ℤ) (f : Formula) → P (with_number o f) → P f
  in_number None f h = h
  in_number (Some n) f h = own.left Add f (number n) h

  pub in_quotient : (o : Option NarrowSumQuotient) (f : Formula) → P (with_quotient o f) → P f
  in_quotient None f h = h
  in_quotient (Some q) f h = own.divided q.op f q.literal h

  pub in_center : (o : Option NarrowSumRead) (f : Formula) → P (with_center o f) → P f
  in_center None f h = h
  in_center (Some x) f h = own.right Add (read_formula x) f h

  pub in_row : (row : NarrowSumRow) (f : Formula) → P (around_terms row f) → P f
  in_row row f h =
      in_number row.number f (in_quotient row.quotient (with_number row.number f)
      (in_center row.center (with_quotient row.quotient (with_number row.number f)) h))

  in_joined : (f : Formula) (ts : List NarrowSumTerm) → P (joined_terms f ts) → P f
  in_joined f [] h = h
  in_joined f (t ∷ ts) h = in_joined f ts (own.left t.op (joined_terms f ts) (term_formula t) h)

  abbrev IsTerm : NarrowSumTerm → Type 0
  IsTerm t = P (term_formula t)

  in_joined_terms : (f : Formula) (ts : List NarrowSumTerm) → P (joined_terms f ts) → All (λ t. P (term_formula t)) ts
  in_joined_terms f [] h = All-nil IsTerm
  in_joined_terms f (t ∷ ts) h =
      All-cons IsTerm t ts (own.right t.op (joined_terms f ts) (term_formula t) h)
      (in_joined_terms f ts (own.left t.op (joined_terms f ts) (term_formula t) h))

  in_first : (op : BinaryOp) (f : Formula) → adds op ≡ true → P (first_joined op f) → P f
  in_first Add f join h = h
  in_first Sub f join h = own.right Sub (number (pos 0)) f h
  in_first Mul f join h = absurd (false≢true join)
  in_first Min f join h = absurd (false≢true join)
  in_first Max f join h = absurd (false≢true join)

  in_alone_terms : (ts : List NarrowSumTerm) → P (terms_formula ts) → All (λ t. P (term_formula t)) ts
  in_alone_terms [] h = All-nil IsTerm
  in_alone_terms (t ∷ []) h = All-cons IsTerm t [] (in_first t.op (term_formula t) t.joins h) (All-nil IsTerm)
  in_alone_terms (t ∷ u ∷ ts) h =
      All-cons IsTerm t (u ∷ ts) (own.right t.op (terms_formula (u ∷ ts)) (term_formula t) h)
      (in_alone_terms (u ∷ ts) (own.left t.op (terms_formula (u ∷ ts)) (term_formula t) h))

  -- the formula that a sum begins with, and the terms of a sum
  pub in_start : (f : Formula) (row : NarrowSumRow) → P (joined_sum_formula f row) → P f
  in_start f row h = in_joined f row.terms.items (in_row row (joined_terms f row.terms.items) h)

  pub in_terms : (f : Formula) (row : NarrowSumRow) → P (joined_sum_formula f row) → All (λ t. P (term_formula t)) row.terms.items
  in_terms f row h = in_joined_terms f row.terms.items (in_row row (joined_terms f row.terms.items) h)

  pub in_terms_alone : (row : NarrowSumRow) → P (sum_row_formula row) → All (λ t. P (term_formula t)) row.terms.items
  in_terms_alone row h = in_alone_terms row.terms.items (in_row row (terms_formula row.terms.items) h)

-- ---- what is inherited

formulas_inherit : IsInherited IsFormula
formulas_inherit = record { left = λ op a b h. h.0; right = λ op a b h. h.1; divided = λ op a n h. h.1 }

reads_inherit : (has : ℕ → ℤ → ℤ → Type 0) (r c : ℤ) (n : ℕ) → IsInherited (λ f. ReadsWithin has f r c n)
reads_inherit has r c n = record { left = λ op a b h. h.0; right = λ op a b h. h.1; divided = λ op a m h. h }

narrow_inherit : (env : Valuation) (r c : ℤ) (n : ℕ) → IsInherited (λ f. NarrowWithin env f r c n)
narrow_inherit env r c n = record { left = λ op a b h. h.0; right = λ op a b h. h.1; divided = λ op a m h. h.0 }

pub narrow_inherits : (env : Valuation) (r c : ℤ) → IsInherited (λ f. IsNarrow env f r c)
narrow_inherits env r c = record { left = λ op a b h. h.0; right = λ op a b h. h.1; divided = λ op a m h. h.0 }

more_room : (f : Formula) (n less room : ℕ) → less ≤ room → HasRoom f n less → HasRoom f n room
more_room f n less room le h = let least = least_room f n less h in enough_room f n room (omega (arith, le, least))

room_inherits : (n room : ℕ) → IsInherited (λ f. HasRoom f n room)
room_inherits n room = record {
  left = λ op a b h. h.0;
  right = λ op a b h. more_room b n (room - n) room (omega arith) h.2;
  divided = λ op a m h. h;
}

-- ---- of a sum that begins with a formula, for this formula

pub start_is_formula : (f : Formula) (row : NarrowSumRow) → IsFormula (joined_sum_formula f row) → IsFormula f
start_is_formula = in_start IsFormula formulas_inherit

pub start_reads_within : (has : ℕ → ℤ → ℤ → Type 0) (f : Formula) (row : NarrowSumRow) (r c : ℤ) (n : ℕ)
    → ReadsWithin has (joined_sum_formula f row) r c n → ReadsWithin has f r c n
start_reads_within has f row r c n = in_start (λ g. ReadsWithin has g r c n) (reads_inherit has r c n) f row

pub start_narrow_within : (env : Valuation) (f : Formula) (row : NarrowSumRow) (r c : ℤ) (n : ℕ)
    → NarrowWithin env (joined_sum_formula f row) r c n → NarrowWithin env f r c n
start_narrow_within env f row r c n = in_start (λ g. NarrowWithin env g r c n) (narrow_inherit env r c n) f row

pub start_has_room : (f : Formula) (row : NarrowSumRow) (n room : ℕ) → HasRoom (joined_sum_formula f row) n room → HasRoom f n room
start_has_room f row n room = in_start (λ g. HasRoom g n room) (room_inherits n room) f row

-- ---- what a row reads

module _ (has : ℕ → ℤ → ℤ → Type 0) (r c : ℤ) (n : ℕ) where
  part_reads : (t : NarrowSumTerm) → ReadsWithin has (term_formula t) r c n → ReadsWithin has (part_formula t.part) r c n
  part_reads t h = inner (int_eq t.factor (pos 1)) h
    where
      inner : (one : Bool) → ReadsWithin has (if one then part_formula t.part else binary Mul (number t.factor) (part_formula t.part)) r c n
          → ReadsWithin has (part_formula t.part) r c n
      inner true h = h
      inner false h = h.1

  center_reads : (o : Option NarrowSumRead) (f : Formula) → ReadsWithin has (with_center o f) r c n
      → ForSome o (λ x. ReadsWithin has (read_formula x) r c n)
  center_reads o f h = λ x is. (subst (λ (p : Option NarrowSumRead). ReadsWithin has (with_center p f) r c n) is h).0

  pub joined_row_reads : (f : Formula) (row : NarrowSumRow) → ReadsWithin has (joined_sum_formula f row) r c n → RowReadsWithin has row r c n
  joined_row_reads f row h = (
    center_reads row.center (with_quotient row.quotient (with_number row.number (joined_terms f row.terms.items))) h,
    λ k d l. part_reads (slice_index_or row.terms.items k d)
        (in_terms (λ g. ReadsWithin has g r c n) (reads_inherit has r c n) f row h k d l),
  )

  pub alone_row_reads : (row : NarrowSumRow) → ReadsWithin has (sum_row_formula row) r c n → RowReadsWithin has row r c n
  alone_row_reads row h = (
    center_reads row.center (with_quotient row.quotient (with_number row.number (terms_formula row.terms.items))) h,
    λ k d l. part_reads (slice_index_or row.terms.items k d)
        (in_terms_alone (λ g. ReadsWithin has g r c n) (reads_inherit has r c n) row h k d l),
  )
