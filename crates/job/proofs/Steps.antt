-- Ranks fall along reads, so a stage's rank and one more are steps enough to its value.
use Rattle.std.proofs.Common.{ℕ, arith, ◌<◌, ◌≤◌, ◌+◌, ◌≡◌, ℤ, List, [], ◌∷◌, ◌++◌, Option, Some, None, subst, refl}
use Rattle.std.specs.Prelude.{All, map}
use Rattle.std.specs.List.{flat_map}
use Rattle.std.specs.Option.{ForSome}
use Rattle.std.proofs.lemmas.List.Elements.{All-nil, All-cons, All-head, All-tail, All-weaker}
use Rattle.domains.specs.Index.{index_at}
use Rattle.netpbm.specs.Image.{Image}
use Rattle.job.specs.Formula.{Formula}
use Rattle.job.specs.Pipeline.{Body, plane, function, accumulator, Stage, rank_of}
use Rattle.job.specs.Values.{Valuation, kernel_row, kernel_column, body_value, value}
use Rattle.domains.specs.Greatest.{greatest}
use Rattle.job.specs.Reads.{Read, point, window, stage_read, reads_in, EachTaken, SameAt, other_formula, reads_of, rank_by}
use Rattle.job.proofs.Agreeing.{All-left, All-right, formula_value-agrees}
use Rattle.job.proofs.Choosing.{IsAlike, AlikeWhere, chosen_alike}

-- ---- lists

-- what holds of each that is made of an element holds of what each element makes
pub All-from_map : {X Y : Type 0} (P : Y → Type 0) (f : X → Y) (xs : List X) → All P (map f xs) → All (λ x. P (f x)) xs
All-from_map P f [] h = All-nil (λ x. P (f x))
All-from_map P f (x ∷ xs) h =
    All-cons (λ x. P (f x)) x xs (All-head P (f x) (map f xs) h) (All-from_map P f xs (All-tail P (f x) (map f xs) h))

pub All-from_flat_map : {X Y : Type 0} (P : Y → Type 0) (f : X → List Y) (xs : List X) → All P (flat_map f xs) → All (λ x. All P (f x)) xs
All-from_flat_map P f [] h = All-nil (λ x. All P (f x))
All-from_flat_map P f (x ∷ xs) h =
    All-cons (λ x. All P (f x)) x xs (All-left P (f x) (flat_map f xs) h) (All-from_flat_map P f xs (All-right P (f x) (flat_map f xs) h))

pub All-both : {X : Type 0} (P Q R : X → Type 0) → ((x : X) → P x → Q x → R x) → (xs : List X) → All P xs → All Q xs → All R xs
All-both P Q R f [] h k = All-nil R
All-both P Q R f (x ∷ xs) h k =
    All-cons R x xs (f x (All-head P x xs h) (All-head Q x xs k)) (All-both P Q R f xs (All-tail P x xs h) (All-tail Q x xs k))

-- what holds of the other formula holds of it if there is one
pub other_each : (P : Formula → Type 0) (o : Option Formula) → All P (other_formula o) → ForSome o P
other_each P None each = λ f is. absurd (cc)
other_each P (Some f) each = λ g is. subst P (cc) (All-head P f [] each)

each_at_most : {X : Type 0} (f : X → ℕ) (xs : List X) (m : ℕ) → greatest (map f xs) ≤ m → All (λ x. f x < m + 1) xs
each_at_most f [] m h = All-nil (λ x. f x < m + 1)
each_at_most f (x ∷ xs) m h = All-cons (λ x. f x < m + 1) x xs (omega arith) (each_at_most f xs m (omega arith))

le_same : (n : ℕ) → n ≤ n
le_same n = omega arith

-- ---- ranks

rank_read : List Stage → Read → ℕ
rank_read stages x = rank_of stages (stage_read x)

pub rank_falls : (stages : List Stage) (body : Body) → All (λ x. rank_of stages (stage_read x) < rank_by stages body) (reads_of body)
rank_falls stages (plane n) = All-nil (λ x. rank_of stages (stage_read x) < 0)
rank_falls stages (function cases otherwise) =
    each_at_most (λ x. rank_of stages (stage_read x)) (reads_of (function cases otherwise)) _ (le_same _)
rank_falls stages (accumulator fold bins value bin) =
    each_at_most (λ x. rank_of stages (stage_read x)) (reads_of (accumulator fold bins value bin)) _ (le_same _)

-- ---- one value for all stages that are read

module _ (e h : Valuation) where
  -- one value at each point
  abbrev pub IsSame : ℕ → Type 0
  IsSame g = (r c : ℤ) → e g r c ≡ h g r c

  taken_alike : (r c : ℤ) (x : Read) → IsSame (stage_read x) → EachTaken (SameAt e h) x r c
  taken_alike r c (point g i j) same = same (index_at i r) (index_at j c)
  taken_alike r c (window g kernel) same = λ a b la lb. same (kernel_row kernel r a) (kernel_column kernel c b)

  read_alike : (r c : ℤ) (f : Formula) → All (λ x. IsSame (stage_read x)) (reads_in f) → IsAlike e h r c f
  read_alike r c f same =
      formula_value-agrees e h r c f
      (All-weaker (λ x. IsSame (stage_read x)) (λ x. EachTaken (SameAt e h) x r c) (taken_alike r c) (reads_in f) same)

  pub body_value-agrees : (picture : Image) (body : Body) → All (λ x. IsSame (stage_read x)) (reads_of body) → (r c : ℤ)
      → body_value picture e body r c ≡ body_value picture h body r c
  body_value-agrees picture (plane n) same r c = refl
  body_value-agrees picture (function cases otherwise) same r c =
      let P : Formula → Type 0 = IsAlike e h r c in
      let alike : All P (map (λ p. p.formula) cases ++ other_formula otherwise) =
      All-weaker (λ f. All (λ x. IsSame (stage_read x)) (reads_in f)) P (read_alike r c) _
      (All-from_flat_map (λ x. IsSame (stage_read x)) reads_in (map (λ p. p.formula) cases ++ other_formula otherwise) same) in
      chosen_alike e h r c cases otherwise
      (All-weaker (λ p. P p.formula) (AlikeWhere e h r c) (λ p alike passed. alike) cases
      (All-from_map P (λ p. p.formula) cases (All-left P (map (λ p. p.formula) cases) (other_formula otherwise) alike)))
      (other_each P otherwise (All-right P (map (λ p. p.formula) cases) (other_formula otherwise) alike))
  body_value-agrees picture (accumulator fold bins value bin) same r c = refl
