-- What a formula that stands for another one reads, for each property of what is read.
use Rattle.std.proofs.Common.{ℕ, ℤ, ◌≡◌, FitsSigned, w32, List, subst, refl}
use Rattle.std.specs.Prelude.{All, Contains}
use Rattle.std.proofs.lemmas.List.Elements.{All-weaker, All-contains, All-contains_itself}
use Rattle.domains.specs.Index.{index_at}
use Rattle.job.specs.Formula.{Formula}
use Rattle.job.specs.Values.{Valuation, formula_value, kernel_row, kernel_column}
use Rattle.job.specs.Reads.{Read, point, window, reads_in, stage_read, EachTaken, EachRead}
use Rattle.job.specs.WellFormed.{IsFormula}
use Rattle.normal_formulas.specs.Rewrites.{Fits32, IsTaken, IsReadAt, IsStageOf, Rewrites}

-- g may stand for f
pub record Stands (f g : Formula) : Type 1 where
  pub formula : IsFormula f → IsFormula g
  pub value :
      (env : Valuation) (r c : ℤ) → IsFormula f → FitsSigned w32 r → FitsSigned w32 c → EachRead (Fits32 env) f r c
      → formula_value env g r c ≡ formula_value env f r c
  pub reads : (P : ℕ → ℤ → ℤ → Type 0) (r c : ℤ) → EachRead P f r c → EachRead P g r c
  pub stages : (P : ℕ → Type 0) → IsFormula f → All (λ x. P (stage_read x)) (reads_in f) → All (λ x. P (stage_read x)) (reads_in g)
  pub back : (P : ℕ → Type 0) → IsFormula f → All (λ x. P (stage_read x)) (reads_in g) → All (λ x. P (stage_read x)) (reads_in f)

-- ---- points

moved : (P : ℕ → ℤ → ℤ → Type 0) (s g : ℕ) (x y a b : ℤ) → s ≡ g → x ≡ a → y ≡ b → P s x y → P g a b
moved P s g x y a b d e f h = subst (λ z. P g a z) f (subst (λ z. P g z y) e (subst (λ z. P z x y) d h))

module _ (P : ℕ → ℤ → ℤ → Type 0) (r c : ℤ) where
  taken_one : (x : Read) (g : ℕ) (a b : ℤ) → EachTaken P x r c → IsTaken x r c g a b → P g a b
  taken_one (point s i j) g a b each h = moved P s g (index_at i r) (index_at j c) a b h.stage h.row h.column each
  taken_one (window s kernel) g a b each h =
      moved P s g (kernel_row kernel r h.across) (kernel_column kernel c h.along) a b h.stage h.row h.column
      (each h.across h.along h.row_there h.there)

  of_read : (f : Formula) → EachRead P f r c → (g : ℕ) (a b : ℤ) → IsReadAt f r c g a b → P g a b
  of_read f each g a b h =
      taken_one h.access g a b (All-contains (λ x. EachTaken P x r c) (reads_in f) h.access each h.there) h.taken

weaker_taken : (P Q : ℕ → ℤ → ℤ → Type 0) (r c : ℤ) → ((g : ℕ) (a b : ℤ) → P g a b → Q g a b)
    → (x : Read) → EachTaken P x r c → EachTaken Q x r c
weaker_taken P Q r c f (point s i j) each = f s (index_at i r) (index_at j c) each
weaker_taken P Q r c f (window s kernel) each = λ k l lk ll. f s (kernel_row kernel r k) (kernel_column kernel c l) (each k l lk ll)

reads_for : (f g : Formula) (P : ℕ → ℤ → ℤ → Type 0) (r c : ℤ) → EachRead (IsReadAt f r c) g r c → EachRead P f r c → EachRead P g r c
reads_for f g P r c h each =
    All-weaker (λ x. EachTaken (IsReadAt f r c) x r c) (λ x. EachTaken P x r c)
    (weaker_taken (IsReadAt f r c) P r c (of_read P r c f each)) (reads_in g) h

own_taken : (f : Formula) (r c : ℤ) (x : Read) → Contains (reads_in f) x → EachTaken (IsReadAt f r c) x r c
own_taken f r c (point s i j) h =
    record { access = point s i j; there = h; taken = record { stage = refl; row = refl; column = refl } }
own_taken f r c (window s kernel) h = λ k l lk ll.
    record {
      access = window s kernel;
      there = h;
      taken = record { across = k; along = l; row_there = lk; there = ll; stage = refl; row = refl; column = refl };
    }

own_reads : (f : Formula) (r c : ℤ) → EachRead (IsReadAt f r c) f r c
own_reads f r c =
    All-weaker (Contains (reads_in f)) (λ x. EachTaken (IsReadAt f r c) x r c) (own_taken f r c) (reads_in f)
    (All-contains_itself (reads_in f))

-- ---- stages

stages_for : (f : Formula) (P : ℕ → Type 0) → All (λ x. P (stage_read x)) (reads_in f) → (g : ℕ) → IsStageOf f g → P g
stages_for f P each g h = subst P h.stage (All-contains (λ x. P (stage_read x)) (reads_in f) h.access each h.there)

own_stage : (f : Formula) (x : Read) → Contains (reads_in f) x → IsStageOf f (stage_read x)
own_stage f x h = record { access = x; there = h; stage = refl }

own_stages : (f : Formula) → All (λ x. IsStageOf f (stage_read x)) (reads_in f)
own_stages f =
    All-weaker (Contains (reads_in f)) (λ x. IsStageOf f (stage_read x)) (own_stage f) (reads_in f) (All-contains_itself (reads_in f))

carried_stages : (f : Formula) (xs : List Read) (P : ℕ → Type 0) → All (λ x. IsStageOf f (stage_read x)) xs
    → All (λ x. P (stage_read x)) (reads_in f) → All (λ x. P (stage_read x)) xs
carried_stages f xs P h each =
    All-weaker (λ x. IsStageOf f (stage_read x)) (λ x. P (stage_read x)) (λ x. stages_for f P each (stage_read x)) xs h

-- ---- both ways

pub stands : (f g : Formula) → Rewrites f g → Stands f g
stands f g x =
    record {
      formula = x.formula;
      value = x.value;
      reads = λ P r c. reads_for f g P r c (x.reads r c);
      stages = λ P is. carried_stages f (reads_in g) P (x.stages is);
      back = λ P is. carried_stages g (reads_in f) P (x.back is);
    }

pub rewrites : (f g : Formula) → Stands f g → Rewrites f g
rewrites f g x =
    record {
      formula = x.formula;
      value = x.value;
      reads = λ r c. x.reads (IsReadAt f r c) r c (own_reads f r c);
      stages = λ is. x.stages (IsStageOf f) is (own_stages f);
      back = λ is. x.back (IsStageOf g) is (own_stages g);
    }
