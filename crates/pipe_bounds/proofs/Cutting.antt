-- Spans and areas that are cut by tests.
use Rattle.std.proofs.Common.{ℕ, ℤ, ◌≤ℤ◌, ◌≡◌, ◌↔◌, true, false, cond, Option, Some, None, List, ◌∷◌, sym, subst}
use Rattle.std.specs.Str.{bytes_eq}
use Rattle.domains.specs.Span.{Ends}
use Rattle.domains.specs.Area.{HoldsPoint}
use Rattle.domains.specs.declared.area.Area.{Area}
use Rattle.operators.specs.declared.operator.Relation.{Relation}
use Rattle.pipe_tree.specs.declared.tree.AffineTerm.{AffineTerm}
use Rattle.pipe_tree.specs.declared.tree.Test.{Test}
use Rattle.pipe_tree.specs.declared.tree.Test.TheVariants.{Compare}
use Rattle.pipe_bounds.specs.declared.params.Setting.{Setting}
use Rattle.pipe_bounds.specs.Settings.{affine_value}
use Rattle.pipe_bounds.specs.Boxes.{Meets, BoundHolds, BoundsHold}
use Rattle.domains.specs.Cuts.{IsCut, IsCutArea}

-- cut from above, and then from below
pub cut_twice : (b : ℤ) (s m : Ends) (o : Option Ends) → IsCut (λ v. v ≤ℤ b) s (Some m) → IsCut (λ v. b ≤ℤ v) m o
    → IsCut (λ v. (v ≤ℤ b) × (b ≤ℤ v)) s o
cut_twice b s m None first second = λ v h. second v ((first v).1 (h.0, h.1.0), h.1.1)
cut_twice b s m (Some n) first second = λ v. (
  (λ h. let p = (second v).0 h in let q = (first v).0 p.0 in (q.0, (q.1, p.1))),
  (λ h. (second v).1 ((first v).1 (h.0, h.1.0), h.1.1)),
)

pub rows_cut : (ss : List Setting) (row x : List ℕ) (rel : Relation) (terms : List AffineTerm) (a : Area) (m : Ends) → bytes_eq x row ≡ true
    → IsCut (λ v. Meets rel v (affine_value ss terms)) a.rows (Some m)
    → IsCutArea (BoundHolds ss row (Compare x rel terms)) a (Some (record { rows = m; cols = a.cols }))
rows_cut ss row x rel terms a m e cut = λ r c. (
  (λ h. let p = (cut r).0 h.0 in ((p.0, h.1), subst (λ b. Meets rel (cond b r c) (affine_value ss terms)) (sym e) p.1)),
  (λ h. ((cut r).1 (h.0.0, subst (λ b. Meets rel (cond b r c) (affine_value ss terms)) e h.1), h.0.1)),
)

pub columns_cut : (ss : List Setting) (row x : List ℕ) (rel : Relation) (terms : List AffineTerm) (a : Area) (m : Ends) → bytes_eq x row ≡ false
    → IsCut (λ v. Meets rel v (affine_value ss terms)) a.cols (Some m)
    → IsCutArea (BoundHolds ss row (Compare x rel terms)) a (Some (record { rows = a.rows; cols = m }))
columns_cut ss row x rel terms a m e cut = λ r c. (
  (λ h. let p = (cut c).0 h.1 in ((h.0, p.0), subst (λ b. Meets rel (cond b r c) (affine_value ss terms)) (sym e) p.1)),
  (λ h. (h.0.0, (cut c).1 (h.0.1, subst (λ b. Meets rel (cond b r c) (affine_value ss terms)) e h.1))),
)

-- what is left of a box, where these tests are still to come
abbrev pub IsLeft : List Setting → List ℕ → Area → List Test → Area → List Test → Type 0
IsLeft ss row whole tests left rest =
    (r c : ℤ) → (HoldsPoint left r c × BoundsHold ss row rest r c) ↔ (HoldsPoint whole r c × BoundsHold ss row tests r c)

pub left_more : (ss : List Setting) (row : List ℕ) (whole left m : Area) (tests rest : List Test) (t : Test)
    → IsLeft ss row whole tests left (t ∷ rest) → IsCutArea (BoundHolds ss row t) left (Some m) → IsLeft ss row whole tests m rest
left_more ss row whole left m tests rest t inv cut = λ r c. (
  (λ h. let p = (cut r c).0 h.0 in (inv r c).0 (p.0, (p.1, h.1))),
  (λ h. let q = (inv r c).1 h in ((cut r c).1 (q.0, q.1.0), q.1.1)),
)

pub left_none : (ss : List Setting) (row : List ℕ) (whole left : Area) (tests rest : List Test) (t : Test)
    → IsLeft ss row whole tests left (t ∷ rest) → IsCutArea (BoundHolds ss row t) left None → IsCutArea (BoundsHold ss row tests) whole None
left_none ss row whole left tests rest t inv cut = λ r c h. let q = (inv r c).1 h in cut r c (q.0, q.1.0)
