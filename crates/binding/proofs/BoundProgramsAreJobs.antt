-- Values that are taken from the picture are small, and a program says one job.
use Rattle.std.proofs.Common.{ℕ, zero, suc, arith, ◌≤◌, ◌≡◌, ℤ, pos, FitsSigned, w32, Bool, true, false, List, [], ◌∷◌, length}
use Rattle.std.proofs.Common.{Option, Some, None, subst, ap, sym, ◌∙◌, refl}
use Rattle.std.specs.Prelude.{slice_index, if◌then◌else◌}
use Rattle.std.proofs.lemmas.Int.{ints}
use Rattle.std.proofs.lemmas.Option.{none-some, same_Some}
use Rattle.domains.specs.Sides.{Sides, IsSides}
use Rattle.netpbm.specs.Image.{Image as Picture, IsImage}
use Rattle.pipe_tree.specs.declared.tree.Image.{Image}
use Rattle.pipe_tree.specs.Sizes.{KeepsLimits}
use Rattle.pipe_tree.specs.Tree.{Declaration}
use Rattle.pipe_bounds.specs.declared.params.Setting.{Setting}
use Rattle.pipe_checks.specs.Graph.{IsRanking}
use Rattle.pipe_checks.specs.StageLinks.{StageLinks}
use Rattle.pipe_checks.specs.Names.{stages_of}
use Rattle.pipe_bounds.specs.InBounds.{IsInBounds}
use Rattle.job.specs.Pipeline.{Pipeline}
use Rattle.binding.specs.Binding.{Program, is_exactly, settled, settings_for, AreSmall, AreSmallTables, job_of, IsJobOf}
use Rattle.tables.specs.declared.table.Table.{Table}
use Rattle.binding.specs.Fits.{PlanesFit, ExtentsFit, ShapesFit, TilesFit}
use Rattle.job.specs.WellFormed.{IsJob}
use Rattle.job.proofs.Fitting.{from_bounds}
use Rattle.binding.proofs.JobLaws.{job_is}

-- ---- values

side_fits : (n : ℕ) → n ≤ 4096 → FitsSigned w32 (pos n)
side_fits n h = from_bounds (pos n) (omega (arith, ints)) (omega (arith, ints))

module _ (i : Image) (picture : Picture) (image : IsImage picture) where
  taken_fits : (b c : Bool) (v : ℤ) → (if b then Some (pos picture.rows) else (if c then Some (pos picture.cols) else None)) ≡ Some v
      → FitsSigned w32 v
  taken_fits true c v is = subst (FitsSigned w32) (same_Some (pos picture.rows) v is) (side_fits picture.rows image.rows.most)
  taken_fits false true v is = subst (FitsSigned w32) (same_Some (pos picture.cols) v is) (side_fits picture.cols image.cols.most)
  taken_fits false false v is = absurd (none-some v is)

  settled_fits : (x : List ℕ) (o : Option ℤ) → ((v : ℤ) → o ≡ Some v → FitsSigned w32 v) → (v : ℤ) → settled i picture x o ≡ Some v
      → FitsSigned w32 v
  settled_fits x None given v is = taken_fits (is_exactly i.rows x) (is_exactly i.columns x) v is
  settled_fits x (Some w) given v is = given v is

  pub small_settled : (given : List Setting) → AreSmall given → AreSmall (settings_for i picture given)
  small_settled [] small k s v there is = absurd (none-some s there)
  small_settled (g ∷ gs) small zero s v there is =
      let value : settled i picture g.name g.value ≡ s.value = ap (λ (t : Setting). t.value) (same_Some _ s there) in
      settled_fits g.name g.value (λ w e. small 0 g w refl e) v (value ∙ is)
  small_settled (g ∷ gs) small (suc k) s v there is = small_settled gs (λ j t w at e. small (suc j) t w at e) k s v there is

-- ---- one job

lists_same : (xs ys : List ℕ) → length xs ≡ length ys → ((k : ℕ) → slice_index xs k ≡ slice_index ys k) → xs ≡ ys
lists_same [] [] e same = refl
lists_same [] (y ∷ ys) e same = absurd (omega arith)
lists_same (x ∷ xs) [] e same = absurd (omega arith)
lists_same (x ∷ xs) (y ∷ ys) e same =
    ap (λ (n : ℕ). n ∷ xs) (same 0) ∙ ap (λ (ns : List ℕ). y ∷ ns) (lists_same xs ys (omega arith) (λ k. same (suc k)))

one_ranking : (g : List StageLinks) (a b : List ℕ) → IsRanking g a → IsRanking g b → a ≡ b
one_ranking g a b h k = lists_same a b (h.ranked.each ∙ sym k.ranked.each) (λ s. omega (arith, h.least b k.ranked s, k.least a h.ranked s))

pub one_job : (items : List Declaration) (given : List Setting) (tables : List Table) (picture : Picture) (sides : Sides) (a b : Pipeline)
    → IsJobOf items given tables picture sides a → IsJobOf items given tables picture sides b → a ≡ b
one_job items given tables picture sides a b h k =
    let says : Image → List ℕ → Pipeline =
    λ i ranks. job_of (record { stages = stages_of items; ranks = ranks; settings = settings_for i picture given; tables = tables }) items
    picture sides in
    let images : h.image ≡ k.image = cc (h.declared, k.declared) in
    h.is ∙ ap (λ (i : Image). says i h.ranks) images ∙ ap (says k.image) (one_ranking _ h.ranks k.ranks h.ranking k.ranking) ∙ sym k.is

-- ---- and it is a job

pub bound_job_is : (items : List Declaration) (given : List Setting) (tables : List Table) (picture : Picture) (sides : Sides)
    (job : Pipeline) (h : IsJobOf items given tables picture sides job) → KeepsLimits items → AreSmall given → AreSmallTables tables
    → IsImage picture → IsSides sides
    → IsInBounds (settings_for h.image picture given) items → PlanesFit h.image picture
    → ExtentsFit (settings_for h.image picture given) h.image picture → ShapesFit job → TilesFit job → IsJob job
bound_job_is items given tables picture sides job h limits small numbers image tile_sides bounds planes extents shapes tiles =
    let p : Program =
    record { stages = stages_of items; ranks = h.ranks; settings = settings_for h.image picture given; tables = tables } in
    subst IsJob (sym h.is)
    (job_is items h.named p refl (small_settled h.image picture image given small) bounds h.fit numbers picture h.image h.declared planes extents sides
    h.ranking (subst TilesFit h.is tiles) limits (subst ShapesFit h.is shapes) image tile_sides)
