-- Which rows of accumulators are accumulated.
use Rattle.std.specs.Prelude.{ℕ, ◌≡◌, List, [], ◌∷◌, Some, slice_get, slice_set}
use Rattle.job.specs.Answers.{height_of}
use Rattle.job.specs.Kept.{pipeline_in}
use Rattle.row_totals.specs.declared.row_total.RowTotal.{RowTotal}

abbrev pub stage_of_total : RowTotal → ℕ
stage_of_total total = total.stage

-- no row is accumulated, and the one at this place is the next one
pub record IsTotalOfNone (first : ℕ) (total : RowTotal) : Type 0 where
  pub begun : total.first ≡ first
  pub next : total.next ≡ first

-- all rows of the domain are accumulated
pub record IsTotalOfAll (total : RowTotal) : Type 0 where
  pub first : total.first ≡ 0
  pub next : total.next ≡ height_of (pipeline_in total.job.now) total.stage

-- the second total is of the same accumulator, over the rows that follow
pub record IsFollowedBy (total other : RowTotal) : Type 0 where
  pub stage : other.stage ≡ total.stage
  pub first : other.first ≡ total.next

-- one of the totals is followed by the other one, and reaches as far as that once it is joined. All others stay
pub record IsJoinedBy (old : List RowTotal) (other : RowTotal) (new : List RowTotal) : Type 0 where
  pub place : ℕ
  pub total : RowTotal
  pub there : slice_get old place ≡ Some total
  pub follows : IsFollowedBy total other
  pub joined : RowTotal
  pub stage : joined.stage ≡ total.stage
  pub first : joined.first ≡ total.first
  pub next : joined.next ≡ other.next
  pub others : new ≡ slice_set old place joined

-- each of the others is joined, one after the other
abbrev pub AreJoinedBy : List RowTotal → List RowTotal → List RowTotal → Type 0
AreJoinedBy old [] new = new ≡ old
AreJoinedBy old (other ∷ others) new = (one : List RowTotal) × IsJoinedBy old other one × AreJoinedBy one others new
