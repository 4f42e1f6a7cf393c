-- What follows from what holds of a point holds of all that is read.
use Rattle.std.proofs.Common.{ℕ, ℤ}
use Rattle.domains.specs.Index.{index_at}
use Rattle.job.specs.Pipeline.{Body}
use Rattle.job.specs.Reads.{Read, point, window, BodyReads, EachTaken}
use Rattle.job.specs.Values.{kernel_row, kernel_column}
use Rattle.job.proofs.Solving.{BodyReads-both}

module _ (P Q : ℕ → ℤ → ℤ → Type 0) (f : (g : ℕ) (r c : ℤ) → P g r c → Q g r c) where
  pub taken_weaker : (r c : ℤ) (x : Read) → EachTaken P x r c → EachTaken Q x r c
  taken_weaker r c (point g i j) taken = f g (index_at i r) (index_at j c) taken
  taken_weaker r c (window g kernel) taken = λ a b la lb. f g (kernel_row kernel r a) (kernel_column kernel c b) (taken a b la lb)

  pub reads_weaker : (body : Body) (r c : ℤ) → BodyReads P body r c → BodyReads Q body r c
  reads_weaker body r c reads = BodyReads-both P Q (λ x. Unit {0}) body r c (λ x static. taken_weaker r c x) (λ k d within. tt) reads
