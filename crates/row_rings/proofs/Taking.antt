-- Two things that hold of all that a stage reads.
use Rattle.std.proofs.Common.{ℕ, ℤ}
use Rattle.domains.specs.Index.{index_at}
use Rattle.job.specs.Formula.{Formula}
use Rattle.job.specs.Pipeline.{Body, plane, function, accumulator}
use Rattle.job.specs.Reads.{Read, point, window, reads_in, EachTaken, EachRead, CaseReads, BodyReads}
use Rattle.job.specs.Values.{kernel_row, kernel_column}
use Rattle.job.proofs.Steps.{All-both}

-- what follows from both at a point holds of all that is read
module _ (P Q R : ℕ → ℤ → ℤ → Type 0) (both : (g : ℕ) (r c : ℤ) → P g r c → Q g r c → R g r c) where
  taken_both : (r c : ℤ) (x : Read) → EachTaken P x r c → EachTaken Q x r c → EachTaken R x r c
  taken_both r c (point g i j) p q = both g (index_at i r) (index_at j c) p q
  taken_both r c (window g kernel) p q =
      λ a b la lb. both g (kernel_row kernel r a) (kernel_column kernel c b) (p a b la lb) (q a b la lb)

  read_both : (r c : ℤ) (f : Formula) → EachRead P f r c → EachRead Q f r c → EachRead R f r c
  read_both r c f p q = All-both (λ x. EachTaken P x r c) (λ x. EachTaken Q x r c) (λ x. EachTaken R x r c) (taken_both r c) (reads_in f) p q

  pub reads_both : (body : Body) (r c : ℤ) → BodyReads P body r c → BodyReads Q body r c → BodyReads R body r c
  reads_both (plane n) r c p q = tt
  reads_both (function cases otherwise) r c p q = (
    All-both (λ k. CaseReads P k r c) (λ k. CaseReads Q k r c) (λ k. CaseReads R k r c)
        (λ k a b. λ box is inside. read_both r c k.formula (a box is inside) (b box is inside)) cases p.0 q.0,
    (λ f is. read_both r c f (p.1 f is) (q.1 f is)),
  )
  reads_both (accumulator fold bins value bin) r c p q = (read_both r c value p.0 q.0, read_both r c bin p.1 q.1)
