use Rattle.std.proofs.Common.{◌≡◌, [], length, All}
use Rattle.crossbeam_queue.specs.Passes.{view, IsPassOf}
use Rattle.posts.specs.Parcels.{moves}
use Rattle.posts.proofs.post.Post.issue_passes_to_mailbox.Given as goal

abbrev pub invariant-loop : goal.invariant-loop
invariant-loop g l = (length l.all.items ≡ l.counter) × All (λ p. IsPassOf l.self.queue p.seat × (view p.seat ≡ moves [] [])) l.all.items
