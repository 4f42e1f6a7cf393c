use Rattle.posts.proofs.TrueParcels.{pops_true}
use Rattle.posts.proofs.post.Post.take.Goals as goal

pub pop_as-requires-clause-rule : goal.pop_as-requires-clause-rule
pop_as-requires-clause-rule g c = (pops_true _ _ _, λ items views all at. tt)
