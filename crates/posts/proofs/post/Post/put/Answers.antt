use Rattle.posts.proofs.TrueParcels.{pushes_true}
use Rattle.posts.proofs.post.Post.put.Goals as goal

pub push_as-requires-clause-rule : goal.push_as-requires-clause-rule
push_as-requires-clause-rule g c = (pushes_true _ _ _ _ _ c.requires.is_true, λ items views all at. all)
