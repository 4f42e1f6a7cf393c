use Rattle.std.proofs.Common.{ap, ◌∙◌}
use Rattle.write_buffer.proofs.PassingLaws.{puts_through}
use Rattle.write_buffer.proofs.buffer.WriteBuffer.flush_and_put_bytes.Goals as goal

pub returns : goal.returns
returns g c =
    puts_through c.write_all_bytes.result _ _ _ _ _ _ _ _ _ c.in_ok-flush.ensures.ok c.in_ok-flush.ensures.failed
    (ap (λ v. v.items) c.in-Err.ensures.err ∙ c.self.view_is ∙ c.in_ok-flush.ensures.none) c.write_all_bytes.ensures.ok
    c.write_all_bytes.ensures.part c.write_all_bytes.ensures.failed
