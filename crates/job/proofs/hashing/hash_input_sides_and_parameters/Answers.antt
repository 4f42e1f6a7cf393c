use Rattle.std.proofs.Common.{List, map, length, sym, ap, ◌∙◌}
use Rattle.std.specs.List.{flat_map}
use Rattle.std.specs.Int.{w16, w32, to_be_bytes}
use Rattle.std.proofs.lemmas.List.{length-map}
use Rattle.job.specs.declared.outputs.Parameter.{Parameter}
use Rattle.job.specs.Identity.{parameter_bytes}
use Rattle.job.specs.Views.{parameter_view, pipeline_of}
use Rattle.job.proofs.Hashed.{together}
use Rattle.job.proofs.hashing.hash_input_sides_and_parameters.Goals as goal

pub returns : goal.returns
returns g c = λ m held.
    let parts = c.args.parts.now in
    let job = pipeline_of parts in
    let lent = c.as_slice-parameters.ensures.value in
    let counted = c.update-3.ensures _ (c.update-2.ensures _ (c.update.ensures m held)) in
    together (g.D.Digest.holds c.hash_input_parameters.new.hasher) m c.to_be_bytes.result c.to_be_bytes-2.result
    c.encode_input_count.result
    (flat_map parameter_bytes (map parameter_view c.as_slice-parameters.result.now))
    (to_be_bytes w32 job.sides.height) (to_be_bytes w32 job.sides.width) (to_be_bytes w16 (length job.params))
    (flat_map parameter_bytes job.params)
    (c.to_be_bytes.ensures ∙ ap (to_be_bytes w32) c.height.ensures.length)
    (c.to_be_bytes-2.ensures ∙ ap (to_be_bytes w32) c.width.ensures.length)
    (c.encode_input_count.ensures ∙ ap (to_be_bytes w16) (ap length lent ∙ sym (length-map parts.params.items parameter_view)))
    (ap (λ (ps : List Parameter). flat_map parameter_bytes (map parameter_view ps)) lent)
    (c.hash_input_parameters.ensures _ counted)
