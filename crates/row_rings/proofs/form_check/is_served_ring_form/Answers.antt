use Rattle.std.proofs.Common.{map, subst, sym, ap, ◌∙◌}
use Rattle.std.specs.Prelude.{All}
use Rattle.std.specs.Option.{option_map}
use Rattle.std.proofs.lemmas.List.Elements.{All-map}
use Rattle.std.proofs.lemmas.Option.{same_Some}
use Rattle.job.specs.Pipeline.{Stage}
use Rattle.job.specs.Reads.{Read, stage_read, reads_of}
use Rattle.job.specs.ReadViews.{read_view}
use Rattle.row_rings.specs.RingForms.{IsWhole}
use Rattle.job.specs.Kept.{pipeline_in}
use Rattle.row_rings.proofs.Unvalued.{accumulator_unvalued}
use Rattle.row_rings.proofs.form_check.is_served_ring_form.Goals as goal

pub returns-then-served : goal.returns-then-served
returns-then-served c = λ e.
    let W = λ (x : Read). IsWhole c.args.kept.now c.args.states.now (stage_read x) in record {
      own = c.is_whole_ring_form-then-served.ensures e;
      reads = λ s there _.
          subst (All W)
          (same_Some (map read_view c.in-Some.reads.now) (reads_of s.body)
          (c.in-Some.ensures ∙ ap (option_map (λ (t : Stage). reads_of t.body)) there))
          (All-map W read_view c.in-Some.reads.now (c.read_whole_ring_forms_only-served.ensures c.if-served.true));
    }

pub returns-then-is_accumulator : goal.returns-then-is_accumulator
returns-then-is_accumulator c = λ e. record {
  own = c.is_whole_ring_form.ensures e;
  reads = λ s there valued.
      absurd (accumulator_unvalued (pipeline_in c.args.job.now) c.args.stage s there
      (sym c.is_accumulator.ensures ∙ c.if-is_accumulator.true) valued);
}
