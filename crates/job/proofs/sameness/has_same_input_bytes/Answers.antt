use Rattle.std.proofs.Common.{List, ℕ, [], ◌∷◌, ◌++◌, refl, rules, ap, map, sym, ◌∙◌}
use Rattle.std.specs.List.{flat_map}
use Rattle.tables.specs.declared.table.Table.{Table}
use Rattle.job.specs.Identity.{parameter_bytes, table_bytes}
use Rattle.job.specs.Views.{parameter_view, pipeline_of}
use Rattle.job.specs.declared.outputs.Parameter.{Parameter}
use Rattle.job.proofs.SameInputs.{behind_alike, params_alike, same_bytes, same_picture}
use Rattle.job.proofs.sameness.has_same_input_bytes.Goals as goal

pub returns-then-not-has_same_input_parameters : goal.returns-then-not-has_same_input_parameters
returns-then-not-has_same_input_parameters c = (
  search rules,
  λ h.
      let (m, n, first, second, ends, other, same) =
      params_alike (pipeline_of c.args.a.now) (pipeline_of c.args.b.now) c.requires.first c.requires.second h in
      let bytes : ℕ → List ℕ → List Parameter → List ℕ = λ k rest ps. flat_map parameter_bytes (map parameter_view ps) ++ k ∷ rest in
      c.if-not-has_same_input_parameters.ensures.told m n first second ends other
      (ap (bytes m first) c.deref.ensures.value ∙ same ∙ sym (ap (bytes n second) c.deref-2.ensures.value)),
)

pub returns-then-not-has_same_input_tables : goal.returns-then-not-has_same_input_tables
returns-then-not-has_same_input_tables c = (
  search rules,
  λ h.
      let params = sym (ap (map parameter_view) c.deref.ensures.value) ∙ c.if-not-has_same_input_parameters.ensures.same refl ∙ ap
      (map parameter_view) c.deref-2.ensures.value in
      let same =
      (behind_alike (pipeline_of c.args.a.now) (pipeline_of c.args.b.now) c.requires.first c.requires.second params h).0 in
      let bytes : List Table → List ℕ = λ ts. flat_map table_bytes ts ++ 80 ∷ [] in
      c.if-not-has_same_input_tables.ensures.told [] [] (ap bytes (c.deref-3.ensures.value ∙ same ∙ sym c.deref-4.ensures.value)),
)

pub returns : goal.returns
returns c =
    let a = pipeline_of c.args.a.now in
    let b = pipeline_of c.args.b.now in
    let sides = c.if-not-has_same_input_sides.ensures.0 refl in
    let params = sym (ap (map parameter_view) c.deref.ensures.value) ∙ c.if-not-has_same_input_parameters.ensures.same refl ∙ ap
    (map parameter_view) c.deref-2.ensures.value in
    let tables = sym c.deref-3.ensures.value ∙ c.if-not-has_same_input_tables.ensures.same refl ∙ c.deref-4.ensures.value in (
      λ same. same_bytes a b sides params tables (c.is_same_input_picture.ensures.0 same),
      λ h. c.is_same_input_picture.ensures.1 (same_picture a b c.requires.first c.requires.second params h),
    )
