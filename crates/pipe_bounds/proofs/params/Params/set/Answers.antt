use Rattle.std.proofs.Common.{ℤ, ◌≡◌, Some, w32, to_z, of_z, slice_set, refl, sym, ◌∙◌, ap}
use Rattle.std.proofs.lemmas.Int.{to_z-of_z}
use Rattle.std.proofs.lemmas.Option.{same_Some}
use Rattle.pipe_bounds.specs.declared.params.Setting.{Setting}
use Rattle.pipe_bounds.specs.Settings.{place_in}
use Rattle.pipe_bounds.proofs.Settled.{set_is, not_set, none_of, read_at}
use Rattle.pipe_bounds.proofs.params.Params.set.Goals as goal

pub returns-then-is_some-clause-twice : goal.returns-then-is_some-clause-twice
returns-then-is_some-clause-twice c =
    let first : place_in c.args.self.now c.args.name.now ≡ Some c.in-Some.number =
    ap (place_in c.args.self.now) (sym c.as_bytes.ensures.value) ∙ sym c.find_param_number.ensures ∙ c.in-Some.is in
    let there =
    read_at c.self.inside.settings.items c.args.self.now c.args.name.now c.in-Some.number c.index.result.now c.self.view_is first
    c.index.ensures in (
      (λ _. set_is c.args.self.now c.args.name.now c.in-Some.number c.index.result.now first there
          (sym c.is_some.ensures ∙ c.if-is_some.true)),
      (λ _. refl),
    )

pub returns-clause-ok : goal.returns-clause-ok
returns-clause-ok c =
    let n = c.in-Some.number in
    let first : place_in c.args.self.now c.args.name.now ≡ Some n =
    ap (place_in c.args.self.now) (sym c.as_bytes.ensures.value) ∙ sym c.find_param_number.ensures ∙ c.in-Some.is in
    let there =
    read_at c.self.inside.settings.items c.args.self.now c.args.name.now n c.index.result.now c.self.view_is first c.index.ensures in
    let there_too =
    read_at c.self.inside.settings.items c.args.self.now c.args.name.now n c.index_mut.result.now c.self.view_is first
    c.index_mut.ensures.value in
    let same : c.index_mut.result.now ≡ c.index.result.now = same_Some _ _ (sym there_too ∙ there) in
    record {
      place = n;
      setting = c.index_mut.result.now;
      first = first;
      there = there_too;
      unset = ap (λ (s : Setting). s.value) same ∙ none_of c.index.result.now.value (sym c.is_some.ensures ∙ c.if-is_some.false);
      set =
          ap (λ xs. slice_set xs n (record { name = c.index_mut.result.now.name; value = Some (to_z w32 (of_z w32 c.args.value)) }))
          c.self.view_is
          ∙ ap (λ (z : ℤ). slice_set c.args.self.now n (record { name = c.index_mut.result.now.name; value = Some z }))
          (to_z-of_z w32 c.args.value c.ranges.value);
    }

pub returns-clause-twice : goal.returns-clause-twice
returns-clause-twice c =
    let first : place_in c.args.self.now c.args.name.now ≡ Some c.in-Some.number =
    ap (place_in c.args.self.now) (sym c.as_bytes.ensures.value) ∙ sym c.find_param_number.ensures ∙ c.in-Some.is in
    let there =
    read_at c.self.inside.settings.items c.args.self.now c.args.name.now c.in-Some.number c.index.result.now c.self.view_is first
    c.index.ensures in (
      (λ e. cc),
      (λ h. absurd (not_set c.args.self.now c.args.name.now c.in-Some.number c.index.result.now first there
          (sym c.is_some.ensures ∙ c.if-is_some.false) h)),
    )
