-- The lines of facts and verdicts side by side.
use Rattle.std.proofs.Common.{◌≡◌, ◌<◌, ◌++◌, ◌∷◌, [], ℕ, List, Option, arith, ap, get_or, length, min, subst, sym, take, ◌∙◌}
use Rattle.std.specs.List.{flat_map, zip}
use Rattle.std.proofs.lemmas.List.{length_push, take_all}
use Rattle.std.proofs.lemmas.Slice.Zip.{get_or-zip, length-zip}
use Rattle.fact_audit.specs.declared.verdict.Verdict.{Verdict}
use Rattle.tile_fact.specs.declared.fact.Fact.{Fact}
use Rattle.fact_commands.specs.Verdicts.{verdict_line, verdict_lines}
use Rattle.write_buffer.specs.Passing.{Breaks, Passes}
use Rattle.write_buffer.proofs.PassingLaws.{breaks_more, passes_more}

-- the fact and the verdict stand at this place
abbrev pub StandAt : List Fact → List Verdict → ℕ → Fact → Verdict → Type 0
StandAt facts verdicts i fact verdict =
    (i < length facts) × (i < length verdicts) × ((d : Fact) → fact ≡ get_or facts i d) × ((d : Verdict) → verdict ≡ get_or verdicts i d)

within : (facts : List Fact) (verdicts : List Verdict) (i : ℕ) (fact : Fact) (verdict : Verdict) → StandAt facts verdicts i fact verdict
    → i < length (zip facts verdicts)
within facts verdicts i fact verdict at =
    let long = length-zip facts verdicts in
    let one = at.0 in
    let other = at.1 in omega (arith, long, one, other)

pair_at : (facts : List Fact) (verdicts : List Verdict) (i : ℕ) (fact : Fact) (verdict : Verdict) → StandAt facts verdicts i fact verdict
    → get_or (zip facts verdicts) i (fact, verdict) ≡ (fact, verdict)
pair_at facts verdicts i fact verdict at =
    get_or-zip facts verdicts i (fact, verdict) at.0 at.1
    ∙ ap (λ (f : Fact). (f, get_or verdicts i verdict)) (sym (at.2 fact)) ∙ ap (λ (v : Verdict). (fact, v)) (sym (at.3 verdict))

pub passes_pair : {X : Type 0} (facts : List Fact) (verdicts : List Verdict) (seen : List X) (last : X) (fact : Fact) (verdict : Verdict)
    (was mid waits : List ℕ) (a b c : Option (List ℕ)) (n m k : ℕ) → StandAt facts verdicts (length seen) fact verdict
    → Passes (flat_map verdict_line (take (length seen) (zip facts verdicts))) was mid a b n m
    → Passes (verdict_line (fact, verdict)) mid waits b c m k
    → Passes (flat_map verdict_line (take (length (seen ++ last ∷ [])) (zip facts verdicts))) was waits a c n k
passes_pair facts verdicts seen last fact verdict was mid waits a b c n m k at first second =
    let i = length seen in
    subst (λ j. Passes (flat_map verdict_line (take j (zip facts verdicts))) was waits a c n k) (sym (length_push seen last))
    (passes_more verdict_line (zip facts verdicts) i (fact, verdict) was mid waits a b c n m k
    (within facts verdicts i fact verdict at) first
    (subst (λ (p : Fact × Verdict). Passes (verdict_line p) mid waits b c m k) (sym (pair_at facts verdicts i fact verdict at)) second))

pub breaks_pair : (facts : List Fact) (verdicts : List Verdict) (i : ℕ) (fact : Fact) (verdict : Verdict)
    (was mid : List ℕ) (a b c : Option (List ℕ)) (n m k : ℕ) → StandAt facts verdicts i fact verdict
    → Passes (flat_map verdict_line (take i (zip facts verdicts))) was mid a b n m
    → Breaks (verdict_line (fact, verdict)) mid b c m k → Breaks (verdict_lines facts verdicts) was a c n k
breaks_pair facts verdicts i fact verdict was mid a b c n m k at first second =
    breaks_more verdict_line (zip facts verdicts) i (fact, verdict) was mid a b c n m k (within facts verdicts i fact verdict at) first
    (subst (λ (p : Fact × Verdict). Breaks (verdict_line p) mid b c m k) (sym (pair_at facts verdicts i fact verdict at)) second)

pub all_pairs : (facts : List Fact) (verdicts : List Verdict) (i : ℕ) (was mid : List ℕ) (a b : Option (List ℕ)) (n m : ℕ)
    → i ≡ min (length facts) (length verdicts)
    → Passes (flat_map verdict_line (take i (zip facts verdicts))) was mid a b n m → Passes (verdict_lines facts verdicts) was mid a b n m
all_pairs facts verdicts i was mid a b n m end passes =
    let long = length-zip facts verdicts in
    subst (λ pairs. Passes (flat_map verdict_line pairs) was mid a b n m) (take_all i (zip facts verdicts) (omega (arith, long, end)))
    passes
