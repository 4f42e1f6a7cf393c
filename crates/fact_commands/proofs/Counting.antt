-- More retired jobs or facts than a file counts come from lines that are digits.
use Rattle.std.proofs.Common.{◌≤◌, ◌+◌, ◌^◌, ◌++◌, ◌⊎◌, ◌∷◌, [], ℕ, List, length, take, drop, inl, inr, refl, sym, ap, subst, ◌∙◌, arith}
use Rattle.std.proofs.lemmas.List.{drop_more, take-append-drop}
use Rattle.std.proofs.lemmas.List.Elements.{All-take}
use Rattle.std.specs.List.{All, Contains}
use Rattle.fact_lines.proofs.GatheringLaws.{no_empty_file}
use Rattle.fact_lines.specs.Texts.{IsFileLine, IsGoodLine, IsJoin, IsOnLines, lines}
use Rattle.identity.specs.declared.job_ids.JobId.{JobId}
use Rattle.fact_commands.specs.FactFaults.{IsMergeFault}
use Rattle.command_faults.specs.declared.faults.StreamFault.TheVariants.{Memory}
use Rattle.tile_fact.specs.declared.fact.Fact.{Fact}

-- a line that has something is digits, and those before it are good
on_digits : {X : Type 0} (part : List JobId → List Fact → List X) (input : List ℕ) (x : X) → All IsGoodLine (lines input)
    → IsOnLines part (lines input) x → IsMergeFault input Memory
on_digits part input x good on =
    let all = lines input in
    let k = on.stands.0 in
    record {
      before = take k all;
      line = on.line;
      behind = drop (k + 1) all;
      parts =
          sym (take-append-drop k all) ∙ ap (λ l. take k all ++ l) (drop_more all k on.line on.stands.1)
          ∙ ap (λ l. take k all ++ l ∷ drop (k + 1) all) on.stands.2;
      good = All-take IsGoodLine k all good;
      wrong = record {
        some =
            λ none. no_empty_file on.retired on.facts
            (subst (λ (l : List ℕ). IsFileLine l on.retired on.facts) none on.file);
        bytes = on.file.bytes;
        digits = on.file.digits;
      };
    }

-- the first of some is there
first_of : {X : Type 0} (xs : List X) → 2 ^ 32 ≤ length xs → (x : X) × Contains xs x
first_of [] many = absurd (omega (arith, many))
first_of (x ∷ xs) many = (x, (0, (omega arith), refl))

pub too_many : (input : List ℕ) (retired : List JobId) (facts : List Fact) → IsJoin input retired facts
    → (2 ^ 32 ≤ length retired) ⊎ (2 ^ 32 ≤ length facts) → IsMergeFault input Memory
too_many input retired facts join many = elim many [
  | inl jobs ↦
      let first = first_of retired jobs in
      on_digits (λ retired facts. retired) input first.0 join.good ((join.same_ids first.0).0 first.1)
  | inr each ↦
      let first = first_of facts each in
      on_digits (λ retired facts. facts) input first.0 join.good ((join.same first.0).0 first.1).0
]
