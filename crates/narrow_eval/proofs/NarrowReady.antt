-- Cases along a row of points that are computed in 16 bits.
use Rattle.std.proofs.Common.{arith, ℕ, ℤ, ◌≡◌, ◌-◌, ◌+◌, ◌<◌, ◌≤◌, pos, ◌+ℤ◌, ◌↔◌, List, length, take, drop, map}
use Rattle.std.proofs.Common.{Option, Some, None, subst, sym, ◌∙◌, refl}
use Rattle.std.specs.Prelude.{All, slice_index_or}
use Rattle.std.specs.Option.{ForSome, option_map}
use Rattle.std.proofs.lemmas.Grind.{common_steps}
use Rattle.std.proofs.lemmas.List.Elements.{All-take, All-drop}
use Rattle.domains.specs.Area.{HoldsPoint}
use Rattle.domains.specs.declared.area.Area.{Area}
use Rattle.narrow_eval.specs.declared.narrow_program.NarrowProgram.{NarrowProgram}
use Rattle.narrow_eval.specs.declared.narrow_case.NarrowCase.{NarrowCase}
use Rattle.job.specs.Formula.{Formula}
use Rattle.job.specs.Pipeline.{JobCase}
use Rattle.job.specs.Values.{Valuation}
use Rattle.job.specs.Boxes.{BoundsHold}
use Rattle.job.specs.Reads.{EachRead, other_formula}
use Rattle.narrow_eval.specs.NarrowPrograms.{program_case, program_formula}
use Rattle.job.specs.WellFormed.{IsFormula}
use Rattle.job.proofs.Agreeing.{All-left, All-right}
use Rattle.job.proofs.BoxLaws.{box_is_cut, passed_in_box}
use Rattle.job.proofs.Steps.{All-from_map, other_each}
use Rattle.row_loops.specs.Rows.{EachPlace}
use Rattle.tile_eval.specs.Reading.{HasRoom}
use Rattle.tile_eval.specs.Cases.{InBox}
use Rattle.tile_eval.specs.inside.Cases.{IsRoomy}
use Rattle.tile_eval.proofs.Covering.{cut_len, part_each, roomy_less}
use Rattle.tile_eval.proofs.Gathering.{room_less}
use Rattle.value_ranges.specs.Narrow.{IsNarrow}
use Rattle.narrow_eval.specs.NarrowCases.{IsNarrowCase, AreNarrowCases, IsNarrowComputable}

-- ---- a case at a point of the domain

in_some : (o : Option Area) (r c : ℤ) → InBox o r c → (box : Area) × (o ≡ Some box) × HoldsPoint box r c
in_some None r c h = absurd h
in_some (Some box) r c h = (box, refl, h)

abbrev IsCut : (ℤ → ℤ → Type 0) → Area → Option Area → Type 0
IsCut P domain None = (r c : ℤ) → ¬ (HoldsPoint domain r c × P r c)
IsCut P domain (Some box) = (r c : ℤ) → HoldsPoint box r c ↔ (HoldsPoint domain r c × P r c)

cut_holds : (P : ℤ → ℤ → Type 0) (domain : Area) (o : Option Area) (r c : ℤ) → IsCut P domain o → InBox o r c → P r c
cut_holds P domain None r c cut h = absurd h
cut_holds P domain (Some box) r c cut h = ((cut r c).0 h).1

module _ (has : ℕ → ℤ → ℤ → Type 0) (env : Valuation) (r c : ℤ) (n room : ℕ) (ps : List JobCase) (o : Option Formula)
    (is : IsNarrowComputable has env r c n room ps o) where
  case_ready : (i : ℕ) (d : JobCase) → i < length ps → (k : ℕ) → k < n → IsNarrowCase has env (slice_index_or ps i d) r (c +ℤ pos k)
  case_ready i d l k lk =
      let p : JobCase = slice_index_or ps i d in
      let column : ℤ = c +ℤ pos k in
      let box = is.boxes i d l in
      record {
        passed = λ e. let there = passed_in_box is.domain p.tests r column (is.inside k lk) e in
            subst (λ (b : Option Area). InBox b r column) (sym (box ∙ there.1)) there.2;
        bounds = λ h. cut_holds (BoundsHold p.tests) is.domain p.box r column
            (subst (IsCut (BoundsHold p.tests) is.domain) (sym box) (box_is_cut is.domain p.tests)) h;
        reads = λ h. let there = in_some p.box r column h in (is.reads k lk).0 i d l there.0 there.1 there.2;
        narrow = λ h. let there = in_some p.box r column h in (is.narrow k lk).boxes i d l there.0 there.1 there.2;
      }

  each_formula : All (λ p. IsFormula p.formula) ps
  each_formula = All-from_map IsFormula (λ p. p.formula) ps (All-left IsFormula (map (λ p. p.formula) ps) (other_formula o) is.formulas)

  pub cases_ready : All (λ p. EachPlace n (λ k. IsNarrowCase has env p r (c +ℤ pos k)) × IsRoomy n room p) ps
  cases_ready = λ i d l. (
    case_ready i d l,
    record { formula = each_formula i d l; tests = is.tests i d l; row = is.capacity.row; operands = is.capacity.operands i d l },
  )

  pub other_ready : ForSome o (λ f. EachPlace n (λ k. EachRead has f r (c +ℤ pos k) × IsNarrow env f r (c +ℤ pos k)) × IsFormula f × HasRoom f n room)
  other_ready = λ f there. (
    (λ k lk. ((is.reads k lk).1 f there, (is.narrow k lk).other f there)),
    other_each IsFormula o (All-right IsFormula (map (λ p. p.formula) ps) (other_formula o) is.formulas) f there,
    is.capacity.other f there,
  )

-- the cases behind the first are fewer
pub fewer_cases : (ps : List NarrowCase) → 1 ≤ length ps → length (take (length ps - 1) (drop 1 ps)) + 1 ≡ length ps
fewer_cases ps some = grind (arith, common_steps)

-- the cases behind the first
pub narrow_behind : (has : ℕ → ℤ → ℤ → Type 0) (env : Valuation) (r c : ℤ) (n room : ℕ) (ps : List NarrowCase) (o : Option NarrowProgram)
    → AreNarrowCases has env r c n room ps o → AreNarrowCases has env r c n room (take (length ps - 1) (drop 1 ps)) o
narrow_behind has env r c n room ps o h = record {
  cases = All-take P (length ps - 1) (drop 1 ps) (All-drop P 1 ps h.cases);
  other = h.other;
}
  where
    P : NarrowCase → Type 0
    P p = EachPlace n (λ k. IsNarrowCase has env (program_case p) r (c +ℤ pos k)) × IsRoomy n room (program_case p)

-- what is ready along a row is so along a part
pub narrow_part : (has : ℕ → ℤ → ℤ → Type 0) (env : Valuation) (row col r c : ℤ) (a b room : ℕ) (xs : List ℤ) (ps : List NarrowCase)
    (o : Option NarrowProgram) → a < b → b ≤ length xs → r ≡ row → c ≡ col +ℤ pos a
    → AreNarrowCases has env row col (length xs) room ps o → AreNarrowCases has env r c (length (take (b - a) (drop a xs))) room ps o
narrow_part has env row col r c a b room xs ps o l le e f h =
    let less : length (take (b - a) (drop a xs)) ≤ length xs = rw (cut_len a b xs l le) (omega arith) in
    record {
      cases = λ i d m. (
        part_each (IsNarrowCase has env (program_case (slice_index_or ps i d))) row col r c a b xs l le e f (λ k n low high. (h.cases i d m).0 k n),
        roomy_less (length xs) _ room (program_case (slice_index_or ps i d)) less (h.cases i d m).1,
      );
      other = λ g is.
          let it = h.other g is in (
            part_each (λ x y. EachRead has g x y × IsNarrow env g x y) row col r c a b xs l le e f (λ k n low high. it.0 k n),
            it.1,
            room_less g (length xs) _ room room less (omega arith) it.2,
          );
    }

-- a function that is computable has cases that are ready
pub ready_from : (has : ℕ → ℤ → ℤ → Type 0) (env : Valuation) (r c : ℤ) (n room : ℕ) (ps : List NarrowCase) (o : Option NarrowProgram)
    (qs : List NarrowCase) (u : Option NarrowProgram) → qs ≡ ps → u ≡ o
    → IsNarrowComputable has env r c n room (map program_case ps) (option_map program_formula o) → AreNarrowCases has env r c n room qs u
ready_from has env r c n room ps o qs u e f is =
    let ready : AreNarrowCases has env r c n room ps o = record {
      cases =
          All-from_map (λ p. EachPlace n (λ k. IsNarrowCase has env p r (c +ℤ pos k)) × IsRoomy n room p)
          program_case ps (cases_ready has env r c n room (map program_case ps) (option_map program_formula o) is);
      other = other_ready has env r c n room (map program_case ps) (option_map program_formula o) is;
    } in
    subst (λ (x : List NarrowCase). AreNarrowCases has env r c n room x u) (sym e)
    (subst (λ (x : Option NarrowProgram). AreNarrowCases has env r c n room ps x) (sym f) ready)
