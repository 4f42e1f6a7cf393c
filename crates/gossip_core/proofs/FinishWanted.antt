-- Where a schedule stores the outputs, each tile that the answer is put together from is a work tile.
use Rattle.std.proofs.Common.{ℕ, ◌≡◌, ◌||◌, ◌&&◌, refl, sym, ap, ◌∙◌, subst, Bool, true, false, not, Option, Some, None, List}
use Rattle.std.specs.Prelude.{◌==◌, IsSomeAnd, slice_index}
use Rattle.std.specs.List.{Contains, list_any}
use Rattle.std.specs.Option.{option_map_or}
use Rattle.std.proofs.lemmas.Bool.{eqb-true, false≢true, true≢false}
use Rattle.std.proofs.lemmas.List.Elements.{All-contains}
use Rattle.std.proofs.lemmas.List.Folds.{Any-from_list_any}
use Rattle.domains.specs.Tiles.{HasTile}
use Rattle.domains.specs.declared.grid.Grid.{Grid}
use Rattle.tile_boxes.specs.Schedules.{StoresOutputs}
use Rattle.tile_boxes.specs.Schedules.{is_function_stage, is_function_body, is_inlined}
use Rattle.job.specs.Answers.{Tile, height_of, is_output, width_of}
use Rattle.job.specs.Pipeline.{Body, plane, function, accumulator, Output, Pipeline, Stage}
use Rattle.job.specs.WellFormed.{IsFunction, IsJob, IsOutputPlane}
use Rattle.held_facts.proofs.WantedTiles.{IsWantedTile}
use Rattle.overlap_tiles.specs.Work.{IsWork, is_accumulator_at, is_stored_or_accumulator_work_stage}

among : (xs : List ℕ) (g : ℕ) → list_any (λ h. h == g) xs ≡ true → Contains xs g
among xs g e =
    let some = Any-from_list_any (λ h. h == g) xs e in subst (Contains xs) (eqb-true some.1 g some.4) (some.0, some.2, some.3)

a_function : (b : Body) → IsFunction b → is_function_body b ≡ true
a_function (plane n) is = absurd is
a_function (function cases otherwise) is = refl
a_function (accumulator fold bins value bin) is = absurd is

pub output_is_function : (job : Pipeline) (g : ℕ) → IsJob job → is_output job g ≡ true → is_function_stage job g ≡ true
output_is_function job g good = by job.output refl
  where
    by : (o : Option Output) → job.output ≡ o → option_map_or (λ x. list_any (λ h. h == g) x.stages) o false ≡ true
        → is_function_stage job g ≡ true
    by None there is = absurd (false≢true is)
    by (Some o) there is =
        let head = slice_index o.stages 0 in
        let own = All-contains (IsOutputPlane job (height_of job head) (width_of job head)) o.stages g (good.output o there).equal_sides
        (among o.stages g is) in
        ap (λ (s : Option Stage). option_map_or (λ x. is_function_body x.body) s false) own.there ∙ a_function own.stage.body own.function

stored : (f i a : Bool) → f ≡ true → (i ≡ true → ⊥) → ((f && not i) || a) ≡ true
stored true true a e apart = absurd (apart refl)
stored true false a e apart = refl
stored false i a e apart = absurd (false≢true e)

or_right : (a b : Bool) → b ≡ true → (a || b) ≡ true
or_right true b e = refl
or_right false b e = e

pub wanted_is_work : (job : Pipeline) (inlining : List Bool) (t : Tile) → IsJob job → StoresOutputs job inlining → IsWantedTile job t
    → IsWork job inlining t
wanted_is_work job inlining t good stores is = record {
  tile = subst (λ (o : Option Grid). IsSomeAnd o (λ d. HasTile d t.row t.col)) (sym is.there) is.tile;
  made = by (is_output job t.stage) refl is.wanted;
}
  where
    by : (b : Bool) → is_output job t.stage ≡ b → (b || is_accumulator_at job t.stage) ≡ true → is_stored_or_accumulator_work_stage job inlining t.stage ≡ true
    by true out one =
        stored (is_function_stage job t.stage) (is_inlined inlining t.stage) (is_accumulator_at job t.stage)
        (output_is_function job t.stage good out) (λ i. true≢false (sym out ∙ stores t.stage i))
    by false out one = or_right _ (is_accumulator_at job t.stage) one
