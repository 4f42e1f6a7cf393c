-- More room is room too.
use Rattle.std.proofs.Common.{arith, ℕ, ◌-◌, ◌≡◌, ◌≤◌, List, Option, Some, slice_get, sym, ap, subst, ◌∙◌}
use Rattle.std.proofs.lemmas.List.Elements.{All-weaker}
use Rattle.std.proofs.lemmas.Option.{same_Some}
use Rattle.domains.specs.Span.{len_of}
use Rattle.domains.specs.declared.area.Area.{Area}
use Rattle.job.specs.Formula.{Formula}
use Rattle.job.specs.Pipeline.{Body, JobCase, Pipeline, Stage, plane, function, accumulator}
use Rattle.tile_eval.specs.Reading.{HasRoom, HasFunctionRoom}
use Rattle.tile_eval.proofs.Gathering.{room_less}
use Rattle.row_rings.specs.TrueRings.{HasBodyRoom, HasStageRoom, HasOwnRoom}

function_more : (ps : List JobCase) (o : Option Formula) (n room more : ℕ) → room ≤ more → HasFunctionRoom n room ps o
    → HasFunctionRoom n more ps o
function_more ps o n room more enough has =
    let row = has.row in
    let same : n ≤ n = omega arith in
    let beside : room - n ≤ more - n = omega arith in
    record {
      row = omega arith;
      operands = All-weaker (λ (p : JobCase). HasRoom p.formula n (room - n)) (λ (p : JobCase). HasRoom p.formula n (more - n))
          (λ p h. room_less p.formula n n (room - n) (more - n) same beside h) ps has.operands;
      other = λ f is. room_less f n n room more same enough (has.other f is);
    }

body_more : (n room more : ℕ) → room ≤ more → (body : Body) → HasBodyRoom n room body → HasBodyRoom n more body
body_more n room more enough (plane m) has = tt
body_more n room more enough (function cases otherwise) has = function_more cases otherwise n room more enough has
body_more n room more enough (accumulator fold bins value bin) has = tt

pub own_more : (job : Pipeline) (g room more : ℕ) → room ≤ more → HasOwnRoom job g room → HasOwnRoom job g more
own_more job g room more enough has s there = body_more (len_of s.domain.cols) room more enough s.body (has s there)

-- room for a row of the stage's domain is room for a ring that has it
pub own_room : (job : Pipeline) (g room : ℕ) (s : Stage) (area : Area) → slice_get job.stages g ≡ Some s → area ≡ s.domain
    → HasOwnRoom job g room → HasStageRoom job g (len_of area.cols) room
own_room job g room s area at is has t there =
    subst (λ n. HasBodyRoom n room t.body)
    (ap (λ (a : Area). len_of a.cols) (ap (λ (u : Stage). u.domain) (same_Some t s (sym there ∙ at)) ∙ sym is)) (has t there)
