-- Jobs whose stages look like the first ones of another job: in steps.
use Rattle.std.proofs.Common.{ℕ, zero, suc, ◌≡◌, ℤ, List, [], ◌∷◌, ◌++◌, ◌≤◌, length, slice_get, refl, subst, sym, ◌∙◌, arith}
use Rattle.std.specs.Prelude.{All}
use Rattle.std.specs.Option.{option_map_or}
use Rattle.std.proofs.lemmas.List.Elements.{All-nil, All-cons, All-head, All-tail}
use Rattle.std.proofs.lemmas.Option.{none-some, same_Some}
use Rattle.domains.specs.Area.{HoldsPoint}
use Rattle.domains.specs.declared.area.Area.{Area}
use Rattle.job.specs.Pipeline.{Body, plane, function, accumulator, Stage, Pipeline}
use Rattle.job.specs.WellFormed.{IsFunction, IsReadable, IsValued}
use Rattle.part_stages.specs.Parts.{job_with}
use Rattle.part_stages.specs.HasMore.{HasMore}
use Rattle.part_stages.specs.declared.part_stages.PartStages.{PartStages}
use Rattle.normal_jobs.specs.Alike.{AnswersAlike, BeginAlike, IsSameKind, LookAlike, LooksAlike}

-- ---- kinds

kind_itself : (b : Body) → IsSameKind b b
kind_itself (plane n) = refl
kind_itself (function cases otherwise) = tt
kind_itself (accumulator fold bins value bin) = (refl, refl)

kinds : (a b c : Body) → IsSameKind a b → IsSameKind b c → IsSameKind a c
kinds (plane n) (plane m) (plane k) x y = y ∙ x
kinds (plane n) (plane m) (function cases otherwise) x y = absurd y
kinds (plane n) (plane m) (accumulator fold bins value bin) x y = absurd y
kinds (plane n) (function others other) c x y = absurd x
kinds (plane n) (accumulator way ends amount place) c x y = absurd x
kinds (function cases otherwise) (plane m) c x y = absurd x
kinds (function cases otherwise) (function others other) (plane k) x y = absurd y
kinds (function cases otherwise) (function others other) (function more last) x y = tt
kinds (function cases otherwise) (function others other) (accumulator fold bins value bin) x y = absurd y
kinds (function cases otherwise) (accumulator way ends amount place) c x y = absurd x
kinds (accumulator fold bins value bin) (plane m) c x y = absurd x
kinds (accumulator fold bins value bin) (function others other) c x y = absurd x
kinds (accumulator fold bins value bin) (accumulator way ends amount place) (plane k) x y = absurd y
kinds (accumulator fold bins value bin) (accumulator way ends amount place) (function cases otherwise) x y = absurd y
kinds (accumulator fold bins value bin) (accumulator way ends amount place) (accumulator next last sum at) x y = (y.0 ∙ x.0, y.1 ∙ x.1)

function_kind : (a b : Body) → IsSameKind a b → IsFunction a → IsFunction b
function_kind (plane n) b x is = absurd is
function_kind (function cases otherwise) (plane m) x is = absurd x
function_kind (function cases otherwise) (function others other) x is = tt
function_kind (function cases otherwise) (accumulator fold bins value bin) x is = absurd x
function_kind (accumulator fold bins value bin) b x is = absurd is

valued_kind : (a b : Body) → IsSameKind a b → IsValued a → IsValued b
valued_kind (plane n) (plane m) x is = tt
valued_kind (plane n) (function cases otherwise) x is = absurd x
valued_kind (plane n) (accumulator fold bins value bin) x is = absurd x
valued_kind (function cases otherwise) (plane m) x is = absurd x
valued_kind (function cases otherwise) (function others other) x is = tt
valued_kind (function cases otherwise) (accumulator fold bins value bin) x is = absurd x
valued_kind (accumulator fold bins value bin) b x is = absurd is

-- ---- stages

looks_itself : (s : Stage) → LooksAlike s s
looks_itself s = record { name = refl; domain = refl; body = kind_itself s.body }

looks : (s t u : Stage) → LooksAlike s t → LooksAlike t u → LooksAlike s u
looks s t u x y = record { name = y.name ∙ x.name; domain = y.domain ∙ x.domain; body = kinds s.body t.body u.body x.body y.body }

abbrev Functions : List Stage → Type 0
Functions = All (λ s. IsFunction s.body)

pub begins_alike : (ss ts : List Stage) → LookAlike ss ts → BeginAlike ss ts
begins_alike [] [] z = All-nil (λ s. IsFunction s.body)
begins_alike [] (t ∷ ts) z = absurd z
begins_alike (s ∷ ss) [] z = absurd z
begins_alike (s ∷ ss) (t ∷ ts) z = (z.0, begins_alike ss ts z.1)

begins_with : (ss more : List Stage) → Functions more → BeginAlike ss (ss ++ more)
begins_with [] more functions = functions
begins_with (s ∷ ss) more functions = (looks_itself s, begins_with ss more functions)

functions_behind : (ts us : List Stage) → Functions ts → BeginAlike ts us → Functions us
functions_behind [] us functions z = z
functions_behind (t ∷ ts) [] functions z = absurd z
functions_behind (t ∷ ts) (u ∷ us) functions z =
    All-cons (λ s. IsFunction s.body) u us (function_kind t.body u.body z.0.body (All-head (λ s. IsFunction s.body) t ts functions))
    (functions_behind ts us (All-tail (λ s. IsFunction s.body) t ts functions) z.1)

begins : (ss ts us : List Stage) → BeginAlike ss ts → BeginAlike ts us → BeginAlike ss us
begins [] ts us x y = functions_behind ts us x y
begins (s ∷ ss) [] us x y = absurd x
begins (s ∷ ss) (t ∷ ts) [] x y = absurd y
begins (s ∷ ss) (t ∷ ts) (u ∷ us) x y = (looks s t u x.0 y.0, begins ss ts us x.1 y.1)

readable_begun : (ss ts : List Stage) → BeginAlike ss ts → (g : ℕ) (r c : ℤ) → IsReadable ss g r c → IsReadable ts g r c
readable_begun [] ts z g r c x = absurd (none-some x.stage x.there)
readable_begun (s ∷ ss) [] z g r c x = absurd z
readable_begun (s ∷ ss) (t ∷ ts) z zero r c x =
    record {
      stage = t;
      there = refl;
      valued = valued_kind s.body t.body z.0.body (subst (λ (u : Stage). IsValued u.body) (sym (same_Some s x.stage x.there)) x.valued);
      within =
          subst (λ (a : Area). HoldsPoint a r c) (sym z.0.domain)
          (subst (λ (u : Stage). HoldsPoint u.domain r c) (sym (same_Some s x.stage x.there)) x.within);
    }
readable_begun (s ∷ ss) (t ∷ ts) z (suc g) r c x =
    let found = readable_begun ss ts z.1 g r c (record { stage = x.stage; there = x.there; valued = x.valued; within = x.within }) in
    record { stage = found.stage; there = found.there; valued = found.valued; within = found.within }

pub begins_itself : (ss : List Stage) → BeginAlike ss ss
begins_itself [] = All-nil (λ s. IsFunction s.body)
begins_itself (s ∷ ss) = (looks_itself s, begins_itself ss)

-- ---- what is computed of the stages

-- what is computed of the stage of a number is the same where functions give nothing
pub same_begun : {Y : Type 0} (f h : Stage → Y) (d : Y) (ss ts : List Stage) → BeginAlike ss ts → (k : ℕ)
    → ((s t : Stage) → LooksAlike s t → h t ≡ f s) → ((t : Stage) → IsFunction t.body → h t ≡ d)
    → option_map_or h (slice_get ts k) d ≡ option_map_or f (slice_get ss k) d
same_begun f h d [] [] z k each none = refl
same_begun f h d [] (t ∷ ts) z zero each none = none t (All-head (λ s. IsFunction s.body) t ts z)
same_begun f h d [] (t ∷ ts) z (suc k) each none =
    same_begun f h d [] ts (All-tail (λ s. IsFunction s.body) t ts z) k each none
same_begun f h d (s ∷ ss) [] z k each none = absurd z
same_begun f h d (s ∷ ss) (t ∷ ts) z zero each none = each s t z.0
same_begun f h d (s ∷ ss) (t ∷ ts) z (suc k) each none = same_begun f h d ss ts z.1 k each none

pub not_shorter : (ss ts : List Stage) → BeginAlike ss ts → length ss ≤ length ts
not_shorter [] ts z = omega arith
not_shorter (s ∷ ss) [] z = absurd z
not_shorter (s ∷ ss) (t ∷ ts) z = let h = not_shorter ss ts z.1 in omega (arith, h)

-- ---- jobs

pub alike_in_steps : (job middle other : Pipeline) → AnswersAlike job middle → AnswersAlike middle other → AnswersAlike job other
alike_in_steps job middle other x y =
    record {
      stages = begins job.stages middle.stages other.stages x.stages y.stages;
      values = λ g r c is. y.values g r c (readable_begun job.stages middle.stages x.stages g r c is) ∙ x.values g r c is;
      image = y.image ∙ x.image;
      totals = λ g. y.totals g ∙ x.totals g;
    }

pub alike_with_more : (job : Pipeline) (parts : PartStages) → HasMore job parts → AnswersAlike job (job_with job parts)
alike_with_more job parts has =
    record {
      stages = begins_with job.stages _ has.functions;
      values = has.values;
      image = has.image;
      totals = has.totals;
    }
