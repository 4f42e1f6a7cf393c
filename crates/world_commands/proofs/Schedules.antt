-- The schedules of one job more.
use Rattle.std.proofs.Common.{◌≡◌, ◌∙◌, ◌+◌, ◌++◌, ℕ, Bool, Some, List, [], ◌∷◌, ap, ap₂, map, slice_get, sym, take}
use Rattle.std.proofs.lemmas.List.{map_push, take_more}
use Rattle.std.proofs.lemmas.Option.{get_or_from_slice_get, slice_get_within}
use Rattle.catalog.specs.Entries.{Entry}
use Rattle.grouping.specs.Inlining.{Inlining}
use Rattle.command_jobs.specs.RequestedSchedule.{requested_inlining}
use Rattle.world_commands.specs.WorldSayings.{inlinings}

abbrev pub taken_of : List Inlining → List (List Bool)
taken_of = map (λ (s : Inlining). s.inlining)

pub schedule_more : (stored : Bool) (percent : ℕ) (jobs : List Entry) (i : ℕ) (entry : Entry) (before now : List Inlining) (s : Inlining)
    → taken_of before ≡ inlinings stored percent (take i jobs) → Some entry ≡ slice_get jobs i
    → s.inlining ≡ requested_inlining stored percent entry.pipeline → now ≡ before ++ s ∷ []
    → taken_of now ≡ inlinings stored percent (take (i + 1) jobs)
schedule_more stored percent jobs i entry before now s was there asked is =
    let asks = λ (e : Entry). requested_inlining stored percent e.pipeline in
    let here = sym there in
    let front : take (i + 1) jobs ≡ take i jobs ++ entry ∷ [] =
    take_more jobs i entry (slice_get_within jobs i entry here)
    ∙ ap (λ (e : Entry). take i jobs ++ e ∷ []) (get_or_from_slice_get jobs i entry entry here) in
    ap taken_of is ∙ map_push (λ (t : Inlining). t.inlining) before s ∙ ap₂ (λ xs x. xs ++ x ∷ []) was asked
    ∙ sym (ap (map asks) front ∙ map_push asks (take i jobs) entry)
