use Rattle.std.proofs.Common.{rules, arith, ℕ, ◌≡◌, ◌≤◌, ◌<◌, ◌-◌, ◌+◌, ◌*◌, length, take, drop, map, subst, sym, ◌∙◌, ◌+ℤ◌, pos}
use Rattle.std.specs.Option.{option_map}
use Rattle.narrow_eval.specs.declared.narrow_case.NarrowCase.{NarrowCase}
use Rattle.narrow_eval.specs.declared.narrow_program.NarrowProgram.{NarrowProgram}
use Rattle.job.specs.Reads.{EachRead}
use Rattle.narrow_eval.specs.NarrowPrograms.{program_case, program_formula}
use Rattle.tile_eval.specs.Cases.{function_value}
use Rattle.tile_eval.specs.Reading.{HasRoom}
use Rattle.tile_eval.specs.inside.Cases.{IsRoomy}
use Rattle.narrow_eval.specs.NarrowCases.{IsNarrowCase}
use Rattle.tile_eval.proofs.Gathering.{room_less}
use Rattle.tile_eval.proofs.Covering.{cut_len, part_values}
use Rattle.value_ranges.specs.Narrow.{IsNarrow}
use Rattle.narrow_eval.proofs.NarrowReady.{fewer_cases, narrow_part, narrow_behind}
use Rattle.narrow_eval.proofs.narrow_points.NarrowPoints.+evaluate_narrow_cases.Goals as goal

pub evaluate_narrow_cases_on_part-evaluate_narrow_cases-requires : goal.evaluate_narrow_cases_on_part-evaluate_narrow_cases-requires
evaluate_narrow_cases_on_part-evaluate_narrow_cases-requires g t c κs within =
    let o : c.args.from < c.args.to = c.if-from-to.true in
    let cut = cut_len c.args.from c.args.to c.args.out.now o c.requires.most in
    let some : 0 < length (take (c.args.to - c.args.from) (drop c.args.from c.args.out.now)) = rw cut (omega arith) in
    let here : length c.args.cases.now * 2 + 1 ≡ t = c.decreases in
    let below : length c.args.cases.now * 2 < t = omega (arith, here) in
    let ready =
    narrow_part (g.S.NarrowSource.has c.args.self.now.source.now) (g.S.NarrowSource.samples c.args.self.now.source.now) c.args.self.now.points.row c.args.self.now.points.col
    c.slice_points-points.result.row c.slice_points-points.result.col
    c.args.from c.args.to (length c.args.temps.now) c.args.out.now c.args.cases.now c.args.otherwise.now o c.requires.most
    c.slice_points-points.ensures.row c.slice_points-points.ensures.col c.requires.ready in
    (below, (search rules, (some, (cut ∙ sym c.slice_points-points.ensures.len, ready))))

pub evaluate_narrow_cases_on_part-returns-then-from-to-clause-inside : goal.evaluate_narrow_cases_on_part-returns-then-from-to-clause-inside
evaluate_narrow_cases_on_part-returns-then-from-to-clause-inside g t c = λ k l low high.
    part_values (function_value (g.S.NarrowSource.samples c.args.self.now.source.now) (map program_case c.args.cases.now)
    (option_map program_formula c.args.otherwise.now))
    c.args.self.now.points.row c.args.self.now.points.col
    c.slice_points-points.result.row c.slice_points-points.result.col c.args.from c.args.to k c.args.out.now c.evaluate_narrow_cases.new.out c.if-from-to.true
    c.requires.most c.evaluate_narrow_cases.auto.out
    c.slice_points-points.ensures.row c.slice_points-points.ensures.col c.evaluate_narrow_cases.ensures low high

pub evaluate_narrow_cases-evaluate_narrow_cases_where_earlier_fails-requires : goal.evaluate_narrow_cases-evaluate_narrow_cases_where_earlier_fails-requires
evaluate_narrow_cases-evaluate_narrow_cases_where_earlier_fails-requires g t c κs within =
    let here : length c.args.cases.now * 2 ≡ t = c.decreases in
    let fewer = fewer_cases c.args.cases.now c.in-len1-up.len_at_least in
    let below : length (take (length c.args.cases.now - 1) (drop 1 c.args.cases.now)) * 2 + 1 < t = omega (arith, here, fewer) in
    let ready =
    narrow_behind (g.S.NarrowSource.has c.args.self.now.source.now) (g.S.NarrowSource.samples c.args.self.now.source.now) c.args.self.now.points.row c.args.self.now.points.col
    (length c.args.out.now) (length c.args.temps.now) c.args.cases.now c.args.otherwise.now c.requires.ready in
    (below, (search rules, (c.requires.some, (c.requires.fits, (search rules, (search rules, ready))))))

pub evaluate_narrow_cases-evaluate_narrow_cases_on_part-requires-in-Some : goal.evaluate_narrow_cases-evaluate_narrow_cases_on_part-requires-in-Some
evaluate_narrow_cases-evaluate_narrow_cases_on_part-requires-in-Some g t c κs within =
    let here : length c.args.cases.now * 2 ≡ t = c.decreases in
    let fewer = fewer_cases c.args.cases.now c.in-len1-up.len_at_least in
    let below : length (take (length c.args.cases.now - 1) (drop 1 c.args.cases.now)) * 2 + 1 < t = omega (arith, here, fewer) in
    let out : length c.evaluate_narrow_cases_on_part.new.out ≡ length c.args.out.now = c.evaluate_narrow_cases_on_part.auto.out in
    let temps : length c.evaluate_narrow_cases_on_part.new.temps ≡ length c.args.temps.now = c.evaluate_narrow_cases_on_part.auto.temps in
    let most : c.in-Some.to ≤ length c.evaluate_narrow_cases_on_part.new.out = omega (arith, out, c.requires.fits, c.in-Some.ensures.most.1) in
    let ready =
    narrow_behind (g.S.NarrowSource.has c.args.self.now.source.now) (g.S.NarrowSource.samples c.args.self.now.source.now) c.args.self.now.points.row c.args.self.now.points.col
    (length c.args.out.now) (length c.args.temps.now) c.args.cases.now c.args.otherwise.now c.requires.ready in
    (below, (search rules, (out ∙ c.requires.fits, (most, (omega arith, rw out (rw temps ready))))))

pub evaluate_narrow_cases-run_narrow_program_on_part-requires-clause-room : goal.evaluate_narrow_cases-run_narrow_program_on_part-requires-clause-room
evaluate_narrow_cases-run_narrow_program_on_part-requires-clause-room g t c =
    let out : length c.evaluate_narrow_cases_on_part-in-Some.new.out ≡ length c.args.out.now = c.evaluate_narrow_cases_on_part-in-Some.auto.out ∙ c.evaluate_narrow_cases_on_part.auto.out in
    let temps : length c.evaluate_narrow_cases_on_part-in-Some.new.temps ≡ length c.args.temps.now =
    c.evaluate_narrow_cases_on_part-in-Some.auto.temps ∙ c.evaluate_narrow_cases_on_part.auto.temps in
    let roomy : IsRoomy (length c.args.out.now) (length c.args.temps.now) (program_case c.case-item.result) =
    subst (λ (p : NarrowCase). IsRoomy (length c.args.out.now) (length c.args.temps.now) (program_case p)) (sym c.case-item.is)
    (c.requires.ready.cases 0 c.case-item.result c.in-len1-up.len_at_least).1 in
    let same : length c.args.out.now ≤ length c.args.out.now = omega arith in
    let room : length c.args.temps.now - length c.args.out.now ≤ length c.args.temps.now = omega arith in
    rw out (rw temps ((room_less (program_formula c.case-item.result.program) (length c.args.out.now) (length c.args.out.now) _ _ same room roomy.operands)))

pub evaluate_narrow_cases_where_earlier_fails-evaluate_narrow_cases_on_part-requires-in-Some : goal.evaluate_narrow_cases_where_earlier_fails-evaluate_narrow_cases_on_part-requires-in-Some
evaluate_narrow_cases_where_earlier_fails-evaluate_narrow_cases_on_part-requires-in-Some g t c κs within =
    let here : length c.args.cases.now * 2 + 1 ≡ t = c.decreases in
    let fewer = fewer_cases c.args.cases.now c.in-len1-up.len_at_least in
    let below : length (take (length c.args.cases.now - 1) (drop 1 c.args.cases.now)) * 2 + 1 < t = omega (arith, here, fewer) in
    let out : length c.evaluate_narrow_cases_on_part.new.out ≡ length c.args.out.now = c.evaluate_narrow_cases_on_part.auto.out in
    let temps : length c.evaluate_narrow_cases_on_part.new.temps ≡ length c.args.temps.now = c.evaluate_narrow_cases_on_part.auto.temps in
    let most : c.in-Some.to ≤ length c.evaluate_narrow_cases_on_part.new.out = omega (arith, out, c.requires.fits, c.in-Some.ensures.most.1) in
    let ready =
    narrow_behind (g.S.NarrowSource.has c.args.self.now.source.now) (g.S.NarrowSource.samples c.args.self.now.source.now) c.args.self.now.points.row c.args.self.now.points.col
    (length c.args.out.now) (length c.args.temps.now) c.args.cases.now c.args.otherwise.now c.requires.ready in
    (below, (search rules, (out ∙ c.requires.fits, (most, (omega arith, rw out (rw temps ready))))))

pub evaluate_narrow_cases_where_earlier_fails-run_narrow_program_on_part-requires-clause-room : goal.evaluate_narrow_cases_where_earlier_fails-run_narrow_program_on_part-requires-clause-room
evaluate_narrow_cases_where_earlier_fails-run_narrow_program_on_part-requires-clause-room g t c =
    let out : length c.evaluate_narrow_cases_on_part-in-Some.new.out ≡ length c.args.out.now = c.evaluate_narrow_cases_on_part-in-Some.auto.out ∙ c.evaluate_narrow_cases_on_part.auto.out in
    let temps : length c.evaluate_narrow_cases_on_part-in-Some.new.temps ≡ length c.args.temps.now =
    c.evaluate_narrow_cases_on_part-in-Some.auto.temps ∙ c.evaluate_narrow_cases_on_part.auto.temps in
    let roomy : IsRoomy (length c.args.out.now) (length c.args.temps.now) (program_case c.case-item.result) =
    subst (λ (p : NarrowCase). IsRoomy (length c.args.out.now) (length c.args.temps.now) (program_case p)) (sym c.case-item.is)
    (c.requires.ready.cases 0 c.case-item.result c.in-len1-up.len_at_least).1 in
    let same : length c.args.out.now ≤ length c.args.out.now = omega arith in
    let room : length c.args.temps.now - length c.args.out.now ≤ length c.args.temps.now = omega arith in
    rw out (rw temps ((room_less (program_formula c.case-item.result.program) (length c.args.out.now) (length c.args.out.now) _ _ same room roomy.operands)))

pub evaluate_narrow_cases_where_earlier_fails-run_narrow_program_on_part-requires-clause-reads : goal.evaluate_narrow_cases_where_earlier_fails-run_narrow_program_on_part-requires-clause-reads
evaluate_narrow_cases_where_earlier_fails-run_narrow_program_on_part-requires-clause-reads g t c = λ k l low high.
    let out : length c.evaluate_narrow_cases_on_part-in-Some.new.out ≡ length c.args.out.now = c.evaluate_narrow_cases_on_part-in-Some.auto.out ∙ c.evaluate_narrow_cases_on_part.auto.out in
    let few : k < length c.args.out.now = subst (λ (n : ℕ). k < n) out l in
    let short : k < c.args.self.now.points.len = subst (λ (n : ℕ). k < n) c.requires.fits few in
    let ready : IsNarrowCase (g.S.NarrowSource.has c.args.self.now.source.now) (g.S.NarrowSource.samples c.args.self.now.source.now) (program_case c.case-item.result) c.args.self.now.points.row
    (c.args.self.now.points.col +ℤ pos k) =
    subst (λ (p : NarrowCase). IsNarrowCase (g.S.NarrowSource.has c.args.self.now.source.now) (g.S.NarrowSource.samples c.args.self.now.source.now) (program_case p) c.args.self.now.points.row
    (c.args.self.now.points.col +ℤ pos k)) (sym c.case-item.is)
    ((c.requires.ready.cases 0 c.case-item.result c.in-len1-up.len_at_least).0 k few) in
    (ready.reads (c.in-Some.ensures.inside k short low high))

pub evaluate_narrow_cases_where_earlier_fails-run_narrow_program_on_part-requires-clause-narrow : goal.evaluate_narrow_cases_where_earlier_fails-run_narrow_program_on_part-requires-clause-narrow
evaluate_narrow_cases_where_earlier_fails-run_narrow_program_on_part-requires-clause-narrow g t c = λ k l low high.
    let out : length c.evaluate_narrow_cases_on_part-in-Some.new.out ≡ length c.args.out.now = c.evaluate_narrow_cases_on_part-in-Some.auto.out ∙ c.evaluate_narrow_cases_on_part.auto.out in
    let few : k < length c.args.out.now = subst (λ (n : ℕ). k < n) out l in
    let short : k < c.args.self.now.points.len = subst (λ (n : ℕ). k < n) c.requires.fits few in
    let ready : IsNarrowCase (g.S.NarrowSource.has c.args.self.now.source.now) (g.S.NarrowSource.samples c.args.self.now.source.now) (program_case c.case-item.result) c.args.self.now.points.row
    (c.args.self.now.points.col +ℤ pos k) =
    subst (λ (p : NarrowCase). IsNarrowCase (g.S.NarrowSource.has c.args.self.now.source.now) (g.S.NarrowSource.samples c.args.self.now.source.now) (program_case p) c.args.self.now.points.row
    (c.args.self.now.points.col +ℤ pos k)) (sym c.case-item.is)
    ((c.requires.ready.cases 0 c.case-item.result c.in-len1-up.len_at_least).0 k few) in
    (ready.narrow (c.in-Some.ensures.inside k short low high))
