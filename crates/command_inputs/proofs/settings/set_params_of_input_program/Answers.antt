use Rattle.std.proofs.Common.{subst, arith, rules, SFits, w32}
use Rattle.std.proofs.Math.Facts.{to_z-of_z}
use Rattle.pipe_bounds.specs.Settings.{SetsOne}
use Rattle.command_inputs.specs.Giving.{IsNotSettable}
use Rattle.command_inputs.proofs.Handing.{given_more, not_settable, set_of, told_refusal}
use Rattle.command_inputs.proofs.Listed.{here_is}
use Rattle.command_inputs.proofs.settings.set_params_of_input_program.Goals as goal

pub returns-in-Err-clause-fault : goal.returns-in-Err-clause-fault
returns-in-Err-clause-fault c =
    let ss = c.loop-name.params in
    let pair = c.loop-name-item.result in
    let there = here_is c.args.given.now c.loop-name.name-index pair (omega arith) c.loop-name-item.is in
    let why = not_settable ss c.as_str.result.now c.in-Err.fault c.set.result c.in-Err.is c.set.ensures.no_such c.set.ensures.twice in
    told_refusal c.args.params.now ss c.args.given.now c.loop-name.name-index pair c.in-Err.fault c.convert_param_fault_to_input_fault.result there
    c.loop-name.invariant
    (subst (λ n. IsNotSettable ss n c.in-Err.fault) c.as_str.ensures.value why) c.convert_param_fault_to_input_fault.ensures

pub loop-name-preserved : goal.loop-name-preserved
loop-name-preserved c =
    let ss = c.loop-name.params in
    let new = c.set.new.self in
    let pair = c.loop-name-item.result in
    let fits : SFits w32 pair.1 = search rules in
    let set = set_of c.set.result c.set.ensures.ok (λ e is. c.in_default.not-Err e is) in
    let exact : SetsOne ss new c.as_str.result.now pair.1 = rw (to_z-of_z {w = w32} {z = pair.1} fits) at set in
    given_more c.args.params.now ss new c.args.given.now c.loop-name.name-index pair (omega arith) c.loop-name-item.is c.loop-name.invariant
    (subst (λ n. SetsOne ss new n pair.1) c.as_str.ensures.value exact)
