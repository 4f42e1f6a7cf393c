use Rattle.std.proofs.Common.{ℕ, rules, sym, codes, subst}
use Rattle.clap.specs.Words.{found_of, first_of, rows_of}
use Rattle.domains.specs.Sides.{Sides}
use Rattle.command_line.specs.Values.{IsChosen}
use Rattle.command_line.proofs.ChosenOptions.{chosen_usual, if_none, no_percent, no_sides}
use Rattle.command_line.proofs.words.read_tile_and_schedule_options.Goals as goal

pub returns-in_err-rows-clause-none : goal.returns-in_err-rows-clause-none
returns-in_err-rows-clause-none c =
    if_none c.from_residual.result
    (λ options are. c.in_err-rows.ensures.none options.sides.height (chosen_usual _ _ _ _ (search rules) are.height))

pub returns-in_err-cols-clause-none : goal.returns-in_err-cols-clause-none
returns-in_err-cols-clause-none c =
    if_none c.from_residual-in_err-cols.result
    (λ options are. c.in_err-cols.ensures.none options.sides.width (chosen_usual _ _ _ _ (search rules) are.width))

pub returns-in_err-percent-clause-none : goal.returns-in_err-percent-clause-none
returns-in_err-percent-clause-none c =
    if_none c.from_residual-in_err-percent.result
    (λ options are. c.in_err-percent.ensures.none options.percent (chosen_usual _ _ _ _ (search rules) are.percent))

pub returns-in_err-new-clause-none : goal.returns-in_err-new-clause-none
returns-in_err-new-clause-none c =
    if_none c.from_residual-in_err-new.result (no_sides (rows_of (found_of c.args.given.now)) c.in_ok-rows.rows c.in_ok-cols.cols
    (chosen_usual _ _ _ _ (search rules) c.in_ok-rows.ensures.some)
    (chosen_usual _ _ _ _ (search rules) c.in_ok-cols.ensures.some) c.in_err-new.ensures.none)

pub returns-in_err-new-2-clause-none : goal.returns-in_err-new-2-clause-none
returns-in_err-new-2-clause-none c =
    if_none c.from_residual-in_err-new-2.result (no_percent (rows_of (found_of c.args.given.now)) c.in_ok-percent.percent
    (chosen_usual _ _ _ _ (search rules) c.in_ok-percent.ensures.some) c.in_err-new-2.ensures.none)

pub returns-clause-some : goal.returns-clause-some
returns-clause-some c =
    let sides = c.in_ok-new.ensures.some in
    let rows = rows_of (found_of c.args.given.now) in
    record {
      height =
          subst (λ (s : Sides). IsChosen (first_of (codes "rows") rows) 64 s.height) (sym sides)
          (chosen_usual _ _ _ _ (search rules) c.in_ok-rows.ensures.some);
      width =
          subst (λ (s : Sides). IsChosen (first_of (codes "cols") rows) 64 s.width) (sym sides)
          (chosen_usual _ _ _ _ (search rules) c.in_ok-cols.ensures.some);
      sides = c.in_ok-new.ensures.within;
      percent =
          subst (λ (n : ℕ). IsChosen (first_of (codes "percent") rows) 40 n) (sym c.in_ok-new-2.ensures.some)
          (chosen_usual _ _ _ _ (search rules) c.in_ok-percent.ensures.some);
      most = c.in_ok-new-2.ensures.within;
      stored = c.is_flag_option_set_by_name.ensures;
    }
