-- One more case is read behind the others.
use Rattle.std.proofs.Common.{rules, ◌≡◌, ◌++◌, ◌∷◌, [], sym, ◌∙◌}
use Rattle.std.proofs.lemmas.List.{map_push}
use Rattle.pipe_tree.specs.Limits.{most_levels}
use Rattle.pipe_tree.specs.Tree.{view, branches}
use Rattle.pipe_tree.specs.Reading.{cases_at}
use Rattle.pipe_term_parser.specs.Answers.{at}
use Rattle.pipe_lang.proofs.ItemUnrolled.{case_step}
use Rattle.pipe_lang.proofs.items.parse_cases_before_else.Goals as goal

pub loop-parser-preserved : goal.loop-parser-preserved
loop-parser-preserved c = record {
  reading =
      let e : branches c.push.new.self.items ≡ branches c.loop-parser.cases.items ++ record
      { condition = c.in_ok-condition.condition; value = view c.in_ok-value.value } ∷ [] =
      rw c.in_ok-push.ensures.items (map_push _ c.loop-parser.cases.items _) in
      rw e (case_step (cases_at most_levels (at c.args.parser.now)) (branches c.loop-parser.cases.items) (at c.loop-parser.parser)
      (at c.expect_keyword.new.self) (at c.parse_condition.new.parser) (at c.parse_value_after_colon.new.parser)
      c.in_ok-condition.condition (view c.in_ok-value.value) (sym c.is_keyword_ahead.ensures ∙ c.loop-parser-test.true) c.in_ok-expect_keyword.ensures.exact
      c.in_ok-condition.ensures.exact c.in_ok-value.ensures.exact c.loop-parser.invariant.reading);
  shorter = search rules;
}
