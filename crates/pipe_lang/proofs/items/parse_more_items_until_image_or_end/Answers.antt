-- One more item is read behind the others.
use Rattle.std.proofs.Common.{rules, ◌≡◌, ◌++◌, ◌∷◌, []}
use Rattle.std.proofs.lemmas.List.{map_push}
use Rattle.pipe_tree.specs.Limits.{most_levels}
use Rattle.pipe_tree.specs.Tree.{declaration, declarations}
use Rattle.pipe_tree.specs.Reading.{others}
use Rattle.pipe_term_parser.specs.Answers.{at}
use Rattle.pipe_lang.proofs.ItemUnrolled.{item_step}
use Rattle.pipe_lang.proofs.items.parse_more_items_until_image_or_end.Goals as goal

pub loop-parser-preserved : goal.loop-parser-preserved
loop-parser-preserved c = record {
  reading =
      let e : declarations c.push.new.self.items ≡ declarations c.loop-parser.items.items ++ declaration c.in_ok-item.item ∷ [] =
      rw c.in_ok-push.ensures.items (map_push _ c.loop-parser.items.items c.in_ok-item.item) in
      rw e (item_step (others most_levels (declarations c.args.items.now.items) (at c.args.parser.now))
      (declarations c.loop-parser.items.items) (at c.loop-parser.parser) (at c.parse_item_other_than_image.new.parser) (declaration c.in_ok-item.item)
      (search rules) c.in_ok-item.ensures.exact c.loop-parser.invariant.reading);
  shorter = search rules;
}
