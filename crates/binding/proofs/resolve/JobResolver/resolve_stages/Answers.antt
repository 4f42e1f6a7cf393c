use Rattle.std.proofs.Common.{ap, ◌∙◌, refl}
use Rattle.std.specs.Option.{option_map}
use Rattle.std.proofs.lemmas.Option.{slice_get-map}
use Rattle.pipe_tree.specs.Tree.{declaration, declarations}
use Rattle.domains.proofs.Places.{here_is}
use Rattle.binding.specs.inside.Ranges.{IsRangedItem, IsBoundItem}
use Rattle.binding.specs.inside.Resolving.{program_in}
use Rattle.domains.proofs.Places.{all_at}
use Rattle.binding.proofs.resolve.JobResolver.resolve_stages.Goals as goal

pub push_item_stages-requires : goal.push_item_stages-requires
push_item_stages-requires c =
    let items = c.args.items.now in
    let n = c.loop-item.item-index in
    let here =
    slice_get-map declaration items n
    ∙ ap (option_map declaration) (here_is items items n _ refl c.loop-item-test.true c.item-item.is) in
    record {
      ranged =
          all_at (IsRangedItem c.args.self.now.tables.now) (declarations items) n (declaration c.item-item.result) c.requires.ranged here;
      bound =
          all_at (IsBoundItem (program_in c.args.self.now) c.args.self.now.found.now) (declarations items) n
          (declaration c.item-item.result) c.requires.bound here;
    }
