use Rattle.node_histories.proofs.PlayingLaws.{runs, only, each}
use Rattle.node_histories.proofs.laws.node_histories_replay_in_worlds.Goals as goal

pub returns : goal.returns
returns c = record {
  runs = λ u w n h events. runs u n w h events;
  only = λ u w new n h events. only u n w new h events;
  each = each;
}
