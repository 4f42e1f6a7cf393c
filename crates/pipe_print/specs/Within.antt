-- Texts with limits on levels and counts.
use Rattle.std.specs.Prelude.{◌≡◌, ℕ, List, Some}
use Rattle.pipe_tokens.specs.declared.token.Token.{Token}
use Rattle.pipe_tokens.specs.Cutting.{CutsInto}
use Rattle.pipe_tree.specs.Limits.{CountsSoFar, Tagged, untagged, counted_all, none_yet}
use Rattle.pipe_tree.specs.Grammar.{Program}
use Rattle.pipe_tree.specs.Tree.{Declaration}

-- the bytes are a text of the tree in which at most `levels` levels are open at once. The text has `counts` nodes, stages,
-- parameters and tables
pub record IsTextWithin (levels : ℕ) (counts : CountsSoFar) (bytes : List ℕ) (tree : List Declaration) : Type 0 where
  pub tokens : List Token
  pub starts : List ℕ
  pub cut : CutsInto 0 bytes tokens starts
  pub text : List Tagged
  pub tokens_are : tokens ≡ untagged text
  pub few : counted_all (Some none_yet) text ≡ Some counts
  pub program : Program levels text tree
