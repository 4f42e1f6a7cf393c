-- Texts and their faults, defined independently of how texts are read.
use Rattle.std.specs.Prelude.{◌≡◌, ℕ, ◌+◌, ◌<◌, ◌≤◌, Bool, true, false, List, ◌∷◌, ◌++◌, length, slice_get, unwrap_or, Option, Some, None}
use Rattle.pipe_tokens.specs.declared.token.Token.{Token}
use Rattle.pipe_tokens.specs.declared.token.Token.TheVariants as token
use Rattle.pipe_tokens.specs.Cutting.{CutsInto}
use Rattle.pipe_tree.specs.declared.fault.ParseFaultKind.{ParseFaultKind}
use Rattle.pipe_tree.specs.declared.fault.ParseFaultKind.TheVariants as kinds
use Rattle.pipe_tree.specs.declared.fault.Halt.{Halt}
use Rattle.pipe_tree.specs.declared.fault.ParseFault.{ParseFault}
use Rattle.pipe_tree.specs.declared.fault.ParseFault.TheVariants as faults
use Rattle.pipe_tree.specs.declared.limits.TextCounts.{TextCounts}
use Rattle.pipe_tree.specs.Tokens.{head}
use Rattle.pipe_tree.specs.Limits.{most_bytes, most_levels, Tagged, untagged, is_number, fits, counted, counted_all, none_yet}
use Rattle.pipe_tree.specs.Grammar.{Rule, Some_of, Program}
use Rattle.pipe_tree.specs.Tree.{Declaration}

-- ---- texts

-- the tokens are a text of the tree, within all limits
pub record Text (tokens : List Token) (tree : List Declaration) : Type 0 where
  pub text : List Tagged
  pub tokens_are : tokens ≡ untagged text
  pub counts : TextCounts
  pub few : counted_all (Some none_yet) text ≡ Some counts
  pub program : Program most_levels text tree

-- the bytes are a text of the tree, within all limits
pub record IsText (bytes : List ℕ) (tree : List Declaration) : Type 0 where
  pub tokens : List Token
  pub starts : List ℕ
  pub short : length bytes ≤ most_bytes
  pub cut : CutsInto 0 bytes tokens starts
  pub text : Text tokens tree

-- ---- faults

-- a program, however deep
abbrev pub AnyProgram : Rule (List Declaration)
AnyProgram = Some_of Program

-- a text of the rule continues after `before` with the token that is ahead, and P holds for how it is tagged there
pub record GoesOn {X : Type 0} (R : Rule X) (before : List Tagged) (ahead : Option Token) (P : Tagged → Type 0) : Type 0 where
  pub next : Tagged
  pub more : List Tagged
  pub value : X
  pub ahead_is : ahead ≡ Some next.token
  pub rule : R (before ++ next ∷ more) value
  pub holds : P next

-- no text of the rule continues after these tokens with the token that is ahead, or ends if there is none
abbrev pub NoneGoesOn : {X : Type 0} → Rule X → List Token → Option Token → Type 0
NoneGoesOn {X} R before ahead =
    (text : List Tagged) (value : X) (more : List Token) → R text value → untagged text ≡ before ++ more → head more ≡ ahead → ⊥

pub record Begins {X : Type 0} (R : Rule X) (before : List Tagged) : Type 0 where
  pub more : List Tagged
  pub value : X
  pub rule : R (before ++ more) value

-- a lexical fault, which is no token of any text
abbrev pub is_lexical : Option Token → Bool
is_lexical (Some token.Bad) = true
is_lexical (Some token.NotAscii) = true
is_lexical _ = false

-- the kind of the fault of the token that is ahead, or of the end, after a text with these counts
abbrev pub Wrong : ParseFaultKind → List Tagged → TextCounts → Option Token → Type 0
Wrong kinds.NotAscii before counts ahead = ahead ≡ Some token.NotAscii
Wrong kinds.BadToken before counts ahead = ahead ≡ Some token.Bad
-- the grammar does not allow it there
Wrong kinds.Unexpected before counts ahead = (is_lexical ahead ≡ false) × NoneGoesOn AnyProgram (untagged before) ahead
-- the grammar allows it there, but it is too big
Wrong kinds.NumberTooBig before counts ahead =
    GoesOn (Program most_levels) before ahead (λ t. (is_number t.token ≡ true) × (fits t.token ≡ false))
-- the grammar allows it there, but only in programs that are too deep
Wrong kinds.TooDeep before counts ahead =
    GoesOn AnyProgram before ahead (λ t. fits t.token ≡ true) × NoneGoesOn (Program most_levels) (untagged before) ahead
-- the grammar allows it there, but it exceeds a limit of what is counted
Wrong kinds.TooMany before counts ahead =
    GoesOn (Program most_levels) before ahead (λ t. (fits t.token ≡ true) × (counted t.role counts ≡ None))

-- the first fault of the tokens: those before it keep all limits, and a program begins with them
pub record IsHalt (tokens : List Token) (halt : Halt) : Type 0 where
  pub before : List Tagged
  pub last : List Token
  pub counts : TextCounts
  pub parts : tokens ≡ untagged before ++ last
  pub remaining : halt.remaining ≡ length last
  pub few : counted_all (Some none_yet) before ≡ Some counts
  pub begins : Begins (Program most_levels) before
  pub wrong : Wrong halt.kind before counts (head last)

-- a fault of the tokens is where the first token that remains starts, or at the end of the bytes
pub record IsFaultAt (bytes : List ℕ) (kind : ParseFaultKind) (offset : ℕ) : Type 0 where
  pub tokens : List Token
  pub starts : List ℕ
  pub passed : ℕ
  pub remaining : ℕ
  pub short : length bytes ≤ most_bytes
  pub cut : CutsInto 0 bytes tokens starts
  pub halt : IsHalt tokens (record { kind = kind; remaining = remaining })
  pub passed_are : length tokens ≡ passed + remaining
  pub offset_is : offset ≡ unwrap_or (slice_get starts passed) (length bytes)

-- the fault of the bytes. Memory may run out for any
abbrev pub IsFault : List ℕ → ParseFault → Type 0
IsFault bytes (faults.NotAscii offset) = IsFaultAt bytes kinds.NotAscii offset
IsFault bytes (faults.BadToken offset) = IsFaultAt bytes kinds.BadToken offset
IsFault bytes (faults.Unexpected offset) = IsFaultAt bytes kinds.Unexpected offset
IsFault bytes (faults.NumberTooBig offset) = IsFaultAt bytes kinds.NumberTooBig offset
IsFault bytes (faults.TooDeep offset) = IsFaultAt bytes kinds.TooDeep offset
IsFault bytes (faults.TooLong offset) = (most_bytes < length bytes) × (offset ≡ most_bytes)
IsFault bytes (faults.TooMany offset) = IsFaultAt bytes kinds.TooMany offset
IsFault bytes faults.Memory = Unit {0}
