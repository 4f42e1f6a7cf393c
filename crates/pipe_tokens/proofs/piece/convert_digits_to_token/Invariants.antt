use Rattle.std.proofs.Common.{◌≡◌, ◌≤◌, take}
use Rattle.std.specs.Str.Parse.{digits_value}
use Rattle.pipe_tokens.proofs.piece.convert_digits_to_token.Given as goal

abbrev pub invariant-loop-digit : goal.invariant-loop-digit
invariant-loop-digit l = record { value_is : l.value ≡ digits_value 10 (take l.digit-index l.digits); small : l.value ≤ 2147483647 }
