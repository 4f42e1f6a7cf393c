-- What a command has to write, in bytes.
use Rattle.std.specs.Prelude.{ℕ, List, [], ◌++◌}
use Rattle.std.specs.Option.{option_map_or}
use Rattle.netpbm.specs.Spelling.{spelling}
use Rattle.command_outcomes.specs.declared.reply.JobReply.{JobReply}

-- the raw spelling of the picture, if there is one, then the lines
abbrev pub reply_bytes : JobReply → List ℕ
reply_bytes r = option_map_or spelling r.picture [] ++ r.lines.items
