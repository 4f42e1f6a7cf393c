-- The results of functions of the parser.
use Rattle.std.specs.Prelude.{◌≡◌, Result, Ok, Err}
use Rattle.pipe_tree.specs.declared.fault.Halt.{Halt}
use Rattle.pipe_tree.specs.Reading.{At}
use Rattle.pipe_term_parser.specs.declared.parse_error.ParseError.{ParseError}
use Rattle.pipe_term_parser.specs.declared.parse_error.ParseError.TheVariants as errors
use Rattle.pipe_term_parser.specs.declared.parser.TermParser.{TermParser}

-- where a parser is
abbrev pub at : TermParser → At
at p = record { counts = p.counts; rest = p.rest.now }

-- The result of a function, seen by view, is the answer of its reader, unless memory ran out.
abbrev pub Fails : {Y : Type 0} → ParseError → Result Y Halt → Type 0
Fails errors.Memory answer = Unit {0}
Fails (errors.Fault h) answer = answer ≡ Err h

abbrev pub Reads : {X Y : Type 0} → (X → Y) → Result X ParseError → Result Y Halt → Type 0
Reads view (Ok x) answer = answer ≡ Ok (view x)
Reads view (Err e) answer = Fails e answer
