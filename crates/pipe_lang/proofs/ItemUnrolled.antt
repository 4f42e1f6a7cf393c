-- One turn of each loop over tests, cases and items.
use Rattle.std.proofs.Common.{Bool, true, ◌≡◌, List, [], ◌∷◌, ◌++◌, Result, Ok, Err, refl, ap, ◌∙◌}
use Rattle.std.specs.Prelude.{◌||◌}
use Rattle.std.specs.List.{list_any}
use Rattle.std.specs.Global.{Vec}
use Rattle.pipe_term_parser.specs.declared.parse_error.ParseError.{ParseError}
use Rattle.pipe_term_parser.specs.declared.parse_error.ParseError.TheVariants as errors
use Rattle.pipe_tree.specs.declared.tree.Item.{Item}
use Rattle.pipe_tree.specs.Tokens.{head}
use Rattle.pipe_tree.specs.Grammar.{is_output}
use Rattle.pipe_tokens.specs.declared.token.Keyword.TheVariants as words
use Rattle.pipe_tree.specs.declared.limits.Role.TheVariants as roles
use Rattle.pipe_tree.specs.declared.tree.Test.{Test}
use Rattle.pipe_tree.specs.Limits.{most_levels}
use Rattle.pipe_tree.specs.Lookahead.{is_word_at}
use Rattle.pipe_tree.specs.Tree.{Node, Branch, Declaration, declaration, declarations}
use Rattle.pipe_tree.specs.Reading.{At, Answer, ◌>>=◌, gives, choose, while, next_behind, word, a_test, condition, value, a_case}
use Rattle.pipe_tree.specs.Reading.{item, goes_on, other, others, value_of}
use Rattle.pipe_term_parser.specs.Answers.{Fails, Reads}
use Rattle.pipe_tree.proofs.ItemLaws as laws
use Rattle.pipe_tree.proofs.ProgramLaws as programs

pub condition_unroll : (tests : List Test) (s : At)
    → while (is_word_at words.And) (next_behind (word words.And roles.Plain) a_test) tests s
    ≡ choose (is_word_at words.And) (next_behind (word words.And roles.Plain) a_test tests
    >>= while (is_word_at words.And) (next_behind (word words.And roles.Plain) a_test)) (gives tests) s
condition_unroll = laws.condition_unroll 0

pub next_case : (cases : List Branch) (s : At)
    → while (is_word_at words.Case) (a_case most_levels) cases s
    ≡ choose (is_word_at words.Case) (a_case most_levels cases >>= while (is_word_at words.Case) (a_case most_levels)) (gives cases) s
next_case = laws.cases_unroll most_levels

pub next_item : (items : List Declaration) (s : At)
    → others most_levels items s ≡ choose (goes_on items) (other most_levels items >>= others most_levels) (gives items) s
next_item = programs.others_unroll most_levels

-- ---- a turn that was read

pub case_step : (total : Answer (List Branch)) (cases : List Branch) (s s1 s2 s3 : At) (tests : List Test) (e : Node)
    → is_word_at words.Case (head s.rest) ≡ true → word words.Case roles.Case s ≡ Ok (tt, s1) → condition s1 ≡ Ok (tests, s2)
    → value most_levels s2 ≡ Ok (e, s3)
    → total ≡ while (is_word_at words.Case) (a_case most_levels) cases s
    → total ≡ while (is_word_at words.Case) (a_case most_levels) (cases ++ record { condition = tests; value = e } ∷ []) s3
case_step total cases s s1 s2 s3 tests e ahead first second third so_far =
    so_far ∙ next_case cases s ∙ rw (first, ahead, second, third) refl

pub item_step : (total : Answer (List Declaration)) (items : List Declaration) (s s1 : At) (d : Declaration)
    → goes_on items (head s.rest) ≡ true → item most_levels s ≡ Ok (d, s1) → total ≡ others most_levels items s
    → total ≡ others most_levels (items ++ d ∷ []) s1
item_step total items s s1 d ahead first so_far = so_far ∙ next_item items s ∙ rw (ahead, first) refl

-- ---- items in memory

pub any_declaration : (items : List Item) → list_any is_output (declarations items) ≡ list_any (λ item. is_output (declaration item)) items
any_declaration [] = refl
any_declaration (i ∷ items) = ap (λ (b : Bool). is_output (declaration i) || b) (any_declaration items)

fails_value : (e : ParseError) (a : Answer (List Declaration)) → Fails e a → Fails e (value_of a)
fails_value errors.Memory a f = tt
fails_value (errors.Fault h) a f = ap value_of f

-- the items alone
pub reads_value : (r : Result (Vec Item) ParseError) (a : Answer (List Declaration)) (s : At)
    → Reads (λ items. (declarations items.items, s)) r a → Reads (λ items. declarations items.items) r (value_of a)
reads_value (Ok items) a s f = ap value_of f
reads_value (Err e) a s f = fails_value e a f
