-- The accumulators of a program have names that are no reserved words.
use Rattle.std.proofs.Common.{◌≡◌, ℕ, ◌++◌, true, List, [], ◌∷◌, map, sym}
use Rattle.std.specs.List.{AllByRecursion, flat_map}
use Rattle.std.specs.Prelude.{All}
use Rattle.std.proofs.lemmas.Bool.{true≢false}
use Rattle.std.proofs.lemmas.List.Elements.{All-append, All-cons, All-nil}
use Rattle.pipe_tokens.proofs.Shortest.{are_readable}
use Rattle.pipe_tokens.specs.Spelling.{IsReadable}
use Rattle.pipe_tokens.specs.Subsequence.{IsSubsequence}
use Rattle.pipe_tokens.specs.Subsequence as parts
use Rattle.pipe_tokens.specs.declared.token.Token.{Token}
use Rattle.pipe_tree.specs.Faults.{IsText}
use Rattle.pipe_tree.specs.Tree as tree
use Rattle.pipe_tree.specs.declared.tree.Image.{Image}
use Rattle.pipe_tree.specs.Tree.{Declaration}
use Rattle.pipe_print.proofs.Spelled.{canonical_least}
use Rattle.pipe_print.specs.Canonical.{canonical_tokens, item_tokens}
use Rattle.job.specs.Answers.{is_accumulator}
use Rattle.job.specs.Pipeline.{Stage}
use Rattle.binding.specs.Binding.{Program, item_stages, names_in, plane_stage}
use Rattle.tables.specs.Lines.{IsTableName}

-- an accumulator's name is that of a table
abbrev pub IsNamed : Stage → Type 0
IsNamed s = is_accumulator s.body ≡ true → IsTableName s.name

part_readable : (few many : List Token) → IsSubsequence few many → AllByRecursion IsReadable many → AllByRecursion IsReadable few
part_readable _ _ parts.nothing are = tt
part_readable _ _ (parts.keeps token few many part) are = (are.0, part_readable few many part are.1)
part_readable _ _ (parts.leaves_out token few many part) are = part_readable few many part are.1

fronts : (first second : List Token) → AllByRecursion IsReadable (first ++ second)
    → AllByRecursion IsReadable first × AllByRecursion IsReadable second
fronts [] second are = (tt, are)
fronts (token ∷ first) second are = let rest = fronts first second are.1 in ((are.0, rest.0), rest.1)

planes_named : (p : Program) (i : Image) (names : List (List ℕ)) → All IsNamed (map (plane_stage p i) names)
planes_named p i [] = All-nil IsNamed
planes_named p i (x ∷ names) =
    All-cons IsNamed (plane_stage p i x) (map (plane_stage p i) names) (λ is. absurd (true≢false (sym is))) (planes_named p i names)

item_named : (p : Program) (d : Declaration) → AllByRecursion IsReadable (item_tokens d) → All IsNamed (item_stages p d)
item_named p (tree.param x) are = All-nil IsNamed
item_named p (tree.image i) are = planes_named p i (names_in i.names)
item_named p (tree.table t) are = All-nil IsNamed
item_named p (tree.function f) are = All-cons IsNamed _ [] (λ is. absurd (true≢false (sym is))) (All-nil IsNamed)
item_named p (tree.accumulator a) are = All-cons IsNamed _ [] (λ is. record { name = are.1.0.0; free = are.1.0.1 }) (All-nil IsNamed)
item_named p (tree.output o) are = All-nil IsNamed

items_named : (p : Program) (items : List Declaration) → AllByRecursion IsReadable (canonical_tokens items)
    → All IsNamed (flat_map (item_stages p) items)
items_named p [] are = All-nil IsNamed
items_named p (d ∷ items) are =
    let each = fronts (item_tokens d) (canonical_tokens items) are in
    All-append IsNamed (item_stages p d) (flat_map (item_stages p) items) (item_named p d each.0) (items_named p items each.1)

pub accumulators_are_named : (bytes : List ℕ) (items : List Declaration) (p : Program) → IsText bytes items
    → All IsNamed (flat_map (item_stages p) items)
accumulators_are_named bytes items p text =
    items_named p items (part_readable (canonical_tokens items) _ (canonical_least bytes items text) (are_readable bytes))
