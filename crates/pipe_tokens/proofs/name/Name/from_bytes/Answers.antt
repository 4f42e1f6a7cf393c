use Rattle.std.proofs.Common.{◌++◌, List, ℕ, length, drop, sym, ◌∙◌, subst}
use Rattle.std.specs.Prelude.{replicate}
use Rattle.pipe_tokens.specs.Naming.{HoldsName}
use Rattle.pipe_tokens.proofs.Names.{holds_name}
use Rattle.pipe_tokens.proofs.name.Name.from_bytes.Goals as goal

pub invariant_of-result : goal.invariant_of-result
invariant_of-result c =
    let bytes = c.args.bytes.now in
    subst (λ (front : List ℕ). HoldsName (front ++ drop (length bytes) (replicate 32 0)) (length bytes))
    (sym c.copy_from_slice.ensures.after) (holds_name bytes (sym c.is_identifier_of_name_length.ensures ∙ c.if-not-is_identifier_of_name_length.false))
