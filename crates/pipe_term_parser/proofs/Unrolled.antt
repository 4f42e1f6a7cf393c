-- One turn of each loop, whatever its levels.
use Rattle.std.proofs.Common.{◌≡◌, List, [], ◌∷◌, ◌++◌, Bool, true, Ok, refl, ap, ◌∙◌}
use Rattle.std.specs.Prelude.{ℤ, if◌then◌else◌}
use Rattle.pipe_tokens.specs.declared.token.Punct.TheVariants as marks
use Rattle.pipe_tree.specs.declared.limits.Role.TheVariants as roles
use Rattle.pipe_tree.specs.declared.tree.AffineTerm.{AffineTerm}
use Rattle.pipe_tree.specs.Tokens.{head}
use Rattle.pipe_tree.specs.Lookahead.{is_mark_at}
use Rattle.pipe_tree.specs.Reading.{At, Answer, on_ok, ◌>>=◌, gives, choose, while, next_behind, mark, is_sign_at, next_term, entry, row}
use Rattle.pipe_tree.proofs.AffineLaws as affines
use Rattle.pipe_tree.proofs.IndexLaws as indices

pub affine_unroll : (terms : List AffineTerm) (s : At)
    → while is_sign_at next_term terms s ≡ choose is_sign_at (next_term terms >>= while is_sign_at next_term) (gives terms) s
affine_unroll = affines.affine_unroll 0

pub row_unroll : (es : List ℤ) (s : At)
    → while (is_mark_at marks.Comma) (next_behind (mark marks.Comma roles.Plain) entry) es s
    ≡ choose (is_mark_at marks.Comma) (next_behind (mark marks.Comma roles.Plain) entry es
    >>= while (is_mark_at marks.Comma) (next_behind (mark marks.Comma roles.Plain) entry)) (gives es) s
row_unroll = indices.row_unroll 0

pub kernel_unroll : (rows : List (List ℤ)) (s : At)
    → while (is_mark_at marks.Comma) (next_behind (mark marks.Comma roles.Plain) row) rows s
    ≡ choose (is_mark_at marks.Comma) (next_behind (mark marks.Comma roles.Plain) row rows
    >>= while (is_mark_at marks.Comma) (next_behind (mark marks.Comma roles.Plain) row)) (gives rows) s
kernel_unroll = indices.kernel_unroll 0

-- one more entry of a row
pub row_step : (total : Answer (List ℤ)) (es : List ℤ) (s s1 s2 : At) (e : ℤ) → is_mark_at marks.Comma (head s.rest) ≡ true
    → mark marks.Comma roles.Plain s ≡ Ok (tt, s1) → entry s1 ≡ Ok (e, s2)
    → total
    ≡ (while (is_mark_at marks.Comma) (next_behind (mark marks.Comma roles.Plain) entry) es
    >>= λ xs. mark marks.CloseSquare roles.Plain >>= λ _. gives xs) s
    → total
    ≡ (while (is_mark_at marks.Comma) (next_behind (mark marks.Comma roles.Plain) entry) (es ++ e ∷ [])
    >>= λ xs. mark marks.CloseSquare roles.Plain >>= λ _. gives xs) s2
row_step total es s s1 s2 e ahead p q so_far =
    let turned : while (is_mark_at marks.Comma) (next_behind (mark marks.Comma roles.Plain) entry) es s ≡ while (is_mark_at marks.Comma)
    (next_behind (mark marks.Comma roles.Plain) entry) (es ++ e ∷ []) s2 =
    row_unroll es s
    ∙ ap (λ (b : Bool). if b
    then (next_behind (mark marks.Comma roles.Plain) entry es
    >>= while (is_mark_at marks.Comma) (next_behind (mark marks.Comma roles.Plain) entry)) s else gives es s) ahead
    ∙ rw (p, q) refl in
    so_far ∙ ap (λ (a : Answer (List ℤ)). on_ok a (λ xs. mark marks.CloseSquare roles.Plain >>= λ _. gives xs))
    turned
