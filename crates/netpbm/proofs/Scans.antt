-- Gaps as the scanner of bytes sees them.
use Rattle.std.proofs.Common.{ℕ, Bool, true, not, ◌&&◌, List, [], ◌∷◌}
use Rattle.netpbm.specs.Scanning.{may_stand, is_open_behind}

-- white space and comments in any mix, from outside a comment or from inside one; each comment ends
abbrev pub is_filler : Bool → List ℕ → Bool
is_filler in_comment [] = not in_comment
is_filler in_comment (byte ∷ bytes) = may_stand in_comment byte && is_filler (is_open_behind in_comment byte) bytes

-- the same, where the last comment may still be open
abbrev pub is_cut_filler : Bool → List ℕ → Bool
is_cut_filler in_comment [] = true
is_cut_filler in_comment (byte ∷ bytes) = may_stand in_comment byte && is_cut_filler (is_open_behind in_comment byte) bytes
