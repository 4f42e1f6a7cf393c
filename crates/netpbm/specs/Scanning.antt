-- How a gap is passed over, byte by byte: only contracts of private functions and proofs cite this.
use Rattle.std.specs.Prelude.{ℕ, suc, Bool, not, ◌||◌, ◌==◌, if◌then◌else◌, List, [], ◌∷◌}
use Rattle.netpbm.specs.Text.{is_white}

-- in a comment any byte may be, and outside one white space and the `#` that opens one
abbrev pub may_stand : Bool → ℕ → Bool
may_stand in_comment byte = in_comment || is_white byte || byte == 35

-- whether a comment is open after a byte: CR and LF close it
abbrev pub is_open_behind : Bool → ℕ → Bool
is_open_behind in_comment byte = if in_comment then not (byte == 13 || byte == 10) else byte == 35

-- how many bytes of white space and comments are in front
abbrev pub gap_len : Bool → List ℕ → ℕ
gap_len in_comment [] = 0
gap_len in_comment (byte ∷ bytes) = if may_stand in_comment byte then suc (gap_len (is_open_behind in_comment byte) bytes) else 0
