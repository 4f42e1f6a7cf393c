-- White space, comments and digits, as texts of bytes.
use Rattle.std.specs.Prelude.{ℕ, Bool, not, ◌||◌, ◌==◌, List, take}
use Rattle.std.specs.Char.{is_ascii_digit}
use Rattle.std.specs.List.{prefix_len}

-- a blank, TAB, CR or LF
abbrev pub is_white : ℕ → Bool
is_white byte = byte == 32 || byte == 9 || byte == 13 || byte == 10

-- CR and LF end a comment
abbrev pub is_comment_end : ℕ → Bool
is_comment_end byte = byte == 13 || byte == 10

abbrev pub is_comment_byte : ℕ → Bool
is_comment_byte byte = not (is_comment_end byte)

-- white space, or the `#` that opens a comment
abbrev pub begins_filler : ℕ → Bool
begins_filler byte = is_white byte || byte == 35

abbrev pub white_len : List ℕ → ℕ
white_len bytes = prefix_len is_white bytes

abbrev pub digits_len : List ℕ → ℕ
digits_len bytes = prefix_len is_ascii_digit bytes

-- the digits in front
abbrev pub digits_in_front : List ℕ → List ℕ
digits_in_front bytes = take (digits_len bytes) bytes
