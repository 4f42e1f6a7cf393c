-- Reading a number digit by digit, where greater numbers than pictures have are all read as one.
use Rattle.std.proofs.Common.{◌≡◌, ℕ, suc, ◌+◌, ◌*◌, ◌<◌, min, true, cond, List, [], ◌∷◌, length, get_or, drop, sym, ap, ◌∙◌}
use Rattle.std.proofs.Common.{drop-cons, add-one, arith}
use Rattle.std.specs.Char.{is_ascii_digit, digit_value}
use Rattle.std.specs.Str.Parse.{digits_value_after}
use Rattle.std.proofs.lemmas.List.Sums.{take_while-cons}
use Rattle.netpbm.specs.Text.{digits_in_front}

-- numbers that are read as one are so with more digits behind them
pub capped_after : (x y : ℕ) (ds : List ℕ) → min 65536 x ≡ min 65536 y
    → min 65536 (digits_value_after 10 x ds) ≡ min 65536 (digits_value_after 10 y ds)
capped_after x y [] h = h
capped_after x y (c ∷ cs) h = capped_after (x * 10 + digit_value c) (y * 10 + digit_value c) cs (omega arith)

front_more : (bytes : List ℕ) (at : ℕ) → at < length bytes → is_ascii_digit (get_or bytes at 0) ≡ true
    → digits_in_front (drop at bytes) ≡ get_or bytes at 0 ∷ digits_in_front (drop (at + 1) bytes)
front_more bytes at lt digit =
    ap digits_in_front (drop-cons bytes at 0 lt) ∙ take_while-cons is_ascii_digit (get_or bytes at 0) (drop (suc at) bytes)
    ∙ ap (λ b. cond b (get_or bytes at 0 ∷ digits_in_front (drop (suc at) bytes)) []) digit
    ∙ ap (λ n. get_or bytes at 0 ∷ digits_in_front (drop n bytes)) (sym (add-one at))

-- one more digit
pub digit_step : (bytes : List ℕ) (at value next total : ℕ) → at < length bytes → is_ascii_digit (get_or bytes at 0) ≡ true
    → next ≡ min 65536 (value * 10 + digit_value (get_or bytes at 0))
    → min 65536 (digits_value_after 10 value (digits_in_front (drop at bytes))) ≡ total
    → min 65536 (digits_value_after 10 next (digits_in_front (drop (at + 1) bytes))) ≡ total
digit_step bytes at value next total lt digit e h =
    let more = front_more bytes at lt digit in
    capped_after next (value * 10 + digit_value (get_or bytes at 0)) (digits_in_front (drop (at + 1) bytes)) (omega arith)
    ∙ sym (ap (λ ds. min 65536 (digits_value_after 10 value ds)) more) ∙ h
