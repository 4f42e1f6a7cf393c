-- The digits of a number.
use Rattle.std.proofs.Common.{◌≡◌, ℕ, ◌+◌, ◌/◌, ◌%◌, ◌^◌, ◌<◌, ◌≤◌, List, [], ◌∷◌, ◌++◌, length, sym, ap, ◌∙◌, append_assoc, arith}
use Rattle.std.specs.Fmt.{decimal}
use Rattle.std.proofs.lemmas.Fmt.{decimal_step, decimal_digit, length-decimal-le}
use Rattle.std.proofs.lemmas.List.{length-append}

pub length_one_digit : (n : ℕ) → n < 10 → length (decimal n) ≡ 1
length_one_digit n lt = ap length (decimal_digit n lt)

pub length_more_digits : (n : ℕ) → 10 ≤ n → n < 2 ^ 32 → length (decimal n) ≡ length (decimal (n / 10)) + 1
length_more_digits n some small = ap length (decimal_step n some (omega arith)) ∙ length-append (decimal (n / 10)) ((48 + n % 10) ∷ [])

pub one_digit : (n last : ℕ) (before : List ℕ) → n < 10 → last ≡ 48 + n % 10 → before ++ last ∷ [] ≡ before ++ decimal n
one_digit n last before lt e =
    let same : last ≡ 48 + n = omega arith in
    ap (λ d. before ++ d ∷ []) same ∙ ap (λ ds. before ++ ds) (sym (decimal_digit n lt))

pub more_digits : (n last : ℕ) (before : List ℕ) → 10 ≤ n → n < 2 ^ 32 → last ≡ 48 + n % 10
    → (before ++ decimal (n / 10)) ++ last ∷ [] ≡ before ++ decimal n
more_digits n last before some small e =
    append_assoc before (decimal (n / 10)) (last ∷ []) ∙ ap (λ d. before ++ (decimal (n / 10) ++ d ∷ [])) e
    ∙ ap (λ ds. before ++ ds) (sym (decimal_step n some (omega arith)))

-- no number of 32 bits has more than ten digits
pub short_decimal : (n : ℕ) → n < 2 ^ 32 → length (decimal n) ≤ 10
short_decimal n lt = length-decimal-le 10 n (omega arith) (omega arith) (omega arith)
