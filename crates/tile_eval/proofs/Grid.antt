use Rattle.std.proofs.Common.{arith, ℕ, ℤ, ◌≡◌, ◌+◌, ◌*◌, ◌-◌, ◌<◌, ◌≤◌, pos, ◌+ℤ◌, subst, List, take, drop, length, suc, ◌∙◌}
use Rattle.std.proofs.Common.{sym, below_more, le_trans, le_of_eq}
use Rattle.std.proofs.Math.Nat.{mul-le-mul_right, suc-mul}
use Rattle.std.proofs.lemmas.Grind.{common_steps}
use borrow.Rule.Slice.PartMut.{put_mid}
use Rattle.row_loops.specs.Rows.{EachPlace, at}

-- a place before what was written
put_before : (a n j : ℕ) (xs ys : List ℤ) → j < a → a ≤ length xs → at (put_mid a n xs ys) j ≡ at xs j
put_before a n j xs ys h le = grind (arith, common_steps)

-- a place in what was written
put_within : (a n k : ℕ) (xs ys : List ℤ) → k < length ys → a ≤ length xs → at (put_mid a n xs ys) (a + k) ≡ at ys k
put_within a n k xs ys h le = grind (arith, common_steps)

suc_le : (i j : ℕ) → i < j → suc i ≤ j
suc_le i j h = omega arith

-- the places of a row end where the next row begins
pub row_before : (i j cols k : ℕ) → i < j → k < cols → i * cols + k < j * cols
row_before i j cols k h l =
    let whole : i * cols + cols ≤ j * cols = le_trans (le_of_eq (sym (suc-mul i cols))) (mul-le-mul_right cols (suc_le i j h)) in
    omega arith

-- rows that are right below i stay so, and row i is right once it is written
pub rows_more : (f : ℕ → ℕ → ℤ) (i cols : ℕ) (xs ys : List ℤ) → i * cols ≤ length xs → length ys ≡ cols
    → ((j : ℕ) → j < i → EachPlace cols (λ k. at xs (j * cols + k) ≡ f j k))
    → EachPlace cols (λ k. at ys k ≡ f i k)
    → (j : ℕ) → j < i + 1 → EachPlace cols (λ k. at (put_mid (i * cols) (i * cols + cols - i * cols) xs ys) (j * cols + k) ≡ f j k)
rows_more f i cols xs ys le len old new =
    below_more (λ j. EachPlace cols (λ k. at (put_mid (i * cols) (i * cols + cols - i * cols) xs ys) (j * cols + k) ≡ f j k)) i
    (λ j h k l. put_before (i * cols) (i * cols + cols - i * cols) (j * cols + k) xs ys (row_before j i cols k h l) le ∙ old j h k l)
    (λ k l. let within : k < length ys = omega arith in put_within (i * cols) (i * cols + cols - i * cols) k xs ys within le ∙ new k l)

-- the length of a row
pub row_len : (a n : ℕ) (xs : List ℤ) → a + n ≤ length xs → length (take (a + n - a) (drop a xs)) ≡ n
row_len a n xs le = grind (arith, common_steps)

-- a whole row lies within the numbers
pub line_within : (g rows cols len : ℕ) → g < rows → len ≡ rows * cols → g * cols + cols ≤ len
line_within g rows cols len h e = rw e (le_trans (le_of_eq (sym (suc-mul g cols))) (mul-le-mul_right cols (suc_le g rows h)))

-- the same point by other names of its row and its column
pub same_place : (P : ℤ → ℤ → Type 0) (row col r c : ℤ) (k : ℕ) → r ≡ row → c ≡ col → P row (col +ℤ pos k) → P r (c +ℤ pos k)
same_place P row col r c k e f h = subst (λ (z : ℤ). P z (c +ℤ pos k)) (sym e) (subst (λ (z : ℤ). P row (z +ℤ pos k)) (sym f) h)
