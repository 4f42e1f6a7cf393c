-- Rows of bytes, of which eight are read as one number.
use Rattle.std.proofs.Common.{arith, ℕ, zero, suc, ◌≡◌, ◌<◌, ◌≤◌, ◌+◌, ◌*◌, ℤ, pos, Bool, true, false, cond}
use Rattle.std.proofs.Common.{List, [], ◌∷◌, ◌++◌, take, drop, length, ap, sym, ◌∙◌, refl, replicate}
use Rattle.std.proofs.Common.{inl, inr, get_or, length-drop, w64}
use Rattle.std.specs.Int.{from_le_bytes, to_le_bytes}
use Rattle.std.specs.Prelude.{◌⊎◌, map}
use Rattle.std.specs.Ordering.{int_eq}
use Rattle.std.specs.Simd.{first_chunks}
use Rattle.operators.specs.declared.operator.ReductionOp.TheVariants.{Sum}
use Rattle.job.specs.Totals.{joined}
use Rattle.std.proofs.lemmas.Bool.{cases_lt}
use Rattle.std.proofs.lemmas.List.{drop-drop, get_or_past, get_or-drop, get_or-take, length-take, length-take-le, take-append-drop}
use Rattle.std.proofs.lemmas.List.Sums.{fold-append}
use Rattle.std.proofs.lemmas.Nat.{le_bytes_8}
use Rattle.reductions.specs.inside.Gathering.{after_values, values_of_bin}
use Rattle.reductions.proofs.TakeValues.{values_next}

-- one number for each byte, of those whose byte is bin b
abbrev pub counted : ℤ → List ℕ → ℤ → List ℤ
counted x bytes b = values_of_bin (replicate (length bytes) x) (map pos bytes) b

in_front : (here : Bool) (x : ℤ) (xs ys : List ℤ) → cond here (x ∷ (xs ++ ys)) (xs ++ ys) ≡ cond here (x ∷ xs) xs ++ ys
in_front true x xs ys = refl
in_front false x xs ys = refl

counted-append : (x b : ℤ) (ys zs : List ℕ) → counted x (ys ++ zs) b ≡ counted x ys b ++ counted x zs b
counted-append x b [] zs = refl
counted-append x b (y ∷ ys) zs =
    values_next x (pos y) (replicate (length (ys ++ zs)) x) (map pos (ys ++ zs)) b
    ∙ ap (λ (vs : List ℤ). cond (int_eq (pos y) b) (x ∷ vs) vs) (counted-append x b ys zs)
    ∙ in_front (int_eq (pos y) b) x (counted x ys b) (counted x zs b)
    ∙ ap (λ (vs : List ℤ). vs ++ counted x zs b) (sym (values_next x (pos y) (replicate (length ys) x) (map pos ys) b))

-- a word of bytes is in
pub word_more : (x b : ℤ) (word rest : List ℕ) (old new first : ℤ) → new ≡ after_values Sum old (counted x word b)
    → after_values Sum old (counted x (word ++ rest) b) ≡ first → after_values Sum new (counted x rest b) ≡ first
word_more x b word rest old new first is before =
    ap (λ (z : ℤ). after_values Sum z (counted x rest b)) is
    ∙ sym (fold-append (joined Sum) old (counted x word b) (counted x rest b))
    ∙ ap (after_values Sum old) (sym (counted-append x b word rest))
    ∙ before

-- ---- words of eight bytes

pub word_at : (k : ℕ) (bytes : List ℕ) (i : ℕ) → i < k → get_or (first_chunks 8 k bytes) i [] ≡ take 8 (drop (8 * i) bytes)
word_at zero bytes i h = absurd (omega (arith, h))
word_at (suc k) bytes zero h = refl
word_at (suc k) bytes (suc i) h =
    let more : 8 + 8 * i ≡ 8 * suc i = omega arith in
    word_at k (drop 8 bytes) i (omega (arith, h))
    ∙ ap (take 8) (drop-drop (8 * i) 8 bytes)
    ∙ ap (λ (m : ℕ). take 8 (drop m bytes)) more

word_small : (bytes : List ℕ) → ((i : ℕ) → get_or bytes i 0 < 256) → (start m : ℕ) → get_or (take 8 (drop start bytes)) m 0 < 256
word_small bytes small start m = by (cases_lt m 8)
  where
    is : m < 8 → get_or (take 8 (drop start bytes)) m 0 ≡ get_or bytes (start + m) 0
    is h = get_or-take 8 (drop start bytes) m 0 h ∙ get_or-drop start bytes m 0

    by : (m < 8) ⊎ (8 ≤ m) → get_or (take 8 (drop start bytes)) m 0 < 256
    by (inl h) = let same = is h in let less = small (start + m) in omega (arith, same, less)
    by (inr past) =
        let none = get_or_past (take 8 (drop start bytes)) m 0 (omega (arith, past, length-take 8 (drop start bytes))) in omega (arith, none)

-- the bytes of the number that is read from word i, and those behind them
module _ (bytes : List ℕ) (small : (k : ℕ) → get_or bytes k 0 < 256) (i : ℕ) (h : 8 * i + 8 ≤ length bytes) where
  abbrev word : List ℕ
  word = take 8 (drop (8 * i) bytes)

  word_long : length word ≡ 8
  word_long = length-take-le 8 (drop (8 * i) bytes) (omega (arith, h, length-drop (8 * i) bytes))

  pub word_read : (n : ℕ) → n ≡ from_le_bytes w64 word → to_le_bytes w64 n ≡ word
  word_read n is = le_bytes_8 word n word_long (word_small bytes small (8 * i)) is

  pub word_first : word ++ drop (8 * (i + 1)) bytes ≡ drop (8 * i) bytes
  word_first =
      let next : 8 * i + 8 ≡ 8 * (i + 1) = omega arith in
      ap (λ (m : ℕ). word ++ drop m bytes) (sym next)
      ∙ ap (λ (ys : List ℕ). word ++ ys) (sym (drop-drop 8 (8 * i) bytes))
      ∙ take-append-drop 8 (drop (8 * i) bytes)
