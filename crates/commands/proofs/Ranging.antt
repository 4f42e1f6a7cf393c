-- What stands for each number of a range, one after the other.
use Rattle.std.proofs.Common.{ℕ, zero, suc, ◌+◌, arith, ◌≡◌, List, [], ◌∷◌, ◌++◌, sym, ap, ◌∙◌, append_assoc}
use Rattle.std.specs.List.{flat_map, range_with_len}
use Rattle.std.proofs.lemmas.List.{append-nil}
use Rattle.std.proofs.lemmas.Grind.{flat_map-append}

range_more_from : (a n : ℕ) → range_with_len a (suc n) ≡ range_with_len a n ++ (a + n) ∷ []
range_more_from a zero = ap (λ x. x ∷ []) (let e : a ≡ a + 0 = omega arith in e)
range_more_from a (suc n) =
    let e : (a + 1) + n ≡ a + suc n = omega arith in
    ap (λ xs. a ∷ xs) (range_more_from (a + 1) n ∙ ap (λ x. range_with_len (a + 1) n ++ x ∷ []) e)

range_more : (n : ℕ) → range_with_len 0 (n + 1) ≡ range_with_len 0 n ++ n ∷ []
range_more n =
    let e : n + 1 ≡ suc n = omega arith in
    let z : 0 + n ≡ n = omega arith in ap (range_with_len 0) e ∙ range_more_from 0 n ∙ ap (λ x. range_with_len 0 n ++ x ∷ []) z

along_more : {A : Type 0} (f : ℕ → List A) (n : ℕ) → flat_map f (range_with_len 0 (n + 1)) ≡ flat_map f (range_with_len 0 n) ++ f n
along_more f n =
    ap (flat_map f) (range_more n) ∙ flat_map-append f (range_with_len 0 n) (n ∷ [])
    ∙ ap (λ xs. flat_map f (range_with_len 0 n) ++ xs) (append-nil (f n))

-- what stands for the next number is put behind
pub put_more : {A : Type 0} (f : ℕ → List A) (n : ℕ) (before now next : List A) → now ≡ before ++ flat_map f (range_with_len 0 n)
    → next ≡ now ++ f n
    → next ≡ before ++ flat_map f (range_with_len 0 (n + 1))
put_more f n before now next was is =
    is ∙ ap (λ xs. xs ++ f n) was ∙ append_assoc before (flat_map f (range_with_len 0 n)) (f n)
    ∙ ap (λ xs. before ++ xs) (sym (along_more f n))
