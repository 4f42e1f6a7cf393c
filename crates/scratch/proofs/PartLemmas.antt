-- A list whose range is replaced: its length, its places, and a range put back.
use Rattle.std.proofs.Common.{◌≡◌, ℕ, ℤ, ◌-◌, ◌<◌, ◌≤◌, List, ◌++◌, length, take, drop, sym, ap, ◌∙◌, arith}
use Rattle.std.specs.Prelude.{slice_index_or}
use Rattle.std.proofs.Math.Seq.{take-add}
use Rattle.std.proofs.lemmas.List.{length-append, length-take, length-drop, get_or-append_right, get_or_append_left}
use Rattle.std.proofs.lemmas.List.{get_or-take, get_or-drop}
use Rattle.std.proofs.lemmas.List.{take-append-drop}
use Rattle.scratch.specs.Parts.{with_part}

module _ (xs : List ℤ) (start end : ℕ) (ordered : start ≤ end) where
  pub upto : take start xs ++ take (end - start) (drop start xs) ≡ take end xs
  upto = sym (take-add start (end - start) xs) ∙ ap (λ (k : ℕ). take k xs) (omega arith)

  -- a range put back as it was
  pub with_part-same : with_part xs start end (take (end - start) (drop start xs)) ≡ xs
  with_part-same = ap (λ (zs : List ℤ). zs ++ drop end xs) upto ∙ take-append-drop end xs

  module _ (inside : end ≤ length xs) where
    pub length-before : length (take start xs) ≡ start
    length-before = omega (arith, length-take start xs)

    pub length-within : length (take (end - start) (drop start xs)) ≡ end - start
    length-within = omega (arith, length-take (end - start) (drop start xs), length-drop start xs)

    module _ (w : List ℤ) (long : length w ≡ end - start) where
      pub length-upto : length (take start xs ++ w) ≡ end
      length-upto = omega (arith, length-append (take start xs) w, length-before)

      pub length-with_part : length (with_part xs start end w) ≡ length xs
      length-with_part = omega (arith, length-append (take start xs ++ w) (drop end xs), length-upto, length-drop end xs)

      pub with_part-before : (k : ℕ) (d : ℤ) → k < start → slice_index_or (with_part xs start end w) k d ≡ slice_index_or xs k d
      with_part-before k d low =
          get_or_append_left (take start xs ++ w) (drop end xs) d k (omega (arith, length-upto))
          ∙ get_or_append_left (take start xs) w d k (omega (arith, length-before)) ∙ get_or-take start xs k d low

      pub with_part-within : (k : ℕ) (d : ℤ) → start ≤ k → k < end
          → slice_index_or (with_part xs start end w) k d ≡ slice_index_or w (k - start) d
      with_part-within k d low high =
          get_or_append_left (take start xs ++ w) (drop end xs) d k (omega (arith, length-upto))
          ∙ get_or-append_right (take start xs) w start k d length-before low

      pub with_part-behind : (k : ℕ) (d : ℤ) → end ≤ k → slice_index_or (with_part xs start end w) k d ≡ slice_index_or xs k d
      with_part-behind k d low =
          get_or-append_right (take start xs ++ w) (drop end xs) end k d length-upto low
          ∙ get_or-drop end xs (k - end) d ∙ ap (λ (i : ℕ). slice_index_or xs i d) (omega arith)
