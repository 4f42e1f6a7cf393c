-- A front of some bytes that was written is a front of longer ones.
use Rattle.std.proofs.Common.{◌≡◌, ℕ, ◌+◌, ◌<◌, List, [], ◌++◌, length, take, drop, Option, refl, sym, ap, subst, ◌∙◌, arith, append_assoc}
use Rattle.std.specs.Io.KnownBytes.{Appends}
use Rattle.std.proofs.KnownBytes.{Appends-trans}
use Rattle.std.proofs.lemmas.List.{length-take-le, take-append-le, take_at, take-append-drop, length-append}
use Rattle.streams.specs.Streams.{AppendsPart}

pub AppendsPart-front : (a b : Option (List ℕ)) (piece rest whole : List ℕ) → AppendsPart a b piece → whole ≡ piece ++ rest
    → AppendsPart a b whole
AppendsPart-front a b piece rest whole (n, lt, h) e =
    let short : n < length whole = omega (arith, ap length e, length-append piece rest) in
    (n, short, subst (λ (l : List ℕ). Appends a b l) (sym (ap (take n) e ∙ take-append-le n piece rest (omega arith))) h)

pub AppendsPart-next : (a b c : Option (List ℕ)) (done piece rest whole : List ℕ) → Appends a b done → AppendsPart b c piece
    → whole ≡ (done ++ piece) ++ rest → AppendsPart a c whole
AppendsPart-next a b c done piece rest whole before (n, lt, h) e =
    let parts : whole ≡ (done ++ take n piece) ++ (drop n piece ++ rest) =
    e ∙ ap (λ l. (done ++ l) ++ rest) (sym (take-append-drop n piece))
    ∙ ap (λ l. l ++ rest) (sym (append_assoc done (take n piece) (drop n piece)))
    ∙ append_assoc (done ++ take n piece) (drop n piece) rest in
    let m = length (done ++ take n piece) in
    let len : m ≡ length done + n = length-append done (take n piece) ∙ ap (λ k. length done + k) (length-take-le n piece (omega arith)) in
    let short : m < length whole = omega (arith, ap length e, length-append (done ++ piece) rest, length-append done piece) in (
      m,
      short,
      subst (λ (l : List ℕ). Appends a c l) (sym (ap (take m) parts ∙ take_at (done ++ take n piece) (drop n piece ++ rest) m refl))
          (Appends-trans a b c done (take n piece) before h),
    )
