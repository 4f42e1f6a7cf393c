-- The meet and the hull of spans are the intersection and the least span that holds both.
use Rattle.std.proofs.Common.{ℕ, ℤ, pos, zero, suc, ◌≡◌, ◌+ℤ◌, ◌≤ℤ◌, refl, sym, ap, ◌∙◌, subst, arith, Option, Some, None, IfSome}
use Rattle.std.proofs.Common.{IfNone, length, Bool, IsTrue, ◌↔◌}
use Rattle.std.proofs.lemmas.Int.{ints, clamps}
use Rattle.domains.specs.Span.{Ends, Holds, IsSpan, IsSubspan, IsMeet, AreApart, IsHull, meet_of, hull_of, len_of, numbers_from, numbers_of}

pub meet_is : (a b : Ends) → IsMeet a b (meet_of a b)
meet_is a b v = (
  (λ h. let low = h.0 in
      let high = h.1 in
      ((omega (arith, ints, clamps), omega (arith, ints, clamps)), (omega (arith, ints, clamps), omega (arith, ints, clamps)))),
  (λ h. let a_low = h.0.0 in
      let a_high = h.0.1 in let b_low = h.1.0 in let b_high = h.1.1 in (omega (arith, ints, clamps), omega (arith, ints, clamps))),
)

pub meet_some : (a b : Ends) (o : Option Ends) → IfSome o (λ m. m ≡ meet_of a b) → IfSome o (IsMeet a b)
meet_some a b None e = tt
meet_some a b (Some m) e = subst (IsMeet a b) (sym e) (meet_is a b)

-- the meet of two spans that have a number in common is a span
pub meet_fits : (a b : Ends) (v : ℤ) → IsSpan a → IsSpan b → Holds a v → Holds b v → IsSpan (meet_of a b)
meet_fits a b v s t h k =
    let a_low = h.0 in let a_high = h.1 in let b_low = k.0 in let b_high = k.1 in
    record { least = omega (arith, ints, clamps); ordered = omega (arith, ints, clamps); most = omega (arith, ints, clamps) }

pub meet_none : (a b m : Ends) (o : Option Ends) → IsSpan a → IsSpan b → m ≡ meet_of a b → IfNone o (¬ (IsSpan m)) → IfNone o (AreApart a b)
meet_none a b m None s t e n = λ v h. n (subst IsSpan (sym e) (meet_fits a b v s t h.0 h.1))
meet_none a b m (Some x) s t e n = tt

-- what holds each number of a span reaches as far
pub ends_inside : (a b : Ends) → IsSpan a → IsSubspan a b → (b.lo ≤ℤ a.lo) × (a.hi ≤ℤ b.hi)
ends_inside a b s f =
    let low = f a.lo (omega (arith, ints), s.ordered) in
    let high = f a.hi (s.ordered, omega (arith, ints)) in
    (low.0, high.1)

pub inside_ends : (a b : Ends) → b.lo ≤ℤ a.lo → a.hi ≤ℤ b.hi → IsSubspan a b
inside_ends a b p q v h = let low = h.0 in let high = h.1 in (omega (arith, ints), omega (arith, ints))

pub hull_fits : (a b : Ends) → IsSpan a → IsSpan b → IsSpan (hull_of a b)
hull_fits a b s t =
    record { least = omega (arith, ints, clamps); ordered = omega (arith, ints, clamps); most = omega (arith, ints, clamps) }

pub hull_is : (a b : Ends) → IsSpan a → IsSpan b → IsHull a b (hull_of a b)
hull_is a b s t = record {
  first = λ v h. let low = h.0 in let high = h.1 in (omega (arith, ints, clamps), omega (arith, ints, clamps));
  second = λ v h. let low = h.0 in let high = h.1 in (omega (arith, ints, clamps), omega (arith, ints, clamps));
  least = λ r f g v h. inside r f g v h;
}
  where
    inside : (r : Ends) → IsSubspan a r → IsSubspan b r → (v : ℤ) → Holds (hull_of a b) v → Holds r v
    inside r f g v h =
        let a_ends = ends_inside a r s f in
        let b_ends = ends_inside b r t g in
        let a_low = a_ends.0 in let a_high = a_ends.1 in let b_low = b_ends.0 in let b_high = b_ends.1 in
        let low = h.0 in let high = h.1 in
        (omega (arith, ints, clamps), omega (arith, ints, clamps))

pub length-numbers_from : (v : ℤ) (n : ℕ) → length (numbers_from v n) ≡ n
length-numbers_from v zero = refl
length-numbers_from v (suc n) = ap suc (length-numbers_from (v +ℤ pos 1) n)

-- a number that is a span's length counts its numbers
pub counts_numbers : (n : ℕ) (s : Ends) → n ≡ len_of s → n ≡ length (numbers_of s)
counts_numbers n s e = e ∙ sym (length-numbers_from s.lo (len_of s))

-- a span lies in another exactly where both its ends do, of which the first is known to
pub inside_by_ends : (a b : Ends) (t : Bool) (v w : ℤ) → IsSpan a → v ≡ a.lo → w ≡ a.hi → Holds b v → IsTrue t ↔ Holds b w
    → (IsTrue t → IsSubspan a b) × (IsSubspan a b → IsTrue t)
inside_by_ends a b t v w s e f low high = (
  (λ h. let up = high.0 h in let first = low.0 in let last = up.1 in inside_ends a b (omega (arith, ints)) (omega (arith, ints))),
  (λ g. high.1 (subst (Holds b) (sym f) (g a.hi (s.ordered, omega (arith, ints))))),
)
