-- The least gap between held ranges, and one more range in its place.
use Rattle.std.proofs.Common.{ℕ, arith, ◌+◌, ◌<◌, ◌≤◌, ◌≡◌, ◌⊎◌, inl, inr, max, Bool, true, false, List, [], ◌∷◌, refl, ap, subst}
use Rattle.std.specs.Prelude.{All, AllPairs, Contains, nat_le, nat_lt, if◌then◌else◌}
use Rattle.std.proofs.lemmas.Bool.{leb-true, leb-false, ltb-true, ltb-false}
use Rattle.std.proofs.lemmas.List.Elements.{All-nil, All-cons, All-head, All-tail, All-weaker, All-contains, Contains-append_right}
use Rattle.std.proofs.lemmas.List.Kept.{AllPairs-cons}
use Rattle.domains.proofs.PairLists.{Contains-here, Contains-cases}
use Rattle.tile_boxes.proofs.Lists.{AllPairs-head, AllPairs-tail}
use Rattle.overlap_tiles.specs.Ranges.{LieApart}
use Rattle.overlap_tiles.specs.inside.Made.{find_first_gap, with_held, range_of}
use Rattle.overlap_tiles.specs.declared.ranges.HeldRange.{HeldRange}

abbrev pub StartsBefore : HeldRange → HeldRange → Type 0
StartsBefore a b = a.start ≤ b.start

abbrev pub EndBy : ℕ → List HeldRange → Type 0
EndBy n hs = All (λ h. h.start + h.len ≤ n) hs

-- ---- the gap

-- it is not below the start from which it is looked for
gap_from : (len start : ℕ) (hs : List HeldRange) → start ≤ find_first_gap len start hs
gap_from len start [] = omega arith
gap_from len start (h ∷ hs) = by (nat_le (start + len) h.start) (gap_from len (max start (h.start + h.len)) hs)
  where
    by : (b : Bool) → max start (h.start + h.len) ≤ find_first_gap len (max start (h.start + h.len)) hs
        → start ≤ (if b then start else find_first_gap len (max start (h.start + h.len)) hs)
    by true rest = omega arith
    by false rest = omega arith

-- what lies there meets no held range
pub gap_apart : (len start : ℕ) (hs : List HeldRange) → AllPairs StartsBefore hs → (h : HeldRange) → Contains hs h
    → LieApart (range_of h) (find_first_gap len start hs, len)
gap_apart len start [] rise h there = absurd (omega (arith, there.1))
gap_apart len start (g ∷ gs) rise h there =
    by (nat_le (start + len) g.start) refl (Contains-cases g gs h there) (gap_from len (max start (g.start + g.len)) gs)
    (gap_apart len (max start (g.start + g.len)) gs (AllPairs-tail StartsBefore g gs rise) h)
  where
    by : (b : Bool) → nat_le (start + len) g.start ≡ b → (g ≡ h) ⊎ Contains gs h
        → max start (g.start + g.len) ≤ find_first_gap len (max start (g.start + g.len)) gs
        → (Contains gs h → LieApart (range_of h) (find_first_gap len (max start (g.start + g.len)) gs, len))
        → LieApart (range_of h) ((if b then start else find_first_gap len (max start (g.start + g.len)) gs), len)
    by true fits (inl e) from rest =
        let before = leb-true (start + len) g.start fits in
        let same = ap (λ (x : HeldRange). x.start) e in
        inr (omega arith)
    by true fits (inr k) from rest =
        let before = leb-true (start + len) g.start fits in
        let above = All-contains (StartsBefore g) gs h (AllPairs-head StartsBefore g gs rise) k in
        inr (omega arith)
    by false short (inl e) from rest =
        let same = ap (λ (x : HeldRange). x.start) e in
        let length = ap (λ (x : HeldRange). x.len) e in
        inl (omega arith)
    by false short (inr k) from rest = rest k

-- no lower start has that
pub gap_least : (len start other : ℕ) (hs : List HeldRange) → start ≤ other
    → ((h : HeldRange) → Contains hs h → LieApart (range_of h) (other, len)) → find_first_gap len start hs ≤ other
gap_least len start other [] low free = low
gap_least len start other (g ∷ gs) low free =
    by (nat_le (start + len) g.start) refl
    (λ past. gap_least len (max start (g.start + g.len)) other gs past (λ h k. free h (Contains-append_right (g ∷ []) gs h k)))
  where
    past : g.start < start + len → LieApart (range_of g) (other, len) → max start (g.start + g.len) ≤ other
    past short (inl after) = omega arith
    past short (inr before) = absurd (omega arith)

    by : (b : Bool) → nat_le (start + len) g.start ≡ b
        → (max start (g.start + g.len) ≤ other → find_first_gap len (max start (g.start + g.len)) gs ≤ other)
        → (if b then start else find_first_gap len (max start (g.start + g.len)) gs) ≤ other
    by true fits rest = low
    by false short rest = rest (past (leb-false (start + len) g.start short) (free g (Contains-here g gs)))

-- it is no later than the last end
pub gap_within : (len start n : ℕ) (hs : List HeldRange) → start ≤ n → EndBy n hs → find_first_gap len start hs ≤ n
gap_within len start n [] low ends = low
gap_within len start n (g ∷ gs) low ends =
    let first = All-head (λ h. h.start + h.len ≤ n) g gs ends in
    by (nat_le (start + len) g.start)
    (gap_within len (max start (g.start + g.len)) n gs (omega arith) (All-tail (λ h. h.start + h.len ≤ n) g gs ends))
  where
    by : (b : Bool) → find_first_gap len (max start (g.start + g.len)) gs ≤ n
        → (if b then start else find_first_gap len (max start (g.start + g.len)) gs) ≤ n
    by true rest = low
    by false rest = rest

-- ---- one more range

pub with_held-All : (P : HeldRange → Type 0) (new : HeldRange) (hs : List HeldRange) → P new → All P hs → All P (with_held new hs)
with_held-All P new [] here rest = All-cons P new [] here rest
with_held-All P new (h ∷ hs) here rest =
    by (nat_lt new.start h.start) (with_held-All P new hs here (All-tail P h hs rest))
  where
    by : (b : Bool) → All P (with_held new hs) → All P (if b then new ∷ h ∷ hs else h ∷ with_held new hs)
    by true later = All-cons P new (h ∷ hs) here rest
    by false later = All-cons P h (with_held new hs) (All-head P h hs rest) later

pub with_held-has : (new : HeldRange) (hs : List HeldRange) (h : HeldRange) → (new ≡ h) ⊎ Contains hs h → Contains (with_held new hs) h
with_held-has new [] h (inl e) = subst (Contains (new ∷ [])) e (Contains-here new [])
with_held-has new [] h (inr k) = absurd (omega (arith, k.1))
with_held-has new (g ∷ gs) h which = by (nat_lt new.start g.start) which (with_held-has new gs h)
  where
    behind : Contains (with_held new gs) h → Contains (g ∷ with_held new gs) h
    behind k = Contains-append_right (g ∷ []) (with_held new gs) h k

    by : (b : Bool) → (new ≡ h) ⊎ Contains (g ∷ gs) h → ((new ≡ h) ⊎ Contains gs h → Contains (with_held new gs) h)
        → Contains (if b then new ∷ g ∷ gs else g ∷ with_held new gs) h
    by true (inl e) rest = subst (Contains (new ∷ g ∷ gs)) e (Contains-here new (g ∷ gs))
    by true (inr k) rest = Contains-append_right (new ∷ []) (g ∷ gs) h k
    by false (inl e) rest = behind (rest (inl e))
    by false (inr k) rest = elim (Contains-cases g gs h k) [
      | inl e ↦ subst (Contains (g ∷ with_held new gs)) e (Contains-here g (with_held new gs))
      | inr m ↦ behind (rest (inr m))
    ]

pub with_held-rises : (new : HeldRange) (hs : List HeldRange) → AllPairs StartsBefore hs → AllPairs StartsBefore (with_held new hs)
with_held-rises new [] rise = AllPairs-cons StartsBefore new [] (All-nil (StartsBefore new)) rise
with_held-rises new (h ∷ hs) rise =
    by (nat_lt new.start h.start) refl (with_held-rises new hs (AllPairs-tail StartsBefore h hs rise))
  where
    above : All (StartsBefore h) hs
    above = AllPairs-head StartsBefore h hs rise

    by : (b : Bool) → nat_lt new.start h.start ≡ b → AllPairs StartsBefore (with_held new hs)
        → AllPairs StartsBefore (if b then new ∷ h ∷ hs else h ∷ with_held new hs)
    by true less rest =
        let first = ltb-true new.start h.start less in
        AllPairs-cons StartsBefore new (h ∷ hs)
        (All-cons (StartsBefore new) h hs (omega arith)
        (All-weaker (StartsBefore h) (StartsBefore new) (λ x low. omega arith) hs above))
        rise
    by false most rest =
        let last = ltb-false new.start h.start most in
        AllPairs-cons StartsBefore h (with_held new hs) (with_held-All (StartsBefore h) new hs (omega arith) above) rest
