-- Bins that take in values: one, a row of them, and rows of points.
use Rattle.std.proofs.Common.{arith, get_or-set_other, inl, inr, get_or-set_same, ℕ, zero, suc, ◌≡◌, ◌+◌, ◌<◌, ℤ, pos, ◌+ℤ◌, Bool}
use Rattle.std.proofs.Common.{true, false, cond, List, [], ◌∷◌, ◌++◌, drop, length, ap, sym, ◌∙◌, refl, replicate}
use Rattle.std.specs.Prelude.{◌⊎◌, slice_index, slice_set, map, filter, zip}
use Rattle.std.specs.List.{flat_map}
use Rattle.std.specs.Ordering.{int_eq}
use Rattle.std.proofs.Math.IntN.{+ℤ_idr}
use Rattle.std.proofs.lemmas.Bool.{false_from_ne_true, cases_eq}
use Rattle.std.proofs.lemmas.Bool.Decides.{Decides-int_eq}
use Rattle.std.proofs.lemmas.Grind.{flat_map-append}
use Rattle.std.proofs.lemmas.Int.{ints}
use Rattle.std.proofs.lemmas.List.{append-nil, length-map, get_or-map, map-append}
use Rattle.std.proofs.lemmas.List.Sums.{fold-append}
use Rattle.std.proofs.lemmas.List.Elements.{filter-append}
use Rattle.domains.specs.Span.{Ends, Holds, IsSpan, len_of, numbers_from, numbers_of}
use Rattle.domains.proofs.Lengths.{len_is}
use Rattle.domains.proofs.Spans.{length-numbers_from}
use Rattle.operators.specs.declared.operator.ReductionOp.{ReductionOp}
use Rattle.job.specs.Totals.{start_of, joined}
use Rattle.tile_eval.specs.Rows.{EachPlace, at}
use Rattle.reductions.specs.Bins.{starts}
use Rattle.reductions.specs.inside.Gathering.{once_came, after_values, values_of_bin, values_among, points_along, points_from, TookIn}

-- ---- rows of numbers

next : (b : ℤ) (k : ℕ) → b +ℤ pos 1 +ℤ pos k ≡ b +ℤ pos (suc k)
next b k = omega (arith, ints)

-- a row whose places have the values of g at the numbers from b on
pub row_is : (g : ℤ → ℤ) (b : ℤ) (n : ℕ) (xs : List ℤ) → length xs ≡ n → EachPlace n (λ k. at xs k ≡ g (b +ℤ pos k))
    → xs ≡ map g (numbers_from b n)
row_is g b zero [] len each = refl
row_is g b zero (x ∷ xs) len each = absurd (omega arith)
row_is g b (suc n) [] len each = absurd (omega arith)
row_is g b (suc n) (x ∷ xs) len each =
    ap (λ (z : ℤ). z ∷ xs) (each 0 (omega arith) ∙ ap g (+ℤ_idr b))
    ∙ ap (λ (zs : List ℤ). g b ∷ zs) (row_is g (b +ℤ pos 1) n xs (omega arith) (λ k h. each (suc k) (omega arith) ∙ ap g (sym (next b k))))

-- and so a row of bytes
pub bytes_is : (g : ℤ → ℤ) (b : ℤ) (n : ℕ) (bytes : List ℕ) → length bytes ≡ n
    → EachPlace n (λ k. pos (slice_index bytes k) ≡ g (b +ℤ pos k)) → map pos bytes ≡ map g (numbers_from b n)
bytes_is g b n bytes len each =
    row_is g b n (map pos bytes) (length-map bytes pos ∙ len) (λ k h. get_or-map pos bytes k 0 (pos 0) (omega (arith, h, len)) ∙ each k h)

pub at_number : (g : ℤ → ℤ) (b : ℤ) (n k : ℕ) → k < n → at (map g (numbers_from b n)) k ≡ g (b +ℤ pos k)
at_number g b zero k h = absurd (omega arith)
at_number g b (suc n) zero h = ap g (sym (+ℤ_idr b))
at_number g b (suc n) (suc k) h = at_number g (b +ℤ pos 1) n k (omega arith) ∙ ap g (next b k)

pub starts_long : (way : ReductionOp) (bins : Ends) → length (starts way bins) ≡ len_of bins
starts_long way bins = length-map (numbers_of bins) (λ (b : ℤ). start_of way) ∙ length-numbers_from bins.lo (len_of bins)

-- number k of a span, counted from 0, is one of its numbers
pub counted_held : (s : Ends) (k : ℕ) → IsSpan s → k < len_of s → Holds s (s.lo +ℤ pos k)
counted_held s k is h = let len = len_is s is in (omega (arith, ints), omega (arith, ints))

pub starts_are : (x b : ℤ) (n : ℕ) → replicate n x ≡ map (λ v. x) (numbers_from b n)
starts_are x b zero = refl
starts_are x b (suc n) = ap (λ (zs : List ℤ). x ∷ zs) (starts_are x (b +ℤ pos 1) n)

-- ---- one value

-- a value that is of the bin, or of another
pub came_one : (way : ReductionOp) (here : Bool) (total v : ℤ) (vs : List ℤ)
    → after_values way (once_came way here total v) vs ≡ after_values way total (cond here (v ∷ vs) vs)
came_one way true total v vs = refl
came_one way false total v vs = refl

pub not_here : (b c : ℤ) → (c ≡ b → ⊥) → int_eq c b ≡ false
not_here b c ne = false_from_ne_true (int_eq c b) (λ e. ne ((Decides-int_eq c b).0 e))

pub other_place : (b : ℤ) (j k : ℕ) → (j ≡ k → ⊥) → b +ℤ pos k ≡ b +ℤ pos j → ⊥
other_place b j k ne e = ne (omega (arith, ints, e))

-- numbers of which one is set to what f makes of it, where f leaves the others
pub set_at : (f : Bool → ℤ → ℤ) (xs : List ℤ) (place : ℕ) (lo bin new : ℤ) → ((x : ℤ) → f false x ≡ x) → place < length xs
    → lo +ℤ pos place ≡ bin → new ≡ f true (at xs place)
    → EachPlace (length xs) (λ j. at (slice_set xs place new) j ≡ f (int_eq bin (lo +ℤ pos j)) (at xs j))
set_at f xs place lo bin new leaves there is e j h = by (cases_eq j place)
  where
    by : (j ≡ place) ⊎ (j ≡ place → ⊥) → at (slice_set xs place new) j ≡ f (int_eq bin (lo +ℤ pos j)) (at xs j)
    by (inl same) =
        let here : bin ≡ lo +ℤ pos j = sym is ∙ ap (λ (k : ℕ). lo +ℤ pos k) (sym same) in
        ap (at (slice_set xs place new)) same
        ∙ get_or-set_same xs place new (pos 0) there
        ∙ e
        ∙ ap (λ (k : ℕ). f true (at xs k)) (sym same)
        ∙ ap (λ (b : Bool). f b (at xs j)) (sym ((Decides-int_eq bin (lo +ℤ pos j)).1 here))
    by (inr ne) =
        get_or-set_other xs place j new (pos 0) ne
        ∙ sym (leaves (at xs j))
        ∙ ap (λ (b : Bool). f b (at xs j)) (sym (not_here (lo +ℤ pos j) bin (λ same. other_place lo j place ne (is ∙ same))))

-- the bins once the one at a place took in a value
pub taken_at : (way : ReductionOp) (xs : List ℤ) (place : ℕ) (lo bin v new : ℤ) → place < length xs → lo +ℤ pos place ≡ bin
    → new ≡ joined way (at xs place) v
    → EachPlace (length xs) (λ j. at (slice_set xs place new) j ≡ once_came way (int_eq bin (lo +ℤ pos j)) (at xs j) v)
taken_at way xs place lo bin v new there is e =
    set_at (λ here x. once_came way here x v) xs place lo bin new (λ x. refl) there is e

firsts : (here : Bool) (v c : ℤ) (ps : List (ℤ × ℤ))
    → map (λ (p : ℤ × ℤ). p.0) (cond here ((v, c) ∷ ps) ps) ≡ cond here (v ∷ map (λ (p : ℤ × ℤ). p.0) ps) (map (λ (p : ℤ × ℤ). p.0) ps)
firsts true v c ps = refl
firsts false v c ps = refl

pub values_next : (v c : ℤ) (vs cs : List ℤ) (b : ℤ)
    → values_of_bin (v ∷ vs) (c ∷ cs) b ≡ cond (int_eq c b) (v ∷ values_of_bin vs cs b) (values_of_bin vs cs b)
values_next v c vs cs b = firsts (int_eq c b) v c (filter (λ p. int_eq p.1 b) (zip vs cs))

-- the values from place k on: that one, if it is of the bin, and those behind it
pub values_left : (vs cs : List ℤ) (b : ℤ) (k : ℕ) → k < length vs → length cs ≡ length vs
    → values_of_bin (drop k vs) (drop k cs) b ≡ cond (int_eq (at cs k) b) (at vs k ∷ values_of_bin (drop (suc k) vs) (drop (suc k) cs)
    b) (values_of_bin (drop (suc k) vs) (drop (suc k) cs) b)
values_left [] cs b k h e = absurd (omega arith)
values_left (v ∷ vs) [] b k h e = absurd (omega arith)
values_left (v ∷ vs) (c ∷ cs) b zero h e = values_next v c vs cs b
values_left (v ∷ vs) (c ∷ cs) b (suc k) h e = values_left vs cs b k (omega arith) (omega arith)

-- one value more of the rows is in
pub one_more : (way : ReductionOp) (vs cs : List ℤ) (b : ℤ) (k : ℕ) (old new first : ℤ) → k < length vs → length cs ≡ length vs
    → new ≡ once_came way (int_eq (at cs k) b) old (at vs k)
    → after_values way old (values_of_bin (drop k vs) (drop k cs) b) ≡ first
    → after_values way new (values_of_bin (drop (suc k) vs) (drop (suc k) cs) b) ≡ first
one_more way vs cs b k old new first below len is before =
    let rest = values_of_bin (drop (suc k) vs) (drop (suc k) cs) b in
    ap (λ (z : ℤ). after_values way z rest) is
    ∙ came_one way (int_eq (at cs k) b) old (at vs k) rest
    ∙ ap (after_values way old) (sym (values_left vs cs b k below len))
    ∙ before

pub at_counted : (b : ℤ) (n k : ℕ) → k < n → at (numbers_from b n) k ≡ b +ℤ pos k
at_counted b zero k h = absurd (omega arith)
at_counted b (suc n) zero h = sym (+ℤ_idr b)
at_counted b (suc n) (suc k) h = at_counted (b +ℤ pos 1) n k (omega arith) ∙ next b k

pub at_same : (x : ℤ) (n k : ℕ) → k < n → at (replicate n x) k ≡ x
at_same x zero k h = absurd (omega arith)
at_same x (suc n) zero h = refl
at_same x (suc n) (suc k) h = at_same x n k (omega arith)

pub same_long : (n : ℕ) (x : ℤ) → length (replicate n x) ≡ n
same_long zero x = refl
same_long (suc n) x = ap suc (same_long n x)

-- ---- rows of one bin

grown : (here : Bool) (v : ℤ) (vs rest : List ℤ) → rest ≡ cond here vs [] → cond here (v ∷ rest) rest ≡ cond here (v ∷ vs) []
grown true v vs rest e = ap (λ (zs : List ℤ). v ∷ zs) e
grown false v vs rest e = e

none_of : (here : Bool) (none : List ℤ) → none ≡ cond here none none
none_of true none = refl
none_of false none = refl

pub of_one_bin : (vs : List ℤ) (bin b : ℤ) → values_of_bin vs (replicate (length vs) bin) b ≡ cond (int_eq bin b) vs []
of_one_bin [] bin b = none_of (int_eq bin b) []
of_one_bin (v ∷ vs) bin b =
    firsts (int_eq bin b) v bin (filter (λ (p : ℤ × ℤ). int_eq p.1 b) (zip vs (replicate (length vs) bin)))
    ∙ grown (int_eq bin b) v vs (values_of_bin vs (replicate (length vs) bin) b) (of_one_bin vs bin b)

-- the bins once the one at a place took in a row of values
pub row_at : (way : ReductionOp) (xs vs : List ℤ) (place : ℕ) (lo bin new : ℤ) → place < length xs → lo +ℤ pos place ≡ bin
    → new ≡ after_values way (at xs place) vs
    → EachPlace (length xs) (λ j. at (slice_set xs place new) j
    ≡ after_values way (at xs j) (values_of_bin vs (replicate (length vs) bin) (lo +ℤ pos j)))
row_at way xs vs place lo bin new there is e j h =
    set_at (λ here x. after_values way x (cond here vs [])) xs place lo bin new (λ x. refl) there is e j h
    ∙ ap (after_values way (at xs j)) (sym (of_one_bin vs bin (lo +ℤ pos j)))

-- and where it is none of the bins
pub row_nowhere : (way : ReductionOp) (vs : List ℤ) (bin b x : ℤ) → (b ≡ bin → ⊥)
    → x ≡ after_values way x (values_of_bin vs (replicate (length vs) bin) b)
row_nowhere way vs bin b x ne =
    ap (λ (here : Bool). after_values way x (cond here vs [])) (sym (not_here b bin (λ e. ne (sym e))))
    ∙ ap (after_values way x) (sym (of_one_bin vs bin b))

-- ---- a row of points

module _ (value bin : ℤ → ℤ → ℤ) (b : ℤ) where
  among_cons : (here : Bool) (p : ℤ × ℤ) (ps : List (ℤ × ℤ))
      → map (λ (q : ℤ × ℤ). value q.0 q.1) (cond here (p ∷ ps) ps)
      ≡ cond here (value p.0 p.1 ∷ map (λ (q : ℤ × ℤ). value q.0 q.1) ps) (map (λ (q : ℤ × ℤ). value q.0 q.1) ps)
  among_cons true p ps = refl
  among_cons false p ps = refl

  -- the values of a row of points, by rows of their values and bins
  pub row_values : (r c : ℤ) (n : ℕ) → values_of_bin (map (value r) (numbers_from c n)) (map (bin r) (numbers_from c n)) b
      ≡ values_among value bin (points_along r c n) b
  row_values r c zero = refl
  row_values r c (suc n) =
      let rest = filter (λ (p : ℤ × ℤ). int_eq p.1 b)
      (zip (map (value r) (numbers_from (c +ℤ pos 1) n)) (map (bin r) (numbers_from (c +ℤ pos 1) n))) in
      firsts (int_eq (bin r c) b) (value r c) (bin r c) rest
      ∙ ap (λ (vs : List ℤ). cond (int_eq (bin r c) b) (value r c ∷ vs) vs) (row_values r (c +ℤ pos 1) n)
      ∙ sym (among_cons (int_eq (bin r c) b) (r, c) (filter (λ (p : ℤ × ℤ). int_eq (bin p.0 p.1) b) (points_along r (c +ℤ pos 1) n)))

  pub among-append : (ps qs : List (ℤ × ℤ)) → values_among value bin (ps ++ qs) b
      ≡ values_among value bin ps b ++ values_among value bin qs b
  among-append ps qs =
      ap (map (λ (p : ℤ × ℤ). value p.0 p.1)) (filter-append (λ (p : ℤ × ℤ). int_eq (bin p.0 p.1) b) ps qs)
      ∙ map-append (λ (p : ℤ × ℤ). value p.0 p.1) (filter (λ (p : ℤ × ℤ). int_eq (bin p.0 p.1) b) ps)
      (filter (λ (p : ℤ × ℤ). int_eq (bin p.0 p.1) b) qs)

-- ---- rows of which something is known

-- numbers that count up, and one number, as what a formula is along a row
pub counted_is : (g : ℤ → ℤ) (x first : ℤ) (n : ℕ) → EachPlace n (λ k. g (x +ℤ pos k) ≡ first +ℤ pos k)
    → numbers_from first n ≡ map g (numbers_from x n)
counted_is g x first n each =
    row_is g x n (numbers_from first n) (length-numbers_from first n) (λ k h. at_counted first n k h ∙ sym (each k h))

pub same_is : (g : ℤ → ℤ) (x number : ℤ) (n : ℕ) → ((c : ℤ) → g c ≡ number) → replicate n number ≡ map g (numbers_from x n)
same_is g x number n each =
    row_is g x n (replicate n number) (same_long n number) (λ k h. at_same number n k h ∙ sym (each (x +ℤ pos k)))

-- bins that took in a row of values took in its points
pub row_took : (way : ReductionOp) (value bin : ℤ → ℤ → ℤ) (lo r x : ℤ) (n : ℕ) (vs cs old new : List ℤ)
    → vs ≡ map (value r) (numbers_from x n) → cs ≡ map (bin r) (numbers_from x n)
    → EachPlace (length old) (λ j. at new j ≡ after_values way (at old j) (values_of_bin vs cs (lo +ℤ pos j)))
    → TookIn way value bin lo (points_along r x n) old new
row_took way value bin lo r x n vs cs old new values bins took j h =
    took j h
    ∙ (λ i. after_values way (at old j) (values_of_bin (values i) (bins i) (lo +ℤ pos j)))
    ∙ ap (after_values way (at old j)) (row_values value bin (lo +ℤ pos j) r x n)

-- ---- rows of points

pub numbers_split : (v : ℤ) (n m : ℕ) → numbers_from v (n + m) ≡ numbers_from v n ++ numbers_from (v +ℤ pos n) m
numbers_split v zero m =
    let none : zero + m ≡ m = omega arith in
    let same : v ≡ v +ℤ pos zero = omega (arith, ints) in
    ap (numbers_from v) none ∙ ap (λ (w : ℤ). numbers_from w m) same
numbers_split v (suc n) m =
    let more : suc n + m ≡ suc (n + m) = omega arith in
    let same : v +ℤ pos 1 +ℤ pos n ≡ v +ℤ pos (suc n) = omega (arith, ints) in
    ap (numbers_from v) more
    ∙ ap (λ (vs : List ℤ). v ∷ vs) (numbers_split (v +ℤ pos 1) n m)
    ∙ ap (λ (w : ℤ). v ∷ numbers_from (v +ℤ pos 1) n ++ numbers_from w m) same

pub one_row : (r c : ℤ) (n : ℕ) → points_from r 1 c n ≡ points_along r c n
one_row r c n = append-nil (points_along r c n)

points_split : (r c : ℤ) (n i k : ℕ) → points_from r (i + k) c n ≡ points_from r i c n ++ points_from (r +ℤ pos i) k c n
points_split r c n i k =
    let line : ℤ → List (ℤ × ℤ) = λ q. points_along q c n in
    ap (flat_map line) (numbers_split r i k) ∙ flat_map-append line (numbers_from r i) (numbers_from (r +ℤ pos i) k)

-- k rows more are taken in
module _ (way : ReductionOp) (value bin : ℤ → ℤ → ℤ) where
  pub took_more : (b r c : ℤ) (n i k : ℕ) (first old new : ℤ) → old ≡ after_values way first (values_among value bin (points_from r i c n) b)
      → new ≡ after_values way old (values_among value bin (points_from (r +ℤ pos i) k c n) b)
      → new ≡ after_values way first (values_among value bin (points_from r (i + k) c n) b)
  took_more b r c n i k first old new before is =
      let rows = points_from r i c n in
      let more = points_from (r +ℤ pos i) k c n in
      is
      ∙ ap (λ (z : ℤ). after_values way z (values_among value bin more b)) before
      ∙ sym (fold-append (joined way) first (values_among value bin rows b) (values_among value bin more b))
      ∙ ap (after_values way first) (sym (among-append value bin b rows more))
      ∙ ap (λ (ps : List (ℤ × ℤ)). after_values way first (values_among value bin ps b)) (sym (points_split r c n i k))
