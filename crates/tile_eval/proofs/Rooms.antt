-- The least room for the operands of formulas.
use Rattle.std.proofs.Common.{arith, ℕ, ◌≡◌, ◌↔◌, ◌+◌, ◌-◌, ◌*◌, ◌≤◌, max, List, [], ◌∷◌, length, take, zero, suc, ◌<◌, map, refl, subst}
use Rattle.std.specs.Prelude.{Option, Some, None, All, slice_index_or}
use Rattle.std.specs.Option.{ForSome}
use Rattle.std.proofs.lemmas.List.Elements.{All-nil, All-cons, All-head, All-tail, All-map}
use Rattle.job.specs.declared.stage.JobCase.{JobCase as KeptCase}
use Rattle.job.specs.Formula.{Formula, number, coordinate, read, unary, binary, ternary, literal, lookup, select, stencil}
use Rattle.job.specs.Pipeline.{JobCase}
use Rattle.job.specs.Views.{case_view, formula_view}
use Rattle.job.proofs.Steps.{All-from_map}
use Rattle.tile_eval.specs.Counted.{IsLeast}
use Rattle.tile_eval.specs.inside.Counted.{IsCounted}
use Rattle.tile_eval.specs.Reading.{HasRoom, HasFunctionRoom}

-- ---- what is enough from a number on

-- these numbers are enough, and no others
abbrev pub EnoughFrom : ℕ → (ℕ → Type 0) → Type 0
EnoughFrom least enough = (m : ℕ) → least ≤ m ↔ enough m

pub least_counted : (enough : ℕ → Type 0) (least : ℕ) (found : Option ℕ) → EnoughFrom least enough → IsLeast enough found
    → IsCounted found least
least_counted enough least None from is = is.none least ((from least).0 (omega arith))
least_counted enough least (Some n) from is =
    let low : n ≤ least = is.least least ((from least).0 (omega arith)) in
    let high : least ≤ n = (from n).1 is.some in
    omega arith

pub counted_least : (enough : ℕ → Type 0) (least : ℕ) (found : Option ℕ) → EnoughFrom least enough → IsCounted found least
    → IsLeast enough found
counted_least enough least None from is = record {
  some = tt;
  least = tt;
  none = λ m h. let low = (from m).1 h in omega arith;
}
counted_least enough least (Some n) from is = record {
  some = (from n).0 (omega arith);
  least = λ m h. let low = (from m).1 h in omega arith;
  none = tt;
}

-- ---- formulas

abbrev pub room_of : Formula → ℕ → ℕ
room_of (number m) n = 0
room_of (coordinate x) n = 0
room_of (read g i j) n = 0
room_of (unary op a) n = room_of a n
room_of (binary op a b) n = max (room_of a n) (n * 1 + room_of b n)
room_of (ternary op a b c) n = max (room_of a n) (n * 2 + max (room_of b n) (room_of c n))
room_of (literal op a m) n = room_of a n
room_of (lookup t a) n = room_of a n
room_of (select a relation b x y) n = max (room_of x n) (n * 3 + max (max (room_of a n) (room_of b n)) (room_of y n))
room_of (stencil g divisor kernel) n = n + 14

pub enough_room : (f : Formula) (n m : ℕ) → room_of f n ≤ m → HasRoom f n m
enough_room (number i) n m h = tt
enough_room (coordinate x) n m h = tt
enough_room (read g i j) n m h = tt
enough_room (unary op a) n m h = enough_room a n m h
enough_room (binary op a b) n m h = (enough_room a n m (omega arith), omega arith, enough_room b n (m - n) (omega arith))
enough_room (ternary op a b c) n m h = (
  enough_room a n m (omega arith),
  omega arith,
  enough_room b n (m - (n + n)) (omega arith),
  enough_room c n (m - (n + n)) (omega arith),
)
enough_room (literal op a i) n m h = enough_room a n m h
enough_room (lookup t a) n m h = enough_room a n m h
enough_room (select a relation b x y) n m h = (
  enough_room x n m (omega arith),
  omega arith,
  enough_room a n (m - (n + n + n)) (omega arith),
  enough_room b n (m - (n + n + n)) (omega arith),
  enough_room y n (m - (n + n + n)) (omega arith),
)
enough_room (stencil g divisor kernel) n m h = h

pub least_room : (f : Formula) (n m : ℕ) → HasRoom f n m → room_of f n ≤ m
least_room (number i) n m h = omega arith
least_room (coordinate x) n m h = omega arith
least_room (read g i j) n m h = omega arith
least_room (unary op a) n m h = least_room a n m h
least_room (binary op a b) n m h =
    let fits = h.1 in omega (arith, least_room a n m h.0, least_room b n (m - n) h.2)
least_room (ternary op a b c) n m h =
    let fits = h.1 in omega (arith, least_room a n m h.0, least_room b n (m - (n + n)) h.2, least_room c n (m - (n + n)) h.3)
least_room (literal op a i) n m h = least_room a n m h
least_room (lookup t a) n m h = least_room a n m h
least_room (select a relation b x y) n m h =
    let fits = h.1 in
    omega (
      arith,
      least_room x n m h.0,
      least_room a n (m - (n + n + n)) h.2,
      least_room b n (m - (n + n + n)) h.3,
      least_room y n (m - (n + n + n)) h.4,
    )
least_room (stencil g divisor kernel) n m h = h

pub room_from : (f : Formula) (n : ℕ) → EnoughFrom (room_of f n) (HasRoom f n)
room_from f n m = (enough_room f n m, least_room f n m)

-- what was found for a formula counts its room, and back
pub formula_counted : (f : Formula) (n : ℕ) (found : Option ℕ) → IsLeast (HasRoom f n) found → IsCounted found (room_of f n)
formula_counted f n found is = least_counted (HasRoom f n) (room_of f n) found (room_from f n) is

pub counted_formula : (f : Formula) (n : ℕ) (found : Option ℕ) → IsCounted found (room_of f n) → IsLeast (HasRoom f n) found
counted_formula f n found is = counted_least (HasRoom f n) (room_of f n) found (room_from f n) is

-- ---- cases

abbrev pub EachHasRoom : List KeptCase → ℕ → ℕ → Type 0
EachHasRoom ps n m = All (λ p. HasRoom (formula_view p.formula) n m) ps

abbrev pub cases_room_of : List KeptCase → ℕ → ℕ
cases_room_of [] n = 0
cases_room_of (p ∷ ps) n = max (room_of (formula_view p.formula) n) (cases_room_of ps n)

-- one case more
pub cases_room_next : (ps : List KeptCase) (i : ℕ) (p : KeptCase) (n : ℕ) → i < length ps → p ≡ slice_index_or ps i p
    → cases_room_of (take (suc i) ps) n ≡ max (cases_room_of (take i ps) n) (room_of (formula_view p.formula) n)
cases_room_next [] i p n l e = absurd (omega arith)
cases_room_next (x ∷ xs) zero p n l e = rw e (omega arith)
cases_room_next (x ∷ xs) (suc i) p n l e = omega (arith, cases_room_next xs i p n (omega arith) e)

pub cases_from : (ps : List KeptCase) (n : ℕ) → EnoughFrom (cases_room_of ps n) (EachHasRoom ps n)
cases_from [] n m = ((λ h. All-nil (λ (p : KeptCase). HasRoom (formula_view p.formula) n m)), (λ h. omega arith))
cases_from (p ∷ ps) n m = (
  (λ h. All-cons (λ (q : KeptCase). HasRoom (formula_view q.formula) n m) p ps (enough_room (formula_view p.formula) n m (omega arith))
      ((cases_from ps n m).0 (omega arith))),
  (λ h.
      let first = least_room (formula_view p.formula) n m (All-head (λ (q : KeptCase). HasRoom (formula_view q.formula) n m) p ps h) in
      let rest = (cases_from ps n m).1 (All-tail (λ (q : KeptCase). HasRoom (formula_view q.formula) n m) p ps h) in
      omega arith),
)

-- ---- functions

abbrev pub other_room_of : Option Formula → ℕ → ℕ
other_room_of None n = 0
other_room_of (Some f) n = room_of f n

pub other_from : (o : Option Formula) (n : ℕ) → EnoughFrom (other_room_of o n) (λ m. ForSome o (λ f. HasRoom f n m))
other_from None n m = ((λ h f is. absurd (cc)), (λ h. omega arith))
other_from (Some g) n m = (
  (λ h f is. enough_room f n m (subst (λ o. other_room_of o n ≤ m) is h)),
  (λ h. least_room g n m (h g refl)),
)

pub function_from : (ps : List KeptCase) (o : Option Formula) (n : ℕ)
    → EnoughFrom (max (n * 1 + cases_room_of ps n) (other_room_of o n)) (λ m. HasFunctionRoom n m (map case_view ps) o)
function_from ps o n m = (
  (λ h. record {
    row = omega arith;
    operands = All-map (λ (p : JobCase). HasRoom p.formula n (m - n)) case_view ps ((cases_from ps n (m - n)).0 (omega arith));
    other = (other_from o n m).0 (omega arith);
  }),
  (λ h.
      let row = h.row in
      let cases = (cases_from ps n (m - n)).1 (All-from_map (λ (p : JobCase). HasRoom p.formula n (m - n)) case_view ps h.operands) in
      let other = (other_from o n m).1 h.other in
      omega arith),
)
