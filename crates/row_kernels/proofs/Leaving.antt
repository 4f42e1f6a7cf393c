-- What divisions leave of numbers that follow one another.
use Rattle.std.proofs.Common.{ℕ, ℤ, pos, Bool, true, false, refl, ◌≡◌, ◌≢◌, ◌+◌, ◌-◌, ◌/◌, ◌%◌, ◌<◌, ◌≤◌, ◌+ℤ◌, ◌*ℤ◌, ◌<ℤ◌, ◌∙◌, ◌⊎◌, inl, inr}
use Rattle.std.proofs.Common.{sym, ap, arith, subst, List, length, slice_set, get_or-set_other, get_or-set_same}
use Rattle.row_loops.specs.Rows.{at}
use Rattle.std.proofs.lemmas.Bool.{cases_lt}
use Rattle.std.proofs.Math.IntN.{suc_ℤ, suc_ℤ-*ℤ}
use Rattle.std.specs.Prelude.{if◌then◌else◌, ◌==◌}
use Rattle.std.specs.Ordering.{int_eq}
use Rattle.std.proofs.lemmas.Bool.Decides.{Decides-int_eq, eqb_tells}
use Rattle.std.proofs.lemmas.Int.{ints}
use Rattle.domains.specs.Arithmetic.{floor_div, floor_rem}
use Rattle.domains.proofs.Floors.{floor_splits, floor_only}
use Rattle.row_kernels.proofs.Dividing.{quotients_add}

-- of a number that lies d behind one that leaves l, l + d is left, as long as this is below the modulus
pub stays : (v : ℤ) (m l d : ℕ) → 0 < m → pos l ≡ floor_rem v (pos m) → l + d < m → pos (l + d) ≡ floor_rem (v +ℤ pos d) (pos m)
stays v m l d some e below =
    let above : pos 0 <ℤ pos m = omega (arith, ints) in
    let f = floor_splits v (pos m) above in
    let split : v +ℤ pos d ≡ floor_div v (pos m) *ℤ pos m +ℤ pos (l + d) = omega (arith, ints, f.split) in
    (floor_only (v +ℤ pos d) (pos m) (floor_div v (pos m)) (pos (l + d)) above
    (record { split = split; least = omega (arith, ints); below = omega (arith, ints) })).1

-- and so much less from the modulus on, up to where it lies the modulus behind
pub turns : (v : ℤ) (m l d r : ℕ) → 0 < m → pos l ≡ floor_rem v (pos m) → d ≤ m → l + d ≡ m + r
    → pos r ≡ floor_rem (v +ℤ pos d) (pos m)
turns v m l d r some e near is =
    let above : pos 0 <ℤ pos m = omega (arith, ints) in
    let f = floor_splits v (pos m) above in
    let least = f.below in
    let split : v +ℤ pos d ≡ suc_ℤ (floor_div v (pos m)) *ℤ pos m +ℤ pos r =
    omega (arith, ints, f.split, suc_ℤ-*ℤ (floor_div v (pos m)) (pos m)) in
    (floor_only (v +ℤ pos d) (pos m) (suc_ℤ (floor_div v (pos m))) (pos r) above
    (record { split = split; least = omega (arith, ints); below = omega (arith, ints, least) })).1

-- the rest is left where l + d is the rest, or the modulus more
pub lands : (v : ℤ) (m l d rest : ℕ) → 0 < m → rest < m → pos l ≡ floor_rem v (pos m) → d ≤ m
    → (l + d ≡ rest) ⊎ (l + d ≡ m + rest) → floor_rem (v +ℤ pos d) (pos m) ≡ pos rest
lands v m l d rest some small e near (inl is) =
    sym (stays v m l d some e (omega arith)) ∙ ap pos is
lands v m l d rest some small e near (inr is) = sym (turns v m l d rest some e near is)

-- and nowhere else
pub passes : (v : ℤ) (m l d rest : ℕ) → 0 < m → pos l ≡ floor_rem v (pos m) → d ≤ m → l + d ≢ rest → l + d ≢ m + rest
    → floor_rem (v +ℤ pos d) (pos m) ≢ pos rest
passes v m l d rest some e near one other same = by (cases_lt (l + d) m)
  where
    by : (l + d < m) ⊎ (m ≤ l + d) → ⊥
    by (inl below) =
        let is : pos (l + d) ≡ pos rest = stays v m l d some e below ∙ same in
        one (omega (arith, ints))
    by (inr over) =
        let is : pos (l + d - m) ≡ pos rest = turns v m l d (l + d - m) some e near (omega arith) ∙ same in
        other (omega (arith, ints))

-- ---- what is taken where a rest is left

pub taken_where : (rest : ℕ) (z v x y : ℤ) → z ≡ pos rest → v ≡ x → v ≡ if int_eq z (pos rest) then x else y
taken_where rest z v x y e is = rw ((Decides-int_eq z (pos rest)).1 e) is

pub kept_where : (rest : ℕ) (z v x y : ℤ) → z ≢ pos rest → v ≡ y → v ≡ if int_eq z (pos rest) then x else y
kept_where rest z v x y other is = by (int_eq z (pos rest)) refl
  where
    by : (t : Bool) → int_eq z (pos rest) ≡ t → v ≡ if t then x else y
    by true q = absurd (other ((Decides-int_eq z (pos rest)).0 q))
    by false q = is

-- ---- every second number

module _ (v : ℤ) (first rest : ℕ) (small : first < 2) (e : floor_rem (v +ℤ pos first) (pos 2) ≡ pos rest) where
  -- of numbers that follow one another, each second one leaves what the first of these leaves
  pub alternate : (k : ℕ) → k % 2 ≡ first → floor_rem (v +ℤ pos k) (pos 2) ≡ pos rest
  alternate k is =
      let above : pos 0 <ℤ pos 2 = omega (arith, ints) in
      let f = floor_splits (v +ℤ pos first) (pos 2) above in
      let split : v +ℤ pos k ≡ (floor_div (v +ℤ pos first) (pos 2) +ℤ pos (k / 2)) *ℤ pos 2 +ℤ pos rest =
      omega (arith, ints, f.split, e, is, quotients_add (floor_div (v +ℤ pos first) (pos 2)) (k / 2) 2) in
      sym (floor_only (v +ℤ pos k) (pos 2) (floor_div (v +ℤ pos first) (pos 2) +ℤ pos (k / 2)) (pos rest) above
      (record { split = split; least = omega (arith, ints); below = omega (arith, ints, f.below, e) })).1

  -- and no other one
  pub alternate_not : (k : ℕ) → k % 2 ≢ first → floor_rem (v +ℤ pos k) (pos 2) ≢ pos rest
  alternate_not k other same =
      let next : (k + 1) % 2 ≡ first = omega arith in
      let along : v +ℤ pos k +ℤ pos 1 ≡ v +ℤ pos (k + 1) = omega (arith, ints) in
      passes (v +ℤ pos k) 2 rest 1 rest (omega arith) (sym same) (omega arith) (omega arith) (omega arith)
      (ap (λ (z : ℤ). floor_rem z (pos 2)) along ∙ alternate (k + 1) next)

  -- so its test is whether the number is even, or odd
  pub tested : (k : ℕ) (x y : ℤ) → (if k % 2 == first then x else y) ≡ if int_eq (floor_rem (v +ℤ pos k) (pos 2)) (pos rest) then x else y
  tested k x y = by (eqb_tells (k % 2) first)
    where
      by : (((k % 2 == first) ≡ true) × (k % 2 ≡ first)) ⊎ (((k % 2 == first) ≡ false) × (k % 2 ≢ first))
          → (if k % 2 == first then x else y) ≡ if int_eq (floor_rem (v +ℤ pos k) (pos 2)) (pos rest) then x else y
      by (inl h) = rw h.0 (taken_where rest _ x x y (alternate k h.1) refl)
      by (inr h) = rw h.0 (kept_where rest _ y x y (alternate_not k h.1) refl)

-- ---- a step along a row

module _ (col : ℤ) (m rest : ℕ) (other initial : List ℤ) where
  -- what stands at place j where the other row's numbers are taken in the columns that leave the rest
  abbrev pub taken : ℕ → ℤ
  taken j = if int_eq (floor_rem (col +ℤ pos j) (pos m)) (pos rest) then at other j else at initial j

  -- a row that is right below k, which leaves the rest, is right up to the next such place once the number at k is taken
  pub taken_more : (k : ℕ) (out : List ℤ) (x : ℤ) → rest < m → k < length out → x ≡ at other k
      → floor_rem (col +ℤ pos k) (pos m) ≡ pos rest → ((j : ℕ) → j < k → j < length out → at out j ≡ taken j)
      → ((j : ℕ) → k ≤ j → at out j ≡ at initial j) → (j : ℕ) → j < k + m → j < length out → at (slice_set out k x) j ≡ taken j
  taken_more k out x small lt is here done ahead j near inside = by (cases_lt j k)
    where
      behind : k < j → floor_rem (col +ℤ pos j) (pos m) ≢ pos rest
      behind less e =
          let along : col +ℤ pos k +ℤ pos (j - k) ≡ col +ℤ pos j = omega (arith, ints) in
          passes (col +ℤ pos k) m rest (j - k) rest (omega arith) (sym here) (omega arith) (omega arith) (omega arith)
          (ap (λ (v : ℤ). floor_rem v (pos m)) along ∙ e)

      from : (k < j) ⊎ (j ≤ k) → k ≤ j → at (slice_set out k x) j ≡ taken j
      from (inl less) le =
          let ne : j ≢ k = omega arith in
          kept_where rest _ _ (at other j) _ (behind less) (rw get_or-set_other (ahead j le))
      from (inr more) le =
          let same : k ≡ j = omega arith in
          subst (λ (i : ℕ). at (slice_set out k x) i ≡ taken i) same
          (taken_where rest _ _ _ (at initial k) here (get_or-set_same out k x (pos 0) lt ∙ is))

      by : (j < k) ⊎ (k ≤ j) → at (slice_set out k x) j ≡ taken j
      by (inl less) = let ne : j ≢ k = omega arith in rw get_or-set_other (done j less inside)
      by (inr le) = from (cases_lt k j) le

  -- the next such place
  pub next_rest : (k : ℕ) → rest < m → floor_rem (col +ℤ pos k) (pos m) ≡ pos rest → floor_rem (col +ℤ pos (k + m)) (pos m) ≡ pos rest
  next_rest k small here =
      let along : col +ℤ pos k +ℤ pos m ≡ col +ℤ pos (k + m) = omega (arith, ints) in
      let sum : rest + m ≡ m + rest = omega arith in
      sym (ap (λ (v : ℤ). floor_rem v (pos m)) along)
      ∙ lands (col +ℤ pos k) m rest m rest (omega arith) small (sym here) (omega arith) (inr sum)
