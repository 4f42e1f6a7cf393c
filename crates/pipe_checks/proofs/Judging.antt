-- Judging places in turn answers what is wrong at the first that is not served.
use Rattle.std.proofs.Common.{ℕ, ◌+◌, ◌<◌, drop, length, get_or, ◌≡◌, true, false, ◌&&◌, Option, Some, None, is_none, Ok, Err}
use Rattle.std.proofs.Common.{OnOk, IfErr, List, [], ◌∷◌, ◌++◌, refl, sym, ◌∙◌, ap}
use Rattle.std.proofs.lemmas.Bool.{false≢true}
use Rattle.pipe_checks.specs.declared.symbol.Symbol.{Symbol}
use Rattle.pipe_checks.specs.declared.fault.Violation.{Violation}
use Rattle.pipe_checks.specs.declared.uses.ItemVariables.{ItemVariables}
use Rattle.domains.proofs.Places.{next_of}
use Rattle.pipe_checks.specs.Uses.{Place, wrong_at, are_served, IsFirstUnserved}
use Rattle.pipe_checks.specs.inside.Judging.{Verdict, verdict, and_then, judged}

ok_not_err : (w : Violation) → ◌≡◌ {A = Verdict} (Ok tt) (Err w) → ⊥
ok_not_err w e = cc

and_then_assoc : (u v w : Verdict) → and_then (and_then u v) w ≡ and_then u (and_then v w)
and_then_assoc (Ok u) v w = refl
and_then_assoc (Err e) v w = refl

and_then_last : (v : Verdict) → and_then v (Ok tt) ≡ v
and_then_last (Ok tt) = refl
and_then_last (Err e) = refl

pub judged_append : (names : List Symbol) (locals : ItemVariables) (xs ys : List Place)
    → judged names locals (xs ++ ys) ≡ and_then (judged names locals xs) (judged names locals ys)
judged_append names locals [] ys = refl
judged_append names locals (x ∷ xs) ys =
    ap (and_then (verdict (wrong_at names locals x))) (judged_append names locals xs ys)
    ∙ sym (and_then_assoc (verdict (wrong_at names locals x)) (judged names locals xs) (judged names locals ys))

pub judged_one : (names : List Symbol) (locals : ItemVariables) (x : Place) → judged names locals (x ∷ []) ≡ verdict (wrong_at names locals x)
judged_one names locals x = and_then_last (verdict (wrong_at names locals x))

-- ---- loops

-- one turn of a loop over what has places
module _ {X : Type 0} (names : List Symbol) (locals : ItemVariables) (places : X → List Place) (all : List X → List Place)
    (step : (x : X) (xs : List X) → all (x ∷ xs) ≡ places x ++ all xs) (xs : List X) (i : ℕ) (x : X) (h : i < length xs)
    (is : x ≡ get_or xs i x) where
  turn : (v : Verdict) → v ≡ judged names locals (places x)
      → judged names locals (all (drop i xs)) ≡ and_then v (judged names locals (all (drop (i + 1) xs)))
  turn v e =
      ap (judged names locals) (ap all (next_of xs i x h is) ∙ step x (drop (i + 1) xs))
      ∙ judged_append names locals (places x) (all (drop (i + 1) xs))
      ∙ ap (λ w. and_then w (judged names locals (all (drop (i + 1) xs)))) (sym e)

  pub turn_holds : (v : Verdict) → v ≡ judged names locals (places x) → v ≡ Ok tt
      → judged names locals (all (drop i xs)) ≡ judged names locals (all xs)
      → judged names locals (all (drop (i + 1) xs)) ≡ judged names locals (all xs)
  turn_holds v e good inv = sym (turn v e ∙ ap (λ w. and_then w (judged names locals (all (drop (i + 1) xs)))) good) ∙ inv

  pub turn_fails : (v : Verdict) (w : Violation) (r : Verdict) → v ≡ judged names locals (places x) → v ≡ Err w
      → judged names locals (all (drop i xs)) ≡ judged names locals (all xs) → r ≡ Err w → r ≡ judged names locals (all xs)
  turn_fails v w r e fails inv told =
      told ∙ sym (sym inv ∙ turn v e ∙ ap (λ u. and_then u (judged names locals (all (drop (i + 1) xs)))) fails)

-- ---- what a verdict says of the places

module _ (names : List Symbol) (locals : ItemVariables) where
  served_judged : (ps : List Place) → are_served names locals ps ≡ true → judged names locals ps ≡ Ok tt
  served_judged [] h = refl
  served_judged (p ∷ ps) h = by_wrong (wrong_at names locals p) h (served_judged ps)
    where
      by_wrong : (o : Option Violation) → (is_none o && are_served names locals ps) ≡ true
          → (are_served names locals ps ≡ true → judged names locals ps ≡ Ok tt) → and_then (verdict o) (judged names locals ps) ≡ Ok tt
      by_wrong None holds later = later holds
      by_wrong (Some w) holds later = absurd (false≢true holds)

  unserved_judged : (ps : List Place) (w : Violation) → IsFirstUnserved names locals ps w → judged names locals ps ≡ Err w
  unserved_judged ps w h =
      ap (judged names locals) h.parts ∙ judged_append names locals h.before (h.place ∷ h.after)
      ∙ ap (λ v. and_then v (judged names locals (h.place ∷ h.after))) (served_judged h.before h.served)
      ∙ ap (λ o. and_then (verdict o) (judged names locals h.after)) h.is

  judged_served : (ps : List Place) → judged names locals ps ≡ Ok tt → are_served names locals ps ≡ true
  judged_served [] h = refl
  judged_served (p ∷ ps) h = by_wrong (wrong_at names locals p) h (judged_served ps)
    where
      by_wrong : (o : Option Violation) → and_then (verdict o) (judged names locals ps) ≡ Ok tt
          → (judged names locals ps ≡ Ok tt → are_served names locals ps ≡ true) → (is_none o && are_served names locals ps) ≡ true
      by_wrong None holds later = later holds
      by_wrong (Some w) holds later = absurd (ok_not_err w (sym holds))

  judged_unserved : (ps : List Place) (w : Violation) → judged names locals ps ≡ Err w → IsFirstUnserved names locals ps w
  judged_unserved [] w h = absurd (ok_not_err w h)
  judged_unserved (p ∷ ps) w h = by_wrong (wrong_at names locals p) refl h (judged_unserved ps w)
    where
      behind : wrong_at names locals p ≡ None → IsFirstUnserved names locals ps w → IsFirstUnserved names locals (p ∷ ps) w
      behind e later = record {
        before = p ∷ later.before;
        place = later.place;
        after = later.after;
        parts = ap (λ qs. p ∷ qs) later.parts;
        served = ap (λ o. is_none o && are_served names locals later.before) e ∙ later.served;
        is = later.is;
      }

      by_wrong : (o : Option Violation) → wrong_at names locals p ≡ o → and_then (verdict o) (judged names locals ps) ≡ Err w
          → (judged names locals ps ≡ Err w → IsFirstUnserved names locals ps w) → IsFirstUnserved names locals (p ∷ ps) w
      by_wrong None e holds later = behind e (later holds)
      by_wrong (Some v) e holds later = record { before = []; place = p; after = ps; parts = refl; served = refl; is = e ∙ ap Some (cc) }

  pub result_served : (ps : List Place) (r : Verdict) → r ≡ judged names locals ps → OnOk r (are_served names locals ps ≡ true)
  result_served ps (Ok u) e = judged_served ps (sym e)
  result_served ps (Err w) e = tt

  pub result_unserved : (ps : List Place) (r : Verdict) → r ≡ judged names locals ps → IfErr r (IsFirstUnserved names locals ps)
  result_unserved ps (Ok u) e = tt
  result_unserved ps (Err w) e = judged_unserved ps w (sym e)

  pub served_or_not : (ps : List Place) (w : Violation) → are_served names locals ps ≡ true → IsFirstUnserved names locals ps w → ⊥
  served_or_not ps w good h = ok_not_err w (sym (served_judged ps good) ∙ unserved_judged ps w h)

  pub one_unserved : (ps : List Place) (v w : Violation) → IsFirstUnserved names locals ps v → IsFirstUnserved names locals ps w → v ≡ w
  one_unserved ps v w h k =
      let same : Err v ≡ Err w = sym (unserved_judged ps v h) ∙ unserved_judged ps w k in
      cc
