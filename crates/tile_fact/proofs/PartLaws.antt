-- What a part of the bytes is.
use Rattle.std.proofs.Common.{◌≡◌, ℕ, ◌≤◌, ◌<◌, Bool, true, false, cond, ltb, List, ◌++◌, length, take, drop, Result, Ok, Err}
use Rattle.std.proofs.Common.{refl, sym, ap, arith}
use Rattle.std.proofs.lemmas.Bool.{ltb-true, ltb-false, lt-ltb, le-ltb}
use Rattle.std.proofs.lemmas.List.{take_at, drop_at, take-append-drop, length-append, length-take}
use Rattle.tile_fact.specs.declared.fault.FactFault.{FactFault}
use Rattle.tile_fact.specs.declared.fault.FactFault.TheVariants.{Cut}
use Rattle.tile_fact.specs.Reading.{◌>>=◌, part_read}

-- the value of a step that did not fail
pub bind_ok : {A B : Type 0} (r : Result A FactFault) (f : A → Result B FactFault) (y : B) → (r >>= f) ≡ Ok y
    → (x : A) × (r ≡ Ok x) × (f x ≡ Ok y)
bind_ok (Ok x) f y e = (x, refl, e)
bind_ok (Err d) f y e = absurd cc

-- a test that did not fail
pub guard_ok : {A : Type 0} (b : Bool) (d : FactFault) (x y : A) → cond b (Err d) (Ok x) ≡ Ok y → (b ≡ false) × (x ≡ y)
guard_ok true d x y e = absurd cc
guard_ok false d x y e = (refl, cc)

pub guard_err : {A : Type 0} (b : Bool) (d e : FactFault) (x : A) → cond b (Err d) (Ok x) ≡ Err e → (b ≡ true) × (e ≡ d)
guard_err true d e x h = (refl, cc)
guard_err false d e x h = absurd cc

pub record Part (bytes : List ℕ) (len : ℕ) (part rest : List ℕ) : Type 0 where
  pub whole : bytes ≡ part ++ rest
  pub len_is : length part ≡ len

pub part_takes : (total len : ℕ) (bytes part rest : List ℕ) → part_read total len bytes ≡ Ok (part, rest) → Part bytes len part rest
unfolding part_read
part_takes total len bytes part rest e =
    let g = guard_ok (ltb (length bytes) len) (Cut total) (take len bytes, drop len bytes) (part, rest) e in
    let long : len ≤ length bytes = ltb-false _ _ g.0 in
    let part-is : take len bytes ≡ part = ap (λ (p : List ℕ × List ℕ). p.0) g.1 in
    let rest-is : drop len bytes ≡ rest = ap (λ (p : List ℕ × List ℕ). p.1) g.1 in
    record {
      whole =
          rw (← part-is, ← rest-is) (sym (take-append-drop len bytes));
      len_is = rw (← part-is) (omega (arith, length-take len bytes));
    }

pub part_again : (total len : ℕ) (part rest : List ℕ) → length part ≡ len → part_read total len (part ++ rest) ≡ Ok (part, rest)
unfolding part_read
part_again total len part rest is =
    let long : ltb (length (part ++ rest)) len ≡ false = le-ltb _ _ (omega (arith, length-append part rest)) in
    rw (long, take_at part rest len is, drop_at part rest len is) refl

pub part_cut : (total len : ℕ) (bytes : List ℕ) (e : FactFault) → part_read total len bytes ≡ Err e → (length bytes < len) × (e ≡ Cut total)
unfolding part_read
part_cut total len bytes e h =
    let g = guard_err (ltb (length bytes) len) (Cut total) e (take len bytes, drop len bytes) h in
    (ltb-true (length bytes) len g.0, g.1)

pub part_short : (total len : ℕ) (bytes : List ℕ) → length bytes < len → part_read total len bytes ≡ Err (Cut total)
unfolding part_read
part_short total len bytes short = let test : ltb (length bytes) len ≡ true = lt-ltb _ _ short in rw test refl
