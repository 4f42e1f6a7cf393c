-- One byte of the magic after the other.
use Rattle.std.proofs.Common.{◌≡◌, ◌≢◌, ℕ, ◌+◌, ◌<◌, ◌≤◌, true, false, eqb, List, ◌∷◌, length, get_or, drop, Ok, Err, refl, add-one}
use Rattle.std.proofs.Common.{drop-cons, arith, inl, inr}
use Rattle.std.proofs.lemmas.Bool.Decides.{eqb_tells}
use Rattle.std.proofs.lemmas.List.{drop_all}
use Rattle.tile_fact.specs.declared.fault.FactFault.TheVariants.{BadMagic, Cut}
use Rattle.tile_fact.specs.Reading.{magic_read}

cons_at : (xs : List ℕ) (i : ℕ) → i < length xs → drop i xs ≡ get_or xs i 0 ∷ drop (i + 1) xs
cons_at xs i h = rw (add-one, drop-cons xs i 0) refl

same_eqb : (a : ℕ) → eqb a a ≡ true
same_eqb a = elim (eqb_tells a a) [ inl same ↦ same.0 | inr apart ↦ absurd (apart.1 refl) ]

not_eqb : (a b : ℕ) → a ≢ b → eqb a b ≡ false
not_eqb a b other = elim (eqb_tells a b) [ inl same ↦ absurd (other same.1) | inr apart ↦ apart.0 ]

pub magic_step : (wanted bytes : List ℕ) (at : ℕ) → at < length wanted → at < length bytes → get_or bytes at 0 ≡ get_or wanted at 0
    → magic_read at (drop at wanted) (drop at bytes) ≡ magic_read (at + 1) (drop (at + 1) wanted) (drop (at + 1) bytes)
unfolding magic_read
magic_step wanted bytes at in_wanted in_bytes same =
    rw (cons_at wanted at in_wanted, cons_at bytes at in_bytes, same, same_eqb (get_or wanted at 0)) refl

pub magic_differs : (wanted bytes : List ℕ) (at : ℕ) → at < length wanted → at < length bytes → get_or bytes at 0 ≢ get_or wanted at 0
    → magic_read at (drop at wanted) (drop at bytes) ≡ Err (BadMagic at)
unfolding magic_read
magic_differs wanted bytes at in_wanted in_bytes other = rw (cons_at wanted at in_wanted, cons_at bytes at in_bytes, not_eqb _ _ other) refl

pub magic_ends : (wanted bytes : List ℕ) (at : ℕ) → at < length wanted → at ≡ length bytes
    → magic_read at (drop at wanted) (drop at bytes) ≡ Err (Cut at)
unfolding magic_read
magic_ends wanted bytes at in_wanted end = rw (cons_at wanted at in_wanted, drop_all at bytes (omega arith)) refl

pub magic_all : (wanted bytes : List ℕ) (at : ℕ) → length wanted ≤ at → magic_read at (drop at wanted) (drop at bytes) ≡ Ok (drop at bytes)
unfolding magic_read
magic_all wanted bytes at all = rw (drop_all at wanted all) refl
