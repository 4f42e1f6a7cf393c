-- Values that are given one after the other.
use Rattle.std.proofs.Common.{◌≡◌, ℕ, ℤ, ◌+◌, ◌<◌, ◌++◌, List, [], ◌∷◌, Some, None, Result, Ok, Err, OnOk, length, get_or, take}
use Rattle.std.proofs.Common.{map, slice_get, refl, sym, ap, ◌∙◌, subst, add-one}
use Rattle.std.proofs.Math.Seq.{map-set_same, take-suc}
use Rattle.std.proofs.lemmas.Option.{get_or_from_slice_get}
use Rattle.std.proofs.lemmas.Simd.{map-map}
use Rattle.std.specs.Prelude.{◌↔◌, string_bytes}
use Rattle.pipe_checks.specs.declared.symbol.Symbol.{Symbol}
use Rattle.pipe_bounds.specs.declared.params.Setting.{Setting}
use Rattle.pipe_bounds.specs.declared.fault.ParamFault.{ParamFault}
use Rattle.pipe_bounds.specs.declared.fault.ParamFault.TheVariants.{NoSuchParam, SetTwice}
use Rattle.pipe_bounds.specs.Settings.{SetsOne, IsSet, place_in}
use Rattle.pipe_bounds.specs.Unset.{unset}
use Rattle.command_faults.specs.declared.faults.StreamFault.{StreamFault}
use Rattle.command_faults.specs.declared.faults.StreamFault.TheVariants as faults
use Rattle.command_inputs.specs.Giving.{Given, AreGiven, IsNotSettable}
use Rattle.command_inputs.specs.inside.Steps.{IsParamRefusal, TellsParam}

-- the front of a list with one more element
one_more : {X : Type 0} (xs : List X) (i : ℕ) (x : X) → i < length xs → x ≡ get_or xs i x → take (i + 1) xs ≡ take i xs ++ x ∷ []
one_more xs i x within is = ap (λ n. take n xs) (add-one i) ∙ take-suc xs i x within ∙ ap (λ y. take i xs ++ y ∷ []) (sym is)

given_last : (old mid new : List Setting) (xs : List Given) (x : Given) → AreGiven old xs mid → SetsOne mid new (string_bytes x.0) x.1
    → AreGiven old (xs ++ x ∷ []) new
given_last old mid new [] x e set = (new, subst (λ ss. SetsOne ss new (string_bytes x.0) x.1) e set, refl)
given_last old mid new ((name, value) ∷ xs) x (next, first, rest) set = (next, first, given_last next mid new xs x rest set)

pub given_more : (old mid new : List Setting) (xs : List Given) (i : ℕ) (x : Given) → i < length xs → x ≡ get_or xs i x
    → AreGiven old (take i xs) mid
    → SetsOne mid new (string_bytes x.0) x.1 → AreGiven old (take (i + 1) xs) new
given_more old mid new xs i x within is so_far set =
    subst (λ ys. AreGiven old ys new) (sym (one_more xs i x within is)) (given_last old mid new (take i xs) x so_far set)

-- ---- names stay

set_named : (old new : List Setting) (name : List ℕ) (value : ℤ) → SetsOne old new name value
    → map (λ (s : Setting). s.name) new ≡ map (λ (s : Setting). s.name) old
set_named old new name value is =
    ap (map (λ (s : Setting). s.name)) is.set
    ∙ map-set_same (λ (s : Setting). s.name) old is.place (record is.setting { value = Some value }) is.setting
    (ap (λ (s : Setting). s.name) (sym (get_or_from_slice_get old is.place is.setting is.setting is.there)))

given_named : (old : List Setting) (xs : List Given) (new : List Setting) → AreGiven old xs new
    → map (λ (s : Setting). s.name) new ≡ map (λ (s : Setting). s.name) old
given_named old [] new e = ap (map (λ (s : Setting). s.name)) e
given_named old ((name, value) ∷ xs) new (next, first, rest) =
    given_named next xs new rest ∙ set_named old next (string_bytes name) value first

pub params_named : (ps : List Symbol) (xs : List Given) (new : List Setting) → AreGiven (map unset ps) xs new
    → map (λ (s : Setting). s.name) new ≡ map (λ (d : Symbol). d.name) ps
params_named ps xs new given = given_named (map unset ps) xs new given ∙ map-map (λ (s : Setting). s.name) unset ps

-- ---- refusals

pub set_of : {P : Type 0} (r : Result (Unit {0}) ParamFault) → OnOk r P → ((e : ParamFault) → r ≡ Err e → ⊥) → P
set_of (Ok u) p never = p
set_of (Err e) p never = absurd (never e refl)

pub not_settable : (ss : List Setting) (name : List ℕ) (fault : ParamFault) (r : Result (Unit {0}) ParamFault) → r ≡ Err fault
    → ((r ≡ Err NoSuchParam) ↔ (place_in ss name ≡ None)) → ((r ≡ Err SetTwice) ↔ IsSet ss name) → IsNotSettable ss name fault
not_settable ss name NoSuchParam r e none twice = none.0 e
not_settable ss name SetTwice r e none twice = twice.0 e

pub told_refusal : (start ss : List Setting) (given : List Given) (n : ℕ) (pair : Given) (fault : ParamFault) (f : StreamFault)
    → slice_get given n ≡ Some pair
    → AreGiven start (take n given) ss → IsNotSettable ss (string_bytes pair.0) fault → TellsParam fault (string_bytes pair.0) f
    → IsParamRefusal start given f
told_refusal start ss given n pair fault (faults.Param line) there before why told =
    record {
      n = n;
      pair = pair;
      there = there;
      settings = ss;
      before = before;
      why = subst (IsNotSettable ss (string_bytes pair.0)) (sym told.0) why;
      name = told.1;
    }
told_refusal start ss given n pair fault faults.Memory there before why told = tt
told_refusal start ss given n pair fault faults.Read there before why told = told
told_refusal start ss given n pair fault faults.TooLong there before why told = told
told_refusal start ss given n pair fault faults.NoSeparator there before why told = told
told_refusal start ss given n pair fault (faults.Program x) there before why told = told
told_refusal start ss given n pair fault (faults.Tables x) there before why told = told
told_refusal start ss given n pair fault (faults.Picture x) there before why told = told
told_refusal start ss given n pair fault (faults.Check x) there before why told = told
told_refusal start ss given n pair fault (faults.Bind x) there before why told = told
told_refusal start ss given n pair fault (faults.Facts x) there before why told = told
told_refusal start ss given n pair fault (faults.Script x) there before why told = told
told_refusal start ss given n pair fault (faults.Farm x) there before why told = told
told_refusal start ss given n pair fault faults.Write there before why told = told
