-- Tables of names: what is found by hashes is what a search from the front finds.
use Rattle.std.proofs.Common.{◌≡◌, ℕ, ◌+◌, ◌-◌, ◌++◌, arith, Bool, true, false, cond, ◌&&◌, List, [], ◌∷◌, Option, None, Some}
use Rattle.std.proofs.Common.{is_some, if◌then◌else◌, length, map, take, position, refl, sym, ap, subst, ◌∙◌}
use Rattle.std.specs.Prelude.{replicate}
use Rattle.std.specs.Bool.{Decides}
use Rattle.std.specs.List.{position_from}
use Rattle.std.specs.Str.{bytes_eq}
use Rattle.std.proofs.Math.Seq.{take-append_seam}
use Rattle.std.proofs.lemmas.Bool.{and_parts, and_from}
use Rattle.std.proofs.lemmas.Bool.Decides.{Decides-eqb}
use Rattle.std.proofs.lemmas.Slice.Eq.{bytes_eq-Decides, slice_eq-Decides}
use Rattle.std.proofs.lemmas.Iterator.Adapters.{position_from-zero}
use Rattle.std.specs.Map.{keys_of, values_of, lookup}
use Rattle.indexmap.specs.IndexMap.{insert_entry}
use Rattle.pipe_checks.specs.declared.symbol.Symbol.{Symbol}
use Rattle.pipe_checks.specs.Names.{number_of}
use Rattle.pipe_checks.specs.inside.Entries.{named}
use Rattle.pipe_checks.specs.inside.Tables.{put}
use Rattle.pipe_tokens.specs.contracts.name.NamePartialEq as equal

both_decide : {P : Type 0} (a b : Bool) → Decides a P → Decides b P → a ≡ b
both_decide true true da db = refl
both_decide true false da db = sym (db.1 (da.0 refl))
both_decide false true da db = da.1 (db.0 refl)
both_decide false false da db = refl

padded : List ℕ → List ℕ
padded x = x ++ replicate (32 - length x) 0

same_front : (x y : List ℕ) → padded x ≡ padded y → length x ≡ length y → x ≡ y
unfolding padded
same_front x y e n =
    sym (take-append_seam x (replicate (32 - length x) 0)) ∙ ap (λ k. take k (padded x)) n ∙ ap (take (length y)) e
    ∙ take-append_seam y (replicate (32 - length y) 0)

-- two names are equal where their bytes are
pub name_eq : (x y : List ℕ) → equal.TheImpl.eq-value.it x y ≡ bytes_eq y x
unfolding padded
name_eq x y =
    both_decide {P = x ≡ y} (equal.TheImpl.eq-value.it x y) (bytes_eq y x) (forth, back)
    ((λ h. sym ((bytes_eq-Decides y x).0 h)), (λ e. (bytes_eq-Decides y x).1 (sym e)))
  where
    forth : equal.TheImpl.eq-value.it x y ≡ true → x ≡ y
    forth h =
        let both = and_parts _ _ h in
        same_front x y ((slice_eq-Decides Decides-eqb (padded x) (padded y) _ refl).0 both.0) ((Decides-eqb (length x) (length y)).0 both.1)

    back : x ≡ y → equal.TheImpl.eq-value.it x y ≡ true
    back e =
        and_from _ _ ((slice_eq-Decides Decides-eqb (padded x) (padded y) _ refl).1 (ap padded e))
        ((Decides-eqb (length x) (length y)).1 (ap length e))

from_map : {X Y : Type 0} (f : X → Y) (p : Y → Bool) (q : X → Bool) → ((x : X) → p (f x) ≡ q x) → (n : ℕ) (xs : List X)
    → position_from p n (map f xs) ≡ position_from q n xs
from_map f p q same n [] = refl
from_map f p q same n (x ∷ xs) =
    ap (λ b. cond b (Some n) (position_from p (n + 1) (map f xs))) (same x)
    ∙ ap (λ o. cond (q x) (Some n) o) (from_map f p q same (n + 1) xs)

pub position-map : {X Y : Type 0} (f : X → Y) (p : Y → Bool) (q : X → Bool) → ((x : X) → p (f x) ≡ q x) → (xs : List X)
    → position p (map f xs) ≡ position q xs
position-map f p q same xs = position_from-zero p (map f xs) ∙ from_map f p q same 0 xs ∙ sym (position_from-zero q xs)

-- ---- lists of names and declarations

pub values_named : (ds : List Symbol) → values_of (map named ds) ≡ ds
values_named [] = refl
values_named (d ∷ ds) = ap (λ l. d ∷ l) (values_named ds)

pub insert_named : (ds : List Symbol) (s : Symbol) → insert_entry equal.TheImpl.eq-value.it (map named ds) s.name s ≡ map named (put ds s)
insert_named [] s = refl
insert_named (d ∷ ds) s =
    ap (λ b. if b then (d.name, s) ∷ map named ds else named d ∷ insert_entry equal.TheImpl.eq-value.it (map named ds) s.name s)
    (name_eq s.name d.name)
    ∙ by (bytes_eq d.name s.name) ((bytes_eq-Decides d.name s.name).0) (insert_named ds s)
  where
    by : (b : Bool) → (b ≡ true → d.name ≡ s.name) → insert_entry equal.TheImpl.eq-value.it (map named ds) s.name s ≡ map named (put ds s)
        → (if b then (d.name, s) ∷ map named ds else named d ∷ insert_entry equal.TheImpl.eq-value.it (map named ds) s.name s)
        ≡ map named (if b then s ∷ ds else d ∷ put ds s)
    by true same later = ap (λ (x : List ℕ). (x, s) ∷ map named ds) (same refl)
    by false same later = ap (λ es. named d ∷ es) later

pub put_entries : (es : List (List ℕ × Symbol)) (s : Symbol) → es ≡ map named (values_of es)
    → insert_entry equal.TheImpl.eq-value.it es s.name s ≡ map named (put (values_of es) s)
put_entries es s h = ap (λ l. insert_entry equal.TheImpl.eq-value.it l s.name s) h ∙ insert_named (values_of es) s

pub number_in : (es : List (List ℕ × Symbol)) (x : List ℕ) → es ≡ map named (values_of es)
    → position (equal.TheImpl.eq-value.it x) (keys_of es) ≡ number_of (values_of es) x
number_in es x h =
    let p = equal.TheImpl.eq-value.it x in
    position-map (λ (e : List ℕ × Symbol). e.0) p (λ e. p e.0) (λ e. refl) es
    ∙ ap (position (λ (e : List ℕ × Symbol). p e.0)) h
    ∙ position-map named (λ (e : List ℕ × Symbol). p e.0) (λ (d : Symbol). bytes_eq d.name x) (λ d. name_eq x d.name) (values_of es)

found_place : {K X : Type 0} (test : K → Bool) (n : ℕ) (es : List (K × X))
    → is_some (lookup test es) ≡ is_some (position_from test n (keys_of es))
found_place test n [] = refl
found_place test n (e ∷ es) = by (test e.0) (found_place test (n + 1) es)
  where
    by : (b : Bool) → is_some (lookup test es) ≡ is_some (position_from test (n + 1) (keys_of es))
        → is_some (cond b (Some e.1) (lookup test es)) ≡ is_some (cond b (Some n) (position_from test (n + 1) (keys_of es)))
    by true later = refl
    by false later = later

-- a value is found where the name has a number
pub known_in : (es : List (List ℕ × Symbol)) (x : List ℕ) → es ≡ map named (values_of es)
    → is_some (lookup (equal.TheImpl.eq-value.it x) es) ≡ is_some (number_of (values_of es) x)
known_in es x h =
    let p = equal.TheImpl.eq-value.it x in
    found_place p 0 es ∙ ap is_some (sym (position_from-zero p (keys_of es))) ∙ ap is_some (number_in es x h)
