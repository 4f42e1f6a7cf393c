-- What updates leave, joined.
use Rattle.std.specs.Prelude.{◌≡◌, ◌⊎◌, ◌↔◌, Bool, true, false, refl}
use Rattle.std.proofs.Common.{sym, ◌∙◌, inl, inr}
use Rattle.tile_fact.specs.declared.fact.Fact.{Fact}
use Rattle.identity.specs.declared.job_ids.JobId.{JobId}
use Rattle.identity.specs.Keys.{ids_in}
use Rattle.tile_fact.specs.declared.update.Update.{Update}
use Rattle.tile_fact.specs.declared.update.Update.TheVariants.{Fact as fact, Retire as retirement}
use Rattle.states.specs.States.{State, holds, retires, join}
use Rattle.states.specs.Updates.{Shows, Leave, IsLeftBy}
use Rattle.states.proofs.JoinLaws.{clash, joined_has, joined_parts, or_cases, or_left, or_right, retires-join, same_members}

abbrev Gone : State → Update → Type 0
Gone t (fact f) = retires t (ids_in f.key) ≡ true
Gone t (retirement i) = ⊥

-- the state has some of the updates, and each that it lacks is a fact that it retires
pub record IsFrom (Q : Update → Type 0) (t : State) : Type 0 where
  pub only : (u : Update) → Shows t u → Q u
  pub each : (u : Update) → Q u → Shows t u ⊎ Gone t u

-- what a state shows it is from
pub from_itself : (t : State) → IsFrom (Shows t) t
from_itself t = record { only = λ u h. h; each = λ u h. inl h }

leave_first : (Q : Update → Type 0) (u : Update) → Leave Q u → Q u
leave_first Q (fact f) h = h.0
leave_first Q (retirement i) h = h

pub from_left : (Q : Update → Type 0) (t : State) → IsLeftBy Q t → IsFrom Q t
from_left Q t is = record { only = λ u h. leave_first Q u ((is u).0 h); each = each }
  where
    decided : (f : Fact) → Q (fact f) → (b : Bool) → retires t (ids_in f.key) ≡ b → Shows t (fact f) ⊎ Gone t (fact f)
    decided f q true e = inr e
    decided f q false e = inl ((is (fact f)).1 (q, λ r. clash _ ((is (retirement (ids_in f.key))).1 r) e))

    each : (u : Update) → Q u → Shows t u ⊎ Gone t u
    each (fact f) q = decided f q (retires t (ids_in f.key)) refl
    each (retirement i) q = inl ((is (retirement i)).1 q)

module _ (P Q : Update → Type 0) (s t : State) (is : IsLeftBy P s) (from : IsFrom Q t) where
  abbrev Either : Update → Type 0
  Either u = P u ⊎ Q u

  retired : (i : JobId) → retires (join s t) i ≡ true → Either (retirement i)
  retired i h = elim (or_cases _ _ (sym (retires-join s t i) ∙ h)) [ inl e ↦ inl ((is (retirement i)).0 e) | inr e ↦ inr (from.only (retirement i) e) ]

  retires_it : (i : JobId) → Either (retirement i) → retires (join s t) i ≡ true
  retires_it i (inl p) = retires-join s t i ∙ or_left _ _ ((is (retirement i)).1 p)
  retires_it i (inr q) = elim (from.each (retirement i) q) [ inl e ↦ retires-join s t i ∙ or_right _ _ e | inr none ↦ absurd none ]

  held : (f : Fact) → holds (join s t) f ≡ true → Leave Either (fact f)
  held f h =
      let parts = joined_parts s t f h in
      let i : JobId = ids_in f.key in (
        elim parts.0 [ inl e ↦ inl ((is (fact f)).0 e).0 | inr e ↦ inr (from.only (fact f) e) ],
        λ r. elim (or_cases _ _ (sym (retires-join s t i) ∙ retires_it i r)) [ inl e ↦ clash _ e parts.1 | inr e ↦ clash _ e parts.2 ],
      )

  off : (i : JobId) (v : State) → ((e : retires v i ≡ true) → ⊥) → (b : Bool) → retires v i ≡ b → retires v i ≡ false
  off i v none true e = absurd (none e)
  off i v none false e = e

  holds_it : (f : Fact) → Leave Either (fact f) → holds (join s t) f ≡ true
  holds_it f (some, none) =
      let i : JobId = ids_in f.key in
      let x = off i s (λ e. none (inl ((is (retirement i)).0 e))) (retires s i) refl in
      let y = off i t (λ e. none (inr (from.only (retirement i) e))) (retires t i) refl in
      joined_has s t f
      (elim some [
        | inl p ↦ inl ((is (fact f)).1 (p, λ r. none (inl r)))
        | inr q ↦ elim (from.each (fact f) q) [ inl e ↦ inr e | inr gone ↦ clash _ gone y ]
      ]) x y

  pub left_join : IsLeftBy Either (join s t)
  left_join (fact f) = (held f, holds_it f)
  left_join (retirement i) = (retired i, retires_it i)

-- the same updates leave the same
leave_same : (P Q : Update → Type 0) → ((u : Update) → P u ↔ Q u) → (u : Update) → Leave P u → Leave Q u
leave_same P Q same (fact f) h = ((same (fact f)).0 h.0, λ q. h.1 ((same (retirement (ids_in f.key))).1 q))
leave_same P Q same (retirement i) h = (same (retirement i)).0 h

pub left_same : (P Q : Update → Type 0) (s : State) → IsLeftBy P s → ((u : Update) → P u ↔ Q u) → IsLeftBy Q s
left_same P Q s is same u = (
  λ h. leave_same P Q same u ((is u).0 h),
  λ h. (is u).1 (leave_same Q P (λ v. ((same v).1, (same v).0)) u h),
)

pub left_alike : (P Q : Update → Type 0) (s t : State) → IsLeftBy P s → IsLeftBy Q t → ((u : Update) → Leave P u ↔ Leave Q u) → s ≡ t
left_alike P Q s t one other same =
    same_members s t (λ f h. over (fact f) h) (λ f h. back (fact f) h) (λ i h. over (retirement i) h) (λ i h. back (retirement i) h)
  where
    over : (u : Update) → Shows s u → Shows t u
    over u h = (other u).1 ((same u).0 ((one u).0 h))

    back : (u : Update) → Shows t u → Shows s u
    back u h = (one u).1 ((same u).1 ((other u).0 h))
