-- What the rules keep of a history, and what is in force after one entry more.
use Rattle.std.proofs.Common.{◌≡◌, ◌==◌, ℕ, ◌≤◌, min, Bool, true, false, if◌then◌else◌, List, [], ◌∷◌, ◌++◌, map, Option, Some}
use Rattle.std.proofs.Common.{None, refl, ap, sym, subst, arith, All, AllPairs}
use Rattle.std.specs.Option.{option_to_list}
use Rattle.std.specs.Ordering.{is_eq}
use Rattle.std.specs.declared.cmp.Ordering.{Ordering}
use Rattle.std.specs.declared.cmp.Ordering.TheVariants.{Less, Equal, Greater}
use Rattle.std.proofs.lemmas.List.{append-nil}
use Rattle.std.proofs.lemmas.List.Elements.{All-nil, All-cons, All-append, All-map, All-push, All-weaker}
use Rattle.std.proofs.lemmas.List.Quantifiers.{all_pairs_push}
use Rattle.std.proofs.lemmas.Option.{none-some, cond_some}
use Rattle.identity.specs.Keys.{key_cmp}
use Rattle.identity.specs.declared.key.Key.{Key}
use Rattle.identity.proofs.KeyLaws.{same_key}
use Rattle.leases.specs.declared.answer.Claim.TheVariants as claim
use Rattle.leases.specs.declared.answer.Release.TheVariants as release
use Rattle.leases.specs.declared.entry.Lease.{Lease}
use Rattle.leases.specs.declared.entry.LeaseEntry.{LeaseEntry}
use Rattle.leases.specs.declared.entry.LeaseEntry.TheVariants.{Granted, Renewed, Held, Released}
use Rattle.leases.specs.Leases.{is_same_key, time_of, ends, entry_lease, leases_of, in_force}
use Rattle.leases.specs.Rules.{until_of, claim_by, release_by, claim_entry}
use Rattle.leases.specs.Rules.{release_entry, with_entry, IsLegal, empty, later, claimed, released}
use Rattle.leases.proofs.LeaseLists.{Apart, cut, leases_of-more, all_over, apart_cut, apart_push}

pub record Kept (h : List LeaseEntry) (t : ℕ) : Type 0 where
  pub times : All (λ e. time_of e ≤ t) h
  pub rising : AllPairs (λ a b. time_of a ≤ time_of b) h
  pub begun : (q : Key) → All (λ l. l.from ≤ t) (leases_of q h)
  pub apart : (q : Key) → Apart (leases_of q h)

-- a grant comes where no lease of its key is in force
abbrev pub MayCome : List LeaseEntry → LeaseEntry → Type 0
MayCome h (Granted key lease) = in_force key lease.from h ≡ None
MayCome h (Renewed key lease) = Unit {0}
MayCome h (Held key node time) = Unit {0}
MayCome h (Released key node time) = Unit {0}

equal_order : (o : Ordering) → is_eq o ≡ true → o ≡ Equal
equal_order Less h = cc
equal_order Equal h = refl
equal_order Greater h = cc

one_key : (a b : Key) → is_same_key a b ≡ true → a ≡ b
one_key a b h = same_key a b (equal_order (key_cmp a b) h)

cut_until : (until t : ℕ) (b : Bool) → b ≡ true → (if b then min until t else until) ≤ t
cut_until until t true h = omega arith
cut_until until t false h = cc

-- where an entry gives a lease of q, or ends one, those before are over
pub cut_over : (q : Key) (e : LeaseEntry) (ls : List Lease) → ends q e ≡ true → All (λ l. (cut q e l).until ≤ time_of e) ls
cut_over q e ls h = λ k d within. cut_until _ (time_of e) (ends q e) h

pub given_over : (q : Key) (h : List LeaseEntry) (e : LeaseEntry) (n : Lease) → Kept h (time_of e) → MayCome h e → entry_lease q e ≡ Some n
    → (n.from ≡ time_of e) × All (λ l. (cut q e l).until ≤ time_of e) (leases_of q h)
given_over q h (Granted key lease) n k m eq =
    let it = cond_some (is_same_key key q) lease n eq in
    let none : in_force q lease.from h ≡ None = subst (λ p. in_force p lease.from h ≡ None) (one_key key q it.0) m in
    (ap (λ l. l.from) (sym it.1), all_over lease.from (leases_of q h) (k.begun q) none)
given_over q h (Renewed key lease) n k m eq =
    let it = cond_some (is_same_key key q) lease n eq in
    (ap (λ l. l.from) (sym it.1), cut_over q (Renewed key lease) (leases_of q h) it.0)
given_over q h (Held key node time) n k m eq = absurd (none-some n eq)
given_over q h (Released key node time) n k m eq = absurd (none-some n eq)

given_begun : (q : Key) (h : List LeaseEntry) (e : LeaseEntry) (o : Option Lease) → Kept h (time_of e) → MayCome h e → entry_lease q e ≡ o
    → All (λ l. l.from ≤ time_of e) (option_to_list o) × Apart (map (cut q e) (leases_of q h) ++ option_to_list o)
given_begun q h e None k m eq = (All-nil (λ l. l.from ≤ time_of e), rw append-nil (apart_cut q e (leases_of q h) (k.apart q)))
given_begun q h e (Some n) k m eq =
    let it = given_over q h e n k m eq in (
      All-cons (λ l. l.from ≤ time_of e) n [] (omega (arith, it.0)) (All-nil (λ l. l.from ≤ time_of e)),
      apart_push (map (cut q e) (leases_of q h)) n (apart_cut q e (leases_of q h) (k.apart q))
          (All-map (λ l. l.until ≤ n.from) (cut q e) (leases_of q h) (rw it.0 it.1)),
    )

kept_more : (h : List LeaseEntry) (e : LeaseEntry) → Kept h (time_of e) → MayCome h e → Kept (h ++ e ∷ []) (time_of e)
kept_more h e k m =
    let P : Lease → Type 0 = λ l. l.from ≤ time_of e in
    let now : time_of e ≤ time_of e = omega arith in
    record {
      times = All-push (λ d. time_of d ≤ time_of e) h e k.times now;
      rising = all_pairs_push (λ a b. time_of a ≤ time_of b) h e k.rising k.times;
      begun = λ q. rw (leases_of-more q h e k.times)
          (All-append P (map (cut q e) (leases_of q h)) (option_to_list (entry_lease q e)) (All-map P (cut q e) (leases_of q h) (k.begun q))
          (given_begun q h e (entry_lease q e) k m refl).0);
      apart = λ q. rw (leases_of-more q h e k.times) (given_begun q h e (entry_lease q e) k m refl).1;
    }

-- what is recorded of a claim by the rules may come
claim_more_by : (P : List LeaseEntry → Type 0) (h : List LeaseEntry) (time node : ℕ) (key : Key) (ttl : ℕ) (o : Option Lease)
    → in_force key time h ≡ o
    → ((e : LeaseEntry) → MayCome h e → time_of e ≡ time → P (h ++ e ∷ []))
    → P (with_entry h (claim_entry time node key (claim_by o time node ttl)))
claim_more_by P h time node key ttl None eq step =
    step (Granted key (record { node = node; from = time; until = until_of time ttl })) eq refl
claim_more_by P h time node key ttl (Some l) eq step =
    elim (l.node == node) as
    (λ b. P (with_entry h (claim_entry time node key (if b then claim.Renewed (until_of time ttl) else claim.Held l.node l.until)))) [
      | true ↦ step (Renewed key (record { node = node; from = time; until = until_of time ttl })) tt refl
      | false ↦ step (Held key node time) tt refl
    ]

release_more_by : (P : List LeaseEntry → Type 0) (h : List LeaseEntry) (time node : ℕ) (key : Key) (o : Option Lease) → P h
    → ((e : LeaseEntry) → MayCome h e → time_of e ≡ time → P (h ++ e ∷ []))
    → P (with_entry h (release_entry time node key (release_by o node)))
release_more_by P h time node key None same step = same
release_more_by P h time node key (Some l) same step =
    elim (l.node == node) as (λ b. P (with_entry h (release_entry time node key (if b then release.Released else release.NotHolder)))) [
      | true ↦ step (Released key node time) tt refl
      | false ↦ same
    ]

kept_step : (h : List LeaseEntry) (time : ℕ) (e : LeaseEntry) → Kept h time → MayCome h e → time_of e ≡ time → Kept (h ++ e ∷ []) time
kept_step h time e k m at = subst (Kept (h ++ e ∷ [])) at (kept_more h e (subst (Kept h) (sym at) k) m)

kept_later : (h : List LeaseEntry) (t x : ℕ) → t ≤ x → Kept h t → Kept h x
kept_later h t x le k = record {
  times = All-weaker (λ e. time_of e ≤ t) (λ e. time_of e ≤ x) (λ e below. omega arith) h k.times;
  rising = k.rising;
  begun = λ q. All-weaker (λ l. l.from ≤ t) (λ l. l.from ≤ x) (λ l below. omega arith) (leases_of q h) (k.begun q);
  apart = k.apart;
}

-- the rules keep it
pub legal_is_kept : (h : List LeaseEntry) (t : ℕ) → IsLegal h t → Kept h t
legal_is_kept _ _ empty = record {
  times = All-nil (λ e. time_of e ≤ 0);
  rising = λ i j d below within. absurd (omega arith);
  begun = λ q. All-nil (λ l. l.from ≤ 0);
  apart = λ q. tt;
}
legal_is_kept _ _ (later h time now legal le) = kept_later h time now le (legal_is_kept h time legal)
legal_is_kept _ _ (claimed h time node key ttl legal) =
    let k = legal_is_kept h time legal in
    claim_more_by (λ g. Kept g time) h time node key ttl (in_force key time h) refl (λ e m at. kept_step h time e k m at)
legal_is_kept _ _ (released h time node key legal) =
    let k = legal_is_kept h time legal in
    release_more_by (λ g. Kept g time) h time node key (in_force key time h) k (λ e m at. kept_step h time e k m at)
