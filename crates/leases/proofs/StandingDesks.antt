-- Desks that stand for a history, at a later time and after one call more.
use Rattle.std.proofs.Common.{◌≡◌, ◌==◌, ℕ, ◌≤◌, inl, inr, max, min, Bool, true, false, if◌then◌else◌, cond, List, [], ◌∷◌, ◌++◌}
use Rattle.std.proofs.Common.{map, Option, Some, None, refl, ap, sym, ◌∙◌, subst, arith, nat_lt}
use Rattle.std.specs.List.{find}
use Rattle.std.specs.BTreeMap.{get}
use Rattle.std.specs.Option.{option_or, option_to_list}
use Rattle.std.proofs.lemmas.Bool.{cases_lt, lt-ltb, le-ltb}
use Rattle.std.proofs.lemmas.List.Elements.{All-map}
use Rattle.std.proofs.lemmas.List.Folds.{find-append}
use Rattle.identity.specs.Keys.{key_cmp}
use Rattle.identity.specs.declared.key.Key.{Key}
use Rattle.leases.specs.declared.answer.Claim.{Claim}
use Rattle.leases.specs.declared.answer.Claim.TheVariants as claim
use Rattle.leases.specs.declared.answer.Release.{Release}
use Rattle.leases.specs.declared.answer.Release.TheVariants as release
use Rattle.leases.specs.declared.desk.Desk.{Desk}
use Rattle.leases.specs.declared.entry.Lease.{Lease}
use Rattle.leases.specs.declared.entry.LeaseEntry.{LeaseEntry}
use Rattle.leases.specs.declared.entry.LeaseEntry.TheVariants.{Granted, Renewed, Held, Released}
use Rattle.leases.specs.Leases.{is_same_key, time_of, ends, entry_lease, leases_of, lasts, in_force}
use Rattle.leases.specs.Rules.{until_of, claim_by, claim_answer, release_by, release_answer, lease_of, claim_entry, release_entry}
use Rattle.leases.specs.Rules.{with_entry, time_after, later, claimed, released}
use Rattle.leases.specs.Standing.{lease_unless_over, shown_lease, StandsFor}
use Rattle.leases.proofs.LeaseLists.{cut, leases_of-more, none_lasts, find_later, lasts_begun}
use Rattle.leases.proofs.LegalHistories.{Kept, legal_is_kept, MayCome, given_over, cut_over}

-- what a table has of q after an entry
abbrev pub table_after : Key → LeaseEntry → Option Lease → Option Lease
table_after q e o = option_or (entry_lease q e) (if ends q e then None else o)

over_twice_by : (t x until : ℕ) (l : Lease) → t ≤ x → l.until ≡ until
    → lease_unless_over x (if nat_lt t until then Some l else None) ≡ lease_unless_over x (Some l)
over_twice_by t x until l le eq =
    elim (cases_lt t until) [
      | inl lasting ↦ ap (λ b. lease_unless_over x (if b then Some l else None)) (lt-ltb t until lasting)
      | inr ended ↦
          ap (λ b. lease_unless_over x (if b then Some l else None)) (le-ltb t until ended)
          ∙ sym (ap (λ b. if b then Some l else None) (le-ltb x l.until (omega arith)))
    ]

-- what is over at a time is over later
over_twice : (t x : ℕ) (o : Option Lease) → t ≤ x → lease_unless_over x (lease_unless_over t o) ≡ lease_unless_over x o
over_twice t x None le = refl
over_twice t x (Some l) le = over_twice_by t x l.until l le refl

in_force_later : (q : Key) (t x : ℕ) (h : List LeaseEntry) → Kept h t → t ≤ x → lease_unless_over x (in_force q t h) ≡ in_force q x h
in_force_later q t x h k le = find_later t x (leases_of q h) le (k.begun q) (k.apart q)

map_same : (ls : List Lease) → map (λ l. l) ls ≡ ls
map_same [] = refl
map_same (l ∷ ls) = ap (λ ms. l ∷ ms) (map_same ls)

or_none : (o : Option Lease) → option_or o None ≡ o
or_none None = refl
or_none (Some l) = refl

-- of the leases before an entry, those that it does not end stay in force
before_entry : (q : Key) (h : List LeaseEntry) (e : LeaseEntry) → Kept h (time_of e) → (b : Bool) → ends q e ≡ b
    → option_or (find (lasts (time_of e)) (map (cut q e) (leases_of q h))) None
    ≡ lease_unless_over (time_of e) (if b then None else in_force q (time_of e) h)
before_entry q h e k true eq =
    ap (λ o. option_or o None)
    (none_lasts (time_of e) (map (cut q e) (leases_of q h))
    (All-map (λ l. l.until ≤ time_of e) (cut q e) (leases_of q h) (cut_over q e (leases_of q h) eq)))
before_entry q h e k false eq =
    let t = time_of e in
    let uncut : map (cut q e) (leases_of q h) ≡ leases_of q h =
    ap (λ b. map (λ (l : Lease). record l { until = if b then min l.until t else l.until }) (leases_of q h)) eq
    ∙ map_same (leases_of q h) in
    or_none (find (lasts t) (map (cut q e) (leases_of q h))) ∙ ap (find (lasts t)) uncut ∙ sym (in_force_later q t t h k (omega arith))

-- what is in force after an entry
in_force_after : (q : Key) (h : List LeaseEntry) (e : LeaseEntry) → Kept h (time_of e) → MayCome h e → (g : Option Lease) → entry_lease q e ≡ g
    → option_or (find (lasts (time_of e)) (map (cut q e) (leases_of q h))) (find (lasts (time_of e)) (option_to_list g))
    ≡ lease_unless_over (time_of e) (option_or g (if ends q e then None else in_force q (time_of e) h))
in_force_after q h e k m None eq = before_entry q h e k (ends q e) refl
in_force_after q h e k m (Some n) eq =
    let t = time_of e in
    let it = given_over q h e n k m eq in
    let begun : n.from ≤ t = omega (arith, it.0) in
    ap (λ o. option_or o (find (lasts t) (n ∷ [])))
    (none_lasts t (map (cut q e) (leases_of q h)) (All-map (λ l. l.until ≤ t) (cut q e) (leases_of q h) it.1))
    ∙ ap (λ b. cond b (Some n) None) (lasts_begun t n begun)

in_force-more : (q : Key) (h : List LeaseEntry) (e : LeaseEntry) → Kept h (time_of e) → MayCome h e
    → in_force q (time_of e) (h ++ e ∷ []) ≡ lease_unless_over (time_of e) (table_after q e (in_force q (time_of e) h))
in_force-more q h e k m =
    let t = time_of e in
    ap (find (lasts t)) (leases_of-more q h e k.times)
    ∙ find-append (lasts t) (map (cut q e) (leases_of q h)) (option_to_list (entry_lease q e))
    ∙ in_force_after q h e k m (entry_lease q e) refl

after_shown_by : (t : ℕ) (g o p : Option Lease) (b : Bool) → lease_unless_over t o ≡ p
    → lease_unless_over t (option_or g (if b then None else o)) ≡ lease_unless_over t (option_or g (if b then None else p))
after_shown_by t (Some l) o p b eq = refl
after_shown_by t None o p true eq = refl
after_shown_by t None o p false eq = sym (over_twice t t o (omega arith)) ∙ ap (lease_unless_over t) eq

-- a table that is changed as an entry says shows what is in force after it
shows_more : (q : Key) (h : List LeaseEntry) (e : LeaseEntry) (o p : Option Lease) → Kept h (time_of e) → MayCome h e
    → lease_unless_over (time_of e) o ≡ in_force q (time_of e) h → p ≡ table_after q e o
    → lease_unless_over (time_of e) p ≡ in_force q (time_of e) (h ++ e ∷ [])
shows_more q h e o p k m shown table =
    ap (lease_unless_over (time_of e)) table
    ∙ after_shown_by (time_of e) (entry_lease q e) o (in_force q (time_of e) h) (ends q e) shown
    ∙ sym (in_force-more q h e k m)

-- a desk shows also later what is in force
pub shown_later : (desk : Desk) (h : List LeaseEntry) (t x : ℕ) (q : Key) → StandsFor desk h t → t ≤ x → shown_lease x desk q ≡ in_force q x h
shown_later desk h t x q s le =
    sym (over_twice t x (get key_cmp desk.leases q) le) ∙ ap (lease_unless_over x) (s.shows q) ∙ in_force_later q t x h (legal_is_kept h t s.legal) le

-- and so does one whose time alone has moved
pub stands_later : (old new : Desk) (h : List LeaseEntry) (t x : ℕ) → StandsFor old h t → t ≤ x → new.clock ≡ x → new.leases ≡ old.leases
    → StandsFor new h x
stands_later old new h t x s le clock table = record {
  legal = later h t x s.legal le;
  clock = clock;
  shows = λ q. ap (λ m. lease_unless_over x (get key_cmp m q)) table ∙ shown_later old h t x q s le;
}

given_claim : (b : Bool) (l : Lease) (o : Option Lease)
    → option_or (if b then Some l else None) o ≡ option_or (if b then Some l else None) (if b then None else o)
given_claim true l o = refl
given_claim false l o = refl

given_none : (b : Bool) (o : Option Lease) → option_or (if b then None else None) o ≡ o
given_none true o = refl
given_none false o = refl

-- what is in force after a claim, where the table gets the lease that it gives
shows_claim : (q : Key) (h : List LeaseEntry) (t node : ℕ) (key : Key) (ttl : ℕ) (o p : Option Lease) (f : Option Lease) → Kept h t
    → in_force key t h ≡ f → lease_unless_over t o ≡ in_force q t h
    → p ≡ option_or (if is_same_key key q then lease_of t node (claim_by f t node ttl) else None) o
    → lease_unless_over t p ≡ in_force q t (with_entry h (claim_entry t node key (claim_by f t node ttl)))
shows_claim q h t node key ttl o p None k eq shown =
    shows_more q h (Granted key (record { node = node; from = t; until = until_of t ttl })) o p k eq shown
shows_claim q h t node key ttl o p (Some l) k eq shown =
    let n : Lease = record { node = node; from = t; until = until_of t ttl } in
    elim (l.node == node) as (λ b. p
    ≡ option_or (if is_same_key key q then lease_of t node (if b then claim.Renewed (until_of t ttl) else claim.Held l.node l.until) else None)
    o
    → lease_unless_over t p
    ≡ in_force q t (with_entry h (claim_entry t node key (if b then claim.Renewed (until_of t ttl) else claim.Held l.node l.until)))) [
      | true ↦ λ table. shows_more q h (Renewed key n) o p k tt shown (table ∙ given_claim (is_same_key key q) n o)
      | false ↦ λ table. shows_more q h (Held key node t) o p k tt shown (table ∙ given_none (is_same_key key q) o)
    ]

-- a claim that is answered by the rules, and given its lease
pub stands_claimed : (old new : Desk) (h : List LeaseEntry) (t x node : ℕ) (key : Key) (ttl : ℕ) (c : Claim) → StandsFor old h t → t ≤ x
    → c ≡ claim_by (shown_lease x old key) x node ttl → new.clock ≡ x
    → ((q : Key) → get key_cmp new.leases q ≡ option_or (if is_same_key key q then lease_of x node c else None) (get key_cmp old.leases q))
    → (c ≡ claim_answer h x node key ttl) × StandsFor new (with_entry h (claim_entry x node key c)) x
stands_claimed old new h t x node key ttl c s le answer clock table =
    let legal = later h t x s.legal le in
    let by : c ≡ claim_answer h x node key ttl = answer ∙ ap (λ o. claim_by o x node ttl) (shown_later old h t x key s le) in (
      by,
      subst (λ d. StandsFor new (with_entry h (claim_entry x node key d)) x) (sym by) (record {
        legal = claimed h x node key ttl legal;
        clock = clock;
        shows =
            λ q. shows_claim q h x node key ttl (get key_cmp old.leases q) (get key_cmp new.leases q) (in_force key x h) (legal_is_kept h x legal)
            refl
            (shown_later old h t x q s le)
            (table q ∙ ap (λ d. option_or (if is_same_key key q then lease_of x node d else None) (get key_cmp old.leases q)) by);
      }),
    )

-- a claim by the rules moves the time
pub time_after_by : (t now x node ttl : ℕ) (o : Option Lease) → time_after t now (claim_by o x node ttl) ≡ max t now
time_after_by t now x node ttl None = refl
time_after_by t now x node ttl (Some l) =
    elim (l.node == node) as (λ b. time_after t now (if b then claim.Renewed (until_of x ttl) else claim.Held l.node l.until) ≡ max t now)
    [ true ↦ refl | false ↦ refl ]

-- a call's answer and what is left of the desk, by the greater of its time and the call's
pub claim_done : (old new : Desk) (h : List LeaseEntry) (t now x node : ℕ) (key : Key) (ttl : ℕ) (c : Claim) (g : Option Lease)
    → StandsFor old h t
    → x ≡ max old.clock now → c ≡ claim_by (shown_lease x old key) x node ttl → g ≡ lease_of x node c → new.clock ≡ x
    → ((q : Key) → get key_cmp new.leases q ≡ option_or (if is_same_key key q then g else None) (get key_cmp old.leases q))
    → (c ≡ claim_answer h (max t now) node key ttl) × StandsFor new (with_entry h (claim_entry (max t now) node key c)) (time_after t now c)
claim_done old new h t now x node key ttl c g s at answer gives clock table =
    let when : x ≡ max t now = at ∙ ap (λ k. max k now) s.clock in
    let it = stands_claimed old new h t x node key ttl c s (omega arith) answer clock
    (λ q. table q ∙ ap (λ d. option_or (if is_same_key key q then d else None) (get key_cmp old.leases q)) gives) in
    let there = subst (λ y. (c ≡ claim_answer h y node key ttl) × StandsFor new (with_entry h (claim_entry y node key c)) y) when it in
    let moved : time_after t now c ≡ max t now = ap (time_after t now) answer ∙ time_after_by t now x node ttl (shown_lease x old key) in
    (there.0, subst (StandsFor new (with_entry h (claim_entry (max t now) node key c))) (sym moved) there.1)

-- a table in which a lease was put, and one in which none was
pub put_lease : (b : Bool) (n : Lease) (g o : Option Lease) → g ≡ Some n → cond b (Some n) o ≡ option_or (if b then g else None) o
put_lease true n g o eq = ap (λ d. option_or d o) (sym eq)
put_lease false n g o eq = refl

pub put_none : (b : Bool) (g o : Option Lease) → g ≡ None → o ≡ option_or (if b then g else None) o
put_none b g o eq = sym (given_none b o) ∙ ap (λ d. option_or (if b then d else None) o) (sym eq)

-- what is in force after a release, where the table loses the lease if it is the node's
abbrev pub without : Key → Key → Release → Option Lease → Option Lease
without key q release.Released o = if is_same_key key q then None else o
without key q release.NotHolder o = o

shows_release : (q : Key) (h : List LeaseEntry) (t node : ℕ) (key : Key) (o p : Option Lease) (f : Option Lease) → Kept h t
    → lease_unless_over t o ≡ in_force q t h → p ≡ without key q (release_by f node) o
    → lease_unless_over t p ≡ in_force q t (with_entry h (release_entry t node key (release_by f node)))
shows_release q h t node key o p None k shown = λ table. ap (lease_unless_over t) table ∙ shown
shows_release q h t node key o p (Some l) k shown =
    elim (l.node == node) as (λ b. p ≡ without key q (if b then release.Released else release.NotHolder) o
    → lease_unless_over t p ≡ in_force q t (with_entry h (release_entry t node key (if b then release.Released else release.NotHolder)))) [
      | true ↦ λ table. shows_more q h (Released key node t) o p k tt shown table
      | false ↦ λ table. ap (lease_unless_over t) table ∙ shown
    ]

pub stands_released : (old new : Desk) (h : List LeaseEntry) (t x node : ℕ) (key : Key) (r : Release) → StandsFor old h t → t ≤ x
    → r ≡ release_by (shown_lease x old key) node → new.clock ≡ x
    → ((q : Key) → get key_cmp new.leases q ≡ without key q r (get key_cmp old.leases q))
    → (r ≡ release_answer h x node key) × StandsFor new (with_entry h (release_entry x node key r)) x
stands_released old new h t x node key r s le answer clock table =
    let legal = later h t x s.legal le in
    let by : r ≡ release_answer h x node key = answer ∙ ap (λ o. release_by o node) (shown_later old h t x key s le) in (
      by,
      subst (λ d. StandsFor new (with_entry h (release_entry x node key d)) x) (sym by) (record {
        legal = released h x node key legal;
        clock = clock;
        shows = λ q. shows_release q h x node key (get key_cmp old.leases q) (get key_cmp new.leases q) (in_force key x h) (legal_is_kept h x legal)
            (shown_later old h t x q s le) (table q ∙ ap (λ d. without key q d (get key_cmp old.leases q)) by);
      }),
    )

pub release_done : (old new : Desk) (h : List LeaseEntry) (t now x node : ℕ) (key : Key) (r : Release) → StandsFor old h t
    → x ≡ max old.clock now → r ≡ release_by (shown_lease x old key) node → new.clock ≡ x
    → ((q : Key) → get key_cmp new.leases q ≡ without key q r (get key_cmp old.leases q))
    → (r ≡ release_answer h (max t now) node key) × StandsFor new (with_entry h (release_entry (max t now) node key r)) (max t now)
release_done old new h t now x node key r s at answer clock table =
    let when : x ≡ max t now = at ∙ ap (λ k. max k now) s.clock in
    subst (λ y. (r ≡ release_answer h y node key) × StandsFor new (with_entry h (release_entry y node key r)) y) when
    (stands_released old new h t x node key r s (omega arith) answer clock table)

pub not_released : (r : Release) → (r ≡ release.Released → ⊥) → r ≡ release.NotHolder
not_released release.Released h = absurd (h refl)
not_released release.NotHolder h = refl
