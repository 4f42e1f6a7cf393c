-- The leases of a key after one entry more, and the one in force among leases that follow one another.
use Rattle.std.proofs.Common.{◌≡◌, ℕ, ◌<◌, ◌≤◌, inl, inr, min, Bool, true, false, ◌&&◌, if◌then◌else◌, cond, List, [], ◌∷◌, ◌++◌}
use Rattle.std.proofs.Common.{map, Option, Some, None, refl, ap, sym, ◌∙◌, arith, nat_lt, nat_le, All, AllPairs}
use Rattle.std.specs.List.{find}
use Rattle.std.specs.Option.{option_map, option_to_list}
use Rattle.std.proofs.lemmas.Bool.{cases_lt, lt-ltb}
use Rattle.std.proofs.lemmas.List.Elements.{All-nil, All-cons, All-head, All-tail, All-append, All-map, All-weaker}
use Rattle.std.proofs.lemmas.List.Kept.{AllPairs-cons}
use Rattle.std.proofs.lemmas.Option.{none-some}
use Rattle.identity.specs.declared.key.Key.{Key}
use Rattle.leases.specs.declared.entry.Lease.{Lease}
use Rattle.leases.specs.declared.entry.LeaseEntry.{LeaseEntry}
use Rattle.leases.specs.Leases.{time_of, ends, end_of, entry_lease, ended_lease, leases_of, lasts}
use Rattle.leases.specs.Standing.{lease_unless_over}

-- each lease is over before the next begins
abbrev pub Apart : List Lease → Type 0
Apart [] = Unit {0}
Apart (l ∷ ls) = All (λ m. l.until ≤ m.from) ls × Apart ls

-- a lease of q that was there before an entry
abbrev pub cut : Key → LeaseEntry → Lease → Lease
cut q e l = record l { until = if ends q e then min l.until (time_of e) else l.until }

cut_twice : (until soon late : ℕ) (b : Bool) → soon ≤ late → min until soon ≡ (if b then min (min until soon) late else min until soon)
cut_twice until soon late true h = omega arith
cut_twice until soon late false h = refl

end_of-more : (q : Key) (until : ℕ) (h : List LeaseEntry) (e : LeaseEntry) → All (λ d. time_of d ≤ time_of e) h
    → end_of q until (h ++ e ∷ []) ≡ (if ends q e then min (end_of q until h) (time_of e) else end_of q until h)
end_of-more q until [] e before = refl
end_of-more q until (d ∷ h) e before =
    let first : time_of d ≤ time_of e = All-head (λ d. time_of d ≤ time_of e) d h before in
    let rest = end_of-more q until h e (All-tail (λ d. time_of d ≤ time_of e) d h before) in
    elim (ends q d) as (λ b. (if b then min until (time_of d) else end_of q until (h ++ e ∷ []))
    ≡ (if ends q e then min (if b then min until (time_of d) else end_of q until h) (time_of e)
    else (if b then min until (time_of d) else end_of q until h)))
    [ true ↦ cut_twice until (time_of d) (time_of e) (ends q e) first | false ↦ rest ]

given_alone : (q : Key) (o : Option Lease) → option_to_list (option_map (ended_lease q []) o) ++ [] ≡ option_to_list o
given_alone q None = refl
given_alone q (Some l) = refl

given_before : (q : Key) (h : List LeaseEntry) (e : LeaseEntry) (o : Option Lease) (later rest : List Lease) → All (λ d. time_of d ≤ time_of e) h
    → later ≡ map (cut q e) rest ++ option_to_list (entry_lease q e)
    → option_to_list (option_map (ended_lease q (h ++ e ∷ [])) o) ++ later
    ≡ map (cut q e) (option_to_list (option_map (ended_lease q h) o) ++ rest) ++ option_to_list (entry_lease q e)
given_before q h e None later rest before eq = eq
given_before q h e (Some l) later rest before eq =
    ap (λ u. record l { until = u } ∷ later) (end_of-more q l.until h e before) ∙ ap (λ ls. cut q e (ended_lease q h l) ∷ ls) eq

-- one entry more may end leases that were there, and give one
pub leases_of-more : (q : Key) (h : List LeaseEntry) (e : LeaseEntry) → All (λ d. time_of d ≤ time_of e) h
    → leases_of q (h ++ e ∷ []) ≡ map (cut q e) (leases_of q h) ++ option_to_list (entry_lease q e)
leases_of-more q [] e before = given_alone q (entry_lease q e)
leases_of-more q (d ∷ h) e before =
    let P : LeaseEntry → Type 0 = λ d. time_of d ≤ time_of e in
    let tail = All-tail P d h before in
    given_before q h e (entry_lease q d) _ (leases_of q h) tail (leases_of-more q h e tail)

-- whether a lease that has begun lasts
pub lasts_begun : (x : ℕ) (l : Lease) → l.from ≤ x → lasts x l ≡ nat_lt x l.until
lasts_begun x l h = ap (λ b. b && nat_lt x l.until) (let begun : nat_le l.from x ≡ true = grind arith in begun)

over : (x : ℕ) (l : Lease) → l.until ≤ x → lasts x l ≡ false
over x l h = grind arith

-- of leases that are over none is in force
pub none_lasts : (x : ℕ) (ls : List Lease) → All (λ l. l.until ≤ x) ls → find (lasts x) ls ≡ None
none_lasts x [] h = refl
none_lasts x (l ∷ ls) h =
    let P : Lease → Type 0 = λ l. l.until ≤ x in
    ap (λ b. cond b (Some l) (find (lasts x) ls)) (over x l (All-head P l ls h)) ∙ none_lasts x ls (All-tail P l ls h)

-- behind a lease that has begun and is not over none begins
nothing_later : (t : ℕ) (l : Lease) (ls : List Lease) → t < l.until → All (λ m. l.until ≤ m.from) ls → All (λ m. m.from ≤ t) ls → ls ≡ []
nothing_later t l [] lasting later begun = refl
nothing_later t l (m ∷ ls) lasting later begun =
    let after : l.until ≤ m.from = All-head (λ m. l.until ≤ m.from) m ls later in
    let before : m.from ≤ t = All-head (λ m. m.from ≤ t) m ls begun in
    absurd (omega arith)

-- once all have begun, the lease in force at a time is the one in force later, until it is over
pub find_later : (t x : ℕ) (ls : List Lease) → t ≤ x → All (λ l. l.from ≤ t) ls → Apart ls
    → lease_unless_over x (find (lasts t) ls) ≡ find (lasts x) ls
find_later t x [] later begun apart = refl
find_later t x (l ∷ ls) later begun apart =
    let P : Lease → Type 0 = λ l. l.from ≤ t in
    let first : l.from ≤ t = All-head P l ls begun in
    let rest = All-tail P l ls begun in
    elim (cases_lt t l.until) [
      | inl lasting ↦
          let now : lasts t l ≡ true = lasts_begun t l first ∙ lt-ltb t l.until lasting in
          let none : find (lasts x) ls ≡ None = ap (find (lasts x)) (nothing_later t l ls lasting apart.0 rest) in
          ap (λ b. lease_unless_over x (cond b (Some l) (find (lasts t) ls))) now
          ∙ sym (ap (λ b. cond b (Some l) (find (lasts x) ls)) (lasts_begun x l (omega arith)) ∙ ap (cond (nat_lt x l.until) (Some l)) none)
      | inr ended ↦
          ap (λ b. lease_unless_over x (cond b (Some l) (find (lasts t) ls))) (over t l ended)
          ∙ (find_later t x ls later rest apart.1 ∙ sym (ap (λ b. cond b (Some l) (find (lasts x) ls)) (over x l (omega arith))))
    ]

-- where none is in force of leases that have begun, all are over
pub all_over : (x : ℕ) (ls : List Lease) → All (λ l. l.from ≤ x) ls → find (lasts x) ls ≡ None → All (λ l. l.until ≤ x) ls
all_over x [] begun none = All-nil (λ l. l.until ≤ x)
all_over x (l ∷ ls) begun none =
    let P : Lease → Type 0 = λ l. l.from ≤ x in
    let Q : Lease → Type 0 = λ l. l.until ≤ x in
    let first : l.from ≤ x = All-head P l ls begun in
    let rest = All-tail P l ls begun in
    elim (cases_lt x l.until) [
      | inl lasting ↦
          let now : lasts x l ≡ true = lasts_begun x l first ∙ lt-ltb x l.until lasting in
          absurd (none-some l (sym none ∙ ap (λ b. cond b (Some l) (find (lasts x) ls)) now))
      | inr ended ↦
          All-cons Q l ls ended (all_over x ls rest (sym (ap (λ b. cond b (Some l) (find (lasts x) ls)) (over x l ended)) ∙ none))
    ]

sooner_end : (until soon : ℕ) (b : Bool) → (if b then min until soon else until) ≤ until
sooner_end until soon true = omega arith
sooner_end until soon false = omega arith

pub apart_cut : (q : Key) (e : LeaseEntry) (ls : List Lease) → Apart ls → Apart (map (cut q e) ls)
apart_cut q e [] apart = tt
apart_cut q e (l ∷ ls) apart =
    let sooner : (cut q e l).until ≤ l.until = sooner_end l.until (time_of e) (ends q e) in (
      All-map (λ m. (cut q e l).until ≤ m.from) (cut q e) ls
          (All-weaker (λ m. l.until ≤ m.from) (λ m. (cut q e l).until ≤ m.from) (λ m h. omega arith) ls apart.0),
      apart_cut q e ls apart.1,
    )

pub apart_push : (ls : List Lease) (n : Lease) → Apart ls → All (λ l. l.until ≤ n.from) ls → Apart (ls ++ n ∷ [])
apart_push [] n apart before = (All-nil (λ m. n.until ≤ m.from), tt)
apart_push (l ∷ ls) n apart before =
    let P : Lease → Type 0 = λ l. l.until ≤ n.from in
    let Q : Lease → Type 0 = λ m. l.until ≤ m.from in (
      All-append Q ls (n ∷ []) apart.0 (All-cons Q n [] (All-head P l ls before) (All-nil Q)),
      apart_push ls n apart.1 (All-tail P l ls before),
    )

-- leases of which each is over before the next begins are pairwise so
pub pairs_apart : (ls : List Lease) → Apart ls → AllPairs (λ a b. a.until ≤ b.from) ls
pairs_apart [] apart = λ i j d below within. absurd (omega arith)
pairs_apart (l ∷ ls) apart = AllPairs-cons (λ a b. a.until ≤ b.from) l ls apart.0 (pairs_apart ls apart.1)
