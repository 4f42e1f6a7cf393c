-- Identities of jobs and their bytes.
use Rattle.std.proofs.Common.{◌≡◌, ℕ, zero, suc, ◌+◌, ◌-◌, ◌*◌, ◌≤◌, ◌<◌, Bool, true, false, ltb, List, [], ◌∷◌, ◌++◌, length, inl, inr}
use Rattle.std.proofs.Common.{take, drop, Option, None, Some, Result, Ok, Err, refl, sym, ap, subst, ◌∙◌, append_assoc, append-nil, arith}
use Rattle.std.proofs.lemmas.Bool.{lt-ltb, le-ltb, cases_lt}
use Rattle.std.proofs.lemmas.List.{length-drop, drop-drop}
use Rattle.std.specs.Cmp.{IsTotalOrder, on_total, then_total}
use Rattle.std.specs.Cmp.Lexicographic.{nat_list_cmp_total}
use Rattle.std.specs.declared.cmp.Ordering.TheVariants.{Less, Equal, Greater}
use Rattle.std.specs.List.{list_any}
use Rattle.std.specs.Ordering.{eq_by_cmp, ordering_reverse}
use Rattle.identity.specs.declared.job_ids.JobId.{JobId}
use Rattle.identity.specs.Keys.{ids_cmp}
use Rattle.tile_fact.specs.declared.fault.FactFault.{FactFault}
use Rattle.tile_fact.specs.declared.fault.FactFault.TheVariants.{Cut, NotRising}
use Rattle.tile_fact.specs.declared.version.FactFileVersion.TheVariants.{OfFacts}
use Rattle.tile_fact.specs.Listing.{IsListing}
use Rattle.tile_fact.specs.Numbers.{pair_in, first_pairs}
use Rattle.tile_fact.specs.Order.{RisesBehind}
use Rattle.tile_fact.specs.Reading.{◌>>=◌, is_above, part_read, list_read, pair_read, retired_read}
use Rattle.tile_fact.proofs.PartLaws.{bind_ok}
use Rattle.tile_fact.proofs.RisingLaws.{above_of, rises_front, rises_back, none_below, only_front, found_here}

-- ---- one step

pub pair_cut : (total : ℕ) (last : Option JobId) (bytes : List ℕ) → length bytes < 64 → pair_read total last bytes ≡ Err (Cut total)
unfolding pair_read part_read
pair_cut total last bytes short = let test : ltb (length bytes) 64 ≡ true = lt-ltb _ _ short in rw test refl

pub pair_low : (total : ℕ) (last : Option JobId) (bytes : List ℕ) → 64 ≤ length bytes
    → is_above ids_cmp last (pair_in (take 64 bytes)) ≡ false → pair_read total last bytes ≡ Err (NotRising (total - length bytes))
unfolding pair_read part_read
pair_low total last bytes long low = let test : ltb (length bytes) 64 ≡ false = le-ltb _ _ long in rw (test, low) refl

pub pair_high : (total : ℕ) (last : Option JobId) (bytes : List ℕ) → 64 ≤ length bytes
    → is_above ids_cmp last (pair_in (take 64 bytes)) ≡ true
    → pair_read total last bytes ≡ Ok (pair_in (take 64 bytes), drop 64 bytes)
unfolding pair_read part_read
pair_high total last bytes long high = let test : ltb (length bytes) 64 ≡ false = le-ltb _ _ long in rw (test, high) refl

-- ---- so many of them

pub ids_order : IsTotalOrder ids_cmp
ids_order = then_total (on_total (λ i. i.program) nat_list_cmp_total) (on_total (λ i. i.input) nat_list_cmp_total)

pub pairs_split : (m k : ℕ) (bytes : List ℕ) → first_pairs (m + k) bytes ≡ first_pairs m bytes ++ first_pairs k (drop (64 * m) bytes)
unfolding first_pairs
pairs_split zero k bytes =
    let n : zero + k ≡ k = omega arith in
    let at : 0 ≡ 64 * zero = omega arith in
    ap (λ (i : ℕ). first_pairs i bytes) n ∙ ap (λ (i : ℕ). first_pairs k (drop i bytes)) at
pairs_split (suc m) k bytes =
    let n : suc m + k ≡ suc (m + k) = omega arith in
    let at : 64 + 64 * m ≡ 64 * suc m = omega arith in
    let behind : drop (64 * m) (drop 64 bytes) ≡ drop (64 * suc m) bytes =
    drop-drop (64 * m) 64 bytes ∙ ap (λ (i : ℕ). drop i bytes) at in
    ap (λ (i : ℕ). first_pairs i bytes) n
    ∙ ap (λ (l : List JobId). pair_in (take 64 bytes) ∷ l)
    (pairs_split m k (drop 64 bytes) ∙ ap (λ (l : List ℕ). first_pairs m (drop 64 bytes) ++ first_pairs k l) behind)

-- those in front of one, it, and those behind it
pub pairs_about : (count m : ℕ) (bytes : List ℕ) → m < count
    → first_pairs count bytes
    ≡ first_pairs m bytes
    ++ (pair_in (take 64 (drop (64 * m) bytes)) ∷ first_pairs (count - (m + 1)) (drop 64 (drop (64 * m) bytes)))
unfolding first_pairs
pairs_about count m bytes lt =
    let n : count ≡ m + suc (count - (m + 1)) = omega arith in
    ap (λ (i : ℕ). first_pairs i bytes) n ∙ pairs_split m (suc (count - (m + 1))) bytes

-- ---- looking for a job by halves

-- whether the job is among so many identities
abbrev among : JobId → ℕ → List ℕ → Bool
among job count bytes = list_any (eq_by_cmp ids_cmp job) (first_pairs count bytes)

module _
    (count m : ℕ) (rest : List ℕ) (job pair : JobId) (from behind : List ℕ) (lt : m < count) (listing : IsListing count rest)
    (from_is : from ≡ drop (64 * m) rest) (pair_is : pair ≡ pair_in (take 64 from)) (behind_is : behind ≡ drop 64 from)
  where
    about : first_pairs count rest ≡ first_pairs m rest ++ (pair ∷ first_pairs (count - (m + 1)) behind)
    about =
        pairs_about count m rest lt
        ∙ ap (λ (l : List ℕ). first_pairs m rest ++ (pair_in (take 64 l) ∷ first_pairs (count - (m + 1)) (drop 64 l))) (sym from_is)
        ∙ ap (λ (i : JobId). first_pairs m rest ++ (i ∷ first_pairs (count - (m + 1)) (drop 64 from))) (sym pair_is)
        ∙ ap (λ (l : List ℕ). first_pairs m rest ++ (pair ∷ first_pairs (count - (m + 1)) l)) (sym behind_is)

    rise : RisesBehind ids_cmp None (first_pairs m rest ++ (pair ∷ first_pairs (count - (m + 1)) behind))
    rise = subst (λ (l : List JobId). RisesBehind ids_cmp None l) about listing.rise

    pub in_front : ids_cmp job pair ≡ Less → IsListing m rest × (among job m rest ≡ among job count rest)
    in_front below = (
      record { whole = omega (arith, listing.whole); rise = rises_front ids_cmp None (first_pairs m rest) _ rise },
      sym (ap (λ (l : List JobId). list_any (eq_by_cmp ids_cmp job) l) about
          ∙ only_front ids_cmp ids_order job None (first_pairs m rest) pair _ rise below),
    )

    pub is_here : ids_cmp job pair ≡ Equal → among job count rest ≡ true
    is_here same =
        ap (λ (l : List JobId). list_any (eq_by_cmp ids_cmp job) l) about
        ∙ found_here ids_cmp ids_order job (first_pairs m rest) pair _ same

    pub behind_it : ids_cmp job pair ≡ Greater
        → IsListing (count - (m + 1)) behind × (among job (count - (m + 1)) behind ≡ among job count rest)
    behind_it above =
        let below : ids_cmp pair job ≡ Less = ids_order.antisymm pair job ∙ ap ordering_reverse above in (
          record {
            whole = omega (arith, listing.whole, ap length behind_is, ap length from_is, length-drop 64 from, length-drop (64 * m) rest);
            rise = rises_back ids_cmp None (first_pairs m rest) pair _ rise;
          },
          sym (ap (λ (l : List JobId). list_any (eq_by_cmp ids_cmp job) l) about
              ∙ none_below ids_cmp ids_order job None (first_pairs m rest) pair _ rise below),
        )

pub none_at_all : (job : JobId) (count : ℕ) (bytes : List ℕ) → count ≡ 0 → among job count bytes ≡ false
unfolding first_pairs
none_at_all job zero bytes h = refl
none_at_all job (suc n) bytes h = absurd (omega arith)

-- ---- reading them

pub record IsPairRead (last : Option JobId) (bytes : List ℕ) (x : JobId × List ℕ) : Type 0 where
  pub long : 64 ≤ length bytes
  pub read : x ≡ (pair_in (take 64 bytes), drop 64 bytes)
  pub high : is_above ids_cmp last (pair_in (take 64 bytes)) ≡ true

err_not_ok : {Y : Type 0} (e : FactFault) (y : Y) → (let r : Result Y FactFault = Err e in r) ≡ Ok y → ⊥
err_not_ok e y h = cc

one_ok : {Y : Type 0} (x y : Y) → (let r : Result Y FactFault = Ok x in r) ≡ Ok y → x ≡ y
one_ok x y h = cc

pub pair_ok : (total : ℕ) (last : Option JobId) (bytes : List ℕ) (x : JobId × List ℕ) → pair_read total last bytes ≡ Ok x
    → IsPairRead last bytes x
pair_ok total last bytes x h =
    elim (cases_lt (length bytes) 64) [
      | inl short ↦ absurd (err_not_ok _ x (sym (pair_cut total last bytes short) ∙ h))
      | inr long ↦ by long (is_above ids_cmp last (pair_in (take 64 bytes))) refl
    ]
  where
    by : 64 ≤ length bytes → (b : Bool) → is_above ids_cmp last (pair_in (take 64 bytes)) ≡ b → IsPairRead last bytes x
    by long true high = record { long = long; read = one_ok _ _ (sym h ∙ pair_high total last bytes long high); high = high }
    by long false low = absurd (err_not_ok _ x (sym (pair_low total last bytes long low) ∙ h))

pub record ArePairsRead (n : ℕ) (last : Option JobId) (bytes : List ℕ) (xs : List JobId) : Type 0 where
  pub read : xs ≡ first_pairs n bytes
  pub rise : RisesBehind ids_cmp last (first_pairs n bytes)
  pub whole : n * 64 ≤ length bytes

pub pairs_ok : (n total : ℕ) (last : Option JobId) (bytes : List ℕ) (x : List JobId × List ℕ) → list_read (pair_read total) n last bytes ≡ Ok x
    → ArePairsRead n last bytes x.0
unfolding list_read first_pairs
pairs_ok zero total last bytes x h = record { read = ap (λ (y : List JobId × List ℕ). y.0) (sym (one_ok _ _ h)); rise = tt; whole = omega arith }
pairs_ok (suc n) total last bytes x h =
    let one =
    bind_ok (pair_read total last bytes)
    (λ first. list_read (pair_read total) n (Some first.0) first.1 >>= λ others. Ok (first.0 ∷ others.0, others.1)) x h in
    let first = pair_ok total last bytes one.0 one.1 in
    let more =
    bind_ok (list_read (pair_read total) n (Some one.0.0) one.0.1) (λ others. Ok (one.0.0 ∷ others.0, others.1)) x one.2 in
    let others = pairs_ok n total (Some one.0.0) one.0.1 more.0 more.1 in
    let own : one.0.0 ≡ pair_in (take 64 bytes) = ap (λ (y : JobId × List ℕ). y.0) first.read in
    let rest : one.0.1 ≡ drop 64 bytes = ap (λ (y : JobId × List ℕ). y.1) first.read in
    record {
      read =
          ap (λ (y : List JobId × List ℕ). y.0) (sym (one_ok _ _ more.2))
          ∙ ap (λ (i : JobId). i ∷ more.0.0) own
          ∙ ap (λ (l : List JobId). pair_in (take 64 bytes) ∷ l) (others.read ∙ ap (first_pairs n) rest);
      rise = (
        above_of ids_cmp last (pair_in (take 64 bytes)) first.high,
        subst (λ (i : JobId). RisesBehind ids_cmp (Some i) (first_pairs n (drop 64 bytes))) own
            (subst (λ (l : List ℕ). RisesBehind ids_cmp (Some one.0.0) (first_pairs n l)) rest others.rise),
      );
      whole = omega (arith, others.whole, ap length rest, length-drop 64 bytes, first.long);
    }

pub pairs_step : (count i : ℕ) (bytes : List ℕ) → i < count
    → first_pairs (count - i) bytes ≡ pair_in (take 64 bytes) ∷ first_pairs (count - (i + 1)) (drop 64 bytes)
unfolding first_pairs
pairs_step count i bytes lt = let k : count - i ≡ suc (count - (i + 1)) = omega arith in ap (λ (n : ℕ). first_pairs n bytes) k

-- one more was pushed
pub pairs_pushed : (count i : ℕ) (rest behind : List ℕ) (jobs pushed whole : List JobId) (pair : JobId) → i < count
    → pair ≡ pair_in (take 64 rest) → behind ≡ drop 64 rest → jobs ++ first_pairs (count - i) rest ≡ whole → pushed ≡ jobs ++ pair ∷ []
    → pushed ++ first_pairs (count - (i + 1)) behind ≡ whole
pairs_pushed count i rest behind jobs pushed whole pair lt pair_is behind_is so_far is =
    ap (λ (l : List JobId). l ++ first_pairs (count - (i + 1)) behind) is
    ∙ append_assoc jobs (pair ∷ []) (first_pairs (count - (i + 1)) behind)
    ∙ ap (λ (p : JobId). jobs ++ p ∷ first_pairs (count - (i + 1)) behind) pair_is
    ∙ ap (λ (l : List ℕ). jobs ++ pair_in (take 64 rest) ∷ first_pairs (count - (i + 1)) l) behind_is
    ∙ ap (λ (l : List JobId). jobs ++ l) (sym (pairs_step count i rest lt)) ∙ so_far

pub pairs_pushed_all : (count i : ℕ) (rest : List ℕ) (jobs whole : List JobId) → count ≤ i → jobs ++ first_pairs (count - i) rest ≡ whole
    → jobs ≡ whole
unfolding first_pairs
pairs_pushed_all count i rest jobs whole le so_far =
    let none : count - i ≡ 0 = omega arith in
    sym (append-nil jobs) ∙ ap (λ (n : ℕ). jobs ++ first_pairs n rest) (sym none) ∙ so_far

-- ---- a file without them

pub no_pairs : (total : ℕ) (bytes : List ℕ) → retired_read total OfFacts bytes ≡ Ok (first_pairs 0 bytes, bytes)
unfolding first_pairs retired_read
no_pairs total bytes = refl

pub no_listing : (bytes : List ℕ) → IsListing 0 bytes
unfolding first_pairs
no_listing bytes = record { whole = omega arith; rise = tt }
