-- One receipt more.
use Rattle.std.proofs.Common.{◌≡◌, ℕ, zero, suc, ◌+◌, ◌<◌, ◌≤◌, ◌==◌, Bool, true, false, List, [], ◌∷◌, ◌++◌, length, set}
use Rattle.std.proofs.Common.{replicate, slice_index_or, sym, refl, ap, subst, ◌∙◌, arith, length-set, All, if◌then◌else◌, take}
use Rattle.std.proofs.Common.{drop, get_or, map, ap₂, take-append-drop, drop-cons}
use Rattle.std.specs.Global.{Vec}
use Rattle.std.specs.List.{AllPairs}
use Rattle.std.proofs.lemmas.Bool.Decides.{nat_tests}
use Rattle.std.proofs.lemmas.Grind.{common_steps}
use Rattle.std.proofs.lemmas.List.{map-append, take_more}
use Rattle.std.proofs.lemmas.List.Elements.{All-cons, All-head, All-nil, All-push, All-tail}
use Rattle.std.proofs.lemmas.List.Quantifiers.{all_pairs_push}
use Rattle.std.proofs.lemmas.List.Sums.{sum_by-append}
use Rattle.std.proofs.lemmas.Option.{slice_get_within}
use Rattle.live_nodes.specs.declared.event.Event.{Event}
use Rattle.live_nodes.specs.declared.receipt.Receipt.{Receipt}
use Rattle.live_nodes.specs.Accounts.{AccountFor, AreFit, IsBefore, IsFirstMissing, IsFirstUnfit, IsShown, times, times_all}
use Rattle.live_nodes.specs.inside.Marks.{AreSeen, mark}

-- ---- lists that end with one more

all_left : {X : Type 0} (P : X → Type 0) (xs ys : List X) → All P (xs ++ ys) → All P xs
all_left P [] ys all = All-nil P
all_left P (x ∷ xs) ys all = All-cons P x xs (All-head P x (xs ++ ys) all) (all_left P xs ys (All-tail P x (xs ++ ys) all))

all_last : {X : Type 0} (P : X → Type 0) (xs : List X) (x : X) → All P (xs ++ x ∷ []) → P x
all_last P [] x all = All-head P x [] all
all_last P (y ∷ xs) x all = all_last P xs x (All-tail P y (xs ++ x ∷ []) all)

at_last : {X : Type 0} (xs : List X) (x d : X) → slice_index_or (xs ++ x ∷ []) (length xs) d ≡ x
at_last [] x d = refl
at_last (y ∷ xs) x d = at_last xs x d

before_last : {X : Type 0} (xs : List X) (x : X) (k : ℕ) (d : X) → k < length xs → slice_index_or (xs ++ x ∷ []) k d ≡ slice_index_or xs k d
before_last [] x k d low = absurd (omega (arith, low))
before_last (y ∷ xs) x zero d low = refl
before_last (y ∷ xs) x (suc k) d low = before_last xs x k d (omega (arith, low))

longer : {X : Type 0} (xs : List X) (x : X) → length (xs ++ x ∷ []) ≡ suc (length xs)
longer [] x = refl
longer (y ∷ xs) x = ap suc (longer xs x)

all_below_last : (rs : List Receipt) (r : Receipt) → AllPairs IsBefore (rs ++ r ∷ []) → All (λ x. x.number < r.number) rs
all_below_last rs r pairs =
    λ k d low.
    let last : IsBefore (slice_index_or (rs ++ r ∷ []) k d) (slice_index_or (rs ++ r ∷ []) (length rs) d) =
    pairs k (length rs) d low (let more = longer rs r in omega (arith, more)) in
    subst (λ (x : Receipt). IsBefore x r) (before_last rs r k d low)
    (subst (λ (y : Receipt). IsBefore (slice_index_or (rs ++ r ∷ []) k d) y) (at_last rs r d) last)

-- a list, cut at one of its items
pub cut : {X : Type 0} (xs : List X) (i : ℕ) (x : X) → i < length xs → x ≡ get_or xs i x → xs ≡ take i xs ++ x ∷ drop (suc i) xs
cut {X} xs i x low is =
    sym (take-append-drop i xs) ∙ ap (λ (ys : List X). take i xs ++ ys)
    (drop-cons xs i x low ∙ ap (λ (y : X). y ∷ drop (suc i) xs) (sym is))

-- ---- marks

pub mark-set : (seen : List Bool) (n k : ℕ) → n < length seen → slice_index_or seen n false ≡ false
    → mark (set seen n true) k ≡ mark seen k + (if n == k then 1 else 0)
mark-set [] n k low free = absurd (omega arith)
mark-set (b ∷ seen) zero zero low free = rw free refl
mark-set (b ∷ seen) zero (suc k) low free = grind (arith, nat_tests)
mark-set (b ∷ seen) (suc n) zero low free = grind (arith, nat_tests)
mark-set (b ∷ seen) (suc n) (suc k) low free =
    let h = mark-set seen n k (omega arith) free in grind (arith, nat_tests)

at_most_one : (b : Bool) → (if b then 1 else 0) ≤ 1
at_most_one true = omega arith
at_most_one false = omega arith

unmarked : (n k : ℕ) → mark (replicate n false) k ≡ 0
unmarked zero k = refl
unmarked (suc n) zero = refl
unmarked (suc n) (suc k) = unmarked n k

same_number : (n : ℕ) → ◌≡◌ {A = ℕ} (if n == n then 1 else 0) 1
same_number n = grind (arith, nat_tests)

-- ---- one receipt more, and one list more

times_more : (k : ℕ) (earlier : List (List Receipt)) (rs : List Receipt) (r : Receipt)
    → times_all k (earlier ++ (rs ++ r ∷ []) ∷ []) ≡ times_all k (earlier ++ rs ∷ []) + (if r.number == k then 1 else 0)
times_more k earlier rs r =
    omega (
      arith,
      sum_by-append (times k) earlier ((rs ++ r ∷ []) ∷ []),
      sum_by-append (times k) earlier (rs ∷ []),
      sum_by-append (λ (x : Receipt). if x.number == k then 1 else 0) rs (r ∷ []),
    )

times_empty : (k : ℕ) (earlier : List (List Receipt)) → times_all k (earlier ++ [] ∷ []) ≡ times_all k earlier
times_empty k earlier = omega (arith, sum_by-append (times k) earlier ([] ∷ []))

module _ (history : List Event) where
  abbrev IsListShown : List Receipt → Type 0
  IsListShown rs = All (IsShown history) rs

  pub seen_none : (seen : List Bool) → seen ≡ replicate (length history) false → length seen ≡ length history → AreSeen history [] seen
  seen_none seen is each =
      record {
        fit = record { shown = All-nil IsListShown; rising = All-nil (AllPairs IsBefore); once = λ k. omega arith };
        marked = λ k. ap (λ s. mark s k) is ∙ unmarked (length history) k;
        each = each;
      }

  -- what is known after some receipts of a list, of which the next has to be at least `least`
  pub record Goes (rs : List Receipt) (least : ℕ) (old new : List Bool) : Type 0 where
    pub seen : (earlier : List (List Receipt)) → AreSeen history earlier old → AreSeen history (earlier ++ rs ∷ []) new
    pub below : All (λ r. r.number < least) rs
    pub high : (n : ℕ) → n < least → All (λ r. r.number < n) rs → ⊥
    pub each : length new ≡ length history

  pub goes_none : (seen : List Bool) → length seen ≡ length history → Goes [] 0 seen seen
  goes_none seen each =
      record {
        seen = λ earlier is.
            record {
              fit = record {
                shown = All-push IsListShown earlier [] is.fit.shown (All-nil (IsShown history));
                rising = All-push (AllPairs IsBefore) earlier [] is.fit.rising (λ i j d less low. absurd (omega (arith, low)));
                once = λ k. let once = is.fit.once k in omega (arith, times_empty k earlier, once);
              };
              marked = λ k. is.marked k ∙ sym (times_empty k earlier);
              each = each;
            };
        below = All-nil (λ (r : Receipt). r.number < 0);
        high = λ n low all. absurd (omega (arith, low));
        each = each;
      }

  seen_more : (earlier : List (List Receipt)) (rs : List Receipt) (r : Receipt) (seen : List Bool)
      → AreSeen history (earlier ++ rs ∷ []) seen
      → IsShown history r → All (λ x. x.number < r.number) rs → slice_index_or seen r.number false ≡ false
      → AreSeen history (earlier ++ (rs ++ r ∷ []) ∷ []) (set seen r.number true)
  seen_more earlier rs r seen is shown below free =
      let within : r.number < length seen = let w = slice_get_within history r.number r.event shown in let e = is.each in omega
      (arith, w, e) in
      let marked : (k : ℕ) → mark (set seen r.number true) k ≡ times_all k (earlier ++ (rs ++ r ∷ []) ∷ []) = λ k. mark-set seen
      r.number k within free ∙ ap (λ n. n + (if r.number == k then 1 else 0)) (is.marked k)
      ∙ sym (times_more k earlier rs r) in
      record {
        fit = record {
          shown = All-push IsListShown earlier (rs ++ r ∷ []) (all_left IsListShown earlier (rs ∷ []) is.fit.shown)
              (All-push (IsShown history) rs r (all_last IsListShown earlier rs is.fit.shown) shown);
          rising = All-push (AllPairs IsBefore) earlier (rs ++ r ∷ []) (all_left (AllPairs IsBefore) earlier (rs ∷ []) is.fit.rising)
              (all_pairs_push IsBefore rs r (all_last (AllPairs IsBefore) earlier rs is.fit.rising) below);
          once = λ k. let one = at_most_one (slice_index_or (set seen r.number true) k false) in let m = marked k in omega (arith, one, m);
        };
        marked = marked;
        each = length-set seen _ _ ∙ is.each;
      }

  all_lower : (rs : List Receipt) (least number : ℕ) → least ≤ number → All (λ r. r.number < least) rs → All (λ r. r.number < number) rs
  all_lower rs least number up all = λ k d low. let b = all k d low in omega (arith, b, up)

  pub goes_more : (rs : List Receipt) (r : Receipt) (least : ℕ) (old new : List Bool) → Goes rs least old new → IsShown history r
      → least ≤ r.number → slice_index_or new r.number false ≡ false → Goes (rs ++ r ∷ []) (r.number + 1) old (set new r.number true)
  goes_more rs r least old new is shown up free =
      record {
        seen = λ earlier before. seen_more earlier rs r new (is.seen earlier before) shown (all_lower rs least r.number up is.below) free;
        below = All-push (λ (x : Receipt). x.number < r.number + 1) rs r
            (all_lower rs least (r.number + 1) (omega (arith, up)) is.below) (omega arith);
        high = λ n low all. let last = all_last (λ (x : Receipt). x.number < n) rs r all in absurd (omega (arith, low, last));
        each = length-set new _ _ ∙ is.each;
      }

  -- ---- a receipt that does not fit

  module _ (earlier : List (List Receipt)) (rs : List Receipt) (r : Receipt) where
    abbrev WithIt : Type 0
    WithIt = AreFit history (earlier ++ (rs ++ r ∷ []) ∷ [])

    pub unshown : ¬ IsShown history r → WithIt → ⊥
    unshown other fit = other (all_last (IsShown history) rs r (all_last IsListShown earlier (rs ++ r ∷ []) fit.shown))

    pub not_above : (All (λ x. x.number < r.number) rs → ⊥) → WithIt → ⊥
    not_above high fit = high (all_below_last rs r (all_last (AllPairs IsBefore) earlier (rs ++ r ∷ []) fit.rising))

    pub twice : (seen : List Bool) → AreSeen history (earlier ++ rs ∷ []) seen → slice_index_or seen r.number false ≡ true → WithIt → ⊥
    twice seen is marked fit =
        let once = fit.once r.number in
        let one : mark seen r.number ≡ 1 = ap (λ (b : Bool). if b then 1 else 0) marked in
        let m = is.marked r.number in
        let more = times_more r.number earlier rs r in
        let same = same_number r.number in
        absurd (omega (arith, once, one, m, more, same))

  -- the receipt at a place is the first that does not fit
  pub first_unfit : (earlier later : List (List Receipt)) (all : List Receipt) (i : ℕ) (r : Receipt)
      → all ≡ take i all ++ r ∷ drop (suc i) all
      → AreFit history (earlier ++ take i all ∷ []) → (AreFit history (earlier ++ (take i all ++ r ∷ []) ∷ []) → ⊥)
      → IsFirstUnfit history (earlier ++ all ∷ later) r.number
  first_unfit earlier later all i r parts fit unfit =
      record {
        earlier = earlier;
        before = take i all;
        receipt = r;
        behind = drop (suc i) all;
        later = later;
        parts = ap (λ rs. earlier ++ rs ∷ later) parts;
        fit = fit;
        unfit = unfit;
        number = refl;
      }

-- ---- all lists

no_receipt : (b : Bool) (n : ℕ) → b ≡ false → (if b then 1 else 0) ≡ n → n ≡ 0
no_receipt true n free is = cc
no_receipt false n free is = sym is

one_receipt : (b : Bool) (n : ℕ) → b ≡ true → (if b then 1 else 0) ≡ n → n ≡ 1
one_receipt true n marked is = sym is
one_receipt false n marked is = cc

module _ (history : List Event) (lists : List (List Receipt)) (seen : List Bool) (are : AreSeen history lists seen) where
  -- all numbers are marked
  pub accounts : ((k : ℕ) → k < length seen → slice_index_or seen k false ≡ true) → AccountFor history lists
  accounts all =
      record {
        fit = are.fit;
        each = λ k below. one_receipt (slice_index_or seen k false) _ (all k (let e = are.each in omega (arith, below, e))) (are.marked k);
      }

  -- the first number that is not marked
  pub first_missing : (n : ℕ) → n < length seen → slice_index_or seen n false ≡ false
      → ((k : ℕ) → k < n → slice_index_or seen k false ≡ true) → IsFirstMissing history lists n
  first_missing n within free first =
      record {
        fit = are.fit;
        event = let e = are.each in omega (arith, within, e);
        missing = no_receipt (slice_index_or seen n false) _ free (are.marked n);
        first = λ k below. one_receipt (slice_index_or seen k false) _ (first k below) (are.marked k);
      }

pub written : (n : ℕ) (new old : List Bool) → length new ≡ n → length old ≡ n → take n (new ++ drop (length new) old) ≡ new
written n new old e f = grind (arith, common_steps)

-- ---- lists of receipts, each beside whose it is

module _ (T : Type 0) where
  abbrev pub Beside : Type 0
  Beside = T × Vec Receipt

  abbrev pub receipts_in : List Beside → List (List Receipt)
  receipts_in lists = map (λ list. list.1.items) lists

  pub one_list_more : (lists : List Beside) (i : ℕ) (list : Beside) → i < length lists → list ≡ get_or lists i list
      → receipts_in (take (i + 1) lists) ≡ receipts_in (take i lists) ++ list.1.items ∷ []
  one_list_more lists i list low is =
      ap receipts_in (take_more lists i list low ∙ ap (λ (x : Beside). take i lists ++ x ∷ []) (sym is))
      ∙ map-append (λ (x : Beside). x.1.items) (take i lists) (list ∷ [])

  pub cut_lists : (lists : List Beside) (i : ℕ) (list : Beside) → i < length lists → list ≡ get_or lists i list
      → receipts_in lists ≡ receipts_in (take i lists) ++ list.1.items ∷ receipts_in (drop (suc i) lists)
  cut_lists lists i list low is =
      ap receipts_in (cut lists i list low is) ∙ map-append (λ (x : Beside). x.1.items) (take i lists) (list ∷ drop (suc i) lists)

module _ (history : List Event) where
  pub seen_list : (before after : List (List Receipt)) (rs items : List Receipt) (seen now : List Bool)
      → after ≡ before ++ items ∷ [] → rs ≡ items
      → now ≡ seen → AreSeen history (before ++ rs ∷ []) seen → AreSeen history after now
  seen_list before after rs items seen now more same kept are =
      subst (λ (ls : List (List Receipt)). AreSeen history ls now) (sym more)
      (subst (λ (xs : List Receipt). AreSeen history (before ++ xs ∷ []) now) same
      (subst (AreSeen history (before ++ rs ∷ [])) (sym kept) are))

  pub unfit_list : (before later all : List (List Receipt)) (rs items : List Receipt) (n : ℕ) → all ≡ before ++ items ∷ later → rs ≡ items
      → IsFirstUnfit history (before ++ rs ∷ later) n → IsFirstUnfit history all n
  unfit_list before later all rs items n parts same unfit =
      subst (λ (ls : List (List Receipt)). IsFirstUnfit history ls n) (sym parts)
      (subst (λ (xs : List Receipt). IsFirstUnfit history (before ++ xs ∷ later) n) same unfit)

-- ---- lists that are one

pub same_lists : {X : Type 0} (a b : List X) → length a ≡ length b
    → ((k : ℕ) (d : X) → k < length a → slice_index_or a k d ≡ slice_index_or b k d)
    → a ≡ b
same_lists [] [] len each = refl
same_lists [] (y ∷ b) len each = absurd (omega (arith, len))
same_lists (x ∷ a) [] len each = absurd (omega (arith, len))
same_lists (x ∷ a) (y ∷ b) len each =
    ap₂ (λ z zs. z ∷ zs) (each 0 x (omega arith)) (same_lists a b (omega (arith, len)) (λ k d low. each (suc k) d (omega (arith, low))))
