-- A program has one first fault, and none where it means something.
use Rattle.std.proofs.Common.{ℕ, zero, suc, ◌<◌, ◌≤◌, ◌≡◌, ◌≢◌, ◌⊎◌, inl, inr, true, false, Ok, Err, List, length, slice_get}
use Rattle.std.proofs.Common.{slice_index, sym, ◌∙◌, ap, refl, subst, arith}
use Rattle.std.specs.List.{list_any}
use Rattle.std.proofs.lemmas.Bool.{cases_lt, false≢true}
use Rattle.std.proofs.lemmas.Option.{same_Some}
use Rattle.std.proofs.lemmas.Grind.{same_number_lists}
use Rattle.pipe_tree.specs.declared.tree.Tree.{Tree}
use Rattle.pipe_tree.specs.Tree.{Declaration}
use Rattle.pipe_tree.specs.Content.{content}
use Rattle.pipe_checks.specs.declared.symbol.Symbol.{Symbol}
use Rattle.pipe_checks.specs.declared.fault.Violation.{Violation}
use Rattle.pipe_checks.specs.declared.fault.Violation.TheVariants as violation
use Rattle.pipe_checks.specs.declared.fault.CheckFault.{CheckFault}
use Rattle.pipe_checks.specs.declared.fault.CheckFault.TheVariants.{Unknown, Twice, Kind, BadKernel, BadLiteral, NoResult, Cycle, Memory}
use Rattle.pipe_checks.specs.StageLinks.{StageLinks}
use Rattle.pipe_checks.specs.Names.{symbols_declared_by_items}
use Rattle.pipe_checks.specs.Accesses.{graph_of}
use Rattle.pipe_checks.specs.Graph.{IsShortestFrom, IsShortestCycle}
use Rattle.pipe_checks.specs.Uses.{places_of, IsFirstUnserved}
use Rattle.pipe_checks.specs.Twice.{item_variables}
use Rattle.pipe_checks.specs.Checking.{NoneTwice, IsFirstTwice, IsFirstWrong, is_result, IsNamed, IsFault, IsCheckedOf}
use Rattle.pipe_checks.specs.declared.checked.Checked.{Checked}
use Rattle.pipe_checks.specs.inside.Search.{fault_of}
use Rattle.pipe_checks.proofs.Judging.{served_or_not, one_unserved}
use Rattle.pipe_checks.proofs.Rising.{no_ranked_cycle}

-- ---- each fault by itself

same_from : (g : List StageLinks) (s : ℕ) (c d : List ℕ) → IsShortestFrom g s c → IsShortestFrom g s d → c ≡ d
same_from g s c d h k = same_number_lists c d long (λ i l. agree (length c) i l l)
  where
    long : length c ≡ length d
    long = omega (arith, h.shortest d k.cycle k.start, k.shortest c h.cycle h.start)

    agree : (n i : ℕ) → i < n → i < length c → slice_index c i ≡ slice_index d i
    agree zero i below l = absurd (omega arith)
    agree (suc n) i below l =
        let before : (j : ℕ) → j < i → slice_index c j ≡ slice_index d j = λ j less. agree n j (omega arith) (omega arith) in
        let low = h.first d k.cycle k.start (sym long) i l (λ j less. sym (before j less)) in
        let high = k.first c h.cycle h.start long i (omega (arith, long)) before in
        omega (arith, low, high)

same_cycle : (g : List StageLinks) (c d : List ℕ) → IsShortestCycle g c → IsShortestCycle g d → c ≡ d
same_cycle g c d h k =
    let start : slice_index c 0 ≡ slice_index d 0 = omega (arith, h.least d k.from_start.cycle, k.least c h.from_start.cycle) in
    same_from g (slice_index d 0) c d (subst (λ s. IsShortestFrom g s c) start h.from_start) k.from_start

same_twice : (names : List Symbol) (ds : List Declaration) (m n : ℕ) → IsFirstTwice names ds m → IsFirstTwice names ds n → m ≡ n
same_twice names ds m n h k = by_order (cases_lt m n) (cases_lt n m)
  where
    by_order : (m < n) ⊎ (n ≤ m) → (n < m) ⊎ (m ≤ n) → m ≡ n
    by_order (inl l) q = absurd (k.first m h.item l h.there h.twice)
    by_order (inr l) (inl p) = absurd (h.first n k.item p k.there k.twice)
    by_order (inr l) (inr p) = omega arith

same_wrong : (names : List Symbol) (ds : List Declaration) (v w : Violation) (m n : ℕ) → IsFirstWrong names ds v m
    → IsFirstWrong names ds w n → (m ≡ n) × (v ≡ w)
same_wrong names ds v w m n h k = by_order (cases_lt m n) (cases_lt n m)
  where
    by_order : (m < n) ⊎ (n ≤ m) → (n < m) ⊎ (m ≤ n) → (m ≡ n) × (v ≡ w)
    by_order (inl l) q = absurd (served_or_not names (item_variables h.item) (places_of h.item) v (k.first m h.item l h.there) h.is)
    by_order (inr l) (inl p) = absurd (served_or_not names (item_variables k.item) (places_of k.item) w (h.first n k.item p k.there) k.is)
    by_order (inr l) (inr p) = (same, both)
      where
        same : m ≡ n
        same = omega arith

        item : h.item ≡ k.item
        item = same_Some h.item k.item (sym h.there ∙ ap (slice_get ds) same ∙ k.there)

        both : v ≡ w
        both =
            let mine = subst (λ d. IsFirstUnserved names (item_variables d) (places_of d) v) item h.is in
            one_unserved names (item_variables k.item) (places_of k.item) v w mine k.is

-- ---- which of them it is

data Told (ds : List Declaration) (f : CheckFault) : Type 0 where
  TwiceTold : (n : ℕ) → IsFirstTwice (symbols_declared_by_items ds) ds n → f ≡ Twice n → Told ds f
  WrongTold : (w : Violation) (n : ℕ) → NoneTwice (symbols_declared_by_items ds) ds → IsFirstWrong (symbols_declared_by_items ds) ds w n → f ≡ fault_of w n
      → Told ds f
  ResultTold : IsNamed ds → list_any is_result ds ≡ false → f ≡ NoResult → Told ds f
  CycleTold : (c : List ℕ) → IsNamed ds → list_any is_result ds ≡ true → IsShortestCycle (graph_of ds) c → f ≡ Cycle c → Told ds f

told : (ds : List Declaration) (f : CheckFault) → IsFault ds f → f ≢ Memory → Told ds f
told ds (Twice n) h m = TwiceTold n h refl
told ds (Unknown n) h m = WrongTold violation.Unknown n h.0 h.1 refl
told ds (Kind n) h m = WrongTold violation.Kind n h.0 h.1 refl
told ds (BadKernel n) h m = WrongTold violation.BadKernel n h.0 h.1 refl
told ds (BadLiteral n) h m = WrongTold violation.BadLiteral n h.0 h.1 refl
told ds NoResult h m = ResultTold h.0 h.1 refl
told ds (Cycle c) h m = CycleTold c h.0 h.1 h.2 refl
told ds Memory h m = absurd (m refl)

not_twice : (ds : List Declaration) (n : ℕ) → NoneTwice (symbols_declared_by_items ds) ds → IsFirstTwice (symbols_declared_by_items ds) ds n → ⊥
not_twice ds n none h = none n h.item h.there h.twice

not_wrong : (ds : List Declaration) (w : Violation) (n : ℕ) → IsNamed ds → IsFirstWrong (symbols_declared_by_items ds) ds w n → ⊥
not_wrong ds w n named h = served_or_not (symbols_declared_by_items ds) (item_variables h.item) (places_of h.item) w (named.good n h.item h.there) h.is

same_told : (ds : List Declaration) (a b : CheckFault) → Told ds a → Told ds b → a ≡ b
same_told ds a b (TwiceTold n h e) (TwiceTold m k f) = e ∙ ap Twice (same_twice (symbols_declared_by_items ds) ds n m h k) ∙ sym f
same_told ds a b (TwiceTold n h e) (WrongTold w m once k f) = absurd (not_twice ds n once h)
same_told ds a b (TwiceTold n h e) (ResultTold named k f) = absurd (not_twice ds n named.once h)
same_told ds a b (TwiceTold n h e) (CycleTold c named k r f) = absurd (not_twice ds n named.once h)
same_told ds a b (WrongTold v n once h e) (TwiceTold m k f) = absurd (not_twice ds m once k)
same_told ds a b (WrongTold v n once h e) (WrongTold w m again k f) =
    let s = same_wrong (symbols_declared_by_items ds) ds v w n m h k in
    e ∙ ap (fault_of v) s.0 ∙ ap (λ x. fault_of x m) s.1 ∙ sym f
same_told ds a b (WrongTold v n once h e) (ResultTold named k f) = absurd (not_wrong ds v n named h)
same_told ds a b (WrongTold v n once h e) (CycleTold c named k r f) = absurd (not_wrong ds v n named h)
same_told ds a b (ResultTold named h e) (TwiceTold m k f) = absurd (not_twice ds m named.once k)
same_told ds a b (ResultTold named h e) (WrongTold w m once k f) = absurd (not_wrong ds w m named k)
same_told ds a b (ResultTold named h e) (ResultTold again k f) = e ∙ sym f
same_told ds a b (ResultTold named h e) (CycleTold c again k r f) = absurd (false≢true (sym h ∙ k))
same_told ds a b (CycleTold c named h r e) (TwiceTold m k f) = absurd (not_twice ds m named.once k)
same_told ds a b (CycleTold c named h r e) (WrongTold w m once k f) = absurd (not_wrong ds w m named k)
same_told ds a b (CycleTold c named h r e) (ResultTold again k f) = absurd (false≢true (sym k ∙ h))
same_told ds a b (CycleTold c named h r e) (CycleTold d again k q f) = e ∙ ap Cycle (same_cycle (graph_of ds) c d r q) ∙ sym f

pub one_fault : (ds : List Declaration) (a b : CheckFault) → IsFault ds a → IsFault ds b → a ≢ Memory → b ≢ Memory → a ≡ b
one_fault ds a b h k n m = same_told ds a b (told ds a h n) (told ds b k m)

pub no_fault : (tree : Tree) (checked : Checked) (f : CheckFault) → IsCheckedOf tree checked → IsFault (content tree) f → f ≡ Memory
no_fault tree checked (Twice n) c h = absurd (not_twice (content tree) n c.named.once h)
no_fault tree checked (Unknown n) c h = absurd (not_wrong (content tree) violation.Unknown n c.named h.1)
no_fault tree checked (Kind n) c h = absurd (not_wrong (content tree) violation.Kind n c.named h.1)
no_fault tree checked (BadKernel n) c h = absurd (not_wrong (content tree) violation.BadKernel n c.named h.1)
no_fault tree checked (BadLiteral n) c h = absurd (not_wrong (content tree) violation.BadLiteral n c.named h.1)
no_fault tree checked NoResult c h = absurd (false≢true (sym h.1 ∙ c.result))
no_fault tree checked (Cycle d) c h = absurd (no_ranked_cycle (content tree) _ d c.ranks.ranked h.2.from_start.cycle)
no_fault tree checked Memory c h = refl
