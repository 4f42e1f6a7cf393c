-- The first read of a case, the first case of a stage and the first stage that is wrong, where a loop stops.
use Rattle.std.proofs.Common.{ℕ, zero, suc, ℤ, ◌<◌, ◌≤◌, ◌≡◌, ◌⊎◌, ◌↔◌, inl, inr, List, [], ◌∷◌, ◌++◌, Some, Result, Ok, Err, map}
use Rattle.std.proofs.Common.{length, get_or, slice_get, refl, sym, ◌∙◌, ap, subst, arith}
use Rattle.std.specs.Option.{option_map}
use Rattle.std.proofs.lemmas.Bool.{cases_lt}
use Rattle.std.proofs.lemmas.List.{length_push, length-map}
use Rattle.std.proofs.lemmas.Option.{none-some, same_Some, slice_get_within, slice_get-get_or, slice_get-map}
use Rattle.domains.specs.Area.{HoldsPoint}
use Rattle.domains.specs.declared.area.Area.{Area}
use Rattle.pipe_tree.specs.declared.tree.Case.{Case}
use Rattle.pipe_tree.specs.Tree.{Declaration, branch, branches}
use Rattle.pipe_checks.specs.declared.symbol.Symbol.{Symbol}
use Rattle.pipe_bounds.specs.declared.fault.Axis.{Axis}
use Rattle.pipe_bounds.specs.declared.fault.Axis.TheVariants.{Rows, Columns}
use Rattle.pipe_bounds.specs.declared.fault.BoundFault.{BoundFault}
use Rattle.pipe_bounds.specs.declared.fault.BoundFault.TheVariants.{Memory}
use Rattle.pipe_bounds.specs.declared.params.Setting.{Setting}
use Rattle.pipe_checks.specs.declared.access.Access.{Access}
use Rattle.pipe_bounds.specs.InBounds.{ReadCase, IsInBox, Stays, AllStay, StageStays, StaysAt, IsTakenAlong, Leaves, TellsRead}
use Rattle.pipe_bounds.specs.InBounds.{IsFirstRead, IsFirstCase, IsFirstStage, stage_cases, branch_case, whole_case}
use Rattle.pipe_bounds.specs.inside.Taken.{AnswersReads, AnswersCases}
use Rattle.domains.proofs.Places.{slice_get-end}

-- ---- where a loop stops

pub first_read : (areas : List Area) (Box : ℤ → ℤ → Type 0) (accesses : List Access) (k n m : ℕ) (access : Access) (f : BoundFault)
    → slice_get accesses m ≡ Some access → ((i : ℕ) (y : Access) → i < m → slice_get accesses i ≡ Some y → Stays areas Box y)
    → (f ≡ Memory) ⊎ TellsRead areas Box access k n m f → (f ≡ Memory) ⊎ IsFirstRead areas Box accesses k n f
first_read areas Box accesses k n m access f there before (inl e) = inl e
first_read areas Box accesses k n m access f there before (inr tells) =
    inr (record { number = m; access = access; there = there; before = before; tells = tells })

pub first_case : (ss : List Setting) (areas : List Area) (domain : Area) (cases : List ReadCase) (k n : ℕ) (x : ReadCase) (f : BoundFault)
    → slice_get cases n ≡ Some x
    → ((i : ℕ) (y : ReadCase) → i < n → slice_get cases i ≡ Some y → AllStay areas (IsInBox ss domain y) y.accesses)
    → (f ≡ Memory) ⊎ IsFirstRead areas (IsInBox ss domain x) x.accesses k n f → (f ≡ Memory) ⊎ IsFirstCase ss areas domain cases k f
first_case ss areas domain cases k n x f there before (inl e) = inl e
first_case ss areas domain cases k n x f there before (inr read) =
    inr (record { number = n; place = x; there = there; before = before; read = read })

pub first_stage : (ss : List Setting) (ds : List Declaration) (stages : List Symbol) (areas : List Area) (k : ℕ) (s : Symbol)
    (domain : Area) (f : BoundFault) → slice_get stages k ≡ Some s → slice_get areas k ≡ Some domain
    → ((i : ℕ) (y : Symbol) → i < k → slice_get stages i ≡ Some y → StaysAt ss ds stages areas i y)
    → (f ≡ Memory) ⊎ IsFirstCase ss areas domain (stage_cases ds stages s) k f → (f ≡ Memory) ⊎ IsFirstStage ss ds stages areas f
first_stage ss ds stages areas k s domain f there has before (inl e) = inl e
first_stage ss ds stages areas k s domain f there has before (inr case) =
    inr (record { number = k; stage = s; there = there; domain = domain; has = has; before = before; case = case })

-- ---- two boxes with the same points

taken_too : (P Q : ℤ → ℤ → Type 0) (access : Access) (axis : Axis) (v : ℤ) → ((r c : ℤ) → P r c → Q r c) → IsTakenAlong P access axis v
    → IsTakenAlong Q access axis v
taken_too P Q access Rows v h t = (t.0, t.1, h t.0 t.1 t.2, t.3)
taken_too P Q access Columns v h t = (t.0, t.1, h t.0 t.1 t.2, t.3)

leaves_too : (areas : List Area) (P Q : ℤ → ℤ → Type 0) (access : Access) (axis : Axis) (least greatest : ℤ) → ((r c : ℤ) → P r c ↔ Q r c)
    → Leaves areas P access axis least greatest → Leaves areas Q access axis least greatest
leaves_too areas P Q access axis least greatest same h = record {
  domain = h.domain;
  there = h.there;
  leaves = λ stays. h.leaves (λ v taken. stays v (taken_too P Q access axis v to taken));
  extremes = record {
    first = taken_too P Q access axis least to h.extremes.first;
    last = taken_too P Q access axis greatest to h.extremes.last;
    between = λ v taken. h.extremes.between v (taken_too Q P access axis v back taken);
  };
  rows = λ e v taken. h.rows e v (taken_too Q P access Rows v back taken);
}
  where
    to : (r c : ℤ) → P r c → Q r c
    to r c p = (same r c).0 p

    back : (r c : ℤ) → Q r c → P r c
    back r c q = (same r c).1 q

tells_too : (areas : List Area) (P Q : ℤ → ℤ → Type 0) (access : Access) (k n m : ℕ) (f : BoundFault) → ((r c : ℤ) → P r c ↔ Q r c)
    → TellsRead areas P access k n m f → TellsRead areas Q access k n m f
tells_too areas P Q access k n m f same h = record {
  axis = h.axis;
  least = h.least;
  greatest = h.greatest;
  told = h.told;
  leaves = leaves_too areas P Q access h.axis h.least h.greatest same h.leaves;
}

pub same_box : (areas : List Area) (P Q : ℤ → ℤ → Type 0) (accesses : List Access) (k n : ℕ) (answer : Result (Unit {0}) BoundFault)
    → ((r c : ℤ) → P r c ↔ Q r c) → AnswersReads areas P accesses k n answer → AnswersReads areas Q accesses k n answer
same_box areas P Q accesses k n (Ok u) same h = λ m access there r c q. h m access there r c ((same r c).1 q)
same_box areas P Q accesses k n (Err f) same (inl e) = inl e
same_box areas P Q accesses k n (Err f) same (inr h) = inr (record {
  number = h.number;
  access = h.access;
  there = h.there;
  before = λ m y less there r c q. h.before m y less there r c ((same r c).1 q);
  tells = tells_too areas P Q h.access k n h.number f same h.tells;
})

-- ---- cases one after the other

pub case_at : (stages : List Symbol) (row : List ℕ) (cases : List Case) (i : ℕ) (x : Case) → i < length cases → x ≡ get_or cases i x
    → slice_get (map (branch_case stages row) (branches cases)) i ≡ Some (branch_case stages row (branch x))
case_at stages row cases i x h e =
    slice_get-map (branch_case stages row) (branches cases) i
    ∙ ap (option_map (branch_case stages row))
    (slice_get-map branch cases i ∙ ap (option_map branch) (slice_get-get_or cases i x h ∙ ap Some (sym e)))

pub cases_end : (stages : List Symbol) (row : List ℕ) (cases : List Case)
    → length (map (branch_case stages row) (branches cases)) ≡ length cases
cases_end stages row cases = length-map (branches cases) (branch_case stages row) ∙ length-map cases branch

slice_get-append : {X : Type 0} (xs ys : List X) (i : ℕ) → i < length xs → slice_get (xs ++ ys) i ≡ slice_get xs i
slice_get-append [] ys i h = absurd (omega arith)
slice_get-append (x ∷ xs) ys zero h = refl
slice_get-append (x ∷ xs) ys (suc i) h = slice_get-append xs ys i (omega arith)

-- what is known of a front is known of the whole there
before_end : {X : Type 0} (P : X → Type 0) (xs ys : List X) (i : ℕ) (x : X) → ((n : ℕ) (y : X) → slice_get xs n ≡ Some y → P y)
    → i < length xs → slice_get (xs ++ ys) i ≡ Some x → P x
before_end P xs ys i x h less there = h i x (sym (slice_get-append xs ys i less) ∙ there)

-- one case more
pub cases_more : (ss : List Setting) (areas : List Area) (domain : Area) (xs : List ReadCase) (y : ReadCase) (k n : ℕ)
    (answer : Result (Unit {0}) BoundFault) → n ≡ length xs → StageStays ss areas domain xs
    → AnswersReads areas (IsInBox ss domain y) y.accesses k n answer → AnswersCases ss areas domain (xs ++ y ∷ []) k answer
cases_more ss areas domain xs y k n (Ok u) e before h = all
  where
    Good : ReadCase → Type 0
    Good x = AllStay areas (IsInBox ss domain x) x.accesses

    all : (i : ℕ) (x : ReadCase) → slice_get (xs ++ y ∷ []) i ≡ Some x → Good x
    all i x there = by_place (cases_lt i (length xs))
      where
        by_place : (i < length xs) ⊎ (length xs ≤ i) → Good x
        by_place (inl less) = before_end Good xs (y ∷ []) i x before less there
        by_place (inr more) =
            let last : i ≡ length xs = omega (arith, slice_get_within (xs ++ y ∷ []) i x there, length_push xs y) in
            subst Good (same_Some y x (sym (slice_get-end xs y) ∙ ap (slice_get (xs ++ y ∷ [])) (sym last) ∙ there)) h
cases_more ss areas domain xs y k n (Err f) e before (inl m) = inl m
cases_more ss areas domain xs y k n (Err f) e before (inr h) = inr (record {
  number = length xs;
  place = y;
  there = slice_get-end xs y;
  before =
      λ i x less there. before_end (λ (z : ReadCase). AllStay areas (IsInBox ss domain z) z.accesses) xs (y ∷ []) i x before less there;
  read = subst (λ i. IsFirstRead areas (IsInBox ss domain y) y.accesses k i f) e h;
})

-- the first case of a front is the first of the whole
front_first : (ss : List Setting) (areas : List Area) (domain : Area) (xs ys : List ReadCase) (k : ℕ) (f : BoundFault)
    → IsFirstCase ss areas domain xs k f → IsFirstCase ss areas domain (xs ++ ys) k f
front_first ss areas domain xs ys k f h =
    let within = slice_get_within xs h.number h.place h.there in
    record {
      number = h.number;
      place = h.place;
      there = slice_get-append xs ys h.number within ∙ h.there;
      before = λ i x less there. h.before i x less (sym (slice_get-append xs ys i (omega (arith, less, within))) ∙ there);
      read = h.read;
    }

pub front_fault : (ss : List Setting) (areas : List Area) (domain : Area) (xs ys : List ReadCase) (k : ℕ) (f : BoundFault)
    → (f ≡ Memory) ⊎ IsFirstCase ss areas domain xs k f → (f ≡ Memory) ⊎ IsFirstCase ss areas domain (xs ++ ys) k f
front_fault ss areas domain xs ys k f (inl e) = inl e
front_fault ss areas domain xs ys k f (inr h) = inr (front_first ss areas domain xs ys k f h)

-- what stands under no condition is judged over the whole domain
pub over_whole : (ss : List Setting) (areas : List Area) (domain : Area) (row : List ℕ) (accesses : List Access) (k n : ℕ)
    (answer : Result (Unit {0}) BoundFault) → AnswersReads areas (HoldsPoint domain) accesses k n answer
    → AnswersReads areas (IsInBox ss domain (whole_case row accesses)) accesses k n answer
over_whole ss areas domain row accesses k n answer h =
    same_box areas (HoldsPoint domain) (IsInBox ss domain (whole_case row accesses)) accesses k n answer
    (λ r c. ((λ p. (p, tt)), (λ p. p.0))) h

-- an item with one case
pub one_case : (ss : List Setting) (areas : List Area) (domain : Area) (row : List ℕ) (accesses : List Access) (k : ℕ)
    (answer : Result (Unit {0}) BoundFault) → AnswersReads areas (HoldsPoint domain) accesses k 0 answer
    → AnswersCases ss areas domain (whole_case row accesses ∷ []) k answer
one_case ss areas domain row accesses k answer h =
    cases_more ss areas domain [] (whole_case row accesses) k 0 answer refl (λ n x there. absurd (none-some x there))
    (over_whole ss areas domain row accesses k 0 answer h)
