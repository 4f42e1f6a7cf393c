-- The table of last readers tells which lives meet.
use Rattle.std.proofs.Common.{ℕ, zero, suc, arith, ◌+◌, ◌<◌, ◌≤◌, ◌≡◌, ◌⊎◌, inl, inr, eqb, Bool, true, false, ◌||◌, Option, Some, None}
use Rattle.std.proofs.Common.{List, [], ◌∷◌, ◌++◌, map, length, get_or, set, refl, sym, ap, ◌∙◌, subst}
use Rattle.std.specs.Prelude.{Contains, slice_get, if◌then◌else◌}
use Rattle.std.specs.List.{list_any}
use Rattle.std.specs.Option.{option_map_or}
use Rattle.std.proofs.lemmas.Bool.{false≢true, eqb-true, eqb-false, eq-eqb}
use Rattle.std.proofs.lemmas.List.{length-set, length-replicate, get_or-replicate, get_or-set_same, get_or-set_other}
use Rattle.std.proofs.lemmas.List.Folds.{Any-from_list_any, list_any-from_Any}
use Rattle.std.proofs.lemmas.Option.{same_Some}
use Rattle.domains.specs.declared.area.Area.{Area}
use Rattle.job.specs.Pipeline.{Stage, Pipeline}
use Rattle.job.specs.Reads.{Read, stage_read, reads_of}
use Rattle.grouping.specs.Greedy.{reads_at, is_reader_of_stage}
use Rattle.tile_boxes.proofs.Lists.{Contains-map}
use Rattle.overlap_tiles.specs.Lives.{DoesRead, IsReadAt, LivesMeet}
use Rattle.overlap_tiles.specs.inside.Made.{marked, marked_by, unread, list_last_reader_places_by_stage}
use Rattle.overlap_tiles.proofs.Lists.{Contains-from_map}

-- ---- what a stage reads

pub to_read : (job : Pipeline) (g h : ℕ) → is_reader_of_stage job h g ≡ true → DoesRead job g h
to_read job g h is = by (slice_get job.stages g) refl is
  where
    by : (o : Option Stage) → slice_get job.stages g ≡ o
        → list_any (λ x. eqb (stage_read x) h) (option_map_or (λ s. reads_of s.body) o []) ≡ true → DoesRead job g h
    by None there e = absurd (false≢true e)
    by (Some s) there e =
        let any = Any-from_list_any (λ x. eqb (stage_read x) h) (reads_of s.body) e in
        let read : Contains (reads_of s.body) any.1 = (any.0, any.2, any.3) in
        record {
          stage = s;
          there = there;
          reads = subst (Contains (map stage_read (reads_of s.body))) (eqb-true (stage_read any.1) h any.4)
              (Contains-map stage_read (reads_of s.body) any.1 read);
        }

pub from_read : (job : Pipeline) (g h : ℕ) → DoesRead job g h → is_reader_of_stage job h g ≡ true
from_read job g h does =
    let read = Contains-from_map stage_read (reads_of does.stage.body) h does.reads in
    ap (λ (o : Option Stage). list_any (λ x. eqb (stage_read x) h) (option_map_or (λ s. reads_of s.body) o [])) does.there
    ∙ list_any-from_Any (λ x. eqb (stage_read x) h) (reads_of does.stage.body)
    (read.1.0, read.0, read.1.1, read.1.2, eq-eqb (stage_read read.0) h read.2)

-- ---- the table

pub length-marked : (n : ℕ) (lasts : List ℕ) (rs : List Read) → length (marked n lasts rs) ≡ length lasts
length-marked n lasts [] = refl
length-marked n lasts (r ∷ rs) = length-marked n (set lasts (stage_read r) n) rs ∙ length-set lasts (stage_read r) n

-- a stage that is read has the new place, and each other one that which it had
marked_at : (n : ℕ) (lasts : List ℕ) (rs : List Read) (h : ℕ) → h < length lasts
    → get_or (marked n lasts rs) h 0 ≡ (if list_any (λ x. eqb (stage_read x) h) rs then n else get_or lasts h 0)
marked_at n lasts [] h there = refl
marked_at n lasts (r ∷ rs) h there =
    marked_at n (set lasts (stage_read r) n) rs h (omega (arith, length-set lasts (stage_read r) n))
    ∙ by (eqb (stage_read r) h) refl (list_any (λ x. eqb (stage_read x) h) rs)
  where
    by : (b : Bool) → eqb (stage_read r) h ≡ b → (c : Bool)
        → (if c then n else get_or (set lasts (stage_read r) n) h 0) ≡ (if b || c then n else get_or lasts h 0)
    by true e true = refl
    by true e false =
        ap (λ (g : ℕ). get_or (set lasts g n) h 0) (eqb-true (stage_read r) h e) ∙ get_or-set_same lasts h n 0 there
    by false e true = refl
    by false e false = get_or-set_other lasts (stage_read r) h n 0 (λ same. eqb-false (stage_read r) h e (sym same))

module _ (job : Pipeline) (h : ℕ) where
  -- one more step
  next_at : (n : ℕ) (lasts : List ℕ) (s : ℕ × Area) → h < length lasts
      → get_or (marked n lasts (reads_at job s.0)) h 0 ≡ (if is_reader_of_stage job h s.0 then n else get_or lasts h 0)
  next_at n lasts s there = marked_at n lasts (reads_at job s.0) h there

  next_there : (n : ℕ) (lasts : List ℕ) (s : ℕ × Area) → h < length lasts → h < length (marked n lasts (reads_at job s.0))
  next_there n lasts s there = omega (arith, length-marked n lasts (reads_at job s.0))

  next_low : (n : ℕ) (lasts : List ℕ) (s : ℕ × Area) → h < length lasts → get_or lasts h 0 ≤ n
      → (get_or lasts h 0 ≤ get_or (marked n lasts (reads_at job s.0)) h 0) × (get_or (marked n lasts (reads_at job s.0)) h 0 ≤ suc n)
  next_low n lasts s there low =
      subst (λ (m : ℕ). (get_or lasts h 0 ≤ m) × (m ≤ suc n)) (sym (next_at n lasts s there)) (by (is_reader_of_stage job h s.0))
    where
      by : (b : Bool) → (get_or lasts h 0 ≤ (if b then n else get_or lasts h 0)) × ((if b then n else get_or lasts h 0) ≤ suc n)
      by true = (omega arith, omega arith)
      by false = (omega arith, omega arith)

  -- places rise
  later : (n : ℕ) (lasts : List ℕ) (ss : List (ℕ × Area)) → h < length lasts → get_or lasts h 0 ≤ n
      → get_or lasts h 0 ≤ get_or (marked_by job n lasts ss) h 0
  later n lasts [] there low = omega arith
  later n lasts (s ∷ ss) there low =
      let next = next_low n lasts s there low in
      let rest = later (suc n) (marked n lasts (reads_at job s.0)) ss (next_there n lasts s there) next.1 in
      let first = next.0 in
      omega arith

  -- no reader stands behind
  pub readers_before : (n : ℕ) (lasts : List ℕ) (ss : List (ℕ × Area)) → h < length lasts → get_or lasts h 0 ≤ n
      → (m : ℕ) (r : ℕ × Area) → slice_get ss m ≡ Some r → is_reader_of_stage job h r.0 ≡ true → n + m ≤ get_or (marked_by job n lasts ss) h 0
  readers_before n lasts [] there low m r at does = absurd (cc)
  readers_before n lasts (s ∷ ss) there low zero r at does =
      let here : is_reader_of_stage job h s.0 ≡ true = ap (λ (x : ℕ × Area). is_reader_of_stage job h x.0) (same_Some s r at) ∙ does in
      let own : get_or (marked n lasts (reads_at job s.0)) h 0 ≡ n =
      next_at n lasts s there ∙ ap (λ (b : Bool). if b then n else get_or lasts h 0) here in
      let rest = later (suc n) (marked n lasts (reads_at job s.0)) ss (next_there n lasts s there) (omega arith) in
      omega arith
  readers_before n lasts (s ∷ ss) there low (suc m) r at does =
      let next = next_low n lasts s there low in
      let rest = readers_before (suc n) (marked n lasts (reads_at job s.0)) ss (next_there n lasts s there) next.1 m r at does in
      omega arith

  -- a step that reads it stands there
  pub record ReaderAt (n : ℕ) (ss : List (ℕ × Area)) (last : ℕ) : Type 0 where
    pub place : ℕ
    pub step : ℕ × Area
    pub there : slice_get ss place ≡ Some step
    pub does : is_reader_of_stage job h step.0 ≡ true
    pub is : last ≡ n + place

  pub reader_found : (n : ℕ) (lasts : List ℕ) (ss : List (ℕ × Area)) → h < length lasts
      → (get_or (marked_by job n lasts ss) h 0 ≡ get_or lasts h 0) ⊎ ReaderAt n ss (get_or (marked_by job n lasts ss) h 0)
  reader_found n lasts [] there = inl refl
  reader_found n lasts (s ∷ ss) there =
      by (is_reader_of_stage job h s.0) refl (reader_found (suc n) (marked n lasts (reads_at job s.0)) ss (next_there n lasts s there))
    where
      by : (b : Bool) → is_reader_of_stage job h s.0 ≡ b
          → (get_or (marked_by job (suc n) (marked n lasts (reads_at job s.0)) ss) h 0 ≡ get_or (marked n lasts (reads_at job s.0)) h 0)
          ⊎ ReaderAt (suc n) ss (get_or (marked_by job (suc n) (marked n lasts (reads_at job s.0)) ss) h 0)
          → (get_or (marked_by job n lasts (s ∷ ss)) h 0 ≡ get_or lasts h 0)
          ⊎ ReaderAt n (s ∷ ss) (get_or (marked_by job n lasts (s ∷ ss)) h 0)
      by b e (inr found) =
          let at = found.is in
          inr (record { place = suc found.place; step = found.step; there = found.there; does = found.does; is = omega arith })
      by true e (inl same) =
          let own = next_at n lasts s there ∙ ap (λ (b : Bool). if b then n else get_or lasts h 0) e in
          inr (record { place = 0; step = s; there = refl; does = e; is = omega arith })
      by false e (inl same) = inl (same ∙ next_at n lasts s there ∙ ap (λ (b : Bool). if b then n else get_or lasts h 0) e)

-- the last step adds its reads
marked_by_push : (job : Pipeline) (n : ℕ) (lasts : List ℕ) (ss : List (ℕ × Area)) (s : ℕ × Area)
    → marked_by job n lasts (ss ++ s ∷ []) ≡ marked (n + length ss) (marked_by job n lasts ss) (reads_at job s.0)
marked_by_push job n lasts [] s = let none : n ≡ n + 0 = omega arith in ap (λ (m : ℕ). marked m lasts (reads_at job s.0)) none
marked_by_push job n lasts (x ∷ ss) s =
    let more : suc n + length ss ≡ n + suc (length ss) = omega arith in
    marked_by_push job (suc n) (marked n lasts (reads_at job x.0)) ss s
    ∙ ap (λ (m : ℕ). marked m (marked_by job n lasts (x ∷ ss)) (reads_at job s.0)) more

pub last_readers_push : (job : Pipeline) (ss : List (ℕ × Area)) (s : ℕ × Area) (n : ℕ) → n ≡ length ss
    → marked n (list_last_reader_places_by_stage job ss) (reads_at job s.0) ≡ list_last_reader_places_by_stage job (ss ++ s ∷ [])
last_readers_push job ss s n e =
    let from : n ≡ 0 + length ss = omega arith in
    ap (λ (m : ℕ). marked m (list_last_reader_places_by_stage job ss) (reads_at job s.0)) from ∙ sym (marked_by_push job 0 (unread job) ss s)

-- ---- lives

module _ (job : Pipeline) (steps : List (ℕ × Area)) (k : ℕ) (s : ℕ × Area) (there : slice_get steps k ≡ Some s)
    (within : s.0 < length job.stages) where
  in_table : s.0 < length (unread job)
  in_table = omega (arith, length-replicate {A = ℕ} (length job.stages) 0)

  first : get_or (unread job) s.0 0 ≡ 0
  first = get_or-replicate (length job.stages) s.0 0 0 within

  pub meet_last : (l : ℕ) → k < l → LivesMeet job steps k l → l ≤ get_or (list_last_reader_places_by_stage job steps) s.0 0
  meet_last l less meet = elim meet.1.1 [
    | inl own ↦ absurd (let low = meet.2.0 in omega arith)
    | inr at ↦ (let read = at.2 in
        let reader = read.reader in
        let mine : read.read ≡ s = same_Some read.read s (sym read.there ∙ there) in
        let does = from_read job reader.0 s.0 (subst (λ (x : ℕ × Area). DoesRead job reader.0 x.0) mine read.reads) in
        let last = readers_before job s.0 0 (unread job) steps in_table (omega (arith, first)) at.0 reader
        read.reader_there does in
        let after = meet.2.0 in
        let most = at.1 in
        omega arith)
  ]

  pub last_meets : (l : ℕ) → k < l → l ≤ get_or (list_last_reader_places_by_stage job steps) s.0 0 → LivesMeet job steps k l
  last_meets l less most = elim (reader_found job s.0 0 (unread job) steps in_table) [
    | inl none ↦ absurd (omega (arith, first))
    | inr found ↦ (let at = found.is in
        let read : IsReadAt job steps k found.place = record {
          read = s;
          reader = found.step;
          there = there;
          reader_there = found.there;
          reads = to_read job found.step.0 s.0 found.does;
        } in
        (l, (omega arith, inr (found.place, omega arith, read)), (omega arith, inl refl)))
  ]
