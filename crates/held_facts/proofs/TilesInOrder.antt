-- Facts in the order of their tiles, among which one is looked up.
use Rattle.std.proofs.Common.{arith, ℕ, zero, suc, ◌≡◌, ◌<◌, ◌≤◌, ◌==◌, ◌⊎◌, ◌&&◌, ◌||◌, ◌++◌, Bool, true, false, cond, List, []}
use Rattle.std.proofs.Common.{◌∷◌, map, Some, None, length, get_or, refl, sym, ap, ◌∙◌, subst, inl, inr}
use Rattle.std.specs.List.{flat_map}
use Rattle.std.specs.List.Sorted.{IsPartitionedBy, IsPartitionPoint}
use Rattle.std.specs.Prelude.{Contains, find, nat_lt, slice_get}
use Rattle.std.proofs.lemmas.Bool.{and_parts, or_cases, ltb-true, lt-ltb, eqb-true, eq-eqb, false≢true, cases_lt, cases_eq}
use Rattle.std.proofs.lemmas.List.{length-map, map-append, get_or-map}
use Rattle.std.proofs.lemmas.List.Elements.{Contains-append_right}
use Rattle.std.proofs.lemmas.Option.{none-some, same_Some, get_or_from_slice_get}
use Rattle.domains.proofs.PairLists.{Contains-here}
use Rattle.fact_store.proofs.KeyLaws.{in_facts_of}
use Rattle.identity.specs.declared.key.Key.{Key}
use Rattle.tile_boxes.specs.Targets.{Target}
use Rattle.job.specs.Answers.{Tile}
use Rattle.job.specs.Pipeline.{Pipeline}
use Rattle.overlap_tiles.proofs.NeedsAreExact.{needs_rise}
use Rattle.overlap_tiles.specs.Needs.{key_of, key_tile, needs, needed_keys, IsTileBefore}
use Rattle.tile_fact.specs.declared.fact.Fact.{Fact}
use Rattle.tile_run.proofs.FirstFound.{none_of}
use Rattle.held_facts.specs.HeldFacts.{IsReady}
use Rattle.held_facts.specs.Making.{is_of_tile}
use Rattle.held_facts.specs.inside.Holding.{is_before_tile, TilesRise}
use Rattle.held_facts.specs.inside.Needing.{AreReady}
use Rattle.held_facts.specs.Facts.{FactSet, facts_of}
use Rattle.held_facts.proofs.ToldTiles.{of_tile}

-- ---- the order of tiles

abbrev tile_at : ℕ → ℕ → ℕ → Tile
tile_at g i j = record { stage = g; row = i; col = j }

before_is : (g i j : ℕ) (f : Fact) → is_before_tile g i j f ≡ true → IsTileBefore (key_tile f.key) (tile_at g i j)
before_is g i j f e =
    elim (or_cases (nat_lt f.key.stage g) (f.key.stage == g && (nat_lt f.key.row i || (f.key.row == i && nat_lt f.key.col j))) e) [
      | inl stage ↦ inl (ltb-true f.key.stage g stage)
      | inr rest ↦
          (let same = and_parts (f.key.stage == g) (nat_lt f.key.row i || (f.key.row == i && nat_lt f.key.col j)) rest in
          inr (
            eqb-true f.key.stage g same.0,
            elim (or_cases (nat_lt f.key.row i) (f.key.row == i && nat_lt f.key.col j) same.1) [
              | inl row ↦ inl (ltb-true f.key.row i row)
              | inr last ↦
                  (let line = and_parts (f.key.row == i) (nat_lt f.key.col j) last in
                  inr (eqb-true f.key.row i line.0, ltb-true f.key.col j line.1))
            ],
          ))
    ]

or_right : (a b : Bool) → b ≡ true → (a || b) ≡ true
or_right true b e = refl
or_right false b e = e

is_before : (g i j : ℕ) (f : Fact) → IsTileBefore (key_tile f.key) (tile_at g i j) → is_before_tile g i j f ≡ true
is_before g i j f h = elim h [
  | inl stage ↦
      ap (λ b. b || (f.key.stage == g && (nat_lt f.key.row i || (f.key.row == i && nat_lt f.key.col j)))) (lt-ltb f.key.stage g stage)
  | inr rest ↦ or_right (nat_lt f.key.stage g) (f.key.stage == g && (nat_lt f.key.row i || (f.key.row == i && nat_lt f.key.col j)))
      (ap (λ b. b && (nat_lt f.key.row i || (f.key.row == i && nat_lt f.key.col j))) (eq-eqb f.key.stage g rest.0)
      ∙ elim rest.1 [
        | inl row ↦ ap (λ b. b || (f.key.row == i && nat_lt f.key.col j)) (lt-ltb f.key.row i row)
        | inr last ↦ or_right (nat_lt f.key.row i) (f.key.row == i && nat_lt f.key.col j)
            (ap (λ b. b && nat_lt f.key.col j) (eq-eqb f.key.row i last.0) ∙ lt-ltb f.key.col j last.1)
      ])
]

abbrev InLine : Tile → Tile → Type 0
InLine m n = (m.row < n.row) ⊎ ((m.row ≡ n.row) × (m.col < n.col))

line_trans : (m n o : Tile) → InLine m n → InLine n o → InLine m o
line_trans m n o (inl p) (inl q) = inl (omega arith)
line_trans m n o (inl p) (inr q) = let e = q.0 in inl (omega arith)
line_trans m n o (inr p) (inl q) = let e = p.0 in inl (omega arith)
line_trans m n o (inr p) (inr q) = let a = p.1 in let b = q.1 in inr (p.0 ∙ q.0, omega arith)

tile_trans : (m n o : Tile) → IsTileBefore m n → IsTileBefore n o → IsTileBefore m o
tile_trans m n o (inl p) (inl q) = inl (omega arith)
tile_trans m n o (inl p) (inr q) = let e = q.0 in inl (omega arith)
tile_trans m n o (inr p) (inl q) = let e = p.0 in inl (omega arith)
tile_trans m n o (inr p) (inr q) = inr (p.0 ∙ q.0, line_trans m n o p.1 q.1)

not_itself : (m n : Tile) → m.stage ≡ n.stage → m.row ≡ n.row → m.col ≡ n.col → IsTileBefore m n → ⊥
not_itself m n stage row col (inl p) = absurd (omega arith)
not_itself m n stage row col (inr p) = by p.1
  where
    by : InLine m n → ⊥
    by (inl q) = absurd (omega (arith, row, q))
    by (inr q) = let less = q.1 in absurd (omega (arith, col, less))

-- ---- a search among facts that rise

pub parted : (g i j : ℕ) (facts : List Fact) → TilesRise facts → IsPartitionedBy (is_before_tile g i j) facts
parted g i j facts rise = λ a b d le low t.
    elim (cases_eq a b) [
      | inl same ↦ subst (λ (n : ℕ). is_before_tile g i j (get_or facts n d) ≡ true) (sym same) t
      | inr other ↦ is_before g i j (get_or facts a d)
          (tile_trans (key_tile (get_or facts a d).key) (key_tile (get_or facts b d).key) (tile_at g i j)
          (before_is (get_or facts b d).key.stage (get_or facts b d).key.row (get_or facts b d).key.col (get_or facts a d)
          (rise a b d (omega (arith, le, other)) low)) (before_is g i j (get_or facts b d) t))
    ]

found_here : {X : Type 0} → (p : X → Bool) (xs : List X) (n : ℕ) (x : X) → slice_get xs n ≡ Some x → p x ≡ true
    → ((k : ℕ) (d : X) → k < n → p (get_or xs k d) ≡ false) → find p xs ≡ Some x
found_here p [] n x there is before = absurd (none-some x there)
found_here p (y ∷ ys) zero x there is before =
    let same = same_Some y x there in
    ap (λ b. cond b (Some y) (find p ys)) (ap p same ∙ is) ∙ ap Some same
found_here p (y ∷ ys) (suc n) x there is before =
    ap (λ b. cond b (Some y) (find p ys)) (before 0 y (omega arith))
    ∙ found_here p ys n x there is (λ k d low. before (suc k) d (omega arith))

module _ (g i j : ℕ) (facts : List Fact) (rise : TilesRise facts) (n : ℕ) (cut : IsPartitionPoint (λ y. is_before_tile g i j y ≡ true)
    (λ y. is_before_tile g i j y ≡ false) facts n) where
  -- a fact before the place is of another tile
  not_below : (f : Fact) → is_before_tile g i j f ≡ true → is_of_tile g i j f ≡ false
  not_below f before = by (is_of_tile g i j f) refl
    where
      by : (b : Bool) → is_of_tile g i j f ≡ b → b ≡ false
      by true is =
          let at = of_tile g i j f is in
          absurd (not_itself (key_tile f.key) (tile_at g i j) at.0 at.1 at.2 (before_is g i j f before))
      by false is = refl

  -- so is one behind it
  not_behind : (k : ℕ) (f : Fact) → n < k → k < length facts → get_or facts k f ≡ f → is_of_tile g i j f ≡ false
  not_behind k f low high there = by (is_of_tile g i j f) refl
    where
      by : (b : Bool) → is_of_tile g i j f ≡ b → b ≡ false
      by true is =
          let at = of_tile g i j f is in
          let first = get_or facts n f in
          let apart : is_before_tile f.key.stage f.key.row f.key.col first ≡ true =
          subst (λ (x : Fact). is_before_tile x.key.stage x.key.row x.key.col first ≡ true) there (rise n k f low high) in
          let here : is_before_tile g i j first ≡ is_before_tile f.key.stage f.key.row f.key.col first =
          sym (λ m. is_before_tile (at.0 m) (at.1 m) (at.2 m) first) in
          absurd (false≢true (sym (cut.1 n f (omega arith) (omega arith)) ∙ here ∙ apart))
      by false is = refl

  pub there_is : (f : Fact) → slice_get facts n ≡ Some f → is_of_tile g i j f ≡ true → find (is_of_tile g i j) facts ≡ Some f
  there_is f here is =
      found_here (is_of_tile g i j) facts n f here is (λ k d low. not_below (get_or facts k d) (cut.0 k d (omega arith) low))

  none_but : ((f : Fact) → get_or facts n f ≡ f → n < length facts → is_of_tile g i j f ≡ false) → find (is_of_tile g i j) facts ≡ None
  none_but at_place = none_of (is_of_tile g i j) facts (λ f asked.
      elim (cases_lt asked.0 n) [
        | inl low ↦ subst (λ (x : Fact). is_of_tile g i j x ≡ false) asked.2
            (not_below (get_or facts asked.0 f) (cut.0 asked.0 f (omega arith) low))
        | inr high ↦ elim (cases_eq asked.0 n) [
          | inl same ↦ at_place f (ap (λ (k : ℕ). get_or facts k f) (sym same) ∙ asked.2) (subst (λ (k : ℕ). k < length facts) same asked.1)
          | inr other ↦ not_behind asked.0 f (omega (arith, high, other)) asked.1 asked.2
        ]
      ])

  pub there_is_none : (f : Fact) → slice_get facts n ≡ Some f → is_of_tile g i j f ≡ false → find (is_of_tile g i j) facts ≡ None
  there_is_none f here is = none_but (λ h at low.
      subst (λ (x : Fact). is_of_tile g i j x ≡ false) (sym (get_or_from_slice_get facts n f h here) ∙ at) is)

  pub none_left : length facts ≤ n → find (is_of_tile g i j) facts ≡ None
  none_left past = none_but (λ h at low. absurd (omega (arith, past, low)))

-- ---- facts of keys that rise

keys_of : (job : Pipeline) (s : FactSet) (need : Key) → IsReady s job need → map (λ f. f.key) (facts_of s need) ≡ need ∷ []
keys_of job s need ready =
    let own =
    ((in_facts_of s need ready.fact).0
    (subst (λ (fs : List Fact). Contains fs ready.fact) (sym ready.alone) (Contains-here ready.fact []))).1 in
    ap (map (λ (f : Fact). f.key)) ready.alone ∙ ap (λ (k : Key). k ∷ []) own

-- where one fact of each key is held, their keys are these
all_keys : (s : FactSet) (job : Pipeline) (keys : List Key) → AreReady s job keys → map (λ f. f.key) (flat_map (facts_of s) keys) ≡ keys
all_keys s job [] ready = refl
all_keys s job (k ∷ ks) ready =
    map-append (λ (f : Fact). f.key) (facts_of s k) (flat_map (facts_of s) ks)
    ∙ (λ n. keys_of job s k (ready k (Contains-here k ks)) n
    ++ all_keys s job ks (λ need asked. ready need (Contains-append_right (k ∷ []) ks need asked)) n)

-- so that the facts of what a target needs are in the order of their tiles
pub needed_rise : (s : FactSet) (program : List ℕ) (t : Target) → AreReady s t.job (needed_keys program t)
    → TilesRise (flat_map (facts_of s) (needed_keys program t))
needed_rise s program t ready = λ a b d less low.
    let facts = flat_map (facts_of s) (needed_keys program t) in
    let keys = all_keys s t.job (needed_keys program t) ready in
    let tiles : map key_tile (map (λ (f : Fact). f.key) facts) ≡ needs t = ap (map key_tile) keys ∙ key_tiles program t.job (needs t) in
    let long : length (needs t) ≡ length facts =
    sym (ap length tiles) ∙ length-map (map (λ (f : Fact). f.key) facts) key_tile ∙ length-map facts (λ f. f.key) in
    let at : (n : ℕ) → n < length facts → get_or (needs t) n (key_tile d.key) ≡ key_tile (get_or facts n d).key =
    λ n inside. ap (λ (ts : List Tile). get_or ts n (key_tile d.key)) (sym tiles)
    ∙ get_or-map key_tile (map (λ (f : Fact). f.key) facts) n d.key (key_tile d.key)
    (omega (arith, inside, length-map facts (λ (f : Fact). f.key)))
    ∙ ap key_tile (get_or-map (λ (f : Fact). f.key) facts n d d.key inside) in
    let before : IsTileBefore (key_tile (get_or facts a d).key) (key_tile (get_or facts b d).key) =
    subst (λ (m : Tile). IsTileBefore m (key_tile (get_or facts b d).key)) (at a (omega (arith, less, low)))
    (subst (IsTileBefore (get_or (needs t) a (key_tile d.key))) (at b low)
    (needs_rise t a b (key_tile d.key) less (omega (arith, low, long)))) in
    is_before (get_or facts b d).key.stage (get_or facts b d).key.row (get_or facts b d).key.col (get_or facts a d) before
  where
    key_tiles : (program : List ℕ) (job : Pipeline) (ns : List Tile) → map key_tile (map (key_of program job) ns) ≡ ns
    key_tiles program job [] = refl
    key_tiles program job (n ∷ ns) = ap (λ ms. n ∷ ms) (key_tiles program job ns)
