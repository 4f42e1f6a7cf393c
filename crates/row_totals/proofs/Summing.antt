-- The bins of an accumulator, and more rows of it.
use Rattle.std.proofs.Common.{arith, ℕ, ℤ, pos, negsuc, ◌≡◌, ◌+◌, ◌-◌, ◌<◌, ◌≤◌, ◌+ℤ◌, ◌-ℤ◌, ◌≤ℤ◌, List, [], Some, length, true, false, true≢false, refl, sym, ap, ◌∙◌, subst, slice_get}
use Rattle.std.specs.Prelude.{Option, None, filter, map}
use Rattle.std.specs.Option.{option_map, option_map_or}
use Rattle.std.specs.Ordering.{int_eq}
use Rattle.std.proofs.lemmas.Int.{ints}
use Rattle.std.proofs.lemmas.List.{length-map}
use Rattle.std.proofs.lemmas.Option.{none-some, same_Some}
use Rattle.domains.proofs.Lengths.{len_is}
use Rattle.domains.proofs.Spans.{length-numbers_from}
use Rattle.domains.specs.Area.{HoldsPoint, IsArea, points_of}
use Rattle.domains.specs.Index.{index_at}
use Rattle.domains.specs.Pairs.{pairs}
use Rattle.domains.specs.Span.{Holds, len_of, numbers_from, numbers_of}
use Rattle.domains.specs.declared.area.Area.{Area}
use Rattle.job.proofs.Solving.{BodyReads-both}
use Rattle.job.proofs.TotalLaws.{body_totals-agrees, map_same}
use Rattle.job.specs.Answers.{height_of, is_accumulator}
use Rattle.job.specs.Pipeline.{Body, accumulator, Stage, Pipeline}
use Rattle.job.specs.Reads.{Read, point, window, BodyReads, EachTaken, SameAt}
use Rattle.job.specs.Totals.{start_of, total_of, values_in_bin, body_totals, totals, totals_over}
use Rattle.job.specs.Values.{Valuation, formula_value, kernel_column, kernel_row, value}
use Rattle.job.specs.Views.{formula_view}
use Rattle.job.specs.WellFormed.{InDomainRange, IsJob, IsStage}
use Rattle.job.specs.declared.stage.Accumulator.{Accumulator}
use Rattle.reductions.proofs.GatherOnto.{first_bins, joined_are_bins, from_starts}
use Rattle.reductions.proofs.TakeValues.{starts_long}
use Rattle.reductions.proofs.TotalsInAnyOrder.{total_of-none}
use Rattle.reductions.proofs.WholeTotals.{stage_totals}
use Rattle.reductions.specs.Accumulating.{AreBins}
use Rattle.reductions.specs.Bins.{joined_bins, starts}
use Rattle.row_totals.specs.RowTotals.{rows_from, totals_from, is_summed, AreValues, IsRowRead, IsSummedBy}
use Rattle.row_totals.proofs.RowsJoin.{all_rows, rows_join, rows_numbers, totals_from_is}

-- ---- what is read

taken_weaker : (P Q : ℕ → ℤ → ℤ → Type 0) → ((g : ℕ) (r c : ℤ) → P g r c → Q g r c) → (x : Read) (r c : ℤ) → EachTaken P x r c
    → EachTaken Q x r c
taken_weaker P Q f (point g i j) r c h = f g (index_at i r) (index_at j c) h
taken_weaker P Q f (window g kernel) r c h = λ a b la lb. f g (kernel_row kernel r a) (kernel_column kernel c b) (h a b la lb)

reads_weaker : (P Q : ℕ → ℤ → ℤ → Type 0) → ((g : ℕ) (r c : ℤ) → P g r c → Q g r c) → (body : Body) (r c : ℤ) → BodyReads P body r c
    → BodyReads Q body r c
reads_weaker P Q f body r c = BodyReads-both P Q (λ x. Unit {0}) body r c (λ x u. taken_weaker P Q f x r c) (λ n d l. tt)

-- a number that is not below another one is so many behind it
counted_from : (first r : ℤ) → first ≤ℤ r → (k : ℕ) × (first +ℤ pos k ≡ r)
counted_from first r h = by (r -ℤ first) refl
  where
    by : (d : ℤ) → d ≡ r -ℤ first → (k : ℕ) × (first +ℤ pos k ≡ r)
    by (pos k) e = (k, omega (arith, ints, e))
    by (negsuc n) e = absurd (omega (arith, ints, e, h))

-- ---- an accumulator of a job

module _ (job : Pipeline) (g : ℕ) (s : Stage) (a : Accumulator) (is : IsSummedBy job g s a) where
  abbrev body : Body
  body = accumulator a.fold a.bins (formula_view a.value) (formula_view a.bin)

  pub totals_at : (first n : ℕ) → totals_from job g first n ≡ body_totals (value job) (rows_from s.domain first n) body
  totals_at first n = totals_from_is job g s first n is.there ∙ ap (body_totals (value job) (rows_from s.domain first n)) is.body

  pub height_is : height_of job g ≡ len_of s.domain.rows
  height_is = ap (λ (o : Option Stage). option_map_or (λ t. len_of t.domain.rows) o 0) is.there

  -- ---- its bins

  pub bins_long : (first n : ℕ) → length (totals_from job g first n) ≡ len_of a.bins
  bins_long first n =
      ap length (totals_at first n)
      ∙ length-map (numbers_of a.bins) (λ b. total_of a.fold (values_in_bin (value job) (formula_view a.value) (formula_view a.bin) (rows_from s.domain first n) b))
      ∙ length-numbers_from a.bins.lo (len_of a.bins)

  pub bins_of : (first n : ℕ) (bins : List ℤ) → bins ≡ totals_from job g first n → AreBins a bins
  bins_of first n bins so =
      let begun = starts a.fold a.bins in
      let all = totals_from job g first n in
      let env = value job in
      let joined : joined_bins a.fold begun all ≡ all =
      ap (joined_bins a.fold begun) (totals_at first n)
      ∙ from_starts a (formula_value env (formula_view a.value)) (formula_value env (formula_view a.bin)) (points_of (rows_from s.domain first n)) begun refl
      ∙ sym (totals_at first n) in
      subst (AreBins a) (sym so)
      (joined_are_bins a begun all all (first_bins a begun refl) (bins_long first n ∙ sym (starts_long a.fold a.bins)) (sym joined))

  -- of no row they are what they start from
  pub no_rows : (first n : ℕ) → n ≡ 0 → starts a.fold a.bins ≡ totals_from job g first n
  no_rows first n none =
      let env = value job in
      let rows = rows_from s.domain first n in
      let points : points_of rows ≡ [] =
      ap (λ (rs : List ℤ). points_with rs) (rows_numbers s.domain first n ∙ ap (numbers_from (s.domain.rows.lo +ℤ pos first)) none) in
      map_same (λ b. start_of a.fold) (λ b. total_of a.fold (values_in_bin env (formula_view a.value) (formula_view a.bin) rows b)) (numbers_of a.bins)
      (λ b. sym (total_of-none a.fold)
      ∙ ap (λ (ps : List (ℤ × ℤ)). total_of a.fold (values_at ps b)) (sym points))
      ∙ sym (totals_at first n)
    where
      points_with : List ℤ → List (ℤ × ℤ)
      points_with rs = pairs rs (numbers_of s.domain.cols)

      values_at : List (ℤ × ℤ) → ℤ → List ℤ
      values_at ps b =
          map (λ p. formula_value (value job) (formula_view a.value) p.0 p.1)
          (filter (λ p. int_eq (formula_value (value job) (formula_view a.bin) p.0 p.1) b) ps)

  -- ---- rows that follow

  pub joined_rows : (first next more : ℕ) (old others new : List ℤ) → first ≤ next → next ≤ more → old ≡ totals_from job g first (next - first)
      → others ≡ totals_from job g next (more - next) → new ≡ joined_bins a.fold old others → new ≡ totals_from job g first (more - first)
  joined_rows first next more old others new up on old_is others_is new_is =
      let begin : next ≡ first + (next - first) = omega arith in
      let rest : (next - first) + (more - next) ≡ more - first = omega arith in
      new_is
      ∙ (λ i. joined_bins a.fold (old_is i) (others_is i))
      ∙ ap (λ (n : ℕ). joined_bins a.fold (totals_from job g first (next - first)) (totals_from job g n (more - next))) begin
      ∙ sym (rows_join job g s first (next - first) (more - next) a.fold a.bins (formula_view a.value) (formula_view a.bin) is.there is.body)
      ∙ ap (totals_from job g first) rest

  module _ (well : IsJob job) where
    own : IsStage job s
    own = well.stages g s is.there

    pub height_short : height_of job g ≤ 2097153
    height_short =
        let rows = own.rows.span in let least = rows.least in let most = rows.most in
        omega (arith, ints, height_is, len_is s.domain.rows rows, least, most)

    -- ---- more rows

    module _ (next count : ℕ) (some : 0 < count) (left : next + count ≤ height_of job g) where
      abbrev more : Area
      more = rows_from s.domain next count

      pub rows_within : next + count ≤ len_of s.domain.rows
      rows_within = let height = height_is in omega (arith, left, height)

      pub rows_near : InDomainRange more.rows
      rows_near =
          let within = rows_within in
          let long = len_is s.domain.rows own.rows.span in
          let rows = own.rows in
          let first = rows.span.least in let last = rows.span.most in let least = rows.least in let most = rows.most in record {
            span = record { least = omega (arith, ints); ordered = omega (arith, ints); most = omega (arith, ints) };
            least = omega (arith, ints);
            most = omega (arith, ints);
          }

      is_area : IsArea more
      is_area = record { rows = rows_near.span; cols = own.cols.span }

      in_domain : (k : ℕ) → k < count → (c : ℤ) → Holds s.domain.cols c → HoldsPoint s.domain (s.domain.rows.lo +ℤ pos (next + k)) c
      in_domain k below c inside =
          let within = rows_within in
          let long = len_is s.domain.rows own.rows.span in ((omega (arith, ints), omega (arith, ints, long, within, below)), inside)

      module _ (has : ℕ → ℤ → ℤ → Type 0) (samples : Valuation) (reads : (k : ℕ) → k < count → IsRowRead has job g (next + k)) where
        pub rows_read : (r c : ℤ) → HoldsPoint more r c → BodyReads has body r c
        rows_read r c inside =
            let found = counted_from (s.domain.rows.lo +ℤ pos next) r inside.0.0 in
            let k : ℕ = found.0 in
            let at : s.domain.rows.lo +ℤ pos next +ℤ pos k ≡ r = found.1 in
            let last = inside.0.1 in
            let below : k < count = omega (arith, ints, at, last) in
            let row : s.domain.rows.lo +ℤ pos (next + k) ≡ r = omega (arith, ints, at) in
            subst (λ (q : ℤ). BodyReads has body q c) row
            (subst (λ (b : Body). BodyReads has b (s.domain.rows.lo +ℤ pos (next + k)) c) is.body
            (reads k below s is.there c (in_domain k below c inside.1)))

        pub rows_more : AreValues has samples job → (first : ℕ) (old new : List ℤ) → first ≤ next → old ≡ totals_from job g first (next - first)
            → new ≡ joined_bins a.fold old (body_totals samples more body) → new ≡ totals_from job g first (next + count - first)
        rows_more right first old new up old_is new_is =
            let own_count : next + count - next ≡ count = omega arith in
            joined_rows first next (next + count) old (body_totals samples more body) new up (omega arith) old_is
            (body_totals-agrees samples (value job) more is_area body (λ r c inside.
            reads_weaker has (SameAt samples (value job)) right body r c (rows_read r c inside))
            ∙ sym (totals_at next count)
            ∙ ap (totals_from job g next) (sym own_count))
            new_is

-- all rows of a domain that is there
pub whole_of_area : (job : Pipeline) (g : ℕ) → IsJob job → (area : Area) → option_map (λ s. s.domain) (slice_get job.stages g) ≡ Some area
    → totals_from job g 0 (len_of area.rows) ≡ totals job g
whole_of_area job g well area is = by (slice_get job.stages g) refl
  where
    by : (o : Option Stage) → slice_get job.stages g ≡ o → totals_from job g 0 (len_of area.rows) ≡ totals job g
    by None e = absurd (none-some area (ap (option_map (λ (s : Stage). s.domain)) (sym e) ∙ is))
    by (Some s) e =
        let same : s.domain ≡ area = same_Some s.domain area (ap (option_map (λ (s : Stage). s.domain)) (sym e) ∙ is) in
        ap (λ (x : Area). totals_from job g 0 (len_of x.rows)) (sym same)
        ∙ ap (λ (o : Option Stage). option_map_or (λ t. totals_over job (rows_from t.domain 0 (len_of s.domain.rows)) g) o []) e
        ∙ ap (λ (x : Area). totals_over job x g) (all_rows s.domain (well.stages g s e).rows.span)
        ∙ stage_totals job g s e

-- an accumulator has a domain
pub summed_domain : (job : Pipeline) (g : ℕ) → is_summed job g ≡ true → option_map (λ s. s.domain) (slice_get job.stages g) ≡ None → ⊥
summed_domain job g summed none = by (slice_get job.stages g) refl
  where
    by : (o : Option Stage) → slice_get job.stages g ≡ o → ⊥
    by None e = true≢false (sym summed ∙ ap (λ (o : Option Stage). option_map_or (λ t. is_accumulator t.body) o false) e)
    by (Some s) e = none-some s.domain (sym none ∙ ap (option_map (λ (s : Stage). s.domain)) e)

-- its height is that of the domain
pub height_at : (job : Pipeline) (g : ℕ) (area : Area) → option_map (λ s. s.domain) (slice_get job.stages g) ≡ Some area
    → height_of job g ≡ len_of area.rows
height_at job g area is = by (slice_get job.stages g) refl
  where
    by : (o : Option Stage) → slice_get job.stages g ≡ o → height_of job g ≡ len_of area.rows
    by None e = absurd (none-some area (ap (option_map (λ (s : Stage). s.domain)) (sym e) ∙ is))
    by (Some s) e =
        ap (λ (o : Option Stage). option_map_or (λ t. len_of t.domain.rows) o 0) e
        ∙ ap (λ (a : Area). len_of a.rows) (same_Some s.domain area (ap (option_map (λ (s : Stage). s.domain)) (sym e) ∙ is))
