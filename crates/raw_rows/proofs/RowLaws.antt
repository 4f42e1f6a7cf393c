-- The rows of a picture, one after another, are its raster.
use Rattle.std.proofs.Common.{◌≡◌, ℕ, zero, suc, ◌+◌, ◌*◌, ◌⊎◌, inl, inr, ℤ, pos, ◌+ℤ◌, List, [], ◌∷◌, ◌++◌, Some, All, length, map, refl, sym}
use Rattle.std.proofs.Common.{ap, ◌∙◌, arith, length-append}
use Rattle.std.specs.Prelude.{slice_get, slice_index}
use Rattle.std.specs.List.{flat_map, range_with_len}
use Rattle.std.specs.Option.{option_map_or}
use Rattle.std.proofs.Math.Nat.{suc-mul}
use Rattle.std.proofs.lemmas.Grind.{flat_map-append}
use Rattle.std.proofs.lemmas.Int.{ints}
use Rattle.std.proofs.lemmas.List.{length-map, map-append}
use Rattle.std.proofs.lemmas.List.Elements.{All-head, All-tail, All-weaker}
use Rattle.std.proofs.lemmas.Simd.{map-map}
use Rattle.domains.specs.Pairs.{pairs}
use Rattle.domains.specs.Span.{len_of, numbers_from, numbers_of}
use Rattle.domains.proofs.Spans.{length-numbers_from}
use Rattle.netpbm.specs.Colours.{interleaved, woven}
use Rattle.netpbm.specs.Raw.{raw_raster, sample_bytes, width_of}
use Rattle.netpbm.proofs.RawLaws.{length-raw_raster}
use Rattle.job.specs.Answers.{height_of, picture_of, sample_of, samples, samples_over}
use Rattle.job.specs.Answers as Answers
use Rattle.job.specs.Pipeline.{Output, Pipeline, Stage}
use Rattle.job.specs.Values.{value}
use Rattle.job.specs.WellFormed.{IsOutput, IsOutputPlane}
use Rattle.raw_rows.specs.Rows.{bytes_per_row, raw_row, raw_rows, row_samples, row_values}

-- ---- one or three

by_number : {A : Type 0} → (P : List A → Type 0) → ((a : A) → P (a ∷ [])) → ((a b c : A) → P (a ∷ b ∷ c ∷ []))
    → (xs : List A) → (length xs ≡ 1) ⊎ (length xs ≡ 3) → P xs
by_number P one three [] h = elim h [ inl e ↦ absurd (omega arith) | inr e ↦ absurd (omega arith) ]
by_number P one three (a ∷ []) h = one a
by_number P one three (a ∷ b ∷ []) h = elim h [ inl e ↦ absurd (omega arith) | inr e ↦ absurd (omega arith) ]
by_number P one three (a ∷ b ∷ c ∷ []) h = three a b c
by_number P one three (a ∷ b ∷ c ∷ d ∷ xs) h = elim h [ inl e ↦ absurd (omega arith) | inr e ↦ absurd (omega arith) ]

map_all : (f h : ℕ → List ℕ) (gs : List ℕ) → All (λ g. f g ≡ h g) gs → map f gs ≡ map h gs
map_all f h [] each = refl
map_all f h (g ∷ gs) each =
    ap (λ (l : List ℕ). l ∷ map f gs) (All-head (λ g. f g ≡ h g) g gs each)
    ∙ ap (λ (ls : List (List ℕ)). h g ∷ ls) (map_all f h gs (All-tail (λ g. f g ≡ h g) g gs each))

-- ---- numbers in a row

range-append : (y m n : ℕ) → range_with_len y (m + n) ≡ range_with_len y m ++ range_with_len (y + m) n
range-append y zero n =
    let none : 0 + n ≡ n = omega arith in
    let same : y ≡ y + 0 = omega arith in
    ap (range_with_len y) none ∙ ap (λ k. range_with_len k n) same
range-append y (suc m) n =
    let more : suc m + n ≡ suc (m + n) = omega arith in
    let next : y + 1 + m ≡ y + suc m = omega arith in
    ap (range_with_len y) more
    ∙ ap (λ (l : List ℕ). y ∷ l) (range-append (y + 1) m n ∙ ap (λ k. range_with_len (y + 1) m ++ range_with_len k n) next)

length-rows : (f : ℕ → List ℕ) (c : ℕ) → ((k : ℕ) → length (f k) ≡ c) → (y n : ℕ) → length (flat_map f (range_with_len y n)) ≡ n * c
length-rows f c h y zero = omega arith
length-rows f c h y (suc n) =
    omega (arith, length-append (f y) (flat_map f (range_with_len (y + 1) n)), h y, length-rows f c h (y + 1) n, suc-mul n c)

-- ---- interleaved samples

woven-append : (n : ℕ) (rs gs bs rs' gs' bs' : List ℕ) → length rs ≡ n → length gs ≡ n → length bs ≡ n
    → woven (rs ++ rs') (gs ++ gs') (bs ++ bs') ≡ woven rs gs bs ++ woven rs' gs' bs'
woven-append n [] [] [] rs' gs' bs' e f g = refl
woven-append n [] [] (z ∷ bs) rs' gs' bs' e f g = absurd (omega arith)
woven-append n [] (y ∷ gs) bs rs' gs' bs' e f g = absurd (omega arith)
woven-append n (x ∷ rs) [] bs rs' gs' bs' e f g = absurd (omega arith)
woven-append n (x ∷ rs) (y ∷ gs) [] rs' gs' bs' e f g = absurd (omega arith)
woven-append zero (x ∷ rs) (y ∷ gs) (z ∷ bs) rs' gs' bs' e f g = absurd (omega arith)
woven-append (suc n) (x ∷ rs) (y ∷ gs) (z ∷ bs) rs' gs' bs' e f g =
    ap (λ l. x ∷ y ∷ z ∷ l) (woven-append n rs gs bs rs' gs' bs' (omega arith) (omega arith) (omega arith))

length-woven : (n : ℕ) (rs gs bs : List ℕ) → length rs ≡ n → length gs ≡ n → length bs ≡ n → length (woven rs gs bs) ≡ 3 * n
length-woven n [] gs bs e f g = omega arith
length-woven n (x ∷ rs) [] bs e f g = absurd (omega arith)
length-woven n (x ∷ rs) (y ∷ gs) [] e f g = absurd (omega arith)
length-woven zero (x ∷ rs) (y ∷ gs) (z ∷ bs) e f g = absurd (omega arith)
length-woven (suc n) (x ∷ rs) (y ∷ gs) (z ∷ bs) e f g = omega (arith, length-woven n rs gs bs (omega arith) (omega arith) (omega arith))

-- of stages, one or three, that have equally many samples each
module _ (n : ℕ) (f : ℕ → List ℕ) (stages : List ℕ) (number : (length stages ≡ 1) ⊎ (length stages ≡ 3))
    (each : All (λ g. length (f g) ≡ n) stages) where
  interleaved-append : (h : ℕ → List ℕ) → interleaved (map (λ g. f g ++ h g) stages) ≡ interleaved (map f stages) ++ interleaved (map h stages)
  interleaved-append h =
      by_number
      (λ gs. All (λ g. length (f g) ≡ n) gs → interleaved (map (λ g. f g ++ h g) gs) ≡ interleaved (map f gs) ++ interleaved (map h gs))
      (λ g e. refl)
      (λ r g b e. woven-append n (f r) (f g) (f b) (h r) (h g) (h b) (e 0 0 (omega arith)) (e 1 0 (omega arith)) (e 2 0 (omega arith)))
      stages number each

  length-interleaved : length (interleaved (map f stages)) ≡ length stages * n
  length-interleaved =
      by_number (λ gs. All (λ g. length (f g) ≡ n) gs → length (interleaved (map f gs)) ≡ length gs * n)
      (λ g e. let one = e 0 0 (omega arith) in omega (arith, one))
      (λ r g b e. length-woven n (f r) (f g) (f b) (e 0 0 (omega arith)) (e 1 0 (omega arith)) (e 2 0 (omega arith)))
      stages number each

-- rows in bytes, where R k g are the samples of stage g in row k
module _ (max w : ℕ) (R : ℕ → ℕ → List ℕ) (stages : List ℕ) (number : (length stages ≡ 1) ⊎ (length stages ≡ 3))
    (each : (k : ℕ) → All (λ g. length (R k g) ≡ w) stages) where
  abbrev row_bytes : ℕ → List ℕ
  row_bytes k = raw_raster max (interleaved (map (R k) stages))

  rows_are_raster : (y n : ℕ)
      → flat_map row_bytes (range_with_len y n) ≡ raw_raster max (interleaved (map (λ g. flat_map (λ k. R k g) (range_with_len y n)) stages))
  rows_are_raster y zero =
      by_number (λ gs. [] ≡ raw_raster max (interleaved (map (λ g. []) gs))) (λ g. refl) (λ r g b. refl) stages number
  rows_are_raster y (suc n) =
      let rest : ℕ → List ℕ = λ g. flat_map (λ k. R k g) (range_with_len (y + 1) n) in
      ap (λ l. row_bytes y ++ l) (rows_are_raster (y + 1) n)
      ∙ sym (flat_map-append (sample_bytes max) (interleaved (map (R y) stages)) (interleaved (map rest stages)))
      ∙ ap (raw_raster max) (sym (interleaved-append w (R y) stages number (each y) rest))

  length-row_bytes : (k : ℕ) → length (row_bytes k) ≡ width_of max * (length stages * w)
  length-row_bytes k =
      length-raw_raster max (interleaved (map (R k) stages)) ∙ ap (λ n. n * width_of max) (length-interleaved w (R k) stages number (each k))
      ∙ omega arith

-- ---- the rows of a stage

over_rows : (cut : ℤ → ℕ) (f : ℤ → ℤ → ℤ) (cs : List ℤ) (lo v : ℤ) (y n : ℕ) → v ≡ lo +ℤ pos y
    → map (λ p. cut (f p.0 p.1)) (pairs (numbers_from v n) cs) ≡ flat_map (λ k. map cut (map (f (lo +ℤ pos k)) cs)) (range_with_len y n)
over_rows cut f cs lo v y zero at = refl
over_rows cut f cs lo v y (suc n) at =
    let h : ℤ × ℤ → ℕ = λ p. cut (f p.0 p.1) in
    map-append h (map (λ c. (v, c)) cs) (pairs (numbers_from (v +ℤ pos 1) n) cs)
    ∙ ap (λ (l : List ℕ). l ++ map h (pairs (numbers_from (v +ℤ pos 1) n) cs))
    (map-map h (λ c. (v, c)) cs ∙ sym (map-map cut (f v) cs) ∙ ap (λ r. map cut (map (f r) cs)) at)
    ∙ ap (λ (l : List ℕ). map cut (map (f (lo +ℤ pos y)) cs) ++ l) (over_rows cut f cs lo (v +ℤ pos 1) (y + 1) n (omega (arith, ints)))

module _ (job : Pipeline) (max g : ℕ) (s : Stage) (there : slice_get job.stages g ≡ Some s) where
  row_values_are : (y : ℕ) → row_values job y g ≡ map (value job g (s.domain.rows.lo +ℤ pos y)) (numbers_of s.domain.cols)
  row_values_are y =
      ap (λ found. option_map_or (λ (t : Stage). map (value job g (t.domain.rows.lo +ℤ pos y)) (numbers_of t.domain.cols)) found []) there

  samples_by_rows : samples job max g ≡ flat_map (λ y. row_samples job max y g) (range_with_len 0 (len_of s.domain.rows))
  samples_by_rows =
      let rows = s.domain.rows in
      let n = len_of rows in
      let lo : rows.lo ≡ rows.lo +ℤ pos 0 = omega (arith, ints) in
      ap (λ found. option_map_or (λ (t : Stage). samples_over job max g t.domain) found []) there
      ∙ over_rows (sample_of max) (value job g) (numbers_of s.domain.cols) rows.lo rows.lo 0 n lo
      ∙ (λ i. flat_map (λ y. map (sample_of max) (sym (row_values_are y) i)) (range_with_len 0 n))

  length-row_samples : (y : ℕ) → length (row_samples job max y g) ≡ len_of s.domain.cols
  length-row_samples y =
      let cols = s.domain.cols in
      length-map (row_values job y g) (sample_of max) ∙ ap length (row_values_are y)
      ∙ length-map (numbers_of cols) (value job g (s.domain.rows.lo +ℤ pos y)) ∙ length-numbers_from cols.lo (len_of cols)

-- ---- the rows of an output

module _ (job : Pipeline) (o : Output) (is : IsOutput job o) where
  abbrev row_width : ℕ
  row_width = Answers.width_of job (slice_index o.stages 0)

  even_rows : (y : ℕ) → All (λ g. length (row_samples job o.max y g) ≡ row_width) o.stages
  even_rows y =
      let h = height_of job (slice_index o.stages 0) in
      All-weaker (IsOutputPlane job h row_width) (λ g. length (row_samples job o.max y g) ≡ row_width)
      (λ g plane. length-row_samples job o.max g plane.stage plane.there y ∙ plane.cols) o.stages is.equal_sides

  pub raw_rows_are_raster : raw_rows job o 0 (height_of job (slice_index o.stages 0)) ≡ raw_raster o.max (interleaved (picture_of job o).planes)
  raw_rows_are_raster =
      let h = height_of job (slice_index o.stages 0) in
      let by_rows : ℕ → List ℕ = λ g. flat_map (λ y. row_samples job o.max y g) (range_with_len 0 h) in
      rows_are_raster o.max row_width (row_samples job o.max) o.stages is.planes even_rows 0 h
      ∙ ap (λ ps. raw_raster o.max (interleaved ps)) (sym (map_all (samples job o.max) by_rows o.stages
      (All-weaker (IsOutputPlane job h row_width) (λ g. samples job o.max g ≡ by_rows g)
      (λ g plane. samples_by_rows job o.max g plane.stage plane.there
      ∙ ap (λ n. flat_map (λ y. row_samples job o.max y g) (range_with_len 0 n)) plane.rows) o.stages is.equal_sides)))

  pub raw_row_len : (y : ℕ) → length (raw_row job o y) ≡ bytes_per_row job o
  raw_row_len y = length-row_bytes o.max row_width (row_samples job o.max) o.stages is.planes even_rows y

  pub raw_rows_len : (y n : ℕ) → length (raw_rows job o y n) ≡ n * bytes_per_row job o
  raw_rows_len y n = length-rows (raw_row job o) (bytes_per_row job o) raw_row_len y n

pub raw_rows_joined : (job : Pipeline) (o : Output) (y m n : ℕ) → raw_rows job o y (m + n) ≡ raw_rows job o y m ++ raw_rows job o (y + m) n
raw_rows_joined job o y m n =
    ap (flat_map (raw_row job o)) (range-append y m n) ∙ flat_map-append (raw_row job o) (range_with_len y m) (range_with_len (y + m) n)

-- ---- the row that lines have

pub raw_row_of_grey : (job : Pipeline) (o : Output) (y g : ℕ) (line : List ℤ) → o.stages ≡ g ∷ [] → line ≡ row_values job y g
    → raw_raster o.max (map (sample_of o.max) line) ≡ raw_row job o y
raw_row_of_grey job o y g line one is = rw (one, is) refl

pub raw_row_of_colours : (job : Pipeline) (o : Output) (y r g b : ℕ) (red green blue : List ℤ) → o.stages ≡ r ∷ g ∷ b ∷ []
    → red ≡ row_values job y r → green ≡ row_values job y g → blue ≡ row_values job y b
    → raw_raster o.max (woven (map (sample_of o.max) red) (map (sample_of o.max) green) (map (sample_of o.max) blue)) ≡ raw_row job o y
raw_row_of_colours job o y r g b red green blue three is_red is_green is_blue = rw (three, is_red, is_green, is_blue) refl
