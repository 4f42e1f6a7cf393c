-- Rows of a picture: how long their lines are, and one more after those that are written.
use Rattle.std.proofs.Common.{◌≡◌, ℕ, suc, ◌+◌, ◌*◌, ◌<◌, ◌≤◌, ℤ, pos, ◌+ℤ◌, List, [], ◌++◌, get_or, length, map, take, sym, ap, ◌∙◌, arith, le_trans, le_of_eq}
use Rattle.std.specs.Prelude.{slice_index}
use Rattle.std.specs.Option.{option_map_or}
use Rattle.std.proofs.Math.Nat.{mul-le-mul_right, suc-mul}
use Rattle.std.proofs.lemmas.List.{length-map}
use Rattle.std.proofs.lemmas.Slice.{take-put_mid}
use borrow.Rule.Slice.PartMut.{put_mid}
use Rattle.domains.specs.Span.{len_of, numbers_of}
use Rattle.domains.proofs.Spans.{length-numbers_from}
use Rattle.job.specs.Answers.{height_of, width_of}
use Rattle.job.specs.Pipeline.{Output, Pipeline, Stage}
use Rattle.job.specs.Values.{value}
use Rattle.job.specs.WellFormed.{IsOutput, IsOutputPlane}
use Rattle.netpbm.specs.Raw as raw
use Rattle.raw_rows.specs.Rows.{bytes_per_row, raw_rows, row_values}
use Rattle.raw_rows.proofs.RowLaws.{raw_rows_joined}

pub row_values-len : (job : Pipeline) (height width y g : ℕ) → IsOutputPlane job height width g → length (row_values job y g) ≡ width
row_values-len job height width y g is =
    let line : Stage → List ℤ = λ s. map (λ c. value job g (s.domain.rows.lo +ℤ pos y) c) (numbers_of s.domain.cols) in
    let cols = is.stage.domain.cols in
    ap (λ found. length (option_map_or line found [])) is.there
    ∙ length-map (numbers_of cols) (λ c. value job g (is.stage.domain.rows.lo +ℤ pos y) c) ∙ length-numbers_from cols.lo (len_of cols) ∙ is.cols

-- a line of an output is as long as its rows are wide
pub line_len : (job other : Pipeline) (o : Output) (y k d : ℕ) (stages : List ℕ) (line : List ℤ) → IsOutput job o → other ≡ job
    → stages ≡ o.stages → k < length stages → line ≡ row_values other y (get_or stages k d)
    → length line ≡ width_of job (slice_index o.stages 0)
line_len job other o y k d stages line formed same its lt is =
    let there : k < length o.stages = omega (arith, ap length its) in
    ap length is ∙ ap (λ p. length (row_values p y (get_or stages k d))) same ∙ ap (λ gs. length (row_values job y (get_or gs k d))) its
    ∙ row_values-len job (height_of job (slice_index o.stages 0)) (width_of job (slice_index o.stages 0)) y (get_or o.stages k d)
    (formed.equal_sides k d there)

-- so a row has the bytes of so many lines
pub row_of_lines : (job : Pipeline) (o : Output) (planes : ℕ) (line : List ℤ) → length o.stages ≡ planes
    → length line ≡ width_of job (slice_index o.stages 0) → bytes_per_row job o ≡ raw.width_of o.max * (planes * length line)
row_of_lines job o planes line number long =
    ap (λ n. raw.width_of o.max * (n * width_of job (slice_index o.stages 0))) number ∙ ap (λ w. raw.width_of o.max * (planes * w)) (sym long)

-- the bytes of a line lie within those of all
pub line_within : (k count len all : ℕ) → k < count → all ≡ count * len → k * len + len ≤ all
line_within k count len all h e =
    let next : suc k ≤ count = omega arith in
    rw e (le_trans (le_of_eq (sym (suc-mul k len))) (mul-le-mul_right len next))

-- one row more is written
pub rows_more : (job : Pipeline) (o : Output) (y k len n : ℕ) (out row : List ℕ) → take (k * len) out ≡ raw_rows job o y k
    → k * len ≤ length out → length row ≡ len → row ≡ raw_rows job o (y + k) 1
    → take ((k + 1) * len) (put_mid (k * len) n out row) ≡ raw_rows job o y (k + 1)
rows_more job o y k len n out row before within long is =
    let next : k + 1 ≡ suc k = omega arith in
    let end : (k + 1) * len ≡ k * len + length row = ap (λ m. m * len) next ∙ suc-mul k len ∙ ap (λ m. k * len + m) (sym long) in
    take-put_mid (k * len) n out row ((k + 1) * len) end within
    ∙ ap (λ xs. xs ++ row) before ∙ ap (λ xs. raw_rows job o y k ++ xs) is
    ∙ sym (raw_rows_joined job o y k 1)
