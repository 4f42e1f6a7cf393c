-- Strips, one after the other, are the rows of a picture.
use Rattle.std.proofs.Common.{◌≡◌, ℕ, zero, suc, ◌+◌, ◌-◌, ◌*◌, ◌<◌, ◌≤◌, ◌++◌, min, sym, ap, ◌∙◌, arith}
use Rattle.std.specs.Int.{div_ceil}
use Rattle.std.specs.List.{flat_map, range_with_len}
use Rattle.std.proofs.Math.Nat.{mul-le-mul_right, suc-mul}
use Rattle.std.proofs.lemmas.Grind.{div_ceil_times}
use Rattle.job.specs.Pipeline.{Output, Pipeline}
use Rattle.raw_rows.specs.Rows.{raw_rows}
use Rattle.raw_rows.proofs.RowLaws.{raw_rows_joined}
use Rattle.row_streams.specs.Strips.{row_count, strip_bytes, strip_end, strip_start}

module _ (job : Pipeline) (o : Output) (len : ℕ) where
  -- a strip begins where the one before it ends
  next_start : (k : ℕ) → strip_start (row_count job o) len (k + 1) ≡ strip_end (row_count job o) len k
  next_start k = let next : k + 1 ≡ suc k = omega arith in ap (λ n. min n (row_count job o)) (ap (λ m. m * len) next ∙ suc-mul k len)

  -- rows up to e, and those from there up to f
  join_at : (a e b f : ℕ) → a ≤ e → b ≡ e → e ≤ f → raw_rows job o a (e - a) ++ raw_rows job o b (f - b) ≡ raw_rows job o a (f - a)
  join_at a e b f le at up =
      let begin : b ≡ a + (e - a) = omega arith in
      let rest : (e - a) + (f - b) ≡ f - a = omega arith in
      ap (λ m. raw_rows job o a (e - a) ++ raw_rows job o m (f - b)) begin ∙ sym (raw_rows_joined job o a (e - a) (f - b))
      ∙ ap (raw_rows job o a) rest

  -- the strips from k on, n of them
  strips_from : (k n : ℕ)
      → flat_map (strip_bytes job o len) (range_with_len k n)
      ≡ raw_rows job o (strip_start (row_count job o) len k)
      (strip_start (row_count job o) len (k + n) - strip_start (row_count job o) len k)
  strips_from k zero =
      let same : k + 0 ≡ k = omega arith in
      let start = strip_start (row_count job o) len in
      let none : 0 ≡ start k - start k = omega arith in
      ap (raw_rows job o (start k)) (none ∙ ap (λ m. start m - start k) (sym same))
  strips_from k (suc n) =
      let start = strip_start (row_count job o) len in
      let same : (k + 1) + n ≡ k + suc n = omega arith in
      let up : (k + 1) * len ≤ ((k + 1) + n) * len = mul-le-mul_right len (omega arith) in
      let next = next_start k in
      ap (λ l. strip_bytes job o len k ++ l) (strips_from (k + 1) n)
      ∙ join_at (start k) (strip_end (row_count job o) len k) (start (k + 1)) (start ((k + 1) + n)) (omega arith) next (omega arith)
      ∙ ap (λ m. raw_rows job o (start k) (start m - start k)) same

  pub strips_are_rows : 0 < len
      → flat_map (strip_bytes job o len) (range_with_len 0 (div_ceil (row_count job o) len)) ≡ raw_rows job o 0 (row_count job o)
  strips_are_rows some =
      let count = div_ceil (row_count job o) len in
      let start = strip_start (row_count job o) len in
      let all = (div_ceil_times (row_count job o) len some).0 in
      let first : start 0 ≡ 0 = omega arith in
      let same : 0 + count ≡ count = omega arith in
      let last : start count - 0 ≡ row_count job o = omega arith in
      strips_from 0 count ∙ ap (λ m. raw_rows job o m (start (0 + count) - m)) first
      ∙ ap (λ m. raw_rows job o 0 (start m - 0)) same ∙ ap (raw_rows job o 0) last
