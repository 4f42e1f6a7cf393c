use Rattle.std.proofs.Common.{rules, arith, ◌≡◌, ◌<◌, ◌≤◌, ◌+◌, ◌*◌, ◌/◌, ◌+ℤ◌, pos, take, drop, get_or, length, [], ap, ◌∙◌}
use Rattle.std.proofs.Common.{ℕ, ℤ, List, w32, w64, to_z, of_z, FitsSigned}
use Rattle.std.specs.Int.{from_le_bytes}
use Rattle.std.proofs.lemmas.Int.{to_z-of_z}
use Rattle.operators.specs.declared.operator.ReductionOp.TheVariants.{Sum}
use Rattle.job.specs.Totals.{joined}
use Rattle.tile_eval.specs.Rows.{at}
use Rattle.reductions.specs.inside.Gathering.{after_values}
use Rattle.reductions.proofs.ByteWords.{counted, word_at, word_first, word_more, word_read}
use Rattle.reductions.proofs.byte_bins.add_number_to_bins_of_byte_words.Goals as goal

pub loop-word-preserved : goal.loop-word-preserved
loop-word-preserved c = λ j h.
    let i : ℕ = c.loop-word.word-index in
    let bytes : List ℕ = c.args.bytes.now in
    let x : ℤ = to_z w32 (of_z w32 c.args.number) in
    let b : ℤ = pos 0 +ℤ pos j in
    let word : List ℕ = take 8 (drop (8 * i) bytes) in
    let pairs = c.add_number_to_bins_of_byte_pairs in
    let small : (k : ℕ) → get_or bytes k 0 < 256 = search rules in
    let below : i < length bytes / 8 = omega (arith, c.loop-word-test.true, c.as_chunks.ensures.front_len) in
    let there : 8 * i + 8 ≤ length bytes = omega (arith, below) in
    let item : get_or c.as_chunks.result.0.now i [] ≡ word = ap (λ ws. get_or ws i []) c.as_chunks.ensures.front ∙ word_at (length bytes / 8) bytes i below in
    let read : c.from_le_bytes.result ≡ from_le_bytes w64 word = c.from_le_bytes.ensures ∙ ap (from_le_bytes w64) item in
    let made : c.to_le_bytes-word.result ≡ word = c.to_le_bytes-word.ensures ∙ word_read bytes small i there c.from_le_bytes.result read in
    let inside : j < length c.loop-word.bins = omega (arith, h, pairs.auto.bins) in
    word_more x b word (drop (8 * (i + 1)) bytes) (joined Sum (at c.loop-word.bins j) (at c.loop-word.second j))
    (joined Sum (at pairs.new.bins j) (at pairs.new.second j))
    (after_values Sum (joined Sum (at c.args.bins.now j) (at c.args.second.now j)) (counted x bytes b))
    (pairs.ensures j inside
    ∙ ap (λ (ys : List ℕ). after_values Sum (joined Sum (at c.loop-word.bins j) (at c.loop-word.second j)) (counted x ys b)) made)
    (ap (λ (ys : List ℕ). after_values Sum (joined Sum (at c.loop-word.bins j) (at c.loop-word.second j)) (counted x ys b))
    (word_first bytes small i there)
    ∙ c.loop-word.invariant j inside)

pub returns : goal.returns
returns c = λ j h.
    let i : ℕ = c.loop-word.word-index in
    let bytes : List ℕ = c.args.bytes.now in
    let x : ℤ = to_z w32 (of_z w32 c.args.number) in
    let fits : FitsSigned w32 c.args.number = search rules in
    let same : x ≡ c.args.number = to_z-of_z w32 c.args.number fits in
    let b : ℤ = pos 0 +ℤ pos j in
    let pairs = c.add_number_to_bins_of_byte_pairs-2 in
    let inside : j < length c.loop-word.bins = omega (arith, h, c.loop-word.auto.bins) in
    let all : length bytes / 8 * 8 ≡ 8 * i =
    omega (arith, c.loop-word-test.false, c.loop-word.auto.word-index-end, c.as_chunks.ensures.front_len) in
    let rest : c.as_chunks.result.1.now ≡ drop (8 * i) bytes = c.as_chunks.ensures.back ∙ ap (λ (m : ℕ). drop m bytes) all in
    let so_far : ℤ = joined Sum (at c.loop-word.bins j) (at c.loop-word.second j) in
    pairs.ensures j inside
    ∙ ap (λ (ys : List ℕ). after_values Sum so_far (counted x ys b)) rest
    ∙ c.loop-word.invariant j inside
    ∙ ap (λ (z : ℤ). after_values Sum (joined Sum (at c.args.bins.now j) (at c.args.second.now j)) (counted z bytes b)) same
