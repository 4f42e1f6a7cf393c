-- A line of totals is the line of a table.
use Rattle.std.proofs.Common.{◌≡◌, ◌∙◌, ℕ, ℤ, ◌+◌, ◌++◌, List, [], ◌∷◌, Option, None, Some, FitsSigned, w64, ap, arith, drop, rules, length, map, position, slice_get, pos, negsuc, ◌≤ℤ◌, refl, subst, sym, take}
use Rattle.std.specs.Prelude.{All, ◌==◌, false}
use Rattle.std.specs.Fmt.{signed_decimal}
use Rattle.std.specs.List.{flat_map, range_with_len}
use Rattle.std.specs.Option.{option_map_or}
use Rattle.std.proofs.Math.Seq.{drop-append-add, take-append_seam}
use Rattle.std.proofs.lemmas.Int.{ints}
use Rattle.std.proofs.lemmas.List.{append_assoc, length-map}
use Rattle.std.proofs.lemmas.List.Elements.{All-append, All-cons}
use Rattle.domains.specs.Span.{Ends, len_of, numbers_of}
use Rattle.domains.proofs.Places.{all_at}
use Rattle.domains.proofs.Spans.{length-numbers_from}
use Rattle.operators.specs.declared.operator.ReductionOp.{ReductionOp}
use Rattle.job.specs.Answers.{is_accumulator}
use Rattle.job.specs.Formula.{Formula}
use Rattle.job.specs.Pipeline.{Body, accumulator, function, plane, Stage, Pipeline}
use Rattle.job.specs.Totals.{body_totals, totals}
use Rattle.job.specs.Values.{value as value_of}
use Rattle.job.specs.WellFormed.{IsBody, IsJob}
use Rattle.job.proofs.TotalsFit.{job_totals_fit_in_64_bits}
use Rattle.tables.specs.Entries.{AreIndices}
use Rattle.tables.specs.Lines.{IsTableLine, TellTable, parts}
use Rattle.tables.specs.declared.table.Table.{Table}
use Rattle.command_jobs.specs.Results.{bin_text, body_line, line_at, total_line}
use Rattle.binding.specs.Binding.{settings_for}
use Rattle.command_inputs.specs.Input.{program_at}
use Rattle.command_inputs.specs.Tables.{AreTableLines, BeginsWithLine}
use Rattle.command_jobs.specs.TotalTables.{AreInputLinesOfTables, AreTableTotals, IsTotalLineOfTable, body_tables, table_of_totals, tables_at}
use Rattle.command_jobs.proofs.TotalNames.{IsNamed, accumulators_are_named}
use Rattle.command_jobs.proofs.TotalWords.{Lacks, bin_words, bins_lack, blank, ends_spelled, first_part, first_place, line_feed, name_lacks, numbers_spelled, span_word, span_word_lacks}

-- the line without its line feed
abbrev body : List ℕ → Ends → List ℤ → List ℕ
body name ends bins = name ++ 32 ∷ (span_word ends.lo ends.hi ++ flat_map bin_text bins)

line_parts : (name : List ℕ) (ends : Ends) (bins : List ℤ) (rest : List ℕ)
    → total_line name ends bins ++ rest ≡ body name ends bins ++ 10 ∷ rest
line_parts name ends bins rest = regroup name (signed_decimal ends.lo) (signed_decimal ends.hi) (flat_map bin_text bins) rest
  where
    regroup : (a b c d e : List ℕ)
        → (((a ++ ((((32 ∷ [] ++ b) ++ 46 ∷ 46 ∷ []) ++ c) ++ 58 ∷ [])) ++ d) ++ 10 ∷ []) ++ e
        ≡ (a ++ 32 ∷ (((b ++ 46 ∷ 46 ∷ c) ++ 58 ∷ []) ++ d)) ++ 10 ∷ e
    regroup a b c d e = simp append_assoc

near_fits : (z : ℤ) → negsuc 16383 ≤ℤ z → z ≤ℤ pos 16384 → FitsSigned w64 z
near_fits z least most = omega (arith, ints, least, most)

index_fits : (span : Ends) → AreIndices span → FitsSigned w64 span.lo × FitsSigned w64 span.hi
index_fits span are = (
  near_fits span.lo are.least (search rules),
  near_fits span.hi (search rules) are.most,
)

body_lacks : (name : List ℕ) (ends : Ends) (bins : List ℤ) → AreTableTotals name ends bins → Lacks 10 (body name ends bins)
body_lacks name ends bins are =
    let P : ℕ → Type 0 = λ b. (b == 10) ≡ false in
    let fit = index_fits ends are.shape.indices in
    All-append P name (32 ∷ (span_word ends.lo ends.hi ++ flat_map bin_text bins)) (name_lacks 10 name refl refl are.named.name)
    (All-cons P 32 (span_word ends.lo ends.hi ++ flat_map bin_text bins) refl
    (All-append P (span_word ends.lo ends.hi) (flat_map bin_text bins)
    (span_word_lacks 10 ends.lo ends.hi line_feed (λ e. omega (arith, e)) (λ e. omega (arith, e)) fit.0 fit.1)
    (bins_lack bins are.fit)))

body_words : (name : List ℕ) (ends : Ends) (bins : List ℤ) → AreTableTotals name ends bins
    → parts 32 (body name ends bins) ≡ name ∷ span_word ends.lo ends.hi ∷ map signed_decimal bins
body_words name ends bins are =
    let fit = index_fits ends are.shape.indices in
    first_part 32 name (span_word ends.lo ends.hi ++ flat_map bin_text bins) (name_lacks 32 name refl refl are.named.name)
    ∙ ap (λ (ws : List (List ℕ)). name ∷ ws)
    (bin_words (span_word ends.lo ends.hi) bins
    (span_word_lacks 32 ends.lo ends.hi blank (λ e. omega (arith, e)) (λ e. omega (arith, e)) fit.0 fit.1) are.fit)

body_is_table_line : (name : List ℕ) (ends : Ends) (bins : List ℤ) → AreTableTotals name ends bins
    → IsTableLine (body name ends bins) (table_of_totals name ends bins)
body_is_table_line name ends bins are =
    let fit = index_fits ends are.shape.indices in
    subst (λ (ws : List (List ℕ)). TellTable ws (table_of_totals name ends bins)) (sym (body_words name ends bins are)) (record {
      named = are.named;
      name_is = refl;
      span = ends;
      ends_are = ends_spelled ends fit.0 fit.1 are.shape.indices;
      lo_is = refl;
      shape = record {
        indices = are.shape.indices;
        size = length-map bins signed_decimal ∙ are.shape.size;
        few = omega (arith, length-map bins signed_decimal, are.shape.few);
      };
      numbers = bins;
      spelled = numbers_spelled bins are.fit;
      values_are = refl;
    })

begins_with_line : (line rest section : List ℕ) → Lacks 10 line → section ≡ line ++ 10 ∷ rest → BeginsWithLine section line rest
begins_with_line line rest section lack is = record {
  at = length line;
  ends = ap (position (λ byte. byte == 10)) is ∙ first_place 10 line rest lack;
  before = sym (ap (take (length line)) is ∙ take-append_seam line (10 ∷ rest));
  behind = sym (ap (drop (length line + 1)) is ∙ drop-append-add line (10 ∷ rest) 1);
}

begins_with_table : (name : List ℕ) (ends : Ends) (bins : List ℤ) (rest : List ℕ) → AreTableTotals name ends bins
    → BeginsWithLine (total_line name ends bins ++ rest) (body name ends bins) rest
begins_with_table name ends bins rest are =
    begins_with_line (body name ends bins) rest (total_line name ends bins ++ rest) (body_lacks name ends bins are) (line_parts name ends bins rest)

pub total_line_of_table : IsTotalLineOfTable
total_line_of_table name ends bins rest are =
    (body name ends bins, rest, begins_with_table name ends bins rest are, body_is_table_line name ends bins are, refl)

-- ---- the totals of a job

-- there is a total for each bin
total_count : (job : Pipeline) (g : ℕ) (s : Stage) (way : ReductionOp) (bins : Ends) (value bin : Formula)
    → slice_get job.stages g ≡ Some s → s.body ≡ accumulator way bins value bin → length (totals job g) ≡ len_of bins
total_count job g s way bins value bin there is =
    ap (λ (o : Option Stage). length (option_map_or (λ (t : Stage). body_totals (value_of job) t.domain t.body) o [])) there
    ∙ ap (λ (b : Body). length (body_totals (value_of job) s.domain b)) is
    ∙ length-map (numbers_of bins) _
    ∙ length-numbers_from bins.lo (len_of bins)

module _ (job : Pipeline) (is_job : IsJob job) (named : All IsNamed job.stages) where
  job_totals : (g : ℕ) (s : Stage) (way : ReductionOp) (bins : Ends) (value bin : Formula) → slice_get job.stages g ≡ Some s
      → s.body ≡ accumulator way bins value bin → AreTableTotals s.name bins (totals job g)
  job_totals g s way bins value bin there is =
      let (range, few) = subst (IsBody job.picture s.domain) is (is_job.stages g s there).body in
      let count = total_count job g s way bins value bin there is in
      record {
        named = all_at IsNamed job.stages g s named there (ap is_accumulator is);
        shape = record {
          indices = record { least = range.least; ordered = range.span.ordered; most = range.most };
          size = count;
          few = omega (arith, count, few);
        };
        fit = job_totals_fit_in_64_bits job is_job g;
      }

  -- one line more
  body_lines : (g : ℕ) (s : Stage) (b : Body) (more : List ℕ) (ts : List Table) (rest : List ℕ) → slice_get job.stages g ≡ Some s
      → s.body ≡ b → AreTableLines more ts rest → AreTableLines (body_line job g s b ++ more) (body_tables job g s b ++ ts) rest
  body_lines g s (plane n) more ts rest there is are = are
  body_lines g s (function pieces otherwise) more ts rest there is are = are
  body_lines g s (accumulator way bins value bin) more ts rest there is are =
      let own = job_totals g s way bins value bin there is in (
        body s.name bins (totals job g),
        more,
        begins_with_table s.name bins (totals job g) more own,
        body_is_table_line s.name bins (totals job g) own,
        are,
      )

  stage_lines : (g : ℕ) (o : Option Stage) (more : List ℕ) (ts : List Table) (rest : List ℕ) → slice_get job.stages g ≡ o
      → AreTableLines more ts rest
      → AreTableLines (option_map_or (λ s. body_line job g s s.body) o [] ++ more) (option_map_or (λ s. body_tables job g s s.body) o [] ++ ts) rest
  stage_lines g None more ts rest there are = are
  stage_lines g (Some s) more ts rest there are = body_lines g s s.body more ts rest there refl are

  lines_along : (gs : List ℕ) (rest : List ℕ) → AreTableLines (flat_map (line_at job) gs ++ rest) (flat_map (tables_at job) gs) rest
  lines_along [] rest = refl
  lines_along (g ∷ gs) rest =
      subst (λ (text : List ℕ). AreTableLines text (flat_map (tables_at job) (g ∷ gs)) rest)
      (sym (append_assoc (line_at job g) (flat_map (line_at job) gs) rest))
      (stage_lines g (slice_get job.stages g) (flat_map (line_at job) gs ++ rest) (flat_map (tables_at job) gs) rest refl (lines_along gs rest))

pub input_lines_of_tables : AreInputLinesOfTables
input_lines_of_tables input given sides items job rest is is_job =
    let bound = is.made.says in
    let p = program_at items bound.ranks (settings_for bound.image is.source is.made.chosen) is.tables in
    let named = accumulators_are_named is.read.text items p is.read.spelled.program in
    lines_along job is_job (subst (λ (j : Pipeline). All IsNamed j.stages) (sym bound.is) named) (range_with_len 0 (length job.stages)) rest
