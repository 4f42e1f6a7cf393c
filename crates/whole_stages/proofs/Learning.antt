-- What is read of a stage, one read after the other.
use Rattle.std.proofs.Common.{ℕ, ◌≡◌, ◌<◌, ◌+◌, List, Option, Some, None, length, map, below_more, slice_get, refl, subst, sym, ap, ◌∙◌}
use Rattle.std.specs.Prelude.{All, slice_index_or}
use Rattle.std.specs.Option.{option_map}
use Rattle.std.proofs.lemmas.List.Elements.{All-map}
use Rattle.std.proofs.lemmas.Option.{none-some, same_Some, slice_get-get_or}
use Rattle.job.specs.Pipeline.{Pipeline, Stage, rank_of}
use Rattle.job.specs.Reads.{Read, stage_read, reads_of}
use Rattle.job.specs.ReadViews.{read_view}
use Rattle.job.specs.declared.reads.Read.{Read as KeptRead}
use Rattle.job.specs.WellFormed.{IsJob}
use Rattle.job.proofs.Solving.{ranked_is}
use Rattle.job.proofs.Steps.{All-from_map}
use Rattle.job.proofs.Unrolling.{reads_fall}
use Rattle.whole_stages.specs.Known.{AreKnownOf}
use Rattle.whole_stages.specs.declared.buffers.StageBuffer.{StageBuffer}
use Rattle.whole_stages.specs.inside.Kept.{HasInputs, KnowsMore}

-- a stage that is there reads stages of lower ranks
pub read_falls : (job : Pipeline) → IsJob job → (g n : ℕ) (reads : List KeptRead) (d : KeptRead) (found : Option (List Read))
    → found ≡ option_map (λ s. reads_of s.body) (slice_get job.stages g) → found ≡ Some (map read_view reads) → n < length reads
    → rank_of job.stages (stage_read (read_view (slice_index_or reads n d))) < rank_of job.stages g
read_falls job h g n reads d found is some within = by (slice_get job.stages g) refl is
  where
    by : (o : Option Stage) → slice_get job.stages g ≡ o → found ≡ option_map (λ s. reads_of s.body) o
        → rank_of job.stages (stage_read (read_view (slice_index_or reads n d))) < rank_of job.stages g
    by None there e = absurd (none-some (map read_view reads) (sym e ∙ some))
    by (Some s) there e =
        let own : map read_view reads ≡ reads_of s.body = same_Some (map read_view reads) (reads_of s.body) (sym some ∙ e) in
        let falls = subst (All (λ x. rank_of job.stages (stage_read x) < rank_of job.stages g)) (sym own)
        (reads_fall job.stages (ranked_is job h) g s there) in
        All-from_map (λ x. rank_of job.stages (stage_read x) < rank_of job.stages g) read_view reads falls n d within

pub same_read : (reads : List KeptRead) (n : ℕ) (d e : KeptRead) → n < length reads → slice_index_or reads n d ≡ slice_index_or reads n e
same_read reads n d e within = same_Some _ _ (sym (slice_get-get_or reads n d within) ∙ slice_get-get_or reads n e within)

-- the values of what the first n reads take are known
abbrev pub AreReadTo : Pipeline → List (Option StageBuffer) → List KeptRead → ℕ → Type 0
AreReadTo job buffers reads n = (k : ℕ) (d : KeptRead) → k < n → AreKnownOf job buffers (stage_read (read_view (slice_index_or reads k d)))

-- they stay so, and one read more is taken
pub read_more : (job : Pipeline) (old new : List (Option StageBuffer)) (reads : List KeptRead) (n : ℕ) → KnowsMore old new
    → ((d : KeptRead) → AreKnownOf job new (stage_read (read_view (slice_index_or reads n d))))
    → AreReadTo job old reads n → AreReadTo job new reads (n + 1)
read_more job old new reads n more next known = λ k d h.
    below_more (λ j. (d : KeptRead) → AreKnownOf job new (stage_read (read_view (slice_index_or reads j d)))) n
    (λ j l d. λ s there valued. more (stage_read (read_view (slice_index_or reads j d))) (known j d l s there valued))
    next k h d

-- once all are taken, the stage has its inputs
pub all_read : (job : Pipeline) (g : ℕ) (buffers : List (Option StageBuffer)) (reads : List KeptRead) (found : Option (List Read))
    → found ≡ option_map (λ s. reads_of s.body) (slice_get job.stages g) → found ≡ Some (map read_view reads)
    → AreReadTo job buffers reads (length reads) → HasInputs job buffers g
all_read job g buffers reads found is some known s there =
    let own : map read_view reads ≡ reads_of s.body =
    same_Some (map read_view reads) (reads_of s.body) (sym some ∙ is ∙ ap (option_map (λ (t : Stage). reads_of t.body)) there) in
    subst (All (λ x. AreKnownOf job buffers (stage_read x))) own
    (All-map (λ x. AreKnownOf job buffers (stage_read x)) read_view reads known)

pub nothing_read : (job : Pipeline) (g : ℕ) (buffers : List (Option StageBuffer)) (found : Option (List Read))
    → found ≡ option_map (λ s. reads_of s.body) (slice_get job.stages g) → found ≡ None → HasInputs job buffers g
nothing_read job g buffers found is none s there =
    absurd (none-some (reads_of s.body) (sym none ∙ is ∙ ap (option_map (λ (t : Stage). reads_of t.body)) there))
