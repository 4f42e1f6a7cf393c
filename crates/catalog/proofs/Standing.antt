-- Which jobs stand in a catalog, and where.
use Rattle.std.proofs.Common.{ℕ, zero, suc, ◌+◌, ◌++◌, ◌<◌, ◌≤◌, ◌≡◌, ◌⊎◌, inl, inr, List, [], ◌∷◌, Some, length, map, get_or}
use Rattle.std.proofs.Common.{slice_get, subst, sym, ◌∙◌, ap, refl, arith}
use Rattle.std.specs.Option.{option_map}
use Rattle.std.proofs.lemmas.Bool.{cases_lt}
use Rattle.std.proofs.lemmas.List.{length-map}
use Rattle.std.proofs.lemmas.Option.{slice_get-map, slice_get_read, slice_get_within, same_Some, none-some}
use Rattle.job.specs.declared.job.Job.{Job}
use Rattle.job.specs.Kept.{pipeline_in, program_text_in}
use Rattle.job.specs.WellFormed.{IsJob}
use Rattle.identity.specs.declared.job_ids.JobId.{JobId}
use Rattle.catalog.specs.Entries.{Entry, entry_of, ids_of, AreJobs, StandsAt, IsCatalog}
use Rattle.catalog.specs.Refusals.{IsNew, IsAdmitted}

pub same_entry : (a b : Job) → pipeline_in a ≡ pipeline_in b → program_text_in a ≡ program_text_in b → entry_of a ≡ entry_of b
same_entry a b p t i = record { text = t i; pipeline = p i }

pub entry_at : (jobs : List Job) (n i : ℕ) (job : Job) → n ≡ length jobs → i < n → job ≡ get_or jobs i job
    → slice_get (map entry_of jobs) i ≡ Some (entry_of job)
entry_at jobs n i job e h is = slice_get-map entry_of jobs i ∙ ap (option_map entry_of) (slice_get_read jobs n i job e h is)

-- the job at a place where one of these identities stands
pub twin_at : (entries : List Entry) (jobs : List Job) (ids : JobId) (i : ℕ) (job : Job) → map entry_of jobs ≡ entries → StandsAt entries ids i
    → job ≡ get_or jobs i job → (slice_get entries i ≡ Some (entry_of job)) × (ids_of (entry_of job) ≡ ids)
twin_at entries jobs ids i job e at is =
    let all : length jobs ≡ length entries = sym (length-map jobs entry_of) ∙ ap length e in
    let within = slice_get_within entries i at.0 at.1 in
    let there : slice_get entries i ≡ Some (entry_of job) =
    subst (λ (es : List Entry). slice_get es i ≡ Some (entry_of job)) e (entry_at jobs (length jobs) i job refl (omega (arith, all, within)) is) in
    (there, ap ids_of (sym (same_Some at.0 (entry_of job) (sym at.1 ∙ there))) ∙ at.2)

-- each job is well formed, so each entry is
pub all_jobs : (jobs : List Job) → AreJobs (map entry_of jobs)
all_jobs [] i entry there = absurd (none-some entry there)
all_jobs (job ∷ jobs) zero entry there = subst (λ (e : Entry). IsJob e.pipeline) (same_Some (entry_of job) entry there) job.well
all_jobs (job ∷ jobs) (suc i) entry there = all_jobs jobs i entry there

-- ---- a loop over the places

pub none_more : (entries : List Entry) (ids : JobId) (i : ℕ) (entry : Entry) → slice_get entries i ≡ Some entry → ¬ (ids_of entry ≡ ids)
    → ((k : ℕ) → k < i → ¬ (StandsAt entries ids k)) → (k : ℕ) → k < i + 1 → ¬ (StandsAt entries ids k)
none_more entries ids i entry there other before k h at = by_place (cases_lt k i)
  where
    by_place : (k < i) ⊎ (i ≤ k) → ⊥
    by_place (inl l) = before k l at
    by_place (inr m) =
        let same : k ≡ i = omega arith in
        other (subst (λ (e : Entry). ids_of e ≡ ids) (same_Some at.0 entry (sym at.1 ∙ ap (slice_get entries) same ∙ there)) at.2)

pub none_at_all : (entries : List Entry) (ids : JobId) (n : ℕ) → length entries ≤ n → ((k : ℕ) → k < n → ¬ (StandsAt entries ids k)) → (k : ℕ)
    → ¬ (StandsAt entries ids k)
none_at_all entries ids n few none k at =
    let within = slice_get_within entries k at.0 at.1 in none k (omega (arith, few, within)) at

-- ---- one job more

place_of : (xs : List Entry) (y : Entry) (i : ℕ) (x : Entry) → slice_get (xs ++ y ∷ []) i ≡ Some x
    → (slice_get xs i ≡ Some x) ⊎ ((i ≡ length xs) × (x ≡ y))
place_of [] y zero x e = inr (refl, sym (same_Some y x e))
place_of [] y (suc i) x e = absurd (none-some x e)
place_of (z ∷ zs) y zero x e = inl e
place_of (z ∷ zs) y (suc i) x e = later (place_of zs y i x e)
  where
    later : (slice_get zs i ≡ Some x) ⊎ ((i ≡ length zs) × (x ≡ y)) → (slice_get zs i ≡ Some x) ⊎ ((suc i ≡ suc (length zs)) × (x ≡ y))
    later (inl at) = inl at
    later (inr last) = inr (ap suc last.0, last.1)

one_place : (xs : List Entry) (y : Entry) → IsCatalog xs → IsNew xs y → (ids : JobId) (i j : ℕ)
    → (a : StandsAt (xs ++ y ∷ []) ids i) (b : StandsAt (xs ++ y ∷ []) ids j)
    → (slice_get xs i ≡ Some a.0) ⊎ ((i ≡ length xs) × (a.0 ≡ y)) → (slice_get xs j ≡ Some b.0) ⊎ ((j ≡ length xs) × (b.0 ≡ y)) → i ≡ j
one_place xs y c new ids i j a b (inl p) (inl q) = c.apart ids i j (a.0, p, a.2) (b.0, q, b.2)
one_place xs y c new ids i j a b (inl p) (inr q) = absurd (new i (a.0, p, a.2 ∙ sym b.2 ∙ ap ids_of q.1))
one_place xs y c new ids i j a b (inr p) (inl q) = absurd (new j (b.0, q, b.2 ∙ sym a.2 ∙ ap ids_of p.1))
one_place xs y c new ids i j a b (inr p) (inr q) = p.0 ∙ sym q.0

pub catalog_more : (xs : List Entry) (y : Entry) → IsCatalog xs → IsAdmitted xs y → IsCatalog (xs ++ y ∷ [])
catalog_more xs y c h = record {
  apart = λ ids i j a b. one_place xs y c h.0 ids i j a b (place_of xs y i a.0 a.1) (place_of xs y j b.0 b.1);
  few = let room = h.1 in let all = one_longer xs y in omega (arith, room, all);
}
  where
    one_longer : (xs : List Entry) (y : Entry) → length (xs ++ y ∷ []) ≡ suc (length xs)
    one_longer [] y = refl
    one_longer (x ∷ xs) y = ap suc (one_longer xs y)
