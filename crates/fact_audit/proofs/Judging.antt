-- No fact has two verdicts, and no key two true facts.
use Rattle.std.proofs.Common.{◌≡◌, List, slice_get, subst, sym, ap, ◌∙◌, refl}
use Rattle.std.proofs.lemmas.Option.{same_Some}
use Rattle.catalog.specs.Entries.{Entry, ids_in, IsCatalog}
use Rattle.identity.specs.declared.key.Key.{Key}
use Rattle.job.specs.Pipeline.{Pipeline}
use Rattle.tile_fact.specs.declared.body.Body.{Body}
use Rattle.tile_fact.specs.declared.body.Body.TheVariants.{Tile, Partial}
use Rattle.tile_fact.specs.declared.fact.Fact.{Fact}
use Rattle.fact_audit.specs.declared.verdict.Verdict.{Verdict}
use Rattle.fact_audit.specs.declared.verdict.Verdict.TheVariants.{Foreign, Misshapen, True, False}
use Rattle.fact_audit.specs.Shapes.{BodyFits, FitsJob}
use Rattle.fact_audit.specs.TrueFacts.{BodyIsTrue, IsTrueOf, HasJob, IsTrueFact}
use Rattle.fact_audit.specs.Verdicts.{IsJobVerdict, IsVerdict}
use Rattle.fact_audit.proofs.OneTile.{one_tile, tile_fits, one_partial, partial_fits, no_both}

-- ---- bodies

body_fits : (job : Pipeline) (key : Key) (b : Body) → BodyIsTrue job key b → BodyFits job key b
body_fits job key (Tile samples) p = tile_fits job key.stage key.row key.col samples p
body_fits job key (Partial bins) p = partial_fits job key.stage key.row key.col bins p

pub true_fits : (job : Pipeline) (fact : Fact) → IsTrueOf fact job → FitsJob fact job
true_fits job fact p = body_fits job fact.key fact.body p

one_body : (job : Pipeline) (key : Key) (a b : Body) → BodyIsTrue job key a → BodyIsTrue job key b → a ≡ b
one_body job key (Tile xs) (Tile ys) p q = ap Tile (one_tile job key.stage key.row key.col xs ys p q)
one_body job key (Tile xs) (Partial ys) p q = absurd (no_both job key.stage key.row key.col p.area q.area p.tile q.tile)
one_body job key (Partial xs) (Tile ys) p q = absurd (no_both job key.stage key.row key.col q.area p.area q.tile p.tile)
one_body job key (Partial xs) (Partial ys) p q = ap Partial (one_partial job key.stage key.row key.col xs ys p q)

-- ---- jobs

-- what holds of the job of a key by two accounts holds of one
both : (catalog : List Entry) (key : Key) (P Q : Pipeline → Type 0) → IsCatalog catalog → HasJob catalog key P → HasJob catalog key Q
    → (job : Pipeline) × P job × Q job
both catalog key P Q c p q =
    let place = c.apart (ids_in key) p.index q.index (p.entry, p.there, p.ids) (q.entry, q.there, q.ids) in
    let same = same_Some p.entry q.entry (sym p.there ∙ ap (slice_get catalog) place ∙ q.there) in
    (q.entry.pipeline, subst (λ (e : Entry). P e.pipeline) same p.holds, q.holds)

pub one_true : (catalog : List Entry) (a b : Fact) → IsCatalog catalog → IsTrueFact catalog a → IsTrueFact catalog b → a.key ≡ b.key → a ≡ b
one_true catalog a b c p q e =
    let there = subst (λ (key : Key). HasJob catalog key (λ job. BodyIsTrue job key b.body)) (sym e) q in
    let held = both catalog a.key (λ job. BodyIsTrue job a.key a.body) (λ job. BodyIsTrue job a.key b.body) c p there in
    let same = one_body held.0 a.key a.body b.body held.1 held.2 in
    λ i. record { key = e i; body = same i }

-- ---- verdicts

not_foreign : (catalog : List Entry) (fact : Fact) (P : Pipeline → Type 0) → HasJob catalog fact.key P → ¬ (IsVerdict catalog fact Foreign)
not_foreign catalog fact P p none = none p.index (p.entry, p.there, p.ids)

not_misshapen : (catalog : List Entry) (fact : Fact) (P : Pipeline → Type 0) → ((job : Pipeline) → P job → FitsJob fact job)
    → IsCatalog catalog
    → HasJob catalog fact.key P → ¬ (IsVerdict catalog fact Misshapen)
not_misshapen catalog fact P fits c p q =
    let held = both catalog fact.key P (λ job. ¬ (FitsJob fact job)) c p q in held.2 (fits held.0 held.1)

pub one_verdict : (catalog : List Entry) (fact : Fact) (v w : Verdict) → IsCatalog catalog → IsVerdict catalog fact v
    → IsVerdict catalog fact w → v ≡ w
one_verdict catalog fact Foreign Foreign c p q = refl
one_verdict catalog fact Foreign Misshapen c p q = absurd (not_foreign catalog fact (λ job. ¬ (FitsJob fact job)) q p)
one_verdict catalog fact Foreign True c p q = absurd (not_foreign catalog fact (IsTrueOf fact) q p)
one_verdict catalog fact Foreign False c p q = absurd (not_foreign catalog fact (FitsJob fact) q.0 p)
one_verdict catalog fact Misshapen Foreign c p q = absurd (not_foreign catalog fact (λ job. ¬ (FitsJob fact job)) p q)
one_verdict catalog fact Misshapen Misshapen c p q = refl
one_verdict catalog fact Misshapen True c p q = absurd (not_misshapen catalog fact (IsTrueOf fact) (λ job. true_fits job fact) c q p)
one_verdict catalog fact Misshapen False c p q = absurd (not_misshapen catalog fact (FitsJob fact) (λ job fits. fits) c q.0 p)
one_verdict catalog fact True Foreign c p q = absurd (not_foreign catalog fact (IsTrueOf fact) p q)
one_verdict catalog fact True Misshapen c p q = absurd (not_misshapen catalog fact (IsTrueOf fact) (λ job. true_fits job fact) c p q)
one_verdict catalog fact True True c p q = refl
one_verdict catalog fact True False c p q = absurd (q.1 p)
one_verdict catalog fact False Foreign c p q = absurd (not_foreign catalog fact (FitsJob fact) p.0 q)
one_verdict catalog fact False Misshapen c p q = absurd (not_misshapen catalog fact (FitsJob fact) (λ job fits. fits) c p.0 q)
one_verdict catalog fact False True c p q = absurd (p.1 q)
one_verdict catalog fact False False c p q = refl

-- what is said of a fact by the job that its key names
pub by_job : (catalog : List Entry) (fact : Fact) (v : Verdict) → IsCatalog catalog
    → HasJob catalog fact.key (λ job. IsJobVerdict job fact v) → IsVerdict catalog fact v
by_job catalog fact Foreign c p = absurd p.holds
by_job catalog fact Misshapen c p = p
by_job catalog fact True c p = p
by_job catalog fact False c p = (
  record { index = p.index; entry = p.entry; there = p.there; ids = p.ids; holds = p.holds.0 },
  (λ t. let held = both catalog fact.key (λ job. FitsJob fact job × ¬ (IsTrueOf fact job)) (IsTrueOf fact) c p t in held.1.1 held.2),
)
