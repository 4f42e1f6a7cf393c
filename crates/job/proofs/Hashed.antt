-- A message that is hashed case by case.
use Rattle.std.proofs.Common.{ℕ, List, [], ◌∷◌, ◌++◌, ◌≡◌, ◌∙◌, ap, arith, length, refl, subst, append_assoc}
use Rattle.std.specs.Prelude.{codes}
use Rattle.tables.specs.declared.table.Table.{Table}
use Rattle.job.specs.Pipeline.{Pipeline}
use Rattle.job.specs.Identity.{given_bytes, settings_by, tables_bytes}

four_cases : (m b c d e : List ℕ) → m ++ b ++ c ++ d ++ e ≡ m ++ (b ++ (c ++ (d ++ e)))
four_cases m b c d e =
    append_assoc (m ++ b ++ c) d e
    ∙ append_assoc (m ++ b) c (d ++ e)
    ∙ append_assoc m b (c ++ (d ++ e))

-- what holds of a message and cases one behind the other holds of it and of what the cases are together
pub together : (P : List ℕ → Type 0) (m b c d e height width count rest : List ℕ) → b ≡ height → c ≡ width → d ≡ count → e ≡ rest
    → P (m ++ b ++ c ++ d ++ e)
    → P (m ++ (height ++ (width ++ (count ++ rest))))
together P m b c d e height width count rest one two three four held =
    subst P
    (four_cases m b c d e
    ∙ ap (λ (l : List ℕ). m ++ (l ++ (c ++ (d ++ e)))) one
    ∙ ap (λ (l : List ℕ). m ++ (height ++ (l ++ (d ++ e)))) two
    ∙ ap (λ (l : List ℕ). m ++ (height ++ (width ++ (l ++ e)))) three
    ∙ ap (λ (l : List ℕ). m ++ (height ++ (width ++ (count ++ l)))) four)
    held

-- ---- with tables and without

without : (job : Pipeline) (ts : List Table) → length ts ≡ 0 → codes "PTI1" ++ given_bytes job ≡ settings_by job ts
without job [] none = refl
without job (t ∷ ts) none = absurd (omega arith)

with_some : (job : Pipeline) (ts : List Table) → (length ts ≡ 0 → ⊥) → codes "PTI2" ++ given_bytes job ++ tables_bytes ts ≡ settings_by job ts
with_some job [] some = absurd (some refl)
with_some job (t ∷ ts) some = refl

pub holds_without : (P : List ℕ → Type 0) (m : List ℕ) (job : Pipeline) → length job.tables ≡ 0
    → P (m ++ codes "PTI1" ++ given_bytes job) → P (m ++ settings_by job job.tables)
holds_without P m job none held =
    subst P (append_assoc m (codes "PTI1") (given_bytes job) ∙ ap (λ (l : List ℕ). m ++ l) (without job job.tables none)) held

pub holds_with : (P : List ℕ → Type 0) (m : List ℕ) (job : Pipeline) → (length job.tables ≡ 0 → ⊥)
    → P (m ++ codes "PTI2" ++ given_bytes job ++ tables_bytes job.tables) → P (m ++ settings_by job job.tables)
holds_with P m job some held =
    subst P
    (append_assoc (m ++ codes "PTI2") (given_bytes job) (tables_bytes job.tables)
    ∙ append_assoc m (codes "PTI2") (given_bytes job ++ tables_bytes job.tables)
    ∙ ap (λ (l : List ℕ). m ++ l)
    (let same : codes "PTI2" ++ (given_bytes job ++ tables_bytes job.tables) ≡ settings_by job job.tables =
    with_some job job.tables some in same))
    held
