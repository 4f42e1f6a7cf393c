-- Inputs of which different bytes are hashed.
use Rattle.std.proofs.Common.{◌≡◌, ℕ, ◌<◌, ◌≤◌, List, [], ◌∷◌, ◌++◌, length}
use Rattle.std.proofs.Common.{get_or, drop, map, All, FitsSigned, sym, ap, subst, ◌∙◌, append_assoc, arith, refl, inl, inr}
use Rattle.std.specs.List.{flat_map}
use Rattle.std.specs.Int.{w32, byte_at}
use Rattle.std.proofs.lemmas.List.Elements.{All-head, All-tail}
use Rattle.netpbm.specs.Image.{Image}
use Rattle.netpbm.specs.Spelling.{spelling}
use Rattle.tables.specs.declared.table.Table.{Table}
use Rattle.job.specs.Pipeline.{Parameter, Pipeline}
use Rattle.job.specs.Identity.{parameter_bytes, input_bytes, table_bytes, tables_bytes}
use Rattle.job.specs.inside.Marks.{EndsNames}
use Rattle.job.specs.Views.{parameter_view}
use Rattle.job.specs.WellFormed.{IsJob, IsTable}
use Rattle.job.specs.declared.outputs.Parameter.{Parameter as KeptParameter}
use Rattle.job.proofs.InputLaws.{behind, split, first_parameter, first_table, one_picture, same_behind, same_mark, same_rest}

-- ---- parameters

-- of a parameter in front of others
pub first_fits : (ps xs : List KeptParameter) (x : KeptParameter) → ps ≡ x ∷ xs
    → All (λ (p : Parameter). FitsSigned w32 p.value) (map parameter_view ps) → FitsSigned w32 x.value
first_fits ps xs x e h =
    All-head (λ (p : Parameter). FitsSigned w32 p.value) (parameter_view x) (map parameter_view xs)
    (subst (λ (l : List KeptParameter). All (λ (p : Parameter). FitsSigned w32 p.value) (map parameter_view l)) e h)

pub others_fit : (ps xs : List KeptParameter) (x : KeptParameter) → ps ≡ x ∷ xs
    → All (λ (p : Parameter). FitsSigned w32 p.value) (map parameter_view ps)
    → All (λ (p : Parameter). FitsSigned w32 p.value) (map parameter_view xs)
others_fit ps xs x e h =
    All-tail (λ (p : Parameter). FitsSigned w32 p.value) (parameter_view x) (map parameter_view xs)
    (subst (λ (l : List KeptParameter). All (λ (p : Parameter). FitsSigned w32 p.value) (map parameter_view l)) e h)

abbrev pub spelled : List KeptParameter → ℕ → List ℕ → List ℕ
spelled ps m c = flat_map parameter_bytes (map parameter_view ps) ++ m ∷ c

-- where the bytes of two lists of parameters and what is behind them are equal, so are the first parameters, and what is behind these
pub firsts : (ps qs xs ys : List KeptParameter) (x y : KeptParameter) (m n : ℕ) (c d : List ℕ) → ps ≡ x ∷ xs → qs ≡ y ∷ ys
    → FitsSigned w32 x.value → FitsSigned w32 y.value
    → spelled ps m c ≡ spelled qs n d → (parameter_view x ≡ parameter_view y) × (spelled xs m c ≡ spelled ys n d)
firsts ps qs xs ys x y m n c d e g f k h =
    let rest : List KeptParameter → List ℕ = λ l. flat_map parameter_bytes (map parameter_view l) in
    first_parameter (parameter_view x) (parameter_view y) (spelled xs m c) (spelled ys n d) f k
    (sym (append_assoc (parameter_bytes (parameter_view x)) (rest xs) (m ∷ c)) ∙ sym (ap (λ (l : List KeptParameter). spelled l m c) e) ∙ h
    ∙ ap (λ (l : List KeptParameter). spelled l n d) g ∙ append_assoc (parameter_bytes (parameter_view y)) (rest ys) (n ∷ d))

-- no name has the length with which what is behind parameters begins
pub no_end : (ps qs xs : List KeptParameter) (x : KeptParameter) (m n : ℕ) (c d : List ℕ) → ps ≡ x ∷ xs → qs ≡ []
    → 0 < length x.name → length x.name ≤ 32 → EndsNames n → spelled ps m c ≡ spelled qs n d → ⊥
no_end ps qs xs x m n c d e g some short ends h =
    let one : length x.name ≡ n =
    sym (ap (λ (l : List KeptParameter). get_or (spelled l m c) 0 0) e) ∙ ap (λ (l : List ℕ). get_or l 0 0) h
    ∙ ap (λ (l : List KeptParameter). get_or (spelled l n d) 0 0) g in
    elim ends [
      | inl none ↦ omega (arith, one, some, none)
      | inr many ↦ omega (arith, one, short, many)
    ]

-- ---- tables

-- of a table in front of others
pub first_table_is : (ts xs : List Table) (x : Table) → ts ≡ x ∷ xs → All IsTable ts → IsTable x
first_table_is ts xs x e h = All-head IsTable x xs (subst (All IsTable) e h)

pub other_tables_are : (ts xs : List Table) (x : Table) → ts ≡ x ∷ xs → All IsTable ts → All IsTable xs
other_tables_are ts xs x e h = All-tail IsTable x xs (subst (All IsTable) e h)

abbrev pub tabled : List Table → List ℕ → List ℕ
tabled ts c = flat_map table_bytes ts ++ 80 ∷ c

pub first_tables : (ss ts xs ys : List Table) (x y : Table) (c d : List ℕ) → ss ≡ x ∷ xs → ts ≡ y ∷ ys → All IsTable ss → All IsTable ts
    → tabled ss c ≡ tabled ts d → (x ≡ y) × (tabled xs c ≡ tabled ys d)
first_tables ss ts xs ys x y c d e g f k h =
    first_table x y (tabled xs c) (tabled ys d) (first_table_is ss xs x e f) (first_table_is ts ys y g k)
    (sym (append_assoc (table_bytes x) (flat_map table_bytes xs) (80 ∷ c)) ∙ sym (ap (λ (l : List Table). tabled l c) e) ∙ h
    ∙ ap (λ (l : List Table). tabled l d) g ∙ append_assoc (table_bytes y) (flat_map table_bytes ys) (80 ∷ d))

-- no name is as long as the letter with which a picture begins
pub no_picture : (ss ts xs : List Table) (x : Table) (c d : List ℕ) → ss ≡ x ∷ xs → ts ≡ [] → length x.name < 80
    → tabled ss c ≡ tabled ts d → ⊥
no_picture ss ts xs x c d e g short h =
    let one : length x.name ≡ 80 =
    sym (ap (λ (l : List Table). get_or (tabled l c) 0 0) e) ∙ ap (λ (l : List ℕ). get_or l 0 0) h
    ∙ ap (λ (l : List Table). get_or (tabled l d) 0 0) g in
    omega (arith, one, short)

-- ---- inputs

-- what is behind parameters begins with no length of a name
pub ends_names : (ts : List Table) (p : Image) → length ts ≤ 16 → (m : ℕ) × (c : List ℕ) × EndsNames m × (behind ts p ≡ m ∷ c)
ends_names [] p few = (80, drop 1 (spelling p), inr (omega arith), refl)
ends_names (t ∷ ts) p few =
    (byte_at 1 (length (t ∷ ts)), drop 1 (tables_bytes (t ∷ ts) ++ spelling p), inl (omega (arith, few)), refl)

pub same_bytes : (a b : Pipeline) → a.sides ≡ b.sides → a.params ≡ b.params → a.tables ≡ b.tables → a.picture ≡ b.picture
    → input_bytes a ≡ input_bytes b
same_bytes a b s p t q =
    λ i. input_bytes (record { stages = a.stages; output = a.output; params = p i; tables = t i; picture = q i; sides = s i })

-- the parameters, a byte that ends names, and what is behind it
pub params_alike : (a b : Pipeline) → IsJob a → IsJob b → input_bytes a ≡ input_bytes b
    → (m n : ℕ) × (c d : List ℕ) × EndsNames m × EndsNames n
    × (flat_map parameter_bytes a.params ++ m ∷ c ≡ flat_map parameter_bytes b.params ++ n ∷ d)
params_alike a b p q h =
    let (m, c, ends, is) = ends_names a.tables a.picture p.few_tables in
    let (n, d, other, it) = ends_names b.tables b.picture q.few_tables in
    let params : Pipeline → List ℕ = λ job. flat_map parameter_bytes job.params in
    (m, n, c, d, ends, other, ap (λ (l : List ℕ). params a ++ l) (sym is) ∙ same_rest a b h ∙ ap (λ (l : List ℕ). params b ++ l) it)

-- the tables and the picture, where the parameters are the same
pub behind_alike : (a b : Pipeline) → IsJob a → IsJob b → a.params ≡ b.params → input_bytes a ≡ input_bytes b
    → (a.tables ≡ b.tables) × (spelling a.picture ≡ spelling b.picture)
behind_alike a b p q e h =
    let rest : List Parameter → List ℕ = flat_map parameter_bytes in
    same_behind a.tables b.tables a.picture b.picture p.tables q.tables p.few_tables q.few_tables (same_mark a b h)
    (split (rest a.params) (rest b.params) (behind a.tables a.picture) (behind b.tables b.picture) (ap (λ l. length (rest l)) e)
    (same_rest a b h)).1

pub same_picture : (a b : Pipeline) → IsJob a → IsJob b → a.params ≡ b.params → input_bytes a ≡ input_bytes b → a.picture ≡ b.picture
same_picture a b p q e h = one_picture a.picture b.picture p.picture q.picture (behind_alike a b p q e h).1
