-- The bytes of an input tell its sides, its parameters, its tables and its picture.
use Rattle.std.proofs.Common.{◌≡◌, ℕ, ◌<◌, ◌≤◌, ◌^◌, List, [], ◌∷◌, ◌++◌, length, get_or, take, drop, ℤ, pos, negsuc, All, FitsSigned}
use Rattle.std.proofs.Common.{refl, sym, ap, subst, ◌∙◌, append_assoc, arith}
use Rattle.std.specs.List.{flat_map}
use Rattle.std.specs.Int.{w16, w32, cast_signed, cast_unsigned, to_be_bytes, from_be_bytes}
use Rattle.std.proofs.Math.Seq.{take-append_seam, drop-append_seam}
use Rattle.std.proofs.lemmas.Int.{ints, to_z-of_z}
use Rattle.std.proofs.lemmas.List.Elements.{All-head, All-tail}
use Rattle.std.proofs.lemmas.Nat.{from_be_bytes-to_be_bytes_2, from_be_bytes-to_be_bytes_4}
use Rattle.domains.specs.Sides.{Sides, IsSides}
use Rattle.netpbm.specs.Image.{Image, IsImage}
use Rattle.netpbm.specs.Grammar.{IsPicture}
use Rattle.netpbm.specs.Spelling.{spelling}
use Rattle.netpbm.proofs.PictureLaws.{picture_complete}
use Rattle.netpbm.proofs.ReadLaws.{spelling_is, same_value}
use Rattle.tables.specs.declared.table.Table.{Table}
use Rattle.job.specs.Pipeline.{Parameter, Pipeline}
use Rattle.job.specs.WellFormed.{IsJob, IsSmall, IsTable}
use Rattle.job.specs.Identity.{entry_bytes, parameter_bytes, input_bytes, settings_by, table_bytes, tables_bytes}
use Rattle.job.proofs.Fitting.{from_bounds}

-- two lists, each in two parts of which the first are as long as each other
pub split : (a b c d : List ℕ) → length a ≡ length b → a ++ c ≡ b ++ d → (a ≡ b) × (c ≡ d)
split a b c d e h = (
  sym (take-append_seam a c) ∙ ap (take (length a)) h ∙ ap (λ n. take n (b ++ d)) e ∙ take-append_seam b d,
  sym (drop-append_seam a c) ∙ ap (drop (length a)) h ∙ ap (λ n. drop n (b ++ d)) e ∙ drop-append_seam b d,
)

number_16 : (m n : ℕ) → m < 2 ^ 16 → n < 2 ^ 16 → to_be_bytes w16 m ≡ to_be_bytes w16 n → m ≡ n
number_16 m n p q h = sym (from_be_bytes-to_be_bytes_2 m p) ∙ ap (from_be_bytes w16) h ∙ from_be_bytes-to_be_bytes_2 n q

number_32 : (m n : ℕ) → m < 2 ^ 32 → n < 2 ^ 32 → to_be_bytes w32 m ≡ to_be_bytes w32 n → m ≡ n
number_32 m n p q h = sym (from_be_bytes-to_be_bytes_4 m p) ∙ ap (from_be_bytes w32) h ∙ from_be_bytes-to_be_bytes_4 n q

bits_fit : (z : ℤ) → FitsSigned w32 z → cast_unsigned w32 z < 2 ^ 32
bits_fit (pos n) p = omega (arith, p)
bits_fit (negsuc n) p = omega (arith, p)

signed_32 : (y z : ℤ) → FitsSigned w32 y → FitsSigned w32 z → to_be_bytes w32 (cast_unsigned w32 y) ≡ to_be_bytes w32 (cast_unsigned w32 z)
    → y ≡ z
signed_32 y z p q h =
    sym (to_z-of_z w32 y p) ∙ ap (cast_signed w32) (number_32 (cast_unsigned w32 y) (cast_unsigned w32 z) (bits_fit y p) (bits_fit z q) h)
    ∙ to_z-of_z w32 z q

-- ---- parameters

one_parameter : (p q : Parameter) → p.name ≡ q.name → p.value ≡ q.value → p ≡ q
one_parameter p q n v i = record { name = n i; value = v i }

pub first_parameter : (p q : Parameter) (c d : List ℕ) → FitsSigned w32 p.value → FitsSigned w32 q.value
    → parameter_bytes p ++ c ≡ parameter_bytes q ++ d → (p ≡ q) × (c ≡ d)
first_parameter p q c d f g h =
    let bits : Parameter → List ℕ = λ x. to_be_bytes w32 (cast_unsigned w32 x.value) in
    let names =
    split p.name q.name (bits p ++ c) (bits q ++ d) (ap (λ l. get_or l 0 0) h)
    (sym (append_assoc p.name (bits p) c) ∙ ap (drop 1) h ∙ append_assoc q.name (bits q) d) in
    let values = split (bits p) (bits q) c d refl names.1 in
    (one_parameter p q names.0 (signed_32 p.value q.value f g values.0), values.1)

all_parameters : (ps qs : List Parameter) (c d : List ℕ) → All (λ p. FitsSigned w32 p.value) ps → All (λ p. FitsSigned w32 p.value) qs
    → length ps ≡ length qs
    → flat_map parameter_bytes ps ++ c ≡ flat_map parameter_bytes qs ++ d → (ps ≡ qs) × (c ≡ d)
all_parameters [] [] c d f g e h = (refl, h)
all_parameters [] (q ∷ qs) c d f g e h = absurd (omega arith)
all_parameters (p ∷ ps) [] c d f g e h = absurd (omega arith)
all_parameters (p ∷ ps) (q ∷ qs) c d f g e h =
    let P : Parameter → Type 0 = λ x. FitsSigned w32 x.value in
    let rest : List Parameter → List ℕ = flat_map parameter_bytes in
    let first = first_parameter p q (rest ps ++ c) (rest qs ++ d) (All-head P p ps f) (All-head P q qs g)
    (sym (append_assoc (parameter_bytes p) (rest ps) c) ∙ h ∙ append_assoc (parameter_bytes q) (rest qs) d) in
    let others = all_parameters ps qs c d (All-tail P p ps f) (All-tail P q qs g) (omega arith) first.1 in
    (λ i. first.0 i ∷ others.0 i, others.1)

-- ---- tables

all_entries : (vs ws : List ℤ) (c d : List ℕ) → All (FitsSigned w32) vs → All (FitsSigned w32) ws → length vs ≡ length ws
    → flat_map entry_bytes vs ++ c ≡ flat_map entry_bytes ws ++ d → (vs ≡ ws) × (c ≡ d)
all_entries [] [] c d f g e h = (refl, h)
all_entries [] (w ∷ ws) c d f g e h = absurd (omega arith)
all_entries (v ∷ vs) [] c d f g e h = absurd (omega arith)
all_entries (v ∷ vs) (w ∷ ws) c d f g e h =
    let P : ℤ → Type 0 = FitsSigned w32 in
    let first = split (entry_bytes v) (entry_bytes w) (flat_map entry_bytes vs ++ c) (flat_map entry_bytes ws ++ d) refl h in
    let same = signed_32 v w (All-head P v vs f) (All-head P w ws g) first.0 in
    let others = all_entries vs ws c d (All-tail P v vs f) (All-tail P w ws g) (omega arith) first.1 in
    (λ i. same i ∷ others.0 i, others.1)

one_table : (s t : Table) → s.name ≡ t.name → s.lo ≡ t.lo → s.values ≡ t.values → s ≡ t
one_table s t n l v i = record { name = n i; lo = l i; values = v i }

first_index_fits : (t : Table) → IsTable t → FitsSigned w32 t.lo
first_index_fits t is =
    let least = is.shape.indices.least in
    let ordered = is.shape.indices.ordered in
    let most = is.shape.indices.most in
    from_bounds t.lo (omega (arith, ints, least)) (omega (arith, ints, ordered, most))

-- what follows the name, the first index and the number of entries of a table, with what is behind it
abbrev entries_in : Table → List ℕ → List ℕ
entries_in t c = flat_map entry_bytes t.values ++ c

abbrev counted_in : Table → List ℕ → List ℕ
counted_in t c = to_be_bytes w16 (length t.values) ++ entries_in t c

abbrev first_index : Table → List ℕ
first_index t = to_be_bytes w32 (cast_unsigned w32 t.lo)

abbrev numbers_in : Table → List ℕ → List ℕ
numbers_in t c = first_index t ++ counted_in t c

table_front : (t : Table) (c : List ℕ) → table_bytes t ++ c ≡ length t.name ∷ (t.name ++ numbers_in t c)
table_front t c =
    let count = to_be_bytes w16 (length t.values) in
    let entries = flat_map entry_bytes t.values in
    ap (λ (l : List ℕ). length t.name ∷ l)
    (append_assoc (t.name ++ first_index t ++ count) entries c
    ∙ append_assoc (t.name ++ first_index t) count (entries ++ c)
    ∙ append_assoc t.name (first_index t) (count ++ (entries ++ c)))

pub first_table : (s t : Table) (c d : List ℕ) → IsTable s → IsTable t → table_bytes s ++ c ≡ table_bytes t ++ d → (s ≡ t) × (c ≡ d)
first_table s t c d is it h =
    let whole = sym (table_front s c) ∙ h ∙ table_front t d in
    let names = split s.name t.name (numbers_in s c) (numbers_in t d) (ap (λ l. get_or l 0 0) whole) (ap (drop 1) whole) in
    let firsts = split (first_index s) (first_index t) (counted_in s c) (counted_in t d) refl names.1 in
    let counts =
    split (to_be_bytes w16 (length s.values)) (to_be_bytes w16 (length t.values)) (entries_in s c) (entries_in t d) refl firsts.1 in
    let few = is.shape.few in
    let less = it.shape.few in
    let many = number_16 (length s.values) (length t.values) (omega (arith, few)) (omega (arith, less)) counts.0 in
    let entries = all_entries s.values t.values c d is.fit it.fit many counts.1 in
    (one_table s t names.0 (signed_32 s.lo t.lo (first_index_fits s is) (first_index_fits t it) firsts.0) entries.0, entries.1)

all_tables : (ss ts : List Table) (c d : List ℕ) → All IsTable ss → All IsTable ts → length ss ≡ length ts
    → flat_map table_bytes ss ++ c ≡ flat_map table_bytes ts ++ d → (ss ≡ ts) × (c ≡ d)
all_tables [] [] c d f g e h = (refl, h)
all_tables [] (t ∷ ts) c d f g e h = absurd (omega arith)
all_tables (s ∷ ss) [] c d f g e h = absurd (omega arith)
all_tables (s ∷ ss) (t ∷ ts) c d f g e h =
    let rest : List Table → List ℕ = flat_map table_bytes in
    let first = first_table s t (rest ss ++ c) (rest ts ++ d) (All-head IsTable s ss f) (All-head IsTable t ts g)
    (sym (append_assoc (table_bytes s) (rest ss) c) ∙ h ∙ append_assoc (table_bytes t) (rest ts) d) in
    let others = all_tables ss ts c d (All-tail IsTable s ss f) (All-tail IsTable t ts g) (omega arith) first.1 in
    (λ i. first.0 i ∷ others.0 i, others.1)

-- ---- the parts of all bytes

-- what stands behind the parameters
abbrev pub behind : List Table → Image → List ℕ
behind [] p = spelling p
behind (t ∷ ts) p = tables_bytes (t ∷ ts) ++ spelling p

-- whether there are tables stands in the fourth byte
abbrev pub mark : List Table → ℕ
mark [] = 49
mark (t ∷ ts) = 50

mark_in : (job : Pipeline) (ts : List Table) (c : List ℕ) → get_or (settings_by job ts ++ c) 3 0 ≡ mark ts
mark_in job [] c = refl
mark_in job (t ∷ ts) c = refl

height_in : (job : Pipeline) (ts : List Table) (c : List ℕ) → take 4 (drop 4 (settings_by job ts ++ c)) ≡ to_be_bytes w32 job.sides.height
height_in job [] c = refl
height_in job (t ∷ ts) c = refl

width_in : (job : Pipeline) (ts : List Table) (c : List ℕ) → take 4 (drop 8 (settings_by job ts ++ c)) ≡ to_be_bytes w32 job.sides.width
width_in job [] c = refl
width_in job (t ∷ ts) c = refl

count_in : (job : Pipeline) (ts : List Table) (c : List ℕ) → take 2 (drop 12 (settings_by job ts ++ c)) ≡ to_be_bytes w16 (length job.params)
count_in job [] c = refl
count_in job (t ∷ ts) c = refl

params_in : (job : Pipeline) (ts : List Table) (p : Image)
    → drop 14 (settings_by job ts ++ spelling p) ≡ flat_map parameter_bytes job.params ++ behind ts p
params_in job [] p = refl
params_in job (t ∷ ts) p = append_assoc (flat_map parameter_bytes job.params) (tables_bytes (t ∷ ts)) (spelling p)

-- a part that is cut out of the bytes of both inputs
same_part : (a b : Pipeline) (part : List ℕ → List ℕ) (x y : List ℕ) → part (input_bytes a) ≡ x → part (input_bytes b) ≡ y
    → input_bytes a ≡ input_bytes b → x ≡ y
same_part a b part x y e f h = sym e ∙ ap part h ∙ f

pub same_mark : (a b : Pipeline) → input_bytes a ≡ input_bytes b → mark a.tables ≡ mark b.tables
same_mark a b h =
    sym (mark_in a a.tables (spelling a.picture)) ∙ ap (λ (l : List ℕ). get_or l 3 0) h ∙ mark_in b b.tables (spelling b.picture)

-- the parameters, and what is behind them
pub same_rest : (a b : Pipeline) → input_bytes a ≡ input_bytes b
    → flat_map parameter_bytes a.params ++ behind a.tables a.picture ≡ flat_map parameter_bytes b.params ++ behind b.tables b.picture
same_rest a b h = same_part a b (drop 14) _ _ (params_in a a.tables a.picture) (params_in b b.tables b.picture) h

-- the tables, and what is behind them
pub same_behind : (ss ts : List Table) (p q : Image) → All IsTable ss → All IsTable ts → length ss ≤ 16 → length ts ≤ 16
    → mark ss ≡ mark ts → behind ss p ≡ behind ts q → (ss ≡ ts) × (spelling p ≡ spelling q)
same_behind [] [] p q f g few less marks h = (refl, h)
same_behind [] (t ∷ ts) p q f g few less marks h = absurd (omega (arith, marks))
same_behind (s ∷ ss) [] p q f g few less marks h = absurd (omega (arith, marks))
same_behind (s ∷ ss) (t ∷ ts) p q f g few less marks h =
    let counts =
    split (to_be_bytes w16 (length (s ∷ ss))) (to_be_bytes w16 (length (t ∷ ts))) (flat_map table_bytes (s ∷ ss) ++ spelling p)
    (flat_map table_bytes (t ∷ ts) ++ spelling q) refl h in
    let many = number_16 (length (s ∷ ss)) (length (t ∷ ts)) (omega (arith, few)) (omega (arith, less)) counts.0 in
    all_tables (s ∷ ss) (t ∷ ts) (spelling p) (spelling q) f g many counts.1

-- ---- the whole

one_sides : (s t : Sides) → s.height ≡ t.height → s.width ≡ t.width → s ≡ t
one_sides s t h w i = record { height = h i; width = w i }

pub same_sides : (a b : Pipeline) → IsSides a.sides → IsSides b.sides → input_bytes a ≡ input_bytes b → a.sides ≡ b.sides
same_sides a b p q h =
    one_sides a.sides b.sides
    (number_32 a.sides.height b.sides.height (omega (arith, p.height_most)) (omega (arith, q.height_most)) (same_part a b (λ l. take 4 (drop 4 l)) _ _ (height_in a a.tables (spelling a.picture)) (height_in b b.tables (spelling b.picture)) h))
    (number_32 a.sides.width b.sides.width (omega (arith, p.width_most)) (omega (arith, q.width_most)) (same_part a b (λ l. take 4 (drop 8 l)) _ _ (width_in a a.tables (spelling a.picture)) (width_in b b.tables (spelling b.picture)) h))

pub one_picture : (p q : Image) → IsImage p → IsImage q → spelling p ≡ spelling q → p ≡ q
one_picture p q i j e =
    let h = subst (λ (bytes : List ℕ). IsPicture bytes q) (sym e) (spelling_is q j) in
    same_value p q (sym (picture_complete (spelling p) p (spelling_is p i)) ∙ picture_complete (spelling p) q h)

pub equal_bytes_mean_equal_inputs : (a b : Pipeline) → IsJob a → IsJob b → IsSmall a → IsSmall b → input_bytes a ≡ input_bytes b
    → (a.sides ≡ b.sides) × (a.params ≡ b.params) × (a.picture ≡ b.picture) × (a.tables ≡ b.tables)
equal_bytes_mean_equal_inputs a b p q few less h =
    let count =
    number_16 (length a.params) (length b.params) (omega (arith, few.few_params)) (omega (arith, less.few_params))
    (same_part a b (λ l. take 2 (drop 12 l)) _ _ (count_in a a.tables (spelling a.picture)) (count_in b b.tables (spelling b.picture)) h) in
    let rest =
    all_parameters a.params b.params (behind a.tables a.picture) (behind b.tables b.picture) p.params q.params count (same_rest a b h) in
    let last =
    same_behind a.tables b.tables a.picture b.picture p.tables q.tables p.few_tables q.few_tables (same_mark a b h) rest.1 in
    (same_sides a b p.sides q.sides h, rest.0, one_picture a.picture b.picture p.picture q.picture last.1, last.0)
