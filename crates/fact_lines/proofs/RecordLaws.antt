-- The digits of records, one part after the other.
use Rattle.std.proofs.Common.{◌≡◌, ◌++◌, ◌<◌, ℕ, List, [], ◌∷◌, Option, Result, length, refl, sym, ap, subst, ◌∙◌, append_assoc, arith}
use Rattle.std.proofs.lemmas.List.{append-nil}
use Rattle.std.specs.List.{flat_map}
use Rattle.std.specs.Int.{w32, w64, to_be_bytes}
use Rattle.std.specs.Prelude.{ℤ}
use Rattle.hex.specs.Hex.{encode_lower}
use Rattle.tile_fact.specs.Bodies.{kind, numbers}
use Rattle.tile_fact.specs.declared.body.Body.{Body}
use Rattle.tile_fact.specs.declared.body.Body.TheVariants.{Tile, Partial}
use Rattle.tile_fact.specs.declared.fact.Fact.{Fact}
use Rattle.identity.specs.declared.job_ids.JobId.{JobId}
use Rattle.tile_fact.specs.FactFile.{key_bytes, number_bytes, body_bytes, fact_record, magic, retired_magic, head_of, ids_bytes}
use Rattle.write_buffer.specs.Passing.{Passes, Breaks, Puts}
use Rattle.write_buffer.proofs.HexLaws.{breaks_digits_front, lower_all, puts_digits_then}
use Rattle.fact_lines.specs.inside.Labels.{label_bytes}

tile_record : (fact : Fact) (samples : List ℤ) → fact.body ≡ Tile samples
    → fact_record fact ≡ label_bytes fact ++ flat_map (number_bytes w32) samples
tile_record fact samples is =
    let F : Body → Type 0 =
    λ body. key_bytes fact.key ++ body_bytes body ≡ (key_bytes fact.key ++ kind body ∷ to_be_bytes w32 (length (numbers body))) ++
    flat_map (number_bytes w32) samples in
    subst F (sym is) (sym (append_assoc (key_bytes fact.key) (0 ∷ to_be_bytes w32 (length samples)) (flat_map (number_bytes w32) samples)))

partial_record : (fact : Fact) (bins : List ℤ) → fact.body ≡ Partial bins
    → fact_record fact ≡ label_bytes fact ++ flat_map (number_bytes w64) bins
partial_record fact bins is =
    let F : Body → Type 0 =
    λ body. key_bytes fact.key ++ body_bytes body ≡ (key_bytes fact.key ++ kind body ∷ to_be_bytes w32 (length (numbers body))) ++
    flat_map (number_bytes w64) bins in
    subst F (sym is) (sym (append_assoc (key_bytes fact.key) (1 ∷ to_be_bytes w32 (length bins)) (flat_map (number_bytes w64) bins)))

record_parts : (fact : Fact) → (behind : List ℕ) × (fact_record fact ≡ label_bytes fact ++ behind)
record_parts fact =
    let F : Body → Type 0 =
    λ body. (behind : List ℕ) × (key_bytes fact.key ++ body_bytes body ≡
    (key_bytes fact.key ++ kind body ∷ to_be_bytes w32 (length (numbers body))) ++ behind) in
    elim (fact.body) as F [
      | Tile samples ↦ (
        flat_map (number_bytes w32) samples,
        sym (append_assoc (key_bytes fact.key) (0 ∷ to_be_bytes w32 (length samples)) (flat_map (number_bytes w32) samples)),
      )
      | Partial bins ↦ (
        flat_map (number_bytes w64) bins,
        sym (append_assoc (key_bytes fact.key) (1 ∷ to_be_bytes w32 (length bins)) (flat_map (number_bytes w64) bins)),
      )
    ]

pub label_breaks : (fact : Fact) (was : List ℕ) (a b : Option (List ℕ)) (n m : ℕ) → Breaks (encode_lower (label_bytes fact)) was a b n m
    → Breaks (encode_lower (fact_record fact)) was a b n m
label_breaks fact was a b n m first =
    let parts = record_parts fact in
    subst (λ bytes. Breaks (encode_lower bytes) was a b n m) (sym parts.1)
    (breaks_digits_front (label_bytes fact) parts.0 was a b n m first)

-- the numbers of a body are put behind its label
puts_numbers : {X E : Type 0} (r : Result X E) (fact : Fact) (spelled : ℤ → List ℕ) (xs : List ℤ) (was mid waits : List ℕ)
    (a b c : Option (List ℕ)) (n m k : ℕ) → fact_record fact ≡ label_bytes fact ++ flat_map spelled xs
    → Passes (encode_lower (label_bytes fact)) was mid a b n m
    → Puts r (flat_map (λ x. encode_lower (spelled x)) xs) mid waits b c m k → Puts r (encode_lower (fact_record fact)) was waits a c n k
puts_numbers r fact spelled xs was mid waits a b c n m k is first second =
    subst (λ bytes. Puts r (encode_lower bytes) was waits a c n k) (sym is)
    (puts_digits_then r (label_bytes fact) (flat_map spelled xs) was mid waits a b c n m k first
    (subst (λ digits. Puts r digits mid waits b c m k) (sym (lower_all spelled xs)) second))

pub puts_samples : {X E : Type 0} (r : Result X E) (fact : Fact) (samples : List ℤ) (was mid waits : List ℕ)
    (a b c : Option (List ℕ)) (n m k : ℕ)
    → fact.body ≡ Tile samples → Passes (encode_lower (label_bytes fact)) was mid a b n m
    → Puts r (flat_map (λ sample. encode_lower (number_bytes w32 sample)) samples) mid waits b c m k
    → Puts r (encode_lower (fact_record fact)) was waits a c n k
puts_samples r fact samples was mid waits a b c n m k is first second =
    puts_numbers r fact (number_bytes w32) samples was mid waits a b c n m k (tile_record fact samples is) first second

pub puts_bins : {X E : Type 0} (r : Result X E) (fact : Fact) (bins : List ℤ) (was mid waits : List ℕ) (a b c : Option (List ℕ)) (n m k : ℕ)
    → fact.body ≡ Partial bins → Passes (encode_lower (label_bytes fact)) was mid a b n m
    → Puts r (flat_map (λ bin. encode_lower (number_bytes w64 bin)) bins) mid waits b c m k
    → Puts r (encode_lower (fact_record fact)) was waits a c n k
puts_bins r fact bins was mid waits a b c n m k is first second =
    puts_numbers r fact (number_bytes w64) bins was mid waits a b c n m k (partial_record fact bins is) first second

-- ---- a count, and things behind it

pub counted_breaks : {X : Type 0} (spelled : X → List ℕ) (have want : List ℕ) (xs : List X) (was : List ℕ) (a b : Option (List ℕ))
    (n m : ℕ) → have ≡ want → Breaks (encode_lower have) was a b n m → Breaks (encode_lower (want ++ flat_map spelled xs)) was a b n m
counted_breaks spelled have want xs was a b n m same first =
    breaks_digits_front want (flat_map spelled xs) was a b n m (subst (λ bytes. Breaks (encode_lower bytes) was a b n m) same first)

pub counted_then : {X Y E : Type 0} (r : Result X E) (spelled : Y → List ℕ) (have want : List ℕ) (ys : List Y) (was mid waits : List ℕ)
    (a b c : Option (List ℕ)) (n m k : ℕ) → have ≡ want → Passes (encode_lower have) was mid a b n m
    → Puts r (flat_map (λ y. encode_lower (spelled y)) ys) mid waits b c m k
    → Puts r (encode_lower (want ++ flat_map spelled ys)) was waits a c n k
counted_then r spelled have want ys was mid waits a b c n m k same first second =
    puts_digits_then r want (flat_map spelled ys) was mid waits a b c n m k
    (subst (λ bytes. Passes (encode_lower bytes) was mid a b n m) same first)
    (subst (λ digits. Puts r digits mid waits b c m k) (sym (lower_all spelled ys)) second)

-- ---- the head of a file

pub head_none : (retired : List JobId) → length retired ≡ 0 → head_of retired ≡ magic
head_none [] none = refl
head_none (i ∷ more) none = absurd (omega arith)

-- the magic and the count
abbrev pub head_front : List JobId → List ℕ
head_front retired = retired_magic ++ to_be_bytes w32 (length retired)

pub head_some : (retired : List JobId) → 0 < length retired → head_of retired ≡ head_front retired ++ flat_map ids_bytes retired
head_some [] some = absurd (omega arith)
head_some (i ∷ more) some = refl

pub front_is : (retired : List JobId) (count : ℕ) (bytes : List ℕ) → bytes ≡ to_be_bytes w32 count → count ≡ length retired
    → retired_magic ++ (bytes ++ []) ≡ head_front retired
front_is retired count bytes same is =
    ap (λ (l : List ℕ). retired_magic ++ l) (append-nil bytes ∙ same ∙ ap (to_be_bytes w32) is)

pub head_breaks : (retired : List JobId) (count : ℕ) (bytes was : List ℕ) (a b : Option (List ℕ)) (n m : ℕ) → 0 < length retired
    → bytes ≡ to_be_bytes w32 count → count ≡ length retired → Breaks (encode_lower (retired_magic ++ (bytes ++ []))) was a b n m
    → Breaks (encode_lower (head_of retired)) was a b n m
head_breaks retired count bytes was a b n m some same is first =
    subst (λ (l : List ℕ). Breaks (encode_lower l) was a b n m) (sym (head_some retired some))
    (counted_breaks ids_bytes _ (head_front retired) retired was a b n m (front_is retired count bytes same is) first)

pub head_then : {X E : Type 0} (r : Result X E) (retired : List JobId) (count : ℕ) (bytes was mid waits : List ℕ)
    (a b c : Option (List ℕ)) (n m k : ℕ) → 0 < length retired
    → bytes ≡ to_be_bytes w32 count → count ≡ length retired → Passes (encode_lower (retired_magic ++ (bytes ++ []))) was mid a b n m
    → Puts r (flat_map (λ job. encode_lower (ids_bytes job)) retired) mid waits b c m k
    → Puts r (encode_lower (head_of retired)) was waits a c n k
head_then r retired count bytes was mid waits a b c n m k some same is first second =
    subst (λ (l : List ℕ). Puts r (encode_lower l) was waits a c n k) (sym (head_some retired some))
    (counted_then r ids_bytes _ (head_front retired) retired was mid waits a b c n m k (front_is retired count bytes same is) first second)
