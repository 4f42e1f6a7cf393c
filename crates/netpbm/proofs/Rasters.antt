-- From the elements that loops write to the lists that they make.
use Rattle.std.proofs.Common.{◌≡◌, ℕ, zero, suc, ◌+◌, ◌-◌, ◌*◌, ◌/◌, ◌%◌, ◌<◌, ◌≤◌, List, [], ◌∷◌, ◌++◌, length, get_or, take}
use Rattle.std.proofs.Common.{cond, All, refl, sym, ap, subst, ◌∙◌, arith}
use Rattle.std.specs.List.{flat_map, slice_range}
use Rattle.std.proofs.lemmas.List.{length-take-le, get_or-take}
use Rattle.std.proofs.lemmas.List.Elements.{All-append}
use Rattle.std.proofs.lemmas.Grind.{same_number_lists}
use lib.Seq.{take-add}
use Rattle.std.proofs.lemmas.Bool.{le-ltb, lt-ltb}
use Rattle.netpbm.specs.Raw.{two_bytes, raw_raster, pairs}
use Rattle.netpbm.specs.Colours.{woven, pick, thirds, separated}

-- ---- one after another

pub copied : (out xs : List ℕ) → length xs ≤ length out → ((k : ℕ) → k < length xs → get_or out k 0 ≡ get_or xs k 0)
    → take (length xs) out ≡ xs
copied out xs le h =
    let len = length-take-le (length xs) out le in
    same_number_lists (take (length xs) out) xs len
    (λ k lt. let inside : k < length xs = omega arith in get_or-take (length xs) out k 0 inside ∙ h k inside)

-- ---- pairs of bytes

twice : (k : ℕ) → 2 * suc k ≡ suc (suc (2 * k))
twice k = omega arith

pub length-pairs : (bytes : List ℕ) → length (pairs bytes) ≡ length bytes / 2
length-pairs [] = refl
length-pairs (a ∷ []) = refl
length-pairs (a ∷ b ∷ bytes) = omega (arith, length-pairs bytes)

pub get_or-pairs : (bytes : List ℕ) (k : ℕ) → 2 * k + 1 < length bytes
    → get_or (pairs bytes) k 0 ≡ 256 * get_or bytes (2 * k) 0 + get_or bytes (2 * k + 1) 0
get_or-pairs [] k lt = absurd (omega arith)
get_or-pairs (a ∷ []) k lt = absurd (omega arith)
get_or-pairs (a ∷ b ∷ bytes) zero lt = refl
get_or-pairs (a ∷ b ∷ bytes) (suc k) lt =
    let next : 2 * suc k + 1 ≡ suc (suc (2 * k + 1)) = omega arith in
    rw (next, twice k) (get_or-pairs bytes k (omega arith))

pub joined : (out bytes : List ℕ) → length bytes ≤ 2 * length out
    → ((k : ℕ) → k < length bytes / 2 → get_or out k 0 ≡ 256 * get_or bytes (2 * k) 0 + get_or bytes (2 * k + 1) 0)
    → take (length bytes / 2) out ≡ pairs bytes
joined out bytes le h =
    let n = length bytes / 2 in
    let len = length-take-le n out (omega arith) in
    same_number_lists (take n out) (pairs bytes) (len ∙ sym (length-pairs bytes))
    (λ k lt. let inside : k < n = omega arith in get_or-take n out k 0 inside ∙ h k inside ∙ sym (get_or-pairs bytes k (omega arith)))

pub spread : (samples out : List ℕ) → 2 * length samples ≤ length out
    → ((k : ℕ) → k < length samples
    → (get_or out (2 * k) 0 ≡ get_or samples k 0 / 256) × (get_or out (2 * k + 1) 0 ≡ get_or samples k 0 % 256))
    → take (2 * length samples) out ≡ flat_map two_bytes samples
spread [] out le h = refl
spread (s ∷ ss) [] le h = absurd (omega arith)
spread (s ∷ ss) (a ∷ []) le h = absurd (omega arith)
spread (s ∷ ss) (a ∷ b ∷ out) le h =
    let first = h 0 (omega arith) in
    let rest = spread ss out (omega arith) (λ k lt.
    let next : 2 * suc k + 1 ≡ suc (suc (2 * k + 1)) = omega arith in
    let there = h (suc k) (omega arith) in
    (ap (λ n. get_or (a ∷ b ∷ out) n 0) (sym (twice k)) ∙ there.0, ap (λ n. get_or (a ∷ b ∷ out) n 0) (sym next) ∙ there.1)) in
    rw (twice (length ss), first.0, first.1) (ap (λ l. s / 256 ∷ s % 256 ∷ l) rest)

pub raw_raster_one : (max : ℕ) (samples : List ℕ) → max < 256 → raw_raster max samples ≡ samples
raw_raster_one max [] lt = refl
raw_raster_one max (s ∷ ss) lt =
    ap (λ b. cond b (s ∷ []) (two_bytes s) ++ raw_raster max ss) (lt-ltb max 256 lt) ∙ ap (λ l. s ∷ l) (raw_raster_one max ss lt)

pub raw_raster_two : (max : ℕ) (samples : List ℕ) → 256 ≤ max → raw_raster max samples ≡ flat_map two_bytes samples
raw_raster_two max [] le = refl
raw_raster_two max (s ∷ ss) le =
    ap (λ b. cond b (s ∷ []) (two_bytes s) ++ raw_raster max ss) (le-ltb max 256 le) ∙ ap (λ l. two_bytes s ++ l) (raw_raster_two max ss le)

-- ---- three colours in turn

thrice : (k : ℕ) → 3 * suc k ≡ suc (suc (suc (3 * k)))
thrice k = omega arith

pub weaved : (rs gs bs out : List ℕ) → length gs ≡ length rs → length bs ≡ length rs → 3 * length rs ≤ length out
    → ((k : ℕ) → k < length rs
    → (get_or out (3 * k) 0 ≡ get_or rs k 0) × (get_or out (3 * k + 1) 0 ≡ get_or gs k 0) × (get_or out (3 * k + 2) 0 ≡ get_or bs k 0))
    → take (3 * length rs) out ≡ woven rs gs bs
weaved [] gs bs out eg eb le h = refl
weaved (r ∷ rs) [] bs out eg eb le h = absurd (omega arith)
weaved (r ∷ rs) (g ∷ gs) [] out eg eb le h = absurd (omega arith)
weaved (r ∷ rs) (g ∷ gs) (b ∷ bs) [] eg eb le h = absurd (omega arith)
weaved (r ∷ rs) (g ∷ gs) (b ∷ bs) (x ∷ []) eg eb le h = absurd (omega arith)
weaved (r ∷ rs) (g ∷ gs) (b ∷ bs) (x ∷ y ∷ []) eg eb le h = absurd (omega arith)
weaved (r ∷ rs) (g ∷ gs) (b ∷ bs) (x ∷ y ∷ z ∷ out) eg eb le h =
    let first = h 0 (omega arith) in
    let rest = weaved rs gs bs out (omega arith) (omega arith) (omega arith) (λ k lt.
    let one : 3 * suc k + 1 ≡ suc (suc (suc (3 * k + 1))) = omega arith in
    let two : 3 * suc k + 2 ≡ suc (suc (suc (3 * k + 2))) = omega arith in
    let there = h (suc k) (omega arith) in
    let at = λ (n : ℕ). get_or (x ∷ y ∷ z ∷ out) n 0 in
    (ap at (sym (thrice k)) ∙ there.0, ap at (sym one) ∙ there.1, ap at (sym two) ∙ there.2)) in
    rw (thrice (length rs), first.0, first.1, first.2) (ap (λ l. r ∷ g ∷ b ∷ l) rest)

pub gathered : (colour : ℕ) (samples out : List ℕ) → colour < 3 → length samples ≤ 3 * length out
    → ((k : ℕ) → k < length samples / 3 → get_or out k 0 ≡ get_or samples (3 * k + colour) 0)
    → take (length samples / 3) out ≡ thirds colour samples
gathered colour [] out lt le h = refl
gathered colour (a ∷ []) out lt le h = refl
gathered colour (a ∷ b ∷ []) out lt le h = refl
gathered colour (a ∷ b ∷ c ∷ samples) [] lt le h = absurd (omega arith)
gathered colour (a ∷ b ∷ c ∷ samples) (x ∷ out) lt le h =
    let more : length (a ∷ b ∷ c ∷ samples) / 3 ≡ suc (length samples / 3) = omega arith in
    let first : x ≡ get_or (a ∷ b ∷ c ∷ samples) colour 0 = h 0 (omega arith) ∙ ap (λ n. get_or (a ∷ b ∷ c ∷ samples) n 0) (omega arith) in
    let rest = gathered colour samples out lt (omega arith) (λ k small.
    let there : 3 * suc k + colour ≡ suc (suc (suc (3 * k + colour))) = omega arith in
    h (suc k) (omega arith) ∙ ap (λ n. get_or (a ∷ b ∷ c ∷ samples) n 0) there) in
    rw more (ap (λ y. y ∷ take (length samples / 3) out) (first ∙ picked colour a b c samples lt) ∙ ap (λ l. pick colour a b c ∷ l) rest)
  where
    picked : (colour a b c : ℕ) (samples : List ℕ) → colour < 3 → get_or (a ∷ b ∷ c ∷ samples) colour 0 ≡ pick colour a b c
    picked zero a b c samples lt = refl
    picked (suc zero) a b c samples lt = refl
    picked (suc (suc zero)) a b c samples lt = refl
    picked (suc (suc (suc n))) a b c samples lt = absurd (omega arith)

-- ---- a piece more

pub take_part : (xs : List ℕ) (start end : ℕ) → start ≤ end → take end xs ≡ take start xs ++ slice_range xs start end
take_part xs start end le =
    let sum : end ≡ start + (end - start) = omega arith in
    ap (λ n. take n xs) sum ∙ take-add start (end - start) xs

pub thirds-append : (colour n : ℕ) (xs ys : List ℕ) → length xs ≡ 3 * n → thirds colour (xs ++ ys) ≡ thirds colour xs ++ thirds colour ys
thirds-append colour n [] ys e = refl
thirds-append colour n (a ∷ []) ys e = absurd (omega arith)
thirds-append colour n (a ∷ b ∷ []) ys e = absurd (omega arith)
thirds-append colour zero (a ∷ b ∷ c ∷ xs) ys e = absurd (omega arith)
thirds-append colour (suc n) (a ∷ b ∷ c ∷ xs) ys e = ap (λ l. pick colour a b c ∷ l) (thirds-append colour n xs ys (omega arith))

pub thirds_whole : (colour : ℕ) (xs : List ℕ) → thirds colour (take (3 * (length xs / 3)) xs) ≡ thirds colour xs
thirds_whole colour [] = refl
thirds_whole colour (a ∷ []) = refl
thirds_whole colour (a ∷ b ∷ []) = refl
thirds_whole colour (a ∷ b ∷ c ∷ xs) =
    let three : 3 * (length (a ∷ b ∷ c ∷ xs) / 3) ≡ suc (suc (suc (3 * (length xs / 3)))) = omega arith in
    rw three (ap (λ l. pick colour a b c ∷ l) (thirds_whole colour xs))

pub thirds_more : (colour : ℕ) (xs before after : List ℕ) (done end : ℕ) → done ≤ end → 3 * end ≤ length xs
    → before ≡ thirds colour (take (3 * done) xs) → after ≡ before ++ thirds colour (slice_range xs (3 * done) (3 * end))
    → after ≡ thirds colour (take (3 * end) xs)
thirds_more colour xs before after done end le fits so_far is =
    let part = slice_range xs (3 * done) (3 * end) in
    is ∙ ap (λ l. l ++ thirds colour part) so_far
    ∙ sym (thirds-append colour done (take (3 * done) xs) part (length-take-le (3 * done) xs (omega arith)))
    ∙ ap (thirds colour) (sym (take_part xs (3 * done) (3 * end) (omega arith)))

pub thirds_on : (colour : ℕ) (xs piece before after : List ℕ) (done end : ℕ) → done ≤ end → 3 * end ≤ length xs
    → take (3 * end - 3 * done) piece ≡ slice_range xs (3 * done) (3 * end) → before ≡ thirds colour (take (3 * done) xs)
    → after ≡ before ++ thirds colour (take (3 * (end - done)) piece) → after ≡ thirds colour (take (3 * end) xs)
thirds_on colour xs piece before after done end le fits part so_far is =
    let n : 3 * (end - done) ≡ 3 * end - 3 * done = omega arith in
    thirds_more colour xs before after done end le fits so_far
    (is ∙ ap (λ m. before ++ thirds colour (take m piece)) n ∙ ap (λ l. before ++ thirds colour l) part)

pub samples_on : (xs piece before after : List ℕ) (done end : ℕ) → done ≤ end → take (end - done) piece ≡ slice_range xs done end
    → before ≡ take done xs → after ≡ before ++ take (end - done) piece → after ≡ take end xs
samples_on xs piece before after done end le part so_far is =
    is ∙ ap (λ l. l ++ take (end - done) piece) so_far ∙ ap (λ l. take done xs ++ l) part ∙ sym (take_part xs done end le)

pub bounded_on : (max : ℕ) (xs : List ℕ) (done end : ℕ) → done ≤ end → All (λ s. s ≤ max) (take done xs)
    → All (λ s. s ≤ max) (slice_range xs done end) → All (λ s. s ≤ max) (take end xs)
bounded_on max xs done end le h k =
    subst (All (λ s. s ≤ max)) (sym (take_part xs done end le)) (All-append (λ s. s ≤ max) (take done xs) (slice_range xs done end) h k)

pub are_separated : (xs red green blue : List ℕ) (done : ℕ) → done ≡ length xs / 3 → red ≡ thirds 0 (take (3 * done) xs)
    → green ≡ thirds 1 (take (3 * done) xs) → blue ≡ thirds 2 (take (3 * done) xs) → red ∷ green ∷ blue ∷ [] ≡ separated 3 xs
are_separated xs red green blue done all e f g =
    let whole : (colour : ℕ) → thirds colour (take (3 * done) xs) ≡ thirds colour xs =
    λ colour. ap (λ n. thirds colour (take (3 * n) xs)) all ∙ thirds_whole colour xs in
    ap (λ (l : List ℕ). l ∷ green ∷ blue ∷ []) (e ∙ whole 0) ∙ ap (λ (l : List ℕ). thirds 0 xs ∷ l ∷ blue ∷ []) (f ∙ whole 1)
    ∙ ap (λ (l : List ℕ). thirds 0 xs ∷ thirds 1 xs ∷ l ∷ []) (g ∙ whole 2)
