-- From the bytes that loops write to the rows that they make.
use Rattle.std.proofs.Common.{◌≡◌, ℕ, suc, ◌+◌, ◌*◌, ◌/◌, ◌%◌, ◌<◌, ℤ, pos, List, [], ◌∷◌, length, map, get_or, refl, sym, ap}
use Rattle.std.proofs.Common.{◌∙◌, arith}
use Rattle.std.specs.List.{flat_map}
use Rattle.std.proofs.lemmas.List.{get_or-map, length-map, take_all}
use Rattle.std.proofs.lemmas.Grind.{common_steps}
use Rattle.std.proofs.Math.ListN.{set}
use Rattle.netpbm.specs.Colours.{woven}
use Rattle.netpbm.specs.Raw.{two_bytes}
use Rattle.netpbm.proofs.Rasters.{spread, weaved}
use Rattle.job.specs.Answers.{sample_of}

-- the two bytes at a place are those of this sample
pub record ArePairAt (out : List ℕ) (place sample : ℕ) : Type 0 where
  pub high : get_or out place 0 ≡ sample / 256
  pub low : get_or out (place + 1) 0 ≡ sample % 256

-- the bytes at a place are those of these three samples, in one byte each, and in two
abbrev pub AreBytesAt : List ℕ → ℕ → ℕ → ℕ → ℕ → Type 0
AreBytesAt out place red green blue =
    (get_or out place 0 ≡ red) × (get_or out (place + 1) 0 ≡ green) × (get_or out (place + 2) 0 ≡ blue)

pub record ArePairsAt (out : List ℕ) (place red green blue : ℕ) : Type 0 where
  pub first : ArePairAt out place red
  pub second : ArePairAt out (place + 2) green
  pub third : ArePairAt out (place + 4) blue

sample_at : (max : ℕ) (line : List ℤ) (k : ℕ) → k < length line → get_or (map (sample_of max) line) k 0 ≡ sample_of max (get_or line k (pos 0))
sample_at max line k lt = get_or-map (sample_of max) line k (pos 0) 0 lt

-- ---- one plane

pub pairs_of_line : (max : ℕ) (line : List ℤ) (out : List ℕ) → length out ≡ 2 * length line
    → ((k : ℕ) → k < length line → ArePairAt out (2 * k) (sample_of max (get_or line k (pos 0))))
    → out ≡ flat_map two_bytes (map (sample_of max) line)
pairs_of_line max line out e h =
    let samples = map (sample_of max) line in
    let n : length samples ≡ length line = length-map line (sample_of max) in
    sym (take_all (2 * length samples) out (omega arith))
    ∙ spread samples out (omega arith) (λ k lt.
    let inside : k < length line = omega arith in
    let is = sample_at max line k inside in
    let there = h k inside in
    (there.high ∙ ap (λ s. s / 256) (sym is), there.low ∙ ap (λ s. s % 256) (sym is)))

-- ---- three planes

pub pair_is : (out : List ℕ) (place s t : ℕ) → s ≡ t → get_or out place 0 ≡ s / 256 → get_or out (place + 1) 0 ≡ s % 256
    → ArePairAt out place t
pair_is out place s t e high low = record { high = high ∙ ap (λ x. x / 256) e; low = low ∙ ap (λ x. x % 256) e }

-- bytes before a place that are left as they were
abbrev pub AreKept : List ℕ → List ℕ → ℕ → Type 0
AreKept out new place = (k : ℕ) → k < place → get_or new k 0 ≡ get_or out k 0

pub pair_kept : (out new : List ℕ) (at place sample : ℕ) → AreKept out new at → place + 1 < at → ArePairAt out place sample
    → ArePairAt new place sample
pair_kept out new at place sample kept lt h =
    record { high = kept place (omega arith) ∙ h.high; low = kept (place + 1) lt ∙ h.low }

pub pairs_kept : (out new : List ℕ) (at place r g b : ℕ) → AreKept out new at → place + 5 < at → ArePairsAt out place r g b
    → ArePairsAt new place r g b
pairs_kept out new at place r g b kept lt h = record {
  first = pair_kept out new at place r kept (omega arith) h.first;
  second = pair_kept out new at (place + 2) g kept (omega arith) h.second;
  third = pair_kept out new at (place + 4) b kept (omega arith) h.third;
}

-- a pair behind those of the first pixel
pair_behind : (a b c d e f : ℕ) (out : List ℕ) (m n sample : ℕ) → m ≡ suc (suc (suc (suc (suc (suc n)))))
    → ArePairAt (a ∷ b ∷ c ∷ d ∷ e ∷ f ∷ out) m sample → ArePairAt out n sample
pair_behind a b c d e f out m n sample is h =
    let next : m + 1 ≡ suc (suc (suc (suc (suc (suc (n + 1)))))) = omega arith in
    let at = λ (i : ℕ). get_or (a ∷ b ∷ c ∷ d ∷ e ∷ f ∷ out) i 0 in
    record { high = sym (ap at is) ∙ h.high; low = sym (ap at next) ∙ h.low }

pairs_woven : (rs gs bs out : List ℕ) → length gs ≡ length rs → length bs ≡ length rs → length out ≡ 6 * length rs
    → ((k : ℕ) → k < length rs → ArePairsAt out (6 * k) (get_or rs k 0) (get_or gs k 0) (get_or bs k 0))
    → out ≡ flat_map two_bytes (woven rs gs bs)
pairs_woven [] gs bs [] eg eb e h = refl
pairs_woven [] gs bs (x ∷ out) eg eb e h = absurd (omega arith)
pairs_woven (r ∷ rs) [] bs out eg eb e h = absurd (omega arith)
pairs_woven (r ∷ rs) (g ∷ gs) [] out eg eb e h = absurd (omega arith)
pairs_woven (r ∷ rs) (g ∷ gs) (b ∷ bs) (u ∷ v ∷ w ∷ x ∷ y ∷ z ∷ out) eg eb e h =
    let here = h 0 (omega arith) in
    let rest = pairs_woven rs gs bs out (omega arith) (omega arith) (omega arith) (λ k lt.
    let there = h (suc k) (omega arith) in
    let behind = pair_behind u v w x y z out in record {
      first = behind (6 * suc k) (6 * k) (get_or rs k 0) (omega arith) there.first;
      second = behind (6 * suc k + 2) (6 * k + 2) (get_or gs k 0) (omega arith) there.second;
      third = behind (6 * suc k + 4) (6 * k + 4) (get_or bs k 0) (omega arith) there.third;
    }) in
    cc
pairs_woven (r ∷ rs) (g ∷ gs) (b ∷ bs) out eg eb e h = absurd (omega arith)

-- three bytes are written at a place, and those before it are kept
pub bytes_set : (out : List ℕ) (place r g b : ℕ) → place + 2 < length out
    → AreBytesAt (set (set (set out place r) (place + 1) g) (place + 2) b) place r g b
bytes_set out place r g b lt = (grind (arith, common_steps), grind (arith, common_steps), grind (arith, common_steps))

pub bytes_kept : (out : List ℕ) (at place r g b x y z : ℕ) → place + 2 < at → AreBytesAt out place r g b
    → AreBytesAt (set (set (set out at x) (at + 1) y) (at + 2) z) place r g b
bytes_kept out at place r g b x y z lt h = let i = h.0 in let j = h.1 in let k = h.2 in
    (grind (arith, common_steps), grind (arith, common_steps), grind (arith, common_steps))

module _ (max : ℕ) (red green blue : List ℤ) (out : List ℕ) (eg : length green ≡ length red) (eb : length blue ≡ length red) where
  pub bytes_of_lines : length out ≡ 3 * length red
      → ((k : ℕ) → k < length red → AreBytesAt out (3 * k) (sample_of max (get_or red k (pos 0))) (sample_of max (get_or green k (pos 0)))
      (sample_of max (get_or blue k (pos 0))))
      → out ≡ woven (map (sample_of max) red) (map (sample_of max) green) (map (sample_of max) blue)
  bytes_of_lines e h =
      let f = sample_of max in
      let n : length (map f red) ≡ length red = length-map red f in
      sym (take_all (3 * length (map f red)) out (omega arith))
      ∙ weaved (map f red) (map f green) (map f blue) out (length-map green f ∙ eg ∙ sym n) (length-map blue f ∙ eb ∙ sym n) (omega arith) (λ k lt.
      let inside : k < length red = omega arith in
      let there = h k inside in (
        there.0 ∙ sym (sample_at max red k inside),
        there.1 ∙ sym (sample_at max green k (omega arith)),
        there.2 ∙ sym (sample_at max blue k (omega arith)),
      ))

  pub pairs_of_lines : length out ≡ 6 * length red
      → ((k : ℕ) → k < length red → ArePairsAt out (6 * k) (sample_of max (get_or red k (pos 0))) (sample_of max (get_or green k (pos 0)))
      (sample_of max (get_or blue k (pos 0))))
      → out ≡ flat_map two_bytes (woven (map (sample_of max) red) (map (sample_of max) green) (map (sample_of max) blue))
  pairs_of_lines e h =
      let f = sample_of max in
      let n : length (map f red) ≡ length red = length-map red f in
      pairs_woven (map f red) (map f green) (map f blue) out (length-map green f ∙ eg ∙ sym n) (length-map blue f ∙ eb ∙ sym n) (omega arith)
      (λ k lt.
      let inside : k < length red = omega arith in
      rw (sample_at max red k inside, sample_at max green k (omega arith), sample_at max blue k (omega arith)) (h k inside))
