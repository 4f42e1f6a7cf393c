-- Reading one sample after another, as a loop does.
use Rattle.std.proofs.Common.{◌≡◌, ℕ, suc, ◌-◌, ◌+◌, ◌≤◌, ◌<◌, List, [], ◌∷◌, ◌++◌, Result, Ok, Err, refl, sym, ap, ◌∙◌}
use Rattle.std.proofs.Common.{append_assoc, append-nil, arith}
use Rattle.netpbm.specs.declared.fault.PicFault.{PicFault}
use Rattle.std.specs.Result.{OnOk, IfErr}
use Rattle.netpbm.specs.Gives.{IsRead, Checks}
use Rattle.netpbm.specs.Reading.{◌>>=◌, sample_read, samples_read, end_read, plain_read}

-- what was read before, and what is still read
abbrev pub with_front : List ℕ → Result (List ℕ × ℕ) PicFault → Result (List ℕ × ℕ) PicFault
with_front front read = read >>= λ x. Ok (front ++ x.0, x.1)

regroup : (front : List ℕ) (s : ℕ) (read : Result (List ℕ × ℕ) PicFault)
    → with_front front (read >>= λ x. Ok (s ∷ x.0, x.1)) ≡ with_front (front ++ s ∷ []) read
regroup front s (Ok x) = ap (λ (l : List ℕ). Ok (l, x.1)) (sym (append_assoc front (s ∷ []) x.0))
regroup front s (Err f) = refl

pub starts : (read : Result (List ℕ × ℕ) PicFault) → with_front [] read ≡ read
starts (Ok x) = refl
starts (Err f) = refl

pub goes_on : (front bytes : List ℕ) (max count i at sample end : ℕ) (total : Result (List ℕ × ℕ) PicFault) → i < count
    → sample_read bytes at max ≡ Ok (sample, end)
    → with_front front (samples_read (count - i) bytes at max) ≡ total
    → with_front (front ++ sample ∷ []) (samples_read (count - (i + 1)) bytes end max) ≡ total
unfolding samples_read
goes_on front bytes max count i at sample end total lt h so_far =
    let k : count - i ≡ suc (count - (i + 1)) = omega arith in
    let one : with_front front (samples_read (count - i) bytes at max) ≡ with_front (front ++ sample ∷ [])
    (samples_read (count - (i + 1)) bytes end max) =
    rw (k, h) (regroup front sample (samples_read (count - (i + 1)) bytes end max)) in
    sym one ∙ so_far

pub fails : (front bytes : List ℕ) (max count i at : ℕ) (e : PicFault) (total : Result (List ℕ × ℕ) PicFault) → i < count
    → sample_read bytes at max ≡ Err e
    → with_front front (samples_read (count - i) bytes at max) ≡ total → total ≡ Err e
unfolding samples_read
fails front bytes max count i at e total lt h so_far =
    let k : count - i ≡ suc (count - (i + 1)) = omega arith in
    let one : with_front front (samples_read (count - i) bytes at max) ≡ Err e = rw (k, h) refl in
    sym so_far ∙ one

pub is_done : (front bytes : List ℕ) (max count i at : ℕ) (total : Result (List ℕ × ℕ) PicFault) → count ≤ i
    → with_front front (samples_read (count - i) bytes at max) ≡ total → total ≡ Ok (front, at)
unfolding samples_read
is_done front bytes max count i at total le so_far =
    let k : count - i ≡ 0 = omega arith in
    let one : with_front front (samples_read (count - i) bytes at max) ≡ Ok (front, at) =
    rw k (ap (λ (l : List ℕ). Ok (l, at)) (append-nil front)) in
    sym so_far ∙ one

-- ---- the whole raster

pub plain_fails : (bytes : List ℕ) (start max count : ℕ) (e : PicFault) → samples_read count bytes start max ≡ Err e
    → plain_read bytes start max count ≡ Err e
unfolding plain_read
plain_fails bytes start max count e h = rw h refl

pub plain_ends : (bytes : List ℕ) (start max count at : ℕ) (samples : List ℕ) → samples_read count bytes start max ≡ Ok (samples, at)
    → plain_read bytes start max count ≡ end_read bytes at samples
unfolding plain_read
plain_ends bytes start max count at samples h = rw h refl

pub read_is : {Y : Type 0} (read : Result Y PicFault) (y : Y) → read ≡ Ok y → IsRead read
read_is (Ok x) y e = tt
read_is (Err f) y e = absurd cc

pub checks_end : {X : Type 0} (r : Result X PicFault) (bytes : List ℕ) (at : ℕ) (samples : List ℕ) (read : Result (List ℕ) PicFault)
    → OnOk r ((s : List ℕ) → end_read bytes at s ≡ Ok s)
    → IfErr r (λ e. (s : List ℕ) → end_read bytes at s ≡ Err e) → read ≡ end_read bytes at samples → Checks r read
checks_end (Ok x) bytes at samples read ok err e = read_is read samples (e ∙ ok samples)
checks_end (Err f) bytes at samples read ok err e = e ∙ err samples
