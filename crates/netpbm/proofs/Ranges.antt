-- Parts of the samples of a plane.
use Rattle.std.proofs.Common.{◌≡◌, ℕ, ◌+◌, ◌-◌, ◌<◌, ◌≤◌, List, ◌++◌, length, get_or, take, drop, sym, ap, ◌∙◌, arith, append_assoc}
use Rattle.std.specs.List.{slice_range}
use Rattle.std.proofs.lemmas.List.{length-take-le, length-drop, get_or-drop, get_or-take}
use Rattle.plane_samples.specs.declared.samples.PlaneSamples.{PlaneSamples}
use Rattle.plane_samples.specs.Samples.{sample_in, IsSamples}
use Rattle.netpbm.proofs.Rasters.{copied, take_part}

pub length_range : (list : List ℕ) (start end : ℕ) → end ≤ length list → length (slice_range list start end) ≡ end - start
length_range list start end le = length-take-le (end - start) (drop start list) (omega (arith, length-drop start list))

pub get_range : (list : List ℕ) (start end k : ℕ) → k < end - start → get_or (slice_range list start end) k 0 ≡ get_or list (start + k) 0
get_range list start end k lt = get_or-take (end - start) (drop start list) k 0 lt ∙ get_or-drop start list k 0

pub copied_part : (out : List ℕ) (samples : PlaneSamples) (start end : ℕ) (list : List ℕ) → IsSamples samples list → end ≤ length list
    → end - start ≤ length out → ((k : ℕ) → k < end - start → get_or out k 0 ≡ sample_in samples (start + k))
    → take (end - start) out ≡ slice_range list start end
copied_part out samples start end list is within room h =
    let many = length_range list start end within in
    ap (λ n. take n out) (sym many)
    ∙ copied out (slice_range list start end) (omega arith)
    (λ k lt.
    let inside : k < end - start = omega arith in
    h k inside ∙ is.1 (start + k) (omega arith) ∙ sym (get_range list start end k inside))

pub added : (old was now xs piece : List ℕ) (done end : ℕ) → done ≤ end → was ≡ old ++ take done xs → piece ≡ slice_range xs done end
    → now ≡ was ++ piece → now ≡ old ++ take end xs
added old was now xs piece done end le so_far part is =
    is ∙ ap (λ (l : List ℕ). l ++ piece) so_far ∙ append_assoc old (take done xs) piece
    ∙ ap (λ (l : List ℕ). old ++ l) (ap (λ (l : List ℕ). take done xs ++ l) part ∙ sym (take_part xs done end le))
