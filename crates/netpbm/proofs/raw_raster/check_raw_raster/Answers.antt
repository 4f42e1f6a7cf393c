-- The samples of the part that is looked at are the first whole ones of the raster.
use Rattle.std.proofs.Common.{◌≡◌, ◌-◌, ◌*◌, ◌/◌, ◌+◌, ◌<◌, ◌≤◌, ◌⊎◌, ℕ, List, length, drop, sym, ap, subst, arith, rules}
use Rattle.netpbm.proofs.RawLaws.{width_is, fits_quotient}
use Rattle.std.proofs.lemmas.List.{length-drop, length-take, take_rest}
use Rattle.netpbm.proofs.RawReads.{looked, place_fits, too_big, is_cut, is_long, is_whole, whole_samples}
use Rattle.netpbm.proofs.raw_raster.check_raw_raster.Goals as goal

pub overflow_mul-result : goal.overflow_mul-result
overflow_mul-result c =
    let a = c.args in
    let fits = place_fits a.max c.in-Some.place c.view_first_whole_samples_of_raster.result.now c.in-Some.ensures.within in
    let small : c.in-Some.place * c.count_bytes_per_raw_sample-width.result < length a.bytes.now =
    rw c.count_bytes_per_raw_sample-width.ensures (omega (
      arith,
      fits,
      c.view_first_whole_samples_of_raster.ensures.within,
      length-drop a.start a.bytes.now,
      length-take (length a.bytes.now - a.start) (drop a.start a.bytes.now),
    )) in
    search rules

pub overflow_add-result : goal.overflow_add-result
overflow_add-result c =
    let a = c.args in
    let fits = place_fits a.max c.in-Some.place c.view_first_whole_samples_of_raster.result.now c.in-Some.ensures.within in
    let small : a.start + c.in-Some.place * c.count_bytes_per_raw_sample-width.result < length a.bytes.now =
    rw c.count_bytes_per_raw_sample-width.ensures (omega (
      arith,
      fits,
      c.view_first_whole_samples_of_raster.ensures.within,
      length-drop a.start a.bytes.now,
      length-take (length a.bytes.now - a.start) (drop a.start a.bytes.now),
    )) in
    search rules

pub returns-in-Some-clause-read : goal.returns-in-Some-clause-read
returns-in-Some-clause-read c =
    let a = c.args in
    let same = looked a.bytes.now c.view_first_whole_samples_of_raster.result.now a.start a.max a.count c.view_first_whole_samples_of_raster.ensures.samples in
    rw c.count_bytes_per_raw_sample-width.ensures (too_big a.bytes.now c.view_first_whole_samples_of_raster.result.now a.start a.max a.count c.in-Some.place same
    c.in-Some.ensures.place c.in-Some.ensures.within)

pub returns-then-raster-width-clause-read : goal.returns-then-raster-width-clause-read
returns-then-raster-width-clause-read c =
    let a = c.args in
    let same = looked a.bytes.now c.view_first_whole_samples_of_raster.result.now a.start a.max a.count c.view_first_whole_samples_of_raster.ensures.samples in
    let size = whole_samples a.max c.count_bytes_per_raw_sample-width.result a.start a.bytes.now c.count_bytes_per_raw_sample-width.ensures in
    is_cut a.bytes.now c.view_first_whole_samples_of_raster.result.now a.start a.max a.count same c.in_default.ensures.none
    (omega (arith, size, c.if-raster-width.true))

pub returns-then-count-width-clause-read : goal.returns-then-count-width-clause-read
returns-then-count-width-clause-read c =
    let a = c.args in
    let same = looked a.bytes.now c.view_first_whole_samples_of_raster.result.now a.start a.max a.count c.view_first_whole_samples_of_raster.ensures.samples in
    let size = whole_samples a.max c.count_bytes_per_raw_sample-width.result a.start a.bytes.now c.count_bytes_per_raw_sample-width.ensures in
    let rest = ap (λ (l : List ℕ). length l) (take_rest a.bytes.now a.start) in
    let long : a.count * c.count_bytes_per_raw_sample-width.result < length (drop a.start a.bytes.now) = omega (arith, rest, c.if-count-width.true) in
    let long' = subst (λ w. a.count * w < length (drop a.start a.bytes.now)) c.count_bytes_per_raw_sample-width.ensures long in
    rw c.count_bytes_per_raw_sample-width.ensures (is_long a.bytes.now c.view_first_whole_samples_of_raster.result.now a.start a.max a.count same c.in_default.ensures.none
    (omega (arith, size, c.if-raster-width.false)) long')

pub returns-clause-read : goal.returns-clause-read
returns-clause-read c =
    let a = c.args in
    let same = looked a.bytes.now c.view_first_whole_samples_of_raster.result.now a.start a.max a.count c.view_first_whole_samples_of_raster.ensures.samples in
    let size = whole_samples a.max c.count_bytes_per_raw_sample-width.result a.start a.bytes.now c.count_bytes_per_raw_sample-width.ensures in
    let rest = ap (λ (l : List ℕ). length l) (take_rest a.bytes.now a.start) in
    let short : length (drop a.start a.bytes.now) ≤ a.count * c.count_bytes_per_raw_sample-width.result = omega (arith, rest, c.if-count-width.false) in
    let short' = subst (λ w. length (drop a.start a.bytes.now) ≤ a.count * w) c.count_bytes_per_raw_sample-width.ensures short in
    is_whole a.bytes.now c.view_first_whole_samples_of_raster.result.now a.start a.max a.count same c.in_default.ensures.none
    (omega (arith, size, c.if-raster-width.false)) short'

pub returns-clause-whole : goal.returns-clause-whole
returns-clause-whole c =
    let a = c.args in
    let width = c.count_bytes_per_raw_sample-width in
    let raster = drop a.start a.bytes.now in
    let rest = ap (λ (l : List ℕ). length l) (take_rest a.bytes.now a.start) in
    let long : length raster ≤ a.count * width.result = omega (arith, rest, c.if-count-width.false) in
    let many : a.count ≤ length raster / width.result = subst (λ n. a.count ≤ n / width.result) rest (omega (arith, c.if-raster-width.false)) in
    let widths = subst (λ w. (w ≡ 1) ⊎ (w ≡ 2)) (sym width.ensures) (width_is a.max) in
    subst (λ w. length raster ≡ a.count * w) width.ensures (fits_quotient (length raster) width.result a.count widths long many)
