use Rattle.std.proofs.Common.{◌∙◌, sym}
use Rattle.std.proofs.lemmas.List.Filters.{dedup_is}
use Rattle.std.proofs.lemmas.List.Kept.{Any-dedup, Contains-from_dedup, IsStrictlySortedBy-dedup}
use Rattle.std.proofs.lemmas.List.Sorted.{Contains-permutation, IsPermutation-sym}
use Rattle.distinct.proofs.AnyLaws.{any_as}
use Rattle.distinct.proofs.sort_without_repeats.Goals as goal

pub returns-clause-sorted : goal.returns-clause-sorted
returns-clause-sorted g c =
    let is = dedup_is _ _ _ c.dedup.ensures.filtered in
    rw is (IsStrictlySortedBy-dedup g.met.T.Ord.total g.met.T.Ord.matches_eq _ c.sort_unstable.ensures.sorted)

pub returns-clause-kept : goal.returns-clause-kept
returns-clause-kept g c = λ x h.
    let is = dedup_is _ _ _ c.dedup.ensures.filtered in
    let moved = Contains-permutation _ _ x c.sort_unstable.ensures.permutation h in
    rw is (any_as _ _ (λ y same. sym (g.met.T.Ord.matches_eq x y) ∙ same) _ (Any-dedup g.met.T.Eq.laws _ x moved))

pub returns-clause-none_new : goal.returns-clause-none_new
returns-clause-none_new g c = λ x h.
    let is = dedup_is _ _ _ c.dedup.ensures.filtered in
    Contains-permutation _ _ x (IsPermutation-sym _ _ c.sort_unstable.ensures.permutation) (Contains-from_dedup _ _ x (rw is at h))
