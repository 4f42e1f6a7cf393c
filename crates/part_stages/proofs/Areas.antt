-- Where all that is read has a value.
use Rattle.std.proofs.Common.{ℕ, ◌+◌, ◌<◌, ℤ, ◌≡◌, List, [], ◌∷◌, ◌++◌, Some, length, map, take, slice_get, ap, subst, sym, ◌∙◌}
use Rattle.std.specs.Prelude.{Option, None, IfSome, slice_index_or}
use Rattle.std.proofs.lemmas.List.{map-append, take_more}
use Rattle.std.proofs.lemmas.List.Elements.{All-nil, All-cons, All-head, All-append}
use Rattle.std.proofs.lemmas.Option.{same_Some}
use Rattle.domains.specs.Area.{HoldsPoint, IsCommon}
use Rattle.domains.specs.Index.{Scale, index_at}
use Rattle.domains.specs.declared.area.Area.{Area}
use Rattle.job.specs.Pipeline.{Stage, Pipeline}
use Rattle.job.specs.Reads.{Read, point, window, EachTaken}
use Rattle.job.specs.Values.{kernel_column, kernel_row}
use Rattle.job.specs.WellFormed.{IsReadable, IsValued}
use Rattle.job.proofs.Agreeing.{All-left, All-right}
use Rattle.part_stages.specs.Parts.{IsPartArea, IsReadArea}
use Rattle.part_stages.specs.inside.Spans.{IsUnderIndices, IsUnderKernel}

module _ (job : Pipeline) (g : ℕ) (from : Stage) (there : slice_get job.stages g ≡ Some from) (valued : IsValued from.body) where
  readable : (r c : ℤ) → HoldsPoint from.domain r c → IsReadable job.stages g r c
  readable r c within = record { stage = from; there = there; valued = valued; within = within }

  within : (r c : ℤ) → IsReadable job.stages g r c → HoldsPoint from.domain r c
  within r c x = subst (λ (t : Stage). HoldsPoint t.domain r c) (sym (same_Some from x.stage (sym there ∙ x.there))) x.within

  pub point_area : (i j : Scale) (area : Area) → IsUnderIndices from.domain i j area → IsReadArea job (point g i j) area
  point_area i j area is =
      record {
        inside = λ r c h. readable (index_at i r) (index_at j c) ((is r c).0 h);
        whole = λ r c x. (is r c).1 (within (index_at i r) (index_at j c) x);
      }

  pub window_area : (kernel : List (List ℤ)) (area : Area) → IsUnderKernel from.domain kernel area → IsReadArea job (window g kernel) area
  window_area kernel area is =
      record {
        inside = λ r c h k n below beside. readable (kernel_row kernel r k) (kernel_column kernel c n) ((is r c).0 h k n below beside);
        whole = λ r c x. (is r c).1 (λ k n below beside. within (kernel_row kernel r k) (kernel_column kernel c n) (x k n below beside));
      }

pub area_then : {P Q : Area → Type 0} (o : Option Area) → IfSome o P → ((a : Area) → P a → Q a) → IfSome o Q
area_then None p f = tt
area_then (Some a) p f = f a p

module _ (job : Pipeline) where
  abbrev Taken : ℤ → ℤ → Read → Type 0
  Taken r c x = EachTaken (IsReadable job.stages) x r c

  pub first_area : (x : Read) (area : Area) → IsReadArea job x area → IsPartArea job (x ∷ []) area
  first_area x area is =
      record {
        inside = λ r c h. All-cons (Taken r c) x [] (is.inside r c h) (All-nil (Taken r c));
        whole = λ r c each. is.whole r c (All-head (Taken r c) x [] each);
      }

  pub one_area_more : (reads : List Read) (x : Read) (a b m : Area) → IsPartArea job reads a → IsReadArea job x b → IsCommon a b m
      → IsPartArea job (reads ++ x ∷ []) m
  one_area_more reads x a b m is more common =
      record {
        inside = λ r c h.
            let both = (common r c).0 h in
            All-append (Taken r c) reads (x ∷ []) (is.inside r c both.0)
            (All-cons (Taken r c) x [] (more.inside r c both.1) (All-nil (Taken r c)));
        whole = λ r c each.
            (common r c).1 (
              is.whole r c (All-left (Taken r c) reads (x ∷ []) each),
              more.whole r c (All-head (Taken r c) x [] (All-right (Taken r c) reads (x ∷ []) each)),
            );
      }

-- one read more of those in memory
pub reads_more : {K X : Type 0} (view : K → X) (xs : List K) (i : ℕ) (x : K) → i < length xs → x ≡ slice_index_or xs i x
    → map view (take (i + 1) xs) ≡ map view (take i xs) ++ view x ∷ []
reads_more view xs i x below so =
    ap (map view) (take_more xs i x below) ∙ map-append view (take i xs) (slice_index_or xs i x ∷ [])
    ∙ ap (λ y. map view (take i xs) ++ view y ∷ []) (sym so)
