-- A hull holds all that it is made of, and a box all of it that lies in the domain.
use Rattle.std.proofs.Common.{◌≡◌, arith, ℤ, nat_eq, Option, Some, None, List, [], ◌∷◌, filter, refl, subst}
use Rattle.std.specs.Prelude.{All, Contains}
use Rattle.std.specs.List.{fold}
use Rattle.std.proofs.lemmas.Int.{ints, clamps}
use Rattle.std.proofs.lemmas.Bool.{eq-eqb}
use Rattle.std.proofs.lemmas.List.Elements.{All-nil, All-cons, All-head, All-tail, All-contains}
use Rattle.domains.specs.Span.{Ends, Holds, hull_of}
use Rattle.domains.specs.Area.{HoldsPoint, IsArea, IsSubarea, area_hull, common_of}
use Rattle.domains.specs.declared.area.Area.{Area}
use Rattle.domains.proofs.Areas.{common_is, hull_of_areas, area_hull_fits}
use Rattle.domains.proofs.PairLists.{Contains-filter}
use Rattle.tile_boxes.specs.Demands.{Demand, IsHullOfAll, meet_of_areas, grown_by, hull_of_all, areas_of}
use Rattle.tile_boxes.proofs.AreasMeet.{if_some-there}
use Rattle.tile_boxes.proofs.Lists.{Contains-map}

-- ---- hulls

-- there is a hull, and it holds the point
pub record InHull (o : Option Area) (r c : ℤ) : Type 0 where
  pub hull : Area
  pub there : o ≡ Some hull
  pub holds : HoldsPoint hull r c

in_first : (s t : Ends) (v : ℤ) → Holds s v → Holds (hull_of s t) v
in_first s t v h = let low = h.0 in let high = h.1 in (omega (arith, ints, clamps), omega (arith, ints, clamps))

in_second : (s t : Ends) (v : ℤ) → Holds t v → Holds (hull_of s t) v
in_second s t v h = let low = h.0 in let high = h.1 in (omega (arith, ints, clamps), omega (arith, ints, clamps))

grown_has : (o : Option Area) (a : Area) (r c : ℤ) → HoldsPoint a r c → InHull (grown_by o a) r c
grown_has None a r c h = record { hull = a; there = refl; holds = h }
grown_has (Some b) a r c h =
    record { hull = area_hull b a; there = refl; holds = (in_second b.rows a.rows r h.0, in_second b.cols a.cols c h.1) }

grown_keeps : (o : Option Area) (a : Area) (r c : ℤ) → InHull o r c → InHull (grown_by o a) r c
grown_keeps None a r c h = absurd (let there = h.there in cc)
grown_keeps (Some b) a r c h =
    let same : h.hull ≡ b = let there = h.there in cc in
    let holds = subst (λ (x : Area). HoldsPoint x r c) same h.holds in
    record { hull = area_hull b a; there = refl; holds = (in_first b.rows a.rows r holds.0, in_first b.cols a.cols c holds.1) }

fold_keeps : (areas : List Area) (o : Option Area) (r c : ℤ) → InHull o r c → InHull (fold grown_by o areas) r c
fold_keeps [] o r c h = h
fold_keeps (a ∷ rest) o r c h = fold_keeps rest (grown_by o a) r c (grown_keeps o a r c h)

fold_has : (areas : List Area) (o : Option Area) (r c : ℤ) → All (λ a. HoldsPoint a r c → InHull (fold grown_by o areas) r c) areas
fold_has [] o r c = All-nil (λ a. HoldsPoint a r c → InHull o r c)
fold_has (a ∷ rest) o r c =
    All-cons (λ b. HoldsPoint b r c → InHull (fold grown_by (grown_by o a) rest) r c) a rest
    (λ h. fold_keeps rest (grown_by o a) r c (grown_has o a r c h)) (fold_has rest (grown_by o a) r c)

-- ---- demands

-- what is demanded of a stage lies in the hull of all that is
pub demand_in_hull : (ds : List Demand) (d : Demand) (r c : ℤ) → Contains ds d → HoldsPoint d.area r c
    → InHull (hull_of_all (areas_of d.stage ds)) r c
demand_in_hull ds d r c there h =
    All-contains (λ a. HoldsPoint a r c → InHull (hull_of_all (areas_of d.stage ds)) r c) (areas_of d.stage ds) d.area
    (fold_has (areas_of d.stage ds) None r c)
    (Contains-map (λ e. e.area) (filter (λ e. nat_eq e.stage d.stage) ds) d
    (Contains-filter (λ e. nat_eq e.stage d.stage) ds d there (eq-eqb d.stage d.stage refl))) h

-- ---- meets

-- two areas that have a point in common meet, and their meet holds it
pub meet_holds : (a b : Area) (r c : ℤ) → HoldsPoint a r c → HoldsPoint b r c → InHull (meet_of_areas a b) r c
meet_holds a b r c h k =
    let both = (common_is a b r c).1 (h, k) in
    let top = both.0.0 in let bottom = both.0.1 in let left = both.1.0 in let right = both.1.1 in
    record { hull = common_of a b; there = if_some-there (common_of a b) (omega (arith, ints)) (omega (arith, ints)); holds = both }

-- ---- hulls are least

least_with : (o : Option Area) (a s h : Area) → ((b : Area) → o ≡ Some b → IsArea b × IsSubarea b s) → IsArea a → IsSubarea a s
    → grown_by o a ≡ Some h → IsArea h × IsSubarea h s
least_with None a s h before area inside is =
    let same : a ≡ h = cc in
    subst (λ (x : Area). IsArea x × IsSubarea x s) same (area, inside)
least_with (Some b) a s h before area inside is =
    let same : area_hull b a ≡ h = cc in
    let first = before b refl in
    subst (λ (x : Area). IsArea x × IsSubarea x s) same
    (area_hull_fits b a first.0 area, (hull_of_areas b a first.0 area).least s first.1 inside)

fold_least : (areas : List Area) (o : Option Area) (s h : Area) → ((b : Area) → o ≡ Some b → IsArea b × IsSubarea b s) → All IsArea areas
    → All (λ a. IsSubarea a s) areas → fold grown_by o areas ≡ Some h → IsSubarea h s
fold_least [] o s h before each inside is = (before h is).1
fold_least (a ∷ rest) o s h before each inside is =
    fold_least rest (grown_by o a) s h
    (λ b made. least_with o a s b before (All-head IsArea a rest each) (All-head (λ a. IsSubarea a s) a rest inside) made)
    (All-tail IsArea a rest each) (All-tail (λ a. IsSubarea a s) a rest inside) is

in_this : (o : Option Area) (h : Area) (r c : ℤ) → o ≡ Some h → InHull o r c → HoldsPoint h r c
in_this o h r c is inside =
    let same : inside.hull ≡ h = let there = inside.there in cc in subst (λ (x : Area). HoldsPoint x r c) same inside.holds

pub hull_is_least : (areas : List Area) (h : Area) → All IsArea areas → hull_of_all areas ≡ Some h → IsHullOfAll areas h
hull_is_least areas h each is = record {
  each = λ k d low r c inside. in_this (hull_of_all areas) h r c is (fold_has areas None r c k d low inside);
  least = λ s inside. fold_least areas None s h (λ b none. absurd (cc)) each inside is;
}

some_stays : (areas : List Area) (a : Area) → fold grown_by (Some a) areas ≡ None → ⊥
some_stays [] a e = cc
some_stays (b ∷ rest) a e = some_stays rest (area_hull a b) e

pub no_hull : (areas : List Area) → hull_of_all areas ≡ None → areas ≡ []
no_hull [] e = refl
no_hull (a ∷ rest) e = absurd (some_stays rest a e)
