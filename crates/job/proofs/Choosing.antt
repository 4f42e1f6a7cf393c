-- The formula that a function chooses at a point.
use Rattle.std.proofs.Common.{◌≡◌, ℤ, pos, List, [], ◌∷◌, Bool, true, false, Option, Some, None, refl}
use Rattle.std.specs.Prelude.{All, if◌then◌else◌}
use Rattle.std.specs.Option.{option_map_or, ForSome}
use Rattle.std.proofs.lemmas.List.Elements.{All-head, All-tail}
use Rattle.job.specs.Formula.{Formula}
use Rattle.job.specs.Pipeline.{JobCase}
use Rattle.job.specs.Values.{Valuation, formula_value, all_passed, chosen}

module _ (e h : Valuation) (r c : ℤ) where
  -- a formula has one value in both valuations
  abbrev pub IsAlike : Formula → Type 0
  IsAlike f = formula_value e f r c ≡ formula_value h f r c

  -- and so has the formula that is chosen, if there is one
  abbrev pub AreAlike : Option Formula → Type 0
  AreAlike o = option_map_or (λ f. formula_value e f r c) o (pos 0) ≡ option_map_or (λ f. formula_value h f r c) o (pos 0)

  abbrev pub AlikeWhere : JobCase → Type 0
  AlikeWhere p = all_passed p.tests r c ≡ true → IsAlike p.formula

  some_alike : (o : Option Formula) → ForSome o IsAlike → AreAlike o
  some_alike None alike = refl
  some_alike (Some f) alike = alike f refl

  first_alike : (passed : Bool) (f : Formula) (o : Option Formula) → (passed ≡ true → IsAlike f) → AreAlike o
      → AreAlike (if passed then Some f else o)
  first_alike true f o alike others = alike refl
  first_alike false f o alike others = others

  pub chosen_alike : (ps : List JobCase) (otherwise : Option Formula) → All AlikeWhere ps → ForSome otherwise IsAlike
      → AreAlike (chosen ps otherwise r c)
  chosen_alike [] otherwise alike other = some_alike otherwise other
  chosen_alike (p ∷ ps) otherwise alike other =
      first_alike (all_passed p.tests r c) p.formula (chosen ps otherwise r c) (All-head AlikeWhere p ps alike)
      (chosen_alike ps otherwise (All-tail AlikeWhere p ps alike) other)
