use Rattle.std.proofs.Common.{FitsSigned, ◌≡◌, ℤ, List, subst, sym, ◌∙◌}
use Rattle.std.proofs.lemmas.List.Elements.{recursion_from_All}
use Rattle.std.specs.Int.{w32, w64}
use Rattle.std.specs.List.{All}
use Rattle.identity.specs.declared.key.Key.{Key}
use Rattle.tile_fact.specs.declared.body.Body.{Body}
use Rattle.tile_fact.specs.declared.body.Body.TheVariants.{Tile, Partial}
use Rattle.tile_fact.specs.FactFile.{IsKey, HasFittingNumbers}
use Rattle.tile_fact.proofs.laws.facts_fit_their_records.Goals as goal

pub returns-in-Tile : goal.returns-in-Tile
returns-in-Tile c =
    let samples = subst (λ (l : List ℤ). All (FitsSigned w32) l) c.as_slice.ensures c.fact_samples_fit_32_bits.ensures in
    let body : Tile c.in-Tile.samples ≡ c.args.fact.now.body = sym c.in-Tile.is ∙ c.body.ensures.body in
    record {
      key = subst (λ (k : Key). IsKey k) c.key.ensures c.fact_keys_fit_their_fields.ensures;
      within = c.body.ensures.within;
      numbers = subst (λ (b : Body). HasFittingNumbers b) body (recursion_from_All (FitsSigned w32) c.in-Tile.samples samples);
    }

pub returns-in-Partial : goal.returns-in-Partial
returns-in-Partial c =
    let bins = subst (λ (l : List ℤ). All (FitsSigned w64) l) c.as_slice-in-Partial.ensures c.fact_bins_fit_64_bits.ensures in
    let body : Partial c.in-Partial.bins ≡ c.args.fact.now.body = sym c.in-Partial.is ∙ c.body.ensures.body in
    record {
      key = subst (λ (k : Key). IsKey k) c.key.ensures c.fact_keys_fit_their_fields.ensures;
      within = c.body.ensures.within;
      numbers = subst (λ (b : Body). HasFittingNumbers b) body (recursion_from_All (FitsSigned w64) c.in-Partial.bins bins);
    }
