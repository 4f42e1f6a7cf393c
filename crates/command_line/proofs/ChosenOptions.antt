-- What options say is one: where a number is refused, no options are meant.
use Rattle.std.proofs.Common.{◌≡◌, ◌<◌, ℕ, List, Option, Some, None, codes, sym, ◌∙◌, subst, arith}
use Rattle.std.specs.Prelude.{IfNone}
use Rattle.clap.specs.Words.{Row, first_of}
use Rattle.domains.specs.Sides.{IsSides}
use Rattle.command_line.specs.Asking.{AreFarmOptions, AreOptions}
use Rattle.command_line.specs.Values.{IsChosen}
use Rattle.command_line.specs.declared.options.Options.{Options}
use Rattle.farm_setup.specs.Setups.{IsWithin}
use Rattle.farm_setup.specs.declared.setup.FarmSetup.{FarmSetup}

pub if_none : {X : Type 0} {P : Type 0} (r : Option X) → P → IfNone r P
if_none None p = p
if_none (Some x) p = tt

pub none_then : {X P Q : Type 0} (r : Option X) → (P → Q) → IfNone r P → IfNone r Q
none_then None then p = then p
none_then (Some x) then p = tt

-- the usual number under another name
pub chosen_usual : (given : Option (List ℕ)) (u v n : ℕ) → u ≡ v → IsChosen given u n → IsChosen given v n
chosen_usual given u v n same chosen = subst (λ (usual : ℕ). IsChosen given usual n) same chosen

pub chosen_once : (given : Option (List ℕ)) (usual n m : ℕ) → IsChosen given usual n → IsChosen given usual m → n ≡ m
chosen_once None usual n m a b = a ∙ sym b
chosen_once (Some text) usual n m a b = a.value ∙ sym b.value

pub no_sides : (rows : List Row) (h w : ℕ) → IsChosen (first_of (codes "rows") rows) 64 h → IsChosen (first_of (codes "cols") rows) 64 w
    → ¬ IsSides (record { height = h; width = w }) → (options : Options) → ¬ AreOptions rows options
no_sides rows h w height width none options are =
    let same_h = chosen_once (first_of (codes "rows") rows) 64 options.sides.height h are.height height in
    let same_w = chosen_once (first_of (codes "cols") rows) 64 options.sides.width w are.width width in
    none (subst (λ (n : ℕ). IsSides (record { height = h; width = n })) same_w
    (subst (λ (n : ℕ). IsSides (record { height = n; width = options.sides.width })) same_h are.sides))

pub no_percent : (rows : List Row) (p : ℕ) → IsChosen (first_of (codes "percent") rows) 40 p → 10000 < p → (options : Options)
    → ¬ AreOptions rows options
no_percent rows p chosen over options are =
    let same = chosen_once (first_of (codes "percent") rows) 40 options.percent p are.percent chosen in
    let most = are.most in
    absurd (omega arith)

-- numbers of which one is outside a farm's limits are meant by no options
pub no_farm : (rows : List Row) (n t k : ℕ) → IsChosen (first_of (codes "nodes") rows) 2 n → IsChosen (first_of (codes "turns") rows) 1000 t
    → IsChosen (first_of (codes "capacity") rows) 8 k → ¬ IsWithin n t k → (farm : FarmSetup) → ¬ AreFarmOptions rows farm
no_farm rows n t k nodes turns capacity outside farm are =
    let same_nodes = chosen_once (first_of (codes "nodes") rows) 2 farm.nodes n are.nodes nodes in
    let same_turns = chosen_once (first_of (codes "turns") rows) 1000 farm.turns t are.turns turns in
    let same_capacity = chosen_once (first_of (codes "capacity") rows) 8 farm.capacity k are.capacity capacity in
    outside (subst (λ (x : ℕ). IsWithin n t x) same_capacity
    (subst (λ (x : ℕ). IsWithin n x farm.capacity) same_turns
    (subst (λ (x : ℕ). IsWithin x farm.turns farm.capacity) same_nodes are.size)))
