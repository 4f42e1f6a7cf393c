-- Words that follow a verb and ask for nothing.
use Rattle.std.proofs.Common.{◌≡◌, ℕ, List, [], ◌∷◌, refl}
use Rattle.gossip_events.specs.Scripts.{AreTwo, FollowPlain, FollowVerb, SpellsNode, SpellsNumber}
use Rattle.gossip_events.specs.declared.event.Event.{Event}
use Rattle.gossip_events.specs.declared.event.Event.TheVariants as events
use Rattle.gossip_events.specs.declared.order.ScriptRequest.{ScriptRequest}
use Rattle.gossip_events.specs.declared.order.ScriptRequest.TheVariants.{Make, Retire, Send, Plain}
use Rattle.gossip_events.specs.declared.verb.EventVerb.{EventVerb}
use Rattle.gossip_events.specs.declared.verb.EventVerb.TheVariants as verbs

second_number : (words : List (List ℕ)) (m n : ℕ) → AreTwo words (λ w. SpellsNode w m) (λ w. SpellsNode w n)
    → AreTwo words (λ w. SpellsNode w m) (λ w. SpellsNumber w n)
second_number [] m n two = two
second_number (a ∷ []) m n two = two
second_number (a ∷ b ∷ []) m n two = let second : SpellsNode b n = two.1 in (two.0, second.0)
second_number (a ∷ b ∷ c ∷ words) m n two = two

-- what are no node and number are no two nodes
pub no_merge : (words : List (List ℕ)) → ((m n : ℕ) → ¬ AreTwo words (λ w. SpellsNode w m) (λ w. SpellsNumber w n))
    → (event : Event) → ¬ FollowPlain verbs.Merge words event
no_merge words none (events.Make node key) follow = follow
no_merge words none (events.Retire node ids) follow = follow
no_merge words none (events.Send node to keys) follow = follow
no_merge words none (events.Deliver node message) follow = follow
no_merge words none (events.Merge node other) follow = none node other (second_number words node other follow)
no_merge words none (events.Keep node) follow = follow
no_merge words none (events.Restart node) follow = follow

-- after a verb that names neither a job nor a tile, what tells no event asks for nothing
pub no_order : (verb : EventVerb) (words : List (List ℕ)) → (verb ≡ verbs.Make → ⊥) → (verb ≡ verbs.Retire → ⊥) → (verb ≡ verbs.Send → ⊥)
    → ((event : Event) → ¬ FollowPlain verb words event) → (order : ScriptRequest) → ¬ FollowVerb verb words order
no_order verbs.Make words make retire send none order follow = make refl
no_order verbs.Retire words make retire send none order follow = retire refl
no_order verbs.Send words make retire send none order follow = send refl
no_order verbs.Deliver words make retire send none (Make node place) follow = follow
no_order verbs.Deliver words make retire send none (Retire node job) follow = follow
no_order verbs.Deliver words make retire send none (Send node to places) follow = follow
no_order verbs.Deliver words make retire send none (Plain event) follow = none event follow
no_order verbs.Merge words make retire send none (Make node place) follow = follow
no_order verbs.Merge words make retire send none (Retire node job) follow = follow
no_order verbs.Merge words make retire send none (Send node to places) follow = follow
no_order verbs.Merge words make retire send none (Plain event) follow = none event follow
no_order verbs.Keep words make retire send none (Make node place) follow = follow
no_order verbs.Keep words make retire send none (Retire node job) follow = follow
no_order verbs.Keep words make retire send none (Send node to places) follow = follow
no_order verbs.Keep words make retire send none (Plain event) follow = none event follow
no_order verbs.Restart words make retire send none (Make node place) follow = follow
no_order verbs.Restart words make retire send none (Retire node job) follow = follow
no_order verbs.Restart words make retire send none (Send node to places) follow = follow
no_order verbs.Restart words make retire send none (Plain event) follow = none event follow
