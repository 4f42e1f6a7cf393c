-- What a world is seen as: for each node what it holds and what it keeps, and all messages that were ever sent.
use Rattle.std.specs.Coded.{Coded, code_by, coded×, coded_list, coded_ℕ}
use Rattle.std.specs.Prelude.{ℕ, List, refl}
use Rattle.node_state.specs.States.{State, coded_state}

pub record NodeStates : Type 0 where
  pub held : State
  pub kept : State

-- the node that it is for, and the state that it carries
pub record Sent : Type 0 where
  pub to : ℕ
  pub state : State

pub record Network : Type 0 where
  pub nodes : List NodeStates
  pub messages : List Sent

abbrev pub coded_states : Coded NodeStates
coded_states =
    code_by (State × State) (coded× coded_state coded_state) (λ p. (p.held, p.kept)) (λ p. record { held = p.0; kept = p.1 }) (λ _. refl)

abbrev pub coded_sent : Coded Sent
coded_sent = code_by (ℕ × State) (coded× coded_ℕ coded_state) (λ p. (p.to, p.state)) (λ p. record { to = p.0; state = p.1 }) (λ _. refl)

abbrev pub coded_network : Coded Network
coded_network =
    code_by (List NodeStates × List Sent) (coded× (coded_list coded_states) (coded_list coded_sent)) (λ p. (p.nodes, p.messages))
    (λ p. record { nodes = p.0; messages = p.1 }) (λ _. refl)
