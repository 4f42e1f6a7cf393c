-- What passes a weaker test.
use Rattle.std.specs.List.{Any}
use Rattle.std.specs.Prelude.{List}

pub any_as : {X : Type 0} (P Q : X → Type 0) → ((x : X) → P x → Q x) → (xs : List X) → Any P xs → Any Q xs
any_as P Q more xs (k, x, within, at, p) = (k, x, within, at, more x p)
