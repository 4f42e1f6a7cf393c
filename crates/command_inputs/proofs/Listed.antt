-- Lists and results: what stands at a place, and several things said of one result.
use Rattle.std.proofs.Common.{Result, Ok, Err, IfOk, IfNone, ℕ, ◌<◌, ◌≡◌, List, Option, Some, None, length, get_or, slice_get, refl}
use Rattle.std.proofs.lemmas.Option.{slice_get_read}

-- what a loop over a list has before it
pub here_is : {X : Type 0} (xs : List X) (i : ℕ) (x : X) → i < length xs → x ≡ get_or xs i x → slice_get xs i ≡ Some x
here_is xs i x within is = slice_get_read xs (length xs) i x refl within is

-- several things that are said of a result
pub both_then : {X E : Type 0} {P Q R : X → Type 0} (r : Result X E) → ((x : X) → P x → Q x → R x) → IfOk r P → IfOk r Q → IfOk r R
both_then (Ok x) f p q = f x p q
both_then (Err e) f p q = tt

pub all_then : {X E : Type 0} {P Q R S : X → Type 0} (r : Result X E) → ((x : X) → P x → Q x → R x → S x) → IfOk r P → IfOk r Q → IfOk r R
    → IfOk r S
all_then (Ok x) f p q s = f x p q s
all_then (Err e) f p q s = tt

-- where an answer is nothing, this holds
pub if_none : {X P : Type 0} (r : Option X) → P → IfNone r P
if_none None p = p
if_none (Some x) p = tt
