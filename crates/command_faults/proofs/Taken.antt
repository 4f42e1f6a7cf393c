-- What a writer takes in several parts.
use Rattle.std.proofs.Common.{◌++◌, ◌+◌, ◌<◌, ℕ, List, [], Option, Some, None, Result, Ok, Err, length, take, drop, get_or, refl}
use Rattle.std.proofs.Common.{OnOk, sym, ap, subst, ◌∙◌}
use Rattle.std.specs.Prelude.{IsErr, OnErr}
use Rattle.std.specs.Io.KnownBytes.{Appends}
use Rattle.std.specs.List.{flat_map}
use Rattle.std.proofs.KnownBytes.{Appends-trans}
use Rattle.std.proofs.lemmas.Grind.{flat_map-append}
use Rattle.std.proofs.lemmas.List.{append-nil, take-append-drop, take_more, flat_map_more}
use Rattle.streams.specs.Streams.{AppendsPart, CountsFailure, one_more}
use Rattle.streams.proofs.Appended.{AppendsPart-front, AppendsPart-next}
use Rattle.command_faults.specs.Taking.{TakesAll, TakesPart, Takes}

appends_none : (a : Option (List ℕ)) → Appends a a []
appends_none None = tt
appends_none (Some xs) = sym (append-nil xs)

pub all_none : (a : Option (List ℕ)) (n : ℕ) → TakesAll [] a a n n
all_none a n = record { taken = appends_none a; failures = refl }

pub all_then : (front back : List ℕ) (a b c : Option (List ℕ)) (n m k : ℕ) → TakesAll front a b n m → TakesAll back b c m k
    → TakesAll (front ++ back) a c n k
all_then front back a b c n m k first second =
    record { taken = Appends-trans a b c front back first.taken second.taken; failures = second.failures ∙ first.failures }

pub part_then : (front back : List ℕ) (a b c : Option (List ℕ)) (n m k : ℕ) → TakesAll front a b n m → TakesPart back b c m k
    → TakesPart (front ++ back) a c n k
part_then front back a b c n m k first second =
    record {
      taken = AppendsPart-next a b c front back [] (front ++ back) first.taken second.taken (sym (append-nil (front ++ back)));
      failures = second.failures ∙ ap one_more first.failures;
    }

pub part_front : (front back : List ℕ) (a b : Option (List ℕ)) (n m : ℕ) → TakesPart front a b n m → TakesPart (front ++ back) a b n m
part_front front back a b n m first =
    record { taken = AppendsPart-front a b front back (front ++ back) first.taken refl; failures = first.failures }

pub takes_then : {X E : Type 0} (r : Result X E) (front back : List ℕ) (a b c : Option (List ℕ)) (n m k : ℕ) → TakesAll front a b n m
    → Takes r back b c m k → Takes r (front ++ back) a c n k
takes_then (Ok x) front back a b c n m k first second = all_then front back a b c n m k first second
takes_then (Err e) front back a b c n m k first second = part_then front back a b c n m k first second

-- where an answer is no `Ok` a part was taken
pub takes_err : {X E : Type 0} (r : Result X E) (bytes : List ℕ) (a b : Option (List ℕ)) (n m : ℕ) → IsErr r → TakesPart bytes a b n m
    → Takes r bytes a b n m
takes_err (Ok x) bytes a b n m is part = cc
takes_err (Err e) bytes a b n m is part = part

pub takes_of : {X E : Type 0} (r : Result X E) (bytes : List ℕ) (a b : Option (List ℕ)) (n m : ℕ) → OnOk r (Appends a b bytes)
    → OnErr r (AppendsPart a b bytes) → CountsFailure r n m → Takes r bytes a b n m
takes_of (Ok x) bytes a b n m all part counts = record { taken = all; failures = counts }
takes_of (Err e) bytes a b n m all part counts = record { taken = part; failures = counts }

-- ---- one part for each element of a list

-- one part more
pub all_more : {X : Type 0} (f : X → List ℕ) (xs : List X) (i : ℕ) (d : X) (a b c : Option (List ℕ)) (n m k : ℕ) → i < length xs
    → TakesAll (flat_map f (take i xs)) a b n m → TakesAll (f (get_or xs i d)) b c m k → TakesAll (flat_map f (take (i + 1) xs)) a c n k
all_more f xs i d a b c n m k within first second =
    let more = flat_map_more f [] (take i xs) (get_or xs i d) ∙ ap (flat_map f) (sym (take_more xs i d within)) in
    subst (λ bytes. TakesAll bytes a c n k) more (all_then (flat_map f (take i xs)) (f (get_or xs i d)) a b c n m k first second)

-- a part that was not taken whole
pub part_more : {X : Type 0} (f : X → List ℕ) (xs : List X) (i : ℕ) (d : X) (a b c : Option (List ℕ)) (n m k : ℕ) → i < length xs
    → TakesAll (flat_map f (take i xs)) a b n m → TakesPart (f (get_or xs i d)) b c m k → TakesPart (flat_map f xs) a c n k
part_more f xs i d a b c n m k within first second =
    let more = flat_map_more f [] (take i xs) (get_or xs i d) ∙ ap (flat_map f) (sym (take_more xs i d within)) in
    let front =
    subst (λ bytes. TakesPart bytes a c n k) more (part_then (flat_map f (take i xs)) (f (get_or xs i d)) a b c n m k first second) in
    let whole = sym (flat_map-append f (take (i + 1) xs) (drop (i + 1) xs)) ∙ ap (flat_map f) (take-append-drop (i + 1) xs) in
    subst (λ bytes. TakesPart bytes a c n k) whole (part_front (flat_map f (take (i + 1) xs)) (flat_map f (drop (i + 1) xs)) a c n k front)
