-- Bytes that pass through a buffer in several parts.
use Rattle.std.proofs.Common.{◌≡◌, ◌++◌, ◌+◌, ◌<◌, ℕ, List, [], Option, None, Some, Result, Ok, Err, OnOk, length, take, drop}
use Rattle.std.proofs.Common.{get_or, refl, sym, ap, subst, ◌∙◌, append_assoc, arith}
use Rattle.std.specs.Prelude.{IsErr, OnErr}
use Rattle.std.specs.Io.KnownBytes.{Appends}
use Rattle.std.specs.List.{flat_map}
use Rattle.std.proofs.KnownBytes.{Appends-trans}
use Rattle.std.proofs.lemmas.Grind.{flat_map-append}
use Rattle.std.proofs.lemmas.List.{append-nil, take-append-drop, take_all, take_more, flat_map_more}
use Rattle.streams.specs.Streams.{AppendsPart, CountsFailure, one_more}
use Rattle.streams.proofs.Appended.{AppendsPart-front, AppendsPart-next}
use Rattle.write_buffer.specs.Passing.{Passes, Breaks, Puts}

appends_none : (a : Option (List ℕ)) → Appends a a []
appends_none None = tt
appends_none (Some xs) = sym (append-nil xs)

-- no bytes
pub passes_none : (waits : List ℕ) (a : Option (List ℕ)) (n : ℕ) → Passes [] waits waits a a n n
passes_none waits a n = record { gone = []; parts = append-nil waits; taken = appends_none a; failures = refl }

-- some bytes and then others
passes_then : (front back was mid waits : List ℕ) (a b c : Option (List ℕ)) (n m k : ℕ) → Passes front was mid a b n m
    → Passes back mid waits b c m k → Passes (front ++ back) was waits a c n k
passes_then front back was mid waits a b c n m k first second =
    record {
      gone = first.gone ++ second.gone;
      parts =
          sym (append_assoc was front back) ∙ ap (λ l. l ++ back) first.parts ∙ append_assoc first.gone mid back
          ∙ ap (λ l. first.gone ++ l) second.parts ∙ sym (append_assoc first.gone second.gone waits);
      taken = Appends-trans a b c first.gone second.gone first.taken second.taken;
      failures = second.failures ∙ first.failures;
    }

-- the later bytes fail
breaks_then : (front back was mid : List ℕ) (a b c : Option (List ℕ)) (n m k : ℕ) → Passes front was mid a b n m
    → Breaks back mid b c m k → Breaks (front ++ back) was a c n k
breaks_then front back was mid a b c n m k first second =
    let whole : was ++ (front ++ back) ≡ first.gone ++ (mid ++ back) =
    sym (append_assoc was front back) ∙ ap (λ l. l ++ back) first.parts ∙ append_assoc first.gone mid back in
    record {
      taken =
          AppendsPart-next a b c first.gone (mid ++ back) [] (was ++ (front ++ back)) first.taken second.taken
          (whole ∙ sym (append-nil (first.gone ++ (mid ++ back))));
      failures = second.failures ∙ ap one_more first.failures;
    }

-- the earlier bytes fail
pub breaks_front : (front back was : List ℕ) (a b : Option (List ℕ)) (n m : ℕ) → Breaks front was a b n m
    → Breaks (front ++ back) was a b n m
breaks_front front back was a b n m first =
    record {
      taken =
          AppendsPart-front a b (was ++ front) back (was ++ (front ++ back)) first.taken (sym (append_assoc was front back));
      failures = first.failures;
    }

pub puts_then : {X E : Type 0} (r : Result X E) (front back was mid waits : List ℕ) (a b c : Option (List ℕ)) (n m k : ℕ)
    → Passes front was mid a b n m → Puts r back mid waits b c m k → Puts r (front ++ back) was waits a c n k
puts_then (Ok x) front back was mid waits a b c n m k first second = passes_then front back was mid waits a b c n m k first second
puts_then (Err e) front back was mid waits a b c n m k first second = breaks_then front back was mid a b c n m k first second

pub puts_err : {X E : Type 0} (r : Result X E) (bytes was waits : List ℕ) (a b : Option (List ℕ)) (n m : ℕ) → IsErr r
    → Breaks bytes was a b n m → Puts r bytes was waits a b n m
puts_err (Ok x) bytes was waits a b n m is breaks = cc
puts_err (Err e) bytes was waits a b n m is breaks = breaks

-- all that waits is written, and then the bytes
pub puts_through : {X E : Type 0} (r : Result X E) (bytes was waits : List ℕ) (a b c : Option (List ℕ)) (n m k : ℕ) → Appends a b was
    → m ≡ n → waits ≡ [] → OnOk r (Appends b c bytes) → OnErr r (AppendsPart b c bytes) → CountsFailure r m k
    → Puts r bytes was waits a c n k
puts_through (Ok x) bytes was waits a b c n m k all same none rest part counts =
    record {
      gone = was ++ bytes;
      parts = sym (ap (λ l. (was ++ bytes) ++ l) none ∙ append-nil (was ++ bytes));
      taken = Appends-trans a b c was bytes all rest;
      failures = counts ∙ same;
    }
puts_through (Err e) bytes was waits a b c n m k all same none rest part counts =
    record {
      taken = AppendsPart-next a b c was bytes [] (was ++ bytes) all part (sym (append-nil (was ++ bytes)));
      failures = counts ∙ ap one_more same;
    }

-- ---- some bytes for each element of a list

pub passes_more : {X : Type 0} (f : X → List ℕ) (xs : List X) (i : ℕ) (d : X) (was mid waits : List ℕ) (a b c : Option (List ℕ)) (n m k : ℕ)
    → i < length xs → Passes (flat_map f (take i xs)) was mid a b n m → Passes (f (get_or xs i d)) mid waits b c m k
    → Passes (flat_map f (take (i + 1) xs)) was waits a c n k
passes_more f xs i d was mid waits a b c n m k within first second =
    let more = flat_map_more f [] (take i xs) (get_or xs i d) ∙ ap (flat_map f) (sym (take_more xs i d within)) in
    subst (λ bytes. Passes bytes was waits a c n k) more
    (passes_then (flat_map f (take i xs)) (f (get_or xs i d)) was mid waits a b c n m k first second)

pub breaks_more : {X : Type 0} (f : X → List ℕ) (xs : List X) (i : ℕ) (d : X) (was mid : List ℕ) (a b c : Option (List ℕ)) (n m k : ℕ)
    → i < length xs → Passes (flat_map f (take i xs)) was mid a b n m → Breaks (f (get_or xs i d)) mid b c m k
    → Breaks (flat_map f xs) was a c n k
breaks_more f xs i d was mid a b c n m k within first second =
    let more = flat_map_more f [] (take i xs) (get_or xs i d) ∙ ap (flat_map f) (sym (take_more xs i d within)) in
    let front =
    subst (λ bytes. Breaks bytes was a c n k) more
    (breaks_then (flat_map f (take i xs)) (f (get_or xs i d)) was mid a b c n m k first second) in
    let whole = sym (flat_map-append f (take (i + 1) xs) (drop (i + 1) xs)) ∙ ap (flat_map f) (take-append-drop (i + 1) xs) in
    subst (λ bytes. Breaks bytes was a c n k) whole
    (breaks_front (flat_map f (take (i + 1) xs)) (flat_map f (drop (i + 1) xs)) was a c n k front)

pub passes_each : {X : Type 0} (f : X → List ℕ) (xs : List X) (i : ℕ) (was waits : List ℕ) (a b : Option (List ℕ)) (n m : ℕ)
    → i ≡ length xs → Passes (flat_map f (take i xs)) was waits a b n m → Passes (flat_map f xs) was waits a b n m
passes_each f xs i was waits a b n m all passes = subst (λ l. Passes (flat_map f l) was waits a b n m)
    (take_all i xs (omega (arith, all))) passes

-- ---- an empty buffer that is emptied again

parts_out : (bytes was mid gone : List ℕ) → was ≡ [] → was ++ bytes ≡ gone ++ mid → bytes ≡ gone ++ mid
parts_out bytes was mid gone none parts = sym (ap (λ l. l ++ bytes) none) ∙ parts

pub whole_out : {X E : Type 0} (r : Result X E) (bytes was mid : List ℕ) (a b c : Option (List ℕ)) (n m : ℕ) → was ≡ []
    → Passes bytes was mid a b n m → OnOk r (Appends b c mid) → OnOk r (Appends a c bytes)
whole_out (Ok x) bytes was mid a b c n m none first rest =
    subst (Appends a c) (sym (parts_out bytes was mid first.gone none first.parts)) (Appends-trans a b c first.gone mid first.taken rest)
whole_out (Err e) bytes was mid a b c n m none first rest = tt

pub part_out : {X E : Type 0} (r : Result X E) (bytes was mid : List ℕ) (a b c : Option (List ℕ)) (n m : ℕ) → was ≡ []
    → Passes bytes was mid a b n m → OnErr r (AppendsPart b c mid) → OnErr r (AppendsPart a c bytes)
part_out (Ok x) bytes was mid a b c n m none first rest = tt
part_out (Err e) bytes was mid a b c n m none first rest =
    AppendsPart-next a b c first.gone mid [] bytes first.taken rest
    (parts_out bytes was mid first.gone none first.parts ∙ sym (append-nil (first.gone ++ mid)))

-- all that was put is a part of what was to be put
pub broken_out : {X E : Type 0} (r : Result X E) (bytes was : List ℕ) (a b : Option (List ℕ)) (n m : ℕ) → was ≡ []
    → Breaks bytes was a b n m → OnErr r (AppendsPart a b bytes)
broken_out (Ok x) bytes was a b n m none first = tt
broken_out (Err e) bytes was a b n m none first = subst (λ l. AppendsPart a b (l ++ bytes)) none first.taken
