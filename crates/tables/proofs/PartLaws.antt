-- The parts of a text.
use Rattle.std.proofs.Common.{◌≡◌, ◌∙◌, ℕ, ◌+◌, ◌-◌, ◌<◌, ◌==◌, Bool, true, false, cond, is_some, not, List, [], ◌∷◌, Option, None, Some, Bor, MatchOption, ap, arith, length, take, drop, nat_lt, position, refl, sym}
use Rattle.std.proofs.lemmas.Bool.{false≢true, ltb-false, ltb-true, true≢false}
use Rattle.std.proofs.lemmas.List.{take_all, length-drop}
use Rattle.std.proofs.lemmas.List.Splits.{join_with_byte-slice_split, length-slice_split, slice_split_first, slice_split_none}
use Rattle.std.proofs.lemmas.List.Sums.{fails_before_first}
use Rattle.std.proofs.lemmas.Option.{cond_some, none-some}
use Rattle.std.specs.List.{join_with_byte, position_or_len}
use Rattle.tables.specs.Lines.{parts}

-- a byte parts a text
pub parted_at : (byte : ℕ) (text : List ℕ) (end : ℕ) → position (λ b. b == byte) text ≡ Some end
    → parts byte text ≡ take end text ∷ parts byte (take (length text - (end + 1)) (drop (end + 1) text))
parted_at byte text end there =
    let p = λ (b : ℕ). b == byte in
    let f = cond_some (nat_lt (position_or_len p text) (length text)) (position_or_len p text) end there in
    slice_split_first p text 0 (ltb-true _ _ f.0)
    ∙ ap (λ (n : ℕ). take n text ∷ parts byte (drop (n + 1) text)) f.1
    ∙ ap (λ (rest : List ℕ). take end text ∷ parts byte rest)
    (sym (take_all (length text - (end + 1)) (drop (end + 1) text) (omega (arith, length-drop (end + 1) text))))

unplaced : (t : Bool) (a : ℕ) → cond t (Some a) None ≡ None → t ≡ false
unplaced true a e = absurd (none-some a (sym e))
unplaced false a e = refl

-- none does
pub not_parted : (byte : ℕ) (text : List ℕ) → position (λ b. b == byte) text ≡ None → parts byte text ≡ text ∷ []
not_parted byte text none =
    let p = λ (b : ℕ). b == byte in
    let past = ltb-false _ _ (unplaced (nat_lt (position_or_len p text) (length text)) (position_or_len p text) none) in
    slice_split_none p text (λ k d within. fails_before_first p text k d (omega (arith, within, past)))

-- the parts of what is left of a text
abbrev pub parts_left : ℕ → Option (Bor (List ℕ)) → List (List ℕ)
parts_left byte None = []
parts_left byte (Some rest) = parts byte rest.now

pub first_and_left : (byte : ℕ) (text word : List ℕ) (left : Option (Bor (List ℕ)))
    → MatchOption left (parts byte text ≡ word ∷ []) (λ rest. parts byte text ≡ word ∷ parts byte rest.now)
    → parts byte text ≡ word ∷ parts_left byte left
first_and_left byte text word None e = e
first_and_left byte text word (Some rest) e = e

pub some_part : (byte : ℕ) (text : List ℕ) → 0 < length (parts byte text)
some_part byte text = omega (arith, length-slice_split (λ b. b == byte) text)

-- the one part of a text is the text
pub alone : (byte : ℕ) (text part : List ℕ) → parts byte text ≡ part ∷ [] → part ≡ text
alone byte text part e = sym (ap (join_with_byte byte) e) ∙ join_with_byte-slice_split byte text

pub nothing_left : (left : Option (Bor (List ℕ))) (none : Bool) → is_some left ≡ not none → none ≡ true → left ≡ None
nothing_left None none is so = refl
nothing_left (Some rest) true is so = absurd (true≢false is)
nothing_left (Some rest) false is so = absurd (false≢true so)

pub something_left : (left : Option (Bor (List ℕ))) (none : Bool) → is_some left ≡ not none → (none ≡ true → ⊥)
    → (rest : Bor (List ℕ)) × (left ≡ Some rest)
something_left None true is so = absurd (so refl)
something_left None false is so = absurd (false≢true is)
something_left (Some rest) none is so = (rest, refl)

-- what follows the first part
pub then_rest : (byte : ℕ) (text word : List ℕ) (left : Option (Bor (List ℕ))) (rest : Bor (List ℕ)) → left ≡ Some rest
    → MatchOption left (parts byte text ≡ word ∷ []) (λ more. parts byte text ≡ word ∷ parts byte more.now)
    → parts byte text ≡ word ∷ parts byte rest.now
then_rest byte text word left rest is first =
    first_and_left byte text word left first ∙ ap (λ (o : Option (Bor (List ℕ))). word ∷ parts_left byte o) is
