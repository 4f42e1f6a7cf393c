-- The canonical texts of indices, reads, kernels and stencils.
use Rattle.std.proofs.Common.{◌≡◌, ℕ, zero, suc, Bool, true, false, List, [], ◌∷◌, ◌++◌, refl, sym, ap, subst, ◌∙◌, append_assoc}
use Rattle.std.proofs.Common.{◌⊎◌, inl, inr}
use Rattle.std.specs.Prelude.{ℤ, pos, negsuc, ◌==◌}
use Rattle.std.proofs.lemmas.Bool.Decides.{eqb_tells}
use Rattle.std.proofs.lemmas.List.{append-nil}
use Rattle.pipe_tokens.specs.declared.token.Token.{Token}
use Rattle.pipe_tokens.specs.declared.token.Token.TheVariants as token
use Rattle.pipe_tokens.specs.declared.token.Punct.TheVariants as mark
use Rattle.pipe_tree.specs.declared.tree.Index.{Index}
use Rattle.pipe_tree.specs.Limits.{Tagged, plain}
use Rattle.pipe_tree.specs.Tree.{Node}
use Rattle.pipe_tree.specs.Grammar.{Rule, Then, Gives, Takes, signed, minus, scaled, addend, divisor, index_end, grouped_index}
use Rattle.pipe_tree.specs.Grammar.{index, name_end, named, entry, row, kernel, next_behind, many, separated, a_stencil}
use Rattle.pipe_tree.specs.Grammar as g
use Rattle.pipe_print.specs.Canonical as c
use Rattle.pipe_print.specs.Canonical.{◌⌢◌, each_behind, scaled_tokens, addend_tokens, divisor_tokens, is_zero, grouped}
use Rattle.pipe_print.specs.Canonical.{grouped_if, index_tokens, entry_tokens, row_tokens, kernel_tokens, expression_tokens}
use Rattle.pipe_print.specs.Canonical.{signed_tokens}
use Rattle.pipe_print.specs.declared.place.ExpressionPlace.{ExpressionPlace}
use Rattle.pipe_print.proofs.Printed.{Printed, Drops, joined, at_text, chain, ended, gives, gives_none, gives_dropped, takes}
use Rattle.pipe_print.proofs.Printed.{takes_dropped, then_dropped, relabel, becomes, skip, skip_back, Adds, adds_one, many_adds}
use Rattle.pipe_print.proofs.SingleTokens.{name_printed, sign_printed, int_printed, int_dropped, sign_dropped}
use Rattle.pipe_print.proofs.AffineTexts.{scaled_is, minus_printed, minus_dropped}

-- ---- lists with a separator

module _ {X : Type 0} (t : Token) (one : Rule X) (f : X → List Token)
    (each : (text : List Tagged) (x : X) → one text x → Printed one x (f x) text) where
  next_adds : (xs ys : List X) (text : List Tagged) → next_behind (Takes t plain tt) one xs text ys
      → Adds (next_behind (Takes t plain tt) one xs) (λ x. (t ∷ []) ⌢ f x) xs text ys
  next_adds xs ys text p =
      let q = p.second in
      adds_one q.value q.second.value (relabel (ap (λ (l : List Token). t ∷ l) (append-nil (f q.value)))
      (chain p (takes p.first) (chain q (each q.front q.value q.first) (gives q.second))))

  pub separated_printed : (text : List Tagged) (xs : List X) → separated (Takes t plain tt) one text xs
      → Printed (separated (Takes t plain tt) one) xs (c.separated (t ∷ []) f xs) text
  separated_printed text xs p =
      let others = many_adds (next_behind (Takes t plain tt) one) (λ x. (t ∷ []) ⌢ f x) next_adds (p.value ∷ []) xs p.back p.second in
      relabel (ap (c.separated (t ∷ []) f) (sym others.list)) (chain p (each p.front p.value p.first) others.printed)

-- ---- indices

-- a factor and a name
scaled_printed : (text : List Tagged) (f : ℕ × List ℕ) → scaled text f → Printed scaled f (scaled_tokens f.0 f.1) text
scaled_printed text f (inl p) =
    let q = p.second in
    let r = q.second in
    let is : f ≡ (p.value, r.value) = r.second.value in
    elim (scaled_is p.value r.value) [
      | inl h ↦
          let alone : Printed (Then (g.name plain) (λ x. Gives (1, x))) (1, r.value) (c.name r.value) q.back =
          at_text (sym r.parts) (joined (name_printed r.first) (gives_none (1, r.value) (gives_dropped r.second))) in
          let short : Printed scaled (1, r.value) (c.name r.value) text =
          becomes (λ t k. inr k) (skip p (int_dropped p.first) (skip q (takes_dropped q.first) alone)) in
          subst (λ (f : ℕ × List ℕ). Printed scaled f (scaled_tokens f.0 f.1) text) (sym is)
          (subst (λ (n : ℕ). Printed scaled (n, r.value) (scaled_tokens n r.value) text) (sym h.0) short)
      | inr h ↦
          relabel (sym h ∙ ap (λ (f : ℕ × List ℕ). scaled_tokens f.0 f.1) (sym is))
          (becomes (λ t k. inl k)
          (chain p (int_printed p.first) (chain q (takes q.first) (chain r (name_printed r.first) (gives r.second)))))
    ]
scaled_printed text f (inr p) =
    relabel (ap (λ (f : ℕ × List ℕ). scaled_tokens f.0 f.1) (sym p.second.value))
    (becomes (λ t k. inr k) (chain p (name_printed p.first) (gives p.second)))

-- a number with its sign is no addend where it is 0
signed_is : (negative : Bool) (n : ℕ) → (signed negative n ≡ pos 0) ⊎ (addend_tokens (signed negative n) ≡ c.sign_tokens negative ⌢ c.int n)
signed_is true zero = inl refl
signed_is true (suc n) = inr refl
signed_is false zero = inl refl
signed_is false (suc n) = inr refl

addend_printed : (text : List Tagged) (k : ℤ) → addend text k → Printed addend k (addend_tokens k) text
addend_printed text k (inl p) =
    let q = p.second in
    elim (signed_is p.value q.value) [
      | inl h ↦ subst (λ (k : ℤ). Printed addend k (addend_tokens k) text) (sym (q.second.value ∙ h))
          (becomes (λ t l. inr l)
          (gives_none (pos 0) (then_dropped p (sign_dropped p.first) (then_dropped q (int_dropped q.first) (gives_dropped q.second)))))
      | inr h ↦ relabel (sym h ∙ ap addend_tokens (sym q.second.value))
          (becomes (λ t l. inl l) (chain p (sign_printed p.first) (chain q (int_printed q.first) (gives q.second))))
    ]
addend_printed text k (inr p) = relabel (ap addend_tokens (sym p.value)) (becomes (λ t l. inr l) (gives p))

addend_dropped : (text : List Tagged) (k : ℤ) → addend text k → Drops text
addend_dropped text k (inl p) =
    let q = p.second in then_dropped p (sign_dropped p.first) (then_dropped q (int_dropped q.first) (gives_dropped q.second))
addend_dropped text k (inr p) = gives_dropped p

divisor_printed : (text : List Tagged) (d : ℕ) → divisor text d → Printed divisor d (c.mark mark.Slash ⌢ c.int d) text
divisor_printed text d p = chain p (takes p.first) (int_printed p.second)

divisor_dropped : (text : List Tagged) (d : ℕ) → divisor text d → Drops text
divisor_dropped text d p = then_dropped p (takes_dropped p.first) (int_dropped p.second)

abbrev an_index : ℕ × List ℕ → ℤ → ℕ → Index
an_index f k d = record { mul = f.0; name = f.1; add = k; div = d }

-- an index that is not divided, one that is not shifted, and one that is both
sum_printed : (f : ℕ × List ℕ) (k : ℤ) (front back : List Tagged) → Printed scaled f (scaled_tokens f.0 f.1) front
    → Printed addend k (addend_tokens k) back
    → Printed index (an_index f k 1) (scaled_tokens f.0 f.1 ++ addend_tokens k) (front ++ back)
unfolding index
sum_printed f k front back a b =
    let end : Printed (index_end f) (an_index f k 1) (addend_tokens k) back =
    becomes (λ t h. inr h) (ended (λ (k : ℤ). an_index f k 1) b) in
    becomes (λ t h. inr h) (joined {Q = index_end} a end)

quotient_printed : (f : ℕ × List ℕ) (d : ℕ) (front back : List Tagged) → Printed scaled f (scaled_tokens f.0 f.1) front
    → Printed divisor d (c.mark mark.Slash ⌢ c.int d) back
    → Printed index (an_index f (pos 0) d) (scaled_tokens f.0 f.1 ++ (c.mark mark.Slash ⌢ c.int d)) (front ++ back)
unfolding index
quotient_printed f d front back a b =
    let end : Printed (index_end f) (an_index f (pos 0) d) (c.mark mark.Slash ⌢ c.int d) back =
    becomes (λ t h. inl h) (ended (λ (d : ℕ). an_index f (pos 0) d) b) in
    becomes (λ t h. inr h) (joined {Q = index_end} a end)

undivided : (f : ℕ × List ℕ) (k : ℤ) → scaled_tokens f.0 f.1 ++ addend_tokens k ≡ index_tokens (an_index f k 1)
undivided f (pos zero) = sym (append-nil _)
undivided f (pos (suc n)) = sym (append-nil _)
undivided f (negsuc n) = sym (append-nil _)

unshifted : (f : ℕ × List ℕ) (d : ℕ) → (d == 1) ≡ false
    → scaled_tokens f.0 f.1 ++ (c.mark mark.Slash ⌢ c.int d) ≡ index_tokens (an_index f (pos 0) d)
unshifted f d e = rw (e, append-nil (scaled_tokens f.0 f.1)) refl

shifted_and_divided : (f : ℕ × List ℕ) (k : ℤ) (d : ℕ) → is_zero k ≡ false → (d == 1) ≡ false
    → grouped (scaled_tokens f.0 f.1 ⌢ addend_tokens k) ++ (c.mark mark.Slash ⌢ c.int d) ≡ index_tokens (an_index f k d)
shifted_and_divided f k d z e = rw (z, e) refl

grouped_behind : (a b rest : List Token)
    → token.Punct mark.OpenRound ∷ (a ++ (b ++ token.Punct mark.CloseRound ∷ rest)) ≡ grouped (a ++ b) ++ rest
grouped_behind a b rest =
    ap (λ (l : List Token). token.Punct mark.OpenRound ∷ l)
    (sym (append_assoc a b (token.Punct mark.CloseRound ∷ rest)) ∙ sym (append_assoc (a ++ b) (c.mark mark.CloseRound) rest))

zero_or_not : (k : ℤ) → (k ≡ pos 0) ⊎ (is_zero k ≡ false)
zero_or_not (pos zero) = inl refl
zero_or_not (pos (suc n)) = inr refl
zero_or_not (negsuc n) = inr refl

abbrev IndexPrinted : List Tagged → Index → Type 0
IndexPrinted text i = Printed index i (index_tokens i) text

grouped_index_printed : (text : List Tagged) (i : Index) → grouped_index text i → IndexPrinted text i
unfolding index
grouped_index_printed text i p =
    let q = p.second in
    let r = q.second in
    let s = r.second in
    let u = s.second in
    let f = q.value in
    let is : i ≡ an_index f r.value u.value = u.second.value in
    elim (eqb_tells u.value 1) [
      | inl one ↦
          let shorter : Printed index (an_index f r.value 1) (scaled_tokens f.0 f.1 ++ addend_tokens r.value) text =
          skip p (takes_dropped p.first) (at_text (sym q.parts) (sum_printed f r.value q.front q.back (scaled_printed q.front f q.first)
          (skip_back r (addend_printed r.front r.value r.first) (then_dropped s (takes_dropped s.first)
          (then_dropped u (divisor_dropped u.front u.value u.first) (gives_dropped u.second)))))) in
          let e : i ≡ an_index f r.value 1 = is ∙ ap (λ (d : ℕ). an_index f r.value d) one.1 in
          subst (IndexPrinted text) (sym e) (relabel (undivided f r.value) shorter)
      | inr more ↦ elim (zero_or_not r.value) [
        | inl none ↦
            let shorter : Printed index (an_index f (pos 0) u.value) (scaled_tokens f.0 f.1 ++ (c.mark mark.Slash ⌢ c.int u.value)) text =
            skip p (takes_dropped p.first)
            (at_text (sym q.parts) (quotient_printed f u.value q.front q.back (scaled_printed q.front f q.first)
            (skip r (addend_dropped r.front r.value r.first)
            (skip s (takes_dropped s.first) (skip_back u (divisor_printed u.front u.value u.first) (gives_dropped u.second)))))) in
            let e : i ≡ an_index f (pos 0) u.value = is ∙ ap (λ (k : ℤ). an_index f k u.value) none in
            subst (IndexPrinted text) (sym e) (relabel (unshifted f u.value more.0) shorter)
        | inr some ↦
            relabel (grouped_behind _ _ _ ∙ shifted_and_divided f r.value u.value some more.0 ∙ ap index_tokens (sym is))
            (becomes (λ t h. inl h) (chain p (takes p.first) (chain q (scaled_printed q.front f q.first)
            (chain r (addend_printed r.front r.value r.first)
            (chain s (takes s.first) (chain u (divisor_printed u.front u.value u.first) (gives u.second)))))))
      ]
    ]

pub index_printed : (text : List Tagged) (i : Index) → index text i → Printed index i (index_tokens i) text
unfolding index
index_printed text i (inl p) = grouped_index_printed text i p
index_printed text i (inr p) =
    let f = p.value in
    let a = scaled_printed p.front f p.first in
    elim p.second [
      | inl q ↦ elim (eqb_tells q.value 1) [
        | inl one ↦
            let none : Printed addend (pos 0) [] p.back =
            becomes (λ t h. inr h)
            (gives_none (pos 0) (then_dropped q (divisor_dropped q.front q.value q.first) (gives_dropped q.second))) in
            let e : i ≡ an_index f (pos 0) 1 = q.second.value ∙ ap (λ (d : ℕ). an_index f (pos 0) d) one.1 in
            subst (IndexPrinted text) (sym e)
            (at_text (sym p.parts) (relabel (undivided f (pos 0)) (sum_printed f (pos 0) p.front p.back a none)))
        | inr more ↦
            let e : i ≡ an_index f (pos 0) q.value = q.second.value in
            subst (IndexPrinted text) (sym e)
            (at_text (sym p.parts) (relabel (unshifted f q.value more.0) (quotient_printed f q.value p.front p.back a
            (skip_back q (divisor_printed q.front q.value q.first) (gives_dropped q.second)))))
      ]
      | inr q ↦
          let e : i ≡ an_index f q.value 1 = q.second.value in
          subst (IndexPrinted text) (sym e) (at_text (sym p.parts) (relabel (undivided f q.value)
          (sum_printed f q.value p.front p.back a (skip_back q (addend_printed q.front q.value q.first) (gives_dropped q.second)))))
    ]

-- ---- names and reads

pub named_printed : (place : ExpressionPlace) (text : List Tagged) (e : Node) → named text e → Printed named e (expression_tokens e place) text
named_printed place text e p =
    elim p.second [
      | inl q ↦
          let r = q.second in
          let s = r.second in
          let u = s.second in
          let v = u.second in
          relabel (ap (λ (e : Node). expression_tokens e place) (sym v.second.value))
          (chain p (name_printed p.first) (becomes (λ t h. inl h) (chain q (takes q.first) (chain r (index_printed r.front r.value r.first)
          (chain s (takes s.first) (chain u (index_printed u.front u.value u.first) (chain v (takes v.first) (gives v.second))))))))
      | inr q ↦
          relabel (ap (λ (e : Node). expression_tokens e place) (sym q.value))
          (chain p (name_printed p.first) (becomes (λ t h. inr h) (gives q)))
    ]

-- ---- kernels

-- a minus before 0 is left out
signed_entry_is : (negative : Bool) (n : ℕ)
    → ((signed negative n ≡ pos n) × (entry_tokens (pos n) ≡ c.int n))
    ⊎ (entry_tokens (signed negative n) ≡ signed_tokens negative [] ++ c.int n)
signed_entry_is true zero = inl (refl, refl)
signed_entry_is true (suc n) = inr refl
signed_entry_is false n = inl (refl, refl)

entry_printed : (text : List Tagged) (k : ℤ) → entry text k → Printed entry k (entry_tokens k) text
entry_printed text k p =
    let q = p.second in
    elim (signed_entry_is p.value q.value) [
      | inl h ↦
          let none : Printed minus false [] p.front = becomes (λ t h. inr h) (gives_none false (minus_dropped p.front p.value p.first)) in
          let number : Printed (Then (g.int plain) (λ n. Gives (signed false n))) (pos q.value) (c.int q.value) p.back =
          ended (signed false) (skip_back q (int_printed q.first) (gives_dropped q.second)) in
          subst (λ (k : ℤ). Printed entry k (entry_tokens k) text) (sym (q.second.value ∙ h.0))
          (at_text (sym p.parts) (joined {Q = λ negative. Then (g.int plain) (λ n. Gives (signed negative n))} none number))
      | inr h ↦ relabel (sym h ∙ ap entry_tokens (sym q.second.value))
          (chain p (minus_printed p.front p.value p.first) (chain q (int_printed q.first) (gives q.second)))
    ]

row_printed : (text : List Tagged) (entries : List ℤ) → row text entries → Printed row entries (row_tokens entries) text
unfolding row
row_printed text entries p =
    let q = p.second in
    let r = q.second in
    relabel (ap row_tokens (sym r.second.value))
    (chain p (takes p.first) (chain q (separated_printed (token.Punct mark.Comma) entry entry_tokens entry_printed q.front q.value q.first)
    (chain r (takes r.first) (gives r.second))))

kernel_printed : (text : List Tagged) (rows : List (List ℤ)) → kernel text rows → Printed kernel rows (kernel_tokens rows) text
unfolding kernel
kernel_printed text rows p =
    let q = p.second in
    let r = q.second in
    relabel (ap kernel_tokens (sym r.second.value))
    (chain p (takes p.first) (chain q (separated_printed (token.Punct mark.Comma) row row_tokens row_printed q.front q.value q.first)
    (chain r (takes r.first) (gives r.second))))

pub stencil_printed : (place : ExpressionPlace) (text : List Tagged) (e : Node) → a_stencil text e
    → Printed a_stencil e (expression_tokens e place) text
stencil_printed place text e p1 =
    let p2 = p1.second in
    let p3 = p2.second in
    let p4 = p3.second in
    let p5 = p4.second in
    let p6 = p5.second in
    let p7 = p6.second in
    let p8 = p7.second in
    relabel (ap (λ (e : Node). expression_tokens e place) (sym p8.second.value))
    (chain p1 (takes p1.first)
    (chain p2 (takes p2.first) (chain p3 (name_printed p3.first) (chain p4 (takes p4.first) (chain p5 (int_printed p5.first)
    (chain p6 (takes p6.first) (chain p7 (kernel_printed p7.front p7.value p7.first) (chain p8 (takes p8.first) (gives p8.second)))))))))
