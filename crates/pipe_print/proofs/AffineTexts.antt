-- The canonical texts of affine sums, spans and variables.
use Rattle.std.proofs.Common.{◌≡◌, ℕ, Bool, true, false, List, [], ◌∷◌, ◌++◌, Option, Some, refl, sym, ap, subst, ◌∙◌}
use Rattle.std.proofs.Common.{append_assoc, ◌⊎◌, inl, inr}
use Rattle.std.specs.List.{flat_map}
use Rattle.std.proofs.lemmas.Bool.Decides.{eqb_tells}
use Rattle.std.proofs.lemmas.List.{append-nil}
use Rattle.pipe_tokens.specs.declared.token.Token.{Token}
use Rattle.pipe_tokens.specs.declared.token.Punct.TheVariants as mark
use Rattle.pipe_tokens.specs.declared.token.Keyword.TheVariants as word
use Rattle.pipe_tree.specs.declared.tree.AffineTerm.{AffineTerm}
use Rattle.pipe_tree.specs.declared.tree.AffineSpan.{AffineSpan}
use Rattle.pipe_tree.specs.declared.tree.Variable.{Variable}
use Rattle.pipe_tree.specs.Limits.{Tagged, plain}
use Rattle.pipe_tree.specs.Grammar.{Rule, Then, Gives, minus, factor_end, scaled_name, term, next_term, affine, span, a_variable}
use Rattle.pipe_tree.specs.Grammar as g
use Rattle.pipe_print.specs.Canonical as c
use Rattle.pipe_print.specs.Canonical.{◌⌢◌, product_tokens, scaled_tokens, term_tokens, next_term_tokens, affine_tokens}
use Rattle.pipe_print.specs.Canonical.{signed_tokens, span_tokens, variable_tokens}
use Rattle.pipe_print.proofs.Printed.{Printed, Drops, then_dropped, joined, at_text, chain, gives, gives_none, gives_dropped}
use Rattle.pipe_print.proofs.Printed.{takes, relabel, becomes, skip, takes_dropped, Adds, adds_one, many_adds}
use Rattle.pipe_print.proofs.SingleTokens.{name_printed, sign_printed, int_printed, int_dropped}

-- a factor of 1 is left out, and no other
pub scaled_is : (n : ℕ) (x : List ℕ)
    → ((n ≡ 1) × (scaled_tokens n x ≡ c.name x)) ⊎ (scaled_tokens n x ≡ c.int n ⌢ c.mark mark.Star ⌢ c.name x)
scaled_is n x = elim (eqb_tells n 1) [
  | inl p ↦ inl (p.1, rw p.0 refl)
  | inr p ↦ inr (rw p.0 refl)
]

pub minus_printed : (text : List Tagged) (b : Bool) → minus text b → Printed minus b (signed_tokens b []) text
minus_printed text b (inl p) =
    relabel (ap (λ (b : Bool). signed_tokens b []) (sym p.second.value)) (becomes (λ t k. inl k) (chain p (takes p.first) (gives p.second)))
minus_printed text b (inr p) = relabel (ap (λ (b : Bool). signed_tokens b []) (sym p.value)) (becomes (λ t k. inr k) (gives p))

pub minus_dropped : (text : List Tagged) (b : Bool) → minus text b → Drops text
minus_dropped text b (inl p) = then_dropped p (takes_dropped p.first) (gives_dropped p.second)
minus_dropped text b (inr p) = gives_dropped p

-- a factor and the name behind it
factor_name : (text : List Tagged) (f : ℕ × Option (List ℕ)) (p : Then (g.int plain) factor_end text f)
    → (q : Then (g.mark mark.Star plain) (λ _. Then (g.name plain) (λ x. Gives (p.value, Some x))) p.back f)
    → Printed scaled_name f (product_tokens f.0 f.1) text
factor_name text f p q =
    let r = q.second in
    let is : f ≡ (p.value, Some r.value) = r.second.value in
    elim (scaled_is p.value r.value) [
      | inl h ↦
          let alone : Printed (Then (g.name plain) (λ x. Gives (1, Some x))) (1, Some r.value) (c.name r.value) q.back =
          at_text (sym r.parts) (joined (name_printed r.first) (gives_none (1, Some r.value) (gives_dropped r.second))) in
          let short : Printed scaled_name (1, Some r.value) (c.name r.value) text =
          becomes (λ t k. inr k) (skip p (int_dropped p.first) (skip q (takes_dropped q.first) alone)) in
          subst (λ (f : ℕ × Option (List ℕ)). Printed scaled_name f (product_tokens f.0 f.1) text) (sym is)
          (subst (λ (n : ℕ). Printed scaled_name (n, Some r.value) (scaled_tokens n r.value) text) (sym h.0) short)
      | inr h ↦
          relabel (sym h ∙ ap (λ (f : ℕ × Option (List ℕ)). product_tokens f.0 f.1) (sym is))
          (becomes (λ t k. inl k) (chain p (int_printed p.first)
          (becomes (λ t k. inl k) (chain q (takes q.first) (chain r (name_printed r.first) (gives r.second))))))
    ]

scaled_name_printed : (text : List Tagged) (f : ℕ × Option (List ℕ)) → scaled_name text f
    → Printed scaled_name f (product_tokens f.0 f.1) text
scaled_name_printed text f (inl p) =
    elim p.second [
      | inl q ↦ factor_name text f p q
      | inr q ↦
          relabel (ap (λ (f : ℕ × Option (List ℕ)). product_tokens f.0 f.1) (sym q.value))
          (becomes (λ t k. inl k) (chain p (int_printed p.first) (becomes (λ t k. inr k) (gives q))))
    ]
scaled_name_printed text f (inr p) =
    relabel (ap (λ (f : ℕ × Option (List ℕ)). product_tokens f.0 f.1) (sym p.second.value))
    (becomes (λ t k. inr k) (chain p (name_printed p.first) (gives p.second)))

-- one term more
term_printed : (negative : Bool) (terms : List AffineTerm) (text : List Tagged) (more : List AffineTerm) (p : term negative terms text more)
    → Printed (term negative terms) more (product_tokens p.value.0 p.value.1) text
term_printed negative terms text more p = relabel (append-nil _) (chain p (scaled_name_printed p.front p.value p.first) (gives p.second))

next_term_adds : (terms more : List AffineTerm) (text : List Tagged) → next_term terms text more
    → Adds (next_term terms) next_term_tokens terms text more
next_term_adds terms more text p =
    let q = p.second in
    adds_one (record { negative = p.value; factor = q.value.0; name = q.value.1 }) q.second.value
    (chain p (sign_printed p.first) (term_printed p.value terms p.back more q))

signed_is : (b : Bool) (ts : List Token) → signed_tokens b [] ++ ts ≡ signed_tokens b ts
signed_is true ts = refl
signed_is false ts = refl

pub affine_printed : (text : List Tagged) (terms : List AffineTerm) → affine text terms → Printed affine terms (affine_tokens terms) text
unfolding affine
affine_printed text terms p =
    let q = p.second in
    let first : AffineTerm = record { negative = p.value; factor = q.first.value.0; name = q.first.value.1 } in
    let others = many_adds next_term next_term_tokens next_term_adds q.value terms q.back q.second in
    let list : terms ≡ first ∷ others.added = others.list ∙ ap (λ (l : List AffineTerm). l ++ others.added) q.first.second.value in
    let is : signed_tokens p.value [] ++ (term_tokens first ++ flat_map next_term_tokens others.added) ≡ affine_tokens terms =
    sym (append_assoc (signed_tokens p.value []) (term_tokens first) (flat_map next_term_tokens others.added))
    ∙ ap (λ (l : List Token). l ++ flat_map next_term_tokens others.added) (signed_is p.value (term_tokens first))
    ∙ ap affine_tokens (sym list) in
    relabel is (chain p (minus_printed p.front p.value p.first) (chain q (term_printed p.value [] q.front q.value q.first) others.printed))

pub span_printed : (text : List Tagged) (s : AffineSpan) → span text s → Printed span s (span_tokens s) text
unfolding span
span_printed text s p =
    let p2 = p.second in
    let p3 = p2.second in
    let p4 = p3.second in
    let p5 = p4.second in
    relabel (ap span_tokens (sym p5.second.value))
    (chain p (takes p.first) (chain p2 (affine_printed p2.front p2.value p2.first)
    (chain p3 (takes p3.first) (chain p4 (affine_printed p4.front p4.value p4.first) (chain p5 (takes p5.first) (gives p5.second))))))

pub variable_printed : (text : List Tagged) (v : Variable) → a_variable text v → Printed a_variable v (variable_tokens v) text
unfolding a_variable
variable_printed text v p =
    let p2 = p.second in
    let p3 = p2.second in
    relabel (ap (λ (l : List Token). c.name p.value ++ (c.word word.In ++ l)) (append-nil (span_tokens p3.value))
    ∙ ap variable_tokens (sym p3.second.value))
    (chain p (name_printed p.first) (chain p2 (takes p2.first) (chain p3 (span_printed p3.front p3.value p3.first) (gives p3.second))))
