-- The canonical texts of expressions: no deeper than the text that was read, wherever they stand.
use Rattle.std.proofs.Common.{◌≡◌, ℕ, zero, suc, ◌≤◌, Bool, true, false, List, [], ◌∷◌, ◌++◌, refl, sym, ap, subst, ◌∙◌}
use Rattle.std.proofs.Common.{append_assoc, arith, inl, inr}
use Rattle.std.proofs.lemmas.List.{append-nil}
use Rattle.pipe_tokens.specs.declared.token.Token.{Token}
use Rattle.pipe_tokens.specs.declared.token.Token.TheVariants as token
use Rattle.pipe_tokens.specs.declared.token.Punct.{Punct}
use Rattle.pipe_tokens.specs.declared.token.Punct.TheVariants as mark
use Rattle.pipe_tokens.specs.declared.token.Keyword.{Keyword}
use Rattle.pipe_tree.specs.declared.ahead.CallOp.{CallOp}
use Rattle.pipe_tree.specs.declared.ahead.CallOp.TheVariants as calls
use Rattle.pipe_tree.specs.declared.ahead.ProductOp.{ProductOp}
use Rattle.pipe_tree.specs.declared.ahead.ProductOp.TheVariants as factors
use Rattle.pipe_tree.specs.Limits.{Tagged, plain}
use Rattle.pipe_tree.specs.Tree.{Node, binary}
use Rattle.pipe_tree.specs.Grammar.{Rule, Then, Gives, Takes, Some_of, times, many, leaf, literal_number, named, a_stencil}
use Rattle.pipe_tree.specs.Grammar.{operand, product_more, product, sum_op, sum_more, sums, negation, group, arguments}
use Rattle.pipe_tree.specs.Grammar.{called, selected, opened, looked_up, Unary, Product, Expression}
use Rattle.pipe_tree.specs.Grammar as g
use Rattle.pipe_print.specs.declared.place.ExpressionPlace.{ExpressionPlace}
use Rattle.pipe_print.specs.declared.place.ExpressionPlace.TheVariants as place
use Rattle.pipe_print.specs.Canonical as c
use Rattle.pipe_print.specs.Canonical.{grouped, expression_tokens}
use Rattle.pipe_print.proofs.Printed.{Shortens, nothing, leaves_out, Shortens-append, Printed, fused, joined, at_text, chain}
use Rattle.pipe_print.proofs.Printed.{rechain, ended, reended, gives, takes, gives_dropped, relabel, becomes, skip_back}
use Rattle.pipe_print.proofs.SingleTokens.{IsTokenOf, IsWordOf, means, means_factor, means_call, name_printed, sign_printed}
use Rattle.pipe_print.proofs.SingleTokens.{relation_printed, int_printed}
use Rattle.pipe_print.proofs.IndexTexts.{named_printed, stencil_printed}

-- ---- turns

-- no turn
none_more : {A : Type 0} {R : Rule A} {T : A → Rule A} {a : A} {d : List Token} {text : List Tagged} → Printed R a d text
    → Printed (Then R (many T)) a d text
none_more {a = a} p = record {
  tagged = p.tagged;
  tokens = p.tokens;
  shorter = p.shorter;
  rule =
      record {
        front =
            p.tagged;
        back =
            [];
        value =
            a;
        parts =
            sym (append-nil p.tagged);
        first =
            p.rule;
        second = record { which = 0; it = record { empty = refl; value = refl } };
      };
}

times_last : {A : Type 0} (T : A → Rule A) (n : ℕ) (a b e : A) (x y : List Tagged) → times T n a x b → T b y e
    → times T (suc n) a (x ++ y) e
times_last T zero a b e x y p q =
    record {
      front =
          y;
      back =
          [];
      value =
          e;
      parts =
          ap (λ (l : List Tagged). l ++ y) p.empty ∙ sym (append-nil y);
      first =
          subst (λ v. T v y e) p.value q;
      second = record { empty = refl; value = refl };
    }
times_last T (suc n) a b e x y p q =
    record {
      front =
          p.front;
      back =
          p.back ++ y;
      value =
          p.value;
      parts =
          ap (λ (l : List Tagged). l ++ y) p.parts ∙ append_assoc p.front p.back y;
      first =
          p.first;
      second = times_last T n p.value b e p.back y p.second q;
    }

turn_last : {A : Type 0} (R : Rule A) (T : A → Rule A) (b e : A) (x y : List Tagged) → Then R (many T) x b → T b y e
    → Then R (many T) (x ++ y) e
turn_last R T b e x y p q =
    record {
      front = p.front;
      back = p.back ++ y;
      value = p.value;
      parts = ap (λ (l : List Tagged). l ++ y) p.parts ∙ append_assoc p.front p.back y;
      first = p.first;
      second = record { which = suc p.second.which; it = times_last T p.second.which p.value b e p.back y p.second.it q };
    }

-- one more turn
one_more : {A : Type 0} {R : Rule A} {T : A → Rule A} {a b : A} {d d' : List Token} {s t : List Tagged} → Printed (Then R (many T)) a d s
    → Printed (T a) b d' t → Printed (Then R (many T)) b (d ++ d') (s ++ t)
one_more {R = R} {T = T} {a = a} {b = b} p q = fused (λ s t h k. turn_last R T a b s t h k) p q

-- ---- groups

bracketed : List Tagged → List Tagged
bracketed text =
    record { token = token.Punct mark.OpenRound; role = plain }
    ∷ (text ++ record { token = token.Punct mark.CloseRound; role = plain } ∷ [])

-- parentheses that are left out
in_brackets : {X : Type 0} {R : Rule X} {v : X} {d : List Token} {text : List Tagged} → Printed R v d text → Printed R v d (bracketed text)
unfolding bracketed
in_brackets {text = text} p =
    let close : Shortens [] (record { token = token.Punct mark.CloseRound; role = plain } ∷ []) =
    leaves_out (token.Punct mark.CloseRound) [] [] nothing in
    record {
      tagged = p.tagged;
      tokens = p.tokens;
      rule = p.rule;
      shorter =
          leaves_out (token.Punct mark.OpenRound) p.tagged _ (subst
          (λ (l : List Tagged). Shortens l (text ++ record { token = token.Punct mark.CloseRound; role = plain } ∷ []))
          (append-nil p.tagged) (Shortens-append p.tagged text [] _ p.shorter close));
    }

mark_again : (m : Punct) → g.mark m plain (record { token = token.Punct m; role = plain } ∷ []) tt
mark_again m = record { text_is = refl; value = refl }

-- parentheses that are kept
group_printed : (m : ℕ) (e : Node) (d : List Token) (text : List Tagged) → Printed (sums (product (Unary m))) e d text
    → Printed (Unary (suc m)) e (grouped d) (bracketed text)
unfolding Unary bracketed
group_printed m e d text p =
    let end : Printed (Then (g.mark mark.CloseRound plain) (λ _. Gives e)) e (c.mark mark.CloseRound)
    (record { token = token.Punct mark.CloseRound; role = plain } ∷ []) =
    ended (λ (u : Unit {0}). e) (takes (mark_again mark.CloseRound)) in
    let inner : Printed (Then (sums (product (Unary m))) (λ a. Then (g.mark mark.CloseRound plain) (λ _. Gives a))) e
    (d ++ c.mark mark.CloseRound) (text ++ record { token = token.Punct mark.CloseRound; role = plain } ∷ []) =
    joined {Q = λ a. Then (g.mark mark.CloseRound plain) (λ _. Gives a)} p end in
    let all : Printed (group (sums (product (Unary m)))) e (grouped d) (bracketed text) =
    joined {Q = λ _. Then (sums (product (Unary m))) (λ a. Then (g.mark mark.CloseRound plain) (λ _. Gives a))}
    (takes (mark_again mark.OpenRound)) inner in
    becomes (λ t h. inl (inr (inl (inl (inr h))))) all

-- ---- the places of an expression

-- the canonical texts of an expression, by where it stands
pub record Fits (V P S : Rule Node) (e : Node) (v p s : List Tagged) : Type 0 where
  pub operand : Printed V e (expression_tokens e place.Unary) v
  pub factor : Printed P e (expression_tokens e place.Product) p
  pub whole : Printed S e (expression_tokens e place.Sum) s

abbrev Everywhere : Rule Node → Node → List Tagged → Type 0
Everywhere V e text = Fits V (product V) (sums (product V)) e text text text

-- what is no sum and no product is the same everywhere
same_places : (V : Rule Node) (e : Node) (text : List Tagged) → ((p : ExpressionPlace) → Printed V e (expression_tokens e p) text)
    → Everywhere V e text
same_places V e text at =
    record { operand = at place.Unary; factor = none_more (at place.Product); whole = none_more (none_more (at place.Sum)) }

-- ---- leaves

leaf_printed : (p : ExpressionPlace) (text : List Tagged) (e : Node) → leaf text e → Printed leaf e (expression_tokens e p) text
leaf_printed p text e (inl (inl h)) =
    becomes (λ t k. inl (inl k))
    (relabel (ap (λ (e : Node). expression_tokens e p) (sym h.second.value)) (chain h (int_printed h.first) (gives h.second)))
leaf_printed p text e (inl (inr h)) = becomes (λ t k. inl (inr k)) (named_printed p text e h)
leaf_printed p text e (inr h) = becomes (λ t k. inr k) (stencil_printed p text e h)

leaf_in : (m : ℕ) (text : List Tagged) (e : Node) → leaf text e → Unary m text e
unfolding Unary
leaf_in zero text e h = h
leaf_in (suc m) text e h = inl (inl h)

leaf_fits : (m : ℕ) (text : List Tagged) (e : Node) → leaf text e → Everywhere (Unary m) e text
leaf_fits m text e h = same_places (Unary m) e text (λ p. becomes (λ t k. leaf_in m t e k) (leaf_printed p text e h))

-- ---- products

-- an operator and its right operand, as they stand behind a in a product
record Operand (R : Rule Node) (t : Token) (a b : Node) (text : List Tagged) : Type 0 where
  more : List Token
  printed : Printed R b more text
  factor : expression_tokens b place.Product ≡ expression_tokens a place.Product ++ t ∷ more
  whole : expression_tokens b place.Sum ≡ expression_tokens b place.Product
  operand : expression_tokens b place.Unary ≡ grouped (expression_tokens b place.Product)

module _ (n m : ℕ) (each : (text : List Tagged) (e : Node) → Unary n text e → Everywhere (Unary m) e text)
    (above : (text : List Tagged) (e : Node) → Unary n text e → Everywhere (Unary (suc m)) e text) where
  operand_printed : (t : Token) (f : ProductOp) → IsTokenOf t f → (a b : Node) (text : List Tagged) → operand (Unary n) a f text b
      → Operand (operand (Unary m) a f) t a b text
  operand_printed t factors.Times is a b text p =
      let e = p.second.value in
      record {
        more = expression_tokens p.value place.Unary;
        printed = reended p (each p.front p.value p.first).operand;
        factor = rw (e, is) refl;
        whole = rw e refl;
        operand = rw e refl;
      }
  operand_printed t (factors.Literal op) is a b text p =
      let e = p.second.value in
      record {
        more = c.int p.value;
        printed = reended p (int_printed p.first);
        factor = rw (e, is) refl;
        whole = rw e refl;
        operand = rw e refl;
      }

  -- of a product of a
  abbrev ProductFits : Node → List Tagged → Type 0
  ProductFits e text = Fits (Unary (suc m)) (product (Unary m)) (sums (product (Unary m))) e (bracketed text) text text

  product_turn_fits : (a b : Node) (s t : List Tagged) → ProductFits a s → product_more (Unary n) a t b → ProductFits b (s ++ t)
  product_turn_fits a b s t fits p =
      let o = operand_printed p.first.token p.value (means_factor p.first.token p.value p.first.means) a b p.back p.second in
      let turn : Printed (product_more (Unary m) a) b (p.first.token ∷ o.more) t = rechain p (means p.first) o.printed in
      let factor : Printed (product (Unary m)) b (expression_tokens b place.Product) (s ++ t) =
      relabel (sym o.factor) (one_more fits.factor turn) in
      record {
        operand = relabel (sym o.operand) (group_printed m b (expression_tokens b place.Product) (s ++ t) (none_more factor));
        factor = factor;
        whole = relabel (sym o.whole) (none_more factor);
      }

  product_times_fit : (k : ℕ) (a b : Node) (s t : List Tagged) → ProductFits a s → times (product_more (Unary n)) k a t b
      → ProductFits b (s ++ t)
  product_times_fit zero a b s t fits p =
      subst (ProductFits b) (sym (ap (λ (l : List Tagged). s ++ l) p.empty ∙ append-nil s))
      (subst (λ (e : Node). ProductFits e s) (sym p.value) fits)
  product_times_fit (suc k) a b s t fits p =
      let all = product_times_fit k p.value b (s ++ p.front) p.back (product_turn_fits a p.value s p.front fits p.first) p.second in
      subst (ProductFits b) (append_assoc s p.front p.back ∙ ap (λ (l : List Tagged). s ++ l) (sym p.parts)) all

  product_fits : (text : List Tagged) (e : Node) → product (Unary n) text e → ProductFits e text
  product_fits text e p =
      let a = each p.front p.value p.first in
      let first : ProductFits p.value p.front =
      record { operand = in_brackets (above p.front p.value p.first).operand; factor = a.factor; whole = a.whole } in
      subst (ProductFits e) (sym p.parts) (product_times_fit p.second.which p.value e p.front p.back first p.second.it)

-- ---- sums

sum_tokens : (negative : Bool) (a b : Node)
    → (expression_tokens a place.Sum ++ (c.sign_tokens negative ++ expression_tokens b place.Product)
    ≡ expression_tokens (binary (sum_op negative) a b) place.Sum)
    × (grouped (expression_tokens (binary (sum_op negative) a b) place.Sum)
    ≡ expression_tokens (binary (sum_op negative) a b) place.Product)
    × (grouped (expression_tokens (binary (sum_op negative) a b) place.Sum) ≡ expression_tokens (binary (sum_op negative) a b) place.Unary)
sum_tokens true a b = (refl, refl, refl)
sum_tokens false a b = (refl, refl, refl)

abbrev UnaryFits : ℕ → Type 0
UnaryFits n = (m : ℕ) → n ≤ m → (text : List Tagged) (e : Node) → Unary n text e → Everywhere (Unary m) e text

module _ (n : ℕ) (each : UnaryFits n) where
  product_fits_at : (m : ℕ) → n ≤ m → (text : List Tagged) (e : Node) → product (Unary n) text e
      → Fits (Unary (suc m)) (product (Unary m)) (sums (product (Unary m))) e (bracketed text) text text
  product_fits_at m h = product_fits n m (each m h) (each (suc m) (omega arith))

  -- of a sum, with m levels
  abbrev SumFits : ℕ → Node → List Tagged → Type 0
  SumFits m e text = Fits (Unary (suc m)) (product (Unary (suc m))) (sums (product (Unary m))) e (bracketed text) (bracketed text) text

  sum_turn_fits : (m : ℕ) → n ≤ m → (a b : Node) (s t : List Tagged) → SumFits m a s → sum_more (product (Unary n)) a t b
      → SumFits m b (s ++ t)
  sum_turn_fits m h a b s t fits p =
      let q = p.second in
      let e = sum_tokens p.value a q.value in
      let right : Printed (Then (product (Unary m)) (λ b. Gives (binary (sum_op p.value) a b))) (binary (sum_op p.value) a q.value)
      (expression_tokens q.value place.Product) p.back =
      ended (λ (b : Node). binary (sum_op p.value) a b)
      (skip_back q (product_fits_at m h q.front q.value q.first).factor (gives_dropped q.second)) in
      let turn : Printed (sum_more (product (Unary m)) a) (binary (sum_op p.value) a q.value)
      (c.sign_tokens p.value ++ expression_tokens q.value place.Product) t =
      at_text (sym p.parts)
      (joined {Q = λ negative. Then (product (Unary m)) (λ b. Gives (binary (sum_op negative) a b))} (sign_printed p.first) right) in
      let whole : Printed (sums (product (Unary m))) (binary (sum_op p.value) a q.value)
      (expression_tokens (binary (sum_op p.value) a q.value) place.Sum) (s ++ t) = relabel e.0 (one_more fits.whole turn) in
      let grouped_whole = group_printed m (binary (sum_op p.value) a q.value) _ (s ++ t) whole in
      subst (λ (b : Node). SumFits m b (s ++ t)) (sym q.second.value) (record {
        operand = relabel e.2 grouped_whole;
        factor = relabel e.1 (none_more grouped_whole);
        whole = whole;
      })

  sum_times_fit : (m : ℕ) → n ≤ m → (k : ℕ) (a b : Node) (s t : List Tagged) → SumFits m a s → times (sum_more (product (Unary n))) k a t b
      → SumFits m b (s ++ t)
  sum_times_fit m h zero a b s t fits p =
      subst (SumFits m b) (sym (ap (λ (l : List Tagged). s ++ l) p.empty ∙ append-nil s))
      (subst (λ (e : Node). SumFits m e s) (sym p.value) fits)
  sum_times_fit m h (suc k) a b s t fits p =
      let all = sum_times_fit m h k p.value b (s ++ p.front) p.back (sum_turn_fits m h a p.value s p.front fits p.first) p.second in
      subst (SumFits m b) (append_assoc s p.front p.back ∙ ap (λ (l : List Tagged). s ++ l) (sym p.parts)) all

  sum_fits : (m : ℕ) → n ≤ m → (text : List Tagged) (e : Node) → sums (product (Unary n)) text e → SumFits m e text
  sum_fits m h text e p =
      let a = product_fits_at m h p.front p.value p.first in
      let above = product_fits_at (suc m) (omega arith) p.front p.value p.first in
      let first : SumFits m p.value p.front = record { operand = a.operand; factor = in_brackets above.factor; whole = a.whole } in
      subst (SumFits m e) (sym p.parts) (sum_times_fit m h p.second.which p.value e p.front p.back first p.second.it)

-- ---- what opens a level

module _ (U E V F : Rule Node) (unary_at : (text : List Tagged) (e : Node) → U text e → Printed V e (expression_tokens e place.Unary) text)
    (inner : (text : List Tagged) (e : Node) → E text e → Printed F e (expression_tokens e place.Sum) text) where
  negation_printed : (p : ExpressionPlace) (text : List Tagged) (e : Node) → negation U text e → Printed (negation V) e (expression_tokens e p) text
  negation_printed p text e p1 =
      let p2 = p1.second in
      relabel (ap (λ (e : Node). expression_tokens e p) (sym p2.second.value))
      (rechain p1 (takes p1.first) (reended p2 (unary_at p2.front p2.value p2.first)))

  -- the operands of an operator that this word calls
  record Arguments (w : Keyword) (op : CallOp) (e : Node) (text : List Tagged) : Type 0 where
    operands : List Token
    printed : Printed (arguments F op) e operands text
    whole : (p : ExpressionPlace) → c.word w ++ grouped operands ≡ expression_tokens e p

  arguments_printed : (w : Keyword) (op : CallOp) → IsWordOf w op → (text : List Tagged) (e : Node) → arguments E op text e
      → Arguments w op e text
  arguments_printed w (calls.Unary op) is text e p1 =
      record {
        operands = expression_tokens p1.value place.Sum;
        printed = reended p1 (inner p1.front p1.value p1.first);
        whole = λ p. rw (p1.second.value, is) refl;
      }
  arguments_printed w (calls.Binary op) is text e p1 =
      let p2 = p1.second in
      let p3 = p2.second in
      record {
        operands = expression_tokens p1.value place.Sum ++ (c.mark mark.Comma ++ expression_tokens p3.value place.Sum);
        printed =
            rechain p1 (inner p1.front p1.value p1.first)
            (rechain p2 (takes p2.first) (reended p3 (inner p3.front p3.value p3.first)));
        whole = λ p. rw (p3.second.value, is) refl;
      }
  arguments_printed w (calls.Ternary op) is text e p1 =
      let p2 = p1.second in
      let p3 = p2.second in
      let p4 = p3.second in
      let p5 = p4.second in
      record {
        operands =
            expression_tokens p1.value place.Sum
            ++ (c.mark mark.Comma ++ (expression_tokens p3.value place.Sum ++ (c.mark mark.Comma ++ expression_tokens p5.value place.Sum)));
        printed =
            rechain p1 (inner p1.front p1.value p1.first)
            (rechain p2 (takes p2.first) (rechain p3 (inner p3.front p3.value p3.first)
            (rechain p4 (takes p4.first) (reended p5 (inner p5.front p5.value p5.first)))));
        whole = λ p. rw (p5.second.value, is) refl;
      }

  called_printed : (p : ExpressionPlace) (text : List Tagged) (e : Node) → called E text e → Printed (called F) e (expression_tokens e p) text
  called_printed p text e p1 =
      let p2 = p1.second in
      let p3 = p2.second in
      let p4 = p3.second in
      let by = means_call p1.first.token p1.value p1.first.means in
      let a = arguments_printed by.word p1.value by.word_is p3.front p3.value p3.first in
      relabel (a.whole p ∙ ap (λ (e : Node). expression_tokens e p) (sym p4.second.value))
      (rechain p1 (relabel (ap (λ (t : Token). t ∷ []) by.token_is) (means p1.first))
      (rechain p2 (takes p2.first) (rechain p3 a.printed (rechain p4 (takes p4.first) (gives p4.second)))))

  selected_printed : (p : ExpressionPlace) (text : List Tagged) (e : Node) → selected E text e → Printed (selected F) e (expression_tokens e p) text
  selected_printed p text e p1 =
      let p2 = p1.second in
      let p3 = p2.second in
      let p4 = p3.second in
      let p5 = p4.second in
      let p6 = p5.second in
      let p7 = p6.second in
      let p8 = p7.second in
      let p9 = p8.second in
      let p10 = p9.second in
      relabel (ap (λ (e : Node). expression_tokens e p) (sym p10.second.value))
      (rechain p1 (takes p1.first)
      (rechain p2 (takes p2.first) (rechain p3 (inner p3.front p3.value p3.first) (rechain p4 (relation_printed p4.first)
      (rechain p5 (inner p5.front p5.value p5.first)
      (rechain p6 (takes p6.first) (rechain p7 (inner p7.front p7.value p7.first) (rechain p8 (takes p8.first)
      (rechain p9 (inner p9.front p9.value p9.first) (rechain p10 (takes p10.first) (gives p10.second)))))))))))

  looked_printed : (p : ExpressionPlace) (text : List Tagged) (e : Node) → looked_up E text e → Printed (looked_up F) e (expression_tokens e p) text
  looked_printed p text e p1 =
      let p2 = p1.second in
      let p3 = p2.second in
      let p4 = p3.second in
      relabel (ap (λ (e : Node). expression_tokens e p) (sym p4.second.value))
      (rechain p1 (name_printed p1.first)
      (rechain p2 (takes p2.first) (rechain p3 (inner p3.front p3.value p3.first) (rechain p4 (takes p4.first) (gives p4.second)))))

-- ---- all levels

bracketed_is : (n : ℕ) (text : List Tagged) (e : Node) (p : group (sums (product (Unary n))) text e) → text ≡ bracketed p.second.front
unfolding bracketed
bracketed_is n text e p =
    let q = p.second in
    let r = q.second in
    let close : Tagged = record { token = token.Punct mark.CloseRound; role = plain } in
    let end : q.back ≡ close ∷ [] =
    r.parts ∙ ap (λ (l : List Tagged). l ++ r.back) r.first.text_is ∙ ap (λ (l : List Tagged). close ∷ l) r.second.empty in
    p.parts ∙ ap (λ (l : List Tagged). l ++ p.back) p.first.text_is
    ∙ ap (λ (l : List Tagged). record { token = token.Punct mark.OpenRound; role = plain } ∷ l)
    (q.parts ∙ ap (λ (l : List Tagged). q.front ++ l) end)

module _ (n : ℕ) (each : UnaryFits n) (m : ℕ) (low : n ≤ m) where
  operand_at : (text : List Tagged) (e : Node) → Unary n text e → Printed (Unary m) e (expression_tokens e place.Unary) text
  operand_at text e p = (each m low text e p).operand

  inner_at : (text : List Tagged) (e : Node) → sums (product (Unary n)) text e
      → Printed (sums (product (Unary m))) e (expression_tokens e place.Sum) text
  inner_at text e p = (sum_fits n each m low text e p).whole

  group_fits : (text : List Tagged) (e : Node) → group (sums (product (Unary n))) text e → Everywhere (Unary (suc m)) e text
  group_fits text e p =
      let q = p.second in
      let at = sum_fits n each m low q.front q.value q.first in
      let above = sum_fits n each (suc m) (omega arith) q.front q.value q.first in
      let fits : Everywhere (Unary (suc m)) q.value (bracketed q.front) =
      record { operand = at.operand; factor = at.factor; whole = in_brackets above.whole } in
      subst (λ (e : Node). Everywhere (Unary (suc m)) e text) (sym q.second.second.value)
      (subst (Everywhere (Unary (suc m)) q.value) (sym (bracketed_is n text e p)) fits)

  opened_fits : (text : List Tagged) (e : Node) → opened (Unary n) (sums (product (Unary n))) text e → Everywhere (Unary (suc m)) e text
  unfolding Unary
  opened_fits text e (inl (inl (inl h))) = same_places (Unary (suc m)) e text (λ p. becomes (λ t k. inl (inr (inl (inl (inl k)))))
      (negation_printed (Unary n) (sums (product (Unary n))) (Unary m) (sums (product (Unary m))) operand_at inner_at p text e h))
  opened_fits text e (inl (inl (inr h))) = group_fits text e h
  opened_fits text e (inl (inr h)) = same_places (Unary (suc m)) e text (λ p. becomes (λ t k. inl (inr (inl (inr k))))
      (called_printed (Unary n) (sums (product (Unary n))) (Unary m) (sums (product (Unary m))) operand_at inner_at p text e h))
  opened_fits text e (inr h) = same_places (Unary (suc m)) e text (λ p. becomes (λ t k. inl (inr (inr k)))
      (selected_printed (Unary n) (sums (product (Unary n))) (Unary m) (sums (product (Unary m))) operand_at inner_at p text e h))

  looked_fits : (text : List Tagged) (e : Node) → looked_up (sums (product (Unary n))) text e → Everywhere (Unary (suc m)) e text
  unfolding Unary
  looked_fits text e h = same_places (Unary (suc m)) e text (λ p. becomes (λ t k. inr k)
      (looked_printed (Unary n) (sums (product (Unary n))) (Unary m) (sums (product (Unary m))) operand_at inner_at p text e h))

-- one level more
more_levels : (n : ℕ) → UnaryFits n → UnaryFits (suc n)
unfolding Unary
more_levels n each zero h text e p = absurd (omega arith)
more_levels n each (suc m) h text e (inl (inl p)) = leaf_fits (suc m) text e p
more_levels n each (suc m) h text e (inl (inr p)) = opened_fits n each m (omega arith) text e p
more_levels n each (suc m) h text e (inr p) = looked_fits n each m (omega arith) text e p

unary_fits : (n : ℕ) → UnaryFits n
unfolding Unary
unary_fits zero m h text e p = leaf_fits m text e p
unary_fits (suc n) m h text e p = more_levels n (unary_fits n) m h text e p

-- Where an expression stands alone, its canonical text is read with as many levels.
pub expression_printed : (levels : ℕ) (text : List Tagged) (e : Node) → Expression levels text e
    → Printed (Expression levels) e (expression_tokens e place.Sum) text
unfolding Expression Product
expression_printed levels text e p = (sum_fits levels (unary_fits levels) levels (omega arith) text e p).whole
