-- The canonical tokens of what one token means.
use Rattle.std.proofs.Common.{◌≡◌, ℕ, Bool, true, false, List, [], ◌∷◌, Option, Some, refl, sym, ap, subst, inl, inr, arith}
use Rattle.pipe_tokens.specs.declared.token.Token.{Token}
use Rattle.pipe_tokens.specs.declared.token.Token.TheVariants as token
use Rattle.pipe_tokens.specs.declared.token.Punct.TheVariants as mark
use Rattle.pipe_tokens.specs.declared.token.Keyword.{Keyword}
use Rattle.pipe_tokens.specs.declared.token.Keyword.TheVariants as word
use Rattle.operators.specs.declared.operator.Relation.{Relation}
use Rattle.operators.specs.declared.operator.ReductionOp.{ReductionOp}
use Rattle.pipe_tree.specs.Limits.{Tagged, plain}
use Rattle.pipe_tree.specs.declared.ahead.CallOp.{CallOp}
use Rattle.pipe_tree.specs.declared.ahead.CallOp.TheVariants as calls
use Rattle.pipe_tree.specs.declared.ahead.ProductOp.{ProductOp}
use Rattle.pipe_tree.specs.declared.ahead.ProductOp.TheVariants as factors
use Rattle.pipe_tree.specs.Operators.{name_at, sign_at, factor_at, call_at, relation_at, fold_at}
use Rattle.pipe_tree.specs.Grammar as g
use Rattle.pipe_tree.specs.Grammar.{Rule, Takes, Means, Some_of}
use Rattle.pipe_print.specs.declared.forms.UnaryForm.TheVariants as unary_forms
use Rattle.pipe_print.specs.declared.forms.BinaryForm.TheVariants as binary_forms
use Rattle.pipe_print.specs.Canonical as c
use Rattle.pipe_print.proofs.Printed.{Shortens, Shortens-refl, nothing, leaves_out}
use Rattle.pipe_print.proofs.Printed.{puts_zero, Printed, Drops, becomes, relabel, takes, takes_dropped}

-- one token that means something
pub means : {X : Type 0} {meaning : Option Token → Option X} {role : _} {text : List Tagged} {x : X} (p : Means meaning role text x)
    → Printed (Means meaning role) x (p.token ∷ []) text
means {role = role} p = record {
  tagged = record { token = p.token; role = role } ∷ [];
  tokens = refl;
  rule = record { token = p.token; text_is = refl; means = p.means };
  shorter = subst (λ (l : List Tagged). Shortens (record { token = p.token; role = role } ∷ []) l) (sym p.text_is) (Shortens-refl _);
}

pub some_is : {X : Type 0} {x y : X} → Some x ≡ Some y → x ≡ y
some_is e = cc

means_name : (t : Token) (x : List ℕ) → name_at (Some t) ≡ Some x → t ∷ [] ≡ c.name x
means_name (token.Name y) x e = let same : y ≡ x = cc in ap (λ (z : List ℕ). c.name z) same
means_name _ x e = absurd cc

means_sign : (t : Token) (negative : Bool) → sign_at (Some t) ≡ Some negative → t ∷ [] ≡ c.sign_tokens negative
means_sign (token.Punct mark.Plus) negative e = let same : false ≡ negative = cc in ap c.sign_tokens same
means_sign (token.Punct mark.Minus) negative e = let same : true ≡ negative = cc in ap c.sign_tokens same
means_sign _ negative e = absurd cc

means_relation : (t : Token) (r : Relation) → relation_at (Some t) ≡ Some r → t ∷ [] ≡ c.mark (c.relation_mark r)
means_relation (token.Punct mark.AtMost) r e = ap (λ (r : Relation). c.mark (c.relation_mark r)) (some_is e)
means_relation (token.Punct mark.AtLeast) r e = ap (λ (r : Relation). c.mark (c.relation_mark r)) (some_is e)
means_relation (token.Punct mark.Equals) r e = ap (λ (r : Relation). c.mark (c.relation_mark r)) (some_is e)
means_relation _ r e = absurd cc

means_fold : (t : Token) (f : ReductionOp) → fold_at (Some t) ≡ Some f → t ∷ [] ≡ c.word (c.fold_word f)
means_fold (token.Keyword word.Sum) f e = ap (λ (f : ReductionOp). c.word (c.fold_word f)) (some_is e)
means_fold (token.Keyword word.Min) f e = ap (λ (f : ReductionOp). c.word (c.fold_word f)) (some_is e)
means_fold (token.Keyword word.Max) f e = ap (λ (f : ReductionOp). c.word (c.fold_word f)) (some_is e)
means_fold _ f e = absurd cc

-- the token of an operator of a product
abbrev pub IsTokenOf : Token → ProductOp → Type 0
IsTokenOf t factors.Times = t ≡ token.Punct mark.Star
IsTokenOf t (factors.Literal op) = t ≡ token.Punct (c.literal_mark op)

pub means_factor : (t : Token) (f : ProductOp) → factor_at (Some t) ≡ Some f → IsTokenOf t f
means_factor t f e = grind arith

-- the word by which an operator is called
abbrev pub IsWordOf : Keyword → CallOp → Type 0
IsWordOf w (calls.Unary op) = c.unary_form op ≡ unary_forms.Call w
IsWordOf w (calls.Binary op) = c.binary_form op ≡ binary_forms.Call w
IsWordOf w (calls.Ternary op) = c.ternary_word op ≡ w

pub record CalledBy (t : Token) (op : CallOp) : Type 0 where
  pub word : Keyword
  pub token_is : t ≡ token.Keyword word
  pub word_is : IsWordOf word op

call_of_word : (w : Keyword) (op : CallOp) → call_at (Some (token.Keyword w)) ≡ Some op → IsWordOf w op
call_of_word w op e = grind arith

pub means_call : (t : Token) (op : CallOp) → call_at (Some t) ≡ Some op → CalledBy t op
means_call (token.Keyword w) op e = record { word = w; token_is = refl; word_is = call_of_word w op e }
means_call _ op e = absurd cc

pub name_printed : {role : _} {text : List Tagged} {x : List ℕ} → g.name role text x → Printed (g.name role) x (c.name x) text
name_printed {x = x} p = relabel (means_name p.token x p.means) (means p)

pub sign_printed : {role : _} {text : List Tagged} {b : Bool} → g.sign role text b → Printed (g.sign role) b (c.sign_tokens b) text
sign_printed {b = b} p = relabel (means_sign p.token b p.means) (means p)

pub relation_printed : {text : List Tagged} {r : Relation} → g.relation text r → Printed g.relation r (c.mark (c.relation_mark r)) text
relation_printed {r = r} p = relabel (means_relation p.token r p.means) (means p)

pub fold_printed : {text : List Tagged} {f : ReductionOp} → g.fold text f → Printed g.fold f (c.word (c.fold_word f)) text
fold_printed {f = f} p = relabel (means_fold p.token f p.means) (means p)

-- a number; one that is too big is read as 0
pub int_printed : {role : _} {text : List Tagged} {n : ℕ} → g.int role text n → Printed (g.int role) n (c.int n) text
int_printed {role = role} {text = text} {n = n} (inl p) =
    subst (λ (k : ℕ). Printed (g.int role) k (c.int k) text) (sym p.it.value)
    (becomes (λ t h. inl (record { which = p.which; it = h })) (takes (record { text_is = p.it.text_is; value = refl })))
int_printed {role = role} {text = text} {n = n} (inr p) =
    subst (λ (k : ℕ). Printed (g.int role) k (c.int k) text) (sym p.value) (record {
      tagged = record { token = token.Int 0; role = role } ∷ [];
      tokens = refl;
      rule = inl (record { which = 0; it = record { text_is = refl; value = refl } });
      shorter =
          subst (λ (l : List Tagged). Shortens (record { token = token.Int 0; role = role } ∷ []) l) (sym p.text_is)
          (puts_zero (record { token = token.TooBig; role = role }) [] [] refl nothing);
    })

-- ---- left out

pub int_dropped : {text : List Tagged} {n : ℕ} → g.int plain text n → Drops text
int_dropped (inl p) = takes_dropped p.it
int_dropped (inr p) = takes_dropped p

pub sign_dropped : {text : List Tagged} {b : Bool} → g.sign plain text b → Drops text
sign_dropped p = subst (λ (l : List Tagged). Shortens [] l) (sym p.text_is) (leaves_out p.token [] [] nothing)
