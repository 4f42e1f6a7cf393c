-- What a rule reads from a text it also reads from canonical tokens: the same tokens in the same roles, but for plain
-- ones that are left out. Each way to put rules together puts such texts together.
use Rattle.std.proofs.Common.{◌≡◌, ℕ, zero, suc, List, [], ◌∷◌, ◌++◌, refl, sym, ap, subst, ◌∙◌, append_assoc}
use Rattle.std.specs.List.{flat_map}
use Rattle.std.proofs.lemmas.List.{append-nil}
use Rattle.pipe_tokens.specs.declared.token.Token.{Token}
use Rattle.pipe_tokens.specs.declared.token.Token.TheVariants as token
use Rattle.pipe_tree.specs.Limits.{Tagged, untagged, plain}
use Rattle.pipe_tree.specs.Grammar.{Rule, Then, Gives, Takes, times, many}

-- ---- shorter texts

-- the first text is the second one with some plain tokens left out, and 0 for numbers that are too big
pub data Shortens : List Tagged → List Tagged → Type 0 where
  nothing : Shortens [] []
  keeps : (t : Tagged) (few many : List Tagged) → Shortens few many → Shortens (t ∷ few) (t ∷ many)
  leaves_out : (t : Token) (few many : List Tagged) → Shortens few many → Shortens few (record { token = t; role = plain } ∷ many)
  puts_zero : (t : Tagged) (few many : List Tagged) → t.token ≡ token.TooBig → Shortens few many
      → Shortens (record t { token = token.Int 0 } ∷ few) (t ∷ many)

pub Shortens-append : (few many few' many' : List Tagged) → Shortens few many → Shortens few' many' → Shortens (few ++ few') (many ++ many')
Shortens-append _ _ few' many' nothing h = h
Shortens-append _ _ few' many' (keeps t few many first) h =
    keeps t (few ++ few') (many ++ many') (Shortens-append few many few' many' first h)
Shortens-append _ _ few' many' (leaves_out t few many first) h =
    leaves_out t (few ++ few') (many ++ many') (Shortens-append few many few' many' first h)
Shortens-append _ _ few' many' (puts_zero t few many big first) h =
    puts_zero t (few ++ few') (many ++ many') big (Shortens-append few many few' many' first h)

pub Shortens-refl : (text : List Tagged) → Shortens text text
Shortens-refl [] = nothing
Shortens-refl (t ∷ text) = keeps t text text (Shortens-refl text)

-- ---- printed texts

pub record Printed {X : Type 0} (R : Rule X) (v : X) (canonical : List Token) (text : List Tagged) : Type 0 where
  pub tagged : List Tagged
  pub tokens : untagged tagged ≡ canonical
  pub rule : R tagged v
  pub shorter : Shortens tagged text

untagged-append : (a b : List Tagged) → untagged (a ++ b) ≡ untagged a ++ untagged b
untagged-append [] b = refl
untagged-append (t ∷ a) b = ap (λ (l : List Token). t.token ∷ l) (untagged-append a b)

-- a text that is left out
abbrev pub Drops : List Tagged → Type 0
Drops text = Shortens [] text

-- two texts put together, by a rule that reads both
pub fused : {X Y Z : Type 0} {R : Rule X} {Q : Rule Y} {S : Rule Z} {front back : List Tagged} {x : X} {y : Y} {z : Z} {c d : List Token}
    → ((s t : List Tagged) → R s x → Q t y → S (s ++ t) z) → Printed R x c front → Printed Q y d back → Printed S z (c ++ d) (front ++ back)
fused {front = front} {back = back} {c = c} both a b = record {
  tagged = a.tagged ++ b.tagged;
  tokens =
      untagged-append a.tagged b.tagged ∙ ap (λ (l : List Token). l ++ untagged b.tagged) a.tokens
      ∙ ap (λ (l : List Token). c ++ l) b.tokens;
  rule = both a.tagged b.tagged a.rule b.rule;
  shorter = Shortens-append a.tagged front b.tagged back a.shorter b.shorter;
}

-- one rule behind another
pub joined : {X Y : Type 0} {R : Rule X} {Q : X → Rule Y} {front back : List Tagged} {x : X} {y : Y} {c d : List Token}
    → Printed R x c front → Printed (Q x) y d back → Printed (Then R Q) y (c ++ d) (front ++ back)
joined {x = x} a b = fused (λ s t h k. record { front = s; back = t; value = x; parts = refl; first = h; second = k }) a b

pub at_text : {X : Type 0} {R : Rule X} {v : X} {c : List Token} {text text' : List Tagged} → text ≡ text' → Printed R v c text
    → Printed R v c text'
at_text {R = R} {v = v} {c = c} e a = subst (λ (l : List Tagged). Printed R v c l) e a

pub chain : {X Y : Type 0} {R : Rule X} {Q : X → Rule Y} {text : List Tagged} {y : Y} {c d : List Token} (p : Then R Q text y)
    → Printed R p.value c p.front → Printed (Q p.value) y d p.back → Printed (Then R Q) y (c ++ d) text
chain p a b = at_text (sym p.parts) (joined a b)

pub relabel : {X : Type 0} {R : Rule X} {v : X} {c d : List Token} {text : List Tagged} → c ≡ d → Printed R v c text → Printed R v d text
relabel e a = record { tagged = a.tagged; tokens = a.tokens ∙ e; rule = a.rule; shorter = a.shorter }

-- the same text under another rule
pub becomes : {X Y : Type 0} {R : Rule X} {Q : Rule Y} {v : X} {w : Y} {c : List Token} {text : List Tagged}
    → ((t : List Tagged) → R t v → Q t w) → Printed R v c text → Printed Q w c text
becomes f a = record { tagged = a.tagged; tokens = a.tokens; rule = f a.tagged a.rule; shorter = a.shorter }

-- the same, where other rules read the parts
pub rechain : {X Y : Type 0} {R R' : Rule X} {Q Q' : X → Rule Y} {text : List Tagged} {y : Y} {c d : List Token} (p : Then R Q text y)
    → Printed R' p.value c p.front → Printed (Q' p.value) y d p.back → Printed (Then R' Q') y (c ++ d) text
rechain {Q' = Q'} p a b = at_text (sym p.parts) (joined {Q = Q'} a b)

-- no token
pub gives : {X : Type 0} {x y : X} {text : List Tagged} → Gives x text y → Printed (Gives x) y [] text
gives p =
    record {
      tagged =
          [];
      tokens =
          refl;
      rule =
          record { empty = refl; value = p.value };
      shorter = subst (λ (l : List Tagged). Shortens [] l) (sym p.empty) nothing;
    }

-- no token, where the text may have some
pub gives_none : {X : Type 0} (x : X) {text : List Tagged} → Drops text → Printed (Gives x) x [] text
gives_none x h = record { tagged = []; tokens = refl; rule = record { empty = refl; value = refl }; shorter = h }

-- one token
pub takes : {X : Type 0} {t : Token} {role : _} {x y : X} {text : List Tagged} → Takes t role x text y
    → Printed (Takes t role x) y (t ∷ []) text
takes {t = t} {role = role} p =
    record {
      tagged =
          record { token = t; role = role } ∷ [];
      tokens =
          refl;
      rule =
          record { text_is = refl; value = p.value };
      shorter =
          subst (λ (l : List Tagged). Shortens (record { token = t; role = role } ∷ []) l) (sym p.text_is) (Shortens-refl _);
    }

-- a rule at its end, with a value made of what it reads
pub ended : {X Y : Type 0} {R : Rule X} {x : X} {c : List Token} {text : List Tagged} (f : X → Y) → Printed R x c text
    → Printed (Then R (λ v. Gives (f v))) (f x) c text
ended {x = x} f a = record {
  tagged = a.tagged;
  tokens = a.tokens;
  shorter = a.shorter;
  rule =
      record {
        front =
            a.tagged;
        back =
            [];
        value = x;
        parts = sym (append-nil a.tagged);
        first = a.rule;
        second = record { empty = refl; value = refl };
      };
}

-- ---- texts that are left out

pub takes_dropped : {X : Type 0} {t : Token} {x y : X} {text : List Tagged} → Takes t plain x text y → Drops text
takes_dropped {t = t} p = subst (λ (l : List Tagged). Shortens [] l) (sym p.text_is) (leaves_out t [] [] nothing)

pub gives_dropped : {X : Type 0} {x y : X} {text : List Tagged} → Gives x text y → Drops text
gives_dropped p = subst (λ (l : List Tagged). Shortens [] l) (sym p.empty) nothing

pub then_dropped : {X Y : Type 0} {R : Rule X} {Q : X → Rule Y} {text : List Tagged} {y : Y} (p : Then R Q text y) → Drops p.front
    → Drops p.back → Drops text
then_dropped p a b = subst (λ (l : List Tagged). Shortens [] l) (sym p.parts) (Shortens-append [] p.front [] p.back a b)

-- the front is left out
pub skip : {X Y Z : Type 0} {R : Rule X} {Q : X → Rule Y} {S : Rule Z} {text : List Tagged} {y : Y} {z : Z} {c : List Token}
    (p : Then R Q text y) → Drops p.front → Printed S z c p.back → Printed S z c text
skip p h a =
    record {
      tagged =
          a.tagged;
      tokens =
          a.tokens;
      rule =
          a.rule;
      shorter =
          subst (λ (l : List Tagged). Shortens a.tagged l) (sym p.parts)
          (Shortens-append [] p.front a.tagged p.back h a.shorter);
    }

-- the back is left out
pub skip_back : {X Y Z : Type 0} {R : Rule X} {Q : X → Rule Y} {S : Rule Z} {text : List Tagged} {y : Y} {z : Z} {c : List Token}
    (p : Then R Q text y) → Printed S z c p.front → Drops p.back → Printed S z c text
skip_back {text = text} p a h = record {
  tagged = a.tagged;
  tokens = a.tokens;
  rule = a.rule;
  shorter =
      subst (λ (l : List Tagged). Shortens l text) (append-nil a.tagged)
      (subst (λ (l : List Tagged). Shortens (a.tagged ++ []) l) (sym p.parts) (Shortens-append a.tagged p.front [] p.back a.shorter h));
}

-- a rule at its end, where another rule reads what the value is made of
pub reended : {X Y : Type 0} {R R' : Rule X} {f : X → Y} {text : List Tagged} {y : Y} {c : List Token}
    (p : Then R (λ v. Gives (f v)) text y) → Printed R' p.value c p.front → Printed (Then R' (λ v. Gives (f v))) y c text
reended {R' = R'} {f = f} {text = text} {c = c} p a =
    subst (λ y. Printed (Then R' (λ v. Gives (f v))) y c text) (sym p.second.value)
    (ended f (skip_back p a (gives_dropped p.second)))

-- ---- turns that put more behind a list

-- a text of the rule, which puts some elements behind the list
pub record Adds {X : Type 0} (R : Rule (List X)) (tokens_of : X → List Token) (xs : List X) (text : List Tagged) (ys : List X) : Type 0
  where
    pub added : List X
    pub list : ys ≡ xs ++ added
    pub printed : Printed R ys (flat_map tokens_of added) text

-- a turn that puts one more element behind the list
pub adds_one : {X : Type 0} {R : Rule (List X)} {f : X → List Token} {xs ys : List X} {text : List Tagged} (x : X) → ys ≡ xs ++ x ∷ []
    → Printed R ys (f x) text → Adds R f xs text ys
adds_one {f = f} x e a = record { added = x ∷ []; list = e; printed = relabel (sym (append-nil (f x))) a }

pub flat_map-append : {X : Type 0} (f : X → List Token) (xs ys : List X) → flat_map f (xs ++ ys) ≡ flat_map f xs ++ flat_map f ys
flat_map-append f [] ys = refl
flat_map-append f (x ∷ xs) ys =
    ap (λ (l : List Token). f x ++ l) (flat_map-append f xs ys) ∙ sym (append_assoc (f x) (flat_map f xs) (flat_map f ys))

module _ {X : Type 0} (turn : List X → Rule (List X)) (f : X → List Token)
    (adds : (xs ys : List X) (text : List Tagged) → turn xs text ys → Adds (turn xs) f xs text ys) where
  times_adds : (n : ℕ) (xs ys : List X) (text : List Tagged) → times turn n xs text ys → Adds (times turn n xs) f xs text ys
  times_adds zero xs ys text p = record { added = []; list = p.value ∙ sym (append-nil xs); printed = gives p }
  times_adds (suc n) xs ys text p =
      let a = adds xs p.value p.front p.first in
      let b = times_adds n p.value ys p.back p.second in
      record {
        added = a.added ++ b.added;
        list = b.list ∙ ap (λ (l : List X). l ++ b.added) a.list ∙ append_assoc xs a.added b.added;
        printed = relabel (sym (flat_map-append f a.added b.added)) (chain p a.printed b.printed);
      }

  pub many_adds : (xs ys : List X) (text : List Tagged) → many turn xs text ys → Adds (many turn xs) f xs text ys
  many_adds xs ys text p =
      let a = times_adds p.which xs ys text p.it in
      record { added = a.added; list = a.list; printed = becomes (λ t h. record { which = p.which; it = h }) a.printed }
