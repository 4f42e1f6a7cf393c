-- What the readers of single tokens find.
use Rattle.std.proofs.Common.{Bool, true, false, ◌≡◌, ℕ, ◌<◌, List, [], ◌∷◌, ◌++◌, Option, Some, None, refl, sym, ap, subst, ◌∙◌, inl, inr}
use Rattle.std.proofs.lemmas.List.{append-nil}
use Rattle.std.specs.Prelude.{if◌then◌else◌, nat_le}
use denote.Enum.Bare.{sameb, same_true, same_false}
use Rattle.pipe_tokens.specs.contracts.token.Punct as mark_type
use Rattle.pipe_tokens.specs.contracts.token.Keyword as word_type
use Rattle.pipe_tokens.specs.declared.token.Punct.{Punct}
use Rattle.pipe_tokens.specs.declared.token.Punct.TheVariants as marks
use Rattle.pipe_tokens.specs.declared.token.Keyword.{Keyword}
use Rattle.pipe_tokens.specs.declared.token.Keyword.TheVariants as words
use Rattle.pipe_tokens.specs.declared.token.Token.{Token}
use Rattle.pipe_tokens.specs.declared.token.Token.TheVariants as token
use Rattle.pipe_tree.specs.declared.fault.ParseFaultKind.TheVariants.{NumberTooBig}
use Rattle.pipe_tree.specs.declared.limits.TextCounts.{TextCounts}
use Rattle.pipe_tree.specs.declared.limits.Role.{Role}
use Rattle.pipe_tree.specs.declared.limits.Role.TheVariants as roles
use Rattle.pipe_tree.specs.declared.ahead.CallOp.{CallOp}
use Rattle.pipe_tree.specs.declared.ahead.CallOp.TheVariants as calls
use Rattle.pipe_tree.specs.declared.ahead.ProductOp.{ProductOp}
use Rattle.pipe_tree.specs.declared.ahead.ProductOp.TheVariants as factors
use Rattle.operators.specs.declared.operator.UnaryOp.TheVariants.{Abs}
use Rattle.operators.specs.declared.operator.ReductionOp.{ReductionOp}
use Rattle.operators.specs.declared.operator.ReductionOp.TheVariants as folds
use Rattle.operators.specs.declared.operator.Relation.{Relation}
use Rattle.operators.specs.declared.operator.Relation.TheVariants as relations
use Rattle.pipe_tree.specs.Tokens.{head}
use Rattle.pipe_tree.specs.Limits.{Tagged, is_number, fits}
use Rattle.pipe_tree.specs.Operators.{name_at, sign_at, factor_at, call_at, relation_at, fold_at}
use Rattle.pipe_tree.specs.Lookahead.{is_mark_at, is_word_at}
use Rattle.pipe_tree.specs.Grammar as g
use Rattle.pipe_tree.specs.Grammar.{Rule, Then, Gives, Takes, Means, Some_of, ◌or◌}
use Rattle.pipe_tree.specs.Reading.{At, ◌>>=◌, gives, stop, refuse, begin, mark, word, meant, means, name, sign, factor, call, relation}
use Rattle.pipe_tree.specs.Reading.{fold, int_by, int}
use Rattle.pipe_tree.proofs.Laws.{on, state, tagged, Within, Sound, HasText, Any, Ends, Parses, retarget, widen, then_at}
use Rattle.pipe_tree.proofs.Laws.{parses_expect, token_rule, begin_sound}
use Rattle.pipe_tree.proofs.Laws.{begin_all, refuse_sound, then_all, parses_gives, not_counted}

-- ---- marks and words

mark_only : (m : Punct) (h : Option Token) → is_mark_at m h ≡ true → h ≡ Some (token.Punct m)
mark_only m (Some (token.Punct k)) e = ap (λ (q : Punct). Some (token.Punct q)) (same_true mark_type.the_type (search) k m e)
mark_only m None e = absurd cc
mark_only m (Some t) e = absurd cc

same_mark : (m : Punct) (b : Bool) → sameb mark_type.the_type m m ≡ b → b ≡ true
same_mark m true e = refl
same_mark m false e = absurd (same_false mark_type.the_type m m e refl)

pub parses_mark : (n : ℕ) (m : Punct) (role : Role) → Parses n (mark m role) Any (λ _. g.mark m role)
parses_mark n m role =
    parses_expect (is_mark_at m) (token.Punct m) role refl (same_mark m (sameb mark_type.the_type m m) refl) (mark_only m) n

word_only : (w : Keyword) (h : Option Token) → is_word_at w h ≡ true → h ≡ Some (token.Keyword w)
word_only w (Some (token.Keyword k)) e = ap (λ (q : Keyword). Some (token.Keyword q)) (same_true word_type.the_type (search) k w e)
word_only w None e = absurd cc
word_only w (Some t) e = absurd cc

same_word : (w : Keyword) (b : Bool) → sameb word_type.the_type w w ≡ b → b ≡ true
same_word w true e = refl
same_word w false e = absurd (same_false word_type.the_type w w e refl)

pub parses_word : (n : ℕ) (w : Keyword) (role : Role) → Parses n (word w role) Any (λ _. g.word w role)
parses_word n w role =
    parses_expect (is_word_at w) (token.Keyword w) role refl (same_word w (sameb word_type.the_type w w) refl) (word_only w) n

-- ---- tokens that mean something

module _ {X : Type 0} (meaning : Option Token → Option X) (role : Role)
    (good : (t : Token) (x : X) → meaning (Some t) ≡ Some x → fits t ≡ true) (end : meaning None ≡ None)
    (t0 : Token) (x0 : X) (has0 : meaning (Some t0) ≡ Some x0) where
  meant_has : HasText (Means meaning role)
  meant_has = record { text = tagged t0 role ∷ []; value = x0; rule = record { token = t0; text_is = refl; means = has0 } }

  -- the rule of one token and its meaning
  meant_rule : (t : Token) (x : X) → meaning (Some t) ≡ Some x → Within (Then (token_rule t role) (λ _. Gives x)) (Means meaning role)
  meant_rule t x e text y p = record {
    token = t;
    text_is = p.parts ∙ ap (λ (l : List Tagged). p.front ++ l) p.second.empty ∙ append-nil p.front ∙ p.first.text_is;
    means = e ∙ ap (λ (z : X). Some z) (sym p.second.value);
  }

  meant_on : (s : At) (t : Token) (x : X) → head s.rest ≡ Some t → meaning (Some t) ≡ Some x
      → Sound (begin role >>= λ _. gives x) (Means meaning role) (Means meaning role) s ((begin role >>= λ _. gives x) s)
  meant_on s t x ahead e =
      widen (begin role >>= λ _. gives x) (Then (token_rule t role) (λ _. Gives x)) (Then (token_rule t role) (λ _. Gives x))
      (Means meaning role) (Means meaning role) s ((begin role >>= λ _. gives x) s) (meant_rule t x e) (meant_rule t x e)
      (then_at (begin role) (λ _. gives x) (token_rule t role) (token_rule t role) (λ _. Gives x) (λ _. Gives x) s (begin role s)
      (λ text y p. p)
      (λ _. (parses_gives 0 x Any).has) (λ _. (parses_gives 0 x Any).has) (begin_sound t role (good t x e) s ahead)
      (λ b reads. (parses_gives 0 x Any).sound b.1))

  meant_at : (s : At) (h : Option Token) → head s.rest ≡ h → (o : Option X) → meaning h ≡ o
      → Sound (means meaning role) (Means meaning role) (Means meaning role) s (meant role o s)
  meant_at s h ahead None e =
      retarget refuse (means meaning role) (Means meaning role) (Means meaning role) s (refuse s)
      (λ s' same. ap (λ (o : Option X). meant role o s') (ap meaning (same ∙ ahead) ∙ e))
      (refuse_sound (Means meaning role) (Means meaning role) meant_has s)
  meant_at s None ahead (Some x) e = absurd (let none = end in cc)
  meant_at s (Some t) ahead (Some x) e =
      retarget (begin role >>= λ _. gives x) (means meaning role) (Means meaning role) (Means meaning role) s
      ((begin role >>= λ _. gives x) s) (λ s' same. ap (λ (o : Option X). meant role o s') (ap meaning (same ∙ ahead) ∙ e))
      (meant_on s t x ahead e)

  meant_ends : (deep : Type 0) (c : TextCounts) (t : Token) (x : X) (rest : List Token) → meaning (Some t) ≡ Some x
      → Ends deep c x (tagged t role ∷ []) rest (means meaning role (state c (t ∷ rest)))
  meant_ends deep c t x rest e =
      subst (λ (o : Option X). Ends deep c x (tagged t role ∷ []) rest (meant role o (state c (t ∷ rest)))) (sym e)
      ((then_all deep (begin role) (λ _. gives x) Any Any (token_rule t role) (λ _. Gives x) (begin_all t role (good t x e) deep)
      (λ _. record { read_all = λ d text2 rest2 y p u. rw (p.empty, p.value) (refl, refl) }) (λ _ text rest y h u. tt)).read_all c
      (tagged t role ∷ []) rest x
      (record {
        front =
            tagged t role ∷ [];
        back =
            [];
        value =
            tt;
        parts = refl;
        first = record { text_is = refl; value = refl };
        second = record { empty = refl; value = refl };
      }) tt)

  pub parses_means : (n : ℕ) → Parses n (means meaning role) Any (λ _. Means meaning role)
  parses_means n = record {
    sound = λ s. meant_at s (head s.rest) refl (meaning (head s.rest)) refl;
    wider = λ text x p. p;
    has = meant_has;
    all = λ m. record {
      read_all = λ c text rest x p h.
          subst (λ (l : List Tagged). Ends (n < m) c x l rest (means meaning role (state c (on l rest)))) (sym p.text_is)
          (meant_ends (n < m) c p.token x rest p.means);
    };
  }

name_good : (t : Token) (x : List ℕ) → name_at (Some t) ≡ Some x → fits t ≡ true
name_good (token.Name y) x e = refl
name_good t x e = absurd cc

sign_good : (t : Token) (x : Bool) → sign_at (Some t) ≡ Some x → fits t ≡ true
sign_good (token.Punct m) x e = refl
sign_good t x e = absurd cc

factor_good : (t : Token) (x : ProductOp) → factor_at (Some t) ≡ Some x → fits t ≡ true
factor_good (token.Punct m) x e = refl
factor_good t x e = absurd cc

pub call_good : (t : Token) (x : CallOp) → call_at (Some t) ≡ Some x → fits t ≡ true
call_good (token.Keyword w) x e = refl
call_good t x e = absurd cc

relation_good : (t : Token) (x : Relation) → relation_at (Some t) ≡ Some x → fits t ≡ true
relation_good (token.Punct m) x e = refl
relation_good t x e = absurd cc

fold_good : (t : Token) (x : ReductionOp) → fold_at (Some t) ≡ Some x → fits t ≡ true
fold_good (token.Keyword w) x e = refl
fold_good t x e = absurd cc

pub parses_name : (n : ℕ) (role : Role) → Parses n (name role) Any (λ _. g.name role)
parses_name n role = parses_means name_at role name_good refl (token.Name []) [] refl n

pub parses_sign : (n : ℕ) (role : Role) → Parses n (sign role) Any (λ _. g.sign role)
parses_sign n role = parses_means sign_at role sign_good refl (token.Punct marks.Plus) false refl n

pub parses_factor : (n : ℕ) → Parses n factor Any (λ _. g.factor)
parses_factor n = parses_means factor_at roles.Node factor_good refl (token.Punct marks.Star) factors.Times refl n

pub parses_call : (n : ℕ) → Parses n call Any (λ _. g.call)
parses_call n = parses_means call_at roles.Node call_good refl (token.Keyword words.Abs) (calls.Unary Abs) refl n

pub parses_relation : (n : ℕ) → Parses n relation Any (λ _. g.relation)
parses_relation n = parses_means relation_at roles.Plain relation_good refl (token.Punct marks.AtMost) relations.AtMost refl n

pub parses_fold : (n : ℕ) → Parses n fold Any (λ _. g.fold)
parses_fold n = parses_means fold_at roles.Plain fold_good refl (token.Keyword words.Sum) folds.Sum refl n

-- ---- numbers

module _ (role : Role) where
  int_has : HasText (g.int role)
  int_has =
      record {
        text =
            tagged (token.Int 0) role ∷ [];
        value = 0;
        rule = inl (record { which = 0; it = record { text_is = refl; value = refl } });
      }

  int_rule : (k : ℕ) → Within (Then (token_rule (token.Int k) role) (λ _. Gives k)) (g.int role)
  int_rule k text y p = inl (record {
    which = k;
    it = record {
      text_is = p.parts ∙ ap (λ (l : List Tagged). p.front ++ l) p.second.empty ∙ append-nil p.front ∙ p.first.text_is;
      value = p.second.value;
    };
  })

  -- the number ahead is too big
  big_at : (s : At) (t : Token) (x : ℕ) → head s.rest ≡ Some t → is_number t ≡ true → fits t ≡ false → g.int role (tagged t role ∷ []) x
      → Sound (stop NumberTooBig) (g.int role) (g.int role) s (stop NumberTooBig s)
  big_at s t x ahead number big rule = record {
    text = [];
    last = s.rest;
    counts = s.counts;
    parts = refl;
    remaining = refl;
    few = refl;
    again = λ more e. refl;
    more = tagged t role ∷ [];
    value = x;
    begins = rule;
    reaches = record { next = tagged t role; more = []; value = x; ahead_is = ahead; rule = rule; holds = (number, big) };
  }

  fits_at : (s : At) (k : ℕ) → head s.rest ≡ Some (token.Int k) → nat_le k 2147483647 ≡ true
      → Sound (begin role >>= λ _. gives k) (g.int role) (g.int role) s ((begin role >>= λ _. gives k) s)
  fits_at s k ahead e =
      widen (begin role >>= λ _. gives k) (Then (token_rule (token.Int k) role) (λ _. Gives k))
      (Then (token_rule (token.Int k) role) (λ _. Gives k)) (g.int role) (g.int role) s ((begin role >>= λ _. gives k) s) (int_rule k)
      (int_rule k)
      (then_at (begin role) (λ _. gives k) (token_rule (token.Int k) role) (token_rule (token.Int k) role) (λ _. Gives k) (λ _. Gives k) s
      (begin role s) (λ text y p. p)
      (λ _. (parses_gives 0 k Any).has) (λ _. (parses_gives 0 k Any).has) (begin_sound (token.Int k) role e s ahead)
      (λ b reads. (parses_gives 0 k Any).sound b.1))

  int_choice : (s : At) (k : ℕ) → head s.rest ≡ Some (token.Int k) → (b : Bool) → nat_le k 2147483647 ≡ b
      → Sound (int_by role (Some (token.Int k))) (g.int role) (g.int role) s
      ((if b then (begin role >>= λ _. gives k) else stop NumberTooBig) s)
  int_choice s k ahead true e =
      retarget (begin role >>= λ _. gives k) (int_by role (Some (token.Int k))) (g.int role) (g.int role) s
      ((begin role >>= λ _. gives k) s)
      (λ s' same. ap (λ (b : Bool). (if b then (begin role >>= λ _. gives k) else stop NumberTooBig) s') e) (fits_at s k ahead e)
  int_choice s k ahead false e =
      retarget (stop NumberTooBig) (int_by role (Some (token.Int k))) (g.int role) (g.int role) s (stop NumberTooBig s)
      (λ s' same. ap (λ (b : Bool). (if b then (begin role >>= λ _. gives k) else stop NumberTooBig) s') e)
      (big_at s (token.Int k) k ahead refl e (inl (record { which = k; it = record { text_is = refl; value = refl } })))

  int_on : (s : At) (h : Option Token) → head s.rest ≡ h → Sound (int_by role h) (g.int role) (g.int role) s (int_by role h s)
  int_on s (Some (token.Int k)) ahead = int_choice s k ahead (nat_le k 2147483647) refl
  int_on s (Some token.TooBig) ahead = big_at s token.TooBig 0 ahead refl refl (inr (record { text_is = refl; value = refl }))
  int_on s None ahead = refuse_sound (g.int role) (g.int role) int_has s
  int_on s (Some t) ahead = refuse_sound (g.int role) (g.int role) int_has s

  int_sound : (s : At) → Sound (int role) (g.int role) (g.int role) s (int role s)
  int_sound s =
      retarget (int_by role (head s.rest)) (int role) (g.int role) (g.int role) s (int_by role (head s.rest) s)
      (λ s' same. ap (λ (h : Option Token). int_by role h s') same) (int_on s (head s.rest) refl)

  big_ends : (deep : Type 0) (c : TextCounts) (t : Token) (x : ℕ) (rest : List Token) → fits t ≡ false
      → Ends deep c x (tagged t role ∷ []) rest (stop NumberTooBig (state c (t ∷ rest)))
  big_ends deep c t x rest big =
      inr (record {
        front =
            [];
        at =
            tagged t role;
        back =
            [];
        counts = c;
        parts = refl;
        remaining = refl;
        few = refl;
        passes = not_counted t role c big;
        kind = inr refl;
      })

  int_ends : (deep : Type 0) (c : TextCounts) (k : ℕ) (rest : List Token) (b : Bool) → nat_le k 2147483647 ≡ b
      → Ends deep c k (tagged (token.Int k) role ∷ []) rest
      ((if b then (begin role >>= λ _. gives k) else stop NumberTooBig) (state c (token.Int k ∷ rest)))
  int_ends deep c k rest false e = big_ends deep c (token.Int k) k rest e
  int_ends deep c k rest true e =
      (then_all deep (begin role) (λ _. gives k) Any Any (token_rule (token.Int k) role) (λ _. Gives k)
      (begin_all (token.Int k) role e deep) (λ _. record { read_all = λ d text2 rest2 y p u. rw (p.empty, p.value) (refl, refl) })
      (λ _ text rest y h u. tt)).read_all c (tagged (token.Int k) role ∷ []) rest k
      (record {
        front =
            tagged (token.Int k) role ∷ [];
        back =
            [];
        value =
            tt;
        parts = refl;
        first = record { text_is = refl; value = refl };
        second = record { empty = refl; value = refl };
      }) tt

  int_all : (deep : Type 0) (c : TextCounts) (text : List Tagged) (rest : List Token) (x : ℕ) → g.int role text x → Any (head rest)
      → Ends deep c x text rest (int role (state c (on text rest)))
  int_all deep c text rest x (inl p) u = rw (p.it.text_is, p.it.value) (int_ends deep c p.which rest (nat_le p.which 2147483647) refl)
  int_all deep c text rest x (inr p) u = rw p.text_is (big_ends deep c token.TooBig x rest refl)

  pub parses_int : (n : ℕ) → Parses n (int role) Any (λ _. g.int role)
  parses_int n = record { sound = int_sound; wider = λ text x p. p; has = int_has; all = λ m. record { read_all = int_all (n < m) } }
