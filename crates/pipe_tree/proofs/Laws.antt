-- Laws of readers, whatever they read: what they find, that they look one token ahead, what begins a text, and that they
-- read each text of their rule.
use Rattle.std.proofs.Common.{Bool, true, false, ◌≡◌, ℕ, suc, ◌<◌, List, [], ◌∷◌, ◌++◌, length, Option, Some, None, Result, Ok}
use Rattle.std.proofs.Common.{Err, refl, sym, ap, subst, ◌∙◌, append_assoc, ◌⊎◌, inl, inr}
use Rattle.std.specs.Prelude.{if◌then◌else◌}
use Rattle.pipe_tokens.specs.declared.token.Token.{Token}
use Rattle.pipe_tokens.specs.declared.token.Token.TheVariants as token
use Rattle.pipe_tree.specs.declared.fault.Halt.{Halt}
use Rattle.pipe_tree.specs.declared.fault.ParseFaultKind.{ParseFaultKind}
use Rattle.pipe_tree.specs.declared.fault.ParseFaultKind.TheVariants.{NotAscii, BadToken, Unexpected, NumberTooBig, TooDeep, TooMany}
use Rattle.pipe_tree.specs.declared.limits.TextCounts.{TextCounts}
use Rattle.pipe_tree.specs.declared.limits.Role.{Role}
use Rattle.pipe_tree.specs.Tokens.{head}
use Rattle.pipe_tree.specs.Limits.{Tagged, untagged, is_number, fits, counted, counted_next, counted_all}
use Rattle.pipe_tree.specs.Grammar.{Rule, Then, Gives, Takes, ◌or◌}
use Rattle.pipe_tree.specs.Faults.{GoesOn, is_lexical}
use Rattle.pipe_tree.specs.Reading.{At, Answer, Reader, on_ok, ◌>>=◌, gives, kind_at, refuse, choose, begun, begin, expect}

-- ---- tagged tokens in front of others

abbrev pub on : List Tagged → List Token → List Token
on [] rest = rest
on (t ∷ text) rest = t.token ∷ on text rest

pub on-append : (a b : List Tagged) (rest : List Token) → on (a ++ b) rest ≡ on a (on b rest)
on-append [] b rest = refl
on-append (t ∷ a) b rest = ap (λ (l : List Token). t.token ∷ l) (on-append a b rest)

pub on-untagged : (a : List Tagged) (rest : List Token) → on a rest ≡ untagged a ++ rest
on-untagged [] rest = refl
on-untagged (t ∷ a) rest = ap (λ (l : List Token). t.token ∷ l) (on-untagged a rest)

pub counted_all-append : (o : Option TextCounts) (a b : List Tagged) → counted_all o (a ++ b) ≡ counted_all (counted_all o a) b
counted_all-append o [] b = refl
counted_all-append o (t ∷ a) b = counted_all-append (counted_next o t) a b

pub counted_all-none : (a : List Tagged) → counted_all None a ≡ None
counted_all-none [] = refl
counted_all-none (t ∷ a) = counted_all-none a

head_on : (text : List Tagged) (a b : List Token) → head a ≡ head b → head (on text a) ≡ head (on text b)
head_on [] a b e = e
head_on (t ∷ text) a b e = refl

abbrev pub state : TextCounts → List Token → At
state counts rest = record { counts = counts; rest = rest }

abbrev pub tagged : Token → Role → Tagged
tagged t role = record { token = t; role = role }

-- ---- what is read

abbrev pub Within : {X : Type 0} → Rule X → Rule X → Type 0
Within {X} R Q = (text : List Tagged) (x : X) → R text x → Q text x

-- a reader's value at s: the tokens that it took are of the rule, and it answers the same wherever they and the next
-- token are
pub record Found {X : Type 0} (r : Reader X) (R : Rule X) (s : At) (x : X) (s' : At) : Type 0 where
  pub text : List Tagged
  pub parts : s.rest ≡ on text s'.rest
  pub few : counted_all (Some s.counts) text ≡ Some s'.counts
  pub rule : R text x
  pub again : (more : List Token) → head more ≡ head s'.rest → r (state s.counts (on text more)) ≡ Ok (x, state s'.counts more)

-- What is wrong with the token ahead. `W` is the rule with one more level.
abbrev pub Reaches : {X : Type 0} → Rule X → Rule X → List Tagged → TextCounts → Option Token → ParseFaultKind → Type 0
Reaches R W text c ahead NotAscii = ahead ≡ Some token.NotAscii
Reaches R W text c ahead BadToken = ahead ≡ Some token.Bad
Reaches R W text c ahead Unexpected = is_lexical ahead ≡ false
Reaches R W text c ahead NumberTooBig = GoesOn R text ahead (λ t. (is_number t.token ≡ true) × (fits t.token ≡ false))
Reaches R W text c ahead TooDeep = GoesOn W text ahead (λ t. fits t.token ≡ true)
Reaches R W text c ahead TooMany = GoesOn R text ahead (λ t. (fits t.token ≡ true) × (counted t.role c ≡ None))

-- a reader's fault at s: the tokens before it begin a text of the rule
pub record Failed {X : Type 0} (r : Reader X) (R W : Rule X) (s : At) (h : Halt) : Type 0 where
  pub text : List Tagged
  pub last : List Token
  pub counts : TextCounts
  pub parts : s.rest ≡ on text last
  pub remaining : h.remaining ≡ length last
  pub few : counted_all (Some s.counts) text ≡ Some counts
  pub again : (more : List Token) → head more ≡ head last
      → r (state s.counts (on text more)) ≡ Err (record { kind = h.kind; remaining = length more })
  pub more : List Tagged
  pub value : X
  pub begins : R (text ++ more) value
  pub reaches : Reaches R W text counts (head last) h.kind

abbrev pub Sound : {X : Type 0} → Reader X → Rule X → Rule X → At → Answer X → Type 0
Sound r R W s (Ok a) = Found r R s a.0 a.1
Sound r R W s (Err h) = Failed r R W s h

-- a rule that has a text
pub record HasText {X : Type 0} (R : Rule X) : Type 0 where
  pub text : List Tagged
  pub value : X
  pub rule : R text value

-- ---- each text is read

-- what follows a text
abbrev pub Follow : Type 1
Follow = Option Token → Type 0

abbrev pub Any : Follow
Any h = Unit {0}

-- the token at which the reading of a text stops for a limit
pub record Passes (text : List Tagged) (c : TextCounts) (rest : List Token) (h : Halt) : Type 0 where
  pub front : List Tagged
  pub at : Tagged
  pub back : List Tagged
  pub counts : TextCounts
  pub parts : text ≡ front ++ at ∷ back
  pub remaining : h.remaining ≡ length (on (at ∷ back) rest)
  pub few : counted_all (Some c) front ≡ Some counts
  pub passes : counted_next (Some counts) at ≡ None
  pub kind : (h.kind ≡ TooMany) ⊎ (h.kind ≡ NumberTooBig)

-- how the reading of a text ends: with the value, or at a limit
abbrev pub Ends : {X : Type 0} → Type 0 → TextCounts → X → List Tagged → List Token → Answer X → Type 0
Ends deep c x text rest (Ok a) = (a ≡ (x, state a.1.counts rest)) × (counted_all (Some c) text ≡ Some a.1.counts)
Ends deep c x text rest (Err h) = ((h.kind ≡ TooDeep) × deep) ⊎ Passes text c rest h

-- Each text of the rule is read, if what follows it is in S. `deep` holds where the levels may run out.
pub record All {X : Type 0} (deep : Type 0) (r : Reader X) (S : Follow) (R : Rule X) : Type 0 where
  pub read_all : (c : TextCounts) (text : List Tagged) (rest : List Token) (x : X) → R text x → S (head rest)
      → Ends deep c x text rest (r (state c (on text rest)))

-- ---- both

-- A reader with n levels left reads the rule R, which says for each number of levels what its texts are.
pub record Parses {X : Type 0} (n : ℕ) (r : Reader X) (S : Follow) (R : ℕ → Rule X) : Type 0 where
  pub sound : (s : At) → Sound r (R n) (R (suc n)) s (r s)
  pub wider : Within (R n) (R (suc n))
  pub has : HasText (R n)
  pub all : (m : ℕ) → All (n < m) r S (R m)

-- what the texts of a rule begin with, where a token of S follows
abbrev pub Starts : {X : Type 0} → Rule X → Follow → Follow → Type 0
Starts {X} R S F = (text : List Tagged) (rest : List Token) (x : X) → R text x → S (head rest) → F (head (on text rest))

-- ---- the same answers by another name, and by a larger rule

module _ {X : Type 0} (r q : Reader X) (R W : Rule X) (s : At) where
  pub retarget : (a : Answer X) → ((s' : At) → head s'.rest ≡ head s.rest → q s' ≡ r s') → Sound r R W s a → Sound q R W s a
  retarget (Ok a) same f =
      record {
        text = f.text;
        parts = f.parts;
        few = f.few;
        rule = f.rule;
        again = λ more e. same (state s.counts (on f.text more)) (head_on f.text more a.1.rest e ∙ ap head (sym f.parts)) ∙ f.again more e;
      }
  retarget (Err h) same f =
      record {
        text = f.text;
        last = f.last;
        counts = f.counts;
        parts = f.parts;
        remaining = f.remaining;
        few = f.few;
        more = f.more;
        value = f.value;
        begins = f.begins;
        reaches = f.reaches;
        again = λ more e. same (state s.counts (on f.text more)) (head_on f.text more f.last e ∙ ap head (sym f.parts)) ∙ f.again more e;
      }

-- a text of another rule that goes on by the same token
abbrev pub Going : {X : Type 0} → Rule X → List Tagged → Tagged → Type 0
Going {X} R text t = (more : List Tagged) × (v : X) × R (text ++ t ∷ more) v

abbrev pub Carries : {X Y : Type 0} → Rule X → List Tagged → Rule Y → List Tagged → Type 0
Carries {X} {Y} R text Q text' = (t : Tagged) (more : List Tagged) (v : X) → R (text ++ t ∷ more) v → Going Q text' t

goes_map : {X Y : Type 0} (R : Rule X) (Q : Rule Y) (text text' : List Tagged) (ahead : Option Token) (P : Tagged → Type 0)
    → Carries R text Q text' → GoesOn R text ahead P → GoesOn Q text' ahead P
goes_map R Q text text' ahead P carry f =
    let h = carry f.next f.more f.value f.rule in
    record { next = f.next; more = h.0; value = h.1; ahead_is = f.ahead_is; rule = h.2; holds = f.holds }

pub reaches_map : {X Y : Type 0} (R W : Rule X) (Q V : Rule Y) (text text' : List Tagged) (c : TextCounts) (ahead : Option Token) (k : ParseFaultKind)
    → Carries R text Q text' → Carries W text V text' → Reaches R W text c ahead k → Reaches Q V text' c ahead k
reaches_map R W Q V text text' c ahead NotAscii up wide f = f
reaches_map R W Q V text text' c ahead BadToken up wide f = f
reaches_map R W Q V text text' c ahead Unexpected up wide f = f
reaches_map R W Q V text text' c ahead NumberTooBig up wide f = goes_map R Q text text' ahead _ up f
reaches_map R W Q V text text' c ahead TooDeep up wide f = goes_map W V text text' ahead _ wide f
reaches_map R W Q V text text' c ahead TooMany up wide f = goes_map R Q text text' ahead _ up f

module _ {X : Type 0} (r : Reader X) (R W R' W' : Rule X) (s : At) where
  pub widen : (a : Answer X) → Within R R' → Within W W' → Sound r R W s a → Sound r R' W' s a
  widen (Ok a) up wide f = record { text = f.text; parts = f.parts; few = f.few; rule = up f.text a.0 f.rule; again = f.again }
  widen (Err h) up wide f =
      record {
        text = f.text;
        last = f.last;
        counts = f.counts;
        parts = f.parts;
        remaining = f.remaining;
        few = f.few;
        again = f.again;
        more = f.more;
        value = f.value;
        begins = up (f.text ++ f.more) f.value f.begins;
        reaches =
            reaches_map R W R' W' f.text f.text f.counts (head f.last) h.kind (λ t more v p. (more, v, up _ v p))
            (λ t more v p. (more, v, wide _ v p)) f.reaches;
      }

-- ---- one reader behind another

-- a text of the first rule goes on with one of the second
then_carries : {X Y : Type 0} (R : Rule X) (Q : X → Rule Y) (text : List Tagged) → ((x : X) → HasText (Q x))
    → Carries R text (Then R Q) text
then_carries R Q text has t more v p =
    let h = has v in (
      more ++ h.text,
      h.value,
      record {
        front =
            text ++ t ∷ more;
        back = h.text;
        value = v;
        parts = sym (append_assoc text (t ∷ more) h.text);
        first = p;
        second = h.rule;
      },
    )

later_carries : {X Y : Type 0} (R : Rule X) (Q : X → Rule Y) (front text : List Tagged) (x : X) → R front x
    → Carries (Q x) text (Then R Q) (front ++ text)
later_carries R Q front text x first t more v p = (
  more,
  v,
  record { front = front; back = text ++ t ∷ more; value = x; parts = append_assoc front text (t ∷ more); first = first; second = p },
)

module _ {X Y : Type 0} (r : Reader X) (f : X → Reader Y) (R W : Rule X) (Q V : X → Rule Y) (s : At) where
  first_fails : (h : Halt) → ((x : X) → HasText (Q x)) → ((x : X) → HasText (V x)) → Failed r R W s h
      → Failed (r >>= f) (Then R Q) (Then W V) s h
  first_fails h has wide_has p =
      let v = has p.value in
      record {
        text = p.text;
        last = p.last;
        counts = p.counts;
        parts = p.parts;
        remaining = p.remaining;
        few = p.few;
        again = λ more e. ap (λ (a : Answer X). on_ok a f) (p.again more e);
        more = p.more ++ v.text;
        value = v.value;
        begins =
            record {
              front =
                  p.text ++ p.more;
              back =
                  v.text;
              value = p.value;
              parts = sym (append_assoc p.text p.more v.text);
              first = p.begins;
              second = v.rule;
            };
        reaches =
            reaches_map R W (Then R Q) (Then W V) p.text p.text p.counts (head p.last) h.kind (then_carries R Q p.text has)
            (then_carries W V p.text wide_has) p.reaches;
      }

  both_few : (a : At) (front back : List Tagged) (o : TextCounts) → counted_all (Some s.counts) front ≡ Some a.counts
      → counted_all (Some a.counts) back ≡ Some o → counted_all (Some s.counts) (front ++ back) ≡ Some o
  both_few a front back o p q = counted_all-append (Some s.counts) front back ∙ ap (λ (c : Option TextCounts). counted_all c back) p ∙ q

  both_again : (a : X × At) (p : Found r R s a.0 a.1) (back : List Tagged) (last more : List Token) (b : Answer Y) → a.1.rest ≡ on back last
      → head more ≡ head last → f a.0 (state a.1.counts (on back more)) ≡ b → (r >>= f) (state s.counts (on (p.text ++ back) more)) ≡ b
  both_again a p back last more b parts e q =
      ap (λ (l : List Token). on_ok (r (state s.counts l)) f) (on-append p.text back more)
      ∙ ap (λ (x : Answer X). on_ok x f) (p.again (on back more) (head_on back more last e ∙ ap head (sym parts)))
      ∙ q

  both : (a : X × At) → Within R W → Found r R s a.0 a.1 → (b : Answer Y) → Sound (f a.0) (Q a.0) (V a.0) a.1 b
      → Sound (r >>= f) (Then R Q) (Then W V) s b
  both a wide p (Ok b) q =
      record {
        text = p.text ++ q.text;
        parts = p.parts ∙ ap (on p.text) q.parts ∙ sym (on-append p.text q.text b.1.rest);
        few = both_few a.1 p.text q.text b.1.counts p.few q.few;
        rule = record { front = p.text; back = q.text; value = a.0; parts = refl; first = p.rule; second = q.rule };
        again = λ more e. both_again a p q.text b.1.rest more _ q.parts e (q.again more e);
      }
  both a wide p (Err h) q =
      record {
        text = p.text ++ q.text;
        last = q.last;
        counts = q.counts;
        parts = p.parts ∙ ap (on p.text) q.parts ∙ sym (on-append p.text q.text q.last);
        remaining = q.remaining;
        few = both_few a.1 p.text q.text q.counts p.few q.few;
        again = λ more e. both_again a p q.text q.last more _ q.parts e (q.again more e);
        more = q.more;
        value = q.value;
        begins =
            record {
              front =
                  p.text;
              back =
                  q.text ++ q.more;
              value = a.0;
              parts = append_assoc p.text q.text q.more;
              first = p.rule;
              second = q.begins;
            };
        reaches =
            reaches_map (Q a.0) (V a.0) (Then R Q) (Then W V) q.text (p.text ++ q.text) q.counts (head q.last) h.kind
            (later_carries R Q p.text q.text a.0 p.rule) (later_carries W V p.text q.text a.0 (wide p.text a.0 p.rule)) q.reaches;
      }

  pub then_at : (a : Answer X) → Within R W → ((x : X) → HasText (Q x)) → ((x : X) → HasText (V x)) → Sound r R W s a
      → ((b : X × At) → a ≡ Ok b → Sound (f b.0) (Q b.0) (V b.0) b.1 (f b.0 b.1)) → Sound (r >>= f) (Then R Q) (Then W V) s (on_ok a f)
  then_at (Ok a) wide has wide_has p q = both a wide p (f a.0 a.1) (q a refl)
  then_at (Err h) wide has wide_has p q = first_fails h has wide_has p

pub then_wider : {X Y : Type 0} (R W : Rule X) (Q V : X → Rule Y) → Within R W → ((x : X) → Within (Q x) (V x))
    → Within (Then R Q) (Then W V)
then_wider R W Q V up ups text y p =
    record {
      front =
          p.front;
      back =
          p.back;
      value = p.value;
      parts = p.parts;
      first = up p.front p.value p.first;
      second = ups p.value p.back y p.second;
    }

pub then_has : {X Y : Type 0} (R : Rule X) (Q : X → Rule Y) → HasText R → ((x : X) → HasText (Q x)) → HasText (Then R Q)
then_has R Q h k =
    let v = k h.value in
    record {
      text =
          h.text ++ v.text;
      value =
          v.value;
      rule = record { front = h.text; back = v.text; value = h.value; parts = refl; first = h.rule; second = v.rule };
    }

pub has_within : {X : Type 0} (R Q : Rule X) → Within R Q → HasText R → HasText Q
has_within R Q up h = record { text = h.text; value = h.value; rule = up h.text h.value h.rule }

-- ---- each text of two rules

module _ {X Y : Type 0} (deep : Type 0) (r : Reader X) (f : X → Reader Y) (c : TextCounts) (front back : List Tagged) (rest : List Token)
    (y : Y) where
  passes_first : (h : Halt) → Passes front c (on back rest) h → Passes (front ++ back) c rest h
  passes_first h p =
      record {
        front = p.front;
        at = p.at;
        back = p.back ++ back;
        counts = p.counts;
        parts = ap (λ (l : List Tagged). l ++ back) p.parts ∙ append_assoc p.front (p.at ∷ p.back) back;
        remaining = p.remaining ∙ ap (λ (l : List Token). length (p.at.token ∷ l)) (sym (on-append p.back back rest));
        few = p.few;
        passes = p.passes;
        kind = p.kind;
      }

  passes_later : (d : TextCounts) (h : Halt) → counted_all (Some c) front ≡ Some d → Passes back d rest h → Passes (front ++ back) c rest h
  passes_later d h few p =
      record {
        front = front ++ p.front;
        at = p.at;
        back = p.back;
        counts = p.counts;
        parts = ap (λ (l : List Tagged). front ++ l) p.parts ∙ sym (append_assoc front p.front (p.at ∷ p.back));
        remaining = p.remaining;
        few = counted_all-append (Some c) front p.front ∙ ap (λ (o : Option TextCounts). counted_all o p.front) few ∙ p.few;
        passes = p.passes;
        kind = p.kind;
      }

  later : (d : TextCounts) → counted_all (Some c) front ≡ Some d → (b : Answer Y) → Ends deep d y back rest b
      → Ends deep c y (front ++ back) rest b
  later d few (Ok b) e = (e.0, counted_all-append (Some c) front back ∙ ap (λ (o : Option TextCounts). counted_all o back) few ∙ e.1)
  later d few (Err h) (inl e) = inl e
  later d few (Err h) (inr e) = inr (passes_later d h few e)

  pub first_ends : (x : X) (a : Answer X) → Ends deep c x front (on back rest) a
      → ((d : TextCounts) → Ends deep d y back rest (f x (state d (on back rest)))) → Ends deep c y (front ++ back) rest (on_ok a f)
  first_ends x (Ok a) e q =
      subst (λ (p : X × At). Ends deep c y (front ++ back) rest (f p.0 p.1)) (sym e.0)
      (later a.1.counts e.1 (f x (state a.1.counts (on back rest))) (q a.1.counts))
  first_ends x (Err h) (inl e) q = inl e
  first_ends x (Err h) (inr e) q = inr (passes_first h e)

pub then_all : {X Y : Type 0} (deep : Type 0) (r : Reader X) (f : X → Reader Y) (S T : Follow) (R : Rule X) (Q : X → Rule Y)
    → All deep r S R → ((x : X) → All deep (f x) T (Q x)) → ((x : X) → Starts (Q x) T S) → All deep (r >>= f) T (Then R Q)
then_all deep r f S T R Q first second follows = record {
  read_all = λ c text rest y p t.
      let a = first.read_all c p.front (on p.back rest) p.value p.first (follows p.value p.back rest y p.second t) in
      let whole =
      first_ends deep r f c p.front p.back rest y p.value (r (state c (on p.front (on p.back rest)))) a
      (λ d. (second p.value).read_all d p.back rest y p.second t) in
      subst (λ (l : List Tagged). Ends deep c y l rest ((r >>= f) (state c (on l rest)))) (sym p.parts)
      (subst (λ (l : List Token). Ends deep c y (p.front ++ p.back) rest ((r >>= f) (state c l))) (sym (on-append p.front p.back rest))
      whole);
}

-- ---- parsers one behind another

pub parses_then : {X Y : Type 0} (n : ℕ) (r : Reader X) (f : X → Reader Y) (S T : Follow) (R : ℕ → Rule X) (Q : X → ℕ → Rule Y)
    → Parses n r S R → ((x : X) → Parses n (f x) T (Q x)) → ((m : ℕ) (x : X) → Starts (Q x m) T S)
    → Parses n (r >>= f) T (λ m. Then (R m) (λ x. Q x m))
parses_then n r f S T R Q p q follows = record {
  sound =
      λ s. then_at r f (R n) (R (suc n)) (λ x. Q x n) (λ x. Q x (suc n)) s (r s) p.wider (λ x. (q x).has)
      (λ x. has_within (Q x n) (Q x (suc n)) (q x).wider (q x).has) (p.sound s) (λ b reads. (q b.0).sound b.1);
  wider = then_wider (R n) (R (suc n)) (λ x. Q x n) (λ x. Q x (suc n)) p.wider (λ x. (q x).wider);
  has = then_has (R n) (λ x. Q x n) p.has (λ x. (q x).has);
  all = λ m. then_all (n < m) r f S T (R m) (λ x. Q x m) (p.all m) (λ x. (q x).all m) (follows m);
}

-- where any token may follow the first
pub parses_next : {X Y : Type 0} (n : ℕ) (r : Reader X) (f : X → Reader Y) (T : Follow) (R : ℕ → Rule X) (Q : X → ℕ → Rule Y)
    → Parses n r Any R → ((x : X) → Parses n (f x) T (Q x)) → Parses n (r >>= f) T (λ m. Then (R m) (λ x. Q x m))
parses_next n r f T R Q p q = parses_then n r f Any T R Q p q (λ m x text rest y h t. tt)

pub all_weaker : {X : Type 0} (deep : Type 0) (r : Reader X) (S T : Follow) (R : Rule X) → ((h : Option Token) → T h → S h) → All deep r S R
    → All deep r T R
all_weaker deep r S T R up p = record { read_all = λ c text rest x h t. p.read_all c text rest x h (up (head rest) t) }

pub parses_weaker : {X : Type 0} (n : ℕ) (r : Reader X) (S T : Follow) (R : ℕ → Rule X) → ((h : Option Token) → T h → S h) → Parses n r S R
    → Parses n r T R
parses_weaker n r S T R up p =
    record { sound = p.sound; wider = p.wider; has = p.has; all = λ m. all_weaker (n < m) r S T (R m) up (p.all m) }

-- where any token may follow, those of T may
pub parses_any : {X : Type 0} (n : ℕ) (r : Reader X) (T : Follow) (R : ℕ → Rule X) → Parses n r Any R → Parses n r T R
parses_any n r T R p = parses_weaker n r Any T R (λ h t. tt) p

-- another rule of the same texts
pub parses_same : {X : Type 0} (n : ℕ) (r : Reader X) (S : Follow) (R Q : ℕ → Rule X) → ((m : ℕ) → Within (R m) (Q m))
    → ((m : ℕ) → Within (Q m) (R m)) → Parses n r S R → Parses n r S Q
parses_same n r S R Q to from p = record {
  sound = λ s. widen r (R n) (R (suc n)) (Q n) (Q (suc n)) s (r s) (to n) (to (suc n)) (p.sound s);
  wider = λ text x q. to (suc n) text x (p.wider text x (from n text x q));
  has = has_within (R n) (Q n) (to n) p.has;
  all = λ m. record { read_all = λ c text rest x q t. (p.all m).read_all c text rest x (from m text x q) t };
}

pub parses_gives : {X : Type 0} (n : ℕ) (x : X) (S : Follow) → Parses n (gives x) S (λ m. Gives x)
parses_gives n x S = record {
  sound = λ s. record { text = []; parts = refl; few = refl; rule = record { empty = refl; value = refl }; again = λ more e. refl };
  wider = λ text y p. p;
  has = record { text = []; value = x; rule = record { empty = refl; value = refl } };
  all = λ m. record { read_all = λ c text rest y p t. rw (p.empty, p.value) (refl, refl) };
}

-- ---- by the token ahead

kind_reaches : {X : Type 0} (R W : Rule X) (text : List Tagged) (c : TextCounts) (ahead : Option Token)
    → Reaches R W text c ahead (kind_at ahead)
kind_reaches R W text c (Some token.NotAscii) = refl
kind_reaches R W text c (Some token.Bad) = refl
kind_reaches R W text c None = refl
kind_reaches R W text c (Some t) = refl

pub refuse_sound : {X : Type 0} (R W : Rule X) → HasText R → (s : At) → Sound refuse R W s (refuse s)
refuse_sound R W has s = record {
  text = [];
  last = s.rest;
  counts = s.counts;
  parts = refl;
  remaining = refl;
  few = refl;
  again = λ more e. ap (λ (h : Option Token). Err (record { kind = kind_at h; remaining = length more })) e;
  more = has.text;
  value = has.value;
  begins = has.rule;
  reaches = kind_reaches R W [] s.counts (head s.rest);
}

module _ {X : Type 0} (test : Option Token → Bool) (r q : Reader X) (R W : Rule X) (s : At) where
  -- where the first is sound if the test passes
  pub choose_when : (b : Bool) → test (head s.rest) ≡ b → (test (head s.rest) ≡ true → Sound r R W s (r s)) → Sound q R W s (q s)
      → Sound (choose test r q) R W s (if b then r s else q s)
  choose_when true e f g =
      retarget r (choose test r q) R W s (r s) (λ s' same. ap (λ (b : Bool). if b then r s' else q s') (ap test same ∙ e)) (f e)
  choose_when false e f g =
      retarget q (choose test r q) R W s (q s) (λ s' same. ap (λ (b : Bool). if b then r s' else q s') (ap test same ∙ e)) g

  choose_sound : (b : Bool) → test (head s.rest) ≡ b → Sound r R W s (r s) → Sound q R W s (q s)
      → Sound (choose test r q) R W s (if b then r s else q s)
  choose_sound true e f g =
      retarget r (choose test r q) R W s (r s) (λ s' same. ap (λ (b : Bool). if b then r s' else q s') (ap test same ∙ e)) f
  choose_sound false e f g =
      retarget q (choose test r q) R W s (q s) (λ s' same. ap (λ (b : Bool). if b then r s' else q s') (ap test same ∙ e)) g

module _ {X : Type 0} (deep : Type 0) (test : Option Token → Bool) (r q : Reader X) (S : Follow) where
  pub choose_left : (R : Rule X) → Starts R S (λ h. test h ≡ true) → All deep r S R → All deep (choose test r q) S R
  choose_left R starts p = record {
    read_all = λ c text rest x h t.
        subst (λ (b : Bool). Ends deep c x text rest (if b then r (state c (on text rest)) else q (state c (on text rest))))
        (sym (starts text rest x h t)) (p.read_all c text rest x h t);
  }

  pub choose_right : (R : Rule X) → Starts R S (λ h. test h ≡ false) → All deep q S R → All deep (choose test r q) S R
  choose_right R starts p = record {
    read_all = λ c text rest x h t.
        subst (λ (b : Bool). Ends deep c x text rest (if b then r (state c (on text rest)) else q (state c (on text rest))))
        (sym (starts text rest x h t)) (p.read_all c text rest x h t);
  }

module _ {X : Type 0} (deep : Type 0) (r : Reader X) (S : Follow) (R Q : Rule X) (p : All deep r S R) (q : All deep r S Q) where
  either : (c : TextCounts) (text : List Tagged) (rest : List Token) (x : X) → (R or Q) text x → S (head rest)
      → Ends deep c x text rest (r (state c (on text rest)))
  either c text rest x (inl h) s = p.read_all c text rest x h s
  either c text rest x (inr h) s = q.read_all c text rest x h s

  pub or_all : All deep r S (R or Q)
  or_all = record { read_all = either }

pub or_wider : {X : Type 0} (R Q R' Q' : Rule X) → Within R R' → Within Q Q' → Within (R or Q) (R' or Q')
or_wider R Q R' Q' up wide text x (inl p) = inl (up text x p)
or_wider R Q R' Q' up wide text x (inr p) = inr (wide text x p)

-- r where the test passes, else q
pub parses_choose : {X : Type 0} (n : ℕ) (test : Option Token → Bool) (r q : Reader X) (S : Follow) (R Q : ℕ → Rule X) → Parses n r S R
    → Parses n q S Q → ((m : ℕ) → Starts (R m) S (λ h. test h ≡ true)) → ((m : ℕ) → Starts (Q m) S (λ h. test h ≡ false))
    → Parses n (choose test r q) S (λ m. R m or Q m)
parses_choose n test r q S R Q p p' starts avoids = record {
  sound = λ s. choose_sound test r q (R n or Q n) (R (suc n) or Q (suc n)) s (test (head s.rest)) refl
      (widen r (R n) (R (suc n)) (R n or Q n) (R (suc n) or Q (suc n)) s (r s) (λ text x h. inl h) (λ text x h. inl h) (p.sound s))
      (widen q (Q n) (Q (suc n)) (R n or Q n) (R (suc n) or Q (suc n)) s (q s) (λ text x h. inr h) (λ text x h. inr h) (p'.sound s));
  wider = or_wider (R n) (Q n) (R (suc n)) (Q (suc n)) p.wider p'.wider;
  has = has_within (R n) (R n or Q n) (λ text x h. inl h) p.has;
  all =
      λ m. or_all (n < m) (choose test r q) S (R m) (Q m) (choose_left (n < m) test r q S (R m) (starts m) (p.all m))
      (choose_right (n < m) test r q S (Q m) (avoids m) (p'.all m));
}

-- ---- one token

abbrev pub done : {X : Type 0} → X → Result X Halt
done x = Ok x

pub ok_is : {X : Type 0} (x y : X) → done x ≡ done y → x ≡ y
ok_is x y e = cc

pub one_counted : (t : Token) (role : Role) (c : TextCounts) → fits t ≡ true → counted_next (Some c) (tagged t role) ≡ counted role c
one_counted t role c e = ap (λ (b : Bool). if b then counted role c else None) e

pub not_counted : (t : Token) (role : Role) (c : TextCounts) → fits t ≡ false → counted_next (Some c) (tagged t role) ≡ None
not_counted t role c e = ap (λ (b : Bool). if b then counted role c else None) e

module _ (t : Token) (role : Role) (good : fits t ≡ true) where
  -- the rule of the token alone
  begin_at : (c : TextCounts) (rest : List Token) → head rest ≡ Some t → (o : Option TextCounts) → counted role c ≡ o
      → Sound (begin role) (Takes t role tt) (Takes t role tt) (state c rest) (begun o (state c rest))
  begin_at c [] e o f = absurd cc
  begin_at c (u ∷ ts) e None f = record {
    text = [];
    last = u ∷ ts;
    counts = c;
    parts = refl;
    remaining = refl;
    few = refl;
    again = λ more e'. ap (λ (o : Option TextCounts). begun o (state c more)) f;
    more = tagged t role ∷ [];
    value = tt;
    begins = record { text_is = refl; value = refl };
    reaches =
        record {
          next =
              tagged t role;
          more = [];
          value = tt;
          ahead_is = e;
          rule = record { text_is = refl; value = refl };
          holds = (good, f);
        };
  }
  begin_at c (u ∷ ts) e (Some d) f =
      let same : u ≡ t = cc in
      record {
        text = tagged t role ∷ [];
        parts = ap (λ (v : Token). v ∷ ts) same;
        few = one_counted t role c good ∙ f;
        rule = record { text_is = refl; value = refl };
        again = λ more e'. ap (λ (o : Option TextCounts). begun o (state c (t ∷ more))) f;
      }

  pub begin_sound : (s : At) → head s.rest ≡ Some t → Sound (begin role) (Takes t role tt) (Takes t role tt) s (begin role s)
  begin_sound s e = begin_at s.counts s.rest e (counted role s.counts) refl

  begin_ends : (deep : Type 0) (c : TextCounts) (rest : List Token) (o : Option TextCounts) → counted role c ≡ o
      → Ends deep c tt (tagged t role ∷ []) rest (begun o (state c (t ∷ rest)))
  begin_ends deep c rest None f =
      inr (record {
        front =
            [];
        at =
            tagged t role;
        back =
            [];
        counts = c;
        parts = refl;
        remaining = refl;
        few = refl;
        passes = one_counted t role c good ∙ f;
        kind = inl refl;
      })
  begin_ends deep c rest (Some d) f = (refl, one_counted t role c good ∙ f)

  pub begin_all : (deep : Type 0) → All deep (begin role) Any (Takes t role tt)
  begin_all deep = record {
    read_all = λ c text rest x p h.
        subst (λ (l : List Tagged). Ends deep c tt l rest (begin role (state c (on l rest)))) (sym p.text_is)
        (begin_ends deep c rest (counted role c) refl);
  }

abbrev pub token_rule : Token → Role → Rule (Unit {0})
token_rule t role = Takes t role tt

module _ (test : Option Token → Bool) (t : Token) (role : Role) (good : fits t ≡ true) (passes : test (Some t) ≡ true)
    (only : (h : Option Token) → test h ≡ true → h ≡ Some t) where
  token_has : HasText (token_rule t role)
  token_has = record { text = tagged t role ∷ []; value = tt; rule = record { text_is = refl; value = refl } }

  expect_at : (s : At) (b : Bool) → test (head s.rest) ≡ b
      → Sound (expect test role) (token_rule t role) (token_rule t role) s (if b then begin role s else refuse s)
  expect_at s true e =
      retarget (begin role) (expect test role) (token_rule t role) (token_rule t role) s (begin role s)
      (λ s' same. ap (λ (b : Bool). if b then begin role s' else refuse s') (ap test same ∙ e))
      (begin_sound t role good s (only (head s.rest) e))
  expect_at s false e =
      retarget refuse (expect test role) (token_rule t role) (token_rule t role) s (refuse s)
      (λ s' same. ap (λ (b : Bool). if b then begin role s' else refuse s') (ap test same ∙ e))
      (refuse_sound (token_rule t role) (token_rule t role) token_has s)

  -- one token that passes a test that no other does
  pub parses_expect : (n : ℕ) → Parses n (expect test role) Any (λ m. token_rule t role)
  parses_expect n = record {
    sound = λ s. expect_at s (test (head s.rest)) refl;
    wider = λ text x p. p;
    has = token_has;
    all = λ m. choose_left (n < m) test (begin role) refuse Any (token_rule t role)
        (λ text rest x p h. subst (λ (l : List Tagged). test (head (on l rest)) ≡ true) (sym p.text_is) passes)
        (begin_all t role good (n < m));
  }
