-- What loops of readers find, and readers that go by the token ahead.
use Rattle.std.proofs.Common.{Bool, true, false, ◌≡◌, ℕ, zero, suc, ◌+◌, ◌<◌, List, [], ◌∷◌, ◌++◌, length, Option, Ok, Err, refl}
use Rattle.std.proofs.Common.{sym, ap, subst, ◌∙◌, arith}
use Rattle.std.specs.Prelude.{if◌then◌else◌}
use Rattle.pipe_tokens.specs.declared.token.Token.{Token}
use Rattle.pipe_tree.specs.Tokens.{head}
use Rattle.pipe_tree.specs.Limits.{Tagged}
use Rattle.pipe_tree.specs.Grammar.{Rule, Then, many, times}
use Rattle.pipe_tree.specs.Reading.{At, Answer, Reader, on_ok, ◌>>=◌, gives, choose, turns, loop}
use Rattle.pipe_tree.proofs.Laws.{on, on-append, state, Within, Sound, HasText, Follow, Ends, All, Parses, Starts, retarget}
use Rattle.pipe_tree.proofs.Laws.{widen, then_at, then_wider, first_ends, ok_is}

-- ---- loops

length-on : (text : List Tagged) (rest : List Token) → length (on text rest) ≡ length text + length rest
length-on [] rest = omega arith
length-on (t ∷ text) rest = omega (arith, length-on text rest)

abbrev pub IsSome_long : {A : Type 0} → (A → Rule A) → Type 0
IsSome_long {A} T = (a b : A) (text : List Tagged) → T a text b → 0 < length text

module _ {A : Type 0} (goes : A → Option Token → Bool) (turn : A → Reader A) (T V : A → Rule A)
    (each : (a : A) (s : At) → Sound (turn a) (T a) (V a) s (turn a s)) (some : IsSome_long T) where
  -- a turn takes a token
  shrinks : (a b : A) (s s' : At) → turn a s ≡ Ok (b, s') → length s'.rest < length s.rest
  shrinks a b s s' reads =
      let f : Sound (turn a) (T a) (V a) s (Ok (b, s')) = subst (λ (x : Answer A). Sound (turn a) (T a) (V a) s x) reads (each a s) in
      let long = some a b f.text f.rule in
      let parts = ap length f.parts ∙ length-on f.text s'.rest in
      omega (arith, long, parts)

  after_turn : (a : A) (s : At) (x : Answer A) → turn a s ≡ x → (f q : A → Reader A)
      → ((b : A) (s' : At) → length s'.rest < length s.rest → f b s' ≡ q b s') → on_ok x f ≡ on_ok x q
  after_turn a s (Ok p) reads f q same = same p.0 p.1 (shrinks a p.0 s p.1 reads)
  after_turn a s (Err h) reads f q same = refl

  alike : (a : A) (s : At) (c : Bool) → (f q : A → Reader A) → ((b : A) (s' : At) → length s'.rest < length s.rest → f b s' ≡ q b s')
      → (if c then (turn a >>= f) s else gives a s) ≡ (if c then (turn a >>= q) s else gives a s)
  alike a s false f q same = refl
  alike a s true f q same = after_turn a s (turn a s) refl f q same

  enough : (n m : ℕ) (a : A) (s : At) → length s.rest < n → length s.rest < m → turns goes turn n a s ≡ turns goes turn m a s
  unfolding turns
  enough zero m a s lt lt' = absurd (omega arith)
  enough (suc n) zero a s lt lt' = absurd (omega arith)
  enough (suc n) (suc m) a s lt lt' =
      alike a s (goes a (head s.rest)) (turns goes turn n) (turns goes turn m) (λ b s' less. enough n m b s' (omega arith) (omega arith))

  pub unroll : (a : A) (s : At) → loop goes turn a s ≡ choose (goes a) (turn a >>= loop goes turn) (gives a) s
  unfolding loop turns
  unroll a s =
      alike a s (goes a (head s.rest)) (turns goes turn (length s.rest)) (loop goes turn)
      (λ b s' less. enough (length s.rest) (suc (length s'.rest)) b s' less (omega arith))

  -- the same by the value of the test
  unrolled : (a : A) (s s' : At) (c : Bool) → head s'.rest ≡ head s.rest → goes a (head s.rest) ≡ c
      → loop goes turn a s' ≡ (if c then (turn a >>= loop goes turn) s' else gives a s')
  unrolled a s s' c same e =
      unroll a s' ∙ ap (λ (b : Bool). if b then (turn a >>= loop goes turn) s' else gives a s') (ap (goes a) same ∙ e)

  -- a loop ends where no turn begins
  ends_later : (a b : A) (s s' : At) (x : Answer A) → turn a s ≡ x → on_ok x (loop goes turn) ≡ Ok (b, s')
      → ((d : A) (s1 : At) → length s1.rest < length s.rest → loop goes turn d s1 ≡ Ok (b, s') → goes b (head s'.rest) ≡ false)
      → goes b (head s'.rest) ≡ false
  ends_later a b s s' (Ok p) reads e others = others p.0 p.1 (shrinks a p.0 s p.1 reads) e
  ends_later a b s s' (Err h) reads e others = absurd cc

  ends_turn : (a b : A) (s s' : At) (c : Bool) → goes a (head s.rest) ≡ c
      → (if c then (turn a >>= loop goes turn) s else gives a s) ≡ Ok (b, s')
      → ((d : A) (s1 : At) → length s1.rest < length s.rest → loop goes turn d s1 ≡ Ok (b, s') → goes b (head s'.rest) ≡ false)
      → goes b (head s'.rest) ≡ false
  ends_turn a b s s' false is e others = subst (λ (p : A × At). goes p.0 (head p.1.rest) ≡ false) (ok_is (a, s) (b, s') e) is
  ends_turn a b s s' true is e others = ends_later a b s s' (turn a s) refl e others

  pub loop_ends : (k : ℕ) (a b : A) (s s' : At) → length s.rest < k → loop goes turn a s ≡ Ok (b, s') → goes b (head s'.rest) ≡ false
  loop_ends zero a b s s' lt e = absurd (omega arith)
  loop_ends (suc k) a b s s' lt e =
      ends_turn a b s s' (goes a (head s.rest)) refl (sym (unroll a s) ∙ e) (λ d s1 less f. loop_ends k d b s1 s' (omega arith) f)

  pub many_has : (R : A → Rule A) (a : A) → HasText (many R a)
  many_has R a = record { text = []; value = a; rule = record { which = 0; it = record { empty = refl; value = refl } } }

  one_more : (R : A → Rule A) (a : A) → Within (Then (R a) (many R)) (many R a)
  one_more R a text x p =
      record {
        which =
            suc p.second.which;
        it =
            record { front = p.front; back = p.back; value = p.value; parts = p.parts; first = p.first; second = p.second.it };
      }

  module _ (wide : (a : A) → Within (T a) (V a)) where
    loop_at : (a : A) (s : At)
        → ((b : A) (s' : At) → length s'.rest < length s.rest → Sound (loop goes turn b) (many T b) (many V b) s' (loop goes turn b s'))
        → (c : Bool) → goes a (head s.rest) ≡ c
        → Sound (loop goes turn a) (many T a) (many V a) s (if c then (turn a >>= loop goes turn) s else gives a s)
    loop_at a s rest false is = record {
      text = [];
      parts = refl;
      few = refl;
      rule = record { which = 0; it = record { empty = refl; value = refl } };
      again = λ more e. unrolled a s (state s.counts more) false e is;
    }
    loop_at a s rest true is =
        let both =
        then_at (turn a) (loop goes turn) (T a) (V a) (many T) (many V) s (turn a s) (wide a) (many_has T) (many_has V) (each a s)
        (λ b reads. rest b.0 b.1 (shrinks a b.0 s b.1 reads)) in
        let larger =
        widen (turn a >>= loop goes turn) (Then (T a) (many T)) (Then (V a) (many V)) (many T a) (many V a) s
        (on_ok (turn a s) (loop goes turn)) (one_more T a) (one_more V a) both in
        retarget (turn a >>= loop goes turn) (loop goes turn a) (many T a) (many V a) s (on_ok (turn a s) (loop goes turn))
        (λ s' e. unrolled a s s' true e is) larger

    loop_below : (k : ℕ) (a : A) (s : At) → length s.rest < k → Sound (loop goes turn a) (many T a) (many V a) s (loop goes turn a s)
    loop_below zero a s lt = absurd (omega arith)
    loop_below (suc k) a s lt =
        subst (λ (x : Answer A). Sound (loop goes turn a) (many T a) (many V a) s x) (sym (unroll a s))
        (loop_at a s (λ b s' less. loop_below k b s' (omega arith)) (goes a (head s.rest)) refl)

    times_wider : (n : ℕ) (a : A) → Within (times T n a) (times V n a)
    times_wider zero a text x p = p
    times_wider (suc n) a text x p = then_wider (T a) (V a) (times T n) (times V n) (wide a) (λ b. times_wider n b) text x p

    pub loop_sound : (a : A) (s : At) → Sound (loop goes turn a) (many T a) (many V a) s (loop goes turn a s)
    loop_sound a s = loop_below (suc (length s.rest)) a s (omega arith)

    pub many_wider : (a : A) → Within (many T a) (many V a)
    many_wider a text x p = record { which = p.which; it = times_wider p.which a text x p.it }

module _ {A : Type 0} (deep : Type 0) (goes : A → Option Token → Bool) (turn : A → Reader A) (S E : Follow) (T : A → Rule A)
    (opens : (a : A) (s : At) → loop goes turn a s ≡ choose (goes a) (turn a >>= loop goes turn) (gives a) s)
    (each : (a : A) → All deep (turn a) S (T a))
    (begins : (a b : A) (text : List Tagged) (rest : List Token) → T a text b → S (head rest) → goes a (head (on text rest)) ≡ true)
    (follows : (a b : A) (text : List Tagged) (rest : List Token) → T a text b → S (head rest) → S (head (on text rest)))
    (stops : (a : A) (h : Option Token) → E h → goes a h ≡ false)
    (ends : (h : Option Token) → E h → S h) where
  times_follows : (n : ℕ) (a b : A) (text : List Tagged) (rest : List Token) → times T n a text b → E (head rest) → S (head (on text rest))
  times_follows zero a b text rest p e = subst (λ (l : List Tagged). S (head (on l rest))) (sym p.empty) (ends (head rest) e)
  times_follows (suc n) a b text rest p e =
      subst (λ (l : List Tagged). S (head (on l rest))) (sym p.parts)
      (subst (λ (l : List Token). S (head l)) (sym (on-append p.front p.back rest))
      (follows a p.value p.front (on p.back rest) p.first (times_follows n p.value b p.back rest p.second e)))

  times_all : (n : ℕ) (a : A) → All deep (loop goes turn a) E (times T n a)
  times_all zero a = record {
    read_all = λ c text rest b p e.
        rw (p.empty, p.value) (subst (λ (x : Answer A). Ends deep c a [] rest x) (sym (opens a (state c rest)
        ∙ ap (λ (q : Bool). if q then (turn a >>= loop goes turn) (state c rest) else gives a (state c rest)) (stops a (head rest) e)))
        (refl, refl));
  }
  times_all (suc n) a = record {
    read_all = λ c text rest b p e.
        let s = state c (on p.front (on p.back rest)) in
        let ahead = times_follows n p.value b p.back rest p.second e in
        let both =
        first_ends deep (turn a) (loop goes turn) c p.front p.back rest b p.value (turn a s)
        ((each a).read_all c p.front (on p.back rest) p.value p.first ahead)
        (λ d. (times_all n p.value).read_all d p.back rest b p.second e) in
        let opened : loop goes turn a s ≡ on_ok (turn a s) (loop goes turn) =
        opens a s
        ∙ ap (λ (q : Bool). if q then (turn a >>= loop goes turn) s else gives a s)
        (begins a p.value p.front (on p.back rest) p.first ahead) in
        subst (λ (l : List Tagged). Ends deep c b l rest (loop goes turn a (state c (on l rest)))) (sym p.parts)
        (subst (λ (l : List Token). Ends deep c b (p.front ++ p.back) rest (loop goes turn a (state c l)))
        (sym (on-append p.front p.back rest))
        (subst (λ (x : Answer A). Ends deep c b (p.front ++ p.back) rest x) (sym opened) both));
  }

  pub loop_all : (a : A) → All deep (loop goes turn a) E (many T a)
  loop_all a = record { read_all = λ c text rest b p e. (times_all p.which a).read_all c text rest b p.it e }

  pub many_follows : (a b : A) (text : List Tagged) (rest : List Token) → many T a text b → E (head rest) → S (head (on text rest))
  many_follows a b text rest p e = times_follows p.which a b text rest p.it e

-- what is to be known of a loop's turns
pub record Turns {A : Type 0} (n : ℕ) (goes : A → Option Token → Bool) (turn : A → Reader A) (S E : Follow) (T : A → ℕ → Rule A) : Type 0
  where
    pub each : (a : A) → Parses n (turn a) S (T a)
    pub some : (m : ℕ) → IsSome_long (λ a. T a m)
    pub begins : (m : ℕ) (a b : A) (text : List Tagged) (rest : List Token) → T a m text b → S (head rest)
        → goes a (head (on text rest)) ≡ true
    pub follows : (m : ℕ) (a b : A) (text : List Tagged) (rest : List Token) → T a m text b → S (head rest) → S (head (on text rest))
    pub stops : (a : A) (h : Option Token) → E h → goes a h ≡ false
    pub ends : (h : Option Token) → E h → S h

module _ {A : Type 0} (n : ℕ) (goes : A → Option Token → Bool) (turn : A → Reader A) (S E : Follow) (T : A → ℕ → Rule A)
    (t : Turns n goes turn S E T) where
  pub loop_unroll : (a : A) (s : At) → loop goes turn a s ≡ choose (goes a) (turn a >>= loop goes turn) (gives a) s
  loop_unroll a s = unroll goes turn (λ b. T b n) (λ b. T b (suc n)) (λ b. (t.each b).sound) (t.some n) a s

  pub parses_loop : (a : A) → Parses n (loop goes turn a) E (λ m. many (λ b. T b m) a)
  parses_loop a = record {
    sound = loop_sound goes turn (λ b. T b n) (λ b. T b (suc n)) (λ b. (t.each b).sound) (t.some n) (λ b. (t.each b).wider) a;
    wider = many_wider goes turn (λ b. T b n) (λ b. T b (suc n)) (λ b. (t.each b).sound) (t.some n) (λ b. (t.each b).wider) a;
    has = record { text = []; value = a; rule = record { which = 0; it = record { empty = refl; value = refl } } };
    all = λ m. loop_all (n < m) goes turn S E (λ b. T b m) loop_unroll (λ b. (t.each b).all m) (t.begins m) (t.follows m) t.stops t.ends a;
  }

  pub loop_follows : (m : ℕ) (a : A) → Starts (many (λ b. T b m) a) E S
  loop_follows m a text rest b p e =
      many_follows (n < m) goes turn S E (λ b. T b m) loop_unroll (λ b. (t.each b).all m) (t.begins m) (t.follows m) t.stops t.ends a b text
      rest p e
