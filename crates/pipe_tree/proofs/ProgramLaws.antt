-- Programs are read as the grammar says: the items up to an image, the image, and the items up to the end.
use Rattle.std.proofs.Common.{Bool, true, false, ◌≡◌, ℕ, zero, suc, ◌<◌, List, [], ◌∷◌, ◌++◌, length, Option, None, Ok, Err, refl}
use Rattle.std.proofs.Common.{sym, ap, subst, ◌∙◌, inl, inr}
use Rattle.std.specs.Prelude.{if◌then◌else◌}
use Rattle.std.specs.List.{list_any}
use Rattle.std.proofs.lemmas.List.{append-nil}
use Rattle.pipe_tokens.specs.declared.token.Token.{Token}
use Rattle.pipe_tokens.specs.declared.token.Token.TheVariants as token
use Rattle.pipe_tokens.specs.declared.token.Keyword.TheVariants as words
use Rattle.pipe_tree.specs.declared.limits.Role.TheVariants as roles
use Rattle.pipe_tree.specs.declared.ahead.ItemStart.{ItemStart}
use Rattle.pipe_tree.specs.declared.ahead.ItemStart.TheVariants as start
use Rattle.pipe_tree.specs.declared.tree.Image.{Image}
use Rattle.pipe_tree.specs.Tokens.{head}
use Rattle.pipe_tree.specs.Lookahead.{item_at}
use Rattle.pipe_tree.specs.Limits.{Tagged}
use Rattle.pipe_tree.specs.Tree.{Declaration, param, image, table, function, accumulator, output}
use Rattle.pipe_tree.specs.Grammar as g
use Rattle.pipe_tree.specs.Grammar.{Rule, Then, Gives, FirstOutput, is_output, ◌or◌}
use Rattle.pipe_tree.specs.Reading.{At, Answer, Reader, on_ok, ◌>>=◌, gives, refuse, choose, turns, loop, a_param, a_table, a_function}
use Rattle.pipe_tree.specs.Reading.{an_accumulator, an_output, item_by, item, goes_on_by, goes_on, other, others, program_at}
use Rattle.pipe_tree.proofs.Laws.{on, state, Within, Sound, HasText, Follow, Any, Ends, All, Parses, Starts, retarget, widen}
use Rattle.pipe_tree.proofs.Laws.{has_within, or_wider, or_all}
use Rattle.pipe_tree.proofs.Laws.{refuse_sound, parses_then, parses_next, parses_gives, parses_weaker, parses_same}
use Rattle.pipe_tree.proofs.LoopLaws.{Turns, loop_unroll, parses_loop}
use Rattle.pipe_tree.proofs.StartLaws.{starts_by, starts_with, long_front, long_token}
use Rattle.pipe_tree.proofs.ItemLaws.{parses_param, parses_table, parses_image, parses_function, parses_accumulator, parses_output}

-- ---- a reader by another name

module _ {X : Type 0} (r q : Reader X) where
  -- where they answer alike by the token ahead
  sound_as : (R W : Rule X) (s : At) → ((s' : At) → head s'.rest ≡ head s.rest → q s' ≡ r s') → Sound r R W s (r s) → Sound q R W s (q s)
  sound_as R W s same p = subst (λ (a : Answer X). Sound q R W s a) (sym (same s refl)) (retarget r q R W s (r s) same p)

  all_as : (deep : Type 0) (S F : Follow) (R : Rule X) → Starts R S F → ((s : At) → F (head s.rest) → q s ≡ r s) → All deep r S R
      → All deep q S R
  all_as deep S F R starts same p = record {
    read_all = λ c text rest x h t.
        subst (λ (a : Answer X). Ends deep c x text rest a) (sym (same (state c (on text rest)) (starts text rest x h t)))
        (p.read_all c text rest x h t);
  }

  parses_as : (n : ℕ) (S : Follow) (R : ℕ → Rule X) → ((s : At) → q s ≡ r s) → Parses n r S R → Parses n q S R
  parses_as n S R same p = record {
    sound = λ s. sound_as (R n) (R (suc n)) s (λ s' e. same s') (p.sound s);
    wider = p.wider;
    has = p.has;
    all = λ m. all_as (n < m) S Any (R m) (λ text rest x h t. tt) (λ s t. same s) (p.all m);
  }

-- ---- items behind others

-- an item of a kind, behind others
abbrev Behind : {X : Type 0} → Rule X → (X → Declaration) → List Declaration → Rule (List Declaration)
Behind R f items = Then R (λ x. Gives (items ++ f x ∷ []))

abbrev Made : {X : Type 0} → Rule X → (X → Declaration) → List Declaration → Rule (List Declaration)
Made R f items = Then (Then R (λ x. Gives (f x))) (λ d. Gives (items ++ d ∷ []))

made_behind : {X : Type 0} (R : Rule X) (f : X → Declaration) (items : List Declaration) → Within (Made R f items) (Behind R f items)
made_behind R f items text y p = record {
  front = p.first.front;
  back = [];
  value = p.first.value;
  first = p.first.first;
  parts =
      p.parts ∙ ap (λ (l : List Tagged). p.front ++ l) p.second.empty ∙ append-nil p.front ∙ p.first.parts
      ∙ ap (λ (l : List Tagged). p.first.front ++ l) p.first.second.empty;
  second = record { empty = refl; value = p.second.value ∙ ap (λ (d : Declaration). items ++ d ∷ []) p.first.second.value };
}

behind_made : {X : Type 0} (R : Rule X) (f : X → Declaration) (items : List Declaration) → Within (Behind R f items) (Made R f items)
behind_made R f items text y p = record {
  front = p.front;
  back = p.back;
  value = f p.value;
  parts = p.parts;
  second = p.second;
  first =
      record {
        front =
            p.front;
        back =
            [];
        value = p.value;
        parts = sym (append-nil p.front);
        first = p.first;
        second = record { empty = refl; value = refl };
      };
}

module _ (n : ℕ) (items : List Declaration) where
  abbrev put : {X : Type 0} → Reader X → (X → Declaration) → Reader (List Declaration)
  put r f = (r >>= λ x. gives (f x)) >>= λ d. gives (items ++ d ∷ [])

  parses_put : {X : Type 0} (r : Reader X) (R : ℕ → Rule X) (f : X → Declaration) → Parses n r Any R
      → Parses n (put r f) Any (λ m. Behind (R m) f items)
  parses_put r R f p =
      parses_same n (put r f) Any (λ m. Made (R m) f items) (λ m. Behind (R m) f items) (λ m. made_behind (R m) f items)
      (λ m. behind_made (R m) f items)
      (parses_next n _ _ Any _ _ (parses_next n r _ Any R _ p (λ x. parses_gives n (f x) Any)) (λ d. parses_gives n _ Any))

  puts_param : Parses n (put a_param param) Any (λ _. Behind g.a_param param items)
  puts_param = parses_put a_param (λ _. g.a_param) param (parses_param n)

  puts_table : Parses n (put a_table table) Any (λ _. Behind g.a_table table items)
  puts_table = parses_put a_table (λ _. g.a_table) table (parses_table n)

  puts_function : Parses n (put (a_function n) function) Any (λ m. Behind (g.a_function m) function items)
  puts_function = parses_put (a_function n) g.a_function function (parses_function n)

  puts_accumulator : Parses n (put (an_accumulator n) accumulator) Any (λ m. Behind (g.an_accumulator m) accumulator items)
  puts_accumulator = parses_put (an_accumulator n) g.an_accumulator accumulator (parses_accumulator n)

  -- the first output
  puts_output : list_any is_output items ≡ false → Parses n (put an_output output) Any (λ _. Behind (FirstOutput items) output items)
  puts_output none =
      parses_put an_output (λ _. FirstOutput items) output
      (parses_same n an_output Any (λ _. g.an_output) (λ _. FirstOutput items) (λ m text o p. record { no_other = none; it = p })
      (λ m text o p. p.it) (parses_output n))

  -- one more item, where it may go on
  abbrev turn : Reader (List Declaration)
  turn = choose (goes_on items) (other n items) refuse

  abbrev by_start : ItemStart → Reader (List Declaration)
  by_start k s = if goes_on_by items k then (item_by n k >>= λ d. gives (items ++ d ∷ [])) s else refuse s

  turn_is : (s : At) (k : ItemStart) → item_at (head s.rest) ≡ k → turn s ≡ by_start k s
  unfolding item
  turn_is s k e = ap (λ (k : ItemStart). by_start k s) e

  alike : (s s' : At) (k : ItemStart) → item_at (head s.rest) ≡ k → head s'.rest ≡ head s.rest → turn s' ≡ by_start k s'
  alike s s' k e same = turn_is s' k (ap item_at same ∙ e)

  output_is : (b : Bool) → list_any is_output items ≡ b → (s : At)
      → by_start start.Output s ≡ (if (if b then false else true) then put an_output output s else refuse s)
  output_is b e s = ap (λ (b : Bool). if (if b then false else true) then put an_output output s else refuse s) e

  has_other : (m : ℕ) → HasText (g.other m items)
  has_other m = has_within (Behind g.a_param param items) (g.other m items) (λ text x p. inl (inl (inl (inl p)))) puts_param.has

  refuses : (s : At) → Sound refuse (g.other n items) (g.other (suc n) items) s (refuse s)
  refuses s = refuse_sound (g.other n items) (g.other (suc n) items) (has_other n) s

  sound_output : (s : At) → item_at (head s.rest) ≡ start.Output → (b : Bool) → list_any is_output items ≡ b
      → Sound turn (g.other n items) (g.other (suc n) items) s (turn s)
  sound_output s e true some = sound_as refuse turn _ _ s (λ s' same. alike s s' start.Output e same ∙ output_is true some s') (refuses s)
  sound_output s e false none =
      sound_as (put an_output output) turn _ _ s (λ s' same. alike s s' start.Output e same ∙ output_is false none s')
      (widen (put an_output output) _ _ (g.other n items) (g.other (suc n) items) s (put an_output output s) (λ text x p. inl (inr p))
      (λ text x p. inl (inr p)) ((puts_output none).sound s))

  sound_by : (s : At) (k : ItemStart) → item_at (head s.rest) ≡ k → Sound turn (g.other n items) (g.other (suc n) items) s (turn s)
  sound_by s start.Param e =
      sound_as (put a_param param) turn _ _ s (λ s' same. alike s s' start.Param e same)
      (widen (put a_param param) _ _ (g.other n items) (g.other (suc n) items) s (put a_param param s)
      (λ text x p. inl (inl (inl (inl p)))) (λ text x p. inl (inl (inl (inl p)))) (puts_param.sound s))
  sound_by s start.Table e =
      sound_as (put a_table table) turn _ _ s (λ s' same. alike s s' start.Table e same)
      (widen (put a_table table) _ _ (g.other n items) (g.other (suc n) items) s (put a_table table s) (λ text x p. inr p)
      (λ text x p. inr p) (puts_table.sound s))
  sound_by s start.Func e =
      sound_as (put (a_function n) function) turn _ _ s (λ s' same. alike s s' start.Func e same)
      (widen (put (a_function n) function) _ _ (g.other n items) (g.other (suc n) items) s (put (a_function n) function s)
      (λ text x p. inl (inl (inl (inr p)))) (λ text x p. inl (inl (inl (inr p)))) (puts_function.sound s))
  sound_by s start.Accum e =
      sound_as (put (an_accumulator n) accumulator) turn _ _ s (λ s' same. alike s s' start.Accum e same)
      (widen (put (an_accumulator n) accumulator) _ _ (g.other n items) (g.other (suc n) items) s (put (an_accumulator n) accumulator s)
      (λ text x p. inl (inl (inr p))) (λ text x p. inl (inl (inr p))) (puts_accumulator.sound s))
  sound_by s start.Output e = sound_output s e (list_any is_output items) refl
  sound_by s start.Nothing e = sound_as refuse turn _ _ s (λ s' same. alike s s' start.Nothing e same) (refuses s)

  abbrev Begun : ItemStart → Follow
  Begun k h = item_at h ≡ k

  -- what each kind of item begins with
  begins_param : Starts (Behind g.a_param param items) Any (Begun start.Param)
  begins_param =
      starts_by g.a_param _ Any (Begun start.Param) (starts_with (token.Keyword words.Param) roles.Plain _ Any (Begun start.Param) refl)

  begins_table : Starts (Behind g.a_table table items) Any (Begun start.Table)
  begins_table =
      starts_by g.a_table _ Any (Begun start.Table) (starts_with (token.Keyword words.Table) roles.Plain _ Any (Begun start.Table) refl)

  begins_function : (m : ℕ) → Starts (Behind (g.a_function m) function items) Any (Begun start.Func)
  unfolding g.a_function
  begins_function m =
      starts_by (g.a_function m) _ Any (Begun start.Func)
      (starts_with (token.Keyword words.Func) roles.Function _ Any (Begun start.Func) refl)

  begins_accumulator : (m : ℕ) → Starts (Behind (g.an_accumulator m) accumulator items) Any (Begun start.Accum)
  unfolding g.an_accumulator
  begins_accumulator m =
      starts_by (g.an_accumulator m) _ Any (Begun start.Accum)
      (starts_with (token.Keyword words.Accum) roles.Plain _ Any (Begun start.Accum) refl)

  -- where no output was before
  First : Follow
  First h = Begun start.Output h × (list_any is_output items ≡ false)

  first_output : Starts (FirstOutput items) Any First
  unfolding First
  first_output text rest o p t =
      (starts_with (token.Keyword words.Output) roles.Plain _ Any (Begun start.Output) refl text rest o p.it t, p.no_other)

  begins_output : Starts (Behind (FirstOutput items) output items) Any First
  begins_output = starts_by (FirstOutput items) _ Any First first_output

  goes_at : (k : ItemStart) (h : Option Token) → item_at h ≡ k → goes_on_by items k ≡ true → goes_on items h ≡ true
  goes_at k h e is = ap (goes_on_by items) e ∙ is

  first_goes : (h : Option Token) → First h → goes_on items h ≡ true
  unfolding First
  first_goes h e = goes_at start.Output h e.0 (ap (λ (b : Bool). if b then false else true) e.1)

  pub other_begins : (m : ℕ) → Starts (g.other m items) Any (λ h. goes_on items h ≡ true)
  other_begins m text rest x (inl (inl (inl (inl p)))) s = goes_at start.Param (head (on text rest)) (begins_param text rest x p s) refl
  other_begins m text rest x (inl (inl (inl (inr p)))) s = goes_at start.Func (head (on text rest)) (begins_function m text rest x p s) refl
  other_begins m text rest x (inl (inl (inr p))) s = goes_at start.Accum (head (on text rest)) (begins_accumulator m text rest x p s) refl
  other_begins m text rest x (inl (inr p)) s = first_goes (head (on text rest)) (begins_output text rest x p s)
  other_begins m text rest x (inr p) s = goes_at start.Table (head (on text rest)) (begins_table text rest x p s) refl

  first_reads : (s : At) → First (head s.rest) → turn s ≡ put an_output output s
  unfolding First
  first_reads s e = turn_is s start.Output e.0 ∙ output_is false e.1 s

  output_all : (m : ℕ) (b : Bool) → list_any is_output items ≡ b → All (n < m) turn Any (Behind (FirstOutput items) output items)
  output_all m true some =
      record { read_all = λ c text rest x p t. let none = p.first.no_other in let clash : true ≡ false = sym some ∙ none in absurd cc }
  output_all m false none = all_as (put an_output output) turn (n < m) Any First _ begins_output first_reads ((puts_output none).all m)

  turn_all : (m : ℕ) → All (n < m) turn Any (g.other m items)
  turn_all m =
      or_all (n < m) turn Any _ _
      (or_all (n < m) turn Any _ _
      (or_all (n < m) turn Any _ _
      (or_all (n < m) turn Any _ _
      (all_as (put a_param param) turn (n < m) Any (Begun start.Param) _ begins_param (λ s e. turn_is s start.Param e) (puts_param.all m))
      (all_as (put (a_function n) function) turn (n < m) Any (Begun start.Func) _ (begins_function m) (λ s e. turn_is s start.Func e)
      (puts_function.all m)))
      (all_as (put (an_accumulator n) accumulator) turn (n < m) Any (Begun start.Accum) _ (begins_accumulator m)
      (λ s e. turn_is s start.Accum e) (puts_accumulator.all m)))
      (output_all m (list_any is_output items) refl))
      (all_as (put a_table table) turn (n < m) Any (Begun start.Table) _ begins_table (λ s e. turn_is s start.Table e) (puts_table.all m))

  parses_turn : Parses n turn Any (λ m. g.other m items)
  parses_turn = record {
    sound = λ s. sound_by s (item_at (head s.rest)) refl;
    wider =
        or_wider _ _ _ _
        (or_wider _ _ _ _
        (or_wider _ _ _ _
        (or_wider _ _ _ _ puts_param.wider puts_function.wider)
        puts_accumulator.wider)
        (λ text x p. p))
        puts_table.wider;
    has = has_other n;
    all = turn_all;
  }

-- ---- all items up to an image, or the end

on_ok_alike : {X Y : Type 0} (a : Answer X) (f q : X → Reader Y) → ((x : X) (s : At) → f x s ≡ q x s) → on_ok a f ≡ on_ok a q
on_ok_alike (Ok p) f q same = same p.0 p.1
on_ok_alike (Err h) f q same = refl

-- a loop takes its turns only where they go on
module _ {A : Type 0} (goes : A → Option Token → Bool) (turn : A → Reader A) where
  abbrev guarded : A → Reader A
  guarded a = choose (goes a) (turn a) refuse

  guarded_at : (k : ℕ) (a : A) (s : At) → ((b : A) (s' : At) → turns goes turn k b s' ≡ turns goes guarded k b s') → (b : Bool)
      → (if b then on_ok (turn a s) (turns goes turn k) else gives a s)
      ≡ (if b then on_ok (if b then turn a s else refuse s) (turns goes guarded k) else gives a s)
  guarded_at k a s same true = on_ok_alike (turn a s) (turns goes turn k) (turns goes guarded k) same
  guarded_at k a s same false = refl

  guarded_turns : (k : ℕ) (a : A) (s : At) → turns goes turn k a s ≡ turns goes guarded k a s
  unfolding turns
  guarded_turns zero a s = refl
  guarded_turns (suc k) a s = guarded_at k a s (guarded_turns k) (goes a (head s.rest))

  guarded_loop : (a : A) (s : At) → loop goes turn a s ≡ loop goes guarded a s
  unfolding loop
  guarded_loop a s = guarded_turns (suc (length s.rest)) a s

  unguarded : (a : A) (s : At) (b : Bool) → goes a (head s.rest) ≡ b
      → (if b then on_ok (guarded a s) (loop goes guarded) else gives a s) ≡ (if b then on_ok (turn a s) (loop goes turn) else gives a s)
  unguarded a s true e =
      ap (λ (c : Bool). on_ok (if c then turn a s else refuse s) (loop goes guarded)) e
      ∙ on_ok_alike (turn a s) (loop goes guarded) (loop goes turn) (λ b s'. sym (guarded_loop b s'))
  unguarded a s false e = refl

-- no item begins that is no image
abbrev pub NoItem : Follow
NoItem h = item_at h ≡ start.Nothing

other_long : (m : ℕ) (items : List Declaration) (text : List Tagged) (x : List Declaration) → g.other m items text x → 0 < length text
unfolding g.a_function g.an_accumulator
other_long m items text x (inl (inl (inl (inl p)))) =
    long_front g.a_param _ (long_front _ _ (long_token (token.Keyword words.Param) roles.Plain)) text x p
other_long m items text x (inl (inl (inl (inr p)))) =
    long_front (g.a_function m) _ (long_front _ _ (long_token (token.Keyword words.Func) roles.Function)) text x p
other_long m items text x (inl (inl (inr p))) =
    long_front (g.an_accumulator m) _ (long_front _ _ (long_token (token.Keyword words.Accum) roles.Plain)) text x p
other_long m items text x (inl (inr p)) =
    long_front (FirstOutput items) _ (λ text o p. long_front _ _ (long_token (token.Keyword words.Output) roles.Plain) text o p.it) text x p
other_long m items text x (inr p) =
    long_front g.a_table _ (long_front _ _ (long_token (token.Keyword words.Table) roles.Plain)) text x p

module _ (n : ℕ) where
  item_turns : Turns n goes_on (guarded goes_on (other n)) Any NoItem (λ items m. g.other m items)
  item_turns = record {
    each = parses_turn n;
    some = λ m a b text p. other_long m a text b p;
    begins = λ m a b text rest p s. other_begins n a m text rest b p s;
    follows = λ m a b text rest p s. tt;
    stops = λ a h e. ap (goes_on_by a) e;
    ends = λ h e. tt;
  }

  pub parses_others : (items : List Declaration) → Parses n (others n items) NoItem (λ m. g.many (g.other m) items)
  unfolding others
  parses_others items =
      parses_as (loop goes_on (guarded goes_on (other n)) items) (others n items) n NoItem _ (guarded_loop goes_on (other n) items)
      (parses_loop n goes_on (guarded goes_on (other n)) Any NoItem _ item_turns items)

  image_starts : {Y : Type 0} (Q : Image → Rule Y) (T : Follow) → Starts (Then g.an_image Q) T NoItem
  unfolding g.an_image
  image_starts Q T = starts_by g.an_image Q T NoItem (starts_with (token.Keyword words.Image) roles.Plain _ Any NoItem refl)

  parses_program : Parses n (program_at n) NoItem g.Program
  unfolding program_at g.Program
  parses_program =
      parses_then n _ _ NoItem NoItem _ _ (parses_others []) (λ before.
      parses_next n _ _ NoItem _ _ (parses_image n) (λ i. parses_others (before ++ image i ∷ [])))
      (λ m before. image_starts _ NoItem)

abbrev pub AtEnd : Follow
AtEnd h = h ≡ None

pub program_parses : (n : ℕ) → Parses n (program_at n) AtEnd g.Program
program_parses n = parses_weaker n (program_at n) NoItem AtEnd g.Program (λ h e. ap item_at e) (parses_program n)

-- one more item, and then the others
pub others_unroll : (n : ℕ) (items : List Declaration) (s : At)
    → others n items s ≡ choose (goes_on items) (other n items >>= others n) (gives items) s
unfolding others
others_unroll n items s =
    guarded_loop goes_on (other n) items s
    ∙ loop_unroll n goes_on (guarded goes_on (other n)) Any NoItem _ (item_turns n) items s
    ∙ unguarded goes_on (other n) items s (goes_on items (head s.rest)) refl
