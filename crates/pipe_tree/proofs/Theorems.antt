-- What the reading of all tokens says of the grammar: what is read is a text, each text is read, and the fault that is
-- answered is the one that the tokens have.
use Rattle.std.proofs.Common.{Bool, true, false, ◌≡◌, ℕ, suc, ◌<◌, List, [], ◌∷◌, ◌++◌, length, Option, Some, None, Result, Ok}
use Rattle.std.proofs.Common.{Err, refl, sym, ap, subst, ◌∙◌, arith, ◌⊎◌, inl, inr}
use Rattle.std.specs.Prelude.{if◌then◌else◌, is_some}
use Rattle.std.proofs.lemmas.List.{append-nil}
use Rattle.pipe_tokens.specs.declared.token.Token.{Token}
use Rattle.pipe_tree.specs.declared.fault.Halt.{Halt}
use Rattle.pipe_tree.specs.declared.fault.ParseFaultKind.{ParseFaultKind}
use Rattle.pipe_tree.specs.declared.fault.ParseFaultKind.TheVariants.{NotAscii, BadToken, Unexpected, NumberTooBig, TooDeep, TooMany}
use Rattle.pipe_tree.specs.declared.limits.TextCounts.{TextCounts}
use Rattle.pipe_tree.specs.Tokens.{head}
use Rattle.pipe_tree.specs.Tree.{Declaration}
use Rattle.pipe_tree.specs.Limits.{most_levels, Tagged, untagged, fits, counted_next, counted_all, none_yet}
use Rattle.pipe_tree.specs.Grammar.{Rule, Then, Gives, Program}
use Rattle.pipe_tree.specs.Faults.{Text, AnyProgram, GoesOn, Wrong, IsHalt}
use Rattle.pipe_tree.specs.Reading.{At, Answer, on_ok, gives, refuse, at_end, whole, program_at, value_of, program_of}
use Rattle.pipe_tree.proofs.Laws.{on, on-untagged, counted_all-append, counted_all-none, state, Sound, Found, Failed, Reaches}
use Rattle.pipe_tree.proofs.Laws.{Any, Ends, All, Passes, Parses}
use Rattle.pipe_tree.proofs.Laws.{retarget, refuse_sound, parses_gives, parses_then, parses_same, ok_is}
use Rattle.pipe_tree.proofs.ProgramLaws.{AtEnd, program_parses}

-- ---- all of the tokens

pub on-all : (text : List Tagged) → on text [] ≡ untagged text
on-all [] = refl
on-all (t ∷ text) = ap (λ (l : List Token). t.token ∷ l) (on-all text)

module _ {X : Type 0} (x : X) where
  at_end_sound : (s : At) (b : Bool) → is_some (head s.rest) ≡ b
      → Sound (at_end x) (Gives x) (Gives x) s (if b then refuse s else gives x s)
  at_end_sound s true e =
      retarget refuse (at_end x) (Gives x) (Gives x) s (refuse s)
      (λ s' same. ap (λ (b : Bool). if b then refuse s' else gives x s') (ap is_some same ∙ e))
      (refuse_sound (Gives x) (Gives x) (parses_gives 0 x Any).has s)
  at_end_sound s false e =
      retarget (gives x) (at_end x) (Gives x) (Gives x) s (gives x s)
      (λ s' same. ap (λ (b : Bool). if b then refuse s' else gives x s') (ap is_some same ∙ e))
      ((parses_gives 0 x Any).sound s)

  at_end_all : (deep : Type 0) → All deep (at_end x) AtEnd (Gives x)
  at_end_all deep = record {
    read_all = λ c text rest y p t.
        subst (λ (l : List Tagged). Ends deep c y l rest (at_end x (state c (on l rest)))) (sym p.empty)
        (subst (λ (h : Option Token). Ends deep c y [] rest (if is_some h then refuse (state c rest) else gives x (state c rest))) (sym t)
        (subst (λ (z : X). Ends deep c z [] rest (gives x (state c rest))) (sym p.value) (refl, refl)));
  }

  at_end_parses : (n : ℕ) → Parses n (at_end x) AtEnd (λ m. Gives x)
  at_end_parses n = record {
    sound = λ s. at_end_sound s (is_some (head s.rest)) refl;
    wider = λ text y p. p;
    has = (parses_gives n x Any).has;
    all = λ m. at_end_all (n < m);
  }

  end_at : (y : X) (c : TextCounts) (rest : List Token) (s : At) → at_end x (state c rest) ≡ Ok (y, s) → s.rest ≡ []
  end_at y c [] s e = sym (ap (λ (p : X × At). p.1.rest) (ok_is (x, state c []) (y, s) e))
  end_at y c (t ∷ ts) s e = absurd cc

abbrev broken : {X : Type 0} → Halt → Result X Halt
broken h = Err h

pub err_is : (h k : Halt) → broken {X = List Declaration × At} h ≡ broken k → h ≡ k
err_is h k e = cc

abbrev Ended : ℕ → Rule (List Declaration)
Ended m = Then (Program m) Gives

ended : (m : ℕ) (text : List Tagged) (tree : List Declaration) → Ended m text tree → Program m text tree
ended m text tree p =
    let e : p.front ≡ text = sym (p.parts ∙ ap (λ (l : List Tagged). p.front ++ l) p.second.empty ∙ append-nil p.front) in
    subst (λ (x : List Declaration). Program m text x) (sym p.second.value) (subst (λ (l : List Tagged). Program m l p.value) e p.first)

ends : (m : ℕ) (text : List Tagged) (tree : List Declaration) → Program m text tree → Ended m text tree
ends m text tree p =
    record
    { front = text; back = []; value = tree; parts = sym (append-nil text); first = p; second = record { empty = refl; value = refl } }

pub whole_parses : (n : ℕ) → Parses n (whole n) AtEnd Program
whole_parses n =
    parses_same n (whole n) AtEnd Ended Program ended ends
    (parses_then n _ at_end AtEnd AtEnd Program (λ x m. Gives x) (program_parses n) (λ x. at_end_parses x n)
    (λ m x text rest y h t. subst (λ (l : List Tagged). AtEnd (head (on l rest))) (sym h.empty) t))

abbrev pub start : List Token → At
start tokens = state none_yet tokens

abbrev pub reading : List Token → Answer (List Declaration)
reading tokens = whole most_levels (start tokens)

abbrev pub IsSound : List Token → Answer (List Declaration) → Type 0
IsSound tokens a = Sound (whole most_levels) (Program most_levels) (Program (suc most_levels)) (start tokens) a

pub is_sound : (tokens : List Token) → IsSound tokens (reading tokens)
is_sound tokens = (whole_parses most_levels).sound (start tokens)

-- how the reading of a program with any number of levels ends
pub program_ends : (m : ℕ) (text : List Tagged) (tree : List Declaration) → Program m text tree
    → Ends (most_levels < m) none_yet tree text [] (reading (untagged text))
program_ends m text tree p =
    subst (λ (l : List Token). Ends (most_levels < m) none_yet tree text [] (reading l)) (on-all text)
    (((whole_parses most_levels).all m).read_all none_yet text [] tree p refl)

-- ---- what is read is a text

value_ok : (a : Answer (List Declaration)) (tree : List Declaration) → value_of a ≡ Ok tree → (s : At) × (a ≡ Ok (tree, s))
value_ok (Ok p) tree e = (p.1, rw (ok_is p.0 tree e) refl)
value_ok (Err h) tree e = absurd cc

value_err : (a : Answer (List Declaration)) (h : Halt) → value_of a ≡ Err h → a ≡ Err h
value_err (Ok p) h e = absurd cc
value_err (Err k) h e = cc

all_read : (a : Answer (List Declaration)) (tree : List Declaration) (s : At) → on_ok a at_end ≡ Ok (tree, s) → s.rest ≡ []
all_read (Ok p) tree s e = end_at p.0 tree p.1.counts p.1.rest s e
all_read (Err h) tree s e = absurd cc

pub on-parts : (text : List Tagged) (last : List Token) → last ≡ [] → on text last ≡ untagged text
on-parts text last e = ap (on text) e ∙ on-all text

found_at : (tokens : List Token) (tree : List Declaration) (s : At) → reading tokens ≡ Ok (tree, s)
    → Found (whole most_levels) (Program most_levels) (start tokens) tree s → Text tokens tree
found_at tokens tree s e f =
    record {
      text = f.text;
      counts = s.counts;
      few = f.few;
      program = f.rule;
      tokens_are = f.parts ∙ on-parts f.text s.rest (all_read (program_at most_levels (start tokens)) tree s e);
    }

pub found : (tokens : List Token) (tree : List Declaration) → program_of tokens ≡ Ok tree → Text tokens tree
unfolding program_of
found tokens tree e =
    let a = value_ok (reading tokens) tree e in
    found_at tokens tree a.0 a.1 (subst (IsSound tokens) a.1 (is_sound tokens))

-- ---- each text is read

-- a text that passes a limit has no counts
pub passed_none : (o : Option TextCounts) (front back : List Tagged) (t : Tagged) (c : TextCounts) → counted_all o front ≡ Some c
    → counted_next (Some c) t ≡ None → counted_all o (front ++ t ∷ back) ≡ None
passed_none o front back t c few passes =
    counted_all-append o front (t ∷ back) ∙ ap (λ (d : Option TextCounts). counted_all (counted_next d t) back) few
    ∙ ap (λ (d : Option TextCounts). counted_all d back) passes ∙ counted_all-none back

pub passes_none : (text : List Tagged) (c : TextCounts) (rest : List Token) (h : Halt) → Passes text c rest h → counted_all (Some c) text ≡ None
passes_none text c rest h p = ap (counted_all (Some c)) p.parts ∙ passed_none (Some c) p.front p.back p.at p.counts p.few p.passes

text_ends : (tree : List Declaration) (text : List Tagged) (counts : TextCounts) (a : Answer (List Declaration))
    → counted_all (Some none_yet) text ≡ Some counts → Ends (most_levels < most_levels) none_yet tree text [] a → value_of a ≡ Ok tree
text_ends tree text counts (Ok p) few e = ap (λ (q : List Declaration × At). value_of (Ok q)) e.0
text_ends tree text counts (Err h) few (inl e) = absurd (omega (arith, e.1))
text_ends tree text counts (Err h) few (inr p) = let e = passes_none text none_yet [] h p in absurd cc

pub only : (tokens : List Token) (tree : List Declaration) → Text tokens tree → program_of tokens ≡ Ok tree
unfolding program_of
only tokens tree t =
    subst (λ (l : List Token). value_of (reading l) ≡ Ok tree) (sym t.tokens_are)
    (text_ends tree t.text t.counts (reading (untagged t.text)) t.few (program_ends most_levels t.text tree t.program))

-- ---- faults

-- where the reading of a program stops, it passes a limit
limit_only : (m : ℕ) (text : List Tagged) (tree : List Declaration) (a : Answer (List Declaration)) (h : Halt) → a ≡ Err h
    → Ends (most_levels < m) none_yet tree text [] a → ((h.kind ≡ TooDeep) × (most_levels < m)) ⊎ Passes text none_yet [] h
limit_only m text tree (Ok p) h e ends = absurd cc
limit_only m text tree (Err k) h e ends =
    let same : k ≡ h = err_is k h e in subst (λ (k : Halt). ((k.kind ≡ TooDeep) × (most_levels < m)) ⊎ Passes text none_yet [] k) same ends

module _ (tokens : List Token) (h : Halt)
    (f : Failed (whole most_levels) (Program most_levels) (Program (suc most_levels)) (start tokens) h) where
  again_limit : (m : ℕ) (text : List Tagged) (tree : List Declaration) (more : List Token) → Program m text tree
      → untagged text ≡ untagged f.text ++ more → head more ≡ head f.last
      → ((h.kind ≡ TooDeep) × (most_levels < m)) ⊎ Passes text none_yet [] (record { kind = h.kind; remaining = length more })
  again_limit m text tree more p e same =
      let is : reading (untagged text) ≡ Err (record { kind = h.kind; remaining = length more }) =
      ap reading (e ∙ sym (on-untagged f.text more)) ∙ f.again more same in
      limit_only m text tree (reading (untagged text)) (record { kind = h.kind; remaining = length more }) is (program_ends m text tree p)

  not_limit : (m : ℕ) (text : List Tagged) (remaining : ℕ) → h.kind ≡ Unexpected
      → ((h.kind ≡ TooDeep) × (most_levels < m)) ⊎ Passes text none_yet [] (record { kind = h.kind; remaining = remaining }) → ⊥
  not_limit m text remaining is (inl p) = let e = p.0 in cc
  not_limit m text remaining is (inr p) = not_kind p.kind
    where
      not_kind : (h.kind ≡ TooMany) ⊎ (h.kind ≡ NumberTooBig) → ⊥
      not_kind (inl e) = cc
      not_kind (inr e) = cc

  not_deep : (text : List Tagged) (remaining : ℕ) → h.kind ≡ TooDeep
      → ((h.kind ≡ TooDeep) × (most_levels < most_levels)) ⊎ Passes text none_yet [] (record { kind = h.kind; remaining = remaining }) → ⊥
  not_deep text remaining is (inl p) = omega (arith, p.1)
  not_deep text remaining is (inr p) = not_kind p.kind
    where
      not_kind : (h.kind ≡ TooMany) ⊎ (h.kind ≡ NumberTooBig) → ⊥
      not_kind (inl e) = cc
      not_kind (inr e) = cc

  deeper : GoesOn (Program (suc most_levels)) f.text (head f.last) (λ t. fits t.token ≡ true)
      → GoesOn AnyProgram f.text (head f.last) (λ t. fits t.token ≡ true)
  deeper g =
      record {
        next =
            g.next;
        more =
            g.more;
        value = g.value;
        ahead_is = g.ahead_is;
        rule = record { which = suc most_levels; it = g.rule };
        holds = g.holds;
      }

  wrong_is : (kind : ParseFaultKind) → h.kind ≡ kind → Reaches (Program most_levels) (Program (suc most_levels)) f.text f.counts (head f.last) kind
      → Wrong kind f.text f.counts (head f.last)
  wrong_is NotAscii is r = r
  wrong_is BadToken is r = r
  wrong_is Unexpected is r =
      (r, λ text tree more p e same. not_limit p.which text (length more) is (again_limit p.which text tree more p.it e same))
  wrong_is NumberTooBig is r = r
  wrong_is TooDeep is r =
      (deeper r, λ text tree more p e same. not_deep text (length more) is (again_limit most_levels text tree more p e same))
  wrong_is TooMany is r = r

  halt_at : IsHalt tokens h
  halt_at = record {
    before = f.text;
    last = f.last;
    counts = f.counts;
    parts = f.parts ∙ on-untagged f.text f.last;
    remaining = f.remaining;
    few = f.few;
    begins = record { more = f.more; value = f.value; rule = f.begins };
    wrong = wrong_is h.kind refl f.reaches;
  }

pub halt : (tokens : List Token) (h : Halt) → program_of tokens ≡ Err h → IsHalt tokens h
unfolding program_of
halt tokens h e = halt_at tokens h (subst (IsSound tokens) (value_err (reading tokens) h e) (is_sound tokens))
