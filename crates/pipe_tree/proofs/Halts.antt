-- Tokens have one fault at most, and none if they are a text.
use Rattle.std.proofs.Common.{Bool, true, false, ◌≡◌, ℕ, suc, ◌<◌, List, [], ◌∷◌, ◌++◌, length, Option, Some, None, Ok, Err, refl}
use Rattle.std.proofs.Common.{sym, ap, subst, ◌∙◌, append_assoc, length-append, arith, inl, inr}
use Rattle.std.specs.Prelude.{if◌then◌else◌}
use Rattle.pipe_tokens.specs.declared.token.Token.{Token}
use Rattle.pipe_tokens.specs.declared.token.Token.TheVariants as token
use Rattle.pipe_tree.specs.declared.fault.Halt.{Halt}
use Rattle.pipe_tree.specs.declared.fault.ParseFaultKind.{ParseFaultKind}
use Rattle.pipe_tree.specs.declared.fault.ParseFaultKind.TheVariants.{NotAscii, BadToken, Unexpected, NumberTooBig, TooDeep, TooMany}
use Rattle.pipe_tree.specs.declared.limits.TextCounts.{TextCounts}
use Rattle.pipe_tree.specs.Tokens.{head}
use Rattle.pipe_tree.specs.Tree.{Declaration}
use Rattle.pipe_tree.specs.Limits.{most_levels, Tagged, untagged, is_number, fits, counted, counted_next, counted_all, none_yet}
use Rattle.pipe_tree.specs.Grammar.{Rule, Program}
use Rattle.pipe_tree.specs.Faults.{Text, AnyProgram, is_lexical, GoesOn, NoneGoesOn, Wrong, IsHalt}
use Rattle.pipe_tree.specs.Reading.{Answer, kind_at}
use Rattle.pipe_tree.proofs.Laws.{on-untagged, counted_all-append, counted_all-none, Ends, Passes}
use Rattle.pipe_tree.proofs.Theorems.{reading, IsSound, is_sound, program_ends, passed_none, on-all, err_is}

-- ---- two ways to part a list

-- one front goes on where the other ends
pub record Longer (a b x y : List Token) : Type 0 where
  pub next : Token
  pub others : List Token
  pub front_is : b ≡ a ++ next ∷ others
  pub back_is : x ≡ next ∷ others ++ y

-- which of two fronts of a list is longer
data Fronts (a b x y : List Token) : Type 0 where
  same : a ≡ b → x ≡ y → Fronts a b x y
  first : Longer b a y x → Fronts a b x y
  second : Longer a b x y → Fronts a b x y

fronts_behind : (t : Token) (a b x y : List Token) → Fronts a b x y → Fronts (t ∷ a) (t ∷ b) x y
fronts_behind t a b x y (same e f) = same (ap (λ (l : List Token). t ∷ l) e) f
fronts_behind t a b x y (first p) =
    first (record { next = p.next; others = p.others; front_is = ap (λ (l : List Token). t ∷ l) p.front_is; back_is = p.back_is })
fronts_behind t a b x y (second p) =
    second (record { next = p.next; others = p.others; front_is = ap (λ (l : List Token). t ∷ l) p.front_is; back_is = p.back_is })

fronts : (a b x y : List Token) → a ++ x ≡ b ++ y → Fronts a b x y
fronts [] [] x y e = same refl e
fronts [] (t ∷ b) x y e = second (record { next = t; others = b; front_is = refl; back_is = e })
fronts (t ∷ a) [] x y e = first (record { next = t; others = a; front_is = refl; back_is = sym e })
fronts (t ∷ a) (u ∷ b) x y e =
    let is : t ≡ u = cc in
    let tails : a ++ x ≡ b ++ y = cc in
    subst (λ (v : Token). Fronts (t ∷ a) (v ∷ b) x y) is (fronts_behind t a b x y (fronts a b x y tails))

-- fronts of lists with backs of one length are one
same_fronts : {A : Type 0} (a b x y : List A) → a ++ x ≡ b ++ y → length x ≡ length y → (a ≡ b) × (x ≡ y)
same_fronts [] [] x y e l = (refl, e)
same_fronts [] (t ∷ b) x y e l = let f = ap length e ∙ length-append (t ∷ b) y in absurd (omega (arith, f))
same_fronts (t ∷ a) [] x y e l = let f = sym (length-append (t ∷ a) x) ∙ ap length e in absurd (omega (arith, f))
same_fronts (t ∷ a) (u ∷ b) x y e l =
    let tails : a ++ x ≡ b ++ y = cc in
    let rest = same_fronts a b x y tails l in
    (let is : a ≡ b = rest.0 in cc, rest.1)

-- a tagged text of tokens in two parts, of which the second begins with t
pub record Parted (text : List Tagged) (before : List Token) (t : Token) (others : List Token) : Type 0 where
  pub front : List Tagged
  pub at : Tagged
  pub back : List Tagged
  pub parts : text ≡ front ++ at ∷ back
  pub front_is : untagged front ≡ before
  pub token_is : at.token ≡ t
  pub back_is : untagged back ≡ others

cons_same : (t u : Token) (a b : List Token) → t ≡ u → a ≡ b → t ∷ a ≡ u ∷ b
cons_same t u a b e f = cc

parted : (text : List Tagged) (before : List Token) (t : Token) (others : List Token) → untagged text ≡ before ++ t ∷ others
    → Parted text before t others
parted [] [] t others e = absurd cc
parted [] (u ∷ before) t others e = absurd cc
parted (v ∷ text) [] t others e = record { front = []; at = v; back = text; parts = refl; front_is = refl; token_is = (cc); back_is = (cc) }
parted (v ∷ text) (u ∷ before) t others e =
    let p = parted text before t others (cc) in
    let is : v.token ≡ u = cc in
    record {
      front = v ∷ p.front;
      at = p.at;
      back = p.back;
      parts = ap (λ (l : List Tagged). v ∷ l) p.parts;
      front_is = cons_same v.token u (untagged p.front) before is p.front_is;
      token_is = p.token_is;
      back_is = p.back_is;
    }

untagged-append : (a b : List Tagged) → untagged (a ++ b) ≡ untagged a ++ untagged b
untagged-append [] b = refl
untagged-append (t ∷ a) b = ap (λ (l : List Token). t.token ∷ l) (untagged-append a b)

untagged-length : (a : List Tagged) → length (untagged a) ≡ length a
untagged-length [] = refl
untagged-length (t ∷ a) = ap suc (untagged-length a)

-- ---- the token that passes a limit

-- a text passes its limit at one token
first_none : (o : Option TextCounts) (a b : List Tagged) (t u : Tagged) (x y : List Tagged) (c d : TextCounts)
    → a ++ t ∷ x ≡ b ++ u ∷ y → counted_all o a ≡ Some c → counted_next (Some c) t ≡ None → counted_all o b ≡ Some d
    → counted_next (Some d) u ≡ None → length x ≡ length y
first_none o [] [] t u x y c d e few passes few' passes' = let is : x ≡ y = cc in ap length is
first_none o [] (v ∷ b) t u x y c d e few passes few' passes' =
    let is : t ≡ v = cc in
    let none : counted_all (counted_next o v) b ≡ None =
    ap (λ (w : Tagged). counted_all (counted_next o w) b) (sym is) ∙ ap (λ (p : Option TextCounts). counted_all (counted_next p t) b) few
    ∙ ap (λ (p : Option TextCounts). counted_all p b) passes ∙ counted_all-none b in
    absurd cc
first_none o (v ∷ a) [] t u x y c d e few passes few' passes' =
    let is : u ≡ v = cc in
    let none : counted_all (counted_next o v) a ≡ None =
    ap (λ (w : Tagged). counted_all (counted_next o w) a) (sym is) ∙ ap (λ (p : Option TextCounts). counted_all (counted_next p u) a) few'
    ∙ ap (λ (p : Option TextCounts). counted_all p a) passes' ∙ counted_all-none a in
    absurd cc
first_none o (v ∷ a) (w ∷ b) t u x y c d e few passes few' passes' =
    let is : w ≡ v = cc in
    let tails : a ++ t ∷ x ≡ b ++ u ∷ y = cc in
    first_none (counted_next o v) a b t u x y c d tails few passes
    (subst (λ (z : Tagged). counted_all (counted_next o z) b ≡ Some d) is few') passes'

-- the reading of tokens stops where so many are left
abbrev Stops : List Token → ℕ → Type 0
Stops tokens remaining = (kind : ParseFaultKind) × (reading tokens ≡ Err (record { kind = kind; remaining = remaining }))

module _ (before : List Tagged) (next : Tagged) (more : List Tagged) (tree : List Declaration) (c : TextCounts)
    (program : Program most_levels (before ++ next ∷ more) tree) (few : counted_all (Some none_yet) before ≡ Some c)
    (passes : counted_next (Some c) next ≡ None)
    (last : List Token) (ahead : head last ≡ Some next.token) where
  stops_where : (h : Halt) → Passes (before ++ next ∷ more) none_yet [] h → IsSound (untagged (before ++ next ∷ more)) (Err h)
      → Stops (untagged before ++ last) (length last)
  stops_where h p f =
      let backs = first_none (Some none_yet) before p.front next p.at more p.back c p.counts p.parts few passes p.few p.passes in
      let whole_is : untagged before ++ next.token ∷ untagged more ≡ untagged f.text ++ f.last =
      sym (untagged-append before (next ∷ more)) ∙ f.parts ∙ on-untagged f.text f.last in
      let lengths : length (next.token ∷ untagged more) ≡ length f.last =
      omega (arith, backs, untagged-length more, untagged-length p.back, ap length (on-all p.back), p.remaining, f.remaining) in
      let is = same_fronts (untagged before) (untagged f.text) (next.token ∷ untagged more) f.last whole_is lengths in (
        h.kind,
        ap (λ (l : List Token). reading (l ++ last)) is.0 ∙ ap reading (sym (on-untagged f.text last))
            ∙ f.again last (ahead ∙ ap head is.1),
      )

  stops_at : (a : Answer (List Declaration)) → Ends (most_levels < most_levels) none_yet tree (before ++ next ∷ more) [] a
      → IsSound (untagged (before ++ next ∷ more)) a → Stops (untagged before ++ last) (length last)
  stops_at (Ok b) e f = let none = passed_none (Some none_yet) before more next c few passes in absurd (let some = e.1 in cc)
  stops_at (Err h) (inl e) f = absurd (omega (arith, e.1))
  stops_at (Err h) (inr p) f = stops_where h p f

  stops : Stops (untagged before ++ last) (length last)
  stops =
      stops_at (reading (untagged (before ++ next ∷ more))) (program_ends most_levels (before ++ next ∷ more) tree program)
      (is_sound (untagged (before ++ next ∷ more)))

-- ---- no text goes past a fault

some_counted : (front back : List Tagged) (o : Option TextCounts) (c : TextCounts) → counted_all o (front ++ back) ≡ Some c → (p : Option TextCounts)
    → counted_all o front ≡ p → (d : TextCounts) × (counted_all o front ≡ Some d)
some_counted front back o c e None is =
    let none : counted_all o (front ++ back) ≡ None =
    counted_all-append o front back ∙ ap (λ (p : Option TextCounts). counted_all p back) is ∙ counted_all-none back in
    absurd cc
some_counted front back o c e (Some d) is = (d, is)

-- the counts up to a token in a text
pub record Through (front : List Tagged) (at : Tagged) : Type 0 where
  pub few : TextCounts
  pub few_is : counted_all (Some none_yet) front ≡ Some few
  pub next : TextCounts
  pub next_is : counted_next (Some few) at ≡ Some next

through : (front : List Tagged) (at : Tagged) (back : List Tagged) (c : TextCounts) → counted_all (Some none_yet) (front ++ at ∷ back) ≡ Some c
    → Through front at
through front at back c e =
    let few = some_counted front (at ∷ back) (Some none_yet) c e (counted_all (Some none_yet) front) refl in
    let rest : counted_all (counted_next (Some few.0) at) back ≡ Some c =
    ap (λ (p : Option TextCounts). counted_all (counted_next p at) back) (sym few.1)
    ∙ sym (counted_all-append (Some none_yet) front (at ∷ back)) ∙ e in
    let next = some_counted [] back (counted_next (Some few.0) at) c rest (counted_next (Some few.0) at) refl in
    record { few = few.0; few_is = few.1; next = next.0; next_is = next.1 }

unfit : (t : Tagged) (c d : TextCounts) → fits t.token ≡ false → counted_next (Some c) t ≡ Some d → ⊥
unfit t c d e is = let none : counted_next (Some c) t ≡ None = ap (λ (b : Bool). if b then counted t.role c else None) e in cc

token_is : (t u : Token) → Some t ≡ Some u → t ≡ u
token_is t u e = cc

module _ (tokens : List Token) (h : Halt) (p : IsHalt tokens h) (front : List Tagged) (at : Tagged) (back : List Tagged)
    (tree : List Declaration) (program : Program most_levels (front ++ at ∷ back) tree)
    (front_is : untagged front ≡ untagged p.before) (ahead : head p.last ≡ Some at.token) (counts : Through front at) where
  parts_are : untagged (front ++ at ∷ back) ≡ untagged p.before ++ at.token ∷ untagged back
  parts_are = untagged-append front (at ∷ back) ∙ ap (λ (l : List Token). l ++ at.token ∷ untagged back) front_is

  -- where the tokens up to the fault pass no limit
  ends_later : (text : List Tagged) (kind : ParseFaultKind) → text ≡ front ++ at ∷ back → (a : Answer (List Declaration))
      → a ≡ Err (record { kind = kind; remaining = length (at.token ∷ untagged back) })
      → Ends (most_levels < most_levels) none_yet tree text [] a → ⊥
  ends_later text kind is (Ok b) e ends = cc
  ends_later text kind is (Err k) e (inl deep) = omega (arith, deep.1)
  ends_later text kind is (Err k) e (inr q) =
      let remaining = ap (λ (x : Halt). x.remaining) (err_is k (record { kind = kind; remaining = length (at.token ∷ untagged back) }) e) in
      let backs : length (at ∷ back) ≡ length (q.at ∷ q.back) =
      omega (arith, remaining, q.remaining, untagged-length back, untagged-length q.back, ap length (on-all q.back)) in
      let same = same_fronts front q.front (at ∷ back) (q.at ∷ q.back) (sym is ∙ q.parts) backs in
      let at_is : at ≡ q.at = (let e : at ∷ back ≡ q.at ∷ q.back = same.1 in cc) in
      let few_is : Some counts.few ≡ Some q.counts = sym counts.few_is ∙ ap (counted_all (Some none_yet)) same.0 ∙ q.few in
      let next_is : counted_next (Some q.counts) q.at ≡ Some counts.next =
      ap (λ (c : Option TextCounts). counted_next c q.at) (sym few_is) ∙ ap (counted_next (Some counts.few)) (sym at_is) ∙ counts.next_is in
      let none : counted_next (Some q.counts) q.at ≡ None = q.passes in
      let clash : Some counts.next ≡ None = sym next_is ∙ none in
      cc

  no_limit : (next : Tagged) (more : List Tagged) (other : List Declaration) → Program most_levels (p.before ++ next ∷ more) other
      → head p.last ≡ Some next.token → counted_next (Some p.counts) next ≡ None → ⊥
  no_limit next more other q is passes =
      let stop = stops p.before next more other p.counts q p.few passes (at.token ∷ untagged back) (sym ahead ∙ is) in
      ends_later (front ++ at ∷ back) stop.0 refl (reading (untagged (front ++ at ∷ back))) (ap reading parts_are ∙ stop.1)
      (program_ends most_levels (front ++ at ∷ back) tree program)

  fit_at : (next : Tagged) → head p.last ≡ Some next.token → fits next.token ≡ false → ⊥
  fit_at next is e = unfit at counts.few counts.next (ap fits (token_is at.token next.token (sym ahead ∙ is)) ∙ e) counts.next_is

  past_kind : (kind : ParseFaultKind) → Wrong kind p.before p.counts (head p.last) → ⊥
  past_kind NotAscii w = unfit at counts.few counts.next (ap fits (token_is at.token token.NotAscii (sym ahead ∙ w))) counts.next_is
  past_kind BadToken w = unfit at counts.few counts.next (ap fits (token_is at.token token.Bad (sym ahead ∙ w))) counts.next_is
  past_kind Unexpected w =
      w.1 (front ++ at ∷ back) tree (at.token ∷ untagged back) (record { which = most_levels; it = program }) parts_are (sym ahead)
  past_kind NumberTooBig w = fit_at w.next w.ahead_is w.holds.1
  past_kind TooDeep w = w.1 (front ++ at ∷ back) tree (at.token ∷ untagged back) program parts_are (sym ahead)
  past_kind TooMany w =
      no_limit w.next w.more w.value w.rule w.ahead_is
      (ap (λ (b : Bool). if b then counted w.next.role p.counts else None) w.holds.0 ∙ w.holds.1)

  pub past : ⊥
  past = past_kind h.kind p.wrong

-- ---- a text has no fault

past_parted : (tokens : List Token) (h : Halt) (p : IsHalt tokens h) (text : List Tagged) (tree : List Declaration) (c : TextCounts)
    → Program most_levels text tree → counted_all (Some none_yet) text ≡ Some c
    → (t : Token) (others : List Token) → head p.last ≡ Some t → Parted text (untagged p.before) t others → ⊥
past_parted tokens h p text tree c program few t others ahead q =
    past tokens h p q.front q.at q.back tree (subst (λ (l : List Tagged). Program most_levels l tree) q.parts program) q.front_is
    (ahead ∙ ap (λ (u : Token). Some u) (sym q.token_is))
    (through q.front q.at q.back c (ap (counted_all (Some none_yet)) (sym q.parts) ∙ few))

not_at_end : (tokens : List Token) (h : Halt) (p : IsHalt tokens h) (text : List Tagged) (tree : List Declaration)
    → Program most_levels text tree → untagged text ≡ untagged p.before ++ [] → head p.last ≡ None → (kind : ParseFaultKind)
    → Wrong kind p.before p.counts (head p.last) → ⊥
not_at_end tokens h p text tree program e none NotAscii w = let is : Some token.NotAscii ≡ None = sym w ∙ none in cc
not_at_end tokens h p text tree program e none BadToken w = let is : Some token.Bad ≡ None = sym w ∙ none in cc
not_at_end tokens h p text tree program e none Unexpected w = w.1 text tree [] (record { which = most_levels; it = program }) e (sym none)
not_at_end tokens h p text tree program e none NumberTooBig w = let is : Some w.next.token ≡ None = sym w.ahead_is ∙ none in cc
not_at_end tokens h p text tree program e none TooDeep w = w.1 text tree [] program e (sym none)
not_at_end tokens h p text tree program e none TooMany w = let is : Some w.next.token ≡ None = sym w.ahead_is ∙ none in cc

not_behind : (tokens : List Token) (h : Halt) (p : IsHalt tokens h) (tree : List Declaration) (t : Text tokens tree) (last : List Token)
    → p.last ≡ last → ⊥
not_behind tokens h p tree t [] is =
    not_at_end tokens h p t.text tree t.program (sym t.tokens_are ∙ p.parts ∙ ap (λ (l : List Token). untagged p.before ++ l) is)
    (ap head is) h.kind p.wrong
not_behind tokens h p tree t (u ∷ others) is =
    past_parted tokens h p t.text tree t.counts t.program t.few u others (ap head is)
    (parted t.text (untagged p.before) u others (sym t.tokens_are ∙ p.parts ∙ ap (λ (l : List Token). untagged p.before ++ l) is))

pub text_has_no_halt : (tokens : List Token) (tree : List Declaration) (h : Halt) → Text tokens tree → IsHalt tokens h → ⊥
text_has_no_halt tokens tree h t p = not_behind tokens h p tree t p.last refl

-- ---- tokens have one fault

-- no fault stands in front of another
not_before : (tokens : List Token) (h k : Halt) (p : IsHalt tokens h) (q : IsHalt tokens k)
    → Longer (untagged p.before) (untagged q.before) p.last q.last → ⊥
not_before tokens h k p q longer =
    let more = q.begins in
    let r = parted q.before (untagged p.before) longer.next longer.others longer.front_is in
    let parts : q.before ++ more.more ≡ r.front ++ r.at ∷ (r.back ++ more.more) =
    ap (λ (l : List Tagged). l ++ more.more) r.parts ∙ append_assoc r.front (r.at ∷ r.back) more.more in
    past tokens h p r.front r.at (r.back ++ more.more) more.value
    (subst (λ (l : List Tagged). Program most_levels l more.value) parts more.rule) r.front_is
    (ap head longer.back_is ∙ ap (λ (u : Token). Some u) (sym r.token_is))
    (through r.front r.at r.back q.counts (ap (counted_all (Some none_yet)) (sym r.parts) ∙ q.few))

-- a lexical fault, or Unexpected
abbrev low : ParseFaultKind → ParseFaultKind
low NotAscii = NotAscii
low BadToken = BadToken
low _ = Unexpected

low_not_ascii : (k : ParseFaultKind) → low k ≡ NotAscii → k ≡ NotAscii
low_not_ascii NotAscii e = refl
low_not_ascii BadToken e = absurd cc
low_not_ascii _ e = absurd cc

low_bad : (k : ParseFaultKind) → low k ≡ BadToken → k ≡ BadToken
low_bad BadToken e = refl
low_bad NotAscii e = absurd cc
low_bad _ e = absurd cc

no_lexical : (ahead : Option Token) → is_lexical ahead ≡ false → kind_at ahead ≡ Unexpected
no_lexical (Some token.NotAscii) e = absurd cc
no_lexical (Some token.Bad) e = absurd cc
no_lexical None e = refl
no_lexical (Some t) e = refl

number_kind : (t : Token) → is_number t ≡ true → kind_at (Some t) ≡ Unexpected
number_kind token.NotAscii e = absurd cc
number_kind token.Bad e = absurd cc
number_kind t e = refl

fit_kind : (t : Token) → fits t ≡ true → kind_at (Some t) ≡ Unexpected
fit_kind token.NotAscii e = absurd cc
fit_kind token.Bad e = absurd cc
fit_kind t e = refl

low_is : (k : ParseFaultKind) (b : List Tagged) (c : TextCounts) (ahead : Option Token) → Wrong k b c ahead → kind_at ahead ≡ low k
low_is NotAscii b c ahead w = ap kind_at w
low_is BadToken b c ahead w = ap kind_at w
low_is Unexpected b c ahead w = no_lexical ahead w.0
low_is NumberTooBig b c ahead w = ap kind_at w.ahead_is ∙ number_kind w.next.token w.holds.0
low_is TooDeep b c ahead w = ap kind_at w.0.ahead_is ∙ fit_kind w.0.next.token w.0.holds
low_is TooMany b c ahead w = ap kind_at w.ahead_is ∙ fit_kind w.next.token w.holds.0

any_goes : (m : ℕ) (b : List Tagged) (ahead : Option Token) (P : Tagged → Type 0) → GoesOn (Program m) b ahead P
    → GoesOn AnyProgram b ahead P
any_goes m b ahead P g =
    record
    { next = g.next; more = g.more; value = g.value; ahead_is = g.ahead_is; rule = record { which = m; it = g.rule }; holds = g.holds }

goes_none : (R : Rule (List Declaration)) (b d : List Tagged) (ahead : Option Token) (P : Tagged → Type 0) → untagged b ≡ untagged d
    → GoesOn R b ahead P → NoneGoesOn R (untagged d) ahead → ⊥
goes_none R b d ahead P e g none =
    none (b ++ g.next ∷ g.more) g.value (g.next.token ∷ untagged g.more) g.rule
    (untagged-append b (g.next ∷ g.more) ∙ ap (λ (l : List Token). l ++ g.next.token ∷ untagged g.more) e) (sym g.ahead_is)

fits_both : (ahead : Option Token) (t u : Token) → ahead ≡ Some t → ahead ≡ Some u → fits t ≡ true → fits u ≡ false → ⊥
fits_both ahead t u e f yes_fits no_fits = let is : fits t ≡ fits u = ap fits (token_is t u (sym e ∙ f)) in cc

module _ (b d : List Tagged) (c e : TextCounts) (ahead : Option Token) (same : untagged b ≡ untagged d) where
  one_kind : (k l : ParseFaultKind) → Wrong k b c ahead → Wrong l d e ahead → k ≡ l
  one_kind NotAscii l w v = sym (low_not_ascii l (sym (low_is l d e ahead v) ∙ low_is NotAscii b c ahead w))
  one_kind BadToken l w v = sym (low_bad l (sym (low_is l d e ahead v) ∙ low_is BadToken b c ahead w))
  one_kind k NotAscii w v = low_not_ascii k (sym (low_is k b c ahead w) ∙ low_is NotAscii d e ahead v)
  one_kind k BadToken w v = low_bad k (sym (low_is k b c ahead w) ∙ low_is BadToken d e ahead v)
  one_kind Unexpected Unexpected w v = refl
  one_kind Unexpected NumberTooBig w v = absurd (goes_none AnyProgram d b ahead _ (sym same) (any_goes most_levels d ahead _ v) w.1)
  one_kind Unexpected TooDeep w v = absurd (goes_none AnyProgram d b ahead _ (sym same) v.0 w.1)
  one_kind Unexpected TooMany w v = absurd (goes_none AnyProgram d b ahead _ (sym same) (any_goes most_levels d ahead _ v) w.1)
  one_kind NumberTooBig Unexpected w v = absurd (goes_none AnyProgram b d ahead _ same (any_goes most_levels b ahead _ w) v.1)
  one_kind NumberTooBig NumberTooBig w v = refl
  one_kind NumberTooBig TooDeep w v = absurd (fits_both ahead v.0.next.token w.next.token v.0.ahead_is w.ahead_is v.0.holds w.holds.1)
  one_kind NumberTooBig TooMany w v = absurd (fits_both ahead v.next.token w.next.token v.ahead_is w.ahead_is v.holds.0 w.holds.1)
  one_kind TooDeep Unexpected w v = absurd (goes_none AnyProgram b d ahead _ same w.0 v.1)
  one_kind TooDeep NumberTooBig w v = absurd (fits_both ahead w.0.next.token v.next.token w.0.ahead_is v.ahead_is w.0.holds v.holds.1)
  one_kind TooDeep TooDeep w v = refl
  one_kind TooDeep TooMany w v = absurd (goes_none (Program most_levels) d b ahead _ (sym same) v w.1)
  one_kind TooMany Unexpected w v = absurd (goes_none AnyProgram b d ahead _ same (any_goes most_levels b ahead _ w) v.1)
  one_kind TooMany NumberTooBig w v = absurd (fits_both ahead w.next.token v.next.token w.ahead_is v.ahead_is w.holds.0 v.holds.1)
  one_kind TooMany TooDeep w v = absurd (goes_none (Program most_levels) b d ahead _ same w v.1)
  one_kind TooMany TooMany w v = refl

same_halt : (h k : Halt) → h.kind ≡ k.kind → h.remaining ≡ k.remaining → h ≡ k
same_halt h k e f =
    ap (λ (kind : ParseFaultKind). record { kind = kind; remaining = h.remaining }) e
    ∙ ap (λ (remaining : ℕ). record { kind = k.kind; remaining = remaining }) f

halts_at : (tokens : List Token) (h k : Halt) (p : IsHalt tokens h) (q : IsHalt tokens k)
    → Fronts (untagged p.before) (untagged q.before) p.last q.last → h ≡ k
halts_at tokens h k p q (same e f) =
    same_halt h k
    (one_kind p.before q.before p.counts q.counts (head p.last) e h.kind k.kind p.wrong
    (subst (λ (l : List Token). Wrong k.kind q.before q.counts (head l)) (sym f) q.wrong))
    (p.remaining ∙ ap length f ∙ sym q.remaining)
halts_at tokens h k p q (first longer) = absurd (not_before tokens k h q p longer)
halts_at tokens h k p q (second longer) = absurd (not_before tokens h k p q longer)

pub one_halt : (tokens : List Token) (h k : Halt) → IsHalt tokens h → IsHalt tokens k → h ≡ k
one_halt tokens h k p q = halts_at tokens h k p q (fronts (untagged p.before) (untagged q.before) p.last q.last (sym p.parts ∙ q.parts))
