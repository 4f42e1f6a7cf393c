-- The events of lines, one line after the other.
use Rattle.std.proofs.Common.{◌≡◌, ◌∙◌, ◌++◌, ◌+◌, ◌<◌, ◌≤◌, ℕ, true, false, List, [], ◌∷◌, inl, inr, cond, length}
use Rattle.std.proofs.Common.{take, drop, get_or, sym, ap, subst, arith}
use Rattle.std.specs.Prelude.{not}
use Rattle.std.proofs.lemmas.List.{append-nil, drop_more, length-take-le, take-append-drop, take_all, take_more}
use Rattle.std.proofs.lemmas.List.Elements.{filter-append}
use Rattle.catalog.specs.Entries.{Entry}
use Rattle.gossip_events.specs.ScriptFaults.{IsLineFault, IsScriptFault}
use Rattle.gossip_events.specs.Scripts.{AreEvents, TellEvents, TellsEvent, event_lines, is_passed_over, lines, most_events}
use Rattle.gossip_events.specs.declared.event.Event.{Event}
use Rattle.gossip_events.specs.declared.fault.ScriptFault.{ScriptFault}
use Rattle.gossip_events.specs.inside.Adding.{Adds}

one_more : (jobs : List Entry) (all : List (List ℕ)) (events : List Event) (line : List ℕ) (event : Event) → TellEvents jobs all events
    → TellsEvent jobs line event → TellEvents jobs (all ++ line ∷ []) (events ++ event ∷ [])
one_more jobs [] [] line event are is = (is, tt)
one_more jobs [] (e ∷ events) line event are is = absurd are
one_more jobs (l ∷ all) [] line event are is = absurd are
one_more jobs (l ∷ all) (e ∷ events) line event are is = (are.0, one_more jobs all events line event are.1 is)

-- a line that is passed over, and one that is not
passed : (all : List (List ℕ)) (line : List ℕ) → is_passed_over line ≡ true → event_lines (all ++ line ∷ []) ≡ event_lines all
passed all line is =
    filter-append (λ l. not (is_passed_over l)) all (line ∷ [])
    ∙ ap (λ b. event_lines all ++ cond (not b) (line ∷ []) []) is ∙ append-nil (event_lines all)

met : (all : List (List ℕ)) (line : List ℕ) → is_passed_over line ≡ false → event_lines (all ++ line ∷ []) ≡ event_lines all ++ line ∷ []
met all line is =
    filter-append (λ l. not (is_passed_over l)) all (line ∷ []) ∙ ap (λ b. event_lines all ++ cond (not b) (line ∷ []) []) is

more_told : (jobs : List Entry) (all : List (List ℕ)) (line : List ℕ) (old new : List Event) → TellEvents jobs (event_lines all) old
    → Adds jobs line old new → TellEvents jobs (event_lines (all ++ line ∷ [])) new
more_told jobs all line old new told (inl none) =
    subst (λ (ls : List (List ℕ)). TellEvents jobs ls new) (sym (passed all line none.0))
    (subst (λ (es : List Event). TellEvents jobs (event_lines all) es) (sym none.1) told)
more_told jobs all line old new told (inr some) =
    subst (λ (ls : List (List ℕ)). TellEvents jobs ls new) (sym (met all line some.0))
    (subst (λ (es : List Event). TellEvents jobs (event_lines all ++ line ∷ []) es) (sym some.1.2)
    (one_more jobs (event_lines all) old line some.1.0 told some.1.1))

pub takes_line : (jobs : List Entry) (all : List (List ℕ)) (n : ℕ) (line : List ℕ) (old new : List Event)
    → (n < length all) × (line ≡ get_or all n line) → AreEvents jobs (take n all) old → Adds jobs line old new → length new ≤ most_events
    → AreEvents jobs (take (n + 1) all) new
takes_line jobs all n line old new here before adds few =
    let more = take_more all n line here.0 ∙ ap (λ (l : List ℕ). take n all ++ l ∷ []) (sym here.1) in
    record {
      told = subst (λ (ls : List (List ℕ)). TellEvents jobs (event_lines ls) new) (sym more)
          (more_told jobs (take n all) line old new before.told adds);
      few = few;
    }

pub line_at_fault : (jobs : List Entry) (text : List ℕ) (n number : ℕ) (line : List ℕ) (fault : ScriptFault) (old : List Event)
    → (n < length (lines text)) × (line ≡ get_or (lines text) n line) → number ≡ n + 1 → AreEvents jobs (take n (lines text)) old
    → is_passed_over line ≡ false → IsLineFault jobs number (length old) line fault → IsScriptFault jobs text fault
line_at_fault jobs text n number line fault old here is before tells wrong =
    let all = lines text in
    let len : length (take n all) ≡ n = length-take-le n all (omega (arith, here.0)) in
    record {
      before = take n all;
      line = line;
      after = drop (n + 1) all;
      parts = sym (take-append-drop n all) ∙ ap (λ (ls : List (List ℕ)). take n all ++ ls) (drop_more all n line here.0)
          ∙ ap (λ (l : List ℕ). take n all ++ l ∷ drop (n + 1) all) (sym here.1);
      events = old;
      good = before;
      tells = tells;
      wrong = subst (λ (m : ℕ). IsLineFault jobs m (length old) line fault) (is ∙ ap (λ m. m + 1) (sym len)) wrong;
    }

pub all_lines : (jobs : List Entry) (text : List ℕ) (n : ℕ) (events : List Event) → n ≡ length (lines text)
    → AreEvents jobs (take n (lines text)) events → AreEvents jobs (lines text) events
all_lines jobs text n events is whole =
    subst (λ (ls : List (List ℕ)). AreEvents jobs ls events) (take_all n (lines text) (omega (arith, is))) whole
