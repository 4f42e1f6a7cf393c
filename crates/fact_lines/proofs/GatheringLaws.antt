-- What lines hold, one after the other.
use Rattle.std.proofs.Common.{◌≡◌, ◌++◌, ◌+◌, ◌<◌, ℕ, List, [], ◌∷◌, inl, inr, length, take, drop, get_or, refl, sym, ap, subst, ◌∙◌, arith}
use Rattle.std.specs.Prelude.{◌≢◌, ◌↔◌}
use Rattle.std.specs.List.{All, Contains}
use Rattle.std.proofs.lemmas.List.{drop_more, length-take-le, take-append-drop, take_all, take_more}
use Rattle.std.proofs.lemmas.List.Elements.{All-nil, All-append, Contains-append_cases, Contains-append_left}
use Rattle.std.proofs.lemmas.List.Elements.{Contains-append_right, Contains-push, Contains-push_cases, All-cons}
use Rattle.hex.proofs.HexLemmas.{decode_of-ok, decode_of-same}
use Rattle.identity.specs.declared.job_ids.JobId.{JobId}
use Rattle.tile_fact.specs.FactFile.{IsFactFile, fact_file}
use Rattle.tile_fact.proofs.WholeLaws.{one_file}
use Rattle.tile_fact.specs.declared.fact.Fact.{Fact}
use Rattle.tile_fact.specs.declared.fault.FactFault.{FactFault}
use Rattle.tile_fact.specs.declared.fault.FactFault.TheVariants as files
use Rattle.tile_fact.specs.Faults.{IsFault as IsFileFault}
use Rattle.fact_lines.specs.declared.fault.FactLinesFault.{FactLinesFault}
use Rattle.fact_lines.specs.Faults.{IsFault, IsLineFault}
use Rattle.fact_lines.specs.inside.Gathering.{Adds, Gathers, told}
use Rattle.fact_lines.specs.Texts.{IsDigitsOf, IsFileLine, IsGoodLine, IsOnLines, lines}

pub line_fault : (number : ℕ) (line bytes : List ℕ) (fault : FactFault) → line ≢ [] → IsDigitsOf line bytes → IsFileFault bytes fault
    → IsLineFault number line (told number fault)
line_fault number line bytes files.Memory some digits first = record { some = some; bytes = bytes; digits = digits }
line_fault number line bytes (files.BadMagic at) some digits first =
    (refl, record { digits = record { some = some; bytes = bytes; digits = digits }; first = first; told = λ same. cc })
line_fault number line bytes (files.Cut at) some digits first =
    (refl, record { digits = record { some = some; bytes = bytes; digits = digits }; first = first; told = λ same. cc })
line_fault number line bytes (files.NotRising at) some digits first =
    (refl, record { digits = record { some = some; bytes = bytes; digits = digits }; first = first; told = λ same. cc })
line_fault number line bytes (files.BadKind at) some digits first =
    (refl, record { digits = record { some = some; bytes = bytes; digits = digits }; first = first; told = λ same. cc })
line_fault number line bytes (files.TooLong at) some digits first =
    (refl, record { digits = record { some = some; bytes = bytes; digits = digits }; first = first; told = λ same. cc })
line_fault number line bytes (files.TrailingBytes at) some digits first =
    (refl, record { digits = record { some = some; bytes = bytes; digits = digits }; first = first; told = λ same. cc })
line_fault number line bytes (files.RetiredFact at) some digits first =
    (refl, record { digits = record { some = some; bytes = bytes; digits = digits }; first = first; told = λ same. cc })
line_fault number line bytes (files.NothingRetired at) some digits first =
    (refl, record { digits = record { some = some; bytes = bytes; digits = digits }; first = first; told = λ same. cc })

pub no_empty_file : (retired : List JobId) (facts : List Fact) → ¬ IsFileLine [] retired facts
no_empty_file retired facts file =
    let two = (decode_of-ok [] file.bytes file.digits).2 in
    let empty : length file.bytes ≡ 0 = omega arith in
    some_bytes retired (sym (ap length file.file.spelled) ∙ empty)
  where
    some_bytes : (jobs : List JobId) → length (fact_file jobs facts) ≡ 0 → ⊥
    some_bytes [] none = omega arith
    some_bytes (i ∷ more) none = omega arith

pub same_lines : (line : List ℕ) (retired others : List JobId) (facts other_facts : List Fact) → IsFileLine line retired facts
    → IsFileLine line others other_facts → (retired ≡ others) × (facts ≡ other_facts)
same_lines line retired others facts other_facts one two =
    let bytes = decode_of-same line one.bytes two.bytes one.digits two.digits in
    one_file one.bytes retired others facts other_facts one.file
    (subst (λ (b : List ℕ). IsFactFile b others other_facts) (sym bytes) two.file)

-- ---- what some lines have in one part of their files

module _ {X : Type 0} (part : List JobId → List Fact → List X) where
  -- these and no others are on the lines
  abbrev pub AreThose : List (List ℕ) → List X → Type 0
  AreThose all xs = (x : X) → Contains xs x ↔ IsOnLines part all x

  pub those_none : AreThose [] []
  those_none x = ((λ has. absurd (omega (arith, has.1))), λ on. absurd (omega (arith, on.stands.1)))

  on_more : (all : List (List ℕ)) (line : List ℕ) (x : X) → IsOnLines part all x → IsOnLines part (all ++ line ∷ []) x
  on_more all line x on =
      record {
        line = on.line;
        retired = on.retired;
        facts = on.facts;
        stands = Contains-append_left all (line ∷ []) on.line on.stands;
        file = on.file;
        has = on.has;
      }

  module _ (all : List (List ℕ)) (line : List ℕ) (old new : List X) (before : AreThose all old) where
    pub those_empty : line ≡ [] → new ≡ old → AreThose (all ++ line ∷ []) new
    those_empty none same x = (
      (λ has. on_more all line x ((before x).0 (subst (λ (l : List X). Contains l x) same has))),
      λ on. subst (λ (l : List X). Contains l x) (sym same)
          ((before x).1 (elim (Contains-push_cases all line on.line on.stands) [
            | inl front ↦
                record {
                  line = on.line;
                  retired = on.retired;
                  facts = on.facts;
                  stands = front;
                  file = on.file;
                  has = on.has;
                }
            | inr last ↦
                absurd (no_empty_file on.retired on.facts
                (subst (λ (l : List ℕ). IsFileLine l on.retired on.facts) (sym last ∙ none) on.file))
          ])),
    )

    pub those_more : (retired : List JobId) (facts : List Fact) → IsFileLine line retired facts → new ≡ old ++ part retired facts
        → AreThose (all ++ line ∷ []) new
    those_more retired facts file same x = (
      (λ has. elim (Contains-append_cases old (part retired facts) x (subst (λ (l : List X). Contains l x) same has)) [
        | inl front ↦ on_more all line x ((before x).0 front)
        | inr last ↦
            record {
              line = line;
              retired = retired;
              facts = facts;
              stands = Contains-push all line;
              file = file;
              has = last;
            }
      ]),
      λ on. subst (λ (l : List X). Contains l x) (sym same) (elim (Contains-push_cases all line on.line on.stands) [
        | inl front ↦
            Contains-append_left old (part retired facts) x
            ((before x).1 (record {
              line = on.line;
              retired = on.retired;
              facts = on.facts;
              stands = front;
              file = on.file;
              has = on.has;
            }))
        | inr last ↦
            let own = subst (λ (l : List ℕ). IsFileLine l on.retired on.facts) (sym last) on.file in
            let both = same_lines line on.retired retired on.facts facts own file in
            let parts : part on.retired on.facts ≡ part retired facts = λ i. part (both.0 i) (both.1 i) in
            Contains-append_right old (part retired facts) x (subst (λ (l : List X). Contains l x) parts on.has)
      ]),
    )

-- ---- the retired jobs and the facts of some lines

pub gathers_none : Gathers [] [] []
gathers_none = record {
  good = All-nil IsGoodLine;
  same_ids = those_none (λ retired facts. retired);
  same = those_none (λ retired facts. facts);
}

gathers_good : (all : List (List ℕ)) (line : List ℕ) → All IsGoodLine all → IsGoodLine line → All IsGoodLine (all ++ line ∷ [])
gathers_good all line good last =
    All-append IsGoodLine all (line ∷ []) good (All-cons IsGoodLine line [] last (All-nil IsGoodLine))

pub gathers_more : (all : List (List ℕ)) (line : List ℕ) (jobs new_jobs : List JobId) (old new : List Fact) → Gathers all jobs old
    → Adds line jobs old new_jobs new → Gathers (all ++ line ∷ []) new_jobs new
gathers_more all line jobs new_jobs old new before (inl none) = record {
  good = gathers_good all line before.good (inl none.0);
  same_ids = those_empty (λ retired facts. retired) all line jobs new_jobs before.same_ids none.0 none.1;
  same = those_empty (λ retired facts. facts) all line old new before.same none.0 none.2;
}
gathers_more all line jobs new_jobs old new before (inr some) = record {
  good = gathers_good all line before.good (inr (some.0, some.1, some.2));
  same_ids = those_more (λ retired facts. retired) all line jobs new_jobs before.same_ids some.0 some.1 some.2 some.3;
  same = those_more (λ retired facts. facts) all line old new before.same some.0 some.1 some.2 some.4;
}

-- ---- one line after the other

pub takes_line : (all : List (List ℕ)) (n : ℕ) (line : List ℕ) (jobs new_jobs : List JobId) (old new : List Fact)
    → (n < length all) × (line ≡ get_or all n line)
    → Gathers (take n all) jobs old → Adds line jobs old new_jobs new → Gathers (take (n + 1) all) new_jobs new
takes_line all n line jobs new_jobs old new here before adds =
    let more = take_more all n line here.0 ∙ ap (λ (l : List ℕ). take n all ++ l ∷ []) (sym here.1) in
    subst (λ (ls : List (List ℕ)). Gathers ls new_jobs new) (sym more) (gathers_more (take n all) line jobs new_jobs old new before adds)

pub line_at_fault : (text : List ℕ) (n number : ℕ) (line : List ℕ) (fault : FactLinesFault) (jobs : List JobId) (old : List Fact)
    → (n < length (lines text)) × (line ≡ get_or (lines text) n line) → number ≡ n + 1 → Gathers (take n (lines text)) jobs old
    → IsLineFault number line fault → IsFault text fault
line_at_fault text n number line fault jobs old here is before wrong =
    let all = lines text in
    let len : length (take n all) ≡ n = length-take-le n all (omega (arith, here.0)) in
    record {
      before = take n all;
      line = line;
      behind = drop (n + 1) all;
      parts = sym (take-append-drop n all) ∙ ap (λ (ls : List (List ℕ)). take n all ++ ls) (drop_more all n line here.0)
          ∙ ap (λ (l : List ℕ). take n all ++ l ∷ drop (n + 1) all) (sym here.1);
      good = before.good;
      wrong = subst (λ (m : ℕ). IsLineFault m line fault) (is ∙ ap (λ m. m + 1) (sym len)) wrong;
    }

pub all_lines : (text : List ℕ) (n : ℕ) (jobs : List JobId) (facts : List Fact) → n ≡ length (lines text)
    → Gathers (take n (lines text)) jobs facts → Gathers (lines text) jobs facts
all_lines text n jobs facts is whole =
    subst (λ (ls : List (List ℕ)). Gathers ls jobs facts) (take_all n (lines text) (omega (arith, is))) whole
