-- Texts and faults of bytes: the tokens of bytes are determined, so these are.
use Rattle.std.proofs.Common.{◌≡◌, ℕ, ◌+◌, ◌-◌, ◌<◌, ◌≤◌, List, length, length-append, Result, Ok, Err, refl, sym, ap, subst, ◌∙◌, arith}
use Rattle.std.specs.Prelude.{slice_get, unwrap_or, IfOk, IfErr, MatchResult}
use Rattle.std.proofs.lemmas.List.{length-map}
use Rattle.pipe_tokens.specs.declared.token.Token.{Token}
use Rattle.pipe_tokens.specs.Cutting.{CutsInto}
use Rattle.pipe_tokens.specs.Lexing.{Lexeme, lexemes_of, tokens_of, starts_of}
use Rattle.pipe_tokens.proofs.Only.{only_tokens, only_starts}
use Rattle.pipe_tree.specs.declared.fault.Halt.{Halt}
use Rattle.pipe_tree.specs.declared.fault.ParseFaultKind.{ParseFaultKind}
use Rattle.pipe_tree.specs.declared.fault.ParseFaultKind.TheVariants as kinds
use Rattle.pipe_tree.specs.declared.fault.ParseFault.{ParseFault}
use Rattle.pipe_tree.specs.declared.fault.ParseFault.TheVariants as faults
use Rattle.pipe_tree.specs.declared.tree.Tree.{Tree}
use Rattle.pipe_tree.specs.Limits.{most_bytes, untagged}
use Rattle.pipe_tree.specs.Tree.{Declaration}
use Rattle.pipe_tree.specs.Content.{content}
use Rattle.pipe_tree.specs.Faults.{Text, IsText, IsHalt, IsFaultAt, IsFault}
use Rattle.pipe_tree.specs.FaultOf.{fault_of}
use Rattle.pipe_tree.specs.Reading.{program_of}
use Rattle.pipe_tree.proofs.Theorems.{found, only, halt}
use Rattle.pipe_tree.proofs.Halts.{text_has_no_halt, one_halt}

abbrev done : List Declaration → Result (List Declaration) Halt
done tree = Ok tree

one_text : (tokens : List Token) (a b : List Declaration) → Text tokens a → Text tokens b → a ≡ b
one_text tokens a b p q = let e : done a ≡ done b = sym (only tokens a p) ∙ only tokens b q in cc

-- a fault of the tokens, and no other
record Placed (bytes : List ℕ) (fault : ParseFault) : Type 0 where
  kind : ParseFaultKind
  offset : ℕ
  fault_is : fault ≡ fault_of kind offset
  it : IsFaultAt bytes kind offset

-- what a fault of bytes may be
data Sort (bytes : List ℕ) (fault : ParseFault) : Type 0 where
  placed : Placed bytes fault → Sort bytes fault
  long : most_bytes < length bytes → fault ≡ faults.TooLong most_bytes → Sort bytes fault
  memory : fault ≡ faults.Memory → Sort bytes fault

at_kind : (bytes : List ℕ) (kind : ParseFaultKind) (offset : ℕ) → IsFaultAt bytes kind offset → Sort bytes (fault_of kind offset)
at_kind bytes kind offset p = placed (record { kind = kind; offset = offset; fault_is = refl; it = p })

sort : (bytes : List ℕ) (fault : ParseFault) → IsFault bytes fault → Sort bytes fault
sort bytes (faults.NotAscii offset) p = at_kind bytes kinds.NotAscii offset p
sort bytes (faults.BadToken offset) p = at_kind bytes kinds.BadToken offset p
sort bytes (faults.Unexpected offset) p = at_kind bytes kinds.Unexpected offset p
sort bytes (faults.NumberTooBig offset) p = at_kind bytes kinds.NumberTooBig offset p
sort bytes (faults.TooDeep offset) p = at_kind bytes kinds.TooDeep offset p
sort bytes (faults.TooLong offset) p = long p.0 (ap faults.TooLong p.1)
sort bytes (faults.TooMany offset) p = at_kind bytes kinds.TooMany offset p
sort bytes faults.Memory p = memory refl

pub is_fault : (bytes : List ℕ) (kind : ParseFaultKind) (offset : ℕ) → IsFaultAt bytes kind offset → IsFault bytes (fault_of kind offset)
is_fault bytes kinds.NotAscii offset p = p
is_fault bytes kinds.BadToken offset p = p
is_fault bytes kinds.Unexpected offset p = p
is_fault bytes kinds.NumberTooBig offset p = p
is_fault bytes kinds.TooDeep offset p = p
is_fault bytes kinds.TooMany offset p = p

same_passed : (n p q remaining : ℕ) → n ≡ p + remaining → n ≡ q + remaining → p ≡ q
same_passed n p q remaining e f = omega arith

-- ---- bytes are cut in one way only
pub text_of : (bytes : List ℕ) (tree : List Declaration) → IsText bytes tree → Text (tokens_of bytes) tree
text_of bytes tree p = subst (λ (tokens : List Token). Text tokens tree) (only_tokens bytes p.tokens p.starts p.cut) p.text

pub one_tree : (bytes : List ℕ) (a b : List Declaration) → IsText bytes a → IsText bytes b → a ≡ b
one_tree bytes a b p q = one_text (tokens_of bytes) a b (text_of bytes a p) (text_of bytes b q)

halt_of : (bytes : List ℕ) (kind : ParseFaultKind) (offset : ℕ) (p : IsFaultAt bytes kind offset)
    → IsHalt (tokens_of bytes) (record { kind = kind; remaining = p.remaining })
halt_of bytes kind offset p =
    subst (λ (tokens : List Token). IsHalt tokens (record { kind = kind; remaining = p.remaining }))
    (only_tokens bytes p.tokens p.starts p.cut) p.halt

place_of : (bytes : List ℕ) (kind : ParseFaultKind) (offset : ℕ) (p : IsFaultAt bytes kind offset)
    → offset ≡ unwrap_or (slice_get (starts_of bytes) p.passed) (length bytes)
place_of bytes kind offset p =
    p.offset_is ∙ ap (λ (starts : List ℕ). unwrap_or (slice_get starts p.passed) (length bytes)) (only_starts bytes p.tokens p.starts p.cut)

one_place : (bytes : List ℕ) (a b : ParseFault) → Placed bytes a → Placed bytes b → a ≡ b
one_place bytes a b p q =
    let h =
    one_halt (tokens_of bytes) (record { kind = p.kind; remaining = p.it.remaining })
    (record { kind = q.kind; remaining = q.it.remaining }) (halt_of bytes p.kind p.offset p.it)
    (halt_of bytes q.kind q.offset q.it) in
    let kind : p.kind ≡ q.kind = ap (λ (x : Halt). x.kind) h in
    let remaining : p.it.remaining ≡ q.it.remaining = ap (λ (x : Halt). x.remaining) h in
    let all : length (tokens_of bytes) ≡ p.it.passed + p.it.remaining =
    ap length (sym (only_tokens bytes p.it.tokens p.it.starts p.it.cut)) ∙ p.it.passed_are in
    let all' : length (tokens_of bytes) ≡ q.it.passed + p.it.remaining =
    ap length (sym (only_tokens bytes q.it.tokens q.it.starts q.it.cut)) ∙ q.it.passed_are
    ∙ ap (λ (n : ℕ). q.it.passed + n) (sym remaining) in
    let passed = same_passed (length (tokens_of bytes)) p.it.passed q.it.passed p.it.remaining all all' in
    let offset : p.offset ≡ q.offset =
    place_of bytes p.kind p.offset p.it ∙ ap (λ (n : ℕ). unwrap_or (slice_get (starts_of bytes) n) (length bytes)) passed
    ∙ sym (place_of bytes q.kind q.offset q.it) in
    p.fault_is ∙ ap (λ (k : ParseFaultKind). fault_of k p.offset) kind ∙ ap (fault_of q.kind) offset ∙ sym q.fault_is

one_sort : (bytes : List ℕ) (a b : ParseFault) → Sort bytes a → Sort bytes b → (a ≡ faults.Memory → ⊥) → (b ≡ faults.Memory → ⊥) → a ≡ b
one_sort bytes a b (memory e) q na nb = absurd (na e)
one_sort bytes a b p (memory e) na nb = absurd (nb e)
one_sort bytes a b (placed p) (placed q) na nb = one_place bytes a b p q
one_sort bytes a b (placed p) (long more is) na nb = absurd (omega (arith, p.it.short, more))
one_sort bytes a b (long more is) (placed q) na nb = absurd (omega (arith, q.it.short, more))
one_sort bytes a b (long more is) (long more' is') na nb = is ∙ sym is'

pub one_fault : (bytes : List ℕ) (a b : ParseFault) → IsFault bytes a → IsFault bytes b → (a ≡ faults.Memory → ⊥) → (b ≡ faults.Memory → ⊥)
    → a ≡ b
one_fault bytes a b p q na nb = one_sort bytes a b (sort bytes a p) (sort bytes b q) na nb

no_sort : (bytes : List ℕ) (tree : List Declaration) (fault : ParseFault) → IsText bytes tree → Sort bytes fault → fault ≡ faults.Memory
no_sort bytes tree fault t (memory e) = e
no_sort bytes tree fault t (long more is) = absurd (omega (arith, t.short, more))
no_sort bytes tree fault t (placed p) =
    absurd (text_has_no_halt (tokens_of bytes) tree (record { kind = p.kind; remaining = p.it.remaining }) (text_of bytes tree t)
    (halt_of bytes p.kind p.offset p.it))

pub no_fault : (bytes : List ℕ) (tree : List Declaration) (fault : ParseFault) → IsText bytes tree → IsFault bytes fault
    → fault ≡ faults.Memory
no_fault bytes tree fault t p = no_sort bytes tree fault t (sort bytes fault p)

-- ---- what the reading of the tokens says of the bytes

one_start_each : (bytes : List ℕ) (tokens : List Token) (starts : List ℕ) → CutsInto 0 bytes tokens starts → length starts ≡ length tokens
one_start_each bytes tokens starts cut =
    ap length (only_starts bytes tokens starts cut) ∙ length-map (lexemes_of bytes) (λ (l : Lexeme). l.start)
    ∙ sym (ap length (only_tokens bytes tokens starts cut) ∙ length-map (lexemes_of bytes) (λ (l : Lexeme). l.token))

pub text_found : (bytes : List ℕ) (tokens : List Token) (starts : List ℕ) (tree : List Declaration) → length bytes ≤ most_bytes
    → CutsInto 0 bytes tokens starts → program_of tokens ≡ Ok tree → IsText bytes tree
text_found bytes tokens starts tree short cut e =
    record { tokens = tokens; starts = starts; short = short; cut = cut; text = found tokens tree e }

pub fault_found : (bytes : List ℕ) (tokens : List Token) (starts : List ℕ) (h : Halt) → length bytes ≤ most_bytes
    → CutsInto 0 bytes tokens starts → program_of tokens ≡ Err h
    → IsFault bytes (fault_of h.kind (unwrap_or (slice_get starts (length starts - h.remaining)) (length bytes)))
fault_found bytes tokens starts h short cut e =
    let p = halt tokens h e in
    let as_many = one_start_each bytes tokens starts cut in
    is_fault bytes h.kind (unwrap_or (slice_get starts (length starts - h.remaining)) (length bytes)) (record {
      tokens = tokens;
      starts = starts;
      passed = length starts - h.remaining;
      remaining = h.remaining;
      short = short;
      cut = cut;
      halt = p;
      passed_are = omega (arith, as_many, ap length p.parts, length-append (untagged p.before) p.last, p.remaining);
      offset_is = refl;
    })

-- the same, as the code computes it
pub fault_answer : (bytes : List ℕ) (tokens tokens' : List Token) (starts starts' : List ℕ) (h : Halt) (offset : ℕ) (fault : ParseFault)
    → length bytes ≤ most_bytes → CutsInto 0 bytes tokens starts
    → tokens' ≡ tokens → starts' ≡ starts → program_of tokens' ≡ Err h
    → offset ≡ unwrap_or (slice_get starts' (length starts' - h.remaining)) (length bytes) → fault ≡ fault_of h.kind offset
    → IsFault bytes fault
fault_answer bytes tokens tokens' starts starts' h offset fault short cut same_tokens same_starts e offset_is fault_is =
    let place = offset_is ∙ ap (λ (l : List ℕ). unwrap_or (slice_get l (length l - h.remaining)) (length bytes)) same_starts in
    subst (IsFault bytes) (sym (fault_is ∙ ap (fault_of h.kind) place))
    (fault_found bytes tokens starts h short cut (ap program_of (sym same_tokens) ∙ e))

-- what is answered is the tree of a text, if there is one
pub only_answer : (bytes : List ℕ) (r : Result Tree ParseFault) → IfOk r (λ t. IsText bytes (content t)) → IfErr r (IsFault bytes)
    → (tree : List Declaration) → IsText bytes tree → MatchResult r (λ t. content t ≡ tree) (λ e. e ≡ faults.Memory)
only_answer bytes (Ok t) found fault tree text = one_tree bytes (content t) tree found text
only_answer bytes (Err e) found fault tree text = no_fault bytes tree e text fault
