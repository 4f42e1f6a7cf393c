-- From tagged tokens to bytes: what is left of a text's tokens keeps its limits, its spelling and its length.
use Rattle.std.proofs.Common.{◌≡◌, ℕ, ◌≤◌, Bool, true, false, List, [], ◌∷◌, length, Option, Some, None, refl, sym, ap, subst, ◌∙◌, arith}
use Rattle.std.specs.Prelude.{◌↔◌, if◌then◌else◌}
use Rattle.std.specs.List.{AllByRecursion}
use Rattle.pipe_tokens.specs.declared.token.Token.{Token}
use Rattle.pipe_tokens.specs.declared.token.Token.TheVariants as token
use Rattle.pipe_tokens.specs.Cutting.{CutsInto}
use Rattle.pipe_tokens.specs.Lexing.{tokens_of, starts_of}
use Rattle.pipe_tokens.specs.Spelling.{spelling, HasSpelling, IsReadable}
use Rattle.pipe_tokens.specs.Subsequence.{IsSubsequence}
use Rattle.pipe_tokens.specs.Subsequence as parts
use Rattle.pipe_tokens.proofs.Only.{only_tokens}
use Rattle.pipe_tokens.proofs.Cuts.{cuts_into}
use Rattle.pipe_tokens.proofs.Respelled.{spelling_comes_back}
use Rattle.pipe_tokens.proofs.Shortest.{is_shortest, are_readable}
use Rattle.pipe_tokens.proofs.Fewer.{fewer_is_shorter}
use Rattle.pipe_tree.specs.Limits.{most_levels, CountsSoFar, Tagged, untagged, plain, fits, counted, counted_next, counted_all, none_yet}
use Rattle.pipe_tree.specs.Tree.{Declaration}
use Rattle.pipe_tree.specs.Grammar.{Program}
use Rattle.pipe_tree.specs.Faults.{IsText}
use Rattle.pipe_tree.proofs.Bytes.{one_tree}
use Rattle.pipe_print.specs.Canonical.{canonical_tokens, canonical}
use Rattle.pipe_print.specs.Within.{IsTextWithin}
use Rattle.pipe_print.proofs.Printed.{Shortens, nothing, keeps, leaves_out, puts_zero, Printed}
use Rattle.pipe_print.proofs.ItemTexts.{program_printed}

-- ---- counts

none_counted : (text : List Tagged) → counted_all None text ≡ None
none_counted [] = refl
none_counted (t ∷ text) = none_counted text

not_counted : {Goal : Type 0} (counts : Option CountsSoFar) (text : List Tagged) (c : CountsSoFar) → counts ≡ None
    → counted_all counts text ≡ Some c → Goal
not_counted counts text c e h =
    let none = ap (λ (k : Option CountsSoFar). counted_all k text) e ∙ none_counted text in
    absurd cc

-- a plain token changes no counts, unless it is no token of a text
plain_counted : (counts : Option CountsSoFar) (t : Token) (text : List Tagged) (c : CountsSoFar)
    → counted_all (counted_next counts (record { token = t; role = plain })) text ≡ Some c → counted_all counts text ≡ Some c
plain_counted None t text c h = h
plain_counted (Some k) t text c h = go (fits t) refl where
  go : (b : Bool) → fits t ≡ b → counted_all (Some k) text ≡ Some c
  go true e = ap (λ (b : Bool). counted_all (if b then Some k else None) text) (sym e) ∙ h
  go false e = not_counted (if fits t then Some k else None) text c (rw e refl) h

big_counted : {Goal : Type 0} (counts : Option CountsSoFar) (t : Tagged) (text : List Tagged) (c : CountsSoFar) → t.token ≡ token.TooBig
    → counted_all (counted_next counts t) text ≡ Some c → Goal
big_counted None t text c e h = not_counted None text c refl h
big_counted (Some k) t text c e h =
    let none : counted_next (Some k) t ≡ None = ap (λ (u : Token). if fits u then counted t.role k else None) e in
    not_counted (counted_next (Some k) t) text c none h

-- the counts of a text are those of what it is shortened to
counts_kept : (few many : List Tagged) → Shortens few many → (counts : Option CountsSoFar) (c : CountsSoFar)
    → counted_all counts many ≡ Some c → counted_all counts few ≡ Some c
counts_kept _ _ nothing counts c h = h
counts_kept _ _ (keeps t few many s) counts c h = counts_kept few many s (counted_next counts t) c h
counts_kept _ _ (leaves_out t few many s) counts c h = counts_kept few many s counts c (plain_counted counts t many c h)
counts_kept _ _ (puts_zero t few many big s) counts c h = big_counted counts t many c big h

tokens_kept : (few many : List Tagged) → Shortens few many → (counts : Option CountsSoFar) (c : CountsSoFar)
    → counted_all counts many ≡ Some c → IsSubsequence (untagged few) (untagged many)
tokens_kept _ _ nothing counts c h = parts.nothing
tokens_kept _ _ (keeps t few many s) counts c h =
    parts.keeps t.token (untagged few) (untagged many) (tokens_kept few many s (counted_next counts t) c h)
tokens_kept _ _ (leaves_out t few many s) counts c h =
    parts.leaves_out t (untagged few) (untagged many) (tokens_kept few many s counts c (plain_counted counts t many c h))
tokens_kept _ _ (puts_zero t few many big s) counts c h = big_counted counts t many c big h

-- ---- spellings

-- what a text has and its limits let through has a spelling
has_spelling : (t : Token) → fits t ≡ true → IsReadable t → HasSpelling t
has_spelling (token.Keyword w) e h = h
has_spelling (token.Punct m) e h = h
has_spelling (token.Name x) e h = h
has_spelling (token.Int n) e h = h
has_spelling token.TooBig e h = absurd cc
has_spelling token.Bad e h = absurd cc
has_spelling token.NotAscii e h = absurd cc

fits_counted : (counts : Option CountsSoFar) (t : Tagged) (text : List Tagged) (c : CountsSoFar)
    → counted_all (counted_next counts t) text ≡ Some c → fits t.token ≡ true
fits_counted None t text c h = not_counted None text c refl h
fits_counted (Some k) t text c h = go (fits t.token) refl where
  go : (b : Bool) → fits t.token ≡ b → fits t.token ≡ true
  go true e = e
  go false e = not_counted (if fits t.token then counted t.role k else None) text c (rw e refl) h

all_spelled : (text : List Tagged) (counts : Option CountsSoFar) (c : CountsSoFar) → counted_all counts text ≡ Some c
    → AllByRecursion IsReadable (untagged text) → AllByRecursion HasSpelling (untagged text)
all_spelled [] counts c h r = tt
all_spelled (t ∷ text) counts c h r =
    (has_spelling t.token (fits_counted counts t text c h) r.0, all_spelled text (counted_next counts t) c h r.1)

part_spelled : (few many : List Token) → IsSubsequence few many → AllByRecursion HasSpelling many → AllByRecursion HasSpelling few
part_spelled _ _ parts.nothing h = tt
part_spelled _ _ (parts.keeps t few many s) h = (h.0, part_spelled few many s h.1)
part_spelled _ _ (parts.leaves_out t few many s) h = part_spelled few many s h.1

-- ---- texts

-- the text of a canonical text, from any text of the tree
module _ (levels : ℕ) (counts : CountsSoFar) (bytes : List ℕ) (tree : List Declaration) (h : IsTextWithin levels counts bytes tree) where
  printed : Printed (Program levels) tree (canonical_tokens tree) h.text
  printed = program_printed levels h.text tree h.program

  spelled : AllByRecursion HasSpelling (untagged h.text)
  spelled =
      all_spelled h.text (Some none_yet) counts h.few
      (subst (AllByRecursion IsReadable) (sym (only_tokens bytes h.tokens h.starts h.cut) ∙ h.tokens_are) (are_readable bytes))

  subsequence : IsSubsequence (canonical_tokens tree) (untagged h.text)
  subsequence =
      subst (λ (few : List Token). IsSubsequence few (untagged h.text)) printed.tokens
      (tokens_kept printed.tagged h.text printed.shorter (Some none_yet) counts h.few)

  tokens_again : tokens_of (canonical tree) ≡ canonical_tokens tree
  tokens_again = spelling_comes_back (canonical_tokens tree) (part_spelled (canonical_tokens tree) (untagged h.text) subsequence spelled)

  pub canonical_within : IsTextWithin levels counts (canonical tree) tree
  canonical_within = record {
    tokens = canonical_tokens tree;
    starts = starts_of (canonical tree);
    cut =
        subst (λ (tokens : List Token). CutsInto 0 (canonical tree) tokens (starts_of (canonical tree))) tokens_again
        (cuts_into (canonical tree));
    text = printed.tagged;
    tokens_are = sym printed.tokens;
    few = counts_kept printed.tagged h.text printed.shorter (Some none_yet) counts h.few;
    program = printed.rule;
  }

  pub canonical_no_longer : length (canonical tree) ≤ length bytes
  canonical_no_longer =
      let same : untagged h.text ≡ tokens_of bytes = sym h.tokens_are ∙ only_tokens bytes h.tokens h.starts h.cut in
      let front = fewer_is_shorter (canonical_tokens tree) (untagged h.text) subsequence spelled in
      let back : length (spelling (untagged h.text)) ≤ length bytes =
      subst (λ (tokens : List Token). length (spelling tokens) ≤ length bytes) (sym same) (is_shortest bytes) in
      omega (arith, front, back)

abbrev within : (bytes : List ℕ) (tree : List Declaration) (t : IsText bytes tree) → IsTextWithin most_levels t.text.counts bytes tree
within bytes tree t =
    record {
      tokens =
          t.tokens;
      starts =
          t.starts;
      cut = t.cut;
      text = t.text.text;
      tokens_are = t.text.tokens_are;
      few = t.text.few;
      program = t.text.program;
    }

pub canonical_least : (bytes : List ℕ) (tree : List Declaration) → IsText bytes tree
    → IsSubsequence (canonical_tokens tree) (tokens_of bytes)
canonical_least bytes tree t =
    let h = within bytes tree t in
    subst (λ (many : List Token). IsSubsequence (canonical_tokens tree) many) (sym h.tokens_are ∙ only_tokens bytes t.tokens t.starts t.cut)
    (subsequence most_levels t.text.counts bytes tree h)

pub text_no_longer : (bytes : List ℕ) (tree : List Declaration) → IsText bytes tree → length (canonical tree) ≤ length bytes
text_no_longer bytes tree t = canonical_no_longer most_levels t.text.counts bytes tree (within bytes tree t)

pub canonical_is_text : (bytes : List ℕ) (tree : List Declaration) → IsText bytes tree → IsText (canonical tree) tree
canonical_is_text bytes tree t =
    let c = canonical_within most_levels t.text.counts bytes tree (within bytes tree t) in
    record {
      tokens = c.tokens;
      starts = c.starts;
      cut = c.cut;
      short = omega (arith, t.short, text_no_longer bytes tree t);
      text = record { text = c.text; tokens_are = c.tokens_are; counts = t.text.counts; few = c.few; program = c.program };
    }

-- ---- of one tree

pub only_tree : (bytes : List ℕ) (tree other : List Declaration) → IsText bytes tree → IsText (canonical tree) other → other ≡ tree
only_tree bytes tree other h k = one_tree (canonical tree) other tree k (canonical_is_text bytes tree h)

pub canonical_apart : (bytes bytes' : List ℕ) (tree tree' : List Declaration) → IsText bytes tree → IsText bytes' tree'
    → (canonical tree ≡ canonical tree') ↔ (tree ≡ tree')
canonical_apart bytes bytes' tree tree' h k = (
  λ e. sym (only_tree bytes tree tree' h (subst (λ (text : List ℕ). IsText text tree') (sym e) (canonical_is_text bytes' tree' k))),
  λ e. ap canonical e,
)
