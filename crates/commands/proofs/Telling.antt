-- What the words name, and which fault is told.
use Rattle.std.proofs.Common.{◌≡◌, ◌⊎◌, inl, inr, ℕ, List, [], Option, Err, arith, refl, subst, sym, take, ◌∙◌}
use Rattle.std.specs.Io.KnownBytes.{Appends}
use Rattle.std.proofs.KnownBytes.{Appends-trans}
use Rattle.std.proofs.lemmas.List.{append-nil}
use Rattle.std.specs.declared.alloc.Global.{Global}
use Rattle.std.specs.declared.string.String.{String}
use Rattle.command_line.specs.Asking.{IsRequestOf}
use Rattle.command_line.specs.declared.words.CommandRequest.{CommandRequest}
use Rattle.command_line.specs.declared.words.CommandRequest.TheVariants.{Merge, Job}
use Rattle.command_faults.specs.FaultLines.{line_of}
use Rattle.command_outcomes.specs.Outcomes.{CountsRead, CountsWritten, IsFirstFault, Refusing, Saying, Writes}
use Rattle.command_faults.specs.Statuses.{status_of}
use Rattle.command_faults.specs.Taking.{Puts}
use Rattle.command_faults.specs.declared.faults.StreamFault.{StreamFault}
use Rattle.command_faults.specs.declared.faults.StreamFault.TheVariants as faults
use Rattle.streams.specs.Streams.{AppendsPart, one_more}
use Rattle.commands.specs.Endings.{HasFarmFailed, HasSaidPart, HasTold, NamesCommand}
use Rattle.commands.specs.Sayings.{refusing_by, saying_by}
use Rattle.fact_commands.specs.declared.finding.AuditFinding.{AuditFinding}

-- words that ask for something name a command
pub names_command : (words : List (String Global)) (request : CommandRequest) → IsRequestOf words request → NamesCommand words
names_command words Merge asked = inl asked
names_command words (Job request) asked =
    inr (record { task = request.task; named = asked.task; no_separator = asked.no_separator })

-- a fault of neither stream was told first, and nothing was written before
told_first : {Answer : Type 0} (Says : Saying Answer) (Refuses : Refusing) (known : Option (List ℕ)) (f : StreamFault)
    (old new : Option (List ℕ)) → (status_of f ≡ 4 → ⊥) → Writes {Answer = Answer} Says Refuses known (Err f) old new
    → (new ≡ old) × IsFirstFault Refuses known f
told_first Says Refuses known faults.Read old new other wrote = absurd (other refl)
told_first Says Refuses known faults.Write old new other wrote = absurd (other refl)
told_first Says Refuses known faults.TooLong old new other wrote = wrote
told_first Says Refuses known faults.NoSeparator old new other wrote = wrote
told_first Says Refuses known (faults.Program x) old new other wrote = wrote
told_first Says Refuses known (faults.Tables x) old new other wrote = wrote
told_first Says Refuses known (faults.Picture x) old new other wrote = wrote
told_first Says Refuses known (faults.Check x) old new other wrote = wrote
told_first Says Refuses known (faults.Param x) old new other wrote = wrote
told_first Says Refuses known (faults.Bind x) old new other wrote = wrote
told_first Says Refuses known (faults.Facts x) old new other wrote = wrote
told_first Says Refuses known (faults.Script x) old new other wrote = wrote
told_first Says Refuses known (faults.Farm x) old new other wrote = absurd (other refl)
told_first Says Refuses known faults.Memory old new other wrote = wrote

-- and the writer had not failed
none_failed : (f : StreamFault) (before after : ℕ) → (status_of f ≡ 4 → ⊥) → CountsWritten {X = AuditFinding} (Err f) before after → after ≡ before
none_failed faults.Read before after other counts = counts
none_failed faults.Write before after other counts = absurd (other refl)
none_failed faults.TooLong before after other counts = counts
none_failed faults.NoSeparator before after other counts = counts
none_failed (faults.Program x) before after other counts = counts
none_failed (faults.Tables x) before after other counts = counts
none_failed (faults.Picture x) before after other counts = counts
none_failed (faults.Check x) before after other counts = counts
none_failed (faults.Param x) before after other counts = counts
none_failed (faults.Bind x) before after other counts = counts
none_failed (faults.Facts x) before after other counts = counts
none_failed (faults.Script x) before after other counts = counts
none_failed (faults.Farm x) before after other counts = counts
none_failed faults.Memory before after other counts = counts

-- so its line alone was written
pub told_at : (status : ℕ) (request : CommandRequest) (known : Option (List ℕ)) (f : StreamFault) (old mid new : Option (List ℕ))
    (before between after : ℕ) → status_of f ≡ status → (status ≡ 4 → ⊥)
    → Writes {Answer = AuditFinding} (saying_by request) (refusing_by request) known (Err f) old mid
    → CountsWritten {X = AuditFinding} (Err f) before between
    → Puts (line_of f) mid new between after → HasTold status request known old new before after
told_at status request known f old mid new before between after ends four wrote counts line =
    let other : status_of f ≡ 4 → ⊥ = λ e. four (sym ends ∙ e) in
    let first = told_first (saying_by request) (refusing_by request) known f old mid other wrote in
    record {
      fault = f;
      told = ends;
      first = first.1;
      line =
          subst (λ (m : Option (List ℕ)). Puts (line_of f) m new before after) first.0
          (subst (λ (n : ℕ). Puts (line_of f) mid new n after) (none_failed f before between other counts) line);
    }

-- ---- status 4

-- a part that was written, and nothing behind it
nothing_behind : (a b c : Option (List ℕ)) (bytes : List ℕ) → AppendsPart a b bytes → Appends b c [] → AppendsPart a c bytes
nothing_behind a b c bytes (n, less, part) none =
    (n, less, subst (λ (bs : List ℕ). Appends a c bs) (append-nil (take n bytes)) (Appends-trans a b c (take n bytes) [] part none))

-- what is told where the reader, the writer or the farm failed
abbrev FailedAt : CommandRequest → Option (List ℕ) → Option (List ℕ) → Option (List ℕ) → ℕ → ℕ → ℕ → ℕ → Type 0
FailedAt request known old new r ra w wa =
    ((ra ≡ one_more r) × Puts (line_of faults.Read) old new w wa)
    ⊎ ((wa ≡ one_more w) × HasSaidPart request known old new)
    ⊎ ((ra ≡ r) × HasFarmFailed request known old new w wa)

line_alone : (line : List ℕ) (old mid new : Option (List ℕ)) (w wm wa : ℕ) → mid ≡ old → wm ≡ w → Puts line mid new wm wa
    → Puts line old new w wa
line_alone line old mid new w wm wa kept counted told =
    subst (λ (m : Option (List ℕ)). Puts line m new w wa) kept (subst (λ (n : ℕ). Puts line mid new n wa) counted told)

pub failed_at : (request : CommandRequest) (known : Option (List ℕ)) (f : StreamFault) (old mid new : Option (List ℕ)) (r ra w wm wa : ℕ)
    → status_of f ≡ 4 → Writes {Answer = AuditFinding} (saying_by request) (refusing_by request) known (Err f) old mid
    → CountsRead {X = AuditFinding} (Err f) r ra → CountsWritten {X = AuditFinding} (Err f) w wm → Puts (line_of f) mid new wm wa
    → FailedAt request known old new r ra w wa
failed_at request known faults.Read old mid new r ra w wm wa four wrote read counts line =
    inl (read, line_alone (line_of faults.Read) old mid new w wm wa wrote.0 counts line)
failed_at request known faults.Write old mid new r ra w wm wa four wrote read counts (inl all) =
    inr (inl (
      all.failures ∙ counts,
      record {
        answer = wrote.answer;
        bytes = wrote.bytes;
        said = wrote.said;
        taken = nothing_behind old mid new wrote.bytes wrote.taken all.taken;
      },
    ))
failed_at request known faults.Write old mid new r ra w wm wa four wrote read counts (inr part) =
    let less = part.taken.1 in absurd (omega arith)
failed_at request known (faults.Farm x) old mid new r ra w wm wa four wrote read counts line =
    inr (inr (
      read,
      record {
        fault = x;
        first = wrote.1;
        line = line_alone (line_of (faults.Farm x)) old mid new w wm wa wrote.0 counts line;
      },
    ))
failed_at request known faults.TooLong old mid new r ra w wm wa four wrote read counts line = absurd (omega (arith, four))
failed_at request known faults.NoSeparator old mid new r ra w wm wa four wrote read counts line = absurd (omega (arith, four))
failed_at request known (faults.Program x) old mid new r ra w wm wa four wrote read counts line = absurd (omega (arith, four))
failed_at request known (faults.Tables x) old mid new r ra w wm wa four wrote read counts line = absurd (omega (arith, four))
failed_at request known (faults.Picture x) old mid new r ra w wm wa four wrote read counts line = absurd (omega (arith, four))
failed_at request known (faults.Check x) old mid new r ra w wm wa four wrote read counts line = absurd (omega (arith, four))
failed_at request known (faults.Param x) old mid new r ra w wm wa four wrote read counts line = absurd (omega (arith, four))
failed_at request known (faults.Bind x) old mid new r ra w wm wa four wrote read counts line = absurd (omega (arith, four))
failed_at request known (faults.Facts x) old mid new r ra w wm wa four wrote read counts line = absurd (omega (arith, four))
failed_at request known (faults.Script x) old mid new r ra w wm wa four wrote read counts line = absurd (omega (arith, four))
failed_at request known faults.Memory old mid new r ra w wm wa four wrote read counts line = absurd (omega (arith, four))
