-- The first fault of an input, and its job, from what the steps make sure of.
use Rattle.std.proofs.Common.{◌≡◌, ◌≢◌, List, length, map, ℕ, inl, inr, sym, ap, ◌∙◌, subst}
use Rattle.domains.specs.Sides.{Sides}
use Rattle.netpbm.specs.Image.{Image}
use Rattle.netpbm.specs.declared.fault.PicFault.{PicFault}
use Rattle.netpbm.specs.declared.fault.PicFault.TheVariants as pictures
use Rattle.pipe_tree.specs.Faults.{IsFault as IsTextFault, IsText}
use Rattle.pipe_tree.specs.Tree.{Declaration}
use Rattle.pipe_tree.specs.Content.{content}
use Rattle.pipe_tree.specs.declared.fault.ParseFault.{ParseFault}
use Rattle.pipe_tree.specs.declared.fault.ParseFault.TheVariants as texts
use Rattle.pipe_tree.specs.declared.tree.Tree.{Tree}
use Rattle.pipe_tree.proofs.SizeLaws.{keeps_limits}
use Rattle.pipe_print.specs.Canonical.{canonical}
use Rattle.pipe_checks.specs.CheckedProgram.{CheckedProgram}
use Rattle.pipe_checks.specs.Checking.{IsCheckedOf, params_in, ranks_in, stages_in, tables_in, tree_in}
use Rattle.pipe_checks.specs.Graph.{IsRanking}
use Rattle.pipe_checks.specs.Names.{params_of, stages_of, tables_of}
use Rattle.pipe_checks.specs.Accesses.{graph_of}
use Rattle.pipe_checks.specs.declared.symbol.Symbol.{Symbol}
use Rattle.pipe_bounds.specs.Unset.{unset}
use Rattle.pipe_bounds.specs.declared.params.Setting.{Setting}
use Rattle.binding.proofs.JobsKeepLimits.{small_job}
use Rattle.binding.specs.BindFaults.{IsBindFault, IsBound, program_of}
use Rattle.binding.specs.Binding.{IsJobOf}
use Rattle.binding.specs.declared.fault.BindFault.{BindFault}
use Rattle.binding.specs.declared.fault.BindFault.TheVariants as binding
use Rattle.job.specs.Pipeline.{Pipeline}
use Rattle.job.specs.WellFormed.{IsSmall}
use Rattle.tables.specs.declared.table.Table.{Table}
use Rattle.command_faults.specs.declared.faults.StreamFault.{StreamFault}
use Rattle.command_faults.specs.declared.faults.StreamFault.TheVariants as faults
use Rattle.command_inputs.specs.Faults.{IsFaultAround, IsFaultOf, IsJobFault, IsSpellingFault}
use Rattle.command_inputs.specs.Faults.{IsFaultBehind, blamed}
use Rattle.command_inputs.specs.Giving.{Given, AreGiven, unset_of}
use Rattle.command_inputs.specs.Input.{IsInput, IsInputInThree, IsJobAt, IsSpelled, MeansSomething, program_at}
use Rattle.command_inputs.specs.Sections.{IsParted, IsPartedInThree}
use Rattle.command_inputs.specs.inside.Steps.{IsLastRefusal, IsTablesRefusal, TellsBind}
use Rattle.command_faults.specs.StepFaults.{fault_at_parse, fault_at_picture}
use Rattle.command_inputs.proofs.Accepting.{means_something}
use Rattle.command_inputs.proofs.Handing.{params_named}

-- ---- faults of the steps

pub program_fault : (text last : List ℕ) (f : ParseFault) → IsTextFault text f → IsSpellingFault text last (fault_at_parse f)
program_fault text last texts.Memory is = tt
program_fault text last (texts.NotAscii n) is = (is, λ e. cc)
program_fault text last (texts.BadToken n) is = (is, λ e. cc)
program_fault text last (texts.Unexpected n) is = (is, λ e. cc)
program_fault text last (texts.NumberTooBig n) is = (is, λ e. cc)
program_fault text last (texts.TooDeep n) is = (is, λ e. cc)
program_fault text last (texts.TooLong n) is = (is, λ e. cc)
program_fault text last (texts.TooMany n) is = (is, λ e. cc)

pub tables_fault : (text last : List ℕ) (tree : List Declaration) (f : StreamFault) → IsText text tree
    → IsTablesRefusal last (length (tables_of tree)) f → IsSpellingFault text last f
tables_fault text last tree f program (inl e) = subst (IsSpellingFault text last) (sym e.0) tt
tables_fault text last tree f program (inr (line, e, is)) = subst (IsSpellingFault text last) (sym e) (tree, program, is)

pub picture_fault : (text last : List ℕ) (tree : List Declaration) (f : PicFault) → IsText text tree
    → IsFaultBehind last tree f → IsSpellingFault text last (fault_at_picture f)
picture_fault text last tree pictures.Memory program is = tt
picture_fault text last tree (pictures.OtherFormat n) program is = (tree, program, is, λ e. cc)
picture_fault text last tree (pictures.HeaderCut n) program is = (tree, program, is, λ e. cc)
picture_fault text last tree (pictures.BadNumber n) program is = (tree, program, is, λ e. cc)
picture_fault text last tree (pictures.BadSize n) program is = (tree, program, is, λ e. cc)
picture_fault text last tree (pictures.BadMax n) program is = (tree, program, is, λ e. cc)
picture_fault text last tree (pictures.CommentBehindDigit n) program is = (tree, program, is, λ e. cc)
picture_fault text last tree (pictures.RasterCut n) program is = (tree, program, is, λ e. cc)
picture_fault text last tree (pictures.SampleTooBig n) program is = (tree, program, is, λ e. cc)
picture_fault text last tree (pictures.TrailingBytes n) program is = (tree, program, is, λ e. cc)

-- those of the last section
pub last_fault : (text last : List ℕ) (tree : List Declaration) (f : StreamFault) → IsText text tree
    → IsLastRefusal last (length (tables_of tree)) f → IsSpellingFault text last f
last_fault text last tree f program (inl is) = tables_fault text last tree f program is
last_fault text last tree f program (inr is) =
    subst (IsSpellingFault text last) (sym is.told)
    (picture_fault text last tree is.picture program
    (record { tables = is.tables; each = is.each; spelling = is.spelling; lines = is.lines; bad = is.bad }))

bind_fault : (tree : List Declaration) (tables : List Table) (source : Image) (given : List Given) (sides : Sides) (chosen : List Setting)
    (ranks : List ℕ) (fault : BindFault) (f : StreamFault)
    → MeansSomething tree → AreGiven (unset_of tree) given chosen → IsRanking (graph_of tree) ranks
    → IsBindFault tree (program_at tree ranks chosen tables) source sides fault
    → TellsBind (params_of tree) (tables_of tree) (stages_of tree) fault f → IsJobFault tree tables source given sides f
bind_fault tree tables source given sides chosen ranks fault (faults.Bind line) means are_given ranking is told =
    let same = sym told.0 in (
      means,
      record {
        chosen = chosen;
        are_given = are_given;
        ranks = ranks;
        ranking = ranking;
        fault = subst (IsBindFault tree (program_at tree ranks chosen tables) source sides) same is;
        no_memory = subst (λ x. x ≢ binding.Memory) same told.1;
        blames = told.2 ∙ ap (blamed (params_of tree) (tables_of tree) (stages_of tree)) same;
      },
    )
bind_fault tree tables source given sides chosen ranks fault faults.Memory means are_given ranking is told = tt
bind_fault tree tables source given sides chosen ranks fault faults.Read means are_given ranking is told = absurd told
bind_fault tree tables source given sides chosen ranks fault faults.TooLong means are_given ranking is told = absurd told
bind_fault tree tables source given sides chosen ranks fault faults.NoSeparator means are_given ranking is told = absurd told
bind_fault tree tables source given sides chosen ranks fault (faults.Program x) means are_given ranking is told = absurd told
bind_fault tree tables source given sides chosen ranks fault (faults.Tables x) means are_given ranking is told = absurd told
bind_fault tree tables source given sides chosen ranks fault (faults.Picture x) means are_given ranking is told = absurd told
bind_fault tree tables source given sides chosen ranks fault (faults.Check x) means are_given ranking is told = absurd told
bind_fault tree tables source given sides chosen ranks fault (faults.Param x) means are_given ranking is told = absurd told
bind_fault tree tables source given sides chosen ranks fault (faults.Facts x) means are_given ranking is told = absurd told
bind_fault tree tables source given sides chosen ranks fault (faults.Script x) means are_given ranking is told = absurd told
bind_fault tree tables source given sides chosen ranks fault (faults.Farm x) means are_given ranking is told = absurd told
bind_fault tree tables source given sides chosen ranks fault faults.Write means are_given ranking is told = absurd told

-- ---- faults of an input of two sections

pub spelling_fault : (input text last : List ℕ) (given : List Given) (sides : Sides) (f : StreamFault) → IsParted input text last
    → IsSpellingFault text last f → IsFaultOf input given sides f
spelling_fault input text last given sides (faults.Program x) parted is = (text, last, parted, is)
spelling_fault input text last given sides (faults.Tables x) parted is = (text, last, parted, is)
spelling_fault input text last given sides (faults.Picture x) parted is = (text, last, parted, is)
spelling_fault input text last given sides faults.Memory parted is = tt
spelling_fault input text last given sides faults.Read parted is = is
spelling_fault input text last given sides faults.TooLong parted is = is
spelling_fault input text last given sides faults.NoSeparator parted is = absurd is
spelling_fault input text last given sides (faults.Check x) parted is = absurd is
spelling_fault input text last given sides (faults.Param x) parted is = absurd is
spelling_fault input text last given sides (faults.Bind x) parted is = absurd is
spelling_fault input text last given sides (faults.Facts x) parted is = is
spelling_fault input text last given sides (faults.Script x) parted is = is
spelling_fault input text last given sides (faults.Farm x) parted is = is
spelling_fault input text last given sides faults.Write parted is = is

pub job_fault : (input : List ℕ) (given : List Given) (sides : Sides) (tree : List Declaration) (tables : List Table) (source : Image)
    (f : StreamFault) → IsInput input tree tables source → IsJobFault tree tables source given sides f → IsFaultOf input given sides f
job_fault input given sides tree tables source (faults.Check x) read is = (tree, tables, source, read, is)
job_fault input given sides tree tables source (faults.Param x) read is = (tree, tables, source, read, is)
job_fault input given sides tree tables source (faults.Bind x) read is = (tree, tables, source, read, is)
job_fault input given sides tree tables source faults.Memory read is = tt
job_fault input given sides tree tables source faults.Read read is = is
job_fault input given sides tree tables source faults.TooLong read is = is
job_fault input given sides tree tables source faults.NoSeparator read is = absurd is
job_fault input given sides tree tables source (faults.Program x) read is = absurd is
job_fault input given sides tree tables source (faults.Tables x) read is = absurd is
job_fault input given sides tree tables source (faults.Picture x) read is = absurd is
job_fault input given sides tree tables source (faults.Facts x) read is = is
job_fault input given sides tree tables source (faults.Script x) read is = is
job_fault input given sides tree tables source (faults.Farm x) read is = is
job_fault input given sides tree tables source faults.Write read is = is

-- ---- faults of an input of three sections

pub spelling_fault_around : (input text middle last : List ℕ) (given : List Given) (sides : Sides) (f : StreamFault)
    → IsPartedInThree input text middle last → IsSpellingFault text last f → IsFaultAround input given sides f
spelling_fault_around input text middle last given sides (faults.Program x) parted is = (text, middle, last, parted, is)
spelling_fault_around input text middle last given sides (faults.Tables x) parted is = (text, middle, last, parted, is)
spelling_fault_around input text middle last given sides (faults.Picture x) parted is = (text, middle, last, parted, is)
spelling_fault_around input text middle last given sides faults.Memory parted is = tt
spelling_fault_around input text middle last given sides faults.Read parted is = is
spelling_fault_around input text middle last given sides faults.TooLong parted is = is
spelling_fault_around input text middle last given sides faults.NoSeparator parted is = absurd is
spelling_fault_around input text middle last given sides (faults.Check x) parted is = absurd is
spelling_fault_around input text middle last given sides (faults.Param x) parted is = absurd is
spelling_fault_around input text middle last given sides (faults.Bind x) parted is = absurd is
spelling_fault_around input text middle last given sides (faults.Facts x) parted is = is
spelling_fault_around input text middle last given sides (faults.Script x) parted is = is
spelling_fault_around input text middle last given sides (faults.Farm x) parted is = is
spelling_fault_around input text middle last given sides faults.Write parted is = is

pub job_fault_around : (input middle : List ℕ) (given : List Given) (sides : Sides) (tree : List Declaration) (tables : List Table)
    (source : Image) (f : StreamFault)
    → IsInputInThree input tree middle tables source → IsJobFault tree tables source given sides f → IsFaultAround input given sides f
job_fault_around input middle given sides tree tables source (faults.Check x) read is = (tree, middle, tables, source, read, is)
job_fault_around input middle given sides tree tables source (faults.Param x) read is = (tree, middle, tables, source, read, is)
job_fault_around input middle given sides tree tables source (faults.Bind x) read is = (tree, middle, tables, source, read, is)
job_fault_around input middle given sides tree tables source faults.Memory read is = tt
job_fault_around input middle given sides tree tables source faults.Read read is = is
job_fault_around input middle given sides tree tables source faults.TooLong read is = is
job_fault_around input middle given sides tree tables source faults.NoSeparator read is = absurd is
job_fault_around input middle given sides tree tables source (faults.Program x) read is = absurd is
job_fault_around input middle given sides tree tables source (faults.Tables x) read is = absurd is
job_fault_around input middle given sides tree tables source (faults.Picture x) read is = absurd is
job_fault_around input middle given sides tree tables source (faults.Facts x) read is = is
job_fault_around input middle given sides tree tables source (faults.Script x) read is = is
job_fault_around input middle given sides tree tables source (faults.Farm x) read is = is
job_fault_around input middle given sides tree tables source faults.Write read is = is

-- ---- the job, from what the steps before it make sure of

-- what is said by what `check` keeps is said by the tree
pub job_made : (given : List Given) (sides : Sides) (tree : Tree) (tables : List Table) (source : Image) (checked : CheckedProgram)
    (chosen : List Setting) (job : Pipeline)
    → IsCheckedOf tree checked → AreGiven (map unset (params_in checked)) given chosen
    → IsBound (content (tree_in checked)) (program_of checked chosen tables) source sides job
    → (map (λ (s : Setting). s.name) chosen ≡ map (λ (d : Symbol). d.name) (params_in checked)
    → IsJobOf (content (tree_in checked)) chosen tables source sides job)
    → IsJobAt (content tree) tables source given sides job
job_made given sides tree tables source checked chosen job ok are_given bound says =
    record {
      means = means_something tree checked ok;
      chosen = chosen;
      are_given = subst (λ ps. AreGiven (map unset ps) given chosen) ok.params are_given;
      ranks = ranks_in checked;
      ranking = ok.ranks;
      bound =
          subst
          (λ stages. IsBound (content tree) (record { stages = stages; ranks = ranks_in checked; settings = chosen; tables = tables })
          source sides job)
          ok.stages
          (subst (λ (t : Tree). IsBound (content t) (program_of checked chosen tables) source sides job) ok.same bound);
      says =
          subst (λ (t : Tree). IsJobOf (content t) chosen tables source sides job) ok.same
          (says (params_named (params_in checked) given chosen are_given));
    }

-- the stages of a job of a text are few, as those of the text are
pub job_small : (text last : List ℕ) (given : List Given) (sides : Sides) (tree : List Declaration) (tables : List Table) (source : Image)
    (job : Pipeline) → IsSpelled text last tree tables source → IsJobAt tree tables source given sides job → IsSmall job
job_small text last given sides tree tables source job read made =
    small_job tree made.chosen tables source sides job (keeps_limits text tree read.program) made.says

-- the text of what `check` keeps is that of the tree
pub job_text : (tree : Tree) (checked : CheckedProgram) (text : List ℕ) → IsCheckedOf tree checked
    → text ≡ canonical (content (tree_in checked)) → text ≡ canonical (content tree)
job_text tree checked text ok is = is ∙ ap (λ (t : Tree). canonical (content t)) ok.same

pub late_fault : (given : List Given) (sides : Sides) (tree : Tree) (tables : List Table) (source : Image) (checked : CheckedProgram)
    (chosen : List Setting) (f : StreamFault)
    → IsCheckedOf tree checked → AreGiven (map unset (params_in checked)) given chosen
    → (fault : BindFault) × IsBindFault (content (tree_in checked)) (program_of checked chosen tables) source sides fault
    × TellsBind (params_in checked) (tables_in checked) (stages_in checked) fault f
    → IsJobFault (content tree) tables source given sides f
late_fault given sides tree tables source checked chosen f ok are_given (fault, is, told) =
    bind_fault (content tree) tables source given sides chosen (ranks_in checked) fault f (means_something tree checked ok)
    (subst (λ ps. AreGiven (map unset ps) given chosen) ok.params are_given)
    ok.ranks
    (subst
    (λ stages. IsBindFault (content tree) (record { stages = stages; ranks = ranks_in checked; settings = chosen; tables = tables })
    source sides fault)
    ok.stages
    (subst (λ (t : Tree). IsBindFault (content t) (program_of checked chosen tables) source sides fault) ok.same is))
    (subst (λ ps. TellsBind ps (tables_of (content tree)) (stages_of (content tree)) fault f) ok.params
    (subst (λ declared. TellsBind (params_in checked) declared (stages_of (content tree)) fault f) ok.tables
    (subst (λ stages. TellsBind (params_in checked) (tables_in checked) stages fault f) ok.stages told)))
