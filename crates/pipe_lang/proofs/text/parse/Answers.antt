-- What the reading of the tokens answers is said of the bytes. A text has one tree and no fault.
use Rattle.std.proofs.Common.{◌≤◌, ◌∙◌, length, ap, sym, subst, arith}
use Rattle.pipe_tree.specs.Limits.{most_bytes}
use Rattle.pipe_tree.specs.Faults.{IsText}
use Rattle.pipe_tree.specs.Tree.{declarations}
use Rattle.pipe_tree.specs.Content.{content}
use Rattle.pipe_tree.specs.Reading.{program_of}
use Rattle.pipe_tree.proofs.SizeLaws.{keeps_limits}
use Rattle.pipe_tree.proofs.Bytes.{text_found, fault_answer, one_tree, no_fault}
use Rattle.pipe_lang.proofs.text.parse.Goals as goal

pub new-requires : goal.new-requires
new-requires c =
    let short : length c.args.text.now ≤ most_bytes = omega arith in
    keeps_limits c.args.text.now (declarations c.in-Ok.items.items)
    (text_found c.args.text.now c.in_ok-lexed.lexed.tokens.items c.in_ok-lexed.lexed.starts.items (declarations c.in-Ok.items.items) short
    c.in_ok-lexed.ensures.longest
    (ap program_of (sym c.deref.ensures.value) ∙ c.in-Ok.ensures))

pub returns-in-Ok-clause-found : goal.returns-in-Ok-clause-found
returns-in-Ok-clause-found c =
    let short : length c.args.text.now ≤ most_bytes = omega arith in
    subst (IsText c.args.text.now) (ap declarations (sym c.new.ensures))
    (text_found c.args.text.now c.in_ok-lexed.lexed.tokens.items c.in_ok-lexed.lexed.starts.items (declarations c.in-Ok.items.items) short
    c.in_ok-lexed.ensures.longest
    (ap program_of (sym c.deref.ensures.value) ∙ c.in-Ok.ensures))

pub returns-in-Ok-clause-only : goal.returns-in-Ok-clause-only
returns-in-Ok-clause-only c = λ tree text. one_tree c.args.text.now (content c.new.result) tree (returns-in-Ok-clause-found c) text

pub returns-clause-fault : goal.returns-clause-fault
returns-clause-fault c =
    let short : length c.args.text.now ≤ most_bytes = omega arith in
    fault_answer c.args.text.now c.in_ok-lexed.lexed.tokens.items c.deref.result.now c.in_ok-lexed.lexed.starts.items
    c.deref-in-Err-Fault.result.now c.in-Err-Fault.halt c.find_fault_offset-offset.result c.attach_fault_offset.result
    short c.in_ok-lexed.ensures.longest c.deref.ensures.value c.deref-in-Err-Fault.ensures.value
    (rw c.in-Err-Fault.field-0-is at c.in-Err-Fault.ensures) c.find_fault_offset-offset.ensures c.attach_fault_offset.ensures

pub returns-clause-only : goal.returns-clause-only
returns-clause-only c = λ tree text. no_fault c.args.text.now tree c.attach_fault_offset.result text (returns-clause-fault c)
