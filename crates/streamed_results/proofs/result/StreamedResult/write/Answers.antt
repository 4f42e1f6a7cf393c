use Rattle.std.proofs.Common.{◌++◌}
use Rattle.command_faults.proofs.Taken.{all_then, part_front, part_then, takes_err, takes_of, takes_then}
use Rattle.streamed_results.specs.StreamedBytes.{rows_bytes}
use Rattle.streamed_results.proofs.result.StreamedResult.write.Goals as goal

pub returns : goal.returns
returns g c =
    let header = c.args.self.header.items in
    let rows = rows_bytes c.args.self.rows in
    let first = rw c.deref.ensures.value at c.in_ok-write_all_bytes.ensures.ok in
    let both =
    all_then header rows _ _ _ _ _ _ (record { taken = first; failures = c.in_ok-write_all_bytes.ensures.failed }) c.in_ok-write.ensures in
    let last = c.write_all_bytes-2.ensures in
    takes_then c.write_all_bytes-2.result (header ++ rows) c.args.self.lines.items _ _ _ _ _ _ both
    (takes_of c.write_all_bytes-2.result _ _ _ _ _ (rw c.deref-2.ensures.value at last.ok) (rw c.deref-2.ensures.value at last.part) last.failed)

pub returns-in_err-write_all_bytes : goal.returns-in_err-write_all_bytes
returns-in_err-write_all_bytes g c =
    let header = c.args.self.header.items in
    let rows = rows_bytes c.args.self.rows in
    let failed = c.in_err-write_all_bytes.ensures in
    let part = rw c.deref.ensures.value at failed.part in
    takes_err c.from_residual.result _ _ _ _ _ c.from_residual.ensures.0
    (part_front (header ++ rows) c.args.self.lines.items _ _ _ _
    (part_front header rows _ _ _ _ (record { taken = part; failures = failed.failed })))

pub returns-in_err-write : goal.returns-in_err-write
returns-in_err-write g c =
    let header = c.args.self.header.items in
    let rows = rows_bytes c.args.self.rows in
    let first = rw c.deref.ensures.value at c.in_ok-write_all_bytes.ensures.ok in
    takes_err c.from_residual-in_err-write.result _ _ _ _ _ c.from_residual-in_err-write.ensures.0
    (part_front (header ++ rows) c.args.self.lines.items _ _ _ _
    (part_then header rows _ _ _ _ _ _ (record { taken = first; failures = c.in_ok-write_all_bytes.ensures.failed }) c.in_err-write.ensures))
