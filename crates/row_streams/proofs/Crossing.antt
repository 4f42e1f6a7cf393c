-- Strips may go from one thread to another.
use denote.Ref.{NamedLft}
use denote.Param.Send.{IsSend, sendable}
use denote.Param.SendFields.{declared_send}
use Rattle.std.proofs.Crossing as owners
use Rattle.row_streams.specs.contracts.strip_streams.StripStream as StripStream
use Rattle.row_totals.specs.contracts.row_total.RowTotal as RowTotal
use Rattle.row_totals.specs.contracts.row_totals.RowTotals as RowTotals
use Rattle.tile_run.proofs.Crossing.{job_sync}

module _ (a : NamedLft) where
  row_total_send : IsSend (RowTotal.the_row a)
  row_total_send = search (job_sync, sendable, owners.crosses) depth 40

  pub row_totals_send : IsSend (RowTotals.the_row a)
  row_totals_send = search (row_total_send, job_sync, sendable, owners.crosses) depth 40

  pub strip_send : IsSend (StripStream.the_row a)
  strip_send = declared_send (StripStream.the_type a) (search (sendable, owners.crosses) depth 40, (row_totals_send, tt))
