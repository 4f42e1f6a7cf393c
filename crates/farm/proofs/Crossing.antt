-- Jobs may be shared by threads, and workers may go from one to another.
use denote.Builtin.{One}
use denote.Ref.{NamedLft}
use denote.RattleType.{RattleType}
use denote.Hole.{as_row}
use denote.Hole.FixLaws.{layer_row}
use denote.Hole.FixSend.{Syncs, fix_sync}
use denote.Struct.Field.{Field, u8-field, i32-field, u32-field, usize-field, row_field, shr_ref_field, shr_slice_field}
use denote.Param.Send.{IsSend, IsSync, sendable, shr_send, shr_sync, shr_slice_sync}
use denote.Param.SendFields.{as_row_send, as_row_sync, declared_send, declared_sync, variants_sync}
use Rattle.std.proofs.Crossing as owners
use Rattle.std.specs.contracts.alloc.Global as Global
use Rattle.std.specs.contracts.boxed.Box as Box
use Rattle.std.specs.contracts.impls.GlobalAllocator.TheImpl.{ghosts}
use Rattle.domains.specs.contracts.index.Index as Index
use Rattle.operators.specs.contracts.operator.BinaryOp as BinaryOp
use Rattle.operators.specs.contracts.operator.LiteralOp as LiteralOp
use Rattle.operators.specs.contracts.operator.Relation as Relation
use Rattle.operators.specs.contracts.operator.TernaryOp as TernaryOp
use Rattle.operators.specs.contracts.operator.UnaryOp as UnaryOp
use Rattle.operators.specs.contracts.point_test.Axis as Axis
use Rattle.tables.specs.contracts.entries.TableEntries as Entries
use Rattle.tables.specs.contracts.table.Table as Table
use Rattle.catalog.specs.contracts.catalog.Catalog as Catalog
use Rattle.farm.proofs.hand.WorkerSeat.TheSendSync as WorkerSeat
use Rattle.leases.proofs.live.LiveDesk.TheSendSync as Desk
use Rattle.leases.specs.contracts.live.LiveDesk as LiveDesk
use Rattle.leases.proofs.log.SeenLeases.TheSendSync as Seen
use Rattle.leases.specs.declared.log.NamedDesk.{Ghosts as DeskGhosts}
use Rattle.posts.proofs.line.MailboxPort.TheSendSync as MailboxPort'
use Rattle.posts.specs.contracts.line.MailboxPort as MailboxPort
use Rattle.std.specs.contracts.marker.PhantomData as PhantomData
use Rattle.farm_setup.specs.contracts.setup.FarmSetup as FarmSetup
use Rattle.farm.specs.contracts.worker.FarmWorker as FarmWorker
use Rattle.farm_work.specs.contracts.work.FarmWork as Work
use Rattle.grouping.specs.contracts.schedule.Schedule as Schedule
use Rattle.identity.specs.contracts.key.Key as Key
use Rattle.catalog.specs.declared.named_catalog.NamedCatalog.{Ghosts}
use Rattle.job.specs.contracts.bound_pipeline.BoundPipeline as BoundPipeline
use Rattle.job.specs.contracts.formula.Formula as Formula
use Rattle.job.specs.contracts.job.Job as Job
use Rattle.job.specs.contracts.reads.Read as Read
use Rattle.job.specs.contracts.stage.Accumulator as Accumulator
use Rattle.job.specs.contracts.stage.Body as Body
use Rattle.job.specs.contracts.stage.Function as Function
use Rattle.job.specs.contracts.stage.JobCase as JobCase
use Rattle.job.specs.contracts.stage.Stage as Stage
use Rattle.netpbm.specs.contracts.picture.Picture as Picture
use Rattle.job.specs.contracts.formula.Formula.TheKnot as Knot
use Rattle.job.specs.declared.formula.Formula.TheBlock as Block
use Rattle.sequences.specs.contracts.sequence.Sequence as Sequence

axis_sync : IsSync Axis.the_row
axis_sync = search (sendable, owners.crosses) depth 40

index_sync : IsSync Index.the_row
index_sync = search (sendable, owners.crosses) depth 40

kernel_sync : IsSync (Sequence.the_row (Sequence.the_row denote.Builtin.i32))
kernel_sync = search (sendable, owners.crosses) depth 40

entries_sync : IsSync Entries.the_row
entries_sync = search (sendable, owners.crosses) depth 40

table_sync : IsSync Table.the_row
table_sync = search (sendable, owners.crosses) depth 40

i32_sync : IsSync i32-field.row
i32_sync = search (sendable) depth 20

u32_sync : IsSync u32-field.row
u32_sync = search (sendable) depth 20

usize_sync : IsSync usize-field.row
usize_sync = search (sendable) depth 20

unary_sync : IsSync UnaryOp.the_row
unary_sync = search (sendable, owners.crosses) depth 40

binary_sync : IsSync BinaryOp.the_row
binary_sync = search (sendable, owners.crosses) depth 40

ternary_sync : IsSync TernaryOp.the_row
ternary_sync = search (sendable, owners.crosses) depth 40

literal_sync : IsSync LiteralOp.the_row
literal_sync = search (sendable, owners.crosses) depth 40

relation_sync : IsSync Relation.the_row
relation_sync = search (sendable, owners.crosses) depth 40

held : (F : Field) → IsSync F.row → IsSync (as_row (row_field (as_row F)))
held F y = as_row_sync (row_field (as_row F)) (as_row_sync F y)

declared : (F : Field) → IsSync (as_row F) → IsSync (as_row (row_field (as_row F)))
declared F y = as_row_sync (row_field (as_row F)) y

boxed : (R : RattleType) → IsSync R → IsSync (as_row (row_field (Box.the_row R Global.the_row ghosts)))
boxed R y = as_row_sync (row_field (Box.the_row R Global.the_row ghosts)) (owners.Box-sync R y)

layer_sync : (h : Knot.the_members → RattleType) → ((j : Knot.the_members) → IsSync (h j)) → IsSync (layer_row Knot.ring Knot.member-Formula h)
layer_sync h all =
    let b = h Knot.member-Formula in let x = boxed b (all Knot.member-Formula) in
    record { shared = (variants_sync (Knot.type-Formula b b b b b b b b b b b b) ((held i32-field i32_sync, tt), ((declared Axis.the_field axis_sync, tt), ((held usize-field usize_sync, (declared Index.the_field index_sync, (declared Index.the_field index_sync, tt))), ((declared UnaryOp.the_field unary_sync, (x, tt)), ((declared BinaryOp.the_field binary_sync, (x, (x, tt))), ((declared TernaryOp.the_field ternary_sync, (x, (x, (x, tt)))), ((declared LiteralOp.the_field literal_sync, (x, (held u32-field u32_sync, tt))), ((declared Entries.the_field entries_sync, (x, tt)), ((x, (declared Relation.the_field relation_sync, (x, (x, (x, tt))))), ((held usize-field usize_sync, (held u32-field u32_sync, (held (Sequence.the_field (Sequence.the_row denote.Builtin.i32)) kernel_sync, tt))), tt))))))))))).shared }

step : (i : Knot.the_members) → Syncs Knot.ring i
step Block.member-Formula = record { sync = layer_sync }

pub hole_sync : IsSync Knot.hole-Formula
hole_sync = fix_sync Knot.ring step Knot.member-Formula

pub formula_sync : IsSync Formula.the_row
formula_sync =
    let x = owners.Box-sync Knot.hole-Formula hole_sync in
    variants_sync Formula.enum ((as_row_sync i32-field i32_sync, tt), ((axis_sync, tt), ((as_row_sync usize-field usize_sync, (index_sync, (index_sync, tt))), ((unary_sync, (x, tt)), ((binary_sync, (x, (x, tt))), ((ternary_sync, (x, (x, (x, tt)))), ((literal_sync, (x, (as_row_sync u32-field u32_sync, tt))), ((entries_sync, (x, tt)), ((x, (relation_sync, (x, (x, (x, tt))))), ((as_row_sync usize-field usize_sync, (as_row_sync u32-field u32_sync, (kernel_sync, tt))), tt))))))))))

pub read_sync : IsSync Read.the_row
read_sync = search (sendable, owners.crosses) depth 40

pub case_sync : IsSync JobCase.the_row
case_sync = declared_sync JobCase.the_type (search (sendable, owners.crosses) depth 40, (search (sendable, owners.crosses) depth 40, (formula_sync, (owners.Vec-sync Read.the_row read_sync, tt))))

pub function_sync : IsSync Function.the_row
function_sync = search (formula_sync, case_sync, read_sync, sendable, owners.crosses) depth 40

pub accumulator_sync : IsSync Accumulator.the_row
accumulator_sync = declared_sync Accumulator.the_type (search (sendable, owners.crosses) depth 40, (search (sendable, owners.crosses) depth 40, (formula_sync, (formula_sync, (owners.Vec-sync Read.the_row read_sync, tt)))))

pub body_sync : IsSync Body.the_row
body_sync = variants_sync Body.enum ((search (sendable, owners.crosses) depth 40, tt), ((function_sync, tt), ((accumulator_sync, tt), tt)))

pub stage_sync : IsSync Stage.the_row
stage_sync = declared_sync Stage.the_type (search (sendable, owners.crosses) depth 40, (search (sendable, owners.crosses) depth 40, (search (sendable, owners.crosses) depth 40, (body_sync, tt))))

pub picture_sync : IsSync Picture.the_row
picture_sync = search (sendable, owners.crosses) depth 40

pub pipeline_sync : IsSync BoundPipeline.the_row
pipeline_sync = search (stage_sync, table_sync, picture_sync, sendable, owners.crosses) depth 40

pub job_sync : IsSync Job.the_row
job_sync = declared_sync Job.the_type (pipeline_sync, (search (sendable, owners.crosses) depth 40, (search (sendable, owners.crosses) depth 40, (search (sendable, owners.crosses) depth 40, tt))))

pub catalog_sync : IsSync Catalog.the_row
catalog_sync = search (job_sync, sendable, owners.crosses) depth 40

pub schedule_sync : IsSync Schedule.the_row
schedule_sync = search (sendable, owners.crosses) depth 40

key_sync : IsSync Key.the_row
key_sync = search (sendable, owners.crosses) depth 40

setup_send : IsSend FarmSetup.the_row
setup_send = search (sendable, owners.crosses) depth 40

phantom_sync : (T : RattleType) → IsSync (PhantomData.the_row T)
phantom_sync T = search (sendable, owners.crosses) depth 40

module _ (a : NamedLft) (R : RattleType) (one : One R.mir) (y : IsSync R) where
  reference_sync : IsSync (as_row (shr_ref_field a R one))
  reference_sync = as_row_sync (shr_ref_field a R one) (shr_sync a.mir a.lft R y)

  reference_send : IsSend (as_row (shr_ref_field a R one))
  reference_send = as_row_send (shr_ref_field a R one) (shr_send a.mir a.lft R y)

module _ (a : NamedLft) (T : RattleType) (g : Ghosts T.Denot) where
  pub work_sync : IsSync (Work.the_row a T g)
  work_sync = declared_sync (Work.the_type a T g) (
    reference_sync a Catalog.the_row tt catalog_sync,
    (
      reference_sync a Job.the_row tt job_sync,
      (
        reference_sync a Schedule.the_row tt schedule_sync,
        (as_row_sync (shr_slice_field a Key.the_row tt) (shr_slice_sync a.mir a.lft Key.the_row key_sync), (phantom_sync T, tt)),
      ),
    ),
  )

  pub worker_send : (d : DeskGhosts T.Denot) → IsSend (FarmWorker.the_row a T g d)
  worker_send d = declared_send (FarmWorker.the_type a T g d) (
    as_row_send u8-field (search sendable),
    (
      as_row_send u8-field (search sendable),
      (
        setup_send,
        (
          reference_send a (Work.the_row a T g) tt work_sync,
          (
            reference_send a (LiveDesk.the_row T d) tt (Desk.the_sync T d),
            (
              Seen.the_send T d,
              (WorkerSeat.the_send a T g, (owners.Vec-send (MailboxPort.the_row a T g) (MailboxPort'.the_send a T g), tt)),
            ),
          ),
        ),
      ),
    ),
  )
