use denote.Exit.{no}
use denote.Param.{param}
use denote.Param.Send.{param_send, arg_send}
use Rattle.farm.proofs.Crossing.{worker_send}
use Rattle.farm.proofs.farm.run_farm_workers.Goals as goal

pub run_and_join_farm_threads-requires-send-T : goal.run_and_join_farm_threads-requires-send-T
run_and_join_farm_threads-requires-send-T g c κs within = param_send 0 _ (arg_send _ no _ (worker_send _ (param 0 g.row.C) g.C.NamedCatalog g.C.NamedDesk))
