-- How the faults of the steps are reported: a refusal of memory is `Memory`, whichever step it comes from.
use Rattle.netpbm.specs.declared.fault.PicFault.{PicFault}
use Rattle.netpbm.specs.declared.fault.PicFault.TheVariants as pictures
use Rattle.pipe_tree.specs.declared.fault.ParseFault.{ParseFault}
use Rattle.pipe_tree.specs.declared.fault.ParseFault.TheVariants as texts
use Rattle.fact_lines.specs.declared.fault.FactLinesFault.{FactLinesFault}
use Rattle.fact_lines.specs.declared.fault.FactLinesFault.TheVariants as lines
use Rattle.gossip_events.specs.declared.fault.ScriptFault.{ScriptFault}
use Rattle.gossip_events.specs.declared.fault.ScriptFault.TheVariants as scripts
use Rattle.command_faults.specs.declared.faults.StreamFault.{StreamFault}
use Rattle.command_faults.specs.declared.faults.StreamFault.TheVariants.{Program, Picture, Facts, Script, Memory}

abbrev pub fault_at_parse : ParseFault → StreamFault
fault_at_parse texts.Memory = Memory
fault_at_parse f = Program f

abbrev pub fault_at_picture : PicFault → StreamFault
fault_at_picture pictures.Memory = Memory
fault_at_picture f = Picture f

abbrev pub fault_at_lines : FactLinesFault → StreamFault
fault_at_lines lines.Memory = Memory
fault_at_lines f = Facts f

abbrev pub fault_at_script : ScriptFault → StreamFault
fault_at_script scripts.Memory = Memory
fault_at_script f = Script f
