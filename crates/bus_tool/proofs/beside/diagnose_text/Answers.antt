use Rattle.std.proofs.Common.{arith}
use Rattle.bus_command.specs.Readers.{entire, two_sources}
use Rattle.bus_command.proofs.DoLaws.{roomless}
use Rattle.bus_diagnosis.specs.Diagnoses.{diagnosis_of}
use Rattle.bus_tool.specs.Diagnosing.{diagnosis_outcome}
use Rattle.bus_tool.specs.Forms.{entire_beside}
use Rattle.bus_tool.proofs.DiagnoseLemmas.{found_ends, found_late}
use Rattle.bus_tool.proofs.beside.diagnose_text.Goals as goal

pub returns-in-Ok : goal.returns-in-Ok
returns-in-Ok g c =
    found_ends g.K.Sink c.in-Ok.found (diagnosis_of c.args.table.now c.args.text.now) c.args.out.now c.write_diagnosis.new.sink c.write_diagnosis.result
    c.diagnosis_outcome.result c.after_writing.result c.in-Ok.ensures c.diagnosis_outcome.ensures c.write_diagnosis.ensures c.after_writing.ensures

pub returns-in-Err : goal.returns-in-Err
returns-in-Err g c =
    roomless (two_sources entire entire_beside) (diagnosis_outcome (diagnosis_of c.args.table.now c.args.text.now)) _ _
    (let late = found_late (diagnosis_of c.args.table.now c.args.text.now) in omega (arith, late))
