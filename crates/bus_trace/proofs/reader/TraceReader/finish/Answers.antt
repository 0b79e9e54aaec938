use Rattle.bus_trace.proofs.ReadRuns.{MarkLaws}
use Rattle.bus_trace.proofs.PieceLaws.{finishes}
use Rattle.bus_trace.proofs.reader.TraceReader.finish.Goals as goal

pub returns : goal.returns
returns c =
    let laws : MarkLaws = record { neighbours = c.neighbours_tell.ensures.neighbours; ascending = c.neighbours_tell.ensures.ascending } in
    finishes laws c.args.self c.end.result c.end.ensures.is c.end.ensures.gives
