use Rattle.std.proofs.Common.{refl}
use Rattle.bus_trace.proofs.ReadLaws.{holds_reads, reads_holds, front_is_whole}
use Rattle.bus_trace.proofs.ReadRuns.{MarkLaws}
use Rattle.bus_trace.specs.Traces.{text_in}
use Rattle.bus_trace.proofs.laws.traces_read_back.Goals as goal

pub returns-clause-back : goal.returns-clause-back
returns-clause-back c =
    let laws : MarkLaws = record { neighbours = c.neighbours_tell.ensures.neighbours; ascending = c.neighbours_tell.ensures.ascending } in
    λ limit format t rest i l. holds_reads laws limit _ t (record {
      front = text_in format t;
      rest = rest;
      parts = refl;
      short =
          l;
      text = record { format = format; trace = i; text_is = refl };
    })

pub returns-clause-only : goal.returns-clause-only
returns-clause-only c = reads_holds (record {
  neighbours = c.neighbours_tell.ensures.neighbours;
  ascending =
      c.neighbours_tell.ensures.ascending;
})

pub returns-clause-alone : goal.returns-clause-alone
returns-clause-alone c = front_is_whole (record {
  neighbours = c.neighbours_tell.ensures.neighbours;
  ascending =
      c.neighbours_tell.ensures.ascending;
})
