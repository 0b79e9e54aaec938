use Rattle.bus_trace.proofs.ReadRuns.{MarkLaws}
use Rattle.bus_trace.proofs.PieceLaws.{feed_due, feed_only, feed_stands, feed_fails}
use Rattle.bus_trace.proofs.reader.TraceReader.feed.Goals as goal

pub returns : goal.returns
returns c =
    let laws : MarkLaws = record { neighbours = c.neighbours_tell.ensures.neighbours; ascending = c.neighbours_tell.ensures.ascending } in
    record {
      due = feed_due laws c.args.self.now c.take.new.self c.args.piece.now c.take.result c.take.ensures;
      only = feed_only laws c.args.self.now c.take.new.self c.args.piece.now c.take.result c.take.ensures;
      stands = feed_stands c.args.self.now c.take.new.self c.args.piece.now c.take.result c.take.ensures;
      failed = feed_fails c.args.self.now c.take.new.self c.args.piece.now c.take.result c.take.ensures;
    }
