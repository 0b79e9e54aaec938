use Rattle.std.proofs.Common.{arith, ℕ, List, take, refl, ap, sym, subst, ◌∙◌, Ok, length-append}
use Rattle.std.proofs.lemmas.List.{take-append-le, length-take}
use Rattle.std.proofs.lemmas.Result.{err_from_is_err_and}
use Rattle.bus_outer.specs.Sources.{Taken}
use Rattle.bus_trace.specs.Limits.{trace_limit}
use Rattle.bus_trace.specs.Runs.{stream_of, due}
use Rattle.bus_trace.specs.inside.Feeds.{FeedGives}
use Rattle.bus_trace.specs.declared.stage.Fed.{Fed}
use Rattle.bus_trace.proofs.Readings.{begins_reading, pulled, pulled_is, short_slice, whole_reads, end_reads, refused_reads, large_reads}
use Rattle.bus_trace.proofs.Readings.{memory_reads, memory_first, fault_reads, led}
use Rattle.bus_trace.proofs.Feeds.{more_fits}
use Rattle.bus_trace.proofs.reading.read_text.Goals as goal

pub lines-init : goal.lines-init
lines-init g c =
    let e = c.in_ok-reader.ensures in
    let b = begins_reading (g.S.Source.left c.args.source.now) c.in_ok-reader.reader.at e.begins in
    record { is_open = e.is_open; is_due = b.0; taken = b.1; same = refl }

pub returns-in_err-reader-clause-loops : goal.returns-in_err-reader-clause-loops
returns-in_err-reader-clause-loops g c =
    let p = err_from_is_err_and c.from_residual.result c.from_residual.ensures.1 in
    rw (p.1, p.2) (memory_first _)

pub lines-preserved : goal.lines-preserved
lines-preserved g c =
    let q = led (g.S.Source.left c.args.source.now) (g.S.Source.left c.lines.source) (g.S.Source.left c.consume.new.self) c.lines.reader
    c.take_quickly.new.self c.at_hand.result.now (g.S.Source.lent c.lines.source) c.in_ok-count.count c.lines.invariant.taken
    c.in_ok-count.ensures c.at_hand.ensures c.consume.ensures.bytes in
    let b = c.in-Got.ensures.bytes in
    let t = pulled _ _ _ _ _ _ q.2 b.2 in
    let gives = subst (λ (f : Fed). FeedGives c.take_quickly.new.self c.take.new.self (take c.in-Got.n (c.pull_line.new.buf)) (Ok f)) c.in-More.is
    (subst (λ (p : List ℕ). FeedGives c.take_quickly.new.self c.take.new.self p (Ok c.in_ok-take-in-Got.field-0))
    (take-append-le c.in-Got.n c.pull_line.new.buf _ b.1) c.in_ok-take-in-Got.ensures) in
    record {
      is_open = gives.0;
      is_due = ap (due trace_limit) gives.2 ∙ gives.1;
      taken = subst (λ (bs : List ℕ). Taken (g.S.Source.left c.args.source.now) (g.S.Source.left c.pull_line.new.self) bs) (sym gives.2) t;
      same = c.in-Got.ensures.counts ∙ c.consume.ensures.counts ∙ c.lines.invariant.same;
    }

pub returns-in_err-count-clause-loops : goal.returns-in_err-count-clause-loops
returns-in_err-count-clause-loops g c =
    let p = err_from_is_err_and c.from_residual-in_err-count.result c.from_residual-in_err-count.ensures.1 in
    rw (p.1, p.2)
    (memory_reads _ _ _ c.lines.invariant.taken (more_fits (stream_of c.lines.reader.at) c.lines.reader.at c.lines.invariant.is_due))

pub returns-in_err-take-in-Got-clause-loops : goal.returns-in_err-take-in-Got-clause-loops
returns-in_err-take-in-Got-clause-loops g c =
    let q = led (g.S.Source.left c.args.source.now) (g.S.Source.left c.lines.source) (g.S.Source.left c.consume.new.self) c.lines.reader
    c.take_quickly.new.self c.at_hand.result.now (g.S.Source.lent c.lines.source) c.in_ok-count.count c.lines.invariant.taken
    c.in_ok-count.ensures c.at_hand.ensures c.consume.ensures.bytes in
    let p = err_from_is_err_and c.from_residual-in_err-take-in-Got.result c.from_residual-in_err-take-in-Got.ensures.1 in
    let b = c.in-Got.ensures.bytes in
    let t = pulled _ _ _ _ _ _ q.2 b.2 in
    let room = c.room-room.ensures.within c.in_err-take-in-Got.ensures.1 in
    rw (p.1, p.2)
    (memory_reads _ _ _ t (omega (
      arith,
      room,
      b.1,
      short_slice c.room-room.result _ c.pull_line.new.buf c.pull_line.auto.buf,
      length-take c.in-Got.n c.pull_line.new.buf,
      length-append (stream_of c.take_quickly.new.self.at) (take c.in-Got.n c.pull_line.new.buf),
    )))

pub returns-in-Whole-clause-loops : goal.returns-in-Whole-clause-loops
returns-in-Whole-clause-loops g c =
    let q = led (g.S.Source.left c.args.source.now) (g.S.Source.left c.lines.source) (g.S.Source.left c.consume.new.self) c.lines.reader
    c.take_quickly.new.self c.at_hand.result.now (g.S.Source.lent c.lines.source) c.in_ok-count.count c.lines.invariant.taken
    c.in_ok-count.ensures c.at_hand.ensures c.consume.ensures.bytes in
    let b = c.in-Got.ensures.bytes in
    let t = pulled _ _ _ _ _ _ q.2 b.2 in
    let p = pulled_is c.take_quickly.new.self.at c.in-Got.n c.room-room.result c.pull_line.new.buf b.0 b.1
    (short_slice c.room-room.result _ c.pull_line.new.buf c.pull_line.auto.buf) c.room-room.ensures.line c.room-room.ensures.text
    c.in-Got.ensures.line in
    let gives = subst (λ (f : Fed). FeedGives c.take_quickly.new.self c.take.new.self (take c.in-Got.n (c.pull_line.new.buf)) (Ok f)) c.in-Whole.is
    (subst (λ (p : List ℕ). FeedGives c.take_quickly.new.self c.take.new.self p (Ok c.in_ok-take-in-Got.field-0))
    (take-append-le c.in-Got.n c.pull_line.new.buf _ b.1) c.in_ok-take-in-Got.ensures) in
    whole_reads _ _ c.take_quickly.new.self c.take.new.self _ c.in-Whole.used c.end.result t q.1 p gives c.end.ensures.gives

pub returns-in-Refused-clause-loops : goal.returns-in-Refused-clause-loops
returns-in-Refused-clause-loops g c =
    let q = led (g.S.Source.left c.args.source.now) (g.S.Source.left c.lines.source) (g.S.Source.left c.consume.new.self) c.lines.reader
    c.take_quickly.new.self c.at_hand.result.now (g.S.Source.lent c.lines.source) c.in_ok-count.count c.lines.invariant.taken
    c.in_ok-count.ensures c.at_hand.ensures c.consume.ensures.bytes in
    let b = c.in-Got.ensures.bytes in
    let t = pulled _ _ _ _ _ _ q.2 b.2 in
    let p = pulled_is c.take_quickly.new.self.at c.in-Got.n c.room-room.result c.pull_line.new.buf b.0 b.1
    (short_slice c.room-room.result _ c.pull_line.new.buf c.pull_line.auto.buf) c.room-room.ensures.line c.room-room.ensures.text
    c.in-Got.ensures.line in
    let gives = subst (λ (f : Fed). FeedGives c.take_quickly.new.self c.take.new.self (take c.in-Got.n (c.pull_line.new.buf)) (Ok f)) c.in-Refused.is
    (subst (λ (p : List ℕ). FeedGives c.take_quickly.new.self c.take.new.self p (Ok c.in_ok-take-in-Got.field-0))
    (take-append-le c.in-Got.n c.pull_line.new.buf _ b.1) c.in_ok-take-in-Got.ensures) in
    refused_reads _ _ c.take_quickly.new.self c.take.new.self _ c.in-Refused.byte c.in-Refused.reason t q.1 p gives

pub returns-in-TooLarge-clause-loops : goal.returns-in-TooLarge-clause-loops
returns-in-TooLarge-clause-loops g c =
    let q = led (g.S.Source.left c.args.source.now) (g.S.Source.left c.lines.source) (g.S.Source.left c.consume.new.self) c.lines.reader
    c.take_quickly.new.self c.at_hand.result.now (g.S.Source.lent c.lines.source) c.in_ok-count.count c.lines.invariant.taken
    c.in_ok-count.ensures c.at_hand.ensures c.consume.ensures.bytes in
    let b = c.in-Got.ensures.bytes in
    let t = pulled _ _ _ _ _ _ q.2 b.2 in
    let p = pulled_is c.take_quickly.new.self.at c.in-Got.n c.room-room.result c.pull_line.new.buf b.0 b.1
    (short_slice c.room-room.result _ c.pull_line.new.buf c.pull_line.auto.buf) c.room-room.ensures.line c.room-room.ensures.text
    c.in-Got.ensures.line in
    let gives = subst (λ (f : Fed). FeedGives c.take_quickly.new.self c.take.new.self (take c.in-Got.n (c.pull_line.new.buf))
    (Ok f)) c.in-TooLarge.is
    (subst (λ (p : List ℕ). FeedGives c.take_quickly.new.self c.take.new.self p (Ok c.in_ok-take-in-Got.field-0))
    (take-append-le c.in-Got.n c.pull_line.new.buf _ b.1) c.in_ok-take-in-Got.ensures) in
    large_reads _ _ c.take_quickly.new.self c.take.new.self _ t q.1 p gives

pub returns-in-End-clause-loops : goal.returns-in-End-clause-loops
returns-in-End-clause-loops g c =
    let q = led (g.S.Source.left c.args.source.now) (g.S.Source.left c.lines.source) (g.S.Source.left c.consume.new.self) c.lines.reader
    c.take_quickly.new.self c.at_hand.result.now (g.S.Source.lent c.lines.source) c.in_ok-count.count c.lines.invariant.taken
    c.in_ok-count.ensures c.at_hand.ensures c.consume.ensures.bytes in
    end_reads _ _ _ c.take_quickly.new.self c.end-in-End.result q.0 q.1 q.2
    c.in-End.ensures.bytes.0 c.in-End.ensures.bytes.1 c.end-in-End.ensures.gives

pub returns-in-Failed-clause-loops : goal.returns-in-Failed-clause-loops
returns-in-Failed-clause-loops g c =
    let q = led (g.S.Source.left c.args.source.now) (g.S.Source.left c.lines.source) (g.S.Source.left c.consume.new.self) c.lines.reader
    c.take_quickly.new.self c.at_hand.result.now (g.S.Source.lent c.lines.source) c.in_ok-count.count c.lines.invariant.taken
    c.in_ok-count.ensures c.at_hand.ensures c.consume.ensures.bytes in
    fault_reads _ _ _ c.take_quickly.new.self q.1 q.2 c.in-Failed.ensures.bytes
