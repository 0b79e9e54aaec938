use Rattle.std.proofs.Common.{sym, subst}
use Rattle.bus_trace.specs.declared.position.Position.TheVariants.{Closed}
use Rattle.bus_trace.specs.States.{State}
use Rattle.bus_trace.specs.inside.Quick.{TakesFront}
use Rattle.bus_trace.proofs.QuickLines.{close_taken}
use Rattle.bus_trace.proofs.draft.Draft.take_quick_close.Goals as goal

pub returns : goal.returns
returns c =
    let P : State → Type 0 = λ s. TakesFront c.args.feed c.args.self.now (record {
      position = Closed;
      format = s.format;
      mark = c.in_ok-end.mark;
      horizon = s.horizon;
      holds = s.holds;
      list = s.list;
    }) c.args.text.now c.in_ok-rest.rest.now in
    subst P (sym c.self.view_is) (close_taken c.args.feed c.args.self.now c.in_ok-end.end c.in_ok-end.mark c.args.text.now
    c.in_ok-end.rest.now c.in_ok-rest.rest.now c.requires (c.closes_right.ensures c.if-not-closes_right.false) c.in_ok-end.ensures
    c.in_ok-rest.ensures)
