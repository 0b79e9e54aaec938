use Rattle.std.proofs.Common.{sym, subst}
use Rattle.bus_trace.specs.declared.position.Position.TheVariants.{Begun}
use Rattle.bus_trace.specs.States.{State}
use Rattle.bus_trace.specs.inside.Quick.{TakesFront}
use Rattle.bus_trace.proofs.QuickLines.{begin_taken}
use Rattle.bus_trace.proofs.draft.Draft.take_quick_begin.Goals as goal

pub returns : goal.returns
returns c =
    let P : State → Type 0 = λ s. TakesFront c.args.feed c.args.self.now (record {
      position = Begun c.in_ok-moment.moment c.in_ok-moment.terminal;
      format = s.format;
      mark = s.mark;
      horizon = s.horizon;
      holds = s.holds;
      list = s.list;
    }) c.args.text.now c.in_ok-rest.rest.now in
    subst P (sym c.self.view_is) (begin_taken c.args.feed c.args.self.now c.in_ok-moment.moment c.in_ok-moment.terminal c.args.text.now
    c.in_ok-moment.rest.now c.in_ok-rest.rest.now c.requires (c.begins_right.ensures c.if-not-begins_right.false) c.in_ok-moment.ensures
    c.in_ok-rest.ensures)
