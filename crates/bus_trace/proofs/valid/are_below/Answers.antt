use Rattle.std.proofs.Common.{◌≡◌, true, take, subst, sym, ap, ◌∙◌, arith}
use Rattle.bus_strings.specs.Messages.{Entry}
use Rattle.bus_trace.specs.Traces.{IsBelow}
use Rattle.bus_trace.specs.States.{is_after}
use Rattle.bus_trace.proofs.Orders.{list_more, below_at, follows_at}
use Rattle.bus_trace.proofs.valid.are_below.Goals as goal
use Rattle.bus_trace.proofs.valid.are_below.Goals.{then-x-horizon-via-then-x-horizon, then-x-horizon-via-else-x-horizon+then-not-is_after}

pub returns-then-x-horizon : goal.returns-then-x-horizon
returns-then-x-horizon c = elim c.then-x-horizon.branch [
  | then-x-horizon-via-then-x-horizon w ↦ (
    λ t. absurd cc,
    λ f. absurd
        (omega (
          arith,
          below_at c.args.horizon c.args.list.now c.loop-i.i c.index-list-i.result c.index-list-i.is c.loop-i-test.true f.0,
          ap (λ (x : Entry). x.moment) c.x.view_is,
          w.if-x-horizon.true,
        )),
  )
  | then-x-horizon-via-else-x-horizon+then-not-is_after w ↦ (
    λ t. absurd cc,
    λ f.
        let a = follows_at c.args.list.now c.loop-i.i c.index-list-i.result c.index-list-i.is c.loop-i-test.true f.1 in
        let b = subst (λ (x : Entry). is_after (take c.loop-i.i c.args.list.now) x.moment x.terminal ≡ true) (sym c.x.view_is) a in
        let e = w.is_after.ensures ∙ ap (λ n. is_after (take c.loop-i.i c.args.list.now) c.x.inside.moment n) c.from-terminal.ensures ∙ b in
        absurd (cc (e, w.if-not-is_after.true)),
  )
]

pub loop-i-preserved : goal.loop-i-preserved
loop-i-preserved c =
    let after : is_after (take c.loop-i.i c.args.list.now) c.x.inside.moment c.x.inside.terminal ≡ true =
    sym (ap (λ n. is_after (take c.loop-i.i c.args.list.now) c.x.inside.moment n) c.from-terminal.ensures) ∙ sym c.is_after.ensures
    ∙ c.if-not-is_after.false in
    let a = subst (λ (x : Entry). is_after (take c.loop-i.i c.args.list.now) x.moment x.terminal ≡ true) c.x.view_is after in
    let b = subst (IsBelow c.args.horizon) c.x.view_is (record {
      moment = c.if-x-horizon.false;
      positive = c.x.invariant.0;
      low =
          c.x.invariant.1;
      message = c.strings-ranges.ensures.ranges;
    }) in
    let m = list_more c.args.horizon c.args.list.now c.loop-i.i c.index-list-i.result c.index-list-i.is c.loop-i-test.true
    c.loop-i.invariant.below c.loop-i.invariant.order a b in
    record { below = m.0; order = m.1 }
