use Rattle.std.proofs.Common.{arith, ◌≡◌, ◌≤◌, ◌+◌, ◌-◌, true, false, Some, None, sym, ap, ◌∙◌}
use Rattle.bus_best.specs.Blames.{blame_from}
use Rattle.bus_best.proofs.Steps.{from_end, is_none, waiting_by}
use Rattle.bus_best.proofs.blame.blame_from.Goals as goal

pub returns-in-Some : goal.returns-in-Some
returns-in-Some c =
    let some : 1 ≤ 1025 - c.loop-sg.sg = (let t = c.loop-sg-test.true in omega (arith, t)) in
    sym (waiting_by c.args.bounds c.args.count c.loop-sg.sg (1025 - c.loop-sg.sg) (Some c.in-Some.needed) false some
    (sym c.asked-above.ensures.above ∙ c.in-Some.is) (λ e. absurd (cc)))
    ∙ c.loop-sg.invariant

pub returns-then-waiting : goal.returns-then-waiting
returns-then-waiting c =
    let some : 1 ≤ 1025 - c.loop-sg.sg = (let t = c.loop-sg-test.true in omega (arith, t)) in
    sym (waiting_by c.args.bounds c.args.count c.loop-sg.sg (1025 - c.loop-sg.sg) None true some
    (sym c.asked-above.ensures.above ∙ c.in_default.is) (λ e. sym (c.asked-above.ensures.waits (is_none _ c.in_default.is)) ∙ c.if-waiting.true))
    ∙ c.loop-sg.invariant

pub loop-sg-preserved : goal.loop-sg-preserved
loop-sg-preserved c =
    let some : 1 ≤ 1025 - c.loop-sg.sg = (let t = c.loop-sg-test.true in omega (arith, t)) in
    let left : 1025 - (c.loop-sg.sg + 1) ≡ 1025 - c.loop-sg.sg - 1 = omega arith in
    ap (blame_from c.args.bounds c.args.count (c.loop-sg.sg + 1)) left
    ∙ sym (waiting_by c.args.bounds c.args.count c.loop-sg.sg (1025 - c.loop-sg.sg) None false some
    (sym c.asked-above.ensures.above ∙ c.in_default.is) (λ e. sym (c.asked-above.ensures.waits (is_none _ c.in_default.is)) ∙ c.if-waiting.false))
    ∙ c.loop-sg.invariant

pub returns : goal.returns
unfolding blame_from
returns c =
    let over : 1025 - c.loop-sg.sg ≡ 0 = (let f = c.loop-sg-test.false in omega (arith, f)) in
    sym (from_end c.args.bounds c.args.count c.loop-sg.sg (1025 - c.loop-sg.sg) over) ∙ c.loop-sg.invariant
