use Rattle.std.proofs.Common.{◌+◌, ◌<◌, ◌^◌, false, ltb, get_or, arith}
use Rattle.std.proofs.lemmas.Bool.{ltb-true}
use Rattle.std.proofs.lemmas.Option.{slice_get-get_or}
use Rattle.bus_medium.specs.declared.timers.Timers.{Timers}
use Rattle.bus_medium.proofs.TimersLemmas.{kept_small, soon_ready, ready_none, ready_skip, ready_sooner, ready_all, ready_alone}
use Rattle.bus_medium.proofs.first.first_ready.Goals as goal

pub loop-place-init : goal.loop-place-init
loop-place-init c =
    let n = c.next_soon-place in
    record {
      so = ready_skip c.args.most c.args.ended c.args.all_timers.now c.args.most 0 false 0 n.result c.requires.kept
          (ready_none c.args.most c.args.ended c.args.all_timers.now 0 c.requires.ended) n.ensures.skipped;
      within = n.ensures.high;
      found = n.ensures.found;
    }

pub ready_at-ready-requires : goal.ready_at-ready-requires
ready_at-ready-requires c =
    let i = c.loop-place.place in
    let ws = c.args.all_timers.now in
    let none : Timers = record { sg = 0; tg = 0; told = 0; due = 0; behind = 0; over = 0 } in
    let small : c.args.ended < 2 ^ 62 = omega (arith, c.requires.ended, c.requires.most) in
    kept_small c.args.ended ws i (get_or ws i none) small c.requires.kept (slice_get-get_or ws i none c.loop-place-test.true)

pub loop-place-preserved : goal.loop-place-preserved
loop-place-preserved c =
    let i = c.loop-place.place in
    let ws = c.args.all_timers.now in
    let e = c.args.ended in
    let none : Timers = record { sg = 0; tg = 0; told = 0; due = 0; behind = 0; over = 0 } in
    let v = get_or ws i none in
    let r = c.ready_at-ready.result in
    let first = c.loop-place.first in
    let inv = c.loop-place.invariant in
    let next = c.next_soon-place-in-loop-place in
    let at = slice_get-get_or ws i none c.loop-place-test.true in
    let soon = soon_ready e first.ready v (c.requires.kept i v at) inv.so.low (inv.found v at) in
    let sooner = ready_sooner c.args.most e ws first.ready first.place first.alone (ltb r first.ready) i r v inv.so at c.ready_at-ready.ensures (omega (arith, soon, c.ready_at-ready.ensures))
    (λ h. ltb-true r first.ready h) in
    record {
      so = ready_skip c.args.most e ws r i (ltb r first.ready) (i + 1) next.result c.requires.kept sooner next.ensures.skipped;
      within = next.ensures.high;
      found = next.ensures.found;
    }

pub returns-clause-ready : goal.returns-clause-ready
returns-clause-ready c =
    let first = c.loop-place.first in
    ready_all c.args.most c.args.ended c.args.all_timers.now first.ready first.place first.alone c.loop-place.place c.loop-place.invariant.so (omega arith)

pub returns-clause-alone : goal.returns-clause-alone
returns-clause-alone c =
    let first = c.loop-place.first in
    ready_alone c.args.most c.args.ended c.args.all_timers.now first.ready first.place first.alone c.loop-place.place c.loop-place.invariant.so (omega arith)
