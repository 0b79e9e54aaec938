use Rattle.std.proofs.Common.{◌≡◌, ◌<◌, ◌+◌, List, length, arith, sym, refl, ap, Some, inr, ◌∙◌, subst}
use Rattle.std.proofs.lemmas.Option.{slice_get-get_or}
use Rattle.bus_medium.specs.declared.timers.Timers.{Timers}
use Rattle.bus_medium.specs.inside.Lazy.{clock_of, clocks_of, EachKept}
use Rattle.bus_medium.proofs.LazyLoops.{SettledSoFar, settled_none, settled_more, settled_all}
use Rattle.bus_medium.proofs.TimersLemmas.{kept_none, kept_push, clocks_push}
use Rattle.bus_medium.proofs.turns.all_settled_timers.Goals as goal

pub loop-seat-init : goal.loop-seat-init
loop-seat-init g c = record {
  settled = subst (λ (ws : List Timers). SettledSoFar c.args.quiet c.args.seats.now (clocks_of 0 ws) 0) (sym c.in_ok-all_timers.ensures.items) (settled_none c.args.quiet c.args.seats.now);
  kept = subst (λ (ws : List Timers). EachKept ws) (sym c.in_ok-all_timers.ensures.items) kept_none;
}

pub loop-seat-preserved : goal.loop-seat-preserved
loop-seat-preserved g c =
    let i = c.loop-seat.seat-index in
    let within : i < length c.args.seats.now = omega arith in
    let b = c.settled_timers.ensures in
    let w = c.settled_timers.result in
    let ws = c.loop-seat.all_timers.items in
    let settled = settled_more c.args.quiet c.args.seats.now (clocks_of 0 ws) i c.seat-item.result (clock_of 0 w) c.loop-seat.invariant.settled
    (slice_get-get_or c.args.seats.now i c.seat-item.result within ∙ ap (λ w. Some w) (sym c.seat-item.is))
    (record { sg = b.sg; tg = b.tg; told = b.told; due = b.due; gap = (let h : 0 + w.behind ≡ c.seat-item.result.timing.sg = omega (arith, b.behind) in h); ready = refl }) in
    let kept = kept_push ws w c.loop-seat.invariant.kept (record { counted = inr (b.behind ∙ sym b.sg); small = b.small; over = b.over }) in
    record {
      settled = subst (λ (vs : List Timers). SettledSoFar c.args.quiet c.args.seats.now (clocks_of 0 vs) (i + 1)) (sym c.in_ok-push.ensures.items)
          (subst (λ ks. SettledSoFar c.args.quiet c.args.seats.now ks (i + 1)) (sym (clocks_push 0 ws w)) settled);
      kept = subst (λ (vs : List Timers). EachKept vs) (sym c.in_ok-push.ensures.items) kept;
    }

pub returns-clause-settled : goal.returns-clause-settled
returns-clause-settled g c = settled_all c.args.quiet c.args.seats.now (clocks_of 0 c.loop-seat.all_timers.items) c.loop-seat.seat-index c.loop-seat.invariant.settled (omega arith)
