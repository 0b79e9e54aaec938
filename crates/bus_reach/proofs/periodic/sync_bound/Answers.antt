use Rattle.std.proofs.Common.{◌≡◌, ◌≤◌, ◌++◌, drop, take, ◌+◌, Some, None, arith, subst}
use Rattle.std.specs.Prelude.{IsSomeAnd, slice_get}
use Rattle.bus_table.proofs.ValidLaws.{valid_facts}
use Rattle.bus_regime.specs.Gaps.{gaps}
use Rattle.bus_schedule.specs.Slack.{stays}
use Rattle.bus_reach.specs.Limits.{farthest, greatest_taken}
use Rattle.bus_reach.proofs.LimitLemmas.{Stays, fine, sync_none, sync_some, zero_stays}
use Rattle.bus_reach.proofs.periodic.sync_bound.Goals as goal

pub stays-requires-clause-wide : goal.stays-requires-clause-wide
stays-requires-clause-wide c = (fine c.args.table.now c.table_is_valid.ensures c.requires.mode c.requires.accepted c.requires.several).wide

pub stays-requires-in-loop-lost-clause-wide : goal.stays-requires-in-loop-lost-clause-wide
stays-requires-in-loop-lost-clause-wide c = (fine c.args.table.now c.table_is_valid.ensures c.requires.mode c.requires.accepted c.requires.several).wide

pub returns-then-stays : goal.returns-then-stays
returns-then-stays c =
    subst (λ f. IsSomeAnd (slice_get (gaps c.args.table.now) c.args.k) (λ own. None ≡ greatest_taken
    (λ d. stays d c.args.table.now.sg own.sender.number (Some 0) (drop (c.args.k + 1) (gaps c.args.table.now) ++ take (c.args.k + 1) (gaps c.args.table.now))) f))
    c.farthest-far.ensures.value (sync_none c.args.table.now c.args.k c.farthest-far.result c.stays.result c.if-stays.true c.stays.ensures)

pub loop-lost-init : goal.loop-lost-init
loop-lost-init c =
    let good = fine c.args.table.now c.table_is_valid.ensures c.requires.mode c.requires.accepted c.requires.several in
    let ti : 1000 ≤ c.args.table.now.ti = (valid_facts c.args.table.now c.table_is_valid.ensures).ti_least in
    record {
      kept = zero_stays c.args.table.now c.args.k c.farthest-far.result c.stays.result good c.stays.ensures;
      lost = subst (λ b. Stays c.args.table.now c.args.k c.farthest-far.result b) c.if-stays.false c.stays.ensures;
      less = omega (arith, c.farthest-far.ensures.value);
      bound = omega (arith, c.farthest-far.ensures.value);
    }

pub returns : goal.returns
returns c =
    sync_some c.args.table.now c.args.k (farthest c.args.table.now) c.loop-lost.kept c.loop-lost.lost c.loop-lost.invariant.kept c.loop-lost.invariant.lost
    c.loop-lost.invariant.less c.loop-lost.invariant.bound (omega (arith, c.loop-lost-test.false))
