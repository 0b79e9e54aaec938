use Rattle.std.proofs.Common.{◌≡◌, length, sym, ap, ◌∙◌, arith}
use Rattle.bus_table.specs.Tables.{Sender}
use Rattle.bus_regime.specs.Gaps.{gaps}
use Rattle.bus_schedule.specs.Slack.{slack_behind}
use Rattle.bus_regime.proofs.GapPlaces.{length-gaps}
use Rattle.bus_reach.proofs.Passes.{wide_at, own_found, none_found}
use Rattle.bus_reach.proofs.Rotating.{around, around_at, length-around, walk_next}
use Rattle.bus_reach.proofs.periodic.stays.Goals as goal

pub returns-then-number : goal.returns-then-number
returns-then-number c =
    let same : length c.senders-n.result.now ≡ length c.args.table.now.senders = ap length c.senders-n.ensures.value in
    let long = length-gaps c.args.table.now in
    own_found c.args.d c.args.table.now.sg (gaps c.args.table.now) c.args.k c.loop-step.step c.number-number.result c.sg.result c.loop-step.slack c.gap_at.result c.gap_at-gap.result c.is_enough.result
    c.gap_at.ensures (c.number-number.ensures.value ∙ ap (λ (s : Sender). s.number) c.sender.ensures)
    (around_at (gaps c.args.table.now) (length c.senders-n.result.now) c.args.k c.loop-step.step c.behind.result c.gap_at-gap.result (omega (arith, same, long)) (omega (arith, same, c.requires.place)) (omega (arith, c.loop-step-test.true)) c.behind.ensures.place c.gap_at-gap.ensures)
    (sym (c.number.ensures.value ∙ ap (λ (s : Sender). s.number) c.sender-in-loop-step.ensures) ∙ c.if-number.true) c.sg.ensures.value c.is_enough.ensures c.loop-step.invariant.same

pub slack_behind-slack-requires-clause-wide : goal.slack_behind-slack-requires-clause-wide
slack_behind-slack-requires-clause-wide c = wide_at 0 (gaps c.args.table.now) c.behind.result c.gap_at-gap.result c.requires.wide c.gap_at-gap.ensures

pub loop-step-preserved : goal.loop-step-preserved
loop-step-preserved c =
    let same : length c.senders-n.result.now ≡ length c.args.table.now.senders = ap length c.senders-n.ensures.value in
    let long = length-gaps c.args.table.now in
    record {
      same = walk_next c.args.d c.args.table.now.sg c.number-number.result c.loop-step.slack c.slack_behind-slack.result (around c.args.k (gaps c.args.table.now)) c.loop-step.step c.gap_at-gap.result _
          (around_at (gaps c.args.table.now) (length c.senders-n.result.now) c.args.k c.loop-step.step c.behind.result c.gap_at-gap.result (omega (arith, same, long)) (omega (arith, same, c.requires.place)) (omega (arith, c.loop-step-test.true)) c.behind.ensures.place c.gap_at-gap.ensures)
          (λ e. c.if-number.false (c.number.ensures.value ∙ ap (λ (s : Sender). s.number) c.sender-in-loop-step.ensures ∙ e))
          (c.slack_behind-slack.ensures.value ∙ ap (λ t. slack_behind c.args.d t c.loop-step.slack c.gap_at-gap.result) c.sg-in-loop-step.ensures.value) c.loop-step.invariant.same;
      within = c.slack_behind-slack.ensures.bound;
    }

pub returns : goal.returns
returns c =
    let same : length c.senders-n.result.now ≡ length c.args.table.now.senders = ap length c.senders-n.ensures.value in
    let long = length-gaps c.args.table.now in
    none_found c.args.d c.args.table.now.sg (gaps c.args.table.now) c.args.k c.loop-step.step c.number-number.result c.loop-step.slack c.gap_at.result c.gap_at.ensures (c.number-number.ensures.value ∙ ap (λ (s : Sender). s.number) c.sender.ensures)
    (omega (arith, same, long, length-around c.args.k (gaps c.args.table.now) (omega (arith, long, c.requires.place)), c.loop-step-test.false)) c.loop-step.invariant.same
