use Rattle.std.proofs.Common.{◌≡◌, ◌+◌, ◌&&◌, length, drop, sym, ap, ◌∙◌, arith}
use Rattle.std.specs.List.{list_all}
use Rattle.std.proofs.lemmas.List.{drop_all}
use Rattle.bus_regime.specs.Gaps.{gaps}
use Rattle.bus_schedule.specs.Slack.{is_wide}
use Rattle.bus_regime.proofs.GapPlaces.{length-gaps}
use Rattle.bus_reach.proofs.Rotating.{all_next}
use Rattle.bus_reach.proofs.periodic.all_wide.Goals as goal

pub returns-then-not-is_wide-clause-value : goal.returns-then-not-is_wide-clause-value
returns-then-not-is_wide-clause-value c =
    sym (c.loop-k.invariant.same ∙ all_next (is_wide c.args.d) (gaps c.args.table.now) c.loop-k.k c.gap_at.result c.gap_at.ensures
    ∙ ap (λ b. b && list_all (is_wide c.args.d) (drop (c.loop-k.k + 1) (gaps c.args.table.now))) (sym c.is_wide.ensures.value ∙ c.if-not-is_wide.true))

pub loop-k-preserved : goal.loop-k-preserved
loop-k-preserved c = record {
  same = c.loop-k.invariant.same ∙ all_next (is_wide c.args.d) (gaps c.args.table.now) c.loop-k.k c.gap_at.result c.gap_at.ensures
      ∙ ap (λ b. b && list_all (is_wide c.args.d) (drop (c.loop-k.k + 1) (gaps c.args.table.now))) (sym c.is_wide.ensures.value ∙ c.if-not-is_wide.false);
  bound = λ some. c.is_wide.ensures.bound c.if-not-is_wide.false;
}

pub returns-clause-value : goal.returns-clause-value
returns-clause-value c =
    let same : length c.senders-k-end.result.now ≡ length c.args.table.now.senders = ap length c.senders-k-end.ensures.value in
    sym (c.loop-k.invariant.same ∙ ap (list_all (is_wide c.args.d)) (drop_all c.loop-k.k (gaps c.args.table.now)
    (omega (arith, same, length-gaps c.args.table.now, c.loop-k-test.false))))
