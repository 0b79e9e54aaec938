use Rattle.std.proofs.Common.{arith, ap, sym, ◌∙◌, ◌≡◌}
use Rattle.std.specs.Prelude.{Some, None}
use Rattle.bus_table.specs.Tables.{Sender}
use Rattle.bus_advice.specs.inside.InnerGaps.{inner_gaps, needed_width}
use Rattle.bus_advice.proofs.Widening.{interval_some, interval_far, interval_none}
use Rattle.bus_advice.proofs.gaps.greater_interval.Goals as goal

pub returns-in_err-needed : goal.returns-in_err-needed
returns-in_err-needed c =
    let tg = c.tg.ensures.value ∙ ap (λ (s : Sender). s.tg) c.sender-sender.ensures in
    let told : None ≡ needed_width c.args.table.now.sg c.gap_at-first.result.sender.tg (inner_gaps c.args.table.now) =
    sym c.in_err-needed.was ∙ c.needed_width.ensures ∙ ap (λ n. needed_width c.args.table.now.sg n (inner_gaps c.args.table.now)) tg in
    c.from_residual.ensures
    ∙ interval_none c.args.table.now c.gap_at-first.result c.ti-valid.ensures.valid c.requires.periodic c.gap_at-first.ensures told

pub returns-then-ti-from : goal.returns-then-ti-from
returns-then-ti-from c =
    let tg = c.tg.ensures.value ∙ ap (λ (s : Sender). s.tg) c.sender-sender.ensures in
    let at = c.at.ensures.value ∙ ap (λ (s : Sender). s.at) c.sender-sender.ensures in
    let told : Some c.in_ok-needed.needed ≡ needed_width c.args.table.now.sg c.gap_at-first.result.sender.tg (inner_gaps c.args.table.now) =
    sym c.in_ok-needed.was ∙ c.needed_width.ensures ∙ ap (λ n. needed_width c.args.table.now.sg n (inner_gaps c.args.table.now)) tg in
    interval_some c.args.table.now c.gap_at-first.result c.ti-valid.ensures.valid c.requires.periodic c.gap_at-first.ensures c.saturating_sub-ti.result
    c.in_ok-needed.needed c.requires.refused told
    (omega (arith, c.saturating_sub-ti.ensures, c.begin.ensures.value, c.from.ensures, c.from-2.ensures, at))
    (omega (arith, c.if-ti-from.true, c.from-3.ensures))

pub returns-else-ti-from : goal.returns-else-ti-from
returns-else-ti-from c =
    let tg = c.tg.ensures.value ∙ ap (λ (s : Sender). s.tg) c.sender-sender.ensures in
    let at = c.at.ensures.value ∙ ap (λ (s : Sender). s.at) c.sender-sender.ensures in
    let told : Some c.in_ok-needed.needed ≡ needed_width c.args.table.now.sg c.gap_at-first.result.sender.tg (inner_gaps c.args.table.now) =
    sym c.in_ok-needed.was ∙ c.needed_width.ensures ∙ ap (λ n. needed_width c.args.table.now.sg n (inner_gaps c.args.table.now)) tg in
    interval_far c.args.table.now c.gap_at-first.result c.ti-valid.ensures.valid c.requires.periodic c.gap_at-first.ensures c.saturating_sub-ti.result
    c.in_ok-needed.needed told
    (omega (arith, c.saturating_sub-ti.ensures, c.begin.ensures.value, c.from.ensures, c.from-2.ensures, at))
    (omega (arith, c.if-ti-from.false, c.from-3.ensures))
