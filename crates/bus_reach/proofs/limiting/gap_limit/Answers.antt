use Rattle.std.proofs.Common.{◌≡◌, arith, ap, ◌∙◌}
use Rattle.bus_table.specs.Tables.{Sender}
use Rattle.bus_reach.proofs.LimitLemmas.{gap_found}
use Rattle.bus_reach.proofs.limiting.gap_limit.Goals as goal

pub returns : goal.returns
returns c =
    let tg : c.from.result ≡ c.args.gap.now.sender.tg = c.from.ensures ∙ c.tg.ensures.value ∙ ap (λ (s : Sender). s.tg) c.sender-sender.ensures in
    gap_found c.args.table.now c.args.gap.now c.number.result _ c.requires.wide c.requires.most
    (c.number.ensures.value ∙ ap (λ (s : Sender). s.number) c.sender-sender.ensures) (omega (arith, c.end.ensures.value, c.begin.ensures.value, tg))
