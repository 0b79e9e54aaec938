use Rattle.std.proofs.Common.{sym, ◌∙◌}
use Rattle.bus_hands.proofs.DealLemmas.{tried_dealt, kept_dealt}
use Rattle.bus_hands.proofs.reading.deal_item.Goals as goal

pub returns-in_ok-deal-clause-dealt : goal.returns-in_ok-deal-clause-dealt
returns-in_ok-deal-clause-dealt c = λ done k dealt.
    tried_dealt c.args.k c.args.senders.now done c.args.item c.args.deal.now.hands.items c.try_item.new.hands.items c.args.deal.now.fit c.in_ok-deal.field-0 k dealt (sym c.is_ok.ensures.value ∙ c.if-is_ok.true) c.in_ok-deal.ensures.tried

pub returns-else-is_ok-clause-dealt : goal.returns-else-is_ok-clause-dealt
returns-else-is_ok-clause-dealt c = λ done k dealt.
    kept_dealt c.args.senders.now done c.args.item c.args.deal.now.hands.items c.args.deal.now.fit dealt (sym c.is_ok.ensures.value ∙ c.if-is_ok.false)
