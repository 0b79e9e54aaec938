use Rattle.std.proofs.Common.{nat_eq, sym, subst, List, map}
use Rattle.std.specs.List.{IsDistinct}
use Rattle.bus_table.specs.Tables.{Sender}
use Rattle.bus_hands.proofs.DealLemmas.{dealt_fit}
use Rattle.bus_table.proofs.ValidLaws.{valid_facts}
use Rattle.bus_hands.proofs.reading.read_hands.Goals as goal

pub deal_lines-requires-clause-distinct : goal.deal_lines-requires-clause-distinct
deal_lines-requires-clause-distinct c =
    subst (λ (ss : List Sender). IsDistinct nat_eq (map (λ s. s.number) ss)) (sym c.senders.ensures.value) (valid_facts c.args.table.now c.senders.ensures.valid).numbers

pub returns-in-Ok-fit-clause-fit : goal.returns-in-Ok-fit-clause-fit
returns-in-Ok-fit-clause-fit c =
    let all = c.in_ok-deal.ensures.dealt in
    dealt_fit c.args.table.now c.senders.result.now all.0 c.in_ok-deal.deal.hands.items c.in_ok-deal.deal.fit c.senders.ensures.value c.senders.ensures.valid all.2 c.in-Ok-fit.is
