use Rattle.std.proofs.Common.{arith, ap, sym, subst, ◌∙◌, ◌≡◌, ◌<◌, ◌-◌, ℕ, List, take}
use Rattle.std.specs.Prelude.{map}
use Rattle.std.specs.List.{All}
use Rattle.std.proofs.lemmas.List.{take_all}
use Rattle.bus_table.specs.Tables.{Sender}
use Rattle.bus_table.specs.Ranges.{most_tg}
use Rattle.bus_table.proofs.ValidLaws.{valid_facts}
use Rattle.bus_cable_plan.proofs.ByGap.{below_gap}
use Rattle.bus_cable_plan.proofs.Steps.{all_of}
use Rattle.bus_cable_plan.proofs.order.by_gap.Goals as goal

pub with_offsets-requires-clause-below : goal.with_offsets-requires-clause-below
with_offsets-requires-clause-below c =
    let least = (valid_facts c.args.table.now c.senders-senders.ensures.valid).ti_least in
    let senders : List Sender = c.senders-senders.result.now in
    let all : take c.loop-sender.sender-index senders ≡ senders = take_all c.loop-sender.sender-index senders c.loop-sender-test.false in
    let same = c.deref.ensures.value ∙ c.loop-sender.invariant ∙ ap (map (λ (s : Sender). most_tg - s.tg)) all in
    subst (λ (os : List ℕ). All (λ at. at < c.args.table.now.ti) os) (sym same)
    (all_of (λ at. at < c.args.table.now.ti) (map (λ (s : Sender). most_tg - s.tg) senders)
    (below_gap c.args.table.now.ti (omega (arith, least)) senders))
