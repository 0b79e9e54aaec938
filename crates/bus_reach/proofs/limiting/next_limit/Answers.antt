use Rattle.std.proofs.Common.{ℕ, ◌+◌, ◌*◌, ◌<◌, ◌≤◌, ◌↔◌, subst, ◌∙◌}
use Rattle.bus_reach.proofs.LimitLemmas.{next_found}
use Rattle.bus_reach.proofs.limiting.next_limit.Goals as goal

pub returns : goal.returns
returns c =
    next_found c.args.table.now c.args.sender.now c.number.result c.from.result c.args.next c.room_between.result c.ti-valid.ensures.valid c.number.ensures.value
    (c.from.ensures ∙ c.tg.ensures.value)
    (subst (λ n. (d : ℕ) → (d ≤ c.room_between.result) ↔ (c.from.result + 2 * d < n)) c.from-2.ensures c.room_between.ensures) c.requires.most
