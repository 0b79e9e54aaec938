use Rattle.std.proofs.Common.{◌≡◌, sym, subst, Option}
use Rattle.std.specs.Prelude.{IsSomeAnd}
use Rattle.bus_table.specs.Tables.{Sender}
use Rattle.bus_schedule.proofs.uneven.number_at.Goals as goal

pub returns : goal.returns
returns c =
    subst (λ (at : Option Sender). IsSomeAnd at (λ (sender : Sender). c.number.result ≡ sender.number)) (sym c.turn_at.ensures) c.number.ensures.value
