-- What margins say of a table holds: what it bears, and of a periodic one what its level means.
use Rattle.std.proofs.Common.{refl}
use Rattle.bus_bounds.specs.Bounds.{Bounds, AreBounds}
use Rattle.bus_table.specs.Tables.{Table}
use Rattle.bus_margins.specs.Bearing.{keeps, borne_with, IsBorne}
use Rattle.bus_margins.specs.Rooms.{level_of}
use Rattle.bus_margins.proofs.BearLemmas.{kept_now}
use Rattle.bus_margins.proofs.BorneLemmas.{is_borne}
use Rattle.bus_margins_periodic.specs.Laws.{IsAsked, TurnsKeepTurns, LeadsFollowOne}
use Rattle.bus_margins_periodic.proofs.BearLemmas.{bears_so}
use Rattle.bus_tool.specs.MarginsClaims.{TellsTurns}

pub told_bears : (bounds : Bounds) (table : Table) → AreBounds bounds
    → IsBorne (keeps bounds table (level_of bounds table)) (borne_with (keeps bounds table (level_of bounds table)))
told_bears bounds table within =
    is_borne (keeps bounds table (level_of bounds table)) bounds within (λ part. kept_now bounds table (level_of bounds table) part refl)

-- the laws of periodic tables
pub record TurnsLaws : Type 0 where
  pub turns : TurnsKeepTurns
  pub leads : LeadsFollowOne

pub tells_turns : TurnsLaws → (bounds : Bounds) (table : Table) → IsAsked bounds table → TellsTurns bounds table
tells_turns laws bounds table asked = record {
  turns = λ level c start course even begins.
      laws.turns bounds table c start level (record { asked = asked; course = course; even = even; begins = begins });
  leads = λ level c start course even begins.
      laws.leads bounds table c start level (record { asked = asked; course = course; even = even; begins = begins });
  borne = bears_so bounds table asked.range;
}
