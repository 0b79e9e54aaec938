-- Every accepted table bears a delay of 0, and what is borne is borne for less, in either mode.
use Rattle.std.proofs.Common.{◌≡◌, ◌≤◌, true, arith, refl, ◌∙◌}
use Rattle.bus_table.specs.declared.mode.Mode.{Mode}
use Rattle.bus_table.specs.declared.mode.Mode.TheVariants.{Aperiodic, Periodic}
use Rattle.bus_schedule.proofs.FineGaps.{accepted_bears_none}
use Rattle.bus_reach.specs.Bearing.{bears}
use Rattle.bus_reach.specs.Laws.{ZeroIsBorne, ShorterIsBorne}
use Rattle.bus_reach.specs.PeriodicLaws.{AcceptedBearZero, BorneForLess, PeriodicBearingIsExact}
use Rattle.bus_reach.proofs.Modes.{in_periodic}

pub accepted_bear_zero : ZeroIsBorne → AcceptedBearZero
accepted_bear_zero aperiodic table valid accepted = by_mode table.mode refl
  where
    by_mode : (mode : Mode) → table.mode ≡ mode → bears table 0 ≡ true
    by_mode Aperiodic is = aperiodic table valid is
    by_mode Periodic is = in_periodic table 0 is ∙ accepted_bears_none table valid is accepted

pub borne_for_less : ShorterIsBorne → PeriodicBearingIsExact → BorneForLess
borne_for_less aperiodic exact table less most valid accepted low borne = by_mode table.mode refl
  where
    by_mode : (mode : Mode) → table.mode ≡ mode → bears table less ≡ true
    by_mode Aperiodic is = aperiodic table less most is low borne
    by_mode Periodic is =
        (exact table less valid is accepted).1
        (λ hands delay even delays. (exact table most valid is accepted).0 borne hands delay even
        (record { own = delays.own; within = λ n i x j. let k : delay x n ≤ less = delays.within n i x j in omega arith }))
