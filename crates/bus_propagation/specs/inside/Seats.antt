-- A sender on the cable as the rules read it.
use Rattle.bus_propagation.specs.declared.seat.Seat.{Seat}
use Rattle.bus_medium.specs.Lawful.{Station}

-- What the rules read of a sender.
abbrev pub station_of : Seat → Station
station_of seat = record { number = seat.terminal; timing = seat.timing; hand = seat.messages.items }
