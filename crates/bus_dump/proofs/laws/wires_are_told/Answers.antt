use Rattle.std.proofs.Common.{ap, ltb}
use Rattle.bus_dump.specs.Signals.{Bit}
use Rattle.bus_dump.proofs.LawLemmas.{carrier_seen, garbled_seen, held_seen, pulse_seen}
use Rattle.bus_dump.proofs.NumberLemmas.{sync_seen}
use Rattle.bus_dump.proofs.BreachLemmas.{breach_told}
use Rattle.bus_dump.proofs.laws.wires_are_told.Goals as goal

pub returns-clause-carrier : goal.returns-clause-carrier
returns-clause-carrier c dump breach table list t = ap Bit (carrier_seen list t)

pub returns-clause-pulses : goal.returns-clause-pulses
returns-clause-pulses c dump breach table list t n = ap Bit (pulse_seen list t n)

pub returns-clause-overlaps : goal.returns-clause-overlaps
returns-clause-overlaps c dump breach table list t = ap (λ k. Bit (ltb 1 k)) (held_seen list t)

pub returns-clause-garbled : goal.returns-clause-garbled
returns-clause-garbled c dump breach table list t n = ap Bit (garbled_seen list t n)

pub returns-clause-sync : goal.returns-clause-sync
returns-clause-sync c dump breach table list t = ap Bit (sync_seen list t)

pub returns-clause-breach : goal.returns-clause-breach
returns-clause-breach c dump breach table list t = record { told = breach_told breach t }
