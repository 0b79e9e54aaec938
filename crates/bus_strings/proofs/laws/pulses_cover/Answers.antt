use Rattle.bus_strings.proofs.PulsesAlongLaws.{first_is_on, last_is_on, quiet_behind, pulse_soon, on_within_pulse, next_pulse, last_pulse_ends}
use Rattle.bus_strings.proofs.laws.pulses_cover.Goals as goal

pub returns : goal.returns
returns c = record {
  first = first_is_on;
  last = last_is_on;
  behind = quiet_behind;
  soon = pulse_soon;
  within = on_within_pulse;
  next = next_pulse;
  ends = last_pulse_ends;
}
