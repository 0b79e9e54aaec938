use Rattle.bus_timers.proofs.GapStepLaws.{gap_settled, gap_started, gap_quiet, gap_carrier_elapsed, gap_carrier_waiting, gap_one, gap_ready}
use Rattle.bus_timers.proofs.GapStretchLaws.{gap_quiets, gap_carriers_elapsed, gap_carriers_waiting}
use Rattle.bus_timers.proofs.laws.gap_place_moves.Goals as goal

pub returns : goal.returns
returns c = record {
  settled = gap_settled;
  started = gap_started;
  quiet = gap_quiet;
  carrier = gap_carrier_elapsed;
  waiting_carrier = gap_carrier_waiting;
  one = gap_one;
  quiets = gap_quiets;
  carriers = gap_carriers_elapsed;
  waiting_carriers = gap_carriers_waiting;
  decides = gap_ready;
}
