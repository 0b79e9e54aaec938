use Rattle.bus_medium.proofs.PastLaws.{length_past, past_at, no_carrier, own_later, own_more, last_push, one_at}
use Rattle.bus_medium.proofs.laws.pasts.Goals as goal

pub returns : goal.returns
returns c = record {
  length = length_past;
  at = past_at;
  silent = no_carrier;
  later = own_later;
  more = own_more;
  last = last_push;
  one = one_at;
}
