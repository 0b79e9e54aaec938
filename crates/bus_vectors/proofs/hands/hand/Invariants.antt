use Rattle.std.proofs.Common.{◌≡◌, map}
use Rattle.std.specs.List.{range_with_len}
use Rattle.bus_vectors.proofs.ItemLemmas.{made_message}
use Rattle.bus_vectors.proofs.hands.hand.Given as goal

abbrev pub invariant-loop-round : goal.invariant-loop-round
invariant-loop-round l = l.messages.items ≡ map (made_message l.number l.i) (range_with_len 0 l.round)
