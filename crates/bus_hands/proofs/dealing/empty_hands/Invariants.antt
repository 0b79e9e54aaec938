use Rattle.std.proofs.Common.{◌≡◌, [], map, take}
use Rattle.bus_table.specs.Hands.{hand_of}
use Rattle.bus_hands.proofs.dealing.empty_hands.Given as goal

abbrev pub invariant-loop-sender : goal.invariant-loop-sender
invariant-loop-sender l = l.hands.items ≡ map (hand_of []) (take l.sender-index l.senders)
