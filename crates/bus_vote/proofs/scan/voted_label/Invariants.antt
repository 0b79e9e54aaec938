use Rattle.std.proofs.Common.{◌≡◌, take}
use Rattle.std.specs.List.{flat_map}
use Rattle.bus_vote.specs.Labels.{sender_channels}
use Rattle.bus_vote.specs.inside.Scans.{seen}
use Rattle.bus_vote.proofs.scan.voted_label.Given as goal

-- the channels of the senders so far are seen
abbrev pub invariant-loop-sender : goal.invariant-loop-sender
invariant-loop-sender l = l.seen ≡ seen (flat_map (sender_channels l.label) (take l.sender-index l.senders))
