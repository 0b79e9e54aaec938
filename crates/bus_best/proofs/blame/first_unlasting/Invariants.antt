use Rattle.std.specs.Prelude.{◌≡◌, drop}
use Rattle.bus_best.specs.Blames.{first_unlasting}
use Rattle.bus_best.proofs.blame.first_unlasting.Given as goal

-- those from here on tell
abbrev pub invariant-loop-place : goal.invariant-loop-place
invariant-loop-place l = first_unlasting l.bounds l.place (drop l.place l.senders) ≡ first_unlasting l.bounds 0 l.senders
