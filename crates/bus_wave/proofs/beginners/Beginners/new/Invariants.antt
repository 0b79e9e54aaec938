use Rattle.std.proofs.Common.{◌≡◌, ℕ, ◌<◌, ◌≤◌, length, get_or, drop}
use Rattle.bus_wave.specs.inside.Beginning.{sender_at}
use Rattle.bus_wave.specs.Judging.{beginner}
use Rattle.bus_wave.proofs.beginners.Beginners.new.Given as goal

-- the senders from this place on are placed
abbrev pub invariant-loop-place : goal.invariant-loop-place
invariant-loop-place l = record {
  within : l.place ≤ length l.senders;
  all : length l.places.items ≡ 65536;
  found : (value : ℕ) → value < 65536 → sender_at l.senders (get_or l.places.items value 0) ≡ beginner (drop l.place l.senders) value;
}

abbrev pub decreases-loop-place : goal.decreases-loop-place
decreases-loop-place l = l.place
