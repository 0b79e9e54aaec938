use Rattle.std.proofs.Common.{◌≡◌, ℕ, ◌<◌, ◌==◌, length, get_or, None}
use Rattle.std.specs.Prelude.{position}
use Rattle.bus_hands.proofs.places.Places.new.Given as goal

abbrev pub invariant-loop-number : goal.invariant-loop-number
invariant-loop-number l = record {
  all : length l.by_number ≡ 256;
  told : (n : ℕ) → n < l.number → get_or l.by_number n None ≡ position (λ sender. sender.number == n) l.senders;
}
