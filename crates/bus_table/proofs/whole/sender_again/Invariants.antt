use Rattle.std.proofs.Common.{◌≡◌, ◌==◌, [], take, drop}
use Rattle.bus_table.specs.Whole.{first_again, sender_numbers}
use Rattle.bus_table.proofs.whole.sender_again.Given as goal

abbrev pub invariant-loop-k : goal.invariant-loop-k
invariant-loop-k l = first_again (λ n m. n == m) (take l.k (sender_numbers l.senders)) (drop l.k (sender_numbers l.senders)) ≡ first_again (λ n m. n == m) [] (sender_numbers l.senders)
