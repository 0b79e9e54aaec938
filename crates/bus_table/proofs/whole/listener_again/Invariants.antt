use Rattle.std.proofs.Common.{◌≡◌, ◌==◌, ◌++◌, take, drop}
use Rattle.bus_table.specs.Whole.{first_again, sender_numbers, listener_numbers}
use Rattle.bus_table.proofs.whole.listener_again.Given as goal

abbrev pub invariant-loop-k : goal.invariant-loop-k
invariant-loop-k l = first_again (λ n m. n == m) (sender_numbers l.senders ++ take l.k (listener_numbers l.listeners)) (drop l.k (listener_numbers l.listeners)) ≡ first_again (λ n m. n == m) (sender_numbers l.senders) (listener_numbers l.listeners)
