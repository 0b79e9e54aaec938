use Rattle.std.proofs.Common.{◌≡◌, ◌==◌, [], take, drop}
use Rattle.bus_table.specs.Whole.{first_again}
use Rattle.bus_table.proofs.whole.gap_twice.Given as goal

abbrev pub invariant-loop-k : goal.invariant-loop-k
invariant-loop-k l = first_again (λ a b. a.tg == b.tg) (take l.k l.senders) (drop l.k l.senders) ≡ first_again (λ a b. a.tg == b.tg) [] l.senders
