-- Places in turn order.
use Rattle.std.specs.Prelude.{slice_get, IsSomeAnd}
use Rattle.std.proofs.Common.{arith, ◌≡◌, ℕ, zero, suc, ◌≤◌, List, [], ◌∷◌, length, refl}
use Rattle.bus_table.specs.Tables.{Sender}
use Rattle.bus_made.specs.Answers.{number_at}

pub number_there : (senders : List Sender) (k n : ℕ) → IsSomeAnd (slice_get senders k) (λ sender. n ≡ sender.number) → n ≡ number_at senders k
number_there [] k n h = absurd h
number_there (a ∷ senders) zero n h = h
number_there (a ∷ senders) (suc k) n h = number_there senders k n h

pub number_behind : (senders : List Sender) (k : ℕ) → length senders ≤ k → 0 ≡ number_at senders k
number_behind [] k l = refl
number_behind (a ∷ senders) zero l = absurd (let m : suc (length senders) ≤ 0 = l in omega (arith, m))
number_behind (a ∷ senders) (suc k) l = number_behind senders k (let m : suc (length senders) ≤ suc k = l in omega (arith, m))
