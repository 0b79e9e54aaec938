-- Rounds of a bus whose clocks aren't exact: who speaks when, told without timers.
use Rattle.std.specs.Prelude.{◌≡◌, ℕ, zero, suc, ◌+◌, ◌<◌, ◌≤◌, ◌⊎◌, nat_lt, cond, List, [], ◌∷◌}
use Rattle.bus_clocks.specs.Buses.{Bus, sum_below}
use Rattle.bus_clocks.specs.Entries.{Entry, end_of}
use Rattle.bus_clocks.specs.Courses.{Course, HasMore}

-- Where all has ended at moment v that began before, and sender a is next, it starts no earlier than this: at the beginning of a round,
-- where it is the first one, its synchronization gap comes before its terminal gap.
abbrev pub earliest : Bus → ℕ → ℕ → ℕ
earliest bus zero v = v + bus.sg_short 0 + bus.tg_short 0
earliest bus (suc a) v = v + bus.tg_short (suc a)

-- And no later than this.
abbrev pub latest : Bus → ℕ → ℕ → ℕ
latest bus zero v = v + bus.delay + bus.sg_long 0 + bus.tg_long 0
latest bus (suc a) v = v + bus.delay + bus.tg_long (suc a)

-- Who is next behind sender a.
abbrev pub next : ℕ → ℕ → ℕ
next senders a = cond (nat_lt (suc a) senders) (suc a) 0

-- Up to the horizon these transmissions of a course are rounds of all senders in turn order, with nothing missing, where sender a is next
-- and all that came before has ended at moment v. Where none follows and anybody has more messages, the horizon comes no later than sender
-- a would start.
abbrev pub InRounds : Bus → Course → ℕ → ℕ → List Entry → Type 0
InRounds bus c a v [] = (k : ℕ) → k < bus.senders → HasMore c k → c.horizon ≤ latest bus a v
InRounds bus c a v (x ∷ list) = (x.sender ≡ a) × (earliest bus a v ≤ x.moment) × (x.moment ≤ latest bus a v)
    × InRounds bus c (next bus.senders a) (end_of x) list

-- How long all senders take at most, each once, from a gap on: the delay, the terminal gap and the transmission.
abbrev pub most_spoken : Bus → ℕ
most_spoken bus = sum_below (λ k. bus.delay + bus.tg_long k + bus.longest k) bus.senders

-- How long a round takes at least, from the beginning of a sender's transmission to the next one of it.
abbrev pub least_round : Bus → ℕ
least_round bus = bus.sg_short 0 + sum_below (λ k. bus.tg_short k + bus.shortest k) bus.senders

-- And at most.
abbrev pub most_round : Bus → ℕ
most_round bus = bus.sg_long 0 + most_spoken bus

-- Behind transmission x the next one of its sender comes no earlier and no later than so many ticks; or where none comes any more,
-- and the sender has more messages, the horizon comes before.
abbrev pub Follows : ℕ → ℕ → Course → Entry → List Entry → Type 0
Follows least most c x [] = HasMore c x.sender → c.horizon ≤ x.moment + most
Follows least most c x (y ∷ list) =
    ((y.sender ≡ x.sender) × (x.moment + least ≤ y.moment) × (y.moment ≤ x.moment + most))
    ⊎ ((y.sender ≡ x.sender → ⊥) × Follows least most c x list)

-- It is so of each of these transmissions.
abbrev pub AreSpaced : ℕ → ℕ → Course → List Entry → Type 0
AreSpaced least most c [] = Unit {0}
AreSpaced least most c (x ∷ list) = Follows least most c x list × AreSpaced least most c list
