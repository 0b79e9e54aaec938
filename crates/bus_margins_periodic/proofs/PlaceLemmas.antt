-- What the sender at a place of turn order has.
use Rattle.std.proofs.Common.{◌≡◌, ℕ, zero, suc, ◌+◌, max, ◌<◌, ◌≤◌, List, [], ◌∷◌, length, Some, None, arith, refl, ap}
use Rattle.std.specs.Prelude.{slice_get, IsTrue}
use Rattle.bus_table.specs.Lengths.{shortest, longest}
use Rattle.bus_table.specs.Tables.{Sender, Table}
use Rattle.bus_table.specs.Timers.{quiet_of}
use Rattle.bus_table.specs.Turns.{turn_order}
use Rattle.bus_table.specs.Valid.{is_valid}
use Rattle.bus_table.proofs.TurnLaws.{order_length}
use Rattle.bus_table.proofs.ValidLaws.{valid_facts}
use Rattle.bus_bounds.specs.Bounds.{Bounds}
use Rattle.bus_margins_periodic.specs.Texts.{number_at}
use Rattle.bus_margins.specs.Times.{least_time, most_time}
use Rattle.bus_margins.specs.Buses.{at_place, bus_of}
use Rattle.bus_margins_periodic.specs.Buses.{soon_by, late_by, soon_of, late_of}

pub placed : (f : Sender → ℕ) (order : List Sender) (k : ℕ) (a : Sender) → slice_get order k ≡ Some a → at_place f order k ≡ f a
placed f [] k a h = absurd (let w : None ≡ Some a = h in cc)
placed f (b ∷ order) zero a h = ap f (let w : Some b ≡ Some a = h in cc)
placed f (b ∷ order) (suc k) a h = placed f order k a h

pub count_is : (table : Table) → length (turn_order table) ≡ length table.senders
count_is table = order_length table

pub some_senders : (table : Table) → IsTrue (is_valid table) → 0 < length table.senders
some_senders table valid = (valid_facts table valid).some

pub few_senders : (table : Table) → IsTrue (is_valid table) → length table.senders ≤ 128
few_senders table valid = (valid_facts table valid).few

pub tg_short_is : (bounds : Bounds) (table : Table) (k : ℕ) (a : Sender) → slice_get (turn_order table) k ≡ Some a → (bus_of bounds table).tg_short k ≡ least_time bounds a.tg
tg_short_is bounds table k a h = placed (λ a. least_time bounds a.tg) (turn_order table) k a h

pub tg_long_is : (bounds : Bounds) (table : Table) (k : ℕ) (a : Sender) → slice_get (turn_order table) k ≡ Some a → (bus_of bounds table).tg_long k ≡ most_time bounds a.tg
tg_long_is bounds table k a h = placed (λ a. most_time bounds a.tg) (turn_order table) k a h

pub shortest_is : (bounds : Bounds) (table : Table) (k : ℕ) (a : Sender) → slice_get (turn_order table) k ≡ Some a → (bus_of bounds table).shortest k ≡ least_time bounds (shortest a)
shortest_is bounds table k a h = placed (λ a. least_time bounds (shortest a)) (turn_order table) k a h

pub longest_is : (bounds : Bounds) (table : Table) (k : ℕ) (a : Sender) → slice_get (turn_order table) k ≡ Some a → (bus_of bounds table).longest k ≡ most_time bounds (longest a)
longest_is bounds table k a h = placed (λ a. most_time bounds (longest a)) (turn_order table) k a h

pub soon_is : (bounds : Bounds) (table : Table) (k : ℕ) (a : Sender) → slice_get (turn_order table) k ≡ Some a
    → soon_of bounds table k ≡ least_time bounds (quiet_of table + a.at)
soon_is bounds table k a h = placed (soon_by bounds table) (turn_order table) k a h

pub late_is : (bounds : Bounds) (table : Table) (k : ℕ) (a : Sender) → slice_get (turn_order table) k ≡ Some a
    → late_of bounds table k ≡ max (most_time bounds (quiet_of table + a.at)) (most_time bounds table.sg + most_time bounds a.tg) + bounds.delay
late_is bounds table k a h = placed (late_by bounds table) (turn_order table) k a h

pub number_is : (table : Table) (k : ℕ) (a : Sender) → slice_get (turn_order table) k ≡ Some a → number_at table k ≡ a.number
number_is table k a h = placed (λ a. a.number) (turn_order table) k a h

-- behind the last there is none
none_placed : (f : Sender → ℕ) (order : List Sender) (k : ℕ) → length order ≤ k → at_place f order k ≡ 0
none_placed f [] k behind = refl
none_placed f (b ∷ order) zero behind = absurd (omega arith)
none_placed f (b ∷ order) (suc k) behind = none_placed f order k (omega arith)

pub number_behind : (table : Table) (k : ℕ) → length (turn_order table) ≤ k → number_at table k ≡ 0
number_behind table k behind = none_placed (λ a. a.number) (turn_order table) k behind
