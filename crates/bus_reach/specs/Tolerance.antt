-- How long a cable an aperiodic table bears. Whether a table bears delays up to d is asked of tables that the verdict accepts.
--
--   0       TG 1      TG 2          TG 3                SG
--   |--d--..|..--2d--..|....--2d--....|.....--2d--......|
use Rattle.std.specs.Prelude.{ℕ, ◌+◌, ◌*◌, Bool, true, ◌&&◌, ◌||◌, ◌==◌, nat_le, nat_lt, List, [], ◌∷◌, ◌++◌, map, length}
use Rattle.std.specs.List.{list_all}
use Rattle.bus_table.specs.Tables.{Sender, Table}

-- Whether length b is greater than length a by more than twice d.
abbrev pub is_apart : ℕ → ℕ → ℕ → Bool
is_apart d a b = nat_lt (a + 2 * d) b

-- Whether a sender's terminal gap is no less than d, and a synchronization gap and each longer terminal gap are greater than it by more
-- than twice d.
abbrev pub leaves_room : ℕ → ℕ → List Sender → Sender → Bool
leaves_room d sg senders a =
    nat_le d a.tg && (is_apart d a.tg sg && list_all (λ b. nat_le b.tg a.tg || is_apart d a.tg b.tg) senders)

-- Whether an accepted aperiodic table bears delays up to d: a sender alone bears any.
abbrev pub lengths_bear : Table → ℕ → Bool
lengths_bear table d = length table.senders == 1 || list_all (leaves_room d table.sg table.senders) table.senders

-- The same by neighbours: whether each of these lengths is greater than the one before by more than twice d.
abbrev pub stand_apart : ℕ → List ℕ → Bool
stand_apart d [] = true
stand_apart d (a ∷ []) = true
stand_apart d (a ∷ b ∷ gaps) = is_apart d a b && stand_apart d (b ∷ gaps)

-- Whether the terminal gap of the first of these is no less than d.
abbrev pub no_less : ℕ → List Sender → Bool
no_less d [] = true
no_less d (first ∷ others) = nat_le d first.tg

-- Whether that is so of the terminal gaps in turn order, with the synchronization gap behind them.
abbrev pub neighbours_leave_room : ℕ → ℕ → List Sender → Bool
neighbours_leave_room d sg order = no_less d order && stand_apart d (map (λ sender. sender.tg) order ++ sg ∷ [])
