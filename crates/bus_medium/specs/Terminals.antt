-- A terminal as contracts see it.
--   core: its timers. hand: its messages. sent: how many of them it has begun.
--   running: the bit time of the message begun last at which it is, if that message is still running.
use Rattle.std.specs.Prelude.{ℕ, ◌+◌, ◌-◌, Bool, false, nat_lt, [], slice_index_or, Option, Some, None, if◌then◌else◌}
use Rattle.std.specs.Option.{option_map_or, option_and_then}
use Rattle.bus_strings.specs.Messages.{Message, bits}
use Rattle.bus_strings.specs.Pulses.{is_on}
use Rattle.bus_table.specs.Tables.{Hand}

-- Its timers, its hand, how many of its messages are begun, and the bit time of the one that runs.
pub record Terminal (C : Type 0) : Type 0 where
  pub core : C
  pub hand : Hand
  pub sent : ℕ
  pub running : Option ℕ

-- The message of a hand that was begun last.
abbrev pub last_begun : Hand → ℕ → Message
last_begun hand sent = slice_index_or hand.messages (sent - 1) []

-- Whether the running message has a pulse on the present bit time.
abbrev pub sounds : {C : Type 0} → Terminal C → Bool
sounds terminal = option_map_or (λ d. is_on (last_begun terminal.hand terminal.sent) d) terminal.running false

-- The terminal with its next message begun, its timers having become these.
abbrev pub with_begun : {C : Type 0} → Terminal C → C → Terminal C
with_begun terminal core = record { core = core; hand = terminal.hand; sent = terminal.sent + 1; running = Some 0 }

-- A bit time later in a message: behind its last bit time nothing runs.
abbrev pub next_place : Message → ℕ → Option ℕ
next_place message d = if nat_lt (d + 1) (bits message) then Some (d + 1) else None

-- The terminal a bit time later, its timers having become these.
abbrev pub with_passed : {C : Type 0} → Terminal C → C → Terminal C
with_passed terminal core = record {
  core = core;
  hand = terminal.hand;
  sent = terminal.sent;
  running = option_and_then
      (next_place (last_begun terminal.hand terminal.sent)) terminal.running;
}
