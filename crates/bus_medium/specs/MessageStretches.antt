-- Whole stretches of bit times of a terminal.
use Rattle.std.specs.Prelude.{◌≡◌, ◌↔◌, ℕ, ◌+◌, ◌<◌, ◌≤◌, Bool, IsTrue, not, nat_lt, List, length, Option, Some, None}
use Rattle.std.specs.Prelude.{MatchOption, if◌then◌else◌}
use Rattle.std.specs.Option.{option_and_then}
use Rattle.bus_timers.specs.declared.timing.Timing.{Timing}
use Rattle.bus_timers.specs.declared.cores.Core.{Ghosts}
use Rattle.bus_timers.specs.MayStart.{MayStart}
use Rattle.bus_timers.specs.Wait.{IsWait}
use Rattle.bus_strings.specs.Messages.{Message, bits}
use Rattle.bus_strings.specs.Pulses.{is_on}
use Rattle.bus_medium.specs.Terminals.{Terminal, last_begun}

-- From its bit time d on, n bit times of the message are all on or all quiet.
abbrev pub IsSteady : Message → ℕ → ℕ → Type 0
IsSteady message d n = (k : ℕ) → k < n → is_on message (d + k) ≡ is_on message d

-- And no more than n.
pub record IsStretch (message : Message) (d n : ℕ) : Type 0 where
  pub some : 1 ≤ n
  pub steady : IsSteady message d n
  pub changes : is_on message (d + n) ≡ not (is_on message d)

-- What runs of a terminal, if anything does, stays on or quiet for n bit times.
abbrev pub StaysFor : {C : Type 0} → Terminal C → ℕ → Type 0
StaysFor terminal n = MatchOption terminal.running (Unit {0}) (λ d. IsSteady (last_begun terminal.hand terminal.sent) d n)

-- How long it does: none where nothing runs.
abbrev pub StretchOf : {C : Type 0} → Terminal C → Option ℕ → Type 0
StretchOf terminal stretch =
    MatchOption stretch (terminal.running ≡ None)
    (λ n. (d : ℕ) × (terminal.running ≡ Some d) × IsStretch (last_begun terminal.hand terminal.sent) d n)

-- No message of the terminal runs, and one is left.
pub record IsFree {C : Type 0} (terminal : Terminal C) : Type 0 where
  pub idle : terminal.running ≡ None
  pub unsent : terminal.sent < length terminal.hand.messages

-- It tells whether the terminal begins its next message: whether its core may start, none of its messages runs, and one is left.
abbrev pub TellsStart : {C : Type 0} → Ghosts C → Terminal C → Bool → Type 0
TellsStart core terminal begins =
    (timing : Timing) (past : List Bool) (last : Option ℕ) → core.stands terminal.core timing past last
    → (IsTrue begins ↔ (MayStart timing past last × (terminal.running ≡ None) × (terminal.sent < length terminal.hand.messages)))

-- How long the terminal waits on a quiet bus: none where a message runs or none is left.
abbrev pub QuietWait : {C : Type 0} → Ghosts C → Terminal C → Option ℕ → Type 0
QuietWait core terminal None = IsFree terminal → ⊥
QuietWait core terminal (Some wait) =
    IsFree terminal
    × ((timing : Timing) (past : List Bool) (last : Option ℕ) → core.stands terminal.core timing past last
    → IsWait timing past last wait)

-- N bit times later in a message: behind its last bit time nothing runs.
abbrev pub later_place : Message → ℕ → ℕ → Option ℕ
later_place message n d = if nat_lt (d + n) (bits message) then Some (d + n) else None

-- The terminal n bit times later, its timers having become these.
abbrev pub with_passed_many : {C : Type 0} → Terminal C → ℕ → C → Terminal C
with_passed_many terminal n core = record {
  core = core;
  hand = terminal.hand;
  sent = terminal.sent;
  running = option_and_then (later_place (last_begun terminal.hand terminal.sent) n) terminal.running;
}
