-- What the ticks of offsets tell. The contract of `laws::offsets_are_marked` says that this law holds.
use Rattle.std.specs.Prelude.{◌≡◌, ◌↔◌, ℕ, ◌+◌, ◌*◌, ◌<◌, ◌≤◌, IsTrue}
use Rattle.bus_strings.specs.Members.{In}
use Rattle.bus_pen.specs.declared.scale.Scale.{Scale}
use Rattle.bus_table.specs.Tables.{Sender, Table}
use Rattle.bus_table.specs.Timers.{due_of}
use Rattle.bus_table.specs.Valid.{is_valid}
use Rattle.bus_table.specs.declared.mode.Mode.TheVariants.{Periodic}
use Rattle.bus_picture.specs.Offsets.{offset_moments}

-- A moment of a scale at which a sender should start, as the table says: whole transmit intervals behind the moment at which it is due, no
-- more of them than it held messages.
pub record IsOffset (scale : Scale) (table : Table) (held : ℕ) (sender : Sender) (t : ℕ) : Type 0 where
  pub round : ℕ
  pub left : round < held
  pub at : t ≡ due_of table sender + round * table.ti
  pub from : scale.from ≤ t
  pub to : t < scale.to

-- In periodic mode a sender that held so many messages has a tick at each of these moments, and at no other.
abbrev pub OffsetsAreMarked : Type 0
OffsetsAreMarked =
    (scale : Scale) (table : Table) (held : ℕ) (sender : Sender) (t : ℕ) → IsTrue (is_valid table) → In sender table.senders
    → table.mode ≡ Periodic → In t (offset_moments scale table.ti sender.at held) ↔ IsOffset scale table held sender t
