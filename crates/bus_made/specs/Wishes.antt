-- Wishes of how old what is known of a sender may be, and which a table lacks.
use Rattle.std.specs.Prelude.{◌≡◌, ℕ, ◌+◌, ◌-◌, ◌<◌, ◌≤◌, ◌==◌, nat_lt, List, [], ◌∷◌, Option, Some, None, slice_get, if◌then◌else◌}
use Rattle.std.specs.List.{find}
use Rattle.bus_bounds.specs.Bounds.{Bounds}
use Rattle.bus_table.specs.Lengths.{longest}
use Rattle.bus_table.specs.Tables.{Sender, Table}
use Rattle.bus_table.specs.Turns.{turn_order}
use Rattle.bus_margins.specs.Rooms.{most_apart}
use Rattle.bus_margins.specs.Times.{most_time}
use Rattle.bus_design.specs.Ages.{age_of}
use Rattle.bus_made.specs.declared.wish.Wish.{Wish}
use Rattle.bus_made.specs.declared.wish.Lack.{Lack}

-- The worst age of what is known of a sender of this table.
abbrev pub worst_age : Bounds → Table → Sender → ℕ
worst_age bounds table sender = most_apart bounds table + most_time bounds (longest sender) + bounds.delay

-- The first wish of this terminal.
abbrev pub wish_of : List Wish → ℕ → Option Wish
wish_of wishes number = find (λ wish. wish.terminal == number) wishes

-- What is lacking of a wish, where the age is this.
abbrev pub lack_of : ℕ → ℕ → Option Wish → Option Lack
lack_of terminal age None = None
lack_of terminal age (Some wish) = if nat_lt wish.age age then Some (record { terminal = terminal; least = age; wished = wish.age }) else None

-- The one of which more is lacking, the former where of neither.
abbrev pub worse : Option Lack → Option Lack → Option Lack
worse None lack = lack
worse (Some known) None = Some known
worse (Some known) (Some lack) = Some (if nat_lt (known.least - known.wished) (lack.least - lack.wished) then lack else known)

-- That of which most is lacking at these senders, or what is known.
abbrev pub lacking_of : Bounds → Table → List Wish → Option Lack → List Sender → Option Lack
lacking_of bounds table wishes known [] = known
lacking_of bounds table wishes known (a ∷ senders) =
    lacking_of bounds table wishes (worse known (lack_of a.number (worst_age bounds table a) (wish_of wishes a.number))) senders

-- The wish of which most is lacking, the first in turn order of several.
abbrev pub lacking : Bounds → Table → List Wish → Option Lack
lacking bounds table wishes = lacking_of bounds table wishes None (turn_order table)

-- Each wish of a sender is met.
abbrev pub AreMet : Bounds → Table → List Wish → Type 0
AreMet bounds table wishes =
    (place : ℕ) (sender : Sender) (wish : Wish) → slice_get (turn_order table) place ≡ Some sender → wish_of wishes sender.number ≡ Some wish
    → age_of bounds table place ≤ wish.age

-- This much is lacking of the wish of the sender at a place, and of no other wish more.
pub record IsLacking (bounds : Bounds) (table : Table) (wishes : List Wish) (lack : Lack) : Type 0 where
  pub place : ℕ
  pub sender : Sender
  pub wish : Wish
  pub at : slice_get (turn_order table) place ≡ Some sender
  pub asked : wish_of wishes sender.number ≡ Some wish
  pub terminal : lack.terminal ≡ sender.number
  pub wished : lack.wished ≡ wish.age
  pub least : lack.least ≡ age_of bounds table place
  pub short : lack.wished < lack.least
  pub most : (k : ℕ) (other : Sender) (its : Wish) → slice_get (turn_order table) k ≡ Some other → wish_of wishes other.number ≡ Some its
      → age_of bounds table k - its.age ≤ lack.least - lack.wished
