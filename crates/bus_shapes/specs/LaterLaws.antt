-- What a heading says of a late start. The contract of `laws::late_starts_are_next` says that both laws hold.
use Rattle.std.specs.Prelude.{◌≡◌, ℕ, ◌+◌, ◌<◌, ◌≤◌, List, Some, None}
use Rattle.bus_strings.specs.Members.{In}
use Rattle.bus_strings.specs.Messages.{Entry}
use Rattle.bus_strings.specs.Transmissions.{IsByMoment}
use Rattle.bus_shapes.specs.Later.{later}

-- The terminal starts so many bit times behind a moment, and not between.
pub record IsNextStart (list : List Entry) (moment terminal n : ℕ) : Type 0 where
  pub entry : Entry
  pub held : In entry list
  pub own : entry.terminal ≡ terminal
  pub at : entry.moment ≡ moment + n
  pub behind : 0 < n
  pub first : (x : Entry) → In x list → x.terminal ≡ terminal → moment < x.moment → moment + n ≤ x.moment

-- Where a start is told later by so many bit times, it is the next of its terminal.
abbrev pub LaterIsNext : Type 0
LaterIsNext =
    (list : List Entry) (moment terminal n : ℕ) → IsByMoment list → later moment terminal list ≡ Some n
    → IsNextStart list moment terminal n

-- Where none is told, the terminal doesn't start any more.
abbrev pub NoneIsLater : Type 0
NoneIsLater =
    (list : List Entry) (moment terminal : ℕ) (x : Entry) → later moment terminal list ≡ None → In x list → x.terminal ≡ terminal
    → x.moment ≤ moment
