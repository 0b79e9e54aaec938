-- What comes to a terminal of a list of transmissions, each from the moment on at which it hears it begin.
use Rattle.std.specs.Prelude.{◌≡◌, ℕ, ◌+◌, ◌<◌, ◌≤◌, List, slice_get, Some}
use Rattle.bus_strings.specs.Members.{In}
use Rattle.bus_strings.specs.Messages.{Entry}
use Rattle.bus_medium.specs.Delays.{Delays, heard_end}

-- The moment at which the terminal with this number hears a transmission begin.
abbrev pub heard_begin : Delays → Entry → ℕ → ℕ
heard_begin delay x number = x.moment + delay x number

-- Of those that the terminal hasn't heard to their end at a moment, one comes first, from `begin` to `end`.
pub record ComesFirst (delay : Delays) (number : ℕ) (list : List Entry) (moment begin end : ℕ) : Type 0 where
  pub entry : Entry
  pub there : In entry list
  pub begins : begin ≡ heard_begin delay entry number
  pub ends : end ≡ heard_end delay entry number
  pub ahead : moment < end
  pub first : (y : Entry) → In y list → moment < heard_end delay y number → begin ≤ heard_begin delay y number

-- It has heard all to their end.
abbrev pub NoneComes : Delays → ℕ → List Entry → ℕ → Type 0
NoneComes delay number list moment = (y : Entry) → In y list → heard_end delay y number ≤ moment

-- It has heard to their end those before place `cursor` of the list.
abbrev pub ArePassed : Delays → ℕ → List Entry → ℕ → ℕ → Type 0
ArePassed delay number list cursor moment =
    (i : ℕ) (x : Entry) → i < cursor → slice_get list i ≡ Some x → heard_end delay x number ≤ moment
