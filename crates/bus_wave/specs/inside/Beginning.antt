-- The senders by the label words with which their messages begin, as the code keeps them.
use Rattle.std.specs.Prelude.{◌≡◌, ℕ, zero, suc, ◌<◌, List, length, Option, None, slice_get, slice_index_or}
use Rattle.bus_table.specs.Tables.{Sender}
use Rattle.bus_wave.specs.Judging.{beginner}

-- The sender at a place, counted from 1.
abbrev pub sender_at : List Sender → ℕ → Option Sender
sender_at senders zero = None
sender_at senders (suc k) = slice_get senders k

-- For each label word the place of the sender whose messages begin with it, or 0.
pub record ArePlaces (senders : List Sender) (places : List ℕ) : Type 0 where
  pub all : length places ≡ 65536
  pub found : (value : ℕ) → value < 65536 → sender_at senders (slice_index_or places value 0) ≡ beginner senders value
