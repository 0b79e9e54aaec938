-- What comes of the lines of a stream.
--   came   how it stands behind a line, and what the line made certain
use Rattle.std.specs.Prelude.{◌≡◌, ℕ, List, [], Option, Some, None, Result, Ok, Err, IsOkAnd}
use Rattle.bus_table.specs.Tables.{Table}
use Rattle.bus_bounds.specs.Bounds.{Bounds}
use Rattle.bus_outer.specs.Texts.{Adds}
use Rattle.bus_outer.specs.declared.text_buffer.TextBuffer.{TextBuffer}
use Rattle.bus_text.specs.declared.fault.LineFault.{LineFault}
use Rattle.bus_text.specs.declared.fault.LineFault.TheVariants.{Memory, Refused}
use Rattle.bus_stream.specs.declared.item.Item.{Item}
use Rattle.bus_stream.specs.declared.place.Place.{Place}
use Rattle.bus_stream.specs.declared.reason.StreamReason.{StreamReason}
use Rattle.bus_stream.specs.declared.reason.StreamReason.TheVariants as reason
use Rattle.bus_stream.specs.Items.{item_of}
use Rattle.bus_stream.specs.Places.{place_after}
use Rattle.bus_watch.specs.declared.state.State.{State}
use Rattle.bus_watch.specs.Standing.{AddsFront}
use Rattle.bus_watch.specs.Streams.{text_of, with_item}

pub record Came : Type 0 where
  pub state : State
  pub text : List ℕ

-- Of an item that may come, behind which all is told up to a place.
abbrev pub came_to : Bounds → Table → State → ℕ → Item → Option Place → Result Came StreamReason
came_to bounds table s number item None = Err reason.Order
came_to bounds table s number item (Some place) =
    Ok (record { state = with_item bounds table s item place; text = text_of bounds table s number item })

abbrev pub came_by : Bounds → Table → State → ℕ → Result Item StreamReason → Result Came StreamReason
came_by bounds table s number (Err reason) = Err reason
came_by bounds table s number (Ok item) = came_to bounds table s number item (place_after s.place item)

-- What comes of a line behind the first, the one of a number, or why it is refused.
abbrev pub came_of : Bounds → Table → State → ℕ → List ℕ → Result Came StreamReason
came_of bounds table s number line = came_by bounds table s number (item_of line)

-- What a line makes certain: nothing where it is refused.
abbrev pub text_in : Result Came StreamReason → List ℕ
text_in (Ok came) = came.text
text_in (Err reason) = []

-- A call took a line: it puts all that the line makes certain; nothing where it is refused; and a front of it where memory ran out.
abbrev pub PutsLine : {K T : Type 0} → (K → Option (List ℕ)) → (K → ℕ) → K → K → TextBuffer → TextBuffer → State
    → Result T (LineFault StreamReason) → Result Came StreamReason → Type 0
PutsLine held faults k k' old new s (Ok x) came = IsOkAnd came (λ c. Adds held faults k k' old new c.text × (s ≡ c.state))
PutsLine held faults k k' old new s (Err (Refused why)) came = (came ≡ Err why) × Adds held faults k k' old new []
PutsLine held faults k k' old new s (Err Memory) came = AddsFront held faults k k' old new (text_in came)
