-- What the sentences mean.
use Rattle.std.specs.Prelude.{◌≡◌, ◌⊎◌, ℕ, ◌≤◌, true, IsTrue, IsOk, List, length, Ok}
use Rattle.bus_command.specs.Readers.{text_limit}
use Rattle.bus_strings.specs.Items.{Item}
use Rattle.bus_strings.specs.Marking.{greatest_end}
use Rattle.bus_strings.specs.Reading.{messages_reading}
use Rattle.bus_table.specs.declared.mode.Mode.{Mode}
use Rattle.bus_table.specs.declared.mode.Mode.TheVariants.{Aperiodic, Periodic}
use Rattle.bus_table.specs.Fits.{items_fit}
use Rattle.bus_table.specs.Hands.{hands_of}
use Rattle.bus_table.specs.Tables.{Table, Hand}
use Rattle.bus_table.specs.Valid.{is_valid}
use Rattle.bus_regime.specs.Verdicts.{verdict_of, is_accepted}
use Rattle.bus_schedule.specs.Closed.{closed, closed_end}
use Rattle.bus_schedule.specs.Even.{are_even, rounds as rounds_of}
use Rattle.bus_schedule.specs.Limits.{longest_end}
use Rattle.bus_reach.specs.Schedule.{cable_closed}
use Rattle.bus_cable.specs.Cables as cables
use Rattle.bus_cable.specs.Cables.{delays_on, place_on, wakes_on}
use Rattle.bus_cable.specs.OrderLaws.{IsRunOnPlaces}
use Rattle.bus_cable.specs.Reading.{cable_reading}
use Rattle.bus_trace.specs.Limits.{trace_limit}
use Rattle.bus_trace.specs.Traces.{Recording, HoldsTrace}
use Rattle.bus_diagnosis.specs.Diagnoses.{Unfit as UnfitItem, Runs, OnCable, Recorded, diagnosis_of}
use Rattle.bus_diagnosis.specs.Misfits.{Unfit}
use Rattle.bus_diagnosis.specs.Reaches.{Reach}
use Rattle.bus_diagnosis.specs.Whys.{IsFirstUnfit}

-- Items give the senders of a table even hands of so many messages each.
pub record GiveEvenHands (table : Table) (items : List Item) (rounds : ℕ) : Type 0 where
  pub fit : IsOk (items_fit table items)
  pub even : IsTrue (are_even table (hands_of table items))
  pub count : rounds ≡ rounds_of (hands_of table items)

-- ---- a messages text The text is within its limit, its items give even hands, and their closed schedule ends at this moment, which is
-- within its limit too: all that `run` asks for of an accepted table.
pub record MayRun (table : Table) (text : List ℕ) (rounds end : ℕ) : Type 0 where
  pub within : length text ≤ text_limit
  pub items : List Item
  pub read : messages_reading text ≡ Ok items
  pub hands : GiveEvenHands table items rounds
  pub end_is : end ≡ closed_end table (hands_of table items)
  pub short : end ≤ longest_end

-- With messages of which nothing is wrong the table runs.
abbrev pub RightMessagesRun : Type 0
RightMessagesRun =
    (table : Table) (text : List ℕ) (rounds senders end : ℕ) → IsTrue (is_valid table)
    → diagnosis_of table text ≡ Runs rounds senders end → MayRun table text rounds end

-- ---- an item that doesn't fit
-- A text has these items, be it a messages text or a cable text.
abbrev pub HasItems : List ℕ → List Item → Type 0
HasItems text items = (messages_reading text ≡ Ok items) ⊎ ((cable : cables.Cable) × (cable_reading text ≡ Ok (cable, items)))

-- The item that is named is the first that doesn't fit, and it doesn't for the reason that is told.
abbrev pub NamedItemIsFirst : Type 0
NamedItemIsFirst =
    (table : Table) (text : List ℕ) (unfit : Unfit) → diagnosis_of table text ≡ UnfitItem unfit
    → (items : List Item) × HasItems text items × IsFirstUnfit table items unfit

-- ---- a cable text
-- On a cable with these hands the closed schedule is the run, up to every horizon that isn't before its end.
abbrev pub IsOrderly : Mode → Table → cables.Cable → List Hand → Type 0
IsOrderly Aperiodic table cable hands =
    (horizon : ℕ) → greatest_end (cable_closed (delays_on cable) (wakes_on cable) table hands) ≤ horizon
    → IsRunOnPlaces table hands (place_on cable) (wakes_on cable) horizon (cable_closed (delays_on cable) (wakes_on cable) table hands)
IsOrderly Periodic table cable hands =
    (horizon : ℕ) → closed_end table hands ≤ horizon
    → IsRunOnPlaces table hands (place_on cable) (wakes_on cable) horizon (closed table hands)

-- The cable and the items of a text, with which the senders of a table take turns.
pub record TakesTurns (table : Table) (text : List ℕ) (rounds : ℕ) : Type 0 where
  pub cable : cables.Cable
  pub items : List Item
  pub read : cable_reading text ≡ Ok (cable, items)
  pub hands : GiveEvenHands table items rounds
  pub orderly : IsOrderly table.mode table cable (hands_of table items)

-- On a cable that the table bears its senders take turns.
abbrev pub BorneCablesAreOrderly : Type 0
BorneCablesAreOrderly =
    (table : Table) (text : List ℕ) (rounds senders : ℕ) (reach : Reach) → IsTrue (is_valid table) → IsTrue (is_accepted (verdict_of table))
    → diagnosis_of table text ≡ OnCable rounds senders reach → reach.borne ≡ true → TakesTurns table text rounds

-- ---- a trace text
-- A text of which nothing is wrong begins with the text of a trace of so many transmissions below this horizon.
abbrev pub WholeTracesAreTraces : Type 0
WholeTracesAreTraces =
    (table : Table) (text : List ℕ) (count horizon end : ℕ) → diagnosis_of table text ≡ Recorded count horizon end
    → (trace : Recording) × HoldsTrace trace_limit text trace × (count ≡ length trace.list) × (horizon ≡ trace.horizon)
