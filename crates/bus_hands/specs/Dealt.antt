-- The hands that a messages text gives the senders of a table, or why it gives none.
use Rattle.std.specs.Prelude.{◌≡◌, ℕ, List, Vec, Result, Ok, Err}
use Rattle.std.specs.declared.alloc.Global.{Global}
use Rattle.bus_text.specs.AllOf.{◌>>=◌}
use Rattle.bus_text.specs.Refusals.{Refusal}
use Rattle.bus_text.specs.declared.error.TextError.{TextError}
use Rattle.bus_text.specs.declared.error.TextError.TheVariants as texts
use Rattle.bus_text.specs.declared.reason.Reason.{Reason}
use Rattle.bus_strings.specs.Items.{Item}
use Rattle.bus_strings.specs.Reading.{messages_reading}
use Rattle.bus_table.specs.declared.fit.FitError.{FitError}
use Rattle.bus_hands.specs.declared.error.HandsError.{HandsError}
use Rattle.bus_hands.specs.declared.error.HandsError.TheVariants.{Text, Unfit, Memory}
use Rattle.bus_table.specs.Fits.{items_fit}
use Rattle.bus_table.specs.Hands.{hands_of}
use Rattle.bus_table.specs.Tables.{Table, Hand}

-- The error of a messages text, as one of its hands.
abbrev pub text_error : TextError Reason → HandsError
text_error (texts.Text line reason) = Text line reason
text_error texts.Memory = Memory

-- The items of a text, or why there are none.
abbrev pub items_or_error : Result (List Item) Refusal → Result (List Item) HandsError
items_or_error (Ok items) = Ok items
items_or_error (Err refusal) = Err (Text refusal.line refusal.reason)

-- The hands of items, where each fits its sender.
abbrev pub hands_or_error : Result (Unit {0}) FitError → List Hand → Result (List Hand) HandsError
hands_or_error (Ok fit) hands = Ok hands
hands_or_error (Err error) hands = Err (Unfit error)

-- What a text gives the senders of a table: it is a messages text, and each of its items fits its sender.
abbrev pub hands_reading : Table → List ℕ → Result (List Hand) HandsError
hands_reading table text =
    items_or_error (messages_reading text) >>= λ items. hands_or_error (items_fit table items) (hands_of table items)

-- An error is that of the reading; want of memory says nothing of it.
abbrev pub HandsFail : HandsError → Result (List Hand) HandsError → Type 0
HandsFail (Text line reason) reading = reading ≡ Err (Text line reason)
HandsFail (Unfit error) reading = reading ≡ Err (Unfit error)
HandsFail Memory reading = Unit {0}

-- A call answered what the reading gives, unless memory ran out.
abbrev pub GivesHands : Result (Vec Hand Global) HandsError → Result (List Hand) HandsError → Type 0
GivesHands (Ok hands) reading = reading ≡ Ok hands.items
GivesHands (Err error) reading = HandsFail error reading
