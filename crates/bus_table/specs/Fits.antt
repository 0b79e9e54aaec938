-- Which messages fit a sender, and which items of a messages text give such messages.
--   item    a terminal and the data words of one of its messages, without labels
--   fits    has the labels and extensions of the SEND lines in order, and from least to most data words on each
use Rattle.std.specs.Prelude.{ℕ, ◌+◌, Bool, true, false, ◌&&◌, ◌==◌, nat_le, List, [], ◌∷◌, length, Option, Some, None}
use Rattle.std.specs.Prelude.{Result, Ok, Err, if◌then◌else◌}
use Rattle.std.specs.List.{find}
use Rattle.bus_text.specs.AllOf.{◌>>=◌}
use Rattle.bus_strings.specs.Items.{Item}
use Rattle.bus_strings.specs.Messages.{Message}
use Rattle.bus_table.specs.declared.fit.FitError.{FitError}
use Rattle.bus_table.specs.declared.fit.FitError.TheVariants.{Stranger, Shape}
use Rattle.bus_table.specs.Tables.{SendLine, Sender, Table}

-- Whether a line may have so many data words.
abbrev pub allows : SendLine → ℕ → Bool
allows line words = nat_le line.least words && nat_le words line.most

-- Whether wordstrings have the labels and extensions of the lines in order, and each a number of data words that passes the test.
abbrev pub matches : (SendLine → ℕ → Bool) → List SendLine → Message → Bool
matches test [] [] = true
matches test [] (string ∷ message) = false
matches test (line ∷ sends) [] = false
matches test (line ∷ sends) (string ∷ message) =
    string.label == line.label && (string.ext == line.ext && (test line (length string.words) && matches test sends message))

-- Whether a message fits a sender.
abbrev pub fits : Sender → Message → Bool
fits sender message = matches allows sender.sends message

-- Whether a message of a sender has the least data words on each line.
abbrev pub is_shortest : Sender → Message → Bool
is_shortest sender message = matches (λ line words. words == line.least) sender.sends message

-- Whether a message of a sender has the most data words on each line.
abbrev pub is_longest : Sender → Message → Bool
is_longest sender message = matches (λ line words. words == line.most) sender.sends message

-- Whether there are as many strings as lines, and on each line a number of data words that it may have.
abbrev pub has_shape : List SendLine → List (List ℕ) → Bool
has_shape [] [] = true
has_shape [] (string ∷ strings) = false
has_shape (line ∷ sends) [] = false
has_shape (line ∷ sends) (string ∷ strings) = allows line (length string) && has_shape sends strings

-- The sender of a number.
abbrev pub sender_of : List Sender → ℕ → Option Sender
sender_of senders number = find (λ sender. sender.number == number) senders

-- Item k, for a sender, or for none.
abbrev pub shape_fit : ℕ → Option Sender → List (List ℕ) → Result (Unit {0}) FitError
shape_fit k None strings = Err (Stranger k)
shape_fit k (Some sender) strings = if has_shape sender.sends strings then Ok tt else Err (Shape k)

-- Whether item k fits the sender of its terminal.
abbrev pub item_fit : ℕ → List Sender → Item → Result (Unit {0}) FitError
item_fit k senders item = shape_fit k (sender_of senders item.terminal) item.strings

-- The first of these items that doesn't fit its sender, the first being item k.
abbrev pub fit_from : ℕ → List Sender → List Item → Result (Unit {0}) FitError
fit_from k senders [] = Ok tt
fit_from k senders (item ∷ items) = item_fit k senders item >>= λ _. fit_from (k + 1) senders items

-- Whether every item fits its sender, or else the first that doesn't; items are counted from 1.
abbrev pub items_fit : Table → List Item → Result (Unit {0}) FitError
items_fit table items = fit_from 1 table.senders items
