-- Why an item doesn't fit its sender, and where it stands.
use Rattle.std.specs.Prelude.{ℕ, ◌+◌, ◌-◌, ◌==◌, List, [], ◌∷◌, length, get_or, slice_get, Option, Some, None, if◌then◌else◌}
use Rattle.std.specs.Option.{option_map_or}
use Rattle.bus_text.specs.Lines.{entries_of, line_after_of}
use Rattle.bus_strings.specs.Items.{Item}
use Rattle.bus_table.specs.declared.fit.FitError.{FitError}
use Rattle.bus_table.specs.declared.fit.FitError.TheVariants as fit
use Rattle.bus_table.specs.Fits.{allows, sender_of}
use Rattle.bus_table.specs.declared.line.SendLine.{SendLine}
use Rattle.bus_table.specs.Tables.{Sender, Table}
pub use Rattle.bus_diagnosis.specs.declared.misfit.Misfit.{Misfit}
pub use Rattle.bus_diagnosis.specs.declared.misfit.Misfit.TheVariants.{Stranger, Strings, Words}
pub use Rattle.bus_diagnosis.specs.declared.misfit.Unfit.{Unfit}

-- The first of these wordstrings, from the one of number k on, whose number of data words its line doesn't allow; where there is none,
-- their number.
abbrev pub words_misfit : (count k : ℕ) → List SendLine → List (List ℕ) → Misfit
words_misfit count k [] strings = Strings count count
words_misfit count k (line ∷ sends) [] = Strings count count
words_misfit count k (line ∷ sends) (string ∷ strings) =
    if allows line (length string) then words_misfit count (k + 1) sends strings else Words k (length string) line.least line.most

-- Why wordstrings aren't those of SEND lines: there are more or fewer, or else one has too many or too few data words.
abbrev pub shape_misfit : List SendLine → List (List ℕ) → Misfit
shape_misfit sends strings =
    if length strings == length sends then words_misfit (length strings) 1 sends strings else Strings (length strings) (length sends)

-- Why wordstrings aren't those of a sender, or of none.
abbrev pub sender_misfit : Option Sender → List (List ℕ) → Misfit
sender_misfit None strings = Stranger
sender_misfit (Some sender) strings = shape_misfit sender.sends strings

-- Why an item doesn't fit the sender of its terminal.
abbrev pub misfit_of : Table → Item → Misfit
misfit_of table item = sender_misfit (sender_of table.senders item.terminal) item.strings

-- The physical line of the line at a place, counted from 0, of those that aren't skipped; one past the last where there is none.
abbrev pub line_at : List ℕ → ℕ → ℕ
line_at text place = option_map_or (λ entry. entry.number) (slice_get (entries_of text) place) (line_after_of text)

-- Which item doesn't fit, counted from 1.
abbrev pub item_number : FitError → ℕ
item_number (fit.Stranger item) = item
item_number (fit.Shape item) = item

-- No item.
abbrev pub nobody : Item
nobody = record { terminal = 0; strings = [] }

-- The item of this number among these, as one that doesn't fit. So many lines stand between the first line of the text and the items.
abbrev pub unfit_at : Table → List ℕ → (before : ℕ) → List Item → (item : ℕ) → Unfit
unfit_at table text before items item =
    let at = get_or items (item - 1) nobody in
    record { item = item; line = line_at text (before + item); terminal = at.terminal; misfit = misfit_of table at }
