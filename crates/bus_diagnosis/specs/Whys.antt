-- Why an item doesn't fit, and that it is the first that doesn't.
use Rattle.std.specs.Prelude.{◌≡◌, ◌≢◌, ◌⊎◌, ℕ, ◌-◌, false, IsOk, List, length, take, slice_get, Some, None}
use Rattle.bus_strings.specs.Items.{Item}
use Rattle.bus_table.specs.Fits.{allows, items_fit, sender_of}
use Rattle.bus_table.specs.declared.line.SendLine.{SendLine}
use Rattle.bus_table.specs.Tables.{Sender, Table}
use Rattle.bus_diagnosis.specs.Misfits.{Misfit, Unfit, Stranger, Strings, Words}

-- A wordstring of an item and the SEND line that it stands for, which doesn't allow its number of data words.
pub record IsWrongString (sends : List SendLine) (strings : List (List ℕ)) (string words least most : ℕ) : Type 0 where
  pub line : SendLine
  pub word_list : List ℕ
  pub line_at : slice_get sends (string - 1) ≡ Some line
  pub string_at : slice_get strings (string - 1) ≡ Some word_list
  pub words_are : words ≡ length word_list
  pub least_is : least ≡ line.least
  pub most_is : most ≡ line.most
  pub refused : allows line words ≡ false

-- Why an item doesn't fit a sender: what is told is so.
abbrev pub IsWhy : Sender → Item → Misfit → Type 0
IsWhy sender item Stranger = ⊥
IsWhy sender item (Strings strings lines) = (strings ≡ length item.strings) × (lines ≡ length sender.sends) × (strings ≢ lines)
IsWhy sender item (Words string words least most) = IsWrongString sender.sends item.strings string words least most

-- Why an item doesn't fit the sender of its terminal, or that there is none.
abbrev pub IsMisfit : Table → Item → Misfit → Type 0
IsMisfit table item misfit =
    ((misfit ≡ Stranger) × (sender_of table.senders item.terminal ≡ None))
    ⊎ ((sender : Sender) × (sender_of table.senders item.terminal ≡ Some sender) × IsWhy sender item misfit)

-- All items before it fit, and it doesn't, for this reason.
pub record IsFirstUnfit (table : Table) (items : List Item) (unfit : Unfit) : Type 0 where
  pub item : Item
  pub there : slice_get items (unfit.item - 1) ≡ Some item
  pub before : IsOk (items_fit table (take (unfit.item - 1) items))
  pub terminal : unfit.terminal ≡ item.terminal
  pub why : IsMisfit table item unfit.misfit
