-- Which texts stand for which tables.
-- Line: what one line of a table text says. A text says the lines of its table in order; between them may stand lines that are skipped.
use Rattle.std.specs.Prelude.{◌≡◌, ℕ, true, List, [], ◌∷◌, ◌++◌, map, codes, Option, Some, None}
use Rattle.std.specs.List.{flat_map}
use Rattle.bus_text.specs.Lines.{Entry, entries_of}
use Rattle.bus_text.specs.Numbers.{IsDecimal, IsHexadecimal}
use Rattle.bus_table.specs.declared.mode.Mode.{Mode}
use Rattle.bus_table.specs.declared.mode.Mode.TheVariants.{Aperiodic, Periodic}
use Rattle.bus_table.specs.Tables.{SendLine, TakeLine, Sender, Listener, Table}
use Rattle.bus_table.specs.Valid.{is_in_range}

-- What a line says.
pub data Line : Type 0 where
  TableLine : Line
  ModeLine : (mode : Mode) → Line
  TiLine : (ti : ℕ) → Line
  SgLine : (sg : ℕ) → Line
  SenderLine : (number tg at : ℕ) → Line
  Sends : (line : SendLine) → Line
  Takes : (line : TakeLine) → Line
  ListenerLine : (number : ℕ) → Line

-- A sender block: the SENDER line, the SEND lines, the TAKE lines.
abbrev pub sender_lines : Sender → List Line
sender_lines sender = SenderLine sender.number sender.tg sender.at ∷ map Sends sender.sends ++ map Takes sender.takes

-- A listener block: the LISTENER line, the TAKE lines.
abbrev pub listener_lines : Listener → List Line
listener_lines listener = ListenerLine listener.number ∷ map Takes listener.takes

-- The four lines at the head, the sender blocks, the listener blocks.
abbrev pub lines_of : Table → List Line
lines_of table =
    TableLine ∷ ModeLine table.mode ∷ TiLine table.ti ∷ SgLine table.sg
    ∷ flat_map sender_lines table.senders ++ flat_map listener_lines table.listeners

-- How a mode is spelled.
abbrev pub mode_word : Mode → List ℕ
mode_word Aperiodic = codes "aperiodic"
mode_word Periodic = codes "periodic"

-- A keyword and a number.
pub record IsNumberLine (keyword : List ℕ) (n : ℕ) (fields : List (List ℕ)) : Type 0 where
  pub number : List ℕ
  pub parts : fields ≡ keyword ∷ number ∷ []
  pub value : IsDecimal number n

-- A SENDER line of an aperiodic table.
pub record IsSenderLine (n tg : ℕ) (fields : List (List ℕ)) : Type 0 where
  pub number : List ℕ
  pub gap : List ℕ
  pub parts : fields ≡ codes "SENDER" ∷ number ∷ codes "TG" ∷ gap ∷ []
  pub number_is : IsDecimal number n
  pub gap_is : IsDecimal gap tg

-- A SENDER line of a periodic table, which has an offset.
pub record IsOffsetLine (n tg at : ℕ) (fields : List (List ℕ)) : Type 0 where
  pub number : List ℕ
  pub gap : List ℕ
  pub offset : List ℕ
  pub parts : fields ≡ codes "SENDER" ∷ number ∷ codes "TG" ∷ gap ∷ codes "AT" ∷ offset ∷ []
  pub number_is : IsDecimal number n
  pub gap_is : IsDecimal gap tg
  pub offset_is : IsDecimal offset at

-- A SEND line.
pub record IsSendLine (line : SendLine) (fields : List (List ℕ)) : Type 0 where
  pub label : List ℕ
  pub ext : List ℕ
  pub least : List ℕ
  pub most : List ℕ
  pub parts : fields ≡ codes "SEND" ∷ label ∷ ext ∷ least ∷ most ∷ []
  pub label_is : IsHexadecimal 3 label line.label
  pub ext_is : IsHexadecimal 1 ext line.ext
  pub least_is : IsDecimal least line.least
  pub most_is : IsDecimal most line.most

-- An extension, or `*` for every extension.
abbrev pub IsExtField : Option ℕ → List ℕ → Type 0
IsExtField None field = field ≡ codes "*"
IsExtField (Some ext) field = IsHexadecimal 1 field ext

-- A TAKE line.
pub record IsTakeLine (line : TakeLine) (fields : List (List ℕ)) : Type 0 where
  pub label : List ℕ
  pub ext : List ℕ
  pub first : List ℕ
  pub count : List ℕ
  pub parts : fields ≡ codes "TAKE" ∷ label ∷ ext ∷ first ∷ count ∷ []
  pub label_is : IsHexadecimal 3 label line.label
  pub ext_is : IsExtField line.ext ext
  pub first_is : IsDecimal first line.first
  pub count_is : IsDecimal count line.count

-- The fields of a SENDER line, which are those of the mode.
abbrev pub IsSenderOf : Mode → (n tg at : ℕ) → List (List ℕ) → Type 0
IsSenderOf Aperiodic n tg at fields = IsSenderLine n tg fields
IsSenderOf Periodic n tg at fields = IsOffsetLine n tg at fields

-- The fields of a line, in a table of this mode.
abbrev pub IsLine : Mode → Line → List (List ℕ) → Type 0
IsLine mode TableLine fields = fields ≡ codes "TABLE" ∷ codes "1" ∷ []
IsLine mode (ModeLine m) fields = fields ≡ codes "MODE" ∷ mode_word m ∷ []
IsLine mode (TiLine ti) fields = IsNumberLine (codes "TI") ti fields
IsLine mode (SgLine sg) fields = IsNumberLine (codes "SG") sg fields
IsLine mode (SenderLine n tg at) fields = IsSenderOf mode n tg at fields
IsLine mode (Sends line) fields = IsSendLine line fields
IsLine mode (Takes line) fields = IsTakeLine line fields
IsLine mode (ListenerLine n) fields = IsNumberLine (codes "LISTENER") n fields

-- One line of the text for each of these lines.
abbrev pub AreLines : Mode → List Line → List Entry → Type 0
AreLines mode [] [] = Unit {0}
AreLines mode [] (entry ∷ entries) = ⊥
AreLines mode (line ∷ lines) [] = ⊥
AreLines mode (line ∷ lines) (entry ∷ entries) = IsLine mode line entry.fields × AreLines mode lines entries

-- A text stands for a table, valid or not.
pub record IsTableText (table : Table) (text : List ℕ) : Type 0 where
  pub ranges : is_in_range table ≡ true
  pub lines : AreLines table.mode (lines_of table) (entries_of text)
