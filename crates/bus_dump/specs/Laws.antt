-- What follows of the definitions. The contracts of `laws` say that each of these holds.
use Rattle.std.specs.Prelude.{◌≡◌, ◌≢◌, ◌↔◌, ◌⊎◌, ℕ, ◌-◌, ◌*◌, ◌/◌, ◌%◌, ◌<◌, ◌≤◌, Bool, true, false, ◌&&◌, ◌||◌, ◌==◌, nat_le, nat_lt}
use Rattle.std.specs.Prelude.{List, [], ◌++◌, length, slice_get, Option, Some, None, IsTrue, if◌then◌else◌}
use Rattle.std.specs.List.{AllByRecursion, count_by, filter, flat_map, list_any, range_with_len}
use Rattle.std.specs.Option.{is_some, option_map_or}
use Rattle.bus_strings.specs.Limits.{word_bits}
use Rattle.bus_strings.specs.Members.{In}
use Rattle.bus_strings.specs.Messages.{Entry}
use Rattle.bus_strings.specs.Transmissions.{IsOrdered, carrier, end_of, garbled, overlaps, pulses}
use Rattle.bus_table.specs.Tables.{Sender, Table}
use Rattle.bus_table.specs.Valid.{is_valid}
use Rattle.bus_regime.specs.Lines.{verdict_words}
use Rattle.bus_regime.specs.Verdicts.{verdict_of}
use Rattle.bus_trace.specs.Runs.{HasNoFeed}
use Rattle.bus_trace.specs.Traces.{Recording, IsTrace}
use Rattle.bus_trace.specs.Windows.{IsWindow, Window, holds as holds_time, whole}
use Rattle.bus_dump.specs.declared.dump.Dump.{Dump}
use Rattle.bus_dump.specs.Doubled.{doubled}
use Rattle.bus_dump.specs.DumpTexts.{changes, changes_at, dump_text, end_of_dump, id_text, name_text, stamp, units, value_line}
use Rattle.bus_dump.specs.Lanes.{Lane, is_sender, lanes, sends}
use Rattle.bus_dump.specs.OnBus.{Bit as StringBit, bit_at, label_value, sync_bits, word_at}
use Rattle.bus_dump.specs.Reading.{identifier, read_named}
use Rattle.bus_dump.specs.Scenes.{Scene, scene_at}
use Rattle.bus_dump.specs.Seen.{holds, number_of}
use Rattle.bus_dump.specs.Signals.{Signal, Carrier, Overlap, Sync, Breach, Word, Pulse, Garbled, Label, Message, Bit, Floating, Number}
use Rattle.bus_dump.specs.Signals.{Unknown, has, signals, value}
use Rattle.bus_dump.specs.Stamps.{StampsAre, stamped}

-- ---- texts
-- A dump of a window has a bit time of a trace.
pub record IsDumped (window : Window) (trace : Recording) (t : ℕ) : Type 0 where
  pub held : holds_time window t ≡ true
  pub below : t < trace.horizon

-- A reader of Value Change Dumps finds in a dump, by the name of each of its signals, its value at each bit time that it has.
abbrev pub DumpsAreRead : Type 0
DumpsAreRead =
    (dump : Dump) (window : Window) (breach : Option ℕ) (comment : List ℕ) (table : Table) (trace : Recording) (t : ℕ) (signal : Signal)
    → IsTrue (is_valid table) → IsTrace trace → IsWindow window → HasNoFeed comment → IsDumped window trace t
    → In signal (signals dump (lanes table trace.list))
    → read_named (name_text signal) (units * t) (dump_text dump window breach comment table trace)
    ≡ Some (value signal (scene_at dump breach table trace.list t))

-- So it is of the dumps that are written of traces on a table, whose comment is the words of its verdict.
abbrev pub WrittenDumpsAreRead : Table → Type 0
WrittenDumpsAreRead table =
    (dump : Dump) (window : Window) (breach : Option ℕ) (trace : Recording) (t : ℕ) (signal : Signal)
    → IsTrue (is_valid table) → IsTrace trace → IsWindow window → IsDumped window trace t
    → In signal (signals dump (lanes table trace.list))
    → read_named (name_text signal) (units * t) (dump_text dump window breach (verdict_words (verdict_of table)) table trace)
    ≡ Some (value signal (scene_at dump breach table trace.list t))

-- A dump declares for the name of each of its signals the identifier of it, and different signals have different identifiers.
abbrev pub NamesAreDeclared : Type 0
NamesAreDeclared =
    (dump : Dump) (window : Window) (breach : Option ℕ) (comment : List ℕ) (table : Table) (trace : Recording) (signal : Signal)
    → IsTrue (is_valid table) → IsTrace trace
    → HasNoFeed comment → In signal (signals dump (lanes table trace.list))
    → identifier (name_text signal) (dump_text dump window breach comment table trace) ≡ Some (id_text signal)

-- No two signals of a dump have the same identifier.
abbrev pub IdentifiersDiffer : Type 0
IdentifiersDiffer =
    (dump : Dump) (table : Table) (list : List Entry) (a b : Signal) → IsTrue (is_valid table)
    → In a (signals dump (lanes table list)) → In b (signals dump (lanes table list)) → id_text a ≡ id_text b → a ≡ b

-- The bit times that have a stamp in the dump of a window.
abbrev pub stamped_in : Dump → Window → Option ℕ → Table → Recording → List ℕ
stamped_in dump window breach table trace =
    stamped (signals dump (lanes table trace.list)) (scene_at dump breach table trace.list) window.from
    (end_of_dump window trace.horizon)

-- The stamps of a dump are those of its first bit time, of each at which something changes, and of its end, and rise strictly.
abbrev pub StampsAreTold : Type 0
StampsAreTold =
    (dump : Dump) (window : Window) (breach : Option ℕ) (comment : List ℕ) (table : Table) (trace : Recording)
    → IsTrue (is_valid table) → IsTrace trace → IsWindow window → HasNoFeed comment
    → StampsAre (stamped_in dump window breach table trace) window.from (end_of_dump window trace.horizon)
    (dump_text dump window breach comment table trace)

-- So it is of the dumps that are written of traces on a table.
abbrev pub WrittenStampsAreTold : Table → Type 0
WrittenStampsAreTold table =
    (dump : Dump) (window : Window) (breach : Option ℕ) (trace : Recording) → IsTrue (is_valid table) → IsTrace trace → IsWindow window
    → StampsAre (stamped_in dump window breach table trace) window.from (end_of_dump window trace.horizon)
    (dump_text dump window breach (verdict_words (verdict_of table)) table trace)

-- At a bit time behind the first no signal has another value than before, and nothing is written of it.
pub record StaysSame (signals : List Signal) (scene : ℕ → Scene) (t : ℕ) : Type 0 where
  pub same : AllByRecursion (λ signal. value signal (scene (t - 1)) ≡ value signal (scene t)) signals
  pub text : changes_at signals scene t ≡ []

-- Or one has, and the stamp of the bit time is written, and the value of each that has another.
pub record Changes (signals : List Signal) (scene : ℕ → Scene) (t : ℕ) : Type 0 where
  pub signal : Signal
  pub there : In signal signals
  pub other : value signal (scene (t - 1)) ≢ value signal (scene t)
  pub which : (s : Signal)
      → (changes (scene (t - 1)) (scene t) s ≡ true) ↔ (value s (scene (t - 1)) ≢ value s (scene t))
  pub text : changes_at signals scene t
      ≡ stamp t ++ flat_map (value_line (scene t)) (filter (changes (scene (t - 1)) (scene t)) signals)

-- At each bit time either nothing changes, or a stamp is put and what changes.
abbrev pub NothingIsIdle : Type 0
NothingIsIdle = (signals : List Signal) (scene : ℕ → Scene) (t : ℕ) → StaysSame signals scene t ⊎ Changes signals scene t

-- ---- lanes
-- How many of the lanes are of a terminal.
abbrev pub lane_count : Table → List Entry → ℕ → ℕ
lane_count table list n = count_by (λ (lane : Lane). lane.terminal == n) (lanes table list)

-- Each sender of the table has one lane, and so has each terminal that sends in the list; no other has any. A lane tells whether its
-- terminal is a sender.
pub record LanesAgree (table : Table) (list : List Entry) : Type 0 where
  pub senders : (sender : Sender) → In sender table.senders → lane_count table list sender.number ≡ 1
  pub sending : (x : Entry) → In x list → lane_count table list x.terminal ≡ 1
  pub others : (n : ℕ) → is_sender table n ≡ false → sends list n ≡ false → lane_count table list n ≡ 0
  pub some : (lane : Lane) → In lane (lanes table list) → (is_sender table lane.terminal || sends list lane.terminal) ≡ true
  pub kind : (lane : Lane) → In lane (lanes table list) → lane.sender ≡ is_sender table lane.terminal

-- The lanes of a trace on a valid table agree with its terminals.
abbrev pub LanesAreTerminals : Type 0
LanesAreTerminals = (table : Table) (trace : Recording) → IsTrue (is_valid table) → IsTrace trace → LanesAgree table trace.list

-- ---- wires
-- The carrier is that of the list.
abbrev pub CarrierIsTold : Type 0
CarrierIsTold =
    (dump : Dump) (breach : Option ℕ) (table : Table) (list : List Entry) (t : ℕ)
    → value Carrier (scene_at dump breach table list t) ≡ Bit (carrier list t)

-- A terminal has a pulse where one of its transmissions has.
abbrev pub PulsesAreTold : Type 0
PulsesAreTold =
    (dump : Dump) (breach : Option ℕ) (table : Table) (list : List Entry) (t n : ℕ)
    → value (Pulse n) (scene_at dump breach table list t) ≡ Bit (list_any (λ (x : Entry). x.terminal == n && pulses t x) list)

-- There is an overlap where the spans of two transmissions or more hold the bit time.
abbrev pub OverlapsAreTold : Type 0
OverlapsAreTold =
    (dump : Dump) (breach : Option ℕ) (table : Table) (list : List Entry) (t : ℕ)
    → value Overlap (scene_at dump breach table list t) ≡ Bit (nat_lt 1 (count_by (holds t) list))

-- The wire of the breach is 1 at a bit time exactly where that is its moment.
pub record BreachAgrees (dump : Dump) (breach : Option ℕ) (table : Table) (list : List Entry) (t : ℕ) : Type 0 where
  pub told : (value Breach (scene_at dump breach table list t) ≡ Bit true) ↔ (breach ≡ Some t)

-- At each bit time the wire of the breach agrees with its moment.
abbrev pub BreachIsTold : Type 0
BreachIsTold =
    (dump : Dump) (breach : Option ℕ) (table : Table) (list : List Entry) (t : ℕ) → BreachAgrees dump breach table list t

-- A terminal is garbled where the span of a garbled transmission of it holds the bit time.
abbrev pub GarbledAreTold : Type 0
GarbledAreTold =
    (dump : Dump) (breach : Option ℕ) (table : Table) (list : List Entry) (t n : ℕ)
    → value (Garbled n) (scene_at dump breach table list t)
    ≡ Bit (list_any (λ k. option_map_or (λ x. holds t x && x.terminal == n && garbled list k) (slice_get list k) false)
    (range_with_len 0 (length list)))

-- ---- words and numbers
-- The bit time of a wordstring that a transmission has on the bus at bit time t, and None where it is quiet.
abbrev pub bit_on : ℕ → Entry → Option StringBit
bit_on t x = if nat_le x.moment t then bit_at x.message (t - x.moment) else None

-- Whether a transmission has one of the first bit times of a word on the bus, its sync.
abbrev pub is_in_sync : ℕ → Entry → Bool
is_in_sync t x = option_map_or (λ (bit : StringBit). nat_lt (bit.at % word_bits) sync_bits) (bit_on t x) false

-- There is sync where a transmission is in it.
abbrev pub SyncIsTold : Type 0
SyncIsTold =
    (dump : Dump) (breach : Option ℕ) (table : Table) (list : List Entry) (t : ℕ)
    → value Sync (scene_at dump breach table list t) ≡ Bit (list_any (is_in_sync t) list)

-- A transmission has a bit time of a wordstring on the bus where it has a pulse.
abbrev pub BitsArePulses : Type 0
BitsArePulses = (t : ℕ) (x : Entry) → is_some (bit_on t x) ≡ pulses t x

-- Nothing is on the bus exactly where no transmission has a pulse; where one has, its word is; and what is there can't be told exactly
-- where two or more have one.
pub record WordAgrees (dump : Dump) (breach : Option ℕ) (table : Table) (list : List Entry) (t : ℕ) : Type 0 where
  pub floating : (value Word (scene_at dump breach table list t) ≡ Floating) ↔ (count_by (pulses t) list ≡ 0)
  pub number : (x : Entry) (bit : StringBit) → In x list → bit_on t x ≡ Some bit → count_by (pulses t) list ≡ 1
      → value Word (scene_at dump breach table list t) ≡ Number (word_at bit.string (bit.at / word_bits))
  pub unknown : (value Word (scene_at dump breach table list t) ≡ Unknown) ↔ (1 < count_by (pulses t) list)

-- At each bit time the word agrees with the list.
abbrev pub WordIsTold : Type 0
WordIsTold = (dump : Dump) (breach : Option ℕ) (table : Table) (list : List Entry) (t : ℕ) → WordAgrees dump breach table list t

-- A terminal has the label word of the wordstring that its transmission has on the bus, and none where it has no pulse.
pub record LabelAgrees (dump : Dump) (breach : Option ℕ) (table : Table) (list : List Entry) (t n : ℕ) : Type 0 where
  pub floating : list_any (λ (x : Entry). x.terminal == n && pulses t x) list ≡ false
      → value (Label n) (scene_at dump breach table list t) ≡ Floating
  pub number : (x : Entry) (bit : StringBit) → In x list → x.terminal ≡ n → bit_on t x ≡ Some bit
      → value (Label n) (scene_at dump breach table list t) ≡ Number (label_value bit.string)

-- At each bit time the label of each terminal agrees with the list, where no transmission is doubled.
abbrev pub LabelsAreTold : Type 0
LabelsAreTold =
    (dump : Dump) (breach : Option ℕ) (table : Table) (list : List Entry) (t n : ℕ) → doubled list ≡ None
    → LabelAgrees dump breach table list t n

-- A terminal has the number of its transmission whose span holds the bit time, counted among its own, and none where there is no such.
pub record MessageAgrees (dump : Dump) (breach : Option ℕ) (table : Table) (list : List Entry) (t n : ℕ) : Type 0 where
  pub floating : list_any (λ (x : Entry). x.terminal == n && holds t x) list ≡ false
      → value (Message n) (scene_at dump breach table list t) ≡ Floating
  pub number : (k : ℕ) (x : Entry) → slice_get list k ≡ Some x → x.terminal ≡ n → holds t x ≡ true
      → value (Message n) (scene_at dump breach table list t) ≡ Number (number_of list k n)

-- At each bit time the message number of each terminal agrees with the list, where no transmission is doubled.
abbrev pub MessagesAreTold : Type 0
MessagesAreTold =
    (dump : Dump) (breach : Option ℕ) (table : Table) (list : List Entry) (t n : ℕ) → doubled list ≡ None
    → MessageAgrees dump breach table list t n

-- ---- overlaps
-- A dump shows an overlap at a bit time below the horizon.
pub record OverlapIsShown (dump : Dump) (breach : Option ℕ) (table : Table) (trace : Recording) : Type 0 where
  pub time : ℕ
  pub below : time < trace.horizon
  pub overlap : value Overlap (scene_at dump breach table trace.list time) ≡ Bit true

-- A dump shows a terminal that has a lane garbled at a bit time below the horizon.
pub record GarbledIsShown (dump : Dump) (breach : Option ℕ) (table : Table) (trace : Recording) : Type 0 where
  pub time : ℕ
  pub below : time < trace.horizon
  pub lane : Lane
  pub there : In lane (lanes table trace.list)
  pub garbled : value (Garbled lane.terminal) (scene_at dump breach table trace.list time) ≡ Bit true

-- A dump shows an overlap at some bit time exactly if it shows a terminal garbled at some bit time, and exactly if a transmission of the
-- list is garbled: another overlaps it.
pub record OverlapsAgree (dump : Dump) (breach : Option ℕ) (table : Table) (trace : Recording) : Type 0 where
  pub shown : OverlapIsShown dump breach table trace ↔ GarbledIsShown dump breach table trace
  pub there : OverlapIsShown dump breach table trace ↔ ((k : ℕ) × (garbled trace.list k ≡ true))

-- The overlaps of a dump of a trace on a valid table agree with the list.
abbrev pub OverlapsGarble : Type 0
OverlapsGarble =
    (dump : Dump) (breach : Option ℕ) (table : Table) (trace : Recording) → IsTrue (is_valid table) → IsTrace trace
    → OverlapsAgree dump breach table trace

-- A dump shows no overlap at a bit time: there is none, no terminal is garbled, and what is on the bus can be told.
pub record ShowsNoOverlap (dump : Dump) (breach : Option ℕ) (table : Table) (list : List Entry) (t : ℕ) : Type 0 where
  pub overlap : value Overlap (scene_at dump breach table list t) ≡ Bit false
  pub garbled : (n : ℕ) → value (Garbled n) (scene_at dump breach table list t) ≡ Bit false
  pub word : value Word (scene_at dump breach table list t) ≢ Unknown

-- Of a list in which no two transmissions overlap, as the run of an accepted table, a dump shows none.
abbrev pub ClearListsShowNone : Type 0
ClearListsShowNone =
    (dump : Dump) (breach : Option ℕ) (table : Table) (list : List Entry) (t : ℕ) → IsOrdered (λ x y. overlaps x y ≡ false) list
    → ShowsNoOverlap dump breach table list t

-- ---- nothing is lost
-- A trace is shown whole: no two of its transmissions overlap, and each has ended by the horizon.
pub record IsShownWhole (trace : Recording) : Type 0 where
  pub apart : IsOrdered (λ x y. overlaps x y ≡ false) trace.list
  pub ended : AllByRecursion (λ x. end_of x ≤ trace.horizon) trace.list

-- Two traces on a table, each shown whole, have the same dump of all of them with words, as all but `Wires`, only where they have the same
-- horizon and the same list; whatever breaches they have.
abbrev pub NothingIsLost : Type 0
NothingIsLost =
    (dump : Dump) (first second : Option ℕ) (comment : List ℕ) (table : Table) (a b : Recording) → has dump false Word ≡ true
    → IsTrue (is_valid table)
    → IsTrace a → IsTrace b → HasNoFeed comment → IsShownWhole a → IsShownWhole b
    → dump_text dump (whole a.horizon) first comment table a ≡ dump_text dump (whole b.horizon) second comment table b
    → (a.horizon ≡ b.horizon) × (a.list ≡ b.list)

-- So it is of the dumps that are written of traces on a table.
abbrev pub NothingWrittenIsLost : Table → Type 0
NothingWrittenIsLost table =
    (dump : Dump) (first second : Option ℕ) (a b : Recording) → has dump false Word ≡ true → IsTrue (is_valid table)
    → IsTrace a → IsTrace b → IsShownWhole a → IsShownWhole b
    → dump_text dump (whole a.horizon) first (verdict_words (verdict_of table)) table a
    ≡ dump_text dump (whole b.horizon) second (verdict_words (verdict_of table)) table b
    → (a.horizon ≡ b.horizon) × (a.list ≡ b.list)
