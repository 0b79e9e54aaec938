-- The signals of a dump, and the value of each in a scene.
use Rattle.std.specs.Prelude.{ℕ, Bool, true, false, not, ◌&&◌, ◌||◌, ◌==◌, nat_lt, List, [], ◌∷◌, ◌++◌, length, filter, Option, unwrap_or}
use Rattle.std.specs.Bool.{beq}
use Rattle.std.specs.List.{list_any, find, filter_map, flat_map}
use Rattle.std.specs.Option.{option_map, option_map_or, is_some}
use Rattle.bus_dump.specs.declared.dump.Dump.{Dump}
use Rattle.bus_dump.specs.declared.dump.Dump.TheVariants.{Vcd, Wires, Timers}
use Rattle.bus_dump.specs.declared.sender_timers.Elapsed.{Elapsed}
use Rattle.bus_dump.specs.declared.lane.Lane.{Lane}
use Rattle.bus_dump.specs.declared.shown.Seen.{Seen}
use Rattle.bus_dump.specs.declared.shown.Shown.{Shown}
use Rattle.bus_dump.specs.Scenes.{Scene}
pub use Rattle.bus_dump.specs.declared.signal.Signal.{Signal}
pub use Rattle.bus_dump.specs.declared.signal.Signal.TheVariants.{Carrier, Overlap, Sync, Breach, Word, Pulse, Garbled, Label, Message}
pub use Rattle.bus_dump.specs.declared.signal.Signal.TheVariants.{Interval, Synchronization, Gap, May}
pub use Rattle.bus_dump.specs.declared.value.Value.{Value}
pub use Rattle.bus_dump.specs.declared.value.Value.TheVariants.{Bit, Number, Floating, Unknown}

-- ---- what is seen of one transmission
-- Whether it is of a terminal.
abbrev pub is_of : ℕ → Seen → Bool
is_of terminal seen = seen.terminal == terminal

-- Whether it has a pulse.
abbrev pub is_on : Seen → Bool
is_on seen = is_some seen.shown

-- Whether it is in the sync of a word.
abbrev pub is_sync : Seen → Bool
is_sync seen = option_map_or (λ (shown : Shown). shown.sync) seen.shown false

-- The word that it has on the bus.
abbrev pub shown_word : Seen → Option ℕ
shown_word seen = option_map (λ (shown : Shown). shown.word) seen.shown

-- The label word of the wordstring that it has on the bus.
abbrev pub shown_label : Seen → Value
shown_label seen = option_map_or (λ (shown : Shown). Number shown.label) seen.shown Floating

-- ---- values
-- What is on the bus, of these words: nothing, the one, or no one can tell.
abbrev pub word_value : List ℕ → Value
word_value [] = Floating
word_value (word ∷ []) = Number word
word_value (word ∷ (other ∷ words)) = Unknown

-- The words on the bus.
abbrev pub words : List Seen → List ℕ
words seen = filter_map shown_word seen

-- The label word that a terminal has on the bus.
abbrev pub label : ℕ → List Seen → Value
label terminal seen = option_map_or shown_label (find (λ s. is_of terminal s && is_on s) seen) Floating

-- The number of the transmission of a terminal.
abbrev pub message : ℕ → List Seen → Value
message terminal seen = option_map_or (λ (s : Seen). Number s.number) (find (is_of terminal) seen) Floating

-- What is told where no timers are: that nothing has elapsed.
abbrev pub no_elapsed : Elapsed
no_elapsed = record { terminal = 0; interval = false; synchronization = false; gap = false; may = false }

-- Whether this is told of a terminal.
abbrev pub tells_of : ℕ → Elapsed → Bool
tells_of terminal elapsed = elapsed.terminal == terminal

-- What the timers of a terminal tell, of these.
abbrev pub elapsed : ℕ → List Elapsed → Elapsed
elapsed terminal timers = unwrap_or (find (tells_of terminal) timers) no_elapsed

-- The value of a signal in a scene.
abbrev pub value : Signal → Scene → Value
value Carrier scene = Bit (list_any is_on scene.seen)
value Overlap scene = Bit (nat_lt 1 (length scene.seen))
value Sync scene = Bit (list_any is_sync scene.seen)
value Breach scene = Bit scene.breach
value Word scene = word_value (words scene.seen)
value (Pulse terminal) scene = Bit (list_any (λ s. is_of terminal s && is_on s) scene.seen)
value (Garbled terminal) scene = Bit (list_any (λ s. is_of terminal s && s.garbled) scene.seen)
value (Label terminal) scene = label terminal scene.seen
value (Message terminal) scene = message terminal scene.seen
value (Interval terminal) scene = Bit (elapsed terminal scene.timers).interval
value (Synchronization terminal) scene = Bit (elapsed terminal scene.timers).synchronization
value (Gap terminal) scene = Bit (elapsed terminal scene.timers).gap
value (May terminal) scene = Bit (elapsed terminal scene.timers).may

-- Whether two values are the same.
abbrev pub is_same : Value → Value → Bool
is_same (Bit a) (Bit b) = beq a b
is_same (Number a) (Number b) = a == b
is_same Floating Floating = true
is_same Unknown Unknown = true
is_same _ _ = false

-- ---- dumps
-- Whether a signal has one bit.
abbrev pub is_wire : Signal → Bool
is_wire Carrier = true
is_wire Overlap = true
is_wire Sync = true
is_wire Breach = true
is_wire Word = false
is_wire (Pulse terminal) = true
is_wire (Garbled terminal) = true
is_wire (Label terminal) = false
is_wire (Message terminal) = false
is_wire (Interval terminal) = true
is_wire (Synchronization terminal) = true
is_wire (Gap terminal) = true
is_wire (May terminal) = true

-- Whether a signal tells of a timer.
abbrev pub is_timer : Signal → Bool
is_timer Carrier = false
is_timer Overlap = false
is_timer Sync = false
is_timer Breach = false
is_timer Word = false
is_timer (Pulse terminal) = false
is_timer (Garbled terminal) = false
is_timer (Label terminal) = false
is_timer (Message terminal) = false
is_timer (Interval terminal) = true
is_timer (Synchronization terminal) = true
is_timer (Gap terminal) = true
is_timer (May terminal) = true

-- Whether a dump has a signal, of a sender or not.
abbrev pub has : Dump → Bool → Signal → Bool
has Vcd sender signal = not (is_timer signal)
has Wires sender signal = is_wire signal && not (is_timer signal)
has Timers sender signal = sender || not (is_timer signal)

-- The signals of the bus.
abbrev pub bus_signals : Dump → List Signal
bus_signals dump = filter (has dump false) (Carrier ∷ (Overlap ∷ (Sync ∷ (Breach ∷ (Word ∷ [])))))

-- The signals of a lane: of its transmissions, then of its timers.
abbrev pub signals_of : ℕ → List Signal
signals_of terminal =
    Pulse terminal ∷ (Garbled terminal ∷ (Label terminal ∷ (Message terminal
    ∷ (Interval terminal ∷ (Synchronization terminal ∷ (Gap terminal ∷ (May terminal ∷ [])))))))

-- The signals of a lane that a dump has.
abbrev pub lane_signals : Dump → Lane → List Signal
lane_signals dump lane = filter (has dump lane.sender) (signals_of lane.terminal)

-- The signals of a dump with these lanes, in order.
abbrev pub signals : Dump → List Lane → List Signal
signals dump lanes = bus_signals dump ++ flat_map (lane_signals dump) lanes
