-- The text of a dump: its head, the values at its first bit time, the changes, and the last stamp.
use Rattle.std.specs.Prelude.{ℕ, ◌+◌, ◌-◌, ◌*◌, max, min, Bool, true, false, not, nat_eq, nat_lt, List, [], ◌++◌, codes}
use Rattle.std.specs.Prelude.{decimal, map, filter, Option, if◌then◌else◌}
use Rattle.std.specs.List.{list_any, flat_map, range_with_len}
use Rattle.std.specs.Int.Digits.{digits_of}
use Rattle.bus_regime.specs.declared.table_verdict.TableVerdict.{TableVerdict}
use Rattle.bus_regime.specs.Lines.{verdict_words}
use Rattle.bus_table.specs.Tables.{Table}
use Rattle.bus_trace.specs.Traces.{Recording}
use Rattle.bus_trace.specs.Windows.{Window}
use Rattle.bus_dump.specs.declared.dump.Dump.{Dump}
use Rattle.bus_dump.specs.Scenes.{Scene, scene_at}
use Rattle.bus_dump.specs.Signals.{Signal, Carrier, Overlap, Sync, Breach, Word, Pulse, Garbled, Label, Message}
use Rattle.bus_dump.specs.Signals.{Interval, Synchronization, Gap, May}
use Rattle.bus_dump.specs.Signals.{Value, Bit, Number, Floating, Unknown, value, is_same, signals}
use Rattle.bus_dump.specs.Lanes.{lanes}

-- ---- signals
-- The identifier of a signal: a letter, and in a lane the number of the terminal.
abbrev pub id_text : Signal → List ℕ
id_text Carrier = codes "c"
id_text Overlap = codes "o"
id_text Sync = codes "s"
id_text Breach = codes "b"
id_text Word = codes "w"
id_text (Pulse terminal) = codes "p" ++ decimal terminal
id_text (Garbled terminal) = codes "g" ++ decimal terminal
id_text (Label terminal) = codes "l" ++ decimal terminal
id_text (Message terminal) = codes "m" ++ decimal terminal
id_text (Interval terminal) = codes "i" ++ decimal terminal
id_text (Synchronization terminal) = codes "y" ++ decimal terminal
id_text (Gap terminal) = codes "h" ++ decimal terminal
id_text (May terminal) = codes "r" ++ decimal terminal

-- The name of a signal of the lane of a terminal.
abbrev pub lane_name : ℕ → List ℕ → List ℕ
lane_name terminal name = codes "t" ++ decimal terminal ++ name

-- The name of a signal.
abbrev pub name_text : Signal → List ℕ
name_text Carrier = codes "carrier"
name_text Overlap = codes "overlap"
name_text Sync = codes "sync"
name_text Breach = codes "breach"
name_text Word = codes "word"
name_text (Pulse terminal) = lane_name terminal (codes "_pulse")
name_text (Garbled terminal) = lane_name terminal (codes "_garbled")
name_text (Label terminal) = lane_name terminal (codes "_label")
name_text (Message terminal) = lane_name terminal (codes "_message")
name_text (Interval terminal) = lane_name terminal (codes "_ti")
name_text (Synchronization terminal) = lane_name terminal (codes "_sg")
name_text (Gap terminal) = lane_name terminal (codes "_tg")
name_text (May terminal) = lane_name terminal (codes "_may")

-- How many bits a signal has, and which these are where they are several.
abbrev pub width_text : Signal → List ℕ
width_text Carrier = codes "1 "
width_text Overlap = codes "1 "
width_text Sync = codes "1 "
width_text Breach = codes "1 "
width_text Word = codes "16 "
width_text (Pulse terminal) = codes "1 "
width_text (Garbled terminal) = codes "1 "
width_text (Label terminal) = codes "16 "
width_text (Message terminal) = codes "32 "
width_text (Interval terminal) = codes "1 "
width_text (Synchronization terminal) = codes "1 "
width_text (Gap terminal) = codes "1 "
width_text (May terminal) = codes "1 "

-- The bits of a signal, behind its name, where it has several.
abbrev pub bits_text : Signal → List ℕ
bits_text Carrier = []
bits_text Overlap = []
bits_text Sync = []
bits_text Breach = []
bits_text Word = codes " [15:0]"
bits_text (Pulse terminal) = []
bits_text (Garbled terminal) = []
bits_text (Label terminal) = codes " [15:0]"
bits_text (Message terminal) = codes " [31:0]"
bits_text (Interval terminal) = []
bits_text (Synchronization terminal) = []
bits_text (Gap terminal) = []
bits_text (May terminal) = []

-- The declaration of a signal.
abbrev pub declaration : Signal → List ℕ
declaration signal =
    codes "$var wire " ++ width_text signal ++ id_text signal ++ codes " " ++ name_text signal ++ bits_text signal ++ codes " $end\n"

-- ---- values
-- A number in binary digits, from the highest one.
abbrev pub binary : ℕ → List ℕ
binary n = if nat_eq n 0 then codes "0" else map (λ digit. 48 + digit) (digits_of 2 n)

-- A value, before the identifier of its signal.
abbrev pub value_text : Value → List ℕ
value_text (Bit true) = codes "1"
value_text (Bit false) = codes "0"
value_text (Number n) = codes "b" ++ binary n ++ codes " "
value_text Floating = codes "bz "
value_text Unknown = codes "bx "

-- The line of the value that a signal has in a scene.
abbrev pub value_line : Scene → Signal → List ℕ
value_line scene signal = value_text (value signal scene) ++ id_text signal ++ codes "\n"

-- ---- changes
-- How many units of 100 ns a bit time has.
abbrev pub units : ℕ
units = 5

-- The stamp of a bit time.
abbrev pub stamp : ℕ → List ℕ
stamp t = codes "#" ++ decimal (units * t) ++ codes "\n"

-- Whether a signal has another value in the scene now than in the one before.
abbrev pub changes : Scene → Scene → Signal → Bool
changes before now signal = not (is_same (value signal before) (value signal now))

-- The stamp of bit time t and the value of each signal that changes there.
unfoldable pub some_changes : List Signal → Scene → Scene → ℕ → List ℕ
some_changes signals before now t = stamp t ++ flat_map (value_line now) (filter (changes before now) signals)

-- The same, and nothing where no signal changes.
abbrev pub changes_text : List Signal → Scene → Scene → ℕ → List ℕ
changes_text signals before now t = if list_any (changes before now) signals then some_changes signals before now t else []

-- What changes at bit time t, given the scene of each.
abbrev pub changes_at : List Signal → (ℕ → Scene) → ℕ → List ℕ
changes_at signals scene t = changes_text signals (scene (t - 1)) (scene t) t

-- What changes at the bit times behind the first to below the end.
abbrev pub changes_to : List Signal → (ℕ → Scene) → ℕ → ℕ → List ℕ
changes_to signals scene from end = flat_map (changes_at signals scene) (range_with_len (from + 1) (end - (from + 1)))

-- The stamp of the end, where that isn't the first.
abbrev pub last_stamp : ℕ → ℕ → List ℕ
last_stamp from end = if nat_lt from end then stamp end else []

-- ---- the whole
-- The lines before the declarations, of which one has a comment.
abbrev pub head_text : List ℕ → List ℕ
head_text comment =
    codes "$version bus629-view 1 $end\n$comment " ++ comment
    ++ codes " $end\n$timescale 100 ns $end\n$scope module bus $end\n"

-- The lines behind the declarations.
abbrev pub behind_text : List ℕ
behind_text = codes "$upscope $end\n$enddefinitions $end\n"

-- The values at bit time t, in this scene.
abbrev pub first_values : List Signal → Scene → ℕ → List ℕ
first_values signals scene t = stamp t ++ codes "$dumpvars\n" ++ flat_map (value_line scene) signals ++ codes "$end\n"

-- The dump of these signals with this comment, given the scene of each bit time, from one to below an end.
abbrev pub text_of : List ℕ → List Signal → (ℕ → Scene) → ℕ → ℕ → List ℕ
text_of comment signals scene from end =
    head_text comment ++ flat_map declaration signals ++ behind_text ++ first_values signals (scene from) from
    ++ changes_to signals scene from end ++ last_stamp from end

-- The end of the dump of a window: that of the window or of the trace, whichever is first, but no earlier than it begins.
abbrev pub end_of_dump : Window → ℕ → ℕ
end_of_dump window horizon = max window.from (min window.to horizon)

-- The dump of a window of a trace on a table, with the moment of its breach, where it has one, and with this comment.
abbrev pub dump_text : Dump → Window → Option ℕ → List ℕ → Table → Recording → List ℕ
dump_text dump window breach comment table trace =
    text_of comment (signals dump (lanes table trace.list)) (scene_at dump breach table trace.list) window.from
    (end_of_dump window trace.horizon)

-- The dump whose comment is the words of this verdict.
abbrev pub verdict_dump : Dump → Window → Option ℕ → TableVerdict → Table → Recording → List ℕ
verdict_dump dump window breach verdict table trace = dump_text dump window breach (verdict_words verdict) table trace
