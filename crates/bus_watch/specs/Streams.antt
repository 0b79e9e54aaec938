-- What is kept of a stream, and what an item of it makes certain.
use Rattle.std.specs.Prelude.{ℕ, ◌+◌, ◌-◌, ◌%◌, Bool, false, ◌&&◌, ◌||◌, ◌==◌, nat_le, nat_lt, List, [], ◌++◌, replicate, set, slice_index_or}
use Rattle.std.specs.Prelude.{Option, Some, None, option_map, unwrap_or, if◌then◌else◌}
use Rattle.std.specs.List.{flat_map}
use Rattle.std.specs.Option.{option_map_or}
use Rattle.bus_strings.specs.Messages.{Message}
use Rattle.bus_table.specs.Tables.{Sender, Table}
use Rattle.bus_bounds.specs.Bounds.{Bounds}
use Rattle.bus_findings.specs.declared.judgement.Judgement.{Judgement}
use Rattle.bus_findings.specs.Terminals.{is_faulty}
use Rattle.bus_findings.specs.Texts.{where_so}
use Rattle.bus_stream.specs.declared.item.Item.{Item}
use Rattle.bus_stream.specs.declared.item.Item.TheVariants.{Sent, Told, Lost}
use Rattle.bus_stream.specs.declared.place.Place.{Place}
use Rattle.bus_stream.specs.Places.{bit_of, start}
use Rattle.bus_watch.specs.declared.at.At.{At}
use Rattle.bus_watch.specs.declared.part.Part.{Part}
use Rattle.bus_watch.specs.declared.state.State.{State}
use Rattle.bus_watch.specs.Parts.{begun, end_text, found_of, is_long, judged, judged_text, silences, told_to}
use Rattle.bus_watch.specs.Texts.{unheard_line}

-- Before the first line.
abbrev pub opening : State
opening = record { place = start; part = None; number = 0; heard = replicate 129 0; faulty = false }

-- ---- ends of parts

-- A part ends at a moment, or at the last one that was told.
abbrev pub end_time : Option ℕ → Part → ℕ
end_time time part = unwrap_or time part.told

abbrev pub ended : State → State
ended s = record s { part = None }

abbrev pub ended_text : Table → State → ℕ → Option ℕ → List ℕ
ended_text table s line time = option_map_or (λ part. end_text table part line (end_time time part)) s.part []

-- ---- moments that are told

abbrev pub told : Table → State → ℕ → State
told table s time = record s { part = option_map (told_to table time) s.part }

abbrev pub told_text : Table → State → ℕ → ℕ → List ℕ
told_text table s line time = option_map_or (λ part. silences table part line (bit_of time)) s.part []

-- ---- transmissions

-- The part under way ends where its window would be too long.
abbrev pub is_part_long : State → ℕ → Bool
is_part_long s bit = option_map_or (is_long bit) s.part false

abbrev pub part_text : Table → State → ℕ → ℕ → List ℕ
part_text table s line bit = if is_part_long s bit then ended_text table s line None else []

-- The part in which a transmission stands.
abbrev pub part_or : Bounds → Table → ℕ → Option Part → Part
part_or bounds table time None = begun bounds table time
part_or bounds table time (Some part) = part

abbrev pub part_for : Bounds → Table → State → ℕ → Part
part_for bounds table s time = if is_part_long s (bit_of time) then begun bounds table time else part_or bounds table time s.part

-- How many transmissions came since a terminal's last start.
abbrev pub missed : State → ℕ → ℕ
missed s terminal = s.number - slice_index_or s.heard terminal 0

-- Who hasn't started for 1024 transmissions, and fewer than twice as many: looked for at each 1024th, so that each is told once.
abbrev pub is_told : ℕ → Bool
is_told missed = nat_le 1024 missed && nat_lt missed 2048

abbrev pub unheard_of : State → ℕ → ℕ → Sender → List ℕ
unheard_of s line time sender =
    where_so (is_told (missed s sender.number))
    (unheard_line (record { time = time; line = line; terminal = sender.number }) (missed s sender.number))

abbrev pub each_unheard : Table → State → ℕ → ℕ → List ℕ
each_unheard table s line time = flat_map (unheard_of s line time) table.senders

abbrev pub unheard : Table → State → ℕ → ℕ → List ℕ
unheard table s line time = if s.number % 1024 == 0 then each_unheard table s line time else []

-- A transmission came.
abbrev pub found_at : Bounds → Table → State → ℕ → ℕ → Message → Judgement
found_at bounds table s time terminal message = found_of bounds table (part_for bounds table s time) time terminal message

abbrev pub with_part : State → Part → State
with_part s part = record s { part = Some part }

abbrev pub counted : State → ℕ → Bool → State
counted s terminal faulty = record s { number = s.number + 1; heard = set s.heard terminal (s.number + 1); faulty = s.faulty || faulty }

abbrev pub sent : Bounds → Table → State → ℕ → ℕ → Message → State
sent bounds table s time terminal message =
    counted (with_part s (judged bounds table (part_for bounds table s time) time terminal message)) terminal
    (is_faulty (found_at bounds table s time terminal message))

abbrev pub sent_text : Bounds → Table → State → At → Message → List ℕ
sent_text bounds table s at message =
    part_text table s at.line (bit_of at.time)
    ++ judged_text bounds table (part_for bounds table s at.time) at message
    ++ unheard table (sent bounds table s at.time at.terminal message) at.line at.time

-- ---- items

-- With one item more, wherever it stands.
abbrev pub next : Bounds → Table → State → Item → State
next bounds table s (Sent time terminal message) = sent bounds table s time terminal message
next bounds table s (Told time) = told table s time
next bounds table s (Lost from to) = ended s

-- With one item more, behind which all is told up to a place.
abbrev pub with_item : Bounds → Table → State → Item → Place → State
with_item bounds table s item place = record (next bounds table s item) { place = place }

-- What an item in a line makes certain.
abbrev pub text_of : Bounds → Table → State → ℕ → Item → List ℕ
text_of bounds table s line (Sent time terminal message) =
    sent_text bounds table s (record { time = time; line = line; terminal = terminal }) message
text_of bounds table s line (Told time) = told_text table s line time
text_of bounds table s line (Lost from to) = ended_text table s line (Some from)
