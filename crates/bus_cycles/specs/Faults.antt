-- The faults of a recording: each marked at the start of its transmission, in the row of that. A unit is a tenth of a pixel.
use Rattle.std.specs.Prelude.{ℕ, ◌+◌, ◌-◌, Bool, false, ◌&&◌, List, [], ◌++◌, codes, slice_get, Option, if◌then◌else◌}
use Rattle.std.specs.List.{flat_map, list_any}
use Rattle.std.specs.Option.{option_map_or}
use Rattle.bus_findings.specs.declared.judgement.Judgement.{Judgement}
use Rattle.bus_findings.specs.Terminals.{is_faulty}
use Rattle.bus_findings.specs.Texts.{fault_title}
use Rattle.bus_pen.specs.declared.area.Area.{Area}
use Rattle.bus_pen.specs.declared.class.Class.TheVariants.{Fault, Note}
use Rattle.bus_shapes.specs.declared.sent.Sent.{Sent}
use Rattle.bus_shapes.specs.declared.told.Told.{Told}
use Rattle.bus_shapes.specs.declared.told.Told.TheVariants.{Audit, OnCable, Findings}
use Rattle.bus_pen.specs.Shapes.{titled_text, words_text}
use Rattle.bus_cycles.specs.declared.measures.TheConstants.{BREACH_LEFT as breach_left, FAULT_HEIGHT as fault_height}
use Rattle.bus_cycles.specs.declared.measures.TheConstants.{FAULT_WIDTH as fault_width}
use Rattle.bus_cycles.specs.Pages.{Page, top_of}
use Rattle.bus_cycles.specs.Rows.{Row}
use Rattle.bus_cycles.specs.RowTexts.{left_of, line_of, where_drawn}
use Rattle.bus_cycles.specs.Surveys.{is_drawn}

-- ---- where a mark is
-- A part of a mark, with this upper edge.
abbrev pub fault_part : ℕ → ℕ → Area
fault_part left top = record { left = left; top = top; width = fault_width; height = fault_height }

-- The upper part, at the upper edge of a row.
abbrev pub upper_part : Page → ℕ → ℕ → Area
upper_part page left row = fault_part left (top_of page row)

-- The lower part, at the lower edge of a row.
abbrev pub lower_part : Page → ℕ → ℕ → Area
lower_part page left row = fault_part left (top_of page row + page.row_height - fault_height)

-- ---- marks
-- The words of a mark.
abbrev pub title_of : Sent → Judgement → List ℕ
title_of sent found = fault_title sent.moment sent.terminal found

-- The mark of a transmission in a row that began at this moment: both parts, with these words under the pointer.
abbrev pub fault_at : Page → ℕ → ℕ → Sent → Judgement → List ℕ
fault_at page row begin sent found =
    titled_text Fault (upper_part page (left_of page begin sent) row) (title_of sent found)
    ++ titled_text Fault (lower_part page (left_of page begin sent) row) (title_of sent found)

-- It is marked where a fault is found at it.
abbrev pub fault_where : Page → ℕ → ℕ → Sent → Judgement → List ℕ
fault_where page row begin sent found = if is_faulty found then fault_at page row begin sent found else []

abbrev pub fault_of : Page → ℕ → ℕ → Sent → Option Judgement → List ℕ
fault_of page row begin sent found = option_map_or (fault_where page row begin sent) found []

-- The mark of a transmission, given what is found at each of the list, in a row that is drawn.
abbrev pub fault_text : Page → List Judgement → ℕ → ℕ → Sent → List ℕ
fault_text page found row begin sent = where_drawn row (fault_of page row begin sent (slice_get found sent.at))

-- Whether a fault is found at a transmission.
abbrev pub has_fault : List Judgement → Sent → Bool
has_fault found sent = option_map_or is_faulty (slice_get found sent.at) false

-- Whether a fault is marked in a row: it is drawn, and one is found at a transmission of it.
abbrev pub is_marked : List Judgement → Row → Bool
is_marked found row = is_drawn row.place && list_any (has_fault found) row.sents

-- Whether one is marked in one of these rows.
abbrev pub any_marked : List Judgement → List Row → Bool
any_marked found rows = list_any (is_marked found) rows

-- A row with a fault has a word behind its boxes, where that of a breach stands.
abbrev pub fault_word : Page → ℕ → Bool → List ℕ
fault_word page row any =
    if any then where_drawn row (words_text Note breach_left (line_of page row) (codes "fault")) else []

-- The marks of the transmissions of a row, and its word.
abbrev pub row_faults : Page → List Judgement → Row → List ℕ
row_faults page found row =
    flat_map (fault_text page found row.place row.begin) row.sents ++ fault_word page row.place (list_any (has_fault found) row.sents)

-- The marks of rows.
abbrev pub faults_of : Page → List Judgement → List Row → List ℕ
faults_of page found rows = flat_map (row_faults page found) rows

-- Findings are marked; an audit tells of none, nor does a trace that was recorded on a cable.
abbrev pub faults_text : Page → Told → List Row → List ℕ
faults_text page (Audit answer) rows = []
faults_text page (OnCable garbled) rows = []
faults_text page (Findings bounds judgements garbled) rows = faults_of page judgements.items rows
