use Rattle.std.proofs.Common.{◌≡◌, ◌≤◌, ◌+◌, length}
use Rattle.std.specs.List.{slice_split}
use Rattle.bus_text.specs.Lines.{is_feed}
use Rattle.bus_wave.specs.inside.Drafts.{Keeps, state_of}
use Rattle.bus_wave.specs.Judging.{opening}
use Rattle.bus_wave.specs.Reading.{pieces_reading}
use Rattle.bus_wave.proofs.reading.read_lines.Given as goal

abbrev pub decreases-loop-line : goal.decreases-loop-line
decreases-loop-line l = length l.rest

-- the lines so far gave this draft, and the rest of the text is read from here
abbrev pub invariant-loop-line : goal.invariant-loop-line
invariant-loop-line l = record {
  keeps : Keeps l.draft;
  left : pieces_reading l.table l.number (state_of l.draft) (slice_split is_feed l.rest) ≡ pieces_reading l.table 2 opening (slice_split is_feed l.text);
  room : l.number + length l.rest ≤ 2 + length l.text;
}
