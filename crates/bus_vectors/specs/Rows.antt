-- The stored rows: commands with their texts, and all that comes of them.
use Rattle.std.specs.Prelude.{ℕ, Bool, nat_eq, List, [], ◌∷◌, map, codes, Option, Some, None, if◌then◌else◌}
use Rattle.std.specs.List.{list_any}
use Rattle.bus_vectors.specs.declared.rows.StoredRow.{StoredRow}
use Rattle.bus_vectors.specs.declared.texts.TheConstants.{TWO_SENDERS, SHORT_GAP, TWO_OFFSETS, SMALL_GAP, NO_SYNC, RECEIVERS}
use Rattle.bus_vectors.specs.declared.texts.TheConstants.{NO_MESSAGES, ONE_EACH, SILENT_RUN, RUN, REPORT}

-- The numbers of the rows that are stored.
abbrev pub row_numbers : List ℕ
row_numbers = 1 ∷ 4 ∷ 7 ∷ 10 ∷ 11 ∷ 13 ∷ 16 ∷ 28 ∷ []

-- Whether a row of this number is stored.
abbrev pub is_row : ℕ → Bool
is_row k = list_any (nat_eq k) row_numbers

-- A row: the words, both files, what stands on standard output and on standard error, and the status.
pub record Row : Type 0 where
  pub words : List (List ℕ)
  pub first : List ℕ
  pub second : List ℕ
  pub out : List ℕ
  pub err : List ℕ
  pub status : ℕ

-- A stored row as such.
abbrev pub row_in : StoredRow → Row
row_in row = record {
  words = map (λ word. word.now) row.words.now;
  first = row.first.now;
  second = row.second.now;
  out = row.out.now;
  err = row.err.now;
  status = row.status;
}

-- ---- the texts
-- Two aperiodic senders whose shortest cycle is longer than the transmit interval.
unfoldable pub two_senders : List ℕ
two_senders = TWO_SENDERS.now

-- The same, but with a synchronization gap as long as the second terminal gap.
unfoldable pub short_gap : List ℕ
short_gap = SHORT_GAP.now

-- Two periodic senders, whose gaps are 1290 and 30.
unfoldable pub two_offsets : List ℕ
two_offsets = TWO_OFFSETS.now

-- The same, but the second begins one bit time too early.
unfoldable pub small_gap : List ℕ
small_gap = SMALL_GAP.now

-- The same as the two, but with an interval that leaves the first one bit time too few to synchronize.
unfoldable pub no_sync : List ℕ
no_sync = NO_SYNC.now

-- Two aperiodic senders, of which the second takes from the first, and a listener that takes from the second.
unfoldable pub receivers : List ℕ
receivers = RECEIVERS.now

-- No messages.
unfoldable pub no_messages : List ℕ
no_messages = NO_MESSAGES.now

-- One message of each sender.
unfoldable pub one_each : List ℕ
one_each = ONE_EACH.now

-- What `run` writes of the receivers without messages.
unfoldable pub silent_run : List ℕ
silent_run = SILENT_RUN.now

-- What `run` writes of the receivers with one message of each sender.
unfoldable pub run : List ℕ
run = RUN.now

-- What `report` writes of the two aperiodic senders.
unfoldable pub report : List ℕ
report = REPORT.now

-- ---- the rows
-- A row of `check`, which has one line on standard output.
abbrev pub checked : List ℕ → List ℕ → ℕ → Row
checked table line status =
    record { words = codes "check" ∷ codes "T" ∷ []; first = table; second = []; out = line; err = []; status = status }

-- A row of `run` of the receivers.
abbrev pub ran : List ℕ → List ℕ → Row
ran messages text =
    record { words = codes "run" ∷ codes "T" ∷ codes "M" ∷ []; first = receivers; second = messages; out = text; err = []; status = 0 }

-- A table that is wrong as a whole.
abbrev pub wrong : Row
wrong = record {
  words = codes "check" ∷ codes "T" ∷ [];
  first = short_gap;
  second = [];
  out = [];
  err = codes "ERROR 3 table GapNotShort 2\n";
  status = 3;
}

-- A report.
abbrev pub reported : Row
reported = record { words = codes "report" ∷ codes "T" ∷ []; first = two_senders; second = []; out = report; err = []; status = 0 }

-- The row of a number.
abbrev pub row_of : ℕ → Option Row
row_of k =
    if nat_eq k 1 then Some (checked two_senders (codes "ACCEPT aperiodic 1030 1270\n") 0)
    else if nat_eq k 4 then Some wrong
    else if nat_eq k 7 then Some (ran no_messages silent_run)
    else if nat_eq k 10 then Some (checked two_offsets (codes "ACCEPT periodic 2000 2000\n") 0)
    else if nat_eq k 11 then Some (checked small_gap (codes "REFUSE small-gap 2 29 30\n") 1)
    else if nat_eq k 13 then Some (checked no_sync (codes "REFUSE no-sync 1 319 320\n") 1)
    else if nat_eq k 16 then Some (ran one_each run)
    else if nat_eq k 28 then Some reported
    else None
