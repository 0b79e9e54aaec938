-- What follows of waves and their texts. `laws` says that each of these holds.
use Rattle.std.specs.Prelude.{◌≡◌, ◌↔◌, ◌≤◌, ◌-◌, ◌^◌, ℕ, List, length, IsTrue, Result, Ok}
use Rattle.bus_table.specs.Tables.{Table, Hand}
use Rattle.bus_table.specs.Valid.{is_valid}
use Rattle.bus_regime.specs.Verdicts.{verdict_of, is_accepted}
use Rattle.bus_schedule.specs.Closed.{closed, closed_end}
use Rattle.bus_schedule.specs.Even.{are_even}
use Rattle.bus_trace.specs.Traces.{Recording, IsTrace}
use Rattle.bus_wave.specs.declared.fault.WaveFault.{WaveFault}
use Rattle.bus_hands.specs.Holds.{hand_holds}
use Rattle.bus_wave.specs.Counted.{holds_of}
use Rattle.bus_wave.specs.Reading.{wave_reading}
use Rattle.bus_wave.specs.Spacing.{IsSpaced, spaced_of}
use Rattle.bus_wave.specs.Waves.{wave}
use Rattle.bus_wave.specs.WaveTexts.{IsWaveText, wave_text}

-- The most bytes of a text that is read.
abbrev pub most_bytes : ℕ
most_bytes = 2 ^ 32 - 1

-- A trace that is read from a wave text of a table: it is spaced for the table, and has one HOLD for each sender, with the number of its
-- entries.
pub record IsWaveTrace (table : Table) (t : Recording) : Type 0 where
  pub trace : IsTrace t
  pub spaced : IsSpaced table t
  pub holds : t.holds ≡ holds_of table t.list

-- A trace passes exactly where it is spaced for the table.
abbrev pub SpacedPasses : Type 0
SpacedPasses = (table : Table) (t : Recording) → (spaced_of table t ≡ Ok tt) ↔ IsSpaced table t

-- Of a trace that is spaced for some table, what is written is its wave text, and the only one.
pub record HasOneText (t : Recording) : Type 0 where
  pub is : IsWaveText t (wave_text t)
  pub only : (text : List ℕ) → IsWaveText t text → text ≡ wave_text t

-- It is so of each spaced trace.
abbrev pub SpacedHaveTexts : Type 0
SpacedHaveTexts = (table : Table) (t : Recording) → IsTrue (is_valid table) → IsTrace t → IsSpaced table t → HasOneText t

-- The wave text of such a trace reads as that trace.
abbrev pub WavesReadBack : Type 0
WavesReadBack =
    (table : Table) (t : Recording) (text : List ℕ) → IsTrue (is_valid table) → IsWaveTrace table t → IsWaveText t text
    → wave_reading table text ≡ Ok t

-- A trace that is read from a text: the text is its wave text, and has no fewer bytes than the trace has entries.
pub record IsRead (table : Table) (t : Recording) (text : List ℕ) : Type 0 where
  pub trace : IsWaveTrace table t
  pub is_text : IsWaveText t text
  pub few : length t.list ≤ length text

-- What reads as a trace is its wave text.
abbrev pub ReadsOnlyWaves : Type 0
ReadsOnlyWaves = (table : Table) (t : Recording) (text : List ℕ) → IsTrue (is_valid table) → length text ≤ most_bytes
    → wave_reading table text ≡ Ok t
    → IsRead table t text

-- Two such traces with the same wave are equal.
abbrev pub WavesTell : Type 0
WavesTell =
    (table : Table) (t u : Recording) → IsTrue (is_valid table) → IsWaveTrace table t → IsWaveTrace table u → wave t ≡ wave u → t ≡ u

-- The trace of a run is spaced: of an accepted table and even hands, the closed schedule up to the closed end.
abbrev pub RunsAreSpaced : Type 0
RunsAreSpaced =
    (table : Table) (hands : List Hand) (t : Recording) → IsTrue (is_valid table) → IsTrue (is_accepted (verdict_of table))
    → IsTrue (are_even table hands) → t.list ≡ closed table hands → t.horizon ≡ closed_end table hands → IsSpaced table t

-- The answer for a trace of a table is Ok where the trace is that of a run.
abbrev pub PassesRuns : Table → Recording → Result (Unit {0}) WaveFault → Type 0
PassesRuns table t answer =
    (hands : List Hand) → IsTrue (is_accepted (verdict_of table)) → IsTrue (are_even table hands) → t.list ≡ closed table hands
    → t.horizon ≡ closed_end table hands → answer ≡ Ok tt

-- The recording of a run: the closed schedule of the hands up to the closed end, and one HOLD for each hand, with the number of its
-- messages.
pub record IsRecordedRun (table : Table) (hands : List Hand) (t : Recording) : Type 0 where
  pub list : t.list ≡ closed table hands
  pub horizon : t.horizon ≡ closed_end table hands
  pub holds : t.holds ≡ hand_holds hands

-- The recording of a run is a trace that is read from a wave text: its HOLDs have the numbers of its entries.
abbrev pub RunsAreWaveTraces : Type 0
RunsAreWaveTraces =
    (table : Table) (hands : List Hand) (t : Recording) → IsTrue (is_valid table) → IsTrue (is_accepted (verdict_of table))
    → IsTrue (are_even table hands) → IsTrace t → IsRecordedRun table hands t → IsWaveTrace table t
