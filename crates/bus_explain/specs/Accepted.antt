-- What is said of an accepted table, a sentence a line. What is said stands in `src/wordings.rt`.
--   least, most   the verdict's: two starts of a sender are at least and at most so far apart
use Rattle.std.specs.Prelude.{◌≡◌, ℕ, List, [], ◌∷◌, ◌++◌, Option, Some, None}
use Rattle.bus_say.specs.Sentences.{said}
use Rattle.bus_table.specs.declared.mode.Mode.{Mode}
use Rattle.bus_table.specs.declared.mode.Mode.TheVariants.{Aperiodic, Periodic}
use Rattle.bus_table.specs.Tables.{Table}
use Rattle.bus_regime.specs.Verdicts.{verdict_of}
use Rattle.bus_regime.specs.declared.table_verdict.TableVerdict.TheVariants.{Accept}
use Rattle.bus_explain.specs.Figures.{load, load_words, spare}
use Rattle.bus_advice.specs.declared.advice.Advice.{Advice}
use Rattle.bus_explain.specs.Senders.{senders_text}
use Rattle.bus_explain.specs.Starts.{start_text}
use Rattle.bus_explain.specs.declared.wordings.TheConstants as the
use Rattle.bus_table.specs.Ranges.{least_ti, most_ti}

-- The verdict accepts a table with these numbers.
abbrev pub IsAcceptedWith : Table → (least most : ℕ) → Type 0
IsAcceptedWith table least most = (mode : Mode) × (verdict_of table ≡ Accept mode least most)

-- The verdict accepts a table with this shortest cycle.
abbrev pub HasLeast : Table → ℕ → Type 0
HasLeast table least = (most : ℕ) × IsAcceptedWith table least most

-- How long its cycles are, which messages decide in aperiodic mode and the transmit interval in periodic mode, and its spare: how much
-- that interval could change.
abbrev pub cycles_wording : Mode → List ℕ
cycles_wording Aperiodic = the.CYCLES.now
cycles_wording Periodic = the.CYCLE.now

abbrev pub cycles_lines : Mode → (least most spare : ℕ) → List ℕ
cycles_lines mode least most spare = said (cycles_wording mode) (least ∷ most ∷ spare ∷ least_ti ∷ most_ti ∷ [])

-- How much of the bus is used.
abbrev pub load_line : ℕ → List ℕ
load_line load = said the.LOAD.now [] ++ load_words load ++ said the.LOAD_MEANS.now []

-- What a tolerance means.
abbrev pub tolerance_wording : Mode → List ℕ
tolerance_wording Aperiodic = the.BEARS_POWER_UPS.now
tolerance_wording Periodic = the.BEARS_DELAY.now

-- How much delay the table bears, where there may be no greatest delay.
abbrev pub tolerance_line : Mode → Option ℕ → List ℕ
tolerance_line mode None = said the.BEARS_EACH.now []
tolerance_line mode (Some delay) = said (tolerance_wording mode) (delay ∷ [])

-- What is said before its senders: that it is accepted, its cycles, its spare and its load.
abbrev pub before_senders : Table → (least most : ℕ) → List ℕ
before_senders table least most =
    said the.ACCEPTED.now [] ++ cycles_lines table.mode least most (spare table least) ++ load_line (load table most)

-- What is said behind them: its tolerance and its start.
abbrev pub behind_senders : Table → Option ℕ → List Advice → List ℕ
behind_senders table tolerance advices = tolerance_line table.mode tolerance ++ start_text table.mode table advices

-- All that is said of an accepted table, on which there are these advices.
abbrev pub accepted_text : Table → (least most : ℕ) → Option ℕ → List Advice → List ℕ
accepted_text table least most tolerance advices =
    before_senders table least most ++ senders_text table.mode table most ++ behind_senders table tolerance advices

-- The same without what is said of its senders one by one.
abbrev pub summary_text : Table → (least most : ℕ) → Option ℕ → List Advice → List ℕ
summary_text table least most tolerance advices = before_senders table least most ++ behind_senders table tolerance advices
