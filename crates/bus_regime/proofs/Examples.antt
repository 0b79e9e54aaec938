-- Worked examples: the gaps, verdicts and witnesses of small tables, by computation.
use Rattle.std.specs.Prelude.{◌≡◌, ℕ, pos, neg_ℤ, List, [], ◌∷◌, map, replicate, refl}
use Rattle.bus_strings.specs.Items.{Item}
use Rattle.bus_table.specs.declared.mode.Mode.TheVariants.{Aperiodic, Periodic}
use Rattle.bus_table.specs.Tables.{Sender, Table}
use Rattle.bus_regime.specs.declared.table_verdict.TableVerdict.TheVariants.{Accept, SmallGap, NoSync}
use Rattle.bus_regime.specs.Gaps.{gaps, width}
use Rattle.bus_regime.specs.Verdicts.{verdict_of}
use Rattle.bus_regime.specs.Witness.{witness_of}

-- a sender of one wordstring of this many data words, at least and at most
abbrev sender : ℕ → ℕ → ℕ → ℕ → ℕ → Sender
sender number tg at least most =
    record { number = number; tg = tg; at = at; sends = record { label = number; ext = 1; least = least; most = most } ∷ []; takes = [] }

abbrev periodic : ℕ → List Sender → Table
periodic ti senders = record { mode = Periodic; ti = ti; sg = 300; senders = senders; listeners = [] }

-- terminal 1 at 0, with messages of 60 bit times; terminal 2 with messages of 620 bit times
abbrev two_senders : ℕ → ℕ → Table
two_senders ti at = periodic ti (sender 1 20 0 2 2 ∷ sender 2 30 at 30 30 ∷ [])

two_gaps : map width (gaps (two_senders 2000 90)) ≡ pos 1290 ∷ pos 30 ∷ []
two_gaps = refl

just_the_terminal_gap : verdict_of (two_senders 2000 90) ≡ Accept Periodic 2000 2000
just_the_terminal_gap = refl

one_less : verdict_of (two_senders 2000 89) ≡ SmallGap 2 (pos 29) 30
one_less = refl

no_gap : verdict_of (two_senders 2000 60) ≡ SmallGap 2 (pos 0) 30
no_gap = refl

overlap_by_one : verdict_of (two_senders 2000 59) ≡ SmallGap 2 (neg_ℤ (pos 1)) 30
overlap_by_one = refl

at_the_same_offset : verdict_of (two_senders 2000 0) ≡ SmallGap 2 (neg_ℤ (pos 60)) 30
at_the_same_offset = refl

-- the gap over the end of the interval is the only wide one, and has to hold its own sender's terminal gap too
just_synchronized : verdict_of (two_senders 1030 90) ≡ Accept Periodic 1030 1030
just_synchronized = refl

never_synchronized : verdict_of (two_senders 1029 90) ≡ NoSync 1 319 320
never_synchronized = refl

-- with two gaps of one synchronization gap each, each sender has the other's
two_wide_gaps : verdict_of (two_senders 1280 360) ≡ Accept Periodic 1280 1280
two_wide_gaps = refl

one_wide_gap : verdict_of (two_senders 1279 360) ≡ NoSync 2 300 330
one_wide_gap = refl

-- a small gap is told before a sender without synchronization
small_before_unsynchronized : verdict_of (two_senders 1029 89) ≡ SmallGap 2 (pos 29) 30
small_before_unsynchronized = refl

-- messages of several lengths count with the longest
abbrev varying : ℕ → ℕ → Table
varying ti most = periodic ti (sender 1 20 0 2 most ∷ sender 2 30 90 30 40 ∷ [])

varying_gaps : map width (gaps (varying 2000 2)) ≡ pos 1090 ∷ pos 30 ∷ []
varying_gaps = refl

varying_accepted : verdict_of (varying 1230 2) ≡ Accept Periodic 1230 1230
varying_accepted = refl

varying_unsynchronized : verdict_of (varying 1229 2) ≡ NoSync 1 319 320
varying_unsynchronized = refl

varying_small : verdict_of (varying 2000 3) ≡ SmallGap 2 (pos 10) 30
varying_small = refl

-- a sender alone, whatever its offset, has the gap between its own messages
alone : map width (gaps (periodic 1000 (sender 1 20 700 2 2 ∷ []))) ≡ pos 940 ∷ []
alone = refl

-- the witness of a periodic table has the most data words on each line, that of an aperiodic one the least; the senders stand in the
-- order of the table
abbrev item : ℕ → ℕ → Item
item terminal words = record { terminal = terminal; strings = replicate words 0 ∷ [] }

periodic_witness : witness_of (varying 2000 3) ≡ item 1 3 ∷ (item 2 40 ∷ (item 1 3 ∷ (item 2 40 ∷ [])))
periodic_witness = refl

abbrev by_falling_gap : Table
by_falling_gap =
    record { mode = Aperiodic; ti = 1000; sg = 300; senders = sender 2 30 0 1 2 ∷ (sender 1 20 0 0 1 ∷ []); listeners = [] }

aperiodic_witness : witness_of by_falling_gap ≡ item 2 1 ∷ (item 1 0 ∷ (item 2 1 ∷ (item 1 0 ∷ [])))
aperiodic_witness = refl
