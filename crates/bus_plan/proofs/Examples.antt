-- Worked examples: the plans of small tables, by computation.
use Rattle.std.specs.Prelude.{◌≡◌, ℕ, List, [], ◌∷◌, refl}
use Rattle.bus_table.specs.declared.mode.Mode.TheVariants.{Periodic}
use Rattle.bus_table.specs.Tables.{Sender, Table}
use Rattle.bus_table.specs.Offsets.{with_offsets}
use Rattle.bus_regime.specs.declared.table_verdict.TableVerdict.TheVariants.{Accept, NoSync}
use Rattle.bus_regime.specs.Verdicts.{verdict_of}
use Rattle.bus_plan.specs.declared.planning.PlanAnswer.TheVariants.{Infeasible}
use Rattle.bus_plan.specs.Plans.{least_interval, planned_offsets, planned_table}
use Rattle.bus_plan.specs.Answers.{plan_of}

-- a sender of one wordstring of this many data words, at least and at most
abbrev varied : ℕ → ℕ → ℕ → ℕ → Sender
varied number tg least most =
    record { number = number; tg = tg; at = 0; sends = record { label = number; ext = 1; least = least; most = most } ∷ []; takes = [] }

abbrev plain : ℕ → ℕ → ℕ → Sender
plain number tg words = varied number tg words words

abbrev periodic : ℕ → ℕ → List Sender → Table
periodic ti sg senders = record { mode = Periodic; ti = ti; sg = sg; senders = senders; listeners = [] }

-- terminal 1 with messages of 60 bit times, terminal 2 with messages of 620: the greater terminal gap goes first
abbrev two_senders : ℕ → Table
two_senders ti = periodic ti 300 (plain 1 20 2 ∷ plain 2 30 30 ∷ [])

two_least : least_interval (two_senders 2000) ≡ 1030
two_least = refl

two_planned : planned_offsets (two_senders 2000) ≡ 640 ∷ 0 ∷ []
two_planned = refl

two_just : verdict_of (planned_table (two_senders 1030)) ≡ Accept Periodic 1030 1030
two_just = refl

-- messages of several lengths count with the longest
varied_least : least_interval (periodic 2000 300 (varied 1 20 2 2 ∷ varied 2 30 30 40 ∷ [])) ≡ 1230
varied_least = refl

-- terminal gaps of 256 and 255, which are more than one synchronization gap of 257: two of those are less than one and both
abbrev near_senders : ℕ → Table
near_senders ti = periodic ti 257 (plain 1 256 20 ∷ plain 2 255 20 ∷ [])

near_least : least_interval (near_senders 1354) ≡ 1354
near_least = refl

near_planned : planned_offsets (near_senders 1354) ≡ 0 ∷ 677 ∷ []
near_planned = refl

near_just : verdict_of (planned_table (near_senders 1354)) ≡ Accept Periodic 1354 1354
near_just = refl

near_short : plan_of (near_senders 1353) ≡ Infeasible 1354 1353
near_short = refl

-- one bit time less, at the same offsets, and at the next one on either side
near_same : verdict_of (with_offsets (0 ∷ 677 ∷ []) (near_senders 1353)) ≡ NoSync 2 257 512
near_same = refl

near_before : verdict_of (with_offsets (0 ∷ 676 ∷ []) (near_senders 1354)) ≡ NoSync 1 258 513
near_before = refl

-- the two with the greatest terminal gaps, then the others in table order
four_planned : planned_offsets (periodic 2000 100 (plain 1 10 1 ∷ plain 2 80 2 ∷ plain 3 20 3 ∷ plain 4 90 4 ∷ []))
    ≡ 270 ∷ 200 ∷ 330 ∷ 0 ∷ []
four_planned = refl

-- a sender alone has its synchronization gap before its own terminal gap
alone_least : least_interval (periodic 1000 300 (plain 1 20 2 ∷ [])) ≡ 380
alone_least = refl
