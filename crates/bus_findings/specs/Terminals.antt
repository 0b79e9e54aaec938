-- What is counted.
use Rattle.std.specs.Prelude.{ℕ, ◌+◌, ◌-◌, Bool, true, false, not, nat_lt, is_some, ◌==◌, List, [], ◌∷◌, filter, length, sum_by, count_by}
use Rattle.std.specs.Prelude.{Option, Some, None, if◌then◌else◌}
use Rattle.bus_strings.specs.Messages.{Entry}
use Rattle.bus_strings.specs.Transmissions.{marks}
use Rattle.bus_table.specs.Tables.{Table}
use Rattle.bus_trace.specs.Traces.{Recording}
use Rattle.bus_bounds.specs.Bounds.{Bounds}
use Rattle.bus_findings.specs.declared.judgement.Judgement.{Judgement}
use Rattle.bus_findings.specs.declared.judgement.Late.{Late}
use Rattle.bus_findings.specs.declared.totals.Totals.{Totals}
use Rattle.bus_findings.specs.Judging.{judgement_of}
use Rattle.bus_findings.specs.Silences.{silence_of}

-- 1 where it is so, else 0.
abbrev pub once : Bool → ℕ
once b = if b then 1 else 0

-- By how many timers a transmission is too early.
abbrev pub early_count : Judgement → ℕ
early_count judgement = once (nat_lt 0 judgement.interval) + once (nat_lt 0 judgement.sync_gap) + once (nat_lt 0 judgement.terminal_gap)

-- Whether others began in between.
abbrev pub is_passed : Late → Bool
is_passed late = nat_lt 0 late.passed

-- How many faults are found at a transmission.
abbrev pub fault_count : Judgement → ℕ
fault_count judgement =
    once judgement.stranger + early_count judgement + once (is_some judgement.late) + once judgement.misfit

-- Whether a fault is found at it, and how many are found at several.
abbrev pub is_faulty : Judgement → Bool
is_faulty judgement = nat_lt 0 (fault_count judgement)

abbrev pub fault_sum : List Judgement → ℕ
fault_sum judgements = sum_by fault_count judgements

-- The transmissions of a terminal.
abbrev pub own : List Entry → ℕ → List Entry
own list number = filter (λ x. x.terminal == number) list

-- How far each of these stands from the one before it.
abbrev pub apart : List Entry → List ℕ
apart [] = []
apart (x ∷ []) = []
apart (x ∷ z ∷ list) = (z.moment - x.moment) ∷ apart (z ∷ list)

-- How many faults are found of all transmissions, and of a terminal.
abbrev pub faults_among : Bounds → Table → List Entry → List Entry → ℕ
faults_among bounds table list some = sum_by (λ x. fault_count (judgement_of bounds table list x)) some

-- Whether a fault is found.
abbrev pub has_fault : Bounds → Table → Recording → Bool
has_fault bounds table trace = nat_lt 0 (faults_among bounds table trace.list trace.list)

-- Whether a start is late, with or without others in between.
abbrev pub is_late : Bool → Option Late → Bool
is_late passed None = false
is_late true (Some late) = is_passed late
is_late false (Some late) = not (is_passed late)

-- How many of each kind are found of some transmissions of a list.
abbrev pub totals_among : Bounds → Table → List Entry → List Entry → Totals
totals_among bounds table list some = record {
  early = sum_by (λ x. early_count (judgement_of bounds table list x)) some;
  late = sum_by (λ x. once (is_late false (judgement_of bounds table list x).late)) some;
  passed = sum_by (λ x. once (is_late true (judgement_of bounds table list x).late)) some;
  strangers = sum_by (λ x. once (judgement_of bounds table list x).stranger) some;
  misfits = sum_by (λ x. once (judgement_of bounds table list x).misfit) some;
}

-- How many senders start in the recording.
abbrev pub first_count : Table → Recording → ℕ
first_count table trace = count_by (λ sender. nat_lt 0 (length (own trace.list sender.number))) table.senders

-- How many are silent at the end.
abbrev pub silent_count : Bounds → Table → Recording → ℕ
silent_count bounds table trace = count_by (λ sender. is_some (silence_of bounds table trace sender)) table.senders

-- How many transmissions are garbled.
abbrev pub garbled_count : List Entry → ℕ
garbled_count list = count_by (λ mark. mark) (marks list)
