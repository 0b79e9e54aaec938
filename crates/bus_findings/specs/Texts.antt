-- The text of findings.
use Rattle.std.specs.Prelude.{ℕ, ◌-◌, min, max, Bool, true, false, nat_lt, List, [], ◌∷◌, ◌++◌, codes, decimal, length, Option, Some, None}
use Rattle.std.specs.List.{flat_map, reduce}
use Rattle.std.specs.Option.{option_map_or}
use Rattle.bus_strings.specs.Messages.{Entry}
use Rattle.bus_table.specs.Tables.{Sender, Table}
use Rattle.bus_trace.specs.Traces.{Recording}
use Rattle.bus_bounds.specs.Bounds.{Bounds}
use Rattle.bus_findings.specs.declared.judgement.Due.{Due}
use Rattle.bus_findings.specs.declared.judgement.Judgement.{Judgement}
use Rattle.bus_findings.specs.declared.judgement.Late.{Late}
use Rattle.bus_findings.specs.declared.judgement.Timer.{Timer}
use Rattle.bus_findings.specs.declared.judgement.Timer.TheVariants.{Interval, SyncGap, TerminalGap}
use Rattle.bus_findings.specs.Recorded.{settled_of}
use Rattle.bus_findings.specs.Judging.{judgement_of}
use Rattle.bus_findings.specs.Silences.{silence_of}
use Rattle.bus_findings.specs.declared.totals.Totals.{Totals}
use Rattle.bus_findings.specs.Terminals.{own, apart, is_passed, faults_among, totals_among, first_count, silent_count, garbled_count}

-- The bounds within which a bus is said to be.
abbrev pub within_words : Bounds → List ℕ
within_words bounds =
    codes "WITHIN " ++ decimal bounds.delay ++ 32 ∷ [] ++ decimal bounds.jitter ++ 32 ∷ [] ++ decimal bounds.clocks

-- ---- the lines of a transmission

abbrev pub timer_word : Timer → List ℕ
timer_word Interval = codes "TI"
timer_word SyncGap = codes "SG"
timer_word TerminalGap = codes "TG"

-- A keyword, a moment, and the number of a terminal.
abbrev pub place_words : List ℕ → ℕ → ℕ → List ℕ
place_words keyword moment terminal = keyword ++ 32 ∷ [] ++ decimal moment ++ 32 ∷ [] ++ decimal terminal ++ 32 ∷ []

-- A fault that has no amount.
abbrev pub plain_line : ℕ → ℕ → List ℕ → List ℕ
plain_line moment terminal kind = place_words (codes "FAULT") moment terminal ++ kind ++ 10 ∷ []

-- Too early by a timer.
abbrev pub early_words : Timer → ℕ → List ℕ
early_words timer amount = codes "Early " ++ timer_word timer ++ 32 ∷ [] ++ decimal amount

abbrev pub early_line : ℕ → ℕ → Timer → ℕ → List ℕ
early_line moment terminal timer amount = place_words (codes "FAULT") moment terminal ++ early_words timer amount ++ 10 ∷ []

-- Late: a turn passed where others began in between.
abbrev pub late_word : Bool → List ℕ
late_word true = codes "Passed "
late_word false = codes "Late "

abbrev pub passed_words : Bool → ℕ → List ℕ
passed_words true passed = 32 ∷ [] ++ decimal passed
passed_words false passed = []

abbrev pub late_words : Late → List ℕ
late_words late =
    late_word (is_passed late) ++ timer_word late.timer ++ 32 ∷ [] ++ decimal late.amount ++ passed_words (is_passed late) late.passed

abbrev pub late_line : ℕ → ℕ → Late → List ℕ
late_line moment terminal late = place_words (codes "FAULT") moment terminal ++ late_words late ++ 10 ∷ []

-- It begins while an earlier one lasts.
abbrev pub overlap_line : ℕ → ℕ → ℕ → List ℕ
overlap_line moment terminal amount = place_words (codes "NOTE") moment terminal ++ codes "Overlap " ++ decimal amount ++ 10 ∷ []

-- A line, where it is due.
abbrev pub where_so : Bool → List ℕ → List ℕ
where_so true line = line
where_so false line = []

abbrev pub early_lines : ℕ → ℕ → Timer → ℕ → List ℕ
early_lines moment terminal timer amount = where_so (nat_lt 0 amount) (early_line moment terminal timer amount)

abbrev pub late_lines : ℕ → ℕ → Option Late → List ℕ
late_lines moment terminal late = option_map_or (late_line moment terminal) late []

abbrev pub overlap_lines : ℕ → ℕ → ℕ → List ℕ
overlap_lines moment terminal amount = where_so (nat_lt 0 amount) (overlap_line moment terminal amount)

-- The lines of a transmission, in the order of the kinds.
unfoldable pub judgement_lines : ℕ → ℕ → Judgement → List ℕ
judgement_lines moment terminal judgement =
    where_so judgement.stranger (plain_line moment terminal (codes "Stranger"))
    ++ early_lines moment terminal Interval judgement.interval
    ++ early_lines moment terminal SyncGap judgement.sync_gap
    ++ early_lines moment terminal TerminalGap judgement.terminal_gap
    ++ late_lines moment terminal judgement.late
    ++ where_so judgement.misfit (plain_line moment terminal (codes "Misfit"))
    ++ overlap_lines moment terminal judgement.overlap

-- The faults among them in one line, each behind a blank.
unfoldable pub fault_words : Judgement → List ℕ
fault_words judgement =
    where_so judgement.stranger (codes " Stranger")
    ++ where_so (nat_lt 0 judgement.interval) (32 ∷ early_words Interval judgement.interval)
    ++ where_so (nat_lt 0 judgement.sync_gap) (32 ∷ early_words SyncGap judgement.sync_gap)
    ++ where_so (nat_lt 0 judgement.terminal_gap) (32 ∷ early_words TerminalGap judgement.terminal_gap)
    ++ option_map_or (λ late. 32 ∷ late_words late) judgement.late []
    ++ where_so judgement.misfit (codes " Misfit")

-- The words of a mark at a transmission: where it is, and its faults.
abbrev pub fault_title : ℕ → ℕ → Judgement → List ℕ
fault_title moment terminal judgement =
    codes "FAULT " ++ decimal moment ++ 32 ∷ [] ++ decimal terminal ++ fault_words judgement

abbrev pub entry_lines : Bounds → Table → List Entry → Entry → List ℕ
entry_lines bounds table list x = judgement_lines x.moment x.terminal (judgement_of bounds table list x)

-- ---- behind the last transmission

-- A sender that was due has been silent up to the horizon.
abbrev pub silent_line : ℕ → ℕ → Due → List ℕ
silent_line horizon terminal due =
    place_words (codes "NOTE") due.moment terminal
    ++ codes "Silent " ++ timer_word due.timer ++ 32 ∷ [] ++ decimal (horizon - due.moment) ++ 10 ∷ []

abbrev pub silence_lines : ℕ → ℕ → Option Due → List ℕ
silence_lines horizon terminal due = option_map_or (silent_line horizon terminal) due []

abbrev pub silent_lines : Bounds → Table → Recording → Sender → List ℕ
silent_lines bounds table trace sender = silence_lines trace.horizon sender.number (silence_of bounds table trace sender)

-- A number, if there is one.
abbrev pub some_word : Option ℕ → List ℕ
some_word None = codes "-"
some_word (Some n) = decimal n

-- How often a sender starts, how many faults it has, and how far its starts lie apart at least and at most.
abbrev pub numbers_line : ℕ → ℕ → ℕ → Option ℕ → Option ℕ → List ℕ
numbers_line number starts faults least most =
    codes "TERMINAL " ++ decimal number ++ 32 ∷ [] ++ decimal starts ++ 32 ∷ [] ++ decimal faults ++ 32 ∷ [] ++ some_word least
    ++ 32 ∷ [] ++ some_word most ++ 10 ∷ []

abbrev pub terminal_line : Bounds → Table → List Entry → Sender → List ℕ
terminal_line bounds table list sender =
    numbers_line sender.number (length (own list sender.number)) (faults_among bounds table list (own list sender.number))
    (reduce min (apart (own list sender.number))) (reduce max (apart (own list sender.number)))

-- Before which moment no quiet counts for lateness, and how many first starts were judged by their terminal gap alone.
abbrev pub unjudged_line : ℕ → ℕ → List ℕ
unjudged_line settled firsts = codes "UNJUDGED " ++ decimal settled ++ 32 ∷ [] ++ decimal firsts ++ 10 ∷ []

abbrev pub head_lines : Bounds → List ℕ
head_lines bounds = codes "FINDINGS 1\n" ++ within_words bounds ++ 10 ∷ []

-- The numbers of findings of each kind.
abbrev pub fault_totals : Totals → List ℕ
fault_totals totals =
    codes "TOTAL " ++ decimal totals.early ++ 32 ∷ [] ++ decimal totals.late ++ 32 ∷ [] ++ decimal totals.passed ++ 32 ∷ []
    ++ decimal totals.strangers ++ 32 ∷ [] ++ decimal totals.misfits

abbrev pub totals_line : Totals → ℕ → ℕ → List ℕ
totals_line totals garbled silent =
    fault_totals totals ++ 32 ∷ [] ++ decimal garbled ++ 32 ∷ [] ++ decimal silent ++ codes "\nEND\n"

-- ---- the text

-- The lines behind the transmissions.
abbrev pub closing_lines : Bounds → Table → Recording → List ℕ
closing_lines bounds table trace =
    flat_map (silent_lines bounds table trace) table.senders
    ++ flat_map (terminal_line bounds table trace.list) table.senders
    ++ unjudged_line (min (settled_of bounds table) trace.horizon) (first_count table trace)
    ++ totals_line (totals_among bounds table trace.list trace.list) (garbled_count trace.list) (silent_count bounds table trace)

-- What is found in a trace, as a recording of a bus of this table within bounds.
abbrev pub findings_text : Bounds → Table → Recording → List ℕ
findings_text bounds table trace =
    head_lines bounds ++ flat_map (entry_lines bounds table trace.list) trace.list ++ closing_lines bounds table trace
