-- The trace of a run whose senders fall silent.
use Rattle.std.specs.Prelude.{◌≡◌, ℕ, ◌≤◌, List, Ok}
use Rattle.std.specs.List.{AllByRecursion}
use Rattle.std.proofs.Common.{arith, sym, ap, ◌∙◌, subst}
use Rattle.bus_text.specs.AllOf.{◌>>=◌}
use Rattle.bus_strings.specs.Messages.{Entry}
use Rattle.bus_strings.specs.Transmissions.{IsTransmission}
use Rattle.bus_table.specs.Tables.{Table, Hand}
use Rattle.bus_medium.specs.Lawful.{IsLawful}
use Rattle.bus_medium.specs.Timings.{quiet_of, stations_of}
use Rattle.bus_dropout.specs.DropOut.{drop_end}
use Rattle.bus_dropout.specs.Runs.{IsDropRun}
use Rattle.bus_schedule.specs.Limits.{longest_end}
use Rattle.bus_trace.specs.Traces.{Recording, IsTrace}
use Rattle.bus_trace.specs.declared.hold.Hold.{Hold}
use Rattle.bus_command.specs.Stages.{Gives}
use Rattle.bus_command.proofs.FewHands.{AreFew}
use Rattle.bus_tool.specs.Due.{short_due, may_drop, can_drop}
use Rattle.bus_hands.specs.Holds.{hand_holds}
use Rattle.bus_tool.specs.Texts.{IsDropRecording}
use Rattle.bus_tool.proofs.AnswerLaws.{short_end}
use Rattle.bus_tool.proofs.TraceLemmas.{observed_is_trace}

pub can_be_dropped : (table : Table) (hands : List Hand) → may_drop table hands ≡ Ok tt → drop_end table hands ≤ longest_end → can_drop table hands ≡ Ok tt
can_be_dropped table hands may short = ap (λ d. d >>= λ _. short_due (drop_end table hands)) may ∙ short_end (drop_end table hands) short

pub drop_is_trace : (table : Table) (hands : List Hand) (end : ℕ) (holds : List Hold) (list : List Entry) → end ≡ drop_end table hands → drop_end table hands ≤ longest_end → AreFew hands → holds ≡ hand_holds hands → IsDropRun table hands list → AllByRecursion IsTransmission list → IsTrace (record { horizon = end; holds = holds; list = list })
drop_is_trace table hands end holds list e short few same run ranged =
    observed_is_trace table hands end holds list (omega arith) few same (subst (λ n. IsLawful (quiet_of table) (stations_of table hands) n list) (sym e) run.lawful) ranged

pub drop_gives : (table : Table) (hands : List Hand) (end : ℕ) (holds : List Hold) (list : List Entry) (recording : Recording) → may_drop table hands ≡ Ok tt → drop_end table hands ≤ longest_end → end ≡ drop_end table hands → holds ≡ hand_holds hands → IsDropRun table hands list
    → recording ≡ record { horizon = end; holds = holds; list = list } → Gives (λ trace _. IsDropRecording table hands trace) (Ok recording) (can_drop table hands)
drop_gives table hands end holds list recording may short e same run is =
    (tt, can_be_dropped table hands may short, subst (IsDropRecording table hands) (sym is) (record { horizon = e; holds = same; run = run }))
