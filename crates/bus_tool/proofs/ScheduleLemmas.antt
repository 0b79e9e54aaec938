-- The closed schedule is a trace, and given where it is due.
use Rattle.std.specs.Prelude.{◌≡◌, ℕ, ◌≤◌, ◌<◌, List, Ok, length}
use Rattle.std.specs.List.{AllByRecursion}
use Rattle.std.proofs.Common.{arith, ap, ◌∙◌}
use Rattle.bus_text.specs.AllOf.{◌>>=◌}
use Rattle.bus_strings.specs.Marking.{greatest_end}
use Rattle.bus_strings.specs.Members.{In}
use Rattle.bus_strings.specs.Messages.{Entry}
use Rattle.bus_strings.specs.Transmissions.{IsAscending, IsTransmission}
use Rattle.bus_strings.proofs.MemberLaws.{of_each}
use Rattle.bus_strings.proofs.MessageLaws.{bits_some}
use Rattle.bus_table.specs.Tables.{Table, Hand}
use Rattle.bus_schedule.specs.Closed.{closed, closed_end}
use Rattle.bus_schedule.specs.Limits.{longest_end}
use Rattle.bus_schedule.specs.Uneven.{uneven_of}
use Rattle.bus_schedule.proofs.Greatest.{ends_within}
use Rattle.bus_trace.specs.Traces.{Recording, IsTrace}
use Rattle.bus_trace.specs.declared.hold.Hold.{Hold}
use Rattle.bus_command.specs.Stages.{Gives}
use Rattle.bus_command.proofs.FewHands.{AreFew}
use Rattle.bus_tool.specs.Due.{even_due, short_due, can_schedule}
use Rattle.bus_hands.specs.Holds.{hand_holds}
use Rattle.bus_tool.specs.Texts.{scheduled}
use Rattle.bus_tool.proofs.AnswerLaws.{short_end}
use Rattle.bus_tool.proofs.TraceLemmas.{ascending_is_trace}

pub can_be_scheduled : (table : Table) (hands : List Hand) → even_due (uneven_of table hands) ≡ Ok tt → closed_end table hands ≤ longest_end → can_schedule table hands ≡ Ok tt
can_be_scheduled table hands even short = ap (λ d. d >>= λ _. short_due (closed_end table hands)) even ∙ short_end (closed_end table hands) short

-- each transmission starts before the last one ends
starts_early : (list : List Entry) → AllByRecursion IsTransmission list → (x : Entry) → In x list → x.moment < greatest_end list
starts_early list ranged x i =
    let message = (of_each IsTransmission list ranged x i).message in
    let some : 0 < length x.message = omega (arith, message.some) in
    omega (arith, bits_some x.message some, ends_within list x i)

pub schedule_is_trace : (table : Table) (hands : List Hand) (end : ℕ) (holds : List Hold) (list : List Entry) → end ≡ closed_end table hands → closed_end table hands ≤ longest_end → AreFew hands → holds ≡ hand_holds hands → list ≡ closed table hands
    → IsAscending list → AllByRecursion IsTransmission list → IsTrace (record { horizon = end; holds = holds; list = list })
schedule_is_trace table hands end holds list e short few same is ordered ranged =
    ascending_is_trace hands end holds list (omega arith) few same (λ x i. let early = starts_early list ranged x i in let end_is = ap greatest_end is in omega (arith, early, end_is, e)) ordered ranged

abbrev recorded : ℕ → List Hold → List Entry → Recording
recorded horizon holds list = record { horizon = horizon; holds = holds; list = list }

pub schedule_gives : (table : Table) (hands : List Hand) (end : ℕ) (holds : List Hold) (list : List Entry) (recording : Recording) → even_due (uneven_of table hands) ≡ Ok tt → closed_end table hands ≤ longest_end → end ≡ closed_end table hands → holds ≡ hand_holds hands → list ≡ closed table hands
    → recording ≡ record { horizon = end; holds = holds; list = list } → Gives (λ trace _. trace ≡ scheduled table hands) (Ok recording) (can_schedule table hands)
schedule_gives table hands end holds list recording even short e same is made =
    (tt, can_be_scheduled table hands even short, made ∙ ap (λ (n : ℕ). recorded n holds list) e ∙ ap (λ (h : List Hold). recorded (closed_end table hands) h list) same ∙ ap (recorded (closed_end table hands) (hand_holds hands)) is)
