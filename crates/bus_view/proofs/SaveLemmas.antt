-- A breach is before the horizon, and the save file of a window shows the first.
use Rattle.std.proofs.Common.{◌≡◌, ◌<◌, ap, ◌∙◌, Option, IfSome, arith}
use Rattle.bus_strings.specs.Limits.{horizon_limit}
use Rattle.bus_table.specs.Tables.{Table}
use Rattle.bus_trace.specs.Traces.{Recording, IsTrace}
use Rattle.bus_audit.specs.Breaches.{IsAnswer}
use Rattle.bus_audit.specs.declared.answer.AuditAnswer.{AuditAnswer}
use Rattle.bus_audit.specs.declared.answer.AuditAnswer.TheVariants.{Lawful, Breach}
use Rattle.bus_trace.specs.Windows.{Window}
use Rattle.bus_dump.specs.declared.breach.FirstBreach.{FirstBreach}
use Rattle.bus_dump.specs.SaveFiles.{save_text}
use Rattle.bus_view.specs.Due.{breach_moment, breach_of, named_breach, saved}

pub breach_below : (table : Table) (trace : Recording) (answer : AuditAnswer) → IsTrace trace → IsAnswer table trace answer
    → IfSome (breach_moment answer) (λ t. t < horizon_limit)
breach_below table trace (Lawful collided) is answers = tt
breach_below table trace (Breach moment terminal kind) is answers = omega (arith, answers.below, is.horizon)

pub named_below : (table : Table) (trace : Recording) (answer : AuditAnswer) → IsTrace trace → IsAnswer table trace answer
    → IfSome (breach_of answer) (λ (b : FirstBreach). b.moment < horizon_limit)
named_below table trace (Lawful collided) is answers = tt
named_below table trace (Breach moment terminal kind) is answers = omega (arith, answers.below, is.horizon)

pub saved_is : (window shape : Window) (breach : Option FirstBreach) (table : Table) (trace : Recording) → window ≡ shape
    → breach ≡ named_breach table trace → save_text window breach table trace ≡ saved shape table trace
saved_is window shape breach table trace window_is breach_is =
    ap (λ w. save_text w breach table trace) window_is ∙ ap (λ b. save_text shape b table trace) breach_is
