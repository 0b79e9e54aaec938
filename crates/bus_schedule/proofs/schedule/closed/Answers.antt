use Rattle.std.proofs.Common.{◌≡◌, ℕ, ◌≤◌, sym, subst, arith, refl}
use Rattle.std.specs.Prelude.{List}
use Rattle.bus_strings.specs.Messages.{Entry}
use Rattle.bus_table.specs.Tables.{Hand}
use Rattle.bus_schedule.specs.Closed.{closed, closed_end}
use Rattle.bus_schedule.specs.Limits.{longest_end, IsRefused}
use Rattle.bus_schedule.specs.Settled.{Fails}
use Rattle.bus_schedule.specs.declared.error.ScheduleError.{ScheduleError}
use Rattle.bus_schedule.specs.declared.error.ScheduleError.TheVariants.{Memory, TooLong}
use Rattle.bus_schedule.proofs.schedule.closed.Goals as goal

only_memory : (end : ℕ) (error : ScheduleError) → end ≤ longest_end → IsRefused end error → error ≡ Memory
only_memory end Memory short h = refl
only_memory end (TooLong told) short h = absurd (omega (arith, h.0))

pub returns-in_err-limited_end-clause-witness : goal.returns-in_err-limited_end-clause-witness
returns-in_err-limited_end-clause-witness c same =
    let short = c.witnesses_have_schedules.ensures.short c.args.table.now c.table_is_valid.ensures in
    let m : c.in_err-limited_end.field-0.0 ≡ Memory =
    only_memory (closed_end c.args.table.now c.args.hands.now) c.in_err-limited_end.field-0.0
    (subst (λ (hands : List Hand). closed_end c.args.table.now hands ≤ longest_end) (sym same) short) c.in_err-limited_end.ensures.limit.refused in
    grind (arith, m, c.from_residual.ensures)

pub returns-clause-refused : goal.returns-clause-refused
returns-clause-refused c refused same =
    let fails = c.verdicts_are_exact.ensures.refused c.args.table.now c.table_is_valid.ensures refused in
    let list_is : c.in_ok-list.list.items ≡ closed c.args.table.now c.args.hands.now = c.in_ok-list.ensures in
    subst (λ (list : List Entry). Fails c.args.table.now c.args.hands.now list) (sym list_is)
    (subst (λ (hands : List Hand). Fails c.args.table.now hands (closed c.args.table.now hands)) (sym same) fails)
