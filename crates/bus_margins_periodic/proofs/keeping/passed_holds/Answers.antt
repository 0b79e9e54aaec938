use Rattle.std.proofs.Common.{◌≡◌, ◌+◌, ◌-◌, arith, inl, inr, refl, sym, ap, ◌∙◌}
use Rattle.bus_drift.specs.Turns.{fastest}
use Rattle.bus_margins.specs.Buses.{bus_of}
use Rattle.bus_margins_periodic.specs.inside.Cases.{IsCase}
use Rattle.bus_margins_periodic.proofs.KeepingLemmas.{passed_all, passed_lacks, passed_next, passed_end}
use Rattle.bus_margins_periodic.proofs.OrderLemmas.{case_on}
use Rattle.bus_margins_periodic.proofs.keeping.passed_holds.Goals as goal

pub loop-due-init : goal.loop-due-init
loop-due-init c = (
  λ b less. absurd (omega arith),
  c.requires.case.fast ∙ ap (fastest (bus_of c.args.bounds c.args.table.now) c.args.case.late) (let e : c.args.case.due ≡ c.args.case.held + 1 - 1 = omega (arith, c.requires.begins) in e),
  omega (arith, c.requires.small),
  omega arith,
  inr (omega arith),
)

pub is_enough-requires : goal.is_enough-requires
is_enough-requires c =
    let case : IsCase (bus_of c.args.bounds c.args.table.now) _ =
    case_on (bus_of c.args.bounds c.args.table.now) c.args.case c.loop-due.due c.loop-due.fast c.short_step-fast.result c.requires.case c.loop-due.invariant.3
    (omega (arith, c.loop-due-test.true, c.requires.few)) c.loop-due.invariant.1 c.short_step-fast.ensures.value
    (omega (arith, c.loop-due.invariant.2, c.short_step-fast.ensures.bound, c.loop-due-test.true, c.requires.few, c.loop-due.invariant.3)) in
    record { case = case }

pub returns-then-is_enough : goal.returns-then-is_enough
returns-then-is_enough c =
    sym (passed_all (bus_of c.args.bounds c.args.table.now) (λ k. refl) c.args.last c.args.case.late c.args.case.held c.requires.case.order c.loop-due.due
    c.loop-due.invariant.3 c.loop-due.invariant.0 (sym c.is_enough.ensures ∙ c.if-is_enough.true))

pub returns-then-is_ruled : goal.returns-then-is_ruled
returns-then-is_ruled c =
    sym (passed_lacks (bus_of c.args.bounds c.args.table.now) (λ k. refl) c.args.last c.args.case.late c.args.case.held c.requires.case.order c.loop-due.due
    c.loop-due.invariant.3 (omega (arith, c.loop-due-test.true)) (sym c.is_ruled.ensures ∙ c.if-is_ruled.true) (sym c.is_enough.ensures ∙ c.if-is_enough.false))

pub loop-due-preserved : goal.loop-due-preserved
loop-due-preserved c =
    let case : IsCase (bus_of c.args.bounds c.args.table.now) _ =
    case_on (bus_of c.args.bounds c.args.table.now) c.args.case c.loop-due.due c.loop-due.fast c.short_step-fast.result c.requires.case c.loop-due.invariant.3
    (omega (arith, c.loop-due-test.true, c.requires.few)) c.loop-due.invariant.1 c.short_step-fast.ensures.value
    (omega (arith, c.loop-due.invariant.2, c.short_step-fast.ensures.bound, c.loop-due-test.true, c.requires.few, c.loop-due.invariant.3)) in (
      passed_next (bus_of c.args.bounds c.args.table.now) (λ k. refl) c.args.last c.args.case.late c.args.case.held c.requires.case.order c.loop-due.due
          c.loop-due.invariant.3 c.loop-due.invariant.0 (sym c.is_ruled.ensures ∙ c.if-is_ruled.false),
      case.fast ∙ ap (fastest (bus_of c.args.bounds c.args.table.now) c.args.case.late) (let e : c.loop-due.due ≡ c.loop-due.due + 1 - 1 = omega arith in e),
      omega (arith, c.loop-due.invariant.2, c.short_step-fast.ensures.bound, c.loop-due.invariant.3),
      omega (arith, c.loop-due.invariant.3),
      inl (omega (arith, c.loop-due-test.true)),
    )

pub returns : goal.returns
returns c =
    sym (passed_end (bus_of c.args.bounds c.args.table.now) (λ k. refl) c.args.last c.args.case.late c.args.case.held c.requires.case.order c.loop-due.due
    (omega (arith, c.loop-due-test.false)) c.loop-due.invariant.0)
