use Rattle.std.proofs.Common.{ap, sym, subst, ◌∙◌, ◌≤◌, ◌<◌, ℕ, List, length, inl, inr}
use Rattle.std.specs.List.{All}
use Rattle.std.specs.Prelude.{nat_le}
use Rattle.std.proofs.lemmas.Bool.{leb-true, true≢false}
use Rattle.bus_table.specs.Tables.{Table}
use Rattle.bus_table.proofs.ValidLaws.{valid_facts}
use Rattle.bus_cable_plan.specs.Plans.{least_in_order, least_interval_for, offsets_in_order, by_gap}
use Rattle.bus_cable_plan.proofs.ByGap.{by_gap_valid, by_gap_length}
use Rattle.bus_cable_plan.proofs.InOrder as order
use Rattle.bus_cable_plan.proofs.Outcome.{or_cases}
use Rattle.bus_cable_plan.proofs.Steps.{all_of}
use Rattle.bus_cable_plan.proofs.planning.fitting.Goals as goal

pub with_offsets-requires-clause-below : goal.with_offsets-requires-clause-below
with_offsets-requires-clause-below c =
    let facts = valid_facts c.args.table.now c.table_is_valid.ensures in
    let fits : least_in_order c.args.d c.args.table.now ≤ c.args.table.now.ti =
    leb-true (least_in_order c.args.d c.args.table.now) c.args.table.now.ti (sym c.fits_in_order.ensures ∙ c.if-fits_in_order.true) in
    subst (λ (os : List ℕ). All (λ at. at < c.args.table.now.ti) os) (sym (c.deref.ensures.value ∙ c.in_ok-offsets.ensures))
    (all_of (λ at. at < c.args.table.now.ti) (offsets_in_order c.args.d c.args.table.now)
    (order.offsets_below c.args.d c.args.table.now facts fits))

pub offsets_in_order-requires-2-clause-fits : goal.offsets_in_order-requires-2-clause-fits
offsets_in_order-requires-2-clause-fits c =
    let a = nat_le (least_in_order c.args.d c.args.table.now) c.args.table.now.ti in
    let b = nat_le (least_interval_for c.args.d c.args.table.now) c.args.table.now.ti in
    let fits : least_interval_for c.args.d c.args.table.now ≤ c.args.table.now.ti = elim (or_cases a b c.requires.fits) [
      | inl k ↦ absurd (true≢false (sym k ∙ sym c.fits_in_order.ensures ∙ c.if-fits_in_order.false))
      | inr k ↦ leb-true (least_interval_for c.args.d c.args.table.now) c.args.table.now.ti k
    ] in
    subst (λ (t : Table). least_in_order c.args.d t ≤ t.ti) (sym c.requires.ordered) fits

pub with_offsets-requires-2-clause-count : goal.with_offsets-requires-2-clause-count
with_offsets-requires-2-clause-count c =
    ap length (c.deref-2.ensures.value ∙ c.in_ok-offsets-2.ensures ∙ ap (offsets_in_order c.args.d) c.requires.ordered)
    ∙ order.offsets_count c.args.d (by_gap c.args.table.now) ∙ by_gap_length c.args.table.now

pub with_offsets-requires-2-clause-below : goal.with_offsets-requires-2-clause-below
with_offsets-requires-2-clause-below c =
    let valid = by_gap_valid c.args.table.now c.table_is_valid.ensures c.requires.periodic in
    let a = nat_le (least_in_order c.args.d c.args.table.now) c.args.table.now.ti in
    let b = nat_le (least_interval_for c.args.d c.args.table.now) c.args.table.now.ti in
    let fits : least_interval_for c.args.d c.args.table.now ≤ c.args.table.now.ti = elim (or_cases a b c.requires.fits) [
      | inl k ↦ absurd (true≢false (sym k ∙ sym c.fits_in_order.ensures ∙ c.if-fits_in_order.false))
      | inr k ↦ leb-true (least_interval_for c.args.d c.args.table.now) c.args.table.now.ti k
    ] in
    let same = c.deref-2.ensures.value ∙ c.in_ok-offsets-2.ensures ∙ ap (offsets_in_order c.args.d) c.requires.ordered in
    subst (λ (os : List ℕ). All (λ at. at < c.args.table.now.ti) os) (sym same)
    (all_of (λ at. at < c.args.table.now.ti) (offsets_in_order c.args.d (by_gap c.args.table.now))
    (order.offsets_below c.args.d (by_gap c.args.table.now) (valid_facts (by_gap c.args.table.now) valid) fits))
