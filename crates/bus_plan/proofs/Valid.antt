-- The planned table.
use Rattle.std.specs.Prelude.{◌≡◌, ◌+◌, ◌≤◌, true, List, [], ◌∷◌, map}
use Rattle.std.specs.List.{sum_by}
use Rattle.std.proofs.Common.{arith, sym, refl, ap, ◌∙◌, subst}
use Rattle.bus_strings.specs.Members.{In}
use Rattle.bus_table.specs.declared.mode.Mode.{Mode}
use Rattle.bus_table.specs.declared.mode.Mode.TheVariants.{Periodic}
use Rattle.bus_table.specs.Tables.{Sender, Table}
use Rattle.bus_table.specs.inside.Facts.{SenderFacts, TableFacts}
use Rattle.bus_table.specs.Turns.{sort, turn_key, turn_order}
use Rattle.bus_table.specs.inside.Orders.{Rises}
use Rattle.bus_table.proofs.TurnLaws.{of_each, from_sort, in_sort, numbers_differ, order_rises}
use Rattle.bus_regime.specs.Verdicts.{verdict_of, is_accepted}
use Rattle.bus_regime.specs.Gaps.{gaps, gaps_from, last_end}
use Rattle.bus_regime.specs.inside.Fine.{IsFine}
use Rattle.bus_regime.proofs.VerdictLaws.{gaps_accepted}
use Rattle.bus_table.specs.Offsets.{at_offsets}
use Rattle.bus_plan.specs.Plans.{turn_time, planned_order, planned, least_interval, sync_time, offset_in, planned_offsets, planned_table}
use Rattle.bus_plan.proofs.Orders.{in_planned, from_planned}
use Rattle.bus_plan.proofs.Members.{rising_same, in_map, from_map, differ_planned, sum_planned}
use Rattle.bus_plan.proofs.Planned.{AreModest, placed, planned_fine, planned_rises, planned_is, planned_differ}

-- offsets by number are what the senders get
offsets_placed : (plan senders : List Sender) → at_offsets (map (λ s. offset_in plan s.number) senders) senders ≡ map (placed plan) senders
offsets_placed plan [] = refl
offsets_placed plan (s ∷ senders) = ap (λ l. placed plan s ∷ l) (offsets_placed plan senders)

pub modest : (table : Table) → TableFacts table → AreModest table.sg (planned_order table.senders)
modest table facts s i =
    let f = of_each (SenderFacts table) table.senders facts.senders s (from_planned table.senders s i) in
    let least = f.tg_least in
    record { number_most = f.number_most; tg_least = omega (arith, least); tg_short = f.tg_short }

pub time_in_order : (table : Table) → least_interval table ≤ table.ti
    → sum_by turn_time (planned_order table.senders) + sync_time table.sg (planned_order table.senders) ≤ table.ti
time_in_order table h = let same = sum_planned turn_time table.senders in omega (arith, h, same)

-- the turn order of the planned table is the planned order
turn_planned : (table : Table) → TableFacts table
    → Rises (turn_key Periodic) (sort (turn_key Periodic) (at_offsets (planned_offsets table) table.senders))
    → least_interval table ≤ table.ti
    → sort (turn_key Periodic) (at_offsets (planned_offsets table) table.senders) ≡ planned table.sg (planned_order table.senders)
turn_planned table facts rises h =
    let order : List Sender = planned_order table.senders in
    let plan : List Sender = planned table.sg order in
    let moved : List Sender = at_offsets (planned_offsets table) table.senders in
    let key = turn_key Periodic in
    let here : moved ≡ map (placed plan) table.senders = offsets_placed plan table.senders in
    let there : plan ≡ map (placed plan) order =
    planned_is table.sg order (differ_planned (λ s. s.number) table.senders (numbers_differ table facts)) in
    rising_same key (sort key moved) plan rises (planned_rises table.sg table.ti order (modest table facts) (time_in_order table h))
    (λ x i. let k : In x (map (placed plan) table.senders) = subst (λ l. In x l) here (from_sort key moved x i) in
    let w = from_map (placed plan) table.senders x k in
    subst (λ l. In x l) (sym there) (subst (λ y. In y (map (placed plan) order)) (sym w.2)
    (in_map (placed plan) order w.0 (in_planned table.senders w.0 w.1))))
    (λ x i. let k : In x (map (placed plan) order) = subst (λ l. In x l) there i in
    let w = from_map (placed plan) order x k in
    in_sort key moved x (subst (λ l. In x l) (sym here)
    (subst (λ y. In y (map (placed plan) table.senders)) (sym w.2)
    (in_map (placed plan) table.senders w.0 (from_planned table.senders w.0 w.1)))))

-- it is accepted
pub planned_accepted : (table : Table) → TableFacts table → TableFacts (planned_table table) → table.mode ≡ Periodic
    → least_interval table ≤ table.ti → is_accepted (verdict_of (planned_table table)) ≡ true
planned_accepted table facts after periodic h =
    let moved : List Sender = at_offsets (planned_offsets table) table.senders in
    let order : List Sender = planned_order table.senders in
    let plan : List Sender = planned table.sg order in
    let rises : Rises (turn_key Periodic) (sort (turn_key Periodic) moved) =
    subst (λ (m : Mode). Rises (turn_key m) (sort (turn_key m) moved)) periodic (order_rises (planned_table table) after) in
    let turned : turn_order (planned_table table) ≡ plan = ap (λ (m : Mode). sort (turn_key m) moved) periodic
    ∙ turn_planned table facts rises h in
    let differ = planned_differ table.sg order (differ_planned (λ s. s.number) table.senders (numbers_differ table facts)) in
    let same : gaps (planned_table table) ≡ gaps_from table.ti (last_end 0 plan) plan =
    ap (λ l. gaps_from table.ti (last_end 0 l) l) turned in
    gaps_accepted (planned_table table) periodic (λ g j. subst (λ all. IsFine table.sg all g) (sym same)
    (planned_fine table.sg table.ti order (modest table facts) differ (time_in_order table h) g (subst (λ all. In g all) same j)))
