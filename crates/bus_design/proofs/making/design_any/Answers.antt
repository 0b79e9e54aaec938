use Rattle.std.proofs.Common.{ℕ, ◌<◌, List, length, get_or, ap, sym, subst, ◌∙◌}
use Rattle.std.specs.Prelude.{IsTrue}
use Rattle.bus_table.specs.Ranges.{is_tg}
use Rattle.bus_table.specs.Turns.{turn_key}
use Rattle.bus_table.specs.Valid.{is_valid}
use Rattle.bus_table.proofs.TurnLaws.{length-sort}
use Rattle.bus_design.specs.Others.{made_table}
use Rattle.bus_design.specs.Bests.{IsBestFor, IsMade}
use Rattle.bus_design.proofs.Plans.{if_some}
use Rattle.bus_design.proofs.Made.{made_best, made_is_valid, roomy_many, taken_range}
use Rattle.bus_design.proofs.making.design_any.Goals as goal

pub table_of-requires-clause-count : goal.table_of-requires-clause-count
table_of-requires-clause-count c =
    let best = if_some (IsBestFor c.args.bounds c.args.table.now) _ c.in-Some.best c.in-Some.is c.in_ok-best.ensures.best in
    ap length c.deref.ensures.value
    ∙ roomy_many c.args.bounds c.args.table.now c.in-Some.best.sg c.in-Some.best.gaps.items best.roomy
    ∙ length-sort (turn_key c.args.table.now.mode) c.args.table.now.senders

pub table_of-requires-clause-range : goal.table_of-requires-clause-range
table_of-requires-clause-range c =
    let best = if_some (IsBestFor c.args.bounds c.args.table.now) _ c.in-Some.best c.in-Some.is c.in_ok-best.ensures.best in
    subst (λ (gaps : List ℕ). (k d : ℕ) → k < length gaps → IsTrue (is_tg (get_or gaps k d))) (sym c.deref.ensures.value)
    (taken_range c.args.bounds c.in-Some.best.sg _ _ c.in-Some.best.gaps.items _ best.roomy.taken)

pub table_of-requires-clause-valid : goal.table_of-requires-clause-valid
table_of-requires-clause-valid c =
    let best = if_some (IsBestFor c.args.bounds c.args.table.now) _ c.in-Some.best c.in-Some.is c.in_ok-best.ensures.best in
    subst (λ (gaps : List ℕ). IsTrue (is_valid (made_table c.args.table.now c.in-Some.best.sg gaps))) (sym c.deref.ensures.value)
    (made_is_valid c.args.bounds c.args.table.now c.in-Some.best.sg c.in-Some.best.gaps.items c.delay-ranges.ensures.ranges.clocks
    c.sg-valid.ensures.valid c.requires best.roomy)

pub returns-in_ok-table_of-in-Some-clause-made : goal.returns-in_ok-table_of-in-Some-clause-made
returns-in_ok-table_of-in-Some-clause-made c =
    let best = if_some (IsBestFor c.args.bounds c.args.table.now) _ c.in-Some.best c.in-Some.is c.in_ok-best.ensures.best in
    subst (IsMade c.args.bounds c.args.table.now)
    (ap (made_table c.args.table.now c.in-Some.best.sg) (sym c.deref.ensures.value) ∙ sym c.in_ok-table_of-in-Some.ensures)
    (made_best c.args.bounds c.args.table.now c.in-Some.best c.delay-ranges.ensures.ranges.clocks c.sg-valid.ensures.valid c.requires best)
