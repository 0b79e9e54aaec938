use Rattle.std.proofs.Common.{arith, ap, ◌∙◌, ◌<◌, ◌≤◌, sym, subst, List, ℕ}
use Rattle.std.specs.List.{All}
use Rattle.bus_table.specs.Offsets.{with_offsets}
use Rattle.bus_table.proofs.ValidLaws.{valid_facts}
use Rattle.bus_plan.specs.Plans.{least_interval}
use Rattle.bus_plan.proofs.Moved.{short_refused}
use Rattle.bus_plan.proofs.Outcome.{planned_offsets_below, is_feasible, answer_short, answer_long}
use Rattle.bus_plan.proofs.Steps.{all_of}
use Rattle.bus_plan.proofs.planning.plan.Goals as goal

pub returns-then-ti-least : goal.returns-then-ti-least
returns-then-ti-least c =
    let facts = valid_facts c.args.table.now c.ti.ensures.valid in
    let ti = c.from-ti.ensures ∙ c.ti.ensures.value in
    let least = c.least_interval-least.ensures in
    let short : c.args.table.now.ti < least_interval c.args.table.now = omega (arith, ti, least, c.if-ti-least.true) in
    record {
      exact = answer_short c.args.table.now c.least_interval-least.result c.from-ti.result short least ti;
      meaning = record {
        short = short;
        refused = λ offsets. short_refused c.args.table.now offsets c.requires.periodic facts.some short;
      };
    }

pub with_offsets-requires-clause-below : goal.with_offsets-requires-clause-below
with_offsets-requires-clause-below c =
    let ti = c.from-ti.ensures ∙ c.ti.ensures.value in
    let least = c.least_interval-least.ensures in
    let long : least_interval c.args.table.now ≤ c.args.table.now.ti = omega (arith, ti, least, c.if-ti-least.false) in
    let same = c.deref.ensures.value ∙ c.in_ok-offsets.ensures in
    subst (λ (os : List ℕ). All (λ at. at < c.args.table.now.ti) os) (sym same)
    (all_of (λ at. at < c.args.table.now.ti) _ (planned_offsets_below c.args.table.now c.ti.ensures.valid long))

pub returns : goal.returns
returns c =
    let ti = c.from-ti.ensures ∙ c.ti.ensures.value in
    let least = c.least_interval-least.ensures in
    let long : least_interval c.args.table.now ≤ c.args.table.now.ti = omega (arith, ti, least, c.if-ti-least.false) in
    let offsets = c.deref.ensures.value ∙ c.in_ok-offsets.ensures in
    let same = c.in_ok-with_offsets.ensures ∙ ap (λ (os : List ℕ). with_offsets os c.args.table.now) offsets in
    record {
      exact = answer_long c.args.table.now c.in_ok-with_offsets.field-0 long same;
      meaning = is_feasible c.args.table.now c.in_ok-with_offsets.field-0 c.ti.ensures.valid c.requires.periodic long same;
    }
