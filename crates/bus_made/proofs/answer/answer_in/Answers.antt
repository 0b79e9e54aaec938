use Rattle.std.specs.Prelude.{IfOk}
use Rattle.std.proofs.Common.{◌≡◌, Some, None, Option, sym, ap, subst, ◌∙◌}
use Rattle.bus_table.specs.Tables.{Table}
use Rattle.bus_design.specs.Bests.{IsMade}
use Rattle.bus_design.proofs.Plans.{if_some}
use Rattle.bus_made.specs.declared.answer.Answer.{Answer}
use Rattle.bus_made.specs.declared.wish.Lack.{Lack}
use Rattle.bus_made.specs.Answers.{late_or, made_or}
use Rattle.bus_made.specs.Designs.{design_of}
use Rattle.bus_made.specs.Wishes.{lacking}
use Rattle.bus_made.proofs.Late.{are_met, is_late}
use Rattle.bus_made.proofs.One.{designed, maker_gives, one_design}
use Rattle.bus_made.proofs.answer.answer_in.Goals as goal

pub returns-in_default-clause-exact : goal.returns-in_default-clause-exact
returns-in_default-clause-exact c =
    let is : None ≡ design_of c.args.bounds c.args.table.now =
    sym c.in_default.is
    ∙ one_design c.args.bounds c.args.table.now _ _
    (maker_gives c.args.bounds c.args.table.now _ c.in_ok-made.ensures.made c.in_ok-made.ensures.none)
    (designed c.args.bounds c.args.table.now c.delay-ranges.ensures.ranges.clocks c.sg-valid.ensures.valid c.requires) in
    subst (λ (a : Answer). IfOk c.infeasible.result (λ answer. answer ≡ a))
    (ap (λ (o : Option Table). made_or o c.args.bounds c.args.wishes.now c.args.table.now) is) c.infeasible.ensures.value

pub returns-in-Some-lacking-clause-exact : goal.returns-in-Some-lacking-clause-exact
returns-in-Some-lacking-clause-exact c =
    let is : Some c.in-Some.made ≡ design_of c.args.bounds c.args.table.now =
    sym c.in-Some.is
    ∙ one_design c.args.bounds c.args.table.now _ _
    (maker_gives c.args.bounds c.args.table.now _ c.in_ok-made.ensures.made c.in_ok-made.ensures.none)
    (designed c.args.bounds c.args.table.now c.delay-ranges.ensures.ranges.clocks c.sg-valid.ensures.valid c.requires) in
    let lack : Some c.in-Some-lacking.lack ≡ lacking c.args.bounds c.in-Some.made c.args.wishes.now = sym c.in-Some-lacking.is ∙ c.lacking.ensures in
    ap (λ (o : Option Lack). late_or o c.in-Some.made) lack
    ∙ ap (λ (o : Option Table). made_or o c.args.bounds c.args.wishes.now c.args.table.now) is

pub returns-in-Some-lacking-clause-meaning : goal.returns-in-Some-lacking-clause-meaning
returns-in-Some-lacking-clause-meaning c =
    is_late c.args.bounds c.args.table.now c.in-Some.made c.args.wishes.now c.in-Some-lacking.lack
    (if_some (IsMade c.args.bounds c.args.table.now) _ c.in-Some.made c.in-Some.is c.in_ok-made.ensures.made)
    (sym c.in-Some-lacking.is ∙ c.lacking.ensures)

pub returns-in-None-clause-exact : goal.returns-in-None-clause-exact
returns-in-None-clause-exact c =
    let is : Some c.in-Some.made ≡ design_of c.args.bounds c.args.table.now =
    sym c.in-Some.is
    ∙ one_design c.args.bounds c.args.table.now _ _
    (maker_gives c.args.bounds c.args.table.now _ c.in_ok-made.ensures.made c.in_ok-made.ensures.none)
    (designed c.args.bounds c.args.table.now c.delay-ranges.ensures.ranges.clocks c.sg-valid.ensures.valid c.requires) in
    let none : None ≡ lacking c.args.bounds c.in-Some.made c.args.wishes.now = sym c.in-None.is ∙ c.lacking.ensures in
    ap (λ (o : Option Lack). late_or o c.in-Some.made) none
    ∙ ap (λ (o : Option Table). made_or o c.args.bounds c.args.wishes.now c.args.table.now) is

pub returns-in-None-clause-meaning : goal.returns-in-None-clause-meaning
returns-in-None-clause-meaning c = (
  if_some (IsMade c.args.bounds c.args.table.now) _ c.in-Some.made c.in-Some.is c.in_ok-made.ensures.made,
  are_met c.args.bounds c.in-Some.made c.args.wishes.now (sym c.in-None.is ∙ c.lacking.ensures),
)
