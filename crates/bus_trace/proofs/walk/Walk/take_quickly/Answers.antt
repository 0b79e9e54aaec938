use Rattle.std.proofs.Common.{arith, ◌∙◌, ap, subst}
use Rattle.bus_trace.specs.Runs.{Standing}
use Rattle.bus_trace.specs.inside.Walking.{TookFront}
use Rattle.bus_trace.proofs.QuickLines.{match_given}
use Rattle.bus_trace.proofs.Walks.{took_front, took_is, took_shorter_by}
use Rattle.bus_trace.proofs.walk.Walk.take_quickly.Goals as goal

pub invariant_of-self-2 : goal.invariant_of-self-2
invariant_of-self-2 c =
    let empty = ap (λ (r : Standing). r.line) c.self.view_is ∙ c.requires.empty in
    let taken = match_given c.in_ok-rest.field-0 c.in-Some.rest _ _ c.in-Some.is c.in_ok-rest.ensures.ok in
    took_is c.self.inside.draft c.take_quickly.new.self c.args.text.now c.in-Some.rest.now c.self.inside.line.items c.self.inside.used _
    c.self.invariant empty taken (omega (arith, took_shorter_by _ _ _ _ taken))

pub returns : goal.returns
returns c =
    let empty = ap (λ (r : Standing). r.line) c.self.view_is ∙ c.requires.empty in
    let taken = match_given c.in_ok-rest.field-0 c.in-Some.rest _ _ c.in-Some.is c.in_ok-rest.ensures.ok in
    let P : Standing → Type 0 = λ old. TookFront old (record { state = c.take_quickly.new.self; line = c.self.inside.line.items })
    c.args.text.now c.in-Some.rest.now in
    subst P c.self.view_is
    (took_front c.self.inside.draft c.take_quickly.new.self c.args.text.now c.in-Some.rest.now c.self.inside.line.items
    c.self.invariant.sound empty taken)
