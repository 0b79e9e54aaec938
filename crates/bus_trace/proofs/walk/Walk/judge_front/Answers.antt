use Rattle.std.proofs.Common.{arith, subst, [], ◌++◌, ◌∷◌, ap, ◌∙◌, Ok}
use Rattle.bus_trace.specs.States.{step}
use Rattle.bus_trace.specs.Runs.{Standing, judged}
use Rattle.bus_trace.specs.inside.Walking.{JudgedGives}
use Rattle.bus_trace.proofs.Walks.{judge_gives, front_gives, front_is}
use Rattle.bus_trace.proofs.walk.Walk.judge_front.Goals as goal

pub invariant_of-self-2 : goal.invariant_of-self-2
invariant_of-self-2 c =
    let empty = ap (λ (r : Standing). r.line) c.self.view_is ∙ c.requires.empty in
    front_is c.self.inside.draft c.take_line.new.self c.args.line.now c.self.inside.line.items c.self.inside.used _ c.self.invariant
    empty c.requires.short c.in-Ok.ensures (omega arith)

pub returns : goal.returns
returns c =
    let empty = ap (λ (r : Standing). r.line) c.self.view_is ∙ c.requires.empty in
    let new : Standing = record { state = c.take_line.new.self; line = c.self.inside.line.items } in
    let P : Standing → Type 0 = λ old. JudgedGives old new (c.args.line.now ++ 10 ∷ []) (Ok c.passes.result)
    (judged old.state (step old.state c.args.line.now)) in
    subst P c.self.view_is
    (front_gives c.self.inside.draft new c.args.line.now c.self.inside.line.items (Ok c.passes.result) _ empty
    (rw c.passes.ensures
    (judge_gives c.self.inside.draft c.take_line.new.self c.args.line.now c.self.inside.line.items c.is_ended.result
    c.self.invariant.sound c.in-Ok.ensures c.is_ended.ensures empty)))
