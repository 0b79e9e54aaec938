use Rattle.std.proofs.Common.{arith, subst, [], ◌∷◌, ap, sym, ◌∙◌, Ok}
use Rattle.bus_trace.specs.States.{step}
use Rattle.bus_trace.specs.Runs.{Standing, judged}
use Rattle.bus_trace.specs.inside.Walking.{JudgedGives}
use Rattle.bus_trace.proofs.Walks.{judge_gives, judge_is}
use Rattle.bus_trace.proofs.walk.Walk.judge.Goals as goal

pub invariant_of-self-2 : goal.invariant_of-self-2
invariant_of-self-2 c =
    judge_is c.self.inside.draft c.take_line.new.self c.self.inside.line.items c.clear.new.self.items c.self.inside.used c.len.result
    c.self.invariant
    (ap (step c.self.inside.draft) (sym c.deref.ensures.value) ∙ c.in-Ok.ensures)
    (omega (arith, c.self.inside.line.ok.0)) c.clear.ensures.items

pub returns : goal.returns
returns c =
    let new : Standing = record { state = c.take_line.new.self; line = c.clear.new.self.items } in
    let P : Standing → Type 0 = λ old. JudgedGives old new (10 ∷ []) (Ok c.passes.result) (judged old.state (step old.state old.line)) in
    subst P c.self.view_is
    (rw c.passes.ensures
    (judge_gives c.self.inside.draft c.take_line.new.self c.self.inside.line.items c.clear.new.self.items c.is_ended.result
    c.self.invariant.sound
    (ap (step c.self.inside.draft) (sym c.deref.ensures.value) ∙ c.in-Ok.ensures) c.is_ended.ensures c.clear.ensures.items))
