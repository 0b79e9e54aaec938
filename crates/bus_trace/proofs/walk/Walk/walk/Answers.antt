use Rattle.std.proofs.Common.{arith, ◌∙◌, ◌++◌, ◌∷◌, [], ap, subst, length, Ok, ◌-◌, sym}
use Rattle.bus_trace.specs.States.{text_of}
use Rattle.bus_trace.specs.Runs.{Standing, Refused, run}
use Rattle.bus_trace.specs.declared.reason.TraceReason.TheVariants.{Long}
use Rattle.bus_trace.specs.inside.Walking.{JudgedGives}
use Rattle.bus_trace.specs.declared.walk.Judged.{Judged}
use Rattle.bus_trace.proofs.Walks.{kept, not_kept, walks_begin, walks_on, walks_end, walks_fail, walks_kept, walks_give, behind_shorter}
use Rattle.bus_trace.proofs.walk.Walk.walk.Goals as goal

pub loop-front-init : goal.loop-front-init
loop-front-init c = walks_begin c.args.self.now c.args.piece.now

pub loop-front-preserved : goal.loop-front-preserved
loop-front-preserved c =
    let k = subst (λ (j : Judged). JudgedGives c.loop-front.self c.close.new.self (c.in-Some.front.now ++ 10 ∷ []) (Ok j)
    (run c.loop-front.self (c.in-Some.front.now ++ 10 ∷ []))) c.in-Passes.is c.in_ok-close.ensures in
    walks_on c.args.self.now c.loop-front.self c.close.new.self c.args.piece.now c.loop-front.rest.now c.in-Some.front.now
    c.in-Some.behind.now c.loop-front.invariant c.in-Some.ensures.0 k.0 k.1

pub returns-in-Ends : goal.returns-in-Ends
returns-in-Ends c =
    let k = subst (λ (j : Judged). JudgedGives c.loop-front.self c.close.new.self (c.in-Some.front.now ++ 10 ∷ []) (Ok j)
    (run c.loop-front.self (c.in-Some.front.now ++ 10 ∷ []))) c.in-Ends.is c.in_ok-close.ensures in
    let s = behind_shorter c.args.self.now c.loop-front.self c.args.piece.now c.loop-front.rest.now c.in-Some.front.now
    c.in-Some.behind.now c.loop-front.invariant c.in-Some.ensures.0 in
    walks_end c.args.self.now c.loop-front.self c.close.new.self c.args.piece.now c.loop-front.rest.now c.in-Some.front.now
    c.in-Some.behind.now (length c.args.piece.now - length c.in-Some.behind.now) c.loop-front.invariant c.in-Some.ensures.0
    (omega (arith, s)) k

pub returns-in-Fails : goal.returns-in-Fails
returns-in-Fails c =
    let k = subst (λ (j : Judged). JudgedGives c.loop-front.self c.close.new.self (c.in-Some.front.now ++ 10 ∷ []) (Ok j)
    (run c.loop-front.self (c.in-Some.front.now ++ 10 ∷ []))) c.in-Fails.is c.in_ok-close.ensures in
    walks_fail c.args.self.now c.loop-front.self c.args.piece.now c.loop-front.rest.now c.in-Some.front.now c.in-Some.behind.now
    c.in-Fails.byte c.in-Fails.reason c.loop-front.invariant c.in-Some.ensures.0 k

pub returns-then-not-branch : goal.returns-then-not-branch
returns-then-not-branch c =
    let k = not_kept _ _ _ _ c.if-not-branch.true c.in_ok-keep.ensures in
    walks_give c.args.self.now c.loop-front.self c.args.piece.now c.loop-front.rest.now c.loop-front.invariant ∙ k.1
    ∙ sym (ap (λ b. Refused b Long) (c.used.ensures ∙ ap (λ (s : Standing). length (text_of s.state)) k.0))

pub returns : goal.returns
returns c =
    let k = kept _ _ _ _ c.if-not-branch.false c.in_ok-keep.ensures in
    walks_kept c.args.self.now c.loop-front.self c.keep.new.self c.args.piece.now c.loop-front.rest.now c.loop-front.invariant k.0 k.1
