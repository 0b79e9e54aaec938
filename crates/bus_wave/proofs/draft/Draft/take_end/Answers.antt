use Rattle.std.proofs.Common.{◌≤◌, arith, ap, sym, subst, ◌∙◌, Result}
use Rattle.bus_strings.specs.Limits.{horizon_limit}
use Rattle.bus_wave.specs.declared.fault.WaveReason.{WaveReason}
use Rattle.bus_wave.specs.declared.phase.Phase.TheVariants as code
use Rattle.bus_wave.specs.declared.symbol.Symbol.TheVariants.{End}
use Rattle.bus_text.specs.inside.Gives.{StepGives}
use Rattle.bus_wave.specs.Judging.{State, Closed, step}
use Rattle.bus_wave.specs.inside.Bounded.{last_bounded}
use Rattle.bus_wave.specs.inside.Drafts.{begun_of, state_of}
use Rattle.bus_wave.proofs.DraftLemmas.{stepped, state_in, kept, within}
use Rattle.bus_wave.proofs.draft.Draft.take_end.Goals as goal

pub returns-in-Opened-clause-gives : goal.returns-in-Opened-clause-gives
unfolding step
returns-in-Opened-clause-gives c =
    let d = c.args.self.now in
    let low : d.at ≤ horizon_limit = omega (arith, (kept d code.Opened c.requires c.in-Opened.is).1) in
    stepped c.args.beginners.now.senders.now d code.Opened End c.in-Opened.is
    ∙ within (record { at = d.at; list = d.list.items; phase = Closed }) (omega (arith, low))

pub returns-in-Silent-clause-gives : goal.returns-in-Silent-clause-gives
unfolding step
returns-in-Silent-clause-gives c =
    let d = c.args.self.now in
    let low : d.at ≤ horizon_limit = omega (arith, (kept d (code.Silent c.in-Silent.free) c.requires c.in-Silent.is).1) in
    stepped c.args.beginners.now.senders.now d (code.Silent c.in-Silent.free) End c.in-Silent.is
    ∙ within (record { at = d.at; list = d.list.items; phase = Closed }) (omega (arith, low))

pub returns-in-Saying-clause-gives : goal.returns-in-Saying-clause-gives
unfolding step
returns-in-Saying-clause-gives c =
    let d = c.args.self.now in
    subst (λ (r : Result State WaveReason). StepGives (state_of c.take_last.new.self) c.take_last.result r)
    (ap (λ q. last_bounded (state_in d q) (begun_of d) c.in-Saying.line d.words.items c.in-Saying.left.now) c.in-Saying.is
    ∙ sym (stepped c.args.beginners.now.senders.now d (code.Saying c.in-Saying.line c.in-Saying.left c.in-Saying.later) End c.in-Saying.is))
    c.take_last.ensures.gives

pub returns-in-Waiting-clause-gives : goal.returns-in-Waiting-clause-gives
unfolding step
returns-in-Waiting-clause-gives c =
    stepped c.args.beginners.now.senders.now c.args.self.now (code.Waiting c.in-Waiting.next c.in-Waiting.left c.in-Waiting.later) End c.in-Waiting.is

pub returns-in-Closed-clause-gives : goal.returns-in-Closed-clause-gives
unfolding step
returns-in-Closed-clause-gives c = stepped c.args.beginners.now.senders.now c.args.self.now code.Closed End c.in-Closed.is
