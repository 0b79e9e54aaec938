use Rattle.std.proofs.Common.{ap, sym, subst, ◌∙◌, cond, Err, Result}
use Rattle.bus_text.specs.AllOf.{◌>>=◌}
use Rattle.bus_words.specs.declared.word.Kind.TheVariants.{Label}
use Rattle.bus_wave.specs.declared.fault.WaveReason.{WaveReason}
use Rattle.bus_wave.specs.declared.fault.WaveReason.TheVariants.{Order}
use Rattle.bus_wave.specs.declared.phase.Phase.TheVariants as code
use Rattle.bus_wave.specs.declared.symbol.Symbol.TheVariants.{Sent}
use Rattle.bus_text.specs.inside.Gives.{StepGives}
use Rattle.bus_wave.specs.Judging.{State, beginner, begin_step, bounded, step}
use Rattle.bus_wave.specs.inside.Bounded.{begin_bounded}
use Rattle.bus_wave.specs.inside.Drafts.{state_of}
use Rattle.bus_wave.proofs.DraftLemmas.{stepped, state_in}
use Rattle.bus_wave.proofs.draft.Draft.take_label.Goals as goal

pub returns-in-Opened-clause-gives : goal.returns-in-Opened-clause-gives
unfolding step
returns-in-Opened-clause-gives c =
    let d = c.args.self.now in
    let o = beginner c.args.beginners.now.senders.now c.args.value in
    subst (λ (r : Result State WaveReason). StepGives (state_of c.take_first.new.self) c.take_first.result r)
    (ap (λ q. begin_bounded (state_in d q) o) c.in-Opened.is ∙ sym (stepped c.args.beginners.now.senders.now d code.Opened (Sent (record { kind = Label; value = c.args.value })) c.in-Opened.is))
    c.take_first.ensures.gives

pub returns-then-free-clause-gives : goal.returns-then-free-clause-gives
unfolding step
returns-then-free-clause-gives c =
    let d = c.args.self.now in
    let p = code.Silent c.in-Silent.free in
    let o = beginner c.args.beginners.now.senders.now c.args.value in
    subst (λ (r : Result State WaveReason). StepGives (state_of c.take_first-then-free.new.self) c.take_first-then-free.result r)
    (ap (λ q. begin_bounded (state_in d q) o) c.in-Silent.is
    ∙ ap (λ b. cond b (begin_step (state_in d p) o) (Err Order) >>= bounded) (sym c.if-free.true)
    ∙ sym (stepped c.args.beginners.now.senders.now d p (Sent (record { kind = Label; value = c.args.value })) c.in-Silent.is))
    c.take_first-then-free.ensures.gives

pub returns-else-free-clause-gives : goal.returns-else-free-clause-gives
unfolding step
returns-else-free-clause-gives c =
    let d = c.args.self.now in
    let p = code.Silent c.in-Silent.free in
    stepped c.args.beginners.now.senders.now d p (Sent (record { kind = Label; value = c.args.value })) c.in-Silent.is
    ∙ ap (λ b. cond b (begin_step (state_in d p) (beginner c.args.beginners.now.senders.now c.args.value)) (Err Order) >>= bounded) c.if-free.false

pub returns-in-Waiting-clause-gives : goal.returns-in-Waiting-clause-gives
unfolding step
returns-in-Waiting-clause-gives c =
    let d = c.args.self.now in
    subst (λ (r : Result State WaveReason). StepGives (state_of c.take_next.new.self) c.take_next.result r)
    (sym (stepped c.args.beginners.now.senders.now d (code.Waiting c.in-Waiting.next c.in-Waiting.left c.in-Waiting.later) (Sent (record { kind = Label; value = c.args.value })) c.in-Waiting.is))
    c.take_next.ensures.gives

pub returns-in-Saying-clause-gives : goal.returns-in-Saying-clause-gives
unfolding step
returns-in-Saying-clause-gives c =
    stepped c.args.beginners.now.senders.now c.args.self.now (code.Saying c.in-Saying.line c.in-Saying.left c.in-Saying.later) (Sent (record { kind = Label; value = c.args.value })) c.in-Saying.is

pub returns-in-Closed-clause-gives : goal.returns-in-Closed-clause-gives
unfolding step
returns-in-Closed-clause-gives c = stepped c.args.beginners.now.senders.now c.args.self.now code.Closed (Sent (record { kind = Label; value = c.args.value })) c.in-Closed.is
