use Rattle.std.proofs.Common.{◌≤◌, ◌+◌, true, arith, ap, sym, subst, ◌∙◌, Result}
use Rattle.bus_strings.specs.Limits.{horizon_limit}
use Rattle.bus_wave.specs.declared.fault.WaveReason.{WaveReason}
use Rattle.bus_wave.specs.declared.phase.Phase.TheVariants as code
use Rattle.bus_wave.specs.declared.symbol.Symbol.TheVariants.{Quiet}
use Rattle.bus_text.specs.inside.Gives.{StepGives}
use Rattle.bus_wave.specs.Judging.{State, Silent}
use Rattle.bus_wave.specs.inside.Bounded.{pause_bounded}
use Rattle.bus_wave.specs.inside.Drafts.{begun_of, state_of}
use Rattle.bus_wave.proofs.DraftLemmas.{stepped, state_in, kept, within, past, quiet_none, quiet_on}
use Rattle.bus_wave.proofs.draft.Draft.take_quiet.Goals as goal

pub returns-then-bit_times-eq0-clause-gives : goal.returns-then-bit_times-eq0-clause-gives
returns-then-bit_times-eq0-clause-gives c = quiet_none c.args.beginners.now.senders.now (state_of c.args.self.now) c.args.bit_times c.if-bit_times-eq0.true

pub returns-then-bit_times-self-clause-gives : goal.returns-then-bit_times-self-clause-gives
returns-then-bit_times-self-clause-gives c =
    let d = c.args.self.now in
    let low : d.at ≤ horizon_limit = omega (arith, (kept d code.Opened c.requires c.in-Opened.is).1) in
    stepped c.args.beginners.now.senders.now d code.Opened (Quiet c.args.bit_times) c.in-Opened.is
    ∙ quiet_on c.args.beginners.now.senders.now (state_in d code.Opened) c.args.bit_times c.if-bit_times-eq0.false
    ∙ past (record { at = d.at + c.args.bit_times; list = d.list.items; phase = Silent true }) (omega (arith, low))

pub returns-else-bit_times-self-clause-gives : goal.returns-else-bit_times-self-clause-gives
returns-else-bit_times-self-clause-gives c =
    let d = c.args.self.now in
    let low : d.at ≤ horizon_limit = omega (arith, (kept d code.Opened c.requires c.in-Opened.is).1) in
    stepped c.args.beginners.now.senders.now d code.Opened (Quiet c.args.bit_times) c.in-Opened.is
    ∙ quiet_on c.args.beginners.now.senders.now (state_in d code.Opened) c.args.bit_times c.if-bit_times-eq0.false
    ∙ within (record { at = d.at + c.args.bit_times; list = d.list.items; phase = Silent true }) (omega (arith, low))

pub returns-in-Silent-clause-gives : goal.returns-in-Silent-clause-gives
returns-in-Silent-clause-gives c =
    let d = c.args.self.now in
    stepped c.args.beginners.now.senders.now d (code.Silent c.in-Silent.free) (Quiet c.args.bit_times) c.in-Silent.is
    ∙ quiet_on c.args.beginners.now.senders.now (state_in d (code.Silent c.in-Silent.free)) c.args.bit_times c.if-bit_times-eq0.false

pub returns-in-Saying-clause-gives : goal.returns-in-Saying-clause-gives
returns-in-Saying-clause-gives c =
    let d = c.args.self.now in
    let p = code.Saying c.in-Saying.line c.in-Saying.left c.in-Saying.later in
    subst (λ (r : Result State WaveReason). StepGives (state_of c.take_pause.new.self) c.take_pause.result r)
    (ap (λ q. pause_bounded (state_in d q) c.args.bit_times (begun_of d) c.in-Saying.line d.words.items c.in-Saying.left.now) c.in-Saying.is
    ∙ sym (stepped c.args.beginners.now.senders.now d p (Quiet c.args.bit_times) c.in-Saying.is ∙ quiet_on c.args.beginners.now.senders.now (state_in d p) c.args.bit_times c.if-bit_times-eq0.false))
    c.take_pause.ensures.gives

pub returns-in-Waiting-clause-gives : goal.returns-in-Waiting-clause-gives
returns-in-Waiting-clause-gives c =
    let d = c.args.self.now in
    let p = code.Waiting c.in-Waiting.next c.in-Waiting.left c.in-Waiting.later in
    stepped c.args.beginners.now.senders.now d p (Quiet c.args.bit_times) c.in-Waiting.is
    ∙ quiet_on c.args.beginners.now.senders.now (state_in d p) c.args.bit_times c.if-bit_times-eq0.false

pub returns-in-Closed-clause-gives : goal.returns-in-Closed-clause-gives
returns-in-Closed-clause-gives c =
    let d = c.args.self.now in
    stepped c.args.beginners.now.senders.now d code.Closed (Quiet c.args.bit_times) c.in-Closed.is
    ∙ quiet_on c.args.beginners.now.senders.now (state_in d code.Closed) c.args.bit_times c.if-bit_times-eq0.false
