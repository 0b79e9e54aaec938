use Rattle.std.proofs.Common.{◌≡◌, arith, ap, ◌∙◌, ◌+◌, sym, Ok, Result}
use Rattle.bus_words.specs.declared.word.Kind.TheVariants.{Plain}
use Rattle.bus_wave.specs.declared.phase.Phase.TheVariants as code
use Rattle.bus_wave.specs.declared.symbol.Symbol.TheVariants.{Sent}
use Rattle.bus_wave.specs.declared.fault.WaveReason.{WaveReason}
use Rattle.bus_wave.specs.Judging.{Saying, State, step, later}
use Rattle.bus_wave.specs.inside.Drafts.{begun_of, phase_of}
use Rattle.bus_wave.proofs.DraftLemmas.{stepped, kept, data_full, data_past, data_taken}
use Rattle.bus_wave.proofs.draft.Draft.take_data.Goals as goal

pub returns-in-Opened-clause-gives : goal.returns-in-Opened-clause-gives
unfolding step
returns-in-Opened-clause-gives c = stepped c.args.beginners.now.senders.now c.args.self.now code.Opened (Sent (record { kind = Plain; value = c.args.value })) c.in-Opened.is

pub returns-in-Silent-clause-gives : goal.returns-in-Silent-clause-gives
unfolding step
returns-in-Silent-clause-gives c = stepped c.args.beginners.now.senders.now c.args.self.now (code.Silent c.in-Silent.free) (Sent (record { kind = Plain; value = c.args.value })) c.in-Silent.is

pub returns-in-Waiting-clause-gives : goal.returns-in-Waiting-clause-gives
unfolding step
returns-in-Waiting-clause-gives c = stepped c.args.beginners.now.senders.now c.args.self.now (code.Waiting c.in-Waiting.next c.in-Waiting.left c.in-Waiting.later) (Sent (record { kind = Plain; value = c.args.value })) c.in-Waiting.is

pub returns-in-Closed-clause-gives : goal.returns-in-Closed-clause-gives
unfolding step
returns-in-Closed-clause-gives c = stepped c.args.beginners.now.senders.now c.args.self.now code.Closed (Sent (record { kind = Plain; value = c.args.value })) c.in-Closed.is

pub returns-then-count-from-clause-gives : goal.returns-then-count-from-clause-gives
returns-then-count-from-clause-gives c =
    let d = c.args.self.now in
    let p = code.Saying c.in-Saying.line c.in-Saying.left c.in-Saying.later in
    stepped c.args.beginners.now.senders.now d p (Sent (record { kind = Plain; value = c.args.value })) c.in-Saying.is
    ∙ data_full c.args.beginners.now.senders.now d.at d.list.items (begun_of d) c.in-Saying.line d.words.items c.in-Saying.left.now c.args.value (omega (arith, d.words.ok.0))

pub returns-then-self-missing-gt-HORIZON_LIMIT-clause-gives : goal.returns-then-self-missing-gt-HORIZON_LIMIT-clause-gives
returns-then-self-missing-gt-HORIZON_LIMIT-clause-gives c =
    let d = c.args.self.now in
    let p = code.Saying c.in-Saying.line c.in-Saying.left c.in-Saying.later in
    let k = kept d p c.requires c.in-Saying.is in
    let rest : c.in-Saying.later ≡ later c.in-Saying.left.now = k.0.0.rest_is in
    stepped c.args.beginners.now.senders.now d p (Sent (record { kind = Plain; value = c.args.value })) c.in-Saying.is
    ∙ data_past c.args.beginners.now.senders.now d.at d.list.items (begun_of d) c.in-Saying.line d.words.items c.in-Saying.left.now c.args.value
    (omega (arith, d.words.ok.0)) (omega (arith, d.words.ok.0, rest))

pub returns-in_ok-push-in-Saying-clause-gives : goal.returns-in_ok-push-in-Saying-clause-gives
returns-in_ok-push-in-Saying-clause-gives c =
    let d = c.args.self.now in
    let line = c.in-Saying.line in
    let p = code.Saying line c.in-Saying.left c.in-Saying.later in
    let k = kept d p c.requires c.in-Saying.is in
    let rest : c.in-Saying.later ≡ later c.in-Saying.left.now = k.0.0.rest_is in
    stepped c.args.beginners.now.senders.now d p (Sent (record { kind = Plain; value = c.args.value })) c.in-Saying.is
    ∙ data_taken c.args.beginners.now.senders.now d.at d.list.items (begun_of d) line d.words.items c.in-Saying.left.now c.args.value
    (omega (arith, d.words.ok.0)) (omega (arith, d.words.ok.0, rest))
    ∙ ap (λ ws. (let r : Result State WaveReason = Ok (record { at = d.at + 20; list = d.list.items; phase = Saying (begun_of d) line ws c.in-Saying.left.now }) in r)) (sym c.in_ok-push-in-Saying.ensures.items)
    ∙ ap (λ q. (let r : Result State WaveReason = Ok (record { at = d.at + 20; list = d.list.items; phase = phase_of q (begun_of d) c.push.new.self.items }) in r)) (sym c.in-Saying.is)
