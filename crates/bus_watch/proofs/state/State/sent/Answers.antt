use Rattle.std.specs.Prelude.{IfSome, IsSomeAnd, OnOk, OnErr, IfOk}
use Rattle.std.proofs.Common.{◌≡◌, arith, ap, sym, subst, ◌∙◌}
use Rattle.std.proofs.lemmas.Result.{err_from_is_err_and}
use Rattle.bus_outer.specs.Texts.{Adds}
use Rattle.bus_outer.proofs.TextLaws.{adds_then}
use Rattle.bus_findings.specs.Terminals.{is_faulty}
use Rattle.bus_stream.specs.Places.{bit_of}
use Rattle.bus_watch.specs.declared.state.State.{State}
use Rattle.bus_watch.specs.Parts.{found_of, judged, judged_text}
use Rattle.bus_watch.specs.Streams.{counted, part_for, part_text, sent, unheard, with_part}
use Rattle.bus_watch.specs.Standing.{AddsFront, CanTake}
use Rattle.bus_watch.proofs.StateLemmas.{bit_low, can_sent, front_behind, part_begun}
use Rattle.bus_watch.proofs.state.State.sent.Goals as goal

pub judge-requires-clause-room : goal.judge-requires-clause-room
judge-requires-clause-room g c =
    let s = c.args.self.now in
    let time = c.args.at.time in
    let bounds = c.args.setting.now.bounds in
    let table = c.args.setting.now.table.now in
    let is = part_begun bounds table time s c.bit_of.result c.end_long.new.self c.begin.new.self c.bit_of.ensures c.end_long.ensures.ended c.begin.ensures in
    subst (λ (x : State). IsSomeAnd x.part (λ part. CanTake table part (bit_of time) c.args.at.terminal)) (sym is)
    (can_sent bounds table s time c.args.at.terminal c.requires.state c.requires.few c.requires.behind (bit_low time c.requires.low))

pub count-requires-clause-few : goal.count-requires-clause-few
count-requires-clause-few g c =
    let s = c.args.self.now in
    let time = c.args.at.time in
    let bounds = c.args.setting.now.bounds in
    let table = c.args.setting.now.table.now in
    let is = part_begun bounds table time s c.bit_of.result c.end_long.new.self c.begin.new.self c.bit_of.ensures c.end_long.ensures.ended c.begin.ensures in
    let judged_is = subst (λ r. OnOk r (c.judge.new.self ≡ with_part (with_part s (part_for bounds table s time)) (judged bounds table (part_for bounds table s time) time c.args.at.terminal c.args.message)))
    c.in_ok-faulty.was
    (subst (λ (x : State). IfSome x.part (λ part. OnOk c.judge.result (c.judge.new.self ≡ with_part x (judged bounds table part time c.args.at.terminal c.args.message)))) is
    c.judge.ensures.judged) in
    omega (arith, c.requires.few, ap (λ (x : State). x.number) judged_is)

pub returns-clause-adds : goal.returns-clause-adds
returns-clause-adds g c =
    let s = c.args.self.now in
    let at = c.args.at in
    let time = at.time in
    let bounds = c.args.setting.now.bounds in
    let table = c.args.setting.now.table.now in
    let part = part_for bounds table s time in
    let is = part_begun bounds table time s c.bit_of.result c.end_long.new.self c.begin.new.self c.bit_of.ensures c.end_long.ensures.ended c.begin.ensures in
    let judged_is = subst (λ r. OnOk r (c.judge.new.self ≡ with_part (with_part s part) (judged bounds table part time at.terminal c.args.message)))
    c.in_ok-faulty.was
    (subst (λ (x : State). IfSome x.part (λ part. OnOk c.judge.result (c.judge.new.self ≡ with_part x (judged bounds table part time at.terminal c.args.message)))) is
    c.judge.ensures.judged) in
    let fault_is = subst (λ r. IfOk r (λ f. f ≡ is_faulty (found_of bounds table part time at.terminal c.args.message)))
    c.in_ok-faulty.was
    (subst (λ (x : State). IfSome x.part (λ part. IfOk c.judge.result (λ f. f ≡ is_faulty (found_of bounds table part time at.terminal c.args.message)))) is
    c.judge.ensures.fault) in
    let sent_is : c.count.new.self ≡ sent bounds table s time at.terminal c.args.message =
    c.count.ensures ∙ ap (λ x. counted x at.terminal c.in_ok-faulty.faulty) judged_is
    ∙ ap (λ f. counted (with_part s (judged bounds table part time at.terminal c.args.message)) at.terminal f) fault_is in
    let first = subst (λ b. Adds g.K.Sink.held g.K.Sink.faults c.args.sink.now c.end_long.new.sink c.args.text.now c.end_long.new.text (part_text table s at.line b))
    c.bit_of.ensures c.end_long.ensures.adds in
    let found = subst (λ r. OnOk r (Adds g.K.Sink.held g.K.Sink.faults c.end_long.new.sink c.judge.new.sink c.end_long.new.text c.judge.new.text (judged_text bounds table part at c.args.message)))
    c.in_ok-faulty.was
    (subst (λ (x : State). IfSome x.part (λ part. OnOk c.judge.result
    (Adds g.K.Sink.held g.K.Sink.faults c.end_long.new.sink c.judge.new.sink c.end_long.new.text c.judge.new.text (judged_text bounds table part at c.args.message)))) is
    c.judge.ensures.adds) in
    let last = subst (λ x. Adds g.K.Sink.held g.K.Sink.faults c.judge.new.sink c.put_unheard.new.sink c.judge.new.text c.put_unheard.new.text (unheard table x at.line time))
    sent_is c.put_unheard.ensures in
    adds_then (adds_then first found) last

pub returns-clause-sent : goal.returns-clause-sent
returns-clause-sent g c =
    let s = c.args.self.now in
    let at = c.args.at in
    let time = at.time in
    let bounds = c.args.setting.now.bounds in
    let table = c.args.setting.now.table.now in
    let part = part_for bounds table s time in
    let is = part_begun bounds table time s c.bit_of.result c.end_long.new.self c.begin.new.self c.bit_of.ensures c.end_long.ensures.ended c.begin.ensures in
    let judged_is = subst (λ r. OnOk r (c.judge.new.self ≡ with_part (with_part s part) (judged bounds table part time at.terminal c.args.message)))
    c.in_ok-faulty.was
    (subst (λ (x : State). IfSome x.part (λ part. OnOk c.judge.result (c.judge.new.self ≡ with_part x (judged bounds table part time at.terminal c.args.message)))) is
    c.judge.ensures.judged) in
    let fault_is = subst (λ r. IfOk r (λ f. f ≡ is_faulty (found_of bounds table part time at.terminal c.args.message)))
    c.in_ok-faulty.was
    (subst (λ (x : State). IfSome x.part (λ part. IfOk c.judge.result (λ f. f ≡ is_faulty (found_of bounds table part time at.terminal c.args.message)))) is
    c.judge.ensures.fault) in
    let sent_is : c.count.new.self ≡ sent bounds table s time at.terminal c.args.message =
    c.count.ensures ∙ ap (λ x. counted x at.terminal c.in_ok-faulty.faulty) judged_is
    ∙ ap (λ f. counted (with_part s (judged bounds table part time at.terminal c.args.message)) at.terminal f) fault_is in
    sent_is

pub returns-in_err-faulty-clause-front : goal.returns-in_err-faulty-clause-front
returns-in_err-faulty-clause-front g c =
    let s = c.args.self.now in
    let at = c.args.at in
    let time = at.time in
    let bounds = c.args.setting.now.bounds in
    let table = c.args.setting.now.table.now in
    let part = part_for bounds table s time in
    let is = part_begun bounds table time s c.bit_of.result c.end_long.new.self c.begin.new.self c.bit_of.ensures c.end_long.ensures.ended c.begin.ensures in
    let first = subst (λ b. Adds g.K.Sink.held g.K.Sink.faults c.args.sink.now c.end_long.new.sink c.args.text.now c.end_long.new.text (part_text table s at.line b))
    c.bit_of.ensures c.end_long.ensures.adds in
    let found = subst (λ r. OnErr r (AddsFront g.K.Sink.held g.K.Sink.faults c.end_long.new.sink c.judge.new.sink c.end_long.new.text c.judge.new.text (judged_text bounds table part at c.args.message)))
    c.in_err-faulty.was
    (subst (λ (x : State). IfSome x.part (λ part. OnErr c.judge.result
    (AddsFront g.K.Sink.held g.K.Sink.faults c.end_long.new.sink c.judge.new.sink c.end_long.new.text c.judge.new.text (judged_text bounds table part at c.args.message)))) is
    c.judge.ensures.front) in
    let p = err_from_is_err_and c.from_residual.result c.from_residual.ensures.1 in
    rw p.1 (front_behind (unheard table (sent bounds table s time at.terminal c.args.message) at.line time) first found)
