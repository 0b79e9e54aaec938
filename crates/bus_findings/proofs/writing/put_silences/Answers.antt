use Rattle.std.specs.Prelude.{is_some, slice_get, None}
use Rattle.std.proofs.Common.{◌≡◌, ◌<◌, ℕ, Bool, cond, Some, length, get_or, arith, sym, ap, subst, ◌∙◌}
use Rattle.std.proofs.lemmas.Option.{slice_get-get_or}
use Rattle.bus_outer.specs.Texts.{Adds}
use Rattle.bus_outer.proofs.TextLaws.{adds_then}
use Rattle.bus_table.specs.Tables.{Sender}
use Rattle.bus_findings.specs.declared.watch.Watch.{Watch}
use Rattle.bus_findings.specs.Silences.{silence_of}
use Rattle.bus_findings.specs.Terminals.{once}
use Rattle.bus_findings.specs.Texts.{silence_lines, silent_lines}
use Rattle.bus_findings.proofs.TraceLemmas.{count_next, lines_next}
use Rattle.std.proofs.lemmas.Grind.{common_steps}
use Rattle.bus_findings.proofs.writing.put_silences.Goals as goal

pub silence-due-requires-clause-watch : goal.silence-due-requires-clause-watch
silence-due-requires-clause-watch g c =
    let table = c.args.table.now in
    let k = c.loop-k.k in
    let s = c.index-senders-k.result in
    let new : Watch = record { last = None; own_end = 0; starts = 0; faults = 0; least = None; most = None } in
    let at = slice_get-get_or c.senders-senders.result.now k s c.loop-k-test.true ∙ ap Some (sym c.index-senders-k.is) in
    let here : slice_get table.senders k ≡ Some s = ap (λ l. slice_get l k) (sym c.senders-senders.ensures.value) ∙ at in
    let low : k < length c.args.watches.now = omega (arith, c.loop-k-test.true, ap length c.senders-senders.ensures.value, c.requires.watched.enough) in
    c.requires.watched.each k s (get_or c.args.watches.now k new) here (slice_get-get_or c.args.watches.now k new low)

pub loop-k-preserved : goal.loop-k-preserved
loop-k-preserved g c =
    let bounds = c.args.bounds in
    let table = c.args.table.now in
    let trace = c.args.trace.now in
    let senders = c.senders-senders.result.now in
    let k = c.loop-k.k in
    let s = c.index-senders-k.result in
    let at = slice_get-get_or senders k s c.loop-k-test.true ∙ ap Some (sym c.index-senders-k.is) in
    let lines : silence_lines c.horizon.result c.number.result c.silence-due.result ≡ silent_lines bounds table trace s =
    ap (λ h. silence_lines h c.number.result c.silence-due.result) c.horizon.ensures.value
    ∙ ap (λ n. silence_lines trace.horizon n c.silence-due.result) c.number.ensures.value
    ∙ ap (silence_lines trace.horizon s.number) c.silence-due.ensures in
    let put = subst (λ b. Adds g.K.Sink.held g.K.Sink.faults c.loop-k.sink c.put_silence.new.sink c.loop-k.text c.put_silence.new.text b) lines c.put_silence.ensures in
    let p : Sender → Bool = λ t. is_some (silence_of bounds table trace t) in
    let f : Sender → ℕ = λ t. cond (p t) 1 0 in
    let one : c.once-silent.result ≡ f s = c.once-silent.ensures.value ∙ ap once (c.is_some.ensures ∙ ap is_some c.silence-due.ensures) in
    record {
      adds = subst (λ b. Adds g.K.Sink.held g.K.Sink.faults c.args.sink.now c.put_silence.new.sink c.args.text.now c.put_silence.new.text b)
          (sym (lines_next (silent_lines bounds table trace) senders k s at)) (adds_then c.loop-k.invariant.adds put);
      count = omega (arith, one, c.loop-k.invariant.count, count_next f senders k s at);
      few = omega (arith, c.loop-k.invariant.few, c.once-silent.ensures.most);
    }

pub returns-clause-adds : goal.returns-clause-adds
returns-clause-adds g c = grind (arith, common_steps)

pub returns-clause-count : goal.returns-clause-count
returns-clause-count g c = grind (arith, common_steps)
