use Rattle.std.specs.Prelude.{slice_get}
use Rattle.std.proofs.Common.{◌≡◌, Some, arith, sym, ap, subst, ◌∙◌}
use Rattle.std.proofs.lemmas.Grind.{common_steps}
use Rattle.std.proofs.lemmas.Option.{slice_get-get_or}
use Rattle.bus_outer.specs.Texts.{Adds}
use Rattle.bus_outer.proofs.TextLaws.{adds_then, adds_nothing}
use Rattle.bus_watch.specs.declared.at.Looked.{Looked}
use Rattle.bus_watch.specs.Parts.{silent_lines}
use Rattle.bus_watch.specs.Texts.{silence_lines}
use Rattle.bus_watch.proofs.ListLemmas.{lines_next}
use Rattle.bus_watch.proofs.part.Part.put_silences.Goals as goal

pub loop-k-init : goal.loop-k-init
loop-k-init g c = adds_nothing g.K.Sink.held g.K.Sink.faults c.args.sink.now c.args.text.now

pub loop-k-preserved : goal.loop-k-preserved
loop-k-preserved g c =
    let part = c.args.self.now in
    let senders = c.senders-senders.result.now in
    let k = c.loop-k.k in
    let s = c.index-senders-k.result in
    let at = slice_get-get_or senders k s c.loop-k-test.true ∙ ap Some (sym c.index-senders-k.is) in
    let here : slice_get c.args.table.now.senders k ≡ Some s = ap (λ l. slice_get l k) (sym c.senders-senders.ensures.value) ∙ at in
    let looked : Looked = record { base = part.older.base; bit = c.args.bit; line = c.args.line } in
    let lines : silence_lines looked c.number.result c.silence-due.result ≡ silent_lines part c.args.line c.args.bit s =
    ap (λ n. silence_lines looked n c.silence-due.result) c.number.ensures.value
    ∙ ap (silence_lines looked s.number) (c.silence-due.ensures.value s here) in
    let put = subst (λ b. Adds g.K.Sink.held g.K.Sink.faults c.loop-k.sink c.put_silence.new.sink c.loop-k.text c.put_silence.new.text b) lines c.put_silence.ensures in
    subst (λ b. Adds g.K.Sink.held g.K.Sink.faults c.args.sink.now c.put_silence.new.sink c.args.text.now c.put_silence.new.text b)
    (sym (lines_next (silent_lines part c.args.line c.args.bit) senders k s at)) (adds_then c.loop-k.invariant put)

pub returns : goal.returns
returns g c = grind (arith, common_steps)
