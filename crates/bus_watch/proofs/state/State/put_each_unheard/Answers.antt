use Rattle.std.proofs.Common.{◌≡◌, ℕ, Some, arith, sym, ap, subst, ◌∙◌}
use Rattle.std.proofs.lemmas.Grind.{common_steps}
use Rattle.std.proofs.lemmas.Option.{slice_get-get_or}
use Rattle.bus_outer.specs.Texts.{Adds}
use Rattle.bus_outer.proofs.TextLaws.{adds_then, adds_nothing}
use Rattle.bus_findings.specs.Texts.{where_so}
use Rattle.bus_watch.specs.declared.at.At.{At}
use Rattle.bus_watch.specs.Streams.{is_told, missed, unheard_of}
use Rattle.bus_watch.specs.Texts.{unheard_line}
use Rattle.bus_watch.proofs.ListLemmas.{lines_next}
use Rattle.bus_watch.proofs.state.State.put_each_unheard.Goals as goal

pub loop-k-init : goal.loop-k-init
loop-k-init g c = adds_nothing g.K.Sink.held g.K.Sink.faults c.args.sink.now c.args.text.now

pub loop-k-preserved : goal.loop-k-preserved
loop-k-preserved g c =
    let state = c.args.self.now in
    let senders = c.senders-senders.result.now in
    let k = c.loop-k.k in
    let s = c.index-senders-k.result in
    let at = slice_get-get_or senders k s c.loop-k-test.true ∙ ap Some (sym c.index-senders-k.is) in
    let place : ℕ → At = λ n. record { time = c.args.time; line = c.args.line; terminal = n } in
    let lines : where_so c.is_told.result (unheard_line (place c.number-terminal.result) c.missed-missed.result) ≡ unheard_of state c.args.line c.args.time s =
    ap (λ b. where_so b (unheard_line (place c.number-terminal.result) c.missed-missed.result)) c.is_told.ensures
    ∙ ap (λ m. where_so (is_told m) (unheard_line (place c.number-terminal.result) m)) c.missed-missed.ensures
    ∙ ap (λ n. where_so (is_told (missed state n)) (unheard_line (place n) (missed state n))) c.number-terminal.ensures.value in
    let put = subst (λ b. Adds g.K.Sink.held g.K.Sink.faults c.loop-k.sink c.put_unheard_where.new.sink c.loop-k.text c.put_unheard_where.new.text b) lines c.put_unheard_where.ensures in
    subst (λ b. Adds g.K.Sink.held g.K.Sink.faults c.args.sink.now c.put_unheard_where.new.sink c.args.text.now c.put_unheard_where.new.text b)
    (sym (lines_next (unheard_of state c.args.line c.args.time) senders k s at)) (adds_then c.loop-k.invariant put)

pub returns : goal.returns
returns g c = grind (arith, common_steps)
