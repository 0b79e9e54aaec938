use Rattle.std.proofs.Common.{List, ℕ, ap, subst, sym, ◌∙◌}
use Rattle.std.proofs.lemmas.Bool.{eq-eqb, ne_eqb}
use Rattle.bus_outer.specs.Texts.{Adds}
use Rattle.bus_outer.proofs.TextLaws.{adds_nothing}
use Rattle.bus_strings.specs.Messages.{Entry}
use Rattle.bus_filter.specs.Received.{Taker}
use Rattle.bus_filter.proofs.KeyLemmas.{put_skipped, put_taken, own_put, entry_same}
use Rattle.bus_filter.proofs.writing.put_keyed.Goals as goal
use Rattle.bus_filter.proofs.writing.put_keyed.Goals.{else-is_taken-via-then-is_taken+else-x-number, else-is_taken-via-else-is_taken}

pub returns-else-is_taken : goal.returns-else-is_taken
returns-else-is_taken g c garbled is =
    let taker : Taker = record { number = c.args.number; takes = c.args.takes.now } in
    let x : Entry = c.args.x.now in
    subst (λ (t : List ℕ). Adds g.K.Sink.held g.K.Sink.faults c.args.sink.now c.args.sink.now c.args.text.now c.args.text.now t)
    (elim c.else-is_taken.branch [
      | else-is_taken-via-then-is_taken+else-x-number w ↦
          sym (own_put taker x garbled (eq-eqb x.terminal c.args.number (sym (ap (λ (y : Entry). y.terminal) c.x.view_is) ∙ w.if-x-number.false)))
      | else-is_taken-via-else-is_taken w ↦
          sym (put_skipped taker x garbled c.args.key c.args.spans.now.first c.args.spans.now.behind c.requires.spans is (c.is_taken.ensures.none w.if-is_taken.false))
    ]) (adds_nothing g.K.Sink.held g.K.Sink.faults c.args.sink.now c.args.text.now)

pub returns-then-x-number : goal.returns-then-x-number
returns-then-x-number g c garbled is =
    let taker : Taker = record { number = c.args.number; takes = c.args.takes.now } in
    let x : Entry = c.args.x.now in
    subst (λ (t : List ℕ). Adds g.K.Sink.held g.K.Sink.faults c.args.sink.now c.put_strings.new.sink c.args.text.now c.put_strings.new.text t)
    (entry_same c.args.takes.now x c.x.inside.moment c.strings.result.now (ap (λ (y : Entry). y.moment) c.x.view_is) (c.strings.ensures.value ∙ ap (λ (y : Entry). y.message) c.x.view_is)
    ∙ put_taken taker x garbled c.args.key c.args.spans.now.first c.args.spans.now.behind c.requires.spans is (c.is_taken.ensures.some c.if-is_taken.true)
    (ne_eqb x.terminal c.args.number (λ e. c.if-x-number.true (ap (λ (y : Entry). y.terminal) c.x.view_is ∙ e))))
    c.put_strings.ensures
