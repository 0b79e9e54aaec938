use Rattle.std.proofs.Common.{◌≡◌, List, ℕ, ◌+◌, drop, Option, Some, ap, sym, subst, ◌∙◌}
use Rattle.bus_outer.specs.Texts.{Adds}
use Rattle.bus_outer.specs.declared.text_buffer.TextBuffer.{TextBuffer}
use Rattle.bus_outer.proofs.TextLaws.{◌▸◌, adds_nothing}
use Rattle.bus_picture.proofs.RowLemmas.{begun, ended, took_shown, took_passed, next_left, none_left}
use Rattle.bus_picture.proofs.boxes.put_row.Goals as goal
use Rattle.bus_picture.proofs.boxes.put_row.Goals.{then-shows, else-shows}

-- the same sink and the same text
ends_at : {K : Type 0} (held : K → Option (List ℕ)) (faults : K → ℕ) (a b b' : K) (t u u' : TextBuffer) {text : List ℕ} → b' ≡ b → u' ≡ u
    → Adds held faults a b t u text → Adds held faults a b' t u' text
ends_at held faults a b b' t u u' {text} sinks texts adds =
    subst (λ k. Adds held faults a k t u' text) (sym sinks) (subst (λ v. Adds held faults a b t v text) (sym texts) adds)

pub loop-sent-init : goal.loop-sent-init
loop-sent-init g c =
    begun (λ (t : List ℕ). Adds g.K.Sink.held g.K.Sink.faults c.args.sink.now c.args.sink.now c.args.text.now c.args.text.now t)
    c.args.canvas.now.scale c.args.canvas.now.receivers.now c.args.row.now c.args.canvas.now.list.now c.args.sents.now c.requires.all
    (adds_nothing g.K.Sink.held g.K.Sink.faults c.args.sink.now c.args.text.now)

pub loop-sent-preserved : goal.loop-sent-preserved
loop-sent-preserved g c =
    let so_far : List ℕ → Type 0 = λ t. Adds g.K.Sink.held g.K.Sink.faults c.args.sink.now c.loop-sent.sink c.args.text.now c.loop-sent.text t in
    let then : List ℕ → Type 0 = λ t. Adds g.K.Sink.held g.K.Sink.faults c.args.sink.now c.if-shows.sink c.args.text.now c.if-shows.text t in
    let i = c.loop-sent.sent-index in
    let told = c.args.sents.now in
    elim c.if-shows.branch [
      | then-shows w ↦
          took_shown so_far then c.args.canvas.now.scale c.args.canvas.now.receivers.now c.args.row.now c.args.canvas.now.list.now c.loop-sent.last c.if-shows.last _
          (drop i told) (drop (i + 1) told) c.loop-sent.invariant (next_left told i _ c.loop-sent-test.true)
          (sym c.shows.ensures ∙ w.if-shows.true) (w.last-is ∙ ap Some w.with_next.ensures)
          (ends_at g.K.Sink.held g.K.Sink.faults c.args.sink.now w.put_written.new.sink c.if-shows.sink c.args.text.now w.put_written.new.text
          c.if-shows.text w.sink-is w.text-is (c.loop-sent.invariant.adds ▸ w.put_written.ensures))
      | else-shows w ↦
          took_passed so_far then c.args.canvas.now.scale c.args.canvas.now.receivers.now c.args.row.now c.args.canvas.now.list.now c.loop-sent.last c.if-shows.last _
          (drop i told) (drop (i + 1) told) c.loop-sent.invariant (next_left told i _ c.loop-sent-test.true)
          (sym c.shows.ensures ∙ w.if-shows.false) w.last-is
          (ends_at g.K.Sink.held g.K.Sink.faults c.args.sink.now c.loop-sent.sink c.if-shows.sink c.args.text.now c.loop-sent.text
          c.if-shows.text w.sink-is w.text-is c.loop-sent.invariant.adds)
    ]

pub returns : goal.returns
returns g c =
    subst (λ (t : List ℕ). Adds g.K.Sink.held g.K.Sink.faults c.args.sink.now c.put_last.new.sink c.args.text.now c.put_last.new.text t)
    (ended (λ (t : List ℕ). Adds g.K.Sink.held g.K.Sink.faults c.args.sink.now c.loop-sent.sink c.args.text.now c.loop-sent.text t)
    c.args.canvas.now.scale c.args.canvas.now.receivers.now c.args.row.now c.args.canvas.now.list.now c.loop-sent.last (drop c.loop-sent.sent-index c.args.sents.now) c.loop-sent.invariant
    (none_left c.args.sents.now c.loop-sent.sent-index c.loop-sent-test.false))
    (c.loop-sent.invariant.adds ▸ c.put_last.ensures)
