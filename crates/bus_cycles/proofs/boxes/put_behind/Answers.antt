use Rattle.std.proofs.Common.{List, ℕ, refl, subst}
use Rattle.bus_outer.specs.Texts.{Adds}
use Rattle.bus_outer.proofs.TextLaws.{adds_nothing}
use Rattle.bus_cycles.proofs.DrawLemmas.{behind_more, behind_nothing, reaches_more, reaches_same, shaded_is}
use Rattle.bus_cycles.proofs.boxes.put_behind.Goals as goal

pub returns-clause-adds : goal.returns-clause-adds
returns-clause-adds g c earlier was =
    subst (λ (t : List ℕ). Adds g.K.Sink.held g.K.Sink.faults c.args.sink.now c.put_where_due.new.sink c.args.text.now c.put_where_due.new.text t)
    (behind_more c.args.page.now c.args.garbled c.args.row.place c.args.row.begin earlier c.args.edges.now c.args.sent.now c.shade_of-shade.result
    c.right_of-right.result was c.shade_of-shade.ensures.low c.right_of-right.ensures.some (c.shade_of-shade.ensures.value earlier was) c.right_of-right.ensures.value
    c.if-right-edges.false)
    c.put_where_due.ensures

pub returns-clause-keeps : goal.returns-clause-keeps
returns-clause-keeps g c earlier was =
    let tone = c.shade_of-shade.result in
    let right = c.right_of-right.result in
    shaded_is c.args.page.now c.args.row.begin earlier _ c.args.sent.now tone (c.shade_of-shade.ensures.value earlier was)
    (reaches_more c.args.page.now c.args.row.begin earlier c.args.edges.now (record { sent = c.args.sent.now; shade = tone }) tone right was
    c.shade_of-shade.ensures.low refl c.right_of-right.ensures.value c.if-right-edges.false)

pub returns-then-right-edges-clause-adds : goal.returns-then-right-edges-clause-adds
returns-then-right-edges-clause-adds g c earlier was =
    subst (λ (t : List ℕ). Adds g.K.Sink.held g.K.Sink.faults c.args.sink.now c.args.sink.now c.args.text.now c.args.text.now t)
    (behind_nothing c.args.page.now c.args.garbled c.args.row.place c.args.row.begin earlier c.args.edges.now c.args.sent.now c.shade_of-shade.result
    c.right_of-right.result was c.shade_of-shade.ensures.low c.right_of-right.ensures.some (c.shade_of-shade.ensures.value earlier was) c.right_of-right.ensures.value
    c.if-right-edges.true)
    (adds_nothing g.K.Sink.held g.K.Sink.faults c.args.sink.now c.args.text.now)

pub returns-then-right-edges-clause-keeps : goal.returns-then-right-edges-clause-keeps
returns-then-right-edges-clause-keeps g c earlier was =
    let tone = c.shade_of-shade.result in
    let right = c.right_of-right.result in
    shaded_is c.args.page.now c.args.row.begin earlier _ c.args.sent.now tone (c.shade_of-shade.ensures.value earlier was)
    (reaches_same c.args.page.now c.args.row.begin earlier c.args.edges.now (record { sent = c.args.sent.now; shade = tone }) tone right was
    c.shade_of-shade.ensures.low refl c.right_of-right.ensures.value c.if-right-edges.true)
