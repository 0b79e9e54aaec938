use Rattle.std.proofs.Common.{List, ℕ, ◌++◌, ◌+◌, ◌-◌, ◌*◌, ◌/◌, ap, codes, subst, ◌∙◌}
use Rattle.std.specs.Prelude.{decimal}
use Rattle.bus_outer.specs.Texts.{Adds}
use Rattle.bus_outer.proofs.TextLaws.{◌▸◌}
use Rattle.std.specs.Prelude.{length}
use Rattle.bus_pen.specs.declared.scale.Scale.{Scale}
use Rattle.bus_page.specs.Waits.{greatest_message, sender_rows, waits_scale}
use Rattle.bus_page.specs.Paints.{picture_end, picture_front}
use Rattle.bus_page.proofs.waits.put_waits.Goals as goal

pub returns : goal.returns
returns g c =
    let text : Scale → List ℕ = λ s. picture_front (40 + 210 * length c.args.senders.now) (codes "How long data wait") ++ sender_rows s c.args.most c.greatest_message-greatest.result c.args.senders.now ++ picture_end in
    subst (λ (t : List ℕ). Adds g.K.Sink.held g.K.Sink.faults c.args.sink.now c.end_picture.new.sink c.args.text.now c.end_picture.new.text t)
    (ap (λ (x : Scale). text x) (c.waits_scale-scale.ensures.value)
    ∙ ap (λ (n : ℕ). picture_front (40 + 210 * length c.args.senders.now) (codes "How long data wait") ++ sender_rows (waits_scale c.args.most n) c.args.most n c.args.senders.now ++ picture_end) c.greatest_message-greatest.ensures.value)
    (c.begin_picture.ensures ▸ c.put_rows.ensures ▸ c.end_picture.ensures)
