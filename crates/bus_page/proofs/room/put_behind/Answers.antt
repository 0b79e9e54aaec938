use Rattle.std.proofs.Common.{List, ℕ, ◌++◌, ◌+◌, ◌-◌, ◌*◌, ◌/◌, ap, codes, subst, ◌∙◌}
use Rattle.std.specs.Prelude.{decimal}
use Rattle.bus_outer.specs.Texts.{Adds}
use Rattle.bus_outer.proofs.TextLaws.{◌▸◌}
use Rattle.bus_pen.specs.declared.class.Class.{Class}
use Rattle.bus_pen.specs.Shapes.{words_text}
use Rattle.bus_page.specs.Bars.{words_class}
use Rattle.bus_page.specs.Rooms.{room_words}
use Rattle.bus_page.proofs.room.put_behind.Goals as goal

pub returns : goal.returns
returns g c =
    let text : Class → List ℕ = λ w. words_text w 7880 (c.args.top + 113) (room_words c.args.span) in
    subst (λ (t : List ℕ). Adds g.K.Sink.held g.K.Sink.faults c.args.sink.now c.end_words.new.sink c.args.text.now c.end_words.new.text t)
    (ap text (c.words_class.ensures ∙ ap words_class c.is_short.ensures))
    (c.begin_words.ensures ▸ c.put_room_words.ensures ▸ c.end_words.ensures)
