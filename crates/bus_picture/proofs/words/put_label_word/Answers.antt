use Rattle.std.proofs.Common.{◌++◌, subst}
use Rattle.bus_outer.specs.Texts.{Adds}
use Rattle.bus_outer.proofs.TextLaws.{◌▸◌}
use Rattle.bus_pen.specs.declared.class.Class.{Class}
use Rattle.bus_pen.specs.Shapes.{box_text}
use Rattle.bus_picture.specs.declared.measures.TheConstants.{LABEL_ROOM as label_room}
use Rattle.bus_picture.specs.Strings.{digits_text, name_words}
use Rattle.bus_picture.proofs.words.put_label_word.Goals as goal

pub returns : goal.returns
returns g c =
    subst (λ (class : Class). Adds g.K.Sink.held g.K.Sink.faults c.args.sink.now c.put_label_digits.new.sink c.args.text.now c.put_label_digits.new.text
    (box_text class c.args.area ++ digits_text c.args.garbled c.args.area label_room (name_words c.args.string.now))) c.label_class.ensures
    (c.put_box.ensures ▸ c.put_label_digits.ensures)
