use Rattle.std.proofs.Common.{◌≤◌, [], Option, length, sym, subst}
use Rattle.std.specs.Option.{option_map_or}
use Rattle.std.proofs.lemmas.Bool.{ltb-false}
use Rattle.std.proofs.lemmas.Option.{slice_get_past}
use Rattle.bus_outer.specs.Texts.{Adds}
use Rattle.bus_outer.proofs.TextLaws.{adds_nothing}
use Rattle.bus_strings.specs.Messages.{Entry}
use Rattle.bus_picture.specs.Strings.{strings_text}
use Rattle.bus_picture.proofs.boxes.put_entry.Goals as goal

pub returns-in_default : goal.returns-in_default
returns-in_default g c =
    let past : length c.args.canvas.now.list.now ≤ c.args.sent.now.at = ltb-false c.args.sent.now.at (length c.args.canvas.now.list.now) (sym c.in_default.ensures.lookup.0) in
    subst (λ (o : Option Entry). Adds g.K.Sink.held g.K.Sink.faults c.args.sink.now c.args.sink.now c.args.text.now c.args.text.now
    (option_map_or (strings_text c.args.canvas.now.scale c.args.canvas.now.receivers.now c.args.row.now.top c.args.sent.now) o []))
    (sym (slice_get_past c.args.canvas.now.list.now c.args.sent.now.at past)) (adds_nothing g.K.Sink.held g.K.Sink.faults c.args.sink.now c.args.text.now)
