use Rattle.std.proofs.Common.{◌+◌, ◌++◌, Bool, [], codes, cond, sym, subst, ◌∙◌}
use Rattle.std.specs.Fmt.{decimal}
use Rattle.bus_outer.specs.Texts.{Adds}
use Rattle.bus_outer.proofs.TextLaws.{◌▸◌}
use Rattle.bus_pen.specs.declared.area.Area.{Area}
use Rattle.bus_pen.specs.declared.class.Class.TheVariants.{Gap}
use Rattle.bus_pen.specs.Shapes.{box_text}
use Rattle.bus_picture.specs.declared.measures.TheConstants.{GAP_LINE as gap_line, GAP_ROOM as gap_room}
use Rattle.bus_picture.specs.Timers.{gap_at, words_above}
use Rattle.bus_picture.proofs.timers.put_sync_from.Goals as goal

pub returns-then-is_drawn : goal.returns-then-is_drawn
returns-then-is_drawn g c =
    subst (λ (b : Bool). Adds g.K.Sink.held g.K.Sink.faults c.args.sink.now c.put_sync_words.new.sink c.args.text.now c.put_sync_words.new.text
    (cond b (gap_at c.args.scale.now c.args.top gap_room c.args.from c.args.to (codes "SG " ++ decimal c.args.sg)) []))
    (sym c.if-is_drawn.true ∙ c.is_drawn.ensures.value)
    (subst (λ (area : Area). Adds g.K.Sink.held g.K.Sink.faults c.args.sink.now c.put_sync_words.new.sink c.args.text.now c.put_sync_words.new.text
    (box_text Gap area ++ words_above gap_room area (c.args.top + gap_line) (codes "SG " ++ decimal c.args.sg)))
    c.line_area-area.ensures.value (c.put_box.ensures ▸ c.put_sync_words.ensures))
