use Rattle.std.proofs.Common.{ℕ, ◌++◌, subst}
use Rattle.bus_outer.specs.Texts.{Adds}
use Rattle.bus_outer.proofs.TextLaws.{◌▸◌}
use Rattle.bus_audit.specs.Lines.{answer_words}
use Rattle.bus_picture.specs.Marks.{above_text, line_text}
use Rattle.bus_picture.proofs.marks.put_mark_at.Goals as goal

pub returns : goal.returns
returns g c =
    subst (λ (middle : ℕ). Adds g.K.Sink.held g.K.Sink.faults c.args.sink.now c.end_words.new.sink c.args.text.now c.end_words.new.text
    (line_text c.args.left c.args.terminal c.args.lanes.now ++ above_text middle (answer_words c.args.answer.now))) c.words_middle-middle.ensures
    ((c.put_head.ensures ▸ c.put_dashes.ensures ▸ c.put_all_dashes.ensures) ▸ (c.begin_words.ensures ▸ c.put_answer.ensures ▸ c.end_words.ensures))
