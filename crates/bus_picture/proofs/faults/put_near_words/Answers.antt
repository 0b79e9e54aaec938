use Rattle.std.proofs.Common.{ℕ, ◌+◌, Bool, [], cond, sym, subst}
use Rattle.bus_outer.specs.Texts.{Adds}
use Rattle.bus_outer.proofs.TextLaws.{◌▸◌}
use Rattle.bus_findings.specs.Texts.{fault_words}
use Rattle.bus_pen.specs.declared.class.Class.TheVariants.{Note}
use Rattle.bus_pen.specs.Shapes.{words_text}
use Rattle.bus_picture.specs.Faults.{words_left}
use Rattle.bus_picture.specs.declared.measures.TheConstants.{FAULT_LINE as fault_line}
use Rattle.bus_picture.proofs.faults.put_near_words.Goals as goal

pub returns-then-near : goal.returns-then-near
returns-then-near g c =
    subst (λ (b : Bool). Adds g.K.Sink.held g.K.Sink.faults c.args.sink.now c.end_words.new.sink c.args.text.now c.end_words.new.text
    (cond b (words_text Note (words_left c.args.left) (c.args.top + fault_line) (fault_words c.args.found.now)) []))
    (sym c.if-near.true)
    (subst (λ (left : ℕ). Adds g.K.Sink.held g.K.Sink.faults c.args.sink.now c.end_words.new.sink c.args.text.now c.end_words.new.text
    (words_text Note left (c.args.top + fault_line) (fault_words c.args.found.now))) c.words_left-begin.ensures
    (c.begin_words.ensures ▸ c.put_fault_words.ensures ▸ c.end_words.ensures))
