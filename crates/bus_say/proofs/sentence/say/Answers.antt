use Rattle.std.proofs.Common.{◌++◌, List, ℕ, sym, subst, ap, take, ◌∙◌, get_or}
use Rattle.std.proofs.lemmas.List.{take_more}
use Rattle.bus_outer.specs.Texts.{Adds}
use Rattle.bus_outer.proofs.TextLaws.{◌▸◌}
use Rattle.bus_say.specs.Sentences.{said, told_text, behind}
use Rattle.bus_say.specs.declared.sentence.Hole.{Hole}
use Rattle.bus_say.specs.declared.sentence.Hole.TheVariants.{Closed}
use Rattle.bus_say.proofs.SentenceLemmas.{behind_all, behind_push, said_push}
use Rattle.bus_say.proofs.sentence.say.Goals as goal

pub loop-byte-preserved : goal.loop-byte-preserved
loop-byte-preserved g c =
    let bytes = take c.loop-byte.byte-index c.args.sentence.now in
    let byte = get_or c.args.sentence.now c.loop-byte.byte-index 0 in
    let more = take_more c.args.sentence.now c.loop-byte.byte-index 0 c.loop-byte-test.true in
    let text = ap (λ (t : List ℕ). said t c.args.numbers.now) more ∙ said_push c.args.numbers.now Closed bytes byte
    ∙ ap (λ (h : Hole). said bytes c.args.numbers.now ++ told_text c.args.numbers.now h byte) (sym c.loop-byte.invariant.hole) in
    record {
      hole = c.behind-hole.ensures ∙ ap (λ (h : Hole). behind h byte) c.loop-byte.invariant.hole ∙ sym (behind_push Closed bytes byte)
          ∙ sym (ap (λ (t : List ℕ). behind_all Closed t) more);
      text = subst (λ (t : List ℕ). Adds g.K.Sink.held g.K.Sink.faults c.args.sink.now c.put_told.new.sink c.args.text.now c.put_told.new.text t) (sym text)
          (c.loop-byte.invariant.text ▸ c.put_told.ensures);
    }
