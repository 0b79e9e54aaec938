use Rattle.std.proofs.Common.{◌≡◌, ◌+◌, ◌++◌, ◌∷◌, [], List, ℕ, subst, take, ap, sym, ◌∙◌, arith}
use Rattle.std.proofs.lemmas.List.{take_more}
use Rattle.bus_outer.specs.Texts.{Adds}
use Rattle.bus_outer.proofs.TextLaws.{◌▸◌}
use Rattle.bus_strings.specs.Messages.{Entry}
use Rattle.bus_wave.specs.inside.Puts.{list_put, entry_put}
use Rattle.bus_wave.specs.WaveTexts.{last_end}
use Rattle.bus_wave.proofs.WriteTexts.{list_push, last_end_push}
use Rattle.std.proofs.lemmas.Grind.{common_steps}
use Rattle.bus_wave.proofs.writing.put_list.Goals as goal

pub loop-entry-preserved : goal.loop-entry-preserved
loop-entry-preserved g c =
    let list : List Entry = c.args.list.now in
    let before : List Entry = take c.loop-entry.entry-index list in
    let x : Entry = c.entry-item.result in
    let more : take (c.loop-entry.entry-index + 1) list ≡ before ++ x ∷ [] =
    take_more list c.loop-entry.entry-index x c.loop-entry-test.true ∙ ap (λ y. before ++ y ∷ []) (sym c.entry-item.is) in
    let put : list_put 0 before ++ entry_put c.loop-entry.end x ≡ list_put 0 (take (c.loop-entry.entry-index + 1) list) =
    ap (λ n. list_put 0 before ++ entry_put n x) c.loop-entry.invariant.end ∙ sym (list_push 0 before x) ∙ ap (list_put 0) (sym more) in
    record {
      puts = subst (λ (t : List ℕ). Adds g.K.Sink.held g.K.Sink.faults c.args.sink.now c.put_entry.new.sink c.args.text.now c.put_entry.new.text t) put
          (c.loop-entry.invariant.puts ▸ c.put_entry.ensures);
      end = c.end-end.ensures.value ∙ sym (last_end_push 0 before x) ∙ ap (last_end 0) (sym more);
    }

pub returns-clause-end : goal.returns-clause-end
returns-clause-end g c = grind (arith, common_steps)

pub returns-clause-puts : goal.returns-clause-puts
returns-clause-puts g c = grind (arith, common_steps)
