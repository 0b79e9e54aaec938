use Rattle.std.specs.Prelude.{slice_get, set, is_some}
use Rattle.std.proofs.Common.{◌≡◌, Some, true, cond, sym, ap, ◌∙◌}
use Rattle.std.proofs.lemmas.Option.{slice_get-get_or}
use Rattle.bus_table.specs.Tables.{Table}
use Rattle.bus_watch.specs.Parts.{due_in, with_silent}
use Rattle.bus_watch.proofs.ListLemmas.{fold_next}
use Rattle.bus_watch.proofs.part.Part.silent_at.Goals as goal

pub loop-k-preserved : goal.loop-k-preserved
loop-k-preserved c =
    let part = c.args.self.now in
    let bit = c.args.bit in
    let senders = c.senders-senders.result.now in
    let k = c.loop-k.k in
    let silent = c.loop-k.silent in
    let s = c.index-senders-k.result in
    let at = slice_get-get_or senders k s c.loop-k-test.true ∙ ap Some (sym c.index-senders-k.is) in
    let here : slice_get part.older.live.table.senders k ≡ Some s =
    ap (λ (t : Table). slice_get t.senders k) c.requires.look.of_table ∙ ap (λ l. slice_get l k) (sym c.senders-senders.ensures.value) ∙ at in
    let test : c.is_some.result ≡ is_some (due_in part.older s bit) = c.is_some.ensures ∙ ap is_some (c.due-due.ensures.value s here) in
    c.tell.ensures
    ∙ ap (λ n. cond c.is_some.result (set silent n true) silent) c.number-terminal.ensures.value
    ∙ ap (λ b. cond b (set silent s.number true) silent) test
    ∙ ap (λ l. with_silent part bit l s) c.loop-k.invariant
    ∙ sym (fold_next (with_silent part bit) part.silent senders k s at)
