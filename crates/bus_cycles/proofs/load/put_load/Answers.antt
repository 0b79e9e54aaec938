use Rattle.std.proofs.Common.{◌≡◌, List, [], ℕ, cond, ap, sym, subst, ◌∙◌, arith}
use Rattle.std.proofs.lemmas.Bool.{lt-ltb}
use Rattle.bus_outer.specs.Texts.{Adds}
use Rattle.bus_cycles.specs.Loads.{busy_of, load_at, share_words}
use Rattle.std.proofs.lemmas.Grind.{common_steps}
use Rattle.bus_cycles.proofs.load.put_load.Goals as goal

pub returns-then-row-lt-MOST_ROWS : goal.returns-then-row-lt-MOST_ROWS
returns-then-row-lt-MOST_ROWS g c list is =
    let page = c.args.page.now in
    let row = c.args.row in
    let text : load_at page list row ≡ share_words page row c.busy_of-busy.result =
    ap (λ b. cond b (share_words page row (busy_of page.cycle list row)) []) (lt-ltb row.place 500 c.if-row-lt-MOST_ROWS.true)
    ∙ ap (share_words page row) (sym (c.busy_of-busy.ensures list is)) in
    subst (λ (t : List ℕ). Adds g.K.Sink.held g.K.Sink.faults c.args.sink.now c.put_share_words.new.sink c.args.text.now c.put_share_words.new.text t)
    (sym text) c.put_share_words.ensures

pub returns-else-row-lt-MOST_ROWS : goal.returns-else-row-lt-MOST_ROWS
returns-else-row-lt-MOST_ROWS g c = grind (arith, common_steps)
