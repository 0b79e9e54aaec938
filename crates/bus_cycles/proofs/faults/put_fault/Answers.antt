use Rattle.std.proofs.Common.{◌≡◌, ◌≤◌, List, ℕ, [], cond, length, ap, sym, subst, ◌∙◌}
use Rattle.std.specs.Prelude.{slice_get, is_some}
use Rattle.std.proofs.lemmas.Bool.{lt-ltb, ltb-false}
use Rattle.std.proofs.lemmas.Option.{slice_get_past}
use Rattle.bus_outer.specs.Texts.{Adds}
use Rattle.bus_outer.proofs.TextLaws.{adds_nothing}
use Rattle.bus_cycles.specs.Faults.{fault_of, fault_text}
use Rattle.bus_cycles.proofs.faults.put_fault.Goals as goal

pub returns-in_default : goal.returns-in_default
returns-in_default g c =
    let page = c.args.page.now in
    let found = c.args.judgements.now in
    let row = c.args.row in
    let sent = c.args.sent.now in
    let past : length found ≤ sent.at = ltb-false sent.at (length found) (sym (sym (ap is_some c.in_default.is) ∙ c.get.ensures.lookup.0)) in
    let text : fault_text page found row.place row.begin sent ≡ [] =
    ap (λ b. cond b (fault_of page row.place row.begin sent (slice_get found sent.at)) []) (lt-ltb row.place 500 c.if-row-lt-MOST_ROWS.true)
    ∙ ap (fault_of page row.place row.begin sent) (slice_get_past found sent.at past) in
    subst (λ (t : List ℕ). Adds g.K.Sink.held g.K.Sink.faults c.args.sink.now c.args.sink.now c.args.text.now c.args.text.now t) (sym text)
    (adds_nothing g.K.Sink.held g.K.Sink.faults c.args.sink.now c.args.text.now)
