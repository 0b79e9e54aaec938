use Rattle.std.proofs.Common.{◌≡◌, ℕ, Bool, true, [], cond, eqb, ap, sym, subst, ◌∙◌}
use Rattle.std.proofs.lemmas.Bool.{eq-eqb}
use Rattle.bus_outer.specs.Texts.{Adds}
use Rattle.bus_strings.specs.Messages.{Entry}
use Rattle.bus_picture.specs.inside.Starting.{start_text}
use Rattle.bus_picture.proofs.starts.put_own.Goals as goal

pub returns-clause-adds : goal.returns-clause-adds
returns-clause-adds g c =
    let moment : c.x.inside.moment ≡ c.args.x.now.moment = ap (λ (e : Entry). e.moment) c.x.view_is in
    let terminal : c.x.inside.terminal ≡ c.args.x.now.terminal = ap (λ (e : Entry). e.terminal) c.x.view_is in
    let own : true ≡ eqb c.args.x.now.terminal c.args.timings.terminal =
    sym (eq-eqb c.args.x.now.terminal c.args.timings.terminal (sym terminal ∙ c.if-x-timings.false)) in
    subst (λ (b : Bool). Adds g.K.Sink.held g.K.Sink.faults c.args.sink.now c.put_start.new.sink c.args.text.now c.put_start.new.text
    (cond b (start_text c.args.scale.now c.args.timings c.args.last c.args.gap c.args.x.now.moment) [])) own
    (subst (λ (t : ℕ). Adds g.K.Sink.held g.K.Sink.faults c.args.sink.now c.put_start.new.sink c.args.text.now c.put_start.new.text
    (start_text c.args.scale.now c.args.timings c.args.last c.args.gap t)) moment c.put_start.ensures)
