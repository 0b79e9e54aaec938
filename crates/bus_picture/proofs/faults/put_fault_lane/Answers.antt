use Rattle.std.proofs.Common.{ℕ, Bool, [], ◌++◌, cond, sym, subst}
use Rattle.std.proofs.lemmas.Bool.{eq-eqb}
use Rattle.bus_outer.specs.Texts.{Adds}
use Rattle.bus_outer.proofs.TextLaws.{◌▸◌}
use Rattle.bus_picture.specs.Faults.{near_words, title, titled_dashes}
use Rattle.bus_picture.specs.Lanes.{lane_top}
use Rattle.bus_picture.proofs.faults.put_fault_lane.Goals as goal

pub returns-then-lane-fault : goal.returns-then-lane-fault
returns-then-lane-fault g c =
    subst (λ (b : Bool). Adds g.K.Sink.held g.K.Sink.faults c.args.sink.now c.put_near_words.new.sink c.args.text.now c.put_near_words.new.text
    (cond b (titled_dashes c.args.left (lane_top c.args.k) (title c.args.fault.now)
    ++ near_words c.args.near c.args.left (lane_top c.args.k) c.args.fault.now.found) []))
    (sym (eq-eqb c.args.lane.terminal c.args.fault.now.terminal c.if-lane-fault.true))
    (subst (λ (top : ℕ). Adds g.K.Sink.held g.K.Sink.faults c.args.sink.now c.put_near_words.new.sink c.args.text.now c.put_near_words.new.text
    (titled_dashes c.args.left top (title c.args.fault.now) ++ near_words c.args.near c.args.left top c.args.fault.now.found)) c.lane_top-top.ensures.value
    (c.put_titled_dashes.ensures ▸ c.put_near_words.ensures))
