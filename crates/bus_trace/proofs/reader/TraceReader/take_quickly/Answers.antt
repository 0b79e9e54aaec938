use Rattle.std.proofs.Common.{◌≡◌, ◌∙◌, sym, ap, subst, Ok}
use Rattle.bus_trace.specs.Feeding.{Reader}
use Rattle.bus_trace.specs.inside.Feeds.{LeadsOn}
use Rattle.bus_trace.specs.declared.stage.Stage.{Stage}
use Rattle.bus_trace.specs.declared.stage.Stage.TheVariants.{Open}
use Rattle.bus_trace.proofs.Feeds.{feeds, lead_gives, lead_is}
use Rattle.bus_trace.proofs.reader.TraceReader.take_quickly.Goals as goal

pub invariant_of-self-2 : goal.invariant_of-self-2
invariant_of-self-2 c =
    let open_is : c.self.inside.stage ≡ Open = ap (λ (r : Reader). r.stage) c.self.view_is ∙ c.requires in
    let f = feeds c.self.inside.walk c.self.inside.stage c.args.piece.now c.within-front.result.now c.length-used.result c.self.invariant
    open_is c.length-used.ensures c.within-front.ensures in
    lead_is c.self.inside.walk c.walk_quickly.new.self c.args.piece.now c.within-front.result.now c.in_ok-count.count f
    c.in_ok-count.ensures

pub returns : goal.returns
returns c =
    let open_is : c.self.inside.stage ≡ Open = ap (λ (r : Reader). r.stage) c.self.view_is ∙ c.requires in
    let f = feeds c.self.inside.walk c.self.inside.stage c.args.piece.now c.within-front.result.now c.length-used.result c.self.invariant
    open_is c.length-used.ensures c.within-front.ensures in
    let old_is : record { stage = Open; at = c.self.inside.walk } ≡ c.args.self.now =
    ap (λ (s : Stage). record { stage = s; at = c.self.inside.walk }) (sym open_is) ∙ c.self.view_is in
    let P : Reader → Type 0 = λ old. LeadsOn old (record { stage = Open; at = c.walk_quickly.new.self }) c.args.piece.now
    (Ok c.in_ok-count.count) in
    subst P old_is
    (lead_gives c.self.inside.walk c.walk_quickly.new.self c.args.piece.now c.within-front.result.now c.in_ok-count.count f
    c.in_ok-count.ensures)
