use Rattle.std.proofs.Common.{◌≡◌, ◌∙◌, sym, ap, subst, refl, length, nat_lt, Ok}
use Rattle.bus_trace.specs.Feeding.{Reader, ReaderIs}
use Rattle.bus_trace.specs.inside.Feeds.{FeedGives}
use Rattle.bus_trace.specs.declared.stage.Stage.{Stage}
use Rattle.bus_trace.specs.declared.stage.Fed.{Fed}
use Rattle.bus_trace.specs.declared.stage.Stage.TheVariants.{Open}
use Rattle.bus_trace.proofs.Feeds.{feeds, feed_gives, feed_is}
use Rattle.bus_trace.proofs.reader.TraceReader.take.Goals as goal

pub invariant_of-self-2 : goal.invariant_of-self-2
invariant_of-self-2 c =
    let open_is : c.self.inside.stage ≡ Open = ap (λ (r : Reader). r.stage) c.self.view_is ∙ c.requires in
    let f = feeds c.self.inside.walk c.self.inside.stage c.args.piece.now c.within-front.result.now c.length-used.result c.self.invariant
    open_is c.length-used.ensures c.within-front.ensures in
    subst (λ (f : Stage × Fed). ReaderIs f.0 c.walk.new.self) (sym c.fed-stage.ensures)
    (feed_is c.self.inside.walk c.walk.new.self c.args.piece.now c.within-front.result.now c.in_ok-walked.walked
    (nat_lt (length c.within-front.result.now) (length c.args.piece.now)) f c.in_ok-walked.ensures)

pub returns : goal.returns
returns c =
    let open_is : c.self.inside.stage ≡ Open = ap (λ (r : Reader). r.stage) c.self.view_is ∙ c.requires in
    let f = feeds c.self.inside.walk c.self.inside.stage c.args.piece.now c.within-front.result.now c.length-used.result c.self.invariant
    open_is c.length-used.ensures c.within-front.ensures in
    let old_is : record { stage = Open; at = c.self.inside.walk } ≡ c.args.self.now =
    ap (λ (s : Stage). record { stage = s; at = c.self.inside.walk }) (sym open_is) ∙ c.self.view_is in
    let P : Reader → Type 0 = λ old. FeedGives old (record { stage = c.fed-stage.result.0; at = c.walk.new.self }) c.args.piece.now
    (Ok c.fed-stage.result.1) in
    subst P old_is
    (subst (λ (f : Stage × Fed). FeedGives (record { stage = Open; at = c.self.inside.walk })
    (record { stage = f.0; at = c.walk.new.self }) c.args.piece.now (Ok f.1)) (sym c.fed-stage.ensures)
    (feed_gives c.self.inside.walk c.walk.new.self c.args.piece.now c.within-front.result.now c.in_ok-walked.walked
    (nat_lt (length c.within-front.result.now) (length c.args.piece.now)) f refl c.in_ok-walked.ensures))
