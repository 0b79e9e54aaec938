use Rattle.std.proofs.Common.{arith, ap, ◌∙◌}
use Rattle.std.specs.Prelude.{fold}
use Rattle.std.proofs.lemmas.List.{take_all}
use Rattle.bus_picture.specs.inside.Pacing.{Pacing, paced, unpaced}
use Rattle.bus_picture.proofs.PaceLemmas.{whole_pace}
use Rattle.bus_picture.proofs.pace.pace_in.Goals as goal

pub returns : goal.returns
returns c =
    ap (λ (p : Pacing). p.pace) (c.loop-k.invariant
    ∙ ap (fold (paced c.args.scale.now c.args.terminal) unpaced) (take_all c.loop-k.k c.args.list.now (omega arith)))
    ∙ whole_pace c.args.scale.now c.args.terminal c.args.list.now
