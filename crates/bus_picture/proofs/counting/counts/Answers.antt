use Rattle.std.proofs.Common.{◌≡◌, ◌&&◌, length, arith, ap, ◌∙◌}
use Rattle.std.specs.List.{count_by}
use Rattle.bus_shapes.specs.declared.sent.Sent.{Sent}
use Rattle.bus_shapes.specs.Sending.{sents}
use Rattle.bus_shapes.proofs.SendingLaws.{as_many}
use Rattle.bus_picture.specs.TimeLines.{is_shown}
use Rattle.bus_picture.proofs.counting.counts.Goals as goal

pub loop-sent-init : goal.loop-sent-init
loop-sent-init c =
    let same : c.into_iter-sent-iterator.result ≡ sents c.args.trace.now.list =
    c.into_iter-sent-iterator.ensures.into_iter_gives ∙ c.new-sent-items.ensures ∙ ap sents c.list.ensures.value in
    let long : length c.into_iter-sent-iterator.result ≡ length c.args.trace.now.list = ap length same ∙ as_many c.args.trace.now.list in
    let all : count_by (is_shown c.args.scale.now) c.into_iter-sent-iterator.result ≡ count_by (is_shown c.args.scale.now) (sents c.args.trace.now.list) =
    ap (count_by (is_shown c.args.scale.now)) same in
    let hurt : count_by (λ (x : Sent). is_shown c.args.scale.now x && x.garbled) c.into_iter-sent-iterator.result
    ≡ count_by (λ (x : Sent). is_shown c.args.scale.now x && x.garbled) (sents c.args.trace.now.list) =
    ap (count_by (λ (x : Sent). is_shown c.args.scale.now x && x.garbled)) same in
    record { shown = omega (arith, all); garbled = omega (arith, hurt); few = omega arith; fewer = omega arith }
