use Rattle.std.proofs.Common.{arith, length, List, ℕ, ◌++◌, drop, ap, subst, sym, ◌∙◌}
use Rattle.std.specs.List.{flat_map, range_with_len}
use Rattle.std.specs.Option.{option_copied}
use Rattle.bus_outer.specs.Texts.{Adds}
use Rattle.bus_outer.proofs.TextLaws.{◌▸◌}
use Rattle.bus_vote.specs.inside.Putting.{round_put}
use Rattle.bus_vote.specs.Rounds.{sent_by}
use Rattle.bus_strings.proofs.ListLaws.{flat_map-range, rest_left}
use Rattle.bus_vote.proofs.PutLemmas.{round_is}
use Rattle.bus_vote.proofs.WalkLemmas.{rounds_over}
use Rattle.bus_vote.proofs.writing.put_rounds.Goals as goal

pub loop-round-preserved : goal.loop-round-preserved
loop-round-preserved g c =
    let v = c.args.voted.now in
    let list = c.args.list.now in
    let k : ℕ = c.loop-round.round in
    let i = c.loop-round.invariant in
    let e = round_is list v k c.loop-round.first c.loop-round.second c.loop-round.third (option_copied c.words-a.result) (option_copied c.words-b.result)
    (option_copied c.words-c.result) i.first i.second i.third c.words-a.ensures.words c.words-b.ensures.words c.words-c.ensures.words in
    record {
      first = c.words-a.ensures.rest ∙ ap (drop 1) i.first ∙ rest_left (sent_by v.first.terminal list) k;
      second = c.words-b.ensures.rest ∙ ap (drop 1) i.second ∙ rest_left (sent_by v.second.terminal list) k;
      third = c.words-c.ensures.rest ∙ ap (drop 1) i.third ∙ rest_left (sent_by v.third.terminal list) k;
      adds = subst (λ (t : List ℕ). Adds g.K.Sink.held g.K.Sink.faults c.args.sink.now c.put_round.new.sink c.args.text.now c.put_round.new.text t)
          (ap (λ t. flat_map (round_put list v) (range_with_len 0 k) ++ t) e ∙ sym (flat_map-range (round_put list v) k))
          (i.adds ▸ c.put_round.ensures);
    }

pub returns-then-are_over : goal.returns-then-are_over
returns-then-are_over g c =
    let i = c.loop-round.invariant in
    let list = c.args.list.now in
    subst (λ (t : List ℕ). Adds g.K.Sink.held g.K.Sink.faults c.args.sink.now c.loop-round.sink c.args.text.now c.loop-round.text t)
    (rounds_over list c.args.voted.now c.loop-round.round (length list) c.loop-round.first c.loop-round.second c.loop-round.third (omega arith)
    i.first i.second i.third (c.are_over.ensures c.if-are_over.true))
    i.adds
