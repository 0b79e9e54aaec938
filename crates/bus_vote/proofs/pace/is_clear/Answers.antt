use Rattle.std.proofs.Common.{◌≡◌, ap, sym, ◌∙◌, max}
use Rattle.bus_strings.specs.Transmissions.{end_of}
use Rattle.bus_vote.proofs.WalkLemmas.{clear_more, reach_more}
use Rattle.bus_vote.proofs.pace.is_clear.Goals as goal

pub loop-at-preserved : goal.loop-at-preserved
loop-at-preserved c =
    let list = c.args.list.now in
    let i = c.loop-at.invariant in
    let x = c.index-list-at.result in
    let more : c.max-reach.result ≡ max (end_of x) c.loop-at.reach = c.max-reach.ensures ∙ ap (λ e. max e c.loop-at.reach) c.end.ensures.value in
    record {
      ends = reach_more list c.loop-at.at x c.loop-at.reach c.max-reach.result c.loop-at-test.true c.index-list-at.is more i.ends;
      clear = clear_more list c.loop-at.at i.clear (sym c.is_garbled.ensures ∙ c.if-is_garbled.false);
    }
