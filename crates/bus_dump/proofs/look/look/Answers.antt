use Rattle.std.proofs.Common.{◌+◌, get_or, arith, ap, ◌∙◌}
use Rattle.std.proofs.lemmas.Option.{slice_get_within}
use Rattle.bus_dump.proofs.LookLemmas.{no_live, facts_at, look_seen, look_steady}
use Rattle.bus_dump.proofs.look.look.Goals as goal

pub entry-x-requires : goal.entry-x-requires
entry-x-requires c =
    let f = facts_at c.args.list.now c.args.t c.args.live.now c.loop-one.one-index c.loop-one-test.true c.requires.live in
    slice_get_within c.args.list.now (get_or c.args.live.now c.loop-one.one-index no_live).at f.entry f.at

pub push-requires : goal.push-requires
push-requires c = (omega arith, omega (arith, c.loop-one.invariant.count, c.requires.few))

pub loop-one-preserved : goal.loop-one-preserved
loop-one-preserved c =
    let i = c.loop-one.invariant in
    record {
      seen = look_seen c.args.list.now c.args.t c.args.live.now c.loop-one.one-index c.entry-x.result.now c.loop-one.seen.items c.push.new.self.items c.see_one-sight.result.seen
          c.loop-one-test.true c.requires.live c.entry-x.ensures c.see_one-sight.ensures.seen i.seen c.push.ensures.items;
      count = c.push.ensures.len ∙ ap (λ n. n + 1) i.count;
      later = omega (arith, i.later, c.see_one-sight.ensures.later, c.min-until.ensures);
      most = omega (arith, i.most, c.min-until.ensures);
      steady = look_steady c.args.list.now c.args.t c.args.live.now c.loop-one.one-index c.entry-x.result.now c.loop-one.until c.see_one-sight.result.until c.min-until.result
          c.loop-one-test.true c.requires.live c.entry-x.ensures c.see_one-sight.ensures.steady i.steady (omega (arith, c.min-until.ensures)) (omega (arith, c.min-until.ensures));
    }
