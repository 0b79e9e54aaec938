use Rattle.std.proofs.Common.{◌≡◌, ◌≤◌, length, ap, ◌∙◌, arith}
use Rattle.std.proofs.lemmas.List.{length-set}
use Rattle.bus_table.proofs.ValidLaws.{valid_facts}
use Rattle.bus_regime.proofs.GapPlaces.{end_more}
use Rattle.bus_regime.proofs.gaps.turn_ends.Goals as goal

pub bounds-ends-k : goal.bounds-ends-k
bounds-ends-k c =
    let few : length c.args.table.now.senders ≤ 128 = (valid_facts c.args.table.now c.senders-k-end.ensures.valid).few in
    let same : length c.senders-k-end.result.now ≡ length c.args.table.now.senders = ap length c.senders-k-end.ensures.value in
    omega (arith, c.loop-k-test.true)

pub loop-k-preserved : goal.loop-k-preserved
loop-k-preserved c =
    let few : length c.args.table.now.senders ≤ 128 = (valid_facts c.args.table.now c.senders-k-end.ensures.valid).few in
    let same : length c.senders-k-end.result.now ≡ length c.args.table.now.senders = ap length c.senders-k-end.ensures.value in
    record {
      all = length-set _ _ _ ∙ c.loop-k.invariant.all;
      told = end_more c.args.table.now c.loop-k.ends c.loop-k.k c.latest_end.result c.turn_at.result.now (omega (arith, c.loop-k-test.true, c.loop-k.invariant.all))
          c.turn_at.ensures c.latest_end.ensures.value c.latest_end.ensures.bound c.loop-k.invariant.told;
    }

pub returns : goal.returns
returns c = λ k less.
    let same : length c.senders-k-end.result.now ≡ length c.args.table.now.senders = ap length c.senders-k-end.ensures.value in
    c.loop-k.invariant.told k (omega (arith, c.loop-k-test.false))
