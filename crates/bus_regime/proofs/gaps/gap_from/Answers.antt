use Rattle.std.proofs.Common.{◌≡◌, ◌≤◌, ◌-◌, ◌+◌, length, get_or, ap, arith}
use Rattle.bus_table.proofs.ValidLaws.{valid_facts}
use Rattle.bus_regime.proofs.GapPlaces.{first_end, next_end}
use Rattle.bus_regime.proofs.gaps.gap_from.Goals as goal

pub bounds-ends-senders : goal.bounds-ends-senders
bounds-ends-senders c =
    let few : length c.args.table.now.senders ≤ 128 = (valid_facts c.args.table.now c.senders.ensures.valid).few in
    omega (arith, c.requires.place, ap length c.senders.ensures.value)

pub returns-then-k-eq0-clause-value : goal.returns-then-k-eq0-clause-value
returns-then-k-eq0-clause-value c =
    let same : length c.senders.result.now ≡ length c.args.table.now.senders = ap length c.senders.ensures.value in
    first_end c.args.table.now c.args.ends.now c.args.k (length c.senders.result.now - 1) (omega (arith, c.if-k-eq0.true)) c.requires.place
    (omega (arith, same, c.requires.place)) c.requires.ends

pub bounds-ends-k : goal.bounds-ends-k
bounds-ends-k c =
    let few : length c.args.table.now.senders ≤ 128 = (valid_facts c.args.table.now c.ti.ensures.valid).few in
    omega (arith, c.requires.place)

pub offset_bounds-ends-k : goal.offset_bounds-ends-k
offset_bounds-ends-k c =
    let few : length c.args.table.now.senders ≤ 128 = (valid_facts c.args.table.now c.ti.ensures.valid).few in
    omega (arith, c.requires.place)

pub returns-else-k-eq0-clause-value : goal.returns-else-k-eq0-clause-value
returns-else-k-eq0-clause-value c =
    next_end c.args.table.now c.args.ends.now c.args.k (c.args.k - 1) (c.from.result + get_or c.args.ends.now (c.args.k - 1) 0)
    (omega (arith, c.if-k-eq0.false)) c.requires.place c.requires.ends (omega (arith, c.from.ensures, c.ti.ensures.value))
