use Rattle.std.proofs.Common.{◌+◌, ◌≤◌, get_or, leb, arith, rules}
use Rattle.std.proofs.lemmas.Bool.{leb-true}
use Rattle.std.proofs.lemmas.List.Sorted.{IsPartitionPoint-from_clause, IsPartitionedBy-leb}
use Rattle.bus_load.specs.Loads.{Stretch}
use Rattle.bus_load.proofs.CountLemmas.{counted_to_one_behind, counted_to_the_end, ends_ascend, rest_is, sum_fits}
use Rattle.bus_load.proofs.counting.bits_within.Goals as goal

pub overflow_add-bits : goal.overflow_add-bits
overflow_add-bits c =
    let low : c.loop-stretch.bits + c.part-bits.result ≤ c.args.to =
    sum_fits c.args.stretches.now _ c.partition_point-first.result c.loop-stretch.stretch-index c.args.from c.args.to c.loop-stretch.bits c.part-bits.result _
    c.requires.apart (rest_is c.partition_point-first.result c.args.stretches.now) c.loop-stretch-test.true c.loop-stretch.invariant c.part-bits.ensures in
    omega (arith, c.ranges.to.fits)

pub returns-after-loop-stretch : goal.returns-after-loop-stretch
returns-after-loop-stretch c list is =
    let ss = c.args.stretches.now in
    let n = c.partition_point-first.result in
    let point = IsPartitionPoint-from_clause (λ (s : Stretch). leb s.to c.args.from) ss n c.partition_point-first.ensures.partitioned
    (IsPartitionedBy-leb (λ (s : Stretch). s.to) ss c.args.from (ends_ascend ss c.requires.apart)) (λ a r q k. search rules) in
    counted_to_the_end ss _ list n c.loop-stretch.stretch-index c.args.from c.args.to c.loop-stretch.bits is (rest_is n ss)
    (λ k d l. leb-true (get_or ss k d).to c.args.from (point.0 k d (omega arith) l)) c.loop-stretch-test.false c.loop-stretch.invariant

pub returns-then-stretch-to : goal.returns-then-stretch-to
returns-then-stretch-to c list is =
    let ss = c.args.stretches.now in
    let n = c.partition_point-first.result in
    let point = IsPartitionPoint-from_clause (λ (s : Stretch). leb s.to c.args.from) ss n c.partition_point-first.ensures.partitioned
    (IsPartitionedBy-leb (λ (s : Stretch). s.to) ss c.args.from (ends_ascend ss c.requires.apart)) (λ a r q k. search rules) in
    counted_to_one_behind ss _ list n c.loop-stretch.stretch-index c.args.from c.args.to c.loop-stretch.bits _ is (rest_is n ss)
    (λ k d l. leb-true (get_or ss k d).to c.args.from (point.0 k d (omega arith) l)) c.loop-stretch-test.true c.if-stretch-to.true c.loop-stretch.invariant
