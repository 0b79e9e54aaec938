use Rattle.std.specs.Prelude.{replicate, None}
use Rattle.std.proofs.Common.{◌≡◌, ◌≤◌, length, arith, refl, sym, ap, subst}
use Rattle.std.proofs.lemmas.List.{length-replicate}
use Rattle.bus_table.proofs.ValidLaws.{valid_facts}
use Rattle.bus_findings.specs.declared.watch.Watch.{Watch}
use Rattle.bus_findings.specs.inside.Sound.{AreLong}
use Rattle.bus_findings.proofs.TraceLemmas.{trace_long, few_of, watched_new, same_of_all}
use Rattle.bus_findings.proofs.listing.judgements.Goals as goal

pub judge_all-requires-clause-sound : goal.judge_all-requires-clause-sound
judge_all-requires-clause-sound c =
    subst (λ l. AreLong c.args.bounds l) (sym c.list.ensures.value) (trace_long c.args.bounds c.args.trace.now c.clocks-ranges.ensures.ranges.clocks c.list.ensures.ranges)

pub judge_all-requires-clause-few : goal.judge_all-requires-clause-few
judge_all-requires-clause-few c = λ i less. few_of c.args.trace.now c.list.ensures.ranges i (omega (arith, less, ap length c.list.ensures.value))

pub judge_all-requires-clause-watched : goal.judge_all-requires-clause-watched
judge_all-requires-clause-watched c =
    let table = c.args.table.now in
    let new : Watch = record { last = None; own_end = 0; starts = 0; faults = 0; least = None; most = None } in
    let long : length (replicate 128 new) ≡ 128 = length-replicate 128 new in
    let few : length table.senders ≤ 128 = (valid_facts table c.senders-valid.ensures.valid).few in
    watched_new c.args.bounds table c.list.result.now (replicate 128 new) new (omega (arith, long, few)) (λ k w at. same_of_all 128 new k w at) refl
