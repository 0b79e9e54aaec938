use Rattle.std.specs.Prelude.{replicate, None}
use Rattle.std.proofs.Common.{◌≡◌, ◌≤◌, [], length, arith, refl, sym, subst, ◌∙◌}
use Rattle.std.proofs.lemmas.List.{length-replicate}
use Rattle.bus_table.proofs.ValidLaws.{valid_facts}
use Rattle.bus_findings.specs.declared.watch.Watch.{Watch}
use Rattle.bus_findings.specs.inside.Grown.{IsGrown}
use Rattle.bus_findings.specs.inside.Standing.{HasBegun, IsHeard}
use Rattle.bus_findings.proofs.GrownLemmas.{grown_new}
use Rattle.bus_findings.proofs.TraceLemmas.{watched_new, same_of_all}
use Rattle.bus_findings.proofs.live.Live.new.Goals as goal

pub invariant_of-result : goal.invariant_of-result
invariant_of-result c =
    let table = c.args.table.now in
    let new : Watch = record { last = None; own_end = 0; starts = 0; faults = 0; least = None; most = None } in
    let long : length (replicate 128 new) ≡ 128 = length-replicate 128 new in
    let few : length table.senders ≤ 128 = (valid_facts table c.senders-valid.ensures.valid).few in
    let empty : c.deref.result.now ≡ [] = c.deref.ensures.value ∙ c.new-list.ensures.items in
    subst (λ l. IsGrown c.args.bounds table c.settled.result l c.nothing-heard.result (replicate 128 new)) (sym c.new-list.ensures.items)
    (grown_new c.args.bounds table c.settled.result c.nothing-heard.result (replicate 128 new) c.requires c.clocks-ranges.ensures.ranges.clocks
    c.settled.ensures.value (omega (arith, c.settled.ensures.bound)) (subst (λ l. IsHeard c.args.bounds l 0 c.nothing-heard.result) empty c.nothing-heard.ensures.heard)
    (λ moment. subst (λ l. HasBegun c.args.bounds l moment c.nothing-heard.result) empty (c.nothing-heard.ensures.begun moment))
    (watched_new c.args.bounds table [] (replicate 128 new) new (omega (arith, long, few)) (λ k w at. same_of_all 128 new k w at) refl))
