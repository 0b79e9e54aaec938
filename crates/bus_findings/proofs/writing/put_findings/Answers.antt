use Rattle.std.specs.Prelude.{nat_lt, replicate, None}
use Rattle.std.specs.List.{flat_map}
use Rattle.std.proofs.Common.{◌≡◌, ◌≤◌, ◌+◌, List, length, arith, refl, sym, ap, subst, ◌∙◌}
use Rattle.std.proofs.lemmas.List.{length-replicate}
use Rattle.bus_outer.specs.Texts.{Adds}
use Rattle.bus_outer.proofs.TextLaws.{adds_then}
use Rattle.bus_strings.specs.Messages.{Entry}
use Rattle.bus_table.proofs.ValidLaws.{valid_facts}
use Rattle.bus_findings.specs.declared.watch.Watch.{Watch}
use Rattle.bus_findings.specs.Terminals.{totals_among, faults_among}
use Rattle.bus_findings.specs.Texts.{entry_lines}
use Rattle.bus_findings.specs.inside.Sound.{AreLong}
use Rattle.bus_findings.proofs.TraceLemmas.{trace_long, few_of, watched_new, same_of_all, faults_are}
use Rattle.bus_findings.proofs.writing.put_findings.Goals as goal

pub put_judged-totals-requires-clause-sound : goal.put_judged-totals-requires-clause-sound
put_judged-totals-requires-clause-sound g c =
    subst (λ l. AreLong c.args.bounds l) (sym c.list.ensures.value) (trace_long c.args.bounds c.args.trace.now c.clocks-ranges.ensures.ranges.clocks c.list.ensures.ranges)

pub put_judged-totals-requires-clause-few : goal.put_judged-totals-requires-clause-few
put_judged-totals-requires-clause-few g c = λ i less. few_of c.args.trace.now c.list.ensures.ranges i (omega (arith, less, ap length c.list.ensures.value))

pub put_judged-totals-requires-clause-watched : goal.put_judged-totals-requires-clause-watched
put_judged-totals-requires-clause-watched g c =
    let table = c.args.table.now in
    let new : Watch = record { last = None; own_end = 0; starts = 0; faults = 0; least = None; most = None } in
    let long : length (replicate 128 new) ≡ 128 = length-replicate 128 new in
    let few : length table.senders ≤ 128 = (valid_facts table c.senders-valid.ensures.valid).few in
    watched_new c.args.bounds table c.list.result.now (replicate 128 new) new (omega (arith, long, few)) (λ k w at. same_of_all 128 new k w at) refl

pub returns-clause-adds : goal.returns-clause-adds
returns-clause-adds g c =
    let bounds = c.args.bounds in
    let table = c.args.table.now in
    let mid = subst (λ (l : List Entry). Adds g.K.Sink.held g.K.Sink.faults c.put_head.new.sink c.put_judged-totals.new.sink c.put_head.new.text c.put_judged-totals.new.text
    (flat_map (entry_lines bounds table l) l)) c.list.ensures.value c.put_judged-totals.ensures.adds in
    adds_then (adds_then c.put_head.ensures mid) c.put_closing.ensures

pub returns-clause-fault : goal.returns-clause-fault
returns-clause-fault g c =
    let bounds = c.args.bounds in
    let table = c.args.table.now in
    let list = c.args.trace.now.list in
    let totals : c.put_judged-totals.result ≡ totals_among bounds table list list =
    c.put_judged-totals.ensures.totals ∙ ap (λ l. totals_among bounds table l l) c.list.ensures.value in
    let count : c.faults.result ≡ faults_among bounds table list list =
    c.faults.ensures ∙ ap (λ t. t.early + t.late + t.passed + t.strangers + t.misfits) totals ∙ sym (faults_are bounds table list list) in
    ap (nat_lt 0) count
