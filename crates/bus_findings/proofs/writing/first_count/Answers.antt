use Rattle.std.specs.Prelude.{nat_lt, slice_get, None}
use Rattle.std.proofs.Common.{◌≡◌, ◌<◌, ℕ, Bool, cond, [], Some, length, get_or, arith, ap, ◌∙◌}
use Rattle.std.proofs.lemmas.Option.{slice_get-get_or}
use Rattle.bus_table.specs.Tables.{Sender}
use Rattle.bus_findings.specs.declared.watch.Watch.{Watch}
use Rattle.bus_findings.specs.Terminals.{own, once}
use Rattle.bus_findings.proofs.TraceLemmas.{count_next, starts_same}
use Rattle.bus_findings.proofs.writing.first_count.Goals as goal

pub loop-k-preserved : goal.loop-k-preserved
loop-k-preserved c =
    let table = c.args.table.now in
    let list = c.args.trace.now.list in
    let k = c.loop-k.k in
    let none : Sender = record { number = 0; tg = 0; at = 0; sends = []; takes = [] } in
    let new : Watch = record { last = None; own_end = 0; starts = 0; faults = 0; least = None; most = None } in
    let s : Sender = get_or table.senders k none in
    let w : Watch = get_or c.args.watches.now k new in
    let low : k < length table.senders = omega (arith, c.loop-k-test.true, ap length c.senders-k-end.ensures.value) in
    let here : slice_get table.senders k ≡ Some s = slice_get-get_or table.senders k none low in
    let at : slice_get c.args.watches.now k ≡ Some w = slice_get-get_or c.args.watches.now k new (omega (arith, low, c.requires.watched.enough)) in
    let starts : w.starts ≡ length (own list s.number) = starts_same c.args.bounds table list s w (c.requires.watched.each k s w here at) in
    let p : Sender → Bool = λ t. nat_lt 0 (length (own list t.number)) in
    let f : Sender → ℕ = λ t. cond (p t) 1 0 in
    let one : c.once-firsts.result ≡ f s = c.once-firsts.ensures.value ∙ ap (λ n. once (nat_lt 0 n)) starts in
    record {
      count = omega (arith, one, c.loop-k.invariant.count, count_next f table.senders k s here);
      few = omega (arith, c.loop-k.invariant.few, c.once-firsts.ensures.most);
    }
