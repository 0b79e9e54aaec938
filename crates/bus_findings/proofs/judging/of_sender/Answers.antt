use Rattle.std.specs.Prelude.{None, Some}
use Rattle.std.proofs.Common.{◌≡◌, sym, ap, subst, ◌∙◌}
use Rattle.bus_findings.specs.Judging.{of_sender, last_start}
use Rattle.bus_findings.specs.Recorded.{recorded, seen}
use Rattle.bus_findings.specs.inside.Standing.{IsLast}
use Rattle.bus_findings.proofs.PlaceLemmas.{start_before}
use Rattle.bus_findings.proofs.WalkLemmas.{from_it}
use Rattle.bus_findings.proofs.JudgeLemmas.{last_at, last_never, stretch_to}
use Rattle.bus_findings.proofs.judging.of_sender.Goals as goal

pub of_next-requires-clause-first : goal.of_next-requires-clause-first
of_next-requires-clause-first c = λ x at mine. c.of_first-first.ensures x at mine

pub returns-in-None : goal.returns-in-None
returns-in-None c = λ x at mine.
    let bounds = c.args.bounds in
    let list = c.args.list.now in
    let number = c.args.sender.now.number in
    let i = c.args.i in
    let never = subst (IsLast bounds list number i) c.in-None.is c.requires.watch.last in
    let none : last_start (recorded bounds list) x.terminal x.moment ≡ None =
    ap (λ n. last_start (recorded bounds list) n x.moment) mine ∙ last_never bounds list number i x.moment never (λ z inside. from_it list i x z c.requires.order at inside) in
    c.of_first-first.ensures x at mine ∙ sym (ap (of_sender bounds c.args.table.now list c.args.sender.now x) none)

pub returns-in-Some : goal.returns-in-Some
returns-in-Some c = λ x at mine.
    let bounds = c.args.bounds in
    let list = c.args.list.now in
    let number = c.args.sender.now.number in
    let i = c.args.i in
    let l = subst (IsLast bounds list number i) c.in-Some.is c.requires.watch.last in
    let o = l.at.start in
    let some : last_start (recorded bounds list) x.terminal x.moment ≡ Some (seen bounds o) =
    ap (λ n. last_start (recorded bounds list) n x.moment) mine
    ∙ last_at bounds list number c.in-Some.last.place i x.moment o (stretch_to bounds list number i c.in-Some.last x c.requires.order at c.requires.here l) l.at.there l.at.mine
    (start_before list c.in-Some.last.place i o x c.requires.order l.at.there l.within at (l.at.mine ∙ sym mine)) in
    c.of_next.ensures o x l.at.there at mine ∙ sym (ap (of_sender bounds c.args.table.now list c.args.sender.now x) some)
