use Rattle.std.specs.Prelude.{option_map, None, count_by, nat_le, nat_lt, ◌&&◌, slice_range}
use Rattle.std.proofs.Common.{◌≡◌, ◌<◌, ◌-◌, ◌+◌, Some, arith, refl, sym, ap, subst, ◌∙◌}
use Rattle.std.proofs.lemmas.Option.{slice_get-get_or}
use Rattle.bus_strings.specs.Messages.{Entry}
use Rattle.bus_findings.specs.declared.judgement.Late.{Late}
use Rattle.bus_findings.specs.Dues.{due_of}
use Rattle.bus_findings.specs.Judging.{late_by}
use Rattle.bus_findings.specs.Recorded.{seen, recorded, timers_of, monitor_of}
use Rattle.bus_findings.specs.inside.Standing.{IsStretch}
use Rattle.bus_findings.proofs.PlaceLemmas.{read_is}
use Rattle.bus_findings.proofs.JudgeLemmas.{stretch_to, late_at}
use Rattle.bus_findings.proofs.lateness.late_behind.Goals as goal

pub due_behind-requires-clause-stretch : goal.due_behind-requires-clause-stretch
due_behind-requires-clause-stretch c =
    let list = c.args.list.now in
    let x = c.index-list-i.result in
    let at = slice_get-get_or list c.args.i x c.requires.here ∙ ap Some (sym c.index-list-i.is) in
    let moment : x.moment ≡ c.x.inside.moment = ap (λ (z : Entry). z.moment) (sym c.x.view_is) in
    subst (λ m. IsStretch list c.args.sender.now.number c.args.last.place c.args.i m) moment
    (stretch_to c.args.bounds list c.args.sender.now.number c.args.i c.args.last x c.requires.order at c.requires.here c.requires.last)

pub returns-in_err-due : goal.returns-in_err-due
returns-in_err-due c = λ o y there at.
    let list = c.args.list.now in
    let it : c.index-list-i.result ≡ y = read_is list c.args.i c.index-list-i.result y c.index-list-i.is at in
    let moment : c.x.inside.moment ≡ y.moment = ap (λ (z : Entry). z.moment) (c.x.view_is ∙ it) in
    let told = due_of (timers_of c.args.bounds c.args.table.now c.args.sender.now) (monitor_of c.args.bounds c.args.table.now) (recorded c.args.bounds list) (seen c.args.bounds o) in
    let none : told y.moment ≡ None = sym (ap told moment) ∙ sym (c.due_behind.ensures o there) ∙ c.in_err-due.was in
    c.from_residual.ensures ∙ sym (ap (option_map (late_by (recorded c.args.bounds list) (seen c.args.bounds y))) none)

pub returns : goal.returns
returns c = λ o y there at.
    let bounds = c.args.bounds in
    let list = c.args.list.now in
    let timers = timers_of bounds c.args.table.now c.args.sender.now in
    let monitor = monitor_of bounds c.args.table.now in
    let place = c.args.last.place in
    let due = c.in_ok-due.due in
    let it : c.index-list-i.result ≡ y = read_is list c.args.i c.index-list-i.result y c.index-list-i.is at in
    let moment : c.x.inside.moment ≡ y.moment = ap (λ (z : Entry). z.moment) (c.x.view_is ∙ it) in
    let told = due_of timers monitor (recorded bounds list) (seen bounds o) in
    let is : told y.moment ≡ Some due = sym (ap told moment) ∙ sym (c.due_behind.ensures o there) ∙ c.in_ok-due.was in
    let made : Late = record { timer = due.timer; amount = c.saturating_sub.result; passed = c.begun_within.result } in
    let amount : made.amount ≡ y.moment - due.moment = omega (arith, c.saturating_sub.ensures, moment) in
    let counted : made.passed ≡ count_by (λ x. nat_le due.moment x.moment && nat_lt x.moment c.x.inside.moment) (slice_range list (place + 1) c.args.i) = c.begun_within.ensures in
    let passed : made.passed ≡ count_by (λ x. nat_le due.moment x.moment && nat_lt x.moment y.moment) (slice_range list (place + 1) c.args.i) =
    counted ∙ ap (λ m. count_by (λ (x : Entry). nat_le due.moment x.moment && nat_lt x.moment m) (slice_range list (place + 1) c.args.i)) moment in
    let some : 0 < timers.long.ti = omega (arith, c.ti_of-some.ensures.some, c.ti_of-some.ensures.value) in
    late_at timers monitor bounds list c.args.sender.now.number place c.args.i o y due made
    (stretch_to bounds list c.args.sender.now.number c.args.i c.args.last y c.requires.order at c.requires.here c.requires.last) there some is refl amount passed

pub returns-then-is_plain : goal.returns-then-is_plain
returns-then-is_plain c = λ o y there at.
    let bounds = c.args.bounds in
    let list = c.args.list.now in
    let none = c.is_plain.ensures o y there at c.if-is_plain.true in
    sym (ap (option_map (late_by (recorded bounds list) (seen bounds y))) none)
