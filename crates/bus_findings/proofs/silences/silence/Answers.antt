use Rattle.std.specs.Prelude.{slice_get}
use Rattle.std.proofs.Common.{◌≡◌, ℕ, List, length, Option, Some, sym, ap, subst, ◌∙◌}
use Rattle.bus_strings.specs.Messages.{Entry}
use Rattle.bus_findings.specs.declared.judgement.Due.{Due}
use Rattle.bus_findings.specs.Dues.{due_of}
use Rattle.bus_findings.specs.Recorded.{seen, recorded, timers_of, monitor_of}
use Rattle.bus_findings.specs.inside.Standing.{IsLast, IsStretch}
use Rattle.bus_findings.proofs.SilenceLemmas.{stretch_end, never_silent, silent_since}
use Rattle.bus_findings.proofs.silences.silence.Goals as goal

pub returns-in_err-last : goal.returns-in_err-last
returns-in_err-last c =
    let list = c.args.trace.now.list in
    let never = subst (IsLast c.args.bounds list c.args.sender.now.number (length list)) c.in_err-last.was c.requires.watch.last in
    c.from_residual.ensures ∙ sym (never_silent c.args.bounds c.args.table.now c.args.trace.now c.args.sender.now never)

pub due_behind-requires-clause-stretch : goal.due_behind-requires-clause-stretch
due_behind-requires-clause-stretch c =
    let trace = c.args.trace.now in
    let number = c.args.sender.now.number in
    let place = c.in_ok-last.last.place in
    let l = subst (IsLast c.args.bounds trace.list number (length trace.list)) c.in_ok-last.was c.requires.watch.last in
    subst (λ h. IsStretch c.list-list.result.now number place (length c.list-list.result.now) h) (sym c.horizon-horizon.ensures.value)
    (subst (λ (k : List Entry). IsStretch k number place (length k) trace.horizon) (sym c.list-list.ensures.value)
    (stretch_end c.args.bounds trace number c.in_ok-last.last c.list-list.ensures.ranges l))

pub returns : goal.returns
returns c =
    let bounds = c.args.bounds in
    let table = c.args.table.now in
    let trace = c.args.trace.now in
    let sender = c.args.sender.now in
    let l = subst (IsLast bounds trace.list sender.number (length trace.list)) c.in_ok-last.was c.requires.watch.last in
    let o = l.at.start in
    let there : slice_get c.list-list.result.now c.in_ok-last.last.place ≡ Some o =
    ap (λ (k : List Entry). slice_get k c.in_ok-last.last.place) c.list-list.ensures.value ∙ l.at.there in
    let told : List Entry → ℕ → Option Due = λ k h. due_of (timers_of bounds table sender) (monitor_of bounds table) (recorded bounds k) (seen bounds o) h in
    c.due_behind.ensures o there ∙ ap (λ k. told k c.horizon-horizon.result) c.list-list.ensures.value ∙ ap (told trace.list) c.horizon-horizon.ensures.value
    ∙ sym (silent_since bounds table trace sender c.in_ok-last.last o c.list-list.ensures.ranges l l.at.there l.at.mine)
