use Rattle.std.proofs.Common.{arith, ℕ, ◌≡◌, ◌≤◌, ◌+◌, List, map, sym, subst, inl, inr}
use Rattle.std.proofs.lemmas.Bool.{cases_lt}
use Rattle.std.proofs.lemmas.Result.{err_from_is_err_and}
use Rattle.bus_audit.specs.declared.progress.Progress.{Progress}
use Rattle.bus_audit.specs.declared.watch.Watch.{Watch}
use Rattle.bus_audit.specs.inside.Watches.{NoneBefore, Misses, pair, passed}
use Rattle.bus_audit.specs.inside.Keeping.{watches_of}
use Rattle.bus_audit.specs.inside.Standing.{Closed}
use Rattle.bus_audit.proofs.Keeping.{still_on}
use Rattle.bus_audit.proofs.Going.{closed_here, closed_calm, closed_busy, missed_over, have_strings}
use Rattle.bus_audit.proofs.walk.close.Goals as goal

pub returns-then-moment-progress-clause-ok : goal.returns-then-moment-progress-clause-ok
returns-then-moment-progress-clause-ok c =
    closed_here c.args.table.now c.args.trace.now c.args.progress (watches_of c.args.heard.now c.args.timers.now) c.args.moment c.args.terminal c.test_decides.ensures c.senders-valid.ensures.valid c.if-moment-progress.true c.requires.judged

pub returns-in_err-check_behind-clause-err : goal.returns-in_err-check_behind-clause-err
returns-in_err-check_behind-clause-err c =
    let ws = (watches_of c.args.heard.now c.args.timers.now) in
    let t = c.args.progress.moment in
    let f = c.in_err-check_behind.field-0.0 in
    let p = err_from_is_err_and c.from_residual.result c.from_residual.ensures.1 in
    rw (p.1, p.2)
    (missed_over c.args.table.now c.args.trace.now c.args.progress ws c.args.moment c.args.terminal f.moment f.terminal f.kind c.test_decides.ensures c.senders-valid.ensures.valid c.if-moment-progress.false c.requires.below c.requires.judged
    c.in_err-check_behind.ensures.few c.in_err-check_behind.ensures.kind
    (subst (λ (n : ℕ). Misses n t ws (pair f.moment f.terminal)) c.requires.quiet c.in_err-check_behind.ensures.misses)
    (subst (λ (n : ℕ). NoneBefore n t ws (pair f.moment f.terminal)) c.requires.quiet c.in_err-check_behind.ensures.first)
    c.in_err-check_behind.ensures.before)

pub returns-clause-ok : goal.returns-clause-ok
returns-clause-ok c =
    let table = c.args.table.now in
    let trace = c.args.trace.now in
    let progress = c.args.progress in
    let ws = (watches_of c.args.heard.now c.args.timers.now) in
    let strings = have_strings trace.horizon trace.list c.list-ranges.ensures.ranges.list in
    let missed = subst (λ (n : ℕ). NoneBefore n progress.moment ws (pair (progress.moment + 1) 0)) c.requires.quiet c.in_ok-check_behind.ensures.ok in
    elim (cases_lt progress.moment progress.end) [
      | inl busy ↦
          closed_busy table trace progress ws c.args.moment c.args.terminal c.test_decides.ensures c.senders-valid.ensures.valid strings c.if-moment-progress.false c.requires.judged missed busy c.rest.result (watches_of c.rest.new.heard c.rest.new.timers) (c.rest.ensures.busy busy)
          (subst (λ (n : ℕ). (watches_of c.rest.new.heard c.rest.new.timers) ≡ map (passed (n + progress.moment) (n + progress.end)) ws) c.requires.quiet (c.rest.ensures.passed busy)) c.rest.ensures.far
      | inr calm ↦
          subst (λ (k : Progress). Closed table trace k (watches_of c.rest.new.heard c.rest.new.timers) c.args.moment c.args.terminal) (sym (c.rest.ensures.calm calm))
          (subst (λ (vs : List Watch). Closed table trace progress vs c.args.moment c.args.terminal) (sym (c.rest.ensures.same calm))
          (closed_calm table trace progress ws c.args.moment c.args.terminal c.test_decides.ensures c.senders-valid.ensures.valid strings c.if-moment-progress.false c.requires.judged missed calm))
    ]

pub returns-clause-kept : goal.returns-clause-kept
returns-clause-kept c = λ reached.
    let order : c.rest.result.moment ≤ c.args.moment = reached in
    still_on c.rest.new.heard (c.args.quiet + c.rest.result.moment) (c.args.quiet + c.args.moment) (c.args.quiet + c.rest.result.end) c.rest.new.timers c.rest.ensures.still (omega arith)

pub returns-clause-first : goal.returns-clause-first
returns-clause-first c = c.rest.ensures.sooner c.args.first c.requires.first
