use Rattle.std.proofs.Common.{[], ◌∷◌, ◌++◌, arith, ap, subst, ◌∙◌}
use Rattle.bus_strings.specs.Messages.{Entry}
use Rattle.bus_findings.specs.Growing.{Growing}
use Rattle.bus_findings.specs.Judging.{judgement_of}
use Rattle.bus_findings.specs.inside.Grown.{IsGrown}
use Rattle.bus_findings.specs.inside.Standing.{HasBegun}
use Rattle.bus_findings.proofs.GrownLemmas.{ready_of, grown_on}
use Rattle.bus_findings.proofs.PlaceLemmas.{same_at}
use Rattle.bus_findings.proofs.live.Live.take.Goals as goal

pub judge_last-requires-clause-sound : goal.judge_last-requires-clause-sound
judge_last-requires-clause-sound c =
    let is =
    ready_of c.self.inside.bounds c.self.inside.table.now c.self.inside.settled c.self.inside.list.items c.deref.result.now c.len-i.result c.args.x
    (record { moment = c.x.inside.moment; terminal = c.x.inside.terminal; message = c.x.inside.message }) c.self.inside.heard c.self.inside.watches c.args.self.now
    c.self.view_is c.self.invariant c.requires c.x.view_is c.x.invariant c.end.ensures.ranges (c.deref.ensures.value ∙ c.in_ok-push.ensures.items)
    (omega (arith, c.len-i.ensures, c.in_ok-push.ensures.len, c.deref.ensures.len)) in
    is.long

pub judge_last-requires-clause-order : goal.judge_last-requires-clause-order
judge_last-requires-clause-order c =
    let is =
    ready_of c.self.inside.bounds c.self.inside.table.now c.self.inside.settled c.self.inside.list.items c.deref.result.now c.len-i.result c.args.x
    (record { moment = c.x.inside.moment; terminal = c.x.inside.terminal; message = c.x.inside.message }) c.self.inside.heard c.self.inside.watches c.args.self.now
    c.self.view_is c.self.invariant c.requires c.x.view_is c.x.invariant c.end.ensures.ranges (c.deref.ensures.value ∙ c.in_ok-push.ensures.items)
    (omega (arith, c.len-i.ensures, c.in_ok-push.ensures.len, c.deref.ensures.len)) in
    is.trace.order

pub judge_last-requires-clause-few : goal.judge_last-requires-clause-few
judge_last-requires-clause-few c =
    let is =
    ready_of c.self.inside.bounds c.self.inside.table.now c.self.inside.settled c.self.inside.list.items c.deref.result.now c.len-i.result c.args.x
    (record { moment = c.x.inside.moment; terminal = c.x.inside.terminal; message = c.x.inside.message }) c.self.inside.heard c.self.inside.watches c.args.self.now
    c.self.view_is c.self.invariant c.requires c.x.view_is c.x.invariant c.end.ensures.ranges (c.deref.ensures.value ∙ c.in_ok-push.ensures.items)
    (omega (arith, c.len-i.ensures, c.in_ok-push.ensures.len, c.deref.ensures.len)) in
    is.few

pub judge_last-requires-clause-heard : goal.judge_last-requires-clause-heard
judge_last-requires-clause-heard c =
    let is =
    ready_of c.self.inside.bounds c.self.inside.table.now c.self.inside.settled c.self.inside.list.items c.deref.result.now c.len-i.result c.args.x
    (record { moment = c.x.inside.moment; terminal = c.x.inside.terminal; message = c.x.inside.message }) c.self.inside.heard c.self.inside.watches c.args.self.now
    c.self.view_is c.self.invariant c.requires c.x.view_is c.x.invariant c.end.ensures.ranges (c.deref.ensures.value ∙ c.in_ok-push.ensures.items)
    (omega (arith, c.len-i.ensures, c.in_ok-push.ensures.len, c.deref.ensures.len)) in
    is.hears

pub judge_last-requires-clause-begun : goal.judge_last-requires-clause-begun
judge_last-requires-clause-begun c =
    let is =
    ready_of c.self.inside.bounds c.self.inside.table.now c.self.inside.settled c.self.inside.list.items c.deref.result.now c.len-i.result c.args.x
    (record { moment = c.x.inside.moment; terminal = c.x.inside.terminal; message = c.x.inside.message }) c.self.inside.heard c.self.inside.watches c.args.self.now
    c.self.view_is c.self.invariant c.requires c.x.view_is c.x.invariant c.end.ensures.ranges (c.deref.ensures.value ∙ c.in_ok-push.ensures.items)
    (omega (arith, c.len-i.ensures, c.in_ok-push.ensures.len, c.deref.ensures.len)) in
    λ y at.
    let same = same_at c.deref.result.now c.len-i.result c.args.x y is.there at in
    subst (λ (z : Entry). HasBegun c.self.inside.bounds c.deref.result.now z.moment c.self.inside.heard) same is.begun

pub judge_last-requires-clause-watched : goal.judge_last-requires-clause-watched
judge_last-requires-clause-watched c =
    let is =
    ready_of c.self.inside.bounds c.self.inside.table.now c.self.inside.settled c.self.inside.list.items c.deref.result.now c.len-i.result c.args.x
    (record { moment = c.x.inside.moment; terminal = c.x.inside.terminal; message = c.x.inside.message }) c.self.inside.heard c.self.inside.watches c.args.self.now
    c.self.view_is c.self.invariant c.requires c.x.view_is c.x.invariant c.end.ensures.ranges (c.deref.ensures.value ∙ c.in_ok-push.ensures.items)
    (omega (arith, c.len-i.ensures, c.in_ok-push.ensures.len, c.deref.ensures.len)) in
    is.watched

pub invariant_of-self-2 : goal.invariant_of-self-2
invariant_of-self-2 c =
    let is =
    ready_of c.self.inside.bounds c.self.inside.table.now c.self.inside.settled c.self.inside.list.items c.deref.result.now c.len-i.result c.args.x
    (record { moment = c.x.inside.moment; terminal = c.x.inside.terminal; message = c.x.inside.message }) c.self.inside.heard c.self.inside.watches c.args.self.now
    c.self.view_is c.self.invariant c.requires c.x.view_is c.x.invariant c.end.ensures.ranges (c.deref.ensures.value ∙ c.in_ok-push.ensures.items)
    (omega (arith, c.len-i.ensures, c.in_ok-push.ensures.len, c.deref.ensures.len)) in
    subst (λ l. IsGrown c.self.inside.bounds c.self.inside.table.now c.self.inside.settled l c.judge_last.result.1 c.judge_last.new.watches) c.deref.ensures.value
    (grown_on c.self.inside.bounds c.self.inside.table.now c.self.inside.settled c.self.inside.list.items c.deref.result.now c.len-i.result c.args.x
    c.judge_last.result.1 c.self.inside.heard c.judge_last.new.watches c.self.inside.watches c.self.invariant is
    c.judge_last.ensures.heard (c.judge_last.ensures.begun c.args.x is.there) c.judge_last.ensures.watched)

pub returns-clause-found : goal.returns-clause-found
returns-clause-found c =
    let is =
    ready_of c.self.inside.bounds c.self.inside.table.now c.self.inside.settled c.self.inside.list.items c.deref.result.now c.len-i.result c.args.x
    (record { moment = c.x.inside.moment; terminal = c.x.inside.terminal; message = c.x.inside.message }) c.self.inside.heard c.self.inside.watches c.args.self.now
    c.self.view_is c.self.invariant c.requires c.x.view_is c.x.invariant c.end.ensures.ranges (c.deref.ensures.value ∙ c.in_ok-push.ensures.items)
    (omega (arith, c.len-i.ensures, c.in_ok-push.ensures.len, c.deref.ensures.len)) in
    c.judge_last.ensures.value c.args.x is.there
    ∙ ap (λ l. judgement_of c.self.inside.bounds c.self.inside.table.now l c.args.x) (c.deref.ensures.value ∙ c.in_ok-push.ensures.items)
    ∙ ap (λ (g : Growing). judgement_of g.bounds g.table (g.list ++ c.args.x ∷ []) c.args.x) c.self.view_is
