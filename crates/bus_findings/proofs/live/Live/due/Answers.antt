use Rattle.std.specs.Prelude.{None, slice_get}
use Rattle.std.proofs.Common.{◌≡◌, Some, List, get_or, length, arith, ap, sym, subst, ◌∙◌}
use Rattle.std.proofs.lemmas.Option.{slice_get-get_or}
use Rattle.bus_strings.specs.Messages.{Entry}
use Rattle.bus_table.specs.Tables.{Sender}
use Rattle.bus_table.proofs.ValidLaws.{valid_facts}
use Rattle.bus_findings.specs.Dues.{due_of}
use Rattle.bus_findings.specs.Growing.{Growing, AreBy, due_until}
use Rattle.bus_findings.specs.Recorded.{monitor_of, recorded, seen, timers_of}
use Rattle.bus_findings.specs.declared.watch.Watch.{Watch}
use Rattle.bus_findings.specs.inside.Standing.{IsLastAt, IsStretch}
use Rattle.bus_findings.proofs.GrownLemmas.{due_never, due_since}
use Rattle.bus_findings.proofs.PlaceLemmas.{same_at}
use Rattle.bus_findings.proofs.live.Live.due.Goals as goal

pub bounds-self-inside-place : goal.bounds-self-inside-place
bounds-self-inside-place c =
    let few = (valid_facts c.self.inside.table.now c.senders.ensures.valid).few in
    omega (arith, few, c.requires.here, ap (λ (g : Growing). length g.table.senders) c.self.view_is)

pub returns-in_err-last : goal.returns-in_err-last
returns-in_err-last c =
    let bounds = c.self.inside.bounds in
    let table = c.self.inside.table.now in
    let list = c.self.inside.list.items in
    let place = c.args.place in
    let s0 : Sender = c.index-senders-place.result in
    let none : Watch = record { last = None; own_end = 0; starts = 0; faults = 0; least = None; most = None } in
    let w : Watch = get_or c.self.inside.watches place none in
    let senders : length table.senders ≡ length c.args.self.now.table.senders = ap (λ (g : Growing). length g.table.senders) c.self.view_is in
    let here : slice_get table.senders place ≡ Some s0 =
    ap (λ l. slice_get l place) (sym c.senders.ensures.value)
    ∙ slice_get-get_or c.senders.result.now place s0 (omega (arith, c.requires.here, senders, ap length c.senders.ensures.value)) ∙ ap Some (sym c.index-senders-place.is) in
    let enough = c.self.invariant.watched.enough in
    let is = c.self.invariant.watched.each place s0 w here (slice_get-get_or c.self.inside.watches place none (omega (arith, c.requires.here, senders, enough))) in
    λ s at.
    let same : s0 ≡ s = same_at table.senders place s0 s here (ap (λ (g : Growing). slice_get g.table.senders place) c.self.view_is ∙ at) in
    c.from_residual.ensures ∙ sym (due_never bounds table list s0 w c.args.until is c.in_err-last.was)
    ∙ ap (λ t. due_until bounds table list t c.args.until) same ∙ ap (λ (g : Growing). due_until g.bounds g.table g.list s c.args.until) c.self.view_is

pub due_behind-requires-clause-last : goal.due_behind-requires-clause-last
due_behind-requires-clause-last c =
    let bounds = c.self.inside.bounds in
    let table = c.self.inside.table.now in
    let list = c.self.inside.list.items in
    let place = c.args.place in
    let s0 : Sender = c.index-senders-place.result in
    let none : Watch = record { last = None; own_end = 0; starts = 0; faults = 0; least = None; most = None } in
    let w : Watch = get_or c.self.inside.watches place none in
    let senders : length table.senders ≡ length c.args.self.now.table.senders = ap (λ (g : Growing). length g.table.senders) c.self.view_is in
    let here : slice_get table.senders place ≡ Some s0 =
    ap (λ l. slice_get l place) (sym c.senders.ensures.value)
    ∙ slice_get-get_or c.senders.result.now place s0 (omega (arith, c.requires.here, senders, ap length c.senders.ensures.value)) ∙ ap Some (sym c.index-senders-place.is) in
    let enough = c.self.invariant.watched.enough in
    let is = c.self.invariant.watched.each place s0 w here (slice_get-get_or c.self.inside.watches place none (omega (arith, c.requires.here, senders, enough))) in
    let by : AreBy list c.args.until = subst (λ (g : Growing). AreBy g.list c.args.until) (sym c.self.view_is) c.requires.all in
    let due = due_since bounds table list s0 w c.in_ok-last.last c.args.until c.self.invariant.trace by is c.in_ok-last.was in
    subst (λ (l : List Entry). IsLastAt bounds l s0.number c.in_ok-last.last) (sym c.deref.ensures.value) due.at

pub due_behind-requires-clause-stretch : goal.due_behind-requires-clause-stretch
due_behind-requires-clause-stretch c =
    let bounds = c.self.inside.bounds in
    let table = c.self.inside.table.now in
    let list = c.self.inside.list.items in
    let place = c.args.place in
    let s0 : Sender = c.index-senders-place.result in
    let none : Watch = record { last = None; own_end = 0; starts = 0; faults = 0; least = None; most = None } in
    let w : Watch = get_or c.self.inside.watches place none in
    let senders : length table.senders ≡ length c.args.self.now.table.senders = ap (λ (g : Growing). length g.table.senders) c.self.view_is in
    let here : slice_get table.senders place ≡ Some s0 =
    ap (λ l. slice_get l place) (sym c.senders.ensures.value)
    ∙ slice_get-get_or c.senders.result.now place s0 (omega (arith, c.requires.here, senders, ap length c.senders.ensures.value)) ∙ ap Some (sym c.index-senders-place.is) in
    let enough = c.self.invariant.watched.enough in
    let is = c.self.invariant.watched.each place s0 w here (slice_get-get_or c.self.inside.watches place none (omega (arith, c.requires.here, senders, enough))) in
    let by : AreBy list c.args.until = subst (λ (g : Growing). AreBy g.list c.args.until) (sym c.self.view_is) c.requires.all in
    let due = due_since bounds table list s0 w c.in_ok-last.last c.args.until c.self.invariant.trace by is c.in_ok-last.was in
    let count : length list ≡ c.len-to.result = omega (arith, c.len-to.ensures, c.deref.ensures.len, ap length c.deref.ensures.value) in
    subst (λ (l : List Entry). IsStretch l s0.number c.in_ok-last.last.place c.len-to.result c.args.until) (sym c.deref.ensures.value)
    (subst (λ n. IsStretch list s0.number c.in_ok-last.last.place n c.args.until) count due.stretch)

pub returns : goal.returns
returns c =
    let bounds = c.self.inside.bounds in
    let table = c.self.inside.table.now in
    let list = c.self.inside.list.items in
    let place = c.args.place in
    let s0 : Sender = c.index-senders-place.result in
    let none : Watch = record { last = None; own_end = 0; starts = 0; faults = 0; least = None; most = None } in
    let w : Watch = get_or c.self.inside.watches place none in
    let senders : length table.senders ≡ length c.args.self.now.table.senders = ap (λ (g : Growing). length g.table.senders) c.self.view_is in
    let here : slice_get table.senders place ≡ Some s0 =
    ap (λ l. slice_get l place) (sym c.senders.ensures.value)
    ∙ slice_get-get_or c.senders.result.now place s0 (omega (arith, c.requires.here, senders, ap length c.senders.ensures.value)) ∙ ap Some (sym c.index-senders-place.is) in
    let enough = c.self.invariant.watched.enough in
    let is = c.self.invariant.watched.each place s0 w here (slice_get-get_or c.self.inside.watches place none (omega (arith, c.requires.here, senders, enough))) in
    let by : AreBy list c.args.until = subst (λ (g : Growing). AreBy g.list c.args.until) (sym c.self.view_is) c.requires.all in
    let due = due_since bounds table list s0 w c.in_ok-last.last c.args.until c.self.invariant.trace by is c.in_ok-last.was in
    λ s at.
    let same : s0 ≡ s = same_at table.senders place s0 s here (ap (λ (g : Growing). slice_get g.table.senders place) c.self.view_is ∙ at) in
    let there : slice_get c.deref.result.now c.in_ok-last.last.place ≡ Some due.start = ap (λ (l : List Entry). slice_get l c.in_ok-last.last.place) c.deref.ensures.value ∙ due.there in
    c.due_behind.ensures due.start there
    ∙ ap (λ (l : List Entry). due_of (timers_of bounds table s0) (monitor_of bounds table) (recorded bounds l) (seen bounds due.start) c.args.until) c.deref.ensures.value
    ∙ sym due.is ∙ ap (λ t. due_until bounds table list t c.args.until) same ∙ ap (λ (g : Growing). due_until g.bounds g.table g.list s c.args.until) c.self.view_is
