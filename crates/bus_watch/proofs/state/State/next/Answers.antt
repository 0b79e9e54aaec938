use Rattle.std.proofs.Common.{ap, sym, subst, ◌∙◌}
use Rattle.bus_stream.specs.Places.{place_after}
use Rattle.bus_watch.specs.Standing.{IsItem}
use Rattle.bus_watch.proofs.StateLemmas.{lost_behind, sent_behind, told_behind}
use Rattle.bus_watch.proofs.state.State.next.Goals as goal

pub sent-requires-clause-behind : goal.sent-requires-clause-behind
sent-requires-clause-behind g c =
    sent_behind c.args.self.now.place c.requires.here.0 c.in-Sent.time c.in-Sent.terminal c.in-Sent.message
    (sym (ap (place_after c.args.self.now.place) c.in-Sent.is) ∙ c.requires.here.1)

pub sent-requires-clause-terminal : goal.sent-requires-clause-terminal
sent-requires-clause-terminal g c =
    let fits = subst IsItem c.in-Sent.is c.requires.item in
    (fits.0, fits.1)

pub told-requires-clause-later : goal.told-requires-clause-later
told-requires-clause-later g c =
    told_behind c.args.self.now.place c.requires.here.0 c.in-Told.time
    (sym (ap (place_after c.args.self.now.place) c.in-Told.is) ∙ c.requires.here.1)

pub end-requires-clause-later : goal.end-requires-clause-later
end-requires-clause-later g c =
    let fits = subst IsItem c.in-Lost.is c.requires.item in (
      lost_behind c.args.self.now.place c.requires.here.0 c.in-Lost.from _
          (sym (ap (place_after c.args.self.now.place) c.in-Lost.is) ∙ c.requires.here.1),
      fits.0,
    )

pub sent-requires-clause-low : goal.sent-requires-clause-low
sent-requires-clause-low g c = (subst IsItem c.in-Sent.is c.requires.item).2

pub told-requires-clause-low : goal.told-requires-clause-low
told-requires-clause-low g c = subst IsItem c.in-Told.is c.requires.item
