use Rattle.std.proofs.Common.{◌≡◌, ◌<◌, ◌+◌, length, set, get_or, arith, ap, sym, refl, ◌∙◌, subst}
use Rattle.std.proofs.lemmas.List.{length-set}
use Rattle.std.proofs.lemmas.Option.{slice_get-get_or}
use Rattle.bus_medium.specs.Delays.{cable}
use Rattle.bus_medium.proofs.Seats.{same_some, get_set_same}
use Rattle.bus_medium.proofs.Stretching.{each_all}
use Rattle.bus_propagation.specs.declared.seat.Seat.{Seat}
use Rattle.bus_propagation.specs.Numbered.{numbered}
use Rattle.bus_propagation.specs.inside.Turns.{Follows}
use Rattle.bus_propagation.proofs.NextLemmas.{FoundSoFar, found_later, found_turn, turn_early, turn_of_all, attended_of_all}
use Rattle.bus_propagation.proofs.turns.next_turn.Goals.{in-Some+then-next-horizon, in-Some+else-next-horizon, in_default}
use Rattle.bus_propagation.proofs.turns.next_turn.Goals as goal

pub until-requires : goal.until-requires
until-requires c = turn_early c.loop-place.seats c.args.horizon c.loop-place.turn c.loop-place.place c.loop-place.invariant.turn_is

pub attend_before-requires-clause-sender : goal.attend_before-requires-clause-sender
attend_before-requires-clause-sender c =
    let i = c.loop-place.place in
    let x = get_or c.loop-place.seats i c.index-seats-place.result in
    let within : i < length c.loop-place.seats = omega arith in
    c.requires.senders i x (sym (c.loop-place.invariant.each.rest i (omega arith)) ∙ slice_get-get_or c.loop-place.seats i c.index-seats-place.result within)

pub attend_before-requires-clause-place : goal.attend_before-requires-clause-place
attend_before-requires-clause-place c =
    let i = c.loop-place.place in
    let x = get_or c.loop-place.seats i c.index-seats-place.result in
    let within : i < length c.loop-place.seats = omega arith in
    c.requires.place i x (sym (c.loop-place.invariant.each.rest i (omega arith)) ∙ slice_get-get_or c.loop-place.seats i c.index-seats-place.result within)

pub loop-place-preserved : goal.loop-place-preserved
loop-place-preserved c =
    let delay = cable (numbered c.args.places.now) in
    let list = c.args.list.now in
    let ys = c.loop-place.seats in
    let i = c.loop-place.place in
    let x = get_or ys i c.index-seats-place.result in
    let y = c.attend_before.new.seat in
    let within : i < length ys = omega arith in
    let at = slice_get-get_or ys i c.index-seats-place.result within in
    let so = c.loop-place.invariant in
    let z = get_or (set ys i y) i c.index-seats-place-in-loop-place.result in
    let z_is = same_some y z (sym (get_set_same ys i y within) ∙ slice_get-get_or (set ys i y) i c.index-seats-place-in-loop-place.result (omega (arith, within, length-set ys i y))) in
    elim c.match-seat.branch [
      | in-Some+then-next-horizon w ↦
          subst (λ t. FoundSoFar delay list c.args.moment c.args.horizon c.args.seats.now (set ys i y) t (i + 1)) (sym w.turn-is)
          (found_turn delay list c.args.moment c.args.horizon c.args.seats.now ys c.loop-place.turn i x y (record { place = i; moment = w.in-Some.next; terminal = z.terminal }) w.first_turn.result so within at
          c.attend_before.ensures.follows
          (λ u is early. c.attend_before.ensures.attends u is (subst (λ m. u < m) (sym c.until.ensures) early))
          (ap (λ (s : Seat). s.next) z_is ∙ w.in-Some.is) refl (ap (λ (s : Seat). s.terminal) (sym z_is)) w.if-next-horizon.true w.first_turn.ensures.one w.first_turn.ensures.other w.first_turn.ensures.turn)
      | in-Some+else-next-horizon w ↦
          subst (λ t. FoundSoFar delay list c.args.moment c.args.horizon c.args.seats.now (set ys i y) t (i + 1)) (sym w.turn-is)
          (found_later delay list c.args.moment c.args.horizon c.args.seats.now ys c.loop-place.turn i x y so within at c.attend_before.ensures.follows (λ m e.
          let same : w.in-Some.next ≡ m = same_some w.in-Some.next m (sym w.in-Some.is ∙ ap (λ (s : Seat). s.next) (sym z_is) ∙ e) in omega (arith, w.if-next-horizon.false)))
      | in_default w ↦
          subst (λ t. FoundSoFar delay list c.args.moment c.args.horizon c.args.seats.now (set ys i y) t (i + 1)) (sym w.turn-is)
          (found_later delay list c.args.moment c.args.horizon c.args.seats.now ys c.loop-place.turn i x y so within at c.attend_before.ensures.follows (λ m e.
          absurd (w.in_default.not-Some m (ap (λ (s : Seat). s.next) (sym z_is) ∙ e))))
    ]

pub returns-clause-follow : goal.returns-clause-follow
returns-clause-follow c = each_all (Follows (cable (numbered c.args.places.now)) c.args.list.now c.args.moment) c.args.seats.now c.loop-place.seats c.loop-place.place c.loop-place.invariant.each (omega arith)

pub returns-clause-turn : goal.returns-clause-turn
returns-clause-turn c = turn_of_all c.loop-place.seats c.args.horizon c.loop-place.turn c.loop-place.place c.loop-place.invariant.turn_is (omega arith)

pub returns-clause-attended : goal.returns-clause-attended
returns-clause-attended c = attended_of_all (cable (numbered c.args.places.now)) c.args.list.now c.args.moment c.args.horizon c.args.seats.now c.loop-place.seats c.loop-place.turn c.loop-place.place c.loop-place.invariant
