use Rattle.std.proofs.Common.{◌≡◌, ◌<◌, ◌≤◌, ◌+◌, true, false, length, arith, ap, sym, Some, ◌∙◌, subst}
use Rattle.std.specs.Prelude.{nat_le}
use Rattle.std.specs.Option.{option_map_or}
use Rattle.std.proofs.lemmas.Option.{slice_get-get_or}
use Rattle.bus_strings.specs.Messages.{Entry}
use Rattle.bus_medium.specs.Delays.{cable}
use Rattle.bus_propagation.specs.Numbered.{numbered}
use Rattle.bus_propagation.proofs.ArrivalLemmas.{FirstSoFar, one_ended, one_comes, first_of_all, first_enough, passed_by, cursor_within}
use Rattle.bus_propagation.proofs.arrival.next_arrival.Goals.{then-arrival-moment, else-arrival-moment}
use Rattle.bus_propagation.proofs.arrival.next_arrival.Goals as goal

pub loop-place-preserved : goal.loop-place-preserved
loop-place-preserved c =
    let delay = cable (numbered c.args.places.now) in
    let list = c.args.list.now in
    let place = c.loop-place.place in
    let within : place < length list = omega arith in
    let x = c.index-list-place.result in
    let at = slice_get-get_or list place x within ∙ ap (λ w. Some w) (sym c.index-list-place.is) in
    let a = c.heard-arrival.result in
    let so = c.loop-place.invariant in
    elim c.if-arrival-moment.branch [
      | then-arrival-moment w ↦
          subst (λ f. FirstSoFar delay c.args.terminal list c.args.moment f (place + 1)) (sym w.first-is)
          (one_comes delay c.args.terminal list c.args.moment c.loop-place.first place x a w.sooner.result so at c.heard-arrival.ensures.begin c.heard-arrival.ensures.end
          w.if-arrival-moment.true (record { one = w.sooner.ensures.one; least = w.sooner.ensures.least; no_later = w.sooner.ensures.no_later; cursor = w.sooner.ensures.cursor }))
      | else-arrival-moment w ↦
          let ended = c.heard-arrival.ensures.end in
          subst (λ f. FirstSoFar delay c.args.terminal list c.args.moment f (place + 1)) (sym w.first-is)
          (one_ended delay c.args.terminal list c.args.moment c.loop-place.first place x so at (subst (λ e. e ≤ c.args.moment) ended w.if-arrival-moment.false))
    ]

pub returns-then-comes_by-clause-first : goal.returns-then-comes_by-clause-first
returns-then-comes_by-clause-first c =
    let list = c.args.list.now in
    let place = c.loop-place.place in
    let within : place < length list = omega arith in
    let x = c.index-list-place.result in
    let at = slice_get-get_or list place x within ∙ ap (λ w. Some w) (sym c.index-list-place.is) in
    let moment : c.x.inside.moment ≡ x.moment = ap (λ (e : Entry). e.moment) c.x.view_is in
    first_enough (cable (numbered c.args.places.now)) c.args.terminal list c.args.moment c.loop-place.first place x c.requires.order c.loop-place.invariant at
    (subst (λ m. option_map_or (λ w. nat_le w.arrival.begin m) c.loop-place.first false ≡ true) moment (sym c.comes_by.ensures ∙ c.if-comes_by.true))

pub returns-then-comes_by-clause-passed : goal.returns-then-comes_by-clause-passed
returns-then-comes_by-clause-passed c = passed_by (cable (numbered c.args.places.now)) c.args.terminal c.args.list.now c.args.moment c.loop-place.first c.loop-place.place c.loop-place.invariant

pub returns-then-comes_by-clause-within : goal.returns-then-comes_by-clause-within
returns-then-comes_by-clause-within c =
    cursor_within (cable (numbered c.args.places.now)) c.args.terminal c.args.list.now c.args.moment c.loop-place.first c.loop-place.place c.loop-place.invariant (omega arith)

pub returns-clause-first : goal.returns-clause-first
returns-clause-first c = first_of_all (cable (numbered c.args.places.now)) c.args.terminal c.args.list.now c.args.moment c.loop-place.first c.loop-place.place c.loop-place.invariant (omega arith)

pub returns-clause-passed : goal.returns-clause-passed
returns-clause-passed c = passed_by (cable (numbered c.args.places.now)) c.args.terminal c.args.list.now c.args.moment c.loop-place.first c.loop-place.place c.loop-place.invariant

pub returns-clause-within : goal.returns-clause-within
returns-clause-within c =
    cursor_within (cable (numbered c.args.places.now)) c.args.terminal c.args.list.now c.args.moment c.loop-place.first c.loop-place.place c.loop-place.invariant (omega arith)
