-- What a bus has observed, by what its senders have: the bus has the senders that are held, which become zs.
use Rattle.std.proofs.Common.{◌≡◌, ℕ, List, map, Result, subst}
use Rattle.std.specs.Prelude.{IfOk, OnOk}
use Rattle.std.proofs.lemmas.Result.{IfOk-weaker}
use Rattle.bus_timers.specs.declared.cores.Core.{Ghosts}
use Rattle.bus_strings.specs.Messages.{Entry}
use Rattle.bus_medium.specs.Lawful.{IsLawful}
use Rattle.bus_medium.specs.Buses.{Seat, Bus, station_of, stations, StandsAt}
use Rattle.bus_medium.specs.inside.Runs.{IsTheList}

module _ {C T E : Type 0} (core : Ghosts C) (r : Result T E) (items : T → List Entry) (horizon quiet : ℕ) (held xs ys zs : List (Seat C)) (bus : Bus C)
    (view : ◌≡◌ {A = Bus C} (record { quiet = quiet; seats = held }) bus) (seats : xs ≡ held) (become : ys ≡ zs)
    (so : IfOk r (λ l. IsTheList core quiet horizon xs ys (items l))) where
  pub observed_lawful : IfOk r (λ l. IsLawful bus.quiet (stations bus) horizon (items l))
  observed_lawful =
      subst (λ (b : Bus C). IfOk r (λ l. IsLawful b.quiet (stations b) horizon (items l))) view
      (subst (λ (ss : List (Seat C)). IfOk r (λ l. IsLawful quiet (map station_of ss) horizon (items l))) seats
      (IfOk-weaker r (λ l. IsTheList core quiet horizon xs ys (items l)) (λ l. IsLawful quiet (map station_of xs) horizon (items l)) (λ l p. p.lawful) so))

  pub observed_only : IfOk r (λ l. (other : List Entry) → IsLawful bus.quiet (stations bus) horizon other → other ≡ items l)
  observed_only =
      subst (λ (b : Bus C). IfOk r (λ l. (other : List Entry) → IsLawful b.quiet (stations b) horizon other → other ≡ items l)) view
      (subst (λ (ss : List (Seat C)). IfOk r (λ l. (other : List Entry) → IsLawful quiet (map station_of ss) horizon other → other ≡ items l)) seats
      (IfOk-weaker r (λ l. IsTheList core quiet horizon xs ys (items l))
      (λ l. (other : List Entry) → IsLawful quiet (map station_of xs) horizon other → other ≡ items l) (λ l p. p.only) so))

  pub observed_stands : IfOk r (λ l. StandsAt core (record { quiet = quiet; seats = zs }) (items l) horizon)
  observed_stands =
      subst (λ (ss : List (Seat C)). IfOk r (λ l. StandsAt core (record { quiet = quiet; seats = ss }) (items l) horizon)) become
      (IfOk-weaker r (λ l. IsTheList core quiet horizon xs ys (items l)) (λ l. StandsAt core (record { quiet = quiet; seats = ys }) (items l) horizon)
      (λ l p. p.stands) so)

  pub observed_stations : OnOk r (map station_of zs ≡ stations bus)
  observed_stations =
      subst (λ (b : Bus C). OnOk r (map station_of zs ≡ stations b)) view
      (subst (λ (ss : List (Seat C)). OnOk r (map station_of zs ≡ map station_of ss)) seats
      (subst (λ (ss : List (Seat C)). OnOk r (map station_of ss ≡ map station_of xs)) become
      (IfOk-weaker r (λ l. IsTheList core quiet horizon xs ys (items l)) (λ _. map station_of ys ≡ map station_of xs) (λ l p. p.keeps) so)))
