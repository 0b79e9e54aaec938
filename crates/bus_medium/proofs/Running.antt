-- A run of the bus, from its settled start to the horizon.
use Rattle.std.proofs.Common.{◌≡◌, ℕ, ◌+◌, ◌-◌, ◌^◌, ◌<◌, ◌≤◌, List, [], map, None, arith, refl, ◌∙◌, subst}
use Rattle.bus_timers.specs.declared.cores.Core.{Ghosts}
use Rattle.bus_strings.proofs.MemberLaws.{at_in, in_at}
use Rattle.bus_strings.specs.Messages.{Entry}
use Rattle.bus_medium.specs.Past.{past, own}
use Rattle.bus_medium.specs.Lawful.{HaveOwnNumbers, IsLawfulTo, IsLawful}
use Rattle.bus_medium.specs.Buses.{Seat, station_of, number_of, SeatStands, StandsAt}
use Rattle.bus_medium.specs.inside.Following.{FollowsAt}
use Rattle.bus_medium.specs.inside.Runs.{Reached}
use Rattle.bus_medium.proofs.Steps.{lawful_none, lawful_whole}
use Rattle.bus_medium.proofs.Steps.{lawful_once}
use Rattle.bus_medium.proofs.Following.{running_is}

-- at the settled start
pub reached_none : {C : Type 0} (core : Ghosts C) (quiet : ℕ) (xs : List (Seat C)) → StandsAt core (record { quiet = quiet; seats = xs }) [] 0 → Reached core quiet 0 xs xs []
reached_none core quiet xs s = record {
  stations = refl;
  to = record {
    lawful = lawful_none quiet (map station_of xs);
    follow = λ j x at. let w = s x (at_in xs j x at) in
        record { sound = w.sound; core = w.stands; count = w.sent; idle = λ e y i. absurd i; running = λ d e. absurd (let none : x.terminal.running ≡ None = w.running in cc) };
    room = λ j x at. let w = s x (at_in xs j x at) in let k : 2 ^ 62 ≤ core.room x.terminal.core + 0 = w.room in omega arith;
  };
}

pub reached_more : {C : Type 0} (core : Ghosts C) (quiet t u : ℕ) (xs ys zs : List (Seat C)) (l m : List Entry) → Reached core quiet t xs ys l → Reached core quiet u ys zs m → Reached core quiet u xs zs m
reached_more core quiet t u xs ys zs l m so next = record { stations = next.stations ∙ so.stations; to = next.to }

-- at the horizon
pub reached_lawful : {C : Type 0} (core : Ghosts C) (quiet t horizon : ℕ) (xs ys : List (Seat C)) (l : List Entry) → Reached core quiet t xs ys l → t ≡ horizon → IsLawful quiet (map station_of xs) horizon l
reached_lawful core quiet t horizon xs ys l so e =
    lawful_whole quiet (map station_of xs) horizon l (subst (λ u. IsLawfulTo quiet (map station_of xs) u 0 l) e (subst (λ ss. IsLawfulTo quiet ss t 0 l) so.stations so.to.lawful))

pub reached_only : {C : Type 0} (core : Ghosts C) (quiet t horizon : ℕ) (xs ys : List (Seat C)) (l : List Entry) → HaveOwnNumbers (map station_of xs) → Reached core quiet t xs ys l → t ≡ horizon
    → (other : List Entry) → IsLawful quiet (map station_of xs) horizon other → other ≡ l
reached_only core quiet t horizon xs ys l own_n so e other law = lawful_once quiet (map station_of xs) horizon other l own_n law (reached_lawful core quiet t horizon xs ys l so e)

pub reached_stands : {C : Type 0} (core : Ghosts C) (quiet t horizon : ℕ) (xs ys : List (Seat C)) (l : List Entry) → Reached core quiet t xs ys l → t ≡ horizon → horizon < 2 ^ 62 → StandsAt core (record { quiet = quiet; seats = ys }) l horizon
reached_stands core quiet t horizon xs ys l so e small = λ y there.
    let p = in_at ys y there in
    let f : FollowsAt core quiet y l t t = so.to.follow p.0 y p.1 in
    let r : 2 ^ 62 - t ≤ core.room y.terminal.core = so.to.room p.0 y p.1 in
    subst (λ u. SeatStands core quiet y l u) e (record {
      sound = f.sound;
      stands = f.core;
      room = omega arith;
      sent = f.count;
      running = running_is quiet y.timing y.terminal.hand y.terminal.sent y.terminal.running (past quiet l t) (own l (number_of y) t) t f;
    })
