-- What the laws of order promise.
use Rattle.std.proofs.Common.{◌≡◌, ℕ, ◌+◌, ◌<◌, ◌≤◌, List, ◌++◌, inl, inr, sym, subst}
use Rattle.std.proofs.lemmas.Bool.{cases_eq}
use Rattle.bus_clocks.specs.Buses.{Bus, among}
use Rattle.bus_clocks.specs.Entries.{AreClear, Entry, In, IsAscending, end_of}
use Rattle.bus_clocks.specs.Courses.{Course, HaveLeft, IsCourse, IsLeftAlone}
use Rattle.bus_clocks.specs.Room.{LeavesRoom, StartsItself}
use Rattle.bus_clocks.specs.Rounds.{AreSpaced, InRounds, least_round, most_round, most_spoken}
use Rattle.bus_clocks.specs.Settling.{AnyStartSettles}
use Rattle.bus_clocks.proofs.Alone.{among_more, among_one, as_first, clear_alone, course_alone, left_alone, room_alone, rounds_alone, spaced_alone}
use Rattle.bus_clocks.proofs.Lists.{in_right, ascending_right}
use Rattle.bus_clocks.proofs.Worlds.{World}
use Rattle.bus_clocks.proofs.Spacing.{spaced}
use Rattle.bus_clocks.proofs.Calming.{Calm, calm}

-- the world of such a course
abbrev left_world : (bus : Bus) (c : Course) (up : ℕ) → LeavesRoom bus → (bus.senders ≡ 1 → bus.delay ≡ 0) → IsCourse bus c → IsLeftAlone bus c up → World
left_world bus c up room lone ok alone = record {
  bus = bus;
  c = c;
  up = up;
  room = room;
  lone = lone;
  ok = ok;
  still = alone.still;
  due = λ k known. inl (alone.due k known);
}

-- where no sender hears itself later, it settles
record Settles (bus : Bus) (c : Course) (up sg : ℕ) : Type 0 where
  m : ℕ
  before : List Entry
  ys : List Entry
  parts : c.list ≡ before ++ ys
  ended : (x : Entry) → In x before → end_of x ≤ m
  soon : m + bus.delay ≤ up + sg + most_spoken bus
  once : (x y : Entry) → In x before → In y before → x.sender ≡ y.sender → up ≤ x.moment → x.moment < y.moment → ⊥
  later : (x : Entry) → In x ys → m + bus.delay ≤ x.moment
  order : InRounds bus c 0 m ys
  clear : AreClear bus.delay ys
  spacing : AreSpaced (least_round bus) (most_round bus) c ys

settles : (bus : Bus) (c : Course) (up sg : ℕ) → LeavesRoom bus → (bus.senders ≡ 1 → bus.delay ≡ 0) → StartsItself bus → IsCourse bus c → HaveLeft bus c
    → IsLeftAlone bus c up → ((k : ℕ) → k < bus.senders → bus.sg_long k ≤ sg) → Settles bus c up sg
settles bus c up sg room lone itself ok have alone greatest =
    let w : World = left_world bus c up room lone ok alone in
    let s : Calm w alone.powered itself have sg greatest = calm w alone.powered itself have sg greatest in
    record {
      m = s.m;
      before = s.before;
      ys = s.ys;
      parts = s.parts;
      ended = s.ended;
      soon = s.soon;
      once = s.once;
      later = s.later;
      order = s.order;
      clear = s.clear;
      spacing = spaced bus c s.ys s.m 0 room.some s.order (λ x j. let l = ok.sent x (subst (In x) (sym s.parts) (in_right s.before s.ys x j)) in (l.2, l.3));
    }

pub any_start_settles : AnyStartSettles
any_start_settles bus c up sg room itself ok have alone greatest = elim (cases_eq bus.senders 1) [
  | inr more ↦
      let s : Settles bus c up sg = settles bus c up sg room (λ one. absurd (more one)) itself ok have alone greatest in
      let e : among bus ≡ bus = among_more bus more in (
        s.m,
        subst (λ (b : Bus). s.m + b.delay ≤ up + sg + most_spoken b) (sym e) s.soon,
        record {
          before = s.before;
          rounds = s.ys;
          parts = s.parts;
          ended = s.ended;
          later = s.later;
          order = subst (λ (b : Bus). InRounds b c 0 s.m s.ys) (sym e) s.order;
          clear = s.clear;
          spaced = subst (λ (b : Bus). AreSpaced (least_round b) (most_round b) c s.ys) (sym e) s.spacing;
          once = s.once;
        },
      )
  | inl one ↦
      let s : Settles (among bus) (as_first c) up sg =
      settles (among bus) (as_first c) up sg (room_alone bus one room) (λ _. among_one bus one) itself (course_alone bus one c ok) have (left_alone bus one c up alone) greatest in
      let order : InRounds (among bus) c 0 s.m s.ys = rounds_alone bus one c 0 s.m s.ys s.order in
      let ascending = ascending_right s.before s.ys (subst IsAscending s.parts ok.ordered) in
      let r = clear_alone bus one c s.m s.ys (room.alone one) ascending order in (
        s.m,
        s.soon,
        record {
          before = s.before;
          rounds = s.ys;
          parts = s.parts;
          ended = s.ended;
          later = r.0;
          order = order;
          clear = r.1;
          spaced = spaced_alone bus one c (least_round (among bus)) (most_round (among bus)) s.ys s.spacing;
          once = s.once;
        },
      )
]
