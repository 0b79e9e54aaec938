-- Buses for which the laws say something, and what happens on them for as long as one likes.
use Rattle.std.specs.Prelude.{◌≡◌, ℕ, ◌+◌, ◌*◌, nat_eq, cond}
use Rattle.bus_clocks.specs.Buses.{Bus}
use Rattle.bus_clocks.specs.Courses.{Course, IsCourse}
use Rattle.bus_clocks.specs.Order.{AreEven}
use Rattle.bus_drift.specs.Beginning.{Begins}
use Rattle.bus_drift.specs.Leading.{LeavesLead}
use Rattle.bus_drift.specs.Room.{LeavesTurns, NoneOvertaken}

-- Messages of about one length, and clocks of which any may be the slowest.
abbrev pub steady : Bus
steady = record {
  senders = 3;
  delay = 1;
  drop = 2;
  tg_short = λ k. 20 + 4 * k;
  tg_long = λ k. 21 + 4 * k;
  sg_short = λ _. 100;
  sg_long = λ _. 102;
  ti_short = λ _. 1000;
  ti_long = λ _. 1002;
  shortest = λ _. 50;
  longest = λ _. 55;
}

-- Messages of any length, and a clock that leads.
abbrev pub led : Bus
led = record {
  senders = 3;
  delay = 1;
  drop = 2;
  tg_short = λ k. cond (nat_eq k 0) 60 (15 + 5 * k);
  tg_long = λ k. cond (nat_eq k 0) 61 (16 + 5 * k);
  sg_short = λ _. 100;
  sg_long = λ _. 102;
  ti_short = λ k. cond (nat_eq k 0) 1210 1200;
  ti_long = λ k. cond (nat_eq k 0) 1212 1205;
  shortest = λ _. 30;
  longest = λ _. 300;
}

-- When each is due for the first time.
abbrev pub steady_due : ℕ → ℕ
steady_due k = 200 + 100 * k

abbrev pub led_due : ℕ → ℕ
led_due k = 200 + 330 * k

-- And no later than so many ticks behind the first sender.
abbrev pub led_offset : ℕ → ℕ
led_offset k = 330 * k

-- A course up to a horizon, where each is due at this moment.
pub record Goes (bus : Bus) (due : ℕ → ℕ) (horizon : ℕ) : Type 0 where
  pub course : Course
  pub upto : course.horizon ≡ horizon
  pub ok : IsCourse bus course
  pub even : AreEven bus course
  pub begins : Begins bus course 0 due due

-- On either bus there are courses up to any horizon; and the second isn't one where any clock may be the slowest.
pub record ThereAreSuch : Type 0 where
  pub keeps : LeavesTurns steady steady_due steady_due
  pub steadily : (horizon : ℕ) → Goes steady steady_due horizon
  pub leads : LeavesLead led led_due led_due led_offset
  pub orderly : (horizon : ℕ) → Goes led led_due horizon
  pub other : NoneOvertaken led → ⊥
