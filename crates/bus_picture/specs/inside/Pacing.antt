-- What a walk keeps that finds how far the starts of a terminal lie apart.
use Rattle.std.specs.Prelude.{ℕ, ◌-◌, max, min, Option, Some, None, unwrap_or, if◌then◌else◌}
use Rattle.bus_strings.specs.Messages.{Entry}
use Rattle.bus_pen.specs.declared.scale.Scale.{Scale}
pub use Rattle.bus_picture.specs.declared.pace.Pacing.{Pacing}
use Rattle.bus_picture.specs.Paces.{Pace, starts}

-- The pace with one time more.
abbrev pub widened : Option Pace → ℕ → Pace
widened pace t = record {
  least = min (unwrap_or pace (record { least = t; greatest = t })).least t;
  greatest = max (unwrap_or pace (record { least = t; greatest = t })).greatest t;
}

-- The same where a start is the next behind the last one.
abbrev pub pace_behind : Option Pace → Option ℕ → ℕ → Option Pace
pace_behind pace None moment = pace
pace_behind pace (Some before) moment = Some (widened pace (moment - before))

-- What is kept with one start more.
abbrev pub with_start : Pacing → ℕ → Pacing
with_start pacing moment = record { last = Some moment; pace = pace_behind pacing.pace pacing.last moment }

-- What is kept with one transmission more.
abbrev pub paced : Scale → ℕ → Pacing → Entry → Pacing
paced scale terminal pacing x = if starts scale terminal x then with_start pacing x.moment else pacing

-- What is kept before the first.
abbrev pub unpaced : Pacing
unpaced = record { last = None; pace = None }
