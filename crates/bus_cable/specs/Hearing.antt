-- What a terminal on a cable hears of a list: each transmission later than it is sent, by its delay to that terminal; in the order in which
-- the terminal hears them begin; and whether another garbles it there.
use Rattle.std.specs.Prelude.{ℕ, Bool, not, ◌&&◌, ◌||◌, ◌==◌, nat_lt, List, [], ◌∷◌, if◌then◌else◌}
use Rattle.std.specs.List.{filter, zip}
use Rattle.bus_strings.specs.Messages.{Entry}
use Rattle.bus_strings.specs.Transmissions.{marks}
use Rattle.bus_medium.specs.Delays.{Delays, heard}

-- Whether the first is heard before the second: by moment, and at the same moment by terminal.
abbrev pub is_before : Entry → Entry → Bool
is_before x y = nat_lt x.moment y.moment || (x.moment == y.moment && nat_lt x.terminal y.terminal)

-- A transmission put in among some that are in order: behind those that are heard before it.
abbrev pub put_in : Entry → List Entry → List Entry
put_in x [] = x ∷ []
put_in x (y ∷ ys) = if is_before y x then y ∷ put_in x ys else x ∷ y ∷ ys

-- Transmissions in the order in which they are heard.
abbrev pub in_order : List Entry → List Entry
in_order [] = []
in_order (x ∷ xs) = put_in x (in_order xs)

-- What the terminal with this number hears, its own transmissions too, in order.
unfoldable pub hearing : Delays → List Entry → ℕ → List Entry
hearing delay list number = in_order (heard delay number list)

-- Whether a transmission is another's than this terminal's.
abbrev pub is_of_another : ℕ → Entry × Bool → Bool
is_of_another number marked = not (marked.0.terminal == number)

-- What the terminal hears of others, in order, each with whether another transmission garbles it there, the terminal's own among these.
abbrev pub hearings : Delays → List Entry → ℕ → List (Entry × Bool)
hearings delay list number = filter (is_of_another number) (zip (hearing delay list number) (marks (hearing delay list number)))
