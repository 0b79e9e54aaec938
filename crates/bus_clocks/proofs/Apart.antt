-- Clear transmissions are heard apart.
use Rattle.std.proofs.Common.{◌+◌, ◌<◌, ◌≤◌, [], ◌∷◌, inl, inr, arith, refl}
use Rattle.bus_clocks.specs.Apart.{ClearIsHeardApart}
use Rattle.bus_clocks.specs.Entries.{end_of}

pub clear_is_heard_apart : ClearIsHeardApart
clear_is_heard_apart hears delay drop [] heard clear = tt
clear_is_heard_apart hears delay drop (x ∷ list) heard clear = (
  (λ y n t u j first then.
      let high : t < end_of x + delay = ((heard x n (inl refl)).within t first).1 in
      let low : y.moment ≤ u = ((heard y n (inr j)).within u then).0 in
      let apart : end_of x + delay ≤ y.moment = clear.0 y j in
      omega arith),
  clear_is_heard_apart hears delay drop list (λ y n j. heard y n (inr j)) clear.1,
)
