-- Transmissions on a bus whose clocks aren't exact. What a message says is no matter here.
use Rattle.std.specs.Prelude.{◌≡◌, ℕ, ◌+◌, ◌<◌, ◌≤◌, ◌⊎◌, ◌&&◌, ◌==◌, nat_lt, List, [], ◌∷◌, filter}

-- A transmission: when it begins, whose it is, and how long it lasts.
pub record Entry : Type 0 where
  pub moment : ℕ
  pub sender : ℕ
  pub length : ℕ

-- The moment at which it has ended.
abbrev pub end_of : Entry → ℕ
end_of x = x.moment + x.length

-- This is one of these transmissions.
abbrev pub In : Entry → List Entry → Type 0
In x [] = ⊥
In x (y ∷ ys) = (x ≡ y) ⊎ In x ys

-- Those of sender k that begin before moment t.
abbrev pub own : List Entry → ℕ → ℕ → List Entry
own list k t = filter (λ x. x.sender == k && nat_lt x.moment t) list

-- A transmission may stand before another: by moment; those of one sender begin at different moments.
abbrev pub IsBefore : Entry → Entry → Type 0
IsBefore x y = (x.moment < y.moment) ⊎ ((x.moment ≡ y.moment) × (x.sender ≡ y.sender → ⊥))

-- Each stands before those behind it.
abbrev pub IsAscending : List Entry → Type 0
IsAscending [] = Unit {0}
IsAscending (x ∷ xs) = ((y : Entry) → In y xs → IsBefore x y) × IsAscending xs

-- Of these transmissions each begins the delay behind the end of each before it, or later: so no terminal hears two of them at once.
abbrev pub AreClear : ℕ → List Entry → Type 0
AreClear delay [] = Unit {0}
AreClear delay (x ∷ list) = ((y : Entry) → In y list → end_of x + delay ≤ y.moment) × AreClear delay list
