-- Which bit times have carrier, as stretches of them, and how many have.
use Rattle.std.specs.Prelude.{◌≡◌, ℕ, ◌-◌, ◌<◌, Bool, ◌&&◌, nat_le, nat_lt, List, [], ◌∷◌, ⊤}
use Rattle.std.specs.List.{AllByRecursion, count_by, list_any, range_with_len}
use Rattle.bus_strings.specs.Messages.{Entry}
use Rattle.bus_strings.specs.Transmissions.{carrier}
pub use Rattle.bus_load.specs.declared.stretch.Stretch.{Stretch}

-- Whether a stretch has bit time t.
abbrev pub has : ℕ → Stretch → Bool
has t stretch = nat_le stretch.from t && nat_lt t stretch.to

-- Whether some stretch has bit time t.
abbrev pub is_within : List Stretch → ℕ → Bool
is_within stretches t = list_any (has t) stretches

-- Each stretch has a bit time, and ends before any behind it begins: none of them touch.
abbrev pub AreApart : List Stretch → Type 0
AreApart [] = ⊤
AreApart (stretch ∷ stretches) =
    (stretch.from < stretch.to) × AllByRecursion (λ (next : Stretch). stretch.to < next.from) stretches × AreApart stretches

-- The stretches in which a list has carrier, in order, each as long as it can be.
pub record IsCarrierOf (stretches : List Stretch) (list : List Entry) : Type 0 where
  pub apart : AreApart stretches
  pub within : (t : ℕ) → is_within stretches t ≡ carrier list t

-- For how many bit times from `from` up to, and without, `to` a list has carrier.
abbrev pub carrier_bits : List Entry → ℕ → ℕ → ℕ
carrier_bits list from to = count_by (carrier list) (range_with_len from (to - from))
