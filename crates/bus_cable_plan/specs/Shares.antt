-- What a share of what is left over is good for.
use Rattle.std.specs.Prelude.{ℕ, ◌+◌, ◌≡◌, ◌≤◌, Bool, ◌&&◌, List, [], ◌∷◌}
use Rattle.std.specs.List.{list_all}
use Rattle.bus_regime.specs.Gaps.{Gap}
use Rattle.bus_schedule.specs.Slack.{is_wide, all_stay}

-- Each of these gaps is wide enough for delays up to d, and each of their senders stays in sync: this is what it takes to bear d.
abbrev pub gaps_hold : ℕ → ℕ → List Gap → Bool
gaps_hold d sg gaps = list_all (is_wide d) gaps && all_stay d sg [] gaps

-- The first are gaps of the same senders in the same order as the second, each shorter by at most n: messages come later or are longer by
-- so much.
abbrev pub AreShorter : ℕ → List Gap → List Gap → Type 0
AreShorter n [] [] = Unit {0}
AreShorter n [] (g ∷ gaps) = ⊥
AreShorter n (h ∷ shorter) [] = ⊥
AreShorter n (h ∷ shorter) (g ∷ gaps) = (h.sender ≡ g.sender) × (g.to + h.from ≤ h.to + g.from + n) × AreShorter n shorter gaps
