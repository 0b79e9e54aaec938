-- The bit times that the gaps of an interval have beyond the terminal gaps.
use Rattle.std.specs.Prelude.{◌≡◌, ◌≢◌, ℕ, ◌+◌, ◌-◌, ◌≤◌, List, [], ◌∷◌}
use Rattle.std.specs.List.{sum_by}
use Rattle.std.proofs.Common.{inl, inr, arith, sym, refl, ap, ◌∙◌}
use Rattle.std.proofs.lemmas.List.Sums.{sum_by-cons}
use Rattle.bus_strings.specs.Members.{In}
use Rattle.bus_table.specs.Tables.{Sender}
use Rattle.bus_plan.specs.Plans.{turn_time}
use Rattle.bus_regime.specs.Gaps.{Gap, latest_end, last_end, gaps_from}

-- what a gap has beyond its sender's terminal gap
abbrev pub excess : Gap → ℕ
excess gap = gap.to - (gap.from + gap.sender.tg)

abbrev pub slack : List Gap → ℕ
slack [] = 0
slack (gap ∷ gaps) = excess gap + slack gaps

-- the moment at which the last of these senders ends, one interval later, or `from`
abbrev pub ends_at : ℕ → ℕ → List Sender → ℕ
ends_at ti from [] = from
ends_at ti from (s ∷ ss) = ends_at ti (ti + latest_end s) ss

pub ends_later : (ti end : ℕ) (ss : List Sender) → ends_at ti (ti + end) ss ≡ ti + last_end end ss
ends_later ti end [] = refl
ends_later ti end (s ∷ ss) = ends_later ti (latest_end s) ss

-- each of these gaps is at least its terminal gap
abbrev pub AreWide : List Gap → Type 0
AreWide gaps = (gap : Gap) → In gap gaps → gap.from + gap.sender.tg ≤ gap.to

-- terminal gaps, messages and slack fill the time
pub filled : (ti from : ℕ) (ss : List Sender) → AreWide (gaps_from ti from ss)
    → from + sum_by turn_time ss + slack (gaps_from ti from ss) ≡ ends_at ti from ss
filled ti from [] wide = omega arith
filled ti from (s ∷ ss) wide =
    let one : from + s.tg ≤ ti + s.at = wide (record { sender = s; from = from; to = ti + s.at }) (inl refl) in
    let rest = filled ti (ti + latest_end s) ss (λ gap i. wide gap (inr i)) in
    let sum = sum_by-cons turn_time s ss in
    omega (arith, one, rest, sum)

-- the slack is no less than the excess of one gap, or of two
pub one_excess : (gaps : List Gap) (g : Gap) → In g gaps → excess g ≤ slack gaps
one_excess [] g i = absurd i
one_excess (h ∷ gaps) g (inl e) = let k : excess g ≡ excess h = ap excess e in omega (arith, k)
one_excess (h ∷ gaps) g (inr i) = let k = one_excess gaps g i in omega (arith, k)

pub two_excess : (gaps : List Gap) (g h : Gap) → In g gaps → In h gaps → g.sender.number ≢ h.sender.number
    → excess g + excess h ≤ slack gaps
two_excess [] g h i j apart = absurd i
two_excess (k ∷ gaps) g h (inl e) (inl f) apart = absurd (apart (ap (λ (x : Gap). x.sender.number) (e ∙ sym f)))
two_excess (k ∷ gaps) g h (inl e) (inr j) apart =
    let p : excess g ≡ excess k = ap excess e in let q = one_excess gaps h j in omega (arith, p, q)
two_excess (k ∷ gaps) g h (inr i) (inl f) apart =
    let p : excess h ≡ excess k = ap excess f in let q = one_excess gaps g i in omega (arith, p, q)
two_excess (k ∷ gaps) g h (inr i) (inr j) apart = let p = two_excess gaps g h i j apart in omega (arith, p)
