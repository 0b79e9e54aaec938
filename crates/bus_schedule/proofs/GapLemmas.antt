-- The gaps of a periodic table in turn order, and what the messages that are sent leave of them.
use Rattle.std.proofs.Common.{◌≡◌, ℕ, ◌+◌, ◌≤◌, List, [], ◌∷◌, inl, inr, arith, refl, ap}
use Rattle.bus_strings.specs.Members.{In}
use Rattle.bus_table.specs.Tables.{Sender}
use Rattle.bus_regime.specs.Gaps.{Gap, latest_end, last_end, gaps_from}

-- where each gap has at least n bit times, an offset stands so far behind the end before it all
pub behind_ends : (ti from n : ℕ) (order : List Sender) (b : Sender) → ((g : Gap) → In g (gaps_from ti from order) → g.from + n ≤ g.to)
    → In b order → from + n ≤ ti + b.at
behind_ends ti from n [] b h i = absurd i
behind_ends ti from n (a ∷ order) b h (inl same) =
    let k : from + n ≤ ti + a.at = h (record { sender = a; from = from; to = ti + a.at }) (inl refl) in
    let e : b.at ≡ a.at = ap (λ (c : Sender). c.at) same in omega arith
behind_ends ti from n (a ∷ order) b h (inr i) =
    let k : from + n ≤ ti + a.at = h (record { sender = a; from = from; to = ti + a.at }) (inl refl) in
    let l : ti + latest_end a + n ≤ ti + b.at = behind_ends ti (ti + latest_end a) n order b (λ g j. h g (inr j)) i in
    omega arith

-- the end from which the first gap of the next round counts
abbrev pub final : ℕ → ℕ → List Sender → ℕ
final ti from [] = from
final ti from (a ∷ order) = final ti (ti + latest_end a) order

pub final_end : (ti p : ℕ) (order : List Sender) → final ti (ti + p) order ≡ ti + last_end p order
final_end ti p [] = refl
final_end ti p (a ∷ order) = final_end ti (latest_end a) order

pub final_last : (ti from : ℕ) (order : List Sender) (b : Sender) → In b order → final ti from order ≡ ti + last_end 0 order
final_last ti from [] b i = absurd i
final_last ti from (a ∷ order) b i = final_end ti (latest_end a) order

-- The message before has ended at e, no later than the gap tells of its longest; this sender starts at its offset in the interval that
-- begins at base: at least so many bit times behind e as the gap has.
pub gap_left : (ti from base e at n : ℕ) → e + ti ≤ from + base → from + n ≤ ti + at → e + n ≤ base + at
gap_left ti from base e at n ends wide = omega arith

-- no end is behind the last
pub final_low : (ti from : ℕ) (order : List Sender) → ((g : Gap) → In g (gaps_from ti from order) → g.from ≤ g.to) → from ≤ final ti from order
final_low ti from [] h = omega arith
final_low ti from (a ∷ order) h =
    let k : from ≤ ti + a.at = h (record { sender = a; from = from; to = ti + a.at }) (inl refl) in
    let l : ti + latest_end a ≤ final ti (ti + latest_end a) order = final_low ti (ti + latest_end a) order (λ g j. h g (inr j)) in
    omega arith
