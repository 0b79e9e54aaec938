-- What a terminal hears of quiet and of carrier.
use Rattle.std.proofs.Common.{◌≡◌, ℕ, ◌+◌, ◌<◌, ◌≤◌, Bool, true, false, ◌||◌, List, [], ◌∷◌, inl, inr, arith, sym, refl, ap, ◌∙◌}
use Rattle.std.proofs.lemmas.Bool.{cases_lt, cases_Bool, true≢false}
use Rattle.bus_clocks.specs.Entries.{Entry, In}
use Rattle.bus_clocks.specs.Courses.{Course, IsQuiet, carrier}
use Rattle.bus_clocks.specs.Hearing.{hears_any}

or_true : (a b : Bool) → b ≡ true → (a || b) ≡ true
or_true true b h = refl
or_true false b h = h

or_left : (a b : Bool) → a ≡ true → (a || b) ≡ true
or_left true b h = refl
or_left false b h = absurd (true≢false (sym h))

one_of : (hears : Entry → ℕ → ℕ → Bool) (list : List Entry) (x : Entry) (k t : ℕ) → In x list → hears x k t ≡ true → hears_any hears list k t ≡ true
one_of hears [] x k t i h = absurd i
one_of hears (y ∷ ys) x k t (inl same) h = or_left (hears y k t) (hears_any hears ys k t) (sym (ap (λ w. hears w k t) same) ∙ h)
one_of hears (y ∷ ys) x k t (inr i) h = or_true (hears y k t) (hears_any hears ys k t) (one_of hears ys x k t i h)

-- what is heard is carrier
pub loud : (c : Course) (x : Entry) (k t : ℕ) → In x c.list → c.hears x k t ≡ true → carrier c k t ≡ true
loud c x k t i h = or_true (c.noise k t) (hears_any c.hears c.list k t) (one_of c.hears c.list x k t i h)

pub silent : (c : Course) (x : Entry) (k t : ℕ) → In x c.list → c.hears x k t ≡ true → carrier c k t ≡ false → ⊥
silent c x k t i h quiet = true≢false (sym (loud c x k t i h) ∙ quiet)

pub hush : (c : Course) (k t : ℕ) → (carrier c k t ≡ true → ⊥) → carrier c k t ≡ false
hush c k t none = elim (cases_Bool (carrier c k t)) [ inl yes' ↦ absurd (none yes') | inr no' ↦ no' ]

-- a stretch of quiet that is long, and ends behind the first carrier of a transmission, begins behind its last
pub quiet_behind : (c : Course) (k drop : ℕ) (x : Entry) (first last from to : ℕ) → In x c.list → c.hears x k first ≡ true
    → ((t : ℕ) → first ≤ t → t ≤ last → (u : ℕ) × (t ≤ u) × (u < t + drop) × (c.hears x k u ≡ true)) → from + drop ≤ to → IsQuiet c k from to → first < to → last + 1 ≤ from
quiet_behind c k drop x first last from to i first_heard filled long quiet near =
    elim (cases_lt last from) [
      | inl behind ↦ omega arith
      | inr inside ↦ elim (cases_lt first from) [
        | inl less ↦
            let w = filled from (omega arith) inside in
            let high : w.0 < from + drop = w.2 in
            absurd (silent c x k w.0 i w.3 (quiet w.0 w.1 (omega arith)))
        | inr more ↦ absurd (silent c x k first i first_heard (quiet first more near))
      ]
    ]
