-- What is observed of the senders of a valid table, with any hands that fit them, has no breach; and what has no breach is observed of
-- hands that fit them, those that its HOLD lines give.
use Rattle.std.proofs.Common.{◌≡◌, ℕ, ◌<◌, cond, List, [], ◌∷◌, length, inl, inr, arith, sym, ap, ◌∙◌, subst, eq-eqb}
use Rattle.std.proofs.lemmas.Bool.{ne_eqb}
use Rattle.bus_strings.specs.Members.{In}
use Rattle.bus_table.specs.Tables.{Hand}
use Rattle.bus_trace.specs.declared.hold.Hold.{Hold}
use Rattle.bus_trace.specs.Traces.{Recording, AscendAbove}
use Rattle.bus_audit.specs.Breaches.{held}
use Rattle.bus_audit.specs.Observed.{StatesHands}

-- ---- for the crates above to cite: HOLD lines that ascend, with one for each hand, state the hands
-- those that ascend above a number are of terminals above it.
above : (least : ℕ) (holds : List Hold) (hold : Hold) → AscendAbove least holds → In hold holds → least < hold.terminal
above least [] hold up i = absurd i
above least (first ∷ holds) hold up (inl same) = subst (λ h. least < h.terminal) (sym same) up.0
above least (first ∷ holds) hold up (inr i) =
    let low : least < first.terminal = up.0 in
    omega (arith, above first.terminal holds hold up.1 i)

-- what a hold says is held
held_is : (least : ℕ) (holds : List Hold) (hold : Hold) → AscendAbove least holds → In hold holds → held holds hold.terminal ≡ hold.count
held_is least [] hold up i = absurd i
held_is least (first ∷ holds) hold up (inl same) =
    ap (λ b. cond b first.count (held holds hold.terminal)) (eq-eqb first.terminal hold.terminal (sym (ap (λ h. h.terminal) same)))
    ∙ sym (ap (λ h. h.count) same)
held_is least (first ∷ holds) hold up (inr i) =
    let more : first.terminal < hold.terminal = above first.terminal holds hold up.1 i in
    ap (λ b. cond b first.count (held holds hold.terminal)) (ne_eqb first.terminal hold.terminal (λ e. omega arith))
    ∙ held_is first.terminal holds hold up.1 i

-- so a trace with a HOLD line for each hand states the hands
pub states_hands : (hands : List Hand) (trace : Recording) → AscendAbove 0 trace.holds
    → ((hand : Hand) → In hand hands → In (record { terminal = hand.terminal; count = length hand.messages }) trace.holds)
    → StatesHands hands trace
states_hands hands trace up each hand i =
    held_is 0 trace.holds (record { terminal = hand.terminal; count = length hand.messages }) up (each hand i)
