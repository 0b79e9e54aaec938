-- The holds of hands.
use Rattle.std.specs.Prelude.{◌≡◌, ℕ, ◌≤◌, true, false, ◌==◌, List, [], ◌∷◌, Some, IfSome, find}
use Rattle.std.specs.List.{AllByRecursion}
use Rattle.std.specs.Option.{option_map}
use Rattle.std.proofs.Common.{arith, refl, cond}
use Rattle.std.proofs.lemmas.Bool.Decides.{nat_tests}
use Rattle.bus_table.specs.Tables.{Hand}
use Rattle.bus_trace.specs.Traces.{AscendAbove, IsHold}
use Rattle.bus_trace.proofs.HoldLists.{ascend_from, ranged_from}
use Rattle.bus_trace.specs.Limits.{most_count}
use Rattle.bus_command.proofs.FewHands.{AreFew}
use Rattle.bus_hands.specs.Holds.{hand_hold, hand_holds}
use Rattle.bus_hands.specs.Holds.{hold_of_hand}

-- a hold is of its number
numbered : (hands : List Hand) (n : ℕ) → IfSome (hand_hold hands n) (λ hold. hold.terminal ≡ n)
numbered [] n = tt
numbered (hand ∷ hands) n =
    elim (hand.terminal == n) as (λ b. (hand.terminal == n) ≡ b → IfSome (option_map hold_of_hand (cond b (Some hand) (find (λ h. h.terminal == n) hands))) (λ hold. hold.terminal ≡ n)) [
      | true ↦ λ e. grind (arith, nat_tests)
      | false ↦ λ e. numbered hands n
    ] refl

-- and of few messages
counted : (hands : List Hand) (n : ℕ) → AreFew hands → IfSome (hand_hold hands n) (λ hold. hold.count ≤ most_count)
counted [] n few = tt
counted (hand ∷ hands) n few =
    elim (hand.terminal == n) as (λ b. IfSome (option_map hold_of_hand (cond b (Some hand) (find (λ h. h.terminal == n) hands))) (λ hold. hold.count ≤ most_count)) [
      | true ↦ omega (arith, few.0)
      | false ↦ counted hands n few.1
    ]

pub holds_ascend : (hands : List Hand) → AscendAbove 0 (hand_holds hands)
unfolding hand_holds
holds_ascend hands = ascend_from (hand_hold hands) (numbered hands) 128 0

pub holds_ranged : (hands : List Hand) → AreFew hands → AllByRecursion IsHold (hand_holds hands)
unfolding hand_holds
holds_ranged hands few = ranged_from (hand_hold hands) (numbered hands) (λ n. counted hands n few) 128 0 (omega arith)
