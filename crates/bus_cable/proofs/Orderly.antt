-- On a cable that an accepted table bears the closed schedule is the run, and nothing is garbled.
use Rattle.std.proofs.Common.{arith, ◌≡◌, inl, inr, ℕ, ◌<◌, ◌≤◌, ◌⊎◌, cond, List, length, refl, sym, ap, subst, eqb-true}
use Rattle.std.specs.Prelude.{IsTrue, ◌==◌}
use Rattle.std.proofs.lemmas.Bool.{cases_Bool}
use Rattle.bus_strings.specs.Marking.{greatest_end}
use Rattle.bus_strings.specs.Members.{In}
use Rattle.bus_strings.proofs.MemberLaws.{from_map}
use Rattle.bus_strings.specs.Messages.{Entry}
use Rattle.bus_table.specs.Tables.{Sender, Table, Hand, sender_numbers}
use Rattle.bus_table.specs.Valid.{is_valid}
use Rattle.bus_medium.specs.CableLawful.{IsLawfulOnCable}
use Rattle.bus_medium.specs.CableLaws.{OneCableList}
use Rattle.bus_medium.specs.Delays.{AreDelays, HearsWithin, cable, distance}
use Rattle.bus_medium.specs.Timings.{quiet_of, stations_of}
use Rattle.bus_medium.specs.Wakes.{Wakes, settled}
use Rattle.bus_medium.proofs.StationLaws.{stations_have_own_numbers}
use Rattle.bus_schedule.specs.CableRuns.{IsRunOnCable, clear_within}
use Rattle.bus_schedule.specs.Closed.{closed, closed_end}
use Rattle.bus_schedule.specs.Even.{are_even}
use Rattle.bus_schedule.specs.Runs.{IsInTurns}
use Rattle.bus_schedule.proofs.RunLemmas.{dealt}
use Rattle.bus_reach.specs.Bearing.{bears}
use Rattle.bus_reach.specs.Laws.{BorneIsClosed}
use Rattle.bus_reach.specs.PeriodicLaws.{PeriodicBorneIsClosed}
use Rattle.bus_reach.specs.Runs.{IsCableRun}
use Rattle.bus_reach.specs.Schedule.{cable_closed}
use Rattle.bus_cable.specs.HearingLaws.{ClearIsUngarbled}
use Rattle.bus_cable.specs.HeardTexts.{terminals}
use Rattle.bus_cable.specs.Layouts.{AreNear}
use Rattle.bus_propagation.specs.Lists.{IsListOnCable}
use Rattle.bus_cable.specs.OrderLaws.{BorneIsOrderly, PeriodicBorneIsOrderly}
use Rattle.bus_cable.proofs.Spent.{spent_hands_are_silent}
use Rattle.bus_cable.proofs.Strangers.{lawful_alike, to_terminal}

-- who is near the senders hears them soon
near_hears : (most : ℕ) (table : Table) (place : ℕ → ℕ) → AreNear most table place → (number : ℕ) → In number (terminals table)
    → HearsWithin most (sender_numbers table) (cable place) number
near_hears most table place near number there x from =
    let sender = from_map (λ (s : Sender). s.number) table.senders x.terminal from in
    subst (λ n. distance (place n) (place number) ≤ most) sender.2 (near sender.0 number sender.1 there)

near_are_delays : (most : ℕ) (table : Table) (place : ℕ → ℕ) → AreNear most table place → AreDelays most (sender_numbers table) (cable place)
near_are_delays most table place near = record {
  own = λ x. omega arith;
  within = λ number i. near_hears most table place near number (to_terminal table number i);
}

-- and soon enough to hear nothing garbled
near_clears : (most : ℕ) (table : Table) (place : ℕ → ℕ) → AreNear most table place → (1 < length table.senders) ⊎ AreNear table.sg table place → (number : ℕ)
    → In number (terminals table) → HearsWithin (clear_within table most) (sender_numbers table) (cable place) number
near_clears most table place near either number there = elim (cases_Bool (length table.senders == 1)) [
  | inl one ↦ elim either [
    | inl several ↦ absurd (let k : length table.senders ≡ 1 = eqb-true (length table.senders) 1 one in omega arith)
    | inr short ↦ subst (λ k. HearsWithin k (sender_numbers table) (cable place) number) (sym (ap (λ b. cond b table.sg most) one))
        (near_hears table.sg table place short number there)
  ]
  | inr several ↦ subst (λ k. HearsWithin k (sender_numbers table) (cable place) number) (sym (ap (λ b. cond b table.sg most) several))
      (near_hears most table place near number there)
]

-- what is lawful up to its end with wakes that agree, in turns, is the one lawful list up to each horizon behind it
module _ (once : OneCableList) (table : Table) (hands : List Hand) (valid : IsTrue (is_valid table)) (even : IsTrue (are_even table hands))
    (place : ℕ → ℕ) (wake other_wake : Wakes) (wakes : (sender : Sender) → In sender table.senders → other_wake sender.number ≡ wake sender.number)
    (until horizon : ℕ) (behind : until ≤ horizon) (list : List Entry)
    (lawful : IsLawfulOnCable (quiet_of table) (cable place) other_wake (stations_of table hands) until list) (turns : IsInTurns table hands list) where
  lawful_on : IsListOnCable table hands place wake horizon list
  lawful_on = spent_hands_are_silent table hands (cable place) wake until horizon list valid even
      (lawful_alike table hands (cable place) (cable place) other_wake wake until list valid (dealt table hands even) (λ x number i j. refl) wakes lawful) turns behind

  only_on : (other : List Entry) → IsListOnCable table hands place wake horizon other → other ≡ list
  only_on other is = once (quiet_of table) (cable place) wake (stations_of table hands) horizon other list
      (stations_have_own_numbers table hands valid (dealt table hands even)) is lawful_on

pub borne_is_orderly : OneCableList → BorneIsClosed → ClearIsUngarbled → BorneIsOrderly
borne_is_orderly once borne_closed clear table hands most place wake horizon valid mode accepted even borne near wakes behind =
    let list : List Entry = cable_closed (cable place) wake table hands in
    let run : IsCableRun table hands most (cable place) wake (cable_closed (cable place) wake table hands) =
    borne_closed table hands most (cable place) wake valid mode accepted even (near_are_delays most table place near) wakes borne in
    record {
      lawful = lawful_on once table hands valid even place wake wake (λ s i. refl) (greatest_end list) horizon behind list run.lawful run.turns;
      only = only_on once table hands valid even place wake wake (λ s i. refl) (greatest_end list) horizon behind list run.lawful run.turns;
      clear = λ either number there. clear (cable place) list number (run.clear number (near_clears most table place near either number there));
    }

pub periodic_borne_is_orderly : OneCableList → PeriodicBorneIsClosed → ClearIsUngarbled → PeriodicBorneIsOrderly
periodic_borne_is_orderly once borne_closed clear table hands most place wake horizon valid mode accepted even borne near wakes behind =
    let run : IsRunOnCable table hands most (cable place) (closed table hands) =
    borne_closed table hands most (cable place) valid mode accepted even (near_are_delays most table place near) borne in
    let woken : (sender : Sender) → In sender table.senders → settled sender.number ≡ wake sender.number = λ s i. let w : wake s.number ≤ 0 = wakes s i in omega (arith, w) in
    record {
      lawful = lawful_on once table hands valid even place wake settled woken (closed_end table hands) horizon behind (closed table hands) run.lawful run.turns;
      only = only_on once table hands valid even place wake settled woken (closed_end table hands) horizon behind (closed table hands) run.lawful run.turns;
      clear = λ either number there. clear (cable place) (closed table hands) number (run.clear number (near_clears most table place near either number there));
    }
