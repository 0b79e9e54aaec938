-- So the order of an accepted table on a cable that it bears is a case of that of all clocks.
use Rattle.std.proofs.Common.{◌≡◌, ℕ, ◌<◌, ◌≤◌, true, length, Some, inl, inr, arith, sym, refl, ap, ◌∙◌}
use Rattle.std.specs.Prelude.{◌==◌}
use Rattle.std.specs.List.{list_all}
use Rattle.std.proofs.lemmas.Bool.{and_parts, cases_eq}
use Rattle.bus_table.specs.Hands.{are_hands}
use Rattle.bus_table.proofs.TurnLaws.{numbers_differ, order_length}
use Rattle.bus_table.proofs.ValidLaws.{valid_facts}
use Rattle.bus_medium.specs.Wakes.{AreWakes}
use Rattle.bus_regime.proofs.VerdictLaws.{accepted_cycle}
use Rattle.bus_schedule.specs.Even.{messages_of, rounds}
use Rattle.bus_schedule.proofs.HandLemmas.{own_count}
use Rattle.bus_schedule.proofs.RunLemmas.{dealt}
use Rattle.bus_clocks.specs.Order.{AreEven, ArePoweredWithin}
use Rattle.bus_clocks.proofs.Starts.{real_clocks_keep_order}
use Rattle.bus_exact.specs.Exact.{value_at, delay_among, LawfulIsInOrder}
use Rattle.bus_exact.proofs.Courses.{case_of, is_course, is_cold}
use Rattle.bus_exact.proofs.Rooms.{among_more, among_delays, room_of, has_room, has_cycle}
use Rattle.bus_exact.proofs.Ticks.{Case, order, of_table, bus, course, at}

module _ (s : Case) where
  -- power-ups up to the delay
  powered : (d : ℕ) → s.d ≡ delay_among s.table d → AreWakes d s.table.senders s.wake → ArePoweredWithin (bus s) (course s)
  powered d is wakes k known =
      let long : length (order s) ≡ length s.table.senders = order_length s.table in
      let near : (j : ℕ) → j < length (order s) → value_at (λ b. s.wake b.number) (order s) j ≤ d = λ j less.
      (let p = at s j less in
      let e : value_at (λ b. s.wake b.number) (order s) j ≡ s.wake p.0.number = p.1.has (λ b. s.wake b.number) in
      let w : s.wake p.0.number ≤ d = wakes p.0 (of_table s p.0 p.1.there) in
      omega arith) in
      elim (cases_eq (length s.table.senders) 1) [
        | inl one ↦
            let zero_is : k ≡ 0 = omega arith in
            let same : value_at (λ b. s.wake b.number) (order s) k ≡ value_at (λ b. s.wake b.number) (order s) 0 = ap (value_at (λ b. s.wake b.number) (order s)) zero_is in
            (omega arith, omega arith)
        | inr more ↦
            let spread : s.d ≡ d = is ∙ among_more s.table d more in
            let a : value_at (λ b. s.wake b.number) (order s) 0 ≤ d = near 0 (omega arith) in
            let b : value_at (λ b. s.wake b.number) (order s) k ≤ d = near k known in
            (omega arith, omega arith)
      ]

  -- as many messages each
  as_many : are_hands s.table.senders s.hands ≡ true → list_all (λ hand. length hand.messages == rounds s.hands) s.hands ≡ true → AreEven (bus s) (course s)
  as_many given counts k known =
      let count : (j : ℕ) → j < length (order s) → value_at (λ b. length (messages_of s.hands b.number)) (order s) j ≡ rounds s.hands = λ j less.
      (let p = at s j less in
      p.1.has (λ b. length (messages_of s.hands b.number))
      ∙ own_count (rounds s.hands) s.table.senders s.hands given counts (numbers_differ s.table s.facts) p.0 (of_table s p.0 p.1.there)) in
      ap Some (count k known ∙ sym (count 0 (omega arith)))

pub lawful_is_in_order : LawfulIsInOrder
lawful_is_in_order table hands delay wake d horizon list valid mode accepted even delays wakes bearing law =
    let s : Case = case_of table hands delay wake (delay_among table d) horizon list valid mode (dealt table hands even) (among_delays table d delay delays) law in
    let parts = and_parts (are_hands table.senders hands) (list_all (λ hand. length hand.messages == rounds hands) hands) even in
    real_clocks_keep_order (bus s) (course s) (has_room s (room_of table d (valid_facts table valid) mode bearing)) (inr (has_cycle s (accepted_cycle table mode accepted))) (is_course s) (is_cold s)
    (powered s d refl wakes) (as_many s parts.0 parts.1)
