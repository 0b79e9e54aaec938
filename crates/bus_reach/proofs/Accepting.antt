-- A periodic table of two senders or more that bears a delay of 0 is accepted.
use Rattle.std.proofs.Common.{◌≡◌, ◌≢◌, ℕ, ◌+◌, ◌-◌, ◌<◌, ◌≤◌, ◌⊎◌, true, List, [], ◌∷◌, ◌++◌, length, min, Some, inl, inr, arith, sym, refl, ap, ◌∙◌, subst}
use Rattle.std.specs.Prelude.{◌&&◌, ◌||◌}
use Rattle.std.specs.List.{list_all}
use Rattle.std.proofs.lemmas.Bool.{and_parts, cases_lt, leb-true, lt-leb, ne_eqb}
use Rattle.std.proofs.lemmas.List.{append_assoc}
use Rattle.bus_strings.specs.Members.{In}
use Rattle.bus_strings.proofs.MemberLaws.{in_append_cases, in_append_left, in_append_right, pass_in}
use Rattle.bus_table.specs.Tables.{Sender, Table}
use Rattle.bus_table.specs.inside.Facts.{TableFacts}
use Rattle.bus_table.specs.Turns.{turn_key, turn_order}
use Rattle.bus_table.specs.inside.Orders.{Rises}
use Rattle.bus_table.proofs.TurnLaws.{from_sort, numbers_differ, order_rises}
use Rattle.bus_table.proofs.ValidLaws.{valid_facts}
use Rattle.bus_regime.specs.Gaps.{Gap, last_end, latest_end, gaps}
use Rattle.bus_regime.proofs.VerdictLaws.{gaps_accepted}
use Rattle.bus_regime.proofs.GapLaws.{gap_sender}
use Rattle.bus_schedule.specs.Slack.{slack_behind, is_wide, stays, all_stay}
use Rattle.bus_schedule.proofs.GapSplits.{GapAt, gap_split}
use Rattle.bus_schedule.proofs.Orders.{rises_before, rises_after, same_sender}
use Rattle.bus_schedule.proofs.Slacks.{all_stay_at, enough_room, stays_next, stays_own}
use Rattle.bus_reach.specs.PeriodicLaws.{BearZeroIsAccepted}
use Rattle.bus_reach.proofs.Modes.{in_periodic}

-- a sender that stays in sync without delays finds a synchronization gap in another's gap or in its own
synchronized : (sg number : ℕ) (others : List Gap) (own : Gap) → ((g : Gap) → In g others → g.sender.number ≢ number) → own.sender.number ≡ number
    → stays 0 sg number (Some 0) (others ++ own ∷ []) ≡ true
    → (own.from + (sg + own.sender.tg) ≤ own.to) ⊎ ((g : Gap) × In g others × (g.from + sg ≤ g.to))
synchronized sg number [] own apart mine h = inl (omega (arith, enough_room sg 0 own (stays_own 0 sg number (Some 0) own [] mine h)))
synchronized sg number (g ∷ others) own apart mine h = elim (cases_lt g.to (g.from + sg)) [
  | inl narrow ↦
      let none : slack_behind 0 sg (Some 0) g ≡ Some 0 =
      rw (lt-leb (g.from + (0 + sg)) g.to (omega arith)) (ap Some (let e : min 0 (0 + sg - 1 - (g.to - g.from)) ≡ 0 = omega arith in e)) in
      elim (synchronized sg number others own (λ k i. apart k (inr i)) mine
      (subst (λ s. stays 0 sg number s (others ++ own ∷ []) ≡ true) none (stays_next 0 sg number (Some 0) g (others ++ own ∷ []) (apart g (inl refl)) h))) [
        | inl room ↦ inl room
        | inr other ↦ inr (other.0, inr other.1, other.2)
      ]
  | inr wide ↦ inr (g, inl refl, wide)
]

-- a gap, and those before and behind it
parts_at : (xs : List Gap) (g : Gap) → In g xs → (ahead : List Gap) × (behind : List Gap) × (xs ≡ ahead ++ g ∷ behind)
parts_at [] g i = absurd i
parts_at (x ∷ xs) g (inl same) = ([], xs, ap (λ y. y ∷ xs) (sym same))
parts_at (x ∷ xs) g (inr i) = let so = parts_at xs g i in (x ∷ so.0, so.1, ap (λ ys. x ∷ ys) so.2)

-- the gaps before and behind that of a sender are those of others
others_differ : (table : Table) (facts : TableFacts table) (ahead : List Gap) (own : Gap) (behind : List Gap) → gaps table ≡ ahead ++ own ∷ behind
    → (g : Gap) → In g (behind ++ ahead) → g.sender.number ≢ own.sender.number
others_differ table facts ahead own behind split g i e =
    let at : GapAt table.ti (last_end 0 (turn_order table)) (turn_order table) ahead own behind = gap_split table.ti (last_end 0 (turn_order table)) (turn_order table) ahead own behind split in
    let up : Rises (turn_key table.mode) (at.done ++ own.sender ∷ at.rest) = subst (λ o. Rises (turn_key table.mode) o) at.split (order_rises table facts) in
    let there : (b : Sender) → In b (at.done ++ own.sender ∷ at.rest) → In b table.senders = λ b j. from_sort (turn_key table.mode) table.senders b (subst (λ o. In b o) (sym at.split) j) in
    let own_in : In own.sender table.senders = there own.sender (in_append_right at.done (own.sender ∷ at.rest) own.sender (inl refl)) in
    let same : In g.sender table.senders → turn_key table.mode g.sender ≡ turn_key table.mode own.sender = λ j.
    ap (turn_key table.mode) (same_sender (λ c. c.number) table.senders g.sender own.sender (numbers_differ table facts) j own_in e) in
    elim (in_append_cases behind ahead g i) [
      | inl h ↦
          let k = gap_sender table.ti (table.ti + latest_end own.sender) at.rest g (subst (λ gs. In g gs) at.behind_is h) in
          let l : turn_key table.mode own.sender < turn_key table.mode g.sender = rises_after (turn_key table.mode) at.done own.sender at.rest g.sender up k in
          let m : turn_key table.mode g.sender ≡ turn_key table.mode own.sender = same (there g.sender (in_append_right at.done (own.sender ∷ at.rest) g.sender (inr k))) in
          omega arith
      | inr h ↦
          let k = gap_sender table.ti (last_end 0 (turn_order table)) at.done g (subst (λ gs. In g gs) at.ahead_is h) in
          let l : turn_key table.mode g.sender < turn_key table.mode own.sender = rises_before (turn_key table.mode) at.done own.sender at.rest g.sender up k in
          let m : turn_key table.mode g.sender ≡ turn_key table.mode own.sender = same (there g.sender (in_append_left at.done (own.sender ∷ at.rest) g.sender k)) in
          omega arith
    ]

pub bear_zero_is_accepted : BearZeroIsAccepted
bear_zero_is_accepted table valid mode several bearing =
    let facts : TableFacts table = valid_facts table valid in
    let both : (list_all (is_wide 0) (gaps table) && all_stay 0 table.sg [] (gaps table)) ≡ true =
    subst (λ b. (b || (list_all (is_wide 0) (gaps table) && all_stay 0 table.sg [] (gaps table))) ≡ true) (ne_eqb (length table.senders) 1 (omega arith))
    (sym (in_periodic table 0 mode) ∙ bearing) in
    let parts = and_parts (list_all (is_wide 0) (gaps table)) (all_stay 0 table.sg [] (gaps table)) both in
    gaps_accepted table mode (λ gap i.
    let at = parts_at (gaps table) gap i in
    let differ = others_differ table facts at.0 gap at.1 at.2 in
    let keeps : stays 0 table.sg gap.sender.number (Some 0) ((at.1 ++ at.0) ++ gap ∷ []) ≡ true =
    ap (stays 0 table.sg gap.sender.number (Some 0)) (append_assoc at.1 at.0 (gap ∷ []))
    ∙ all_stay_at 0 table.sg [] at.0 gap at.1 (subst (λ gs. all_stay 0 table.sg [] gs ≡ true) at.2 parts.1) in
    let wide : gap.from + (gap.sender.tg + 0) ≤ gap.to = leb-true (gap.from + (gap.sender.tg + 0)) gap.to (pass_in (is_wide 0) (gaps table) gap parts.0 i) in
    record {
      wide = omega arith;
      sync = elim (synchronized table.sg gap.sender.number (at.1 ++ at.0) gap differ refl keeps) [
        | inl room ↦ inl room
        | inr other ↦ inr (record {
          other = other.0;
          among = subst (λ gs. In other.0 gs) (sym at.2) (elim (in_append_cases at.1 at.0 other.0 other.1) [
            | inl h ↦ in_append_right at.0 (gap ∷ at.1) other.0 (inr h)
            | inr h ↦ in_append_left at.0 (gap ∷ at.1) other.0 h
          ]);
          apart = differ other.0 other.1;
          wide = other.2;
        })
      ];
    })
