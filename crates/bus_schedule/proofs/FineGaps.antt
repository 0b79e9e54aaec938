-- The verdict's test of sync is the walk of slack without delays.
use Rattle.std.proofs.Common.{◌≡◌, ◌≢◌, ℕ, ◌+◌, ◌<◌, ◌≤◌, true, List, [], ◌∷◌, ◌++◌, length, Some, None, inl, inr, arith, sym, refl, ap, ◌∙◌, subst}
use Rattle.std.specs.Prelude.{IsTrue, ◌==◌, ◌||◌, ◌&&◌}
use Rattle.std.specs.List.{list_all}
use Rattle.std.proofs.lemmas.Bool.{cases_Bool, and_from, le-leb, true≢false}
use Rattle.std.proofs.lemmas.List.{append_assoc}
use Rattle.bus_strings.specs.Members.{In}
use Rattle.bus_strings.proofs.MemberLaws.{in_append_cases, in_append_left, in_append_right}
use Rattle.bus_table.specs.declared.mode.Mode.TheVariants.{Periodic}
use Rattle.bus_table.specs.Tables.{Sender, Table}
use Rattle.bus_table.specs.Turns.{turn_key, turn_order}
use Rattle.bus_table.specs.inside.Orders.{Rises}
use Rattle.bus_table.specs.Valid.{is_valid}
use Rattle.bus_table.proofs.TurnLaws.{from_sort, order_rises, numbers_differ}
use Rattle.bus_table.proofs.ValidLaws.{valid_facts}
use Rattle.bus_regime.specs.inside.Fine.{IsFine}
use Rattle.bus_regime.specs.Gaps.{Gap, last_end, latest_end, gaps}
use Rattle.bus_regime.specs.Verdicts.{verdict_of, is_accepted}
use Rattle.bus_regime.proofs.VerdictLaws.{accepted_gaps}
use Rattle.bus_regime.proofs.GapLaws.{gap_sender}
use Rattle.bus_schedule.specs.Slack.{slack_behind, is_wide, stays, all_stay, gaps_bear}
use Rattle.bus_schedule.proofs.GapSplits.{GapAt, gap_split}
use Rattle.bus_schedule.proofs.Orders.{rises_before, rises_after, same_sender}
use Rattle.bus_schedule.proofs.Slacks.{Lacks, lacks, none_stays, step_none, stays_here, stays_later}

own_room : (sg number : ℕ) (others : List Gap) (own : Gap) → own.sender.number ≡ number → ((g : Gap) → In g others → g.sender.number ≢ number)
    → own.from + (sg + own.sender.tg) ≤ own.to → stays 0 sg number (Some 0) (others ++ own ∷ []) ≡ true
own_room sg number [] own mine apart room =
    stays_here 0 sg number (Some 0) own [] mine ∙ le-leb (own.from + (sg + own.sender.tg + 0)) own.to (omega arith)
own_room sg number (g ∷ others) own mine apart room =
    stays_later 0 sg number (Some 0) g (others ++ own ∷ []) (apart g (inl refl))
    ∙ elim (step_none sg g) [
      | inl none ↦ ap (λ s. stays 0 sg number s (others ++ own ∷ [])) none
          ∙ none_stays 0 sg number (others ++ own ∷ []) own (in_append_right others (own ∷ []) own (inl refl)) mine
      | inr zero ↦ ap (λ s. stays 0 sg number s (others ++ own ∷ [])) zero ∙ own_room sg number others own mine (λ h i. apart h (inr i)) room
    ]

other_wide : (sg number : ℕ) (others : List Gap) (own other : Gap) → own.sender.number ≡ number → ((g : Gap) → In g others → g.sender.number ≢ number)
    → In other others → other.from + sg ≤ other.to → stays 0 sg number (Some 0) (others ++ own ∷ []) ≡ true
other_wide sg number [] own other mine apart i wide = absurd i
other_wide sg number (g ∷ others) own other mine apart (inl here) wide =
    let f : other.from ≡ g.from = ap (λ (h : Gap). h.from) here in
    let t : other.to ≡ g.to = ap (λ (h : Gap). h.to) here in
    let none : slack_behind 0 sg (Some 0) g ≡ None = rw (le-leb (g.from + (0 + sg)) g.to (omega arith)) refl in
    stays_later 0 sg number (Some 0) g (others ++ own ∷ []) (apart g (inl refl)) ∙ ap (λ s. stays 0 sg number s (others ++ own ∷ [])) none
    ∙ none_stays 0 sg number (others ++ own ∷ []) own (in_append_right others (own ∷ []) own (inl refl)) mine
other_wide sg number (g ∷ others) own other mine apart (inr i) wide =
    stays_later 0 sg number (Some 0) g (others ++ own ∷ []) (apart g (inl refl))
    ∙ elim (step_none sg g) [
      | inl none ↦ ap (λ s. stays 0 sg number s (others ++ own ∷ [])) none
          ∙ none_stays 0 sg number (others ++ own ∷ []) own (in_append_right others (own ∷ []) own (inl refl)) mine
      | inr zero ↦ ap (λ s. stays 0 sg number s (others ++ own ∷ [])) zero ∙ other_wide sg number others own other mine (λ h k. apart h (inr k)) i wide
    ]

-- the verdict's test of sync is the walk without delays
pub fine_stays : (table : Table) → Rises (turn_key table.mode) (turn_order table)
    → ((a b : Sender) → In a (turn_order table) → In b (turn_order table) → a.number ≡ b.number → a ≡ b)
    → ((g : Gap) → In g (gaps table) → IsFine table.sg (gaps table) g) → all_stay 0 table.sg [] (gaps table) ≡ true
fine_stays table rises one fine = elim (cases_Bool (all_stay 0 table.sg [] (gaps table))) [
  | inl stay ↦ stay
  | inr not ↦
      let w : Lacks 0 table.sg [] (gaps table) = lacks 0 table.sg [] (gaps table) not in
      let at : GapAt table.ti (last_end 0 (turn_order table)) (turn_order table) w.ahead w.own w.behind = gap_split table.ti (last_end 0 (turn_order table)) (turn_order table) w.ahead w.own w.behind w.split in
      let up : Rises (turn_key table.mode) (at.done ++ w.own.sender ∷ at.rest) = subst (λ o. Rises (turn_key table.mode) o) at.split rises in
      let in_order : (b : Sender) → In b (at.done ++ w.own.sender ∷ at.rest) → In b (turn_order table) = λ b i. subst (λ o. In b o) (sym at.split) i in
      let own_in : In w.own.sender (turn_order table) = in_order w.own.sender (in_append_right at.done (w.own.sender ∷ at.rest) w.own.sender (inl refl)) in
      let apart : (g : Gap) → In g (w.behind ++ w.ahead) → g.sender.number ≢ w.own.sender.number = λ g i e. elim (in_append_cases w.behind w.ahead g i) [
        | inl h ↦
            let k = gap_sender table.ti (table.ti + latest_end w.own.sender) at.rest g (subst (λ gs. In g gs) at.behind_is h) in
            let l : turn_key table.mode w.own.sender < turn_key table.mode g.sender = rises_after (turn_key table.mode) at.done w.own.sender at.rest g.sender up k in
            let m : turn_key table.mode g.sender ≡ turn_key table.mode w.own.sender =
            ap (turn_key table.mode) (one g.sender w.own.sender (in_order g.sender (in_append_right at.done (w.own.sender ∷ at.rest) g.sender (inr k))) own_in e) in omega arith
        | inr h ↦
            let k = gap_sender table.ti (last_end 0 (turn_order table)) at.done g (subst (λ gs. In g gs) at.ahead_is h) in
            let l : turn_key table.mode g.sender < turn_key table.mode w.own.sender = rises_before (turn_key table.mode) at.done w.own.sender at.rest g.sender up k in
            let m : turn_key table.mode g.sender ≡ turn_key table.mode w.own.sender =
            ap (turn_key table.mode) (one g.sender w.own.sender (in_order g.sender (in_append_left at.done (w.own.sender ∷ at.rest) g.sender k)) own_in e) in omega arith
      ] in
      let among : In w.own (gaps table) = subst (λ gs. In w.own gs) (sym w.split) (in_append_right w.ahead (w.own ∷ w.behind) w.own (inl refl)) in
      let keeps : stays 0 table.sg w.own.sender.number (Some 0) ((w.behind ++ w.ahead) ++ w.own ∷ []) ≡ true = elim (fine w.own among).sync [
        | inl room ↦ own_room table.sg w.own.sender.number (w.behind ++ w.ahead) w.own refl apart room
        | inr s ↦ other_wide table.sg w.own.sender.number (w.behind ++ w.ahead) w.own s.other refl apart
            (elim (in_append_cases w.ahead (w.own ∷ w.behind) s.other (subst (λ gs. In s.other gs) w.split s.among)) [
              | inl h ↦ in_append_right w.behind w.ahead s.other h
              | inr r ↦ elim r [
                | inl same ↦ absurd (s.apart (ap (λ (h : Gap). h.sender.number) same))
                | inr h ↦ in_append_left w.behind w.ahead s.other h
              ]
            ]) s.wide
      ] in
      absurd (true≢false (sym keeps ∙ ap (stays 0 table.sg w.own.sender.number (Some 0)) (append_assoc w.behind w.ahead (w.own ∷ [])) ∙ w.fails))
]

all_from : (d : ℕ) (xs : List Gap) → ((g : Gap) → In g xs → g.from + (g.sender.tg + d) ≤ g.to) → list_all (is_wide d) xs ≡ true
all_from d [] h = refl
all_from d (g ∷ xs) h = and_from _ _ (le-leb (g.from + (g.sender.tg + d)) g.to (h g (inl refl))) (all_from d xs (λ k i. h k (inr i)))

-- an accepted table bears a delay of 0
pub accepted_bears_none : (table : Table) → IsTrue (is_valid table) → table.mode ≡ Periodic → IsTrue (is_accepted (verdict_of table)) → IsTrue (gaps_bear table 0)
accepted_bears_none table valid mode accepted =
    let facts = valid_facts table valid in
    let fine = accepted_gaps table mode accepted in
    let both : (list_all (is_wide 0) (gaps table) && all_stay 0 table.sg [] (gaps table)) ≡ true = and_from _ _
    (all_from 0 (gaps table) (λ g i. let w : g.from + g.sender.tg ≤ g.to = (fine g i).wide in omega arith))
    (fine_stays table (order_rises table facts)
    (λ a b i j e. same_sender (λ c. c.number) table.senders a b (numbers_differ table facts) (from_sort (turn_key table.mode) table.senders a i) (from_sort (turn_key table.mode) table.senders b j) e) fine) in
    elim (cases_Bool (length table.senders == 1)) [
      | inl one ↦ ap (λ b. b || (list_all (is_wide 0) (gaps table) && all_stay 0 table.sg [] (gaps table))) one
      | inr more ↦ ap (λ b. b || (list_all (is_wide 0) (gaps table) && all_stay 0 table.sg [] (gaps table))) more ∙ both
    ]
