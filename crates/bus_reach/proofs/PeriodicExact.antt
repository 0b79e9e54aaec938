-- A periodic table bears exactly the delays with which it keeps its schedule.
use Rattle.std.proofs.Common.{◌≡◌, ◌≢◌, ℕ, ◌+◌, ◌-◌, ◌<◌, ◌≤◌, Bool, false, cond, ◌&&◌, List, [], ◌∷◌, ◌++◌, length, get_or, Some, inl, inr, arith, sym, refl, ap, ◌∙◌, subst}
use Rattle.std.specs.Prelude.{IsTrue, ◌==◌, ◌||◌}
use Rattle.std.specs.List.{list_all}
use Rattle.std.proofs.lemmas.Bool.{cases_Bool, cases_eq, eq-eqb, ne_eqb, leb-false, true≢false}
use Rattle.bus_strings.specs.Members.{In}
use Rattle.bus_strings.proofs.MemberLaws.{in_append_right}
use Rattle.bus_strings.specs.Messages.{bits}
use Rattle.bus_table.specs.declared.mode.Mode.TheVariants.{Periodic}
use Rattle.bus_table.specs.inside.Facts.{SenderFacts}
use Rattle.bus_table.specs.inside.Fillings.{filling_bits}
use Rattle.bus_table.specs.Tables.{Sender, Table, sender_numbers}
use Rattle.bus_table.specs.Turns.{turn_key, turn_order}
use Rattle.bus_table.proofs.TurnLaws.{of_each, from_sort, length-sort}
use Rattle.bus_table.specs.Valid.{is_valid}
use Rattle.bus_table.proofs.ValidLaws.{valid_facts}
use Rattle.bus_table.specs.Hands.{are_hands}
use Rattle.std.proofs.lemmas.Bool.{and_parts}
use Rattle.bus_medium.specs.Timings.{quiet_of}
use Rattle.bus_regime.specs.Gaps.{Gap, last_end, gaps}
use Rattle.bus_regime.specs.Verdicts.{verdict_of, is_accepted}
use Rattle.bus_regime.proofs.VerdictLaws.{accepted_gaps}
use Rattle.bus_regime.proofs.GapLaws.{gap_sender}
use Rattle.bus_schedule.specs.Closed.{schedule_in, offset_schedule, closed, closed_end}
use Rattle.bus_schedule.specs.Even.{are_even, messages_of, rounds}
use Rattle.bus_schedule.specs.Laws.{WitnessesAreEven}
use Rattle.bus_schedule.specs.Settled.{witness_hands}
use Rattle.bus_medium.specs.CableLawful.{IsLawfulOnCable}
use Rattle.bus_medium.specs.Delays.{Delays, distance, cable}
use Rattle.bus_medium.specs.Wakes.{settled}
use Rattle.bus_schedule.specs.Slack.{is_wide, all_stay, gaps_bear}
use Rattle.bus_schedule.proofs.Breaking.{whole, whole_is, others_apart, not_lacking, not_narrow}
use Rattle.bus_schedule.proofs.Growing.{Setting}
use Rattle.bus_schedule.proofs.HandLemmas.{stations}
use Rattle.bus_schedule.proofs.LiveLemmas.{stations_of_dealt}
use Rattle.bus_schedule.proofs.RunLemmas.{setting_of}
use Rattle.bus_schedule.proofs.Slacks.{Lacks, lacks, places, places_within, places_none}
use Rattle.bus_schedule.proofs.WitnessLemmas.{two_rounds, filled}
use Rattle.bus_reach.specs.Bearing.{bears}
use Rattle.bus_reach.specs.PeriodicLaws.{HappensOnCable, BreaksOnCable, PeriodicNotBorneBreaks, PeriodicBorneIsClosed, PeriodicBearingIsExact}
use Rattle.bus_reach.proofs.Keeping.{cables_delay}
use Rattle.bus_reach.proofs.Modes.{in_periodic}

distance_left : (a : ℕ) → distance a 0 ≡ a
distance_left a = omega arith

distance_right : (a : ℕ) → distance 0 a ≡ a
distance_right a = omega arith

-- one that fails a test, by where it stands
record Failing {X : Type 0} (p : X → Bool) (xs : List X) : Type 0 where
  ahead : List X
  one : X
  behind : List X
  split : xs ≡ ahead ++ one ∷ behind
  fails : p one ≡ false

failing : {X : Type 0} (p : X → Bool) → (xs : List X) → list_all p xs ≡ false → Failing p xs
failing p [] h = absurd cc
failing p (x ∷ xs) h = elim (cases_Bool (p x)) [
  | inl holds ↦
      let w : Failing p xs = failing p xs (ap (λ b. b && list_all p xs) (sym holds) ∙ h) in
      record { ahead = x ∷ w.ahead; one = w.one; behind = w.behind; split = ap (λ ys. x ∷ ys) w.split; fails = w.fails }
  | inr fails ↦ record { ahead = []; one = x; behind = xs; split = refl; fails = fails }
]

-- the place of one terminal alone
alone_at : ℕ → ℕ → ℕ → ℕ
alone_at number late n = cond (n == number) late 0

alone_here : (number late n : ℕ) → n ≡ number → alone_at number late n ≡ late
unfolding alone_at
alone_here number late n e = rw (eq-eqb n number e) refl

alone_other : (number late n : ℕ) → n ≢ number → alone_at number late n ≡ 0
unfolding alone_at
alone_other number late n e = rw (ne_eqb n number e) refl

alone_within : (number late most n : ℕ) → late ≤ most → alone_at number late n ≤ most
alone_within number late most n low = elim (cases_eq n number) [
  | inl same ↦ omega (arith, alone_here number late n same)
  | inr apart ↦ omega (arith, alone_other number late n apart)
]

module _ (table : Table) (valid : IsTrue (is_valid table)) (mode : table.mode ≡ Periodic) (wide : (g : Gap) → In g (gaps table) → g.from + g.sender.tg ≤ g.to)
    (even : IsTrue (are_even table (witness_hands table))) where
  setting : Setting table (messages_of (witness_hands table)) 2
  setting = subst (Setting table (messages_of (witness_hands table))) (two_rounds table (valid_facts table valid)) (setting_of table (witness_hands table) valid even)

  fill : (sender : Sender) (round : ℕ) → In sender table.senders → round < 2
      → bits (get_or (messages_of (witness_hands table) sender.number) round []) ≡ filling_bits table.mode sender
  fill = filled table (valid_facts table valid)

  -- what happens with the witness, as two rounds
  happens : (delay : Delays) → HappensOnCable table (witness_hands table) delay
      → IsLawfulOnCable (quiet_of table) delay settled (stations table (messages_of (witness_hands table))) (closed_end table (witness_hands table)) (whole table (messages_of (witness_hands table)) setting mode fill)
  happens delay law =
      let dealt : IsTrue (are_hands table.senders (witness_hands table)) = (and_parts (are_hands table.senders (witness_hands table)) _ even).0 in
      let is : closed table (witness_hands table) ≡ whole table (messages_of (witness_hands table)) setting mode fill =
      ap (λ m. schedule_in m table (messages_of (witness_hands table)) (rounds (witness_hands table))) mode
      ∙ ap (offset_schedule (messages_of (witness_hands table)) table.ti (turn_order table)) (two_rounds table (valid_facts table valid))
      ∙ whole_is table (messages_of (witness_hands table)) setting mode fill in
      subst (λ l. IsLawfulOnCable (quiet_of table) delay settled (stations table (messages_of (witness_hands table))) (closed_end table (witness_hands table)) l) is
      (subst (λ ss. IsLawfulOnCable (quiet_of table) delay settled ss (closed_end table (witness_hands table)) (closed table (witness_hands table))) (stations_of_dealt table (witness_hands table) valid dealt) law)

  -- a gap is too narrow
  narrow_breaks : (most : ℕ) → length table.senders ≢ 1 → list_all (is_wide most) (gaps table) ≡ false → BreaksOnCable table most
  narrow_breaks most apart fails =
      let w : Failing (is_wide most) (gaps table) = failing (is_wide most) (gaps table) fails in
      let among : In w.one (gaps table) = subst (λ gs. In w.one gs) (sym w.split) (in_append_right w.ahead (w.one ∷ w.behind) w.one (inl refl)) in
      let short : w.one.to < w.one.from + (w.one.sender.tg + most) = leb-false (w.one.from + (w.one.sender.tg + most)) w.one.to w.fails in
      let fits : w.one.from + w.one.sender.tg ≤ w.one.to = wide w.one among in
      let late : ℕ = w.one.to + 1 - w.one.from - w.one.sender.tg in
      let there : In w.one.sender table.senders = from_sort (turn_key table.mode) table.senders w.one.sender (gap_sender table.ti (last_end 0 (turn_order table)) (turn_order table) w.one among) in
      let facts : SenderFacts table w.one.sender = of_each (SenderFacts table) table.senders (valid_facts table valid).senders w.one.sender there in
      let tg : 8 ≤ w.one.sender.tg = facts.tg_least in
      let some : 0 < length table.senders = (valid_facts table valid).some in
      let as_many : length (turn_order table) ≡ length table.senders = length-sort (turn_key table.mode) table.senders in
      let several : 1 < length (turn_order table) = elim (cases_eq (length table.senders) 1) [ inl one ↦ absurd (apart one) | inr more ↦ omega arith ] in
      record {
        place = alone_at w.one.sender.number (w.one.to + 1 - w.one.from - w.one.sender.tg);
        within = λ n. alone_within w.one.sender.number (w.one.to + 1 - w.one.from - w.one.sender.tg) most n (omega arith);
        breaks = λ law. not_narrow table (messages_of (witness_hands table)) setting mode fill w.ahead w.one w.behind w.split (w.one.to + 1 - w.one.from - w.one.sender.tg)
            (cable (alone_at w.one.sender.number (w.one.to + 1 - w.one.from - w.one.sender.tg))) (closed_end table (witness_hands table))
            (happens (cable (alone_at w.one.sender.number (w.one.to + 1 - w.one.from - w.one.sender.tg))) law)
            several (omega arith) (omega arith) (omega arith)
            (λ b round moment other.
            ap (λ a. distance a (alone_at w.one.sender.number (w.one.to + 1 - w.one.from - w.one.sender.tg) w.one.sender.number)) (alone_other w.one.sender.number (w.one.to + 1 - w.one.from - w.one.sender.tg) b.number other)
            ∙ ap (distance 0) (alone_here w.one.sender.number (w.one.to + 1 - w.one.from - w.one.sender.tg) w.one.sender.number refl)
            ∙ distance_right (w.one.to + 1 - w.one.from - w.one.sender.tg));
      }

  -- a sender doesn't stay in sync
  lacking_breaks : (most : ℕ) → all_stay most table.sg [] (gaps table) ≡ false → BreaksOnCable table most
  lacking_breaks most fails =
      let w : Lacks most table.sg [] (gaps table) = lacks most table.sg [] (gaps table) fails in
      let at_zero : places most table.sg (Some 0) (w.behind ++ w.ahead) w.own.sender.number ≡ 0 =
      places_none most table.sg (Some 0) (w.behind ++ w.ahead) w.own.sender.number
      (others_apart table (messages_of (witness_hands table)) setting mode fill w.ahead w.own w.behind w.split) in
      record {
        place = places most table.sg (Some 0) (w.behind ++ w.ahead);
        within = places_within most table.sg (Some 0) (w.behind ++ w.ahead);
        breaks = λ law. not_lacking table (messages_of (witness_hands table)) setting mode fill w.ahead w.own w.behind w.split wide most
            (places most table.sg (Some 0) (w.behind ++ w.ahead)) (cable (places most table.sg (Some 0) (w.behind ++ w.ahead))) (closed_end table (witness_hands table))
            (happens (cable (places most table.sg (Some 0) (w.behind ++ w.ahead))) law)
            (λ b round moment. ap (distance (places most table.sg (Some 0) (w.behind ++ w.ahead) b.number)) at_zero ∙ distance_left (places most table.sg (Some 0) (w.behind ++ w.ahead) b.number))
            at_zero (λ number. refl) w.fails;
      }

pub not_borne_breaks : WitnessesAreEven → PeriodicNotBorneBreaks
not_borne_breaks even table most valid mode accepted not_borne =
    let none : gaps_bear table most ≡ false = sym (in_periodic table most mode) ∙ not_borne in
    elim (cases_Bool (length table.senders == 1)) [
      | inl one ↦ absurd (true≢false (sym (ap (λ b. b || (list_all (is_wide most) (gaps table) && all_stay most table.sg [] (gaps table))) one) ∙ none))
      | inr several ↦
          let both : (list_all (is_wide most) (gaps table) && all_stay most table.sg [] (gaps table)) ≡ false =
          sym (ap (λ b. b || (list_all (is_wide most) (gaps table) && all_stay most table.sg [] (gaps table))) several) ∙ none in
          elim (cases_Bool (list_all (is_wide most) (gaps table))) [
            | inl all_wide ↦ lacking_breaks table valid mode (wide_of table mode accepted) (even table valid) most (sym (ap (λ b. b && all_stay most table.sg [] (gaps table)) all_wide) ∙ both)
            | inr narrow ↦ narrow_breaks table valid mode (wide_of table mode accepted) (even table valid) most (λ e. true≢false (sym (eq-eqb (length table.senders) 1 e) ∙ several)) narrow
          ]
    ]
  where
    wide_of : (table : Table) → table.mode ≡ Periodic → IsTrue (is_accepted (verdict_of table)) → (g : Gap) → In g (gaps table) → g.from + g.sender.tg ≤ g.to
    wide_of table mode accepted g i = (accepted_gaps table mode accepted g i).wide

pub bearing_is_exact : WitnessesAreEven → PeriodicBorneIsClosed → PeriodicBearingIsExact
bearing_is_exact even closes table most valid mode accepted = (
  (λ borne hands delay is_even delays. (closes table hands most delay valid mode accepted is_even delays borne).lawful),
  (λ keeps. elim (cases_Bool (bears table most)) [
    | inl borne ↦ borne
    | inr not_borne ↦
        let w : BreaksOnCable table most = not_borne_breaks even table most valid mode accepted not_borne in
        absurd (w.breaks (keeps (witness_hands table) (cable w.place) (even table valid) (cables_delay most (sender_numbers table) w.place (λ n i. w.within n))))
  ]),
)
