-- The closed schedule of a periodic table that bears the delays is what its senders do on the cable.
use Rattle.std.proofs.Common.{◌≡◌, ℕ, suc, ◌+◌, ◌≤◌, Bool, true, cond, ◌&&◌, List, [], ◌∷◌, length, inl, inr, arith, sym, refl, ap, ◌∙◌, subst}
use Rattle.std.specs.Prelude.{IsTrue, ◌==◌, ◌||◌}
use Rattle.std.specs.List.{list_all}
use Rattle.std.proofs.lemmas.Bool.{and_parts, cases_Bool, eq-eqb, eqb-true, leb-true, le-leb}
use Rattle.bus_strings.specs.Marking.{greatest_end}
use Rattle.bus_strings.specs.Members.{In}
use Rattle.bus_strings.specs.Messages.{Entry}
use Rattle.bus_table.specs.declared.mode.Mode.TheVariants.{Periodic}
use Rattle.bus_table.specs.Tables.{Sender, Table, Hand, sender_numbers}
use Rattle.bus_table.specs.Turns.{turn_key, turn_order}
use Rattle.bus_table.proofs.TurnLaws.{length-sort}
use Rattle.bus_medium.specs.CableLawful.{IsLawfulOnCable}
use Rattle.bus_medium.specs.Delays.{Delays, AreDelays, HearsWithin, heard}
use Rattle.bus_medium.specs.Timings.{quiet_of}
use Rattle.bus_medium.specs.Wakes.{settled}
use Rattle.bus_medium.proofs.Hearing.{hears_sender}
use Rattle.bus_regime.specs.inside.Fine.{IsFine}
use Rattle.bus_regime.specs.Gaps.{Gap, last_end, gaps_from, gaps}
use Rattle.bus_regime.specs.Verdicts.{verdict_of, is_accepted}
use Rattle.bus_regime.proofs.VerdictLaws.{accepted_gaps}
use Rattle.bus_schedule.specs.CableRuns.{clear_within}
use Rattle.bus_schedule.specs.Closed.{offset_schedule}
use Rattle.bus_schedule.specs.Even.{messages_of, rounds}
use Rattle.bus_schedule.specs.Runs.{IsClear}
use Rattle.bus_schedule.specs.Slack.{is_wide, all_stay, gaps_bear}
use Rattle.bus_schedule.proofs.CableGrowing.{grown_lawful}
use Rattle.bus_schedule.proofs.Growing.{Setting}
use Rattle.bus_schedule.proofs.HandLemmas.{stations}
use Rattle.bus_schedule.proofs.Swaying.{intervals_on}

pub all_in : {X : Type 0} (p : X → Bool) → (xs : List X) (x : X) → list_all p xs ≡ true → In x xs → p x ≡ true
all_in p [] x h i = absurd i
all_in p (y ∷ ys) x h (inl same) = ap p same ∙ (and_parts (p y) _ h).0
all_in p (y ∷ ys) x h (inr i) = all_in p ys x (and_parts (p y) _ h).1 i

-- one alone
alone : {X : Type 0} → (xs : List X) (a b : X) → length xs ≡ 1 → In a xs → In b xs → a ≡ b
alone [] a b e i j = absurd i
alone (x ∷ []) a b e (inl p) (inl q) = p ∙ sym q
alone (x ∷ []) a b e (inl p) (inr j) = absurd j
alone (x ∷ []) a b e (inr i) j = absurd i
alone (x ∷ y ∷ xs) a b e i j = absurd (let k : suc (suc (length xs)) ≡ 1 = e in omega arith)

-- has its synchronization gap in its own place
alone_room : (sg ti from : ℕ) (order : List Sender) → length order ≡ 1 → ((g : Gap) → In g (gaps_from ti from order) → IsFine sg (gaps_from ti from order) g)
    → (g : Gap) → In g (gaps_from ti from order) → g.from + (sg + g.sender.tg) ≤ g.to
alone_room sg ti from [] e fine g i = absurd i
alone_room sg ti from (s ∷ t ∷ order) e fine g i = absurd (let k : suc (suc (length order)) ≡ 1 = e in omega arith)
alone_room sg ti from (s ∷ []) e fine g i = elim (fine g i).sync [
  | inl own ↦ own
  | inr o ↦ absurd (o.apart (ap (λ (h : Gap). h.sender.number) (alone (gaps_from ti from (s ∷ [])) o.other g refl o.among i)))
]

alone_stays : (sg ti from : ℕ) (order : List Sender) → length order ≡ 1 → ((g : Gap) → In g (gaps_from ti from order) → IsFine sg (gaps_from ti from order) g)
    → all_stay 0 sg [] (gaps_from ti from order) ≡ true
alone_stays sg ti from [] e fine = refl
alone_stays sg ti from (s ∷ t ∷ order) e fine = absurd (let k : suc (suc (length order)) ≡ 1 = e in omega arith)
alone_stays sg ti from (s ∷ []) e fine =
    let g : Gap = record { sender = s; from = from; to = ti + s.at } in
    let room : from + (sg + s.tg) ≤ ti + s.at = alone_room sg ti from (s ∷ []) e fine (record { sender = s; from = from; to = ti + s.at }) (inl refl) in
    rw (eq-eqb s.number s.number refl, le-leb (from + (sg + s.tg + 0)) (ti + s.at) (omega arith)) refl

-- what is shown of the closed schedule beside what holds of it without delays
pub record IsHeard (table : Table) (hands : List Hand) (most : ℕ) (delay : Delays) : Type 0 where
  pub lawful : IsLawfulOnCable (quiet_of table) delay settled (stations table (messages_of hands)) (greatest_end (offset_schedule (messages_of hands) table.ti (turn_order table) (rounds hands)))
      (offset_schedule (messages_of hands) table.ti (turn_order table) (rounds hands))
  pub clear : (number : ℕ) → HearsWithin (clear_within table most) (sender_numbers table) delay number → IsClear (heard delay number (offset_schedule (messages_of hands) table.ti (turn_order table) (rounds hands)))

heard_by : (table : Table) (hands : List Hand) (most reach : ℕ) (delay : Delays) → Setting table (messages_of hands) (rounds hands) → table.mode ≡ Periodic
    → ((x : Entry) → delay x x.terminal ≡ 0)
    → ((x : Entry) (a b : Sender) → In a table.senders → In b table.senders → x.terminal ≡ a.number → delay x b.number ≤ reach)
    → ((g : Gap) → In g (gaps table) → g.from + (g.sender.tg + reach) ≤ g.to)
    → all_stay reach table.sg [] (gaps table) ≡ true
    → ((g : Gap) → In g (gaps table) → g.from + clear_within table most ≤ g.to)
    → IsHeard table hands most delay
heard_by table hands most reach delay setting mode own reaching wide staying apart =
    let t = intervals_on (HearsWithin (clear_within table most) (sender_numbers table) delay) delay own reach (clear_within table most) table (λ k h. h) (messages_of hands) (rounds hands) setting mode reaching wide staying apart (rounds hands) (omega arith) in
    record {
      lawful = grown_lawful (HearsWithin (clear_within table most) (sender_numbers table) delay) delay own table (messages_of hands) setting.dealt (offset_schedule (messages_of hands) table.ti (turn_order table) (rounds hands)) t.e t.end t.due t.gap t.count t.grown;
      clear = t.grown.clear;
    }

pub is_heard : (table : Table) (hands : List Hand) (most : ℕ) (delay : Delays) → Setting table (messages_of hands) (rounds hands) → table.mode ≡ Periodic
    → IsTrue (is_accepted (verdict_of table)) → AreDelays most (sender_numbers table) delay → IsTrue (gaps_bear table most) → IsHeard table hands most delay
is_heard table hands most delay setting mode accepted delays borne =
    let fine : (g : Gap) → In g (gaps table) → IsFine table.sg (gaps table) g = accepted_gaps table mode accepted in
    elim (cases_Bool (length table.senders == 1)) [
      | inl one ↦
          let single : length table.senders ≡ 1 = eqb-true (length table.senders) 1 one in
          let in_order : length (turn_order table) ≡ 1 = length-sort (turn_key table.mode) table.senders ∙ single in
          heard_by table hands most 0 delay setting mode delays.own
          (λ x a b i j mine.
          let same : a ≡ b = alone table.senders a b single i j in
          let none : delay x b.number ≡ 0 = ap (delay x) (ap (λ (s : Sender). s.number) (sym same) ∙ sym mine) ∙ delays.own x in omega arith)
          (λ g i. let w : g.from + g.sender.tg ≤ g.to = (fine g i).wide in omega arith)
          (alone_stays table.sg table.ti (last_end 0 (turn_order table)) (turn_order table) in_order fine)
          (λ g i.
          let room : g.from + (table.sg + g.sender.tg) ≤ g.to = alone_room table.sg table.ti (last_end 0 (turn_order table)) (turn_order table) in_order fine g i in
          let soon : clear_within table most ≡ table.sg = ap (λ b. cond b table.sg most) one in
          omega arith)
      | inr several ↦
          let both = and_parts (list_all (is_wide most) (gaps table)) (all_stay most table.sg [] (gaps table))
          (subst (λ b. (b || (list_all (is_wide most) (gaps table) && all_stay most table.sg [] (gaps table))) ≡ true) several borne) in
          let wide : (g : Gap) → In g (gaps table) → g.from + (g.sender.tg + most) ≤ g.to = λ g i. leb-true (g.from + (g.sender.tg + most)) g.to (all_in (is_wide most) (gaps table) g both.0 i) in
          heard_by table hands most most delay setting mode delays.own (hears_sender most table delay delays) wide both.1
          (λ g i.
          let w : g.from + (g.sender.tg + most) ≤ g.to = wide g i in
          let soon : clear_within table most ≡ most = ap (λ b. cond b table.sg most) several in
          omega arith)
    ]
