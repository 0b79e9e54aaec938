-- What it means for the induction that a table bears delays: a sender alone hears none at all.
use Rattle.std.proofs.Common.{◌≡◌, ℕ, ◌+◌, ◌*◌, ◌<◌, ◌≤◌, ◌⊎◌, true, cond, List, [], ◌∷◌, length, inl, inr, arith, sym, refl, ap, ◌∙◌, subst}
use Rattle.std.specs.Prelude.{IsTrue, ◌&&◌, ◌||◌, nat_le}
use Rattle.std.specs.List.{list_all}
use Rattle.std.proofs.lemmas.Bool.{and_parts, eq-eqb, ne_eqb, leb-true, ltb-true, cases_eq, or_cases}
use Rattle.bus_strings.specs.Members.{In}
use Rattle.bus_strings.specs.Messages.{Entry}
use Rattle.bus_strings.proofs.MemberLaws.{pass_in}
use Rattle.bus_table.specs.Tables.{Sender, Table, sender_numbers}
use Rattle.bus_table.specs.inside.Facts.{SenderFacts, TableFacts}
use Rattle.bus_table.specs.Turns.{turn_order}
use Rattle.bus_table.proofs.TurnLaws.{of_each, order_length}
use Rattle.bus_medium.specs.Delays.{Delays, AreDelays, HearsWithin}
use Rattle.bus_medium.specs.Wakes.{AreWakes}
use Rattle.bus_medium.proofs.Hearing.{hears_sender}
use Rattle.bus_schedule.specs.CableRuns.{clear_within}
use Rattle.bus_reach.specs.Tolerance.{is_apart, leaves_room, lengths_bear}
use Rattle.bus_reach.specs.Runs.{cycle_delay}

-- what a sender leaves
pub record LeavesRoom (d sg : ℕ) (senders : List Sender) (a : Sender) : Type 0 where
  pub least : d ≤ a.tg
  pub short : a.tg + 2 * d < sg
  pub apart : (b : Sender) → In b senders → a.tg < b.tg → a.tg + 2 * d < b.tg

pub room_left : (d sg : ℕ) (senders : List Sender) (a : Sender) → leaves_room d sg senders a ≡ true → LeavesRoom d sg senders a
room_left d sg senders a h =
    let one = and_parts (nat_le d a.tg) (is_apart d a.tg sg && list_all (λ b. nat_le b.tg a.tg || is_apart d a.tg b.tg) senders) h in
    let two = and_parts (is_apart d a.tg sg) (list_all (λ b. nat_le b.tg a.tg || is_apart d a.tg b.tg) senders) one.1 in
    record {
      least = leb-true d a.tg one.0;
      short = ltb-true (a.tg + 2 * d) sg two.0;
      apart = λ b i less. elim (or_cases (nat_le b.tg a.tg) (is_apart d a.tg b.tg) (pass_in (λ c. nat_le c.tg a.tg || is_apart d a.tg c.tg) senders b two.1 i)) [
        | inl not ↦ let k : b.tg ≤ a.tg = leb-true b.tg a.tg not in absurd (omega arith)
        | inr far ↦ ltb-true (a.tg + 2 * d) b.tg far
      ];
    }

-- the only one
pub only_one : (senders : List Sender) → length senders ≡ 1 → (a b : Sender) → In a senders → In b senders → a ≡ b
only_one [] one a b i j = absurd i
only_one (c ∷ []) one a b (inl e) (inl f) = e ∙ sym f
only_one (c ∷ []) one a b (inl e) (inr j) = absurd j
only_one (c ∷ []) one a b (inr i) j = absurd i
only_one (c ∷ d ∷ senders) one a b i j = absurd (omega arith)

pub first_of_some : (senders : List Sender) → 0 < length senders → (a : Sender) × In a senders
first_of_some [] some = absurd (omega arith)
first_of_some (a ∷ senders) some = (a, inl refl)

-- what the induction asks of delays and of the table
pub record IsTolerant (table : Table) (delay : Delays) (spread room : ℕ) : Type 0 where
  pub own : (x : Entry) → delay x x.terminal ≡ 0
  pub delays : (a b : Sender) (x : Entry) → In a table.senders → In b table.senders → x.terminal ≡ a.number → delay x b.number ≤ spread
  pub least : (a : Sender) → In a table.senders → spread ≤ a.tg
  pub apart : (a b : Sender) → In a table.senders → In b table.senders → a.tg < b.tg → a.tg + 2 * spread < b.tg
  pub short : (a : Sender) → In a table.senders → a.tg + 2 * spread < table.sg
  pub fits : (room ≤ spread) ⊎ ((length (turn_order table) ≡ 1) × (room ≤ table.sg))

-- a spread that the table bears, of which the delays `most` are made
pub record HasTolerance (table : Table) (most : ℕ) (delay : Delays) : Type 0 where
  pub spread : ℕ
  pub tolerant : (room : ℕ) → (room ≤ spread) ⊎ ((length (turn_order table) ≡ 1) × (room ≤ table.sg)) → IsTolerant table delay spread room
  pub roomy : (number : ℕ) → HearsWithin (clear_within table most) (sender_numbers table) delay number
      → (room : ℕ) × HearsWithin room (sender_numbers table) delay number × ((room ≤ spread) ⊎ ((length (turn_order table) ≡ 1) × (room ≤ table.sg)))
  pub either : (length table.senders ≡ 1) ⊎ (spread ≡ most)

-- what a lone sender tolerates: no other has to hear it
alone_tolerant : (table : Table) (most : ℕ) (delay : Delays) → TableFacts table → AreDelays most (sender_numbers table) delay → length table.senders ≡ 1 → (room : ℕ)
    → (room ≤ 0) ⊎ ((length (turn_order table) ≡ 1) × (room ≤ table.sg)) → IsTolerant table delay 0 room
alone_tolerant table most delay facts delays one room fits = record {
  own = delays.own;
  delays = λ a b x i j own.
      let same : x.terminal ≡ b.number = own ∙ ap (λ (s : Sender). s.number) (only_one table.senders one a b i j) in
      let none : delay x b.number ≡ 0 = ap (delay x) (sym same) ∙ delays.own x in
      omega arith;
  least = λ a i. omega arith;
  apart = λ a b i j less. let same : a.tg ≡ b.tg = ap (λ (s : Sender). s.tg) (only_one table.senders one a b i j) in omega arith;
  short = λ a i. let k : a.tg < table.sg = (of_each (SenderFacts table) table.senders facts.senders a i).tg_short in omega arith;
  fits = fits;
}

pub tolerance_of : (table : Table) (most : ℕ) (delay : Delays) → TableFacts table → AreDelays most (sender_numbers table) delay → IsTrue (lengths_bear table most) → HasTolerance table most delay
tolerance_of table most delay facts delays bearing =
    elim (cases_eq (length table.senders) 1) [
      | inl one ↦ record {
        spread = 0;
        tolerant = alone_tolerant table most delay facts delays one;
        roomy = λ number h.
            let soon : clear_within table most ≡ table.sg = ap (λ b. cond b table.sg most) (eq-eqb (length table.senders) 1 one) in
            (table.sg, subst (λ k. HearsWithin k (sender_numbers table) delay number) soon h, inr (order_length table ∙ one, omega arith));
        either = inl one;
      }
      | inr many ↦
          let each : list_all (leaves_room most table.sg table.senders) table.senders ≡ true = ap (λ b. b || list_all (leaves_room most table.sg table.senders) table.senders) (sym (ne_eqb (length table.senders) 1 many)) ∙ bearing in
          let left : (a : Sender) → In a table.senders → LeavesRoom most table.sg table.senders a = λ a i. room_left most table.sg table.senders a (pass_in (leaves_room most table.sg table.senders) table.senders a each i) in
          record {
            spread = most;
            tolerant = λ room fits. record {
              own = delays.own;
              delays = λ a b x i j own. hears_sender most table delay delays x a b i j own;
              least = λ a i. (left a i).least;
              apart = λ a b i j less. (left a i).apart b j less;
              short = λ a i. (left a i).short;
              fits = fits;
            };
            roomy = λ number h.
                let soon : clear_within table most ≡ most = ap (λ b. cond b table.sg most) (ne_eqb (length table.senders) 1 many) in
                (most, subst (λ k. HearsWithin k (sender_numbers table) delay number) soon h, inl (omega arith));
            either = inr refl;
          }
    ]

-- and where the wakes are up to `most` too, they are near one another, and a cycle is lengthened by so much
pub record HasSpread (table : Table) (most : ℕ) (delay : Delays) (wake : ℕ → ℕ) : Type 0 where
  pub spread : ℕ
  pub base : ℕ
  pub tolerant : (room : ℕ) → (room ≤ spread) ⊎ ((length (turn_order table) ≡ 1) × (room ≤ table.sg)) → IsTolerant table delay spread room
  pub either : (length table.senders ≡ 1) ⊎ (spread ≡ most)
  pub early : (a : Sender) → In a table.senders → base ≤ wake a.number
  pub late : (a : Sender) → In a table.senders → wake a.number ≤ base + spread
  pub whole : length (turn_order table) * spread ≡ cycle_delay table most

pub spread_of : (table : Table) (most : ℕ) (delay : Delays) (wake : ℕ → ℕ) → TableFacts table → AreDelays most (sender_numbers table) delay → AreWakes most table.senders wake
    → IsTrue (lengths_bear table most) → HasSpread table most delay wake
spread_of table most delay wake facts delays wakes bearing =
    let so = tolerance_of table most delay facts delays bearing in
    elim (cases_eq (length table.senders) 1) [
      | inl one ↦
          let first = first_of_some table.senders facts.some in
          let alike : (a : Sender) → In a table.senders → wake first.0.number ≡ wake a.number = λ a i. ap (λ (s : Sender). wake s.number) (only_one table.senders one first.0 a first.1 i) in
          record {
            spread = 0;
            base = wake first.0.number;
            tolerant = alone_tolerant table most delay facts delays one;
            either = inl one;
            early = λ a i. omega (arith, alike a i);
            late = λ a i. omega (arith, alike a i);
            whole = none_at_all (length (turn_order table)) ∙ sym (ap (λ b. cond b 0 (length table.senders * most)) (eq-eqb (length table.senders) 1 one));
          }
      | inr many ↦
          let is : so.spread ≡ most = elim so.either [ inl one ↦ absurd (many one) | inr e ↦ e ] in
          record {
            spread = so.spread;
            base = 0;
            tolerant = so.tolerant;
            either = inr is;
            early = λ a i. omega arith;
            late = λ a i. let k : wake a.number ≤ most = wakes a i in omega arith;
            whole = ap (λ k. length (turn_order table) * k) is ∙ ap (λ k. k * most) (order_length table) ∙ sym (ap (λ b. cond b 0 (length table.senders * most)) (ne_eqb (length table.senders) 1 many));
          }
    ]
  where
    none_at_all : (k : ℕ) → k * 0 ≡ 0
    none_at_all k = omega arith
