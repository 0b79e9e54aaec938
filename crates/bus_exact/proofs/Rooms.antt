-- A table leaves its bus room for the delays that it bears.
use Rattle.std.proofs.Common.{◌≡◌, ℕ, ◌+◌, ◌*◌, ◌<◌, ◌≤◌, true, cond, List, [], ◌∷◌, length, inl, inr, arith, sym, ap, ◌∙◌, subst, eq-eqb, ne_eqb, leb-true}
use Rattle.std.specs.Prelude.{IsTrue, nat_le, ◌||◌, sum_by}
use Rattle.std.specs.List.{list_all}
use Rattle.std.proofs.lemmas.Bool.{cases_eq, and_parts}
use Rattle.std.proofs.lemmas.List.Sums.{sum_by-cons}
use Rattle.bus_strings.specs.Members.{In}
use Rattle.bus_strings.proofs.MemberLaws.{pass_in, from_map}
use Rattle.bus_table.specs.declared.line.SendLine.{SendLine}
use Rattle.bus_table.specs.declared.mode.Mode.TheVariants.{Aperiodic}
use Rattle.bus_table.specs.Tables.{Sender, Table, sender_numbers}
use Rattle.bus_table.specs.Lengths.{shortest, longest}
use Rattle.bus_table.specs.Ranges.{is_number, is_tg, is_offset, are_send_lines}
use Rattle.bus_table.specs.Turns.{turn_key}
use Rattle.bus_table.specs.inside.Facts.{SenderFacts, TableFacts}
use Rattle.bus_table.proofs.TurnLaws.{of_each, order_length, sum_sort}
use Rattle.bus_medium.specs.Delays.{Delays, AreDelays}
use Rattle.bus_regime.specs.Starting.{starts_itself}
use Rattle.bus_regime.specs.Verdicts.{least_cycle, most_cycle}
use Rattle.bus_reach.specs.Bearing.{bears, bears_in}
use Rattle.bus_reach.specs.Runs.{cycle_delay}
use Rattle.bus_reach.specs.Tolerance.{leaves_room, lengths_bear}
use Rattle.bus_reach.proofs.SpreadLemmas.{LeavesRoom, room_left, only_one}
use Rattle.bus_clocks.specs.Buses.{sum_below}
use Rattle.bus_clocks.specs.Room.{LeavesRoom as HasRoom, StartsItself, HasCycle}
use Rattle.bus_clocks.specs.Rounds.{least_round, most_round, most_spoken}
use Rattle.bus_exact.specs.Exact.{value_at, delay_among}
use Rattle.bus_exact.proofs.Places.{rises_at, sum_places, sum_two}
use Rattle.bus_exact.proofs.Ticks.{Case, order, of_table, bus, at, rises, facts_of}

-- ---- delays

pub among_one : (table : Table) (d : ℕ) → length table.senders ≡ 1 → delay_among table d ≡ 0
among_one table d one = ap (λ b. cond b 0 d) (eq-eqb (length table.senders) 1 one)

pub among_more : (table : Table) (d : ℕ) → (length table.senders ≡ 1 → ⊥) → delay_among table d ≡ d
among_more table d more = ap (λ b. cond b 0 d) (ne_eqb (length table.senders) 1 more)

-- a sender alone hears itself at once
pub among_delays : (table : Table) (d : ℕ) (delay : Delays) → AreDelays d (sender_numbers table) delay → AreDelays (delay_among table d) (sender_numbers table) delay
among_delays table d delay delays = record {
  own = delays.own;
  within = λ n i x j. elim (cases_eq (length table.senders) 1) [
    | inl one ↦
        let a = from_map (λ (s : Sender). s.number) table.senders n i in
        let b = from_map (λ (s : Sender). s.number) table.senders x.terminal j in
        let same : x.terminal ≡ n = sym b.2 ∙ ap (λ (s : Sender). s.number) (only_one table.senders one b.0 a.0 b.1 a.1) ∙ a.2 in
        let none : delay x n ≡ 0 = ap (delay x) (sym same) ∙ delays.own x in
        omega arith
    | inr more ↦ (let is : delay_among table d ≡ d = among_more table d more in let w : delay x n ≤ d = delays.within n i x j in omega arith)
  ];
}

pub each_delay : (table : Table) (d : ℕ) → length table.senders * delay_among table d ≡ cycle_delay table d
each_delay table d = elim (cases_eq (length table.senders) 1) [
  | inl one ↦
      let none : cycle_delay table d ≡ 0 = ap (λ b. cond b 0 (length table.senders * d)) (eq-eqb (length table.senders) 1 one) in
      ap (λ n. length table.senders * n) (among_one table d one) ∙ nothing (length table.senders) ∙ sym none
  | inr more ↦
      let all : cycle_delay table d ≡ length table.senders * d = ap (λ b. cond b 0 (length table.senders * d)) (ne_eqb (length table.senders) 1 more) in
      ap (λ n. length table.senders * n) (among_more table d more) ∙ sym all
]
  where
    nothing : (n : ℕ) → n * 0 ≡ 0
    nothing n = omega arith

pub room_of : (table : Table) (d : ℕ) → TableFacts table → table.mode ≡ Aperiodic → IsTrue (bears table d) → (a : Sender) → In a table.senders
    → LeavesRoom (delay_among table d) table.sg table.senders a
room_of table d facts mode bearing a i = elim (cases_eq (length table.senders) 1) [
  | inl one ↦
      let none : delay_among table d ≡ 0 = among_one table d one in
      let short : a.tg < table.sg = (of_each (SenderFacts table) table.senders facts.senders a i).tg_short in
      record {
        least = omega arith;
        short = omega arith;
        apart = λ b j less. let same : a.tg ≡ b.tg = ap (λ (s : Sender). s.tg) (only_one table.senders one a b i j) in absurd (omega arith);
      }
  | inr more ↦
      let lengths : IsTrue (lengths_bear table d) = subst (λ m. IsTrue (bears_in m table d)) mode bearing in
      let each : list_all (leaves_room d table.sg table.senders) table.senders ≡ true =
      ap (λ b. b || list_all (leaves_room d table.sg table.senders) table.senders) (sym (ne_eqb (length table.senders) 1 more)) ∙ lengths in
      subst (λ n. LeavesRoom n table.sg table.senders a) (sym (among_more table d more))
      (room_left d table.sg table.senders a (pass_in (leaves_room d table.sg table.senders) table.senders a each i))
]

-- ---- room

some_words : (sends : List SendLine) → 0 < length sends → 0 < sum_by (λ line. 1 + line.least) sends
some_words [] some = absurd (let p : 0 < 0 = some in omega arith)
some_words (line ∷ sends) some = omega (arith, sum_by-cons (λ (l : SendLine). 1 + l.least) line sends)

some_lines : (table : Table) (sender : Sender) → SenderFacts table sender → 0 < length sender.sends
some_lines table sender facts =
    let offset = and_parts (is_tg sender.tg) _ (and_parts (is_number sender.number) _ facts.in_range).1 in
    let lines = and_parts (is_offset sender.at) _ offset.1 in
    let range = and_parts (nat_le 1 (length sender.sends)) _ (and_parts _ _ (and_parts (are_send_lines sender.sends) _ lines.1).0).0 in
    let least : 1 ≤ length sender.sends = leb-true 1 (length sender.sends) range.0 in
    omega arith

module _ (s : Case) where
  -- sums over senders, in the table's words
  pub spoken_least : least_round (bus s) ≡ least_cycle s.table
  spoken_least =
      let one : sum_below (λ k. value_at (λ b. b.tg) (order s) k + value_at shortest (order s) k) (length (order s)) ≡ sum_by (λ b. b.tg + shortest b) (order s) =
      sum_two (λ b. b.tg) shortest (order s) in
      let two : sum_by (λ b. b.tg + shortest b) (order s) ≡ sum_by (λ b. b.tg + shortest b) s.table.senders = sum_sort (λ b. b.tg + shortest b) (turn_key s.table.mode) s.table.senders in
      omega arith

  pub spoken_most : most_round (bus s) ≡ most_cycle s.table + length s.table.senders * s.d
  spoken_most =
      let one : most_spoken (bus s) ≡ length (order s) * s.d + sum_by (λ b. b.tg + longest b) (order s) = sum_places s.d (λ b. b.tg) longest (order s) in
      let two : sum_by (λ b. b.tg + longest b) (order s) ≡ sum_by (λ b. b.tg + longest b) s.table.senders = sum_sort (λ b. b.tg + longest b) (turn_key s.table.mode) s.table.senders in
      let three : length (order s) * s.d ≡ length s.table.senders * s.d = ap (λ n. n * s.d) (order_length s.table) in
      omega arith

  module _ (room : (b : Sender) → In b s.table.senders → LeavesRoom s.d s.table.sg s.table.senders b) where
    tg_is : (k : ℕ) → k < length (order s) → (b : Sender) × In b s.table.senders × (value_at (λ c. c.tg) (order s) k ≡ b.tg)
    tg_is k known = let p = at s k known in (p.0, of_table s p.0 p.1.there, p.1.has (λ c. c.tg))

    further : (j k : ℕ) → j < k → k < length (order s) → value_at (λ b. b.tg) (order s) j + 2 * s.d < value_at (λ b. b.tg) (order s) k
    further j k less known =
        let p = tg_is j (omega arith) in
        let q = tg_is k known in
        let rise : value_at (λ b. b.tg) (order s) j < value_at (λ b. b.tg) (order s) k = rises_at (λ b. b.tg) (order s) (rises s) j k less known in
        let one : value_at (λ b. b.tg) (order s) j ≡ p.0.tg = p.2 in
        let two : value_at (λ b. b.tg) (order s) k ≡ q.0.tg = q.2 in
        let far : p.0.tg + 2 * s.d < q.0.tg = (room p.0 p.1).apart q.0 q.1 (omega arith) in
        omega arith

    pub has_room : HasRoom (bus s)
    has_room = record {
      some = (let some : 0 < length s.table.senders = s.facts.some in let long : length (order s) ≡ length s.table.senders = order_length s.table in omega arith);
      lasting = λ k known.
          let p = at s k known in
          let is : value_at shortest (order s) k ≡ shortest p.0 = p.1.has shortest in
          let words : 0 < sum_by (λ line. 1 + line.least) p.0.sends = some_words p.0.sends (some_lines s.table p.0 (facts_of s p.0 p.1.there)) in
          omega arith;
      whole = λ k known. (let sg : 9 ≤ s.table.sg = s.facts.sg_least in omega arith);
      drop = λ k more known.
          let p = at s k known in
          let is : value_at (λ b. b.tg) (order s) k ≡ p.0.tg = p.1.has (λ b. b.tg) in
          let least : 8 ≤ p.0.tg = (facts_of s p.0 p.1.there).tg_least in
          omega arith;
      turns = λ j k some less known. further j k less known;
      opening = λ j k less known. (let far : value_at (λ b. b.tg) (order s) j + 2 * s.d < value_at (λ b. b.tg) (order s) k = further j k less known in omega arith);
      waiting = λ j k known also other.
          let p = tg_is j known in
          let is : value_at (λ b. b.tg) (order s) j ≡ p.0.tg = p.2 in
          let short : p.0.tg + 2 * s.d < s.table.sg = (room p.0 p.1).short in
          omega arith;
      joining = λ j k less known.
          let p = tg_is j (omega arith) in
          let is : value_at (λ b. b.tg) (order s) j ≡ p.0.tg = p.2 in
          let least : s.d ≤ p.0.tg = (room p.0 p.1).least in
          omega arith;
      alone = λ one.
          let p = tg_is 0 (omega arith) in
          let is : value_at (λ b. b.tg) (order s) 0 ≡ p.0.tg = p.2 in
          let least : s.d ≤ p.0.tg = (room p.0 p.1).least in
          omega arith;
    }

  pub starts : IsTrue (starts_itself s.table) → StartsItself (bus s)
  starts itself k known =
      let p = at s k known in
      let tg : value_at (λ b. b.tg) (order s) k ≡ p.0.tg = p.1.has (λ b. b.tg) in
      let short : value_at shortest (order s) k ≡ shortest p.0 = p.1.has shortest in
      let timely : s.table.ti ≤ s.table.sg + p.0.tg + shortest p.0 =
      leb-true s.table.ti (s.table.sg + p.0.tg + shortest p.0) (pass_in (λ c. nat_le s.table.ti (s.table.sg + c.tg + shortest c)) s.table.senders p.0 itself (of_table s p.0 p.1.there)) in
      omega arith

  pub has_cycle : s.table.ti ≤ least_cycle s.table → HasCycle (bus s)
  has_cycle fits =
      let least : least_round (bus s) ≡ least_cycle s.table = spoken_least in
      record { others = λ k more known. omega arith; first = omega arith }
