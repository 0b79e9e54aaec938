-- What the limits of a table tell: exactly what it bears.
use Rattle.std.proofs.Common.{◌≡◌, ◌≢◌, ℕ, zero, suc, ◌+◌, ◌-◌, ◌*◌, ◌/◌, ◌<◌, ◌≤◌, Bool, true, false, cond, ◌&&◌, ◌||◌, List, [], ◌∷◌, ◌++◌, map, length, drop, take, Some, inl, inr, arith, sym, refl, ap, ◌∙◌, subst}
use Rattle.std.specs.Prelude.{◌==◌, ◌↔◌, nat_le, IsTrue}
use Rattle.std.specs.List.{list_all}
use Rattle.std.proofs.lemmas.Bool.{eq-eqb, ne_eqb, cases_eq}
use Rattle.std.proofs.lemmas.List.Folds.{list_all-append}
use Rattle.bus_strings.specs.Members.{In}
use Rattle.bus_table.specs.declared.mode.Mode.{Mode}
use Rattle.bus_table.specs.declared.mode.Mode.TheVariants.{Aperiodic, Periodic}
use Rattle.bus_table.specs.inside.Facts.{TableFacts}
use Rattle.bus_table.specs.Tables.{Sender, Table}
use Rattle.bus_table.specs.Turns.{turn_key, turn_order}
use Rattle.bus_table.specs.Valid.{is_valid}
use Rattle.bus_table.proofs.TurnLaws.{from_sort}
use Rattle.bus_table.proofs.ValidLaws.{valid_facts}
use Rattle.bus_regime.specs.Gaps.{Gap, gaps}
use Rattle.bus_schedule.specs.Slack.{is_wide, all_stay, stays}
use Rattle.bus_reach.specs.Bearing.{bears, bears_in}
use Rattle.bus_reach.specs.Limits.{farthest, least_limit, least_limits, next_limit, next_limits, gap_limit, sync_limit, sync_limits, limits_in, is_borne, LimitsTellBearing}
use Rattle.bus_reach.specs.Tolerance.{is_apart, leaves_room, no_less, stand_apart, neighbours_leave_room}
use Rattle.bus_strings.proofs.ListLaws.{some_at, drop_at}
use Rattle.std.proofs.lemmas.List.{drop_all}
use Rattle.bus_table.specs.inside.Orders.{Rises}
use Rattle.bus_table.proofs.TurnLaws.{order_rises}
use Rattle.bus_reach.specs.declared.limit.Rule.{Rule}
use Rattle.bus_reach.specs.declared.limit.Rule.TheVariants.{LeastGap, NextGap, OwnGap, Sync}
use Rattle.bus_reach.specs.Limits.{limit}
use Rattle.bus_reach.proofs.GreatestLemmas.{IsSteady, steady, taken_tells}
use Rattle.bus_reach.proofs.LimitLemmas.{at_most, tg_near, apart_as, between_near, all_short, Fine, fine, wide_gap, wide_as, gap_near, sync_steady}
use Rattle.bus_reach.proofs.Modes.{in_periodic}
use Rattle.bus_reach.proofs.Neighbours.{neighbours_tell_bearing}
use Rattle.bus_reach.proofs.Rotating.{around, stay_next, take_here}

-- a limit of a steady test bears what the test takes
told : (table : Table) (rule : Rule) (test : ℕ → Bool) (d : ℕ) → IsSteady test (farthest table) → is_borne d (limit table rule test) ≡ test d
told table rule test d h = taken_tells test (farthest table) d h

and_true : (b : Bool) → (b && true) ≡ b
and_true true = refl
and_true false = refl

-- ---- aperiodic
half : (a b : ℕ) → a < b → (d : ℕ) → (d ≤ (b - a - 1) / 2) ↔ (a + 2 * d < b)
half a b less d = ((λ low. omega arith), (λ over. omega arith))

first_told : (table : Table) (order : List Sender) (d : ℕ) → TableFacts table → ((a : Sender) → In a order → In a table.senders)
    → list_all (is_borne d) (least_limits table order) ≡ no_less d order
first_told table [] d facts there = refl
first_told table (first ∷ order) d facts there =
    and_true (is_borne d (least_limit table first))
    ∙ told table (LeastGap first.number) (λ e. nat_le e first.tg) d
    (steady (λ e. nat_le e first.tg) first.tg (farthest table) (at_most first.tg) (tg_near table first facts (there first (inl refl))))

next_told : (table : Table) (a : Sender) (next d : ℕ) → TableFacts table → a.tg < next → next ≤ table.sg
    → is_borne d (next_limit table a next) ≡ is_apart d a.tg next
next_told table a next d facts longer low =
    told table (NextGap a.number) (λ e. is_apart e a.tg next) d
    (steady (λ e. is_apart e a.tg next) ((next - a.tg - 1) / 2) (farthest table) (apart_as a.tg next ((next - a.tg - 1) / 2) (half a.tg next longer))
    (between_near table a.tg next ((next - a.tg - 1) / 2) facts (half a.tg next longer) low))

nexts_told : (table : Table) (order : List Sender) (d : ℕ) → TableFacts table → Rises (λ s. s.tg) order → ((a : Sender) → In a order → a.tg < table.sg)
    → list_all (is_borne d) (next_limits table order) ≡ stand_apart d (map (λ (s : Sender). s.tg) order ++ table.sg ∷ [])
nexts_told table [] d facts r short = refl
nexts_told table (a ∷ []) d facts r short =
    ap (λ v. v && true) (next_told table a table.sg d facts (short a (inl refl)) (omega arith))
nexts_told table (a ∷ b ∷ order) d facts r short =
    let low : b.tg < table.sg = short b (inr (inl refl)) in
    ap (λ v. v && list_all (is_borne d) (next_limits table (b ∷ order))) (next_told table a b.tg d facts r.0.0 (omega arith))
    ∙ ap (λ v. is_apart d a.tg b.tg && v) (nexts_told table (b ∷ order) d facts r.1 (λ c i. short c (inr i)))

aperiodic_told : (table : Table) (d : ℕ) → IsTrue (is_valid table) → table.mode ≡ Aperiodic
    → list_all (is_borne d) (limits_in Aperiodic table) ≡ neighbours_leave_room d table.sg (turn_order table)
aperiodic_told table d valid mode =
    let facts = valid_facts table valid in
    list_all-append (is_borne d) (least_limits table (turn_order table)) (next_limits table (turn_order table))
    ∙ ap (λ v. v && list_all (is_borne d) (next_limits table (turn_order table)))
    (first_told table (turn_order table) d facts (λ a i. from_sort (turn_key table.mode) table.senders a i))
    ∙ ap (λ v. no_less d (turn_order table) && v)
    (nexts_told table (turn_order table) d facts (subst (λ m. Rises (turn_key m) (turn_order table)) mode (order_rises table facts)) (all_short table facts))

-- ---- periodic
gaps_told : (table : Table) (gs : List Gap) (d : ℕ) → ((g : Gap) → In g gs → g.from + g.sender.tg ≤ g.to) → ((g : Gap) → In g gs → g.to < farthest table)
    → list_all (is_borne d) (map (gap_limit table) gs) ≡ list_all (is_wide d) gs
gaps_told table [] d wide near = refl
gaps_told table (g ∷ gs) d wide near =
    let own : g.from + g.sender.tg ≤ g.to = wide g (inl refl) in
    let low : g.to < farthest table = near g (inl refl) in
    ap (λ v. v && list_all (is_borne d) (map (gap_limit table) gs))
    (told table (OwnGap g.sender.number) (λ e. is_wide e g) d
    (steady (λ e. is_wide e g) (g.to - g.from - g.sender.tg) (farthest table) (wide_as g (g.to - g.from - g.sender.tg) own refl) (omega arith)))
    ∙ ap (λ v. is_wide d g && v) (gaps_told table gs d (λ h i. wide h (inr i)) (λ h i. near h (inr i)))

syncs_told : (table : Table) (d n k : ℕ) → IsTrue (is_valid table) → Fine table → n + k ≡ length (gaps table)
    → list_all (is_borne d) (sync_limits table (take k (gaps table)) (drop k (gaps table))) ≡ all_stay d table.sg (take k (gaps table)) (drop k (gaps table))
syncs_told table d zero k valid good whole =
    let none : drop k (gaps table) ≡ [] = drop_all k (gaps table) (omega arith) in
    ap (λ l. list_all (is_borne d) (sync_limits table (take k (gaps table)) l)) none ∙ sym (ap (all_stay d table.sg (take k (gaps table))) none)
syncs_told table d (suc n) k valid good whole =
    let w = some_at (gaps table) k (omega arith) in
    let here : take (k + 1) (gaps table) ≡ take k (gaps table) ++ w.0 ∷ [] = take_here (gaps table) k w.0 w.1 in
    ap (λ l. list_all (is_borne d) (sync_limits table (take k (gaps table)) l)) (drop_at (gaps table) k w.0 w.1)
    ∙ ap (λ b. is_borne d (sync_limit table (drop (k + 1) (gaps table) ++ b) w.0) && list_all (is_borne d) (sync_limits table b (drop (k + 1) (gaps table)))) (sym here)
    ∙ ap (λ v. v && list_all (is_borne d) (sync_limits table (take (k + 1) (gaps table)) (drop (k + 1) (gaps table))))
    (told table (Sync w.0.sender.number) (λ e. stays e table.sg w.0.sender.number (Some 0) (around k (gaps table))) d
    (sync_steady table k w.0 valid good w.1 (omega arith)))
    ∙ ap (λ v. stays d table.sg w.0.sender.number (Some 0) (around k (gaps table)) && v) (syncs_told table d n (k + 1) valid good (omega arith))
    ∙ sym (stay_next d table.sg (gaps table) k w.0 w.1)

periodic_told : (table : Table) (d : ℕ) → IsTrue (is_valid table) → table.mode ≡ Periodic → Fine table
    → list_all (is_borne d) (limits_in Periodic table) ≡ (list_all (is_wide d) (gaps table) && all_stay d table.sg [] (gaps table))
periodic_told table d valid mode good =
    list_all-append (is_borne d) (map (gap_limit table) (gaps table)) (sync_limits table [] (gaps table))
    ∙ ap (λ v. v && list_all (is_borne d) (sync_limits table [] (gaps table)))
    (gaps_told table (gaps table) d (λ g i. wide_gap table g good.wide i) (λ g i. gap_near table g valid mode i))
    ∙ ap (λ v. list_all (is_wide d) (gaps table) && v) (syncs_told table d (length (gaps table)) 0 valid good (omega arith))

-- ---- in either mode
pub limits_tell_bearing : LimitsTellBearing
limits_tell_bearing table d valid accepted = elim (cases_eq (length table.senders) 1) [
  | inl one ↦
      let is : (length table.senders == 1) ≡ true = eq-eqb (length table.senders) 1 one in
      alone table.mode is ∙ sym (ap (λ b. list_all (is_borne d) (cond b [] (limits_in table.mode table))) is)
  | inr several ↦
      let not_one : (length table.senders == 1) ≡ false = ne_eqb (length table.senders) 1 several in
      by_mode table.mode refl several ∙ sym (ap (λ b. list_all (is_borne d) (cond b [] (limits_in table.mode table))) not_one)
]
  where
    alone : (mode : Mode) → (length table.senders == 1) ≡ true → bears_in mode table d ≡ true
    alone Aperiodic is = ap (λ b. b || list_all (leaves_room d table.sg table.senders) table.senders) is
    alone Periodic is = ap (λ b. b || (list_all (is_wide d) (gaps table) && all_stay d table.sg [] (gaps table))) is

    by_mode : (mode : Mode) → table.mode ≡ mode → length table.senders ≢ 1 → bears table d ≡ list_all (is_borne d) (limits_in table.mode table)
    by_mode Aperiodic is several =
        neighbours_tell_bearing table d valid is ∙ ap (λ b. b || neighbours_leave_room d table.sg (turn_order table)) (ne_eqb (length table.senders) 1 several)
        ∙ sym (aperiodic_told table d valid is) ∙ ap (λ m. list_all (is_borne d) (limits_in m table)) (sym is)
    by_mode Periodic is several =
        in_periodic table d is
        ∙ ap (λ b. b || (list_all (is_wide d) (gaps table) && all_stay d table.sg [] (gaps table))) (ne_eqb (length table.senders) 1 several)
        ∙ sym (periodic_told table d valid is (fine table valid is accepted several)) ∙ ap (λ m. list_all (is_borne d) (limits_in m table)) (sym is)
