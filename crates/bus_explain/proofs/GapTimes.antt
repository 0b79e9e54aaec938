-- The longest cycle is messages and gaps.
use Rattle.std.specs.Prelude.{◌≡◌, ℕ, ◌+◌, ◌-◌, ◌≤◌, ◌<◌, cond, nat_lt, Bool, true, false, pos, ◌-ℤ◌, List, [], ◌∷◌, map, length, IsTrue}
use Rattle.std.specs.List.{sum_by}
use Rattle.std.proofs.Common.{inl, inr, arith, sym, refl, ap, ◌∙◌}
use Rattle.std.proofs.Math.IntN.{+ℤ-neg_ℤ_cancel}
use Rattle.std.proofs.lemmas.List.Sums.{sum_by-cons}
use Rattle.bus_strings.specs.Shares.{SharesAreNearest}
use Rattle.bus_table.specs.declared.mode.Mode.{Mode}
use Rattle.bus_table.specs.declared.mode.Mode.TheVariants.{Aperiodic, Periodic}
use Rattle.bus_table.specs.Lengths.{longest}
use Rattle.bus_table.specs.Tables.{Sender, Table}
use Rattle.bus_table.specs.Turns.{turn_key, turn_order}
use Rattle.bus_table.specs.Valid.{is_valid}
use Rattle.bus_table.proofs.TurnLaws.{order_length, sum_sort}
use Rattle.bus_table.proofs.ValidLaws.{valid_facts}
use Rattle.bus_regime.specs.declared.table_verdict.TableVerdict.TheVariants.{Accept, ShortCycle}
use Rattle.bus_regime.specs.Gaps.{Gap, gaps_from, last_end, latest_end}
use Rattle.bus_regime.specs.Verdicts.{is_accepted, least_cycle, most_cycle, verdict_in}
use Rattle.bus_regime.proofs.VerdictLaws.{accepted_gaps, periodic_numbers}
use Rattle.bus_plan.proofs.Slack.{AreWide, ends_at, ends_later}
use Rattle.bus_explain.specs.Accepted.{IsAcceptedWith}
use Rattle.bus_explain.specs.Figures.{gap_bits, longest_bits}
use Rattle.bus_explain.specs.Laws.{idle_in, GapsAreTold, LoadIsOfLongestCycle}
use Rattle.bus_explain.proofs.AcceptLemmas.{most_is_some}

-- ---- in periodic mode
-- messages and gaps fill the time
filled_bits : (ti from : ℕ) (ss : List Sender) → AreWide (gaps_from ti from ss)
    → from + sum_by longest ss + sum_by gap_bits (gaps_from ti from ss) ≡ ends_at ti from ss
filled_bits ti from [] wide = omega arith
filled_bits ti from (s ∷ ss) wide =
    let gap : Gap = record { sender = s; from = from; to = ti + s.at } in
    let one : from + s.tg ≤ ti + s.at = wide gap (inl refl) in
    let rest = filled_bits ti (ti + latest_end s) ss (λ gap i. wide gap (inr i)) in
    let sum = sum_by-cons longest s ss in
    let sum_gaps = sum_by-cons gap_bits gap (gaps_from ti (ti + latest_end s) ss) in
    omega (arith, one, rest, sum, sum_gaps)

filled_interval : (ti : ℕ) (order : List Sender) → 0 < length order → AreWide (gaps_from ti (last_end 0 order) order)
    → sum_by longest order + sum_by gap_bits (gaps_from ti (last_end 0 order) order) ≡ ti
filled_interval ti [] some wide = absurd (omega (arith, some))
filled_interval ti (s ∷ ss) some wide =
    let full = filled_bits ti (last_end 0 (s ∷ ss)) (s ∷ ss) wide in
    let later = ends_later ti (latest_end s) ss in
    omega (arith, full, later)

-- ---- in aperiodic mode
sum_both : (senders : List Sender)
    → sum_by (λ sender. sender.tg + longest sender) senders ≡ sum_by longest senders + sum_by (λ sender. sender.tg) senders
sum_both [] = refl
sum_both (s ∷ ss) =
    let rest = sum_both ss in
    let both = sum_by-cons (λ sender. sender.tg + longest sender) s ss in
    let bits = sum_by-cons longest s ss in
    let tgs = sum_by-cons (λ (sender : Sender). sender.tg) s ss in
    omega (arith, rest, both, bits, tgs)

by_test : (test : Bool) (short ti long most least : ℕ) (mode : Mode) → cond test (ShortCycle short ti) (Accept Aperiodic short long) ≡ Accept mode least most
    → long ≡ most
by_test true short ti long most least mode h = absurd cc
by_test false short ti long most least mode h = cc

-- ---- of either
whole_in : (mode : Mode) (table : Table) (least most : ℕ) → table.mode ≡ mode → IsTrue (is_valid table) → IsAcceptedWith table least most
    → longest_bits table + idle_in mode table ≡ most
whole_in Aperiodic table least most e valid h =
    let own : verdict_in Aperiodic table ≡ Accept h.0 least most = sym (ap (λ m. verdict_in m table) e) ∙ h.1 in
    let long = by_test (nat_lt (least_cycle table) table.ti) (least_cycle table) table.ti (most_cycle table) most least h.0 own in
    let both = sum_both table.senders in
    omega (arith, long, both)
whole_in Periodic table least most e valid h =
    let numbers = periodic_numbers table h.0 least most e h.1 in
    let facts = valid_facts table valid in
    let some : 0 < length (turn_order table) = let long = order_length table in let own = facts.some in omega (arith, long, own) in
    let full = filled_interval table.ti (turn_order table) some (λ gap i. (accepted_gaps table e (ap is_accepted h.1) gap i).wide) in
    let same = sum_sort longest (turn_key table.mode) table.senders in
    omega (arith, full, same, numbers.1)

pub load_is_of_longest_cycle : SharesAreNearest → LoadIsOfLongestCycle
load_is_of_longest_cycle nearest table least most valid h = record {
  whole = whole_in table.mode table least most refl valid h;
  nearest = nearest (longest_bits table) most (most_is_some table h.0 least most valid h.1);
}

-- ---- the gaps
difference : (to from : ℕ) → from ≤ to → pos to -ℤ pos from ≡ pos (to - from)
difference to from h =
    let split : to ≡ (to - from) + from = omega (arith, h) in
    ap (λ n. pos n -ℤ pos from) split ∙ +ℤ-neg_ℤ_cancel (pos (to - from)) (pos from)

senders_of : (ti from : ℕ) (ss : List Sender) → map (λ (gap : Gap). gap.sender) (gaps_from ti from ss) ≡ ss
senders_of ti from [] = refl
senders_of ti from (s ∷ ss) = ap (λ rest. s ∷ rest) (senders_of ti (ti + latest_end s) ss)

pub gaps_are_told : GapsAreTold
gaps_are_told table valid mode accepted = (
  senders_of table.ti (last_end 0 (turn_order table)) (turn_order table),
  (λ gap i.
      let fine = accepted_gaps table mode accepted gap i in
      let wide = fine.wide in record {
        verdicts = difference gap.to gap.from (omega (arith, wide));
        lasts = omega (arith, wide);
        wide = omega (arith, wide);
      }),
)
