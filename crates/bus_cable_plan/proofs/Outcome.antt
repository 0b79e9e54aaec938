-- Planned offsets are accepted and bear the delay, in the turn order of the table.
use Rattle.std.specs.Prelude.{◌≡◌, ℕ, ◌+◌, ◌-◌, ◌<◌, ◌≤◌, ◌⊎◌, min, Bool, true, false, ◌||◌, ◌==◌, IsTrue, List, [], ◌∷◌, length, map}
use Rattle.std.proofs.Common.{inl, inr, arith, sym, refl, ap, ◌∙◌, subst}
use Rattle.std.proofs.lemmas.Bool.{ne_eqb}
use Rattle.bus_strings.specs.Members.{In}
use Rattle.bus_table.specs.declared.mode.Mode.TheVariants.{Periodic}
use Rattle.bus_table.specs.Tables.{Sender, Table}
use Rattle.bus_table.specs.Lengths.{longest}
use Rattle.bus_table.specs.Offsets.{with_offsets}
use Rattle.bus_table.specs.Turns.{turn_order}
use Rattle.bus_table.specs.Valid.{is_valid}
use Rattle.bus_table.proofs.OffsetLaws.{kept_valid}
use Rattle.bus_table.proofs.ValidLaws.{valid_facts}
use Rattle.bus_regime.specs.Gaps.{gaps}
use Rattle.bus_regime.specs.Verdicts.{verdict_of, is_accepted}
use Rattle.bus_plan.proofs.Moved.{length-at_offsets}
use Rattle.bus_reach.specs.Bearing.{bears}
use Rattle.bus_reach.proofs.Accepting.{bear_zero_is_accepted}
use Rattle.bus_reach.proofs.Modes.{in_periodic}
use Rattle.bus_cable_plan.specs.Plans.{behind, laid_out, by_gap, offsets_in_order, offsets_by_gap}
use Rattle.bus_cable_plan.specs.Answers.{fits}
use Rattle.bus_cable_plan.specs.Laws as laws
use Rattle.bus_cable_plan.specs.Laws.{AreBorne}
use Rattle.bus_cable_plan.specs.Shares.{gaps_hold}
use Rattle.bus_cable_plan.proofs.ByGap.{by_gap_valid, by_gap_length, with_again}
use Rattle.bus_cable_plan.proofs.InOrder as order
use Rattle.bus_cable_plan.proofs.InOrder.{from_offsets, order_bears, gaps_planned, plan_of_order, plan_gap, order_planned}
use Rattle.bus_cable_plan.proofs.Wider.{wider_bear, wider_same}

-- ---- what a table bears is what its gaps bear
pub or_right : (a b : Bool) → b ≡ true → (a || b) ≡ true
or_right true b h = refl
or_right false b h = h

pub or_cases : (a b : Bool) → (a || b) ≡ true → (a ≡ true) ⊎ (b ≡ true)
or_cases true b h = inl refl
or_cases false b h = inr h

pub from_gaps : (table : Table) (d : ℕ) → table.mode ≡ Periodic → gaps_hold d table.sg (gaps table) ≡ true → bears table d ≡ true
from_gaps table d mode h = in_periodic table d mode ∙ or_right (length table.senders == 1) (gaps_hold d table.sg (gaps table)) h

pub to_gaps : (table : Table) (d : ℕ) → table.mode ≡ Periodic → 1 < length table.senders → bears table d ≡ true
    → gaps_hold d table.sg (gaps table) ≡ true
to_gaps table d mode several h =
    subst (λ b. (b || gaps_hold d table.sg (gaps table)) ≡ true) (ne_eqb (length table.senders) 1 (omega arith)) (sym (in_periodic table d mode) ∙ h)

-- offsets below the interval whose gaps bear d
made : (d : ℕ) (table : Table) (offsets : List ℕ) → IsTrue (is_valid table) → table.mode ≡ Periodic → 1 < length table.senders
    → length offsets ≡ length table.senders → ((at : ℕ) → In at offsets → at < table.ti)
    → gaps_hold d table.sg (gaps (with_offsets offsets table)) ≡ true → AreBorne d table offsets
made d table offsets valid mode several count below hold =
    let moved : Table = with_offsets offsets table in
    let after : IsTrue (is_valid moved) = kept_valid table offsets valid mode below in
    let long = length-at_offsets offsets table.senders in
    let none = wider_bear 0 d table.sg (gaps moved) (gaps moved) (omega arith) (wider_same (gaps moved)) hold in
    record {
      count = count;
      below = below;
      valid = after;
      accepted = bear_zero_is_accepted moved after mode (omega (arith, several, long)) (from_gaps moved 0 mode none);
      borne = from_gaps moved d mode hold;
    }

-- what is borne is borne for less
pub less_borne : (less d : ℕ) (table : Table) (offsets : List ℕ) → IsTrue (is_valid table) → table.mode ≡ Periodic → 1 < length table.senders
    → less ≤ d → AreBorne d table offsets → AreBorne less table offsets
less_borne less d table offsets valid mode several low b =
    let moved : Table = with_offsets offsets table in
    let long = length-at_offsets offsets table.senders in
    made less table offsets valid mode several b.count b.below
    (wider_bear less d table.sg (gaps moved) (gaps moved) low (wider_same (gaps moved))
    (to_gaps moved d mode (omega (arith, several, long)) b.borne))

-- ---- planned offsets
pub order_is_planned : laws.OrderIsPlanned
order_is_planned d table valid mode several fits =
    let facts = valid_facts table valid in
    made d table (offsets_in_order d table) valid mode several (order.offsets_count d table) (order.offsets_below d table facts fits)
    (order.planned_hold d table facts mode several fits)

numbers_behind : (gap : Sender → ℕ) (end rest : ℕ) (ss : List Sender)
    → map (λ (s : Sender). s.number) (behind gap end rest ss) ≡ map (λ (s : Sender). s.number) ss
numbers_behind gap end rest [] = refl
numbers_behind gap end rest (s ∷ ss) =
    ap (λ l. s.number ∷ l) (numbers_behind gap (end + (gap s + min rest 1) + longest s) (rest - 1) ss)

numbers_laid : (gap : Sender → ℕ) (rest : ℕ) (ss : List Sender)
    → map (λ (s : Sender). s.number) (laid_out gap rest ss) ≡ map (λ (s : Sender). s.number) ss
numbers_laid gap rest [] = refl
numbers_laid gap rest (s ∷ ss) = ap (λ l. s.number ∷ l) (numbers_behind gap (longest s) (rest - 1) ss)

pub order_is_kept : laws.OrderIsKept
order_is_kept d table valid mode =
    ap (map (λ (s : Sender). s.number)) (order_planned d table (valid_facts table valid) mode)
    ∙ numbers_laid (order.gap_for d table) (order.rest_for d table) (turn_order table)

pub planned_bears : laws.PlannedBears
planned_bears d table valid mode several fits =
    let ordered : Table = by_gap table in
    let many = by_gap_length table in
    let b : AreBorne d ordered (offsets_in_order d ordered) =
    order_is_planned d ordered (by_gap_valid table valid mode) mode (omega (arith, many, several)) fits in
    let count : length (offsets_by_gap d table) ≡ length table.senders = b.count ∙ many in
    let same = with_again table (offsets_by_gap d table) count in
    record {
      count = count;
      below = b.below;
      valid = subst (λ t. IsTrue (is_valid t)) same b.valid;
      accepted = subst (λ t. IsTrue (is_accepted (verdict_of t))) same b.accepted;
      borne = subst (λ t. IsTrue (bears t d)) same b.borne;
    }
