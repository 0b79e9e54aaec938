-- How the tolerance of a table is found, and that no table of several senders bears a delay of two transmit intervals.
use Rattle.std.proofs.Common.{◌≡◌, ◌≢◌, ℕ, ◌+◌, ◌*◌, ◌<◌, ◌≤◌, Bool, true, cond, List, [], ◌∷◌, length, Some, None, inl, arith, sym, refl, ap, ◌∙◌, subst}
use Rattle.std.specs.Prelude.{◌&&◌, ◌||◌, ◌==◌, ◌↔◌, IsTrue, IsNone, IfSome, Option}
use Rattle.std.specs.List.{list_all}
use Rattle.std.proofs.lemmas.Bool.{and_parts, eq-eqb, leb-true, ne_eqb}
use Rattle.bus_strings.specs.Members.{In}
use Rattle.bus_strings.proofs.MemberLaws.{of_each}
use Rattle.bus_table.specs.declared.mode.Mode.{Mode}
use Rattle.bus_table.specs.declared.mode.Mode.TheVariants.{Aperiodic, Periodic}
use Rattle.bus_table.specs.inside.Facts.{FitsMode, SenderFacts, TableFacts}
use Rattle.bus_table.specs.Tables.{Sender, Table}
use Rattle.bus_table.specs.Turns.{turn_key, turn_order}
use Rattle.bus_table.specs.Valid.{is_valid}
use Rattle.bus_table.proofs.TurnLaws.{from_sort, length-sort}
use Rattle.bus_table.proofs.ValidLaws.{valid_facts}
use Rattle.bus_regime.specs.Gaps.{gaps, gaps_from, last_end}
use Rattle.bus_schedule.specs.Slack.{is_wide, all_stay}
use Rattle.bus_reach.specs.Bearing.{bears, bears_in, greatest_to, tolerance_of}
use Rattle.bus_reach.specs.Tolerance.{leaves_room}
use Rattle.bus_reach.proofs.GreatestLemmas.{greatest_is}

-- ---- what is borne is less than two transmit intervals
-- one sender that a test takes, of some
one_of : (test : Sender → Bool) (senders : List Sender) → 0 < length senders → list_all test senders ≡ true
    → (s : Sender) × In s senders × (test s ≡ true)
one_of test [] some h = absurd (let none : 0 < 0 = some in omega arith)
one_of test (s ∷ senders) some h = let both = and_parts (test s) (list_all test senders) h in (s, inl refl, both.0)

-- the first gap has room for the delay
first_gap : (d ti from : ℕ) (order : List Sender) → 0 < length order → list_all (is_wide d) (gaps_from ti from order) ≡ true
    → (s : Sender) × In s order × (d ≤ ti + s.at)
first_gap d ti from [] some h = absurd (let none : 0 < 0 = some in omega arith)
first_gap d ti from (s ∷ order) some h =
    let both = and_parts (is_wide d (record { sender = s; from = from; to = ti + s.at })) _ h in
    let wide : from + (s.tg + d) ≤ ti + s.at = leb-true (from + (s.tg + d)) (ti + s.at) both.0 in
    (s, inl refl, omega arith)

-- without the case of one sender
of_several : (table : Table) (rest : Bool) → length table.senders ≢ 1 → (length table.senders == 1 || rest) ≡ true → rest ≡ true
of_several table rest several h = subst (λ b. (b || rest) ≡ true) (ne_eqb (length table.senders) 1 several) h

below_in : (mode : Mode) (table : Table) (d : ℕ) → table.mode ≡ mode → TableFacts table → length table.senders ≢ 1 → bears_in mode table d ≡ true
    → d < 2 * table.ti
below_in Aperiodic table d mode facts several h =
    let rooms : list_all (leaves_room d table.sg table.senders) table.senders ≡ true = of_several table _ several h in
    let one = one_of (leaves_room d table.sg table.senders) table.senders facts.some rooms in
    let both = and_parts _ _ one.2 in
    let low : d ≤ one.0.tg = leb-true d one.0.tg both.0 in
    let sender : SenderFacts table one.0 = of_each (SenderFacts table) table.senders facts.senders one.0 one.1 in
    let tg : one.0.tg ≤ 256 = sender.tg_most in
    let ti : 1000 ≤ table.ti = facts.ti_least in
    omega arith
below_in Periodic table d mode facts several h =
    let all : (list_all (is_wide d) (gaps table) && all_stay d table.sg [] (gaps table)) ≡ true = of_several table _ several h in
    let wide : list_all (is_wide d) (gaps table) ≡ true = (and_parts (list_all (is_wide d) (gaps table)) _ all).0 in
    let long : length (turn_order table) ≡ length table.senders = length-sort (turn_key table.mode) table.senders in
    let some : 0 < length table.senders = facts.some in
    let one = first_gap d table.ti (last_end 0 (turn_order table)) (turn_order table) (omega arith) wide in
    let here : In one.0 table.senders = from_sort (turn_key table.mode) table.senders one.0 one.1 in
    let sender : SenderFacts table one.0 = of_each (SenderFacts table) table.senders facts.senders one.0 here in
    let early : one.0.at < table.ti = subst (λ m. FitsMode m table.ti one.0.at) mode sender.mode in
    let room : d ≤ table.ti + one.0.at = one.2 in
    omega arith

pub borne_below : (table : Table) (d : ℕ) → IsTrue (is_valid table) → length table.senders ≢ 1 → IsTrue (bears table d) → d < 2 * table.ti
borne_below table d valid several h = below_in table.mode table d refl (valid_facts table valid) several h

-- ---- what is found
pub found : (table : Table) (result : Option ℕ) → IsTrue (is_valid table) → (IsNone result ↔ (length table.senders ≡ 1))
    → IfSome result (λ most. (d : ℕ) → (d ≤ most) ↔ IsTrue (bears table d)) → result ≡ tolerance_of table
found table None valid alone greatest =
    sym (ap (λ b. cond b None (Some (greatest_to (bears table) (2 * table.ti)))) (eq-eqb (length table.senders) 1 (alone.0 refl)))
found table (Some most) valid alone greatest =
    let several : length table.senders ≢ 1 = λ e. (let none : IsNone (Some most) = alone.1 e in cc) in
    let takes : IsTrue (bears table most) = (greatest most).0 (omega arith) in
    let low : most < 2 * table.ti = borne_below table most valid several takes in
    ap Some (sym (greatest_is (bears table) most (2 * table.ti) greatest (omega arith)))
    ∙ sym (ap (λ b. cond b None (Some (greatest_to (bears table) (2 * table.ti)))) (ne_eqb (length table.senders) 1 several))

found_below : (table : Table) (result : Option ℕ) → IsTrue (is_valid table) → (IsNone result ↔ (length table.senders ≡ 1))
    → IfSome result (λ most. (d : ℕ) → (d ≤ most) ↔ IsTrue (bears table d)) → IfSome result (λ most. most < 2 * table.ti)
found_below table None valid alone greatest = tt
found_below table (Some most) valid alone greatest =
    let several : length table.senders ≢ 1 = λ e. (let none : IsNone (Some most) = alone.1 e in cc) in
    borne_below table most valid several ((greatest most).0 (omega arith))

-- the same of what is found in a mode
abbrev IsGreatestIn : Mode → Table → Option ℕ → Type 0
IsGreatestIn mode table result = IfSome result (λ most. (d : ℕ) → (d ≤ most) ↔ IsTrue (bears_in mode table d))

pub found_in : (mode : Mode) (table : Table) (result : Option ℕ) → table.mode ≡ mode → IsTrue (is_valid table)
    → (IsNone result ↔ (length table.senders ≡ 1)) → IsGreatestIn mode table result → result ≡ tolerance_of table
found_in mode table result is valid alone greatest = found table result valid alone (subst (λ m. IsGreatestIn m table result) (sym is) greatest)

pub below_found : (mode : Mode) (table : Table) (result : Option ℕ) → table.mode ≡ mode → IsTrue (is_valid table)
    → (IsNone result ↔ (length table.senders ≡ 1)) → IsGreatestIn mode table result → IfSome result (λ most. most < 2 * table.ti)
below_found mode table result is valid alone greatest = found_below table result valid alone (subst (λ m. IsGreatestIn m table result) (sym is) greatest)
