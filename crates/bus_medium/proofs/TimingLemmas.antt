-- What the senders of a valid table have.
use Rattle.std.proofs.Common.{◌≡◌, ℕ, zero, suc, ◌<◌, ◌≤◌, false, eq-eqb, List, [], ◌∷◌, length, get_or, map, Some, arith, sym, ap, refl, ◌∙◌, subst}
use Rattle.std.specs.Prelude.{nat_eq, slice_get, IsTrue}
use Rattle.std.specs.List.{AllByRecursion, IsDistinct}
use Rattle.std.proofs.lemmas.Bool.{true≢false}
use Rattle.std.proofs.lemmas.List.{length-map}
use Rattle.bus_table.specs.Tables.{Sender, Table}
use Rattle.bus_table.specs.Valid.{is_valid}
use Rattle.bus_table.specs.inside.Facts.{SenderFacts}
use Rattle.bus_table.proofs.ValidLaws.{valid_facts}
use Rattle.bus_medium.specs.Orders.{AreNumbers}
use Rattle.bus_medium.specs.inside.Seating.{AreDistinct}

pub sender_at : (table : Table) (senders : List Sender) (k : ℕ) (s : Sender) → AllByRecursion (SenderFacts table) senders → slice_get senders k ≡ Some s → SenderFacts table s
sender_at table [] k s a h = cc
sender_at table (r ∷ senders) zero s a h = let same : r ≡ s = cc in subst (SenderFacts table) same a.0
sender_at table (r ∷ senders) (suc k) s a h = sender_at table senders k s a.1 h

pub sender_facts : (table : Table) (k : ℕ) (s : Sender) → IsTrue (is_valid table) → slice_get table.senders k ≡ Some s → SenderFacts table s
sender_facts table k s valid at = sender_at table table.senders k s (valid_facts table valid).senders at

number_at : (senders : List Sender) (k : ℕ) → k < length senders → (s : Sender) × (slice_get senders k ≡ Some s) × (get_or (map (λ r. r.number) senders) k 0 ≡ s.number)
number_at [] k h = absurd (omega arith)
number_at (s ∷ senders) zero h = (s, refl, refl)
number_at (s ∷ senders) (suc k) h = number_at senders k (omega arith)

-- the numbers of a valid table's senders are numbers of terminals
pub are_numbers : (table : Table) → IsTrue (is_valid table) → AreNumbers (map (λ s. s.number) table.senders)
are_numbers table valid k h =
    let w = number_at table.senders k (omega (arith, length-map table.senders (λ (s : Sender). s.number))) in
    let f : SenderFacts table w.0 = sender_facts table k w.0 valid w.1 in
    let least : 1 ≤ w.0.number = f.number_least in
    let most : w.0.number ≤ 128 = f.number_most in
    let same : get_or (map (λ s. s.number) table.senders) k 0 ≡ w.0.number = w.2 in
    (omega arith, omega arith)

-- and no two of them are the same
apart : (n : ℕ) (ns : List ℕ) (k : ℕ) → AllByRecursion (λ m. nat_eq n m ≡ false) ns → k < length ns → get_or ns k 0 ≡ n → ⊥
apart n [] k a h e = omega arith
apart n (m ∷ ns) zero a h e = true≢false (sym (eq-eqb n m (sym e)) ∙ a.0)
apart n (m ∷ ns) (suc k) a h e = apart n ns k a.1 (omega arith) e

distinct_apart : (ns : List ℕ) → IsDistinct nat_eq ns → AreDistinct ns
unfolding IsDistinct
distinct_apart [] d p r p_in r_in e = absurd (omega arith)
distinct_apart (n ∷ ns) d zero zero p_in r_in e = refl
distinct_apart (n ∷ ns) d zero (suc r) p_in r_in e = absurd (apart n ns r d.0 (omega arith) (sym e))
distinct_apart (n ∷ ns) d (suc p) zero p_in r_in e = absurd (apart n ns p d.0 (omega arith) e)
distinct_apart (n ∷ ns) d (suc p) (suc r) p_in r_in e = ap suc (distinct_apart ns d.1 p r (omega arith) (omega arith) e)

pub are_distinct : (table : Table) → IsTrue (is_valid table) → AreDistinct (map (λ s. s.number) table.senders)
are_distinct table valid = distinct_apart (map (λ s. s.number) table.senders) (valid_facts table valid).numbers
