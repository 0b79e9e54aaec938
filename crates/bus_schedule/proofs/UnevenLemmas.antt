-- Hands are even exactly where no sender differs from the first in turn order.
use Rattle.std.proofs.Common.{◌≡◌, ◌≢◌, ℕ, zero, suc, ◌+◌, ◌<◌, ◌≤◌, true, ◌↔◌, List, [], ◌∷◌, length, drop, Option, Some, None, inl, inr, arith, sym, refl, ap, ◌∙◌, subst}
use Rattle.std.specs.Prelude.{◌==◌, slice_get, is_some, IsNone, IsTrue, IsSomeAnd}
use Rattle.std.specs.List.{list_all}
use Rattle.std.proofs.lemmas.Bool.{and_parts, eqb-true, eq-eqb, ne_eqb, cases_eq, and_from}
use Rattle.bus_strings.specs.Members.{In}
use Rattle.bus_strings.proofs.ListLaws.{drop_at}
use Rattle.bus_table.specs.Tables.{Sender, Table, Hand}
use Rattle.bus_table.specs.Hands.{are_hands}
use Rattle.bus_table.specs.inside.Facts.{TableFacts}
use Rattle.bus_table.specs.Fits.{fits}
use Rattle.bus_table.specs.Turns.{turn_key, turn_order}
use Rattle.bus_table.specs.inside.Orders.{Differ}
use Rattle.bus_table.proofs.TurnLaws.{from_sort, in_sort, numbers_differ, length-sort}
use Rattle.bus_table.specs.Valid.{is_valid}
use Rattle.bus_table.proofs.ValidLaws.{valid_facts}
use Rattle.bus_schedule.specs.declared.uneven.Uneven.{Uneven}
use Rattle.bus_schedule.specs.Even.{rounds, are_even}
use Rattle.bus_schedule.specs.Uneven.{count_of, counts_of, differing, uneven_in, uneven_of}
use Rattle.bus_schedule.proofs.HandLaws.{hand_here, hand_of_other}
use Rattle.bus_schedule.proofs.HandLemmas.{own_count}

-- a sender that has as many messages isn't one that differs
differing_same : (hands : List Hand) (one : ℕ) (other : Sender) (order : List Sender) → count_of hands other.number ≡ count_of hands one
    → differing hands one (other ∷ order) ≡ differing hands one order
differing_same hands one other order e = rw (eq-eqb (count_of hands other.number) (count_of hands one) e) refl

differing_here : (hands : List Hand) (one : ℕ) (other : Sender) (order : List Sender) → count_of hands other.number ≢ count_of hands one
    → differing hands one (other ∷ order) ≡ Some (counts_of hands one other.number)
differing_here hands one other order e = rw (ne_eqb (count_of hands other.number) (count_of hands one) e) refl

-- none differs where all have as many
all_same : (hands : List Hand) (one : ℕ) (order : List Sender) → ((s : Sender) → In s order → count_of hands s.number ≡ count_of hands one)
    → differing hands one order ≡ None
all_same hands one [] h = refl
all_same hands one (s ∷ order) h = differing_same hands one s order (h s (inl refl)) ∙ all_same hands one order (λ t i. h t (inr i))

same_all : (hands : List Hand) (one : ℕ) (order : List Sender) → differing hands one order ≡ None → (s : Sender) → In s order
    → count_of hands s.number ≡ count_of hands one
same_all hands one [] h s i = absurd i
same_all hands one (t ∷ order) h s i = elim (cases_eq (count_of hands t.number) (count_of hands one)) [
  | inl same ↦ elim i [
    | inl here ↦ ap (λ (r : Sender). count_of hands r.number) here ∙ same
    | inr there ↦ same_all hands one order (sym (differing_same hands one t order same) ∙ h) s there
  ]
  | inr apart ↦ let clash : Some (counts_of hands one t.number) ≡ None = sym (differing_here hands one t order apart) ∙ h in absurd cc
]

none_is : (o : Option Uneven) → IsNone o → o ≡ None
none_is None h = refl
none_is (Some u) h = absurd cc

-- each hand has as many messages as the sender to which it was dealt
hands_count : (n : ℕ) (senders : List Sender) (hands : List Hand) → are_hands senders hands ≡ true → Differ (λ s. s.number) senders
    → ((s : Sender) → In s senders → count_of hands s.number ≡ n) → list_all (λ hand. length hand.messages == n) hands ≡ true
hands_count n [] [] h d counts = refl
hands_count n [] (hand ∷ hands) h d counts = absurd cc
hands_count n (a ∷ senders) [] h d counts = absurd cc
hands_count n (a ∷ senders) (hand ∷ hands) h d counts =
    let parts = and_parts (hand.terminal == a.number) _ h in
    let own = and_parts (list_all (fits a) hand.messages) _ parts.1 in
    let number : hand.terminal ≡ a.number = eqb-true hand.terminal a.number parts.0 in
    let first : length hand.messages ≡ n = sym (ap length (hand_here hand hands a.number number)) ∙ counts a (inl refl) in
    and_from (length hand.messages == n) (list_all (λ hand. length hand.messages == n) hands) (eq-eqb (length hand.messages) n first)
    (hands_count n senders hands own.1 d.1 (λ s i. sym (ap length (hand_of_other a senders hand hands s d number i)) ∙ counts s (inr i)))

-- the rounds of hands are the messages of the first sender of the table
rounds_first : (a : Sender) (senders : List Sender) (hands : List Hand) → are_hands (a ∷ senders) hands ≡ true → rounds hands ≡ count_of hands a.number
rounds_first a senders [] h = absurd cc
rounds_first a senders (hand ∷ hands) h = sym (ap length (hand_here hand hands a.number (eqb-true hand.terminal a.number (and_parts (hand.terminal == a.number) _ h).0)))

rounds_is : (n : ℕ) (senders : List Sender) (hands : List Hand) → 0 < length senders → are_hands senders hands ≡ true
    → ((s : Sender) → In s senders → count_of hands s.number ≡ n) → rounds hands ≡ n
rounds_is n [] hands some h counts = absurd (omega arith)
rounds_is n (a ∷ senders) hands some h counts = rounds_first a senders hands h ∙ counts a (inl refl)

-- in an order of the table's senders, none differs from the first exactly where the hands are even
in_order_even : (table : Table) (hands : List Hand) (order : List Sender) → TableFacts table → IsTrue (are_hands table.senders hands)
    → ((s : Sender) → In s order → In s table.senders) → ((s : Sender) → In s table.senders → In s order)
    → IsNone (uneven_in hands order) ↔ IsTrue (are_even table hands)
in_order_even table hands [] facts dealt from to =
    let none : (senders : List Sender) → 0 < length senders → ((s : Sender) → In s senders → ⊥) → ⊥ = λ senders some h. no_senders senders some h in
    absurd (none table.senders facts.some (λ s i. to s i))
  where
    no_senders : (senders : List Sender) → 0 < length senders → ((s : Sender) → In s senders → ⊥) → ⊥
    no_senders [] some h = omega arith
    no_senders (a ∷ senders) some h = h a (inl refl)
in_order_even table hands (first ∷ order) facts dealt from to =
    let d = numbers_differ table facts in (
      (λ h.
          let same : (s : Sender) → In s table.senders → count_of hands s.number ≡ count_of hands first.number = λ s i. elim (to s i) [
            | inl here ↦ ap (λ (r : Sender). count_of hands r.number) here
            | inr there ↦ same_all hands first.number order (none_is (differing hands first.number order) h) s there
          ] in
          let n : rounds hands ≡ count_of hands first.number = rounds_is (count_of hands first.number) table.senders hands facts.some dealt same in
          and_from (are_hands table.senders hands) (list_all (λ hand. length hand.messages == rounds hands) hands) dealt (hands_count (rounds hands) table.senders hands dealt d (λ s i. same s i ∙ sym n))),
      (λ h.
          let counts = (and_parts (are_hands table.senders hands) _ h).1 in
          let own : (s : Sender) → In s table.senders → count_of hands s.number ≡ rounds hands = own_count (rounds hands) table.senders hands dealt counts d in
          ap is_some (all_same hands first.number order (λ s i. own s (from s (inr i)) ∙ sym (own first (from first (inl refl)))))),
    )

pub uneven_even : (table : Table) (hands : List Hand) → IsTrue (is_valid table) → IsTrue (are_hands table.senders hands)
    → IsNone (uneven_of table hands) ↔ IsTrue (are_even table hands)
uneven_even table hands valid dealt = in_order_even table hands (turn_order table) (valid_facts table valid) dealt (from_sort (turn_key table.mode) table.senders) (in_sort (turn_key table.mode) table.senders)

-- ---- the loop over the turn order
-- what stands at a place of the order
pub at_place : (order : List Sender) (k : ℕ) (number : ℕ) → IsSomeAnd (slice_get order k) (λ s. number ≡ s.number)
    → (s : Sender) × (slice_get order k ≡ Some s) × (number ≡ s.number)
at_place order k number h = chosen (slice_get order k) refl h
  where
    chosen : (o : Option Sender) → slice_get order k ≡ o → IsSomeAnd o (λ s. number ≡ s.number) → (s : Sender) × (slice_get order k ≡ Some s) × (number ≡ s.number)
    chosen None e i = absurd i
    chosen (Some s) e i = (s, e, i)

-- the first of the order, and those behind it
first_of_order : (hands : List Hand) (order : List Sender) (one : ℕ) → IsSomeAnd (slice_get order 0) (λ s. one ≡ s.number)
    → uneven_in hands order ≡ differing hands one (drop 1 order)
first_of_order hands [] one h = absurd h
first_of_order hands (s ∷ order) one h = ap (λ n. differing hands n order) (sym h)

-- the first of the order doesn't differ from the one at this place
pub still_same : (hands : List Hand) (order : List Sender) (one k other : ℕ) → IsSomeAnd (slice_get order k) (λ s. other ≡ s.number)
    → count_of hands other ≡ count_of hands one → differing hands one (drop (k + 1) order) ≡ differing hands one (drop k order)
still_same hands order one k other h same =
    let at = at_place order k other h in
    sym (differing_same hands one at.0 (drop (k + 1) order) (ap (count_of hands) (sym at.2) ∙ same)) ∙ ap (differing hands one) (sym (drop_at order k at.0 at.1))

-- it differs from the one at this place, and from none before it
pub now_differs : (hands : List Hand) (order : List Sender) (one k other : ℕ) → IsSomeAnd (slice_get order 0) (λ s. one ≡ s.number)
    → IsSomeAnd (slice_get order k) (λ s. other ≡ s.number) → count_of hands other ≢ count_of hands one
    → differing hands one (drop k order) ≡ differing hands one (drop 1 order) → Some (counts_of hands one other) ≡ uneven_in hands order
now_differs hands order one k other first h apart so =
    let at = at_place order k other h in
    ap (λ n. Some (counts_of hands one n)) at.2
    ∙ sym (differing_here hands one at.0 (drop (k + 1) order) (λ e. apart (ap (count_of hands) at.2 ∙ e)))
    ∙ ap (differing hands one) (sym (drop_at order k at.0 at.1)) ∙ so ∙ sym (first_of_order hands order one first)

-- it differs from none
pub never_differs : (table : Table) (hands : List Hand) (one k : ℕ) → IsSomeAnd (slice_get (turn_order table) 0) (λ s. one ≡ s.number)
    → length table.senders ≤ k → differing hands one (drop k (turn_order table)) ≡ differing hands one (drop 1 (turn_order table))
    → None ≡ uneven_of table hands
never_differs table hands one k first past so =
    let long : length (turn_order table) ≡ length table.senders = length-sort (turn_key table.mode) table.senders in
    ap (differing hands one) (sym (drop_past k (turn_order table) (omega arith))) ∙ so ∙ sym (first_of_order hands (turn_order table) one first)
  where
    drop_past : (n : ℕ) (order : List Sender) → length order ≤ n → drop n order ≡ []
    drop_past n [] h = drop_none n
      where
        drop_none : (m : ℕ) → drop m (let x : List Sender = [] in x) ≡ []
        drop_none zero = refl
        drop_none (suc m) = refl
    drop_past zero (s ∷ order) h = absurd (omega arith)
    drop_past (suc n) (s ∷ order) h = drop_past n order (omega arith)

-- the clause on even hands, of what was found
pub even_of : (table : Table) (hands : List Hand) (found : Option Uneven) → found ≡ uneven_of table hands → IsTrue (is_valid table)
    → IsTrue (are_hands table.senders hands) → IsNone found ↔ IsTrue (are_even table hands)
even_of table hands found e valid dealt = subst (λ o. IsNone o ↔ IsTrue (are_even table hands)) (sym e) (uneven_even table hands valid dealt)
