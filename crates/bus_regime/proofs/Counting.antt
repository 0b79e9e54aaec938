-- How many gaps have a synchronization gap tells whether another sender's has one.
use Rattle.std.proofs.Common.{◌≡◌, ◌≢◌, ℕ, zero, suc, ◌+◌, ◌<◌, ◌≤◌, List, [], ◌∷◌, length, get_or, take, inl, inr, arith, sym, refl, ap, ◌∙◌, cond}
use Rattle.std.specs.Prelude.{Bool, true, false, not, ◌&&◌, ◌||◌, ◌==◌, Some, slice_get, IsTrue}
use Rattle.std.specs.List.{count_by, list_any}
use Rattle.std.proofs.lemmas.Bool.{eq-eqb, ne_eqb}
use Rattle.std.proofs.lemmas.List.Sums.{count_by_more_no, count_by_more_yes, sum_by-cons}
use Rattle.std.proofs.lemmas.List.{take_all}
use Rattle.std.proofs.lemmas.Option.{slice_get_within, get_or_from_slice_get}
use Rattle.bus_strings.specs.Members.{In}
use Rattle.bus_table.specs.Tables.{Sender, Table}
use Rattle.bus_table.specs.Turns.{turn_key, turn_order}
use Rattle.bus_table.specs.inside.Orders.{Rises}
use Rattle.bus_table.proofs.TurnLaws.{behind_rises, from_sort, numbers_differ, order_rises}
use Rattle.bus_table.specs.Valid.{is_valid}
use Rattle.bus_table.specs.inside.Facts.{TableFacts}
use Rattle.bus_table.proofs.ValidLaws.{valid_facts}
use Rattle.bus_regime.proofs.GapLaws.{gap_sender, same_by_number}
use Rattle.bus_regime.specs.Gaps.{Gap, latest_end, last_end, gaps_from, gaps, has_width}
use Rattle.bus_regime.specs.Verdicts.{synchronizes}

-- no two gaps are of senders with the same number
abbrev pub HaveOwnSenders : List Gap → Type 0
HaveOwnSenders [] = Unit {0}
HaveOwnSenders (gap ∷ others) = ((other : Gap) → In other others → other.sender.number ≢ gap.sender.number) × HaveOwnSenders others

own_senders : (key : Sender → ℕ) (ti from : ℕ) (order : List Sender) → Rises key order
    → ((a b : Sender) → In a order → In b order → a.number ≡ b.number → a ≡ b) → HaveOwnSenders (gaps_from ti from order)
own_senders key ti from [] r told = tt
own_senders key ti from (s ∷ order) r told = (
  (λ g i same.
      let there : In g.sender order = gap_sender ti (ti + latest_end s) order g i in
      let more : key s < key g.sender = behind_rises key s order g.sender r.0 there in
      let e : key g.sender ≡ key s = ap key (told g.sender s (inr there) (inl refl) same) in
      absurd (omega arith)),
  own_senders key ti (ti + latest_end s) order r.1 (λ a b i j. told a b (inr i) (inr j)),
)

-- at any interval
pub own_gaps : (table : Table) (ti : ℕ) → TableFacts table → HaveOwnSenders (gaps_from ti (last_end 0 (turn_order table)) (turn_order table))
own_gaps table ti facts =
    let key = turn_key table.mode in
    own_senders key ti (last_end 0 (turn_order table)) (turn_order table) (order_rises table facts)
    (λ a b i j. same_by_number table.senders (numbers_differ table facts) a b (from_sort key table.senders a i) (from_sort key table.senders b j))

-- the gaps that are wide, and among them those that synchronize the sender with this number
abbrev pub one_if : Bool → ℕ
one_if test = cond test 1 0

none_same : (sg n : ℕ) (all : List Gap) → ((other : Gap) → In other all → other.sender.number ≢ n) → count_by (synchronizes sg n) all ≡ count_by (has_width sg) all
none_same sg n [] apart = refl
none_same sg n (g ∷ all) apart =
    let rest : count_by (synchronizes sg n) all ≡ count_by (has_width sg) all = none_same sg n all (λ h i. apart h (inr i)) in
    let here : synchronizes sg n g ≡ has_width sg g = ap (λ b. not b && has_width sg g) (ne_eqb g.sender.number n (apart g (inl refl))) in
    let one : one_if (synchronizes sg n g) ≡ one_if (has_width sg g) = ap one_if here in
    omega (arith, sum_by-cons (λ (h : Gap). one_if (synchronizes sg n h)) g all, sum_by-cons (λ (h : Gap). one_if (has_width sg h)) g all)

others_wide : (sg : ℕ) (all : List Gap) (gap : Gap) → In gap all → HaveOwnSenders all
    → count_by (has_width sg) all ≡ count_by (synchronizes sg gap.sender.number) all + one_if (has_width sg gap)
others_wide sg [] gap i own = absurd i
others_wide sg (g ∷ all) gap (inl same) own =
    let n : ℕ = gap.sender.number in
    let number : gap.sender.number ≡ g.sender.number = ap (λ (h : Gap). h.sender.number) same in
    let rest : count_by (synchronizes sg gap.sender.number) all ≡ count_by (has_width sg) all = none_same sg gap.sender.number all (λ h i e. own.0 h i (e ∙ number)) in
    let here : synchronizes sg gap.sender.number g ≡ false = ap (λ b. not b && has_width sg g) (eq-eqb g.sender.number gap.sender.number (sym number)) in
    let none : one_if (synchronizes sg gap.sender.number g) ≡ 0 = ap one_if here in
    let one : one_if (has_width sg gap) ≡ one_if (has_width sg g) = ap (λ h. one_if (has_width sg h)) same in
    omega (arith, sum_by-cons (λ (h : Gap). one_if (synchronizes sg gap.sender.number h)) g all, sum_by-cons (λ (h : Gap). one_if (has_width sg h)) g all)
others_wide sg (g ∷ all) gap (inr i) own =
    let rest : count_by (has_width sg) all ≡ count_by (synchronizes sg gap.sender.number) all + one_if (has_width sg gap) = others_wide sg all gap i own.1 in
    let here : synchronizes sg gap.sender.number g ≡ has_width sg g = ap (λ b. not b && has_width sg g) (ne_eqb g.sender.number gap.sender.number (λ e. own.0 gap i (sym e))) in
    let one : one_if (synchronizes sg gap.sender.number g) ≡ one_if (has_width sg g) = ap one_if here in
    omega (arith, sum_by-cons (λ (h : Gap). one_if (synchronizes sg gap.sender.number h)) g all, sum_by-cons (λ (h : Gap). one_if (has_width sg h)) g all)

any_counted : {A : Type 0} (p : A → Bool) (xs : List A) → (count_by p xs == 0) ≡ not (list_any p xs)
any_counted p [] = refl
any_counted p (x ∷ xs) =
    elim (p x) as (λ b. p x ≡ b → (count_by p (x ∷ xs) == 0) ≡ not (b || list_any p xs)) [
      | true ↦ λ e.
          let one : one_if (p x) ≡ 1 = ap one_if e in
          ne_eqb (count_by p (x ∷ xs)) 0 (λ k. omega (arith, sum_by-cons (λ y. one_if (p y)) x xs))
      | false ↦ λ e.
          let none : one_if (p x) ≡ 0 = ap one_if e in
          let same : count_by p (x ∷ xs) ≡ count_by p xs = omega (arith, sum_by-cons (λ y. one_if (p y)) x xs) in
          ap (λ n. n == 0) same ∙ any_counted p xs
    ] refl

less_same : (a b c : ℕ) → a ≡ c + b → (a == b) ≡ (c == 0)
less_same a b zero e = eq-eqb a b (omega (arith, e))
less_same a b (suc c) e = ne_eqb a b (λ k. omega (arith, e)) ∙ sym (ne_eqb (suc c) 0 (λ k. omega (arith, k)))

-- no gap but this one is wide exactly where no other sender's gap synchronizes this one's
pub alone_wide : (table : Table) (gap : Gap) (wide : ℕ) → IsTrue (is_valid table) → In gap (gaps table) → wide ≡ count_by (has_width table.sg) (gaps table)
    → (wide == cond (has_width table.sg gap) 1 0) ≡ not (list_any (synchronizes table.sg gap.sender.number) (gaps table))
alone_wide table gap wide valid i is =
    let split = others_wide table.sg (gaps table) gap i (own_gaps table table.ti (valid_facts table valid)) in
    less_same wide (one_if (has_width table.sg gap)) (count_by (synchronizes table.sg gap.sender.number) (gaps table)) (is ∙ split)
    ∙ any_counted (synchronizes table.sg gap.sender.number) (gaps table)

-- one gap more is counted
pub wide_more : (sg : ℕ) (all : List Gap) (k wide one : ℕ) (gap : Gap) → slice_get all k ≡ Some gap → one ≡ cond (has_width sg gap) 1 0
    → wide ≡ count_by (has_width sg) (take k all) → wide + one ≡ count_by (has_width sg) (take (k + 1) all)
wide_more sg all k wide one gap at is so =
    let inside : k < length all = slice_get_within all k gap at in
    let read : get_or all k gap ≡ gap = get_or_from_slice_get all k gap gap at in
    elim (has_width sg gap) as (λ b. has_width sg gap ≡ b → one ≡ cond b 1 0 → wide + one ≡ count_by (has_width sg) (take (k + 1) all)) [
      | true ↦ λ e o. omega (arith, count_by_more_yes (has_width sg) all k gap inside (ap (has_width sg) read ∙ e))
      | false ↦ λ e o. omega (arith, count_by_more_no (has_width sg) all k gap inside (ap (has_width sg) read ∙ e))
    ] refl is

pub wide_whole : (sg : ℕ) (all : List Gap) (k wide : ℕ) → length all ≤ k → wide ≡ count_by (has_width sg) (take k all) → wide ≡ count_by (has_width sg) all
wide_whole sg all k wide whole so = so ∙ ap (count_by (has_width sg)) (take_all k all whole)

one_most : (b : Bool) → one_if b ≤ 1
one_most true = omega arith
one_most false = omega arith

pub few_more : (sg wide one k : ℕ) (gap : Gap) → wide ≤ k → one ≡ cond (has_width sg gap) 1 0 → wide + one ≤ k + 1
few_more sg wide one k gap few is = let most : one_if (has_width sg gap) ≤ 1 = one_most (has_width sg gap) in omega (arith, is)
