-- The two greatest terminal gaps are those of the two at the head of the planned order.
use Rattle.std.specs.Prelude.{◌≡◌, ℕ, ◌+◌, ◌-◌, ◌*◌, ◌<◌, ◌≤◌, max, min, true, false, nat_lt, nat_le, List, [], ◌∷◌, ◌++◌, take}
use Rattle.std.specs.Prelude.{get_or, length}
use Rattle.std.proofs.Common.{inl, inr, arith, sym, refl, ap, ◌∙◌, cond}
use Rattle.std.proofs.lemmas.Bool.Decides.{nat_tests}
use Rattle.std.proofs.lemmas.List.{take_more}
use Rattle.bus_strings.specs.Members.{In}
use Rattle.bus_table.specs.Tables.{Sender, Table}
use Rattle.bus_table.specs.inside.Facts.{SenderFacts, TableFacts}
use Rattle.bus_table.proofs.TurnLaws.{of_each}
use Rattle.std.specs.List.{sum_by}
use Rattle.bus_plan.specs.Plans.{turn_time, lead, greatest_first, second_greatest, planned_order, sync_time, least_interval}
use Rattle.bus_plan.specs.inside.Greatest.{greatest_tg, second_tg}

-- ---- one more sender behind
greatest_push : (xs : List Sender) (y : Sender) → greatest_tg (xs ++ y ∷ []) ≡ max (greatest_tg xs) y.tg
greatest_push [] y = omega arith
greatest_push (x ∷ xs) y = let rest = greatest_push xs y in omega (arith, rest)

second_push : (xs : List Sender) (y : Sender) → second_tg (xs ++ y ∷ []) ≡ max (second_tg xs) (min (greatest_tg xs) y.tg)
second_push [] y = omega arith
second_push (x ∷ xs) y = let top = greatest_push xs y in let rest = second_push xs y in omega (arith, top, rest)

pub greatest_more : (xs : List Sender) (i : ℕ) (d : Sender) → i < length xs
    → greatest_tg (take (i + 1) xs) ≡ max (greatest_tg (take i xs)) (get_or xs i d).tg
greatest_more xs i d h = ap greatest_tg (take_more xs i d h) ∙ greatest_push (take i xs) (get_or xs i d)

pub second_more : (xs : List Sender) (i : ℕ) (d : Sender) → i < length xs
    → second_tg (take (i + 1) xs) ≡ max (second_tg (take i xs)) (min (greatest_tg (take i xs)) (get_or xs i d).tg)
second_more xs i d h = ap second_tg (take_more xs i d h) ∙ second_push (take i xs) (get_or xs i d)

-- ---- the same at the head
-- the head has the greatest, and the rest have the second greatest

abbrev pub Led : List Sender → List Sender → Type 0
Led senders [] = (greatest_tg senders ≡ 0) × (second_tg senders ≡ 0)
Led senders (a ∷ bs) = (a.tg ≡ greatest_tg senders) × (greatest_tg bs ≡ second_tg senders)

led_lead : (a : Sender) (others led : List Sender) → Led others led → Led (a ∷ others) (lead a others led)
led_lead a others [] h = (let p = h.0 in omega (arith, p), let p = h.0 in let q = h.1 in omega (arith, p, q))
led_lead a others (b ∷ rest) h =
    let p = h.0 in
    let q = h.1 in
    (elim (nat_lt b.tg a.tg) as (λ w. nat_lt b.tg a.tg ≡ w → second_tg others ≤ greatest_tg others
    → Led (a ∷ others) (cond w (a ∷ others) (b ∷ (a ∷ rest)))) [
      | true ↦ λ e k. (
        let more : b.tg < a.tg = grind (arith, nat_tests) in omega (arith, p, more),
        let more : b.tg < a.tg = grind (arith, nat_tests) in omega (arith, p, q, more, k),
      )
      | false ↦ λ e k. (
        let less : a.tg ≤ b.tg = grind (arith, nat_tests) in omega (arith, p, less),
        let less : a.tg ≤ b.tg = grind (arith, nat_tests) in omega (arith, p, q, less, k),
      )
    ]) refl (second_least others)
  where
    second_least : (ss : List Sender) → second_tg ss ≤ greatest_tg ss
    second_least [] = omega arith
    second_least (s ∷ ss) = let k = second_least ss in omega (arith, k)

pub led_greatest : (senders : List Sender) → Led senders (greatest_first senders)
led_greatest [] = (refl, refl)
led_greatest (a ∷ others) = led_lead a others (greatest_first others) (led_greatest others)

-- what synchronization needs, by the two greatest terminal gaps
pub sync_is : (sg : ℕ) (senders : List Sender) → greatest_tg senders ≤ sg
    → sync_time sg (planned_order senders) ≡ cond (nat_le (greatest_tg senders + second_tg senders) sg) sg
    (2 * sg - (greatest_tg senders + second_tg senders))
sync_is sg senders h = at_led (greatest_first senders) (led_greatest senders) where
  chosen : (n m : ℕ) → n ≡ m → cond (nat_le n sg) sg (2 * sg - n) ≡ cond (nat_le m sg) sg (2 * sg - m)
  chosen n m e = ap (λ (k : ℕ). cond (nat_le k sg) sg (2 * sg - k)) e

  alone : (n : ℕ) → n ≤ sg → sg ≡ cond (nat_le n sg) sg (2 * sg - n)
  alone n k = let e : nat_le n sg ≡ true = grind (arith, nat_tests) in ap (λ b. cond b sg (2 * sg - n)) (sym e)

  behind_one : (a : Sender) (others led : List Sender) → (a.tg ≡ greatest_tg senders) → (greatest_tg others ≡ second_tg senders)
      → Led others led → sync_time sg (a ∷ led)
      ≡ cond (nat_le (greatest_tg senders + second_tg senders) sg) sg (2 * sg - (greatest_tg senders + second_tg senders))
  behind_one a others [] p q l = let r = l.0 in alone (greatest_tg senders + second_tg senders) (omega (arith, h, q, r))
  behind_one a others (b ∷ bs) p q l =
      let r = l.0 in chosen (a.tg + b.tg) (greatest_tg senders + second_tg senders) (omega (arith, p, q, r))

  at_led : (led : List Sender) → Led senders led
      → sync_time sg (second_greatest led) ≡ cond (nat_le (greatest_tg senders + second_tg senders) sg) sg
      (2 * sg - (greatest_tg senders + second_tg senders))
  at_led [] l = let p = l.0 in let q = l.1 in alone (greatest_tg senders + second_tg senders) (omega (arith, p, q))
  at_led (a ∷ others) l = behind_one a others (greatest_first others) l.0 l.1 (led_greatest others)

-- no terminal gap is above the greatest that is allowed
greatest_below : (n : ℕ) (senders : List Sender) → ((s : Sender) → In s senders → s.tg < n) → greatest_tg senders ≤ n
greatest_below n [] h = omega arith
greatest_below n (s ∷ senders) h =
    let one = h s (inl refl) in let rest = greatest_below n senders (λ x i. h x (inr i)) in omega (arith, one, rest)

-- the least interval of a valid table, by its parts
pub least_told : (table : Table) → TableFacts table → (turns sync sg gaps first second : ℕ) → turns ≡ sum_by turn_time table.senders
    → sync ≡ cond (nat_le gaps sg) sg (2 * sg - gaps)
    → sg ≡ table.sg → gaps ≡ first + second → first ≡ greatest_tg table.senders → second ≡ second_tg table.senders
    → turns + sync ≡ least_interval table
least_told table facts turns sync sg gaps first second t s g n f k =
    let below = greatest_below table.sg table.senders (λ x i. (of_each (SenderFacts table) table.senders facts.senders x i).tg_short) in
    let same = sync_is table.sg table.senders below in
    let gap : gaps ≡ greatest_tg table.senders + second_tg table.senders = omega (arith, n, f, k) in
    let moved : cond (nat_le gaps sg) sg (2 * sg - gaps)
    ≡ cond (nat_le (greatest_tg table.senders + second_tg table.senders) table.sg) table.sg
    (2 * table.sg - (greatest_tg table.senders + second_tg table.senders)) =
    ap (λ (x : ℕ). cond (nat_le gaps x) x (2 * x - gaps)) g ∙ ap (λ (x : ℕ). cond (nat_le x table.sg) table.sg (2 * table.sg - x)) gap in
    let told = s ∙ moved ∙ sym same in
    omega (arith, t, told)
