-- Rising lists, lists of different keys, and sums, over the planned order.
use Rattle.std.specs.Prelude.{◌≡◌, ◌≢◌, ℕ, ◌<◌, true, false, nat_lt, List, [], ◌∷◌, map}
use Rattle.std.specs.List.{sum_by}
use Rattle.std.proofs.Common.{inl, inr, arith, sym, refl, ap, ◌∙◌, cond}
use Rattle.std.proofs.lemmas.List.Sums.{sum_by-cons}
use Rattle.bus_strings.specs.Members.{In}
use Rattle.bus_table.specs.Tables.{Sender}
use Rattle.bus_table.specs.inside.Orders.{Rises, Differ}
use Rattle.bus_table.proofs.TurnLaws.{behind_rises}
use Rattle.bus_plan.specs.Plans.{lead, greatest_first, second_greatest, planned_order}
use Rattle.bus_plan.proofs.Orders.{from_greatest}

-- rising lists with the same members are the same
pub rising_same : (key : Sender → ℕ) (xs ys : List Sender) → Rises key xs → Rises key ys → ((x : Sender) → In x xs → In x ys)
    → ((x : Sender) → In x ys → In x xs) → xs ≡ ys
rising_same key [] [] r s f g = refl
rising_same key [] (y ∷ ys) r s f g = absurd (g y (inl refl))
rising_same key (x ∷ xs) [] r s f g = absurd (f x (inl refl))
rising_same key (x ∷ xs) (y ∷ ys) r s f g =
    let same : x ≡ y = elim (f x (inl refl)) [
      | inl e ↦ e
      | inr i ↦ elim (g y (inl refl)) [
        | inl e ↦ sym e
        | inr j ↦ let p : key y < key x = behind_rises key y ys x s.0 i in let q : key x < key y = behind_rises key x xs y r.0 j in
            absurd (omega arith)
      ]
    ] in
    let keys : key x ≡ key y = ap key same in
    let tails = rising_same key xs ys r.1 s.1
    (λ z i. elim (f z (inr i)) [
      | inl e ↦ let p : key x < key z = behind_rises key x xs z r.0 i in let q : key z ≡ key y = ap key e in
          absurd (omega arith)
      | inr j ↦ j
    ])
    (λ z i. elim (g z (inr i)) [
      | inl e ↦ let p : key y < key z = behind_rises key y ys z s.0 i in let q : key z ≡ key x = ap key e in
          absurd (omega arith)
      | inr j ↦ j
    ]) in
    ap (λ s. s ∷ xs) same ∙ ap (λ l. y ∷ l) tails

-- members of a mapped list
pub in_map : (h : Sender → Sender) (xs : List Sender) (x : Sender) → In x xs → In (h x) (map h xs)
in_map h [] x i = absurd i
in_map h (y ∷ ys) x (inl e) = inl (ap h e)
in_map h (y ∷ ys) x (inr i) = inr (in_map h ys x i)

pub from_map : (h : Sender → Sender) (xs : List Sender) (x : Sender) → In x (map h xs) → (y : Sender) × In y xs × (x ≡ h y)
from_map h [] x i = absurd i
from_map h (y ∷ ys) x (inl e) = (y, inl refl, e)
from_map h (y ∷ ys) x (inr i) = let w = from_map h ys x i in (w.0, inr w.1, w.2)

-- keys that differ still do in the planned order
differ_lead : (key : Sender → ℕ) (a : Sender) (others led : List Sender) → ((x : Sender) → In x led → key a ≢ key x)
    → Differ key (a ∷ others) → Differ key led → Differ key (lead a others led)
differ_lead key a others [] apart d e = ((λ b i. absurd i), tt)
differ_lead key a others (b ∷ rest) apart d e =
    elim (nat_lt b.tg a.tg) as (λ w. Differ key (cond w (a ∷ others) (b ∷ (a ∷ rest)))) [
      | true ↦ d
      | false ↦ (
        (λ x i. elim i [ inl same ↦ λ k. apart b (inl refl) (sym (k ∙ ap key same)) | inr j ↦ e.0 x j ]),
        ((λ x i. apart x (inr i)), e.1),
      )
    ]

pub differ_greatest : (key : Sender → ℕ) (senders : List Sender) → Differ key senders → Differ key (greatest_first senders)
differ_greatest key [] d = tt
differ_greatest key (a ∷ others) d =
    differ_lead key a others (greatest_first others) (λ x i. d.0 x (from_greatest others x i)) d (differ_greatest key others d.1)

pub differ_planned : (key : Sender → ℕ) (senders : List Sender) → Differ key senders → Differ key (planned_order senders)
differ_planned key senders d = at_second (greatest_first senders) (differ_greatest key senders d) where
  at_second : (led : List Sender) → Differ key led → Differ key (second_greatest led)
  at_second [] e = tt
  at_second (a ∷ others) e = ((λ x i. e.0 x (from_greatest others x i)), differ_greatest key others e.1)

-- sums are the same over the planned order
sum_lead : (f : Sender → ℕ) (a : Sender) (others led : List Sender) → sum_by f led ≡ sum_by f others
    → sum_by f (lead a others led) ≡ sum_by f (a ∷ others)
sum_lead f a others [] h =
    let one = sum_by-cons f a [] in let two = sum_by-cons f a others in let none : sum_by f [] ≡ 0 = refl in
    omega (arith, one, two, h, none)
sum_lead f a others (b ∷ rest) h =
    elim (nat_lt b.tg a.tg) as (λ w. sum_by f (cond w (a ∷ others) (b ∷ (a ∷ rest))) ≡ sum_by f (a ∷ others)) [
      | true ↦ refl
      | false ↦
          let one = sum_by-cons f b (a ∷ rest) in
          let two = sum_by-cons f a rest in
          let three = sum_by-cons f b rest in
          let four = sum_by-cons f a others in
          omega (arith, one, two, three, four, h)
    ]

sum_greatest : (f : Sender → ℕ) (senders : List Sender) → sum_by f (greatest_first senders) ≡ sum_by f senders
sum_greatest f [] = refl
sum_greatest f (a ∷ others) = sum_lead f a others (greatest_first others) (sum_greatest f others)

pub sum_planned : (f : Sender → ℕ) (senders : List Sender) → sum_by f (planned_order senders) ≡ sum_by f senders
sum_planned f senders = at_second (greatest_first senders) ∙ sum_greatest f senders where
  at_second : (led : List Sender) → sum_by f (second_greatest led) ≡ sum_by f led
  at_second [] = refl
  at_second (a ∷ others) = let one = sum_by-cons f a (greatest_first others) in
      let two = sum_by-cons f a others in
      let rest = sum_greatest f others in
      omega (arith, one, two, rest)
