-- The planned order: it has the senders, and the two with the greatest terminal gaps at its head.
use Rattle.std.specs.Prelude.{◌≡◌, ◌<◌, ◌≤◌, true, false, nat_lt, List, [], ◌∷◌}
use Rattle.std.proofs.Common.{inl, inr, arith, refl, ap, cond}
use Rattle.std.proofs.lemmas.Bool.Decides.{nat_tests}
use Rattle.bus_strings.specs.Members.{In}
use Rattle.bus_table.specs.Tables.{Sender}
use Rattle.bus_plan.specs.Plans.{lead, greatest_first, second_greatest, planned_order}

-- the greatest at the front
pub in_lead : (a : Sender) (others led : List Sender) (x : Sender) → (In x others → In x led) → In x (a ∷ others) → In x (lead a others led)
in_lead a others [] x sub (inl e) = inl e
in_lead a others [] x sub (inr i) = absurd (sub i)
in_lead a others (b ∷ rest) x sub h =
    elim (nat_lt b.tg a.tg) as (λ w. In x (cond w (a ∷ others) (b ∷ (a ∷ rest)))) [
      | true ↦ h
      | false ↦ elim h [ inl e ↦ inr (inl e) | inr i ↦ elim (sub i) [ inl e ↦ inl e | inr j ↦ inr (inr j) ] ]
    ]

pub in_greatest : (senders : List Sender) (x : Sender) → In x senders → In x (greatest_first senders)
in_greatest [] x h = absurd h
in_greatest (a ∷ others) x h = in_lead a others (greatest_first others) x (in_greatest others x) h

from_lead : (a : Sender) (others led : List Sender) (x : Sender) → (In x led → In x others) → In x (lead a others led) → In x (a ∷ others)
from_lead a others [] x sub (inl e) = inl e
from_lead a others [] x sub (inr i) = absurd i
from_lead a others (b ∷ rest) x sub h =
    (elim (nat_lt b.tg a.tg) as (λ w. In x (cond w (a ∷ others) (b ∷ (a ∷ rest))) → In x (a ∷ others)) [
      | true ↦ λ k. k
      | false ↦ λ k. elim k [ inl e ↦ inr (sub (inl e)) | inr j ↦ elim j [ inl e ↦ inl e | inr i ↦ inr (sub (inr i)) ] ]
    ]) h

pub from_greatest : (senders : List Sender) (x : Sender) → In x (greatest_first senders) → In x senders
from_greatest [] x h = absurd h
from_greatest (a ∷ others) x h = from_lead a others (greatest_first others) x (from_greatest others x) h

-- none of these has a greater terminal gap than the head
abbrev pub Tops : List Sender → Type 0
Tops [] = Unit {0}
Tops (a ∷ bs) = (x : Sender) → In x (a ∷ bs) → x.tg ≤ a.tg

lead_tops : (a : Sender) (others led : List Sender) → ((x : Sender) → In x others → In x led) → Tops led → Tops (lead a others led)
lead_tops a others [] sub tops =
    λ x i. elim i [ inl e ↦ let k : x.tg ≡ a.tg = ap (λ (s : Sender). s.tg) e in omega arith | inr j ↦ absurd j ]
lead_tops a others (b ∷ rest) sub tops =
    (elim (nat_lt b.tg a.tg) as (λ w. nat_lt b.tg a.tg ≡ w → Tops (cond w (a ∷ others) (b ∷ (a ∷ rest)))) [
      | true ↦ λ h x i. (let more : b.tg < a.tg = grind (arith, nat_tests) in
          elim i [
            | inl e ↦ let k : x.tg ≡ a.tg = ap (λ (s : Sender). s.tg) e in omega arith
            | inr j ↦ let k : x.tg ≤ b.tg = tops x (sub x j) in omega arith
          ])
      | false ↦ λ h x i. (let less : a.tg ≤ b.tg = grind (arith, nat_tests) in
          elim i [
            | inl e ↦ let k : x.tg ≡ b.tg = ap (λ (s : Sender). s.tg) e in omega arith
            | inr j ↦ elim j [ inl e ↦ let k : x.tg ≡ a.tg = ap (λ (s : Sender). s.tg) e in omega arith | inr m ↦ tops x (inr m) ]
          ])
    ]) refl

pub greatest_tops : (senders : List Sender) → Tops (greatest_first senders)
greatest_tops [] = tt
greatest_tops (a ∷ others) = lead_tops a others (greatest_first others) (in_greatest others) (greatest_tops others)

-- the two at the head
pub in_planned : (senders : List Sender) (x : Sender) → In x senders → In x (planned_order senders)
in_planned senders x h = at_second (greatest_first senders) (in_greatest senders x h) where
  at_second : (led : List Sender) → In x led → In x (second_greatest led)
  at_second [] i = absurd i
  at_second (a ∷ others) (inl e) = inl e
  at_second (a ∷ others) (inr i) = inr (in_greatest others x i)

pub from_planned : (senders : List Sender) (x : Sender) → In x (planned_order senders) → In x senders
from_planned senders x h = from_greatest senders x (at_second (greatest_first senders) h) where
  at_second : (led : List Sender) → In x (second_greatest led) → In x led
  at_second [] i = absurd i
  at_second (a ∷ others) (inl e) = inl e
  at_second (a ∷ others) (inr i) = inr (from_greatest others x i)

tops_second : (led : List Sender) → Tops led → Tops (second_greatest led)
tops_second [] tops = tt
tops_second (a ∷ others) tops = λ x i. elim i [ inl e ↦ tops x (inl e) | inr j ↦ tops x (inr (from_greatest others x j)) ]

abbrev pub TopsBehind : List Sender → Type 0
TopsBehind [] = Unit {0}
TopsBehind (a ∷ bs) = Tops bs

pub planned_tops : (senders : List Sender) → Tops (planned_order senders)
planned_tops senders = tops_second (greatest_first senders) (greatest_tops senders)

pub planned_behind : (senders : List Sender) → TopsBehind (planned_order senders)
planned_behind senders = at_second (greatest_first senders) where
  at_second : (led : List Sender) → TopsBehind (second_greatest led)
  at_second [] = tt
  at_second (a ∷ others) = greatest_tops others
