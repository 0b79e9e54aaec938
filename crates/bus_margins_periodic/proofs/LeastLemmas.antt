-- The least room holds exactly where all do.
use Rattle.std.proofs.Common.{◌≡◌, ℕ, zero, suc, ◌+◌, ◌<◌, ◌≤◌, true, cond, Option, Some, None, inl, inr, arith, sym, refl, ap, ◌∙◌, leb-true, le-leb, ltb-true, lt-ltb}
use Rattle.std.specs.Prelude.{nat_le}
use Rattle.std.proofs.lemmas.Bool.{cases_lt, cases_eq, cases_Bool, true≢false}
use Rattle.bus_margins_periodic.specs.declared.room.Room.{Room}
use Rattle.bus_margins_periodic.specs.Least.{is_less, lesser, least_of, holds}

pub split : (a b : Option Room) → holds (lesser a b) ≡ true → (holds a ≡ true) × (holds b ≡ true)
split None b h = (refl, h)
split (Some a) None h = (h, refl)
split (Some a) (Some b) h = elim (cases_Bool (is_less b a)) [
  | inl less ↦
      let l : b.have + a.need < a.have + b.need = ltb-true (b.have + a.need) (a.have + b.need) less in
      let is : holds (lesser (Some a) (Some b)) ≡ nat_le b.need b.have = ap (λ t. holds (Some (cond t b a))) less in
      let fits : b.need ≤ b.have = leb-true b.need b.have (sym is ∙ h) in
      (le-leb a.need a.have (omega arith), le-leb b.need b.have fits)
  | inr more ↦
      let l : a.have + b.need ≤ b.have + a.need = elim (cases_lt (b.have + a.need) (a.have + b.need)) [
        | inl bad ↦ absurd (true≢false (sym (lt-ltb (b.have + a.need) (a.have + b.need) bad) ∙ more))
        | inr fine ↦ fine
      ] in
      let is : holds (lesser (Some a) (Some b)) ≡ nat_le a.need a.have = ap (λ t. holds (Some (cond t b a))) more in
      let fits : a.need ≤ a.have = leb-true a.need a.have (sym is ∙ h) in
      (le-leb a.need a.have fits, le-leb b.need b.have (omega arith))
]

pub join : (a b : Option Room) → holds a ≡ true → holds b ≡ true → holds (lesser a b) ≡ true
join None b one two = two
join (Some a) None one two = one
join (Some a) (Some b) one two = elim (cases_Bool (is_less b a)) [
  | inl less ↦ ap (λ t. holds (Some (cond t b a))) less ∙ two
  | inr more ↦ ap (λ t. holds (Some (cond t b a))) more ∙ one
]

pub each : (n : ℕ) (room : ℕ → Option Room) → holds (least_of n room) ≡ true → (i : ℕ) → i < n → holds (room i) ≡ true
each zero room h i less = absurd (omega arith)
each (suc n) room h i less =
    let p = split (least_of n room) (room n) h in
    elim (cases_eq i n) [
      | inl same ↦ ap (λ j. holds (room j)) same ∙ p.1
      | inr other ↦ each n room p.0 i (omega arith)
    ]

pub all : (n : ℕ) (room : ℕ → Option Room) → ((i : ℕ) → i < n → holds (room i) ≡ true) → holds (least_of n room) ≡ true
all zero room h = refl
all (suc n) room h = join (least_of n room) (room n) (all n room (λ i less. h i (omega arith))) (h n (omega arith))
