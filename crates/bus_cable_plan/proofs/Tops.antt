-- The two greatest terminal gaps: whose they are, and that no other two are greater.
use Rattle.std.proofs.Common.{◌≡◌, ◌≢◌, ℕ, ◌+◌, ◌<◌, ◌≤◌, max, min, List, [], ◌∷◌, length, inl, inr, arith, refl, sym, ap, ◌∙◌}
use Rattle.std.proofs.lemmas.Bool.{cases_lt}
use Rattle.bus_strings.specs.Members.{In}
use Rattle.bus_table.specs.Tables.{Sender}
use Rattle.bus_table.specs.inside.Orders.{Differ}
use Rattle.bus_cable_plan.specs.Shapes.{greatest_tg, second_tg}

pub most_one : (ss : List Sender) (s : Sender) → In s ss → s.tg ≤ greatest_tg ss
most_one [] s i = absurd i
most_one (a ∷ ss) s (inl e) = let k : s.tg ≡ a.tg = ap (λ (x : Sender). x.tg) e in omega (arith, k)
most_one (a ∷ ss) s (inr i) = let k = most_one ss s i in omega (arith, k)

pub most_two : (ss : List Sender) (s t : Sender) → In s ss → In t ss → s.number ≢ t.number → s.tg + t.tg ≤ greatest_tg ss + second_tg ss
most_two [] s t i j apart = absurd i
most_two (a ∷ ss) s t (inl e) (inl f) apart = absurd (apart (ap (λ (x : Sender). x.number) (e ∙ sym f)))
most_two (a ∷ ss) s t (inl e) (inr j) apart =
    let k : s.tg ≡ a.tg = ap (λ (x : Sender). x.tg) e in let m = most_one ss t j in omega (arith, k, m)
most_two (a ∷ ss) s t (inr i) (inl f) apart =
    let k : t.tg ≡ a.tg = ap (λ (x : Sender). x.tg) f in let m = most_one ss s i in omega (arith, k, m)
most_two (a ∷ ss) s t (inr i) (inr j) apart = let k = most_two ss s t i j apart in omega (arith, k)

pub second_low : (ss : List Sender) → second_tg ss ≤ greatest_tg ss
second_low [] = omega arith
second_low (a ∷ ss) = let k = second_low ss in omega (arith, k)

-- two senders that have them
pub record HasTops (ss : List Sender) : Type 0 where
  pub first : Sender
  pub second : Sender
  pub first_in : In first ss
  pub second_in : In second ss
  pub first_is : first.tg ≡ greatest_tg ss
  pub second_is : second.tg ≡ second_tg ss
  pub apart : first.number ≢ second.number

pub tops_of : (ss : List Sender) → Differ (λ s. s.number) ss → 1 < length ss → HasTops ss
tops_of [] d many = absurd (omega arith)
tops_of (a ∷ []) d many = absurd (omega arith)
tops_of (a ∷ b ∷ []) d many = elim (cases_lt a.tg b.tg) [
  | inl less ↦ record {
    first = b;
    second = a;
    first_in = inr (inl refl);
    second_in = inl refl;
    first_is = omega (arith, less);
    second_is = omega (arith, less);
    apart = λ k. d.0 b (inl refl) (sym k);
  }
  | inr more ↦ record {
    first = a;
    second = b;
    first_in = inl refl;
    second_in = inr (inl refl);
    first_is = omega (arith, more);
    second_is = omega (arith, more);
    apart = d.0 b (inl refl);
  }
]
tops_of (a ∷ b ∷ c ∷ ss) d many =
    let t : HasTops (b ∷ c ∷ ss) = tops_of (b ∷ c ∷ ss) d.1 (omega arith) in
    let low = second_low (b ∷ c ∷ ss) in
    let one = t.first_is in
    let two = t.second_is in
    let rest_first : ℕ = greatest_tg (b ∷ c ∷ ss) in
    let rest_second : ℕ = second_tg (b ∷ c ∷ ss) in
    elim (cases_lt rest_first a.tg) [
      | inl more ↦
          let p : max a.tg rest_first ≡ a.tg = omega (arith, more) in
          let q : max rest_second (min a.tg rest_first) ≡ rest_first = omega (arith, more, low) in
          record {
            first = a;
            second = t.first;
            first_in = inl refl;
            second_in = inr t.first_in;
            first_is = sym p;
            second_is = one ∙ sym q;
            apart = d.0 t.first t.first_in;
          }
      | inr less ↦
          let p : max a.tg rest_first ≡ rest_first = omega (arith, less) in
          elim (cases_lt rest_second a.tg) [
            | inl between ↦
                let q : max rest_second (min a.tg rest_first) ≡ a.tg = omega (arith, less, between) in
                record {
                  first = t.first;
                  second = a;
                  first_in = inr t.first_in;
                  second_in = inl refl;
                  first_is = one ∙ sym p;
                  second_is = sym q;
                  apart = λ k. d.0 t.first t.first_in (sym k);
                }
            | inr below ↦
                let q : max rest_second (min a.tg rest_first) ≡ rest_second = omega (arith, less, below) in
                record {
                  first = t.first;
                  second = t.second;
                  first_in = inr t.first_in;
                  second_in = inr t.second_in;
                  first_is = one ∙ sym p;
                  second_is = two ∙ sym q;
                  apart = t.apart;
                }
          ]
    ]
