-- With greater delays a sender stays in sync no longer, and past the farthest it makes no difference how great they are.
use Rattle.std.proofs.Common.{◌≡◌, ℕ, suc, ◌+◌, ◌-◌, ◌*◌, ◌<◌, ◌≤◌, min, true, false, cond, List, [], ◌∷◌, length, inl, inr, arith, sym, refl, ap, ◌∙◌, subst}
use Rattle.std.specs.Prelude.{◌==◌, Option, Some, None}
use Rattle.std.proofs.lemmas.Bool.{cases_Bool, leb-true, leb-false, le-leb, lt-leb}
use Rattle.bus_regime.specs.Gaps.{Gap, has_width}
use Rattle.bus_schedule.specs.Slack.{slack_behind, is_enough, stays}

behind_wide : (d sg a : ℕ) (gap : Gap) → has_width (a + sg) gap ≡ true → slack_behind d sg (Some a) gap ≡ None
behind_wide d sg a gap wide = ap (λ v. cond v None (Some (min d (a + sg - 1 - (gap.to - gap.from))))) wide

behind_short : (d sg a : ℕ) (gap : Gap) → has_width (a + sg) gap ≡ false → slack_behind d sg (Some a) gap ≡ Some (min d (a + sg - 1 - (gap.to - gap.from)))
behind_short d sg a gap short = ap (λ v. cond v None (Some (min d (a + sg - 1 - (gap.to - gap.from))))) short

-- the first slack is no worse than the second
abbrev IsNoWorse : Option ℕ → Option ℕ → Type 0
IsNoWorse None t = Unit {0}
IsNoWorse (Some a) None = ⊥
IsNoWorse (Some a) (Some b) = a ≤ b

less_left : (d e a b sg gap : ℕ) → d ≤ e → a ≤ b → min d (a + sg - 1 - gap) ≤ min e (b + sg - 1 - gap)
less_left d e a b sg gap h k = omega arith

slack_less : (d e sg : ℕ) (s t : Option ℕ) (gap : Gap) → d ≤ e → IsNoWorse s t → IsNoWorse (slack_behind d sg s gap) (slack_behind e sg t gap)
slack_less d e sg None t gap h k = tt
slack_less d e sg (Some a) None gap h k = absurd k
slack_less d e sg (Some a) (Some b) gap h k = elim (cases_Bool (has_width (a + sg) gap)) [
  | inl wide ↦ subst (λ s. IsNoWorse s (slack_behind e sg (Some b) gap)) (sym (behind_wide d sg a gap wide)) tt
  | inr short ↦
      let over : gap.to < gap.from + (a + sg) = leb-false (gap.from + (a + sg)) gap.to short in
      let too : has_width (b + sg) gap ≡ false = lt-leb (gap.from + (b + sg)) gap.to (omega arith) in
      subst (λ s. IsNoWorse s (slack_behind e sg (Some b) gap)) (sym (behind_short d sg a gap short))
      (subst (λ t. IsNoWorse (Some (min d (a + sg - 1 - (gap.to - gap.from)))) t) (sym (behind_short e sg b gap too))
      (less_left d e a b sg (gap.to - gap.from) h k))
]

enough_less : (sg : ℕ) (s t : Option ℕ) (gap : Gap) → IsNoWorse s t → is_enough sg t gap ≡ true → is_enough sg s gap ≡ true
enough_less sg None t gap k yes' = refl
enough_less sg (Some a) None gap k yes' = absurd k
enough_less sg (Some a) (Some b) gap k yes' =
    let wide : gap.from + (sg + gap.sender.tg + b) ≤ gap.to = leb-true (gap.from + (sg + gap.sender.tg + b)) gap.to yes' in
    le-leb (gap.from + (sg + gap.sender.tg + a)) gap.to (omega arith)

-- who stays in sync with some delays does with lesser ones
pub stays_less : (d e sg number : ℕ) (s t : Option ℕ) (gs : List Gap) → d ≤ e → IsNoWorse s t → stays e sg number t gs ≡ true → stays d sg number s gs ≡ true
stays_less d e sg number s t [] h k yes' = yes'
stays_less d e sg number s t (gap ∷ gs) h k yes' =
    (elim (gap.sender.number == number) as (λ v. cond v (is_enough sg t gap) (stays e sg number (slack_behind e sg t gap) gs) ≡ true
    → cond v (is_enough sg s gap) (stays d sg number (slack_behind d sg s gap) gs) ≡ true) [
      | true ↦ λ w. enough_less sg s t gap k w
      | false ↦ λ w. stays_less d e sg number (slack_behind d sg s gap) (slack_behind e sg t gap) gs h (slack_less d e sg s t gap h k) w
    ]) yes'

-- a slack of at most so much
abbrev IsLittle : ℕ → Option ℕ → Type 0
IsLittle most None = Unit {0}
IsLittle most (Some a) = a ≤ most

record FarSlack (d far sg most : ℕ) (s : Option ℕ) (gap : Gap) : Type 0 where
  same : slack_behind d sg s gap ≡ slack_behind far sg s gap
  little : IsLittle (most + sg) (slack_behind far sg s gap)

mins_same : (d far most sg a gap : ℕ) → a ≤ most → most + sg ≤ far → far ≤ d → min d (a + sg - 1 - gap) ≡ min far (a + sg - 1 - gap)
mins_same d far most sg a gap low near far_on = omega arith

min_little : (far most sg a gap : ℕ) → a ≤ most → min far (a + sg - 1 - gap) ≤ most + sg
min_little far most sg a gap low = omega arith

far_slack : (d far sg most : ℕ) (s : Option ℕ) (gap : Gap) → most + sg ≤ far → far ≤ d → IsLittle most s → FarSlack d far sg most s gap
far_slack d far sg most None gap near far_on low = record { same = refl; little = tt }
far_slack d far sg most (Some a) gap near far_on low = elim (cases_Bool (has_width (a + sg) gap)) [
  | inl wide ↦ record {
    same = behind_wide d sg a gap wide ∙ sym (behind_wide far sg a gap wide);
    little = subst (IsLittle (most + sg)) (sym (behind_wide far sg a gap wide)) tt;
  }
  | inr short ↦ record {
    same = behind_short d sg a gap short ∙ ap Some (mins_same d far most sg a (gap.to - gap.from) low near far_on) ∙ sym (behind_short far sg a gap short);
    little = subst (IsLittle (most + sg)) (sym (behind_short far sg a gap short)) (min_little far most sg a (gap.to - gap.from) low);
  }
]

room_here : (most k sg far : ℕ) → most + suc k * sg ≤ far → most + sg ≤ far
room_here most k sg far h = omega arith

room_next : (most k sg far : ℕ) → most + suc k * sg ≤ far → (most + sg) + k * sg ≤ far
room_next most k sg far h = omega arith

-- past so much it makes no difference
pub stays_far : (d far sg number most : ℕ) (s : Option ℕ) (gs : List Gap) → most + length gs * sg ≤ far → far ≤ d → IsLittle most s
    → stays d sg number s gs ≡ stays far sg number s gs
stays_far d far sg number most s [] near far_on low = refl
stays_far d far sg number most s (gap ∷ gs) near far_on low =
    let so = far_slack d far sg most s gap (room_here most (length gs) sg far near) far_on low in
    (elim (gap.sender.number == number) as (λ v. cond v (is_enough sg s gap) (stays d sg number (slack_behind d sg s gap) gs)
    ≡ cond v (is_enough sg s gap) (stays far sg number (slack_behind far sg s gap) gs)) [
      | true ↦ refl
      | false ↦
          ap (λ t. stays d sg number t gs) so.same
          ∙ stays_far d far sg number (most + sg) (slack_behind far sg s gap) gs (room_next most (length gs) sg far near) far_on so.little
    ])
