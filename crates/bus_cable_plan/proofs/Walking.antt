-- One sender's walk over the gaps of the others, where none reaches a synchronization gap by its terminal gap and d alone.
use Rattle.std.proofs.Common.{◌≡◌, ◌≢◌, ℕ, ◌+◌, ◌-◌, ◌<◌, ◌≤◌, true, false, cond, min, List, [], ◌∷◌, ◌++◌, Option, Some, None, ◌⊎◌, inl, inr, arith, refl, sym, ap, ◌∙◌, subst}
use Rattle.std.proofs.lemmas.Bool.{cases_Bool, eq-eqb, ne_eqb, leb-true, cases_lt}
use Rattle.std.proofs.lemmas.Bool.Decides.{nat_tests}
use Rattle.std.proofs.lemmas.List.{append_assoc}
use Rattle.bus_strings.specs.Members.{In}
use Rattle.bus_regime.specs.Gaps.{Gap, has_width}
use Rattle.bus_schedule.specs.Slack.{slack_behind, is_enough, stays}
use Rattle.bus_cable_plan.specs.inside.Lists.{excess, total, want, wants, AreNear, AreWide, IsUp, IsStrong, HasUpEnds}
use Rattle.bus_cable_plan.proofs.Splits.{total_append, wants_append}

pub stays_own : (d sg number : ℕ) (slack : Option ℕ) (gap : Gap) (gaps : List Gap) → gap.sender.number ≡ number
    → stays d sg number slack (gap ∷ gaps) ≡ true → is_enough sg slack gap ≡ true
stays_own d sg number slack gap gaps same h =
    subst (λ b. cond b (is_enough sg slack gap) (stays d sg number (slack_behind d sg slack gap) gaps) ≡ true) (eq-eqb gap.sender.number number same) h

pub stays_next : (d sg number : ℕ) (slack : Option ℕ) (gap : Gap) (gaps : List Gap) → gap.sender.number ≢ number
    → stays d sg number slack (gap ∷ gaps) ≡ true → stays d sg number (slack_behind d sg slack gap) gaps ≡ true
stays_next d sg number slack gap gaps apart h =
    subst (λ b. cond b (is_enough sg slack gap) (stays d sg number (slack_behind d sg slack gap) gaps) ≡ true) (ne_eqb gap.sender.number number apart) h

-- the gaps right behind the own message are up
pub record IsWeak (d sg : ℕ) (all : List Gap) : Type 0 where
  pub run : List Gap
  pub after : List Gap
  pub is : all ≡ run ++ after
  pub up : IsUp d sg run

-- some gaps are up by more than d, and each end of them is up
pub record IsSeen (d sg : ℕ) (all : List Gap) : Type 0 where
  pub before : List Gap
  pub front : List Gap
  pub last : Gap
  pub after : List Gap
  pub is : all ≡ before ++ (front ++ last ∷ after)
  pub strong : IsStrong d sg (front ++ last ∷ [])
  pub ends : HasUpEnds d sg (front ++ last ∷ [])

-- the whole has a synchronization gap, or is two gaps longer than wanted
abbrev pub IsWhole : ℕ → ℕ → List Gap → Gap → Type 0
IsWhole d sg all own = (sg ≤ total d all + excess d own) ⊎ (2 + wants d sg all + want d sg own.sender ≤ total d all + excess d own)

abbrev pub Outcome : ℕ → ℕ → List Gap → Gap → Type 0
Outcome d sg all own = IsWeak d sg all ⊎ (IsSeen d sg all ⊎ IsWhole d sg all own)

-- with what slack is left no end is wanted
abbrev Held : ℕ → ℕ → ℕ → List Gap → Type 0
Held d sg slack [] = Unit {0}
Held d sg slack (g ∷ gs) = (wants d sg (g ∷ gs) ≤ slack + total d (g ∷ gs)) × Held d sg slack gs

held_on : (d sg slack later : ℕ) (gs : List Gap) (x : Gap) → later + excess d x ≡ slack + want d sg x.sender → Held d sg slack gs
    → Held d sg later (gs ++ x ∷ [])
held_on d sg slack later [] x same h = (omega (arith, same), tt)
held_on d sg slack later (g ∷ gs) x same h =
    let first = h.0 in
    let t = total_append d gs (x ∷ []) in
    let w = wants_append d sg gs (x ∷ []) in
    (omega (arith, same, first, t, w), held_on d sg slack later gs x same h.1)

held_ends : (d sg slack : ℕ) (gs : List Gap) (x : Gap) → 1 + slack + want d sg x.sender ≤ excess d x → Held d sg slack gs
    → HasUpEnds d sg (gs ++ x ∷ [])
held_ends d sg slack [] x more h = (omega (arith, more), tt)
held_ends d sg slack (g ∷ gs) x more h =
    let first = h.0 in
    let t = total_append d gs (x ∷ []) in
    let w = wants_append d sg gs (x ∷ []) in
    (omega (arith, more, first, t, w), held_ends d sg slack gs x more h.1)

-- a gap that is passed leaves the slack, or the delay alone
record IsPassed (d sg slack : ℕ) (x : Gap) (later : ℕ) : Type 0 where
  low : later ≤ d
  left : (later + excess d x ≡ slack + want d sg x.sender) ⊎ (later ≡ d)

passed : (d sg slack : ℕ) (x : Gap) → x.sender.tg + d < sg → x.from + (x.sender.tg + d) ≤ x.to → has_width (slack + sg) x ≡ false
    → IsPassed d sg slack x (min d (slack + sg - 1 - (x.to - x.from)))
passed d sg slack x near wide not =
    let short : x.to < x.from + (slack + sg) = (let n : (x.from + (slack + sg) ≤ x.to → ⊥) = grind (arith, nat_tests, not) in grind arith) in
    record {
      low = omega arith;
      left = elim (cases_lt d (slack + sg - 1 - (x.to - x.from))) [
        | inl less ↦ inr (omega (arith, less))
        | inr most ↦ inl (omega (arith, most, short, wide, near))
      ];
    }

elapsed : (d sg slack : ℕ) (x : Gap) → x.sender.tg + d < sg → x.from + (x.sender.tg + d) ≤ x.to → has_width (slack + sg) x ≡ true
    → 1 + slack + want d sg x.sender ≤ excess d x
elapsed d sg slack x near wide h =
    let k : x.from + (slack + sg) ≤ x.to = leb-true (x.from + (slack + sg)) x.to h in omega (arith, k, near, wide)

walk_strong : (d sg number slack : ℕ) (before run gaps : List Gap) (own : Gap) → own.sender.number ≡ number
    → ((g : Gap) → In g gaps → g.sender.number ≢ number) → AreNear d sg gaps → AreWide d gaps
    → own.sender.tg + d < sg → own.from + (own.sender.tg + d) ≤ own.to
    → slack ≤ d → slack + total d run ≡ d + wants d sg run → Held d sg slack run
    → stays d sg number (Some slack) (gaps ++ own ∷ []) ≡ true → (all : List Gap) → all ≡ before ++ (run ++ gaps) → Outcome d sg all own
walk_strong d sg number slack before run [] own same apart near wide own_near own_wide low sum held h all is =
    let k : own.from + (sg + own.sender.tg + slack) ≤ own.to = leb-true (own.from + (sg + own.sender.tg + slack)) own.to
    (stays_own d sg number (Some slack) own [] same h) in
    let t = ap (total d) is ∙ total_append d before (run ++ []) in
    let u = total_append d run [] in
    inr (inr (inl (omega (arith, k, t, u, sum, own_wide))))
walk_strong d sg number slack before run (x ∷ gaps) own same apart near wide own_near own_wide low sum held h all is =
    let x_near = (near x (inl refl)).1 in
    let x_wide = wide x (inl refl) in
    let next = stays_next d sg number (Some slack) x (gaps ++ own ∷ []) (apart x (inl refl)) h in
    elim (cases_Bool (has_width (slack + sg) x)) [
      | inl elapses ↦
          let more = elapsed d sg slack x x_near x_wide elapses in
          let t = total_append d run (x ∷ []) in
          let w = wants_append d sg run (x ∷ []) in
          inr (inl (record {
            before = before;
            front = run;
            last = x;
            after = gaps;
            is = is;
            strong = omega (arith, more, t, w, sum);
            ends = held_ends d sg slack run x more held;
          }))
      | inr not ↦
          let later : ℕ = min d (slack + sg - 1 - (x.to - x.from)) in
          let p : IsPassed d sg slack x later = passed d sg slack x x_near x_wide not in
          let on : stays d sg number (Some later) (gaps ++ own ∷ []) ≡ true =
          subst (λ b. stays d sg number (cond b None (Some later)) (gaps ++ own ∷ []) ≡ true) not next in
          let t = total_append d run (x ∷ []) in
          let w = wants_append d sg run (x ∷ []) in
          elim p.left [
            | inl left ↦ walk_strong d sg number later before (run ++ x ∷ []) gaps own same (λ g i. apart g (inr i)) (λ g i. near g (inr i))
                (λ g i. wide g (inr i)) own_near own_wide p.low (omega (arith, left, t, w, sum)) (held_on d sg slack later run x left held) on all
                (is ∙ ap (λ l. before ++ l) (sym (append_assoc run (x ∷ []) gaps)))
            | inr full ↦ walk_strong d sg number later (before ++ (run ++ x ∷ [])) [] gaps own same (λ g i. apart g (inr i))
                (λ g i. near g (inr i)) (λ g i. wide g (inr i)) own_near own_wide p.low (omega (arith, full)) tt on all
                (is ∙ ap (λ l. before ++ l) (sym (append_assoc run (x ∷ []) gaps)) ∙ sym (append_assoc before (run ++ x ∷ []) gaps))
          ]
    ]

walk_weak : (d sg number slack : ℕ) (run gaps : List Gap) (own : Gap) → own.sender.number ≡ number
    → ((g : Gap) → In g gaps → g.sender.number ≢ number) → AreNear d sg gaps → AreWide d gaps
    → 0 < own.sender.tg → own.sender.tg + d < sg → own.from + (own.sender.tg + d) ≤ own.to
    → slack + total d run ≡ wants d sg run
    → stays d sg number (Some slack) (gaps ++ own ∷ []) ≡ true → (all : List Gap) → all ≡ run ++ gaps → Outcome d sg all own
walk_weak d sg number slack run [] own same apart near wide some own_near own_wide sum h all is =
    let k : own.from + (sg + own.sender.tg + slack) ≤ own.to = leb-true (own.from + (sg + own.sender.tg + slack)) own.to
    (stays_own d sg number (Some slack) own [] same h) in
    let t = ap (total d) is ∙ total_append d run [] in
    let w = ap (wants d sg) is ∙ wants_append d sg run [] in
    inr (inr (inr (omega (arith, k, t, w, sum, some, own_near, own_wide))))
walk_weak d sg number slack run (x ∷ gaps) own same apart near wide some own_near own_wide sum h all is =
    let x_near = (near x (inl refl)).1 in
    let x_wide = wide x (inl refl) in
    let next = stays_next d sg number (Some slack) x (gaps ++ own ∷ []) (apart x (inl refl)) h in
    let t = total_append d run (x ∷ []) in
    let w = wants_append d sg run (x ∷ []) in
    let on_is : all ≡ (run ++ x ∷ []) ++ gaps = is ∙ sym (append_assoc run (x ∷ []) gaps) in
    elim (cases_Bool (has_width (slack + sg) x)) [
      | inl elapses ↦
          let more = elapsed d sg slack x x_near x_wide elapses in
          inl (record { run = run ++ x ∷ []; after = gaps; is = on_is; up = omega (arith, more, t, w, sum) })
      | inr not ↦
          let later : ℕ = min d (slack + sg - 1 - (x.to - x.from)) in
          let p : IsPassed d sg slack x later = passed d sg slack x x_near x_wide not in
          let on : stays d sg number (Some later) (gaps ++ own ∷ []) ≡ true =
          subst (λ b. stays d sg number (cond b None (Some later)) (gaps ++ own ∷ []) ≡ true) not next in
          elim p.left [
            | inl left ↦ walk_weak d sg number later (run ++ x ∷ []) gaps own same (λ g i. apart g (inr i)) (λ g i. near g (inr i))
                (λ g i. wide g (inr i)) some own_near own_wide (omega (arith, left, t, w, sum)) on all on_is
            | inr full ↦ walk_strong d sg number later (run ++ x ∷ []) [] gaps own same (λ g i. apart g (inr i)) (λ g i. near g (inr i))
                (λ g i. wide g (inr i)) own_near own_wide p.low (omega (arith, full)) tt on all on_is
          ]
    ]

-- what a sender that stays in sync hears behind its own message
pub walk : (d sg : ℕ) (gaps : List Gap) (own : Gap) → ((g : Gap) → In g gaps → g.sender.number ≢ own.sender.number) → AreNear d sg gaps
    → AreWide d gaps → (0 < own.sender.tg) × (own.sender.tg + d < sg) → own.from + (own.sender.tg + d) ≤ own.to
    → stays d sg own.sender.number (Some 0) (gaps ++ own ∷ []) ≡ true → Outcome d sg gaps own
walk d sg gaps own apart near wide own_near own_wide h =
    walk_weak d sg own.sender.number 0 [] gaps own refl apart near wide own_near.0 own_near.1 own_wide (let k : 0 + 0 ≡ 0 = omega arith in k) h gaps refl
