-- Gaps bear a delay where one of them is long, or two are.
use Rattle.std.proofs.Common.{◌≡◌, ◌≢◌, ℕ, ◌+◌, ◌-◌, ◌≤◌, true, false, cond, ◌&&◌, min, eqb, List, [], ◌∷◌, ◌++◌, Option, Some, None, ◌⊎◌, inl, inr, arith, sym, refl, ap, ◌∙◌, subst}
use Rattle.std.specs.List.{list_all}
use Rattle.std.proofs.lemmas.Bool.{eq-eqb, ne_eqb, le-leb}
use Rattle.std.proofs.lemmas.List.{append-nil, append_assoc}
use Rattle.bus_strings.specs.Members.{In}
use Rattle.bus_regime.specs.Gaps.{Gap, has_width}
use Rattle.bus_schedule.specs.Slack.{slack_behind, is_enough, stays, all_stay, is_wide}
use Rattle.bus_cable_plan.specs.inside.Lists.{Apart, AreWide, IsNext, gaps_hold}
use Rattle.bus_cable_plan.proofs.Splits.{heads_same, tails_same, append_cases, in_left, in_right, in_cases, in_split}
use Rattle.bus_cable_plan.proofs.Ring.{others_apart}
use Rattle.bus_cable_plan.proofs.Turning.{apart_right, apart_across}

-- ---- one sender's walk
abbrev pub IsAtMost : ℕ → Option ℕ → Type 0
IsAtMost d None = Unit {0}
IsAtMost d (Some slack) = slack ≤ d

behind_most : (d sg : ℕ) (slack : Option ℕ) (gap : Gap) → IsAtMost d (slack_behind d sg slack gap)
behind_most d sg None gap = tt
behind_most d sg (Some slack) gap =
    elim (has_width (slack + sg) gap) as (λ b. IsAtMost d (cond b None (Some (min d (slack + sg - 1 - (gap.to - gap.from)))))) [
      | true ↦ tt
      | false ↦ omega arith
    ]

stays_here : (d sg number : ℕ) (slack : Option ℕ) (gap : Gap) (gaps : List Gap) → gap.sender.number ≡ number
    → stays d sg number slack (gap ∷ gaps) ≡ is_enough sg slack gap
stays_here d sg number slack gap gaps same = rw (eq-eqb gap.sender.number number same) refl

stays_later : (d sg number : ℕ) (slack : Option ℕ) (gap : Gap) (gaps : List Gap) → gap.sender.number ≢ number
    → stays d sg number slack (gap ∷ gaps) ≡ stays d sg number (slack_behind d sg slack gap) gaps
stays_later d sg number slack gap gaps apart = rw (ne_eqb gap.sender.number number apart) refl

none_stays : (d sg number : ℕ) (gaps : List Gap) (own : Gap) → In own gaps → own.sender.number ≡ number → stays d sg number None gaps ≡ true
none_stays d sg number [] own i same = absurd i
none_stays d sg number (gap ∷ gaps) own (inl here) same =
    rw (eq-eqb gap.sender.number number (ap (λ (g : Gap). g.sender.number) (sym here) ∙ same)) refl
none_stays d sg number (gap ∷ gaps) own (inr i) same =
    elim (eqb gap.sender.number number) as (λ b. cond b true (stays d sg number None gaps) ≡ true) [
      | true ↦ refl
      | false ↦ none_stays d sg number gaps own i same
    ]

-- behind a gap of the synchronization gap and d no slack is left
long_behind : (d sg : ℕ) (slack : Option ℕ) (gap : Gap) → IsAtMost d slack → gap.from + (sg + d) ≤ gap.to → slack_behind d sg slack gap ≡ None
long_behind d sg None gap most long = refl
long_behind d sg (Some slack) gap most long = rw (le-leb (gap.from + (slack + sg)) gap.to (omega (arith, most, long))) refl

next_none : (d sg : ℕ) (gap : Gap) → gap.from + sg ≤ gap.to → slack_behind d sg (Some 0) gap ≡ None
next_none d sg gap long = rw (le-leb (gap.from + (0 + sg)) gap.to (omega (arith, long))) refl

pass_long : (d sg number : ℕ) (slack : Option ℕ) (before : List Gap) (long : Gap) (after : List Gap) (own : Gap) → IsAtMost d slack
    → ((g : Gap) → In g (before ++ long ∷ after) → g.sender.number ≢ number) → long.from + (sg + d) ≤ long.to → own.sender.number ≡ number
    → stays d sg number slack ((before ++ long ∷ after) ++ own ∷ []) ≡ true
pass_long d sg number slack [] long after own most apart wide same =
    stays_later d sg number slack long (after ++ own ∷ []) (apart long (inl refl))
    ∙ ap (λ s. stays d sg number s (after ++ own ∷ [])) (long_behind d sg slack long most wide)
    ∙ none_stays d sg number (after ++ own ∷ []) own (in_right after (own ∷ []) own (inl refl)) same
pass_long d sg number slack (g ∷ before) long after own most apart wide same =
    stays_later d sg number slack g ((before ++ long ∷ after) ++ own ∷ []) (apart g (inl refl))
    ∙ pass_long d sg number (slack_behind d sg slack g) before long after own (behind_most d sg slack g) (λ x j. apart x (inr j)) wide same

end_long : (d sg number : ℕ) (slack : Option ℕ) (others : List Gap) (own : Gap) → IsAtMost d slack
    → ((g : Gap) → In g others → g.sender.number ≢ number) → own.sender.number ≡ number → own.from + (sg + own.sender.tg + d) ≤ own.to
    → stays d sg number slack (others ++ own ∷ []) ≡ true
end_long d sg number None [] own most apart same wide = stays_here d sg number None own [] same
end_long d sg number (Some slack) [] own most apart same wide =
    stays_here d sg number (Some slack) own [] same ∙ le-leb (own.from + (sg + own.sender.tg + slack)) own.to (omega (arith, most, wide))
end_long d sg number slack (g ∷ others) own most apart same wide =
    stays_later d sg number slack g (others ++ own ∷ []) (apart g (inl refl))
    ∙ end_long d sg number (slack_behind d sg slack g) others own (behind_most d sg slack g) (λ x j. apart x (inr j)) same wide

-- over gaps that lack at most one bit time of a synchronization gap no slack comes up
pass_weak : (d sg number : ℕ) (run : List Gap) (long : Gap) (after : List Gap) (own : Gap)
    → ((g : Gap) → In g (run ++ long ∷ after) → g.sender.number ≢ number) → ((g : Gap) → In g run → g.from + (sg - 1) ≤ g.to)
    → long.from + sg ≤ long.to → own.sender.number ≡ number → stays d sg number (Some 0) ((run ++ long ∷ after) ++ own ∷ []) ≡ true
pass_weak d sg number [] long after own apart floor wide same =
    stays_later d sg number (Some 0) long (after ++ own ∷ []) (apart long (inl refl))
    ∙ ap (λ s. stays d sg number s (after ++ own ∷ [])) (next_none d sg long wide)
    ∙ none_stays d sg number (after ++ own ∷ []) own (in_right after (own ∷ []) own (inl refl)) same
pass_weak d sg number (g ∷ run) long after own apart floor wide same =
    let rest : List Gap = (run ++ long ∷ after) ++ own ∷ [] in
    let low : g.from + (sg - 1) ≤ g.to = floor g (inl refl) in
    let none : min d (0 + sg - 1 - (g.to - g.from)) ≡ 0 = omega (arith, low) in
    stays_later d sg number (Some 0) g rest (apart g (inl refl))
    ∙ (elim (has_width (0 + sg) g) as (λ b. stays d sg number (cond b None (Some (min d (0 + sg - 1 - (g.to - g.from))))) rest ≡ true) [
      | true ↦ none_stays d sg number rest own (in_right (run ++ long ∷ after) (own ∷ []) own (inl refl)) same
      | false ↦ ap (λ n. stays d sg number (Some n) rest) none
          ∙ pass_weak d sg number run long after own (λ x j. apart x (inr j)) (λ x j. floor x (inr j)) wide same
    ])

-- ---- all senders
all_stay_from : (d sg : ℕ) (before gaps : List Gap)
    → ((ahead : List Gap) (own : Gap) (behind : List Gap) → gaps ≡ ahead ++ own ∷ behind
    → stays d sg own.sender.number (Some 0) (behind ++ ((before ++ ahead) ++ own ∷ [])) ≡ true)
    → all_stay d sg before gaps ≡ true
all_stay_from d sg before [] h = refl
all_stay_from d sg before (own ∷ behind) h =
    let first : stays d sg own.sender.number (Some 0) (behind ++ (before ++ own ∷ [])) ≡ true =
    subst (λ l. stays d sg own.sender.number (Some 0) (behind ++ (l ++ own ∷ [])) ≡ true) (append-nil before) (h [] own behind refl) in
    ap (λ v. v && all_stay d sg (before ++ own ∷ []) behind) first
    ∙ all_stay_from d sg (before ++ own ∷ []) behind (λ a o b e.
    subst (λ l. stays d sg o.sender.number (Some 0) (b ++ (l ++ o ∷ [])) ≡ true) (sym (append_assoc before (own ∷ []) a))
    (h (own ∷ a) o b (ap (λ l. own ∷ l) e)))

wide_all : (d : ℕ) (gaps : List Gap) → AreWide d gaps → list_all (is_wide d) gaps ≡ true
wide_all d [] h = refl
wide_all d (x ∷ gaps) h =
    ap (λ v. v && list_all (is_wide d) gaps) (le-leb (x.from + (x.sender.tg + d)) x.to (h x (inl refl))) ∙ wide_all d gaps (λ g i. h g (inr i))

-- gaps hold where each sender stays in sync over those of the others and its own
hold_from : (d sg : ℕ) (gaps : List Gap) → Apart gaps → AreWide d gaps
    → ((ahead : List Gap) (own : Gap) (behind : List Gap) → gaps ≡ ahead ++ own ∷ behind
    → ((g : Gap) → In g (behind ++ ahead) → g.sender.number ≢ own.sender.number)
    → stays d sg own.sender.number (Some 0) ((behind ++ ahead) ++ own ∷ []) ≡ true)
    → gaps_hold d sg gaps ≡ true
hold_from d sg gaps apart wide h =
    ap (λ v. v && all_stay d sg [] gaps) (wide_all d gaps wide)
    ∙ all_stay_from d sg [] gaps (λ a o b e.
    subst (λ l. stays d sg o.sender.number (Some 0) l ≡ true) (append_assoc b a (o ∷ []))
    (h a o b e (others_apart a o b (subst Apart e apart))))

-- a gap is the own one or among the others
own_or_other : (x : Gap) (ahead : List Gap) (own : Gap) (behind : List Gap) → In x (ahead ++ own ∷ behind) → (x ≡ own) ⊎ In x (behind ++ ahead)
own_or_other x ahead own behind i = elim (in_cases ahead (own ∷ behind) x i) [
  | inl l ↦ inr (in_right behind ahead x l)
  | inr r ↦ elim r [ inl e ↦ inl e | inr j ↦ inr (in_left behind ahead x j) ]
]

by_strong : (d sg : ℕ) (others : List Gap) (own x : Gap) → ((g : Gap) → In g others → g.sender.number ≢ own.sender.number) → In x others
    → x.from + (sg + d) ≤ x.to → stays d sg own.sender.number (Some 0) (others ++ own ∷ []) ≡ true
by_strong d sg others own x apart i strong =
    let s = in_split x others i in
    subst (λ l. stays d sg own.sender.number (Some 0) (l ++ own ∷ []) ≡ true) (sym s.2)
    (pass_long d sg own.sender.number (Some 0) s.0 x s.1 own (let k : 0 ≤ d = omega arith in k)
    (λ g j. apart g (subst (λ l. In g l) (sym s.2) j)) strong refl)

by_weak : (d sg : ℕ) (others : List Gap) (own x : Gap) → ((g : Gap) → In g others → g.sender.number ≢ own.sender.number) → In x others
    → ((g : Gap) → In g others → g.from + (sg - 1) ≤ g.to) → x.from + sg ≤ x.to
    → stays d sg own.sender.number (Some 0) (others ++ own ∷ []) ≡ true
by_weak d sg others own x apart i floor long =
    let s = in_split x others i in
    subst (λ l. stays d sg own.sender.number (Some 0) (l ++ own ∷ []) ≡ true) (sym s.2)
    (pass_weak d sg own.sender.number s.0 x s.1 own (λ g j. apart g (subst (λ l. In g l) (sym s.2) j))
    (λ g j. floor g (subst (λ l. In g l) (sym s.2) (in_left s.0 (x ∷ s.1) g j))) long refl)

-- ---- the shapes
pub own_gap_bears : (d sg : ℕ) (gaps : List Gap) (x : Gap) → Apart gaps → AreWide d gaps → In x gaps → x.from + (sg + x.sender.tg + d) ≤ x.to
    → gaps_hold d sg gaps ≡ true
own_gap_bears d sg gaps x apart wide i long = hold_from d sg gaps apart wide (λ a own b e other.
    elim (own_or_other x a own b (subst (λ l. In x l) e i)) [
      | inl same ↦ end_long d sg own.sender.number (Some 0) (b ++ a) own (let k : 0 ≤ d = omega arith in k) other refl
          (subst (λ (g : Gap). g.from + (sg + g.sender.tg + d) ≤ g.to) same long)
      | inr j ↦ by_strong d sg (b ++ a) own x other j (omega (arith, long))
    ])

pub strong_gaps_bear : (d sg : ℕ) (gaps : List Gap) (x y : Gap) → Apart gaps → AreWide d gaps → In x gaps → In y gaps
    → x.sender.number ≢ y.sender.number → x.from + (sg + d) ≤ x.to → y.from + (sg + d) ≤ y.to → gaps_hold d sg gaps ≡ true
strong_gaps_bear d sg gaps x y apart wide i j differ long_x long_y = hold_from d sg gaps apart wide (λ a own b e other.
    elim (own_or_other x a own b (subst (λ l. In x l) e i)) [
      | inl same ↦ elim (own_or_other y a own b (subst (λ l. In y l) e j)) [
        | inl again ↦ absurd (differ (ap (λ (g : Gap). g.sender.number) (same ∙ sym again)))
        | inr k ↦ by_strong d sg (b ++ a) own y other k long_y
      ]
      | inr k ↦ by_strong d sg (b ++ a) own x other k long_x
    ])

pub round_bears : (d sg : ℕ) (gaps : List Gap) (x y : Gap) → Apart gaps → AreWide d gaps → In x gaps → In y gaps
    → x.sender.number ≢ y.sender.number → ((g : Gap) → In g gaps → g.from + (sg - 1) ≤ g.to) → x.from + sg ≤ x.to → y.from + sg ≤ y.to
    → gaps_hold d sg gaps ≡ true
round_bears d sg gaps x y apart wide i j differ floor long_x long_y = hold_from d sg gaps apart wide (λ a own b e other.
    let low : (g : Gap) → In g (b ++ a) → g.from + (sg - 1) ≤ g.to = λ g k. floor g (subst (λ l. In g l) (sym e) (others_are a own b g k)) in
    elim (own_or_other x a own b (subst (λ l. In x l) e i)) [
      | inl same ↦ elim (own_or_other y a own b (subst (λ l. In y l) e j)) [
        | inl again ↦ absurd (differ (ap (λ (g : Gap). g.sender.number) (same ∙ sym again)))
        | inr k ↦ by_weak d sg (b ++ a) own y other k low long_y
      ]
      | inr k ↦ by_weak d sg (b ++ a) own x other k low long_x
    ]) where
      others_are : (a : List Gap) (own : Gap) (b : List Gap) (g : Gap) → In g (b ++ a) → In g (a ++ own ∷ b)
      others_are a own b g k =
          elim (in_cases b a g k) [ inl l ↦ in_right a (own ∷ b) g (inr l) | inr r ↦ in_left a (own ∷ b) g r ]

-- a gap stands at one place
split_same : (x : Gap) (a b a2 b2 : List Gap) → Apart (a ++ x ∷ b) → a ++ x ∷ b ≡ a2 ++ x ∷ b2 → (a ≡ a2) × (b ≡ b2)
split_same x a b a2 b2 apart e = elim (append_cases a (x ∷ b) a2 (x ∷ b2) e) [
  | inl k ↦ earlier k.0 k.1 k.2
  | inr k ↦ later k.0 k.1 k.2
] where
  earlier : (w : List Gap) → a2 ≡ a ++ w → x ∷ b ≡ w ++ x ∷ b2 → (a ≡ a2) × (b ≡ b2)
  earlier [] f g = (sym (f ∙ append-nil a), tails_same x x b b2 g)
  earlier (z ∷ w) f g =
      let tail = tails_same x z b (w ++ x ∷ b2) g in
      let there : In x b = subst (λ l. In x l) (sym tail) (in_right w (x ∷ b2) x (inl refl)) in
      absurd ((apart_right a (x ∷ b) apart).0 x there refl)

  later : (w : List Gap) → a ≡ a2 ++ w → x ∷ b2 ≡ w ++ x ∷ b → (a ≡ a2) × (b ≡ b2)
  later [] f g = (f ∙ append-nil a2, sym (tails_same x x b2 b g))
  later (z ∷ w) f g =
      let head = heads_same x z b2 (w ++ x ∷ b) g in
      let there : In x a = subst (λ l. In x l) (sym f) (in_right a2 (z ∷ w) x (inl head)) in
      absurd (apart_across a (x ∷ b) apart x x there (inl refl) refl)

-- the gap behind the own message is the next one
next_is : (x y : Gap) (gaps a b : List Gap) → Apart gaps → IsNext x y gaps → gaps ≡ a ++ x ∷ b → (r : List Gap) × (b ++ a ≡ y ∷ r)
next_is x y gaps a b apart (inl n) e =
    let s = split_same x a b n.0 (y ∷ n.1) (subst Apart e apart) (sym e ∙ n.2) in
    (n.1 ++ a, ap (λ l. l ++ a) s.1)
next_is x y gaps a b apart (inr n) e =
    let s = split_same x a b (y ∷ n.0) [] (subst Apart e apart) (sym e ∙ n.1) in
    (n.0, ap (λ l. l ++ a) s.1 ∙ s.0)

pub neighbours_bear : (d sg : ℕ) (gaps : List Gap) (x y : Gap) → Apart gaps → AreWide d gaps → In x gaps → IsNext x y gaps
    → x.from + (sg + d) ≤ x.to → y.from + sg ≤ y.to → gaps_hold d sg gaps ≡ true
neighbours_bear d sg gaps x y apart wide i next long_x long_y = hold_from d sg gaps apart wide (λ a own b e other.
    elim (own_or_other x a own b (subst (λ l. In x l) e i)) [
      | inl same ↦
          let n = next_is x y gaps a b apart next (e ∙ ap (λ g. a ++ g ∷ b) (sym same)) in
          subst (λ l. stays d sg own.sender.number (Some 0) (l ++ own ∷ []) ≡ true) (sym n.1)
          (pass_weak d sg own.sender.number [] y n.0 own (λ g k. other g (subst (λ l. In g l) (sym n.1) k)) (λ g k. absurd k) long_y refl)
      | inr k ↦ by_strong d sg (b ++ a) own x other k long_x
    ])
