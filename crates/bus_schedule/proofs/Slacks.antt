-- What follows of the slack of a sender.
use Rattle.std.proofs.Common.{◌≡◌, ◌≢◌, ℕ, ◌+◌, ◌-◌, ◌<◌, ◌≤◌, true, false, cond, ◌&&◌, min, eqb, List, [], ◌∷◌, ◌++◌, Option, Some, None, unwrap_or, ◌⊎◌, inl, inr, arith, sym, refl, ap, ◌∙◌, subst}
use Rattle.std.specs.Prelude.{◌==◌, if◌then◌else◌}
use Rattle.std.proofs.lemmas.Bool.{cases_Bool, and_parts, eq-eqb, ne_eqb, leb-true, lt-leb}
use Rattle.std.proofs.lemmas.List.{append-nil, append_assoc}
use Rattle.bus_strings.specs.Members.{In}
use Rattle.bus_regime.specs.Gaps.{Gap, has_width}
use Rattle.bus_schedule.specs.Slack.{slack_behind, is_enough, stays, all_stay}

-- gaps behind its own don't count
pub stays_more : (d sg number : ℕ) (slack : Option ℕ) (gaps more : List Gap) → stays d sg number slack gaps ≡ true
    → stays d sg number slack (gaps ++ more) ≡ true
stays_more d sg number slack [] more h = absurd cc
stays_more d sg number slack (gap ∷ gaps) more h =
    elim (eqb gap.sender.number number) as (λ b. cond b (is_enough sg slack gap) (stays d sg number (slack_behind d sg slack gap) gaps) ≡ true
    → cond b (is_enough sg slack gap) (stays d sg number (slack_behind d sg slack gap) (gaps ++ more)) ≡ true) [
      | true ↦ λ k. k
      | false ↦ λ k. stays_more d sg number (slack_behind d sg slack gap) gaps more k
    ] h

-- at its own gap
pub stays_own : (d sg number : ℕ) (slack : Option ℕ) (gap : Gap) (gaps : List Gap) → gap.sender.number ≡ number
    → stays d sg number slack (gap ∷ gaps) ≡ true → is_enough sg slack gap ≡ true
stays_own d sg number slack gap gaps same h =
    subst (λ b. cond b (is_enough sg slack gap) (stays d sg number (slack_behind d sg slack gap) gaps) ≡ true) (eq-eqb gap.sender.number number same) h

-- at another's
pub stays_next : (d sg number : ℕ) (slack : Option ℕ) (gap : Gap) (gaps : List Gap) → gap.sender.number ≢ number
    → stays d sg number slack (gap ∷ gaps) ≡ true → stays d sg number (slack_behind d sg slack gap) gaps ≡ true
stays_next d sg number slack gap gaps apart h =
    subst (λ b. cond b (is_enough sg slack gap) (stays d sg number (slack_behind d sg slack gap) gaps) ≡ true) (ne_eqb gap.sender.number number apart) h

-- each sender stays in sync from its own message on
pub all_stay_at : (d sg : ℕ) (before ahead : List Gap) (own : Gap) (behind : List Gap) → all_stay d sg before (ahead ++ own ∷ behind) ≡ true
    → stays d sg own.sender.number (Some 0) (behind ++ ((before ++ ahead) ++ own ∷ [])) ≡ true
all_stay_at d sg before [] own behind h =
    subst (λ b. stays d sg own.sender.number (Some 0) (behind ++ (b ++ own ∷ [])) ≡ true) (sym (append-nil before)) (and_parts _ _ h).0
all_stay_at d sg before (gap ∷ ahead) own behind h =
    subst (λ b. stays d sg own.sender.number (Some 0) (behind ++ (b ++ own ∷ [])) ≡ true) (append_assoc before (gap ∷ []) ahead)
    (all_stay_at d sg (before ++ gap ∷ []) ahead own behind (and_parts _ _ h).1)

pub enough_room : (sg slack : ℕ) (own : Gap) → is_enough sg (Some slack) own ≡ true → own.from + (sg + own.sender.tg + slack) ≤ own.to
enough_room sg slack own h = leb-true (own.from + (sg + own.sender.tg + slack)) own.to h

-- who hears the message behind a gap so many bit times later, and no synchronization gap before it, has as much slack
pub slack_next : (d sg slack late : ℕ) (gap : Gap) → gap.from ≤ gap.to → late ≤ d → gap.to + late < gap.from + slack + sg
    → (next : ℕ) × (late ≤ next) × (slack_behind d sg (Some slack) gap ≡ Some next)
slack_next d sg slack late gap wide most hears = (
  min d (slack + sg - 1 - (gap.to - gap.from)),
  (let k : late ≤ slack + sg - 1 - (gap.to - gap.from) = omega arith in grind arith),
  rw (lt-leb (gap.from + (slack + sg)) gap.to (omega arith)) refl,
)

-- ---- of a sender that doesn't stay in sync
-- who has heard a synchronization gap is in sync at its own gap
pub none_stays : (d sg number : ℕ) (gaps : List Gap) (own : Gap) → In own gaps → own.sender.number ≡ number → stays d sg number None gaps ≡ true
none_stays d sg number [] own i same = absurd i
none_stays d sg number (gap ∷ gaps) own (inl here) same =
    rw (eq-eqb gap.sender.number number (ap (λ (g : Gap). g.sender.number) (sym here) ∙ same)) refl
none_stays d sg number (gap ∷ gaps) own (inr i) same =
    elim (eqb gap.sender.number number) as (λ b. cond b true (stays d sg number None gaps) ≡ true) [
      | true ↦ refl
      | false ↦ none_stays d sg number gaps own i same
    ]

-- a sender that doesn't stay in sync, by where its gap stands
pub record Lacks (d sg : ℕ) (before all : List Gap) : Type 0 where
  pub ahead : List Gap
  pub own : Gap
  pub behind : List Gap
  pub split : all ≡ ahead ++ own ∷ behind
  pub fails : stays d sg own.sender.number (Some 0) (behind ++ ((before ++ ahead) ++ own ∷ [])) ≡ false

pub lacks : (d sg : ℕ) (before all : List Gap) → all_stay d sg before all ≡ false → Lacks d sg before all
lacks d sg before [] h = absurd cc
lacks d sg before (own ∷ behind) h = elim (cases_Bool (stays d sg own.sender.number (Some 0) (behind ++ (before ++ own ∷ [])))) [
  | inl keeps ↦
      let w : Lacks d sg (before ++ own ∷ []) behind = lacks d sg (before ++ own ∷ []) behind
      (ap (λ b. b && all_stay d sg (before ++ own ∷ []) behind) (sym keeps) ∙ h) in
      record {
        ahead = own ∷ w.ahead;
        own = w.own;
        behind = w.behind;
        split = ap (λ gs. own ∷ gs) w.split;
        fails = subst (λ gs. stays d sg w.own.sender.number (Some 0) (w.behind ++ (gs ++ w.own ∷ [])) ≡ false) (append_assoc before (own ∷ []) w.ahead) w.fails;
      }
  | inr fails ↦ record {
    ahead = [];
    own = own;
    behind = behind;
    split = refl;
    fails = subst (λ gs. stays d sg own.sender.number (Some 0) (behind ++ (gs ++ own ∷ [])) ≡ false) (sym (append-nil before)) fails;
  }
]

-- the place of each other sender: its slack behind it, and 0 where there is none
abbrev pub places : ℕ → ℕ → Option ℕ → List Gap → ℕ → ℕ
places d sg slack [] number = 0
places d sg slack (gap ∷ gaps) number =
    if gap.sender.number == number then unwrap_or (slack_behind d sg slack gap) 0 else places d sg (slack_behind d sg slack gap) gaps number

slack_within : (d sg : ℕ) (slack : Option ℕ) (gap : Gap) → unwrap_or (slack_behind d sg slack gap) 0 ≤ d
slack_within d sg None gap = omega arith
slack_within d sg (Some slack) gap =
    elim (has_width (slack + sg) gap) as (λ b. unwrap_or (cond b None (Some (min d (slack + sg - 1 - (gap.to - gap.from))))) 0 ≤ d) [
      | true ↦ omega arith
      | false ↦ omega arith
    ]

pub places_within : (d sg : ℕ) (slack : Option ℕ) (gaps : List Gap) (number : ℕ) → places d sg slack gaps number ≤ d
places_within d sg slack [] number = omega arith
places_within d sg slack (gap ∷ gaps) number =
    elim (eqb gap.sender.number number) as (λ b. cond b (unwrap_or (slack_behind d sg slack gap) 0) (places d sg (slack_behind d sg slack gap) gaps number) ≤ d) [
      | true ↦ slack_within d sg slack gap
      | false ↦ places_within d sg (slack_behind d sg slack gap) gaps number
    ]

pub places_none : (d sg : ℕ) (slack : Option ℕ) (gaps : List Gap) (number : ℕ) → ((g : Gap) → In g gaps → g.sender.number ≢ number)
    → places d sg slack gaps number ≡ 0
places_none d sg slack [] number apart = refl
places_none d sg slack (gap ∷ gaps) number apart =
    rw (ne_eqb gap.sender.number number (apart gap (inl refl))) (places_none d sg (slack_behind d sg slack gap) gaps number (λ g i. apart g (inr i)))

pub places_here : (d sg : ℕ) (slack : Option ℕ) (gap : Gap) (gaps : List Gap) (number : ℕ) → gap.sender.number ≡ number
    → places d sg slack (gap ∷ gaps) number ≡ unwrap_or (slack_behind d sg slack gap) 0
places_here d sg slack gap gaps number same = rw (eq-eqb gap.sender.number number same) refl

pub places_later : (d sg : ℕ) (slack : Option ℕ) (gap : Gap) (gaps : List Gap) (number : ℕ) → gap.sender.number ≢ number
    → places d sg slack (gap ∷ gaps) number ≡ places d sg (slack_behind d sg slack gap) gaps number
places_later d sg slack gap gaps number apart = rw (ne_eqb gap.sender.number number apart) refl

-- the walk, step by step
pub stays_here : (d sg number : ℕ) (slack : Option ℕ) (gap : Gap) (gaps : List Gap) → gap.sender.number ≡ number
    → stays d sg number slack (gap ∷ gaps) ≡ is_enough sg slack gap
stays_here d sg number slack gap gaps same = rw (eq-eqb gap.sender.number number same) refl

pub stays_later : (d sg number : ℕ) (slack : Option ℕ) (gap : Gap) (gaps : List Gap) → gap.sender.number ≢ number
    → stays d sg number slack (gap ∷ gaps) ≡ stays d sg number (slack_behind d sg slack gap) gaps
stays_later d sg number slack gap gaps apart = rw (ne_eqb gap.sender.number number apart) refl

-- a walk without delays: the slack is 0 until a synchronization gap comes
pub step_none : (sg : ℕ) (gap : Gap) → (slack_behind 0 sg (Some 0) gap ≡ None) ⊎ (slack_behind 0 sg (Some 0) gap ≡ Some 0)
step_none sg gap = elim (cases_Bool (has_width (0 + sg) gap)) [
  | inl elapses ↦ inl (rw elapses refl)
  | inr not ↦ inr (rw not (ap Some (let e : min 0 (0 + sg - 1 - (gap.to - gap.from)) ≡ 0 = omega arith in e)))
]

-- a sender that neither another's gap synchronizes nor its own
pub never_stays : (sg number : ℕ) (others : List Gap) (own : Gap) → own.sender.number ≡ number
    → ((g : Gap) → In g others → (g.sender.number ≢ number) × (g.to < g.from + sg)) → own.to < own.from + (sg + own.sender.tg)
    → stays 0 sg number (Some 0) (others ++ own ∷ []) ≡ false
never_stays sg number [] own mine narrow short =
    stays_here 0 sg number (Some 0) own [] mine ∙ lt-leb (own.from + (sg + own.sender.tg + 0)) own.to (omega arith)
never_stays sg number (g ∷ others) own mine narrow short =
    let less : g.to < g.from + sg = (narrow g (inl refl)).1 in
    let none : slack_behind 0 sg (Some 0) g ≡ Some 0 =
    rw (lt-leb (g.from + (0 + sg)) g.to (omega arith)) (ap Some (let e : min 0 (0 + sg - 1 - (g.to - g.from)) ≡ 0 = omega arith in e)) in
    stays_later 0 sg number (Some 0) g (others ++ own ∷ []) (narrow g (inl refl)).0
    ∙ ap (λ s. stays 0 sg number s (others ++ own ∷ [])) none ∙ never_stays sg number others own mine (λ h i. narrow h (inr i)) short
