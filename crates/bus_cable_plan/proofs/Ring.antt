-- Gaps that bear a delay have enough, where none of their senders reaches a synchronization gap by its terminal gap and the delay alone.
use Rattle.std.proofs.Common.{◌≡◌, ◌≢◌, ℕ, ◌+◌, ◌≤◌, true, List, [], ◌∷◌, ◌++◌, Some, inl, inr, arith, refl, sym, ap, ◌∙◌, subst}
use Rattle.std.specs.List.{list_all}
use Rattle.std.proofs.lemmas.Bool.{and_parts, leb-true, cases_lt}
use Rattle.std.proofs.lemmas.List.{append-nil, append_assoc}
use Rattle.bus_strings.specs.Members.{In}
use Rattle.bus_regime.specs.Gaps.{Gap}
use Rattle.bus_schedule.specs.Slack.{stays, all_stay, is_wide}
use Rattle.bus_cable_plan.specs.inside.Lists.{Apart, total, wants, AreNear, AreWide, IsUp, HasUpEnds}
use Rattle.bus_cable_plan.proofs.Splits.{heads_same, tails_same, append_cases, in_left, in_right, in_cases, total_append, wants_append}
use Rattle.bus_cable_plan.proofs.Walking.{Outcome, walk}

-- ---- what each sender hears
pub all_wide : (d : ℕ) (gaps : List Gap) → list_all (is_wide d) gaps ≡ true → AreWide d gaps
all_wide d [] h g i = absurd i
all_wide d (x ∷ gaps) h g (inl e) =
    subst (λ (y : Gap). y.from + (y.sender.tg + d) ≤ y.to) (sym e) (leb-true (x.from + (x.sender.tg + d)) x.to (and_parts _ _ h).0)
all_wide d (x ∷ gaps) h g (inr i) = all_wide d gaps (and_parts _ _ h).1 g i

pub all_stay_at : (d sg : ℕ) (before ahead : List Gap) (own : Gap) (behind : List Gap) → all_stay d sg before (ahead ++ own ∷ behind) ≡ true
    → stays d sg own.sender.number (Some 0) (behind ++ ((before ++ ahead) ++ own ∷ [])) ≡ true
all_stay_at d sg before [] own behind h =
    subst (λ b. stays d sg own.sender.number (Some 0) (behind ++ (b ++ own ∷ [])) ≡ true) (sym (append-nil before)) (and_parts _ _ h).0
all_stay_at d sg before (gap ∷ ahead) own behind h =
    subst (λ b. stays d sg own.sender.number (Some 0) (behind ++ (b ++ own ∷ [])) ≡ true) (append_assoc before (gap ∷ []) ahead)
    (all_stay_at d sg (before ++ gap ∷ []) ahead own behind (and_parts _ _ h).1)

others_in : (ahead : List Gap) (own : Gap) (behind : List Gap) (g : Gap) → In g (behind ++ ahead) → In g (ahead ++ own ∷ behind)
others_in ahead own behind g i = elim (in_cases behind ahead g i) [
  | inl l ↦ in_right ahead (own ∷ behind) g (inr l)
  | inr r ↦ in_left ahead (own ∷ behind) g r
]

pub others_apart : (ahead : List Gap) (own : Gap) (behind : List Gap) → Apart (ahead ++ own ∷ behind) → (g : Gap) → In g (behind ++ ahead)
    → g.sender.number ≢ own.sender.number
others_apart [] own behind apart g i =
    elim (in_cases behind [] g i) [ inl l ↦ λ same. apart.0 g l (sym same) | inr r ↦ absurd r ]
others_apart (x ∷ ahead) own behind apart g i = elim (in_cases behind (x ∷ ahead) g i) [
  | inl l ↦ others_apart ahead own behind apart.1 g (in_left behind ahead g l)
  | inr r ↦ elim r [
    | inl e ↦ λ same. apart.0 own (in_right ahead (own ∷ behind) own (inl refl)) (sym (ap (λ (y : Gap). y.sender.number) e) ∙ same)
    | inr j ↦ others_apart ahead own behind apart.1 g (in_right behind ahead g j)
  ]
]

-- each sender of these gaps hears something among the others, wherever the list begins
abbrev pub Ring : ℕ → ℕ → List Gap → Type 0
Ring d sg gaps = (a : List Gap) (own : Gap) (b : List Gap) → gaps ≡ a ++ own ∷ b → Outcome d sg (b ++ a) own

ring_at : (d sg : ℕ) (a : List Gap) (own : Gap) (b : List Gap) → Apart (a ++ own ∷ b) → AreNear d sg (a ++ own ∷ b) → AreWide d (a ++ own ∷ b)
    → all_stay d sg [] (a ++ own ∷ b) ≡ true → Outcome d sg (b ++ a) own
ring_at d sg a own b apart near wide stay =
    let here = in_right a (own ∷ b) own (inl refl) in
    walk d sg (b ++ a) own (others_apart a own b apart) (λ g i. near g (others_in a own b g i)) (λ g i. wide g (others_in a own b g i))
    (near own here) (wide own here)
    (subst (λ l. stays d sg own.sender.number (Some 0) l ≡ true) (sym (append_assoc b a (own ∷ []))) (all_stay_at d sg [] a own b stay))

pub ring_of : (d sg : ℕ) (gaps : List Gap) → Apart gaps → AreNear d sg gaps → AreWide d gaps → all_stay d sg [] gaps ≡ true → Ring d sg gaps
ring_of d sg gaps apart near wide stay a own b e =
    ring_at d sg a own b (subst Apart e apart) (subst (AreNear d sg) e near) (subst (AreWide d) e wide)
    (subst (λ l. all_stay d sg [] l ≡ true) e stay)

pub ring_turned : (d sg : ℕ) (p q : List Gap) → Ring d sg (p ++ q) → Ring d sg (q ++ p)
ring_turned d sg p q ring a own b e = elim (append_cases q p a (own ∷ b) e) [
  | inl k ↦
      let w : List Gap = k.0 in
      subst (λ l. Outcome d sg l own) (append_assoc b q w ∙ ap (λ l. b ++ l) (sym k.1))
      (ring w own (b ++ q) (ap (λ l. l ++ q) k.2 ∙ append_assoc w (own ∷ b) q))
  | inr k ↦ at k.0 k.1 k.2
] where
  at : (w : List Gap) → q ≡ a ++ w → own ∷ b ≡ w ++ p → Outcome d sg (b ++ a) own
  at [] f g =
      subst (λ l. Outcome d sg l own) (append-nil (b ++ q) ∙ ap (λ l. b ++ l) (f ∙ append-nil a))
      (ring [] own (b ++ q) (ap (λ l. l ++ q) (sym g)))
  at (z ∷ w) f g =
      let head = heads_same own z b (w ++ p) g in
      let tail = tails_same own z b (w ++ p) g in
      subst (λ l. Outcome d sg l own) (sym (append_assoc w p a) ∙ ap (λ l. l ++ a) (sym tail))
      (ring (p ++ a) own w (ap (λ l. p ++ l) (f ∙ ap (λ y. a ++ y ∷ w) (sym head)) ∙ sym (append_assoc p a (own ∷ w))))

-- ---- the ends of gaps that are up
pub ends_in : (d sg : ℕ) (a w : List Gap) (x : Gap) → HasUpEnds d sg (a ++ (w ++ x ∷ [])) → IsUp d sg (w ++ x ∷ [])
ends_in d sg [] [] x h = h.0
ends_in d sg [] (z ∷ w) x h = h.0
ends_in d sg (y ∷ a) w x h = ends_in d sg a w x h.1

-- each end but the whole
abbrev pub HasUpRest : ℕ → ℕ → List Gap → Gap → Type 0
HasUpRest d sg [] own = Unit {0}
HasUpRest d sg (g ∷ gs) own = HasUpEnds d sg (gs ++ own ∷ [])

ends_from : (d sg : ℕ) (a : List Gap) (own : Gap) → HasUpRest d sg a own → IsUp d sg (a ++ own ∷ []) → HasUpEnds d sg (a ++ own ∷ [])
ends_from d sg [] own h up = (up, tt)
ends_from d sg (x ∷ a) own h up = (up, h)

-- no beginning of these gaps is up
abbrev pub IsFlat : ℕ → ℕ → List Gap → Type 0
IsFlat d sg gaps = (u v : List Gap) → gaps ≡ u ++ v → total d u ≤ wants d sg u

flat_none : (d sg : ℕ) → IsFlat d sg []
flat_none d sg [] v e = omega arith
flat_none d sg (x ∷ u) v e = absurd cc

-- where the gaps so far are longest: from no later place on they are up, up to no earlier one
pub record IsTop (d sg : ℕ) (gaps : List Gap) : Type 0 where
  pub ahead : List Gap
  pub own : Gap
  pub behind : List Gap
  pub is : gaps ≡ ahead ++ own ∷ behind
  pub ups : HasUpRest d sg ahead own
  pub flat : IsFlat d sg behind

-- a beginning that ends before the top
flat_ahead : (d sg : ℕ) (ahead : List Gap) (own : Gap) → HasUpRest d sg ahead own → total d (ahead ++ own ∷ []) ≤ wants d sg (ahead ++ own ∷ [])
    → (u w : List Gap) → ahead ≡ u ++ w → total d u ≤ wants d sg u
flat_ahead d sg ahead own ups low [] w e = omega arith
flat_ahead d sg ahead own ups low (x ∷ u) w e =
    let rest : HasUpEnds d sg ((u ++ w) ++ own ∷ []) = subst (λ l. HasUpRest d sg l own) e ups in
    let up = ends_in d sg u w own (subst (HasUpEnds d sg) (append_assoc u w (own ∷ [])) rest) in
    let whole : ahead ++ own ∷ [] ≡ (x ∷ u) ++ (w ++ own ∷ []) = ap (λ l. l ++ own ∷ []) e ∙ append_assoc (x ∷ u) w (own ∷ []) in
    let t = ap (total d) whole ∙ total_append d (x ∷ u) (w ++ own ∷ []) in
    let n = ap (wants d sg) whole ∙ wants_append d sg (x ∷ u) (w ++ own ∷ []) in
    omega (arith, t, n, up, low)

flat_all : (d sg : ℕ) (gaps : List Gap) (t : IsTop d sg gaps)
    → total d (t.ahead ++ t.own ∷ []) ≤ wants d sg (t.ahead ++ t.own ∷ []) → IsFlat d sg gaps
flat_all d sg gaps t low u v e = elim (append_cases u v t.ahead (t.own ∷ t.behind) (sym e ∙ t.is)) [
  | inl k ↦ flat_ahead d sg t.ahead t.own t.ups low u k.0 k.1
  | inr k ↦ at k.0 k.1 k.2
] where
  at : (w : List Gap) → u ≡ t.ahead ++ w → t.own ∷ t.behind ≡ w ++ v → total d u ≤ wants d sg u
  at [] f g = flat_ahead d sg t.ahead t.own t.ups low u [] (sym (append-nil t.ahead) ∙ sym f ∙ sym (append-nil u))
  at (z ∷ w) f g =
      let head = heads_same t.own z t.behind (w ++ v) g in
      let tail = tails_same t.own z t.behind (w ++ v) g in
      let rest = t.flat w v tail in
      let whole : u ≡ (t.ahead ++ t.own ∷ []) ++ w =
      f ∙ ap (λ y. t.ahead ++ y ∷ w) (sym head) ∙ sym (append_assoc t.ahead (t.own ∷ []) w) in
      let p = ap (total d) whole ∙ total_append d (t.ahead ++ t.own ∷ []) w in
      let q = ap (wants d sg) whole ∙ wants_append d sg (t.ahead ++ t.own ∷ []) w in
      omega (arith, p, q, rest, low)

pub top_of : (d sg : ℕ) (g : Gap) (gaps : List Gap) → IsTop d sg (g ∷ gaps)
top_of d sg g [] = record { ahead = []; own = g; behind = []; is = refl; ups = tt; flat = flat_none d sg }
top_of d sg g (h ∷ gaps) =
    let t : IsTop d sg (h ∷ gaps) = top_of d sg h gaps in
    elim (cases_lt (wants d sg (t.ahead ++ t.own ∷ [])) (total d (t.ahead ++ t.own ∷ []))) [
      | inl more ↦ record {
        ahead = g ∷ t.ahead;
        own = t.own;
        behind = t.behind;
        is = ap (λ l. g ∷ l) t.is;
        ups = ends_from d sg t.ahead t.own t.ups (omega (arith, more));
        flat = t.flat;
      }
      | inr low ↦ record { ahead = []; own = g; behind = h ∷ gaps; is = refl; ups = tt; flat = flat_all d sg (h ∷ gaps) t low }
    ]
