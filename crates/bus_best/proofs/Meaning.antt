-- What is said by blame holds.
use Rattle.std.specs.Prelude.{nat_lt, nat_le, ◌==◌, get_or, slice_get}
use Rattle.std.proofs.Common.{arith, ◌≡◌, ℕ, zero, suc, ◌+◌, ◌-◌, ◌*◌, ◌<◌, ◌≤◌, Bool, true, false, cond, List, [], ◌∷◌, length, Some, None, Option}
use Rattle.std.proofs.Common.{refl, sym, ◌∙◌, ap, subst, inl, inr}
use Rattle.std.proofs.lemmas.Bool.{cases_lt, and_parts, and_from}
use Rattle.std.proofs.lemmas.Bool.Decides.{nat_tests}
use Rattle.bus_bounds.specs.Bounds.{Bounds, most_clocks, error, drift}
use Rattle.bus_bounds.proofs.BoundLaws.{drift_more}
use Rattle.bus_gaps.specs.declared.speaker.Speaker.{Speaker}
use Rattle.bus_gaps.specs.Gaps.{least_time, most_time, drop_of, sway, first_low, next_low, Waits}
use Rattle.bus_gaps.specs.Designs.{AreAtMost}
use Rattle.bus_gaps.proofs.Chains.{most_time_more}
use Rattle.bus_best.specs.declared.blame.Rule.{Rule}
use Rattle.bus_best.specs.declared.blame.Rule.TheVariants.{Joining}
use Rattle.bus_best.specs.declared.blame.Needed.{Needed}
use Rattle.bus_best.specs.declared.blame.Blame.{Blame}
use Rattle.bus_best.specs.declared.blame.Blame.TheVariants.{Lasts, Whole}
use Rattle.bus_best.specs.Asked.{asked, asked_from, least_bits, least_gap, least_whole}
use Rattle.bus_best.specs.Blames.{above, all_wait, blame_from, blame_gaps, blame_of, first_above, first_unlasting, gap_or, rule_behind, told_or, waiting_or, waits}
use Rattle.bus_best.specs.Blames.{HaveApart, Means}
use Rattle.bus_best.specs.Groups.{IsWhole, AreApart, AreApartFrom, AllWait}
use Rattle.bus_best.proofs.Bits.{bits_last, bits_least}

-- ---- what rises
sway_added : (bounds : Bounds) (sg d : ℕ) → bounds.clocks ≤ most_clocks → sway bounds sg ≤ sway bounds (sg + d)
sway_added bounds sg d within =
    let m = drift_more bounds.clocks (500 * sg) (500 * d) within in
    let e : 500 * sg + 500 * d ≡ 500 * (sg + d) = omega arith in
    let low : drift bounds.clocks (500 * sg) ≤ drift bounds.clocks (500 * (sg + d)) = rw e at (m.0) in
    let high : drift bounds.clocks (500 * (sg + d)) ≤ drift bounds.clocks (500 * sg) + 500 * d = rw e at (m.1) in
    omega (arith, low, high)

sway_more : (bounds : Bounds) (sg more : ℕ) → bounds.clocks ≤ most_clocks → sg ≤ more → sway bounds sg ≤ sway bounds more
sway_more bounds sg more within l = let e : sg + (more - sg) ≡ more = omega arith in rw e at (sway_added bounds sg (more - sg) within)

pub next_more : (bounds : Bounds) (sg more x y : ℕ) → bounds.clocks ≤ most_clocks → sg ≤ more → x ≤ y → next_low bounds sg x ≤ next_low bounds more y
next_more bounds sg more x y within l m =
    let s = sway_more bounds sg more within l in
    let t = most_time_more bounds x y within m in
    omega (arith, s, t)

first_more : (bounds : Bounds) (sg more : ℕ) (alone : Bool) → bounds.clocks ≤ most_clocks → IsWhole bounds sg → sg ≤ more
    → first_low bounds sg alone ≤ first_low bounds more alone
first_more bounds sg more true within whole l = let w = whole.lasts in omega (arith, w)
first_more bounds sg more false within whole l = let s = sway_more bounds sg more within l in omega (arith, s)

-- ---- the least gap
gap_by : (bounds : Bounds) (low : ℕ) (b : Bool) → bounds.clocks ≤ most_clocks → nat_le low (least_time bounds 8) ≡ b
    → (8 ≤ cond b 8 (least_bits bounds low)) × (low ≤ least_time bounds (cond b 8 (least_bits bounds low)))
gap_by bounds low true within e = (omega arith, grind (arith, nat_tests, e))
gap_by bounds low false within e =
    let m : least_time bounds 8 < low = grind (arith, nat_tests, e) in
    let last : low ≤ least_time bounds (least_bits bounds low) = bits_last bounds low (least_bits bounds low) within (omega arith) in
    let up : 8 ≤ least_bits bounds low = elim (cases_lt (least_bits bounds low) 8) [
      | inl l ↦ absurd (let a : low ≤ least_time bounds 8 = bits_last bounds low 8 within (omega (arith, l)) in omega (arith, a, m))
      | inr r ↦ r
    ] in
    (up, last)

gap_is : (bounds : Bounds) (low : ℕ) → bounds.clocks ≤ most_clocks → (8 ≤ least_gap bounds low) × (low ≤ least_time bounds (least_gap bounds low))
gap_is bounds low within = gap_by bounds low (nat_le low (least_time bounds 8)) within refl

gap_least_by : (bounds : Bounds) (low x : ℕ) (b : Bool) → bounds.clocks ≤ most_clocks → nat_le low (least_time bounds 8) ≡ b → 8 ≤ x
    → low ≤ least_time bounds x → cond b 8 (least_bits bounds low) ≤ x
gap_least_by bounds low x true within e least h = least
gap_least_by bounds low x false within e least h =
    let m : least_time bounds 8 < low = grind (arith, nat_tests, e) in
    bits_least bounds low x within (omega (arith, m)) h

gap_least : (bounds : Bounds) (low x : ℕ) → bounds.clocks ≤ most_clocks → 8 ≤ x → low ≤ least_time bounds x → least_gap bounds low ≤ x
gap_least bounds low x within least h = gap_least_by bounds low x (nat_le low (least_time bounds 8)) within refl least h

-- ---- the least synchronization gap
pub whole_least : (bounds : Bounds) (sg : ℕ) → bounds.clocks ≤ most_clocks → IsWhole bounds sg → least_whole bounds ≤ sg
whole_least bounds sg within whole =
    let b = bits_least bounds (drop_of bounds) sg within (omega arith) whole.lasts in
    let l = whole.least in
    omega (arith, b, l)

pub whole_from : (bounds : Bounds) (sg : ℕ) → bounds.clocks ≤ most_clocks → least_whole bounds ≤ sg → IsWhole bounds sg
whole_from bounds sg within l = record {
  least = omega (arith, l);
  lasts = bits_last bounds (drop_of bounds) sg within (omega (arith, l));
}

-- ---- the least gaps
asked_apart : (bounds : Bounds) (sg low n : ℕ) → bounds.clocks ≤ most_clocks → AreApartFrom bounds sg low n (asked_from bounds sg low n)
asked_apart bounds sg low zero within = tt
asked_apart bounds sg low (suc n) within =
    let g = gap_is bounds low within in
    (g.0, g.1, asked_apart bounds sg (next_low bounds sg (least_gap bounds low)) n within)

asked_least : (bounds : Bounds) (sg more low high n : ℕ) (gaps : List ℕ) → bounds.clocks ≤ most_clocks → sg ≤ more → low ≤ high
    → AreApartFrom bounds more high n gaps → AreAtMost (asked_from bounds sg low n) gaps
asked_least bounds sg more low high zero [] within l m a = tt
asked_least bounds sg more low high zero (x ∷ gaps) within l m a = absurd a
asked_least bounds sg more low high (suc n) [] within l m a = absurd a
asked_least bounds sg more low high (suc n) (x ∷ gaps) within l m a =
    let lasts : high ≤ least_time bounds x = a.1 in
    let less : least_gap bounds low ≤ x = gap_least bounds low x within a.0 (omega (arith, m, lasts)) in (
      less,
      asked_least bounds sg more (next_low bounds sg (least_gap bounds low)) (next_low bounds more x) n gaps within l
          (next_more bounds sg more (least_gap bounds low) x within l less) a.2,
    )

pub all_least : (bounds : Bounds) (count sg more : ℕ) (gaps : List ℕ) → bounds.clocks ≤ most_clocks → IsWhole bounds sg → sg ≤ more
    → AreApart bounds count more gaps → AreAtMost (asked bounds count sg) gaps
all_least bounds count sg more gaps within whole l a =
    asked_least bounds sg more _ _ count gaps within l (first_more bounds sg more (count == 1) within whole l) a

-- ---- the first that is too great
record Above (place : ℕ) (needed : Needed) (gaps : List ℕ) : Type 0 where
  behind : ℕ
  at : needed.place ≡ place + behind
  many : 256 < needed.bits
  asked : needed.bits ≤ get_or gaps behind 0

same_needed : (w needed : Needed) → Some w ≡ Some needed → needed ≡ w
same_needed w needed k = cc

is_above : (bounds : Bounds) (sg place : ℕ) (rule : Rule) (xs gaps : List ℕ) (needed : Needed) → first_above bounds sg place rule xs ≡ Some needed
    → AreAtMost xs gaps → Above place needed gaps
is_above bounds sg place rule [] gaps needed e m = absurd (let k : None ≡ Some needed = e in cc)
is_above bounds sg place rule (x ∷ xs) [] needed e m = absurd m
is_above bounds sg place rule (x ∷ xs) (y ∷ gaps) needed e m =
    here (λ k. is_above bounds sg (suc place) (rule_behind bounds sg x) xs gaps needed k m.1) (nat_lt 256 x) refl e where
      here : (first_above bounds sg (suc place) (rule_behind bounds sg x) xs ≡ Some needed → Above (suc place) needed gaps) → (b : Bool) → nat_lt 256 x ≡ b
          → cond b (Some (record { rule = rule; place = place; bits = x })) (first_above bounds sg (suc place) (rule_behind bounds sg x) xs) ≡ Some needed
          → Above place needed (y ∷ gaps)
      here later true t k =
          let it : needed ≡ record { rule = rule; place = place; bits = x } = same_needed _ needed k in
          let many : 256 < x = grind (arith, nat_tests, t) in
          let less = m.0 in
          record {
            behind = 0;
            at = ap (λ (w : Needed). w.place) it ∙ (omega arith);
            many = subst (λ (w : Needed). 256 < w.bits) (sym it) many;
            asked = subst (λ (w : Needed). w.bits ≤ y) (sym it) less;
          }
      here later false t k =
          let a = later k in
          let at = a.at in
          record { behind = suc a.behind; at = omega (arith, at); many = a.many; asked = a.asked }

none_above : (bounds : Bounds) (sg place : ℕ) (rule : Rule) (xs : List ℕ) → first_above bounds sg place rule xs ≡ None
    → (k : ℕ) → get_or xs k 0 ≤ 256
none_above bounds sg place rule [] e k = omega arith
none_above bounds sg place rule (x ∷ xs) e k = here (none_above bounds sg (suc place) (rule_behind bounds sg x) xs) (nat_lt 256 x) refl e k where
  here : (first_above bounds sg (suc place) (rule_behind bounds sg x) xs ≡ None → (k : ℕ) → get_or xs k 0 ≤ 256) → (b : Bool) → nat_lt 256 x ≡ b
      → cond b (Some (record { rule = rule; place = place; bits = x })) (first_above bounds sg (suc place) (rule_behind bounds sg x) xs) ≡ None
      → (k : ℕ) → get_or (x ∷ xs) k 0 ≤ 256
  here later true t e k = absurd (let f : Some (record { rule = rule; place = place; bits = x }) ≡ None = e in cc)
  here later false t e zero = grind (arith, nat_tests, t)
  here later false t e (suc k) = later e k

-- ---- gaps that wait
pub waits_true : (bounds : Bounds) (sg : ℕ) (alone : Bool) (x : ℕ) → waits bounds sg alone x ≡ true → Waits bounds sg alone x
waits_true bounds sg true x e = grind (arith, nat_tests, e)
waits_true bounds sg false x e = grind (arith, nat_tests, e)

pub true_waits : (bounds : Bounds) (sg : ℕ) (alone : Bool) (x y : ℕ) → bounds.clocks ≤ most_clocks → x ≤ y → Waits bounds sg alone y
    → waits bounds sg alone x ≡ true
true_waits bounds sg true x y within l w = let h : y < sg = w in grind (arith, nat_tests, l, h)
true_waits bounds sg false x y within l w =
    let h : most_time bounds y + 2 * bounds.delay < least_time bounds sg = w in
    let t = most_time_more bounds x y within l in
    let m : most_time bounds x + 2 * bounds.delay < least_time bounds sg = omega (arith, h, t) in
    grind (arith, nat_tests, m)

all_told : (bounds : Bounds) (sg : ℕ) (alone : Bool) (xs : List ℕ) → all_wait bounds sg alone xs ≡ true → AllWait bounds sg alone xs
all_told bounds sg alone [] e = tt
all_told bounds sg alone (x ∷ xs) e =
    let p = and_parts (waits bounds sg alone x) _ e in
    (waits_true bounds sg alone x p.0, all_told bounds sg alone xs p.1)

all_tell : (bounds : Bounds) (sg : ℕ) (alone : Bool) (xs gaps : List ℕ) → bounds.clocks ≤ most_clocks → AreAtMost xs gaps
    → AllWait bounds sg alone gaps → all_wait bounds sg alone xs ≡ true
all_tell bounds sg alone [] gaps within m w = refl
all_tell bounds sg alone (x ∷ xs) [] within m w = absurd m
all_tell bounds sg alone (x ∷ xs) (y ∷ gaps) within m w =
    and_from _ _ (true_waits bounds sg alone x y within m.0 w.0) (all_tell bounds sg alone xs gaps within m.1 w.1)

-- ---- from one synchronization gap on
have : (bounds : Bounds) (count sg : ℕ) → bounds.clocks ≤ most_clocks → least_whole bounds ≤ sg → sg ≤ 1024 → above bounds count sg ≡ None
    → HaveApart bounds count
have bounds count sg within whole most none = record {
  sg = sg;
  gaps = asked bounds count sg;
  most = most;
  whole = whole_from bounds sg within whole;
  apart = asked_apart bounds sg _ count within;
  few = none_above bounds sg 0 Joining (asked bounds count sg) none;
}

module _ (bounds : Bounds) (senders : List Speaker) (within : bounds.clocks ≤ most_clocks) where
  abbrev NoneBelow : ℕ → Type 0
  NoneBelow sg =
      (more : ℕ) (gaps : List ℕ) → IsWhole bounds more → AreApart bounds (length senders) more gaps
      → AllWait bounds more (length senders == 1) gaps → sg ≤ more

  needed_by : (sg : ℕ) (needed : Needed) → least_whole bounds ≤ sg → above bounds (length senders) sg ≡ Some needed
      → (more : ℕ) (gaps : List ℕ) → sg ≤ more → AreApart bounds (length senders) more gaps
      → (256 < needed.bits) × (needed.bits ≤ get_or gaps needed.place 0)
  needed_by sg needed whole is more gaps l a =
      let t = is_above bounds sg 0 Joining (asked bounds (length senders) sg) gaps needed is
      (all_least bounds (length senders) sg more gaps within (whole_from bounds sg within whole) l a) in
      let at = t.at in
      let e : t.behind ≡ needed.place = omega (arith, at) in
      (t.many, subst (λ k. needed.bits ≤ get_or gaps k 0) e t.asked)

  above_many : (sg : ℕ) (needed : Needed) → above bounds (length senders) sg ≡ Some needed → 256 < needed.bits
  above_many sg needed is =
      (is_above bounds sg 0 Joining (asked bounds (length senders) sg) (asked bounds (length senders) sg) needed is (same_most (asked bounds (length senders) sg))).many
    where
      same_most : (xs : List ℕ) → AreAtMost xs xs
      same_most [] = tt
      same_most (x ∷ xs) = (omega arith, same_most xs)

  from_means : (sg n : ℕ) → sg + n ≡ 1025 → least_whole bounds ≤ sg → HaveApart bounds (length senders) → NoneBelow sg
      → Means bounds senders (blame_from bounds (length senders) sg n)
  unfolding blame_from have
  from_means sg zero end whole some none = (some, λ more gaps w a t. let l = none more gaps w a t in omega (arith, l, end))
  from_means sg (suc n) end whole some none =
      by (λ e w. from_means (suc sg) n e w some) (above bounds (length senders) sg) refl
      (all_wait bounds sg (length senders == 1) (asked bounds (length senders) sg)) refl
    where
      by : (suc sg + n ≡ 1025 → least_whole bounds ≤ suc sg → NoneBelow (suc sg) → Means bounds senders (blame_from bounds (length senders) (suc sg) n))
          → (o : Option Needed) → above bounds (length senders) sg ≡ o → (b : Bool)
          → all_wait bounds sg (length senders == 1) (asked bounds (length senders) sg) ≡ b
          → Means bounds senders (waiting_or o b (blame_from bounds (length senders) (suc sg) n))
      by later (Some needed) e b f = (some, (above_many sg needed e, λ more gaps w a t. (needed_by sg needed whole e more gaps (none more gaps w a t) a).1))
      by later None e true f = record { have = have bounds (length senders) sg within whole (omega (arith, end)) e; waiting = all_told bounds sg (length senders == 1) _ f }
      by later None e false f =
          later (omega (arith, end)) (omega (arith, whole))
          (λ more gaps w a t. elim (cases_lt sg more) [
            | inl l ↦ l
            | inr r ↦ absurd (let same : more ≡ sg = (let l = none more gaps w a t in omega (arith, l, r)) in
                let here : AllWait bounds sg (length senders == 1) gaps = subst (λ s. AllWait bounds s (length senders == 1) gaps) same t in
                let apart : AreApart bounds (length senders) sg gaps = subst (λ s. AreApart bounds (length senders) s gaps) same a in
                let yes = all_tell bounds sg (length senders == 1) (asked bounds (length senders) sg) gaps within
                (all_least bounds (length senders) sg sg gaps within (whole_from bounds sg within whole) (omega arith) apart) here in
                let no : true ≡ false = sym yes ∙ f in cc)
          ])

  gaps_mean : Means bounds senders (blame_gaps bounds (length senders))
  gaps_mean = by (nat_lt 1024 (least_whole bounds)) refl where
    more : (o : Option Needed) → above bounds (length senders) (least_whole bounds) ≡ o → least_whole bounds ≤ 1024
        → Means bounds senders (gap_or o (blame_from bounds (length senders) (least_whole bounds) (1025 - least_whole bounds)))
    more (Some needed) e l = record {
      many = above_many (least_whole bounds) needed e;
      asked = λ sg gaps w a. (needed_by (least_whole bounds) needed (omega arith) e sg gaps (whole_least bounds sg within w) a).1;
    }
    more None e l =
        from_means (least_whole bounds) (1025 - least_whole bounds) (omega (arith, l)) (omega arith)
        (have bounds (length senders) (least_whole bounds) within (omega arith) l e) (λ sg gaps w a t. whole_least bounds sg within w)

    by : (b : Bool) → nat_lt 1024 (least_whole bounds) ≡ b
        → Means bounds senders (cond b (Whole (least_whole bounds)) (gap_or (above bounds (length senders) (least_whole bounds)) (blame_from bounds (length senders) (least_whole bounds) (1025 - least_whole bounds))))
    by true e = (grind (arith, nat_tests, e), λ sg w. whole_least bounds sg within w)
    by false e = more (above bounds (length senders) (least_whole bounds)) refl (grind (arith, nat_tests, e))

-- ---- messages that don't last
record Unlasting (bounds : Bounds) (place : ℕ) (senders : List Speaker) (blame : Blame) : Type 0 where
  behind : ℕ
  sender : Speaker
  at : slice_get senders behind ≡ Some sender
  is : blame ≡ Lasts (place + behind) (error bounds (500 * sender.shortest) + 1) (500 * sender.shortest)
  short : least_time bounds sender.shortest ≡ 0

same_blame : (w blame : Blame) → Some w ≡ Some blame → blame ≡ w
same_blame w blame k = cc

unlasting : (bounds : Bounds) (place : ℕ) (senders : List Speaker) (blame : Blame) → first_unlasting bounds place senders ≡ Some blame
    → Unlasting bounds place senders blame
unlasting bounds place [] blame e = absurd (let k : None ≡ Some blame = e in cc)
unlasting bounds place (a ∷ senders) blame e =
    here (unlasting bounds (suc place) senders blame) (nat_lt 0 (least_time bounds a.shortest)) refl e where
      here : (first_unlasting bounds (suc place) senders ≡ Some blame → Unlasting bounds (suc place) senders blame) → (b : Bool) → nat_lt 0 (least_time bounds a.shortest) ≡ b
          → cond b (first_unlasting bounds (suc place) senders) (Some (Lasts place (error bounds (500 * a.shortest) + 1) (500 * a.shortest))) ≡ Some blame
          → Unlasting bounds place (a ∷ senders) blame
      here later true t k =
          let u = later k in
          let e : suc place + u.behind ≡ place + suc u.behind = omega arith in
          record {
            behind = suc u.behind;
            sender = u.sender;
            at = u.at;
            is = u.is ∙ ap (λ p. Lasts p (error bounds (500 * u.sender.shortest) + 1) (500 * u.sender.shortest)) e;
            short = u.short;
          }
      here later false t k =
          let e : place ≡ place + 0 = omega arith in
          record {
            behind = 0;
            sender = a;
            at = refl;
            is = same_blame _ blame k ∙ ap (λ p. Lasts p (error bounds (500 * a.shortest) + 1) (500 * a.shortest)) e;
            short = grind (arith, nat_tests, t);
          }

unlasting_means : (bounds : Bounds) (senders : List Speaker) (blame : Blame) → first_unlasting bounds 0 senders ≡ Some blame → Means bounds senders blame
unlasting_means bounds senders blame e =
    let u = unlasting bounds 0 senders blame e in
    let zero : 0 + u.behind ≡ u.behind = omega arith in
    let is : blame ≡ Lasts u.behind (error bounds (500 * u.sender.shortest) + 1) (500 * u.sender.shortest) =
    u.is ∙ ap (λ p. Lasts p (error bounds (500 * u.sender.shortest) + 1) (500 * u.sender.shortest)) zero in
    let short = u.short in
    subst (Means bounds senders) (sym is) (record { sender = u.sender; at = u.at; message = refl; off = refl; short = omega (arith, short) })

pub blame_means : (bounds : Bounds) (senders : List Speaker) → bounds.clocks ≤ most_clocks → Means bounds senders (blame_of bounds senders)
blame_means bounds senders within = by (first_unlasting bounds 0 senders) refl where
  by : (o : Option Blame) → first_unlasting bounds 0 senders ≡ o → Means bounds senders (told_or o (blame_gaps bounds (length senders)))
  by (Some blame) e = unlasting_means bounds senders blame e
  by None e = gaps_mean bounds senders within

pub told_some : (bounds : Bounds) (senders : List Speaker) (blame : Blame) → first_unlasting bounds 0 senders ≡ Some blame → blame_of bounds senders ≡ blame
told_some bounds senders blame e = ap (λ o. told_or o (blame_gaps bounds (length senders))) e

pub told_none : (bounds : Bounds) (senders : List Speaker) → first_unlasting bounds 0 senders ≡ None
    → blame_of bounds senders ≡ blame_gaps bounds (length senders)
told_none bounds senders e = ap (λ o. told_or o (blame_gaps bounds (length senders))) e
