-- Each signal of each dump is shown by the save file, and the lane of a breach is open.
use Rattle.std.proofs.Common.{◌≡◌, ℕ, Option, Some, None, ◌+◌, ◌-◌, ◌*◌, ◌^◌, ◌<◌, ◌≤◌, arith, take, drop, Bool, true, false, not, ◌||◌, cond, eqb, leb}
use Rattle.std.proofs.Common.{List, [], ◌∷◌, ◌++◌, length, inl, inr, sym, refl, ap, ◌∙◌, subst}
use Rattle.std.specs.List.{filter, flat_map}
use Rattle.std.specs.Int.Count.{count_leading_zeros}
use Rattle.std.proofs.lemmas.Bool.{cases_Bool, eq-eqb, eqb-true, leb-true}
use Rattle.std.proofs.lemmas.List.{take_all, take-append-drop, length-take}
use Rattle.std.proofs.lemmas.List.Sums.{length-filter}
use Rattle.std.proofs.lemmas.Grind.{flat_map-append}
use Rattle.std.proofs.lemmas.Nat.{leading_length}
use Rattle.bus_strings.specs.Limits.{horizon_limit}
use Rattle.bus_strings.specs.Members.{In}
use Rattle.bus_strings.proofs.ListLaws.{flat_map-passing}
use Rattle.bus_strings.proofs.MemberLaws.{any_in, from_filter, in_append_cases, in_append_left, in_append_right, in_filter}
use Rattle.bus_table.specs.Tables.{Table}
use Rattle.bus_trace.specs.Traces.{Recording}
use Rattle.bus_trace.specs.Windows.{Window}
use Rattle.bus_dump.specs.declared.lane.Lane.{Lane}
use Rattle.bus_dump.specs.DumpTexts.{end_of_dump}
use Rattle.bus_dump.specs.Lanes.{lanes}
use Rattle.bus_dump.specs.SaveFiles.{FirstBreach, all_shown, are_open, bus_shown, few, group_end, in_order, is_among, is_named, is_open, label_shown, labels_shown, lane_among, lane_shown, most_open, nanoseconds, opening, save_text, save_text_of, shown, shown_breach, telling_breach, zoom}
use Rattle.bus_dump.specs.SaveLaws.{AllAreShown, BreachIsFirst, BreachIsOpen, EndsLine, FewAreOpen, FirstAreOpen, HasLines, OpensOnAll}
use Rattle.bus_dump.specs.inside.Standing.{lane_within}
use Rattle.bus_dump.specs.Signals.{Carrier, Overlap, Sync, Breach, Word, Label}
use Rattle.bus_dump.specs.Signals.{bus_signals, has, lane_signals}
use Rattle.bus_dump.proofs.LaneLawLemmas.{lane_once}
use Rattle.bus_dump.proofs.SaveLemmas.{before, behind, bus_ends, ends_join, itself, labels_end, labels_front, labels_front_ends, lane_ends, of_bus, of_lane, opening_ends, shown_ends}

-- ---- lines of one item among those of all
of_flat : {X : Type 0} (f : X → List ℕ) → ((x : X) → EndsLine (f x)) → (xs : List X) (x : X) (lines : List ℕ) → In x xs → HasLines lines (f x)
    → HasLines lines (flat_map f xs)
of_flat f ends [] x lines i h = absurd i
of_flat f ends (y ∷ ys) x lines (inl is) h = before (flat_map f ys) (subst (λ z. HasLines lines (f z)) is h)
of_flat f ends (y ∷ ys) x lines (inr i) h = behind (f y) (ends y) (of_flat f ends ys x lines i h)

from_flat : {X Y : Type 0} (f : X → List Y) (xs : List X) (y : Y) → In y (flat_map f xs) → (x : X) × In x xs × In y (f x)
from_flat f [] y i = absurd i
from_flat f (x ∷ xs) y i = elim (in_append_cases (f x) (flat_map f xs) y i) [
  | inl here ↦ (x, inl refl, here)
  | inr later ↦ let w = from_flat f xs y later in (w.0, inr w.1, w.2)
]

-- ---- lanes in the order in which they are shown
in_order_in : (breach : Option FirstBreach) (ls : List Lane) (lane : Lane) → In lane ls → In lane (in_order breach ls)
in_order_in breach ls lane i =
    let others : Lane → Bool = λ l. not (is_named breach l) in
    elim (cases_Bool (is_named breach lane)) [
      | inl own ↦ in_append_left (filter (is_named breach) ls) (filter others ls) lane (in_filter (is_named breach) ls lane i own)
      | inr other ↦ in_append_right (filter (is_named breach) ls) (filter others ls) lane (in_filter others ls lane i (ap not other))
    ]

-- the two parts in which they are written
pub parts_shown : (breach : Option FirstBreach) (table : Table) (all ls : List Lane)
    → flat_map (lane_within true breach table all) ls ++ flat_map (lane_within false breach table all) ls
    ≡ flat_map (lane_among breach table all) (in_order breach ls)
parts_shown breach table all ls =
    let own : Lane → Bool = λ lane. is_named breach lane in
    let others : Lane → Bool = λ lane. not (is_named breach lane) in
    let text : Lane → List ℕ = lane_among breach table all in
    ap (λ t. t ++ flat_map (lane_within false breach table all) ls) (flat_map-passing own text ls)
    ∙ ap (λ t. flat_map text (filter own ls) ++ t) (flat_map-passing others text ls)
    ∙ sym (flat_map-append text (filter own ls) (filter others ls))

-- what shows a lane
shown_of_lane : (breach : Option FirstBreach) (table : Table) (ls : List Lane) (lane : Lane) (lines : List ℕ) → In lane ls
    → HasLines lines (lane_among breach table ls lane) → HasLines lines (all_shown breach table ls)
shown_of_lane breach table ls lane lines i h =
    let folded : Bool = not (are_open breach ls) in
    behind (bus_shown ++ labels_shown folded ls) (ends_join bus_shown (labels_shown folded ls) bus_ends (labels_end folded ls))
    (of_flat (lane_among breach table ls) (λ l. lane_ends (not (is_open breach ls l)) table l) (in_order breach ls) lane lines
    (in_order_in breach ls lane i) h)

-- and what shows the label of one
shown_of_label : (breach : Option FirstBreach) (table : Table) (ls : List Lane) (lane : Lane) (lines : List ℕ) → In lane ls
    → HasLines lines (label_shown lane) → HasLines lines (all_shown breach table ls)
shown_of_label breach table ls lane lines i h =
    let folded : Bool = not (are_open breach ls) in
    before (flat_map (lane_among breach table ls) (in_order breach ls)) (behind bus_shown bus_ends
    (before (group_end folded) (behind (labels_front folded) (labels_front_ends folded)
    (of_flat label_shown (λ l. shown_ends (Label l.terminal)) ls lane lines i h))))

-- what is written of the lanes, the breach and the window that are found
pub whole_saved : (window : Window) (breach : Option FirstBreach) (table : Table) (trace : Recording) (from end : ℕ)
    (seen telling : Option FirstBreach) (ls : List Lane) → from ≡ window.from → end ≡ end_of_dump window trace.horizon
    → seen ≡ shown_breach window breach → ls ≡ lanes table trace.list → telling ≡ telling_breach ls seen
    → opening from end seen ++ all_shown telling table ls ≡ save_text window breach table trace
whole_saved window breach table trace from end seen telling ls from_is end_is seen_is ls_is telling_is =
    let begin : ℕ = window.from in
    let stop : ℕ = end_of_dump window trace.horizon in
    let shown' : Option FirstBreach = shown_breach window breach in
    ap (λ t. opening t end seen ++ all_shown telling table ls) from_is
    ∙ ap (λ t. opening begin t seen ++ all_shown telling table ls) end_is
    ∙ ap (λ b. opening begin stop seen ++ all_shown b table ls) telling_is
    ∙ ap (λ b. opening begin stop b ++ all_shown (telling_breach ls b) table ls) seen_is
    ∙ ap (λ xs. opening begin stop shown' ++ all_shown (telling_breach xs shown') table xs) ls_is

-- ---- each signal
pub all_are_shown : AllAreShown
all_are_shown dump window breach table trace s i =
    let ls : List Lane = lanes table trace.list in
    let seen : Option FirstBreach = shown_breach window breach in
    let telling : Option FirstBreach = telling_breach ls seen in
    let end : ℕ = end_of_dump window trace.horizon in
    behind (opening window.from end seen) (opening_ends window.from end seen)
    (elim (in_append_cases (bus_signals dump) (flat_map (lane_signals dump) ls) s i) [
      | inl bus ↦
          let folded : Bool = not (are_open telling ls) in
          before (flat_map (lane_among telling table ls) (in_order telling ls)) (before (labels_shown folded ls)
          (of_bus s (from_filter (has dump false) (Carrier ∷ (Overlap ∷ (Sync ∷ (Breach ∷ (Word ∷ []))))) s bus).0))
      | inr lane ↦
          let w = from_flat (lane_signals dump) ls s lane in
          elim (of_lane dump (not (is_open telling ls w.0)) table s w.0 w.2) [
            | inl label ↦ shown_of_label telling table ls w.0 (shown s) w.1 label
            | inr own ↦ shown_of_lane telling table ls w.0 (shown s) w.1 own
          ]
    ])

-- ---- how far it zooms out
zoomed : (t : ℕ) → t ≤ horizon_limit → 2 * nanoseconds t ≤ 5 * 2 ^ zoom t
zoomed t low =
    let least = leading_length 64 (200 * t) (omega (arith, low)) in
    let same : least.0 ≡ 64 - count_leading_zeros 64 (200 * t) = omega (arith, least.1) in
    subst (λ z. 2 * nanoseconds t ≤ 5 * 2 ^ z) same (omega (arith, least.2))

pub opens_on_all : OpensOnAll
opens_on_all window horizon is =
    let some : window.from < window.to = is.some in
    let within : window.to ≤ 2 ^ 40 = is.within in
    zoomed (end_of_dump window horizon - window.from) (omega arith)

-- ---- the lanes that are open
opened : (from end : ℕ) (breach telling : Option FirstBreach) (table : Table) (ls : List Lane) (lane : Lane) → telling_breach ls breach ≡ telling
    → is_open telling ls lane ≡ true → In lane ls → HasLines (lane_shown false table lane) (save_text_of from end breach table ls)
opened from end breach telling table ls lane told is_open' i =
    let lines : List ℕ = lane_shown false table lane in
    behind (opening from end breach) (opening_ends from end breach)
    (subst (λ b. HasLines lines (all_shown b table ls)) (sym told)
    (shown_of_lane telling table ls lane lines i
    (subst (λ b. HasLines lines (lane_shown (not b) table lane)) (sym is_open') (itself lines))))

among_in : (ls : List Lane) (lane : Lane) → In lane ls → is_among ls lane ≡ true
among_in ls lane i = any_in (λ (other : Lane). eqb lane.terminal other.terminal) ls lane i (eq-eqb lane.terminal lane.terminal refl)

pub breach_is_open : BreachIsOpen
breach_is_open window breach table trace lane held i same =
    let ls : List Lane = lanes table trace.list in
    let end : ℕ = end_of_dump window trace.horizon in
    let seen : shown_breach window (Some breach) ≡ Some breach = ap (λ b. cond b (Some breach) None) held in
    subst (λ b. HasLines (lane_shown false table lane) (save_text_of window.from end b table ls)) (sym seen)
    (elim (cases_Bool (leb (length ls) few)) [
      | inl short ↦
          let all : take most_open ls ≡ ls = let h : length ls ≤ 2 = leb-true (length ls) few short in take_all most_open ls (omega (arith, h)) in
          opened window.from end (Some breach) None table ls lane (ap (λ b. cond b None (Some breach)) short)
          (ap (λ xs. is_among xs lane) all ∙ among_in ls lane i) i
      | inr long ↦
          opened window.from end (Some breach) (Some breach) table ls lane (ap (λ b. cond b None (Some breach)) long)
          (eq-eqb lane.terminal breach.terminal same) i
    ])

pub first_are_open : FirstAreOpen
first_are_open window breach table trace lane unseen i =
    let ls : List Lane = lanes table trace.list in
    let end : ℕ = end_of_dump window trace.horizon in
    subst (λ b. HasLines (lane_shown false table lane) (save_text_of window.from end b table ls)) (sym unseen)
    (opened window.from end None None table ls lane (none_tells (leb (length ls) few)) (among_in (take most_open ls) lane i)
    (subst (In lane) (take-append-drop most_open ls) (in_append_left (take most_open ls) (drop most_open ls) lane i)))
  where
    none : Option FirstBreach
    none = None

    none_tells : (b : Bool) → cond b none none ≡ none
    none_tells true = refl
    none_tells false = refl

-- ---- the first that is shown
first_of : (n : ℕ) (xs : List Lane) (lane : Lane) → In lane xs → ((l : Lane) → In l xs → l.terminal ≡ n)
    → (first : Lane) × (behind : List Lane) × (xs ≡ first ∷ behind) × (first.terminal ≡ n)
first_of n [] lane i all = absurd i
first_of n (l ∷ ls) lane i all = (l, ls, refl, all l (inl refl))

pub breach_is_first : BreachIsFirst
breach_is_first breach ls lane i same =
    let own : Lane → Bool = λ l. eqb l.terminal breach.terminal in
    let others : List Lane = filter (λ l. not (own l)) ls in
    let w = first_of breach.terminal (filter own ls) lane (in_filter own ls lane i (eq-eqb lane.terminal breach.terminal same))
    (λ l j. eqb-true l.terminal breach.terminal (from_filter own ls l j).1) in
    (w.0, w.1 ++ others, ap (λ xs. xs ++ others) w.2, w.3)

-- ---- how many are open
abbrev kept : (Lane → Bool) → List Lane → ℕ
kept p ls = length (filter p ls)

kept_first : (p : Lane → Bool) (l : Lane) (ls : List Lane) → kept p (l ∷ ls) ≡ cond (p l) 1 0 + kept p ls
kept_first p l ls =
    elim (p l) as (λ b. length (cond b (l ∷ filter p ls) (filter p ls)) ≡ cond b 1 0 + length (filter p ls)) [
      | true ↦ omega arith
      | false ↦ omega arith
    ]

either_once : (a b : Bool) → cond (a || b) 1 0 ≤ cond a 1 0 + cond b 1 0
either_once true b = omega arith
either_once false b = omega arith

kept_either : (p q : Lane → Bool) (ls : List Lane) → kept (λ l. p l || q l) ls ≤ kept p ls + kept q ls
kept_either p q [] = omega arith
kept_either p q (l ∷ ls) =
    let rest : kept (λ m. p m || q m) ls ≤ kept p ls + kept q ls = kept_either p q ls in
    let once : cond (p l || q l) 1 0 ≤ cond (p l) 1 0 + cond (q l) 1 0 = either_once (p l) (q l) in
    omega (arith, rest, once, kept_first (λ m. p m || q m) l ls, kept_first p l ls, kept_first q l ls)

kept_none : (ls : List Lane) → kept (λ l. false) ls ≡ 0
kept_none [] = refl
kept_none (l ∷ ls) = kept_none ls

among_few : (firsts ls : List Lane) → ((n : ℕ) → kept (λ l. eqb l.terminal n) ls ≤ 1) → kept (is_among firsts) ls ≤ length firsts
among_few [] ls once = omega (arith, kept_none ls)
among_few (f ∷ fs) ls once =
    omega (arith, once f.terminal, among_few fs ls once, kept_either (λ (l : Lane). eqb l.terminal f.terminal) (is_among fs) ls)

pub few_are_open : FewAreOpen
few_are_open breach table trace valid is =
    let ls : List Lane = lanes table trace.list in
    let once : (n : ℕ) → kept (λ l. eqb l.terminal n) ls ≤ 1 =
    λ n. subst (λ k. k ≤ 1) (sym (length-filter (λ (l : Lane). eqb l.terminal n) ls)) (lane_once table trace n valid is) in
    subst (λ k. k ≤ most_open) (length-filter (is_open breach ls) ls) (few_of breach ls once)
  where
    few_of : (breach : Option FirstBreach) (ls : List Lane) → ((n : ℕ) → kept (λ l. eqb l.terminal n) ls ≤ 1) → kept (is_open breach ls) ls ≤ most_open
    few_of None ls once = omega (arith, among_few (take most_open ls) ls once, length-take most_open ls)
    few_of (Some breach) ls once = omega (arith, once breach.terminal)
