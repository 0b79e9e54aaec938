-- How a walk moves.
use Rattle.std.proofs.Common.{◌≡◌, ℕ, ◌+◌, ◌<◌, ◌≤◌, Bool, true, false, eqb, List, [], ◌∷◌, ◌++◌, length, take, drop, get_or, set, Some, None}
use Rattle.std.proofs.Common.{inl, inr, arith, sym, ap, subst, ◌∙◌}
use Rattle.std.specs.Prelude.{slice_get}
use Rattle.std.specs.List.{count_by, filter}
use Rattle.std.specs.Option.{option_map_or}
use Rattle.std.proofs.lemmas.Bool.{cases_eq, eq-eqb, eqb-true, true≢false}
use Rattle.std.proofs.lemmas.List.{length-append, get_or-set_same}
use Rattle.std.proofs.lemmas.Option.{slice_get_within, slice_get-get_or}
use Rattle.bus_strings.specs.Messages.{Entry}
use Rattle.bus_strings.specs.Transmissions.{end_of, garbled, marks}
use Rattle.bus_strings.proofs.CountLaws.{counted}
use Rattle.bus_dump.specs.declared.live.Live.{Live}
use Rattle.bus_dump.specs.declared.walk.Walk.{Walk}
use Rattle.bus_dump.specs.Seen.{is_sent_by, number_of}
use Rattle.bus_dump.specs.inside.Walks.{BeginsFrom, IsWalkable, Reaches, Stands, ends_after, live_of, live_to}
use Rattle.bus_dump.proofs.FewLemmas.{few_live}
use Rattle.bus_dump.proofs.LiveLemmas.{absent, present, at_place, live_begun, live_later, moments_rise}

-- ---- one more begins
pub room : (list : List Entry) (t : ℕ) (w : Walk) (x : Entry) → IsWalkable list → Reaches list t w → slice_get list w.begun ≡ Some x → x.moment ≡ t
    → t < end_of x → length w.live.items < 129
room list t w x walkable r at now some =
    let few : length (live_to list t (w.begun + 1)) ≤ 129 = few_live list t (w.begun + 1) walkable in
    let low : x.moment ≤ t = omega arith in
    let more : length (live_to list t (w.begun + 1)) ≡ length (live_to list t w.begun ++ live_of list w.begun x ∷ []) = ap length (live_begun list t w.begun x at low some) in
    let live : length w.live.items ≡ length (live_to list t w.begun) = ap length r.live in
    omega (arith, length-append (live_to list t w.begun) (live_of list w.begun x ∷ []))

abbrev live_with : ℕ → ℕ → ℕ → ℕ → ℕ → Bool → Live
live_with at terminal moment end number mark =
    record { at = at; terminal = terminal; moment = moment; end = end; number = number; garbled = mark }

pub walk_begun : (list : List Entry) (t terminal number end : ℕ) (mark : Bool) (w w' : Walk) (x : Entry) → Reaches list t w → slice_get list w.begun ≡ Some x
    → x.moment ≡ t → t < end_of x → end ≡ end_of x → x.terminal ≡ terminal → terminal ≤ 128 → length w.counts ≡ 129 → number ≡ get_or w.counts terminal 0 + 1
    → mark ≡ garbled list w.begun → w'.begun ≡ w.begun + 1 → w'.counts ≡ set w.counts terminal number → w'.marks ≡ drop (w.begun + 1) (marks list)
    → w'.live.items ≡ w.live.items ++ record { at = w.begun; terminal = terminal; moment = t; end = end; number = number; garbled = mark } ∷ [] → Reaches list t w'
walk_begun list t terminal number end mark w w' x r at now some end_is own low long number_is mark_is begun counts left live =
    let within : w.begun < length list = slice_get_within list w.begun x at in
    let number_of_is : number ≡ number_of list w.begun x.terminal =
    number_is ∙ sym (get_or-set_same w.counts terminal (get_or w.counts terminal 0 + 1) 0 (omega arith))
    ∙ counted list w.counts w.begun terminal x long low at own r.counts terminal low ∙ ap (number_of list w.begun) (sym own) in
    let new : record { at = w.begun; terminal = terminal; moment = t; end = end; number = number; garbled = mark } ≡ live_of list w.begun x =
    made end end_is number number_of_is mark mark_is in
    record {
      within = omega arith;
      before = λ k y h e. elim (cases_eq k w.begun) [
        | inl same ↦ (let is : Some x ≡ Some y = sym at ∙ ap (slice_get list) (sym same) ∙ e in
            let one : x ≡ y = cc in
            let m : x.moment ≡ y.moment = ap (λ (z : Entry). z.moment) one in
            omega arith)
        | inr other ↦ r.before k y (omega (arith, other)) e
      ];
      ahead = λ k y h e. r.ahead k y (omega arith) e;
      live = live ∙ ap (λ l. w.live.items ++ l ∷ []) new ∙ ap (λ l. l ++ live_of list w.begun x ∷ []) r.live
          ∙ sym (live_begun list t w.begun x at (omega arith) some) ∙ ap (live_to list t) (sym begun);
      counts = λ n h. ap (λ c. get_or c n 0) (counts ∙ ap (set w.counts terminal) number_is)
          ∙ counted list w.counts w.begun terminal x long low at own r.counts n h ∙ ap (λ k. count_by (is_sent_by n) (take k list)) (sym begun);
      marks = left ∙ ap (λ k. drop k (marks list)) (sym begun);
    }
  where
    made : (ends : ℕ) → ends ≡ end_of x → (count : ℕ) → count ≡ number_of list w.begun x.terminal → (hurt : Bool) → hurt ≡ garbled list w.begun
        → live_with w.begun terminal t ends count hurt ≡ live_of list w.begun x
    made ends e count n hurt m =
        ap (λ k. live_with w.begun k t ends count hurt) (sym own)
        ∙ ap (λ k. live_with w.begun x.terminal k ends count hurt) (sym now)
        ∙ ap (λ k. live_with w.begun x.terminal x.moment k count hurt) e ∙ ap (λ k. live_with w.begun x.terminal x.moment (end_of x) k hurt) n
        ∙ ap (live_with w.begun x.terminal x.moment (end_of x) (number_of list w.begun x.terminal)) m

-- ---- all have begun
pub walk_stands : (list : List Entry) (t : ℕ) (w : Walk) → IsWalkable list → Reaches list t w
    → option_map_or (λ (x : Entry). eqb x.moment t) (slice_get list w.begun) false ≡ false → Stands list t w
walk_stands list t w walkable r test = record {
  within = r.within;
  before = r.before;
  ahead = λ k x h e. elim (at_place list w.begun) [
    | absent none ↦
        let inside : w.begun < length list = omega (arith, slice_get_within list k x e) in
        absurd (let is : None ≡ Some (get_or list w.begun x) = sym none ∙ slice_get-get_or list w.begun x inside in cc)
    | present y at ↦
        let low : t ≤ y.moment = r.ahead w.begun y (omega arith) at in
        let not : eqb y.moment t ≡ false = sym (ap (λ o. option_map_or (λ (x : Entry). eqb x.moment t) o false) at) ∙ test in
        let rise : y.moment ≤ x.moment = moments_rise list walkable.order w.begun k y x at e h in
        elim (cases_eq y.moment t) [
          | inl same ↦ absurd (true≢false (sym (eq-eqb y.moment t same) ∙ not))
          | inr other ↦ (let less : t < y.moment = omega (arith, other) in omega arith)
        ]
  ];
  live = r.live;
  counts = r.counts;
  marks = r.marks;
}

pub begins_now : (list : List Entry) (t n : ℕ) (x : Entry) → option_map_or (λ (y : Entry). eqb y.moment t) (slice_get list n) false ≡ true → slice_get list n ≡ Some x
    → x.moment ≡ t
begins_now list t n x test at = eqb-true x.moment t (sym (ap (λ o. option_map_or (λ (y : Entry). eqb y.moment t) o false) at) ∙ test)

-- ---- going on
pub walk_later : (list : List Entry) (from t : ℕ) (w w' : Walk) → Stands list from w → from < t → BeginsFrom list w.begun t
    → w'.begun ≡ w.begun → w'.counts ≡ w.counts → w'.marks ≡ w.marks → w'.live.items ≡ filter (ends_after t) w.live.items → Reaches list t w'
walk_later list from t w w' s later next begun counts left live = record {
  within = subst (λ n. n ≤ length list) (sym begun) s.within;
  before = λ k x h e. (let m : x.moment ≤ from = s.before k x (omega arith) e in omega arith);
  ahead = λ k x h e. next k x (omega arith) e;
  live = live ∙ ap (filter (ends_after t)) s.live ∙ live_later list from t w.begun (omega arith) s.before ∙ ap (live_to list t) (sym begun);
  counts = λ n h. ap (λ c. get_or c n 0) counts ∙ s.counts n h ∙ ap (λ k. count_by (is_sent_by n) (take k list)) (sym begun);
  marks = left ∙ s.marks ∙ ap (λ k. drop k (marks list)) (sym begun);
}

-- the next one tells when any other begins
pub next_begins : (list : List Entry) (n until : ℕ) (x : Entry) → IsWalkable list → slice_get list n ≡ Some x → until ≤ x.moment → BeginsFrom list n until
next_begins list n until x walkable at low k y h e =
    let rise : x.moment ≤ y.moment = moments_rise list walkable.order n k x y at e h in omega arith
