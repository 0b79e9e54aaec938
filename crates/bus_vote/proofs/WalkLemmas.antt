-- A walk over a list of transmissions: how far those behind it reach, and which of them are garbled.
use Rattle.std.proofs.Common.{◌≡◌, ℕ, zero, suc, ◌+◌, ◌-◌, ◌<◌, ◌≤◌, Bool, true, false, ◌||◌, ltb, List, [], ◌∷◌, ◌++◌, length, take, drop, get_or, max, Option, Some, None, inl, inr, refl, ap, sym, ◌∙◌, append-nil, arith}
use Rattle.std.specs.Prelude.{slice_get}
use Rattle.std.specs.List.{list_any, flat_map, range_with_len, AllByRecursion}
use Rattle.std.specs.Option.{option_map_or, option_and_then}
use Rattle.std.proofs.lemmas.Bool.{cases_lt, lt-ltb, le-ltb, eq-eqb, ne_eqb}
use Rattle.std.proofs.lemmas.List.{take_more}
use Rattle.std.proofs.lemmas.List.Folds.{list_any-append}
use Rattle.std.proofs.lemmas.Option.{slice_get_read, slice_get_within, get_or_from_slice_get}
use Rattle.bus_strings.specs.Messages.{Entry}
use Rattle.bus_strings.specs.Transmissions.{end_of, garbled, marks}
use Rattle.bus_strings.specs.OverlapLaws.{NeighboursTell, AscendingIsByMoment}
use Rattle.bus_trace.specs.Traces.{Recording, IsTrace, IsBelow}
use Rattle.bus_vote.specs.Labels.{VotedLabel}
use Rattle.bus_vote.specs.inside.Putting.{words_put, round_put}
use Rattle.bus_vote.specs.Rounds.{sent_by, words_of, first_words, second_words, third_words}
use Rattle.bus_vote.specs.inside.Walks.{IsSent, IsReach, IsSpaced, TwoAreOver, sent_from}
use Rattle.bus_strings.proofs.ListLaws.{flat_map-range}
use Rattle.bus_strings.proofs.OverlapLemmas.{marks_more}
use Rattle.bus_vote.proofs.RoundLemmas.{left_own, left_other, left_past}

-- ---- the list of a trace
messages_some : (horizon : ℕ) (list : List Entry) → AllByRecursion (IsBelow horizon) list → AllByRecursion (λ y. 0 < length y.message) list
messages_some horizon [] h = tt
messages_some horizon (x ∷ xs) h = (h.0.message.some, messages_some horizon xs h.1)

pub trace_is_sent : (t : Recording) → AscendingIsByMoment → IsTrace t → IsSent t.list
trace_is_sent t by_moment h = record { order = by_moment t.list h.order; some = messages_some t.horizon t.list h.list }

-- ---- how far a walk reaches
pub none_reach : IsReach [] 0
none_reach moment = sym (le-ltb moment 0 (omega arith))

-- behind a moment lies one of two where the greater does
behind_either : (m a b : ℕ) → (ltb m a || (ltb m b || false)) ≡ ltb m (max b a)
behind_either m a b = elim (cases_lt m a) [
  | inl here ↦ rw (lt-ltb m a here) (sym (lt-ltb m (max b a) (omega arith)))
  | inr not ↦ rw (le-ltb m a not) (elim (cases_lt m b) [
    | inl there ↦ rw (lt-ltb m b there) (sym (lt-ltb m (max b a) (omega arith)))
    | inr none ↦ rw (le-ltb m b none) (sym (le-ltb m (max b a) (omega arith)))
  ])
]

-- one transmission further
pub reach_more : (list : List Entry) (at : ℕ) (x : Entry) (reach more : ℕ) → at < length list → x ≡ get_or list at x → more ≡ max (end_of x) reach
    → IsReach (take at list) reach → IsReach (take (at + 1) list) more
reach_more list at x reach more within is e r m =
    ap (list_any (λ y. ltb m (end_of y))) (take_more list at x within ∙ ap (λ y. take at list ++ y ∷ []) (sym is))
    ∙ list_any-append (λ y. ltb m (end_of y)) (take at list) (x ∷ [])
    ∙ ap (λ b. b || (ltb m (end_of x) || false)) (r m)
    ∙ behind_either m reach (end_of x)
    ∙ ap (ltb m) (sym e)

-- ---- which are garbled
garbled_by : (list : List Entry) (at : ℕ) (x : Entry) (reach moment end : ℕ) → NeighboursTell → IsSent list → at < length list → x ≡ get_or list at x
    → IsReach (take at list) reach → moment ≡ x.moment → end ≡ end_of x
    → garbled list at ≡ (ltb moment reach || option_map_or (λ y. ltb y.moment end) (slice_get list (at + 1)) false)
garbled_by list at x reach moment end tell sent within is r m e =
    tell list at x sent.order sent.some (slice_get_read list (length list) at x refl within is)
    ∙ ap (λ b. b || option_map_or (λ y. ltb y.moment (end_of x)) (slice_get list (at + 1)) false) (r x.moment)
    ∙ ap (λ n. ltb n reach || option_map_or (λ y. ltb y.moment (end_of x)) (slice_get list (at + 1)) false) (sym m)
    ∙ ap (λ n. ltb moment reach || option_map_or (λ y. ltb y.moment n) (slice_get list (at + 1)) false) (sym e)

pub garbled_before : (list : List Entry) (at : ℕ) (x : Entry) (reach moment : ℕ) → NeighboursTell → IsSent list → at < length list → x ≡ get_or list at x
    → IsReach (take at list) reach → moment ≡ x.moment → ltb moment reach ≡ true → ltb moment reach ≡ garbled list at
garbled_before list at x reach moment tell sent within is r m t =
    t ∙ sym (garbled_by list at x reach moment (end_of x) tell sent within is r m refl
    ∙ ap (λ b. b || option_map_or (λ y. ltb y.moment (end_of x)) (slice_get list (at + 1)) false) t)

pub garbled_behind : (list : List Entry) (at : ℕ) (x : Entry) (reach moment end : ℕ) → NeighboursTell → IsSent list → at < length list → x ≡ get_or list at x
    → IsReach (take at list) reach → moment ≡ x.moment → end ≡ end_of x → ltb moment reach ≡ false
    → option_map_or (λ y. ltb y.moment end) (slice_get list (at + 1)) false ≡ garbled list at
garbled_behind list at x reach moment end tell sent within is r m e f =
    sym (garbled_by list at x reach moment end tell sent within is r m e
    ∙ ap (λ b. b || option_map_or (λ y. ltb y.moment end) (slice_get list (at + 1)) false) f)

-- the transmissions so far aren't garbled, nor is one more
pub clear_more : (list : List Entry) (at : ℕ) → ((place : ℕ) → place < at → garbled list place ≡ false) → garbled list at ≡ false
    → (place : ℕ) → place < at + 1 → garbled list place ≡ false
clear_more list at so_far here place before = elim (cases_lt place at) [
  | inl earlier ↦ so_far place earlier
  | inr late ↦ let e : place ≡ at = omega arith in ap (garbled list) e ∙ here
]

-- ---- what a walk passes over
slice_get_none : {X : Type 0} (xs : List X) (k : ℕ) → slice_get xs k ≡ None → length xs ≤ k
slice_get_none [] k e = omega arith
slice_get_none (x ∷ xs) zero e = absurd (let w : Some x ≡ None = e in cc)
slice_get_none (x ∷ xs) (suc k) e = let h : length xs ≤ k = slice_get_none xs k e in omega arith

pub own_next : (terminal : ℕ) (list : List Entry) (at : ℕ) (x : Entry) → at < length list → x ≡ get_or list at x → x.terminal ≡ terminal
    → sent_from terminal list at ≡ (x, garbled list at) ∷ sent_from terminal list (at + 1)
own_next terminal list at x within is own =
    left_own terminal list at x (garbled list at) (drop at (marks list)) (drop (at + 1) (marks list)) within is (marks_more list at within) (eq-eqb x.terminal terminal own)

pub other_next : (terminal : ℕ) (list : List Entry) (at : ℕ) (x : Entry) → at < length list → x ≡ get_or list at x → (x.terminal ≡ terminal → ⊥)
    → sent_from terminal list at ≡ sent_from terminal list (at + 1)
other_next terminal list at x within is other =
    left_other terminal list at x (garbled list at) (drop at (marks list)) (drop (at + 1) (marks list)) within is (marks_more list at within) (ne_eqb x.terminal terminal other)

pub sent_past : (terminal : ℕ) (list : List Entry) (at : ℕ) → length list ≤ at → sent_from terminal list at ≡ []
sent_past terminal list at h = left_past terminal list at (drop at (marks list)) h

-- places at which no transmission of the terminal stands
AreOthers : ℕ → List Entry → ℕ → ℕ → Type 0
AreOthers terminal list from to = (j : ℕ) (x : Entry) → from ≤ j → j < to → slice_get list j ≡ Some x → x.terminal ≡ terminal → ⊥

other_at : (terminal : ℕ) (list : List Entry) (at : ℕ) (o : Option Entry) → slice_get list at ≡ o → ((x : Entry) → o ≡ Some x → x.terminal ≡ terminal → ⊥)
    → sent_from terminal list at ≡ sent_from terminal list (at + 1)
other_at terminal list at None e others =
    let past : length list ≤ at = slice_get_none list at e in
    sent_past terminal list at past ∙ sym (sent_past terminal list (at + 1) (omega arith))
other_at terminal list at (Some x) e others =
    other_next terminal list at x (slice_get_within list at x e) (sym (get_or_from_slice_get list at x x e)) (others x refl)

passed : (terminal : ℕ) (list : List Entry) (at more : ℕ) → AreOthers terminal list at (at + more) → sent_from terminal list at ≡ sent_from terminal list (at + more)
unfolding AreOthers
passed terminal list at zero others = let e : at ≡ at + 0 = omega arith in ap (sent_from terminal list) e
passed terminal list at (suc more) others =
    let e : (at + more) + 1 ≡ at + suc more = omega arith in
    passed terminal list at more (λ j x from to is own. others j x from (omega arith) is own)
    ∙ other_at terminal list (at + more) (slice_get list (at + more)) refl (λ x is own. others (at + more) x (omega arith) (omega arith) is own)
    ∙ ap (sent_from terminal list) e

-- as far as its transmissions stand apart
pub leap : (terminal : ℕ) (list : List Entry) (at gap next : ℕ) (x : Entry) → IsSpaced terminal gap list → slice_get list at ≡ Some x → x.terminal ≡ terminal
    → at + 1 ≤ next → next ≤ max (at + gap) (at + 1) → sent_from terminal list (at + 1) ≡ sent_from terminal list next
unfolding AreOthers
leap terminal list at gap next x spaced is own low high =
    let e : (at + 1) + (next - (at + 1)) ≡ next = omega arith in
    passed terminal list (at + 1) (next - (at + 1)) (λ j y from to there same.
    let far : at + gap ≤ j = spaced at j x y (omega arith) is there own same in
    let near : j < next = omega arith in
    absurd (omega arith))
    ∙ ap (sent_from terminal list) e

-- ---- rounds behind two walks that are over
gone : {X : Type 0} (xs : List X) (k r : ℕ) → k ≤ r → drop k xs ≡ [] → slice_get xs r ≡ None
gone [] k zero h e = refl
gone [] k (suc r) h e = refl
gone (x ∷ xs) zero r h e = absurd (let w : x ∷ xs ≡ [] = e in cc)
gone (x ∷ xs) (suc k) zero h e = absurd (omega arith)
gone (x ∷ xs) (suc k) (suc r) h e = gone xs k r (omega arith) e

pub none_first : (round : ℕ) (c : Option (List ℕ)) → words_put round None None c ≡ []
none_first round None = refl
none_first round (Some x) = refl

pub none_second : (round : ℕ) (b : Option (List ℕ)) → words_put round None b None ≡ []
none_second round None = refl
none_second round (Some x) = refl

pub none_third : (round : ℕ) (a : Option (List ℕ)) → words_put round a None None ≡ []
none_third round None = refl
none_third round (Some x) = refl

nothing_of : (label ext terminal k r : ℕ) (list : List Entry) → k ≤ r → drop k (sent_by terminal list) ≡ []
    → option_and_then (words_of label ext) (slice_get (sent_by terminal list) r) ≡ None
nothing_of label ext terminal k r list h e = ap (option_and_then (words_of label ext)) (gone (sent_by terminal list) k r h e)

round_over : (list : List Entry) (label : VotedLabel) (k r : ℕ) → k ≤ r
    → TwoAreOver (drop k (sent_by label.first.terminal list)) (drop k (sent_by label.second.terminal list)) (drop k (sent_by label.third.terminal list))
    → round_put list label r ≡ []
round_over list label k r h over =
    let first : drop k (sent_by label.first.terminal list) ≡ [] → first_words list label r ≡ None = nothing_of label.label label.first.ext label.first.terminal k r list h in
    let second : drop k (sent_by label.second.terminal list) ≡ [] → second_words list label r ≡ None = nothing_of label.label label.second.ext label.second.terminal k r list h in
    let third : drop k (sent_by label.third.terminal list) ≡ [] → third_words list label r ≡ None = nothing_of label.label label.third.ext label.third.terminal k r list h in
    elim over [
      | inl ab ↦ ap (λ o. words_put r o (second_words list label r) (third_words list label r)) (first ab.0)
          ∙ ap (λ o. words_put r None o (third_words list label r)) (second ab.1) ∙ none_first r (third_words list label r)
      | inr (inl ac) ↦ ap (λ o. words_put r o (second_words list label r) (third_words list label r)) (first ac.0)
          ∙ ap (λ o. words_put r None (second_words list label r) o) (third ac.1) ∙ none_second r (second_words list label r)
      | inr (inr bc) ↦ ap (λ o. words_put r (first_words list label r) o (third_words list label r)) (second bc.0)
          ∙ ap (λ o. words_put r (first_words list label r) None o) (third bc.1) ∙ none_third r (first_words list label r)
    ]

pub range_over : {A : Type 0} (f : ℕ → List A) (k m : ℕ) → ((r : ℕ) → k ≤ r → f r ≡ []) → flat_map f (range_with_len 0 (k + m)) ≡ flat_map f (range_with_len 0 k)
range_over f k zero h = let e : k + 0 ≡ k = omega arith in ap (λ n. flat_map f (range_with_len 0 n)) e
range_over f k (suc m) h =
    let e : k + suc m ≡ (k + m) + 1 = omega arith in
    ap (λ n. flat_map f (range_with_len 0 n)) e ∙ flat_map-range f (k + m)
    ∙ ap (λ t. flat_map f (range_with_len 0 (k + m)) ++ t) (h (k + m) (omega arith)) ∙ append-nil (flat_map f (range_with_len 0 (k + m)))
    ∙ range_over f k m h

-- the text of the rounds so far is that of all
pub rounds_over : (list : List Entry) (label : VotedLabel) (k n : ℕ) (first second third : List (Entry × Bool)) → k ≤ n
    → first ≡ drop k (sent_by label.first.terminal list) → second ≡ drop k (sent_by label.second.terminal list) → third ≡ drop k (sent_by label.third.terminal list)
    → TwoAreOver first second third
    → flat_map (round_put list label) (range_with_len 0 k) ≡ flat_map (round_put list label) (range_with_len 0 n)
rounds_over list label k n first second third h f s t over =
    let e : k + (n - k) ≡ n = omega arith in
    let left : TwoAreOver (drop k (sent_by label.first.terminal list)) (drop k (sent_by label.second.terminal list)) (drop k (sent_by label.third.terminal list)) = elim over [
      | inl ab ↦ inl (sym f ∙ ab.0, sym s ∙ ab.1)
      | inr (inl ac) ↦ inr (inl (sym f ∙ ac.0, sym t ∙ ac.1))
      | inr (inr bc) ↦ inr (inr (sym s ∙ bc.0, sym t ∙ bc.1))
    ] in
    sym (range_over (round_put list label) k (n - k) (λ r from. round_over list label k r from left))
    ∙ ap (λ m. flat_map (round_put list label) (range_with_len 0 m)) e
