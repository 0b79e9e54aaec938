-- The gaps behind a sender's own in turn order, and then those before it and its own, by places.
use Rattle.std.proofs.Common.{◌≡◌, ◌≢◌, ℕ, zero, suc, ◌+◌, ◌-◌, ◌<◌, ◌≤◌, Bool, false, cond, ◌&&◌, List, [], ◌∷◌, ◌++◌, length, take, drop, inl, inr, arith, sym, refl, ap, ◌∙◌}
use Rattle.std.specs.Prelude.{Option, Some, None, slice_get}
use Rattle.std.specs.List.{list_all}
use Rattle.std.proofs.lemmas.Bool.{cases_lt, eq-eqb, ne_eqb}
use Rattle.std.proofs.lemmas.List.{length-drop, length-take-le, drop_all, length-append}
use Rattle.bus_strings.proofs.ListLaws.{drop_at, get_left}
use Rattle.bus_regime.specs.Gaps.{Gap}
use Rattle.bus_schedule.specs.Slack.{slack_behind, is_enough, stays, all_stay}
use Rattle.bus_schedule.proofs.Places.{get_right}

get_drop : {X : Type 0} → (n : ℕ) (xs : List X) (i : ℕ) → slice_get (drop n xs) i ≡ slice_get xs (n + i)
get_drop zero xs i = ap (slice_get xs) (let e : i ≡ 0 + i = omega arith in e)
get_drop (suc n) [] i = refl
get_drop (suc n) (x ∷ xs) i = get_drop n xs i ∙ ap (slice_get (x ∷ xs)) (let e : suc (n + i) ≡ suc n + i = omega arith in e)

get_take : {X : Type 0} → (n : ℕ) (xs : List X) (i : ℕ) → i < n → slice_get (take n xs) i ≡ slice_get xs i
get_take zero xs i h = absurd (omega arith)
get_take (suc n) [] i h = refl
get_take (suc n) (x ∷ xs) zero h = refl
get_take (suc n) (x ∷ xs) (suc i) h = get_take n xs i (omega arith)

-- the gaps from the next one on, in turn order, up to that at place k
abbrev pub around : {X : Type 0} → ℕ → List X → List X
around k xs = drop (k + 1) xs ++ take (k + 1) xs

pub length-around : {X : Type 0} → (k : ℕ) (xs : List X) → k < length xs → length (around k xs) ≡ length xs
length-around k xs h =
    let a : length (drop (k + 1) xs) ≡ length xs - (k + 1) = length-drop (k + 1) xs in
    let b : length (take (k + 1) xs) ≡ k + 1 = length-take-le (k + 1) xs (omega arith) in
    length-append (drop (k + 1) xs) (take (k + 1) xs) ∙ omega arith

pub around_at : {X : Type 0} → (xs : List X) (n k step j : ℕ) (x : X) → n ≡ length xs → k < n → step < n
    → (step + k + 1 < n → j ≡ k + 1 + step) × (n ≤ step + k + 1 → j + n ≡ k + 1 + step)
    → slice_get xs j ≡ Some x → slice_get (around k xs) step ≡ Some x
around_at xs n k step j x long inside below places at =
    let a : length (drop (k + 1) xs) ≡ length xs - (k + 1) = length-drop (k + 1) xs in
    elim (cases_lt (step + k + 1) n) [
      | inl later ↦
          let e : j ≡ k + 1 + step = places.0 later in
          get_left (drop (k + 1) xs) (take (k + 1) xs) step (omega arith) ∙ get_drop (k + 1) xs step ∙ ap (slice_get xs) (sym e) ∙ at
      | inr wrapped ↦
          let e : j + n ≡ k + 1 + step = places.1 (omega arith) in
          ap (slice_get (drop (k + 1) xs ++ take (k + 1) xs)) (let s : step ≡ n - (k + 1) + j = omega arith in s)
          ∙ get_right (drop (k + 1) xs) (take (k + 1) xs) (n - (k + 1)) j (omega arith) ∙ get_take (k + 1) xs j (omega arith) ∙ at
    ]

pub take_here : {A : Type 0} (xs : List A) (k : ℕ) (x : A) → slice_get xs k ≡ Some x → take (k + 1) xs ≡ take k xs ++ x ∷ []
take_here [] k x h = absurd (let w : None ≡ Some x = h in cc)
take_here (y ∷ ys) zero x h = ap (λ z. z ∷ []) (let w : Some y ≡ Some x = h in cc)
take_here (y ∷ ys) (suc k) x h = ap (take (suc k + 1)) refl ∙ (let e : suc k + 1 ≡ suc (k + 1) = omega arith in ap (λ n. take n (y ∷ ys)) e) ∙ ap (λ zs. y ∷ zs) (take_here ys k x h)

-- steps of a walk over them
pub walk_own : (d sg number : ℕ) (slack : Option ℕ) (all : List Gap) (step : ℕ) (gap : Gap) (start : Bool) → slice_get all step ≡ Some gap
    → gap.sender.number ≡ number → start ≡ stays d sg number slack (drop step all) → start ≡ is_enough sg slack gap
walk_own d sg number slack all step gap start at same is =
    is ∙ ap (stays d sg number slack) (drop_at all step gap at)
    ∙ ap (λ b. cond b (is_enough sg slack gap) (stays d sg number (slack_behind d sg slack gap) (drop (step + 1) all))) (eq-eqb gap.sender.number number same)

pub walk_next : (d sg number : ℕ) (slack next : Option ℕ) (all : List Gap) (step : ℕ) (gap : Gap) (start : Bool) → slice_get all step ≡ Some gap
    → gap.sender.number ≢ number → next ≡ slack_behind d sg slack gap → start ≡ stays d sg number slack (drop step all)
    → start ≡ stays d sg number next (drop (step + 1) all)
walk_next d sg number slack next all step gap start at apart next_is is =
    is ∙ ap (stays d sg number slack) (drop_at all step gap at)
    ∙ ap (λ b. cond b (is_enough sg slack gap) (stays d sg number (slack_behind d sg slack gap) (drop (step + 1) all))) (ne_eqb gap.sender.number number apart)
    ∙ ap (λ s. stays d sg number s (drop (step + 1) all)) (sym next_is)

pub walk_end : (d sg number : ℕ) (slack : Option ℕ) (all : List Gap) (step : ℕ) (start : Bool) → length all ≤ step
    → start ≡ stays d sg number slack (drop step all) → start ≡ false
walk_end d sg number slack all step start whole is = is ∙ ap (stays d sg number slack) (drop_all step all whole)

-- steps over the gaps
pub all_next : (p : Gap → Bool) (all : List Gap) (k : ℕ) (gap : Gap) → slice_get all k ≡ Some gap → list_all p (drop k all) ≡ (p gap && list_all p (drop (k + 1) all))
all_next p all k gap at = ap (list_all p) (drop_at all k gap at)

pub stay_next : (d sg : ℕ) (all : List Gap) (k : ℕ) (own : Gap) → slice_get all k ≡ Some own
    → all_stay d sg (take k all) (drop k all)
    ≡ (stays d sg own.sender.number (Some 0) (around k all) && all_stay d sg (take (k + 1) all) (drop (k + 1) all))
stay_next d sg all k own at =
    ap (all_stay d sg (take k all)) (drop_at all k own at)
    ∙ ap (λ b. stays d sg own.sender.number (Some 0) (drop (k + 1) all ++ b) && all_stay d sg b (drop (k + 1) all)) (sym (take_here all k own at))
