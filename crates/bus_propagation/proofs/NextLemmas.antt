-- The first of the next starts.
use Rattle.std.proofs.Common.{◌≡◌, ℕ, ◌+◌, ◌<◌, ◌≤◌, ◌⊎◌, List, length, set, Option, Some, None, inl, inr, arith, sym, refl, ap, ◌∙◌, subst}
use Rattle.std.specs.Prelude.{slice_get}
use Rattle.std.specs.Option.{IfSome, MatchOption, option_map_or}
use Rattle.std.proofs.lemmas.Bool.{cases_lt}
use Rattle.std.proofs.lemmas.Option.{slice_get_within}
use Rattle.bus_strings.specs.Messages.{Entry}
use Rattle.bus_medium.specs.Delays.{Delays}
use Rattle.bus_medium.proofs.Seats.{same_some, get_set_same, get_set_other}
use Rattle.bus_medium.proofs.Stretching.{EachSoFar, each_more}
use Rattle.bus_propagation.specs.declared.seat.Seat.{Seat}
use Rattle.bus_propagation.specs.declared.turns.Turn.{Turn}
use Rattle.bus_propagation.specs.inside.Turns.{Attended, Follows, HasAttended, NoLater, IsTurn, NobodyBefore}

-- a turn is that of a sender, before the horizon
pub record IsTurnOf (seats : List Seat) (horizon : ℕ) (t : Turn) : Type 0 where
  pub seat : Seat
  pub at : slice_get seats t.place ≡ Some seat
  pub next : seat.next ≡ Some t.moment
  pub terminal : t.terminal ≡ seat.terminal
  pub early : t.moment < horizon

-- the first of those at the places before one
pub record TurnSoFar (seats : List Seat) (horizon : ℕ) (turn : Option Turn) (place : ℕ) : Type 0 where
  pub none : turn ≡ None → (j : ℕ) (y : Seat) (m : ℕ) → j < place → slice_get seats j ≡ Some y → y.next ≡ Some m → horizon ≤ m
  pub some : (t : Turn) → turn ≡ Some t → IsTurnOf seats horizon t
  pub first : (t : Turn) → turn ≡ Some t → (j : ℕ) (y : Seat) (m : ℕ) → j < place → slice_get seats j ≡ Some y → y.next ≡ Some m → NoLater t.moment t.terminal m y.terminal
  pub before : (t : Turn) → turn ≡ Some t → t.place < place

-- before any place
pub no_turn : (seats : List Seat) (horizon : ℕ) → TurnSoFar seats horizon None 0
no_turn seats horizon = record {
  none = λ e j y m low at next. absurd (omega arith);
  some = λ t e. absurd (let k : None ≡ Some t = e in cc);
  first = λ t e. absurd (let k : None ≡ Some t = e in cc);
  before = λ t e. absurd (let k : None ≡ Some t = e in cc);
}

-- the sender at this place has changed
turn_kept : (seats : List Seat) (horizon : ℕ) (turn : Option Turn) (place : ℕ) (y : Seat) → TurnSoFar seats horizon turn place → TurnSoFar (set seats place y) horizon turn place
turn_kept seats horizon turn place y so = record {
  none = λ e j z m low at next. so.none e j z m low (sym (other j low) ∙ at) next;
  some = λ t e.
      let is = so.some t e in
      record { seat = is.seat; at = other t.place (so.before t e) ∙ is.at; next = is.next; terminal = is.terminal; early = is.early };
  first = λ t e j z m low at next. so.first t e j z m low (sym (other j low) ∙ at) next;
  before = so.before;
}
  where
    other : (j : ℕ) → j < place → slice_get (set seats place y) j ≡ slice_get seats j
    other j low = get_set_other seats place j y (λ e. omega arith)

no_later : (u n m k a b : ℕ) → NoLater u n m k → NoLater m k a b → NoLater u n a b
no_later u n m k a b (inl x) (inl y) = inl (omega arith)
no_later u n m k a b (inl x) (inr y) = let e : m ≡ a = y.0 in inl (omega arith)
no_later u n m k a b (inr x) (inl y) = let e : u ≡ m = x.0 in inl (omega arith)
no_later u n m k a b (inr x) (inr y) =
    let e : u ≡ m = x.0 in let f : n ≤ k = x.1 in let g : m ≡ a = y.0 in let h : k ≤ b = y.1 in inr (omega arith, omega arith)

-- one that doesn't start before the horizon
pub later_turn : (seats : List Seat) (horizon : ℕ) (turn : Option Turn) (place : ℕ) (x : Seat) → TurnSoFar seats horizon turn place → slice_get seats place ≡ Some x
    → ((m : ℕ) → x.next ≡ Some m → horizon ≤ m) → TurnSoFar seats horizon turn (place + 1)
later_turn seats horizon turn place x so at late = record {
  none = λ e j y m low y_at next. elim (cases_lt j place) [
    | inl before ↦ so.none e j y m before y_at next
    | inr here ↦ late m (ap (λ (z : Seat). z.next) (here_is seats place j x y (omega arith) at y_at) ∙ next)
  ];
  some = so.some;
  first = λ t e j y m low y_at next. elim (cases_lt j place) [
    | inl before ↦ so.first t e j y m before y_at next
    | inr here ↦
        let k : horizon ≤ m = late m (ap (λ (z : Seat). z.next) (here_is seats place j x y (omega arith) at y_at) ∙ next) in
        let l : t.moment < horizon = (so.some t e).early in
        inl (omega arith)
  ];
  before = λ t e. let k : t.place < place = so.before t e in omega arith;
}
  where
    here_is : (seats : List Seat) (p j : ℕ) (x y : Seat) → j ≡ p → slice_get seats p ≡ Some x → slice_get seats j ≡ Some y → x ≡ y
    here_is seats p j x y same at y_at = same_some x y (sym at ∙ ap (slice_get seats) (sym same) ∙ y_at)

-- one that does
pub one_turn : (seats : List Seat) (horizon : ℕ) (turn : Option Turn) (place : ℕ) (x : Seat) (t r : Turn) → TurnSoFar seats horizon turn place → slice_get seats place ≡ Some x
    → x.next ≡ Some t.moment → t.place ≡ place → t.terminal ≡ x.terminal → t.moment < horizon → (r ≡ t) ⊎ (turn ≡ Some r) → NoLater r.moment r.terminal t.moment t.terminal
    → IfSome turn (λ w. NoLater r.moment r.terminal w.moment w.terminal) → TurnSoFar seats horizon (Some r) (place + 1)
one_turn seats horizon turn place x t r so at next t_place t_terminal early which low lower = record {
  none = λ e. absurd (let k : Some r ≡ None = e in cc);
  some = λ w e.
      let is : r ≡ w = cc in
      subst (IsTurnOf seats horizon) is (elim which [
        | inl new ↦ subst (IsTurnOf seats horizon) (sym new) (record { seat = x; at = ap (slice_get seats) t_place ∙ at; next = next; terminal = t_terminal; early = early })
        | inr old ↦ so.some r old
      ]);
  first = λ w e j y m j_low y_at y_next.
      let is : r ≡ w = cc in
      subst (λ (v : Turn). NoLater v.moment v.terminal m y.terminal) is (elim (cases_lt j place) [
        | inr here ↦
            let same : x ≡ y = same_some x y (sym at ∙ ap (slice_get seats) (let k : place ≡ j = omega arith in k) ∙ y_at) in
            let moment : t.moment ≡ m = same_some t.moment m (sym next ∙ ap (λ (z : Seat). z.next) same ∙ y_next) in
            subst (λ a. NoLater r.moment r.terminal a y.terminal) moment (subst (λ a. NoLater r.moment r.terminal t.moment a) (t_terminal ∙ ap (λ (z : Seat). z.terminal) same) low)
        | inl before ↦ elim turn as (λ f. turn ≡ f → NoLater r.moment r.terminal m y.terminal) [
          | None ↦ λ f.
              let k : horizon ≤ m = so.none f j y m before y_at y_next in
              elim low [ inl less ↦ inl (omega arith) | inr same ↦ let s : r.moment ≡ t.moment = same.0 in inl (omega arith) ]
          | Some v ↦ λ f. no_later r.moment r.terminal v.moment v.terminal m y.terminal (subst (λ g. IfSome g (λ w. NoLater r.moment r.terminal w.moment w.terminal)) f lower) (so.first v f j y m before y_at y_next)
        ] refl
      ]);
  before = λ w e.
      let is : r ≡ w = cc in
      subst (λ (v : Turn). v.place < place + 1) is (elim which [
        | inl new ↦ let k : r.place ≡ place = ap (λ (v : Turn). v.place) new ∙ t_place in omega arith
        | inr old ↦ let k : r.place < place = so.before r old in omega arith
      ]);
}

-- of all places
pub turn_of_all : (seats : List Seat) (horizon : ℕ) (turn : Option Turn) (place : ℕ) → TurnSoFar seats horizon turn place → length seats ≤ place
    → MatchOption turn (NobodyBefore seats horizon) (λ t. IsTurn seats t.place t.moment × (t.moment < horizon))
turn_of_all seats horizon None place so all = λ j y m at next. let within : j < length seats = slice_get_within seats j y at in so.none refl j y m (omega arith) at next
turn_of_all seats horizon (Some t) place so all =
    let is = so.some t refl in (
      record {
        seat = is.seat;
        at = is.at;
        next = is.next;
        first = λ j y m at next.
            let within : j < length seats = slice_get_within seats j y at in
            subst (λ n. NoLater t.moment n m y.terminal) is.terminal (so.first t refl j y m (omega arith) at next);
      },
      is.early,
    )

-- the turn is before the horizon
pub turn_early : (seats : List Seat) (horizon : ℕ) (turn : Option Turn) (place : ℕ) → TurnSoFar seats horizon turn place → IfSome turn (λ t. t.moment < horizon)
turn_early seats horizon None place so = tt
turn_early seats horizon (Some t) place so = (so.some t refl).early

-- who comes before a turn may start before its end
early_enough : (turn : Option Turn) (horizon u k : ℕ) → u < horizon → IfSome turn (λ t. NoLater u k t.moment t.terminal) → u < option_map_or (λ t. t.moment + 1) turn horizon
early_enough None horizon u k early low = early
early_enough (Some t) horizon u k early (inl less) = let l : u < t.moment = less in omega arith
early_enough (Some t) horizon u k early (inr same) = let e : u ≡ t.moment = same.0 in omega arith

-- the senders `ys` at the places before one follow `xs`, and of these the turn is the first, whose sender has attended
pub record FoundSoFar (delay : Delays) (list : List Entry) (moment horizon : ℕ) (xs ys : List Seat) (turn : Option Turn) (place : ℕ) : Type 0 where
  pub each : EachSoFar (Follows delay list moment) xs ys place
  pub turn_is : TurnSoFar ys horizon turn place
  pub attended : (t : Turn) → turn ≡ Some t → HasAttended delay list moment xs ys t.place

module _ (delay : Delays) (list : List Entry) (moment horizon : ℕ) where
  pub found_none : (xs : List Seat) → FoundSoFar delay list moment horizon xs xs None 0
  found_none xs = record {
    each = record { same_length = refl; done = λ j x y low. absurd (omega arith); rest = λ j low. refl };
    turn_is = no_turn xs horizon;
    attended = λ t e. absurd (let k : None ≡ Some t = e in cc);
  }

  attended_kept : (xs ys : List Seat) (turn : Option Turn) (place : ℕ) (y : Seat) → FoundSoFar delay list moment horizon xs ys turn place → (t : Turn) → turn ≡ Some t
      → HasAttended delay list moment xs (set ys place y) t.place
  attended_kept xs ys turn place y so t e a b in_xs in_ys =
      let low : t.place < place = so.turn_is.before t e in
      so.attended t e a b in_xs (sym (get_set_other ys place t.place y (λ same. omega arith)) ∙ in_ys)

  -- one more, that doesn't start before the horizon
  pub found_later : (xs ys : List Seat) (turn : Option Turn) (place : ℕ) (x y : Seat) → FoundSoFar delay list moment horizon xs ys turn place → place < length ys → slice_get ys place ≡ Some x → Follows delay list moment x y
      → ((m : ℕ) → y.next ≡ Some m → horizon ≤ m) → FoundSoFar delay list moment horizon xs (set ys place y) turn (place + 1)
  found_later xs ys turn place x y so within at follows late = record {
    each = each_more (Follows delay list moment) xs ys place x y so.each within at follows;
    turn_is = later_turn (set ys place y) horizon turn place y (turn_kept ys horizon turn place y so.turn_is) (get_set_same ys place y within) late;
    attended = attended_kept xs ys turn place y so;
  }

  -- one more that does
  pub found_turn : (xs ys : List Seat) (turn : Option Turn) (place : ℕ) (x y : Seat) (t r : Turn) → FoundSoFar delay list moment horizon xs ys turn place → place < length ys → slice_get ys place ≡ Some x → Follows delay list moment x y
      → ((u : ℕ) → y.next ≡ Some u → u < option_map_or (λ w. w.moment + 1) turn horizon → Attended delay list moment x y)
      → y.next ≡ Some t.moment → t.place ≡ place → t.terminal ≡ y.terminal → t.moment < horizon → (r ≡ t) ⊎ (turn ≡ Some r) → NoLater r.moment r.terminal t.moment t.terminal
      → IfSome turn (λ w. NoLater r.moment r.terminal w.moment w.terminal) → FoundSoFar delay list moment horizon xs (set ys place y) (Some r) (place + 1)
  found_turn xs ys turn place x y t r so within at follows attends next t_place t_terminal early which low lower = record {
    each = each_more (Follows delay list moment) xs ys place x y so.each within at follows;
    turn_is = one_turn (set ys place y) horizon turn place y t r (turn_kept ys horizon turn place y so.turn_is) (get_set_same ys place y within) next t_place t_terminal early which low lower;
    attended = λ w e.
        let is : r ≡ w = cc in
        subst (λ (v : Turn). HasAttended delay list moment xs (set ys place y) v.place) is (elim which [
          | inr old ↦ attended_kept xs ys turn place y so r old
          | inl new ↦
              let here : r.place ≡ place = ap (λ (v : Turn). v.place) new ∙ t_place in
              let sooner : IfSome turn (λ v. NoLater t.moment t.terminal v.moment v.terminal) = subst (λ (z : Turn). IfSome turn (λ v. NoLater z.moment z.terminal v.moment v.terminal)) new lower in
              let by : Attended delay list moment x y = attends t.moment next (early_enough turn horizon t.moment t.terminal early sooner) in
              subst (HasAttended delay list moment xs (set ys place y)) (sym here) (λ a b in_xs in_ys.
              let old_is : x ≡ a = same_some x a (sym at ∙ so.each.rest place (omega arith) ∙ in_xs) in
              let new_is : y ≡ b = same_some y b (sym (get_set_same ys place y within) ∙ in_ys) in
              subst (λ v. Attended delay list moment v b) old_is (subst (Attended delay list moment x) new_is by))
        ]);
  }

  -- of all places
  pub attended_of_all : (xs ys : List Seat) (turn : Option Turn) (place : ℕ) → FoundSoFar delay list moment horizon xs ys turn place → IfSome turn (λ t. HasAttended delay list moment xs ys t.place)
  attended_of_all xs ys None place so = tt
  attended_of_all xs ys (Some t) place so = so.attended t refl
