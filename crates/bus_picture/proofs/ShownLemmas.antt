-- What is shown is in a box, and what is in a box is shown.
use Rattle.std.proofs.Common.{◌≡◌, ◌↔◌, ℕ, ◌<◌, ◌≤◌, Bool, true, false, cond, List, [], ◌∷◌, None, inl, inr, arith, refl, sym, ap, subst, ◌∙◌}
use Rattle.std.specs.Prelude.{◌&&◌, ◌⊎◌, fold, nat_eq, nat_lt}
use Rattle.std.specs.Bool.{beq}
use Rattle.std.specs.List.{count_by, flat_map}
use Rattle.std.proofs.lemmas.Bool.{and_from, and_parts, lt-ltb, ltb-true, true≢false}
use Rattle.std.proofs.lemmas.List.Sums.{sum_by-cons}
use Rattle.bus_strings.proofs.MemberLaws.{any_found, any_in, from_filter, in_append_cases, in_filter}
use Rattle.bus_strings.specs.Members.{In}
use Rattle.bus_strings.specs.Messages.{Entry}
use Rattle.bus_trace.specs.Traces.{Recording}
use Rattle.bus_dump.specs.declared.lane.Lane.{Lane}
use Rattle.bus_pen.specs.declared.scale.Scale.{Scale}
use Rattle.bus_shapes.specs.declared.sent.Sent.{Sent}
use Rattle.bus_shapes.specs.Sending.{sents}
use Rattle.bus_picture.specs.Boxes.{Box, Cluster, boxes, boxes_from, bucket, grown, is_close, is_thin, joins, members, one, cluster_of}
use Rattle.bus_picture.specs.Kinds.{has_thin, is_shown, is_shown_thin}
use Rattle.bus_picture.specs.LegendLaws.{HasBox, IsMarked, IsThin}
use Rattle.bus_picture.specs.declared.measures.TheConstants.{PLOT_TOP as plot_top}
use Rattle.bus_picture.specs.Rows.{Row, is_of, shown, shows}
use Rattle.bus_picture.specs.Strings.{meets}
use Rattle.bus_picture.specs.TimeLines.{row_at, rows_of}
use Rattle.bus_picture.proofs.LawLemmas.{as_row, boxes_hold_rows, in_flat, longer, single}

-- ---- counts
abbrev one_if : Bool → ℕ
one_if b = cond b 1 0

-- Of what passes a test some doesn't pass another, where fewer pass that.
more_found : (p q : Sent → Bool) (xs : List Sent) → count_by p xs < count_by q xs → (x : Sent) × In x xs × (q x ≡ true) × (p x ≡ false)
more_found p q [] h = absurd (omega arith)
more_found p q (x ∷ xs) h =
    let ps = sum_by-cons (λ (y : Sent). cond (p y) 1 0) x xs in
    let qs = sum_by-cons (λ (y : Sent). cond (q y) 1 0) x xs in
    (elim (q x) as (λ b. q x ≡ b → (y : Sent) × In y (x ∷ xs) × (q y ≡ true) × (p y ≡ false)) [
      | true ↦ λ e. (elim (p x) as (λ b. p x ≡ b → (y : Sent) × In y (x ∷ xs) × (q y ≡ true) × (p y ≡ false)) [
        | true ↦ λ d. let r = more_found p q xs (omega (arith, ps, qs, ap one_if e, ap one_if d)) in (r.0, inr r.1, r.2, r.3)
        | false ↦ λ d. (x, inl refl, e, d)
      ]) refl
      | false ↦ λ e. let r = more_found p q xs (omega (arith, ps, qs, ap one_if e)) in (r.0, inr r.1, r.2, r.3)
    ]) refl

fewer : (p q : Sent → Bool) (xs : List Sent) → ((x : Sent) → p x ≡ true → q x ≡ true) → count_by p xs ≤ count_by q xs
fewer p q [] passes = omega arith
fewer p q (x ∷ xs) passes =
    let ps = sum_by-cons (λ (y : Sent). cond (p y) 1 0) x xs in
    let qs = sum_by-cons (λ (y : Sent). cond (q y) 1 0) x xs in
    (elim (p x) as (λ b. p x ≡ b → count_by p (x ∷ xs) ≤ count_by q (x ∷ xs)) [
      | true ↦ λ d. omega (arith, ps, qs, ap one_if d, ap one_if (passes x d), fewer p q xs passes)
      | false ↦ λ d. omega (arith, ps, qs, ap one_if d, fewer p q xs passes)
    ]) refl

more_counted : (p q : Sent → Bool) (xs : List Sent) → ((x : Sent) → p x ≡ true → q x ≡ true) → (x : Sent) → In x xs → q x ≡ true → p x ≡ false
    → count_by p xs < count_by q xs
more_counted p q [] passes x i e d = absurd i
more_counted p q (y ∷ ys) passes x (inl same) e d =
    omega (
      arith,
      sum_by-cons (λ (z : Sent). cond (p z) 1 0) y ys,
      sum_by-cons (λ (z : Sent). cond (q z) 1 0) y ys,
      ap (λ (z : Sent). one_if (q z)) (sym same) ∙ ap one_if e,
      ap (λ (z : Sent). one_if (p z)) (sym same) ∙ ap one_if d,
      fewer p q ys passes,
    )
more_counted p q (y ∷ ys) passes x (inr i) e d =
    let ps = sum_by-cons (λ (z : Sent). cond (p z) 1 0) y ys in
    let qs = sum_by-cons (λ (z : Sent). cond (q z) 1 0) y ys in
    let later : count_by p ys < count_by q ys = more_counted p q ys passes x i e d in
    (elim (p y) as (λ b. p y ≡ b → count_by p (y ∷ ys) < count_by q (y ∷ ys)) [
      | true ↦ λ k. omega (arith, ps, qs, ap one_if k, ap one_if (passes y k), later)
      | false ↦ λ k. omega (arith, ps, qs, ap one_if k, later)
    ]) refl

none_counted : (xs : List Sent) → count_by (λ (x : Sent). false) xs ≡ 0
none_counted [] = refl
none_counted (x ∷ xs) = omega (arith, sum_by-cons (λ (y : Sent). cond false 1 0) x xs, none_counted xs)

-- ---- boxes
from_flat : (bs : List Box) (x : Sent) → In x (flat_map members bs) → (box : Box) × In box bs × In x (members box)
from_flat [] x i = absurd i
from_flat (b ∷ bs) x i =
    elim (in_append_cases (members b) (flat_map members bs) x i) [
      | inl here ↦ (b, inl refl, here)
      | inr later ↦ let r = from_flat bs x later in (r.0, inr r.1, r.2)
    ]

abbrev bus_row : Bool → Row
bus_row garbled = row_at None plot_top garbled

is_drawn_row : (lanes : List Lane) (garbled : Bool) → In (bus_row garbled) (rows_of lanes)
is_drawn_row lanes false = inl refl
is_drawn_row lanes true = inr (inl refl)

same_mark : (b : Bool) → beq b b ≡ true
same_mark true = refl
same_mark false = refl

-- What is shown is in a box of the bus.
boxed : (scale : Scale) (list : List Entry) (x : Sent) → In x (sents list) → is_shown scale x ≡ true
    → (box : Box) × In box (boxes scale (shown scale (bus_row x.garbled) list)) × In x (members box)
boxed scale list x i h =
    let row : Row = bus_row x.garbled in
    let own : (is_of row x && beq x.garbled row.garbled) ≡ true = and_from (is_of row x) (beq x.garbled row.garbled) refl (same_mark x.garbled) in
    let passes : shows scale row x ≡ true = and_from (is_of row x && beq x.garbled row.garbled) (meets scale x.moment x.end) own h in
    let kept : In x (shown scale row list) = in_filter (shows scale row) (sents list) x i passes in
    from_flat (boxes scale (shown scale row list)) x (subst (In x) (sym (boxes_hold_rows scale row list)) kept)

-- What is in a box is shown.
member_shown : (scale : Scale) (row : Row) (list : List Entry) (box : Box) (x : Sent) → In box (boxes scale (shown scale row list)) → In x (members box)
    → In x (sents list) × (is_shown scale x ≡ true) × (row.garbled ≡ x.garbled)
member_shown scale row list box x i j =
    let all : In x (shown scale row list) = subst (In x) (boxes_hold_rows scale row list) (in_flat (boxes scale (shown scale row list)) box x i j) in
    let kept = from_filter (shows scale row) (sents list) x all in
    (kept.0, (and_parts (is_of row x && beq x.garbled row.garbled) (meets scale x.moment x.end) kept.1).1, as_row scale row x kept.1)

abbrev pub IsShownAs : Scale → Recording → Bool → Type 0
IsShownAs scale trace garbled = (x : Sent) × In x (sents trace.list) × (is_shown scale x ≡ true) × (x.garbled ≡ garbled)

pub marked_boxes : (scale : Scale) (lanes : List Lane) (trace : Recording) (garbled : Bool)
    → IsShownAs scale trace garbled ↔ HasBox scale lanes trace (IsMarked garbled)
marked_boxes scale lanes trace garbled = (
  λ s.
      let b = boxed scale trace.list s.0 s.1 s.2 in
      record { row = bus_row s.0.garbled; box = b.0; drawn = is_drawn_row lanes s.0.garbled; there = b.1; is = s.3 },
  λ h.
      let m = member_shown scale h.row trace.list h.box h.box.first h.there (inl refl) in
      (h.box.first, m.0, m.1, sym m.2 ∙ h.is),
)

abbrev is_hurt : Scale → Sent → Bool
is_hurt scale x = is_shown scale x && x.garbled

not_hurt : (a b : Bool) → a ≡ true → (a && b) ≡ false → b ≡ false
not_hurt a true e h = absurd (true≢false (sym (ap (λ c. c && true) e) ∙ h))
not_hurt a false e h = refl

hurt_not : (a b : Bool) → b ≡ false → (a && b) ≡ false
hurt_not true b h = h
hurt_not false b h = refl

pub plain_shown : (scale : Scale) (trace : Recording)
    → (nat_lt (count_by (is_hurt scale) (sents trace.list)) (count_by (is_shown scale) (sents trace.list)) ≡ true) ↔ IsShownAs scale trace false
plain_shown scale trace = (
  λ h.
      let r = more_found (is_hurt scale) (is_shown scale) (sents trace.list) (ltb-true _ _ h) in
      (r.0, r.1, r.2, not_hurt (is_shown scale r.0) r.0.garbled r.2 r.3),
  λ s.
      lt-ltb _ _ (more_counted (is_hurt scale) (is_shown scale) (sents trace.list) (λ x h. (and_parts (is_shown scale x) x.garbled h).0) s.0 s.1 s.2
      (hurt_not (is_shown scale s.0) s.0.garbled s.3)),
)

pub hurt_shown : (scale : Scale) (trace : Recording) → (nat_lt 0 (count_by (is_hurt scale) (sents trace.list)) ≡ true) ↔ IsShownAs scale trace true
hurt_shown scale trace = (
  λ h.
      let some : 0 < count_by (is_hurt scale) (sents trace.list) = ltb-true 0 _ h in
      let r = more_found (λ (x : Sent). false) (is_hurt scale) (sents trace.list) (omega (arith, none_counted (sents trace.list))) in
      let parts = and_parts (is_shown scale r.0) r.0.garbled r.2 in
      (r.0, r.1, parts.0, parts.1),
  λ s.
      let less : count_by (λ (x : Sent). false) (sents trace.list) < count_by (is_hurt scale) (sents trace.list) =
      more_counted (λ (x : Sent). false) (is_hurt scale) (sents trace.list) (λ x h. absurd (true≢false (sym h))) s.0 s.1
      (and_from (is_shown scale s.0) s.0.garbled s.2 s.3) refl in
      lt-ltb 0 _ (omega arith),
)

-- ---- what takes less than a pixel
grown_first : (cluster : Cluster) (xs : List Sent) → (fold grown cluster xs).first ≡ cluster.first
grown_first cluster [] = refl
grown_first cluster (x ∷ xs) = grown_first (grown cluster x) xs

-- A box has one transmission, or its first takes less than a pixel.
abbrev IsFine : Scale → Box → Type 0
IsFine scale box = (box.others ≡ []) ⊎ (is_thin scale box.first ≡ true)

fine_from : (scale : Scale) (box : Box) (ys : List Sent) → IsFine scale box → (b : Box) → In b (boxes_from scale box ys) → IsFine scale b
fine_from scale box [] fine b (inl same) = subst (IsFine scale) (sym same) fine
fine_from scale box [] fine b (inr i) = absurd i
fine_from scale box (y ∷ ys) fine b i =
    (elim (joins scale (cluster_of box) y) as (λ j. joins scale (cluster_of box) y ≡ j
    → In b (cond j (boxes_from scale (longer box y) ys) (box ∷ boxes_from scale (single y) ys)) → IsFine scale b) [
      | true ↦ λ e k.
          let p : Cluster = cluster_of box in
          let parts = and_parts (is_thin scale p.first && is_thin scale y && nat_eq (bucket scale p.first) (bucket scale y)) (is_close scale p.end y) e in
          let thin = (and_parts (is_thin scale p.first) (is_thin scale y) (and_parts (is_thin scale p.first && is_thin scale y) _ parts.0).0).0 in
          fine_from scale (longer box y) ys (inr (ap (is_thin scale) (sym (grown_first (one box.first) box.others)) ∙ thin)) b k
      | false ↦ λ e k. elim k [
        | inl same ↦ subst (IsFine scale) (sym same) fine
        | inr later ↦ fine_from scale (single y) ys (inl refl) b later
      ]
    ]) refl i

all_fine : (scale : Scale) (xs : List Sent) (b : Box) → In b (boxes scale xs) → IsFine scale b
all_fine scale [] b i = absurd i
all_fine scale (x ∷ xs) b i = fine_from scale (single x) xs (inl refl) b i

thin_first : (scale : Scale) (box : Box) (x : Sent) → IsFine scale box → In x (members box) → is_thin scale x ≡ true → is_thin scale box.first ≡ true
thin_first scale box x (inr thin) i h = thin
thin_first scale box x (inl none) (inl same) h = ap (is_thin scale) (sym same) ∙ h
thin_first scale box x (inl none) (inr other) h = absurd (subst (In x) none other)

pub thin_boxes : (scale : Scale) (lanes : List Lane) (trace : Recording) → (has_thin scale trace.list ≡ true) ↔ HasBox scale lanes trace (IsThin scale)
thin_boxes scale lanes trace = (
  λ h.
      let r = any_found (is_shown_thin scale) (sents trace.list) h in
      let parts = and_parts (is_shown scale r.0) (is_thin scale r.0) r.2 in
      let b = boxed scale trace.list r.0 r.1 parts.0 in
      let first = thin_first scale b.0 r.0 (all_fine scale (shown scale (bus_row r.0.garbled) trace.list) b.0 b.1) b.2 parts.1 in
      record {
        row = bus_row r.0.garbled;
        box = b.0;
        drawn = is_drawn_row lanes r.0.garbled;
        there = b.1;
        is = ap (is_thin scale) (grown_first (one b.0.first) b.0.others) ∙ first;
      },
  λ h.
      let m = member_shown scale h.row trace.list h.box h.box.first h.there (inl refl) in
      let thin : is_thin scale h.box.first ≡ true = ap (is_thin scale) (sym (grown_first (one h.box.first) h.box.others)) ∙ h.is in
      any_in (is_shown_thin scale) (sents trace.list) h.box.first m.0 (and_from (is_shown scale h.box.first) (is_thin scale h.box.first) m.1 thin),
)
