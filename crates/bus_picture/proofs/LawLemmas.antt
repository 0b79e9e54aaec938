-- The boxes of a row.
use Rattle.std.proofs.Common.{◌≡◌, ◌↔◌, ℕ, ◌+◌, ◌<◌, ◌≤◌, Bool, true, false, cond, max, List, [], ◌∷◌, ◌++◌, filter, Option, Some, None, inl, inr, arith, refl, sym, ap, subst, ◌∙◌}
use Rattle.std.specs.Prelude.{◌&&◌, ◌⊎◌, fold, length, nat_eq, nat_lt, ⊤}
use Rattle.std.specs.Bool.{beq}
use Rattle.std.specs.List.{AllByRecursion, flat_map}
use Rattle.std.proofs.lemmas.Bool.{and_parts, cases_Bool, ltb-false, ltb-true, true≢false}
use Rattle.std.proofs.lemmas.List.{append_assoc}
use Rattle.bus_strings.proofs.ListLaws.{all_push}
use Rattle.bus_strings.proofs.MemberLaws.{from_filter, in_append_left, in_append_right, of_each}
use Rattle.bus_strings.specs.Members.{In}
use Rattle.bus_strings.specs.Messages.{Entry}
use Rattle.bus_strings.specs.Transmissions.{IsByMoment, garbled}
use Rattle.bus_pen.specs.Classes.{is_hatched}
use Rattle.bus_pen.specs.declared.scale.Scale.{Scale}
use Rattle.bus_shapes.specs.declared.sent.Sent.{Sent}
use Rattle.bus_shapes.specs.Laws.{SentsAreTold}
use Rattle.bus_shapes.specs.Sending.{sents, sents_from}
use Rattle.bus_shapes.specs.SendingLaws.{IsToldOf}
use Rattle.bus_pen.specs.declared.measures.TheConstants.{PIXEL as pixel}
use Rattle.bus_pen.specs.Scales.{place}
use Rattle.bus_picture.specs.Boxes.{Box, Cluster, boxes, boxes_from, bucket, grown, is_close, is_narrow, is_thin, joins, members, one, cluster_of}
use Rattle.bus_picture.specs.Rows.{Row, box_class, garbled_class, is_of, plain_class, shown, shows}
use Rattle.bus_picture.specs.Strings.{meets}
use Rattle.bus_picture.specs.Laws.{AreClose, BoxesCoverNoQuiet, BoxesHoldRows, BoxesHoldTheirs, HatchedAreGarbled, HoldsIts}

abbrev pub single : Sent → Box
single x = record { first = x; others = [] }

abbrev pub longer : Box → Sent → Box
longer box y = record { first = box.first; others = box.others ++ y ∷ [] }

-- ---- each is in one box
by_joins : (scale : Scale) (box : Box) (y : Sent) (ys : List Sent) (j : Bool) → flat_map members (boxes_from scale (longer box y) ys) ≡ members (longer box y) ++ ys
    → flat_map members (boxes_from scale (single y) ys) ≡ members (single y) ++ ys
    → flat_map members (cond j (boxes_from scale (longer box y) ys) (box ∷ boxes_from scale (single y) ys)) ≡ members box ++ y ∷ ys
by_joins scale box y ys true more new = more ∙ ap (λ (l : List Sent). box.first ∷ l) (append_assoc box.others (y ∷ []) ys)
by_joins scale box y ys false more new = ap (λ (l : List Sent). members box ++ l) new

held : (scale : Scale) (box : Box) (ys : List Sent) → flat_map members (boxes_from scale box ys) ≡ members box ++ ys
held scale box [] = refl
held scale box (y ∷ ys) = by_joins scale box y ys (joins scale (cluster_of box) y) (held scale (longer box y) ys) (held scale (single y) ys)

all_held : (scale : Scale) (xs : List Sent) → flat_map members (boxes scale xs) ≡ xs
all_held scale [] = refl
all_held scale (x ∷ xs) = held scale (single x) xs

pub boxes_hold_rows : BoxesHoldRows
boxes_hold_rows scale row list = all_held scale (shown scale row list)

-- ---- hatched boxes
pub in_flat : (bs : List Box) (box : Box) (x : Sent) → In box bs → In x (members box) → In x (flat_map members bs)
in_flat [] box x i j = absurd i
in_flat (b ∷ bs) box x (inl same) j = in_append_left (members b) (flat_map members bs) x (subst (λ (b : Box). In x (members b)) same j)
in_flat (b ∷ bs) box x (inr i) j = in_append_right (members b) (flat_map members bs) x (in_flat bs box x i j)

same : (a b : Bool) → beq a b ≡ true → b ≡ a
same true true h = refl
same true false h = absurd (true≢false (sym h))
same false true h = absurd (true≢false (sym h))
same false false h = refl

-- A row shows only what is garbled as it is.
pub as_row : (scale : Scale) (row : Row) (x : Sent) → shows scale row x ≡ true → row.garbled ≡ x.garbled
as_row scale row x h =
    same x.garbled row.garbled
    (and_parts (is_of row x) (beq x.garbled row.garbled) (and_parts (is_of row x && beq x.garbled row.garbled) (meets scale x.moment x.end) h).0).1

plain : (terminal : Option ℕ) (narrow : Bool) → is_hatched (plain_class terminal narrow) ≡ true → ⊥
plain None narrow h = cc
plain (Some n) true h = cc
plain (Some n) false h = cc

hurt : (narrow : Bool) → is_hatched (garbled_class narrow) ≡ true
hurt true = refl
hurt false = refl

hatched_by : (g : Bool) (terminal : Option ℕ) (narrow : Bool)
    → (is_hatched (cond g (garbled_class narrow) (plain_class terminal narrow)) ≡ true) ↔ (g ≡ true)
hatched_by true terminal narrow = (λ h. refl, λ h. hurt narrow)
hatched_by false terminal narrow = (λ h. absurd (plain terminal narrow h), λ h. absurd (true≢false (sym h)))

pub hatched_are_garbled : SentsAreTold → HatchedAreGarbled
hatched_are_garbled told scale row list box x i j =
    let all : In x (shown scale row list) = subst (In x) (boxes_hold_rows scale row list) (in_flat (boxes scale (shown scale row list)) box x i j) in
    let kept = from_filter (shows scale row) (sents list) x all in
    let t : IsToldOf list x = told list x kept.0 in
    let mark : row.garbled ≡ garbled list x.at = as_row scale row x kept.1 ∙ ap (λ (s : Sent). s.garbled) t.told in
    (t, subst (λ b. (is_hatched (box_class scale row (cluster_of box)) ≡ true) ↔ (b ≡ true)) mark (hatched_by row.garbled row.terminal (is_narrow scale (cluster_of box).first)))

-- ---- from the first to the last
abbrev pub IsBehind : ℕ → Sent → Type 0
IsBehind t x = t ≤ x.moment

abbrev pub Rise : List Sent → Type 0
Rise [] = ⊤
Rise (x ∷ xs) = AllByRecursion (IsBehind x.moment) xs × Rise xs

all_behind : (list : List Entry) (k t : ℕ) (xs : List Entry) → AllByRecursion (λ (y : Entry). t ≤ y.moment) xs → AllByRecursion (IsBehind t) (sents_from list k xs)
all_behind list k t [] h = tt
all_behind list k t (x ∷ xs) h = (h.0, all_behind list (k + 1) t xs h.1)

pub rise : (list : List Entry) (k : ℕ) (xs : List Entry) → IsByMoment xs → Rise (sents_from list k xs)
rise list k [] order = tt
rise list k (x ∷ xs) order = (all_behind list (k + 1) x.moment xs order.0, rise list (k + 1) xs order.1)

kept_behind : (t : ℕ) (p : Sent → Bool) (xs : List Sent) → AllByRecursion (IsBehind t) xs → AllByRecursion (IsBehind t) (filter p xs)
kept_behind t p [] h = tt
kept_behind t p (x ∷ xs) h =
    elim (p x) as (λ b. AllByRecursion (IsBehind t) (cond b (x ∷ filter p xs) (filter p xs))) [
      | true ↦ (h.0, kept_behind t p xs h.1)
      | false ↦ kept_behind t p xs h.1
    ]

pub kept_rise : (p : Sent → Bool) (xs : List Sent) → Rise xs → Rise (filter p xs)
kept_rise p [] h = tt
kept_rise p (x ∷ xs) h =
    elim (p x) as (λ b. Rise (cond b (x ∷ filter p xs) (filter p xs))) [
      | true ↦ (kept_behind x.moment p xs h.0, kept_rise p xs h.1)
      | false ↦ kept_rise p xs h.1
    ]

abbrev IsFirst : Box → Type 0
IsFirst box = AllByRecursion (IsBehind box.first.moment) box.others

first_by : (scale : Scale) (box : Box) (y : Sent) (ys : List Sent) (j : Bool) → IsFirst box
    → AllByRecursion IsFirst (boxes_from scale (longer box y) ys) → AllByRecursion IsFirst (boxes_from scale (single y) ys)
    → AllByRecursion IsFirst (cond j (boxes_from scale (longer box y) ys) (box ∷ boxes_from scale (single y) ys))
first_by scale box y ys true h more new = more
first_by scale box y ys false h more new = (h, new)

led : (scale : Scale) (box : Box) (ys : List Sent) → IsFirst box → AllByRecursion (IsBehind box.first.moment) ys → Rise ys
    → AllByRecursion IsFirst (boxes_from scale box ys)
led scale box [] h later order = (h, tt)
led scale box (y ∷ ys) h later order =
    first_by scale box y ys (joins scale (cluster_of box) y) h
    (led scale (longer box y) ys (all_push (IsBehind box.first.moment) box.others y h later.0) later.1 order.1)
    (led scale (single y) ys tt order.0 order.1)

all_first : (scale : Scale) (xs : List Sent) → Rise xs → AllByRecursion IsFirst (boxes scale xs)
all_first scale [] order = tt
all_first scale (x ∷ xs) order = led scale (single x) xs tt order.0 order.1

abbrev end_from : ℕ → List Sent → ℕ
end_from end xs = fold (λ end (x : Sent). max end x.end) end xs

no_less : (end : ℕ) (xs : List Sent) → end ≤ end_from end xs
no_less end [] = omega arith
no_less end (x ∷ xs) = omega (arith, no_less (max end x.end) xs)

each_within : (t end : ℕ) (xs : List Sent) → AllByRecursion (IsBehind t) xs → AllByRecursion (λ (x : Sent). (t ≤ x.moment) × (x.end ≤ end_from end xs)) xs
each_within t end [] h = tt
each_within t end (x ∷ xs) h = ((h.0, omega (arith, no_less (max end x.end) xs)), each_within t (max end x.end) xs h.1)

one_of : (a b : ℕ) → (max a b ≡ a) ⊎ (max a b ≡ b)
one_of a b =
    elim (cases_Bool (nat_lt a b)) [
      | inl less ↦ inr (let low : a < b = ltb-true a b less in omega arith)
      | inr not_less ↦ inl (let low : b ≤ a = ltb-false a b not_less in omega arith)
    ]

abbrev EndsOne : ℕ → List Sent → Type 0
EndsOne end xs = (x : Sent) × In x xs × (x.end ≡ end)

ends_one : (end : ℕ) (xs : List Sent) → (end_from end xs ≡ end) ⊎ EndsOne (end_from end xs) xs
ends_one end [] = inl refl
ends_one end (x ∷ xs) =
    elim (ends_one (max end x.end) xs) [
      | inl same ↦ elim (one_of end x.end) [ inl old ↦ inl (same ∙ old) | inr new ↦ inr (x, inl refl, sym (same ∙ new)) ]
      | inr one ↦ inr (one.0, inr one.1, one.2)
    ]

grown_end : (cluster : Cluster) (xs : List Sent) → (fold grown cluster xs).end ≡ end_from cluster.end xs
grown_end cluster [] = refl
grown_end cluster (x ∷ xs) = grown_end (grown cluster x) xs

grown_count : (cluster : Cluster) (xs : List Sent) → (fold grown cluster xs).count ≡ cluster.count + length xs
grown_count cluster [] = omega arith
grown_count cluster (x ∷ xs) = omega (arith, grown_count (grown cluster x) xs)

holds_its : (box : Box) → IsFirst box → HoldsIts box
holds_its box h =
    let is : (cluster_of box).end ≡ end_from box.first.end box.others = grown_end (one box.first) box.others in
    let end = ends_one box.first.end box.others in
    let last : EndsOne (end_from box.first.end box.others) (members box) =
    elim end [ inl same ↦ (box.first, inl refl, sym same) | inr one ↦ (one.0, inr one.1, one.2) ] in
    record {
      within = subst (λ (t : ℕ). AllByRecursion (λ (x : Sent). (box.first.moment ≤ x.moment) × (x.end ≤ t)) (members box)) (sym is)
          ((omega arith, no_less box.first.end box.others), each_within box.first.moment box.first.end box.others h);
      last = last.0;
      held = last.1;
      ends = last.2 ∙ sym is;
      count = omega (arith, grown_count (one box.first) box.others);
    }

-- ---- no quiet in a box
close_push : (scale : Scale) (cluster : Cluster) (xs : List Sent) (y : Sent) → AreClose scale cluster xs
    → place scale y.moment < place scale (fold grown cluster xs).end + pixel → AreClose scale cluster (xs ++ y ∷ [])
close_push scale cluster [] y h close = (close, tt)
close_push scale cluster (x ∷ xs) y h close = (h.0, close_push scale (grown cluster x) xs y h.1 close)

abbrev IsClose : Scale → Box → Type 0
IsClose scale box = AreClose scale (one box.first) box.others

close_by : (scale : Scale) (box : Box) (y : Sent) (ys : List Sent) (j : Bool) → joins scale (cluster_of box) y ≡ j → IsClose scale box
    → (IsClose scale (longer box y) → AllByRecursion (IsClose scale) (boxes_from scale (longer box y) ys)) → AllByRecursion (IsClose scale) (boxes_from scale (single y) ys)
    → AllByRecursion (IsClose scale) (cond j (boxes_from scale (longer box y) ys) (box ∷ boxes_from scale (single y) ys))
close_by scale box y ys true is h more new =
    let p : Cluster = cluster_of box in
    let close : is_close scale p.end y ≡ true =
    (and_parts (is_thin scale p.first && is_thin scale y && nat_eq (bucket scale p.first) (bucket scale y)) (is_close scale p.end y) is).1 in
    more (close_push scale (one box.first) box.others y h (ltb-true (place scale y.moment) (place scale p.end + pixel) close))
close_by scale box y ys false is h more new = (h, new)

all_close : (scale : Scale) (box : Box) (ys : List Sent) → IsClose scale box → AllByRecursion (IsClose scale) (boxes_from scale box ys)
all_close scale box [] h = (h, tt)
all_close scale box (y ∷ ys) h =
    close_by scale box y ys (joins scale (cluster_of box) y) refl h (all_close scale (longer box y) ys) (all_close scale (single y) ys tt)

close_boxes : (scale : Scale) (xs : List Sent) → AllByRecursion (IsClose scale) (boxes scale xs)
close_boxes scale [] = tt
close_boxes scale (x ∷ xs) = all_close scale (single x) xs tt

pub boxes_cover_no_quiet : BoxesCoverNoQuiet
boxes_cover_no_quiet scale row list box i =
    of_each (IsClose scale) (boxes scale (shown scale row list)) (close_boxes scale (shown scale row list)) box i

pub boxes_hold_theirs : BoxesHoldTheirs
boxes_hold_theirs scale row list box order i =
    let all = all_first scale (shown scale row list) (kept_rise (shows scale row) (sents list) (rise list 0 list order)) in
    holds_its box (of_each IsFirst (boxes scale (shown scale row list)) all box i)
