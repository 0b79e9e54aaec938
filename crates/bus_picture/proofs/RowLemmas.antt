-- The boxes of a row, one behind the other.
use Rattle.std.proofs.Common.{◌≡◌, ℕ, suc, ◌+◌, ◌<◌, ◌≤◌, Bool, true, false, cond, List, [], ◌∷◌, ◌++◌, length, filter, drop, drop-cons, get_or, Option, Some, None, append-nil, arith, refl, sym, ap, subst, ◌∙◌}
use Rattle.std.specs.List.{AllByRecursion, flat_map}
use Rattle.std.proofs.lemmas.List.{append_assoc, drop_all}
use Rattle.std.proofs.lemmas.List.Sums.{fold-append}
use Rattle.bus_strings.specs.Messages.{Entry}
use Rattle.bus_table.specs.Tables.{Table}
use Rattle.bus_shapes.specs.declared.sent.Sent.{Sent}
use Rattle.bus_pen.specs.declared.scale.Scale.{Scale}
use Rattle.bus_shapes.specs.Sending.{sents}
use Rattle.bus_shapes.specs.inside.Sents.{IsInOrder}
use Rattle.bus_shapes.proofs.SendingLaws.{all_in_order, as_many}
use Rattle.bus_picture.specs.Boxes.{Box, Cluster, boxes, boxes_from, grown, joins, one, cluster_of}
use Rattle.bus_picture.specs.Rows.{Row, cluster_text, row_text, shows}
use Rattle.bus_picture.specs.inside.Working.{IsLast, IsCluster, Writing, held, last_written, next_cluster, next_written, to_come, with_next, written}

abbrev single : Sent → Box
single x = record { first = x; others = [] }

abbrev longer : Box → Sent → Box
longer box y = record { first = box.first; others = box.others ++ y ∷ [] }

abbrev texts : Scale → Table → Row → List Entry → List Box → List ℕ
texts scale table row list bs = flat_map (λ box. cluster_text scale table row list (cluster_of box)) bs

-- A box with one more.
grows : (box : Box) (y : Sent) → grown (cluster_of box) y ≡ cluster_of (longer box y)
grows box y = sym (fold-append grown (one box.first) box.others (y ∷ []))

-- Where x is shown, it shares the last box or not.
by_joins : (scale : Scale) (table : Table) (row : Row) (list : List Entry) (box : Box) (x : Sent) (xs ys : List Sent) (j : Bool)
    → to_come scale table row list (Some (cluster_of (longer box x))) xs ≡ texts scale table row list (boxes_from scale (longer box x) ys)
    → to_come scale table row list (Some (cluster_of (single x))) xs ≡ texts scale table row list (boxes_from scale (single x) ys)
    → (cond j [] (cluster_text scale table row list (cluster_of box)) ++ to_come scale table row list (Some (cond j (grown (cluster_of box) x) (one x))) xs)
    ≡ texts scale table row list (cond j (boxes_from scale (longer box x) ys) (box ∷ boxes_from scale (single x) ys))
by_joins scale table row list box x xs ys true more new = ap (λ (cluster : Cluster). to_come scale table row list (Some cluster) xs) (grows box x) ∙ more
by_joins scale table row list box x xs ys false more new = ap (λ (t : List ℕ). cluster_text scale table row list (cluster_of box) ++ t) new

by_shown : (scale : Scale) (table : Table) (row : Row) (list : List Entry) (box : Box) (x : Sent) (xs ys : List Sent) (b : Bool)
    → (written scale table row list (Some (cluster_of box)) x ++ to_come scale table row list (Some (with_next scale (Some (cluster_of box)) x)) xs)
    ≡ texts scale table row list (boxes_from scale box (x ∷ ys))
    → to_come scale table row list (Some (cluster_of box)) xs ≡ texts scale table row list (boxes_from scale box ys)
    → (cond b (written scale table row list (Some (cluster_of box)) x) [] ++ to_come scale table row list (cond b (Some (with_next scale (Some (cluster_of box)) x)) (Some (cluster_of box))) xs)
    ≡ texts scale table row list (boxes_from scale box (cond b (x ∷ ys) ys))
by_shown scale table row list box x xs ys true shared other = shared
by_shown scale table row list box x xs ys false shared other = other

-- What is to come behind a box is that box and the others.
behind : (scale : Scale) (table : Table) (row : Row) (list : List Entry) (box : Box) (xs : List Sent)
    → to_come scale table row list (Some (cluster_of box)) xs ≡ texts scale table row list (boxes_from scale box (filter (shows scale row) xs))
behind scale table row list box [] = sym (append-nil (cluster_text scale table row list (cluster_of box)))
behind scale table row list box (x ∷ xs) =
    by_shown scale table row list box x xs (filter (shows scale row) xs) (shows scale row x)
    (by_joins scale table row list box x xs (filter (shows scale row) xs) (joins scale (cluster_of box) x) (behind scale table row list (longer box x) xs)
    (behind scale table row list (single x) xs))
    (behind scale table row list box xs)

first_shown : (scale : Scale) (table : Table) (row : Row) (list : List Entry) (x : Sent) (xs ys : List Sent) (b : Bool)
    → to_come scale table row list (Some (one x)) xs ≡ texts scale table row list (boxes_from scale (single x) ys)
    → to_come scale table row list None xs ≡ texts scale table row list (boxes scale ys)
    → (cond b [] [] ++ to_come scale table row list (cond b (Some (one x)) None) xs) ≡ texts scale table row list (boxes scale (cond b (x ∷ ys) ys))
first_shown scale table row list x xs ys true shared other = shared
first_shown scale table row list x xs ys false shared other = other

all_come : (scale : Scale) (table : Table) (row : Row) (list : List Entry) (xs : List Sent)
    → to_come scale table row list None xs ≡ texts scale table row list (boxes scale (filter (shows scale row) xs))
all_come scale table row list [] = refl
all_come scale table row list (x ∷ xs) =
    first_shown scale table row list x xs (filter (shows scale row) xs) (shows scale row x) (behind scale table row list (single x) xs) (all_come scale table row list xs)

-- All that is to come is the row.
pub whole_row : (scale : Scale) (table : Table) (row : Row) (list : List Entry) → to_come scale table row list None (sents list) ≡ row_text scale table row list
whole_row scale table row list = all_come scale table row list (sents list)

-- ---- what a writer keeps
choose_cluster : (b : Bool) (p : Cluster) (o : Option Cluster) → IsCluster p → IsLast o → IsLast (cond b (Some p) o)
choose_cluster true p o h k = h
choose_cluster false p o h k = k

choose_one : (b : Bool) (p q : Cluster) → IsCluster p → IsCluster q → IsCluster (cond b p q)
choose_one true p q h k = h
choose_one false p q h k = k

next_is_cluster : (scale : Scale) (last : Option Cluster) (x : Sent) → IsLast last → IsInOrder x → IsCluster (with_next scale last x)
next_is_cluster scale None x h order = record { first = order; later = omega arith }
next_is_cluster scale (Some p) x h order =
    choose_one (joins scale p x) (grown p x) (one x)
    (let later : p.first.moment + p.busy ≤ p.end = h.later in record { first = h.first; later = omega arith }) (record { first = order; later = omega arith })

next_is_last : (scale : Scale) (row : Row) (last : Option Cluster) (x : Sent) → IsLast last → IsInOrder x → IsLast (next_cluster scale row last x)
next_is_last scale row last x h order =
    choose_cluster (shows scale row x) (with_next scale last x) last (next_is_cluster scale last x h order) h

choose_count : (b : Bool) (p q : Cluster) (n : ℕ) → p.count ≤ n → q.count ≤ n → (cond b p q).count ≤ n
choose_count true p q n h k = h
choose_count false p q n h k = k

next_count : (scale : Scale) (last : Option Cluster) (x : Sent) → (with_next scale last x).count ≤ held last + 1
next_count scale None x = omega arith
next_count scale (Some p) x = choose_count (joins scale p x) (grown p x) (one x) (p.count + 1) (omega arith) (omega arith)

choose_held : (b : Bool) (p : Cluster) (o : Option Cluster) (n : ℕ) → p.count ≤ n → held o ≤ n → held (cond b (Some p) o) ≤ n
choose_held true p o n h k = h
choose_held false p o n h k = k

next_held : (scale : Scale) (row : Row) (last : Option Cluster) (x : Sent) → held (next_cluster scale row last x) ≤ held last + 1
next_held scale row last x =
    choose_held (shows scale row x) (with_next scale last x) last (held last + 1) (next_count scale last x) (omega arith)

-- Nothing is written yet.
pub begun : (text : List ℕ → Type 0) (scale : Scale) (table : Table) (row : Row) (list : List Entry) (left : List Sent) → left ≡ sents list → text []
    → Writing text scale table row list None left
begun text scale table row list left is nothing = record {
  done = [];
  adds = nothing;
  rest = ap (to_come scale table row list None) is;
  order = subst (AllByRecursion IsInOrder) (sym is) (all_in_order list);
  cluster = tt;
  few = omega (arith, ap length is, as_many list);
}

-- The next transmission is taken.
pub took : (text text' : List ℕ → Type 0) (scale : Scale) (table : Table) (row : Row) (list : List Entry) (last last' : Option Cluster) (x : Sent) (left xs : List Sent)
    → (w : Writing text scale table row list last left) → left ≡ x ∷ xs → last' ≡ next_cluster scale row last x
    → text' (w.done ++ next_written scale table row list last x) → Writing text' scale table row list last' xs
took text text' scale table row list last last' x left xs w is next adds =
    let order : AllByRecursion IsInOrder (x ∷ xs) = subst (AllByRecursion IsInOrder) is w.order in
    let long : length left ≡ suc (length xs) = ap length is in
    let count = next_held scale row last x in
    record {
      done = w.done ++ next_written scale table row list last x;
      adds = adds;
      rest = ap (λ (o : Option Cluster). (w.done ++ next_written scale table row list last x) ++ to_come scale table row list o xs) next
          ∙ append_assoc w.done (next_written scale table row list last x) (to_come scale table row list (next_cluster scale row last x) xs)
          ∙ ap (λ (ys : List Sent). w.done ++ to_come scale table row list last ys) (sym is) ∙ w.rest;
      order = order.1;
      cluster = subst IsLast (sym next) (next_is_last scale row last x w.cluster order.0);
      few = omega (arith, ap held next, w.few);
    }

-- All are taken.
pub ended : (text : List ℕ → Type 0) (scale : Scale) (table : Table) (row : Row) (list : List Entry) (last : Option Cluster) (left : List Sent)
    → (w : Writing text scale table row list last left) → left ≡ [] → w.done ++ last_written scale table row list last ≡ row_text scale table row list
ended text scale table row list last left w is =
    ap (λ (xs : List Sent). w.done ++ to_come scale table row list last xs) (sym is) ∙ w.rest ∙ whole_row scale table row list

-- ---- what is told of a list, one after another
pub next_left : (told : List Sent) (i : ℕ) (d : Sent) → i < length told → drop i told ≡ get_or told i d ∷ drop (i + 1) told
next_left told i d within =
    let e : suc i ≡ i + 1 = omega arith in
    drop-cons told i d within ∙ ap (λ k. get_or told i d ∷ drop k told) e

pub none_left : (told : List Sent) (i : ℕ) → length told ≤ i → drop i told ≡ []
none_left told i past = drop_all i told past

-- the next is shown
pub took_shown : (text text' : List ℕ → Type 0) (scale : Scale) (table : Table) (row : Row) (list : List Entry) (last last' : Option Cluster) (x : Sent) (left xs : List Sent)
    → (w : Writing text scale table row list last left) → left ≡ x ∷ xs → shows scale row x ≡ true → last' ≡ Some (with_next scale last x)
    → text' (w.done ++ written scale table row list last x) → Writing text' scale table row list last' xs
took_shown text text' scale table row list last last' x left xs w is shown next adds =
    took text text' scale table row list last last' x left xs w is
    (next ∙ sym (ap (λ b. cond b (Some (with_next scale last x)) last) shown))
    (subst (λ t. text' (w.done ++ t)) (sym (ap (λ b. cond b (written scale table row list last x) []) shown)) adds)

-- or it isn't
pub took_passed : (text text' : List ℕ → Type 0) (scale : Scale) (table : Table) (row : Row) (list : List Entry) (last last' : Option Cluster) (x : Sent) (left xs : List Sent)
    → (w : Writing text scale table row list last left) → left ≡ x ∷ xs → shows scale row x ≡ false → last' ≡ last → text' w.done
    → Writing text' scale table row list last' xs
took_passed text text' scale table row list last last' x left xs w is passed next adds =
    took text text' scale table row list last last' x left xs w is
    (next ∙ sym (ap (λ b. cond b (Some (with_next scale last x)) last) passed))
    (subst text' (sym (ap (λ b. w.done ++ cond b (written scale table row list last x) []) passed ∙ append-nil w.done)) adds)
