-- The tolerance by neighbours in turn order.
use Rattle.std.proofs.Common.{◌≡◌, ℕ, ◌+◌, ◌*◌, ◌<◌, ◌≤◌, Bool, true, false, ◌&&◌, ◌||◌, List, [], ◌∷◌, ◌++◌, map, length, inl, inr, arith, refl, ap, ◌∙◌, subst}
use Rattle.std.specs.Prelude.{◌==◌, nat_le}
use Rattle.std.specs.List.{list_all}
use Rattle.std.proofs.lemmas.Bool.{and_parts, cases_lt, le-leb, leb-true, lt-ltb, ltb-true, and_from}
use Rattle.bus_strings.specs.Members.{In}
use Rattle.bus_strings.proofs.MemberLaws.{pass_in}
use Rattle.bus_table.specs.Tables.{Sender}
use Rattle.bus_table.specs.Turns.{turn_key, turn_order}
use Rattle.bus_table.specs.inside.Orders.{Rises}
use Rattle.bus_table.proofs.TurnLaws.{from_sort, in_sort, order_rises, behind_rises}
use Rattle.bus_table.proofs.ValidLaws.{valid_facts}
use Rattle.bus_medium.proofs.PastLaws.{same_bools}
use Rattle.bus_reach.proofs.Modes.{in_aperiodic}
use Rattle.bus_reach.specs.Laws.{NeighboursTellBearing}
use Rattle.bus_reach.specs.Tolerance.{is_apart, leaves_room, no_less, stand_apart, neighbours_leave_room}
use Rattle.bus_reach.proofs.SpreadLemmas.{LeavesRoom, room_left}

all_of : (p : Sender → Bool) (xs : List Sender) → ((x : Sender) → In x xs → p x ≡ true) → list_all p xs ≡ true
all_of p [] h = refl
all_of p (x ∷ xs) h = and_from (p x) (list_all p xs) (h x (inl refl)) (all_of p xs (λ y i. h y (inr i)))

-- from all pairs to neighbours
to_neighbours : (d sg : ℕ) (senders xs : List Sender) → Rises (λ s. s.tg) xs → ((a : Sender) → In a xs → LeavesRoom d sg senders a) → ((a : Sender) → In a xs → In a senders)
    → stand_apart d (map (λ (s : Sender). s.tg) xs ++ sg ∷ []) ≡ true
to_neighbours d sg senders [] r h within = refl
to_neighbours d sg senders (a ∷ []) r h within = and_from (is_apart d a.tg sg) true (lt-ltb (a.tg + 2 * d) sg (h a (inl refl)).short) refl
to_neighbours d sg senders (a ∷ b ∷ xs) r h within =
    and_from (is_apart d a.tg b.tg) (stand_apart d (map (λ (s : Sender). s.tg) (b ∷ xs) ++ sg ∷ []))
    (lt-ltb (a.tg + 2 * d) b.tg ((h a (inl refl)).apart b (within b (inr (inl refl))) r.0.0))
    (to_neighbours d sg senders (b ∷ xs) r.1 (λ c i. h c (inr i)) (λ c i. within c (inr i)))

-- and back
record Follow (d sg : ℕ) (xs : List Sender) (a : Sender) : Type 0 where
  short : a.tg + 2 * d < sg
  apart : (b : Sender) → In b xs → a.tg < b.tg → a.tg + 2 * d < b.tg

from_neighbours : (d sg : ℕ) (xs : List Sender) → Rises (λ s. s.tg) xs → stand_apart d (map (λ (s : Sender). s.tg) xs ++ sg ∷ []) ≡ true → (a : Sender) → In a xs → Follow d sg xs a
from_neighbours d sg [] r h a i = absurd i
from_neighbours d sg (c ∷ []) r h a (inr i) = absurd i
from_neighbours d sg (c ∷ []) r h a (inl is) =
    let k : c.tg + 2 * d < sg = ltb-true (c.tg + 2 * d) sg (and_parts (is_apart d c.tg sg) true h).0 in
    let tg : a.tg ≡ c.tg = ap (λ (s : Sender). s.tg) is in
    record {
      short = omega arith;
      apart = λ b j less. elim j [ inl same ↦ (let e : b.tg ≡ c.tg = ap (λ (s : Sender). s.tg) same in absurd (omega arith)) | inr nothing ↦ absurd nothing ];
    }
from_neighbours d sg (c ∷ e ∷ xs) r h a (inl is) =
    let both = and_parts (is_apart d c.tg e.tg) (stand_apart d (map (λ (s : Sender). s.tg) (e ∷ xs) ++ sg ∷ [])) h in
    let next : c.tg + 2 * d < e.tg = ltb-true (c.tg + 2 * d) e.tg both.0 in
    let so = from_neighbours d sg (e ∷ xs) r.1 both.1 e (inl refl) in
    let short : e.tg + 2 * d < sg = so.short in
    let tg : a.tg ≡ c.tg = ap (λ (s : Sender). s.tg) is in
    record {
      short = omega arith;
      apart = λ b j less. elim j [
        | inl same ↦ (let w : b.tg ≡ c.tg = ap (λ (s : Sender). s.tg) same in absurd (omega arith))
        | inr later ↦ elim later [
          | inl same ↦ (let w : b.tg ≡ e.tg = ap (λ (s : Sender). s.tg) same in omega arith)
          | inr behind ↦ (let w : e.tg < b.tg = behind_rises (λ s. s.tg) e xs b r.1.0 behind in omega arith)
        ]
      ];
    }
from_neighbours d sg (c ∷ e ∷ xs) r h a (inr i) =
    let both = and_parts (is_apart d c.tg e.tg) (stand_apart d (map (λ (s : Sender). s.tg) (e ∷ xs) ++ sg ∷ [])) h in
    let so = from_neighbours d sg (e ∷ xs) r.1 both.1 a i in
    let before : c.tg < a.tg = behind_rises (λ s. s.tg) c (e ∷ xs) a r.0 i in
    record {
      short = so.short;
      apart = λ b j less. elim j [
        | inl same ↦ (let w : b.tg ≡ c.tg = ap (λ (s : Sender). s.tg) same in absurd (omega arith))
        | inr later ↦ so.apart b later less
      ];
    }

-- no terminal gap is less than the first
none_less : (d : ℕ) (xs : List Sender) → Rises (λ s. s.tg) xs → no_less d xs ≡ true → (a : Sender) → In a xs → d ≤ a.tg
none_less d [] r h a i = absurd i
none_less d (c ∷ xs) r h a (inl is) = let k : d ≤ c.tg = leb-true d c.tg h in let tg : a.tg ≡ c.tg = ap (λ (s : Sender). s.tg) is in omega arith
none_less d (c ∷ xs) r h a (inr i) = let k : d ≤ c.tg = leb-true d c.tg h in let w : c.tg < a.tg = behind_rises (λ s. s.tg) c xs a r.0 i in omega arith

or_second : (gap d : ℕ) (b : Sender) → (gap < b.tg → gap + 2 * d < b.tg) → (nat_le b.tg gap || is_apart d gap b.tg) ≡ true
or_second gap d b h = elim (cases_lt gap b.tg) [
  | inl less ↦ or_right (nat_le b.tg gap) (is_apart d gap b.tg) (lt-ltb (gap + 2 * d) b.tg (h less))
  | inr more ↦ ap (λ v. v || is_apart d gap b.tg) (le-leb b.tg gap more)
]
  where
    or_right : (a b : Bool) → b ≡ true → (a || b) ≡ true
    or_right true b p = refl
    or_right false b p = p

pub neighbours_tell_bearing : NeighboursTellBearing
neighbours_tell_bearing table d valid mode =
    in_aperiodic table d mode
    ∙ ap (λ v. (length table.senders == 1) || v)
    (same_bools (list_all (leaves_room d table.sg table.senders) table.senders) (neighbours_leave_room d table.sg (turn_order table))
    (λ all.
    let left : (a : Sender) → In a table.senders → LeavesRoom d table.sg table.senders a = λ a i. room_left d table.sg table.senders a (pass_in (leaves_room d table.sg table.senders) table.senders a all i) in
    and_from (no_less d (turn_order table)) (stand_apart d (map (λ (s : Sender). s.tg) (turn_order table) ++ table.sg ∷ []))
    (first_least (turn_order table) (λ a i. (left a (in_table a i)).least))
    (to_neighbours d table.sg table.senders (turn_order table) rises (λ a i. left a (in_table a i)) in_table))
    (λ in_order.
    let both = and_parts (no_less d (turn_order table)) (stand_apart d (map (λ (s : Sender). s.tg) (turn_order table) ++ table.sg ∷ [])) in_order in
    all_of (leaves_room d table.sg table.senders) table.senders (λ a i.
    let there : In a (turn_order table) = in_sort (turn_key table.mode) table.senders a i in
    let f = from_neighbours d table.sg (turn_order table) rises both.1 a there in
    let short : a.tg + 2 * d < table.sg = f.short in
    and_from (nat_le d a.tg) (is_apart d a.tg table.sg && list_all (λ b. nat_le b.tg a.tg || is_apart d a.tg b.tg) table.senders)
    (le-leb d a.tg (none_less d (turn_order table) rises both.0 a there))
    (and_from (is_apart d a.tg table.sg) (list_all (λ b. nat_le b.tg a.tg || is_apart d a.tg b.tg) table.senders) (lt-ltb (a.tg + 2 * d) table.sg short)
    (all_of (λ b. nat_le b.tg a.tg || is_apart d a.tg b.tg) table.senders (λ b j. or_second a.tg d b (f.apart b (in_sort (turn_key table.mode) table.senders b j))))))))
  where
    rises : Rises (λ s. s.tg) (turn_order table)
    rises = subst (λ m. Rises (turn_key m) (turn_order table)) mode (order_rises table (valid_facts table valid))

    in_table : (a : Sender) → In a (turn_order table) → In a table.senders
    in_table a i = from_sort (turn_key table.mode) table.senders a i

    first_least : (xs : List Sender) → ((a : Sender) → In a xs → d ≤ a.tg) → no_less d xs ≡ true
    first_least [] h = refl
    first_least (x ∷ xs) h = le-leb d x.tg (h x (inl refl))
