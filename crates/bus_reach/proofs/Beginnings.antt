-- How a closed schedule on a cable begins: with a round, and then what begins no earlier than the first turn of the next.
use Rattle.std.proofs.Common.{◌≡◌, ℕ, zero, suc, ◌+◌, ◌<◌, ◌≤◌, List, [], ◌∷◌, ◌++◌, inl, inr, arith, sym, refl, ap, ◌∙◌, subst}
use Rattle.std.proofs.lemmas.Bool.{cases_lt}
use Rattle.std.proofs.lemmas.List.{append-nil, append_assoc}
use Rattle.bus_strings.specs.Members.{In}
use Rattle.bus_strings.proofs.MemberLaws.{in_append_cases, in_append_left, in_append_right}
use Rattle.bus_strings.specs.Messages.{Message, Entry}
use Rattle.bus_table.specs.Tables.{Sender}
use Rattle.bus_schedule.specs.Closed.{sends, in_rounds}
use Rattle.bus_medium.specs.Delays.{Delays, heard_end}
use Rattle.bus_reach.specs.Schedule.{cable_turns, cable_heard, cable_origin}

-- how the list begins: a round, and then what begins no earlier than the first turn of the next
module _ (delay : Delays) (wake : ℕ → ℕ) (messages : ℕ → List Message) (sg : ℕ) where
  pub turns_low : (round : ℕ) (order : List Sender) (from : ℕ → ℕ) (lo : ℕ) → ((k : ℕ) → lo ≤ from k) → (y : Entry) → In y (cable_turns delay messages round order from) → lo ≤ y.moment
  turns_low round [] from lo h y i = absurd i
  turns_low round (a ∷ order) from lo h y (inl same) =
      let k : lo ≤ from a.number = h a.number in
      let e : y.moment ≡ from a.number + a.tg = ap (λ (z : Entry). z.moment) same in
      omega arith
  turns_low round (a ∷ order) from lo h y (inr i) =
      let k : lo ≤ from a.number = h a.number in
      turns_low round order (heard_end delay (sends messages round a (from a.number + a.tg))) lo (λ m. omega arith) y i

  pub heard_low : (round : ℕ) (order : List Sender) (from : ℕ → ℕ) (lo : ℕ) → ((k : ℕ) → lo ≤ from k) → (k : ℕ) → lo ≤ cable_heard delay messages round order from k
  heard_low round [] from lo h k = h k
  heard_low round (a ∷ order) from lo h k =
      let l : lo ≤ from a.number = h a.number in
      heard_low round order (heard_end delay (sends messages round a (from a.number + a.tg))) lo (λ m. omega arith) k

  -- nothing of a round is sent before its first turn
  pub turns_first : (round : ℕ) (a : Sender) (order : List Sender) (from : ℕ → ℕ) (y : Entry) → In y (cable_turns delay messages round (a ∷ order) from) → from a.number + a.tg ≤ y.moment
  turns_first round a order from y (inl same) = let e : y.moment ≡ from a.number + a.tg = ap (λ (z : Entry). z.moment) same in omega arith
  turns_first round a order from y (inr i) =
      turns_low round order (heard_end delay (sends messages round a (from a.number + a.tg))) (from a.number + a.tg) (λ m. omega arith) y i

  pub heard_first : (round : ℕ) (a : Sender) (order : List Sender) (from : ℕ → ℕ) (k : ℕ) → from a.number + a.tg ≤ cable_heard delay messages round (a ∷ order) from k
  heard_first round a order from k =
      heard_low round order (heard_end delay (sends messages round a (from a.number + a.tg))) (from a.number + a.tg) (λ m. omega arith) k

  later_origin : (a : Sender) (order : List Sender) (r : ℕ) → cable_origin delay wake messages sg (a ∷ order) 1 a.number + a.tg ≤ cable_origin delay wake messages sg (a ∷ order) (suc r) a.number + a.tg
  later_origin a order zero = omega arith
  later_origin a order (suc r) =
      let so = later_origin a order r in
      let more = heard_first (suc r) a order (cable_origin delay wake messages sg (a ∷ order) (suc r)) a.number in
      omega (arith, so, more)

  pub record HasTail (order : List Sender) (least n : ℕ) : Type 0 where
    pub tail : List Entry
    pub is : in_rounds (λ round. cable_turns delay messages round order (cable_origin delay wake messages sg order round)) n ≡ cable_turns delay messages 0 order wake ++ tail
    pub low : (y : Entry) → In y tail → least ≤ y.moment

  pub has_tail : (a : Sender) (order : List Sender) (n : ℕ) → HasTail (a ∷ order) (cable_origin delay wake messages sg (a ∷ order) 1 a.number + a.tg) (suc n)
  has_tail a order zero = record { tail = []; is = sym (append-nil (cable_turns delay messages 0 (a ∷ order) wake)); low = λ y i. absurd i }
  has_tail a order (suc n) =
      let so = has_tail a order n in
      let round : List Entry = cable_turns delay messages (suc n) (a ∷ order) (cable_origin delay wake messages sg (a ∷ order) (suc n)) in
      record {
        tail = so.tail ++ round;
        is = ap (λ l. l ++ round) so.is ∙ append_assoc (cable_turns delay messages 0 (a ∷ order) wake) so.tail round;
        low = λ y i. elim (in_append_cases so.tail round y i) [
          | inl old ↦ so.low y old
          | inr now ↦ omega (arith, later_origin a order n, turns_first (suc n) a order (cable_origin delay wake messages sg (a ∷ order) (suc n)) y now)
        ];
      }

  pub turns_append : (round : ℕ) (xs ys : List Sender) (from : ℕ → ℕ) → cable_turns delay messages round (xs ++ ys) from ≡ cable_turns delay messages round xs from ++ cable_turns delay messages round ys (cable_heard delay messages round xs from)
  turns_append round [] ys from = refl
  turns_append round (a ∷ xs) ys from =
      ap (λ l. sends messages round a (from a.number + a.tg) ∷ l) (turns_append round xs ys (heard_end delay (sends messages round a (from a.number + a.tg))))

  pub heard_append_turns : (round : ℕ) (xs ys : List Sender) (from : ℕ → ℕ) (k : ℕ) → cable_heard delay messages round (xs ++ ys) from k ≡ cable_heard delay messages round ys (cable_heard delay messages round xs from) k
  heard_append_turns round [] ys from k = refl
  heard_append_turns round (a ∷ xs) ys from k = heard_append_turns round xs ys (heard_end delay (sends messages round a (from a.number + a.tg))) k

  -- each of these turns is of a sender of the order
  pub turn_terminal : (round : ℕ) (order : List Sender) (from : ℕ → ℕ) (y : Entry) → In y (cable_turns delay messages round order from) → (a : Sender) × In a order × (y.terminal ≡ a.number)
  turn_terminal round [] from y i = absurd i
  turn_terminal round (a ∷ order) from y (inl same) = (a, inl refl, ap (λ (z : Entry). z.terminal) same)
  turn_terminal round (a ∷ order) from y (inr i) = let so = turn_terminal round order (heard_end delay (sends messages round a (from a.number + a.tg))) y i in (so.0, inr so.1, so.2)

  -- behind a round nothing is sent before all have heard it
  pub record IsLate (order : List Sender) (least n : ℕ) : Type 0 where
    pub tail : List Entry
    pub is : in_rounds (λ round. cable_turns delay messages round order (cable_origin delay wake messages sg order round)) n ≡ cable_turns delay messages 0 order wake ++ tail
    pub low : (y : Entry) → In y tail → least ≤ y.moment

  origin_late : (order : List Sender) (least r : ℕ) → ((k : ℕ) → least ≤ cable_heard delay messages 0 order wake k) → (k : ℕ) → least ≤ cable_origin delay wake messages sg order (suc r) k
  origin_late order least zero h k = let w : least ≤ cable_heard delay messages 0 order wake k = h k in omega arith
  origin_late order least (suc r) h k =
      let w = heard_low (suc r) order (cable_origin delay wake messages sg order (suc r)) least (origin_late order least r h) k in
      omega (arith, w)

  pub is_late : (order : List Sender) (least n : ℕ) → ((k : ℕ) → least ≤ cable_heard delay messages 0 order wake k) → IsLate order least (suc n)
  is_late order least zero h = record { tail = []; is = sym (append-nil (cable_turns delay messages 0 order wake)); low = λ y i. absurd i }
  is_late order least (suc n) h =
      let so = is_late order least n h in
      let round : List Entry = cable_turns delay messages (suc n) order (cable_origin delay wake messages sg order (suc n)) in
      record {
        tail = so.tail ++ round;
        is = ap (λ l. l ++ round) so.is ∙ append_assoc (cable_turns delay messages 0 order wake) so.tail round;
        low = λ y i. elim (in_append_cases so.tail round y i) [
          | inl old ↦ so.low y old
          | inr now ↦ turns_low (suc n) order (cable_origin delay wake messages sg order (suc n)) least (origin_late order least n h) y now
        ];
      }

  -- each round is there
  pub in_round : (order : List Sender) (n r : ℕ) (y : Entry) → r < n → In y (cable_turns delay messages r order (cable_origin delay wake messages sg order r))
      → In y (in_rounds (λ round. cable_turns delay messages round order (cable_origin delay wake messages sg order round)) n)
  in_round order zero r y less i = absurd (omega arith)
  in_round order (suc n) r y less i =
      elim (cases_lt r n) [
        | inl before ↦ in_append_left (in_rounds (λ round. cable_turns delay messages round order (cable_origin delay wake messages sg order round)) n) (cable_turns delay messages n order (cable_origin delay wake messages sg order n)) y
            (in_round order n r y before i)
        | inr now ↦
            let same : r ≡ n = omega arith in
            in_append_right (in_rounds (λ round. cable_turns delay messages round order (cable_origin delay wake messages sg order round)) n) (cable_turns delay messages n order (cable_origin delay wake messages sg order n)) y
            (subst (λ m. In y (cable_turns delay messages m order (cable_origin delay wake messages sg order m))) same i)
      ]
