-- What is in rounds is the beginning of the closed schedule, of the messages that are left.
use Rattle.std.proofs.Common.{◌≡◌, ◌≢◌, ℕ, zero, suc, ◌+◌, ◌*◌, ◌<◌, ◌≤◌, ◌⊎◌, ◌-◌, List, [], ◌∷◌, ◌++◌, length, drop, get_or, Some, None, inl, inr, arith, sym, refl, ap, ◌∙◌, subst}
use Rattle.std.specs.Prelude.{slice_get}
use Rattle.std.proofs.lemmas.Bool.{cases_lt, cases_eq}
use Rattle.std.proofs.lemmas.List.{append-nil, append_assoc, get_or-drop, length_push}
use Rattle.bus_strings.specs.Members.{In}
use Rattle.bus_strings.specs.Messages.{Message, Entry, bits}
use Rattle.bus_strings.specs.Transmissions.{end_of}
use Rattle.bus_table.specs.Tables.{Sender}
use Rattle.bus_table.specs.inside.Orders.{Rises}
use Rattle.bus_table.proofs.TurnLaws.{behind_rises}
use Rattle.bus_medium.specs.Past.{own}
use Rattle.bus_medium.proofs.PastLaws.{own_later, own_more}
use Rattle.bus_schedule.specs.Closed.{sends, turns, turns_end}
use Rattle.bus_reach.specs.Settling.{round_from, rounds_from, Begins}
use Rattle.bus_schedule.proofs.Places.{more_turns}
use Rattle.bus_reach.proofs.Minding.{Bus, sent, alone, same_number}
use Rattle.bus_reach.proofs.Cycling.{Left, Turn, there, first, idle, only, here, at, lone, left_then, next_turn, next_round}

-- so many transmissions of the rounds, one after the other
module _ (sg : ℕ) (head : Sender) (others : List Sender) (messages : ℕ → List Message) where
  abbrev pub stream : ℕ → ℕ → Sender → List Sender → ℕ → List Entry
  stream zero r a rest from = []
  stream (suc k) r a [] from = sends messages r a (from + a.tg) ∷ stream k (suc r) head others (end_of (sends messages r a (from + a.tg)) + sg)
  stream (suc k) r a (b ∷ rest) from = sends messages r a (from + a.tg) ∷ stream k r b rest (end_of (sends messages r a (from + a.tg)))

  round_then : (rest : List Sender) (a : Sender) (r from k : ℕ)
      → turns messages r (a ∷ rest) from ++ stream k (suc r) head others (turns_end messages r (a ∷ rest) from + sg) ≡ stream (suc (length rest + k)) r a rest from
  round_then [] a r from k = ap (λ j. stream (suc j) r a [] from) (let e : k ≡ 0 + k = omega arith in e)
  round_then (b ∷ rest) a r from k =
      ap (λ l. sends messages r a (from + a.tg) ∷ l) (round_then rest b r (end_of (sends messages r a (from + a.tg))) k)
      ∙ ap (λ j. stream (suc j) r a (b ∷ rest) from) (let e : suc (length rest + k) ≡ suc (length rest) + k = omega arith in e)

  rounds_then : (start n k : ℕ)
      → rounds_from messages sg (head ∷ others) start n ++ stream k n head others (round_from messages sg (head ∷ others) start n)
      ≡ stream (n * suc (length others) + k) 0 head others start
  rounds_then start zero k = ap (λ j. stream j 0 head others start) (let e : k ≡ 0 * suc (length others) + k = omega arith in e)
  rounds_then start (suc n) k =
      append_assoc (rounds_from messages sg (head ∷ others) start n) (turns messages n (head ∷ others) (round_from messages sg (head ∷ others) start n))
      (stream k (suc n) head others (round_from messages sg (head ∷ others) start (suc n)))
      ∙ ap (λ l. rounds_from messages sg (head ∷ others) start n ++ l) (round_then others head n (round_from messages sg (head ∷ others) start n) k)
      ∙ rounds_then start n (suc (length others + k))
      ∙ ap (λ j. stream j 0 head others start) (let e : n * suc (length others) + suc (length others + k) ≡ suc n * suc (length others) + k = omega (arith, more_turns n (suc (length others))) in e)

  rounds_stream : (start n : ℕ) → rounds_from messages sg (head ∷ others) start n ≡ stream (n * suc (length others)) 0 head others start
  rounds_stream start n =
      sym (append-nil (rounds_from messages sg (head ∷ others) start n)) ∙ rounds_then start n 0
      ∙ ap (λ j. stream j 0 head others start) (let e : n * suc (length others) + 0 ≡ n * suc (length others) = omega arith in e)

  split : (k j r : ℕ) (a : Sender) (rest : List Sender) (from : ℕ) → (more : List Entry) × (stream (k + j) r a rest from ≡ stream k r a rest from ++ more)
  split zero j r a rest from = (stream j r a rest from, ap (λ i. stream i r a rest from) (let e : 0 + j ≡ j = omega arith in e))
  split (suc k) j r a [] from =
      let so = split k j (suc r) head others (end_of (sends messages r a (from + a.tg)) + sg) in
      (so.0, ap (λ i. stream i r a [] from) (let e : suc k + j ≡ suc (k + j) = omega arith in e) ∙ ap (λ l. sends messages r a (from + a.tg) ∷ l) so.1)
  split (suc k) j r a (b ∷ rest) from =
      let so = split k j r b rest (end_of (sends messages r a (from + a.tg))) in
      (so.0, ap (λ i. stream i r a (b ∷ rest) from) (let e : suc k + j ≡ suc (k + j) = omega arith in e) ∙ ap (λ l. sends messages r a (from + a.tg) ∷ l) so.1)

  pub begins : (ys : List Entry) (start n : ℕ) → ys ≡ stream (length ys) 0 head others start → length ys ≤ n * suc (length others)
      → Begins ys (rounds_from messages sg (head ∷ others) start n)
  begins ys start n is enough =
      let j : ℕ = n * suc (length others) - length ys in
      let so = split (length ys) (n * suc (length others) - length ys) 0 head others start in (
        so.0,
        rounds_stream start n
            ∙ ap (λ i. stream i 0 head others start) (let e : n * suc (length others) ≡ length ys + (n * suc (length others) - length ys) = omega arith in e)
            ∙ so.1 ∙ ap (λ l. l ++ so.0) (sym is),
      )

-- the message at a place of a hand
got : (hand : List Message) (k : ℕ) (m : Message) → slice_get hand k ≡ Some m → get_or hand k [] ≡ m
got [] k m h = absurd (let w : None ≡ Some m = h in cc)
got (x ∷ hand) zero m h = let w : Some x ≡ Some m = h in cc
got (x ∷ hand) (suc k) m h = got hand k m h

-- how many messages each sender has sent: so many in each round since
pub record Counted (s : Bus) (c : ℕ → ℕ) (v r : ℕ) (a : Sender) (rest : List Sender) : Type 0 where
  pub due : (b : Sender) → In b (a ∷ rest) → length (own s.list b.number v) ≡ c b.number + r
  pub done : (b : Sender) → In b s.table.senders → In b (a ∷ rest) ⊎ (length (own s.list b.number v) ≡ c b.number + suc r)

module _ (s : Bus) (c : ℕ → ℕ) where
  abbrev left_of : ℕ → List Message
  left_of number = drop (c number) (s.hands number)

  module _ (v from : ℕ) (a : Sender) (rest : List Sender) (so : Turn s v from a rest) (x : Entry) (ys : List Entry) (left : Left s v (x ∷ ys)) (r : ℕ)
      (counted : Counted s c v r a rest) where
    abbrev in_list : In x s.list
    in_list = there s v from a rest so x ys left

    is_a : (sent s x in_list).by ≡ a
    is_a = (only s v from a rest so x ys left (sent s x in_list).by (sent s x in_list).there (here s v from a rest so x ys left)).0

    before : own s.list a.number x.moment ≡ own s.list a.number v
    before = own_later s.list a.number v x.moment (first s v from a rest so x ys left) (λ y i mine low high.
        let k : x.moment ≤ y.moment = idle s v from a rest so x ys left y i low in omega arith)

    has_message : x.message ≡ get_or (drop (c a.number) (s.hands a.number)) r []
    has_message =
        let slice : slice_get (s.hands a.number) (length (own s.list a.number x.moment)) ≡ Some x.message =
        subst (λ (b : Sender). slice_get (s.hands b.number) (length (own s.list b.number x.moment)) ≡ Some x.message) is_a (sent s x in_list).slice in
        let place : length (own s.list a.number x.moment) ≡ c a.number + r = ap length before ∙ counted.due a (inl refl) in
        sym (got (s.hands a.number) (c a.number + r) x.message (subst (λ n. slice_get (s.hands a.number) n ≡ Some x.message) place slice))
        ∙ sym (get_or-drop (c a.number) (s.hands a.number) r [])

    pub is_sent : x ≡ sends (λ number. drop (c number) (s.hands number)) r a (from + a.tg)
    is_sent =
        let is = at s v from a rest so x ys left in
        let mk : ℕ → ℕ → Message → Entry = λ m t w. record { moment = m; terminal = t; message = w } in
        ap (λ m. mk m x.terminal x.message) is.1 ∙ ap (λ t. mk (from + a.tg) t x.message) is.0 ∙ ap (λ w. mk (from + a.tg) a.number w) has_message

    one_more : length (own s.list a.number (end_of x)) ≡ length (own s.list a.number v) + 1
    one_more =
        let bit : 0 < bits x.message = (sent s x in_list).bit in
        let more : own s.list a.number (x.moment + 1) ≡ own s.list a.number x.moment ++ x ∷ [] =
        subst (λ n. own s.list n (x.moment + 1) ≡ own s.list n x.moment ++ x ∷ []) (at s v from a rest so x ys left).0 (own_more s.list x s.law.ordered in_list) in
        let same : own s.list a.number (end_of x) ≡ own s.list a.number (x.moment + 1) = own_later s.list a.number (x.moment + 1) (end_of x) (omega arith) (λ y i mine low high.
        let k : end_of x ≤ y.moment = alone s x in_list y i (omega arith) in omega arith) in
        ap length (same ∙ more) ∙ length_push (own s.list a.number x.moment) x ∙ ap (λ l. length l + 1) before

    no_more : (b : Sender) → b.number ≢ a.number → length (own s.list b.number (end_of x)) ≡ length (own s.list b.number v)
    no_more b other = ap length (own_later s.list b.number v (end_of x) (let k : v ≤ x.moment = first s v from a rest so x ys left in omega arith) (λ y i mine low high.
        let k : x.moment ≤ y.moment = idle s v from a rest so x ys left y i low in
        elim (cases_lt x.moment y.moment) [
          | inl later ↦ (let w : end_of x ≤ y.moment = alone s x in_list y i later in omega arith)
          | inr same ↦
              other (sym mine ∙ ap (λ (w : Entry). w.terminal) (lone s v from a rest so x ys left y i (omega arith)) ∙ (at s v from a rest so x ys left).0)
        ]))

    apart : (b : Sender) → In b rest → b.number ≢ a.number
    apart b j e =
        let more : a.tg < b.tg = behind_rises (λ z. z.tg) a rest b so.rises.0 j in
        let same : b.tg ≡ a.tg = ap (λ (z : Sender). z.tg) (same_number s b a (so.counts b (inr j)).0 (so.counts a (inl refl)).0 e) in
        omega arith

    -- who has spoken in this round
    spoken : (b : Sender) → In b s.table.senders → In b rest ⊎ (length (own s.list b.number (end_of x)) ≡ c b.number + suc r)
    spoken b i = elim (cases_eq b.number a.number) [
      | inl e ↦
          let mine : length (own s.list a.number v) ≡ c a.number + r = counted.due a (inl refl) in
          let now : length (own s.list a.number (end_of x)) ≡ c a.number + suc r = omega (arith, one_more) in
          inr (subst (λ n. length (own s.list n (end_of x)) ≡ c n + suc r) (sym e) now)
      | inr other ↦ elim (counted.done b i) [
        | inr was ↦ inr (no_more b other ∙ was)
        | inl j ↦ elim j [
          | inl same ↦ absurd (other (ap (λ (z : Sender). z.number) same))
          | inr k ↦ inl k
        ]
      ]
    ]

    pub counted_turn : (b : Sender) (more : List Sender) → rest ≡ b ∷ more → Counted s c (end_of x) r b more
    counted_turn b more is = record {
      due = λ d j. (let k : In d rest = subst (In d) (sym is) j in no_more d (apart d k) ∙ counted.due d (inr k));
      done = λ d i. elim (spoken d i) [ inl k ↦ inl (subst (In d) is k) | inr was ↦ inr was ];
    }

    pub counted_round : (b : Sender) (more : List Sender) → rest ≡ [] → ((d : Sender) → In d (b ∷ more) → In d s.table.senders)
        → ((d : Sender) → In d s.table.senders → In d (b ∷ more)) → Counted s c (end_of x) (suc r) b more
    counted_round b more is from_order to_order = record {
      due = λ d j. elim (spoken d (from_order d j)) [ inl k ↦ absurd (subst (In d) is k) | inr was ↦ was ];
      done = λ d i. inl (to_order d i);
    }

module _ (s : Bus) (c : ℕ → ℕ) (b : Sender) (more : List Sender) (rises : Rises (λ z. z.tg) (b ∷ more)) (from_order : (d : Sender) → In d (b ∷ more) → In d s.table.senders)
    (to_order : (d : Sender) → In d s.table.senders → In d (b ∷ more)) where
  pub in_stream : (ys : List Entry) (v from : ℕ) (a : Sender) (rest : List Sender) (r : ℕ) → Turn s v from a rest → Left s v ys → Counted s c v r a rest
      → ys ≡ stream s.table.sg b more (λ number. drop (c number) (s.hands number)) (length ys) r a rest from
  in_stream [] v from a rest r so left counted = refl
  in_stream (x ∷ ys) v from a [] r so left counted =
      let is = is_sent s c v from a [] so x ys left r counted in
      ap (λ l. x ∷ l) (in_stream ys (end_of x) (end_of x + s.table.sg) b more (suc r) (next_round s v from a [] so x ys left b more refl rises from_order to_order)
      (left_then s v from a [] so x ys left) (counted_round s c v from a [] so x ys left r counted b more refl from_order to_order))
      ∙ ap (λ z. z ∷ stream s.table.sg b more (λ number. drop (c number) (s.hands number)) (length ys) (suc r) b more (end_of z + s.table.sg)) is
  in_stream (x ∷ ys) v from a (d ∷ rest) r so left counted =
      let is = is_sent s c v from a (d ∷ rest) so x ys left r counted in
      ap (λ l. x ∷ l) (in_stream ys (end_of x) (end_of x) d rest r (next_turn s v from a (d ∷ rest) so x ys left d rest refl)
      (left_then s v from a (d ∷ rest) so x ys left) (counted_turn s c v from a (d ∷ rest) so x ys left r counted d rest refl))
      ∙ ap (λ z. z ∷ stream s.table.sg b more (λ number. drop (c number) (s.hands number)) (length ys) r d rest (end_of z)) is
