-- Between which moments the turns of a round start, where each sender counts from a moment of its own that is no later than the earliest by
-- more than `spread`.
use Rattle.std.proofs.Common.{◌≡◌, ℕ, zero, suc, ◌+◌, ◌*◌, ◌≤◌, List, [], ◌∷◌, length, Some, None, inl, inr, arith, sym, refl, ap, ◌∙◌}
use Rattle.std.specs.Prelude.{slice_get}
use Rattle.bus_strings.specs.Members.{In}
use Rattle.bus_strings.specs.Messages.{Message, Entry}
use Rattle.bus_strings.specs.Transmissions.{end_of}
use Rattle.bus_table.specs.Tables.{Sender}
use Rattle.bus_schedule.specs.Closed.{sends}
use Rattle.bus_medium.specs.Delays.{Delays, heard_end}
use Rattle.bus_reach.specs.Schedule.{cable_turns, cable_heard, cable_origin}
use Rattle.bus_schedule.proofs.Places.{IsRound, more_turns}
use Rattle.bus_schedule.proofs.Spacing.{cycle, lead, LeadsMore, lead_more, lengths}

length_turns : (delay : Delays) (messages : ℕ → List Message) (round : ℕ) (order : List Sender) (from : ℕ → ℕ) → length (cable_turns delay messages round order from) ≡ length order
length_turns delay messages round [] from = refl
length_turns delay messages round (a ∷ order) from = ap suc (length_turns delay messages round order (heard_end delay (sends messages round a (from a.number + a.tg))))

turns_at : (delay : Delays) (messages : ℕ → List Message) (round : ℕ) (order : List Sender) (from : ℕ → ℕ) (turn : ℕ) (sender : Sender) → slice_get order turn ≡ Some sender
    → (moment : ℕ) × (slice_get (cable_turns delay messages round order from) turn ≡ Some (sends messages round sender moment))
turns_at delay messages round [] from turn sender h = absurd (let k : None ≡ Some sender = h in cc)
turns_at delay messages round (a ∷ order) from zero sender h = let e : a ≡ sender = let k : Some a ≡ Some sender = h in cc in (from a.number + a.tg, ap (λ s. Some (sends messages round s (from a.number + a.tg))) e)
turns_at delay messages round (a ∷ order) from (suc turn) sender h = turns_at delay messages round order (heard_end delay (sends messages round a (from a.number + a.tg))) turn sender h

pub turns_are_round : (delay : Delays) (messages : ℕ → List Message) (round : ℕ) (order : List Sender) (from : ℕ → ℕ) → IsRound messages round order (cable_turns delay messages round order from)
turns_are_round delay messages round order from = record { whole = length_turns delay messages round order from; turn = λ place sender at. turns_at delay messages round order from place sender at }

-- these senders count from no earlier moment than lo, and from none that is later by more than the spread
pub record IsNear (senders : List Sender) (spread : ℕ) (from : ℕ → ℕ) (lo : ℕ) : Type 0 where
  pub low : (b : Sender) → In b senders → lo ≤ from b.number
  pub high : (b : Sender) → In b senders → from b.number ≤ lo + spread

-- a round's last end, where messages have so many bit times
pub record IsLast (senders : List Sender) (spread : ℕ) (from : ℕ → ℕ) (lo whole count : ℕ) : Type 0 where
  pub last : ℕ
  pub near : IsNear senders spread from last
  pub low : lo + whole ≤ last
  pub high : last ≤ lo + whole + count * spread

-- a turn is its sender's; it starts where the ones before it lead, and those behind it follow
pub record IsTurn (senders : List Sender) (spread : ℕ) (w : Sender → ℕ) (order : List Sender) (heard : ℕ → ℕ) (lo turn : ℕ) (x : Entry) : Type 0 where
  pub sender : Sender
  pub at : slice_get order turn ≡ Some sender
  pub terminal : x.terminal ≡ sender.number
  pub low : lo + lead w order turn ≤ x.moment
  pub high : x.moment ≤ lo + lead w order turn + suc turn * spread
  pub last : ℕ
  pub near : IsNear senders spread heard last
  pub last_low : x.moment + cycle w order ≤ last + lead w order turn
  pub last_high : last + lead w order turn + suc turn * spread ≤ x.moment + cycle w order + length order * spread

one_more : (n k : ℕ) → suc n * k ≡ n * k + k
one_more n k = more_turns n k

module _ (senders : List Sender) (spread : ℕ) (delay : Delays) (messages : ℕ → List Message)
    (lag : (a b : Sender) (x : Entry) → In a senders → In b senders → x.terminal ≡ a.number → delay x b.number ≤ spread) where
  behind : (a : Sender) (x : Entry) → In a senders → x.terminal ≡ a.number → IsNear senders spread (heard_end delay x) (end_of x)
  behind a x i own = record { low = λ b j. omega arith; high = λ b j. omega (arith, lag a b x i j own) }

  last_of : (round : ℕ) (order : List Sender) (from : ℕ → ℕ) (lo : ℕ) → ((a : Sender) → In a order → In a senders) → IsNear senders spread from lo
      → IsLast senders spread (cable_heard delay messages round order from) lo (cycle (lengths messages round) order) (length order)
  last_of round [] from lo within near = record { last = lo; near = near; low = omega arith; high = omega arith }
  last_of round (a ∷ order) from lo within near =
      let there : In a senders = within a (inl refl) in
      let so = last_of round order (heard_end delay (sends messages round a (from a.number + a.tg))) (end_of (sends messages round a (from a.number + a.tg))) (λ b i. within b (inr i))
      (behind a (sends messages round a (from a.number + a.tg)) there refl) in
      let low : lo ≤ from a.number = near.low a there in
      let high : from a.number ≤ lo + spread = near.high a there in
      record {
        last = so.last;
        near = so.near;
        low = omega (arith, so.low);
        high = omega (arith, so.high, one_more (length order) spread);
      }

  turn_of : (round : ℕ) (order : List Sender) (from : ℕ → ℕ) (lo turn : ℕ) (x : Entry) → ((a : Sender) → In a order → In a senders) → IsNear senders spread from lo
      → slice_get (cable_turns delay messages round order from) turn ≡ Some x
      → IsTurn senders spread (lengths messages round) order (cable_heard delay messages round order from) lo turn x
  turn_of round [] from lo turn x within near h = absurd (let k : None ≡ Some x = h in cc)
  turn_of round (a ∷ order) from lo zero x within near h =
      let there : In a senders = within a (inl refl) in
      let e : sends messages round a (from a.number + a.tg) ≡ x = let k : Some (sends messages round a (from a.number + a.tg)) ≡ Some x = h in cc in
      let so = last_of round order (heard_end delay (sends messages round a (from a.number + a.tg))) (end_of (sends messages round a (from a.number + a.tg))) (λ b i. within b (inr i))
      (behind a (sends messages round a (from a.number + a.tg)) there refl) in
      let low : lo ≤ from a.number = near.low a there in
      let high : from a.number ≤ lo + spread = near.high a there in
      let moment : from a.number + a.tg ≡ x.moment = ap (λ (z : Entry). z.moment) e in
      record {
        sender = a;
        at = refl;
        terminal = sym (ap (λ (z : Entry). z.terminal) e);
        low = omega arith;
        high = omega (arith, one_more 0 spread);
        last = so.last;
        near = so.near;
        last_low = omega (arith, so.low);
        last_high = omega (arith, so.high, one_more (length order) spread, one_more 0 spread);
      }
  turn_of round (a ∷ order) from lo (suc turn) x within near h =
      let there : In a senders = within a (inl refl) in
      let so = turn_of round order (heard_end delay (sends messages round a (from a.number + a.tg))) (end_of (sends messages round a (from a.number + a.tg))) turn x (λ b i. within b (inr i))
      (behind a (sends messages round a (from a.number + a.tg)) there refl) h in
      let low : lo ≤ from a.number = near.low a there in
      let high : from a.number ≤ lo + spread = near.high a there in
      record {
        sender = so.sender;
        at = so.at;
        terminal = so.terminal;
        low = omega (arith, so.low);
        high = omega (arith, so.high, one_more (suc turn) spread);
        last = so.last;
        near = so.near;
        last_low = omega (arith, so.last_low);
        last_high = omega (arith, so.last_high, one_more (length order) spread, one_more (suc turn) spread);
      }

  -- each round has such a moment
  origin_near : (wake : ℕ → ℕ) (base sg : ℕ) (order : List Sender) (round : ℕ) → ((a : Sender) → In a order → In a senders) → IsNear senders spread wake base
      → (lo : ℕ) × IsNear senders spread (cable_origin delay wake messages sg order round) lo
  origin_near wake base sg order zero within near = (base, near)
  origin_near wake base sg order (suc round) within near =
      let before = origin_near wake base sg order round within near in
      let so = last_of round order (cable_origin delay wake messages sg order round) before.0 within before.1 in
      (so.last + sg, record { low = λ b i. omega (arith, so.near.low b i); high = λ b i. omega (arith, so.near.high b i) })

  -- a turn, and the same turn of the next round
  pub turns_apart : (wake : ℕ → ℕ) (base sg : ℕ) (order : List Sender) (round turn : ℕ) (short long : Sender → ℕ) (x y : Entry) → ((a : Sender) → In a order → In a senders)
      → IsNear senders spread wake base
      → ((a : Sender) → In a order → (short a ≤ lengths messages round a) × (lengths messages round a ≤ long a))
      → ((a : Sender) → In a order → (short a ≤ lengths messages (suc round) a) × (lengths messages (suc round) a ≤ long a))
      → slice_get (cable_turns delay messages round order (cable_origin delay wake messages sg order round)) turn ≡ Some x
      → slice_get (cable_turns delay messages (suc round) order (cable_origin delay wake messages sg order (suc round))) turn ≡ Some y
      → (x.terminal ≡ y.terminal) × (x.moment + (sg + cycle short order) ≤ y.moment) × (y.moment ≤ x.moment + (sg + cycle long order + length order * spread))
  turns_apart wake base sg order round turn short long x y within near this next at_x at_y =
      let before = origin_near wake base sg order round within near in
      let t = turn_of round order (cable_origin delay wake messages sg order round) before.0 turn x within before.1 at_x in
      let later : IsNear senders spread (cable_origin delay wake messages sg order (suc round)) (t.last + sg) =
      record { low = λ b i. omega (arith, t.near.low b i); high = λ b i. omega (arith, t.near.high b i) } in
      let u = turn_of (suc round) order (cable_origin delay wake messages sg order (suc round)) (t.last + sg) turn y within later at_y in
      let same : t.sender ≡ u.sender = let k : Some t.sender ≡ Some u.sender = sym t.at ∙ u.at in cc in
      let a : LeadsMore short (lengths messages round) order turn = lead_more short (lengths messages round) order turn (λ s i. (this s i).0) in
      let b : LeadsMore (lengths messages round) long order turn = lead_more (lengths messages round) long order turn (λ s i. (this s i).1) in
      let c : LeadsMore short (lengths messages (suc round)) order turn = lead_more short (lengths messages (suc round)) order turn (λ s i. (next s i).0) in
      let d : LeadsMore (lengths messages (suc round)) long order turn = lead_more (lengths messages (suc round)) long order turn (λ s i. (next s i).1) in (
        t.terminal ∙ ap (λ (s : Sender). s.number) same ∙ sym u.terminal,
        least x.moment y.moment t.last sg (cycle short order) (cycle (lengths messages round) order) (lead short order turn) (lead (lengths messages round) order turn) (lead (lengths messages (suc round)) order turn)
            t.last_low u.low a.behind c.ahead,
        most x.moment y.moment t.last sg (cycle long order) (cycle (lengths messages round) order) (lead long order turn) (lead (lengths messages round) order turn) (lead (lengths messages (suc round)) order turn)
            (suc turn * spread) (length order * spread) t.last_high u.high b.behind d.ahead,
      )
    where
      least : (m p last sg short this ls lt ln : ℕ) → m + this ≤ last + lt → last + sg + ln ≤ p → short + lt ≤ this + ls → ls ≤ ln → m + (sg + short) ≤ p
      least m p last sg short this ls lt ln h k a c = omega arith

      most : (m p last sg long this ll lt ln some all : ℕ) → last + lt + some ≤ m + this + all → p ≤ last + sg + ln + some → this + ll ≤ long + lt → ln ≤ ll → p ≤ m + (sg + long + all)
      most m p last sg long this ll lt ln some all h k b d = omega arith
