-- How far apart successive starts of one sender are.
use Rattle.std.proofs.Common.{◌≡◌, ℕ, zero, suc, ◌+◌, ◌≤◌, Bool, true, false, cond, List, [], ◌∷◌, get_or, Some, None, inl, inr, arith, sym, refl, ap, ◌∙◌}
use Rattle.std.specs.Prelude.{nat_lt, slice_get}
use Rattle.std.specs.List.{filter, sum_by}
use Rattle.std.proofs.lemmas.List.Sums.{sum_by-cons}
use Rattle.bus_strings.specs.Members.{In}
use Rattle.bus_strings.specs.Messages.{Message, Entry, bits}
use Rattle.bus_strings.specs.Transmissions.{end_of}
use Rattle.bus_table.specs.Tables.{Sender}
use Rattle.bus_table.specs.Turns.{insert, sort}
use Rattle.bus_schedule.specs.Closed.{sends, turns, turns_end}

-- the sum of these senders' terminal gaps and messages of so many bit times
abbrev pub cycle : (Sender → ℕ) → List Sender → ℕ
cycle w [] = 0
cycle w (a ∷ bs) = a.tg + w a + cycle w bs

pub cycle_sum : (w : Sender → ℕ) (senders : List Sender) → sum_by (λ s. s.tg + w s) senders ≡ cycle w senders
cycle_sum w [] = refl
cycle_sum w (a ∷ senders) = sum_by-cons (λ (s : Sender). s.tg + w s) a senders ∙ ap (λ n. a.tg + w a + n) (cycle_sum w senders)

cycle_insert : (w : Sender → ℕ) (key : Sender → ℕ) (a : Sender) (bs : List Sender) → cycle w (insert key a bs) ≡ a.tg + w a + cycle w bs
cycle_insert w key a [] = refl
cycle_insert w key a (c ∷ cs) = elim (nat_lt (key a) (key c)) as (λ b. cycle w (cond b (a ∷ (c ∷ cs)) (c ∷ insert key a cs)) ≡ a.tg + w a + cycle w (c ∷ cs)) [ true ↦ refl | false ↦ omega (arith, cycle_insert w key a cs) ]

pub cycle_sort : (w : Sender → ℕ) (key : Sender → ℕ) (bs : List Sender) → cycle w (sort key bs) ≡ cycle w bs
cycle_sort w key [] = refl
cycle_sort w key (a ∷ bs) = cycle_insert w key a (sort key bs) ∙ omega (arith, cycle_sort w key bs)

-- what a test takes of some senders has no longer a cycle
pub cycle_filter : (w : Sender → ℕ) (p : Sender → Bool) (bs : List Sender) → cycle w (filter p bs) ≤ cycle w bs
cycle_filter w p [] = omega arith
cycle_filter w p (a ∷ bs) =
    elim (p a) as (λ b. cycle w (cond b (a ∷ filter p bs) (filter p bs)) ≤ a.tg + w a + cycle w bs) [
      | true ↦ omega (arith, cycle_filter w p bs)
      | false ↦ omega (arith, cycle_filter w p bs)
    ]

-- the part of a cycle up to the start at this turn
abbrev pub lead : (Sender → ℕ) → List Sender → ℕ → ℕ
lead w [] turn = 0
lead w (a ∷ bs) zero = a.tg
lead w (a ∷ bs) (suc turn) = a.tg + w a + lead w bs turn

-- longer messages lead to later starts, and leave no less behind them
pub record LeadsMore (w v : Sender → ℕ) (order : List Sender) (turn : ℕ) : Type 0 where
  pub ahead : lead w order turn ≤ lead v order turn
  pub behind : cycle w order + lead v order turn ≤ cycle v order + lead w order turn
  pub whole : cycle w order ≤ cycle v order

pub lead_more : (w v : Sender → ℕ) (order : List Sender) (turn : ℕ) → ((a : Sender) → In a order → w a ≤ v a) → LeadsMore w v order turn
lead_more w v [] turn h = record { ahead = omega arith; behind = omega arith; whole = omega arith }
lead_more w v (a ∷ bs) zero h =
    let k : w a ≤ v a = h a (inl refl) in
    let r : LeadsMore w v bs 0 = lead_more w v bs 0 (λ b i. h b (inr i)) in
    record { ahead = omega arith; behind = omega arith; whole = omega arith }
lead_more w v (a ∷ bs) (suc turn) h =
    let k : w a ≤ v a = h a (inl refl) in
    let r : LeadsMore w v bs turn = lead_more w v bs turn (λ b i. h b (inr i)) in
    record { ahead = omega arith; behind = omega arith; whole = omega arith }

-- the bit times of each sender's message of a round
abbrev pub lengths : (ℕ → List Message) → ℕ → Sender → ℕ
lengths hands round sender = bits (get_or (hands sender.number) round [])

pub turns_end_cycle : (hands : ℕ → List Message) (round : ℕ) (order : List Sender) (from : ℕ)
    → turns_end hands round order from ≡ from + cycle (lengths hands round) order
turns_end_cycle hands round [] from = omega arith
turns_end_cycle hands round (a ∷ bs) from = turns_end_cycle hands round bs (end_of (sends hands round a (from + a.tg))) ∙ omega arith

-- a turn is its sender's, and starts where the ones before it lead
pub record IsTurn (hands : ℕ → List Message) (round : ℕ) (order : List Sender) (from turn : ℕ) (x : Entry) : Type 0 where
  pub sender : Sender
  pub at : slice_get order turn ≡ Some sender
  pub terminal : x.terminal ≡ sender.number
  pub moment : x.moment ≡ from + lead (lengths hands round) order turn

pub is_turn : (hands : ℕ → List Message) (round : ℕ) (order : List Sender) (from turn : ℕ) (x : Entry)
    → slice_get (turns hands round order from) turn ≡ Some x → IsTurn hands round order from turn x
is_turn hands round [] from turn x h = absurd (let k : None ≡ Some x = h in cc)
is_turn hands round (a ∷ bs) from zero x h =
    let e : sends hands round a (from + a.tg) ≡ x = let k : Some (sends hands round a (from + a.tg)) ≡ Some x = h in cc in
    record { sender = a; at = refl; terminal = sym (ap (λ (z : Entry). z.terminal) e); moment = sym (ap (λ (z : Entry). z.moment) e) }
is_turn hands round (a ∷ bs) from (suc turn) x h =
    let r : IsTurn hands round bs (end_of (sends hands round a (from + a.tg))) turn x = is_turn hands round bs (end_of (sends hands round a (from + a.tg))) turn x h in
    record { sender = r.sender; at = r.at; terminal = r.terminal; moment = r.moment ∙ omega arith }
