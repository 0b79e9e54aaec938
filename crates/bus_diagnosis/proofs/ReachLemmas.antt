-- The farthest pair and the last wake bound all others.
use Rattle.std.proofs.Common.{arith, ◌≡◌, ◌⊎◌, inl, inr, ℕ, ◌+◌, ◌<◌, ◌≤◌, max, Bool, true, false, cond, List, [], ◌∷◌, ◌++◌, length, map, drop, get_or, refl, sym, ap, subst, ◌∙◌}
use Rattle.std.specs.Prelude.{nat_lt}
use Rattle.std.proofs.lemmas.List.{drop_all}
use Rattle.bus_strings.proofs.ListLaws.{drop_read}
use Rattle.std.specs.List.{flat_map}
use Rattle.std.proofs.lemmas.Bool.Decides.{nat_tests}
use Rattle.bus_strings.specs.Members.{In}
use Rattle.bus_strings.proofs.MemberLaws.{in_append_left, in_append_right, in_append_cases, in_map, from_map}
use Rattle.bus_table.specs.Tables.{Sender, Listener, Table}
use Rattle.bus_medium.specs.Wakes.{Wakes, AreWakes}
use Rattle.bus_cable.specs.HeardTexts.{terminals}
use Rattle.bus_cable.specs.Layouts.{AreNear}
use Rattle.bus_diagnosis.specs.Reaches.{Pair, pair_of, pairs_with, farther, farthest, nowhere, farthest_pair, last_wake}

-- ---- pairs
farther_bounds : (a b : Pair) → (a.bits ≤ (farther a b).bits) × (b.bits ≤ (farther a b).bits)
farther_bounds a b = by (nat_lt a.bits b.bits) refl where
  by : (t : Bool) → nat_lt a.bits b.bits ≡ t → (a.bits ≤ (cond t b a).bits) × (b.bits ≤ (cond t b a).bits)
  by true e = let less : a.bits < b.bits = grind (arith, nat_tests, e) in (omega (arith, less), omega arith)
  by false e = let most : b.bits ≤ a.bits = grind (arith, nat_tests, e) in (omega arith, most)

found_within : (found : Pair) (pairs : List Pair) → found.bits ≤ (farthest found pairs).bits
found_within found [] = omega arith
found_within found (pair ∷ others) = omega (arith, (farther_bounds found pair).0, found_within (farther found pair) others)

pair_within : (found : Pair) (pairs : List Pair) (pair : Pair) → In pair pairs → pair.bits ≤ (farthest found pairs).bits
pair_within found [] pair i = absurd i
pair_within found (first ∷ others) pair (inl same) =
    omega (arith, ap (λ (p : Pair). p.bits) same, (farther_bounds found first).1, found_within (farther found first) others)
pair_within found (first ∷ others) pair (inr i) = pair_within (farther found first) others pair i

-- pairs behind others
pub farthest_append : (found : Pair) (xs ys : List Pair) → farthest found (xs ++ ys) ≡ farthest (farthest found xs) ys
farthest_append found [] ys = refl
farthest_append found (x ∷ xs) ys = farthest_append (farther found x) xs ys

in_flat : (f : Sender → List Pair) (senders : List Sender) (sender : Sender) (pair : Pair) → In sender senders → In pair (f sender)
    → In pair (flat_map f senders)
in_flat f [] sender pair i j = absurd i
in_flat f (s ∷ ss) sender pair (inl same) j = in_append_left (f s) (flat_map f ss) pair (subst (λ (x : Sender). In pair (f x)) same j)
in_flat f (s ∷ ss) sender pair (inr i) j = in_append_right (f s) (flat_map f ss) pair (in_flat f ss sender pair i j)

-- a terminal of a table is one of the pairs of each sender
in_pairs : (table : Table) (place : ℕ → ℕ) (sender : Sender) (number : ℕ) → In number (terminals table)
    → In (pair_of place sender.number number) (pairs_with table place sender)
in_pairs table place sender number i =
    by (in_append_cases (map (λ (s : Sender). s.number) table.senders) (map (λ (l : Listener). l.number) table.listeners) number i) where
      senders : List Pair
      senders = map (λ (other : Sender). pair_of place sender.number other.number) table.senders

      listeners : List Pair
      listeners = map (λ (other : Listener). pair_of place sender.number other.number) table.listeners

      by : In number (map (λ (s : Sender). s.number) table.senders) ⊎ In number (map (λ (l : Listener). l.number) table.listeners)
          → In (pair_of place sender.number number) (senders ++ listeners)
      by (inl j) =
          let from = from_map (λ (s : Sender). s.number) table.senders number j in
          in_append_left senders listeners (pair_of place sender.number number)
          (subst (λ (n : ℕ). In (pair_of place sender.number n) senders) from.2
          (in_map (λ (other : Sender). pair_of place sender.number other.number) table.senders from.0 from.1))
      by (inr j) =
          let from = from_map (λ (l : Listener). l.number) table.listeners number j in
          in_append_right senders listeners (pair_of place sender.number number)
          (subst (λ (n : ℕ). In (pair_of place sender.number n) listeners) from.2
          (in_map (λ (other : Listener). pair_of place sender.number other.number) table.listeners from.0 from.1))

-- no terminal is farther from a sender than the farthest pair is apart
pub all_near : (table : Table) (place : ℕ → ℕ) → AreNear (farthest_pair table place).bits table place
all_near table place sender number i j =
    pair_within nowhere (flat_map (pairs_with table place) table.senders) (pair_of place sender.number number)
    (in_flat (pairs_with table place) table.senders sender (pair_of place sender.number number) i (in_pairs table place sender number j))

-- ---- wakes
pub all_awake : (wake : Wakes) (senders : List Sender) → AreWakes (last_wake wake senders) senders wake
all_awake wake [] sender i = absurd i
all_awake wake (first ∷ others) sender (inl same) = omega (arith, ap (λ (s : Sender). wake s.number) same)
all_awake wake (first ∷ others) sender (inr i) = omega (arith, all_awake wake others sender i)

-- ---- loops over what is left
pub farthest_step : {X : Type 0} (f : X → Pair) (found : Pair) (xs : List X) (k : ℕ) (x : X) → k < length xs → x ≡ get_or xs k x
    → farthest found (map f (drop k xs)) ≡ farthest (farther found (f x)) (map f (drop (k + 1) xs))
farthest_step f found xs k x within is = ap (λ ys. farthest found (map f ys)) (drop_read xs k x within is)

pub farthest_end : {X : Type 0} (f : X → Pair) (found : Pair) (xs : List X) (k : ℕ) → length xs ≤ k → farthest found (map f (drop k xs)) ≡ found
farthest_end f found xs k h = ap (λ ys. farthest found (map f ys)) (drop_all k xs h)

pub pairs_step : (table : Table) (place : ℕ → ℕ) (found : Pair) (senders : List Sender) (k : ℕ) (sender : Sender) → k < length senders → sender ≡ get_or senders k sender
    → farthest found (flat_map (pairs_with table place) (drop k senders))
    ≡ farthest (farthest found (pairs_with table place sender)) (flat_map (pairs_with table place) (drop (k + 1) senders))
pairs_step table place found senders k sender within is =
    ap (λ (ys : List Sender). farthest found (flat_map (pairs_with table place) ys)) (drop_read senders k sender within is)
    ∙ farthest_append found (pairs_with table place sender) (flat_map (pairs_with table place) (drop (k + 1) senders))

pub wakes_step : (wake : Wakes) (last : ℕ) (senders : List Sender) (k : ℕ) (sender : Sender) → k < length senders → sender ≡ get_or senders k sender
    → max last (last_wake wake (drop k senders)) ≡ max (max (wake sender.number) last) (last_wake wake (drop (k + 1) senders))
wakes_step wake last senders k sender within is =
    ap (λ (ys : List Sender). max last (last_wake wake ys)) (drop_read senders k sender within is)
    ∙ omega arith

-- one sender more, with all terminals
pub next_pairs : (table : Table) (place : ℕ → ℕ) (found one two : Pair) (items senders : List Sender) (listeners : List Listener) (k : ℕ) (sender : Sender) (m n : ℕ)
    → items ≡ table.senders → senders ≡ table.senders → listeners ≡ table.listeners → k < length items → sender ≡ get_or items k sender
    → m ≡ sender.number → n ≡ sender.number → one ≡ farthest found (map (λ (other : Sender). pair_of place m other.number) senders)
    → two ≡ farthest one (map (λ (other : Listener). pair_of place n other.number) listeners)
    → farthest found (flat_map (pairs_with table place) (drop k table.senders)) ≡ farthest two (flat_map (pairs_with table place) (drop (k + 1) table.senders))
next_pairs table place found one two items senders listeners k sender m n items_are senders_are listeners_are within is first second one_is two_is =
    let near : ℕ → List Sender → List Pair = λ number others. map (λ (other : Sender). pair_of place number other.number) others in
    let far : ℕ → List Listener → List Pair = λ number others. map (λ (other : Listener). pair_of place number other.number) others in
    let among : one ≡ farthest found (near sender.number table.senders) =
    one_is ∙ ap (λ (ss : List Sender). farthest found (near m ss)) senders_are ∙ ap (λ (x : ℕ). farthest found (near x table.senders)) first in
    let behind : two ≡ farthest one (far sender.number table.listeners) =
    two_is ∙ ap (λ (ls : List Listener). farthest one (far n ls)) listeners_are ∙ ap (λ (x : ℕ). farthest one (far x table.listeners)) second in
    let own : farthest found (pairs_with table place sender) ≡ two =
    farthest_append found (near sender.number table.senders) (far sender.number table.listeners)
    ∙ ap (λ (p : Pair). farthest p (far sender.number table.listeners)) (sym among) ∙ sym behind in
    pairs_step table place found table.senders k sender (omega (arith, within, ap length items_are)) (is ∙ ap (λ (ss : List Sender). get_or ss k sender) items_are)
    ∙ ap (λ (p : Pair). farthest p (flat_map (pairs_with table place) (drop (k + 1) table.senders))) own
