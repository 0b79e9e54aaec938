-- Sums over the senders that a test takes.
use Rattle.std.proofs.Common.{◌≡◌, ℕ, ◌+◌, ◌<◌, ◌≤◌, Bool, true, false, cond, List, [], ◌∷◌, take, length, get_or, inl, inr, arith, sym, refl, ap, ◌∙◌}
use Rattle.std.specs.List.{filter, sum_by}
use Rattle.std.proofs.lemmas.List.{take_all}
use Rattle.std.proofs.lemmas.List.Sums.{sum_by-cons, sum_by_more}
use Rattle.bus_strings.specs.Members.{In}
use Rattle.bus_table.specs.Tables.{Sender, Table}
use Rattle.bus_table.specs.Turns.{turn_key, turn_order}
use Rattle.bus_table.proofs.TurnLaws.{sum_sort}

-- what a sender adds where the test takes it
abbrev pub share : (Sender → Bool) → (Sender → ℕ) → Sender → ℕ
share p f sender = cond (p sender) (f sender) 0

pub sum_filter : (p : Sender → Bool) (f : Sender → ℕ) (senders : List Sender) → sum_by f (filter p senders) ≡ sum_by (share p f) senders
sum_filter p f [] = refl
sum_filter p f (a ∷ senders) =
    elim (p a) as (λ b. sum_by f (cond b (a ∷ filter p senders) (filter p senders)) ≡ cond b (f a) 0 + sum_by (share p f) senders) [
      | true ↦ sum_by-cons f a (filter p senders) ∙ ap (λ n. f a + n) (sum_filter p f senders)
      | false ↦ omega (arith, sum_filter p f senders)
    ] ∙ sym (sum_by-cons (share p f) a senders)

-- a test that takes more makes no lesser sum
pub sum_more_taken : (p q : Sender → Bool) (f : Sender → ℕ) (senders : List Sender) → ((a : Sender) → In a senders → p a ≡ true → q a ≡ true)
    → sum_by (share p f) senders ≤ sum_by (share q f) senders
sum_more_taken p q f [] h = omega arith
sum_more_taken p q f (a ∷ senders) h =
    let one : share p f a ≤ share q f a =
    (elim (p a) as (λ b. p a ≡ b → cond b (f a) 0 ≤ share q f a) [
      | true ↦ λ e. let k : share q f a ≡ f a = ap (λ b. cond b (f a) 0) (h a (inl refl) e) in omega arith
      | false ↦ λ e. omega arith
    ]) refl in
    omega (arith, sum_by-cons (share p f) a senders, sum_by-cons (share q f) a senders, sum_more_taken p q f senders (λ b i. h b (inr i)), one)

pub sum_in_turn : (table : Table) (p : Sender → Bool) (f : Sender → ℕ)
    → sum_by f (filter p (turn_order table)) ≡ sum_by (share p f) table.senders
sum_in_turn table p f = sum_filter p f (turn_order table) ∙ sum_sort (share p f) (turn_key table.mode) table.senders

-- the share of one sender more
pub sum_share_more : (p : Sender → Bool) (f : Sender → ℕ) (senders : List Sender) (k sum part : ℕ) (sender : Sender)
    → k < length senders → sender ≡ get_or senders k sender → sum ≡ sum_by (share p f) (take k senders) → part ≡ share p f sender
    → sum + part ≡ sum_by (share p f) (take (k + 1) senders)
sum_share_more p f senders k sum part sender inside sender_is sum_is part_is =
    let one : share p f sender ≡ share p f (get_or senders k sender) = ap (share p f) sender_is in
    omega (arith, sum_by_more (share p f) senders k sender inside)

pub sum_share_more_from : (base : ℕ) (p : Sender → Bool) (f : Sender → ℕ) (senders : List Sender) (k sum part : ℕ) (sender : Sender)
    → k < length senders → sender ≡ get_or senders k sender → sum ≡ base + sum_by (share p f) (take k senders) → part ≡ share p f sender
    → sum + part ≡ base + sum_by (share p f) (take (k + 1) senders)
sum_share_more_from base p f senders k sum part sender inside sender_is sum_is part_is =
    omega (arith, sum_share_more p f senders k (sum_by (share p f) (take k senders)) part sender inside sender_is refl part_is)

-- and of all of them
pub sum_whole : (p : Sender → Bool) (f : Sender → ℕ) (table : Table) (senders : List Sender) (k : ℕ) → senders ≡ table.senders
    → length senders ≤ k → sum_by (share p f) (take k senders) ≡ sum_by f (filter p table.senders)
sum_whole p f table senders k same all =
    ap (sum_by (share p f)) (take_all k senders all ∙ same) ∙ sym (sum_filter p f table.senders)

pub sum_whole_in_turn : (p : Sender → Bool) (f : Sender → ℕ) (table : Table) (senders : List Sender) (k : ℕ) → senders ≡ table.senders
    → length senders ≤ k → sum_by (share p f) (take k senders) ≡ sum_by f (filter p (turn_order table))
sum_whole_in_turn p f table senders k same all =
    ap (sum_by (share p f)) (take_all k senders all ∙ same) ∙ sym (sum_in_turn table p f)
