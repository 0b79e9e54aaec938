-- Holds and transmissions in their order.
use Rattle.std.proofs.Common.{arith, zero, suc, ◌≡◌, ℕ, ◌+◌, ◌<◌, Bool, true, false, ◌&&◌, ◌||◌, ◌==◌, nat_lt, ◌⊎◌, inl, inr, List, []}
use Rattle.std.proofs.Common.{◌∷◌, ◌++◌, length, take, get_or, refl, sym, ap, subst, ◌∙◌, length-append}
use Rattle.std.specs.List.{AllByRecursion}
use Rattle.std.proofs.lemmas.Bool.{and_parts, eqb-true, lt-ltb, ltb-true}
use Rattle.std.proofs.lemmas.Bool.Decides.{nat_tests}
use Rattle.std.proofs.lemmas.List.{take_more}
use Rattle.bus_strings.specs.Messages.{Wordstring, Entry, IsWordstring}
use Rattle.bus_strings.specs.Transmissions.{Precedes, IsAscending}
use Rattle.bus_strings.proofs.ListLaws.{all_push}
use Rattle.bus_strings.proofs.OverlapLemmas.{ordered_push}
use Rattle.bus_trace.specs.declared.hold.Hold.{Hold}
use Rattle.bus_trace.specs.Traces.{IsHold, AscendAbove, IsBelow}
use Rattle.bus_trace.specs.States.{last_terminal, last_count, is_after, comes_after, with_string}

pub all_at : {X : Type 0} (P : X → Type 0) (xs : List X) (i : ℕ) (d : X) → i < length xs → AllByRecursion P xs → P (get_or xs i d)
all_at P [] i d within h = absurd (omega arith)
all_at P (x ∷ xs) zero d within h = h.0
all_at P (x ∷ xs) (suc i) d within h = all_at P xs i d (omega arith) h.1

-- ---- the order of transmissions, as a fact and as a test
pub precedes_from : (x y : Entry) → comes_after x y.moment y.terminal ≡ true → Precedes x y
precedes_from x y h = by_test (nat_lt x.moment y.moment) refl h where
  by_test : (t : Bool) → nat_lt x.moment y.moment ≡ t → (t || (x.moment == y.moment && nat_lt x.terminal y.terminal)) ≡ true → Precedes x y
  by_test true e k = inl (ltb-true x.moment y.moment e)
  by_test false e k = let p = and_parts (x.moment == y.moment) (nat_lt x.terminal y.terminal) k in inr
      (eqb-true x.moment y.moment p.0, ltb-true x.terminal y.terminal p.1)

test_from : (a b c d : ℕ) → (a < b) ⊎ ((a ≡ b) × (c < d)) → (nat_lt a b || (a == b && nat_lt c d)) ≡ true
test_from a b c d (inl h) = ap (λ t. t || (a == b && nat_lt c d)) (lt-ltb a b h)
test_from a b c d (inr h) = let e = h.0 in let l = h.1 in grind (arith, nat_tests)

pub after_from : (x y : Entry) → Precedes x y → comes_after x y.moment y.terminal ≡ true
after_from x y h = test_from x.moment y.moment x.terminal y.terminal h

precedes_trans : (x y z : Entry) → Precedes x y → Precedes y z → Precedes x z
precedes_trans x y z (inl h) (inl k) = inl (omega (arith, h, k))
precedes_trans x y z (inl h) (inr k) = inl (omega (arith, h, k.0))
precedes_trans x y z (inr h) (inl k) = inl (omega (arith, h.0, k))
precedes_trans x y z (inr h) (inr k) = inr (omega (arith, h.0, k.0), omega (arith, h.1, k.1))

all_before : (xs : List Entry) (x : Entry) → IsAscending xs → is_after xs x.moment x.terminal ≡ true → AllByRecursion (λ y. Precedes y x) xs
all_before [] x h a = tt
all_before (y ∷ []) x h a = (precedes_from y x a, tt)
all_before (y ∷ z ∷ ys) x h a = let r = all_before (z ∷ ys) x h.1 a in (precedes_trans y z x h.0.0 r.0, r)

-- one more behind the last
pub ascending_push : (xs : List Entry) (x : Entry) → IsAscending xs → is_after xs x.moment x.terminal ≡ true → IsAscending (xs ++ x ∷ [])
ascending_push xs x h a = ordered_push Precedes xs x h (all_before xs x h a)

-- each comes behind the last of those before it
pub after_front : (xs : List Entry) (x : Entry) (ys : List Entry) → IsAscending (xs ++ x ∷ ys) → is_after xs x.moment x.terminal ≡ true
after_front [] x ys h = refl
after_front (y ∷ []) x ys h = after_from y x h.0.0
after_front (y ∷ z ∷ xs) x ys h = after_front (z ∷ xs) x ys h.1

-- each comes before the next
pub last_precedes : (xs : List Entry) (x y : Entry) (ys : List Entry) → IsAscending (xs ++ x ∷ y ∷ ys) → Precedes x y
last_precedes [] x y ys h = h.0.0
last_precedes (z ∷ xs) x y ys h = last_precedes xs x y ys h.1

pub after_at : (xs : List Entry) (i : ℕ) (d : Entry) → i < length xs → IsAscending xs
    → is_after (take i xs) (get_or xs i d).moment (get_or xs i d).terminal ≡ true
after_at [] i d within h = absurd (omega arith)
after_at (x ∷ xs) zero d within h = refl
after_at (x ∷ []) (suc i) d within h = absurd (omega arith)
after_at (x ∷ y ∷ xs) (suc zero) d within h = after_from x y h.0.0
after_at (x ∷ y ∷ xs) (suc (suc i)) d within h = after_at (y ∷ xs) (suc i) d (omega arith) h.1

-- ---- a wordstring more of the last
all_with : (x : Entry) (w : Wordstring) (xs : List Entry) → AllByRecursion (Precedes x) xs → AllByRecursion (Precedes x) (with_string w xs)
all_with x w [] h = tt
all_with x w (y ∷ []) h = (h.0, tt)
all_with x w (y ∷ z ∷ ys) h = (h.0, all_with x w (z ∷ ys) h.1)

pub ascending_with : (w : Wordstring) (xs : List Entry) → IsAscending xs → IsAscending (with_string w xs)
ascending_with w [] h = h
ascending_with w (x ∷ []) h = (tt, tt)
ascending_with w (x ∷ y ∷ xs) h = (all_with x w (y ∷ xs) h.0, ascending_with w (y ∷ xs) h.1)

pub below_with : (horizon : ℕ) (w : Wordstring) (xs : List Entry) → IsWordstring w → last_count xs < 31
    → AllByRecursion (IsBelow horizon) xs → AllByRecursion (IsBelow horizon) (with_string w xs)
below_with horizon w [] i few h = tt
below_with horizon w (x ∷ []) i few h = (
  record {
    moment = h.0.moment;
    positive = h.0.positive;
    low = h.0.low;
    message = record {
      some = omega (arith, length-append x.message (w ∷ []));
      few = omega (arith, few, length-append x.message (w ∷ []));
      strings = all_push IsWordstring x.message w h.0.message.strings i;
    };
  },
  tt,
)
below_with horizon w (x ∷ y ∷ xs) i few h = (h.0, below_with horizon w (y ∷ xs) i few h.1)

-- ---- holds
pub terminals_push : (k : ℕ) (hs : List Hold) (h : Hold) → AscendAbove k hs → (hs ≡ [] → k < h.terminal) → last_terminal hs < h.terminal
    → AscendAbove k (hs ++ h ∷ [])
terminals_push k [] h a e l = (e refl, tt)
terminals_push k (x ∷ []) h a e l = (a.0, (l, tt))
terminals_push k (x ∷ y ∷ hs) h a e l = (a.0, terminals_push x.terminal (y ∷ hs) h a.1 (λ q. absurd cc) l)

-- each is above the last of those before it
pub terminal_at : (k : ℕ) (hs : List Hold) (i : ℕ) (d : Hold) → i < length hs → AscendAbove k hs
    → last_terminal (take i hs) < (get_or hs i d).terminal
terminal_at k [] i d within h = absurd (omega arith)
terminal_at k (x ∷ hs) zero d within h = omega (arith, h.0)
terminal_at k (x ∷ []) (suc i) d within h = absurd (omega arith)
terminal_at k (x ∷ y ∷ hs) (suc zero) d within h = h.1.0
terminal_at k (x ∷ y ∷ hs) (suc (suc i)) d within h = terminal_at x.terminal (y ∷ hs) (suc i) d (omega arith) h.1

-- the terminals behind a first part
pub terminals_rest : (k : ℕ) (hs : List Hold) (h : Hold) (rest : List Hold) → AscendAbove k (hs ++ h ∷ rest) → last_terminal hs < h.terminal
terminals_rest k [] h rest a = omega (arith, a.0)
terminals_rest k (x ∷ []) h rest a = a.1.0
terminals_rest k (x ∷ y ∷ hs) h rest a = terminals_rest x.terminal (y ∷ hs) h rest a.1

-- ---- lists that are looked at from the front
pub holds_more : (hs : List Hold) (i : ℕ) (d : Hold) → i < length hs → AllByRecursion IsHold (take i hs) → AscendAbove 0 (take i hs)
    → last_terminal (take i hs) < (get_or hs i d).terminal → IsHold (get_or hs i d)
    → AllByRecursion IsHold (take (i + 1) hs) × AscendAbove 0 (take (i + 1) hs)
holds_more hs i d within f a l k =
    let e = sym (take_more hs i d within) in (
      subst (AllByRecursion IsHold) e (all_push IsHold (take i hs) (get_or hs i d) f k),
      subst (AscendAbove 0) e (terminals_push 0 (take i hs) (get_or hs i d) a (λ _. omega (arith, k.positive)) l),
    )

-- of an element as it was read
pub list_more : (horizon : ℕ) (xs : List Entry) (i : ℕ) (x : Entry) → x ≡ get_or xs i x → i < length xs
    → AllByRecursion (IsBelow horizon) (take i xs) → IsAscending (take i xs) → is_after (take i xs) x.moment x.terminal ≡ true
    → IsBelow horizon x
    → AllByRecursion (IsBelow horizon) (take (i + 1) xs) × IsAscending (take (i + 1) xs)
list_more horizon xs i x here within f o a k =
    let e : take i xs ++ x ∷ [] ≡ take (i + 1) xs = ap (λ (y : Entry). take i xs ++ y ∷ []) here ∙ sym (take_more xs i x within) in (
      subst (AllByRecursion (IsBelow horizon)) e (all_push (IsBelow horizon) (take i xs) x f k),
      subst IsAscending e (ascending_push (take i xs) x o a),
    )

pub below_at : (horizon : ℕ) (xs : List Entry) (i : ℕ) (x : Entry) → x ≡ get_or xs i x → i < length xs
    → AllByRecursion (IsBelow horizon) xs → x.moment < horizon
below_at horizon xs i x here within f = subst (λ (y : Entry). y.moment < horizon) (sym here)
    (all_at (IsBelow horizon) xs i x within f).moment

pub follows_at : (xs : List Entry) (i : ℕ) (x : Entry) → x ≡ get_or xs i x → i < length xs → IsAscending xs
    → is_after (take i xs) x.moment x.terminal ≡ true
follows_at xs i x here within o = subst (λ (y : Entry). is_after (take i xs) y.moment y.terminal ≡ true) (sym here)
    (after_at xs i x within o)
