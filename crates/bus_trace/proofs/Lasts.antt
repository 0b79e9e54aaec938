-- The last hold and the last transmission.
use Rattle.std.proofs.Common.{arith, zero, suc, ◌≡◌, ℕ, ◌<◌, ◌≤◌, ◌^◌, List, [], ◌∷◌, ◌++◌, length, get_or, set, refl, sym, ap}
use Rattle.std.proofs.Common.{◌∙◌}
use Rattle.bus_strings.specs.Messages.{Wordstring, Entry}
use Rattle.std.specs.List.{AllByRecursion}
use Rattle.bus_strings.specs.Messages.{Message, IsMessage, bits}
use Rattle.bus_strings.specs.Transmissions.{end_of}
use Rattle.bus_strings.proofs.KeptLemmas.{words_most}
use Rattle.bus_trace.specs.Traces.{IsBelow}
use Rattle.bus_trace.specs.States.{of_last, last_end, earlier, is_after, comes_after, with_string}

pub of_last_is : {X : Type 0} (number : X → ℕ) (xs : List X) (i : ℕ) (x : X) → suc i ≡ length xs → x ≡ get_or xs i x
    → of_last number xs ≡ number x
of_last_is number [] i x e k = absurd (omega arith)
of_last_is number (c ∷ []) zero x e k = ap number (sym k)
of_last_is number (c ∷ []) (suc i) x e k = absurd (omega arith)
of_last_is number (c ∷ d ∷ xs) zero x e k = absurd (omega arith)
of_last_is number (c ∷ d ∷ xs) (suc i) x e k = of_last_is number (d ∷ xs) i x (omega arith) k

pub of_last_push : {X : Type 0} (number : X → ℕ) (xs : List X) (x : X) → of_last number (xs ++ x ∷ []) ≡ number x
of_last_push number [] x = refl
of_last_push number (y ∷ []) x = refl
of_last_push number (y ∷ z ∷ xs) x = of_last_push number (z ∷ xs) x

pub last_after_is : (xs : List Entry) (i : ℕ) (x : Entry) (m n : ℕ) → suc i ≡ length xs → x ≡ get_or xs i x
    → is_after xs m n ≡ comes_after x m n
last_after_is [] i x m n e k = absurd (omega arith)
last_after_is (c ∷ []) zero x m n e k = ap (λ (d : Entry). comes_after d m n) (sym k)
last_after_is (c ∷ []) (suc i) x m n e k = absurd (omega arith)
last_after_is (c ∷ d ∷ xs) zero x m n e k = absurd (omega arith)
last_after_is (c ∷ d ∷ xs) (suc i) x m n e k = last_after_is (d ∷ xs) i x m n (omega arith) k

-- the last is set to what it was, with a wordstring more
pub set_last : (xs : List Entry) (i : ℕ) (x : Entry) (w : Wordstring) → suc i ≡ length xs → x ≡ get_or xs i x
    → set xs i (record x { message = x.message ++ w ∷ [] }) ≡ with_string w xs
set_last [] i x w e k = absurd (omega arith)
set_last (c ∷ []) zero x w e k = ap (λ (d : Entry). record d { message = d.message ++ w ∷ [] } ∷ []) k
set_last (c ∷ []) (suc i) x w e k = absurd (omega arith)
set_last (c ∷ d ∷ xs) zero x w e k = absurd (omega arith)
set_last (c ∷ d ∷ xs) (suc i) x w e k = ap (λ us. c ∷ us) (set_last (d ∷ xs) i x w (omega arith) k)

pub set_last_string : (xs : List Entry) (i moment terminal : ℕ) (old new : List Wordstring) (x : Entry) (w : Wordstring)
    → suc i ≡ length xs → x ≡ get_or xs i x
    → record { moment = moment; terminal = terminal; message = old } ≡ x → new ≡ old ++ w ∷ []
    → set xs i (record { moment = moment; terminal = terminal; message = new }) ≡ with_string w xs
set_last_string xs i moment terminal old new x w e k view n =
    ap (λ (ws : List Wordstring). set xs i (record { moment = moment; terminal = terminal; message = ws })) n
    ∙ ap (λ (d : Entry). set xs i (record d { message = d.message ++ w ∷ [] })) view
    ∙ set_last xs i x w e k

-- a wordstring more of a transmission that was just begun, or goes on
pub with_last : (w : Wordstring) (xs : List Entry) (m n : ℕ) (ws : List Wordstring)
    → with_string w (xs ++ record { moment = m; terminal = n; message = ws } ∷ []) ≡ xs ++ record {
      moment = m;
      terminal = n;
      message =
          ws ++ w ∷ [];
    } ∷ []
with_last w [] m n ws = refl
with_last w (x ∷ []) m n ws = refl
with_last w (x ∷ y ∷ xs) m n ws = ap (λ us. x ∷ us) (with_last w (y ∷ xs) m n ws)

pub length-with_string : (w : Wordstring) (xs : List Entry) → length (with_string w xs) ≡ length xs
length-with_string w [] = refl
length-with_string w (x ∷ []) = refl
length-with_string w (x ∷ y ∷ xs) = ap suc (length-with_string w (y ∷ xs))

-- the last of a list that has one more
pub earlier_push : (xs : List Entry) (x : Entry) → earlier (xs ++ x ∷ []) ≡ xs
earlier_push [] x = refl
earlier_push (y ∷ []) x = refl
earlier_push (y ∷ z ∷ xs) x = ap (λ ys. y ∷ ys) (earlier_push (z ∷ xs) x)

pub earlier_with : (w : Wordstring) (xs : List Entry) → earlier (with_string w xs) ≡ earlier xs
earlier_with w [] = refl
earlier_with w (x ∷ []) = refl
earlier_with w (x ∷ y ∷ []) = refl
earlier_with w (x ∷ y ∷ z ∷ xs) = ap (λ ys. x ∷ ys) (earlier_with w (y ∷ z ∷ xs))

-- ---- how long a message may be
pub bits_most : (m : Message) → IsMessage m → bits m < 2 ^ 20
bits_most m h = omega (arith, words_most m h.strings, h.few)

pub end_most : (x : Entry) → IsMessage x.message → x.moment < 2 ^ 40 → end_of x < 2 ^ 41
end_most x m h = omega (arith, bits_most x.message m, h)

pub last_end_most : (horizon : ℕ) (xs : List Entry) → horizon ≤ 2 ^ 40 → AllByRecursion (IsBelow horizon) xs → last_end xs < 2 ^ 41
last_end_most horizon [] k h = omega arith
last_end_most horizon (x ∷ []) k h = end_most x h.0.message (omega (arith, h.0.moment, k))
last_end_most horizon (x ∷ y ∷ xs) k h = last_end_most horizon (y ∷ xs) k h.1
