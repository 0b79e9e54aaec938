-- Behind the last end of a list there is no carrier.
use Rattle.std.proofs.Common.{◌≡◌, ℕ, zero, suc, ◌+◌, ◌-◌, ◌<◌, ◌≤◌, Bool, false, cond, max, List, [], ◌∷◌, ◌++◌, fold, inl, inr, arith, refl, sym, ap, ◌∙◌}
use Rattle.std.specs.Prelude.{nat_lt}
use Rattle.std.specs.List.{count_by, range_with_len, sum_by}
use Rattle.std.proofs.lemmas.Bool.{and_parts, ltb-true}
use Rattle.std.proofs.lemmas.List.Sums.{sum_by-append, sum_by-cons}
use Rattle.bus_strings.specs.Marking.{greatest_end}
use Rattle.bus_strings.specs.Members.{In}
use Rattle.bus_strings.specs.Messages.{Entry}
use Rattle.bus_strings.specs.Transmissions.{carrier, end_of}
use Rattle.bus_medium.proofs.PastLaws.{no_carrier}
use Rattle.bus_picture.specs.Laws.{TailsAreQuiet}

abbrev end_from : ℕ → List Entry → ℕ
end_from e xs = fold (λ end (x : Entry). max end (end_of x)) e xs

no_less : (e : ℕ) (xs : List Entry) → e ≤ end_from e xs
no_less e [] = omega arith
no_less e (x ∷ xs) = omega (arith, no_less (max e (end_of x)) xs)

all_ended : (e : ℕ) (xs : List Entry) (x : Entry) → In x xs → end_of x ≤ end_from e xs
all_ended e [] x i = absurd i
all_ended e (y ∷ ys) x (inl same) = let h : end_of x ≡ end_of y = ap end_of same in omega (arith, no_less (max e (end_of y)) ys)
all_ended e (y ∷ ys) x (inr i) = all_ended (max e (end_of y)) ys x i

quiet_tail : (list : List Entry) (t : ℕ) → greatest_end list ≤ t → carrier list t ≡ false
quiet_tail list t h = no_carrier list t (λ x i. inl (omega (arith, all_ended 0 list x i)))

abbrev bit : Bool → ℕ
bit b = cond b 1 0

none_counted : (list : List Entry) (a n : ℕ) → greatest_end list ≤ a → count_by (carrier list) (range_with_len a n) ≡ 0
none_counted list a zero h = refl
none_counted list a (suc n) h =
    let one : ℕ → ℕ = λ k. bit (carrier list k) in
    let none : one a ≡ 0 = ap bit (quiet_tail list a h) in
    let rest : sum_by one (range_with_len (a + 1) n) ≡ 0 = none_counted list (a + 1) n (omega arith) in
    sum_by-cons one a (range_with_len (a + 1) n)
    ∙ (let e : one a + sum_by one (range_with_len (a + 1) n) ≡ 0 = omega (arith, none, rest) in e)

parts : (a m n : ℕ) → range_with_len a (m + n) ≡ range_with_len a m ++ range_with_len (a + m) n
parts a zero n =
    ap (range_with_len a) (let e : 0 + n ≡ n = omega arith in e) ∙ ap (λ k. range_with_len k n) (let e : a ≡ a + 0 = omega arith in e)
parts a (suc m) n =
    ap (range_with_len a) (let e : suc m + n ≡ suc (m + n) = omega arith in e)
    ∙ ap (λ (l : List ℕ). a ∷ l) (parts (a + 1) m n
    ∙ ap (λ k. range_with_len (a + 1) m ++ range_with_len k n) (let e : a + 1 + m ≡ a + suc m = omega arith in e))

same_bits : (list : List Entry) (from e to : ℕ) → greatest_end list ≤ e → from ≤ e → e ≤ to
    → count_by (carrier list) (range_with_len from (to - from)) ≡ count_by (carrier list) (range_with_len from (e - from))
same_bits list from e to h f t =
    let all : to - from ≡ (e - from) + (to - e) = omega arith in
    let one : ℕ → ℕ = λ k. bit (carrier list k) in
    ap (λ n. count_by (carrier list) (range_with_len from n)) all
    ∙ ap (count_by (carrier list)) (parts from (e - from) (to - e))
    ∙ sum_by-append one (range_with_len from (e - from)) (range_with_len (from + (e - from)) (to - e))
    ∙ omega (arith, none_counted list (from + (e - from)) (to - e) (omega arith))

pub tails_are_quiet : TailsAreQuiet
tails_are_quiet scale list on =
    let both = and_parts (nat_lt scale.from (greatest_end list)) (nat_lt (greatest_end list) scale.to) on in
    let from : scale.from < greatest_end list = ltb-true scale.from (greatest_end list) both.0 in
    let to : greatest_end list < scale.to = ltb-true (greatest_end list) scale.to both.1 in
    sym (same_bits list scale.from (greatest_end list) scale.to (omega arith) (omega arith) (omega arith))
