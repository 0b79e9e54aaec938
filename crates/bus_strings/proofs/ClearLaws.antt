-- A list without overlaps: nothing of it is garbled.
use Rattle.std.proofs.Common.{◌≡◌, ℕ, zero, suc, ◌+◌, Bool, false, List, [], ◌∷◌, length, map, Option, Some, None, refl, ap, ◌∙◌, subst}
use Rattle.std.specs.Prelude.{nat_lt, slice_get, remove}
use Rattle.std.specs.List.{list_any, range_with_len, zip, AllByRecursion}
use Rattle.std.specs.Option.{option_map_or}
use Rattle.std.proofs.Math.Bool.{and_comm}
use Rattle.bus_strings.specs.Messages.{Entry}
use Rattle.bus_strings.specs.Transmissions.{end_of, overlaps, garbled, marks, IsClear}
use Rattle.bus_strings.proofs.MemberLaws.{of_each, at_in}

overlap_both : (x y : Entry) → overlaps x y ≡ overlaps y x
overlap_both x y = and_comm (nat_lt x.moment (end_of y)) (nat_lt y.moment (end_of x))

clear_one : (list : List Entry) (k : ℕ) (x : Entry) → IsClear list → slice_get list k ≡ Some x → list_any (overlaps x) (remove list k) ≡ false
clear_one [] k x c at = absurd (let w : None ≡ Some x = at in cc)
clear_one (y ∷ ys) zero x c at = let same : y ≡ x = (let w : Some y ≡ Some x = at in cc) in subst (λ (z : Entry). list_any (overlaps z) ys ≡ false) same (none_of y ys c.0) where
  none_of : (y : Entry) (ys : List Entry) → AllByRecursion (λ z. overlaps y z ≡ false) ys → list_any (overlaps y) ys ≡ false
  none_of y [] h = refl
  none_of y (z ∷ zs) h = rw h.0 (none_of y zs h.1)
clear_one (y ∷ ys) (suc k) x c at =
    let apart : overlaps x y ≡ false = overlap_both x y ∙ of_each (λ z. overlaps y z ≡ false) ys c.0 x (at_in ys k x at) in
    rw apart (clear_one ys k x c.1 at)

pub clear_at : (list : List Entry) (k : ℕ) → IsClear list → garbled list k ≡ false
clear_at list k c = by_entry (slice_get list k) refl where
  by_entry : (o : Option Entry) → slice_get list k ≡ o → option_map_or (λ x. list_any (overlaps x) (remove list k)) o false ≡ false
  by_entry None e = refl
  by_entry (Some x) e = clear_one list k x c e

unmarked_by : (f : ℕ → Bool) (i : ℕ) (xs : List Entry) → ((k : ℕ) → f k ≡ false) → zip xs (map f (range_with_len i (length xs))) ≡ map (λ x. (x, false)) xs
unmarked_by f i [] h = refl
unmarked_by f i (x ∷ xs) h = ap (λ b. (x, b) ∷ zip xs (map f (range_with_len (i + 1) (length xs)))) (h i) ∙ ap (λ t. (x, false) ∷ t) (unmarked_by f (i + 1) xs h)

-- Each entry of such a list with its mark: none is garbled.
pub unmarked : (list : List Entry) → IsClear list → zip list (marks list) ≡ map (λ x. (x, false)) list
unmarked list c = unmarked_by (garbled list) 0 list (λ k. clear_at list k c)
