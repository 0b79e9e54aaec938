-- Where the number of a word ends.
use Rattle.std.specs.Prelude.{◌≡◌, ℕ, ◌≤◌, Bool, true, false, not, nat_lt, List, length, Some, None}
use Rattle.std.specs.List.{position, position_or_len}
use Rattle.std.proofs.Common.{arith, refl, cond}
use Rattle.std.proofs.lemmas.Bool.Decides.{nat_tests}
use Rattle.std.proofs.lemmas.List.Sums.{prefix_len-le-length}

found_by : (b : Bool) (n : ℕ) → cond b (Some n) None ≡ None → b ≡ false
found_by true n h = grind arith
found_by false n h = refl

-- where no byte ends it, the word does
pub ends_behind : (p : ℕ → Bool) (xs : List ℕ) → position p xs ≡ None → length xs ≡ position_or_len p xs
ends_behind p xs h =
    let behind : nat_lt (position_or_len p xs) (length xs) ≡ false = found_by _ (position_or_len p xs) h in
    let within : position_or_len p xs ≤ length xs = prefix_len-le-length (λ x. not (p x)) xs in
    grind (arith, nat_tests)
