-- What turn order has in a valid aperiodic table.
use Rattle.std.specs.List.{sum_by}
use Rattle.std.proofs.Common.{arith, ◌≡◌, ℕ, ◌<◌, ◌≤◌, List, [], ◌∷◌, length}
use Rattle.std.proofs.Common.{sym, ap, inl, inr}
use Rattle.std.proofs.lemmas.List.Sums.{sum_by-cons}
use Rattle.bus_strings.specs.Members.{In}
use Rattle.bus_table.specs.Tables.{Sender, Table}
use Rattle.bus_table.specs.Turns.{turn_key, turn_order}
use Rattle.bus_table.specs.inside.Facts.{TableFacts}
use Rattle.bus_table.proofs.TurnLaws.{from_sort, in_sort, order_length, sum_sort}

pub record Ordered (table : Table) (order : List Sender) : Type 0 where
  pub some : 0 < length order
  pub count : length table.senders ≡ length order
  pub known : (a : Sender) → In a order → In a table.senders
  pub all : (a : Sender) → In a table.senders → In a order
  pub spoken : (f : Sender → ℕ) → sum_by f table.senders ≡ sum_by f order

pub ordered : (table : Table) → TableFacts table → Ordered table (turn_order table)
ordered table facts = record {
  some = omega (arith, order_length table, facts.some);
  count = sym (order_length table);
  known = from_sort (turn_key table.mode) table.senders;
  all = in_sort (turn_key table.mode) table.senders;
  spoken = λ f. sym (sum_sort f (turn_key table.mode) table.senders);
}

-- each is in the sum
pub in_sum : (f : Sender → ℕ) (xs : List Sender) (a : Sender) → In a xs → f a ≤ sum_by f xs
in_sum f [] a i = absurd i
in_sum f (x ∷ xs) a (inl e) = let g : f a ≡ f x = ap f e in omega (arith, sum_by-cons f x xs, g)
in_sum f (x ∷ xs) a (inr i) = let g = in_sum f xs a i in omega (arith, sum_by-cons f x xs, g)
