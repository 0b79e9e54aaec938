-- How far apart starts are, by senders and by places.
use Rattle.std.specs.List.{sum_by}
use Rattle.std.proofs.Common.{arith, ◌≡◌, ℕ, zero, suc, ◌+◌, List, [], ◌∷◌, length, refl, sym, ◌∙◌, ap}
use Rattle.std.proofs.lemmas.List.Sums.{sum_by-cons}
use Rattle.bus_table.specs.Lengths.{shortest, longest}
use Rattle.bus_table.specs.Tables.{Sender, Table}
use Rattle.bus_table.specs.Turns.{turn_key, turn_order}
use Rattle.bus_table.proofs.TurnLaws.{sum_sort, order_length}
use Rattle.bus_bounds.specs.Bounds.{Bounds}
use Rattle.bus_clocks.specs.Buses.{sum_below, among}
use Rattle.bus_clocks.specs.Rounds as clocks
use Rattle.bus_margins.specs.Times.{least_time, most_time}
use Rattle.bus_margins.specs.Rooms.{spoken_by, longest_by, longest_spoken, delay_among, most_spoken}
use Rattle.bus_margins.specs.Buses.{at_place, bus_of}
use Rattle.bus_margins.specs.Laws.{ApartIsARound}

first_of_sum : (f : ℕ → ℕ) (n : ℕ) → sum_below f (suc n) ≡ f 0 + sum_below (λ k. f (suc k)) n
first_of_sum f zero = omega arith
first_of_sum f (suc n) = let e = first_of_sum f n in omega (arith, e)

pub least_places : (f g : Sender → ℕ) (xs : List Sender)
    → sum_below (λ k. at_place f xs k + at_place g xs k) (length xs) ≡ sum_by (λ a. f a + g a) xs
least_places f g [] = refl
least_places f g (x ∷ xs) =
    first_of_sum (λ k. at_place f (x ∷ xs) k + at_place g (x ∷ xs) k) (length xs)
    ∙ ap (λ n. f x + g x + n) (least_places f g xs) ∙ sym (sum_by-cons (λ a. f a + g a) x xs)

most_places : (d : ℕ) (f g : Sender → ℕ) (xs : List Sender)
    → sum_below (λ k. d + at_place f xs k + at_place g xs k) (length xs) ≡ sum_by (λ a. d + f a + g a) xs
most_places d f g [] = refl
most_places d f g (x ∷ xs) =
    first_of_sum (λ k. d + at_place f (x ∷ xs) k + at_place g (x ∷ xs) k) (length xs)
    ∙ ap (λ n. d + f x + g x + n) (most_places d f g xs) ∙ sym (sum_by-cons (λ a. d + f a + g a) x xs)

-- how long the senders take, by places
pub least_spoken_is : (bounds : Bounds) (table : Table)
    → sum_below (λ k. (bus_of bounds table).tg_short k + (bus_of bounds table).shortest k) (bus_of bounds table).senders ≡ sum_by (spoken_by bounds) table.senders
least_spoken_is bounds table =
    least_places (λ a. least_time bounds a.tg) (λ a. least_time bounds (shortest a)) (turn_order table)
    ∙ sum_sort (spoken_by bounds) (turn_key table.mode) table.senders

pub most_spoken_is : (bounds : Bounds) (table : Table) → clocks.most_spoken (among (bus_of bounds table)) ≡ most_spoken bounds table.senders
most_spoken_is bounds table =
    most_places (among (bus_of bounds table)).delay (λ a. most_time bounds a.tg) (λ a. most_time bounds (longest a)) (turn_order table)
    ∙ sum_sort (longest_by bounds (among (bus_of bounds table)).delay) (turn_key table.mode) table.senders
    ∙ ap (λ n. longest_spoken bounds (delay_among bounds n) table.senders) (order_length table)

pub apart_is_a_round : ApartIsARound
apart_is_a_round bounds table = (
  ap (λ n. least_time bounds table.sg + n) (sym (least_spoken_is bounds table)),
  ap (λ n. most_time bounds table.sg + n) (sym (most_spoken_is bounds table)),
)
