-- What is counted is the number of received lines.
use Rattle.std.proofs.Common.{arith, ◌≡◌, ℕ, ◌+◌, Bool, true, false, cond, List, [], ◌∷◌, ◌++◌, length, map, refl, ap, sym, subst, ◌∙◌}
use Rattle.std.specs.List.{filter, flat_map, sum_by, zip}
use Rattle.std.proofs.lemmas.List.{length-map}
use Rattle.std.proofs.lemmas.List.Concat.{length-flat_map}
use Rattle.std.proofs.lemmas.List.Sums.{sum_by-cons, sum_by-append, sum_by_push, length-filter}
use Rattle.bus_strings.specs.Messages.{Wordstring, Entry}
use Rattle.bus_strings.specs.Transmissions.{marks}
use Rattle.bus_table.specs.declared.line.TakeLine.{TakeLine}
use Rattle.bus_table.specs.Tables.{Sender, Listener, Table}
use Rattle.bus_filter.specs.Received.{ReceivedLine, Taker, matches, received_line, string_lines, entry_lines, is_heard, heard, sender_taker, listener_taker}
use Rattle.bus_filter.specs.ReceivedTexts.{received_count}
use Rattle.bus_filter.specs.inside.Putting.{string_count, marked_count, taker_count, sender_count, listener_count}

sum_by-same : {X : Type 0} (f g : X → ℕ) (xs : List X) → ((x : X) → f x ≡ g x) → sum_by f xs ≡ sum_by g xs
sum_by-same f g [] h = refl
sum_by-same f g (x ∷ xs) h = sum_by-cons f x xs ∙ ap (λ n. n + sum_by f xs) (h x) ∙ ap (λ n. g x + n) (sum_by-same f g xs h) ∙ sym (sum_by-cons g x xs)

sum_by-map : {X Y : Type 0} (f : Y → ℕ) (g : X → Y) (xs : List X) → sum_by f (map g xs) ≡ sum_by (λ x. f (g x)) xs
sum_by-map f g [] = refl
sum_by-map f g (x ∷ xs) = sum_by-cons f (g x) (map g xs) ∙ ap (λ n. f (g x) + n) (sum_by-map f g xs) ∙ sym (sum_by-cons (λ y. f (g y)) x xs)

passing_by : {X : Type 0} (t : Bool) (f : X → ℕ) (x : X) (xs : List X) (rest : ℕ) → rest ≡ sum_by f xs → cond t (f x) 0 + rest ≡ sum_by f (cond t (x ∷ xs) xs)
passing_by true f x xs rest e = ap (λ n. f x + n) e ∙ sym (sum_by-cons f x xs)
passing_by false f x xs rest e = let z : 0 + rest ≡ rest = omega arith in z ∙ e

sum_by-passing : {X : Type 0} (p : X → Bool) (f : X → ℕ) (xs : List X) → sum_by (λ x. cond (p x) (f x) 0) xs ≡ sum_by f (filter p xs)
sum_by-passing p f [] = refl
sum_by-passing p f (x ∷ xs) = sum_by-cons (λ y. cond (p y) (f y) 0) x xs ∙ passing_by (p x) f x (filter p xs) _ (sum_by-passing p f xs)

pub string_counted : (takes : List TakeLine) (moment : ℕ) (string : Wordstring) → string_count takes string ≡ length (string_lines takes moment string)
string_counted takes moment string =
    sym (length-map (filter (λ (line : TakeLine). matches line string.label string.ext) takes) (received_line moment string) ∙ length-filter (λ (line : TakeLine). matches line string.label string.ext) takes)

pub entry_counted : (takes : List TakeLine) (x : Entry) → sum_by (string_count takes) x.message ≡ length (entry_lines takes x)
entry_counted takes x =
    sum_by-same (string_count takes) (λ s. length (string_lines takes x.moment s)) x.message (string_counted takes x.moment) ∙ sym (length-flat_map (string_lines takes x.moment) x.message)

pub marked_counted : (taker : Taker) (m : Entry × Bool) → marked_count taker m ≡ cond (is_heard taker.number m) (length (entry_lines taker.takes m.0)) 0
marked_counted taker m = ap (λ n. cond (is_heard taker.number m) n 0) (entry_counted taker.takes m.0)

-- what is counted of a list is what the taker receives
pub list_counted : (list : List Entry) (taker : Taker) → sum_by (marked_count taker) (zip list (marks list)) ≡ taker_count list taker
list_counted list taker =
    let pairs : List (Entry × Bool) = zip list (marks list) in
    sum_by-same (marked_count taker) (λ (m : Entry × Bool). cond (is_heard taker.number m) (length (entry_lines taker.takes m.0)) 0) pairs (marked_counted taker)
    ∙ sum_by-passing (is_heard taker.number) (λ (m : Entry × Bool). length (entry_lines taker.takes m.0)) pairs
    ∙ sym (sum_by-map (λ (x : Entry). length (entry_lines taker.takes x)) (λ (m : Entry × Bool). m.0) (filter (is_heard taker.number) pairs))
    ∙ sym (length-flat_map (entry_lines taker.takes) (map (λ (m : Entry × Bool). m.0) (filter (is_heard taker.number) pairs)))

-- one more
pub counted_more : {X : Type 0} (f : X → ℕ) (xs ys : List X) (x : X) → ys ≡ xs ++ x ∷ [] → sum_by f ys ≡ sum_by f xs + f x
counted_more f xs ys x e = ap (sum_by f) e ∙ sum_by_push f xs x

-- the terminals are counted in two parts
pub takers_counted : (table : Table) (list : List Entry) (senders : List Sender) (listeners : List Listener) → senders ≡ table.senders → listeners ≡ table.listeners
    → sum_by (sender_count list) senders + sum_by (listener_count list) listeners ≡ received_count table list
takers_counted table list senders listeners s l =
    ap (λ (x : List Sender). sum_by (sender_count list) x + sum_by (listener_count list) listeners) s
    ∙ ap (λ (x : List Listener). sum_by (sender_count list) table.senders + sum_by (listener_count list) x) l
    ∙ ap (λ n. n + sum_by (listener_count list) table.listeners) (sym (sum_by-map (taker_count list) sender_taker table.senders))
    ∙ ap (λ n. sum_by (taker_count list) (map sender_taker table.senders) + n) (sym (sum_by-map (taker_count list) listener_taker table.listeners))
    ∙ sym (sum_by-append (taker_count list) (map sender_taker table.senders) (map listener_taker table.listeners))

-- where there are no receive lines nothing is received
none_flat : {X A : Type 0} (f : X → List A) (xs : List X) → ((x : X) → f x ≡ []) → flat_map f xs ≡ []
none_flat {X} {A} f [] h = refl
none_flat {X} {A} f (x ∷ xs) h = ap (λ (l : List A). l ++ flat_map f xs) (h x) ∙ none_flat f xs h

pub none_counted : (list : List Entry) (number : ℕ) (takes : List TakeLine) → takes ≡ [] → let taker : Taker = record { number = number; takes = takes } in 0 ≡ taker_count list taker
none_counted list number takes h =
    subst (λ (ts : List TakeLine). let taker : Taker = record { number = number; takes = ts } in 0 ≡ taker_count list taker) (sym h)
    (ap (λ (l : List ReceivedLine). length l) (sym (none_flat (entry_lines []) (heard number list) (λ x. none_flat (string_lines [] x.moment) x.message (λ s. refl)))))
