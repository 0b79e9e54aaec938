-- The first of some that is the same as an earlier one.
use Rattle.std.proofs.Common.{◌≡◌, ℕ, zero, suc, ◌+◌, ◌<◌, ◌≤◌, Bool, true, false, ◌||◌, ◌==◌, cond, List, [], ◌∷◌, ◌++◌, length, map, get_or, take, drop, Option, Some, None, refl, sym, ap, ◌∙◌, append_assoc}
use Rattle.std.proofs.lemmas.List.{append-nil, drop_all, take-map, length-map}
use Rattle.std.proofs.lemmas.List.Folds.{list_any-append}
use Rattle.std.proofs.lemmas.Grind.{flat_map-append}
use Rattle.std.specs.List.{list_any, flat_map}
use Rattle.std.specs.Option.{option_or}
use Rattle.bus_strings.proofs.ListLaws.{drop_read, take_read}
use Rattle.bus_table.specs.Tables.{SendLine, Sender, Listener}
use Rattle.bus_table.specs.Whole.{first_again, sender_numbers, listener_numbers, same_pair, send_lines}

first_step : {A : Type 0} (same : A → A → Bool) (earlier : List A) (x : A) (xs : List A) (t : Bool) → list_any (λ y. same y x) earlier ≡ t → first_again same earlier (x ∷ xs) ≡ cond t (Some x) (first_again same (earlier ++ x ∷ []) xs)
first_step same earlier x xs t h = ap (λ b. cond b (Some x) (first_again same (earlier ++ x ∷ []) xs)) h

-- the loop's item is not the same as an earlier one
pub goes_on : {A : Type 0} (same : A → A → Bool) (before xs : List A) (k : ℕ) (x : A) (total : Option A) → k < length xs → x ≡ get_or xs k x → list_any (λ y. same y x) (before ++ take k xs) ≡ false
    → first_again same (before ++ take k xs) (drop k xs) ≡ total → first_again same (before ++ take (k + 1) xs) (drop (k + 1) xs) ≡ total
goes_on same before xs k x total h e none so_far =
    ap (λ ys. first_again same ys (drop (k + 1) xs)) (ap (λ ys. before ++ ys) (take_read xs k x h e) ∙ sym (append_assoc before (take k xs) (x ∷ [])))
    ∙ sym (first_step same (before ++ take k xs) x (drop (k + 1) xs) false none)
    ∙ sym (ap (first_again same (before ++ take k xs)) (drop_read xs k x h e))
    ∙ so_far

-- it is
pub stops : {A : Type 0} (same : A → A → Bool) (before xs : List A) (k : ℕ) (x : A) (total : Option A) → k < length xs → x ≡ get_or xs k x → list_any (λ y. same y x) (before ++ take k xs) ≡ true
    → first_again same (before ++ take k xs) (drop k xs) ≡ total → Some x ≡ total
stops same before xs k x total h e some so_far =
    sym (first_step same (before ++ take k xs) x (drop (k + 1) xs) true some)
    ∙ sym (ap (first_again same (before ++ take k xs)) (drop_read xs k x h e))
    ∙ so_far

-- nothing is left
pub ends : {A : Type 0} (same : A → A → Bool) (before xs : List A) (k : ℕ) (total : Option A) → length xs ≤ k → first_again same (before ++ take k xs) (drop k xs) ≡ total → None ≡ total
ends same before xs k total h so_far = sym (ap (first_again same (before ++ take k xs)) (drop_all k xs h)) ∙ so_far

behind : {A : Type 0} (same : A → A → Bool) (before : List A) (x : A) (xs ys : List A) (t : Bool) → first_again same (before ++ x ∷ []) (xs ++ ys) ≡ option_or (first_again same (before ++ x ∷ []) xs) (first_again same (before ++ x ∷ xs) ys)
    → cond t (Some x) (first_again same (before ++ x ∷ []) (xs ++ ys)) ≡ option_or (cond t (Some x) (first_again same (before ++ x ∷ []) xs)) (first_again same (before ++ x ∷ xs) ys)
behind same before x xs ys true h = refl
behind same before x xs ys false h = h

-- what stands behind is looked at where nothing came before
pub first_again-append : {A : Type 0} (same : A → A → Bool) (before xs ys : List A) → first_again same before (xs ++ ys) ≡ option_or (first_again same before xs) (first_again same (before ++ xs) ys)
first_again-append same before [] ys = ap (λ zs. first_again same zs ys) (sym (append-nil before))
first_again-append same before (x ∷ xs) ys =
    behind same before x xs ys (list_any (λ y. same y x) before) (first_again-append same (before ++ x ∷ []) xs ys ∙ ap (λ zs. option_or (first_again same (before ++ x ∷ []) xs) (first_again same zs ys)) (append_assoc before (x ∷ []) xs))

pub list_any-map : {A B : Type 0} (f : A → B) (p : B → Bool) (xs : List A) → list_any p (map f xs) ≡ list_any (λ x. p (f x)) xs
list_any-map f p [] = refl
list_any-map f p (x ∷ xs) = ap (λ b. p (f x) || b) (list_any-map f p xs)

pub list_any-flat_map : {A B : Type 0} (f : A → List B) (p : B → Bool) (xs : List A) → list_any p (flat_map f xs) ≡ list_any (λ x. list_any p (f x)) xs
list_any-flat_map f p [] = refl
list_any-flat_map f p (x ∷ xs) = list_any-append p (f x) (flat_map f xs) ∙ ap (λ b. list_any p (f x) || b) (list_any-flat_map f p xs)

-- ---- a list that is mapped
pub at_map : {A B : Type 0} (f : A → B) (xs : List A) (k : ℕ) (x : A) → x ≡ get_or xs k x → f x ≡ get_or (map f xs) k (f x)
at_map f [] k x h = refl
at_map f (y ∷ xs) zero x h = ap f h
at_map f (y ∷ xs) (suc k) x h = at_map f xs k x h

pub take_map_any : {A B : Type 0} (f : A → B) (p : B → Bool) (k : ℕ) (xs : List A) → list_any p (take k (map f xs)) ≡ list_any (λ x. p (f x)) (take k xs)
take_map_any f p k xs = ap (list_any p) (take-map f k xs) ∙ list_any-map f p (take k xs)

pub count_map : {A B : Type 0} (f : A → B) (xs : List A) → length (map f xs) ≡ length xs
count_map f xs = length-map xs f

-- ---- the terminals and the lines of a table
pub any_number : (senders : List Sender) (listeners : List Listener) (number : ℕ) → list_any (λ n. n == number) (sender_numbers senders ++ listener_numbers listeners) ≡ (list_any (λ s. s.number == number) senders || list_any (λ l. l.number == number) listeners)
any_number senders listeners number =
    list_any-append (λ n. n == number) (sender_numbers senders) (listener_numbers listeners)
    ∙ ap (λ b. b || list_any (λ n. n == number) (listener_numbers listeners)) (list_any-map (λ s. s.number) (λ n. n == number) senders)
    ∙ ap (λ b. list_any (λ s. s.number == number) senders || b) (list_any-map (λ l. l.number) (λ n. n == number) listeners)

pub any_pair : (senders : List Sender) (lines : List SendLine) (line : SendLine) → list_any (λ other. same_pair other line) (send_lines senders ++ lines) ≡ (list_any (λ s. list_any (λ other. same_pair other line) s.sends) senders || list_any (λ other. same_pair other line) lines)
any_pair senders lines line =
    list_any-append (λ other. same_pair other line) (send_lines senders) lines
    ∙ ap (λ b. b || list_any (λ other. same_pair other line) lines) (list_any-flat_map (λ s. s.sends) (λ other. same_pair other line) senders)

pub taken_numbers : (before : List ℕ) (listeners : List Listener) (k number : ℕ) → list_any (λ n. n == number) (before ++ take k (listener_numbers listeners)) ≡ list_any (λ n. n == number) (before ++ listener_numbers (take k listeners))
taken_numbers before listeners k number = ap (λ ns. list_any (λ n. n == number) (before ++ ns)) (take-map (λ l. l.number) k listeners)

-- ---- sender by sender
pub one_more : (senders : List Sender) (k : ℕ) (x : Sender) → k < length senders → x ≡ get_or senders k x → send_lines (take (k + 1) senders) ≡ send_lines (take k senders) ++ x.sends
one_more senders k x h e =
    ap send_lines (take_read senders k x h e) ∙ flat_map-append (λ s. s.sends) (take k senders) (x ∷ []) ∙ ap (λ ls. send_lines (take k senders) ++ ls) (append-nil x.sends)

sender_split : (senders : List Sender) (k : ℕ) (x : Sender) → k < length senders → x ≡ get_or senders k x
    → first_again same_pair (send_lines (take k senders)) (send_lines (drop k senders)) ≡ option_or (first_again same_pair (send_lines (take k senders)) x.sends) (first_again same_pair (send_lines (take (k + 1) senders)) (send_lines (drop (k + 1) senders)))
sender_split senders k x h e =
    ap (λ ss. first_again same_pair (send_lines (take k senders)) (send_lines ss)) (drop_read senders k x h e)
    ∙ first_again-append same_pair (send_lines (take k senders)) x.sends (send_lines (drop (k + 1) senders))
    ∙ ap (λ ls. option_or (first_again same_pair (send_lines (take k senders)) x.sends) (first_again same_pair ls (send_lines (drop (k + 1) senders)))) (sym (one_more senders k x h e))

-- a line of the sender is the first
pub sender_stops : (senders : List Sender) (k : ℕ) (x : Sender) (line : SendLine) (total : Option SendLine) → k < length senders → x ≡ get_or senders k x → Some line ≡ first_again same_pair (send_lines (take k senders)) x.sends
    → first_again same_pair (send_lines (take k senders)) (send_lines (drop k senders)) ≡ total → Some line ≡ total
sender_stops senders k x line total h e some so_far =
    ap (λ o. option_or o (first_again same_pair (send_lines (take (k + 1) senders)) (send_lines (drop (k + 1) senders)))) some ∙ sym (sender_split senders k x h e) ∙ so_far

-- no line of the sender is
pub sender_goes_on : (senders : List Sender) (k : ℕ) (x : Sender) (total : Option SendLine) → k < length senders → x ≡ get_or senders k x → None ≡ first_again same_pair (send_lines (take k senders)) x.sends
    → first_again same_pair (send_lines (take k senders)) (send_lines (drop k senders)) ≡ total → first_again same_pair (send_lines (take (k + 1) senders)) (send_lines (drop (k + 1) senders)) ≡ total
sender_goes_on senders k x total h e none so_far =
    ap (λ o. option_or o (first_again same_pair (send_lines (take (k + 1) senders)) (send_lines (drop (k + 1) senders)))) none ∙ sym (sender_split senders k x h e) ∙ so_far

-- the first terminal number that stands twice is a sender's, or else a listener's
pub number_again : (senders : List Sender) (listeners : List Listener) → first_again (λ n m. n == m) [] (sender_numbers senders ++ listener_numbers listeners)
    ≡ option_or (first_again (λ n m. n == m) [] (sender_numbers senders)) (first_again (λ n m. n == m) (sender_numbers senders) (listener_numbers listeners))
number_again senders listeners = first_again-append (λ n m. n == m) [] (sender_numbers senders) (listener_numbers listeners)
