-- A walk over the transmissions of a terminal, and what each gives.
use Rattle.std.proofs.Common.{◌≡◌, ℕ, zero, suc, ◌+◌, ◌<◌, ◌≤◌, ◌==◌, Bool, true, false, cond, List, [], ◌∷◌, ◌++◌, length, take, drop, get_or, Option, Some, None, refl, ap, sym, ◌∙◌, arith}
use Rattle.std.specs.Prelude.{IfNone}
use Rattle.std.specs.List.{filter, find, zip}
use Rattle.std.specs.Option.{option_map}
use Rattle.std.proofs.lemmas.List.{take_more, take_all}
use Rattle.std.proofs.Math.Seq.{drop-cons}
use Rattle.bus_strings.specs.Messages.{Wordstring, Message, Entry}
use Rattle.bus_vote.specs.Rounds.{is_of, is_named, words_in}

-- what is left from a place on, given the marks that are left
abbrev pub left : ℕ → List Entry → ℕ → List Bool → List (Entry × Bool)
left terminal list at ms = filter (is_of terminal) (zip (drop at list) ms)

-- nothing is left where no marks are, or no list
unmarked : (terminal : ℕ) (xs : List Entry) → filter (is_of terminal) (zip xs []) ≡ []
unmarked terminal [] = refl
unmarked terminal (x ∷ xs) = refl

pub left_unmarked : (terminal : ℕ) (list : List Entry) (at : ℕ) (ms : List Bool) → ms ≡ [] → left terminal list at ms ≡ []
left_unmarked terminal list at ms e = ap (left terminal list at) e ∙ unmarked terminal (drop at list)

past : {X : Type 0} (xs : List X) (i : ℕ) → length xs ≤ i → drop i xs ≡ []
past [] zero h = refl
past [] (suc i) h = refl
past (x ∷ xs) zero h = absurd (omega arith)
past (x ∷ xs) (suc i) h = past xs i (omega arith)

pub left_past : (terminal : ℕ) (list : List Entry) (at : ℕ) (ms : List Bool) → length list ≤ at → left terminal list at ms ≡ []
left_past terminal list at ms h = ap (λ xs. filter (is_of terminal) (zip xs ms)) (past list at h)

-- one transmission further
pub left_here : (terminal : ℕ) (list : List Entry) (at : ℕ) (x : Entry) (m : Bool) (old new : List Bool) → at < length list → x ≡ get_or list at x → old ≡ m ∷ new
    → left terminal list at old ≡ cond (x.terminal == terminal) ((x, m) ∷ left terminal list (at + 1) new) (left terminal list (at + 1) new)
left_here terminal list at x m old new within is e =
    let one : suc at ≡ at + 1 = omega arith in
    ap (left terminal list at) e
    ∙ ap (λ xs. filter (is_of terminal) (zip xs (m ∷ new))) (drop-cons list at x within ∙ ap (λ y. y ∷ drop (suc at) list) (sym is))
    ∙ ap (λ n. cond (x.terminal == terminal) ((x, m) ∷ left terminal list n new) (left terminal list n new)) one

pub left_own : (terminal : ℕ) (list : List Entry) (at : ℕ) (x : Entry) (m : Bool) (old new : List Bool) → at < length list → x ≡ get_or list at x → old ≡ m ∷ new
    → (x.terminal == terminal) ≡ true → left terminal list at old ≡ (x, m) ∷ left terminal list (at + 1) new
left_own terminal list at x m old new within is e own =
    left_here terminal list at x m old new within is e
    ∙ ap (λ (t : Bool). cond t ((x, m) ∷ left terminal list (at + 1) new) (left terminal list (at + 1) new)) own

pub left_other : (terminal : ℕ) (list : List Entry) (at : ℕ) (x : Entry) (m : Bool) (old new : List Bool) → at < length list → x ≡ get_or list at x → old ≡ m ∷ new
    → (x.terminal == terminal) ≡ false → left terminal list at old ≡ left terminal list (at + 1) new
left_other terminal list at x m old new within is e other =
    left_here terminal list at x m old new within is e
    ∙ ap (λ (t : Bool). cond t ((x, m) ∷ left terminal list (at + 1) new) (left terminal list (at + 1) new)) other

pub when_none : {X : Type 0} {P : Type 0} (r : Option X) → P → IfNone r P
when_none None p = p
when_none (Some x) p = tt

-- ---- the first that passes a test
find_push : {X : Type 0} (p : X → Bool) (xs ys : List X) (x : X) → find p xs ≡ None → find p (xs ++ x ∷ ys) ≡ cond (p x) (Some x) (find p ys)
find_push p [] ys x h = refl
find_push {X = X} p (z ∷ zs) ys x h = by_test (p z) h (λ k. find_push p zs ys x k) where
  by_test : (t : Bool) → cond t (Some z) (find p zs) ≡ None → (find p zs ≡ None → find p (zs ++ x ∷ ys) ≡ cond (p x) (Some x) (find p ys))
      → cond t (Some z) (find p (zs ++ x ∷ ys)) ≡ cond (p x) (Some x) (find p ys)
  by_test true k next = absurd (let w : Some z ≡ None = k in cc)
  by_test false k next = next k

pub find_more : {X : Type 0} (p : X → Bool) (xs : List X) (i : ℕ) (x : X) → i < length xs → x ≡ get_or xs i x → find p (take i xs) ≡ None → p x ≡ false
    → find p (take (i + 1) xs) ≡ None
find_more p xs i x within is h other =
    ap (find p) (take_more xs i x within ∙ ap (λ y. take i xs ++ y ∷ []) (sym is)) ∙ find_push p (take i xs) [] x h ∙ ap (λ t. cond t (Some x) None) other

parts_at : {X : Type 0} (xs : List X) (i : ℕ) (x : X) → i < length xs → x ≡ get_or xs i x → xs ≡ take i xs ++ x ∷ drop (suc i) xs
parts_at [] i x within is = absurd (omega arith)
parts_at (y ∷ ys) zero x within is = ap (λ z. z ∷ ys) (sym is)
parts_at (y ∷ ys) (suc i) x within is = ap (λ zs. y ∷ zs) (parts_at ys i x (omega arith) is)

find_here : {X : Type 0} (p : X → Bool) (xs : List X) (i : ℕ) (x : X) → i < length xs → x ≡ get_or xs i x → find p (take i xs) ≡ None → p x ≡ true
    → find p xs ≡ Some x
find_here p xs i x within is h own =
    ap (find p) (parts_at xs i x within is) ∙ find_push p (take i xs) (drop (suc i) xs) x h ∙ ap (λ t. cond t (Some x) (find p (drop (suc i) xs))) own

pub words_here : (label ext : ℕ) (message strings : Message) (i : ℕ) (x : Wordstring) (words : List ℕ) → strings ≡ message → i < length strings → x ≡ get_or strings i x
    → find (is_named label ext) (take i strings) ≡ None → is_named label ext x ≡ true → words ≡ x.words → Some words ≡ words_in label ext message
words_here label ext message strings i x words same within is h own w =
    ap Some w ∙ sym (ap (words_in label ext) (sym same)
    ∙ ap (option_map (λ (s : Wordstring). s.words)) (find_here (is_named label ext) strings i x within is h own))

pub words_nowhere : (label ext : ℕ) (message strings : Message) (i : ℕ) → strings ≡ message → length strings ≤ i → find (is_named label ext) (take i strings) ≡ None
    → None ≡ words_in label ext message
words_nowhere label ext message strings i same end h =
    sym (ap (words_in label ext) (sym same ∙ sym (take_all i strings end)) ∙ ap (option_map (λ (s : Wordstring). s.words)) h)
