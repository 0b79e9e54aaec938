-- Rows that grow by one.
use Rattle.std.specs.Prelude.{◌≡◌, ℕ, suc, ◌+◌, ◌*◌, ◌<◌, ◌≤◌, List, [], ◌∷◌, ◌++◌, length, slice_get, Some}
use Rattle.std.proofs.Common.{arith, ap, sym, ◌∙◌, map, take, get_or, append_assoc, append-nil}
use Rattle.std.proofs.lemmas.List.{length-take, map-append, take_all, take_more}
use Rattle.std.proofs.lemmas.Option.{get_or_from_slice_get, slice_get_within}
use Rattle.bus_page.specs.Rows.{rows}

-- one row behind the others
behind : {X : Type 0} (form : ℕ → X → List ℕ) (apart top : ℕ) (xs : List X) (y : X)
    → rows form apart top (xs ++ y ∷ []) ≡ rows form apart top xs ++ form (top + apart * length xs) y
behind form apart top [] y = append-nil (form top y) ∙ ap (λ n. form n y) (let e : top ≡ top + apart * 0 = omega arith in e)
behind form apart top (x ∷ xs) y =
    ap (λ t. form top x ++ t) (behind form apart (top + apart) xs y)
    ∙ sym (append_assoc (form top x) (rows form apart (top + apart) xs) (form (top + apart + apart * length xs) y))
    ∙ ap (λ n. (form top x ++ rows form apart (top + apart) xs) ++ form n y)
    (let e : top + apart + apart * length xs ≡ top + apart * suc (length xs) = omega arith in e)

-- the rows of one more, which stands here
pub rows_more : {X : Type 0} (form : ℕ → X → List ℕ) (apart first : ℕ) (xs : List X) (i : ℕ) (d : X) (top : ℕ) → i < length xs → top ≡ first + apart * i
    → rows form apart first (take (i + 1) xs) ≡ rows form apart first (take i xs) ++ form top (get_or xs i d)
rows_more form apart first xs i d top within is =
    ap (rows form apart first) (take_more xs i d within) ∙ behind form apart first (take i xs) (get_or xs i d)
    ∙ ap (λ n. rows form apart first (take i xs) ++ form (first + apart * n) (get_or xs i d))
    (let e : length (take i xs) ≡ i = omega (arith, length-take i xs) in e)
    ∙ ap (λ n. rows form apart first (take i xs) ++ form n (get_or xs i d)) (sym is)

-- all rows
pub all_rows : {X : Type 0} (form : ℕ → X → List ℕ) (apart top : ℕ) (xs : List X) (i : ℕ) → length xs ≤ i
    → rows form apart top (take i xs) ≡ rows form apart top xs
all_rows form apart top xs i past = ap (rows form apart top) (take_all i xs past)

-- the images of one more
pub map_more : {X Y : Type 0} (f : X → Y) (xs : List X) (i : ℕ) (x : X) → slice_get xs i ≡ Some x → map f (take (i + 1) xs) ≡ map f (take i xs) ++ f x ∷ []
map_more f xs i x at =
    ap (map f) (take_more xs i x (slice_get_within xs i x at) ∙ ap (λ y. take i xs ++ y ∷ []) (get_or_from_slice_get xs i x x at))
    ∙ map-append f (take i xs) (x ∷ [])
