-- Data words, one behind the other.
use Rattle.std.proofs.Common.{◌≡◌, ℕ, suc, ◌+◌, ◌*◌, ◌<◌, Bool, List, [], ◌∷◌, ◌++◌, length, take, get_or, append-nil, arith, sym, ap, ◌∙◌}
use Rattle.std.proofs.lemmas.List.{append_assoc, length-take, take_more}
use Rattle.bus_pen.specs.declared.scale.Scale.{Scale}
use Rattle.bus_picture.specs.Strings.{data_at, data_from}

behind : (scale : Scale) (top : ℕ) (garbled : Bool) (t : ℕ) (xs : List ℕ) (y : ℕ)
    → data_from scale top garbled t (xs ++ y ∷ []) ≡ data_from scale top garbled t xs ++ data_at scale top garbled (t + 20 * length xs) y
behind scale top garbled t [] y =
    append-nil (data_at scale top garbled t y) ∙ ap (λ n. data_at scale top garbled n y) (let e : t ≡ t + 20 * 0 = omega arith in e)
behind scale top garbled t (x ∷ xs) y =
    ap (λ (w : List ℕ). data_at scale top garbled t x ++ w) (behind scale top garbled (t + 20) xs y)
    ∙ sym (append_assoc (data_at scale top garbled t x) (data_from scale top garbled (t + 20) xs) (data_at scale top garbled (t + 20 + 20 * length xs) y))
    ∙ ap (λ n. (data_at scale top garbled t x ++ data_from scale top garbled (t + 20) xs) ++ data_at scale top garbled n y)
    (let e : t + 20 + 20 * length xs ≡ t + 20 * suc (length xs) = omega arith in e)

-- One data word more.
pub one_more : (scale : Scale) (top : ℕ) (garbled : Bool) (t : ℕ) (words : List ℕ) (k : ℕ) (d : ℕ) → k < length words
    → data_from scale top garbled t (take (k + 1) words)
    ≡ data_from scale top garbled t (take k words) ++ data_at scale top garbled (t + 20 * k) (get_or words k d)
one_more scale top garbled t words k d h =
    ap (data_from scale top garbled t) (take_more words k d h) ∙ behind scale top garbled t (take k words) (get_or words k d)
    ∙ ap (λ n. data_from scale top garbled t (take k words) ++ data_at scale top garbled (t + 20 * n) (get_or words k d))
    (let e : length (take k words) ≡ k = omega (arith, length-take k words) in e)
