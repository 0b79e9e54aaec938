-- Lines among bytes.
use Rattle.std.proofs.Common.{arith, zero, suc, ◌≡◌, ◌≢◌, ◌+◌, ◌-◌, ◌<◌, ◌≤◌, ◌==◌, ℕ, Bool, true, false, cond, List, [], ◌∷◌, ◌++◌}
use Rattle.std.proofs.Common.{length, take, drop, get_or, refl, sym, ap, subst, ◌∙◌, append_assoc, take-append-drop}
use Rattle.std.specs.List.{AllByRecursion}
use Rattle.std.proofs.lemmas.Bool.Decides.{nat_tests}
use Rattle.std.proofs.lemmas.List.{length-take}
use Rattle.bus_outer.specs.Sources.{line_length}

pub line_within : (xs : List ℕ) → line_length xs ≤ length xs
line_within [] = omega arith
line_within (x ∷ xs) = by_feed (x == 10) (line_length xs) (length xs) (line_within xs) where
  by_feed : (t : Bool) (m n : ℕ) → m ≤ n → cond t 1 (suc m) ≤ suc n
  by_feed true m n h = omega arith
  by_feed false m n h = omega arith

pub line_some : (xs : List ℕ) → 0 < length xs → 0 < line_length xs
line_some [] h = absurd (omega arith)
line_some (x ∷ xs) h = by_feed (x == 10) where
  by_feed : (t : Bool) → 0 < cond t 1 (suc (line_length xs))
  by_feed true = omega arith
  by_feed false = omega arith

other : (x : ℕ) → x ≢ 10 → (x == 10) ≡ false
other x h = grind (arith, nat_tests)

feed : (x : ℕ) → x ≡ 10 → (x == 10) ≡ true
feed x h = grind (arith, nat_tests)

pub line_to : (xs : List ℕ) (at : ℕ) → at < length xs → get_or xs at 0 ≡ 10 → ((k : ℕ) → k < at → get_or xs k 0 ≢ 10)
    → line_length xs ≡ at + 1
line_to [] at l h before = absurd (omega arith)
line_to (x ∷ xs) zero l h before = ap (λ t. cond t 1 (suc (line_length xs))) (feed x h)
line_to (x ∷ xs) (suc at) l h before =
    ap (λ t. cond t 1 (suc (line_length xs))) (other x (before 0 (omega arith)))
    ∙ omega (arith, line_to xs at (omega arith) h (λ k m. before (suc k) (omega arith)))

pub line_all : (xs : List ℕ) → ((k : ℕ) → k < length xs → get_or xs k 0 ≢ 10) → line_length xs ≡ length xs
line_all [] h = refl
line_all (x ∷ xs) h = ap (λ t. cond t 1 (suc (line_length xs))) (other x (h 0 (omega arith)))
    ∙ ap suc (line_all xs (λ k m. h (suc k) (omega arith)))

-- what was copied of a front is a front of the whole
pub front_rest : (n m : ℕ) (xs : List ℕ) → n ≤ m → m ≤ length xs → drop n (take m xs) ++ drop m xs ≡ drop n xs
front_rest zero m xs h k = take-append-drop m xs
front_rest (suc n) zero xs h k = absurd (omega arith)
front_rest (suc n) (suc m) [] h k = absurd (omega arith)
front_rest (suc n) (suc m) (x ∷ xs) h k = front_rest n m xs (omega arith) (omega arith)

pub copied_whole : (n m : ℕ) (xs taken : List ℕ) → n ≤ m → m ≤ length xs → take m xs ≡ taken ++ drop n (take m xs) → xs ≡ taken ++ drop n xs
copied_whole n m xs taken h k e =
    sym (take-append-drop m xs) ∙ ap (λ f. f ++ drop m xs) e ∙ append_assoc taken (drop n (take m xs)) (drop m xs)
    ∙ ap (λ r. taken ++ r) (front_rest n m xs h k)

head_is : (x y : ℕ) (xs ys : List ℕ) → x ∷ xs ≡ y ∷ ys → x ≡ y
head_is x y xs ys h = cc

tail_is : (x y : ℕ) (xs ys : List ℕ) → x ∷ xs ≡ y ∷ ys → xs ≡ ys
tail_is x y xs ys h = cc

same_front : (n m : ℕ) (xs buf : List ℕ) → n ≤ m → m ≤ length xs → n ≤ length buf → take m xs ≡ take n buf ++ drop n (take m xs)
    → take n buf ≡ take n xs
same_front zero m xs buf h k l e = refl
same_front (suc n) zero xs buf h k l e = absurd (omega arith)
same_front (suc n) (suc m) [] buf h k l e = absurd (omega arith)
same_front (suc n) (suc m) (x ∷ xs) [] h k l e = absurd (omega arith)
same_front (suc n) (suc m) (x ∷ xs) (b ∷ buf) h k l e =
    ap (λ c. c ∷ take n buf) (sym (head_is x b _ _ e)) ∙ ap (λ r. x ∷ r)
    (same_front n m xs buf (omega arith) (omega arith) (omega arith) (tail_is x b _ _ e))

no_feed : (x m n : ℕ) → suc (suc n) ≤ cond (x == 10) 1 (suc m) → ((x == 10) ≡ false) × (suc n ≤ m)
no_feed x m n h = by_feed (x == 10) h where
  by_feed : (t : Bool) → suc (suc n) ≤ cond t 1 (suc m) → (t ≡ false) × (suc n ≤ m)
  by_feed true l = absurd (omega arith)
  by_feed false l = (refl, omega arith)

stops_at : (n : ℕ) (xs buf : List ℕ) → suc n ≤ line_length xs → take (suc n) buf ≡ take (suc n) xs
    → AllByRecursion (λ b. (b == 10) ≡ false) (take n buf)
stops_at zero xs buf h e = tt
stops_at (suc n) [] buf h e = absurd (omega arith)
stops_at (suc n) (x ∷ xs) [] h e = tt
stops_at (suc n) (x ∷ xs) (b ∷ buf) h e =
    let k = no_feed x (line_length xs) n h in
    (ap (λ c. c == 10) (head_is b x _ _ e) ∙ k.0, stops_at n xs buf k.1 (tail_is b x _ _ e))

stops_by : (n : ℕ) (xs buf : List ℕ) → n ≤ line_length xs → n ≤ length buf
    → take (line_length xs) xs ≡ take n buf ++ drop n (take (line_length xs) xs) → (m : ℕ) → m ≡ n - 1
    → AllByRecursion (λ b. (b == 10) ≡ false) (take m buf)
stops_by zero xs buf h l e m k = subst (λ i. AllByRecursion (λ b. (b == 10) ≡ false) (take i buf)) (let z : 0 ≡ m = omega arith in z) tt
stops_by (suc n) xs buf h l e m k =
    subst (λ i. AllByRecursion (λ b. (b == 10) ≡ false) (take i buf)) (let z : n ≡ m = omega arith in z)
    (stops_at n xs buf h (same_front (suc n) (line_length xs) xs buf h (line_within xs) l e))

-- of what was copied of a line none but the last byte is a line feed
pub stops : (n : ℕ) (xs line buf : List ℕ) → line ≡ take (line_length xs) xs → n ≤ length line → n ≤ length buf
    → line ≡ take n buf ++ drop n line → AllByRecursion (λ b. (b == 10) ≡ false) (take (n - 1) buf)
stops n xs line buf l h k e = stops_by n xs buf (omega (arith, ap length l, length-take (line_length xs) xs, h)) k
    (sym l ∙ e ∙ ap (λ t. take n buf ++ drop n t) l) (n - 1) refl

pub copied : (n : ℕ) (xs line buf : List ℕ) → line ≡ take (line_length xs) xs → n ≤ length line → line ≡ take n buf ++ drop n line
    → xs ≡ take n buf ++ drop n xs
copied n xs line buf l h e =
    copied_whole n (line_length xs) xs (take n buf) (omega (arith, ap length l, length-take (line_length xs) xs, h)) (line_within xs)
    (sym l ∙ e ∙ ap (λ t. take n buf ++ drop n t) l)

pub line_is_long : (xs line : List ℕ) → line ≡ take (line_length xs) xs → length line ≡ line_length xs
line_is_long xs line l = ap length l ∙ length-take (line_length xs) xs ∙ omega (arith, line_within xs)
