-- Lines of a source, as they come piece by piece.
use Rattle.std.specs.Prelude.{◌≡◌, ℕ, suc, ◌+◌, ◌-◌, ◌≤◌, ◌<◌, ◌==◌, true, false, List, [], ◌∷◌, ◌++◌, length, take, drop, min, Option, IfSome, Some, None}
use Rattle.std.specs.List.{AllByRecursion}
use Rattle.std.specs.Option.{unwrap_or}
use Rattle.std.proofs.Common.{arith, refl, sym, ap, subst, cond, ◌∙◌, get_or, append_assoc, length-append, length-drop}
use Rattle.std.proofs.Math.Seq.{take-append_seam, take-append-add}
use Rattle.std.proofs.lemmas.List.{take-append-le, length-take, take_more}
use Rattle.std.proofs.lemmas.Bool.Decides.{nat_tests}
use Rattle.std.proofs.lemmas.Slice.{take-put_mid_below}
use borrow.Rule.Slice.PartMut.{mid_of, put_mid, post_of, same_len_mid}
use Rattle.bus_outer.specs.Sources.{line_length}
use Rattle.bus_command.specs.Heard.{next_line, most_line}

-- it has no line feed
abbrev pub IsFeedless : List ℕ → Type 0
IsFeedless bytes = AllByRecursion (λ b. (b == 10) ≡ false) bytes

pub feedless_append : (xs ys : List ℕ) → IsFeedless xs → IsFeedless ys → IsFeedless (xs ++ ys)
feedless_append [] ys h k = k
feedless_append (x ∷ xs) ys h k = (h.0, feedless_append xs ys h.1 k)

-- what has no line feed is of one line with what follows
line_length-feedless : (xs rest : List ℕ) → IsFeedless xs → line_length (xs ++ rest) ≡ length xs + line_length rest
line_length-feedless [] rest h = omega arith
line_length-feedless (x ∷ xs) rest h =
    let next = line_length-feedless xs rest h.1 in
    ap (λ b. cond b 1 (suc (line_length (xs ++ rest)))) h.0 ∙ omega (arith, next)

-- whose line feed ends it
line_length-ended : (front rest : List ℕ) → IsFeedless front → line_length (front ++ 10 ∷ rest) ≡ length front + 1
line_length-ended front rest h = line_length-feedless front (10 ∷ rest) h

-- ---- the next line
taken_whole : (xs rest : List ℕ) (n : ℕ) → n ≡ length xs → take n (xs ++ rest) ≡ xs
taken_whole xs rest n e = ap (λ n. take n (xs ++ rest)) e ∙ take-append_seam xs rest

pub ended_line : (front rest : List ℕ) → IsFeedless front → length front < most_line → next_line ((front ++ 10 ∷ []) ++ rest) ≡ front ++ 10 ∷ []
ended_line front rest h short =
    let long : line_length ((front ++ 10 ∷ []) ++ rest) ≡ length front + 1 = ap line_length (append_assoc front (10 ∷ []) rest) ∙ line_length-ended front rest h in
    taken_whole (front ++ 10 ∷ []) rest _ (omega (arith, long, length-append front (10 ∷ [])))

pub full_line : (xs rest : List ℕ) → IsFeedless xs → length xs ≡ most_line → next_line (xs ++ rest) ≡ xs
full_line xs rest h full = taken_whole xs rest _ (omega (arith, full, line_length-feedless xs rest h))

pub last_line : (xs : List ℕ) → IsFeedless xs → length xs ≤ most_line → next_line (xs ++ []) ≡ xs
last_line xs h short = taken_whole xs [] _ (omega (arith, short, line_length-feedless xs [] h))

pub line_length-le : (bytes : List ℕ) → line_length bytes ≤ length bytes
line_length-le [] = omega arith
line_length-le (b ∷ bs) = elim (b == 10) as (λ t. cond t 1 (suc (line_length bs)) ≤ length (b ∷ bs)) [ true ↦ omega arith | false ↦ omega (arith, line_length-le bs) ]

pub part_line : (xs rest : List ℕ) → IsFeedless xs → length xs ≤ most_line → length xs ≤ length (next_line (xs ++ rest))
part_line xs rest h short =
    omega (arith, short, length-take (min most_line (line_length (xs ++ rest))) (xs ++ rest), line_length-feedless xs rest h, length-append xs rest)

-- ---- a piece more
-- it stands behind what came before
pub piece_put : (a k m : ℕ) (xs ys : List ℕ) → a ≤ length xs → m ≤ length ys → take (a + m) (put_mid a k xs ys) ≡ take a xs ++ take m ys
piece_put a k m xs ys fits short =
    let front : length (take a xs) ≡ a = omega (arith, length-take a xs) in
    ap (λ n. take (n + m) (put_mid a k xs ys)) (sym front)
    ∙ take-append-add (take a xs) (ys ++ post_of a k xs) m
    ∙ ap (λ l. take a xs ++ l) (take-append-le m ys (post_of a k xs) short)

-- but for its last byte it has no line feed
front_feedless : (a k n : ℕ) (xs ys : List ℕ) → a ≤ length xs → 1 ≤ n → n ≤ length ys → IsFeedless (take a xs) → IsFeedless (take (n - 1) ys)
    → IsFeedless (take (a + n - 1) (put_mid a k xs ys))
front_feedless a k n xs ys fits some short h stops =
    let same : a + n - 1 ≡ a + (n - 1) = omega arith in
    subst IsFeedless (sym (ap (λ m. take m (put_mid a k xs ys)) same ∙ piece_put a k (n - 1) xs ys fits (omega arith)))
    (feedless_append (take a xs) (take (n - 1) ys) h stops)

-- all of it is that and its last byte
last_of : (count : ℕ) (zs : List ℕ) → 0 < count → count ≤ length zs → take count zs ≡ take (count - 1) zs ++ get_or zs (count - 1) 0 ∷ []
last_of count zs some fits =
    let same : count ≡ count - 1 + 1 = omega arith in
    ap (λ m. take m zs) same ∙ take_more zs (count - 1) 0 (omega arith)

length_mid : (a k : ℕ) (xs ys : List ℕ) → a ≤ length xs → a + length ys ≤ length (put_mid a k xs ys)
length_mid a k xs ys fits = omega (arith, length-append (take a xs) (ys ++ post_of a k xs), length-append ys (post_of a k xs), length-take a xs)

module _ (a k n : ℕ) (xs ys : List ℕ) (fits : a ≤ length xs) (some : 1 ≤ n) (short : n ≤ length ys) (h : IsFeedless (take a xs))
    (stops : IsFeedless (take (n - 1) ys)) where
  line_is : take (a + n) (put_mid a k xs ys) ≡ take (a + n - 1) (put_mid a k xs ys) ++ get_or (put_mid a k xs ys) (a + n - 1) 0 ∷ []
  line_is = last_of (a + n) (put_mid a k xs ys) (omega arith) (omega (arith, length_mid a k xs ys fits))

  -- so where that isn't one either, all of it has none
  pub goes_on : (get_or (put_mid a k xs ys) (a + n - 1) 0 == 10) ≡ false → IsFeedless (take (a + n) (put_mid a k xs ys))
  goes_on other = subst IsFeedless (sym line_is) (feedless_append _ _ (front_feedless a k n xs ys fits some short h stops) (other, tt))

  -- and where it is, the line ends there
  pub ends : get_or (put_mid a k xs ys) (a + n - 1) 0 ≡ 10 → a + n ≤ most_line → (rest : List ℕ)
      → next_line (take (a + n) (put_mid a k xs ys) ++ rest) ≡ take (a + n) (put_mid a k xs ys)
  ends feed low rest =
      let is : take (a + n) (put_mid a k xs ys) ≡ take (a + n - 1) (put_mid a k xs ys) ++ 10 ∷ [] = line_is ∙ ap (λ b. take (a + n - 1) (put_mid a k xs ys) ++ b ∷ []) feed in
      subst (λ l. next_line (l ++ rest) ≡ l) (sym is)
      (ended_line (take (a + n - 1) (put_mid a k xs ys)) rest (front_feedless a k n xs ys fits some short h stops)
      (omega (arith, length-take (a + n - 1) (put_mid a k xs ys))))

-- ---- what is left
-- of a source that tells nothing, nothing is
abbrev pub rest_of : Option (List ℕ) → List ℕ
rest_of left = unwrap_or left []

pub rest_is : (left : Option (List ℕ)) → IfSome left (λ text. text ≡ rest_of left)
rest_is None = tt
rest_is (Some text) = refl

-- at its end too
pub none_left : (left : Option (List ℕ)) → IfSome left (λ text. text ≡ []) → rest_of left ≡ []
none_left None h = refl
none_left (Some text) h = h

pub unfed : (b : ℕ) → (b ≡ 10 → ⊥) → (b == 10) ≡ false
unfed b h = grind (arith, nat_tests)

-- where nothing came, nothing more stands there
pub nothing_more : (a : ℕ) (xs ys : List ℕ) → a ≤ length xs → take a (put_mid a (32 - a) xs ys) ≡ take a xs
nothing_more a xs ys fits = take-put_mid_below a (32 - a) xs ys a (omega arith) fits

-- the line keeps its room, and the piece has room there
pub room_kept : (a : ℕ) (xs ys : List ℕ) → length xs ≡ 32 → length ys ≡ length (mid_of a (32 - a) xs) → length (put_mid a (32 - a) xs ys) ≡ 32
room_kept a xs ys room full = same_len_mid a (32 - a) xs ys full ∙ room

pub piece_fits : (a n : ℕ) (xs ys : List ℕ) → length xs ≡ 32 → a ≤ 32 → length ys ≡ length (mid_of a (32 - a) xs) → n ≤ length ys → a + n ≤ 32
piece_fits a n xs ys room low full short = omega (arith, length-take (32 - a) (drop a xs), length-drop a xs)
