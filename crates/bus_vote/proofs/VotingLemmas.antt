-- The places of a vote are a front of all places, and two equal lists fix the vote.
use Rattle.std.proofs.Common.{◌≡◌, ◌⊎◌, ◌↔◌, ℕ, zero, suc, ◌+◌, ◌-◌, ◌<◌, ◌≤◌, min, max, Bool, true, false, cond, ◌&&◌, ◌||◌, nat_eq, nat_lt, List, [], ◌∷◌, length, map, get_or, Option, Some, None, inl, inr, refl, ap, sym, subst, ◌∙◌, arith}
use Rattle.std.specs.Prelude.{is_some, slice_get, IfSome, IsTrue}
use Rattle.std.specs.List.{filter, range_with_len}
use Rattle.std.specs.Option.{option_or}
use Rattle.std.proofs.lemmas.Bool.{cases_lt, eqb-true, eq-eqb, true≢false, lt-ltb, le-ltb}
use Rattle.std.proofs.lemmas.Bool.Decides.{nat_tests}
use Rattle.std.proofs.lemmas.List.FromFn.{length-range_with_len, fill_by_all}
use Rattle.std.proofs.lemmas.List.{length-map, get_or-map}
use Rattle.std.proofs.lemmas.Option.{slice_get-get_or}
use Rattle.bus_vote.specs.Votes.{TwoAre, word_at, is_place, word_count, longest, places, width, agreed, majority, vote_at, votes}

-- ---- which places there are
some_within : {X : Type 0} (xs : List X) (k : ℕ) → is_some (slice_get xs k) ≡ nat_lt k (length xs)
some_within [] k = sym (le-ltb k 0 (omega arith))
some_within (x ∷ xs) zero = sym (lt-ltb 0 (length (x ∷ xs)) (omega arith))
some_within (x ∷ xs) (suc k) = some_within xs k ∙ grind (arith, nat_tests)

-- a list has a word at each place below its number of words
has_word : (words : Option (List ℕ)) (k : ℕ) → is_some (word_at words k) ≡ nat_lt k (word_count words)
has_word None k = sym (le-ltb k 0 (omega arith))
has_word (Some list) k = some_within list k

-- the middle one of three numbers, as the code computes it
abbrev pub middle : ℕ → ℕ → ℕ → ℕ
middle x y z = max (max (min x y) (min x z)) (min y z)

-- at least two of three numbers are above k
two_above : (k x y z : ℕ) → ((nat_lt k x && nat_lt k y) || ((nat_lt k x && nat_lt k z) || (nat_lt k y && nat_lt k z))) ≡ nat_lt k (middle x y z)
two_above k x y z = elim (cases_lt k x) [
  | inl a ↦ rw (lt-ltb k x a) (elim (cases_lt k y) [
    | inl b ↦ rw (lt-ltb k y b) (sym (lt-ltb k (middle x y z) (omega arith)))
    | inr b ↦ rw (le-ltb k y b) (elim (cases_lt k z) [
      | inl c ↦ rw (lt-ltb k z c) (sym (lt-ltb k (middle x y z) (omega arith)))
      | inr c ↦ rw (le-ltb k z c) (sym (le-ltb k (middle x y z) (omega arith)))
    ])
  ])
  | inr a ↦ rw (le-ltb k x a) (elim (cases_lt k y) [
    | inl b ↦ rw (lt-ltb k y b) (elim (cases_lt k z) [
      | inl c ↦ rw (lt-ltb k z c) (sym (lt-ltb k (middle x y z) (omega arith)))
      | inr c ↦ rw (le-ltb k z c) (sym (le-ltb k (middle x y z) (omega arith)))
    ])
    | inr b ↦ rw (le-ltb k y b) (sym (le-ltb k (middle x y z) (omega arith)))
  ])
]

-- how many places: the middle one of the numbers of words
abbrev pub middle_count : Option (List ℕ) → Option (List ℕ) → Option (List ℕ) → ℕ
middle_count a b c = middle (word_count a) (word_count b) (word_count c)

place_is : (a b c : Option (List ℕ)) (k : ℕ) → is_place a b c k ≡ nat_lt k (middle_count a b c)
place_is a b c k =
    rw (has_word a k, has_word b k, has_word c k) (two_above k (word_count a) (word_count b) (word_count c))

-- ---- a test that passes exactly a front
none_pass : (p : ℕ → Bool) (i n : ℕ) → ((k : ℕ) → i ≤ k → p k ≡ false) → filter p (range_with_len i n) ≡ []
none_pass p i zero h = refl
none_pass p i (suc n) h = rw (h i (omega arith)) (none_pass p (i + 1) n (λ k le. h k (omega arith)))

front_passes : (p : ℕ → Bool) (i n r : ℕ) → ((k : ℕ) → i ≤ k → k < i + n → p k ≡ true) → ((k : ℕ) → i + n ≤ k → p k ≡ false)
    → filter p (range_with_len i (n + r)) ≡ range_with_len i n
front_passes p i zero r h g =
    let e : 0 + r ≡ r = omega arith in
    ap (λ m. filter p (range_with_len i m)) e ∙ none_pass p i r (λ k le. g k (omega arith))
front_passes p i (suc n) r h g =
    let e : suc n + r ≡ suc (n + r) = omega arith in
    ap (λ m. filter p (range_with_len i m)) e
    ∙ rw (h i (omega arith) (omega arith)) (ap (λ t. i ∷ t) (front_passes p (i + 1) n r (λ k le lt. h k (omega arith) (omega arith)) (λ k le. g k (omega arith))))

-- the places of a vote are the first so many
pub places_are : (a b c : Option (List ℕ)) → places a b c ≡ range_with_len 0 (middle_count a b c)
places_are a b c =
    let m : ℕ = middle_count a b c in
    let e : longest a b c ≡ m + (longest a b c - m) = omega arith in
    ap (λ n. filter (is_place a b c) (range_with_len 0 n)) e
    ∙ front_passes (is_place a b c) 0 m (longest a b c - m)
    (λ k le lt. place_is a b c k ∙ lt-ltb k m (omega arith))
    (λ k le. place_is a b c k ∙ le-ltb k m (omega arith))

pub width_is : (a b c : Option (List ℕ)) → width a b c ≡ middle_count a b c
width_is a b c = ap length (places_are a b c) ∙ length-range_with_len 0 (middle_count a b c)

pub places_front : (a b c : Option (List ℕ)) → places a b c ≡ range_with_len 0 (width a b c)
places_front a b c = places_are a b c ∙ ap (range_with_len 0) (sym (width_is a b c))

pub within_width : (a b c : Option (List ℕ)) (n k : ℕ) → n ≡ width a b c → (k < n) ↔ IsTrue (is_place a b c k)
within_width a b c n k e = (
  (λ lt. place_is a b c k ∙ lt-ltb k (middle_count a b c) (omega (arith, width_is a b c))),
  (λ h. elim (cases_lt k n) [
    | inl lt ↦ lt
    | inr le ↦ absurd (true≢false (sym h ∙ place_is a b c k ∙ le-ltb k (middle_count a b c) (omega (arith, width_is a b c))))
  ]),
)

-- ---- the word that two have
both_have : (x : ℕ) (a b : Option ℕ) → agreed a b ≡ Some x → (a ≡ Some x) × (b ≡ Some x)
both_have x None None h = absurd cc
both_have x None (Some z) h = absurd cc
both_have x (Some y) None h = absurd cc
both_have x (Some y) (Some z) h = by_test (nat_eq y z) refl h where
  by_test : (t : Bool) → nat_eq y z ≡ t → cond t (Some y) None ≡ Some x → (Some y ≡ Some x) × (Some z ≡ Some x)
  by_test true e k = (k, ap Some (sym (eqb-true y z e)) ∙ k)
  by_test false e k = absurd cc

same_word : (x : ℕ) (a b : Option ℕ) → a ≡ Some x → b ≡ Some x → agreed a b ≡ Some x
same_word x a b h k = rw (h, k) (rw (eq-eqb x x refl) refl)

-- what agrees with a word is that word, or nothing
agreed_is : (x : ℕ) (a b : Option ℕ) → (a ≡ Some x) ⊎ (b ≡ Some x) → (agreed a b ≡ None) ⊎ (agreed a b ≡ Some x)
agreed_is x a b h = by_answer (agreed a b) refl where
  by_answer : (o : Option ℕ) → agreed a b ≡ o → (o ≡ None) ⊎ (o ≡ Some x)
  by_answer None e = inl refl
  by_answer (Some y) e =
      let both = both_have y a b e in
      inr (elim h [ inl k ↦ sym both.0 ∙ k | inr k ↦ sym both.1 ∙ k ])

or_cases : (x : ℕ) (p q : Option ℕ) → option_or p q ≡ Some x → (p ≡ Some x) ⊎ (q ≡ Some x)
or_cases x None q h = inr h
or_cases x (Some y) q h = inl h

or_here : (x : ℕ) (p q : Option ℕ) → p ≡ Some x → option_or p q ≡ Some x
or_here x p q h = rw h refl

or_else : (x : ℕ) (p q : Option ℕ) → (p ≡ None) ⊎ (p ≡ Some x) → q ≡ Some x → option_or p q ≡ Some x
or_else x p q (inl h) k = rw h k
or_else x p q (inr h) k = rw h refl

pub majority_is : (x : ℕ) (a b c : Option ℕ) → (majority a b c ≡ Some x) ↔ TwoAre x a b c
majority_is x a b c = (
  (λ h. elim (or_cases x (agreed a b) _ h) [
    | inl p ↦ inl (both_have x a b p)
    | inr r ↦ elim (or_cases x (agreed a c) (agreed b c) r) [
      | inl p ↦ inr (inl (both_have x a c p))
      | inr p ↦ inr (inr (both_have x b c p))
    ]
  ]),
  (λ h. elim h [
    | inl p ↦ or_here x (agreed a b) _ (same_word x a b p.0 p.1)
    | inr r ↦ elim r [
      | inl p ↦ or_else x (agreed a b) _ (agreed_is x a b (inl p.0)) (or_here x (agreed a c) (agreed b c) (same_word x a c p.0 p.1))
      | inr p ↦ or_else x (agreed a b) _ (agreed_is x a b (inr p.0))
          (or_else x (agreed a c) (agreed b c) (agreed_is x a c (inr p.1)) (same_word x b c p.0 p.1))
    ]
  ]),
)

pub vote_is : (a b c : Option (List ℕ)) (k : ℕ) (x y z r : Option ℕ) → x ≡ word_at a k → y ≡ word_at b k → z ≡ word_at c k → r ≡ majority x y z → r ≡ vote_at a b c k
vote_is a b c k x y z r p q s h = h ∙ ap (λ w. majority w y z) p ∙ ap (λ w. majority (word_at a k) w z) q ∙ ap (majority (word_at a k) (word_at b k)) s

pub some_is : (o : Option ℕ) (x k : ℕ) → o ≡ Some x → IfSome o (λ n. n ≡ k) → x ≡ k
some_is o x k e h = subst (λ (q : Option ℕ). IfSome q (λ n. n ≡ k)) e h

-- ---- two equal lists
two_map : {X Y : Type 0} (f : Option X → Option Y) (x : X) (y : Y) (a b c : Option X) → ((o : Option X) → o ≡ Some x → f o ≡ Some y) → TwoAre x a b c
    → TwoAre y (f a) (f b) (f c)
two_map f x y a b c h (inl p) = inl (h a p.0, h b p.1)
two_map f x y a b c h (inr (inl p)) = inr (inl (h a p.0, h c p.1))
two_map f x y a b c h (inr (inr p)) = inr (inr (h b p.0, h c p.1))

count_of_two : (words : List ℕ) (a b c : Option (List ℕ)) → TwoAre words a b c → middle_count a b c ≡ length words
count_of_two words a b c (inl p) = rw (p.0, p.1) (omega arith)
count_of_two words a b c (inr (inl p)) = rw (p.0, p.1) (omega arith)
count_of_two words a b c (inr (inr p)) = rw (p.0, p.1) (omega arith)

pub width_of_two : (words : List ℕ) (a b c : Option (List ℕ)) → TwoAre words a b c → width a b c ≡ length words
width_of_two words a b c h = width_is a b c ∙ count_of_two words a b c h

word_of_two : (words : List ℕ) (k : ℕ) → k < length words → (o : Option (List ℕ)) → o ≡ Some words → word_at o k ≡ Some (get_or words k 0)
word_of_two words k within o h = ap (λ w. word_at w k) h ∙ slice_get-get_or words k 0 within

pub vote_of_two : (words : List ℕ) (a b c : Option (List ℕ)) (k : ℕ) → TwoAre words a b c → k < width a b c → vote_at a b c k ≡ Some (get_or words k 0)
vote_of_two words a b c k h within =
    let inside : k < length words = omega (arith, width_of_two words a b c h) in
    (majority_is (get_or words k 0) (word_at a k) (word_at b k) (word_at c k)).1
    (two_map (λ o. word_at o k) words (get_or words k 0) a b c (word_of_two words k inside) h)

pub votes_of_two : (words : List ℕ) (a b c : Option (List ℕ)) → TwoAre words a b c → votes a b c ≡ map Some words
votes_of_two words a b c h =
    let w = width_of_two words a b c h in
    ap (map (vote_at a b c)) (places_front a b c ∙ ap (range_with_len 0) w)
    ∙ sym (fill_by_all (vote_at a b c) (map Some words) (length words) None (length-map words Some)
    (λ k within. get_or-map Some words k 0 None within ∙ sym (vote_of_two words a b c k h (omega (arith, w)))))
