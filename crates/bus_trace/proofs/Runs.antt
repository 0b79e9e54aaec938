-- Runs over bytes.
use Rattle.std.proofs.Common.{arith, zero, suc, ◌≡◌, ◌≢◌, ℕ, ◌+◌, ◌<◌, ◌≤◌, Bool, true, false, cond, List, [], ◌∷◌, ◌++◌, length, take}
use Rattle.std.proofs.Common.{drop, get_or, nat_lt, refl, sym, ap, ◌∙◌, append_assoc, append-nil, length-append}
use Rattle.std.proofs.lemmas.Bool.Decides.{nat_tests}
use Rattle.std.proofs.lemmas.Bool.{lt-ltb}
use Rattle.bus_text.specs.Lines.{is_feed}
use Rattle.bus_trace.specs.declared.reason.TraceReason.TheVariants.{Long}
use Rattle.bus_trace.specs.States.{step, text_of}
use Rattle.bus_trace.specs.Runs.{Standing, Progress, Going, Found, Refused, Over, judged, take_byte, ◌>>-◌, run, HasNoFeed}
use Rattle.bus_trace.specs.Limits.{line_limit}

then_assoc : (o : Progress) (f g : Standing → Progress) → ((o >>- f) >>- g) ≡ (o >>- λ r. f r >>- g)
then_assoc (Going r) f g = refl
then_assoc (Found s) f g = refl
then_assoc (Refused b r) f g = refl
then_assoc Over f g = refl

then_same : (o : Progress) (f g : Standing → Progress) → ((n : Standing) → f n ≡ g n) → (o >>- f) ≡ (o >>- g)
then_same (Going n) f g h = h n
then_same (Found s) f g h = refl
then_same (Refused b e) f g h = refl
then_same Over f g h = refl

-- a run goes on, however the bytes are cut
pub run-append : (r : Standing) (xs ys : List ℕ) → run r (xs ++ ys) ≡ (run r xs >>- λ n. run n ys)
unfolding run
run-append r [] ys = refl
run-append r (x ∷ xs) ys =
    then_same (take_byte r x) (λ n. run n (xs ++ ys)) (λ n. run n xs >>- λ m. run m ys) (λ n. run-append n xs ys)
    ∙ sym (then_assoc (take_byte r x) (λ n. run n xs) (λ n. run n ys))

ge_is : (a b : ℕ) → b ≤ a → nat_lt a b ≡ false
ge_is a b h = grind (arith, nat_tests)

-- a byte that is no line feed, within the room of a line
byte_kept : (r : Standing) (b : ℕ) → is_feed b ≡ false → length r.line < line_limit
    → take_byte r b ≡ Going (record { state = r.state; line = r.line ++ b ∷ [] })
unfolding take_byte
byte_kept r b h k =
    ap (λ t. cond t (judged r.state (step r.state r.line)) (cond (nat_lt (length r.line) line_limit)
    (Going (record { state = r.state; line = r.line ++ b ∷ [] })) (Refused (length (text_of r.state)) Long))) h
    ∙ ap (λ t. cond t (Going (record { state = r.state; line = r.line ++ b ∷ [] })) (Refused (length (text_of r.state)) Long))
    (lt-ltb (length r.line) line_limit k)

byte_long : (r : Standing) (b : ℕ) → is_feed b ≡ false → line_limit ≤ length r.line
    → take_byte r b ≡ Refused (length (text_of r.state)) Long
unfolding take_byte
byte_long r b h k =
    ap (λ t. cond t (judged r.state (step r.state r.line)) (cond (nat_lt (length r.line) line_limit)
    (Going (record { state = r.state; line = r.line ++ b ∷ [] })) (Refused (length (text_of r.state)) Long))) h
    ∙ ap (λ t. cond t (Going (record { state = r.state; line = r.line ++ b ∷ [] })) (Refused (length (text_of r.state)) Long))
    (ge_is (length r.line) line_limit k)

-- bytes with no line feed, within the room of a line
pub run-line : (r : Standing) (xs : List ℕ) → HasNoFeed xs → length r.line + length xs ≤ line_limit
    → run r xs ≡ Going (record { state = r.state; line = r.line ++ xs })
unfolding run
run-line r [] h k = ap (λ (l : List ℕ). Going (record { state = r.state; line = l })) (sym (append-nil r.line))
run-line r (x ∷ xs) h k =
    let n : Standing = record { state = r.state; line = r.line ++ x ∷ [] } in
    ap (λ o. o >>- λ m. run m xs) (byte_kept r x h.0 (omega arith))
    ∙ run-line n xs h.1 (omega (arith, length-append r.line (x ∷ [])))
    ∙ ap (λ (l : List ℕ). Going (record { state = r.state; line = l })) (append_assoc r.line (x ∷ []) xs)

long_by : (r : Standing) (x : ℕ) (xs : List ℕ) (t : Bool) → is_feed x ≡ false → nat_lt (length r.line) line_limit ≡ t
    → (length r.line < line_limit → run (record { state = r.state; line = r.line ++ x ∷ [] }) xs ≡ Refused
    (length (text_of r.state)) Long) → run r (x ∷ xs) ≡ Refused (length (text_of r.state)) Long
unfolding run
long_by r x xs true h e rest =
    let room : length r.line < line_limit = grind (arith, nat_tests) in
    ap (λ o. o >>- λ m. run m xs) (byte_kept r x h room) ∙ rest room
long_by r x xs false h e rest =
    let full : line_limit ≤ length r.line = grind (arith, nat_tests) in
    ap (λ o. o >>- λ m. run m xs) (byte_long r x h full)

-- bytes with no line feed, past the room of a line
pub run-long : (r : Standing) (xs : List ℕ) → HasNoFeed xs → length r.line ≤ line_limit → line_limit < length r.line + length xs
    → run r xs ≡ Refused (length (text_of r.state)) Long
run-long r [] h k l = absurd (omega arith)
run-long r (x ∷ xs) h k l = long_by r x xs _ h.0 refl (λ room. run-long (record { state = r.state; line = r.line ++ x ∷ [] }) xs h.1
    (omega (arith, length-append r.line (x ∷ []))) (omega (arith, length-append r.line (x ∷ []))))

-- a line that is complete
pub run-feed : (r : Standing) → run r (10 ∷ []) ≡ judged r.state (step r.state r.line)
unfolding run take_byte
run-feed r = back (judged r.state (step r.state r.line)) where
  back : (o : Progress) → (o >>- λ n. run n []) ≡ o
  back (Going n) = refl
  back (Found s) = refl
  back (Refused b e) = refl
  back Over = refl

pub run-whole_line : (r : Standing) (xs : List ℕ) → HasNoFeed xs → length r.line + length xs ≤ line_limit
    → run r (xs ++ 10 ∷ []) ≡ judged r.state (step r.state (r.line ++ xs))
run-whole_line r xs h k =
    let n : Standing = record { state = r.state; line = r.line ++ xs } in
    run-append r xs (10 ∷ []) ∙ ap (λ o. o >>- λ m. run m (10 ∷ [])) (run-line r xs h k) ∙ run-feed n

pub run-whole_long : (r : Standing) (xs ys : List ℕ) → HasNoFeed xs → length r.line ≤ line_limit → line_limit < length r.line + length xs
    → run r (xs ++ ys) ≡ Refused (length (text_of r.state)) Long
run-whole_long r xs ys h k l = run-append r xs ys ∙ ap (λ o. o >>- λ m. run m ys) (run-long r xs h k l)

-- ---- line feeds by position
pub no_feed : (xs : List ℕ) → ((k : ℕ) → k < length xs → get_or xs k 0 ≢ 10) → HasNoFeed xs
no_feed [] h = tt
no_feed (x ∷ xs) h = (other x (h 0 (omega arith)), no_feed xs (λ k l. h (suc k) (omega arith))) where
  other : (x : ℕ) → x ≢ 10 → is_feed x ≡ false
  other x e = grind (arith, nat_tests)

pub no_feed-take : (xs : List ℕ) (at : ℕ) → at ≤ length xs → ((k : ℕ) → k < at → get_or xs k 0 ≢ 10) → HasNoFeed (take at xs)
no_feed-take xs zero l h = tt
no_feed-take [] (suc at) l h = absurd (omega arith)
no_feed-take (x ∷ xs) (suc at) l h = (other x (h 0 (omega arith)), no_feed-take xs at (omega arith) (λ k m. h (suc k) (omega arith))) where
  other : (x : ℕ) → x ≢ 10 → is_feed x ≡ false
  other x e = grind (arith, nat_tests)

pub split-feed : (xs : List ℕ) (at : ℕ) → at < length xs → get_or xs at 0 ≡ 10 → xs ≡ take at xs ++ 10 ∷ drop (suc at) xs
split-feed [] at l h = absurd (omega arith)
split-feed (x ∷ xs) zero l h = ap (λ y. y ∷ xs) h
split-feed (x ∷ xs) (suc at) l h = ap (λ ys. x ∷ ys) (split-feed xs at (omega arith) h)

pub feedless_take : (n : ℕ) (xs : List ℕ) → HasNoFeed xs → HasNoFeed (take n xs)
feedless_take zero xs h = tt
feedless_take (suc n) [] h = tt
feedless_take (suc n) (x ∷ xs) h = (h.0, feedless_take n xs h.1)
