-- Pieces that a reader is fed.
use Rattle.std.proofs.Common.{arith, zero, suc, ◌≡◌, ℕ, ◌+◌, ◌-◌, ◌<◌, ◌≤◌, Bool, true, false, List, [], ◌∷◌, ◌++◌, length, take, nat_lt}
use Rattle.std.proofs.Common.{Ok, refl, sym, ap, subst, ◌∙◌, length-append}
use Rattle.std.proofs.lemmas.Bool.Decides.{nat_tests}
use Rattle.std.proofs.lemmas.List.{length-take, take_all}
use Rattle.std.proofs.Math.Seq.{take-append-add}
use Rattle.bus_trace.specs.States.{text_of}
use Rattle.bus_trace.specs.Runs.{Standing, Progress, Going, Found, Refused, Over, ◌>>-◌, run, begin, due, due_by, stream_of}
use Rattle.bus_trace.specs.inside.Walking.{WalkGives, GoesOn}
use Rattle.bus_trace.specs.Feeding.{ReaderIs}
use Rattle.bus_trace.specs.inside.Feeds.{fed_of, FeedGives, LeadsOn}
use Rattle.bus_trace.specs.declared.walk.Walked.{Walked}
use Rattle.bus_trace.specs.declared.walk.Walked.TheVariants.{Passed, Ended, Failed}
use Rattle.bus_trace.specs.declared.stage.Stage.{Stage}
use Rattle.bus_trace.specs.declared.stage.Stage.TheVariants as stage
use Rattle.bus_trace.proofs.Runs.{run-append}
use Rattle.bus_trace.specs.Limits.{trace_limit}

pub begin_is : ReaderIs stage.Open begin
unfolding text_of run
begin_is = (refl, omega arith)

pub take_on : (limit : ℕ) (xs ys : List ℕ) → length xs ≤ limit → take limit (xs ++ ys) ≡ xs ++ take (limit - length xs) ys
take_on limit xs ys h =
    let e : limit ≡ length xs + (limit - length xs) = omega arith in
    ap (λ n. take n (xs ++ ys)) e ∙ take-append-add xs ys (limit - length xs)

-- what a piece adds is what a run from where the reader stands adds
same_run : (at : Standing) (piece : List ℕ) → run begin (stream_of at) ≡ Going at → length (stream_of at) ≤ trace_limit
    → run begin (take trace_limit (stream_of at ++ piece)) ≡ run at (take (trace_limit - length (stream_of at)) piece)
same_run at piece h k =
    ap (run begin) (take_on trace_limit (stream_of at) piece k)
    ∙ run-append begin (stream_of at) (take (trace_limit - length (stream_of at)) piece)
    ∙ ap (λ o. o >>- λ m. run m (take (trace_limit - length (stream_of at)) piece)) h

lt_same : (a b c d : ℕ) → (a < b → c < d) → (c < d → a < b) → nat_lt a b ≡ nat_lt c d
lt_same a b c d h k = grind (arith, nat_tests)

longer_is : (at : Standing) (piece front : List ℕ) → length (stream_of at) ≤ trace_limit
    → front ≡ take (trace_limit - length (stream_of at)) piece
    → nat_lt trace_limit (length (stream_of at ++ piece)) ≡ nat_lt (length front) (length piece)
longer_is at piece front k e =
    let l = length-take (trace_limit - length (stream_of at)) piece in
    let m = length-append (stream_of at) piece in
    let f = ap length e in
    lt_same trace_limit (length (stream_of at ++ piece)) (length front) (length piece) (λ h. omega arith) (λ h. omega arith)

pub due_is : (at : Standing) (piece front : List ℕ) → run begin (stream_of at) ≡ Going at → length (stream_of at) ≤ trace_limit
    → front ≡ take (trace_limit - length (stream_of at)) piece
    → due trace_limit (stream_of at ++ piece) ≡ due_by (nat_lt (length front) (length piece)) (run at front)
unfolding due
due_is at piece front h k e =
    ap (λ t. due_by t (run begin (take trace_limit (stream_of at ++ piece)))) (longer_is at piece front k e)
    ∙ ap (due_by (nat_lt (length front) (length piece))) (same_run at piece h k ∙ ap (run at) (sym e))

-- a front that isn't shorter is the piece
front_all : (piece front : List ℕ) (room : ℕ) → front ≡ take room piece → nat_lt (length front) (length piece) ≡ false → front ≡ piece
front_all piece front room e h =
    let k : length piece ≤ length front = grind (arith, nat_tests) in
    let l = length-take room piece in
    e ∙ take_all room piece (omega (arith, l, ap length e, k))

pub take_take : (piece : List ℕ) (room used : ℕ) → used ≤ room → take used (take room piece) ≡ take used piece
take_take piece room zero h = refl
take_take [] zero (suc used) h = absurd (omega arith)
take_take [] (suc room) (suc used) h = refl
take_take (x ∷ piece) zero (suc used) h = absurd (omega arith)
take_take (x ∷ piece) (suc room) (suc used) h = ap (λ xs. x ∷ xs) (take_take piece room used (omega arith))

take_front : (piece front : List ℕ) (room used : ℕ) → front ≡ take room piece → used ≤ length front → take used front ≡ take used piece
take_front piece front room used e h = ap (take used) e ∙ take_take piece room used (omega (arith, length-take room piece, ap length e, h))

-- what the reader knows of the piece
pub record Feeds (at : Standing) (piece front : List ℕ) : Type 0 where
  pub going : run begin (stream_of at) ≡ Going at
  pub fits : length (stream_of at) ≤ trace_limit
  pub front_is : front ≡ take (trace_limit - length (stream_of at)) piece

feeds_due : (at : Standing) (piece front : List ℕ) (out : Progress) (t : Bool) → Feeds at piece front → run at front ≡ out
    → nat_lt (length front) (length piece) ≡ t → due trace_limit (stream_of at ++ piece) ≡ due_by t out
feeds_due at piece front out t f h e = due_is at piece front f.going f.fits f.front_is ∙ ap (λ b. due_by b (run at front)) e
    ∙ ap (due_by t) h

-- where a walk went is where the stream leads
on : (at : Standing) (xs : List ℕ) (out : Progress) → run begin (stream_of at) ≡ Going at → run at xs ≡ out
    → run begin (stream_of at ++ xs) ≡ out
on at xs out g h = run-append begin (stream_of at) xs ∙ ap (λ o. o >>- λ m. run m xs) g ∙ h

pub feed_gives : (at new : Standing) (piece front : List ℕ) (w : Walked) (t : Bool) → Feeds at piece front
    → nat_lt (length front) (length piece) ≡ t → WalkGives at new front (Ok w) (run at front)
    → FeedGives (record { stage = stage.Open; at = at }) (record { stage = (fed_of w t).0; at = new }) piece (Ok (fed_of w t).1)
feed_gives at new piece front Passed true f e w = (refl, feeds_due at piece front (Going new) true f w.0 e)
feed_gives at new piece front Passed false f e w = (
  refl,
  feeds_due at piece front (Going new) false f w.0 e,
  w.1
      ∙ ap (λ p. stream_of at ++ p) (front_all piece front (trace_limit - length (stream_of at)) f.front_is e),
)
feed_gives at new piece front (Ended used) t f e w = (
  refl,
  feeds_due at piece front (Found new.state) t f w.0 e,
  w.3,
  omega (arith, ap length f.front_is, length-take (trace_limit - length (stream_of at)) piece, w.2),
  w.4,
  w.1 ∙ ap (λ p. stream_of at ++ p) (take_front piece front (trace_limit - length (stream_of at)) used f.front_is w.2),
  ap (λ p. run begin (stream_of at ++ p)) (sym (take_front piece front (trace_limit - length (stream_of at)) used f.front_is w.2))
      ∙ on at (take used front) (Found new.state) f.going w.5,
)
feed_gives at new piece front (Failed byte reason) t f e w = (refl, feeds_due at piece front (Refused byte reason) t f w e)

room_is : (at : Standing) (piece front : List ℕ) → Feeds at piece front → length (stream_of at ++ front) ≤ trace_limit
room_is at piece front f = omega (
  arith,
  f.fits,
  ap length f.front_is,
  length-take (trace_limit - length (stream_of at)) piece,
  length-append (stream_of at) front,
)

pub feed_is : (at new : Standing) (piece front : List ℕ) (w : Walked) (t : Bool) → Feeds at piece front
    → WalkGives at new front (Ok w) (run at front) → ReaderIs (fed_of w t).0 new
feed_is at new piece front Passed true f w = tt
feed_is at new piece front Passed false f w =
    (ap (run begin) w.1 ∙ on at front (Going new) f.going w.0, omega (arith, ap length w.1, room_is at piece front f))
feed_is at new piece front (Ended used) t f w = (
  ap (run begin) w.1 ∙ on at (take used front) (Found new.state) f.going w.5,
  omega (
    arith,
    ap length w.1,
    length-append (stream_of at) (take used front),
    length-take used front,
    room_is at piece front f,
    length-append (stream_of at) front,
  ),
  w.4,
)
feed_is at new piece front (Failed byte reason) t f w = tt

pub feeds : (at : Standing) (s : Stage) (piece front : List ℕ) (room : ℕ) → ReaderIs s at → s ≡ stage.Open → room ≡ length (stream_of at)
    → front ≡ take (trace_limit - room) piece → Feeds at piece front
feeds at s piece front room i e r k =
    let p : ReaderIs stage.Open at = subst (λ q. ReaderIs q at) e i in
    record { going = p.0; fits = p.1; front_is = k ∙ ap (λ n. take (trace_limit - n) piece) r }

-- a front of the piece is known as well
part_feeds : (at : Standing) (piece front : List ℕ) (used : ℕ) → Feeds at piece front → used ≤ length front
    → Feeds at (take used piece) (take used piece)
part_feeds at piece front used f h = record {
  going = f.going;
  fits = f.fits;
  front_is =
      let l = length-take (trace_limit - length (stream_of at)) piece in
      sym (take_all (trace_limit - length (stream_of at)) (take used piece) (omega (arith, length-take used piece, ap length f.front_is, l, h)));
}

no_longer : (n : ℕ) → nat_lt n n ≡ false
no_longer n = grind (arith, nat_tests)

on_the_piece : (at new : Standing) (piece front : List ℕ) (used : ℕ) → Feeds at piece front
    → GoesOn at new front (Ok used) → WalkGives at new (take used piece) (Ok Passed) (run at (take used piece))
on_the_piece at new piece front used f w =
    let e = take_front piece front (trace_limit - length (stream_of at)) used f.front_is w.0 in
    (ap (run at) (sym e) ∙ w.1, w.2 ∙ ap (λ p. stream_of at ++ p) e)

pub lead_gives : (at new : Standing) (piece front : List ℕ) (used : ℕ) → Feeds at piece front → GoesOn at new front (Ok used)
    → LeadsOn (record { stage = stage.Open; at = at }) (record { stage = stage.Open; at = new }) piece (Ok used)
lead_gives at new piece front used f w = (
  omega (arith, w.0, ap length f.front_is, length-take (trace_limit - length (stream_of at)) piece),
  feed_gives at new (take used piece) (take used piece) Passed false (part_feeds at piece front used f w.0)
      (no_longer (length (take used piece))) (on_the_piece at new piece front used f w),
)

pub lead_is : (at new : Standing) (piece front : List ℕ) (used : ℕ) → Feeds at piece front → GoesOn at new front (Ok used)
    → ReaderIs stage.Open new
lead_is at new piece front used f w =
    feed_is at new (take used piece) (take used piece) Passed false (part_feeds at piece front used f w.0)
    (on_the_piece at new piece front used f w)

-- nothing came
pub begin_due : due trace_limit (stream_of begin) ≡ Going begin
unfolding due run text_of
begin_due = refl

pub more_fits : (xs : List ℕ) (at : Standing) → due trace_limit xs ≡ Going at → length xs ≤ trace_limit
unfolding due
more_fits xs at h = by_test (nat_lt trace_limit (length xs)) refl (run begin (take trace_limit xs)) h where
  by_test : (t : Bool) → nat_lt trace_limit (length xs) ≡ t → (o : Progress) → due_by t o ≡ Going at → length xs ≤ trace_limit
  by_test true e (Going r) k = absurd cc
  by_test true e (Found s) k = absurd cc
  by_test true e (Refused b r) k = absurd cc
  by_test true e Over k = absurd cc
  by_test false e o k = grind (arith, nat_tests)

-- a stream within the limit leads where its bytes do
pub due_within : (xs : List ℕ) (d : Progress) → length xs ≤ trace_limit → run begin xs ≡ d → due trace_limit xs ≡ d
unfolding due
due_within xs d h e = ap (λ t. due_by t (run begin (take trace_limit xs))) (within_is trace_limit (length xs) h)
    ∙ ap (λ x. due_by false (run begin x)) (take_all trace_limit xs h) ∙ ap (due_by false) e ∙ same d where
      within_is : (a b : ℕ) → b ≤ a → nat_lt a b ≡ false
      within_is a b h = grind (arith, nat_tests)

      same : (d : Progress) → due_by false d ≡ d
      same (Going r) = refl
      same (Found s) = refl
      same (Refused b r) = refl
      same Over = refl

pub goes_on : (at : Standing) → due trace_limit (stream_of at) ≡ Going at → run begin (stream_of at) ≡ Going at
unfolding due
goes_on at h = by_test (nat_lt trace_limit (length (stream_of at))) refl (run begin (take trace_limit (stream_of at))) refl h where
  by_test : (t : Bool) → nat_lt trace_limit (length (stream_of at)) ≡ t → (o : Progress) → run begin (take trace_limit (stream_of at)) ≡ o
      → due_by t o ≡ Going at → run begin (stream_of at) ≡ Going at
  by_test true e (Going r) k q = absurd cc
  by_test true e (Found s) k q = absurd cc
  by_test true e (Refused b r) k q = absurd cc
  by_test true e Over k q = absurd cc
  by_test false e o k q =
      let short : length (stream_of at) ≤ trace_limit = grind (arith, nat_tests) in
      ap (run begin) (sym (take_all trace_limit (stream_of at) short)) ∙ k ∙ within o q where
        within : (o : Progress) → due_by false o ≡ Going at → o ≡ Going at
        within (Going r) q = q
        within (Found s) q = absurd cc
        within (Refused b r) q = absurd cc
        within Over q = absurd cc
