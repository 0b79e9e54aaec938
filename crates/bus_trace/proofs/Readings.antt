-- Reads of a source, a line or a part of one at a time.
use Rattle.std.proofs.Common.{arith, ◌≡◌, ◌+◌, ◌-◌, ◌<◌, ◌≤◌, ◌==◌, ◌⊎◌, inl, inr, false, get_or, length-append, append_assoc, ℕ, List}
use Rattle.std.proofs.Common.{[], ◌∷◌, ◌++◌, length, take, IfSome, Some, None, Result, Ok, Err, refl, sym, ap, subst, ◌∙◌, append-nil}
use Rattle.std.proofs.lemmas.List.{take_all, take_more, length-take, take-append-le}
use Rattle.std.proofs.lemmas.Bool.{cases_lt}
use Rattle.std.specs.List.{AllByRecursion}
use Rattle.std.specs.declared.option.Option.{Option}
use Rattle.bus_outer.specs.Sources.{Taken}
use Rattle.bus_outer.proofs.WriteLaws.{taken_on}
use Rattle.bus_trace.specs.declared.reason.TraceReason.{TraceReason}
use Rattle.bus_trace.specs.declared.fault.TraceError.{TraceError}
use Rattle.bus_trace.specs.declared.fault.TraceError.TheVariants.{Text, ReadFault, TooLarge, Memory}
use Rattle.bus_trace.specs.declared.stage.Stage.TheVariants as stage
use Rattle.bus_trace.specs.declared.stage.Fed.TheVariants as fed
use Rattle.bus_trace.specs.Limits.{line_limit, trace_limit}
use Rattle.bus_trace.specs.Traces.{Recording}
use Rattle.bus_trace.specs.States.{State, text_of}
use Rattle.bus_trace.specs.Runs.{Standing, Progress, Going, Found, Refused, Over, HasNoFeed, begin, run, ◌>>-◌, due, stream_of}
use Rattle.bus_trace.specs.Feeding.{Reader}
use Rattle.bus_trace.specs.inside.Feeds.{FeedGives, LeadsOn, FinishGives}
use Rattle.bus_trace.specs.Reading.{Decides}
use Rattle.bus_trace.specs.inside.Looping.{ByLine, ByEnd, Loops}
use Rattle.bus_trace.proofs.Runs.{run-append, run-line, feedless_take}
use Rattle.bus_trace.proofs.Feeds.{begin_due, due_within, goes_on}

pub pulled : (start mid new : Option (List ℕ)) (stream buf : List ℕ) (n : ℕ) → Taken start mid stream → Taken mid new (take n buf)
    → Taken start new (stream ++ take n buf)
pulled start mid new stream buf n t k = taken_on start mid new stream (take n buf) t k

-- what was pulled: bytes that are no line feed, and one byte more, for all of which there is room
pub record Pulled (at : Standing) (piece : List ℕ) : Type 0 where
  pub front : List ℕ
  pub last : ℕ
  pub parts : piece ≡ front ++ last ∷ []
  pub feedless : HasNoFeed front
  pub line : length at.line + length front ≤ line_limit
  pub text : length (stream_of at) + length front ≤ trace_limit

last_of : (n : ℕ) (buf : List ℕ) → 1 ≤ n → n ≤ length buf → take n buf ≡ take (n - 1) buf ++ get_or buf (n - 1) 0 ∷ []
last_of n buf some within =
    let e : n ≡ (n - 1) + 1 = omega arith in
    ap (λ m. take m buf) e ∙ take_more buf (n - 1) 0 (omega arith)

pub pulled_is : (at : Standing) (n room : ℕ) (buf : List ℕ) → 1 ≤ n → n ≤ length buf → length buf ≤ room
    → length at.line + room ≤ line_limit + 1 → length (stream_of at) + room ≤ trace_limit + 1
    → AllByRecursion (λ b. (b == 10) ≡ false) (take (n - 1) buf) → Pulled at (take n buf)
pulled_is at n room buf some within long line text f =
    let l = length-take (n - 1) buf in
    record {
      front = take (n - 1) buf;
      last = get_or buf (n - 1) 0;
      parts = last_of n buf some within;
      feedless = f;
      line = omega (arith, l, some, within, long, line);
      text = omega (arith, l, some, within, long, text);
    }

-- lines at hand were taken, and decide nothing
pub led : (start mid new : Option (List ℕ)) (old r : Reader) (piece lent : List ℕ) (used : ℕ) → Taken start mid (stream_of old.at)
    → LeadsOn old r piece (Ok used) → piece ≡ lent → Taken mid new (take used lent)
    → (r.stage ≡ stage.Open) × (due trace_limit (stream_of r.at) ≡ Going r.at) × Taken start new (stream_of r.at)
led start mid new old r piece lent used t l e k =
    let came = taken_on start mid new (stream_of old.at) (take used piece) t (subst (λ p. Taken mid new (take used p)) (sym e) k) in
    (l.1.0, ap (due trace_limit) l.1.2 ∙ l.1.1, subst (λ bs. Taken start new bs) (sym l.1.2) came)

pub short_slice : (room : ℕ) (xs ys : List ℕ) → length ys ≡ length (take room xs) → length ys ≤ room
short_slice room xs ys h = omega (arith, h, length-take room xs)

-- the front decides nothing
front_going : (at : Standing) (front : List ℕ) → due trace_limit (stream_of at) ≡ Going at → HasNoFeed front
    → length at.line + length front ≤ line_limit → length (stream_of at) + length front ≤ trace_limit
    → (run begin (stream_of at ++ front) ≡ Going (record { state = at.state; line = at.line ++ front }))
    × (due trace_limit (stream_of at ++ front) ≡ Going (record { state = at.state; line = at.line ++ front }))
front_going at front m f line text =
    let g = goes_on at m in
    let r = run-append begin (stream_of at) front ∙ ap (λ o. o >>- λ x. run x front) g ∙ run-line at front f line in
    (r, due_within (stream_of at ++ front) _ (omega (arith, length-append (stream_of at) front, text)) r)

-- the last byte, and what was undecided without it
decides : (at : Standing) (piece : List ℕ) (d : Progress) → due trace_limit (stream_of at) ≡ Going at → Pulled at piece
    → due trace_limit (stream_of at ++ piece) ≡ d → Decides (stream_of at ++ piece) d
decides at piece d m p h = record {
  front = stream_of at ++ p.front;
  last = p.last;
  parts = ap (λ x. stream_of at ++ x) p.parts ∙ sym (append_assoc (stream_of at) p.front (p.last ∷ []));
  before = record { state = at.state; line = at.line ++ p.front };
  undecided = (front_going at p.front m p.feedless p.line p.text).1;
  decided = h;
}

-- an end is found at the last byte alone
all_used : (at : Standing) (piece : List ℕ) (used : ℕ) (s : State) → due trace_limit (stream_of at) ≡ Going at → Pulled at piece
    → used ≤ length piece → run begin (stream_of at ++ take used piece) ≡ Found s → take used piece ≡ piece
all_used at piece used s m p within found = by_case (cases_lt (length p.front) used) where
  by_case : (length p.front < used) ⊎ (used ≤ length p.front) → take used piece ≡ piece
  by_case (inl l) = take_all used piece (omega (arith, l, ap length p.parts, length-append p.front (p.last ∷ [])))
  by_case (inr l) =
      let short : take used piece ≡ take used p.front = ap (take used) p.parts ∙ take-append-le used p.front (p.last ∷ []) l in
      let n = length-take used p.front in
      let g = (front_going at (take used p.front) m (feedless_take used p.front p.feedless) (omega (arith, n, l, p.line))
      (omega (arith, n, l, p.text))).0 in
      let wrong : Going (record { state = at.state; line = at.line ++ take used p.front }) ≡ Found s = sym g
      ∙ ap (λ x. run begin (stream_of at ++ x)) (sym short) ∙ found in
      absurd cc

pub whole_reads : (start new : Option (List ℕ)) (old r : Reader) (piece : List ℕ) (used : ℕ) (result : Result Recording TraceError)
    → Taken start new (stream_of old.at ++ piece) → due trace_limit (stream_of old.at) ≡ Going old.at → Pulled old.at piece
    → FeedGives old r piece (Ok (fed.Whole used)) → FinishGives r result → Loops start new result
whole_reads start new old r piece used (Ok trace) t m p f h = record {
  bytes = stream_of old.at ++ piece;
  came = t;
  gives =
      let all : take used piece ≡ piece = all_used old.at piece used r.at.state m p f.3 f.6 in
      let text : text_of r.at.state ++ r.at.line ≡ stream_of old.at ++ piece = f.5 ∙ ap (λ bs. stream_of old.at ++ bs) all in
      (r.at.state, f.1, sym text ∙ ap (λ bs. text_of r.at.state ++ bs) f.4 ∙ append-nil (text_of r.at.state), h.1);
}
whole_reads start new old r piece used (Err (Text byte reason)) t m p f h = absurd (cc (f.0, h.0))
whole_reads start new old r piece used (Err ReadFault) t m p f h = absurd h
whole_reads start new old r piece used (Err TooLarge) t m p f h = absurd h
whole_reads start new old r piece used (Err Memory) t m p f h = absurd h

pub end_reads : (start mid new : Option (List ℕ)) (r : Reader) (result : Result Recording TraceError) → r.stage ≡ stage.Open
    → due trace_limit (stream_of r.at) ≡ Going r.at → Taken start mid (stream_of r.at)
    → IfSome mid (λ xs. xs ≡ []) → new ≡ mid → FinishGives r result → Loops start new result
end_reads start mid new r (Ok trace) o d t e n h = absurd (cc (o, h.0))
end_reads start mid new r (Err (Text byte reason)) o d t e n h = record {
  bytes = stream_of r.at;
  came = subst (λ m. Taken start m (stream_of r.at)) (sym n) t;
  gives = ByEnd r.at d (subst (λ m. IfSome m (λ xs. xs ≡ [])) (sym n) e) h.1 h.2;
}
end_reads start mid new r (Err ReadFault) o d t e n h = absurd h
end_reads start mid new r (Err TooLarge) o d t e n h = absurd h
end_reads start mid new r (Err Memory) o d t e n h = absurd h

pub fault_reads : (start mid new : Option (List ℕ)) (r : Reader) → due trace_limit (stream_of r.at) ≡ Going r.at
    → Taken start mid (stream_of r.at) → new ≡ mid → Loops start new (Err ReadFault)
fault_reads start mid new r d t n = record {
  bytes = stream_of r.at;
  came =
      subst (λ m. Taken start m (stream_of r.at)) (sym n) t;
  gives = (r.at, d);
}

pub refused_reads : (start new : Option (List ℕ)) (old r : Reader) (piece : List ℕ) (byte : ℕ) (reason : TraceReason)
    → Taken start new (stream_of old.at ++ piece) → due trace_limit (stream_of old.at) ≡ Going old.at → Pulled old.at piece
    → FeedGives old r piece (Ok (fed.Refused byte reason)) → Loops start new (Err (Text byte reason))
refused_reads start new old r piece byte reason t m p f = record {
  bytes = stream_of old.at ++ piece;
  came = t;
  gives =
      ByLine (decides old.at piece (Refused byte reason) m p f.1);
}

pub large_reads : (start new : Option (List ℕ)) (old r : Reader) (piece : List ℕ) → Taken start new (stream_of old.at ++ piece)
    → due trace_limit (stream_of old.at) ≡ Going old.at → Pulled old.at piece → FeedGives old r piece (Ok fed.TooLarge)
    → Loops start new (Err TooLarge)
large_reads start new old r piece t m p f = record {
  bytes = stream_of old.at ++ piece;
  came = t;
  gives =
      decides old.at piece Over m p f.1;
}

pub memory_reads : (start new : Option (List ℕ)) (bytes : List ℕ) → Taken start new bytes → length bytes ≤ trace_limit
    → Loops start new (Err Memory)
memory_reads start new bytes t l = record { bytes = bytes; came = t; gives = l }

pub nothing_taken : (a : Option (List ℕ)) → Taken a a (stream_of begin)
unfolding text_of
nothing_taken None = refl
nothing_taken (Some xs) = refl

nothing_long : length (stream_of begin) ≤ trace_limit
unfolding text_of
nothing_long = omega arith

pub memory_first : (a : Option (List ℕ)) → Loops a a (Err Memory)
memory_first a = memory_reads a a (stream_of begin) (nothing_taken a) nothing_long

pub begins_reading : (a : Option (List ℕ)) (at : Standing) → at ≡ begin → (due trace_limit (stream_of at) ≡ Going at)
    × Taken a a (stream_of at)
begins_reading a at e =
    let P : Standing → Type 0 = λ b. (due trace_limit (stream_of b) ≡ Going b) × Taken a a (stream_of b) in
    subst P (sym e) (begin_due, nothing_taken a)
