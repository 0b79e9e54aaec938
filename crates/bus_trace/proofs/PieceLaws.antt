-- What is due for a stream, in the words of the grammar and of the refusals.
use Rattle.std.proofs.Common.{arith, ◌≡◌, ℕ, ◌+◌, ◌-◌, ◌<◌, ◌≤◌, inl, inr, true, List, [], ◌∷◌, ◌++◌, length}
use Rattle.std.proofs.Common.{take, drop, nat_lt, Result, Ok, Err, IfOk, OnErr, refl, sym, ap, subst, ◌∙◌, append_assoc, append-nil}
use Rattle.std.proofs.Common.{length-append, take-append-drop}
use Rattle.std.specs.List.{join_with_byte}
use Rattle.std.proofs.lemmas.Bool.Decides.{nat_tests}
use Rattle.std.proofs.lemmas.List.{length-take}
use Rattle.std.proofs.Math.Seq.{take-append_seam}
use Rattle.bus_text.specs.Canonical.{spelled_line, spelled_lines}
use Rattle.std.specs.declared.alloc.AllocError.{AllocError}
use Rattle.bus_trace.specs.declared.reason.TraceReason.{TraceReason}
use Rattle.bus_trace.specs.declared.reason.TraceReason.TheVariants.{Long}
use Rattle.bus_trace.specs.declared.stage.Fed.{Fed}
use Rattle.bus_trace.specs.declared.stage.Fed.TheVariants as fed
use Rattle.bus_trace.specs.declared.stage.Stage.TheVariants as stage
use Rattle.bus_trace.specs.declared.fault.TraceError.{TraceError}
use Rattle.bus_trace.specs.declared.fault.TraceError.TheVariants.{Text, ReadFault, TooLarge, Memory}
use Rattle.bus_trace.specs.Limits.{line_limit, trace_limit}
use Rattle.bus_trace.specs.Traces.{Recording, Line, IsTraceText, HoldsTrace}
use Rattle.bus_trace.specs.States.{State, lines_of, text_of, recorded}
use Rattle.bus_trace.specs.inside.Sound.{IsSound}
use Rattle.bus_trace.specs.Runs.{Standing, Progress, Going, Found, Refused, Over, judged, take_byte, ◌>>-◌, run, begin, due}
use Rattle.bus_trace.specs.Runs.{due_by, stream_of, behind}
use Rattle.bus_trace.specs.Reading.{Offends, Complete, Overlong}
use Rattle.bus_trace.specs.Feeding.{Reader, ReaderIs}
use Rattle.bus_trace.specs.inside.Feeds.{FeedGives, FinishGives}
use Rattle.bus_trace.specs.Pieces.{stream, IsShut, IsWholeAt, IsRefusedAt, IsUndecided, IsDue, Stands as StandsThen, IsPending, AreLines}
use Rattle.bus_trace.specs.Pieces.{Finishes}
use Rattle.bus_trace.proofs.Runs.{run-append, run-whole_line, run-long}
use Rattle.bus_trace.proofs.Walks.{start_sound}
use Rattle.bus_trace.proofs.Feeds.{take_on, more_fits, due_within}
use Rattle.bus_trace.proofs.Again.{ended}
use Rattle.bus_trace.proofs.ReadLaws.{refuses_byte, holds_due}
use Rattle.bus_trace.proofs.ReadRuns.{MarkLaws, ByteGives, Stands, due_refused, due_over, run_within, run_goes}
use Rattle.bus_trace.proofs.ReadRuns.{begin_stands, begin_stream, byte_gives, stands_byte, found_trace, found_front}

-- ---- a whole text
abbrev pub whole_holds : (xs : List ℕ) (count : ℕ) (w : IsWholeAt xs count) → HoldsTrace trace_limit xs w.trace
whole_holds xs count w = record {
  front = take count xs;
  rest = drop count xs;
  parts = sym (take-append-drop count xs);
  short = omega (arith, length-take count xs, w.short);
  text = w.text;
}

-- where a front is whole, its state is found, and the text of that state is the front
pub whole_found : MarkLaws → (xs : List ℕ) (count : ℕ) → IsWholeAt xs count → (s : State) × (due trace_limit xs ≡ Found s)
    × (length (text_of s) ≡ count)
whole_found laws xs count w =
    let h = whole_holds xs count w in
    let d = holds_due laws trace_limit xs w.trace h in
    let t = found_trace laws trace_limit xs (ended w.text.format w.trace) d in
    (ended w.text.format w.trace, d, ap length (t.1 ∙ sym w.text.text_is) ∙ length-take count xs ∙ omega (arith, w.within))

pub found_whole : MarkLaws → (xs : List ℕ) (s : State) (count : ℕ) → due trace_limit xs ≡ Found s → count ≡ length (text_of s)
    → IsWholeAt xs count
found_whole laws xs s count h e =
    let t = found_trace laws trace_limit xs s h in
    let p = found_front trace_limit xs s h in
    let front : take count xs ≡ text_of s = ap (λ n. take n xs) e ∙ ap (take (length (text_of s))) p.1 ∙ take-append_seam (text_of s) p.0 in
    record {
      trace = recorded s;
      within = omega (arith, ap length p.1, length-append (text_of s) p.0, e);
      short = omega (arith, t.2, ap length t.1, e);
      text = record { format = s.format; trace = t.0; text_is = front ∙ t.1 };
    }

-- ---- a refusal
record Refusal (r : Standing) (bs : List ℕ) (byte : ℕ) (reason : TraceReason) : Type 0 where
  front : List ℕ
  rest : List ℕ
  parts : bs ≡ front ++ rest
  offends : Offends (stream_of r ++ front) byte reason

going_gives : (r n : Standing) (b : ℕ) → IsSound r.state → take_byte r b ≡ Going n → (stream_of n ≡ stream_of r ++ b ∷ []) × IsSound n.state
going_gives r n b sound e = subst (ByteGives (stream_of r ++ b ∷ [])) e (byte_gives r b sound)

refusal_next : (r : Standing) (b : ℕ) (bs : List ℕ) (byte : ℕ) (reason : TraceReason) (o : Progress) → take_byte r b ≡ o
    → IsSound r.state → Stands r → (o >>- λ n. run n bs) ≡ Refused byte reason
    → ((n : Standing) → IsSound n.state → Stands n → stream_of n ≡ stream_of r ++ b ∷ [] → run n bs ≡ Refused byte reason
    → Refusal n bs byte reason) → Refusal r (b ∷ bs) byte reason
refusal_next r b bs byte reason (Going n) e sound i h later =
    let g = going_gives r n b sound e in
    let k = later n g.1 (stands_byte r n b sound i e) g.0 h in
    record {
      front = b ∷ k.front;
      rest = k.rest;
      parts = ap (λ x. b ∷ x) k.parts;
      offends = subst (λ x. Offends x byte reason) (ap (λ x. x ++ k.front) g.0 ∙ append_assoc (stream_of r) (b ∷ []) k.front) k.offends;
    }
refusal_next r b bs byte reason (Found s) e sound i h later = absurd cc
refusal_next r b bs byte reason (Refused at why) e sound i h later = record {
  front = b ∷ [];
  rest = bs;
  parts = refl;
  offends = refuses_byte r b byte reason i (e ∙ h);
}
refusal_next r b bs byte reason Over e sound i h later = absurd cc

run_refusal : (r : Standing) (bs : List ℕ) (byte : ℕ) (reason : TraceReason) → IsSound r.state → Stands r
    → run r bs ≡ Refused byte reason → Refusal r bs byte reason
unfolding run
run_refusal r [] byte reason sound i h = absurd cc
run_refusal r (b ∷ bs) byte reason sound i h = refusal_next r b bs byte reason (take_byte r b) refl sound i h
    (λ n s k t q. run_refusal n bs byte reason s k q)

pub refused_at : (xs : List ℕ) (byte : ℕ) (reason : TraceReason) → due trace_limit xs ≡ Refused byte reason → IsRefusedAt xs byte reason
unfolding due
refused_at xs byte reason h =
    let d = due_refused (nat_lt trace_limit (length xs)) (run begin (take trace_limit xs)) byte reason h in
    let r = run_refusal begin (take trace_limit xs) byte reason start_sound begin_stands d in
    record {
      front = r.front;
      rest = r.rest ++ drop trace_limit xs;
      parts = sym (take-append-drop trace_limit xs) ∙ ap (λ x. x ++ drop trace_limit xs) r.parts
          ∙ append_assoc r.front r.rest (drop trace_limit xs);
      short = omega (arith, length-take trace_limit xs, ap length r.parts, length-append r.front r.rest);
      offends = subst (λ x. Offends x byte reason) (begin_stream r.front) r.offends;
    }

pub offends_refused : (front : List ℕ) (byte : ℕ) (reason : TraceReason) → Offends front byte reason → run begin front ≡ Refused byte reason
offends_refused front byte reason (Complete at p short h) =
    ap (run begin) p ∙ run-append begin at.lines (at.line ++ 10 ∷ []) ∙ ap (λ o. o >>- λ m. run m (at.line ++ 10 ∷ [])) at.gave.run
    ∙ run-whole_line (behind at.before) at.line at.feedless (omega (arith, short)) ∙ ap (judged at.before) h
    ∙ ap (λ n. Refused n reason) (sym (ap length at.gave.text) ∙ sym at.place)
offends_refused front byte reason (Overlong at p long e) =
    ap (run begin) p ∙ run-append begin at.lines at.line ∙ ap (λ o. o >>- λ m. run m at.line) at.gave.run
    ∙ run-long (behind at.before) at.line at.feedless (omega arith) (omega (arith, long))
    ∙ ap (λ n. Refused n Long) (sym (ap length at.gave.text) ∙ sym at.place) ∙ ap (λ (x : TraceReason). Refused byte x) (sym e)

pub refused_due : (xs : List ℕ) (byte : ℕ) (reason : TraceReason) → IsRefusedAt xs byte reason → due trace_limit xs ≡ Refused byte reason
unfolding due
refused_due xs byte reason r =
    ap (λ x. due_by (nat_lt trace_limit (length xs)) (run begin x))
    (ap (take trace_limit) r.parts ∙ take_on trace_limit r.front r.rest r.short)
    ∙ ap (due_by (nat_lt trace_limit (length xs))) (run-append begin r.front (take (trace_limit - length r.front) r.rest)
    ∙ ap (λ o. o >>- λ m. run m (take (trace_limit - length r.front) r.rest)) (offends_refused r.front byte reason r.offends))

-- ---- neither
going_undecided : MarkLaws → (xs : List ℕ) (at : Standing) → due trace_limit xs ≡ Going at → IsUndecided xs
going_undecided laws xs at h = record {
  no_text = λ count w. let f = whole_found laws xs count w in let wrong : Going at ≡ Found f.0 = sym h ∙ f.1 in cc;
  no_refusal = λ byte reason r. let wrong : Going at ≡ Refused byte reason = sym h ∙ refused_due xs byte reason r in cc;
}

over_undecided : MarkLaws → (xs : List ℕ) → due trace_limit xs ≡ Over → IsUndecided xs
over_undecided laws xs h = record {
  no_text = λ count w. let f = whole_found laws xs count w in let wrong : Over ≡ Found f.0 = sym h ∙ f.1 in cc;
  no_refusal = λ byte reason r. let wrong : Over ≡ Refused byte reason = sym h ∙ refused_due xs byte reason r in cc;
}

over_long : (xs : List ℕ) → due trace_limit xs ≡ Over → trace_limit < length xs
unfolding due
over_long xs h =
    let d = due_over (nat_lt trace_limit (length xs)) (run begin (take trace_limit xs)) (run_within begin (take trace_limit xs)) h in
    longer trace_limit (length xs) d.0 where
      longer : (a b : ℕ) → nat_lt a b ≡ true → a < b
      longer a b h = grind (arith, nat_tests)

-- ---- the answer of a piece
used_text : (old new : Reader) (piece : List ℕ) (used : ℕ) → FeedGives old new piece (Ok (fed.Whole used))
    → length (stream old) + used ≡ length (text_of new.at.state)
used_text old new piece used f =
    omega (
      arith,
      ap length f.5,
      ap length f.4,
      length-append (text_of new.at.state) new.at.line,
      length-append (stream_of old.at) (take used piece),
      length-take used piece,
      f.3,
    )

pub given_due : MarkLaws → (old new : Reader) (piece : List ℕ) (a : Fed) → FeedGives old new piece (Ok a)
    → IsDue (stream old ++ piece) (length (stream old)) a
given_due laws old new piece fed.More f = (
  more_fits (stream old ++ piece) new.at f.1,
  going_undecided laws (stream old ++ piece) new.at f.1,
)
given_due laws old new piece (fed.Whole used) f = found_whole laws (stream old ++ piece) new.at.state (length (stream old) + used) f.1
    (used_text old new piece used f)
given_due laws old new piece (fed.Refused byte reason) f = refused_at (stream old ++ piece) byte reason f.1
given_due laws old new piece fed.TooLarge f = (over_long (stream old ++ piece) f.1, over_undecided laws (stream old ++ piece) f.1)

whole_same : (m n : State) → Found m ≡ Found n → m ≡ n
whole_same m n h = cc

whole_only : MarkLaws → (old new : Reader) (piece : List ℕ) (a : Fed) (count : ℕ) (s : State) → FeedGives old new piece (Ok a)
    → due trace_limit (stream old ++ piece) ≡ Found s → length (text_of s) ≡ length (stream old) + count → fed.Whole count ≡ a
whole_only laws old new piece fed.More count s f d e = let wrong : Going new.at ≡ Found s = sym f.1 ∙ d in absurd cc
whole_only laws old new piece (fed.Whole used) count s f d e =
    let same = whole_same s new.at.state (sym d ∙ f.1) in
    let n : count ≡ used = omega (arith, e, ap (λ (t : State). length (text_of t)) same, used_text old new piece used f) in
    ap (λ k. fed.Whole k) n
whole_only laws old new piece (fed.Refused byte reason) count s f d e = let wrong : Refused byte reason ≡ Found s = sym f.1 ∙ d in absurd cc
whole_only laws old new piece fed.TooLarge count s f d e = let wrong : Over ≡ Found s = sym f.1 ∙ d in absurd cc

refused_only : (old new : Reader) (piece : List ℕ) (a : Fed) (byte : ℕ) (reason : TraceReason) → FeedGives old new piece (Ok a)
    → due trace_limit (stream old ++ piece) ≡ Refused byte reason → fed.Refused byte reason ≡ a
refused_only old new piece fed.More byte reason f d = let wrong : Going new.at ≡ Refused byte reason = sym f.1 ∙ d in absurd cc
refused_only old new piece (fed.Whole used) byte reason f d = let wrong : Found new.at.state ≡ Refused byte reason = sym f.1
    ∙ d in absurd cc
refused_only old new piece (fed.Refused at why) byte reason f d =
    let same : Refused byte reason ≡ Refused at why = sym d ∙ f.1 in
    let b : byte ≡ at = cc in
    let r : reason ≡ why = cc in
    ap (λ n. fed.Refused n reason) b ∙ ap (λ (x : TraceReason). fed.Refused at x) r
refused_only old new piece fed.TooLarge byte reason f d = let wrong : Over ≡ Refused byte reason = sym f.1 ∙ d in absurd cc

large_only : MarkLaws → (old new : Reader) (piece : List ℕ) (a : Fed) → FeedGives old new piece (Ok a)
    → trace_limit < length (stream old ++ piece) → IsUndecided (stream old ++ piece) → fed.TooLarge ≡ a
large_only laws old new piece fed.More f l u = absurd (omega (arith, l, more_fits (stream old ++ piece) new.at f.1))
large_only laws old new piece (fed.Whole used) f l u = absurd
    (u.no_text (length (stream old) + used) (given_due laws old new piece (fed.Whole used) f))
large_only laws old new piece (fed.Refused byte reason) f l u =
    absurd (u.no_refusal byte reason (given_due laws old new piece (fed.Refused byte reason) f))
large_only laws old new piece fed.TooLarge f l u = refl

more_only : MarkLaws → (old new : Reader) (piece : List ℕ) (a : Fed) → FeedGives old new piece (Ok a)
    → length (stream old ++ piece) ≤ trace_limit → IsUndecided (stream old ++ piece) → fed.More ≡ a
more_only laws old new piece fed.More f l u = refl
more_only laws old new piece (fed.Whole used) f l u = absurd
    (u.no_text (length (stream old) + used) (given_due laws old new piece (fed.Whole used) f))
more_only laws old new piece (fed.Refused byte reason) f l u =
    absurd (u.no_refusal byte reason (given_due laws old new piece (fed.Refused byte reason) f))
more_only laws old new piece fed.TooLarge f l u = absurd (omega (arith, l, over_long (stream old ++ piece) f.1))

pub only_due : MarkLaws → (old new : Reader) (piece : List ℕ) (a : Fed) → FeedGives old new piece (Ok a) → (b : Fed)
    → IsDue (stream old ++ piece) (length (stream old)) b → b ≡ a
only_due laws old new piece a f fed.More d = more_only laws old new piece a f d.0 d.1
only_due laws old new piece a f (fed.Whole count) d = let w =
    whole_found laws (stream old ++ piece) (length (stream old) + count) d in whole_only laws old new piece a count w.0 f w.1 w.2
only_due laws old new piece a f (fed.Refused byte reason) d =
    refused_only old new piece a byte reason f (refused_due (stream old ++ piece) byte reason d)
only_due laws old new piece a f fed.TooLarge d = large_only laws old new piece a f d.0 d.1

pub stands_then : (old new : Reader) (piece : List ℕ) (a : Fed) → FeedGives old new piece (Ok a) → StandsThen old new piece a
stands_then old new piece fed.More f = (f.0, f.2)
stands_then old new piece (fed.Whole used) f = (f.0, f.2, f.3, f.5)
stands_then old new piece (fed.Refused byte reason) f = f.0
stands_then old new piece fed.TooLarge f = f.0

-- ---- what is pending
are_lines : (ls : List Line) → AreLines (spelled_lines ls)
are_lines [] = inl refl
are_lines (l ∷ ls) = behind (are_lines ls) where
  behind : AreLines (spelled_lines ls) → AreLines (spelled_line l ++ spelled_lines ls)
  behind (inl none) = inr (join_with_byte 32 l, ap (λ x. spelled_line l ++ x) none ∙ append-nil (spelled_line l))
  behind (inr some) = inr (
    spelled_line l ++ some.0,
    ap (λ x. spelled_line l ++ x) some.1
        ∙ sym (append_assoc (spelled_line l) some.0 (10 ∷ [])),
  )

text_lines : (s : State) → AreLines (text_of s)
unfolding text_of
text_lines s = are_lines (lines_of s)

pub pending_is : (at : Standing) → ReaderIs stage.Open at → IsPending (stream_of at) at.line
pending_is at i =
    let g = run_goes begin at (stream_of at) start_sound begin_stands i.0 in
    record { lines = text_of at.state; parts = refl; ends = text_lines at.state; feedless = g.stands.feedless }

pub pending_short : (at : Standing) → ReaderIs stage.Open at → length at.line ≤ line_limit
pending_short at i = (run_goes begin at (stream_of at) start_sound begin_stands i.0).stands.short

-- ---- the end
whole_text : MarkLaws → (at : Standing) → ReaderIs stage.Whole at → IsTraceText (recorded at.state) (stream_of at)
whole_text laws at i =
    let t = found_trace laws trace_limit (stream_of at) at.state (due_within (stream_of at) (Found at.state) i.1 i.0) in
    record { format = at.state.format; trace = t.0; text_is = ap (λ l. text_of at.state ++ l) i.2 ∙ append-nil (text_of at.state) ∙ t.1 }

pub finishes : MarkLaws → (r : Reader) (result : Result Recording TraceError) → ReaderIs r.stage r.at → FinishGives r result
    → Finishes r result
finishes laws r (Ok trace) i h =
    (h.0, subst (λ (t : Recording). IsTraceText t (stream r)) (sym h.1) (whole_text laws r.at (subst (λ s. ReaderIs s r.at) h.0 i)))
finishes laws r (Err (Text byte reason)) i h = (
  h.0,
  (
    r.at.line,
    pending_is r.at (subst (λ s. ReaderIs s r.at) h.0 i),
    omega (arith, h.1, length-append (text_of r.at.state) r.at.line),
  ),
  h.2,
)
finishes laws r (Err ReadFault) i h = absurd h
finishes laws r (Err TooLarge) i h = absurd h
finishes laws r (Err Memory) i h = absurd h

-- ---- the clauses of a piece
pub feed_due : MarkLaws → (old new : Reader) (piece : List ℕ) (r : Result Fed AllocError) → FeedGives old new piece r
    → IfOk r (IsDue (stream old ++ piece) (length (stream old)))
feed_due laws old new piece (Ok a) f = given_due laws old new piece a f
feed_due laws old new piece (Err e) f = tt

pub feed_only : MarkLaws → (old new : Reader) (piece : List ℕ) (r : Result Fed AllocError) → FeedGives old new piece r
    → IfOk r (λ a. (b : Fed) → IsDue (stream old ++ piece) (length (stream old)) b → b ≡ a)
feed_only laws old new piece (Ok a) f = only_due laws old new piece a f
feed_only laws old new piece (Err e) f = tt

pub feed_stands : (old new : Reader) (piece : List ℕ) (r : Result Fed AllocError) → FeedGives old new piece r
    → IfOk r (StandsThen old new piece)
feed_stands old new piece (Ok a) f = stands_then old new piece a f
feed_stands old new piece (Err e) f = tt

pub feed_fails : (old new : Reader) (piece : List ℕ) (r : Result Fed AllocError) → FeedGives old new piece r → OnErr r (IsShut new)
feed_fails old new piece (Ok a) f = tt
feed_fails old new piece (Err e) f = f.0

pub nothing_fed : (at : Standing) → at ≡ begin → stream_of at ≡ []
nothing_fed at e = ap stream_of e ∙ sym (append-nil (stream_of begin)) ∙ begin_stream []

pub nothing_came : (r : Result Reader AllocError) → IfOk r (λ x. x.at ≡ begin) → IfOk r (λ x. stream x ≡ [])
nothing_came (Ok x) h = nothing_fed x.at h
nothing_came (Err e) h = tt
