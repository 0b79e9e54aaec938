-- Which streams hold a trace text, of which trace, and where a text is refused.
use Rattle.std.proofs.Common.{arith, zero, suc, ◌≡◌, ℕ, ◌+◌, ◌<◌, ◌≤◌, Bool, true, false, cond, ◌⊎◌, inl, inr, List, [], ◌∷◌, ◌++◌}
use Rattle.std.proofs.Common.{length, take, nat_lt, IfSome, IfOk, Some, None, Result, Ok, Err, refl, sym, ap, subst, ◌∙◌}
use Rattle.std.proofs.Common.{append_assoc, append-nil, length-append}
use Rattle.std.specs.declared.option.Option.{Option}
use Rattle.std.proofs.lemmas.Bool.{eqb-true, cases_lt, ltb-false, lt-ltb, ltb-true}
use Rattle.std.proofs.lemmas.List.{take_all, take-append-le}
use Rattle.bus_outer.specs.Sources.{Taken}
use Rattle.bus_text.specs.Lines.{is_feed}
use Rattle.bus_trace.specs.declared.fault.TraceError.{TraceError}
use Rattle.bus_trace.specs.declared.fault.TraceError.TheVariants.{Text, ReadFault, TooLarge, Memory}
use Rattle.bus_trace.specs.declared.format.Format.{Format}
use Rattle.bus_trace.specs.declared.reason.TraceReason.{TraceReason}
use Rattle.bus_trace.specs.declared.reason.TraceReason.TheVariants.{Long, Ended as CutShort}
use Rattle.bus_trace.specs.Limits.{line_limit, trace_limit}
use Rattle.bus_trace.specs.Traces.{Recording, IsTrace, HoldsTrace, text_in}
use Rattle.bus_trace.specs.States.{State, step, text_of, is_ended, recorded}
use Rattle.bus_trace.specs.Runs.{Standing, Progress, Going, Found, Refused, Over, judged, take_byte, ◌>>-◌, run, begin, due, due_by}
use Rattle.bus_trace.specs.Runs.{ended_by, reading, stream_of, HasNoFeed}
use Rattle.bus_trace.specs.Reading.{LineAt, Offends, Complete, Overlong, Refuses, ByLine as Decided, CutOff, TakesTrace, ReadGives}
use Rattle.bus_trace.specs.inside.Looping.{LineRefused, ByLine, ByEnd, Loops}
use Rattle.bus_trace.proofs.Runs.{run-append}
use Rattle.bus_trace.proofs.Walks.{start_sound}
use Rattle.bus_trace.proofs.Again.{ended, trace_again}
use Rattle.bus_trace.proofs.ReadRuns.{MarkLaws, begin_stream, due_found, due_refused, due_going, due_over, run_within, found_trace}
use Rattle.bus_trace.proofs.ReadRuns.{found_holds, Stands, begin_stands, feedless_push, run_goes}

-- ---- where nothing is decided yet
record Undecided (limit : ℕ) (bytes : List ℕ) (at : Standing) : Type 0 where
  going : run begin bytes ≡ Going at
  stands : Stands at
  stream : stream_of at ≡ bytes
  short : length bytes ≤ limit

undecided_is : (limit : ℕ) (bytes : List ℕ) (at : Standing) → due limit bytes ≡ Going at → Undecided limit bytes at
unfolding due
undecided_is limit bytes at h =
    let d = due_going (nat_lt limit (length bytes)) (run begin (take limit bytes)) at h in
    let short = ltb-false limit (length bytes) d.0 in
    let going : run begin bytes ≡ Going at = ap (run begin) (sym (take_all limit bytes short)) ∙ d.1 in
    let g = run_goes begin at bytes start_sound begin_stands going in
    record { going = going; stands = g.stands; stream = g.stream ∙ begin_stream bytes; short = short }

-- a line that begins behind the whole lines of a standing
abbrev line_at : (r : Standing) (byte : ℕ) (line : List ℕ) → Stands r → byte ≡ length (text_of r.state) → HasNoFeed line → LineAt byte
line_at r byte line i e feedless = record {
  before = r.state;
  lines = text_of r.state;
  line = line;
  gave = record { text = refl; run = i.gave };
  place = e;
  feedless = feedless;
}

-- ---- the byte that decides
back : (o : Progress) → (o >>- λ n. run n []) ≡ o
unfolding run
back (Going n) = refl
back (Found s) = refl
back (Refused b e) = refl
back Over = refl

run_one : (r : Standing) (b : ℕ) → run r (b ∷ []) ≡ take_byte r b
unfolding run
run_one r b = back (take_byte r b)

-- one byte more leads where the byte does, or isn't looked at
next_byte : (limit : ℕ) (front : List ℕ) (b : ℕ) (at : Standing) → Undecided limit front at
    → ((length front < limit) × (run begin (take limit (front ++ b ∷ [])) ≡ take_byte at b)) ⊎
    ((length front ≡ limit) × (run begin (take limit (front ++ b ∷ [])) ≡ Going at))
next_byte limit front b at u = by_room (cases_lt (length front) limit) where
  by_room : (length front < limit) ⊎ (limit ≤ length front)
      → ((length front < limit) × (run begin (take limit (front ++ b ∷ [])) ≡ take_byte at b)) ⊎
      ((length front ≡ limit) × (run begin (take limit (front ++ b ∷ [])) ≡ Going at))
  by_room (inl l) = inl (
    l,
    ap (run begin) (take_all limit (front ++ b ∷ []) (omega (arith, length-append front (b ∷ []))))
        ∙ run-append begin front (b ∷ []) ∙ ap (λ o. o >>- λ m. run m (b ∷ [])) u.going ∙ run_one at b,
  )
  by_room (inr l) =
      let e : length front ≡ limit = omega (arith, u.short) in
      inr (e, ap (run begin) (take-append-le limit front (b ∷ []) l ∙ take_all limit front u.short) ∙ u.going)

refuses_judged : (r : Standing) (byte : ℕ) (reason : TraceReason) (o : Result State TraceReason) → Stands r → step r.state r.line ≡ o
    → judged r.state o ≡ Refused byte reason
    → Offends (stream_of r ++ 10 ∷ []) byte reason
refuses_judged r byte reason (Ok m) i e h = by_end (is_ended m.position) h where
  by_end : (t : Bool) → cond t (Found m) (Going (record { state = m; line = [] })) ≡ Refused byte reason
      → Offends (stream_of r ++ 10 ∷ []) byte reason
  by_end true q = absurd cc
  by_end false q = absurd cc
refuses_judged r byte reason (Err why) i e h =
    let length_is : length (text_of r.state) ≡ byte = cc in
    let why_is : why ≡ reason = cc in
    Complete (line_at r byte r.line i (sym length_is) i.feedless) (append_assoc (text_of r.state) r.line (10 ∷ [])) i.short (e ∙ ap (λ (x : TraceReason). Err x) why_is)

pub refuses_byte : (r : Standing) (b : ℕ) (byte : ℕ) (reason : TraceReason) → Stands r → take_byte r b ≡ Refused byte reason
    → Offends (stream_of r ++ b ∷ []) byte reason
unfolding take_byte
refuses_byte r b byte reason i h = by_feed (is_feed b) refl (nat_lt (length r.line) line_limit) refl h where
  by_feed : (t : Bool) → is_feed b ≡ t → (u : Bool) → nat_lt (length r.line) line_limit ≡ u
      → cond t (judged r.state (step r.state r.line)) (cond u (Going (record { state = r.state; line = r.line ++ b ∷ [] }))
      (Refused (length (text_of r.state)) Long)) ≡ Refused byte reason → Offends (stream_of r ++ b ∷ []) byte reason
  by_feed true e u f q =
      subst (λ c. Offends (stream_of r ++ c ∷ []) byte reason) (sym (eqb-true b 10 e))
      (refuses_judged r byte reason (step r.state r.line) i refl q)
  by_feed false e true f q = absurd cc
  by_feed false e false f q =
      let length_is : length (text_of r.state) ≡ byte = cc in
      let why : Long ≡ reason = cc in
      Overlong (line_at r byte (r.line ++ b ∷ []) i (sym length_is) (feedless_push r.line b i.feedless e))
      (append_assoc (text_of r.state) r.line (b ∷ []))
      (omega (arith, length-append r.line (b ∷ []), i.short, ltb-false (length r.line) line_limit f)) (sym why)

-- what a decided refusal says of the bytes
refused_byte : (front : List ℕ) (b : ℕ) (at : Standing) (left : Option (List ℕ)) (byte : ℕ) (reason : TraceReason)
    → Undecided trace_limit front at → due trace_limit (front ++ b ∷ []) ≡ Refused byte reason
    → Refuses (front ++ b ∷ []) left byte reason × (length (front ++ b ∷ []) ≤ trace_limit)
unfolding due
refused_byte front b at left byte reason u h = by_case (next_byte trace_limit front b at u) where
  refused : run begin (take trace_limit (front ++ b ∷ [])) ≡ Refused byte reason
  refused = due_refused (nat_lt trace_limit (length (front ++ b ∷ []))) (run begin (take trace_limit (front ++ b ∷ []))) byte reason h

  by_case : ((length front < trace_limit) × (run begin (take trace_limit (front ++ b ∷ [])) ≡ take_byte at b)) ⊎
      ((length front ≡ trace_limit) × (run begin (take trace_limit (front ++ b ∷ [])) ≡ Going at))
      → Refuses (front ++ b ∷ []) left byte reason × (length (front ++ b ∷ []) ≤ trace_limit)
  by_case (inl k) = (
    Decided (subst (λ x. Offends (x ++ b ∷ []) byte reason) u.stream (refuses_byte at b byte reason u.stands (sym k.1 ∙ refused))),
    omega (arith, length-append front (b ∷ []), k.0),
  )
  by_case (inr k) = let wrong : Going at ≡ Refused byte reason = sym k.1 ∙ refused in absurd cc

over_byte : (front : List ℕ) (b : ℕ) (at : Standing) → Undecided trace_limit front at → due trace_limit (front ++ b ∷ []) ≡ Over
    → length (front ++ b ∷ []) ≡ (trace_limit + 1)
unfolding due
over_byte front b at u h =
    let d = due_over (nat_lt trace_limit (length (front ++ b ∷ []))) (run begin (take trace_limit (front ++ b ∷ [])))
    (run_within begin (take trace_limit (front ++ b ∷ []))) h in
    omega (arith, ltb-true trace_limit (length (front ++ b ∷ [])) d.0, length-append front (b ∷ []), u.short)

-- ---- the clauses of a read
refused_takes : (old new : Option (List ℕ)) (bytes : List ℕ) (byte : ℕ) (reason : TraceReason) → Taken old new bytes
    → LineRefused bytes new byte reason → TakesTrace old new (Err (Text byte reason))
refused_takes old new bytes byte reason t (ByLine d) =
    let u = undecided_is trace_limit d.front d.before d.undecided in
    let w = refused_byte d.front d.last d.before new byte reason u (ap (due trace_limit) (sym d.parts) ∙ d.decided) in
    record { bytes = bytes; came = t; known = subst (λ x. Refuses x new byte reason × (length x ≤ trace_limit)) (sym d.parts) w }
refused_takes old new bytes byte reason t (ByEnd at d e b r) =
    let u = undecided_is trace_limit bytes at d in
    record {
      bytes = bytes;
      came = t;
      known = (
        CutOff (line_at at byte at.line u.stands b u.stands.feedless) (sym u.stream) u.stands.short e r,
        u.short,
      );
    }

pub loops_takes : MarkLaws → (old new : Option (List ℕ)) (result : Result Recording TraceError) → Loops old new result
    → TakesTrace old new result
loops_takes laws old new (Ok trace) l =
    let s : State = l.gives.0 in
    let w = found_trace laws trace_limit l.bytes s l.gives.1 in
    let e : text_of s ≡ text_in s.format trace = w.1 ∙ ap (text_in s.format) (sym l.gives.3) in
    record {
      format = s.format;
      came = subst (Taken old new) (l.gives.2 ∙ e) l.came;
      short = subst (λ (t : Recording). length (text_in s.format t) ≤ trace_limit) (sym l.gives.3) w.2;
    }
loops_takes laws old new (Err (Text byte reason)) l = refused_takes old new l.bytes byte reason l.came l.gives
loops_takes laws old new (Err TooLarge) l =
    let d = l.gives in
    let u = undecided_is trace_limit d.front d.before d.undecided in
    record {
      bytes = l.bytes;
      came = l.came;
      known = (
        d,
        ap length d.parts
            ∙ over_byte d.front d.last d.before u (ap (due trace_limit) (sym d.parts) ∙ d.decided),
      );
    }
loops_takes laws old new (Err ReadFault) l = record { bytes = l.bytes; came = l.came; known = l.gives }
loops_takes laws old new (Err Memory) l = record { bytes = l.bytes; came = l.came; known = l.gives }

-- ---- what is decided stays so, whatever follows
pub take_more : (limit : ℕ) (xs ys : List ℕ) → (rest : List ℕ) × (take limit (xs ++ ys) ≡ take limit xs ++ rest)
take_more zero xs ys = ([], refl)
take_more (suc limit) [] ys = (take (suc limit) ys, refl)
take_more (suc limit) (x ∷ xs) ys = let r = take_more limit xs ys in (r.0, ap (λ l. x ∷ l) r.1)

pub run_more : (limit : ℕ) (xs ys : List ℕ) → (rest : List ℕ)
    × (run begin (take limit (xs ++ ys)) ≡ (run begin (take limit xs) >>- λ n. run n rest))
run_more limit xs ys = let t = take_more limit xs ys in (t.0, ap (run begin) t.1 ∙ run-append begin (take limit xs) t.0)

pub found_more : (limit : ℕ) (xs ys : List ℕ) (s : State) → due limit xs ≡ Found s → due limit (xs ++ ys) ≡ Found s
unfolding due
found_more limit xs ys s h =
    let f = due_found (nat_lt limit (length xs)) (run begin (take limit xs)) s h in
    let r = run_more limit xs ys in
    ap (due_by (nat_lt limit (length (xs ++ ys)))) (r.1 ∙ ap (λ o. o >>- λ n. run n r.0) f)

pub refused_more : (limit : ℕ) (xs ys : List ℕ) (byte : ℕ) (reason : TraceReason) → due limit xs ≡ Refused byte reason
    → due limit (xs ++ ys) ≡ Refused byte reason
unfolding due
refused_more limit xs ys byte reason h =
    let f = due_refused (nat_lt limit (length xs)) (run begin (take limit xs)) byte reason h in
    let r = run_more limit xs ys in
    ap (due_by (nat_lt limit (length (xs ++ ys)))) (r.1 ∙ ap (λ o. o >>- λ n. run n r.0) f)

pub over_more : (limit : ℕ) (xs ys : List ℕ) → due limit xs ≡ Over → due limit (xs ++ ys) ≡ Over
unfolding due
over_more limit xs ys h =
    let d = due_over (nat_lt limit (length xs)) (run begin (take limit xs)) (run_within begin (take limit xs)) h in
    let l = ltb-true limit (length xs) d.0 in
    ap (λ t. due_by t (run begin (take limit (xs ++ ys)))) (lt-ltb limit (length (xs ++ ys)) (omega (arith, l, length-append xs ys)))
    ∙ ap (λ x. due_by true (run begin x)) (take-append-le limit xs ys (omega (arith, l)))
    ∙ ap (due_by true) d.1.1

-- of a told source, what was taken and what is left
told : (xs bytes : List ℕ) (new : Option (List ℕ)) → Taken (Some xs) new bytes → (ys : List ℕ) × (new ≡ Some ys) × (xs ≡ bytes ++ ys)
told xs bytes None t = absurd cc
told xs bytes (Some ys) t = (ys, refl, cc)

refused_gives : (xs bytes : List ℕ) (new : Option (List ℕ)) (byte : ℕ) (reason : TraceReason) → Taken (Some xs) new bytes
    → LineRefused bytes new byte reason → reading trace_limit xs ≡ Err (Text byte reason)
refused_gives xs bytes new byte reason t (ByLine d) =
    let k = told xs bytes new t in
    ap (reading trace_limit) k.2 ∙ ap ended_by (refused_more trace_limit bytes k.0 byte reason d.decided)
refused_gives xs bytes new byte reason t (ByEnd at d e b r) =
    let k = told xs bytes new t in
    let none : k.0 ≡ [] = subst (λ (m : Option (List ℕ)). IfSome m (λ zs. zs ≡ [])) k.1 e in
    ap (reading trace_limit) (k.2 ∙ ap (λ zs. bytes ++ zs) none ∙ append-nil bytes) ∙ ap ended_by d
    ∙ ap (λ n. Err (Text n CutShort)) (sym b) ∙ ap (λ (x : TraceReason). Err (Text byte x)) (sym r)

gives_told : (xs : List ℕ) (new : Option (List ℕ)) (result : Result Recording TraceError) → Loops (Some xs) new result
    → ReadGives result (reading trace_limit xs)
gives_told xs new (Ok trace) l =
    let k = told xs l.bytes new l.came in
    ap (reading trace_limit) k.2 ∙ ap ended_by (found_more trace_limit l.bytes k.0 l.gives.0 l.gives.1)
    ∙ ap (λ (t : Recording). Ok t) (sym l.gives.3)
gives_told xs new (Err (Text byte reason)) l = refused_gives xs l.bytes new byte reason l.came l.gives
gives_told xs new (Err TooLarge) l =
    let k = told xs l.bytes new l.came in
    ap (reading trace_limit) k.2 ∙ ap ended_by (over_more trace_limit l.bytes k.0 l.gives.decided)
gives_told xs new (Err ReadFault) l = tt
gives_told xs new (Err Memory) l = tt

pub loops_exact : (old new : Option (List ℕ)) (result : Result Recording TraceError) → Loops old new result
    → IfSome old (λ stream. ReadGives result (reading trace_limit stream))
loops_exact None new result l = tt
loops_exact (Some xs) new result l = gives_told xs new result l

-- ---- a reading and the grammar
reads_is : (d : Progress) (t : Recording) → ended_by d ≡ Ok t → (s : State) × (d ≡ Found s) × (recorded s ≡ t)
reads_is (Going at) t h = absurd cc
reads_is (Found s) t h = (s, refl, cc)
reads_is (Refused byte reason) t h = absurd cc
reads_is Over t h = absurd cc

-- what is read stands at the front
pub reads_holds : MarkLaws → (limit : ℕ) (stream : List ℕ) (t : Recording) → reading limit stream ≡ Ok t → HoldsTrace limit stream t
reads_holds laws limit stream t h =
    let k = reads_is (due limit stream) t h in
    subst (HoldsTrace limit stream) k.2 (found_holds laws limit stream k.0 k.1)

pub holds_due : MarkLaws → (limit : ℕ) (stream : List ℕ) (t : Recording) (h : HoldsTrace limit stream t)
    → due limit stream ≡ Found (ended h.text.format t)
unfolding due
holds_due laws limit stream t h =
    let format : Format = h.text.format in
    let cut : (rest : List ℕ) × (take limit stream ≡ text_in format t ++ rest) =
    let m = take_more limit h.front h.rest in
    (m.0, ap (take limit) h.parts ∙ m.1 ∙ ap (λ x. x ++ m.0) (take_all limit h.front h.short ∙ h.text.text_is)) in
    ap (λ x. due_by (nat_lt limit (length stream)) (run begin x)) cut.1
    ∙ ap (λ o. due_by (nat_lt limit (length stream)) o) (trace_again laws.neighbours laws.ascending format t cut.0 h.text.trace)

-- what stands at the front is read
pub holds_reads : MarkLaws → (limit : ℕ) (stream : List ℕ) (t : Recording) → HoldsTrace limit stream t → reading limit stream ≡ Ok t
holds_reads laws limit stream t h = ap ended_by (holds_due laws limit stream t h)

found_told : MarkLaws → (xs : List ℕ) (result : Result Recording TraceError) → ReadGives result (reading trace_limit xs)
    → IfOk result (HoldsTrace trace_limit xs)
found_told laws xs (Ok trace) h = reads_holds laws trace_limit xs trace h
found_told laws xs (Err e) h = tt

pub exact_found : MarkLaws → (old : Option (List ℕ)) (result : Result Recording TraceError)
    → IfSome old (λ stream. ReadGives result (reading trace_limit stream))
    → IfSome old (λ stream. IfOk result (HoldsTrace trace_limit stream))
exact_found laws None result h = tt
exact_found laws (Some xs) result h = found_told laws xs result h

pub exact_only : MarkLaws → (old : Option (List ℕ)) (result : Result Recording TraceError)
    → IfSome old (λ stream. ReadGives result (reading trace_limit stream))
    → IfSome old (λ stream. (t : Recording) → HoldsTrace trace_limit stream t → ReadGives result (Ok t))
exact_only laws None result h = tt
exact_only laws (Some xs) result h = λ t k. subst (ReadGives result) (holds_reads laws trace_limit xs t k) h

-- ---- no trace text is a proper front of another
pub front_is_whole : MarkLaws → (one other : Format) (t u : Recording) (rest : List ℕ) → IsTrace t → IsTrace u
    → text_in other u ≡ text_in one t ++ rest → (one ≡ other) × (t ≡ u) × (rest ≡ [])
front_is_whole laws one other t u rest i j e =
    let a = trace_again laws.neighbours laws.ascending one t rest i in
    let b = trace_again laws.neighbours laws.ascending other u [] j in
    let same : Found (ended one t) ≡ Found (ended other u) = sym a ∙ ap (run begin) (sym e ∙ sym (append-nil (text_in other u))) ∙ b in
    let state : ended one t ≡ ended other u = found_is _ _ same in
    let f : one ≡ other = ap (λ (s : State). s.format) state in
    let s : t ≡ u = ap recorded state in
    (f, s, no_rest (text_in one t) rest (ap (λ (g : Format). text_in g t) f ∙ ap (text_in other) s ∙ e)) where
      found_is : (m n : State) → Found m ≡ Found n → m ≡ n
      found_is m n h = cc

      no_rest : (xs ys : List ℕ) → xs ≡ xs ++ ys → ys ≡ []
      no_rest xs [] h = refl
      no_rest xs (y ∷ ys) h = absurd (omega (arith, ap length h, length-append xs (y ∷ ys)))
