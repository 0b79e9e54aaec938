-- Runs over a stream: where they end, and what stands at its front.
use Rattle.std.proofs.Common.{arith, ◌≡◌, ℕ, ◌≤◌, Bool, true, false, cond, List, [], ◌∷◌, ◌++◌}
use Rattle.std.proofs.Common.{length, take, drop, nat_lt, Result, Ok, Err, refl, sym, ap, subst, ◌∙◌}
use Rattle.std.proofs.Common.{append_assoc, append-nil, length-append, take-append-drop}
use Rattle.std.proofs.lemmas.Bool.{eqb-true, ltb-true}
use Rattle.std.proofs.lemmas.List.{length-take}
use Rattle.bus_text.specs.Lines.{is_feed}
use Rattle.bus_trace.specs.declared.position.Position.{Position}
use Rattle.bus_trace.specs.declared.position.Position.TheVariants.{Start, Headed, Holding, Begun, Stringing, Closed, Ended}
use Rattle.bus_strings.specs.OverlapLaws.{NeighboursTell, AscendingIsByMoment}
use Rattle.bus_trace.specs.declared.reason.TraceReason.{TraceReason}
use Rattle.bus_trace.specs.declared.reason.TraceReason.TheVariants.{Long}
use Rattle.bus_trace.specs.Limits.{line_limit}
use Rattle.bus_trace.specs.Traces.{Line, IsTrace, HoldsTrace, opening_lines, end_line, text_in}
use Rattle.bus_trace.specs.States.{State, step, text_of, is_ended, recorded}
use Rattle.bus_trace.specs.inside.Sound.{IsSound, MarkFits}
use Rattle.bus_text.specs.Canonical.{spelled_lines}
use Rattle.bus_trace.specs.Runs.{Standing, Progress, Going, Found, Refused, Over, judged, take_byte, ◌>>-◌, run, begin, due, due_by}
use Rattle.bus_trace.specs.Runs.{stream_of, HasNoFeed}
use Rattle.bus_trace.proofs.Steps.{step_adds, step_sound}
use Rattle.bus_trace.proofs.Runs.{run-append, run-whole_line}
use Rattle.bus_trace.proofs.Walks.{start_sound}
use Rattle.bus_trace.proofs.Told.{lines_whole}
use Rattle.bus_trace.proofs.Marks.{ended_is}

-- ---- where an end was found, the text of the trace stands at the front
abbrev pub ByteGives : List ℕ → Progress → Type 0
ByteGives text (Going n) = (stream_of n ≡ text) × IsSound n.state
ByteGives text (Found s) = (text_of s ≡ text) × IsSound s × (is_ended s.position ≡ true)
ByteGives text (Refused byte reason) = Unit {0}
ByteGives text Over = Unit {0}

pub judged_gives : (s : State) (line : List ℕ) (r : Result State TraceReason) → step s line ≡ r → IsSound s
    → ByteGives ((text_of s ++ line) ++ 10 ∷ []) (judged s r)
judged_gives s line (Err reason) h sound = tt
judged_gives s line (Ok n) h sound = by_end (is_ended n.position) refl where
  text : text_of n ≡ (text_of s ++ line) ++ 10 ∷ []
  text = step_adds s n line sound h ∙ sym (append_assoc (text_of s) line (10 ∷ []))

  by_end : (t : Bool) → is_ended n.position ≡ t → ByteGives ((text_of s ++ line) ++ 10 ∷ [])
      (cond t (Found n) (Going (record { state = n; line = [] })))
  by_end true e = (text, step_sound s n line sound h, e)
  by_end false e = (append-nil (text_of n) ∙ text, step_sound s n line sound h)

pub byte_gives : (r : Standing) (b : ℕ) → IsSound r.state → ByteGives (stream_of r ++ b ∷ []) (take_byte r b)
unfolding take_byte
byte_gives r b sound = by_feed (is_feed b) refl (nat_lt (length r.line) line_limit) where
  by_feed : (t : Bool) → is_feed b ≡ t → (u : Bool) → ByteGives (stream_of r ++ b ∷ [])
      (cond t (judged r.state (step r.state r.line)) (cond u (Going (record { state = r.state; line = r.line ++ b ∷ [] }))
      (Refused (length (text_of r.state)) Long)))
  by_feed true e u = subst (λ (c : ℕ). ByteGives (stream_of r ++ c ∷ []) (judged r.state (step r.state r.line))) (sym (eqb-true b 10 e))
      (judged_gives r.state r.line (step r.state r.line) refl sound)
  by_feed false e true = (sym (append_assoc (text_of r.state) r.line (b ∷ [])), sound)
  by_feed false e false = tt

pub record Finds (stream : List ℕ) (s : State) : Type 0 where
  pub rest : List ℕ
  pub parts : stream ≡ text_of s ++ rest
  pub sound : IsSound s
  pub ended : is_ended s.position ≡ true

pub found_next : (r : Standing) (b : ℕ) (bs : List ℕ) (o : Progress) (s : State) → ByteGives (stream_of r ++ b ∷ []) o
    → (o >>- λ n. run n bs) ≡ Found s
    → ((n : Standing) → IsSound n.state → run n bs ≡ Found s → Finds (stream_of n ++ bs) s) → Finds (stream_of r ++ b ∷ bs) s
found_next r b bs (Going n) s g h later =
    subst (λ t. Finds t s) (ap (λ t. t ++ bs) g.0 ∙ append_assoc (stream_of r) (b ∷ []) bs) (later n g.1 h)
found_next r b bs (Found t) s g h later =
    let is : t ≡ s = cc in
    subst (λ (u : State). Finds (stream_of r ++ b ∷ bs) u) is
    (record {
      rest = bs;
      parts = sym (append_assoc (stream_of r) (b ∷ []) bs)
          ∙ ap (λ x. x ++ bs) (sym g.0);
      sound = g.1;
      ended = g.2;
    })
found_next r b bs (Refused byte reason) s g h later = absurd cc
found_next r b bs Over s g h later = absurd cc

pub run_finds : (r : Standing) (bs : List ℕ) (s : State) → IsSound r.state → run r bs ≡ Found s → Finds (stream_of r ++ bs) s
unfolding run
run_finds r [] s sound h = absurd cc
run_finds r (b ∷ bs) s sound h = found_next r b bs (take_byte r b) s (byte_gives r b sound) h (λ n k q. run_finds n bs s k q)

pub end_is : (p : Position) → is_ended p ≡ true → p ≡ Ended
end_is Start h = absurd cc
end_is Headed h = absurd cc
end_is Holding h = absurd cc
end_is (Begun m n) h = absurd cc
end_is Stringing h = absurd cc
end_is Closed h = absurd cc
end_is Ended h = refl

-- two laws of bus_strings on marks
pub record MarkLaws : Type 0 where
  pub neighbours : NeighboursTell
  pub ascending : AscendingIsByMoment

pub ended_text : MarkLaws → (s : State) → IsSound s → is_ended s.position ≡ true → text_of s ≡ text_in s.format (recorded s)
unfolding text_of
ended_text laws s sound h =
    let p = end_is s.position h in
    let marked = ended_is s.format s.mark s.list (subst (λ q. MarkFits q s.format s.mark s.list) p sound.marked) in
    ap (λ q. text_of (record s { position = q })) p
    ∙ ap (λ (ls : List Line). spelled_lines ((opening_lines s.format s.horizon s.holds ++ ls) ++ end_line ∷ []))
    (lines_whole laws.neighbours laws.ascending s.format s.horizon s.list s.mark sound.trace.order sound.trace.list marked)

pub begin_stream : (xs : List ℕ) → stream_of begin ++ xs ≡ xs
unfolding text_of
begin_stream xs = refl

-- ---- what is due, by where the run leads
pub due_found : (t : Bool) (o : Progress) (s : State) → due_by t o ≡ Found s → o ≡ Found s
due_found true (Going r) s h = absurd cc
due_found false (Going r) s h = absurd cc
due_found t (Found u) s h = cc
due_found t (Refused b e) s h = absurd cc
due_found t Over s h = absurd cc

pub due_refused : (t : Bool) (o : Progress) (byte : ℕ) (reason : TraceReason) → due_by t o ≡ Refused byte reason → o ≡ Refused byte reason
due_refused true (Going r) byte reason h = absurd cc
due_refused false (Going r) byte reason h = absurd cc
due_refused t (Found u) byte reason h = absurd cc
due_refused t (Refused b e) byte reason h = cc
due_refused t Over byte reason h = absurd cc

pub due_going : (t : Bool) (o : Progress) (at : Standing) → due_by t o ≡ Going at → (t ≡ false) × (o ≡ Going at)
due_going true (Going r) at h = absurd cc
due_going false (Going r) at h = (refl, cc)
due_going t (Found u) at h = absurd cc
due_going t (Refused b e) at h = absurd cc
due_going t Over at h = absurd cc

pub due_over : (t : Bool) (o : Progress) → (o ≡ Over → ⊥) → due_by t o ≡ Over → (t ≡ true) × ((at : Standing) × (o ≡ Going at))
due_over true (Going r) never h = (refl, (r, refl))
due_over false (Going r) never h = absurd cc
due_over t (Found u) never h = absurd cc
due_over t (Refused b e) never h = absurd cc
due_over t Over never h = absurd (never refl)

-- a run passes no limit
pub judged_within : (s : State) (o : Result State TraceReason) → judged s o ≡ Over → ⊥
judged_within s (Err reason) h = cc
judged_within s (Ok n) h = by_end (is_ended n.position) h where
  by_end : (t : Bool) → cond t (Found n) (Going (record { state = n; line = [] })) ≡ Over → ⊥
  by_end true e = cc
  by_end false e = cc

pub byte_within : (r : Standing) (b : ℕ) → take_byte r b ≡ Over → ⊥
unfolding take_byte
byte_within r b h = by_feed (is_feed b) (nat_lt (length r.line) line_limit) h where
  by_feed : (t u : Bool) → cond t (judged r.state (step r.state r.line))
      (cond u (Going (record { state = r.state; line = r.line ++ b ∷ [] })) (Refused (length (text_of r.state)) Long)) ≡ Over → ⊥
  by_feed true u e = judged_within r.state (step r.state r.line) e
  by_feed false true e = cc
  by_feed false false e = cc

pub then_within : (o : Progress) (f : Standing → Progress) → (o ≡ Over → ⊥) → ((n : Standing) → f n ≡ Over → ⊥) → (o >>- f) ≡ Over → ⊥
then_within (Going n) f never later h = later n h
then_within (Found s) f never later h = cc
then_within (Refused b e) f never later h = cc
then_within Over f never later h = never refl

pub run_within : (r : Standing) (bs : List ℕ) → run r bs ≡ Over → ⊥
unfolding run
run_within r [] h = cc
run_within r (b ∷ bs) h = then_within (take_byte r b) (λ n. run n bs) (byte_within r b) (λ n. run_within n bs) h

pub found_finds : (limit : ℕ) (stream : List ℕ) (s : State) → due limit stream ≡ Found s → Finds (take limit stream) s
unfolding due
found_finds limit stream s h =
    let f = due_found (nat_lt limit (length stream)) (run begin (take limit stream)) s h in
    subst (λ (x : List ℕ). Finds x s) (begin_stream (take limit stream)) (run_finds begin (take limit stream) s start_sound f)

pub found_front : (limit : ℕ) (stream : List ℕ) (s : State) → due limit stream ≡ Found s → (rest : List ℕ) × (stream ≡ text_of s ++ rest)
found_front limit stream s h =
    let f = found_finds limit stream s h in (
      f.rest ++ drop limit stream,
      sym (take-append-drop limit stream) ∙ ap (λ x. x ++ drop limit stream) f.parts
          ∙ append_assoc (text_of s) f.rest (drop limit stream),
    )

pub found_trace : MarkLaws → (limit : ℕ) (stream : List ℕ) (s : State) → due limit stream ≡ Found s → IsTrace (recorded s)
    × (text_of s ≡ text_in s.format (recorded s)) × (length (text_in s.format (recorded s)) ≤ limit)
found_trace laws limit stream s h =
    let f = found_finds limit stream s h in
    let e = ended_text laws s f.sound f.ended in
    (f.sound.trace, e, omega (arith, length-take limit stream, ap length f.parts, length-append (text_of s) f.rest, ap length e))

-- whatever is whole holds the text of its trace
pub found_holds : MarkLaws → (limit : ℕ) (stream : List ℕ) (s : State) → due limit stream ≡ Found s → HoldsTrace limit stream (recorded s)
found_holds laws limit stream s h =
    let f = found_finds limit stream s h in
    let w = found_trace laws limit stream s h in
    record {
      front = text_of s;
      rest = f.rest ++ drop limit stream;
      parts = sym (take-append-drop limit stream) ∙ ap (λ x. x ++ drop limit stream) f.parts
          ∙ append_assoc (text_of s) f.rest (drop limit stream);
      short = omega (arith, ap length w.1, w.2);
      text = record { format = s.format; trace = w.0; text_is = w.1 };
    }

-- ---- how a run stands
-- the lines before the one begun gave the state, and the one begun has no line feed yet
pub record Stands (r : Standing) : Type 0 where
  pub gave : run begin (text_of r.state) ≡ Going (record { state = r.state; line = [] })
  pub feedless : HasNoFeed r.line
  pub short : length r.line ≤ line_limit

pub begin_stands : Stands begin
unfolding text_of run
begin_stands = record { gave = refl; feedless = tt; short = omega arith }

pub feedless_push : (xs : List ℕ) (b : ℕ) → HasNoFeed xs → is_feed b ≡ false → HasNoFeed (xs ++ b ∷ [])
feedless_push [] b h k = (k, tt)
feedless_push (x ∷ xs) b h k = (h.0, feedless_push xs b h.1 k)

pub going_is : (m n : Standing) → Going m ≡ Going n → m ≡ n
going_is m n h = cc

pub stands_judged : (r n : Standing) (o : Result State TraceReason) → IsSound r.state → Stands r → step r.state r.line ≡ o
    → judged r.state o ≡ Going n → Stands n
stands_judged r n (Err reason) sound i e h = absurd cc
stands_judged r n (Ok m) sound i e h = by_end (is_ended m.position) refl h where
  by_end : (t : Bool) → is_ended m.position ≡ t → cond t (Found m) (Going (record { state = m; line = [] })) ≡ Going n → Stands n
  by_end true k q = absurd cc
  by_end false k q =
      let gave : run begin (text_of m) ≡ Going (record { state = m; line = [] }) =
      ap (run begin) (step_adds r.state m r.line sound e) ∙ run-append begin (text_of r.state) (r.line ++ 10 ∷ [])
      ∙ ap (λ o. o >>- λ x. run x (r.line ++ 10 ∷ [])) i.gave
      ∙ run-whole_line (record { state = r.state; line = [] }) r.line i.feedless (omega (arith, i.short))
      ∙ ap (judged r.state) e ∙ ap (λ t. cond t (Found m) (Going (record { state = m; line = [] }))) k in
      subst Stands (going_is (record { state = m; line = [] }) n q) (record { gave = gave; feedless = tt; short = omega arith })

pub stands_byte : (r n : Standing) (b : ℕ) → IsSound r.state → Stands r → take_byte r b ≡ Going n → Stands n
unfolding take_byte
stands_byte r n b sound i h = by_feed (is_feed b) refl (nat_lt (length r.line) line_limit) refl h where
  by_feed : (t : Bool) → is_feed b ≡ t → (u : Bool) → nat_lt (length r.line) line_limit ≡ u
      → cond t (judged r.state (step r.state r.line)) (cond u (Going (record { state = r.state; line = r.line ++ b ∷ [] }))
      (Refused (length (text_of r.state)) Long)) ≡ Going n → Stands n
  by_feed true e u f q = stands_judged r n (step r.state r.line) sound i refl q
  by_feed false e true f q =
      subst Stands (going_is (record { state = r.state; line = r.line ++ b ∷ [] }) n q)
      (record {
        gave = i.gave;
        feedless = feedless_push r.line b i.feedless e;
        short =
            omega (arith, length-append r.line (b ∷ []), ltb-true (length r.line) line_limit f);
      })
  by_feed false e false f q = absurd cc

pub record Goes (r n : Standing) (bytes : List ℕ) : Type 0 where
  pub stands : Stands n
  pub sound : IsSound n.state
  pub stream : stream_of n ≡ stream_of r ++ bytes

pub goes_next : (r n : Standing) (b : ℕ) (bs : List ℕ) (o : Progress) → take_byte r b ≡ o → IsSound r.state → Stands r
    → ByteGives (stream_of r ++ b ∷ []) o → (o >>- λ m. run m bs) ≡ Going n
    → ((m : Standing) → IsSound m.state → Stands m → run m bs ≡ Going n → Goes m n bs) → Goes r n (b ∷ bs)
goes_next r n b bs (Going m) e sound i g h later =
    let k = later m g.1 (stands_byte r m b sound i e) h in
    record { stands = k.stands; sound = k.sound; stream = k.stream ∙ ap (λ x. x ++ bs) g.0 ∙ append_assoc (stream_of r) (b ∷ []) bs }
goes_next r n b bs (Found s) e sound i g h later = absurd cc
goes_next r n b bs (Refused byte reason) e sound i g h later = absurd cc
goes_next r n b bs Over e sound i g h later = absurd cc

pub run_goes : (r n : Standing) (bs : List ℕ) → IsSound r.state → Stands r → run r bs ≡ Going n → Goes r n bs
unfolding run
run_goes r n [] sound i h =
    let e : r ≡ n = going_is r n h in
    subst (λ (m : Standing). Goes r m []) e (record { stands = i; sound = sound; stream = sym (append-nil (stream_of r)) })
run_goes r n (b ∷ bs) sound i h = goes_next r n b bs (take_byte r b) refl sound i (byte_gives r b sound) h
    (λ m s k q. run_goes m n bs s k q)
