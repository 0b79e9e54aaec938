-- Walks over pieces.
use Rattle.std.proofs.Common.{arith, ◌≡◌, ℕ, ◌+◌, ◌<◌, ◌≤◌, Bool, true, false, cond, List, [], ◌∷◌, ◌++◌, length, take, Result, Ok, Err}
use Rattle.std.proofs.Common.{refl, sym, ap, subst, ◌∙◌, append_assoc, append-nil, length-append}
use Rattle.std.specs.declared.alloc.AllocError.{AllocError}
use Rattle.bus_trace.specs.declared.reason.TraceReason.{TraceReason}
use Rattle.bus_trace.specs.declared.reason.TraceReason.TheVariants.{Long}
use Rattle.bus_trace.specs.declared.walk.Judged.{Judged}
use Rattle.bus_trace.specs.declared.walk.Judged.TheVariants.{Passes, Ends, Fails}
use Rattle.bus_trace.specs.declared.walk.Walked.TheVariants.{Ended}
use Rattle.bus_trace.specs.States.{State, start, step, text_of, is_ended}
use Rattle.bus_trace.specs.inside.Sound.{IsSound}
use Rattle.bus_trace.specs.Runs.{Standing, Progress, Going, Found, Refused, judged, ◌>>-◌, run, stream_of, HasNoFeed}
use Rattle.bus_trace.specs.inside.Quick.{TakesFront}
use Rattle.bus_trace.specs.inside.Walking.{WalkIs, KeepGives, JudgedGives, WalkGives, TookFront, GoesOn}
use Rattle.std.proofs.Math.Seq.{take-append_seam}
use Rattle.bus_trace.proofs.Steps.{step_adds, step_sound}
use Rattle.bus_trace.proofs.Runs.{run-append, run-line, run-long, run-feed, run-whole_line}
use Rattle.bus_trace.specs.Limits.{line_limit}

pub start_sound : IsSound start
start_sound = record {
  fits = (refl, refl);
  marked = tt;
  trace = record { horizon = omega arith; holds = tt; terminals = tt; list = tt; order = tt };
}

pub start_is : WalkIs start [] 0
unfolding text_of
start_is = record { sound = start_sound; used_is = refl; short = omega arith }

front_text : (s : State) (l kept : List ℕ) → kept ≡ [] → (text_of s ++ l) ++ 10 ∷ [] ≡ (text_of s ++ kept) ++ (l ++ 10 ∷ [])
front_text s l kept e = append_assoc (text_of s) l (10 ∷ [])
    ∙ ap (λ t. t ++ (l ++ 10 ∷ [])) (sym (append-nil (text_of s)) ∙ ap (λ k. text_of s ++ k) (sym e))

-- the line was judged, and the next begins
judge_text : (s n : State) (l l' : List ℕ) → IsSound s → step s l ≡ Ok n → l' ≡ [] → text_of n ++ l' ≡ (text_of s ++ l) ++ 10 ∷ []
judge_text s n l l' sound h e =
    ap (λ t. text_of n ++ t) e ∙ append-nil (text_of n) ∙ step_adds s n l sound h ∙ sym (append_assoc (text_of s) l (10 ∷ []))

pub judge_gives : (s n : State) (l l' : List ℕ) (t : Bool) → IsSound s → step s l ≡ Ok n → t ≡ is_ended n.position → l' ≡ []
    → JudgedGives (record { state = s; line = l }) (record { state = n; line = l' }) (10 ∷ []) (Ok (cond t Ends Passes))
    (judged s (step s l))
judge_gives s n l l' true sound h e q =
    (ap (judged s) h ∙ ap (λ b. cond b (Found n) (Going (record { state = n; line = [] }))) (sym e), judge_text s n l l' sound h q, q)
judge_gives s n l l' false sound h e q = (
  ap (judged s) h ∙ ap (λ b. cond b (Found n) (Going (record { state = n; line = [] }))) (sym e)
      ∙ ap (λ (x : List ℕ). Going (record { state = n; line = x })) (sym q),
  judge_text s n l l' sound h q,
)

pub judge_fails : (s : State) (l : List ℕ) (reason : TraceReason) (used : ℕ) → step s l ≡ Err reason → used ≡ length (text_of s)
    → judged s (step s l) ≡ Refused used reason
judge_fails s l reason used h e = ap (judged s) h ∙ ap (λ u. Refused u reason) (sym e)

pub judge_is : (s n : State) (l l' : List ℕ) (used len : ℕ) → WalkIs s l used → step s l ≡ Ok n → len ≡ length l → l' ≡ []
    → WalkIs n l' (used + (len + 1))
judge_is s n l l' used len w h e q = record {
  sound = step_sound s n l w.sound h;
  used_is =
      let k = ap length (step_adds s n l w.sound h) ∙ length-append (text_of s) (l ++ 10 ∷ []) in
      omega (arith, k, length-append l (10 ∷ []), w.used_is, e);
  short = omega (arith, ap length q);
}

-- the same, where the line is all in front of what was kept
pub front_gives : (s : State) (new : Standing) (l kept : List ℕ) (r : Result Judged AllocError) (p : Progress) → kept ≡ []
    → JudgedGives (record { state = s; line = l }) new (10 ∷ []) r p
    → JudgedGives (record { state = s; line = kept }) new (l ++ 10 ∷ []) r p
front_gives s new l kept (Ok Passes) p e j = (j.0, j.1 ∙ front_text s l kept e)
front_gives s new l kept (Ok Ends) p e j = (j.0, j.1 ∙ front_text s l kept e, j.2)
front_gives s new l kept (Ok (Fails byte reason)) p e j = j
front_gives s new l kept (Err x) p e j = tt

pub front_is : (s n : State) (l kept : List ℕ) (used len : ℕ) → WalkIs s kept used → kept ≡ [] → length l ≤ line_limit → step s l ≡ Ok n
    → len ≡ length l → WalkIs n kept (used + (len + 1))
front_is s n l kept used len w e short h k = judge_is s n l kept used len
    (record { sound = w.sound; used_is = w.used_is; short = short }) h k e

pub is_nil : (xs : List ℕ) → length xs ≡ 0 → xs ≡ []
is_nil [] h = refl
is_nil (x ∷ xs) h = absurd (omega arith)

pub front_closes : (old new : Standing) (l : List ℕ) (r : Result Judged AllocError) → old.line ≡ [] → HasNoFeed l → length l ≤ line_limit
    → JudgedGives old new (l ++ 10 ∷ []) r (judged old.state (step old.state l))
    → JudgedGives old new (l ++ 10 ∷ []) r (run old (l ++ 10 ∷ []))
front_closes old new l r e f short j =
    let same : run old (l ++ 10 ∷ []) ≡ judged old.state (step old.state l) =
    run-whole_line old l f (omega (arith, short, ap length e)) ∙ ap (λ x. judged old.state (step old.state (x ++ l))) e in
    subst (JudgedGives old new (l ++ 10 ∷ []) r) (sym same) j

pub keep_long : (s : State) (l bytes : List ℕ) → HasNoFeed bytes → length l ≤ line_limit → line_limit < length l + length bytes
    → run (record { state = s; line = l }) bytes ≡ Refused (length (text_of s)) Long
keep_long s l bytes h k m = run-long (record { state = s; line = l }) bytes h k m

pub keep_gives : (s : State) (l bytes l' : List ℕ) → HasNoFeed bytes → length l + length bytes ≤ line_limit → l' ≡ l ++ bytes
    → (run (record { state = s; line = l }) bytes ≡ Going (record { state = s; line = l' })) × (text_of s ++ l' ≡ (text_of s ++ l) ++ bytes)
keep_gives s l bytes l' h k e = (
  run-line (record { state = s; line = l }) bytes h k ∙ ap (λ (x : List ℕ). Going (record { state = s; line = x })) (sym e),
  ap (λ x. text_of s ++ x) e ∙ sym (append_assoc (text_of s) l bytes),
)

-- a line is kept, and then judged
pub close_gives : (old mid new : Standing) (front : List ℕ) (r : Result Judged AllocError) → run old front ≡ Going mid
    → stream_of mid ≡ stream_of old ++ front
    → JudgedGives mid new (10 ∷ []) r (judged mid.state (step mid.state mid.line))
    → JudgedGives old new (front ++ 10 ∷ []) r (run old (front ++ 10 ∷ []))
close_gives old mid new front r h t j = by_result r j where
  same : run old (front ++ 10 ∷ []) ≡ judged mid.state (step mid.state mid.line)
  same = run-append old front (10 ∷ []) ∙ ap (λ o. o >>- λ m. run m (10 ∷ [])) h ∙ run-feed mid

  text : stream_of new ≡ stream_of mid ++ 10 ∷ [] → stream_of new ≡ stream_of old ++ (front ++ 10 ∷ [])
  text e = e ∙ ap (λ x. x ++ 10 ∷ []) t ∙ append_assoc (stream_of old) front (10 ∷ [])

  by_result : (r : Result Judged AllocError) → JudgedGives mid new (10 ∷ []) r (judged mid.state (step mid.state mid.line))
      → JudgedGives old new (front ++ 10 ∷ []) r (run old (front ++ 10 ∷ []))
  by_result (Ok Passes) j = (same ∙ j.0, text j.1)
  by_result (Ok Ends) j = (same ∙ j.0, text j.1, j.2)
  by_result (Ok (Fails byte reason)) j = same ∙ j
  by_result (Err e) j = tt

pub close_long : (old : Standing) (front : List ℕ) (byte : ℕ) → run old front ≡ Refused (length (text_of old.state)) Long
    → byte ≡ length (text_of old.state) → run old (front ++ 10 ∷ []) ≡ Refused byte Long
close_long old front byte h e = run-append old front (10 ∷ []) ∙ ap (λ o. o >>- λ m. run m (10 ∷ [])) h ∙ ap (λ b. Refused b Long) (sym e)

pub kept : (old new : Standing) (bytes : List ℕ) (b : Bool) → b ≡ true → KeepGives old new bytes (Ok b) → (run old bytes ≡ Going new)
    × (stream_of new ≡ stream_of old ++ bytes)
kept old new bytes true e k = k
kept old new bytes false e k = absurd cc

pub not_kept : (old new : Standing) (bytes : List ℕ) (b : Bool) → b ≡ false → KeepGives old new bytes (Ok b) → (new ≡ old)
    × (run old bytes ≡ Refused (length (text_of old.state)) Long)
not_kept old new bytes true e k = absurd cc
not_kept old new bytes false e k = k

-- a walk from old has come to now, and the rest of the piece is left
pub record WalksTo (old now : Standing) (piece rest : List ℕ) : Type 0 where
  pub front : List ℕ
  pub parts : piece ≡ front ++ rest
  pub going : run old front ≡ Going now
  pub text : stream_of now ≡ stream_of old ++ front

pub walks_begin : (old : Standing) (piece : List ℕ) → WalksTo old old piece piece
unfolding run
walks_begin old piece = record { front = []; parts = refl; going = refl; text = sym (append-nil (stream_of old)) }

-- what the rest gives, the whole gives
pub walks_give : (old now : Standing) (piece rest : List ℕ) → WalksTo old now piece rest → run old piece ≡ run now rest
walks_give old now piece rest w = ap (run old) w.parts ∙ run-append old w.front rest ∙ ap (λ o. o >>- λ m. run m rest) w.going

pub walks_on : (old now new : Standing) (piece rest f behind : List ℕ) → WalksTo old now piece rest → rest ≡ f ++ 10 ∷ behind
    → run now (f ++ 10 ∷ []) ≡ Going new → stream_of new ≡ stream_of now ++ (f ++ 10 ∷ []) → WalksTo old new piece behind
walks_on old now new piece rest f behind w e h t = record {
  front = w.front ++ (f ++ 10 ∷ []);
  parts = w.parts ∙ ap (λ r. w.front ++ r) (e ∙ sym (append_assoc f (10 ∷ []) behind)) ∙ sym (append_assoc w.front (f ++ 10 ∷ []) behind);
  going = run-append old w.front (f ++ 10 ∷ []) ∙ ap (λ o. o >>- λ m. run m (f ++ 10 ∷ [])) w.going ∙ h;
  text = t ∙ ap (λ x. x ++ (f ++ 10 ∷ [])) w.text ∙ append_assoc (stream_of old) w.front (f ++ 10 ∷ []);
}

line_then : (now : Standing) (f behind : List ℕ) → run now (f ++ 10 ∷ behind) ≡ (run now (f ++ 10 ∷ []) >>- λ m. run m behind)
line_then now f behind = ap (run now) (sym (append_assoc f (10 ∷ []) behind)) ∙ run-append now (f ++ 10 ∷ []) behind

pub walks_fail : (old now : Standing) (piece rest f behind : List ℕ) (byte : ℕ) (reason : TraceReason) → WalksTo old now piece rest
    → rest ≡ f ++ 10 ∷ behind
    → run now (f ++ 10 ∷ []) ≡ Refused byte reason → run old piece ≡ Refused byte reason
walks_fail old now piece rest f behind byte reason w e h =
    walks_give old now piece rest w ∙ ap (run now) e ∙ line_then now f behind ∙ ap (λ o. o >>- λ m. run m behind) h

pub walks_end : (old now new : Standing) (piece rest f behind : List ℕ) (used : ℕ) → WalksTo old now piece rest → rest ≡ f ++ 10 ∷ behind
    → used + length behind ≡ length piece
    → JudgedGives now new (f ++ 10 ∷ []) (Ok Ends) (run now (f ++ 10 ∷ [])) → WalkGives old new piece (Ok (Ended used)) (run old piece)
walks_end old now new piece rest f behind used w e u j =
    let all : piece ≡ (w.front ++ (f ++ 10 ∷ [])) ++ behind = w.parts
    ∙ ap (λ r. w.front ++ r) (e ∙ sym (append_assoc f (10 ∷ []) behind)) ∙ sym (append_assoc w.front (f ++ 10 ∷ []) behind) in
    let len : used ≡ length (w.front ++ (f ++ 10 ∷ [])) = omega (arith, ap length all, length-append (w.front ++ (f ++ 10 ∷ [])) behind) in
    let front_is : take used piece ≡ w.front ++ (f ++ 10 ∷ []) = ap (λ n. take n piece) len
    ∙ ap (take (length (w.front ++ (f ++ 10 ∷ [])))) all ∙ take-append_seam (w.front ++ (f ++ 10 ∷ [])) behind in (
      walks_give old now piece rest w ∙ ap (run now) e ∙ line_then now f behind ∙ ap (λ o. o >>- λ m. run m behind) j.0,
      j.1 ∙ ap (λ x. x ++ (f ++ 10 ∷ [])) w.text ∙ append_assoc (stream_of old) w.front (f ++ 10 ∷ [])
          ∙ ap (λ x. stream_of old ++ x) (sym front_is),
      omega arith,
      omega (arith, len, length-append w.front (f ++ 10 ∷ []), length-append f (10 ∷ [])),
      j.2,
      ap (run old) front_is ∙ run-append old w.front (f ++ 10 ∷ []) ∙ ap (λ o. o >>- λ m. run m (f ++ 10 ∷ [])) w.going ∙ j.0,
    )

pub walks_kept : (old now new : Standing) (piece rest : List ℕ) → WalksTo old now piece rest → run now rest ≡ Going new
    → stream_of new ≡ stream_of now ++ rest → (run old piece ≡ Going new) × (stream_of new ≡ stream_of old ++ piece)
walks_kept old now new piece rest w h t = (
  walks_give old now piece rest w ∙ h,
  t ∙ ap (λ x. x ++ rest) w.text ∙ append_assoc (stream_of old) w.front rest
      ∙ ap (λ x. stream_of old ++ x) (sym w.parts),
)

pub behind_shorter : (old now : Standing) (piece rest f behind : List ℕ) → WalksTo old now piece rest → rest ≡ f ++ 10 ∷ behind
    → length behind < length rest × length rest ≤ length piece
behind_shorter old now piece rest f behind w e =
    (omega (arith, ap length e, length-append f (10 ∷ behind)), omega (arith, ap length w.parts, length-append w.front rest))

-- what has come and what is left are no more than there was
pub walks_room : (old now : Standing) (piece rest f behind : List ℕ) → WalksTo old now piece rest → rest ≡ f ++ 10 ∷ behind
    → length (stream_of now) + length f < length (stream_of old) + length piece
walks_room old now piece rest f behind w e =
    omega (
      arith,
      ap length e,
      length-append f (10 ∷ behind),
      ap length w.parts,
      length-append w.front rest,
      ap length w.text,
      length-append (stream_of old) w.front,
    )

-- what has come is a front of the piece that decides nothing
pub walks_part : (old now : Standing) (piece rest : List ℕ) (used : ℕ) → WalksTo old now piece rest → used + length rest ≡ length piece
    → GoesOn old now piece (Ok used)
walks_part old now piece rest used w u =
    let len : used ≡ length w.front = omega (arith, u, ap length w.parts, length-append w.front rest) in
    let front_is : take used piece ≡ w.front = ap (λ n. take n piece) len ∙ ap (take (length w.front)) w.parts
    ∙ take-append_seam w.front rest in
    (omega (arith, u), ap (run old) front_is ∙ w.going, w.text ∙ ap (λ x. stream_of old ++ x) (sym front_is))

-- a line in front that was taken as it is written
pub took_front : (s n : State) (text rest kept : List ℕ) → IsSound s → kept ≡ [] → TakesFront true s n text rest
    → TookFront (record { state = s; line = kept }) (record { state = n; line = kept }) text rest
took_front s n text rest kept sound e t =
    let old : Standing = record { state = s; line = kept } in
    let new : Standing = record { state = n; line = kept } in
    let j : JudgedGives old new (t.line ++ 10 ∷ []) (Ok Passes) (run old (t.line ++ 10 ∷ [])) =
    front_closes old new t.line (Ok Passes) e t.feedless t.short
    (front_gives s new t.line kept (Ok Passes) (judged s (step s t.line)) e
    (judge_gives s n t.line kept false sound t.steps (sym t.goes) e)) in
    record { line = t.line; parts = t.parts; going = j.0; adds = j.1; none_begun = e }

pub took_is : (s n : State) (text rest kept : List ℕ) (used added : ℕ) → WalkIs s kept used → kept ≡ [] → TakesFront true s n text rest
    → added + length rest ≡ length text → WalkIs n kept (used + added)
took_is s n text rest kept used added w e t a =
    let all : length t.line + 1 ≡ added = omega (arith, a, ap length t.parts, length-append t.line (10 ∷ rest)) in
    subst (λ u. WalkIs n kept (used + u)) all (front_is s n t.line kept used (length t.line) w e t.short t.steps refl)

pub took_shorter_by : (s n : State) (text rest : List ℕ) → TakesFront true s n text rest → length rest < length text
took_shorter_by s n text rest t = omega (arith, ap length t.parts, length-append t.line (10 ∷ rest))

pub walks_took : (old now new : Standing) (piece rest behind : List ℕ) → WalksTo old now piece rest → TookFront now new rest behind
    → WalksTo old new piece behind
walks_took old now new piece rest behind w t = walks_on old now new piece rest t.line behind w t.parts t.going t.adds

pub took_shorter : (now new : Standing) (rest behind : List ℕ) → TookFront now new rest behind → length behind < length rest
took_shorter now new rest behind t = omega (arith, ap length t.parts, length-append t.line (10 ∷ behind))

-- what has come and what is left are all
pub walks_left : (old now : Standing) (piece rest : List ℕ) → WalksTo old now piece rest
    → length (stream_of now) + length rest ≡ length (stream_of old) + length piece
walks_left old now piece rest w =
    omega (arith, ap length w.parts, length-append w.front rest, ap length w.text, length-append (stream_of old) w.front)

pub walks_nowhere : (old : Standing) (piece : List ℕ) → GoesOn old old piece (Ok 0)
unfolding run
walks_nowhere old piece = (omega arith, refl, sym (append-nil (stream_of old)))
