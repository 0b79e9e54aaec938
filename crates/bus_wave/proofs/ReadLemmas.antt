-- What reads as a trace is its wave text, and its wave text reads as it.
use Rattle.std.proofs.Common.{arith, ◌≡◌, ℕ, ◌+◌, ◌-◌, ◌<◌, ◌≤◌, ◌^◌, Bool, true, false, cond, ◌&&◌, ◌==◌, List, [], ◌∷◌, ◌++◌, codes, length}
use Rattle.std.proofs.Common.{Result, Ok, Err, refl, sym, ap, subst, ◌∙◌, append_assoc, append-nil, length-append}
use Rattle.std.specs.Prelude.{IsTrue, IfOk}
use Rattle.std.specs.Fmt.{decimal}
use Rattle.std.specs.List.{slice_split, join_with_byte, AllByRecursion}
use Rattle.std.proofs.lemmas.Bool.{and_parts, eqb-true}
use Rattle.std.proofs.lemmas.Bool.Decides.{nat_tests}
use Rattle.std.proofs.lemmas.List.Splits.{join_with_byte-slice_split}
use Rattle.bus_text.specs.AllOf.{◌>>=◌}
use Rattle.bus_text.proofs.AllOfLaws.{bind_ok}
use Rattle.bus_text.specs.Canonical.{spelled_line}
use Rattle.bus_text.specs.Lines.{is_feed}
use Rattle.bus_text.specs.Refusals.{at_line}
use Rattle.bus_words.specs.declared.word.Kind.{Kind}
use Rattle.bus_words.specs.declared.word.Kind.TheVariants.{Label, Plain}
use Rattle.bus_words.specs.declared.word.Word.{Word}
use Rattle.bus_strings.specs.Limits.{horizon_limit}
use Rattle.bus_strings.specs.Messages.{Message, Entry, IsMessage}
use Rattle.bus_strings.specs.Transmissions.{end_of}
use Rattle.bus_table.specs.Tables.{Sender, Table}
use Rattle.bus_table.specs.Valid.{is_valid}
use Rattle.bus_trace.specs.Traces.{Recording, IsTrace, IsBelow}
use Rattle.bus_wave.specs.declared.fault.WaveReason.{WaveReason}
use Rattle.bus_wave.specs.declared.fault.WaveReason.TheVariants.{Ended, Keyword}
use Rattle.bus_text.specs.declared.fault.LineFault.{LineFault}
use Rattle.bus_text.specs.declared.fault.LineFault.TheVariants as fault
use Rattle.bus_text.specs.declared.error.TextError.{TextError}
use Rattle.bus_text.specs.inside.Gives.{LineFails}
use Rattle.bus_text.specs.Gives.{Fails, Gives}
use Rattle.bus_wave.specs.inside.Parts.{fault_at}
use Rattle.bus_wave.specs.declared.symbol.Symbol.{Symbol}
use Rattle.bus_wave.specs.declared.symbol.Symbol.TheVariants as symbol
use Rattle.bus_wave.specs.Code.{digits_of}
use Rattle.bus_trace.specs.States.{spaced_fields}
use Rattle.bus_wave.specs.Symbols.{head_reading, symbol_reading}
use Rattle.bus_wave.specs.Judging.{Phase, Opened, Silent, Saying, Waiting, Closed, State, opening, least_rest, order_step, step}
use Rattle.bus_wave.specs.Reading.{WaveRefusal, is_closed, judge_read, judge, recorded, ended, pieces_reading, text_reading, wave_reading}
use Rattle.bus_wave.specs.WaveLaws.{most_bytes, IsWaveTrace, IsRead}
use Rattle.bus_wave.specs.Waves.{word_halves, wave}
use Rattle.bus_wave.specs.WaveTexts.{WaveLine, Quiet, Halves, line_fields, text_of, lines_up_to, last_end, message_lines, laid, quiet_lines, wave_text, IsWaveText}
use Rattle.bus_wave.specs.inside.Capped.{capped}
use Rattle.bus_wave.proofs.CountLemmas.{is_trace}
use Rattle.bus_wave.proofs.DraftLemmas.{cap_step}
use Rattle.bus_wave.proofs.LeadLemmas.{Leads}
use Rattle.bus_wave.proofs.ListLeads.{all_lead}
use Rattle.bus_wave.proofs.SoundLemmas.{Sound, Follows, Ends, quiet_follows, label_follows, data_follows, end_ends}
use Rattle.bus_wave.proofs.StepLemmas.{step_is, quiet_at, still_going}
use Rattle.bus_wave.proofs.StateLemmas.{lines_of, sent}
use Rattle.bus_wave.proofs.TextLemmas.{quiet_reads, word_reads, IsLineOf, symbol_found, head_found, head_reads, end_reads, some_piece, line_split}
use Rattle.bus_wave.proofs.TextLemmas.{quiet_feedless, word_feedless}
use Rattle.bus_wave.proofs.WaveLemmas.{has_one_text, some_strings}
use Rattle.bus_wave.proofs.WriteTexts.{spelled, text_is}

-- ---- a step of a sound state
-- the line of a symbol
abbrev pub line_of : Symbol → List WaveLine
line_of (symbol.Quiet n) = Quiet n ∷ []
line_of (symbol.Sent word) = sent word ∷ []
line_of symbol.End = []

some_quiet : (n : ℕ) → (n == 0) ≡ false → 1 ≤ n
some_quiet n h = grind (arith, nat_tests)

quiet_sound : (table : Table) → IsTrue (is_valid table) → (s m : State) (n : ℕ) → Sound table s → step table.senders s (symbol.Quiet n) ≡ Ok m
    → Follows table (lines_of s) (Quiet n) m
quiet_sound table valid s m n h e =
    let k = step_is table.senders s (symbol.Quiet n) m e in
    quiet_follows table valid s.at s.list s.phase n m (some_quiet n k.some) h k.keeps

word_sound : (table : Table) → IsTrue (is_valid table) → (s m : State) (word : Word) → word.value < 2 ^ 16 → Sound table s
    → step table.senders s (symbol.Sent word) ≡ Ok m → Follows table (lines_of s) (sent word) m
word_sound table valid s m word low h e = by_kind word.kind word.value low (step_is table.senders s (symbol.Sent word) m e).keeps where
  by_kind : (kind : Kind) (value : ℕ) → value < 2 ^ 16 → order_step table.senders s (symbol.Sent (record { kind = kind; value = value })) ≡ Ok m
      → Follows table (lines_of s) (sent (record { kind = kind; value = value })) m
  by_kind Label value low k = label_follows table valid s.at s.list s.phase value m h k
  by_kind Plain value low k = data_follows table s.at s.list s.phase value m low h k

end_sound : (table : Table) → IsTrue (is_valid table) → (s m : State) → Sound table s → step table.senders s symbol.End ≡ Ok m
    → Ends table (lines_of s) m
end_sound table valid s m h e = end_ends table valid s.at s.list s.phase m h (step_is table.senders s symbol.End m e).keeps

-- a number of quiet bit times that is taken is below the greatest horizon
quiet_low : (senders : List Sender) (s m : State) (n : ℕ) → step senders s (symbol.Quiet n) ≡ Ok m → n < 2 ^ 64
quiet_low senders s m n e =
    let k = step_is senders s (symbol.Quiet n) m e in
    let at : m.at ≡ s.at + n = quiet_at s.phase s m n k.keeps in
    let low : m.at + least_rest m.phase ≤ horizon_limit = k.low in
    omega arith

going : (senders : List Sender) (s m : State) (y : Symbol) → step senders s y ≡ Ok m → is_closed s.phase ≡ false
going senders s m y e = still_going senders s.at s.list s.phase y m (step_is senders s y m e).keeps

-- ---- found
-- these bytes are lines that lead to the end, with this trace
record Found (table : Table) (s : State) (text : List ℕ) (t : Recording) : Type 0 where
  lines : List WaveLine
  last : State
  leads : Leads table.senders s lines last
  done : State
  ends : step table.senders last symbol.End ≡ Ok done
  text_is : text ≡ spelled lines ++ codes "END\n"
  trace : recorded table done ≡ t

not_ended : (table : Table) (number : ℕ) (s : State) (rest : List ℕ) (t : Recording) → is_closed s.phase ≡ false → ended table number s rest ≡ Ok t → ⊥
not_ended table number s rest t unclosed h =
    let k = sym (ap (λ b. cond (b && length rest == 0) (Ok (recorded table s)) (Err (record { line = number; reason = Ended }))) unclosed) ∙ h in cc

line_ok : {A : Type 0} (number : ℕ) (r : Result A WaveReason) (x : A) → at_line number r ≡ Ok x → r ≡ Ok x
line_ok number (Ok y) x h = ap Ok cc
line_ok number (Err e) x h = absurd cc

-- a line that is taken
record Judged (table : Table) (s : State) (line : List ℕ) (m : State) : Type 0 where
  read : Symbol
  reads : symbol_reading (spaced_fields line) ≡ Ok read
  steps : step table.senders s read ≡ Ok m

judged : (table : Table) (s : State) (line : List ℕ) (m : State) → is_closed s.phase ≡ false → judge table.senders s line ≡ Ok m → Judged table s line m
unfolding judge
judged table s line m unclosed h =
    let k : (symbol_reading (spaced_fields line) >>= step table.senders s) ≡ Ok m =
    sym (ap (λ b. cond b (Err Keyword) (symbol_reading (spaced_fields line) >>= step table.senders s)) unclosed) ∙ h in
    let b = bind_ok (symbol_reading (spaced_fields line)) (step table.senders s) m k in
    record { read = b.0; reads = b.1; steps = b.2 }

pub none_behind : (table : Table) (s : State) (line : List ℕ) → is_closed s.phase ≡ true → judge table.senders s line ≡ Err Keyword
unfolding judge
none_behind table s line closed = ap (λ b. cond b (Err Keyword) (symbol_reading (spaced_fields line) >>= step table.senders s)) closed

-- what one line more gives
pub pieces_more : (table : Table) (number : ℕ) (s : State) (line next : List ℕ) (pieces : List (List ℕ))
    → pieces_reading table number s (line ∷ next ∷ pieces)
    ≡ (at_line number (judge table.senders s line) >>= λ now. pieces_reading table (number + 1) now (next ∷ pieces))
unfolding pieces_reading
pieces_more table number s line next pieces = refl

pub pieces_last : (table : Table) (number : ℕ) (s : State) (rest : List ℕ) → pieces_reading table number s (rest ∷ []) ≡ ended table number s rest
unfolding pieces_reading
pieces_last table number s rest = refl

pieces_none : (table : Table) (number : ℕ) (s : State) → pieces_reading table number s [] ≡ ended table number s []
unfolding pieces_reading
pieces_none table number s = refl

empty_is : (rest : List ℕ) → (length rest == 0) ≡ true → rest ≡ []
empty_is [] h = refl
empty_is (b ∷ rest) h = absurd (let n = eqb-true (length (b ∷ rest)) 0 h in omega arith)

closed_rest : (table : Table) (number : ℕ) (s : State) (next : List ℕ) (pieces : List (List ℕ)) (t : Recording) → is_closed s.phase ≡ true
    → pieces_reading table number s (next ∷ pieces) ≡ Ok t → (join_with_byte 10 (next ∷ pieces) ≡ []) × (recorded table s ≡ t)
closed_rest table number s next [] t closed h = by_rest (is_closed s.phase && length next == 0) refl (sym (pieces_last table number s next) ∙ h) where
  by_rest : (b : Bool) → (is_closed s.phase && length next == 0) ≡ b → cond b (let r : Result Recording WaveRefusal = Ok (recorded table s) in r) (Err (record { line = number; reason = Ended })) ≡ Ok t
      → (next ≡ []) × (recorded table s ≡ t)
  by_rest false e k = absurd cc
  by_rest true e k = (empty_is next (and_parts (is_closed s.phase) (length next == 0) e).1, (let same : recorded table s ≡ t = cc in same))
closed_rest table number s next (piece ∷ pieces) t closed h =
    let k = sym (ap (λ r. at_line number r >>= λ now. pieces_reading table (number + 1) now (piece ∷ pieces)) (none_behind table s next closed)) ∙ sym (pieces_more table number s next piece pieces) ∙ h in
    absurd cc

pieces_found : (table : Table) → IsTrue (is_valid table) → (number : ℕ) (s : State) (pieces : List (List ℕ)) (t : Recording) → Sound table s
    → is_closed s.phase ≡ false → pieces_reading table number s pieces ≡ Ok t → Found table s (join_with_byte 10 pieces) t
pieces_found table valid number s [] t sound unclosed h = absurd (not_ended table number s [] t unclosed (sym (pieces_none table number s) ∙ h))
pieces_found table valid number s (rest ∷ []) t sound unclosed h = absurd (not_ended table number s rest t unclosed (sym (pieces_last table number s rest) ∙ h))
pieces_found table valid number s (line ∷ next ∷ pieces) t sound unclosed h =
    let b = bind_ok (at_line number (judge table.senders s line)) (λ now. pieces_reading table (number + 1) now (next ∷ pieces)) t (sym (pieces_more table number s line next pieces) ∙ h) in
    let j = judged table s line b.0 unclosed (line_ok number (judge table.senders s line) b.0 b.1) in
    by_symbol (λ m sound going rest. pieces_found table valid (number + 1) m (next ∷ pieces) t sound going rest) b.0 j.read (symbol_found line j.read j.reads) j.steps b.2
  where
    parts : (front : List ℕ) (lines : List WaveLine) → line ≡ front → join_with_byte 10 (next ∷ pieces) ≡ spelled lines ++ codes "END\n"
        → line ++ 10 ∷ join_with_byte 10 (next ∷ pieces) ≡ ((front ++ 10 ∷ []) ++ spelled lines) ++ codes "END\n"
    parts front lines e f =
        ap (λ l. l ++ 10 ∷ join_with_byte 10 (next ∷ pieces)) e ∙ ap (λ r. front ++ 10 ∷ r) f
        ∙ sym (append_assoc (front ++ 10 ∷ []) (spelled lines) (codes "END\n") ∙ append_assoc front (10 ∷ []) (spelled lines ++ codes "END\n"))

    by_symbol : ((m : State) → Sound table m → is_closed m.phase ≡ false → pieces_reading table (number + 1) m (next ∷ pieces) ≡ Ok t → Found table m (join_with_byte 10 (next ∷ pieces)) t)
        → (m : State) (y : Symbol) → IsLineOf y line → step table.senders s y ≡ Ok m → pieces_reading table (number + 1) m (next ∷ pieces) ≡ Ok t
        → Found table s (line ++ 10 ∷ join_with_byte 10 (next ∷ pieces)) t
    by_symbol again m (symbol.Quiet n) is steps rest =
        let f = quiet_sound table valid s m n sound steps in
        let r = again m f.sound f.going rest in
        record {
          lines = Quiet n ∷ r.lines;
          last = r.last;
          leads = (m, steps, r.leads);
          done = r.done;
          ends = r.ends;
          text_is = parts (81 ∷ 32 ∷ decimal n) r.lines (is (quiet_low table.senders s m n steps)) r.text_is;
          trace = r.trace;
        }
    by_symbol again m (symbol.Sent word) is steps rest =
        let f = word_sound table valid s m word is.0 sound steps in
        let r = again m f.sound f.going rest in
        record {
          lines = sent word ∷ r.lines;
          last = r.last;
          leads = (m, word, is.0, refl, steps, r.leads);
          done = r.done;
          ends = r.ends;
          text_is = parts (87 ∷ 32 ∷ digits_of (word_halves word)) r.lines is.1 r.text_is;
          trace = r.trace;
        }
    by_symbol again m symbol.End is steps rest =
        let f = end_sound table valid s m sound steps in
        let c = closed_rest table (number + 1) m next pieces t f.closed rest in
        record {
          lines = [];
          last = s;
          leads = refl;
          done = m;
          ends = steps;
          text_is = ap (λ l. l ++ 10 ∷ join_with_byte 10 (next ∷ pieces)) is ∙ ap (λ r. codes "END" ++ 10 ∷ r) c.0;
          trace = c.1;
        }

-- ---- what was found is the trace's text
-- sound states that lines lead to
record Led (table : Table) (s : State) (lines : List WaveLine) (e : State) : Type 0 where
  sound : Sound table e
  give : lines_of e ≡ lines_of s ++ lines

led : (table : Table) → IsTrue (is_valid table) → (s e : State) (lines : List WaveLine) → Sound table s → Leads table.senders s lines e
    → Led table s lines e
led table valid s e [] sound h =
    record { sound = subst (Sound table) h sound; give = ap lines_of (sym h) ∙ sym (append-nil (lines_of s)) }
led table valid s e (Quiet n ∷ lines) sound h =
    let f = quiet_sound table valid s h.0 n sound h.1 in
    let r = led table valid h.0 e lines f.sound h.2 in
    record { sound = r.sound; give = r.give ∙ ap (λ ls. ls ++ lines) f.lines ∙ append_assoc (lines_of s) (Quiet n ∷ []) lines }
led table valid s e (Halves halves ∷ lines) sound h =
    let f = word_sound table valid s h.0 h.1 h.2 sound h.4 in
    let r = led table valid h.0 e lines f.sound h.5 in
    record {
      sound = r.sound;
      give = r.give ∙ ap (λ ls. ls ++ lines) f.lines ∙ append_assoc (lines_of s) (sent h.1 ∷ []) lines
          ∙ ap (λ hs. lines_of s ++ (Halves hs ∷ lines)) (sym h.3);
    }

first_sound : (table : Table) → Sound table opening
first_sound table = record { senders = tt; messages = tt; apart = tt; phase = (refl, refl) }

closed_is : (table : Table) (s : State) → is_closed s.phase ≡ true → lines_of s ≡ lines_up_to s.at s.list
closed_is table s h = by_phase s.phase h where
  by_phase : (phase : Phase) → is_closed phase ≡ true → lines_of (record { at = s.at; list = s.list; phase = phase }) ≡ lines_up_to s.at s.list
  by_phase Opened k = refl
  by_phase (Silent free) k = refl
  by_phase (Saying x line words left) k = absurd cc
  by_phase (Waiting x next left) k = absurd cc
  by_phase Closed k = refl

-- ---- a text has no fewer bytes than its trace has entries
spelled_long : (lines : List WaveLine) → length lines ≤ length (spelled lines)
spelled_long [] = omega arith
spelled_long (l ∷ ls) =
    omega (arith, spelled_long ls, length-append (spelled_line (line_fields l)) (spelled ls), one_byte l) where
      one_byte : (w : WaveLine) → 1 ≤ length (spelled_line (line_fields w))
      one_byte (Quiet n) = omega arith
      one_byte (Halves halves) = omega arith

message_long : (message : Message) → 0 < length message → 1 ≤ length (message_lines message)
message_long [] h = absurd (omega (arith, h))
message_long (string ∷ strings) h = omega arith

laid_long : (from : ℕ) (list : List Entry) → AllByRecursion (λ x. IsMessage x.message) list → length list ≤ length (laid from list)
laid_long from [] h = omega arith
laid_long from (x ∷ xs) h =
    omega (
      arith,
      laid_long (end_of x) xs h.1,
      message_long x.message h.0.some,
      length-append (quiet_lines (x.moment - from) ++ message_lines x.message) (laid (end_of x) xs),
      length-append (quiet_lines (x.moment - from)) (message_lines x.message),
    )

-- ---- both laws
found_read : (table : Table) → IsTrue (is_valid table) → (t : Recording) (text body : List ℕ) → length text ≤ most_bytes
    → text ≡ codes "WAVE 1\n" ++ body → Found table opening body t → IsRead table t text
found_read table valid t text body short e f =
    let l = led table valid opening f.last f.lines (first_sound table) f.leads in
    let d = end_sound table valid f.last f.done l.sound f.ends in
    let done : State = f.done in
    let lines : f.lines ≡ lines_up_to done.at done.list = sym l.give ∙ sym d.lines ∙ closed_is table done d.closed in
    let is : text ≡ text_of (lines_up_to done.at done.list) =
    e ∙ ap (λ b. codes "WAVE 1\n" ++ b) f.text_is ∙ sym (text_is f.lines) ∙ ap text_of lines in
    let low : done.at ≤ horizon_limit = (let k = (step_is table.senders f.last symbol.End done f.ends).low in omega arith) in
    let sound = d.sound in
    let many : length done.list ≤ length text =
    omega (
      arith,
      ap length (is ∙ text_is (lines_up_to done.at done.list)),
      length-append (codes "WAVE 1\n") (spelled (lines_up_to done.at done.list) ++ codes "END\n"),
      length-append (spelled (lines_up_to done.at done.list)) (codes "END\n"),
      spelled_long (lines_up_to done.at done.list),
      length-append (laid 0 done.list) (quiet_lines (done.at - last_end 0 done.list)),
      laid_long 0 done.list sound.messages,
    ) in
    let trace = is_trace table valid done.at done.list low (omega (arith, many, short)) sound.apart sound.senders sound.messages in
    let one = has_one_text (recorded table done) sound.apart (some_strings (recorded table done) trace) in
    subst (λ (u : Recording). IsRead table u text) f.trace (record {
      trace = record { trace = trace; spaced = record { senders = sound.senders; apart = sound.apart }; holds = refl };
      is_text = subst (λ (x : List ℕ). IsWaveText (recorded table done) x) (sym is) one.is;
      few = many;
    })

pub head_split : (table : Table) (line next : List ℕ) (pieces : List (List ℕ))
    → text_reading table (line ∷ next ∷ pieces) ≡ (at_line 1 (head_reading (spaced_fields line)) >>= λ _. pieces_reading table 2 opening (next ∷ pieces))
unfolding text_reading
head_split table line next pieces = refl

too_short : (table : Table) (rest : List ℕ) (t : Recording) → text_reading table (rest ∷ []) ≡ Ok t → ⊥
unfolding text_reading
too_short table rest t h = cc

pub reads_only : (table : Table) (t : Recording) (text : List ℕ) → IsTrue (is_valid table) → length text ≤ most_bytes → wave_reading table text ≡ Ok t
    → IsRead table t text
reads_only table t text valid short h = by_pieces (slice_split is_feed text) refl h where
  by_pieces : (pieces : List (List ℕ)) → slice_split is_feed text ≡ pieces → text_reading table pieces ≡ Ok t → IsRead table t text
  by_pieces [] e k = absurd (let p = some_piece text in let q = sym e ∙ p.2 in cc)
  by_pieces (rest ∷ []) e k = absurd (too_short table rest t k)
  by_pieces (line ∷ next ∷ pieces) e k =
      let b = bind_ok (at_line 1 (head_reading (spaced_fields line))) (λ _. pieces_reading table 2 opening (next ∷ pieces)) t (sym (head_split table line next pieces) ∙ k) in
      let head : line ≡ codes "WAVE 1" = head_found line b.0 (line_ok 1 (head_reading (spaced_fields line)) b.0 b.1) in
      let whole : text ≡ codes "WAVE 1\n" ++ join_with_byte 10 (next ∷ pieces) =
      sym (join_with_byte-slice_split 10 text) ∙ ap (join_with_byte 10) e ∙ ap (λ l. l ++ 10 ∷ join_with_byte 10 (next ∷ pieces)) head in
      found_read table valid t text (join_with_byte 10 (next ∷ pieces)) short whole
      (pieces_found table valid 2 opening (next ∷ pieces) t (first_sound table) refl b.2)

-- ---- and back
one_line : (table : Table) (number : ℕ) (s m : State) (line rest : List ℕ) → AllByRecursion (λ b. is_feed b ≡ false) line → judge table.senders s line ≡ Ok m
    → pieces_reading table number s (slice_split is_feed (line ++ 10 ∷ rest)) ≡ pieces_reading table (number + 1) m (slice_split is_feed rest)
one_line table number s m line rest plain h =
    let p = some_piece rest in
    ap (pieces_reading table number s) (line_split line rest plain ∙ ap (λ ps. line ∷ ps) p.2)
    ∙ pieces_more table number s line p.0 p.1
    ∙ ap (λ r. at_line number r >>= λ now. pieces_reading table (number + 1) now (p.0 ∷ p.1)) h
    ∙ ap (pieces_reading table (number + 1) m) (sym p.2)

takes : (table : Table) (s m : State) (line : List ℕ) (y : Symbol) → symbol_reading (spaced_fields line) ≡ Ok y → step table.senders s y ≡ Ok m
    → judge table.senders s line ≡ Ok m
unfolding judge
takes table s m line y reads steps =
    ap (λ b. cond b (Err Keyword) (symbol_reading (spaced_fields line) >>= step table.senders s)) (going table.senders s m y steps)
    ∙ ap (λ r. r >>= step table.senders s) reads ∙ steps

closes : (table : Table) (number : ℕ) (s : State) → is_closed s.phase ≡ true → pieces_reading table number s ([] ∷ []) ≡ Ok (recorded table s)
closes table number s closed =
    pieces_last table number s [] ∙ ap (λ b. cond (b && true) (Ok (recorded table s)) (Err (record { line = number; reason = Ended }))) closed

pieces_back : (table : Table) (number : ℕ) (s : State) (lines : List WaveLine) (last done : State) → Leads table.senders s lines last
    → step table.senders last symbol.End ≡ Ok done → is_closed done.phase ≡ true
    → pieces_reading table number s (slice_split is_feed (spelled lines ++ codes "END\n")) ≡ Ok (recorded table done)
pieces_back table number s [] last done h ends closed =
    let now : judge table.senders s (codes "END") ≡ Ok done = takes table s done (codes "END") symbol.End end_reads (ap (λ k. step table.senders k symbol.End) h ∙ ends) in
    one_line table number s done (codes "END") [] (refl, (refl, (refl, tt))) now ∙ closes table (number + 1) done closed
pieces_back table number s (Quiet n ∷ lines) last done h ends closed =
    let low = quiet_low table.senders s h.0 n h.1 in
    let line : List ℕ = 81 ∷ 32 ∷ decimal n in
    let rest : List ℕ = spelled lines ++ codes "END\n" in
    let now = takes table s h.0 line (symbol.Quiet n) (quiet_reads n low) h.1 in
    ap (λ x. pieces_reading table number s (slice_split is_feed x)) (append_assoc (line ++ 10 ∷ []) (spelled lines) (codes "END\n") ∙ append_assoc line (10 ∷ []) rest)
    ∙ one_line table number s h.0 line rest (quiet_feedless n low) now ∙ pieces_back table (number + 1) h.0 lines last done h.2 ends closed
pieces_back table number s (Halves halves ∷ lines) last done h ends closed =
    let word : Word = h.1 in
    let line : List ℕ = 87 ∷ 32 ∷ digits_of (word_halves word) in
    let rest : List ℕ = spelled lines ++ codes "END\n" in
    let now = takes table s h.0 line (symbol.Sent word) (word_reads word h.2) h.4 in
    ap (λ hs. pieces_reading table number s (slice_split is_feed (spelled (Halves hs ∷ lines) ++ codes "END\n"))) h.3
    ∙ ap (λ x. pieces_reading table number s (slice_split is_feed x)) (append_assoc (line ++ 10 ∷ []) (spelled lines) (codes "END\n") ∙ append_assoc line (10 ∷ []) rest)
    ∙ one_line table number s h.0 line rest (word_feedless word) now ∙ pieces_back table (number + 1) h.0 lines last done h.5 ends closed

messages_of : (t : Recording) → IsTrace t → AllByRecursion (λ x. IsMessage x.message) t.list
messages_of t h = each t.list h.list where
  each : (list : List Entry) → AllByRecursion (IsBelow t.horizon) list → AllByRecursion (λ x. IsMessage x.message) list
  each [] k = tt
  each (x ∷ xs) k = (k.0.message, each xs k.1)

text_back : (table : Table) → IsTrue (is_valid table) → (t : Recording) → IsWaveTrace table t → wave_reading table (wave_text t) ≡ Ok t
text_back table valid t h =
    let l = all_lead table valid t.horizon t.list h.trace.horizon h.spaced.apart h.spaced.senders (messages_of t h.trace) in
    let lines : List WaveLine = lines_up_to t.horizon t.list in
    let body : List ℕ = spelled lines ++ codes "END\n" in
    let p = some_piece body in
    let done : State = record { at = t.horizon; list = t.list; phase = Closed } in
    ap (λ x. text_reading table (slice_split is_feed x)) (text_is lines)
    ∙ ap (text_reading table) (line_split (codes "WAVE 1") body (refl, (refl, (refl, (refl, (refl, (refl, tt)))))) ∙ ap (λ ps. codes "WAVE 1" ∷ ps) p.2)
    ∙ head_split table (codes "WAVE 1") p.0 p.1
    ∙ ap (λ r. at_line 1 r >>= λ _. pieces_reading table 2 opening (p.0 ∷ p.1)) head_reads
    ∙ ap (pieces_reading table 2 opening) (sym p.2)
    ∙ pieces_back table 2 opening lines l.last done l.leads l.ends refl
    ∙ ap (λ hs. (let r : Result Recording WaveRefusal = Ok (record { horizon = t.horizon; holds = hs; list = t.list }) in r)) (sym h.holds)

pub reads_back : (table : Table) (t : Recording) (text : List ℕ) → IsTrue (is_valid table) → IsWaveTrace table t → IsWaveText t text
    → wave_reading table text ≡ Ok t
reads_back table t text valid h is =
    ap (wave_reading table) ((has_one_text t h.spaced.apart (some_strings t h.trace)).only text is) ∙ text_back table valid t h

pub waves_tell : (table : Table) (t u : Recording) → IsTrue (is_valid table) → IsWaveTrace table t → IsWaveTrace table u → wave t ≡ wave u → t ≡ u
waves_tell table t u valid h k same =
    let is = (has_one_text t h.spaced.apart (some_strings t h.trace)).is in
    let other : IsWaveText u (wave_text t) = record { lines = is.lines; right = is.right; stand = is.stand ∙ same; text_is = is.text_is } in
    let e = sym (reads_back table t (wave_text t) valid h is) ∙ reads_back table u (wave_text t) valid k other in
    cc

-- ---- what the code gives
pub read_closed : (senders : List Sender) (s : State) (reading : Result Symbol WaveReason) → is_closed s.phase ≡ true
    → judge_read senders s reading ≡ Err Keyword
read_closed senders s reading closed = ap (λ b. cond b (Err Keyword) (reading >>= step senders s)) closed

pub read_error : (senders : List Sender) (s : State) (reading : Result Symbol WaveReason) (e : WaveReason) → is_closed s.phase ≡ false
    → reading ≡ Err e → judge_read senders s reading ≡ Err e
read_error senders s reading e unclosed h = ap (λ b. cond b (Err Keyword) (reading >>= step senders s)) unclosed ∙ ap (λ r. r >>= step senders s) h

pub read_symbol : (senders : List Sender) (s : State) (reading : Result Symbol WaveReason) (y : Symbol) → is_closed s.phase ≡ false
    → reading ≡ Ok y → step senders s y ≡ judge_read senders s reading
read_symbol senders s reading y unclosed h = sym (ap (λ b. cond b (Err Keyword) (reading >>= step senders s)) unclosed ∙ ap (λ r. r >>= step senders s) h)

capped_same : (senders : List Sender) (s : State) (r : Result Symbol WaveReason) → s.at ≤ horizon_limit
    → judge_read senders s (capped r) ≡ judge_read senders s r
capped_same senders s (Ok y) low = ap (λ x. cond (is_closed s.phase) (Err Keyword) x) (cap_step senders s y low)
capped_same senders s (Err e) low = refl

pub judged_read : (senders : List Sender) (s : State) (line : List ℕ) (reading : Result Symbol WaveReason) → s.at ≤ horizon_limit
    → reading ≡ capped (symbol_reading (spaced_fields line)) → judge_read senders s reading ≡ judge senders s line
unfolding judge
judged_read senders s line reading low h = ap (judge_read senders s) h ∙ capped_same senders s (symbol_reading (spaced_fields line)) low

-- what one line more gives, by how the text is cut
pub line_more : (table : Table) (number : ℕ) (s m : State) (rest line behind : List ℕ) → slice_split is_feed rest ≡ line ∷ slice_split is_feed behind
    → judge table.senders s line ≡ Ok m
    → pieces_reading table number s (slice_split is_feed rest) ≡ pieces_reading table (number + 1) m (slice_split is_feed behind)
line_more table number s m rest line behind e h =
    let p = some_piece behind in
    ap (pieces_reading table number s) (e ∙ ap (λ ps. line ∷ ps) p.2)
    ∙ pieces_more table number s line p.0 p.1
    ∙ ap (λ r. at_line number r >>= λ now. pieces_reading table (number + 1) now (p.0 ∷ p.1)) h
    ∙ ap (pieces_reading table (number + 1) m) (sym p.2)

pub line_error : (table : Table) (number : ℕ) (s : State) (rest line behind : List ℕ) (reason : WaveReason) → slice_split is_feed rest ≡ line ∷ slice_split is_feed behind
    → judge table.senders s line ≡ Err reason
    → pieces_reading table number s (slice_split is_feed rest) ≡ Err (record { line = number; reason = reason })
line_error table number s rest line behind reason e h =
    let p = some_piece behind in
    ap (pieces_reading table number s) (e ∙ ap (λ ps. line ∷ ps) p.2)
    ∙ pieces_more table number s line p.0 p.1
    ∙ ap (λ r. at_line number r >>= λ now. pieces_reading table (number + 1) now (p.0 ∷ p.1)) h

-- the text ends
pub text_ended : (table : Table) (number : ℕ) (s : State) (rest : List ℕ) → slice_split is_feed rest ≡ rest ∷ []
    → pieces_reading table number s (slice_split is_feed rest) ≡ ended table number s rest
text_ended table number s rest e = ap (pieces_reading table number s) e ∙ pieces_last table number s rest

pub one_piece : (table : Table) (rest : List ℕ) → text_reading table (rest ∷ []) ≡ Err (record { line = 1; reason = Ended })
unfolding text_reading
one_piece table rest = refl

pub head_more : (table : Table) (text line rest : List ℕ) → slice_split is_feed text ≡ line ∷ slice_split is_feed rest
    → wave_reading table text ≡ (at_line 1 (head_reading (spaced_fields line)) >>= λ _. pieces_reading table 2 opening (slice_split is_feed rest))
head_more table text line rest e =
    let p = some_piece rest in
    ap (text_reading table) (e ∙ ap (λ ps. line ∷ ps) p.2)
    ∙ head_split table line p.0 p.1
    ∙ ap (λ ps. at_line 1 (head_reading (spaced_fields line)) >>= λ _. pieces_reading table 2 opening ps) (sym p.2)

-- whether the text may end
pub undone : (table : Table) (number : ℕ) (s : State) (rest : List ℕ) → (is_closed s.phase && length rest == 0) ≡ false
    → ended table number s rest ≡ Err (record { line = number; reason = Ended })
undone table number s rest h =
    ap (λ b. cond b (let r : Result Recording WaveRefusal = Ok (recorded table s) in r) (Err (record { line = number; reason = Ended }))) h

pub done_is : (table : Table) (number : ℕ) (s : State) (rest : List ℕ) → (is_closed s.phase && length rest == 0) ≡ true
    → ended table number s rest ≡ Ok (recorded table s)
done_is table number s rest h =
    ap (λ b. cond b (let r : Result Recording WaveRefusal = Ok (recorded table s) in r) (Err (record { line = number; reason = Ended }))) h

-- a line that isn't taken
pub line_fails : (table : Table) (number : ℕ) (s : State) (rest line behind : List ℕ) (f : LineFault WaveReason) → slice_split is_feed rest ≡ line ∷ slice_split is_feed behind
    → LineFails f (judge table.senders s line) → Fails (fault_at number f) (pieces_reading table number s (slice_split is_feed rest))
line_fails table number s rest line behind (fault.Refused reason) e h = line_error table number s rest line behind reason e h
line_fails table number s rest line behind fault.Memory e h = tt

-- what an answer gives
pub is_read_if : (table : Table) (text : List ℕ) (r : Result Recording (TextError WaveReason)) → IsTrue (is_valid table) → length text ≤ most_bytes
    → Gives (λ t. t) r (wave_reading table text) → IfOk r (λ t. IsRead table t text)
is_read_if table text (Ok t) valid short h = reads_only table t text valid short h
is_read_if table text (Err e) valid short h = tt
