-- What a step adds to the text.
use Rattle.std.proofs.Common.{arith, ◌≡◌, ℕ, ◌<◌, Bool, true, false, not, cond, ◌&&◌, ◌||◌, ◌==◌, List, [], ◌∷◌}
use Rattle.std.proofs.Common.{◌++◌, length, codes, nat_lt, Option, Some, None, Result, Ok, Err, refl, sym, ap, subst, ◌∙◌}
use Rattle.std.proofs.Common.{append_assoc, append-nil, length-append, drop, map}
use Rattle.std.specs.List.{flat_map, AllByRecursion}
use Rattle.std.specs.Str.{bytes_eq}
use Rattle.std.specs.Fmt.{decimal}
use Rattle.std.specs.Int.{is_in_range}
use Rattle.std.proofs.lemmas.Bool.{and_parts, eqb-true, ltb-true}
use Rattle.std.proofs.lemmas.List.{map-append}
use Rattle.std.proofs.lemmas.List.Splits.{join_with_byte-slice_split}
use Rattle.std.proofs.lemmas.List.Concat.{flat_map-append}
use Rattle.bus_text.specs.Canonical.{spelled_line, spelled_lines}
use Rattle.bus_text.proofs.NumberLemmas.{decimal_again}
use Rattle.bus_text.proofs.FieldLemmas.{same_bytes}
use Rattle.bus_strings.specs.Messages.{Wordstring, Entry, IsWordstring}
use Rattle.bus_strings.specs.Transmissions.{IsAscending}
use Rattle.bus_trace.specs.declared.hold.Hold.{Hold}
use Rattle.bus_trace.specs.declared.keyword.Keyword.{Keyword}
use Rattle.bus_trace.specs.declared.keyword.Keyword.TheVariants as keyword
use Rattle.bus_trace.specs.declared.position.Position.{Position}
use Rattle.bus_trace.specs.declared.position.Position.TheVariants.{Start, Headed, Holding, Begun, Stringing, Closed, Ended}
use Rattle.bus_trace.specs.declared.format.Format.{Format}
use Rattle.bus_trace.specs.declared.format.Format.TheVariants.{One, Two}
use Rattle.bus_trace.specs.declared.reason.TraceReason.{TraceReason}
use Rattle.bus_trace.specs.declared.reason.TraceReason.TheVariants as reason
use Rattle.bus_strings.specs.Limits.{horizon_limit, most_terminal}
use Rattle.bus_strings.proofs.ListLaws.{all_push}
use Rattle.bus_trace.specs.Limits.{most_count, most_fields}
use Rattle.bus_trace.specs.Traces.{Line, IsHold, IsBelow, format_text, head_line, horizon_line, hold_line, begin_line, string_line}
use Rattle.bus_trace.specs.Traces.{entry_lines, ended_line, end_line, opening_lines}
use Rattle.bus_trace.specs.WordFields.{are_spelled, have_parity, string_of}
use Rattle.bus_trace.specs.States.{State, is_marked, lines_so_far, body_lines, lines_at, lines_of, text_of}
use Rattle.bus_trace.specs.inside.Sound.{IsSound, PositionFits, MarkFits}
use Rattle.bus_trace.specs.States.{keyword_of, last_count, may_follow, spaced_fields, field, is_number, number, last_terminal, last_end}
use Rattle.bus_trace.specs.States.{is_after, is_hit, is_final, is_refuted, is_mark, mark_of, starts_wrong, with_string, more_list}
use Rattle.bus_trace.specs.States.{format_of, headed, head_step, horizon_step, hold_step, begin_step, string_step, close_step, end_step}
use Rattle.bus_trace.specs.States.{form_step, keyword_step, step}
use Rattle.bus_trace.proofs.Lasts.{length-with_string, last_end_most}
use Rattle.bus_trace.proofs.Orders.{ascending_push, ascending_with, below_with, terminals_push}
use Rattle.bus_trace.proofs.WordLists.{string_is}
use Rattle.bus_trace.proofs.Told.{told_closed, told_next, told_string}
use Rattle.bus_trace.proofs.Marks.{mark_is, unhit, mark_shown, begun_fits, ended_fits}
use Rattle.bus_trace.proofs.StepRows.{row, row_against, done, one_field, two_fields, three_fields, first_and, rest_few, least}
use Rattle.bus_trace.proofs.StepRows.{most}

-- ---- keywords and places
-- the text of a keyword
abbrev pub keyword_text : Keyword → List ℕ
keyword_text keyword.Trace = codes "TRACE"
keyword_text keyword.Horizon = codes "HORIZON"
keyword_text keyword.Hold = codes "HOLD"
keyword_text keyword.Tx = codes "TX"
keyword_text keyword.Ws = codes "WS"
keyword_text keyword.Te = codes "TE"
keyword_text keyword.End = codes "END"

some_is : (x y : Keyword) → Some x ≡ Some y → x ≡ y
some_is x y h = cc

by_keyword : (f word : List ℕ) (x : Keyword) (rest : Option Keyword) (k : Keyword) → word ≡ keyword_text x
    → (rest ≡ Some k → f ≡ keyword_text k) → cond (bytes_eq f word) (Some x) rest ≡ Some k → f ≡ keyword_text k
by_keyword f word x rest k w later h = by_test (bytes_eq f word) refl h where
  by_test : (t : Bool) → bytes_eq f word ≡ t → cond t (Some x) rest ≡ Some k → f ≡ keyword_text k
  by_test true e q = same_bytes f word e ∙ w ∙ ap keyword_text (some_is x k q)
  by_test false e q = later q

keyword_is : (f : List ℕ) (k : Keyword) → keyword_of f ≡ Some k → f ≡ keyword_text k
keyword_is f k h =
    by_keyword f (codes "TRACE") keyword.Trace _ k refl (by_keyword f (codes "HORIZON") keyword.Horizon _ k refl
    (by_keyword f (codes "HOLD") keyword.Hold _ k refl
    (by_keyword f (codes "TX") keyword.Tx _ k refl (by_keyword f (codes "WS") keyword.Ws _ k refl
    (by_keyword f (codes "TE") keyword.Te _ k refl (by_keyword f (codes "END") keyword.End None k refl (λ e. absurd cc))))))) h

trace_at : (p : Position) (f : Format) (n : ℕ) → may_follow p f n keyword.Trace ≡ true → p ≡ Start
trace_at Start f n h = refl
trace_at Headed f n h = absurd cc
trace_at Holding f n h = absurd cc
trace_at (Begun m t) f n h = absurd cc
trace_at Stringing f n h = absurd cc
trace_at Closed f n h = absurd cc
trace_at Ended f n h = absurd cc

horizon_at : (p : Position) (f : Format) (n : ℕ) → may_follow p f n keyword.Horizon ≡ true → p ≡ Headed
horizon_at Start f n h = absurd cc
horizon_at Headed f n h = refl
horizon_at Holding f n h = absurd cc
horizon_at (Begun m t) f n h = absurd cc
horizon_at Stringing f n h = absurd cc
horizon_at Closed f n h = absurd cc
horizon_at Ended f n h = absurd cc

hold_at : (p : Position) (f : Format) (n : ℕ) → may_follow p f n keyword.Hold ≡ true → p ≡ Holding
hold_at Start f n h = absurd cc
hold_at Headed f n h = absurd cc
hold_at Holding f n h = refl
hold_at (Begun m t) f n h = absurd cc
hold_at Stringing f n h = absurd cc
hold_at Closed f n h = absurd cc
hold_at Ended f n h = absurd cc

-- TE stands behind a WS line of format 2 alone
close_at : (p : Position) (f : Format) (n : ℕ) → may_follow p f n keyword.Te ≡ true → (p ≡ Stringing) × (f ≡ Two)
close_at Start f n h = absurd cc
close_at Headed f n h = absurd cc
close_at Holding f n h = absurd cc
close_at (Begun m t) f n h = absurd cc
close_at Stringing One n h = absurd cc
close_at Stringing Two n h = (refl, refl)
close_at Closed f n h = absurd cc
close_at Ended f n h = absurd cc

unmarked_lines : (f : Format) (mark : Bool) (xs : List Entry) → not (is_marked f) ≡ true → lines_so_far f None xs ≡ lines_so_far f (Some mark) xs
unmarked_lines One mark xs e = refl
unmarked_lines Two mark xs e = absurd cc

-- the lines of a position behind which TX may stand, and END alike
body_at : (p : Position) (s : State) (n : ℕ) → may_follow p s.format n keyword.Tx ≡ true → lines_at p s ≡ body_lines (Some s.mark) s
body_at Start s n e = absurd cc
body_at Headed s n e = absurd cc
body_at Holding s n e = refl
body_at (Begun m t) s n e = absurd cc
body_at Stringing s n e = ap (λ ls. opening_lines s.format s.horizon s.holds ++ ls) (unmarked_lines s.format s.mark s.list e)
body_at Closed s n e = refl
body_at Ended s n e = absurd cc

end_at : (p : Position) (f : Format) (n : ℕ) → may_follow p f n keyword.End ≡ true → may_follow p f n keyword.Tx ≡ true
end_at Start f n h = absurd cc
end_at Headed f n h = absurd cc
end_at Holding f n h = refl
end_at (Begun m t) f n h = absurd cc
end_at Stringing f n h = h
end_at Closed f n h = refl
end_at Ended f n h = absurd cc

-- ---- lines
none_so_far : (f : Format) (o : Option Bool) → lines_so_far f o [] ≡ []
none_so_far One o = refl
none_so_far Two o = refl

-- the lines of no transmissions
none_lines : (o : Option Bool) (s : State) → s.list ≡ [] → body_lines o s ≡ opening_lines s.format s.horizon s.holds
none_lines o s none = ap (λ ys. opening_lines s.format s.horizon s.holds ++ lines_so_far s.format o ys) none
    ∙ ap (λ ls. opening_lines s.format s.horizon s.holds ++ ls) (none_so_far s.format o)
    ∙ append-nil (opening_lines s.format s.horizon s.holds)

hold_lines : (o : Option Bool) (s : State) (hold : Hold) → s.list ≡ []
    → body_lines o (record s { holds = s.holds ++ hold ∷ [] }) ≡ body_lines o s ++ hold_line hold ∷ []
hold_lines o s hold none =
    none_lines o (record s { holds = s.holds ++ hold ∷ [] }) none
    ∙ ap (λ (ls : List Line). head_line s.format ∷ horizon_line s.horizon ∷ ls) (map-append hold_line s.holds (hold ∷ []))
    ∙ ap (λ (ls : List Line). ls ++ hold_line hold ∷ []) (sym (none_lines o s none))

-- the lines of a list that has grown
more_lines : (o p : Option Bool) (s : State) (list : List Entry) (more : List Line)
    → lines_so_far s.format p list ≡ lines_so_far s.format o s.list ++ more
    → body_lines p (record s { list = list }) ≡ body_lines o s ++ more
more_lines o p s list more e =
    ap (λ (ls : List Line). opening_lines s.format s.horizon s.holds ++ ls) e
    ∙ sym (append_assoc (opening_lines s.format s.horizon s.holds) (lines_so_far s.format o s.list) more)

begun_next : (xs : List Entry) (mark : Bool) (x : Entry) → (0 < length xs → mark ≡ (is_hit xs || nat_lt x.moment (last_end xs)))
    → lines_so_far Two None (xs ++ x ∷ []) ≡ lines_so_far Two (Some mark) xs ++ entry_lines x
begun_next [] mark x h = append-nil (entry_lines x)
begun_next (y ∷ xs) mark x h = told_next [] (y ∷ xs) mark x (omega arith) (h (omega arith))

begun_lines : (f : Format) (mark : Bool) (xs : List Entry) (m n : ℕ) (w : Wordstring) → MarkFits (Begun m n) f mark xs
    → lines_so_far f None (xs ++ record { moment = m; terminal = n; message = w ∷ [] } ∷ []) ≡ lines_so_far f (Some mark) xs ++
    (begin_line m n ∷ string_line w ∷ [])
begun_lines One mark xs m n w h = flat_map-append entry_lines xs (record { moment = m; terminal = n; message = w ∷ [] } ∷ [])
begun_lines Two mark xs m n w h = begun_next xs mark (record { moment = m; terminal = n; message = w ∷ [] }) h

with_lines : (w : Wordstring) (xs : List Entry) → 0 < length xs
    → flat_map entry_lines (with_string w xs) ≡ flat_map entry_lines xs ++ string_line w ∷ []
with_lines w [] some = absurd (omega arith)
with_lines w (x ∷ []) some =
    append-nil (begin_line x.moment x.terminal ∷ map string_line (x.message ++ w ∷ []))
    ∙ ap (λ (ls : List Line). begin_line x.moment x.terminal ∷ ls) (map-append string_line x.message (w ∷ []))
    ∙ ap (λ (ls : List Line). ls ++ string_line w ∷ []) (sym (append-nil (entry_lines x)))
with_lines w (x ∷ y ∷ xs) some =
    ap (λ (ls : List Line). entry_lines x ++ ls) (with_lines w (y ∷ xs) (omega arith))
    ∙ sym (append_assoc (entry_lines x) (flat_map entry_lines (y ∷ xs)) (string_line w ∷ []))

string_lines : (f : Format) (w : Wordstring) (xs : List Entry) → 0 < length xs
    → lines_so_far f None (with_string w xs) ≡ lines_so_far f None xs ++ string_line w ∷ []
string_lines One w xs some = with_lines w xs some
string_lines Two w xs some = told_string [] w xs some

-- ---- each form
-- the new state has one line more, and is sound
record Keeps (s n : State) (fields : List (List ℕ)) : Type 0 where
  lines : lines_of n ≡ lines_of s ++ fields ∷ []
  sound : IsSound n

-- the same, of a state that is the new one
keeps : (s n new : State) (fields : List (List ℕ)) → new ≡ n → lines_of new ≡ lines_of s ++ fields ∷ [] → IsSound new → Keeps s n fields
keeps s n new fields e lines sound = subst (λ (m : State). Keeps s m fields) e (record { lines = lines; sound = sound })

position_lines : (s : State) (p : Position) (fields : List (List ℕ)) → s.position ≡ p
    → lines_at p s ++ fields ∷ [] ≡ lines_of s ++ fields ∷ []
position_lines s p fields e = ap (λ q. lines_at q s ++ fields ∷ []) (sym e)

fits_at : (s : State) (p : Position) → s.position ≡ p → PositionFits s.position s.horizon s.holds s.list
    → PositionFits p s.horizon s.holds s.list
fits_at s p e f = subst (λ q. PositionFits q s.horizon s.holds s.list) e f

stands_by : {A : Type 0} (t : Bool) (x : Result A TraceReason) (n : A) (r : TraceReason) → cond t x (Err r) ≡ Ok n → (t ≡ true) × (x ≡ Ok n)
stands_by true x n r h = (refl, h)
stands_by false x n r h = absurd cc

one_is : (x y : Format) → Some x ≡ Some y → x ≡ y
one_is x y h = cc

format_is : (f : List ℕ) (x : Format) → format_of f ≡ Some x → f ≡ format_text x
format_is f x h = by_one (bytes_eq f (format_text One)) refl h where
  by_two : (t : Bool) → bytes_eq f (format_text Two) ≡ t → cond t (Some Two) None ≡ Some x → f ≡ format_text x
  by_two true e k = same_bytes f (format_text Two) e ∙ ap format_text (one_is Two x k)
  by_two false e k = absurd cc

  by_one : (t : Bool) → bytes_eq f (format_text One) ≡ t → cond t (Some One)
      (cond (bytes_eq f (format_text Two)) (Some Two) None) ≡ Some x → f ≡ format_text x
  by_one true e k = same_bytes f (format_text One) e ∙ ap format_text (one_is One x k)
  by_one false e k = by_two (bytes_eq f (format_text Two)) refl k

headed_by : (s n : State) (o : Option Format) → headed s o ≡ Ok n → (x : Format) × (o ≡ Some x)
    × (record s { position = Headed; format = x } ≡ n)
headed_by s n None h = absurd cc
headed_by s n (Some x) h = (x, refl, cc)

head_keeps : (s n : State) (fields : List (List ℕ)) → field fields 0 ≡ codes "TRACE" → s.position ≡ Start → IsSound s
    → head_step s fields ≡ Ok n → Keeps s n fields
unfolding head_step
head_keeps s n fields k p sound h =
    let a = stands_by (length fields == 2) (headed s (format_of (field fields 1))) n reason.Fields h in
    let b = headed_by s n (format_of (field fields 1)) a.1 in
    let line : head_line b.0 ≡ fields = ap (λ (f : List ℕ). f ∷ format_text b.0 ∷ []) (sym k)
    ∙ ap (λ (f : List ℕ). field fields 0 ∷ f ∷ []) (sym (format_is (field fields 1) b.0 b.1)) ∙ sym (two_fields fields a.0) in
    keeps s n (record s { position = Headed; format = b.0 }) fields b.2 (ap (λ (l : Line). l ∷ []) line ∙ position_lines s Start fields p)
    (record { fits = fits_at s Start p sound.fits; marked = tt; trace = sound.trace })

horizon_keeps : (s n : State) (fields : List (List ℕ)) → field fields 0 ≡ codes "HORIZON" → s.position ≡ Headed → IsSound s
    → horizon_step s fields ≡ Ok n → Keeps s n fields
unfolding horizon_step
horizon_keeps s n fields k p sound h =
    let a = row (length fields == 2) reason.Fields _ _ n h in
    let b = row (is_number fields 1) reason.Spelling _ _ n a.1 in
    let d = row (is_in_range 0 horizon_limit (number fields 1)) reason.Range None _ n b.1 in
    let low = most (number fields 1) 0 horizon_limit d.0 in
    let none = fits_at s Headed p sound.fits in
    let line : horizon_line (number fields 1) ≡ fields = ap (λ (f : List ℕ). codes "HORIZON" ∷ f ∷ [])
    (decimal_again (field fields 1) b.0 (omega (arith, low))) ∙ ap (λ (f : List ℕ). f ∷ field fields 1 ∷ []) (sym k)
    ∙ sym (two_fields fields a.0) in
    let new : State = record s { position = Holding; horizon = number fields 1 } in
    keeps s n new fields (done _ n d.1)
    (none_lines (Some s.mark) new none.1
    ∙ ap (λ (hs : List Hold). opening_lines s.format (number fields 1) hs) none.0
    ∙ ap (λ (l : Line). head_line s.format ∷ l ∷ []) line ∙ position_lines s Headed fields p)
    (record {
      fits = none.1;
      marked = tt;
      trace = record {
        horizon = low;
        holds = sound.trace.holds;
        terminals = sound.trace.terminals;
        list = subst (AllByRecursion (IsBelow (number fields 1))) (sym none.1) tt;
        order = sound.trace.order;
      };
    })

hold_keeps : (s n : State) (fields : List (List ℕ)) → field fields 0 ≡ codes "HOLD" → s.position ≡ Holding → IsSound s
    → hold_step s fields ≡ Ok n → Keeps s n fields
unfolding hold_step
hold_keeps s n fields k p sound h =
    let a = row (length fields == 3) reason.Fields _ _ n h in
    let b = row (is_number fields 1 && is_number fields 2) reason.Spelling _ _ n a.1 in
    let d = row (is_in_range 1 most_terminal (number fields 1) && is_in_range 0 most_count (number fields 2)) reason.Range _ _ n b.1 in
    let e = row (nat_lt (last_terminal s.holds) (number fields 1)) reason.Order None _ n d.1 in
    let plain = and_parts (is_number fields 1) (is_number fields 2) b.0 in
    let ranges = and_parts (is_in_range 1 most_terminal (number fields 1)) (is_in_range 0 most_count (number fields 2)) d.0 in
    let hold : Hold = record { terminal = number fields 1; count = number fields 2 } in
    let positive = least (number fields 1) 1 most_terminal ranges.0 in
    let low = most (number fields 1) 1 most_terminal ranges.0 in
    let count = most (number fields 2) 0 most_count ranges.1 in
    let none = fits_at s Holding p sound.fits in
    let line : hold_line hold ≡ fields =
    ap (λ (f : List ℕ). codes "HOLD" ∷ f ∷ decimal (number fields 2) ∷ []) (decimal_again (field fields 1) plain.0 (omega (arith, low)))
    ∙ ap (λ (f : List ℕ). codes "HOLD" ∷ field fields 1 ∷ f ∷ []) (decimal_again (field fields 2) plain.1 (omega (arith, count)))
    ∙ ap (λ (f : List ℕ). f ∷ field fields 1 ∷ field fields 2 ∷ []) (sym k) ∙ sym (three_fields fields a.0) in
    keeps s n (record s { position = Holding; holds = s.holds ++ hold ∷ [] }) fields (done _ n e.1)
    (hold_lines (Some s.mark) s hold none ∙ ap (λ (l : Line). body_lines (Some s.mark) s ++ l ∷ []) line
    ∙ position_lines s Holding fields p)
    (record {
      fits = none;
      marked = tt;
      trace = record {
        horizon = sound.trace.horizon;
        holds = all_push IsHold s.holds hold sound.trace.holds (record { positive = positive; low = low; count = count });
        terminals = terminals_push 0 s.holds hold sound.trace.terminals (λ _. positive)
            (ltb-true (last_terminal s.holds) (number fields 1) e.0);
        list = sound.trace.list;
        order = sound.trace.order;
      };
    })

begin_keeps : (s n : State) (fields : List (List ℕ)) → field fields 0 ≡ codes "TX"
    → may_follow s.position s.format (last_count s.list) keyword.Tx ≡ true → IsSound s → begin_step s fields ≡ Ok n → Keeps s n fields
unfolding begin_step
begin_keeps s n fields k p sound h =
    let a = row (length fields == 3) reason.Fields _ _ n h in
    let b = row (is_number fields 1 && is_number fields 2) reason.Spelling _ _ n a.1 in
    let d = row (nat_lt (number fields 1) s.horizon && is_in_range 1 most_terminal (number fields 2)) reason.Range _ _ n b.1 in
    let e = row (is_after s.list (number fields 1) (number fields 2)) reason.Order _ _ n d.1 in
    let g = row_against (is_refuted s (nat_lt (number fields 1) (last_end s.list))) reason.Mark None _ n e.1 in
    let plain = and_parts (is_number fields 1) (is_number fields 2) b.0 in
    let ranges = and_parts (nat_lt (number fields 1) s.horizon) (is_in_range 1 most_terminal (number fields 2)) d.0 in
    let below = ltb-true (number fields 1) s.horizon ranges.0 in
    let positive = least (number fields 2) 1 most_terminal ranges.1 in
    let low = most (number fields 2) 1 most_terminal ranges.1 in
    let line : begin_line (number fields 1) (number fields 2) ≡ fields =
    ap (λ (f : List ℕ). codes "TX" ∷ f ∷ decimal (number fields 2) ∷ [])
    (decimal_again (field fields 1) plain.0 (omega (arith, below, sound.trace.horizon)))
    ∙ ap (λ (f : List ℕ). codes "TX" ∷ field fields 1 ∷ f ∷ []) (decimal_again (field fields 2) plain.1 (omega (arith, low)))
    ∙ ap (λ (f : List ℕ). f ∷ field fields 1 ∷ field fields 2 ∷ []) (sym k) ∙ sym (three_fields fields a.0) in
    keeps s n (record s { position = Begun (number fields 1) (number fields 2) }) fields (done _ n g.1)
    (ap (λ (l : Line). body_lines (Some s.mark) s ++ l ∷ []) line
    ∙ ap (λ (ls : List Line). ls ++ fields ∷ []) (sym (body_at s.position s (last_count s.list) p)))
    (record {
      fits = (below, positive, low, e.0);
      marked = begun_fits s.format (number fields 1) (number fields 2) s.mark s.list
          (mark_shown s.position s.format s.mark (last_count s.list) s.horizon s.holds s.list
          (nat_lt (number fields 1) (last_end s.list)) p sound.fits sound.marked g.0);
      trace = sound.trace;
    })

close_keeps : (s n : State) (fields : List (List ℕ)) → field fields 0 ≡ codes "TE"
    → may_follow s.position s.format (last_count s.list) keyword.Te ≡ true → IsSound s → close_step s fields ≡ Ok n → Keeps s n fields
unfolding close_step
close_keeps s n fields k p sound h =
    let at = close_at s.position s.format (last_count s.list) p in
    let some = fits_at s Stringing at.0 sound.fits in
    let mark : Bool = mark_of (field fields 2) in
    let a = row (length fields == 3) reason.Fields _ _ n h in
    let b = row (is_number fields 1 && is_mark (field fields 2)) reason.Spelling _ _ n a.1 in
    let d = row (number fields 1 == last_end s.list) reason.Mark _ _ n b.1 in
    let e = row_against (starts_wrong mark (is_hit s.list) (is_final s.horizon s.list)) reason.Mark None _ n d.1 in
    let plain = and_parts (is_number fields 1) (is_mark (field fields 2)) b.0 in
    let same = eqb-true (number fields 1) (last_end s.list) d.0 in
    let line : ended_line (last_end s.list) mark ≡ fields =
    ap (λ x. ended_line x mark) (sym same)
    ∙ ap (λ (f : List ℕ). codes "TE" ∷ decimal (number fields 1) ∷ f ∷ []) (mark_is (field fields 2) plain.1)
    ∙ ap (λ (f : List ℕ). codes "TE" ∷ f ∷ field fields 2 ∷ [])
    (decimal_again (field fields 1) plain.0 (omega (arith, same, last_end_most s.horizon s.list sound.trace.horizon sound.trace.list)))
    ∙ ap (λ (f : List ℕ). f ∷ field fields 1 ∷ field fields 2 ∷ []) (sym k) ∙ sym (three_fields fields a.0) in
    let closed : lines_so_far s.format (Some mark) s.list ≡ lines_so_far s.format None s.list ++ ended_line (last_end s.list) mark ∷ [] =
    subst (λ (f : Format). lines_so_far f (Some mark) s.list ≡ lines_so_far f None s.list ++ ended_line (last_end s.list) mark ∷ [])
    (sym at.1) (told_closed [] mark s.list some) in
    keeps s n (record s { position = Closed; mark = mark }) fields (done _ n e.1)
    (more_lines None (Some mark) s s.list (ended_line (last_end s.list) mark ∷ []) closed
    ∙ ap (λ (l : Line). body_lines None s ++ l ∷ []) line ∙ position_lines s Stringing fields at.0)
    (record { fits = some; marked = (at.1, unhit mark (is_hit s.list) (is_final s.horizon s.list) e.0); trace = sound.trace })

end_keeps : (s n : State) (fields : List (List ℕ)) → field fields 0 ≡ codes "END"
    → may_follow s.position s.format (last_count s.list) keyword.End ≡ true → IsSound s → end_step s fields ≡ Ok n → Keeps s n fields
unfolding end_step
end_keeps s n fields k p sound h =
    let a = row (length fields == 1) reason.Fields _ _ n h in
    let g = row_against (is_refuted s false) reason.Mark None _ n a.1 in
    let begins = end_at s.position s.format (last_count s.list) p in
    let line : end_line ≡ fields = ap (λ (f : List ℕ). f ∷ []) (sym k) ∙ sym (one_field fields a.0) in
    keeps s n (record s { position = Ended }) fields (done _ n g.1)
    (ap (λ (l : Line). body_lines (Some s.mark) s ++ l ∷ []) line
    ∙ ap (λ (ls : List Line). ls ++ fields ∷ []) (sym (body_at s.position s (last_count s.list) begins)))
    (record {
      fits = tt;
      marked = ended_fits s.format s.mark s.list (mark_shown s.position s.format s.mark
          (last_count s.list) s.horizon s.holds s.list false begins sound.fits sound.marked g.0);
      trace = sound.trace;
    })

-- a wordstring more
record Grows (s : State) (w : Wordstring) : Type 0 where
  lines : body_lines None (record s { list = more_list s.position w s.list }) ≡ lines_of s ++ string_line w ∷ []
  some : 0 < length (more_list s.position w s.list)
  list : AllByRecursion (IsBelow s.horizon) (more_list s.position w s.list)
  order : IsAscending (more_list s.position w s.list)

grows : (p : Position) (s : State) (w : Wordstring) → may_follow p s.format (last_count s.list) keyword.Ws ≡ true
    → PositionFits p s.horizon s.holds s.list → MarkFits p s.format s.mark s.list
    → AllByRecursion (IsBelow s.horizon) s.list → IsAscending s.list → IsWordstring w → Grows (record s { position = p }) w
grows Start s w m f k below order i = absurd cc
grows Headed s w m f k below order i = absurd cc
grows Holding s w m f k below order i = absurd cc
grows (Begun m n) s w e f k below order i =
    let x : Entry = record { moment = m; terminal = n; message = w ∷ [] } in
    record {
      lines = more_lines (Some s.mark) None s (s.list ++ x ∷ []) (begin_line m n ∷ string_line w ∷ [])
          (begun_lines s.format s.mark s.list m n w k)
          ∙ sym (append_assoc (body_lines (Some s.mark) s) (begin_line m n ∷ []) (string_line w ∷ []));
      some = omega (arith, length-append s.list (x ∷ []));
      list = all_push (IsBelow s.horizon) s.list x below (record {
        moment = f.0;
        positive = f.1;
        low = f.2;
        message =
            record { some = omega arith; few = omega arith; strings = (i, tt) };
      });
      order = ascending_push s.list x order f.3;
    }
grows Stringing s w m f k below order i = record {
  lines = more_lines None None s (with_string w s.list) (string_line w ∷ []) (string_lines s.format w s.list f);
  some = omega (arith, length-with_string w s.list, f);
  list = below_with s.horizon w s.list i (ltb-true (last_count s.list) 31 m) below;
  order = ascending_with w s.list order;
}
grows Closed s w m f k below order i = absurd cc
grows Ended s w m f k below order i = absurd cc

string_keeps : (s n : State) (fields : List (List ℕ)) → field fields 0 ≡ codes "WS"
    → may_follow s.position s.format (last_count s.list) keyword.Ws ≡ true → IsSound s → string_step s fields ≡ Ok n → Keeps s n fields
unfolding string_step
string_keeps s n fields k p sound h =
    let a = row (is_in_range 2 most_fields (length fields)) reason.Fields _ _ n h in
    let b = row (are_spelled (drop 1 fields)) reason.Spelling _ _ n a.1 in
    let d = row (have_parity (drop 1 fields)) reason.Parity None _ n b.1 in
    let w = string_is (drop 1 fields) b.0 d.0 (rest_few fields a.0) in
    let g = grows s.position s (string_of (drop 1 fields)) p sound.fits sound.marked sound.trace.list sound.trace.order w.1 in
    let line : string_line (string_of (drop 1 fields)) ≡ fields = ap (λ (fs : List (List ℕ)). codes "WS" ∷ fs) w.0
    ∙ ap (λ (f : List ℕ). f ∷ drop 1 fields) (sym k) ∙ sym (first_and fields a.0) in
    keeps s n (record s { position = Stringing; list = more_list s.position (string_of (drop 1 fields)) s.list }) fields (done _ n d.1)
    (g.lines ∙ ap (λ (l : Line). lines_of s ++ l ∷ []) line)
    (record {
      fits = g.some;
      marked = tt;
      trace = record {
        horizon = sound.trace.horizon;
        holds = sound.trace.holds;
        terminals = sound.trace.terminals;
        list =
            g.list;
        order = g.order;
      };
    })

-- ---- a step
form_keeps : (k : Keyword) (s n : State) (fields : List (List ℕ)) → field fields 0 ≡ keyword_text k
    → may_follow s.position s.format (last_count s.list) k ≡ true → IsSound s → form_step k s fields ≡ Ok n → Keeps s n fields
form_keeps keyword.Trace s n fields e p sound h = head_keeps s n fields e (trace_at s.position s.format (last_count s.list) p) sound h
form_keeps keyword.Horizon s n fields e p sound h = horizon_keeps s n fields e
    (horizon_at s.position s.format (last_count s.list) p) sound h
form_keeps keyword.Hold s n fields e p sound h = hold_keeps s n fields e (hold_at s.position s.format (last_count s.list) p) sound h
form_keeps keyword.Tx s n fields e p sound h = begin_keeps s n fields e p sound h
form_keeps keyword.Ws s n fields e p sound h = string_keeps s n fields e p sound h
form_keeps keyword.Te s n fields e p sound h = close_keeps s n fields e p sound h
form_keeps keyword.End s n fields e p sound h = end_keeps s n fields e p sound h

keyword_keeps : (o : Option Keyword) (s n : State) (fields : List (List ℕ)) → keyword_of (field fields 0) ≡ o → IsSound s
    → keyword_step o s fields ≡ Ok n → Keeps s n fields
keyword_keeps None s n fields e sound h = absurd cc
keyword_keeps (Some k) s n fields e sound h =
    let m = stands_by (may_follow s.position s.format (last_count s.list) k) (form_step k s fields) n reason.Keyword h in
    form_keeps k s n fields (keyword_is (field fields 0) k e) m.0 sound m.1

step_keeps : (s n : State) (line : List ℕ) → IsSound s → step s line ≡ Ok n → Keeps s n (spaced_fields line)
unfolding step
step_keeps s n line sound h = keyword_keeps (keyword_of (field (spaced_fields line) 0)) s n (spaced_fields line) refl sound h

-- the text of the new state has the line, and its line feed, behind the old one
pub step_adds : (s n : State) (line : List ℕ) → IsSound s → step s line ≡ Ok n → text_of n ≡ text_of s ++ (line ++ 10 ∷ [])
unfolding text_of
step_adds s n line sound h =
    ap spelled_lines (step_keeps s n line sound h).lines
    ∙ flat_map-append spelled_line (lines_of s) (spaced_fields line ∷ [])
    ∙ ap (λ (l : List ℕ). text_of s ++ l) (append-nil (spelled_line (spaced_fields line))
    ∙ ap (λ (l : List ℕ). l ++ 10 ∷ []) (join_with_byte-slice_split 32 line))

pub step_sound : (s n : State) (line : List ℕ) → IsSound s → step s line ≡ Ok n → IsSound n
step_sound s n line sound h = (step_keeps s n line sound h).sound
