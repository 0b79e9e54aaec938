-- The lines of a trace text are read again.
use Rattle.std.proofs.Common.{arith, ◌≡◌, ℕ, ◌+◌, ◌*◌, ◌<◌, ◌≤◌, ◌^◌, Bool, true, false, ◌&&◌, ◌||◌, ◌==◌, List, [], ◌∷◌, ◌++◌}
use Rattle.std.proofs.Common.{length, codes, map, nat_lt, Some, Ok, refl, sym, ap, subst, ◌∙◌, append_assoc}
use Rattle.std.proofs.Common.{append-nil, length-append}
use Rattle.std.specs.List.{join_with_byte, flat_map, AllByRecursion}
use Rattle.std.specs.Fmt.{decimal}
use Rattle.std.specs.Int.{is_in_range}
use Rattle.std.proofs.lemmas.List.{length-map}
use Rattle.std.proofs.lemmas.List.Concat.{flat_map-append}
use Rattle.std.proofs.lemmas.Bool.{and_from, eq-eqb, lt-ltb}
use Rattle.bus_text.specs.Numbers.{decimal_value}
use Rattle.bus_text.proofs.NumberLaws.{decimal_is, decimal_field}
use Rattle.bus_text.specs.Canonical.{spelled_line, spelled_lines}
use Rattle.bus_text.specs.inside.Spelled.{IsField}
use Rattle.bus_text.proofs.CanonicalLaws.{constant_field}
use Rattle.bus_words.specs.Words.{label_word, data_word}
use Rattle.bus_words.specs.WordTexts.{word_text}
use Rattle.bus_strings.specs.Messages.{Wordstring, Entry, IsWordstring}
use Rattle.bus_strings.specs.Transmissions.{IsAscending}
use Rattle.bus_trace.specs.declared.hold.Hold.{Hold}
use Rattle.bus_trace.specs.declared.keyword.Keyword.TheVariants.{Tx, Ws, Te, End}
use Rattle.bus_trace.specs.declared.position.Position.{Position}
use Rattle.bus_trace.specs.declared.position.Position.TheVariants.{Headed, Holding, Begun, Stringing, Closed, Ended}
use Rattle.bus_trace.specs.declared.format.Format.{Format}
use Rattle.bus_trace.specs.declared.format.Format.TheVariants.{One, Two}
use Rattle.bus_strings.specs.Limits.{horizon_limit}
use Rattle.bus_strings.specs.Transmissions.{end_of}
use Rattle.bus_strings.specs.OverlapLaws.{NeighboursTell, AscendingIsByMoment}
use Rattle.bus_trace.specs.Traces.{Recording, Line, IsHold, AscendAbove, IsBelow, IsTrace, head_line, horizon_line}
use Rattle.bus_trace.specs.Traces.{hold_line, begin_line, string_line, entry_lines, mark_text, ended_line, close_line}
use Rattle.bus_trace.specs.Traces.{list_lines, end_line, opening_lines, text_in}
use Rattle.bus_trace.specs.States.{State, start, may_follow, last_count, last_terminal, last_end, is_after, is_hit, is_final, ends_behind}
use Rattle.bus_trace.specs.States.{is_closed, starts_wrong, turns_wrong, told_lines, lines_so_far, body_lines}
use Rattle.bus_trace.specs.States.{more_list, head_step, horizon_step}
use Rattle.bus_trace.specs.States.{hold_step, begin_step, string_step, close_step, end_step, fields_step}
use Rattle.bus_trace.specs.Runs.{Found, begin, run}
use Rattle.bus_trace.proofs.Lasts.{of_last_push, with_last, end_most}
use Rattle.bus_trace.proofs.Orders.{after_front, terminals_rest, last_precedes}
use Rattle.bus_trace.proofs.Told.{lines_whole}
use Rattle.bus_trace.proofs.Marks.{mark_again, turned, started_last, started_next, hit_push}
use Rattle.bus_trace.proofs.WordLists.{string_again, length-word}
use Rattle.bus_trace.proofs.AgainLines.{FitsLine, line_again, Leads, leads_run, leads_append, leads_one, pass, let_by, stand}
use Rattle.bus_trace.proofs.AgainLines.{within, digits}

-- ---- each form
-- a state by its parts
abbrev pub at_position : Position → Format → Bool → ℕ → List Hold → List Entry → State
at_position p f mark h hs xs = record { position = p; format = f; mark = mark; horizon = h; holds = hs; list = xs }

head_fits : (f : Format) → FitsLine (head_line f)
head_fits One = record {
  some = omega arith;
  all = (
    constant_field (codes "TRACE") (omega arith) refl,
    (constant_field (codes "1") (omega arith) refl, tt),
  );
  short = omega arith;
}
head_fits Two = record {
  some = omega arith;
  all = (
    constant_field (codes "TRACE") (omega arith) refl,
    (constant_field (codes "2") (omega arith) refl, tt),
  );
  short = omega arith;
}

head_steps : (f : Format) → fields_step start (head_line f) ≡ Ok (at_position Headed f false 0 [] [])
unfolding head_step
head_steps One = refl
head_steps Two = refl

head_again : (f : Format) → Leads start (head_line f ∷ []) (at_position Headed f false 0 [] [])
head_again f = leads_one start (at_position Headed f false 0 [] []) (head_line f) (head_fits f) (head_steps f) refl

-- a state in which holds are read
abbrev pub holding : Format → ℕ → List Hold → State
holding f h hs = at_position Holding f false h hs []

horizon_again : (f : Format) (h : ℕ) → h ≤ horizon_limit → Leads (at_position Headed f false 0 [] []) (horizon_line h ∷ []) (holding f h [])
unfolding horizon_step
horizon_again f h k =
    let d = decimal_is h (omega (arith, k)) in
    leads_one (at_position Headed f false 0 [] []) (holding f h []) (horizon_line h)
    (record {
      some = omega arith;
      all = (constant_field (codes "HORIZON") (omega arith) refl, (decimal_field h (omega (arith, k)), tt));
      short = omega (arith, digits h horizon_limit 13 (omega arith) k (omega arith) (omega arith));
    })
    (pass _ _ _ _ _ d.plain (pass _ _ _ _ _ (ap (is_in_range 0 horizon_limit) d.value ∙ within h 0 horizon_limit (omega arith) k)
    (ap (λ x. Ok (holding f x [])) d.value)))
    refl

hold_again : (g : Format) (h : ℕ) (hs : List Hold) (hold : Hold) → IsHold hold → last_terminal hs < hold.terminal
    → Leads (holding g h hs) (hold_line hold ∷ []) (holding g h (hs ++ hold ∷ []))
unfolding hold_step
hold_again g h hs hold f l =
    let t = decimal_is hold.terminal (omega (arith, f.low)) in
    let c = decimal_is hold.count (omega (arith, f.count)) in
    leads_one (holding g h hs) (holding g h (hs ++ hold ∷ [])) (hold_line hold)
    (record {
      some = omega arith;
      all = (
        constant_field (codes "HOLD") (omega arith) refl,
        (decimal_field hold.terminal (omega (arith, f.low)), (decimal_field hold.count (omega (arith, f.count)), tt)),
      );
      short = omega (
        arith,
        length-append (decimal hold.terminal) (32 ∷ decimal hold.count),
        digits hold.terminal 128 3 (omega arith) f.low (omega arith) (omega arith),
        digits hold.count 4294967295 10 (omega arith) f.count (omega arith) (omega arith),
      );
    })
    (pass _ _ _ _ _ (and_from _ _ t.plain c.plain)
    (pass _ _ _ _ _ (and_from _ _ (ap (is_in_range 1 128) t.value ∙ within hold.terminal 1 128 f.positive f.low)
    (ap (is_in_range 0 4294967295) c.value ∙ within hold.count 0 4294967295 (omega arith) f.count))
    (pass _ _ _ _ _ (ap (nat_lt (last_terminal hs)) t.value ∙ lt-ltb (last_terminal hs) hold.terminal l)
    (ap (λ x. Ok (holding g h (hs ++ record { terminal = x; count = decimal_value (decimal hold.count) } ∷ []))) t.value
    ∙ ap (λ x. Ok (holding g h (hs ++ record { terminal = hold.terminal; count = x } ∷ []))) c.value))))
    refl

holds_again : (g : Format) (h : ℕ) (done left : List Hold) → AllByRecursion IsHold left → AscendAbove 0 (done ++ left)
    → Leads (holding g h done) (map hold_line left) (holding g h (done ++ left))
holds_again g h done [] f a = ap (holding g h) (sym (append-nil done))
holds_again g h done (x ∷ left) f a =
    let e : (done ++ x ∷ []) ++ left ≡ done ++ x ∷ left = append_assoc done (x ∷ []) left in
    leads_append (holding g h done) (holding g h (done ++ x ∷ [])) (holding g h (done ++ x ∷ left)) (hold_line x ∷ [])
    (map hold_line left) (hold_again g h done x f.0 (terminals_rest 0 done x left a))
    (subst (λ hs. Leads (holding g h (done ++ x ∷ [])) (map hold_line left) (holding g h hs)) e
    (holds_again g h (done ++ x ∷ []) left f.1 (subst (AscendAbove 0) (sym e) a)))

pub begin_again : (p : Position) (g : Format) (mark : Bool) (h : ℕ) (hs : List Hold) (xs : List Entry) (m n : ℕ) → h ≤ horizon_limit
    → may_follow p g (last_count xs) Tx ≡ true → m < h → 1 ≤ n → n ≤ 128 → is_after xs m n ≡ true
    → (is_closed p && turns_wrong mark (is_hit xs) (nat_lt m (last_end xs))) ≡ false
    → Leads (at_position p g mark h hs xs) (begin_line m n ∷ []) (at_position (Begun m n) g mark h hs xs)
unfolding begin_step
begin_again p g mark h hs xs m n k may below positive low after fine =
    let t = decimal_is m (omega (arith, below, k)) in
    let c = decimal_is n (omega (arith, low)) in
    leads_one (at_position p g mark h hs xs) (at_position (Begun m n) g mark h hs xs) (begin_line m n)
    (record {
      some = omega arith;
      all = (
        constant_field (codes "TX") (omega arith) refl,
        (decimal_field m (omega (arith, below, k)), (decimal_field n (omega (arith, low)), tt)),
      );
      short = omega (
        arith,
        length-append (decimal m) (32 ∷ decimal n),
        digits m horizon_limit 13 (omega arith) (omega (arith, below, k)) (omega arith) (omega arith),
        digits n 128 3 (omega arith) low (omega arith) (omega arith),
      );
    })
    (stand _ _ _ _ may
    (pass _ _ _ _ _ (and_from _ _ t.plain c.plain)
    (pass _ _ _ _ _ (and_from _ _ (ap (λ x. nat_lt x h) t.value ∙ lt-ltb m h below)
    (ap (is_in_range 1 128) c.value ∙ within n 1 128 positive low))
    (pass _ _ _ _ _ (ap (λ x. is_after xs x (decimal_value (decimal n))) t.value ∙ ap (λ x. is_after xs m x) c.value ∙ after)
    (let_by _ _ _ _ _ (ap (λ x. is_closed p && turns_wrong mark (is_hit xs) (nat_lt x (last_end xs))) t.value ∙ fine)
    (ap (λ x. Ok (at_position (Begun x (decimal_value (decimal n))) g mark h hs xs)) t.value
    ∙ ap (λ x. Ok (at_position (Begun m x) g mark h hs xs)) c.value))))))
    refl

mark_fits : (mark : Bool) → IsField (mark_text mark)
mark_fits true = constant_field (codes "C") (omega arith) refl
mark_fits false = constant_field (codes "-") (omega arith) refl

mark_long : (mark : Bool) → length (mark_text mark) ≡ 1
mark_long true = refl
mark_long false = refl

pub close_by_end : (p : Position) (g : Format) (mark old : Bool) (h : ℕ) (hs : List Hold) (xs : List Entry) (end : ℕ)
    → may_follow p g (last_count xs) Te ≡ true → end ≡ last_end xs → end < 2 ^ 41 → starts_wrong mark (is_hit xs) (is_final h xs) ≡ false
    → Leads (at_position p g old h hs xs) (ended_line end mark ∷ []) (at_position Closed g mark h hs xs)
unfolding close_step
close_by_end p g mark old h hs xs end may e room fine =
    let t = decimal_is end (omega (arith, room)) in
    let m = mark_again mark in
    leads_one (at_position p g old h hs xs) (at_position Closed g mark h hs xs) (ended_line end mark)
    (record {
      some = omega arith;
      all = (constant_field (codes "TE") (omega arith) refl, (decimal_field end (omega (arith, room)), (mark_fits mark, tt)));
      short = omega (
        arith,
        length-append (decimal end) (32 ∷ mark_text mark),
        mark_long mark,
        digits end (2 ^ 41) 13 (omega arith) (omega (arith, room)) (omega arith) (omega arith),
      );
    })
    (stand _ _ _ _ may
    (pass _ _ _ _ _ (and_from _ _ t.plain m.0)
    (pass _ _ _ _ _ (ap (λ x. x == last_end xs) t.value ∙ eq-eqb end (last_end xs) e)
    (let_by _ _ _ _ _ (ap (λ b. starts_wrong b (is_hit xs) (is_final h xs)) m.1 ∙ fine)
    (ap (λ b. Ok (at_position Closed g b h hs xs)) m.1)))))
    refl

close_again : (mark old : Bool) (h : ℕ) (hs : List Hold) (xs : List Entry) (x : Entry) → last_end xs ≡ end_of x → end_of x < 2 ^ 41
    → starts_wrong mark (is_hit xs) (is_final h xs) ≡ false
    → Leads (at_position Stringing Two old h hs xs) (close_line x mark ∷ []) (at_position Closed Two mark h hs xs)
close_again mark old h hs xs x e room fine = close_by_end Stringing Two mark old h hs xs (end_of x) refl (sym e) room fine

words_room : (f : List ℕ) (ws : List ℕ) → length (join_with_byte 32
    (f ∷ map (λ value. word_text (data_word value)) ws)) ≡ length f + 7 * length ws
words_room f [] = omega arith
words_room f (w ∷ ws) = length-append f (32 ∷ join_with_byte 32 (map (λ value. word_text (data_word value)) (w ∷ ws)))
    ∙ omega (arith, words_room (word_text (data_word w)) ws, length-word (data_word w))

string_line_fits : (w : Wordstring) → IsWordstring w → FitsLine (string_line w)
string_line_fits w i =
    let r = string_again w i in
    record {
      some = omega arith;
      all = (constant_field (codes "WS") (omega arith) refl, r.fields);
      short = omega (arith, words_room (word_text (label_word w.label w.ext)) w.words, length-word (label_word w.label w.ext), i.few);
    }

pub string_line_again : (p : Position) (g : Format) (mark : Bool) (h : ℕ) (hs : List Hold) (xs : List Entry) (w : Wordstring)
    → may_follow p g (last_count xs) Ws ≡ true → IsWordstring w
    → Leads (at_position p g mark h hs xs) (string_line w ∷ []) (at_position Stringing g mark h hs (more_list p w xs))
unfolding string_step
string_line_again p g mark h hs xs w may i =
    let r = string_again w i in
    leads_one (at_position p g mark h hs xs) (at_position Stringing g mark h hs (more_list p w xs)) (string_line w) (string_line_fits w i)
    (stand _ _ _ _ may
    (pass _ _ _ _ _ (within (length (string_line w)) 2 258 (omega arith)
    (omega (arith, length-map w.words (λ value. word_text (data_word value)), i.few)))
    (pass _ _ _ _ _ r.spelled
    (pass _ _ _ _ _ r.parity
    (ap (λ (x : Wordstring). Ok (at_position Stringing g mark h hs (more_list p x xs))) r.string)))))
    refl

-- the wordstrings behind the first
strings_again : (g : Format) (mark : Bool) (h : ℕ) (hs : List Hold) (xs : List Entry) (m n : ℕ) (done left : List Wordstring)
    → length done + length left ≤ 31 → AllByRecursion IsWordstring left
    → Leads (at_position Stringing g mark h hs (xs ++ record { moment = m; terminal = n; message = done } ∷ [])) (map string_line left)
    (at_position Stringing g mark h hs (xs ++ record { moment = m; terminal = n; message = done ++ left } ∷ []))
strings_again g mark h hs xs m n done [] few f = ap (λ (ws : List Wordstring). at_position Stringing g mark h hs
    (xs ++ record { moment = m; terminal = n; message = ws } ∷ [])) (sym (append-nil done))
strings_again g mark h hs xs m n done (w ∷ left) few f =
    let entry : Entry = record { moment = m; terminal = n; message = done } in
    let now : List Entry = xs ++ entry ∷ [] in
    let next : List Entry = xs ++ record { moment = m; terminal = n; message = done ++ w ∷ [] } ∷ [] in
    let last : List Entry = xs ++ record { moment = m; terminal = n; message = done ++ w ∷ left } ∷ [] in
    let one = subst (λ (ys : List Entry). Leads (at_position Stringing g mark h hs now) (string_line w ∷ [])
    (at_position Stringing g mark h hs ys)) (with_last w xs m n done)
    (string_line_again Stringing g mark h hs now w
    (lt-ltb (last_count now) 31 (omega (arith, of_last_push (λ (x : Entry). length x.message) xs entry, few))) f.0) in
    let others = subst (λ (ws : List Wordstring). Leads (at_position Stringing g mark h hs next) (map string_line left)
    (at_position Stringing g mark h hs (xs ++ record { moment = m; terminal = n; message = ws } ∷ [])))
    (append_assoc done (w ∷ []) left) (strings_again g mark h hs xs m n (done ++ w ∷ []) left
    (omega (arith, length-append done (w ∷ []), few)) f.1) in
    leads_append (at_position Stringing g mark h hs now) (at_position Stringing g mark h hs next)
    (at_position Stringing g mark h hs last) (string_line w ∷ []) (map string_line left) one others

-- a message, from its first wordstring
message_again : (g : Format) (mark : Bool) (h : ℕ) (hs : List Hold) (xs : List Entry) (m n : ℕ) (message : List Wordstring)
    → 0 < length message → length message ≤ 31 → AllByRecursion IsWordstring message
    → Leads (at_position (Begun m n) g mark h hs xs) (map string_line message)
    (at_position Stringing g mark h hs (xs ++ record { moment = m; terminal = n; message = message } ∷ []))
message_again g mark h hs xs m n [] some few f = absurd (omega arith)
message_again g mark h hs xs m n (w ∷ left) some few f =
    leads_append (at_position (Begun m n) g mark h hs xs) (at_position Stringing g mark h hs
    (xs ++ record { moment = m; terminal = n; message = w ∷ [] } ∷ []))
    (at_position Stringing g mark h hs (xs ++ record { moment = m; terminal = n; message = w ∷ left } ∷ []))
    (string_line w ∷ []) (map string_line left) (string_line_again (Begun m n) g mark h hs xs w refl f.0)
    (strings_again g mark h hs xs m n (w ∷ []) left (omega (arith, few)) f.1)

entry_again : (p : Position) (g : Format) (mark : Bool) (h : ℕ) (hs : List Hold) (xs : List Entry) (x : Entry) → h ≤ horizon_limit
    → may_follow p g (last_count xs) Tx ≡ true → IsBelow h x → is_after xs x.moment x.terminal ≡ true
    → (is_closed p && turns_wrong mark (is_hit xs) (nat_lt x.moment (last_end xs))) ≡ false
    → Leads (at_position p g mark h hs xs) (entry_lines x) (at_position Stringing g mark h hs (xs ++ x ∷ []))
entry_again p g mark h hs xs x k may b after fine =
    leads_append (at_position p g mark h hs xs) (at_position (Begun x.moment x.terminal) g mark h hs xs)
    (at_position Stringing g mark h hs (xs ++ x ∷ [])) (begin_line x.moment x.terminal ∷ []) (map string_line x.message)
    (begin_again p g mark h hs xs x.moment x.terminal k may b.moment b.positive b.low after fine)
    (message_again g mark h hs xs x.moment x.terminal x.message b.message.some b.message.few b.message.strings)

-- ---- a list in format 1
list_again : (mark : Bool) (h : ℕ) (hs : List Hold) (done left : List Entry) → h ≤ horizon_limit → AllByRecursion (IsBelow h) left
    → IsAscending (done ++ left)
    → Leads (at_position Stringing One mark h hs done) (flat_map entry_lines left) (at_position Stringing One mark h hs (done ++ left))
list_again mark h hs done [] k f order = ap (at_position Stringing One mark h hs) (sym (append-nil done))
list_again mark h hs done (x ∷ left) k f order =
    let e : (done ++ x ∷ []) ++ left ≡ done ++ x ∷ left = append_assoc done (x ∷ []) left in
    leads_append (at_position Stringing One mark h hs done) (at_position Stringing One mark h hs (done ++ x ∷ []))
    (at_position Stringing One mark h hs (done ++ x ∷ left)) (entry_lines x) (flat_map entry_lines left)
    (entry_again Stringing One mark h hs done x k refl f.0 (after_front done x left order) refl)
    (subst (λ (ys : List Entry). Leads (at_position Stringing One mark h hs (done ++ x ∷ [])) (flat_map entry_lines left)
    (at_position Stringing One mark h hs ys)) e
    (list_again mark h hs (done ++ x ∷ []) left k f.1 (subst IsAscending (sym e) order)))

-- ---- a list in format 2
-- the position behind a list: no TX line was read, or the last transmission goes on, or is closed
abbrev pub last_position : Format → List Entry → Position
last_position f [] = Holding
last_position One (x ∷ xs) = Stringing
last_position Two (x ∷ xs) = Closed

may_begin : (f : Format) (xs : List Entry) (n : ℕ) → may_follow (last_position f xs) f n Tx ≡ true
may_begin One [] n = refl
may_begin One (x ∷ xs) n = refl
may_begin Two [] n = refl
may_begin Two (x ∷ xs) n = refl

-- an entry with its mark
marked_again : (old mark : Bool) (h : ℕ) (hs : List Hold) (done : List Entry) (x : Entry) → h ≤ horizon_limit → IsBelow h x
    → is_after done x.moment x.terminal ≡ true
    → (is_closed (last_position Two done) && turns_wrong old (is_hit done) (nat_lt x.moment (last_end done))) ≡ false
    → starts_wrong mark (is_hit (done ++ x ∷ [])) (is_final h (done ++ x ∷ [])) ≡ false
    → Leads (at_position (last_position Two done) Two old h hs done) (entry_lines x ++ close_line x mark ∷ [])
    (at_position Closed Two mark h hs (done ++ x ∷ []))
marked_again old mark h hs done x k b after fine right =
    leads_append (at_position (last_position Two done) Two old h hs done) (at_position Stringing Two old h hs (done ++ x ∷ []))
    (at_position Closed Two mark h hs (done ++ x ∷ [])) (entry_lines x) (close_line x mark ∷ [])
    (entry_again (last_position Two done) Two old h hs done x k (may_begin Two done (last_count done)) b after fine)
    (close_again mark old h hs (done ++ x ∷ []) x (of_last_push end_of done x) (end_most x b.message (omega (arith, b.moment, k))) right)

told_again : (old mark : Bool) (h : ℕ) (hs : List Hold) (done : List Entry) (x : Entry) (left : List Entry) → h ≤ horizon_limit
    → AllByRecursion (IsBelow h) (x ∷ left) → IsAscending (done ++ x ∷ left)
    → (is_closed (last_position Two done) && turns_wrong old (is_hit done) (nat_lt x.moment (last_end done))) ≡ false
    → mark ≡ is_hit (done ++ x ∷ left)
    → Leads (at_position (last_position Two done) Two old h hs done) (told_lines done (Some mark) (x ∷ left))
    (at_position Closed Two mark h hs (done ++ x ∷ left))
told_again old mark h hs done x [] k f order fine e =
    marked_again old mark h hs done x k f.0 (after_front done x [] order) fine
    (ap (λ b. starts_wrong b (is_hit (done ++ x ∷ [])) (is_final h (done ++ x ∷ []))) e
    ∙ started_last (is_hit (done ++ x ∷ [])) (is_final h (done ++ x ∷ [])))
told_again old mark h hs done x (y ∷ left) k f order fine e =
    let now : List Entry = done ++ x ∷ [] in
    let same : now ++ y ∷ left ≡ done ++ x ∷ y ∷ left = append_assoc done (x ∷ []) (y ∷ left) in
    let own : Bool = ends_behind x.moment done || nat_lt y.moment (end_of x) in
    let met : turns_wrong own (is_hit now) (nat_lt y.moment (last_end now)) ≡ false =
    ap (λ b. turns_wrong own b (nat_lt y.moment (last_end now))) (hit_push done x)
    ∙ ap (λ n. turns_wrong own (ends_behind x.moment done) (nat_lt y.moment n)) (of_last_push end_of done x)
    ∙ turned (ends_behind x.moment done) (nat_lt y.moment (end_of x)) in
    let here : last_position Two now ≡ Closed = closed_push done x in
    let rest : Leads (at_position (last_position Two now) Two own h hs now) (told_lines now (Some mark) (y ∷ left))
    (at_position Closed Two mark h hs (now ++ y ∷ left)) =
    told_again own mark h hs now y left k f.1 (subst IsAscending (sym same) order)
    (ap (λ p. is_closed p && turns_wrong own (is_hit now) (nat_lt y.moment (last_end now))) here ∙ met) (e ∙ ap is_hit (sym same)) in
    leads_append (at_position (last_position Two done) Two old h hs done) (at_position Closed Two own h hs now)
    (at_position Closed Two mark h hs (done ++ x ∷ y ∷ left)) (entry_lines x ++ close_line x own ∷ [])
    (told_lines now (Some mark) (y ∷ left))
    (marked_again old own h hs done x k f.0 (after_front done x (y ∷ left) order) fine
    (started_next h done x y (last_precedes done x y left order) f.1.0.moment f.1.0.low))
    (subst (λ (p : Position). Leads (at_position p Two own h hs now) (told_lines now (Some mark) (y ∷ left))
    (at_position Closed Two mark h hs (done ++ x ∷ y ∷ left))) here
    (subst (λ (ys : List Entry). Leads (at_position (last_position Two now) Two own h hs now) (told_lines now (Some mark) (y ∷ left))
    (at_position Closed Two mark h hs ys)) same rest)) where
      closed_push : (xs : List Entry) (x : Entry) → last_position Two (xs ++ x ∷ []) ≡ Closed
      closed_push [] x = refl
      closed_push (z ∷ xs) x = refl

-- ---- a whole trace
-- the mark of the last transmission, behind the whole list
abbrev pub last_mark : Format → List Entry → Bool
last_mark One xs = false
last_mark Two xs = is_hit xs

mark_none : (f : Format) → last_mark f [] ≡ false
mark_none One = refl
mark_none Two = refl

whole_list : (f : Format) (h : ℕ) (hs : List Hold) (xs : List Entry) → h ≤ horizon_limit → AllByRecursion (IsBelow h) xs → IsAscending xs
    → Leads (holding f h hs) (lines_so_far f (Some (last_mark f xs)) xs) (at_position (last_position f xs) f (last_mark f xs) h hs xs)
whole_list One h hs [] k f order = refl
whole_list Two h hs [] k f order = refl
whole_list One h hs (x ∷ xs) k f order =
    leads_append (holding One h hs) (at_position Stringing One false h hs (x ∷ [])) (at_position Stringing One false h hs (x ∷ xs))
    (entry_lines x) (flat_map entry_lines xs)
    (entry_again Holding One false h hs [] x k refl f.0 refl refl) (list_again false h hs (x ∷ []) xs k f.1 order)
whole_list Two h hs (x ∷ xs) k f order = told_again false (is_hit (x ∷ xs)) h hs [] x xs k f order refl refl

opening_again : (f : Format) (t : Recording) → IsTrace t → Leads start (opening_lines f t.horizon t.holds) (holding f t.horizon t.holds)
opening_again f t i =
    leads_append start (at_position Headed f false 0 [] []) (holding f t.horizon t.holds) (head_line f ∷ [])
    (horizon_line t.horizon ∷ map hold_line t.holds) (head_again f)
    (leads_append (at_position Headed f false 0 [] []) (holding f t.horizon []) (holding f t.horizon t.holds)
    (horizon_line t.horizon ∷ []) (map hold_line t.holds) (horizon_again f t.horizon i.horizon)
    (holds_again f t.horizon [] t.holds i.holds i.terminals))

-- the state behind the lines of a trace before END
abbrev pub unended : Format → Recording → State
unended f t = at_position (last_position f t.list) f (last_mark f t.list) t.horizon t.holds t.list

body_again : (f : Format) (t : Recording) → IsTrace t → Leads start (body_lines (Some (last_mark f t.list)) (unended f t)) (unended f t)
body_again f t i =
    leads_append start (holding f t.horizon t.holds) (unended f t) (opening_lines f t.horizon t.holds)
    (lines_so_far f (Some (last_mark f t.list)) t.list)
    (opening_again f t i) (whole_list f t.horizon t.holds t.list i.horizon i.list i.order)

end_fine : (f : Format) (xs : List Entry) → (is_closed (last_position f xs) && turns_wrong (last_mark f xs) (is_hit xs) false) ≡ false
end_fine One [] = refl
end_fine One (x ∷ xs) = refl
end_fine Two [] = refl
end_fine Two (x ∷ xs) = ap (λ b. turns_wrong b (is_hit (x ∷ xs)) false) (or_nil (is_hit (x ∷ xs))) ∙ turned (is_hit (x ∷ xs)) false where
  or_nil : (b : Bool) → b ≡ (b || false)
  or_nil true = refl
  or_nil false = refl

may_end : (f : Format) (xs : List Entry) (n : ℕ) → may_follow (last_position f xs) f n End ≡ true
may_end One [] n = refl
may_end One (x ∷ xs) n = refl
may_end Two [] n = refl
may_end Two (x ∷ xs) n = refl

end_again : (f : Format) (h : ℕ) (hs : List Hold) (xs : List Entry)
    → fields_step (at_position (last_position f xs) f (last_mark f xs) h hs xs) end_line ≡ Ok
    (at_position Ended f (last_mark f xs) h hs xs)
unfolding end_step
end_again f h hs xs = stand _ _ _ _ (may_end f xs (last_count xs)) (let_by _ _ _ _ _ (end_fine f xs) refl)

end_fits : FitsLine end_line
end_fits = record { some = omega arith; all = (constant_field (codes "END") (omega arith) refl, tt); short = omega arith }

right_mark : (f : Format) (xs : List Entry) → f ≡ Two → 0 < length xs → last_mark f xs ≡ (is_hit xs || false)
right_mark One xs two some = absurd (let e = two in cc)
right_mark Two xs two some = or_nil (is_hit xs) where
  or_nil : (b : Bool) → b ≡ (b || false)
  or_nil true = refl
  or_nil false = refl

-- the state behind the text of a trace
abbrev pub ended : Format → Recording → State
ended f t = at_position Ended f (last_mark f t.list) t.horizon t.holds t.list

-- the text of a trace is whole, whatever follows it
pub trace_again : NeighboursTell → AscendingIsByMoment → (f : Format) (t : Recording) (rest : List ℕ) → IsTrace t
    → run begin (text_in f t ++ rest) ≡ Found (ended f t)
trace_again law by f t rest i =
    let s : State = unended f t in
    let body : List Line = body_lines (Some (last_mark f t.list)) s in
    let lines : opening_lines f t.horizon t.holds ++ list_lines f t.list ≡ body =
    ap (λ ls. opening_lines f t.horizon t.holds ++ ls) (sym
    (lines_whole law by f t.horizon t.list (last_mark f t.list) i.order i.list (right_mark f t.list))) in
    ap (λ (ls : List Line). run begin (spelled_lines (ls ++ end_line ∷ []) ++ rest)) lines
    ∙ ap (λ x. run begin (x ++ rest)) (lines_end body)
    ∙ ap (run begin) (append_assoc (spelled_lines body) (spelled_line end_line) rest)
    ∙ leads_run start s body (spelled_line end_line ++ rest) (body_again f t i)
    ∙ line_again s (ended f t) end_line rest end_fits (end_again f t.horizon t.holds t.list) where
      lines_end : (lines : List Line) → spelled_lines (lines ++ end_line ∷ []) ≡ spelled_lines lines ++ spelled_line end_line
      lines_end lines = flat_map-append spelled_line lines (end_line ∷ [])
          ∙ ap (λ x. spelled_lines lines ++ x) (append-nil (spelled_line end_line))
