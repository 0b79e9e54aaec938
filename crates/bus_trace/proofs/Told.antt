-- Lines with marks: as they come, and those of the whole list.
use Rattle.std.proofs.Common.{arith, suc, ◌≡◌, ℕ, ◌+◌, ◌<◌, Bool, false, ◌||◌, List, [], ◌∷◌, ◌++◌, length, take}
use Rattle.std.proofs.Common.{nat_lt, map, Some, None, refl, sym, ap, ◌∙◌, append_assoc, append-nil, length-append}
use Rattle.std.specs.List.{flat_map, zip, slice_get, range_with_len, AllByRecursion}
use Rattle.std.specs.Option.{option_map_or}
use Rattle.std.proofs.lemmas.List.{map-append}
use Rattle.std.proofs.Math.Seq.{take-append_seam}
use Rattle.bus_strings.specs.Messages.{Wordstring, Entry}
use Rattle.bus_strings.specs.Transmissions.{end_of, garbled, marks, IsByMoment, IsAscending}
use Rattle.bus_strings.specs.OverlapLaws.{NeighboursTell, AscendingIsByMoment}
use Rattle.bus_strings.proofs.TestLaws.{or_false}
use Rattle.bus_trace.specs.declared.format.Format.{Format}
use Rattle.bus_trace.specs.declared.format.Format.TheVariants.{One, Two}
use Rattle.bus_trace.specs.Traces.{Line, IsBelow, begin_line, string_line, entry_lines, ended_line, close_line, marked_lines, list_lines}
use Rattle.bus_trace.specs.States.{ends_behind, earlier, last_moment, last_end, is_hit, told_lines, lines_so_far, with_string}
use Rattle.bus_trace.specs.inside.Sound.{MarkIs}

-- the last is closed
pub told_closed : (before : List Entry) (mark : Bool) (xs : List Entry) → 0 < length xs
    → told_lines before (Some mark) xs ≡ told_lines before None xs ++ ended_line (last_end xs) mark ∷ []
told_closed before mark [] some = absurd (omega arith)
told_closed before mark (x ∷ []) some = ap (λ ls. ls ++ ended_line (end_of x) mark ∷ []) (sym (append-nil (entry_lines x)))
told_closed before mark (x ∷ y ∷ ys) some =
    let front : List Line = entry_lines x ++ close_line x (ends_behind x.moment before || nat_lt y.moment (end_of x)) ∷ [] in
    ap (λ ls. front ++ ls) (told_closed (before ++ x ∷ []) mark (y ∷ ys) (omega arith))
    ∙ sym (append_assoc front (told_lines (before ++ x ∷ []) None (y ∷ ys)) (ended_line (last_end (y ∷ ys)) mark ∷ []))

-- the next one comes, which shows that the mark of the last is right
pub told_next : (before xs : List Entry) (mark : Bool) (y : Entry) → 0 < length xs
    → mark ≡ (ends_behind (last_moment xs) (before ++ earlier xs) || nat_lt y.moment (last_end xs))
    → told_lines before None (xs ++ y ∷ []) ≡ told_lines before (Some mark) xs ++ entry_lines y
told_next before [] mark y some h = absurd (omega arith)
told_next before (x ∷ []) mark y some h =
    let met : Bool = nat_lt y.moment (end_of x) in
    ap (λ ls. (entry_lines x ++ close_line x (ends_behind x.moment before || met) ∷ []) ++ ls) (append-nil (entry_lines y))
    ∙ ap (λ m. (entry_lines x ++ close_line x m ∷ []) ++ entry_lines y)
    (ap (λ ys. ends_behind x.moment ys || met) (sym (append-nil before)) ∙ sym h)
told_next before (x ∷ z ∷ xs) mark y some h =
    let front : List Line = entry_lines x ++ close_line x (ends_behind x.moment before || nat_lt z.moment (end_of x)) ∷ [] in
    let later : mark ≡ (ends_behind (last_moment (z ∷ xs)) ((before ++ x ∷ []) ++ earlier (z ∷ xs)) || nat_lt y.moment
    (last_end (z ∷ xs))) =
    h ∙ ap (λ ys. ends_behind (last_moment (z ∷ xs)) ys || nat_lt y.moment (last_end (z ∷ xs)))
    (sym (append_assoc before (x ∷ []) (earlier (z ∷ xs)))) in
    ap (λ ls. front ++ ls) (told_next (before ++ x ∷ []) (z ∷ xs) mark y (omega arith) later)
    ∙ sym (append_assoc front (told_lines (before ++ x ∷ []) (Some mark) (z ∷ xs)) (entry_lines y))

-- the last has one wordstring more
pub told_string : (before : List Entry) (w : Wordstring) (xs : List Entry) → 0 < length xs
    → told_lines before None (with_string w xs) ≡ told_lines before None xs ++ string_line w ∷ []
told_string before w [] some = absurd (omega arith)
told_string before w (x ∷ []) some =
    append-nil (begin_line x.moment x.terminal ∷ map string_line (x.message ++ w ∷ []))
    ∙ ap (λ (ls : List Line). begin_line x.moment x.terminal ∷ ls) (map-append string_line x.message (w ∷ []))
    ∙ ap (λ (ls : List Line). ls ++ string_line w ∷ []) (sym (append-nil (entry_lines x)))
told_string before w (x ∷ y ∷ []) some =
    let front : List Line = entry_lines x ++ close_line x (ends_behind x.moment before || nat_lt y.moment (end_of x)) ∷ [] in
    ap (λ ls. front ++ ls) (told_string (before ++ x ∷ []) w (y ∷ []) (omega arith))
    ∙ sym (append_assoc front (told_lines (before ++ x ∷ []) None (y ∷ [])) (string_line w ∷ []))
told_string before w (x ∷ y ∷ z ∷ xs) some =
    let front : List Line = entry_lines x ++ close_line x (ends_behind x.moment before || nat_lt y.moment (end_of x)) ∷ [] in
    ap (λ ls. front ++ ls) (told_string (before ++ x ∷ []) w (y ∷ z ∷ xs) (omega arith))
    ∙ sym (append_assoc front (told_lines (before ++ x ∷ []) None (y ∷ z ∷ xs)) (string_line w ∷ []))

-- ---- the marks of the whole list
get_seam : (b : List Entry) (x : Entry) (ys : List Entry) → slice_get (b ++ x ∷ ys) (length b) ≡ Some x
get_seam [] x ys = refl
get_seam (z ∷ b) x ys = get_seam b x ys

get_next : (b : List Entry) (x : Entry) (ys : List Entry) → slice_get (b ++ x ∷ ys) (suc (length b)) ≡ slice_get ys 0
get_next [] x ys = refl
get_next (z ∷ b) x ys = get_next b x ys

abbrev HasWords : Entry → Type 0
HasWords y = 0 < length y.message

-- the mark of an entry, by those before it and the next
mark_at : NeighboursTell → (whole b : List Entry) (x : Entry) (ys : List Entry) → IsByMoment whole → AllByRecursion HasWords whole
    → whole ≡ b ++ x ∷ ys
    → garbled whole (length b) ≡ (ends_behind x.moment b || option_map_or (λ y. nat_lt y.moment (end_of x)) (slice_get ys 0) false)
mark_at law whole b x ys order words e =
    law whole (length b) x order words (ap (λ w. slice_get w (length b)) e ∙ get_seam b x ys)
    ∙ ap (λ w. ends_behind x.moment w || option_map_or (λ y. nat_lt y.moment (end_of x)) (slice_get whole (length b + 1)) false)
    (ap (take (length b)) e ∙ take-append_seam b (x ∷ ys))
    ∙ ap (λ o. ends_behind x.moment b || option_map_or (λ y. nat_lt y.moment (end_of x)) o false)
    (ap (slice_get whole) (let k : length b + 1 ≡ suc (length b) = omega arith in k) ∙ ap (λ w. slice_get w (suc (length b))) e
    ∙ get_next b x ys)

marked_told : NeighboursTell → (whole b xs : List Entry) (k : ℕ) (mark : Bool) → IsByMoment whole → AllByRecursion HasWords whole
    → whole ≡ b ++ xs → k ≡ length b → 0 < length xs → mark ≡ ends_behind (last_moment xs) (b ++ earlier xs)
    → flat_map marked_lines (zip xs (map (garbled whole) (range_with_len k (length xs)))) ≡ told_lines b (Some mark) xs
marked_told law whole b [] k mark order words e l some h = absurd (omega arith)
marked_told law whole b (x ∷ []) k mark order words e l some h =
    append-nil (entry_lines x ++ close_line x (garbled whole k) ∷ [])
    ∙ ap (λ m. entry_lines x ++ close_line x m ∷ []) (ap (garbled whole) l ∙ mark_at law whole b x [] order words e
    ∙ or_false (ends_behind x.moment b) ∙ ap (ends_behind x.moment) (sym (append-nil b)) ∙ sym h)
marked_told law whole b (x ∷ y ∷ ys) k mark order words e l some h =
    let front : Bool → List Line = λ m. entry_lines x ++ close_line x m ∷ [] in
    let next : k + 1 ≡ length (b ++ x ∷ []) = omega (arith, l, length-append b (x ∷ [])) in
    ap (λ m. front m ++ flat_map marked_lines (zip (y ∷ ys) (map (garbled whole) (range_with_len (k + 1) (length (y ∷ ys))))))
    (ap (garbled whole) l ∙ mark_at law whole b x (y ∷ ys) order words e)
    ∙ ap (λ ls. front (ends_behind x.moment b || nat_lt y.moment (end_of x)) ++ ls)
    (marked_told law whole (b ++ x ∷ []) (y ∷ ys) (k + 1) mark order words (e ∙ sym (append_assoc b (x ∷ []) (y ∷ ys))) next (omega arith)
    (h ∙ ap (ends_behind (last_moment (y ∷ ys))) (sym (append_assoc b (x ∷ []) (earlier (y ∷ ys))))))

have_words : (horizon : ℕ) (xs : List Entry) → AllByRecursion (IsBelow horizon) xs → AllByRecursion HasWords xs
have_words horizon [] h = tt
have_words horizon (x ∷ xs) h = (h.0.message.some, have_words horizon xs h.1)

told_whole : NeighboursTell → AscendingIsByMoment → (horizon : ℕ) (xs : List Entry) (mark : Bool) → IsAscending xs
    → AllByRecursion (IsBelow horizon) xs → (0 < length xs → mark ≡ is_hit xs)
    → told_lines [] (Some mark) xs ≡ flat_map marked_lines (zip xs (marks xs))
told_whole law by horizon [] mark order below h = refl
told_whole law by horizon (x ∷ xs) mark order below h =
    sym (marked_told law (x ∷ xs) [] (x ∷ xs) 0 mark (by (x ∷ xs) order) (have_words horizon (x ∷ xs) below) refl refl (omega arith)
    (h (omega arith)))

-- once the mark of the last is right, the marks are those of the whole list: whether each transmission is garbled
pub lines_whole : NeighboursTell → AscendingIsByMoment → (format : Format) (horizon : ℕ) (xs : List Entry) (mark : Bool) → IsAscending xs
    → AllByRecursion (IsBelow horizon) xs → (format ≡ Two → MarkIs mark xs false)
    → lines_so_far format (Some mark) xs ≡ list_lines format xs
lines_whole law by One horizon xs mark order below h = refl
lines_whole law by Two horizon xs mark order below h = told_whole law by horizon xs mark order below
    (λ some. h refl some ∙ or_false (is_hit xs))
