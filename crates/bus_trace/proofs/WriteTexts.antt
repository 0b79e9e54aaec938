-- What is put is the text of the trace.
use Rattle.std.proofs.Common.{◌≡◌, ℕ, Bool, false, List, [], ◌∷◌, ◌++◌, codes, map, refl, sym, ap, ◌∙◌, append_assoc, append-nil}
use Rattle.std.specs.List.{flat_map, zip, join_with_byte}
use Rattle.std.specs.Fmt.{decimal}
use Rattle.std.proofs.lemmas.List.Concat.{flat_map-append}
use Rattle.bus_text.specs.Canonical.{spelled_line, spelled_lines}
use Rattle.bus_words.specs.Words.{label_word, data_word}
use Rattle.bus_words.specs.WordTexts.{word_text}
use Rattle.bus_strings.specs.Messages.{Wordstring, Entry}
use Rattle.bus_trace.specs.declared.hold.Hold.{Hold}
use Rattle.bus_strings.specs.OverlapLaws.{ClearIsUnmarked}
use Rattle.bus_strings.specs.Transmissions.{end_of, marks, IsClear}
use Rattle.bus_strings.proofs.ListLaws.{flat_map-map}
use Rattle.bus_trace.specs.declared.format.Format.TheVariants.{Two}
use Rattle.bus_trace.specs.Traces.{Recording, Line, head_line, horizon_line, hold_line, begin_line, string_line, entry_lines}
use Rattle.bus_trace.specs.Traces.{mark_text, close_line, marked_lines, list_lines, opening_lines, end_line, trace_text}
use Rattle.bus_trace.specs.inside.Writing.{data_put, label_put, string_put, pair_put, hold_put, close_put, entry_put, horizon_put, list_put}
use Rattle.bus_trace.specs.inside.Writing.{opening_put, clear_put, trace_put}

flat_map-same : {X : Type 0} (f g : X → List ℕ) (xs : List X) → ((x : X) → f x ≡ g x) → flat_map f xs ≡ flat_map g xs
flat_map-same f g [] h = refl
flat_map-same f g (x ∷ xs) h = ap (λ t. t ++ flat_map f xs) (h x) ∙ ap (λ t. g x ++ t) (flat_map-same f g xs h)

-- lines made of a list
spelled_map : {X : Type 0} (f : X → Line) (xs : List X) → spelled_lines (map f xs) ≡ flat_map (λ x. spelled_line (f x)) xs
spelled_map f [] = refl
spelled_map f (x ∷ xs) = ap (λ t. spelled_line (f x) ++ t) (spelled_map f xs)

spelled_flat_map : {X : Type 0} (f : X → List Line) (xs : List X) → spelled_lines (flat_map f xs) ≡ flat_map (λ x. spelled_lines (f x)) xs
spelled_flat_map f [] = refl
spelled_flat_map f (x ∷ xs) = flat_map-append spelled_line (f x) (flat_map f xs)
    ∙ ap (λ t. spelled_lines (f x) ++ t) (spelled_flat_map f xs)

pair_is : (keyword : List ℕ) (m n : ℕ) → pair_put (keyword ++ codes " ") m n ≡ spelled_line (keyword ∷ decimal m ∷ decimal n ∷ [])
pair_is keyword m n = simp append_assoc

-- a space before each field
pub joined : (f : List ℕ) (ws : List ℕ) → join_with_byte 32 (f ∷ map (λ value. word_text (data_word value)) ws) ≡ f ++ data_put ws
joined f [] = sym (append-nil f)
joined f (w ∷ ws) = ap (λ t. f ++ 32 ∷ t) (joined (word_text (data_word w)) ws)

string_is : (s : Wordstring) → string_put s ≡ spelled_line (string_line s)
string_is s =
    let label : List ℕ = word_text (label_word s.label s.ext) in
    append_assoc (label_put (label_word s.label s.ext)) (data_put s.words) (codes "\n")
    ∙ ap (λ (t : List ℕ). 87 ∷ 83 ∷ 32 ∷ t) (sym (append_assoc label (data_put s.words) (10 ∷ []))
    ∙ ap (λ t. t ++ 10 ∷ []) (sym (joined label s.words)))

close_is : (x : Entry) (mark : Bool) → close_put x mark ≡ spelled_line (close_line x mark)
close_is x mark = by_mark (decimal (end_of x)) mark where
  by_mark : (e : List ℕ) (mark : Bool) → codes "TE " ++ e ++ (codes " " ++ mark_text mark ++ codes "\n") ≡ spelled_line
      (codes "TE" ∷ e ∷ mark_text mark ∷ [])
  by_mark e mark = simp append_assoc

entry_is : (marked : Entry × Bool) → entry_put marked ≡ spelled_lines (marked_lines marked)
entry_is marked =
    let x : Entry = marked.0 in
    ap (λ t. (t ++ flat_map string_put x.message) ++ close_put x marked.1) (pair_is (codes "TX") x.moment x.terminal)
    ∙ ap (λ t. (spelled_line (begin_line x.moment x.terminal) ++ t) ++ close_put x marked.1)
    (flat_map-same string_put (λ s. spelled_line (string_line s)) x.message string_is ∙ sym (spelled_map string_line x.message))
    ∙ ap (λ t. spelled_lines (entry_lines x) ++ t) (close_is x marked.1 ∙ sym (append-nil (spelled_line (close_line x marked.1))))
    ∙ sym (flat_map-append spelled_line (entry_lines x) (close_line x marked.1 ∷ []))

list_is : (xs : List Entry) → spelled_lines (list_lines Two xs) ≡ list_put xs
list_is xs = spelled_flat_map marked_lines (zip xs (marks xs))
    ∙ flat_map-same (λ m. spelled_lines (marked_lines m)) entry_put (zip xs (marks xs)) (λ m. sym (entry_is m))

-- the lines before the list
opening_is : (h : ℕ) (hs : List Hold) → spelled_lines (opening_lines Two h hs) ≡ horizon_put h ++ flat_map hold_put hs
opening_is h hs =
    let holds : spelled_lines (map hold_line hs) ≡ flat_map hold_put hs = spelled_map hold_line hs
    ∙ flat_map-same (λ hold. spelled_line (hold_line hold)) hold_put hs
    (λ hold. sym (pair_is (codes "HOLD") hold.terminal hold.count)) in
    sym (append_assoc (spelled_line (head_line Two)) (spelled_line (horizon_line h)) (spelled_lines (map hold_line hs)))
    ∙ ap (λ t. (spelled_line (head_line Two) ++ spelled_line (horizon_line h)) ++ t) holds

pub put_is : (t : Recording) → trace_put t ≡ trace_text t
put_is t =
    let opening : List Line = opening_lines Two t.horizon t.holds in
    ap (λ x. (x ++ list_put t.list) ++ codes "END\n") (sym (opening_is t.horizon t.holds))
    ∙ ap (λ x. (spelled_lines opening ++ x) ++ codes "END\n") (sym (list_is t.list))
    ∙ ap (λ x. x ++ codes "END\n") (sym (flat_map-append spelled_line opening (list_lines Two t.list)))
    ∙ ap (λ x. spelled_lines (opening ++ list_lines Two t.list) ++ x) (sym (append-nil (spelled_line end_line)))
    ∙ sym (flat_map-append spelled_line (opening ++ list_lines Two t.list) (end_line ∷ []))

-- where nothing overlaps
clear_is : (xs : List Entry) → ClearIsUnmarked → IsClear xs → clear_put xs ≡ list_put xs
clear_is xs law c = sym (flat_map-map entry_put (λ (x : Entry). (x, false)) xs) ∙ ap (flat_map entry_put) (sym (law xs c))

-- the same, of the parts that were read of the trace
pub opening_as_read : (t : Recording) (h : ℕ) (hs : List Hold) → h ≡ t.horizon → hs ≡ t.holds → horizon_put h ++ flat_map hold_put hs ≡ opening_put t
opening_as_read t h hs a b =
    ap (λ x. horizon_put x ++ flat_map hold_put hs) a ∙ ap (λ (x : List Hold). horizon_put t.horizon ++ flat_map hold_put x) b

pub put_as_read : (t : Recording) (xs : List Entry) → xs ≡ t.list → opening_put t ++ list_put xs ++ codes "END\n" ≡ trace_text t
put_as_read t xs c = ap (λ (x : List Entry). opening_put t ++ list_put x ++ codes "END\n") c ∙ put_is t

pub clear_as_read : (t : Recording) (xs : List Entry) → ClearIsUnmarked → IsClear t.list → xs ≡ t.list
    → opening_put t ++ clear_put xs ++ codes "END\n" ≡ trace_text t
clear_as_read t xs law clear c =
    ap (λ (x : List Entry). opening_put t ++ clear_put x ++ codes "END\n") c
    ∙ ap (λ x. opening_put t ++ x ++ codes "END\n") (clear_is t.list law clear) ∙ put_is t
