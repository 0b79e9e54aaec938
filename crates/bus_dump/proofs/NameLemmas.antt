-- A dump declares the name of each of its signals.
use Rattle.std.proofs.Common.{◌≡◌, ℕ, ◌^◌, ◌<◌, Bool, true, false, not, ◌&&◌, cond, eqb, List, [], ◌∷◌, ◌++◌, codes, decimal, Some, None}
use Rattle.std.proofs.Common.{inl, inr, arith, sym, refl, ap, ◌∙◌, append_assoc}
use Rattle.std.specs.Prelude.{slice_get, slice_index_or}
use Rattle.std.specs.Char.{is_ascii_digit}
use Rattle.std.specs.List.{AllByRecursion, flat_map, list_all, list_any, slice_split}
use Rattle.std.specs.Option.{option_and_then, option_or}
use Rattle.std.specs.Str.{bytes_eq}
use Rattle.std.specs.Str.Parse.{digits_value}
use Rattle.std.proofs.lemmas.Bool.{and_parts, cases_Bool, or_parts, true≢false}
use Rattle.std.proofs.lemmas.Bool.Decides.{nat_tests}
use Rattle.std.proofs.lemmas.List.Elements.{All-from_recursion}
use Rattle.std.proofs.lemmas.List.Splits.{slice_split_at, slice_split_none}
use Rattle.bus_text.specs.Lines.{physical_lines}
use Rattle.bus_text.specs.Numbers.{is_plain_decimal}
use Rattle.bus_text.proofs.NumberLaws.{decimal_field, decimal_is}
use Rattle.bus_text.proofs.CanonicalLaws.{feedless_append, line_first}
use Rattle.bus_text.proofs.FieldLemmas.{same_bytes}
use Rattle.bus_strings.specs.Members.{In}
use Rattle.bus_dump.specs.DumpTexts.{behind_text, bits_text, changes_to, declaration, first_values, head_text, id_text, last_stamp, name_text, text_of, width_text}
use Rattle.bus_dump.specs.Reading.{declared, first_declared, identifier, parts_of, read, read_named}
use Rattle.bus_dump.specs.Scenes.{Scene}
use Rattle.bus_dump.specs.Signals.{Signal, Carrier, Overlap, Sync, Breach, Word, Pulse, Garbled, Label, Message, Interval, Synchronization, Gap, May}
use Rattle.bus_dump.proofs.ReadLemmas.{Feedless, IsSmall, NotOf, feedless_test, field_spaceless, good_id, not_join, own_bytes, same_id}
use Rattle.bus_dump.proofs.ReadThroughLemmas.{declaration_feedless}

-- ---- parts of lines
not_test : (b : ℕ) (xs : List ℕ) → list_any (λ x. eqb x b) xs ≡ false → NotOf b xs
not_test b [] h = tt
not_test b (x ∷ xs) h = let parts = or_parts (eqb x b) (list_any (λ y. eqb y b) xs) h in (parts.0, not_test b xs parts.1)

part_first : (front rest : List ℕ) → NotOf 32 front → parts_of (front ++ 32 ∷ rest) ≡ front ∷ parts_of rest
part_first front rest h = slice_split_at (λ x. eqb x 32) front 32 rest (All-from_recursion _ front h) refl

six_parts : (a b c d e f : List ℕ) → a ++ b ++ c ++ d ++ e ++ f ≡ a ++ (b ++ (c ++ (d ++ (e ++ f))))
six_parts a b c d e f =
    append_assoc (a ++ b ++ c ++ d) e f ∙ append_assoc (a ++ b ++ c) d (e ++ f) ∙ append_assoc (a ++ b) c (d ++ (e ++ f))
    ∙ append_assoc a b (c ++ (d ++ (e ++ f)))

-- ---- the parts of a declaration
abbrev width_of : Signal → List ℕ
width_of Carrier = codes "1"
width_of Overlap = codes "1"
width_of Sync = codes "1"
width_of Breach = codes "1"
width_of Word = codes "16"
width_of (Pulse n) = codes "1"
width_of (Garbled n) = codes "1"
width_of (Label n) = codes "16"
width_of (Message n) = codes "32"
width_of (Interval n) = codes "1"
width_of (Synchronization n) = codes "1"
width_of (Gap n) = codes "1"
width_of (May n) = codes "1"

-- what stands behind the name and a blank
abbrev tail_of : Signal → List ℕ
tail_of Carrier = codes "$end"
tail_of Overlap = codes "$end"
tail_of Sync = codes "$end"
tail_of Breach = codes "$end"
tail_of Word = codes "[15:0] $end"
tail_of (Pulse n) = codes "$end"
tail_of (Garbled n) = codes "$end"
tail_of (Label n) = codes "[15:0] $end"
tail_of (Message n) = codes "[31:0] $end"
tail_of (Interval n) = codes "$end"
tail_of (Synchronization n) = codes "$end"
tail_of (Gap n) = codes "$end"
tail_of (May n) = codes "$end"

width_spaceless : (s : Signal) → list_any (λ x. eqb x 32) (width_of s) ≡ false
width_spaceless Carrier = refl
width_spaceless Overlap = refl
width_spaceless Sync = refl
width_spaceless Breach = refl
width_spaceless Word = refl
width_spaceless (Pulse n) = refl
width_spaceless (Garbled n) = refl
width_spaceless (Label n) = refl
width_spaceless (Message n) = refl
width_spaceless (Interval n) = refl
width_spaceless (Synchronization n) = refl
width_spaceless (Gap n) = refl
width_spaceless (May n) = refl

front_is : (s : Signal) (rest : List ℕ)
    → (codes "$var wire " ++ width_text s) ++ rest ≡ codes "$var" ++ 32 ∷ (codes "wire" ++ 32 ∷ (width_of s ++ 32 ∷ rest))
front_is Carrier rest = refl
front_is Overlap rest = refl
front_is Sync rest = refl
front_is Breach rest = refl
front_is Word rest = refl
front_is (Pulse n) rest = refl
front_is (Garbled n) rest = refl
front_is (Label n) rest = refl
front_is (Message n) rest = refl
front_is (Interval n) rest = refl
front_is (Synchronization n) rest = refl
front_is (Gap n) rest = refl
front_is (May n) rest = refl

tail_is : (s : Signal) → bits_text s ++ codes " $end" ≡ 32 ∷ tail_of s
tail_is Carrier = refl
tail_is Overlap = refl
tail_is Sync = refl
tail_is Breach = refl
tail_is Word = refl
tail_is (Pulse n) = refl
tail_is (Garbled n) = refl
tail_is (Label n) = refl
tail_is (Message n) = refl
tail_is (Interval n) = refl
tail_is (Synchronization n) = refl
tail_is (Gap n) = refl
tail_is (May n) = refl

lane_spaceless : (n : ℕ) (name : List ℕ) → n < 2 ^ 64 → list_any (λ x. eqb x 32) name ≡ false → NotOf 32 (codes "t" ++ decimal n ++ name)
lane_spaceless n name h f =
    not_join 32 (codes "t" ++ decimal n) name (refl, field_spaceless (decimal n) (decimal_field n h).bytes) (not_test 32 name f)

name_spaceless : (s : Signal) → IsSmall s → NotOf 32 (name_text s)
name_spaceless Carrier h = not_test 32 (codes "carrier") refl
name_spaceless Overlap h = not_test 32 (codes "overlap") refl
name_spaceless Sync h = not_test 32 (codes "sync") refl
name_spaceless Breach h = not_test 32 (codes "breach") refl
name_spaceless Word h = not_test 32 (codes "word") refl
name_spaceless (Pulse n) h = lane_spaceless n (codes "_pulse") h refl
name_spaceless (Garbled n) h = lane_spaceless n (codes "_garbled") h refl
name_spaceless (Label n) h = lane_spaceless n (codes "_label") h refl
name_spaceless (Message n) h = lane_spaceless n (codes "_message") h refl
name_spaceless (Interval n) h = lane_spaceless n (codes "_ti") h refl
name_spaceless (Synchronization n) h = lane_spaceless n (codes "_sg") h refl
name_spaceless (Gap n) h = lane_spaceless n (codes "_tg") h refl
name_spaceless (May n) h = lane_spaceless n (codes "_may") h refl

-- the line of a declaration
abbrev line_text : Signal → List ℕ
line_text s = codes "$var wire " ++ width_text s ++ id_text s ++ codes " " ++ name_text s ++ bits_text s ++ codes " $end"

line_parts : (s : Signal) → IsSmall s
    → parts_of (line_text s) ≡ codes "$var" ∷ (codes "wire" ∷ (width_of s ∷ (id_text s ∷ (name_text s ∷ parts_of (tail_of s)))))
line_parts s h =
    let front : List ℕ = codes "$var wire " ++ width_text s in
    let at_name : List ℕ = name_text s ++ 32 ∷ tail_of s in
    let at_id : List ℕ = id_text s ++ 32 ∷ at_name in
    let at_width : List ℕ = width_of s ++ 32 ∷ at_id in
    let at_wire : List ℕ = codes "wire" ++ 32 ∷ at_width in
    ap parts_of (six_parts front (id_text s) (codes " ") (name_text s) (bits_text s) (codes " $end")
    ∙ ap (λ l. front ++ (id_text s ++ (codes " " ++ (name_text s ++ l)))) (tail_is s)
    ∙ front_is s at_id)
    ∙ part_first (codes "$var") at_wire (not_test 32 (codes "$var") refl)
    ∙ ap (λ l. codes "$var" ∷ l) (part_first (codes "wire") at_width (not_test 32 (codes "wire") refl)
    ∙ ap (λ l. codes "wire" ∷ l) (part_first (width_of s) at_id (not_test 32 (width_of s) (width_spaceless s))
    ∙ ap (λ l. width_of s ∷ l) (part_first (id_text s) at_name (good_id s h).spaceless
    ∙ ap (λ l. id_text s ∷ l) (part_first (name_text s) (tail_of s) (name_spaceless s h)))))

line_declares : (name : List ℕ) (s : Signal) → IsSmall s
    → declared name (parts_of (line_text s)) ≡ cond (bytes_eq (name_text s) name) (Some (id_text s)) None
line_declares name s h = ap (declared name) (line_parts s h)

-- ---- the same name is that of the same signal
digit_plain : (b : ℕ) → is_ascii_digit b ≡ true → eqb b 95 ≡ false
digit_plain b h = grind (arith, nat_tests)

digits_plain : (ds : List ℕ) → list_all is_ascii_digit ds ≡ true → NotOf 95 ds
digits_plain [] h = tt
digits_plain (d ∷ ds) h = let p = and_parts (is_ascii_digit d) (list_all is_ascii_digit ds) h in (digit_plain d p.0, digits_plain ds p.1)

decimal_plain : (ds : List ℕ) → is_plain_decimal ds ≡ true → NotOf 95 ds
decimal_plain [] h = tt
decimal_plain (d ∷ []) h = (digit_plain d h, tt)
decimal_plain (d ∷ (e ∷ ds)) h =
    digits_plain (d ∷ (e ∷ ds)) (and_parts (not (eqb d 48)) (list_all is_ascii_digit (d ∷ (e ∷ ds))) h).1

-- which signal has a name
abbrev lane_named : List (List ℕ) → Signal
lane_named [] = Carrier
lane_named (digits ∷ []) = Carrier
lane_named (digits ∷ (kind ∷ more)) =
    let n : ℕ = digits_value 10 digits in
    cond (bytes_eq kind (codes "pulse")) (Pulse n) (cond (bytes_eq kind (codes "garbled")) (Garbled n)
    (cond (bytes_eq kind (codes "label")) (Label n) (cond (bytes_eq kind (codes "message")) (Message n)
    (cond (bytes_eq kind (codes "ti")) (Interval n) (cond (bytes_eq kind (codes "sg")) (Synchronization n)
    (cond (bytes_eq kind (codes "tg")) (Gap n) (May n)))))))

abbrev signal_named : List ℕ → Signal
signal_named [] = Carrier
signal_named (letter ∷ rest) =
    cond (eqb letter 99) Carrier (cond (eqb letter 111) Overlap (cond (eqb letter 115) Sync (cond (eqb letter 98) Breach (cond (eqb letter 119) Word
    (lane_named (slice_split (λ b. eqb b 95) rest))))))

lane_parts : (n : ℕ) (kind : List ℕ) → n < 2 ^ 64 → list_any (λ x. eqb x 95) kind ≡ false
    → slice_split (λ b. eqb b 95) (decimal n ++ 95 ∷ kind) ≡ decimal n ∷ (kind ∷ [])
lane_parts n kind h f =
    slice_split_at (λ b. eqb b 95) (decimal n) 95 kind (All-from_recursion _ (decimal n) (decimal_plain (decimal n) (decimal_is n h).plain)) refl
    ∙ ap (λ l. decimal n ∷ l) (slice_split_none (λ b. eqb b 95) kind (All-from_recursion _ kind (not_test 95 kind f)))

named_is : (s : Signal) → IsSmall s → signal_named (name_text s) ≡ s
named_is Carrier h = refl
named_is Overlap h = refl
named_is Sync h = refl
named_is Breach h = refl
named_is Word h = refl
named_is (Pulse n) h = ap lane_named (lane_parts n (codes "pulse") h refl) ∙ ap Pulse (decimal_is n h).value
named_is (Garbled n) h = ap lane_named (lane_parts n (codes "garbled") h refl) ∙ ap Garbled (decimal_is n h).value
named_is (Label n) h = ap lane_named (lane_parts n (codes "label") h refl) ∙ ap Label (decimal_is n h).value
named_is (Message n) h = ap lane_named (lane_parts n (codes "message") h refl) ∙ ap Message (decimal_is n h).value
named_is (Interval n) h = ap lane_named (lane_parts n (codes "ti") h refl) ∙ ap Interval (decimal_is n h).value
named_is (Synchronization n) h = ap lane_named (lane_parts n (codes "sg") h refl) ∙ ap Synchronization (decimal_is n h).value
named_is (Gap n) h = ap lane_named (lane_parts n (codes "tg") h refl) ∙ ap Gap (decimal_is n h).value
named_is (May n) h = ap lane_named (lane_parts n (codes "may") h refl) ∙ ap May (decimal_is n h).value

same_name : (a b : Signal) → IsSmall a → IsSmall b → bytes_eq (name_text a) (name_text b) ≡ true → a ≡ b
same_name a b h k e = sym (named_is a h) ∙ ap signal_named (same_bytes (name_text a) (name_text b) e) ∙ named_is b k

-- ---- texts
-- a line that begins with another word declares nothing
none_declared : (name front rest more : List ℕ) → Feedless (front ++ 32 ∷ rest) → NotOf 32 front → bytes_eq front (codes "$var") ≡ false
    → identifier name ((front ++ 32 ∷ rest) ++ 10 ∷ more) ≡ identifier name more
none_declared name front rest more f h no' =
    ap (first_declared name) (line_first (front ++ 32 ∷ rest) more f)
    ∙ ap (λ p. option_or (declared name p) (identifier name more)) (part_first front rest h)
    ∙ ap (λ b. option_or (cond (b && bytes_eq (slice_index_or (front ∷ parts_of rest) 4 []) name) (slice_get (front ∷ parts_of rest) 3) None) (identifier name more)) no'

head_declares : (name comment rest : List ℕ) → Feedless comment → identifier name (head_text comment ++ rest) ≡ identifier name rest
head_declares name comment rest h =
    let a : List ℕ = codes "$version bus629-view 1 $end" in
    let c : List ℕ = codes "$comment " ++ comment ++ codes " $end" in
    let e : List ℕ = codes "$timescale 100 ns $end" in
    let f : List ℕ = codes "$scope module bus $end" in
    let tail : List ℕ = e ++ 10 ∷ (f ++ 10 ∷ rest) in
    ap (identifier name) (append_assoc (codes "$version bus629-view 1 $end\n$comment " ++ comment) (codes " $end\n$timescale 100 ns $end\n$scope module bus $end\n") rest
    ∙ append_assoc (codes "$version bus629-view 1 $end\n$comment ") comment (codes " $end\n$timescale 100 ns $end\n$scope module bus $end\n" ++ rest))
    ∙ none_declared name (codes "$version") (codes "bus629-view 1 $end") (codes "$comment " ++ (comment ++ (codes " $end" ++ 10 ∷ tail)))
    (feedless_test a refl) (not_test 32 (codes "$version") refl) refl
    ∙ ap (identifier name) (sym (append_assoc (codes "$comment " ++ comment) (codes " $end") (10 ∷ tail) ∙ append_assoc (codes "$comment ") comment (codes " $end" ++ 10 ∷ tail)))
    ∙ none_declared name (codes "$comment") (comment ++ codes " $end") tail (feedless_append (codes "$comment " ++ comment) (codes " $end")
    (feedless_append (codes "$comment ") comment (feedless_test (codes "$comment ") refl) h) (feedless_test (codes " $end") refl))
    (not_test 32 (codes "$comment") refl) refl
    ∙ none_declared name (codes "$timescale") (codes "100 ns $end") (f ++ 10 ∷ rest) (feedless_test e refl) (not_test 32 (codes "$timescale") refl) refl
    ∙ none_declared name (codes "$scope") (codes "module bus $end") rest (feedless_test f refl) (not_test 32 (codes "$scope") refl) refl

-- the declaration of a signal, and what is behind it
one_declared : (name : List ℕ) (s : Signal) (rest : List ℕ) → IsSmall s
    → identifier name (declaration s ++ rest) ≡ option_or (cond (bytes_eq (name_text s) name) (Some (id_text s)) None) (identifier name rest)
one_declared name s rest h =
    let front : List ℕ = codes "$var wire " ++ width_text s ++ id_text s ++ codes " " ++ name_text s ++ bits_text s in
    let line : List ℕ = line_text s in
    ap (λ l. identifier name (l ++ rest)) (sym (append_assoc front (codes " $end") (10 ∷ [])))
    ∙ ap (identifier name) (append_assoc line (10 ∷ []) rest)
    ∙ ap (first_declared name) (line_first line rest (declaration_feedless s h))
    ∙ ap (λ o. option_or o (identifier name rest)) (line_declares name s h)

all_declared : (s : Signal) (ss : List Signal) (rest : List ℕ) → AllByRecursion IsSmall ss → IsSmall s → In s ss
    → identifier (name_text s) (flat_map declaration ss ++ rest) ≡ Some (id_text s)
all_declared s [] rest small own i = absurd i
all_declared s (x ∷ ss) rest small own i =
    let name : List ℕ = name_text s in
    let more : List ℕ = flat_map declaration ss ++ rest in
    ap (identifier name) (append_assoc (declaration x) (flat_map declaration ss) rest)
    ∙ one_declared name x more small.0
    ∙ elim (cases_Bool (bytes_eq (name_text x) name)) [
      | inl yes' ↦ ap (λ b. option_or (cond b (Some (id_text x)) None) (identifier name more)) yes'
          ∙ ap (λ (z : Signal). Some (id_text z)) (same_name x s small.0 own yes')
      | inr no' ↦ ap (λ b. option_or (cond b (Some (id_text x)) None) (identifier name more)) no'
          ∙ elim i [
            | inl same ↦ absurd
                (true≢false (sym (ap (λ (z : Signal). bytes_eq (name_text z) name) (sym same) ∙ own_bytes name) ∙ no'))
            | inr later ↦ all_declared s ss rest small.1 own later
          ]
    ]

pub name_declared : (comment : List ℕ) (ss : List Signal) (scene : ℕ → Scene) (from end : ℕ) (s : Signal) → Feedless comment
    → AllByRecursion IsSmall ss → IsSmall s → In s ss → identifier (name_text s) (text_of comment ss scene from end) ≡ Some (id_text s)
name_declared comment ss scene from end s plain small own i =
    let declarations : List ℕ = flat_map declaration ss in
    let first : List ℕ = first_values ss (scene from) from in
    let later : List ℕ = changes_to ss scene from end in
    let rest : List ℕ = behind_text ++ (first ++ (later ++ last_stamp from end)) in
    ap (identifier (name_text s)) (six_parts (head_text comment) declarations behind_text first later (last_stamp from end))
    ∙ head_declares (name_text s) comment (declarations ++ rest) plain
    ∙ all_declared s ss rest small own i

-- so the signal is read by its name
pub read_by_name : (name id text : List ℕ) (at : ℕ) → identifier name text ≡ Some id → read_named name at text ≡ read id at text
read_by_name name id text at e = ap (λ o. option_and_then (λ i. read i at text) o) e

-- ---- the same declarations are those of the same signals
declaration_first : (s : Signal) (rest : List ℕ) → IsSmall s → physical_lines (declaration s ++ rest) ≡ line_text s ∷ physical_lines rest
declaration_first s rest h =
    let front : List ℕ = codes "$var wire " ++ width_text s ++ id_text s ++ codes " " ++ name_text s ++ bits_text s in
    ap (λ l. physical_lines (l ++ rest)) (sym (append_assoc front (codes " $end") (10 ∷ [])))
    ∙ ap physical_lines (append_assoc (line_text s) (10 ∷ []) rest)
    ∙ line_first (line_text s) rest (declaration_feedless s h)

declarations_first : (s : Signal) (ss : List Signal) (rest : List ℕ) → IsSmall s
    → physical_lines (flat_map declaration (s ∷ ss) ++ rest) ≡ line_text s ∷ physical_lines (flat_map declaration ss ++ rest)
declarations_first s ss rest h =
    ap physical_lines (append_assoc (declaration s) (flat_map declaration ss) rest) ∙ declaration_first s (flat_map declaration ss ++ rest) h

behind_first : (rest : List ℕ) → physical_lines (behind_text ++ rest) ≡ codes "$upscope $end" ∷ physical_lines (codes "$enddefinitions $end\n" ++ rest)
behind_first rest = line_first (codes "$upscope $end") (codes "$enddefinitions $end" ++ 10 ∷ rest) (feedless_test (codes "$upscope $end") refl)

-- whether a line is a declaration
is_var : List ℕ → Bool
is_var line = bytes_eq (slice_index_or (parts_of line) 0 []) (codes "$var")

line_var : (s : Signal) → IsSmall s → is_var (line_text s) ≡ true
unfolding is_var
line_var s h = ap (λ p. bytes_eq (slice_index_or p 0 []) (codes "$var")) (line_parts s h)

behind_var : is_var (codes "$upscope $end") ≡ false
unfolding is_var
behind_var =
    ap (λ p. bytes_eq (slice_index_or p 0 []) (codes "$var")) (part_first (codes "$upscope") (codes "$end") (not_test 32 (codes "$upscope") refl))

-- the first of some lines, and the others
same_first : (a b : List ℕ) (others more : List (List ℕ)) → a ∷ others ≡ b ∷ more → a ≡ b
same_first a b others more h = cc

same_others : (a b : List ℕ) (others more : List (List ℕ)) → a ∷ others ≡ b ∷ more → others ≡ more
same_others a b others more h = cc

not_both : (s : Signal) (others more : List (List ℕ)) → IsSmall s → line_text s ∷ others ≡ codes "$upscope $end" ∷ more → ⊥
not_both s others more h e =
    true≢false (sym (line_var s h) ∙ ap is_var (same_first (line_text s) (codes "$upscope $end") others more e) ∙ behind_var)

pub same_declared : (ss ts : List Signal) (x y : List ℕ) → AllByRecursion IsSmall ss → AllByRecursion IsSmall ts
    → physical_lines (flat_map declaration ss ++ (behind_text ++ x)) ≡ physical_lines (flat_map declaration ts ++ (behind_text ++ y)) → ss ≡ ts
same_declared [] [] x y h k e = refl
same_declared [] (t ∷ ts) x y h k e =
    absurd (not_both t (physical_lines (flat_map declaration ts ++ (behind_text ++ y))) (physical_lines (codes "$enddefinitions $end\n" ++ x)) k.0
    (sym (declarations_first t ts (behind_text ++ y) k.0) ∙ sym e ∙ behind_first x))
same_declared (s ∷ ss) [] x y h k e =
    absurd (not_both s (physical_lines (flat_map declaration ss ++ (behind_text ++ x))) (physical_lines (codes "$enddefinitions $end\n" ++ y)) h.0
    (sym (declarations_first s ss (behind_text ++ x) h.0) ∙ e ∙ behind_first y))
same_declared (s ∷ ss) (t ∷ ts) x y h k e =
    let others : List (List ℕ) = physical_lines (flat_map declaration ss ++ (behind_text ++ x)) in
    let more : List (List ℕ) = physical_lines (flat_map declaration ts ++ (behind_text ++ y)) in
    let both : line_text s ∷ others ≡ line_text t ∷ more =
    sym (declarations_first s ss (behind_text ++ x) h.0) ∙ e ∙ declarations_first t ts (behind_text ++ y) k.0 in
    let ids : id_text s ≡ id_text t =
    sym (ap (λ p. slice_index_or p 3 []) (line_parts s h.0))
    ∙ ap (λ l. slice_index_or (parts_of l) 3 []) (same_first (line_text s) (line_text t) others more both)
    ∙ ap (λ p. slice_index_or p 3 []) (line_parts t k.0) in
    ap (λ z. z ∷ ss) (same_id s t h.0 k.0 ids)
    ∙ ap (λ zs. t ∷ zs) (same_declared ss ts x y h.1 k.1 (same_others (line_text s) (line_text t) others more both))

same_behind : (front xs ys : List ℕ) → front ++ xs ≡ front ++ ys → xs ≡ ys
same_behind [] xs ys h = h
same_behind (b ∷ front) xs ys h = same_behind front xs ys (let w : b ∷ (front ++ xs) ≡ b ∷ (front ++ ys) = h in cc)

-- the same texts have the same signals
pub same_signals : (comment : List ℕ) (ss ts : List Signal) (scene other : ℕ → Scene) (from end start until : ℕ) → AllByRecursion IsSmall ss
    → AllByRecursion IsSmall ts → text_of comment ss scene from end ≡ text_of comment ts other start until → ss ≡ ts
same_signals comment ss ts scene other from end start until h k e =
    let head : List ℕ = head_text comment in
    let first : List ℕ = first_values ss (scene from) from in
    let second : List ℕ = first_values ts (other start) start in
    let x : List ℕ = first ++ (changes_to ss scene from end ++ last_stamp from end) in
    let y : List ℕ = second ++ (changes_to ts other start until ++ last_stamp start until) in
    same_declared ss ts x y h k (ap physical_lines (same_behind head (flat_map declaration ss ++ (behind_text ++ x)) (flat_map declaration ts ++ (behind_text ++ y))
    (sym (six_parts head (flat_map declaration ss) behind_text first (changes_to ss scene from end) (last_stamp from end))
    ∙ e ∙ six_parts head (flat_map declaration ts) behind_text second (changes_to ts other start until) (last_stamp start until))))
