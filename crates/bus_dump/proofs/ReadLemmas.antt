-- What a reader makes of a dump.
use Rattle.std.proofs.Common.{◌≡◌, ℕ, zero, suc, ◌+◌, ◌*◌, ◌^◌, ◌<◌, ◌≤◌, Bool, true, false, ◌&&◌, ◌||◌, cond, eqb, leb, List, [], ◌∷◌, ◌++◌, map, codes, decimal, fold, Option, Some}
use Rattle.std.proofs.Common.{inl, inr, arith, sym, refl, ap, subst, ◌∙◌, append_assoc}
use Rattle.std.specs.Int.Digits.{AllBelowBase, number_from_digits}
use Rattle.std.specs.List.{AllByRecursion, flat_map, list_any}
use Rattle.std.specs.Str.{bytes_eq}
use Rattle.std.specs.Str.Parse.{digits_value}
use Rattle.std.specs.Char.{digit_value}
use Rattle.std.specs.Int.Digits.{digits_of}
use Rattle.std.proofs.lemmas.Bool.{cases_lt, cases_Bool, true≢false, eqb-true, eq-eqb, ne_eqb}
use Rattle.std.proofs.lemmas.Int.Digits.{all_below_base_digits_of, digits_value_is, number_digits_of}
use Rattle.std.proofs.lemmas.List.Splits.{slice_split_at, slice_split_none}
use Rattle.std.proofs.lemmas.List.Elements.{All-from_recursion}
use Rattle.std.proofs.lemmas.Slice.Eq.{bytes_eq-Decides}
use Rattle.bus_text.specs.inside.Spelled.{IsFieldByte}
use Rattle.bus_text.specs.Lines.{is_blank, is_feed}
use Rattle.bus_text.proofs.NumberLaws.{decimal_field, decimal_is}
use Rattle.bus_text.proofs.CanonicalLaws.{feedless_append, feedless, line_first}
use Rattle.bus_text.proofs.FieldLemmas.{same_bytes}
use Rattle.bus_strings.specs.Members.{In}
use Rattle.bus_dump.specs.DumpTexts.{binary, id_text, stamp, value_line, value_text}
use Rattle.bus_dump.specs.Reading.{gives, other, Place, line_of, parts_of, read_on, step, vector, vector_line}
use Rattle.bus_dump.specs.Scenes.{Scene}
use Rattle.bus_dump.specs.Signals.{Signal, Carrier, Overlap, Sync, Breach, Word, Pulse, Garbled, Label, Message, Interval, Synchronization, Gap, May, Value, Bit, Number, Floating, Unknown, value, is_same}

-- ---- lines
abbrev pub Feedless : List ℕ → Type 0
Feedless line = AllByRecursion (λ b. is_feed b ≡ false) line

pub feedless_test : (xs : List ℕ) → list_any is_feed xs ≡ false → Feedless xs
feedless_test [] h = tt
feedless_test (x ∷ xs) h = elim (cases_Bool (is_feed x)) [
  | inl yes' ↦ absurd (true≢false (sym (ap (λ b. b || list_any is_feed xs) yes') ∙ h))
  | inr no' ↦ (no', feedless_test xs (sym (ap (λ b. b || list_any is_feed xs) no') ∙ h))
]

-- a line is read, and then the rest
pub line_read : (id : List ℕ) (at : ℕ) (p : Place) (line rest : List ℕ) → Feedless line
    → read_on id at p (line ++ 10 ∷ rest) ≡ read_on id at (step id at p (line_of line)) rest
line_read id at p line rest h = ap (fold (λ (q : Place) l. step id at q (line_of l)) p) (line_first line rest h)

pub line_skipped : (id : List ℕ) (at : ℕ) (p : Place) (line rest : List ℕ) → Feedless line → line_of line ≡ other
    → read_on id at p (line ++ 10 ∷ rest) ≡ read_on id at p rest
line_skipped id at p line rest h e = line_read id at p line rest h ∙ ap (λ l. read_on id at (step id at p l) rest) e

-- ---- values
pub is_same_equal : (v w : Value) → is_same v w ≡ true → v ≡ w
is_same_equal (Bit true) (Bit true) h = refl
is_same_equal (Bit true) (Bit false) h = absurd cc
is_same_equal (Bit false) (Bit true) h = absurd cc
is_same_equal (Bit false) (Bit false) h = refl
is_same_equal (Bit a) (Number n) h = absurd cc
is_same_equal (Bit a) Floating h = absurd cc
is_same_equal (Bit a) Unknown h = absurd cc
is_same_equal (Number n) (Number m) h = ap Number (eqb-true n m h)
is_same_equal (Number n) (Bit b) h = absurd cc
is_same_equal (Number n) Floating h = absurd cc
is_same_equal (Number n) Unknown h = absurd cc
is_same_equal Floating (Bit b) h = absurd cc
is_same_equal Floating (Number m) h = absurd cc
is_same_equal Floating Floating h = refl
is_same_equal Floating Unknown h = absurd cc
is_same_equal Unknown (Bit b) h = absurd cc
is_same_equal Unknown (Number m) h = absurd cc
is_same_equal Unknown Floating h = absurd cc
is_same_equal Unknown Unknown h = refl

-- ---- digits
digit_is : (d : ℕ) → d < 2 → digit_value (48 + d) ≡ d
digit_is zero h = refl
digit_is (suc zero) h = refl
digit_is (suc (suc d)) h = absurd (omega arith)

digits_are : (ds : List ℕ) → AllBelowBase 2 ds → map digit_value (map (λ d. 48 + d) ds) ≡ ds
digits_are [] h = refl
digits_are (d ∷ ds) h = ap (λ x. x ∷ map digit_value (map (λ d. 48 + d) ds)) (digit_is d h.0) ∙ ap (λ l. d ∷ l) (digits_are ds h.1)

-- no byte of a value's digits is a blank, nor a line feed
abbrev pub NotOf : ℕ → List ℕ → Type 0
NotOf b bs = AllByRecursion (λ x. eqb x b ≡ false) bs

pub not_join : (b : ℕ) (xs ys : List ℕ) → NotOf b xs → NotOf b ys → NotOf b (xs ++ ys)
not_join b [] ys h k = k
not_join b (x ∷ xs) ys h k = (h.0, not_join b xs ys h.1 k)

below_binary : (b d : ℕ) → d < 2 → 50 ≤ b → eqb (48 + d) b ≡ false
below_binary b d low high = ne_eqb (48 + d) b (λ e. omega arith)

low_binary : (b d : ℕ) → d < 2 → b < 48 → eqb (48 + d) b ≡ false
low_binary b d low high = ne_eqb (48 + d) b (λ e. omega arith)

digits_not : (b : ℕ) (ds : List ℕ) → b < 48 → AllBelowBase 2 ds → NotOf b (map (λ d. 48 + d) ds)
digits_not b [] low h = tt
digits_not b (d ∷ ds) low h = (low_binary b d h.0 low, digits_not b ds low h.1)

binary_not : (b n : ℕ) → b < 48 → NotOf b (binary n)
binary_not b n low = elim (cases_Bool (eqb n 0)) [
  | inl zero' ↦ subst (NotOf b) (sym (ap (λ t. cond t (codes "0") (map (λ d. 48 + d) (digits_of 2 n))) zero')) (ne_eqb 48 b (λ e. omega arith), tt)
  | inr more ↦ subst (NotOf b) (sym (ap (λ t. cond t (codes "0") (map (λ d. 48 + d) (digits_of 2 n))) more))
      (digits_not b (digits_of 2 n) low (all_below_base_digits_of 2 n (omega arith)))
]

digits_read : (n : ℕ) (ds id : List ℕ) → AllBelowBase 2 ds → number_from_digits 2 ds ≡ n → 0 < n
    → vector_line (map (λ d. 48 + d) ds) id ≡ gives id (Number n)
digits_read n [] id all is some = absurd (let e : 0 ≡ n = is in omega arith)
digits_read n (d ∷ ds) id all is some =
    rw (below_binary 122 d all.0 (omega arith), below_binary 120 d all.0 (omega arith))
    (ap (λ k. gives id (Number k)) (digits_value_is 2 (map (λ d. 48 + d) (d ∷ ds)) ∙ ap (number_from_digits 2) (digits_are (d ∷ ds) all) ∙ is))

binary_read : (n : ℕ) (id : List ℕ) → vector_line (binary n) id ≡ gives id (Number n)
binary_read n id = elim (cases_Bool (eqb n 0)) [
  | inl zero' ↦
      ap (λ t. vector_line (cond t (codes "0") (map (λ d. 48 + d) (digits_of 2 n))) id) zero'
      ∙ (let e : n ≡ 0 = eqb-true n 0 zero' in ap (λ k. gives id (Number k)) (sym e))
  | inr more ↦
      ap (λ t. vector_line (cond t (codes "0") (map (λ d. 48 + d) (digits_of 2 n))) id) more
      ∙ digits_read n (digits_of 2 n) id (all_below_base_digits_of 2 n (omega arith)) (number_digits_of 2 n (omega arith))
      (elim (cases_lt 0 n) [ inl some ↦ some | inr none ↦ absurd (true≢false (sym (eq-eqb n 0 (let e : n ≡ 0 = omega arith in e)) ∙ more)) ])
]

-- ---- identifiers
-- the number of the terminal of a signal, 0 where it is of the bus
abbrev pub terminal_of : Signal → ℕ
terminal_of Carrier = 0
terminal_of Overlap = 0
terminal_of Sync = 0
terminal_of Breach = 0
terminal_of Word = 0
terminal_of (Pulse n) = n
terminal_of (Garbled n) = n
terminal_of (Label n) = n
terminal_of (Message n) = n
terminal_of (Interval n) = n
terminal_of (Synchronization n) = n
terminal_of (Gap n) = n
terminal_of (May n) = n

abbrev pub IsSmall : Signal → Type 0
IsSmall s = terminal_of s < 2 ^ 64

pub field_spaceless : (bs : List ℕ) → AllByRecursion IsFieldByte bs → NotOf 32 bs
field_spaceless [] h = tt
field_spaceless (b ∷ bs) h = (no_space b h.0.no_blank, field_spaceless bs h.1) where
  no_space : (x : ℕ) → is_blank x ≡ false → eqb x 32 ≡ false
  no_space x e = elim (cases_Bool (eqb x 32)) [
    | inl yes' ↦ absurd (true≢false (sym (ap (λ b. b || eqb x 9 || eqb x 13) yes') ∙ e))
    | inr no' ↦ no'
  ]

pub record GoodId (id : List ℕ) : Type 0 where
  pub feedless : Feedless id
  pub spaceless : NotOf 32 id

pub lane_feedless : (n : ℕ) (name : List ℕ) → n < 2 ^ 64 → Feedless name → Feedless (codes "t" ++ decimal n ++ name)
lane_feedless n name h f =
    feedless_append (codes "t" ++ decimal n) name (refl, feedless (decimal n) (decimal_field n h).bytes) f

lane_id : (letter n : ℕ) → is_feed letter ≡ false → eqb letter 32 ≡ false → n < 2 ^ 64 → GoodId (letter ∷ decimal n)
lane_id letter n a b h =
    let f = decimal_field n h in
    record { feedless = (a, feedless (decimal n) f.bytes); spaceless = (b, field_spaceless (decimal n) f.bytes) }

pub good_id : (s : Signal) → IsSmall s → GoodId (id_text s)
good_id Carrier h = record { feedless = (refl, tt); spaceless = (refl, tt) }
good_id Overlap h = record { feedless = (refl, tt); spaceless = (refl, tt) }
good_id Sync h = record { feedless = (refl, tt); spaceless = (refl, tt) }
good_id Breach h = record { feedless = (refl, tt); spaceless = (refl, tt) }
good_id Word h = record { feedless = (refl, tt); spaceless = (refl, tt) }
good_id (Pulse n) h = lane_id 112 n refl refl h
good_id (Garbled n) h = lane_id 103 n refl refl h
good_id (Label n) h = lane_id 108 n refl refl h
good_id (Message n) h = lane_id 109 n refl refl h
good_id (Interval n) h = lane_id 105 n refl refl h
good_id (Synchronization n) h = lane_id 121 n refl refl h
good_id (Gap n) h = lane_id 104 n refl refl h
good_id (May n) h = lane_id 114 n refl refl h

-- ---- the line of a value
vector_read : (digits id : List ℕ) (v : Value) → NotOf 32 digits → NotOf 32 id → vector_line digits id ≡ gives id v
    → vector (parts_of (digits ++ 32 ∷ id)) ≡ gives id v
vector_read digits id v a b is =
    ap vector (slice_split_at (λ x. eqb x 32) digits 32 id (All-from_recursion _ digits a) refl
    ∙ ap (λ l. digits ∷ l) (slice_split_none (λ x. eqb x 32) id (All-from_recursion _ id b)))
    ∙ is

pub value_line_of : (v : Value) (id : List ℕ) → NotOf 32 id → line_of (value_text v ++ id) ≡ gives id v
value_line_of (Bit true) id h = refl
value_line_of (Bit false) id h = refl
value_line_of (Number n) id h =
    ap line_of (ap (λ l. 98 ∷ l) (append_assoc (binary n) (32 ∷ []) id))
    ∙ vector_read (binary n) id (Number n) (binary_not 32 n (omega arith)) h (binary_read n id)
value_line_of Floating id h = vector_read (122 ∷ []) id Floating (refl, tt) h refl
value_line_of Unknown id h = vector_read (120 ∷ []) id Unknown (refl, tt) h refl

pub value_feedless : (v : Value) → Feedless (value_text v)
value_feedless (Bit true) = (refl, tt)
value_feedless (Bit false) = (refl, tt)
value_feedless (Number n) = feedless_append (98 ∷ binary n) (32 ∷ []) (refl, binary_not 10 n (omega arith)) (refl, tt)
value_feedless Floating = feedless_test (codes "bz ") refl
value_feedless Unknown = feedless_test (codes "bx ") refl

pub value_line_read : (id : List ℕ) (at : ℕ) (p : Place) (scene : Scene) (s : Signal) (rest : List ℕ) → IsSmall s
    → read_on id at p (value_line scene s ++ rest) ≡ read_on id at (step id at p (gives (id_text s) (value s scene))) rest
value_line_read id at p scene s rest h =
    let g = good_id s h in
    let line : List ℕ = value_text (value s scene) ++ id_text s in
    ap (read_on id at p) (append_assoc line (10 ∷ []) rest)
    ∙ line_read id at p line rest (feedless_append (value_text (value s scene)) (id_text s) (value_feedless (value s scene)) g.feedless)
    ∙ ap (λ l. read_on id at (step id at p l) rest) (value_line_of (value s scene) (id_text s) g.spaceless)

-- ---- the same identifier is that of the same signal
-- which signal has an identifier
abbrev signal_of : List ℕ → Signal
signal_of [] = Carrier
signal_of (letter ∷ digits) =
    let n : ℕ = digits_value 10 digits in
    cond (eqb letter 99) Carrier (cond (eqb letter 111) Overlap (cond (eqb letter 115) Sync (cond (eqb letter 98) Breach (cond (eqb letter 119) Word
    (cond (eqb letter 112) (Pulse n) (cond (eqb letter 103) (Garbled n) (cond (eqb letter 108) (Label n) (cond (eqb letter 109) (Message n)
    (cond (eqb letter 105) (Interval n) (cond (eqb letter 121) (Synchronization n) (cond (eqb letter 104) (Gap n) (May n))))))))))))

signal_is : (s : Signal) → IsSmall s → signal_of (id_text s) ≡ s
signal_is Carrier h = refl
signal_is Overlap h = refl
signal_is Sync h = refl
signal_is Breach h = refl
signal_is Word h = refl
signal_is (Pulse n) h = ap Pulse (decimal_is n h).value
signal_is (Garbled n) h = ap Garbled (decimal_is n h).value
signal_is (Label n) h = ap Label (decimal_is n h).value
signal_is (Message n) h = ap Message (decimal_is n h).value
signal_is (Interval n) h = ap Interval (decimal_is n h).value
signal_is (Synchronization n) h = ap Synchronization (decimal_is n h).value
signal_is (Gap n) h = ap Gap (decimal_is n h).value
signal_is (May n) h = ap May (decimal_is n h).value

pub own_bytes : (xs : List ℕ) → bytes_eq xs xs ≡ true
own_bytes xs = (bytes_eq-Decides xs xs).1 refl

pub same_id : (a b : Signal) → IsSmall a → IsSmall b → id_text a ≡ id_text b → a ≡ b
same_id a b h k e = sym (signal_is a h) ∙ ap signal_of e ∙ signal_is b k

same_signal : (a b : Signal) → IsSmall a → IsSmall b → bytes_eq (id_text a) (id_text b) ≡ true → a ≡ b
same_signal a b h k e = same_id a b h k (same_bytes (id_text a) (id_text b) e)

-- ---- texts that take a reader from a place to another
abbrev pub Moves : List ℕ → ℕ → Place → List ℕ → Place → Type 0
Moves id at p text q = (rest : List ℕ) → read_on id at p (text ++ rest) ≡ read_on id at q rest

pub then : (id : List ℕ) (at : ℕ) (p q r : Place) (a b : List ℕ) → Moves id at p a q → Moves id at q b r → Moves id at p (a ++ b) r
then id at p q r a b m n rest = ap (read_on id at p) (append_assoc a b rest) ∙ m (b ++ rest) ∙ n rest

pub stays_at : (id : List ℕ) (at : ℕ) (p : Place) → Moves id at p [] p
stays_at id at p rest = refl

-- ---- lines of values
-- past the time that is asked for, nothing is taken
pub late : (s : Signal) (at : ℕ) (p : Place) (scene : Scene) (ss : List Signal) → AllByRecursion IsSmall ss → leb p.now at ≡ false
    → Moves (id_text s) at p (flat_map (value_line scene) ss) p
late s at p scene [] small h rest = refl
late s at p scene (x ∷ ss) small h rest =
    ap (read_on (id_text s) at p) (append_assoc (value_line scene x) (flat_map (value_line scene) ss) rest)
    ∙ value_line_read (id_text s) at p scene x (flat_map (value_line scene) ss ++ rest) small.0
    ∙ ap (λ q. read_on (id_text s) at q (flat_map (value_line scene) ss ++ rest)) (not_taken (bytes_eq (id_text x) (id_text s)))
    ∙ late s at p scene ss small.1 h rest
  where
    not_taken : (b : Bool) → cond (b && leb p.now at) (record { now = p.now; value = Some (value x scene) }) p ≡ p
    not_taken true = ap (λ t. cond t (record { now = p.now; value = Some (value x scene) }) p) h
    not_taken false = refl

abbrev pub with_value : Place → Option Value → Place
with_value p v = record { now = p.now; value = v }

-- what is taken is the value that is there already
pub kept : (s : Signal) (at : ℕ) (p : Place) (scene : Scene) (ss : List Signal) → AllByRecursion IsSmall ss → IsSmall s → leb p.now at ≡ true
    → p.value ≡ Some (value s scene) → Moves (id_text s) at p (flat_map (value_line scene) ss) p
kept s at p scene [] small own h v rest = refl
kept s at p scene (x ∷ ss) small own h v rest =
    ap (read_on (id_text s) at p) (append_assoc (value_line scene x) (flat_map (value_line scene) ss) rest)
    ∙ value_line_read (id_text s) at p scene x (flat_map (value_line scene) ss ++ rest) small.0
    ∙ ap (λ q. read_on (id_text s) at q (flat_map (value_line scene) ss ++ rest)) (by_id (bytes_eq (id_text x) (id_text s)) refl)
    ∙ kept s at p scene ss small.1 own h v rest
  where
    by_id : (b : Bool) → bytes_eq (id_text x) (id_text s) ≡ b → cond (b && leb p.now at) (with_value p (Some (value x scene))) p ≡ p
    by_id true e =
        ap (λ t. cond t (with_value p (Some (value x scene))) p) h
        ∙ ap (λ y. with_value p (Some (value y scene))) (same_signal x s small.0 own e) ∙ ap (with_value p) (sym v)
    by_id false e = refl

-- the signal is among them
pub taken : (s : Signal) (at : ℕ) (p : Place) (scene : Scene) (ss : List Signal) → AllByRecursion IsSmall ss → IsSmall s → leb p.now at ≡ true
    → In s ss → Moves (id_text s) at p (flat_map (value_line scene) ss) (with_value p (Some (value s scene)))
taken s at p scene [] small own h i rest = absurd i
taken s at p scene (x ∷ ss) small own h i rest =
    ap (read_on (id_text s) at p) (append_assoc (value_line scene x) (flat_map (value_line scene) ss) rest)
    ∙ value_line_read (id_text s) at p scene x (flat_map (value_line scene) ss ++ rest) small.0
    ∙ by_id (bytes_eq (id_text x) (id_text s)) refl (λ more. taken s at p scene ss small.1 own h more rest)
  where
    by_id : (b : Bool) → bytes_eq (id_text x) (id_text s) ≡ b
        → (In s ss → read_on (id_text s) at p (flat_map (value_line scene) ss ++ rest) ≡ read_on (id_text s) at (with_value p (Some (value s scene))) rest)
        → read_on (id_text s) at (cond (b && leb p.now at) (with_value p (Some (value x scene))) p) (flat_map (value_line scene) ss ++ rest)
        ≡ read_on (id_text s) at (with_value p (Some (value s scene))) rest
    by_id true e later =
        ap (λ t. read_on (id_text s) at (cond t (with_value p (Some (value x scene))) p) (flat_map (value_line scene) ss ++ rest)) h
        ∙ ap (λ y. read_on (id_text s) at (with_value p (Some (value y scene))) (flat_map (value_line scene) ss ++ rest)) (same_signal x s small.0 own e)
        ∙ kept s at (with_value p (Some (value s scene))) scene ss small.1 own h refl rest
    by_id false e later = elim i [
      | inl same ↦ absurd (true≢false (sym (ap (λ y. bytes_eq (id_text y) (id_text s)) (sym same) ∙ own_bytes (id_text s)) ∙ e))
      | inr more ↦ later more
    ]

-- ---- stamps
pub stamp_moves : (id : List ℕ) (at : ℕ) (p : Place) (t : ℕ) → 5 * t < 2 ^ 64 → Moves id at p (stamp t) (record { now = 5 * t; value = p.value })
stamp_moves id at p t h rest =
    let d = decimal_field (5 * t) h in
    ap (read_on id at p) (append_assoc (codes "#" ++ decimal (5 * t)) (10 ∷ []) rest)
    ∙ line_read id at p (35 ∷ decimal (5 * t)) rest (refl, feedless (decimal (5 * t)) d.bytes)
    ∙ ap (λ n. read_on id at (record { now = n; value = p.value }) rest) (decimal_is (5 * t) h).value
