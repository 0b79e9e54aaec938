-- The fields of a line, from its front.
use Rattle.std.proofs.Common.{arith, zero, suc, ◌≡◌, ℕ, ◌-◌, ◌<◌, ◌≤◌, true, false, not, ◌&&◌, cond, ◌==◌, List, [], ◌∷◌, length, get_or, take, drop, refl, sym, ap, ◌∙◌}
use Rattle.std.specs.List.{slice_split, onto_first, filter}
use Rattle.std.proofs.lemmas.Bool.{ne_eqb, and_parts}
use Rattle.std.proofs.lemmas.Bool.Decides.{nat_tests}
use Rattle.std.proofs.lemmas.List.{take_all}
use Rattle.std.specs.Char.{is_ascii_hexdigit}
use Rattle.std.proofs.lemmas.Slice.Eq.{bytes_eq-Decides}
use Rattle.std.specs.Str.{bytes_eq}
use Rattle.bus_text.specs.Numbers.{IsHexadecimal}
use Rattle.bus_text.specs.Lines.{is_blank, fields_of}

cut_at : (line : List ℕ) (at : ℕ) → at < length line → ((k : ℕ) → k < at → is_blank (get_or line k 0) ≡ false) → is_blank (get_or line at 0) ≡ true → slice_split is_blank line ≡ take at line ∷ slice_split is_blank (drop (suc at) line)
cut_at [] at h before found = absurd (omega arith)
cut_at (b ∷ bs) zero h before found = ap (λ t. cond t ([] ∷ slice_split is_blank bs) (onto_first b (slice_split is_blank bs))) found
cut_at (b ∷ bs) (suc at) h before found =
    ap (λ t. cond t ([] ∷ slice_split is_blank bs) (onto_first b (slice_split is_blank bs))) (before 0 (omega arith))
    ∙ ap (onto_first b) (cut_at bs at (omega arith) (λ k i. before (suc k) (omega arith)) found)

uncut : (line : List ℕ) → ((k : ℕ) → k < length line → is_blank (get_or line k 0) ≡ false) → slice_split is_blank line ≡ line ∷ []
uncut [] none = refl
uncut (b ∷ bs) none =
    ap (λ t. cond t ([] ∷ slice_split is_blank bs) (onto_first b (slice_split is_blank bs))) (none 0 (omega arith))
    ∙ ap (onto_first b) (uncut bs (λ k i. none (suc k) (omega arith)))

kept : (run : List ℕ) (runs : List (List ℕ)) → 0 < length run → filter (λ r. not (length r == 0)) (run ∷ runs) ≡ run ∷ filter (λ r. not (length r == 0)) runs
kept run runs some = ap (λ t. cond (not t) (run ∷ filter (λ r. not (length r == 0)) runs) (filter (λ r. not (length r == 0)) runs)) (ne_eqb (length run) 0 (λ e. absurd (omega (arith, some, e))))

-- a field that ends at a blank
pub field_at : (line : List ℕ) (at : ℕ) → at < length line → is_blank (get_or line 0 0) ≡ false → ((k : ℕ) → k < at → is_blank (get_or line k 0) ≡ false) → is_blank (get_or line at 0) ≡ true → fields_of line ≡ take at line ∷ fields_of (drop (suc at) line)
field_at line zero h begun before found = let wrong : true ≡ false = sym found ∙ begun in absurd cc
field_at line (suc at) h begun before found =
    ap (filter (λ r. not (length r == 0))) (cut_at line (suc at) h before found)
    ∙ kept (take (suc at) line) (slice_split is_blank (drop (suc (suc at)) line)) (some line h) where
      some : (bs : List ℕ) → suc at < length bs → 0 < length (take (suc at) bs)
      some [] h = absurd (omega arith)
      some (b ∷ bs) h = omega arith

-- a field that ends with the line
pub one_field : (line : List ℕ) → 0 < length line → ((k : ℕ) → k < length line → is_blank (get_or line k 0) ≡ false) → fields_of line ≡ line ∷ fields_of []
one_field line some none = ap (filter (λ r. not (length r == 0))) (uncut line none) ∙ kept line [] some

-- blanks in front
pub behind_blanks : (line : List ℕ) (at : ℕ) → at ≤ length line → ((k : ℕ) → k < at → is_blank (get_or line k 0) ≡ true) → fields_of line ≡ fields_of (drop at line)
behind_blanks line zero h blank = refl
behind_blanks [] (suc at) h blank = absurd (omega arith)
behind_blanks (b ∷ bs) (suc at) h blank =
    ap (λ t. filter (λ r. not (length r == 0)) (cond t ([] ∷ slice_split is_blank bs) (onto_first b (slice_split is_blank bs)))) (blank 0 (omega arith))
    ∙ behind_blanks bs at (omega arith) (λ k i. blank (suc k) (omega arith))

digit_no_blank : (b : ℕ) → is_ascii_hexdigit b ≡ true → is_blank b ≡ false
digit_no_blank b h = grind (arith, nat_tests)

-- a field of four digits that a space ends
pub four_front : (line : List ℕ) (n : ℕ) → 5 ≤ length line → get_or line 4 0 ≡ 32 → IsHexadecimal 4 (get_or line 0 0 ∷ get_or line 1 0 ∷ get_or line 2 0 ∷ get_or line 3 0 ∷ []) n
    → (field : List ℕ) × (fields_of line ≡ field ∷ fields_of (take (length line - 5) (drop 5 line))) × IsHexadecimal 4 field n
four_front [] n h blank hex = absurd (omega arith)
four_front (a ∷ []) n h blank hex = absurd (omega arith)
four_front (a ∷ b ∷ []) n h blank hex = absurd (omega arith)
four_front (a ∷ b ∷ c ∷ []) n h blank hex = absurd (omega arith)
four_front (a ∷ b ∷ c ∷ d ∷ []) n h blank hex = absurd (omega arith)
four_front (a ∷ b ∷ c ∷ d ∷ e ∷ rest) n h blank hex =
    let p = and_parts (is_ascii_hexdigit a) (is_ascii_hexdigit b && (is_ascii_hexdigit c && (is_ascii_hexdigit d && true))) hex.digits in
    let q = and_parts (is_ascii_hexdigit b) (is_ascii_hexdigit c && (is_ascii_hexdigit d && true)) p.1 in
    let r = and_parts (is_ascii_hexdigit c) (is_ascii_hexdigit d && true) q.1 in
    let s = and_parts (is_ascii_hexdigit d) true r.1 in
    let before : (k : ℕ) → k < 4 → is_blank (get_or (a ∷ b ∷ c ∷ d ∷ e ∷ rest) k 0) ≡ false = λ k i. by k i p.0 q.0 r.0 s.0 in
    let behind : take (length (a ∷ b ∷ c ∷ d ∷ e ∷ rest) - 5) rest ≡ rest = take_all _ _ (omega arith) in (
      a ∷ b ∷ c ∷ d ∷ [],
      field_at (a ∷ b ∷ c ∷ d ∷ e ∷ rest) 4 (omega arith) (digit_no_blank a p.0) before (ap is_blank blank)
          ∙ ap (λ r. (a ∷ b ∷ c ∷ d ∷ []) ∷ fields_of r) (sym behind),
      hex,
    ) where
      by : (k : ℕ) → k < 4 → is_ascii_hexdigit a ≡ true → is_ascii_hexdigit b ≡ true → is_ascii_hexdigit c ≡ true → is_ascii_hexdigit d ≡ true → is_blank (get_or (a ∷ b ∷ c ∷ d ∷ e ∷ rest) k 0) ≡ false
      by zero i ha hb hc hd = digit_no_blank a ha
      by (suc zero) i ha hb hc hd = digit_no_blank b hb
      by (suc (suc zero)) i ha hb hc hd = digit_no_blank c hc
      by (suc (suc (suc zero))) i ha hb hc hd = digit_no_blank d hd
      by (suc (suc (suc (suc k)))) i ha hb hc hd = absurd (omega arith)

-- a field that a test takes for a word is that word
pub same_bytes : (field word : List ℕ) → bytes_eq field word ≡ true → field ≡ word
same_bytes field word h = (bytes_eq-Decides field word).0 h
