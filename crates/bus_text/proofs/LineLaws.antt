-- Laws of lines.
use Rattle.std.proofs.Common.{arith, ℕ, ◌≤◌, Bool, true, false, cond, List, [], ◌∷◌, length, ◌+◌}
use Rattle.std.specs.List.{onto_first}
use Rattle.bus_text.specs.Lines.{is_feed, is_skipped, fields_of, physical_lines, entries_from, entries_of}

one_more : (t : Bool) (b : ℕ) (lines : List (List ℕ)) (n : ℕ) → length lines ≤ n → length (cond t ([] ∷ lines) (onto_first b lines)) ≤ n + 1
one_more true b lines n h = omega (arith, h)
one_more false b [] n h = omega (arith, h)
one_more false b (line ∷ lines) n h = omega (arith, h)

-- a text has no more lines than bytes
pub length-physical_lines-le : (text : List ℕ) → length (physical_lines text) ≤ length text
length-physical_lines-le [] = omega arith
length-physical_lines-le (b ∷ bs) = omega (arith, one_more (is_feed b) b (physical_lines bs) (length bs) (length-physical_lines-le bs))

kept : (n : ℕ) (lines : List (List ℕ)) → length (entries_from n lines) ≤ length lines
kept n [] = omega arith
kept n (line ∷ lines) = by_test (is_skipped line) (kept (n + 1) lines) where
  by_test : (t : Bool) → length (entries_from (n + 1) lines) ≤ length lines
      → length (cond t (entries_from (n + 1) lines) (record { number = n; fields = fields_of line } ∷ entries_from (n + 1) lines)) ≤ length
      (line ∷ lines)
  by_test true h = omega (arith, h)
  by_test false h = omega (arith, h)

-- and no more of them that aren't skipped
pub length-entries_of-le : (text : List ℕ) → length (entries_of text) ≤ length text
length-entries_of-le text = omega (arith, kept 1 (physical_lines text), length-physical_lines-le text)
