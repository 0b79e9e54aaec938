-- What a field of a canonical line is, and what such lines read as. No public clause cites it.
use Rattle.std.specs.Prelude.{◌≡◌, ◌≢◌, ℕ, ◌+◌, ◌<◌, false, List, [], ◌∷◌, length, slice_index}
use Rattle.std.specs.List.{AllByRecursion}
use Rattle.bus_text.specs.Lines.{is_blank, is_feed, Entry}

-- A byte that a field may have.
pub record IsFieldByte (b : ℕ) : Type 0 where
  pub no_blank : is_blank b ≡ false
  pub no_feed : is_feed b ≡ false

-- At least one byte, and only bytes that a field may have.
pub record IsField (field : List ℕ) : Type 0 where
  pub some : 0 < length field
  pub bytes : AllByRecursion IsFieldByte field

-- At least one field, the first of which doesn't begin with `#`: the line isn't skipped.
abbrev pub AreFields : List (List ℕ) → Type 0
AreFields [] = ⊥
AreFields (first ∷ others) = (slice_index first 0 ≢ 35) × AllByRecursion IsField (first ∷ others)

-- These lines, the first having this number and each further one the next.
abbrev pub numbered : ℕ → List (List (List ℕ)) → List Entry
numbered n [] = []
numbered n (fields ∷ lines) = record { number = n; fields = fields } ∷ numbered (n + 1) lines
