-- The form of a frame by its places. No public clause cites it.
use Rattle.std.specs.Prelude.{ℕ, Bool, false, slice_index_or}
use Rattle.bus_words.specs.WordTexts.{form}

-- Whether a byte may stand at a place of the form, counted from 0.
abbrev pub test_at : ℕ → ℕ → Bool
test_at place = slice_index_or form place (λ _. false)
