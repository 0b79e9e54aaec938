-- Pieces of a line.
use Rattle.std.specs.Prelude.{ℕ, Bool, List, [], ◌∷◌, ◌++◌, if◌then◌else◌}

-- Bytes, and a line feed behind them where there is one.
abbrev pub with_feed : List ℕ → Bool → List ℕ
with_feed bytes ended = if ended then bytes ++ 10 ∷ [] else bytes
