-- The words of a verdict, and its line.
use Rattle.std.specs.Prelude.{ℕ, List, [], ◌∷◌, ◌++◌, codes}
use Rattle.std.specs.Fmt.{decimal, signed_decimal}
use Rattle.bus_table.specs.Text.{mode_word}
use Rattle.bus_regime.specs.declared.table_verdict.TableVerdict.{TableVerdict}
use Rattle.bus_regime.specs.declared.table_verdict.TableVerdict.TheVariants.{Accept, ShortCycle, SmallGap, NoSync}

-- A refusal that names a terminal, its gap and what the gap should be.
abbrev pub gap_words : List ℕ → ℕ → List ℕ → ℕ → List ℕ
gap_words name terminal gap needed = name ++ decimal terminal ++ 32 ∷ [] ++ gap ++ 32 ∷ [] ++ decimal needed

-- What a verdict is called, and its numbers; a negative gap has a `-`.
abbrev pub verdict_words : TableVerdict → List ℕ
verdict_words (Accept mode least most) = codes "ACCEPT " ++ mode_word mode ++ 32 ∷ [] ++ decimal least ++ 32 ∷ [] ++ decimal most
verdict_words (ShortCycle least ti) = codes "REFUSE short-cycle " ++ decimal least ++ 32 ∷ [] ++ decimal ti
verdict_words (SmallGap terminal gap needed) = gap_words (codes "REFUSE small-gap ") terminal (signed_decimal gap) needed
verdict_words (NoSync terminal gap needed) = gap_words (codes "REFUSE no-sync ") terminal (decimal gap) needed

-- The line of a verdict.
abbrev pub verdict_line : TableVerdict → List ℕ
verdict_line verdict = verdict_words verdict ++ 10 ∷ []
