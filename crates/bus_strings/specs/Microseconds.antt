-- Times in microseconds, of which a bit time is a half: a bus of ARINC 629 carries two million bits a second.
use Rattle.std.specs.Prelude.{ℕ, ◌/◌, ◌%◌, ◌==◌, List, [], ◌∷◌, ◌++◌, codes, if◌then◌else◌}
use Rattle.std.specs.Fmt.{decimal}

-- What an odd number of bit times is beyond whole microseconds.
abbrev pub half_text : ℕ → List ℕ
half_text t = if t % 2 == 1 then codes ".5" else []

-- So many bit times in microseconds: `515`, or `62.5`.
abbrev pub microseconds : ℕ → List ℕ
microseconds t = decimal (t / 2) ++ half_text t

-- Their unit: a space, the two bytes of the letter mu, and `s`.
abbrev pub microseconds_unit : List ℕ
microseconds_unit = 32 ∷ 194 ∷ 181 ∷ 115 ∷ []
