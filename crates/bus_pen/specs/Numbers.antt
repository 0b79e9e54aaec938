-- Numbers as people read them: with their thousands parted, of things, in microseconds, and as a share.
use Rattle.std.specs.Prelude.{ℕ, ◌/◌, ◌%◌, Bool, ◌&&◌, ◌==◌, nat_eq, nat_lt, List, [], ◌∷◌, ◌++◌, length, codes}
use Rattle.std.specs.Prelude.{decimal, if◌then◌else◌}
use Rattle.bus_strings.specs.Microseconds.{half_text}
use Rattle.bus_strings.specs.Shares.{share_text, tenths}

-- The bytes of a thin space.
abbrev pub thin_space : List ℕ
thin_space = 226 ∷ (128 ∷ (137 ∷ []))

-- Whether thousands end before these digits: they are some, and a multiple of three.
abbrev pub are_thousands : List ℕ → Bool
are_thousands digits = nat_lt 0 (length digits) && length digits % 3 == 0

-- Digits, with a thin space wherever thousands end.
abbrev pub parted : List ℕ → List ℕ
parted [] = []
parted (digit ∷ digits) = if are_thousands digits then digit ∷ (thin_space ++ parted digits) else digit ∷ parted digits

-- The ending of the name of so many.
abbrev pub ending : ℕ → List ℕ
ending count = if nat_eq count 1 then [] else codes "s"

-- So many of something, which has this name where it is one, with the thousands together.
abbrev pub plainly_counted : ℕ → List ℕ → List ℕ
plainly_counted count name = decimal count ++ codes " " ++ name ++ ending count

-- The same with the thousands parted.
abbrev pub counted : ℕ → List ℕ → List ℕ
counted count name = parted (decimal count) ++ codes " " ++ name ++ ending count

-- So many bit times in microseconds: a bit time is half of one.
abbrev pub parted_microseconds : ℕ → List ℕ
parted_microseconds t = parted (decimal (t / 2)) ++ half_text t

-- A share that is some, though it rounds to none.
abbrev pub is_slight : ℕ → ℕ → Bool
is_slight part whole = nat_lt 0 part && tenths part whole == 0

-- A share of a whole in words: `12.5 %`, and of some that rounds to none `< 0.1 %`, as XML writes it.
abbrev pub load_words : ℕ → ℕ → List ℕ
load_words part whole = if is_slight part whole then codes "&lt; 0.1 %" else share_text (tenths part whole)
