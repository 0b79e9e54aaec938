-- Sentences that tell numbers. Each is one text with holes: `#` and a digit stand for a number, `$` and a digit for the `s` of several,
-- `@` and a digit for a time, `~` and a digit for about such a time, `^` and a digit for a label, and `_` and a digit for an extension. The
-- digit says which number that is, counted from 0.
use Rattle.std.specs.Prelude.{ℕ, ◌-◌, ◌==◌, List, [], ◌∷◌, ◌++◌, codes, decimal, slice_index_or, if◌then◌else◌}
use Rattle.bus_say.specs.Labels.{extension_text, label_text}
use Rattle.bus_say.specs.Times.{about_text, time_text}
use Rattle.bus_say.specs.declared.sentence.Hole.{Hole}
use Rattle.bus_say.specs.declared.sentence.Hole.TheVariants.{Closed, Number, Plural, Time, About, Label, Extension}

-- What a byte opens that opens nothing of numbers and times: `^` or `_`.
abbrev pub label_by : ℕ → Hole
label_by byte = if byte == 94 then Label else if byte == 95 then Extension else Closed

-- What a byte opens: `#`, `$`, `@` or `~`, `^` or `_`.
abbrev pub opened_by : ℕ → Hole
opened_by byte =
    if byte == 35 then Number else if byte == 36 then Plural else if byte == 64 then Time else if byte == 126 then About
    else label_by byte

-- What is open behind a byte.
abbrev pub behind : Hole → ℕ → Hole
behind Closed byte = opened_by byte
behind Number byte = Closed
behind Plural byte = Closed
behind Time byte = Closed
behind About byte = Closed
behind Label byte = Closed
behind Extension byte = Closed

-- The number that a digit names, of which `0` is 48.
abbrev pub named_by : List ℕ → ℕ → ℕ
named_by numbers digit = slice_index_or numbers (digit - 48) 0

-- A byte, unless it opened this.
abbrev pub unopened : Hole → ℕ → List ℕ
unopened Closed byte = byte ∷ []
unopened Number byte = []
unopened Plural byte = []
unopened Time byte = []
unopened About byte = []
unopened Label byte = []
unopened Extension byte = []

abbrev pub letter_text : ℕ → List ℕ
letter_text byte = unopened (opened_by byte) byte

-- The end of a word for so many things.
abbrev pub plural_text : ℕ → List ℕ
plural_text number = if number == 1 then [] else codes "s"

-- What a byte tells where this is open.
abbrev pub told_text : List ℕ → Hole → ℕ → List ℕ
told_text numbers Closed byte = letter_text byte
told_text numbers Number digit = decimal (named_by numbers digit)
told_text numbers Plural digit = plural_text (named_by numbers digit)
told_text numbers Time digit = time_text (named_by numbers digit)
told_text numbers About digit = about_text (named_by numbers digit)
told_text numbers Label digit = label_text (named_by numbers digit)
told_text numbers Extension digit = extension_text (named_by numbers digit)

-- What bytes tell, the first of them where this is open.
abbrev pub said_from : List ℕ → Hole → List ℕ → List ℕ
said_from numbers hole [] = []
said_from numbers hole (byte ∷ rest) = told_text numbers hole byte ++ said_from numbers (behind hole byte) rest

-- A sentence that tells these numbers.
abbrev pub said : List ℕ → List ℕ → List ℕ
said sentence numbers = said_from numbers Closed sentence
