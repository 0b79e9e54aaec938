-- The wordstrings of a message that fits a sender, and its SEND lines.
use Rattle.std.proofs.Common.{arith, ◌≡◌, ℕ, ◌+◌, ◌≤◌, min, true, false, ◌==◌, List, [], ◌∷◌, length, drop, ap, ◌∙◌, subst, inl, inr, ◌⊎◌}
use Rattle.std.specs.Prelude.{nat_le}
use Rattle.std.specs.List.{Contains}
use Rattle.std.proofs.lemmas.Bool.{and_parts}
use Rattle.std.proofs.lemmas.Bool.Decides.{nat_tests}
use Rattle.std.proofs.lemmas.List.{length-take, length-drop}
use Rattle.bus_strings.specs.Messages.{Wordstring, Message}
use Rattle.bus_table.specs.declared.line.SendLine.{SendLine}
use Rattle.bus_table.specs.declared.line.TakeLine.{TakeLine}
use Rattle.bus_table.specs.Fits.{allows, matches}
use Rattle.bus_filter.specs.Received.{selection}
use Rattle.bus_feeds.specs.Feeds.{taken_of, always, never}
use Rattle.bus_feeds.specs.FeedLaws.{SharesAreMet}
use Rattle.bus_feeds.proofs.Members.{here, behind, cases, nobody}

-- a wordstring is of a SEND line
pub record IsOf (send : SendLine) (string : Wordstring) : Type 0 where
  pub label : string.label ≡ send.label
  pub ext : string.ext ≡ send.ext
  pub least : send.least ≤ length string.words
  pub most : length string.words ≤ send.most

first_of : (send : SendLine) (sends : List SendLine) (string : Wordstring) (message : Message) → matches allows (send ∷ sends) (string ∷ message) ≡ true → IsOf send string × (matches allows sends message ≡ true)
first_of send sends string message h =
    let a = and_parts (string.label == send.label) _ h in
    let b = and_parts (string.ext == send.ext) _ a.1 in
    let c = and_parts (allows send (length string.words)) _ b.1 in
    let d = and_parts (nat_le send.least (length string.words)) _ c.0 in
    (record { label = grind (arith, nat_tests, a.0); ext = grind (arith, nat_tests, b.0); least = grind (arith, nat_tests, d.0); most = grind (arith, nat_tests, d.1) }, c.1)

-- each wordstring has its SEND line
pub record LineOf (sends : List SendLine) (string : Wordstring) : Type 0 where
  pub send : SendLine
  pub stands : Contains sends send
  pub is : IsOf send string

line_step : (l : SendLine) (sends : List SendLine) (s : Wordstring) (message : Message) (string : Wordstring) → IsOf l s → (Contains message string → LineOf sends string) → (s ≡ string) ⊎ Contains message string → LineOf (l ∷ sends) string
line_step l sends s message string f next (inl e) = record { send = l; stands = here l sends; is = subst (IsOf l) e f }
line_step l sends s message string f next (inr v) = let u = next v in record { send = u.send; stands = behind l sends u.send u.stands; is = u.is }

pub line_of : (sends : List SendLine) (message : Message) (string : Wordstring) → matches allows sends message ≡ true → Contains message string → LineOf sends string
line_of sends [] string h w = absurd (nobody string w)
line_of [] (s ∷ message) string h w = absurd (let wrong : false ≡ true = h in cc)
line_of (l ∷ sends) (s ∷ message) string h w =
    let f = first_of l sends s message h in line_step l sends s message string f.0 (line_of sends message string f.1) (cases s message string w)

-- each SEND line has its wordstring
pub record StringOf (message : Message) (send : SendLine) : Type 0 where
  pub string : Wordstring
  pub stands : Contains message string
  pub is : IsOf send string

string_step : (l : SendLine) (sends : List SendLine) (s : Wordstring) (message : Message) (send : SendLine) → IsOf l s → (Contains sends send → StringOf message send) → (l ≡ send) ⊎ Contains sends send → StringOf (s ∷ message) send
string_step l sends s message send f next (inl e) = record { string = s; stands = here s message; is = subst (λ x. IsOf x s) e f }
string_step l sends s message send f next (inr v) = let u = next v in record { string = u.string; stands = behind s message u.string u.stands; is = u.is }

pub string_of : (sends : List SendLine) (message : Message) (send : SendLine) → matches allows sends message ≡ true → Contains sends send → StringOf message send
string_of [] message send h w = absurd (nobody send w)
string_of (l ∷ sends) [] send h w = absurd (let wrong : false ≡ true = h in cc)
string_of (l ∷ sends) (s ∷ message) send h w =
    let f = first_of l sends s message h in string_step l sends s message send f.0 (string_of sends message send f.1) (cases l sends send w)

-- how many words a TAKE line takes
selection_length : (line : TakeLine) (words : List ℕ) → length (selection line words) ≡ taken_of line (length words)
selection_length line words = length-take line.count (drop line.first words) ∙ ap (min line.count) (length-drop line.first words)

pub at_least : (send : SendLine) (line : TakeLine) (string : Wordstring) → IsOf send string → always send line ≤ length (selection line string.words)
at_least send line string f = let n = f.least in let e = selection_length line string.words in omega arith

pub at_most : (send : SendLine) (line : TakeLine) (string : Wordstring) → IsOf send string → length (selection line string.words) + never send line ≤ line.count
at_most send line string f = let n = f.most in let e = selection_length line string.words in omega arith

pub shares_are_met : SharesAreMet
shares_are_met send line words h = record {
  least = λ e. selection_length line words ∙ ap (taken_of line) e;
  most = λ e. let f = selection_length line words ∙ ap (taken_of line) e in omega arith;
}
