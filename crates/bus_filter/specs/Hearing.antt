-- What a receiver of one receive line makes of the words that it answers.
--   position   how many data words of the present wordstring have come, where it matches; it stops behind the line's last position
use Rattle.std.specs.Prelude.{ℕ, ◌+◌, ◌/◌, ◌%◌, min, Bool, ◌&&◌, nat_le, nat_lt, List, [], ◌∷◌, Option, Some, None, if◌then◌else◌}
use Rattle.std.specs.List.{filter_map}
use Rattle.std.specs.Option.{option_map}
use Rattle.bus_words.specs.declared.word.Kind.{Kind}
use Rattle.bus_words.specs.declared.word.Kind.TheVariants.{Label, Plain}
use Rattle.bus_words.specs.declared.word.Word.{Word}
use Rattle.bus_table.specs.declared.line.TakeLine.{TakeLine}
use Rattle.bus_filter.specs.declared.receiver.Heard.{Heard}
use Rattle.bus_filter.specs.declared.receiver.Heard.TheVariants.{Skipped, Begins, Kept}
use Rattle.bus_filter.specs.Received.{matches}

-- A receiver: its line, and its position in a wordstring that matches.
pub record Hearing : Type 0 where
  pub line : TakeLine
  pub position : Option ℕ

-- A receiver that stands in no wordstring that matches.
abbrev pub unmatched : TakeLine → Hearing
unmatched line = record { line = line; position = None }

-- Whether a position is one of the line's.
abbrev pub is_taken : TakeLine → ℕ → Bool
is_taken line position = nat_le line.first position && nat_lt position (line.first + line.count)

-- The position behind a position.
abbrev pub next_position : TakeLine → ℕ → ℕ
next_position line position = min (position + 1) (line.first + line.count)

-- A data word at a position of a wordstring that matches, or of one that doesn't.
abbrev pub data_answer : TakeLine → Option ℕ → ℕ → Heard
data_answer line None value = Skipped
data_answer line (Some position) value = if is_taken line position then Kept value else Skipped

-- What a word gives: a label word begins a wordstring that matches, and a data word is kept where the wordstring matches and its
-- position is one of the line's.
abbrev pub answer_by : Hearing → Kind → ℕ → Heard
answer_by h Label value = if matches h.line (value / 16) (value % 16) then Begins (value / 16) (value % 16) else Skipped
answer_by h Plain value = data_answer h.line h.position value

-- The position behind a word: a label word begins the count of positions, or ends the match.
abbrev pub position_by : Hearing → Kind → ℕ → Option ℕ
position_by h Label value = if matches h.line (value / 16) (value % 16) then Some 0 else None
position_by h Plain value = option_map (next_position h.line) h.position

-- What a word gives.
abbrev pub answer : Hearing → Word → Heard
answer h word = answer_by h word.kind word.value

-- The receiver behind a word.
abbrev pub after : Hearing → Word → Hearing
after h word = record { line = h.line; position = position_by h word.kind word.value }

-- What words give, one after another.
abbrev pub answers : Hearing → List Word → List Heard
answers h [] = []
answers h (word ∷ words) = answer h word ∷ answers (after h word) words

-- The word that was kept.
abbrev pub kept_of : Heard → Option ℕ
kept_of Skipped = None
kept_of (Begins label ext) = None
kept_of (Kept value) = Some value

-- The words that were kept, in order.
abbrev pub kept : List Heard → List ℕ
kept given = filter_map kept_of given
