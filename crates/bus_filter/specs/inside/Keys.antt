-- By what a transmission of a list is looked up in the receive lines of a terminal.
--   key    the label of its one wordstring, or a number that no label has
--   span   between which indices the receive lines of a label stand
use Rattle.std.specs.Prelude.{◌≡◌, ◌≢◌, ℕ, ◌<◌, ◌≤◌, Bool, ◌==◌, List, [], ◌∷◌, map, get_or, Some, length, slice_get, if◌then◌else◌}
use Rattle.std.specs.List.{filter, zip}
use Rattle.bus_strings.specs.Messages.{Wordstring, Entry}
use Rattle.bus_strings.specs.Transmissions.{marks}
use Rattle.bus_table.specs.declared.line.TakeLine.{TakeLine}

-- The key of a message of several wordstrings.
abbrev pub several : ℕ
several = 4096

-- The key of a garbled transmission.
abbrev pub silent : ℕ
silent = 4097

-- How many keys there are.
abbrev pub key_count : ℕ
key_count = 4098

-- The key of a message: the label of its one wordstring, or that it has several.
abbrev pub message_key : List Wordstring → ℕ
message_key [] = several
message_key (string ∷ []) = string.label
message_key (string ∷ second ∷ others) = several

-- The key of a transmission that is marked where it is garbled.
abbrev pub key : Entry × Bool → ℕ
key marked = if marked.1 then silent else message_key marked.0.message

-- The keys of a list.
abbrev pub keys : List Entry → List ℕ
keys list = map key (zip list (marks list))

-- These are the keys of a list.
pub record AreKeys (given : List ℕ) (list : List Entry) : Type 0 where
  pub are : given ≡ keys list
  pub range : (k : ℕ) → get_or given k 0 < key_count

-- The receive lines of a label.
abbrev pub of_label : ℕ → List TakeLine → List TakeLine
of_label label takes = filter (λ line. line.label == label) takes

-- By key, the spans of the first n receive lines.
--   from      a line stands from the first index of its label on
--   within    and before the index behind the last
--   ordered   of no label is the first index behind the last, nor is there one behind the lines
--   bound
--   unused    and 0 where no line has the label
--   several   where there are several wordstrings, any line may take of them
--   silent    none takes of what is garbled
pub record AreSpans (takes : List TakeLine) (n : ℕ) (first behind : List ℕ) : Type 0 where
  pub first_length : length first ≡ key_count
  pub behind_length : length behind ≡ key_count
  pub from : (k : ℕ) (line : TakeLine) → k < n → slice_get takes k ≡ Some line → get_or first line.label 0 ≤ k
  pub within : (k : ℕ) (line : TakeLine) → k < n → slice_get takes k ≡ Some line → k < get_or behind line.label 0
  pub ordered : (label : ℕ) → label < several → get_or first label 0 ≤ get_or behind label 0
  pub bound : (label : ℕ) → label < several → get_or behind label 0 ≤ n
  pub unused : (label : ℕ) → label < several → ((k : ℕ) (line : TakeLine) → k < n → slice_get takes k ≡ Some line → line.label ≢ label)
      → get_or behind label 0 ≡ 0
  pub several_taken : 0 < get_or behind several 0
  pub silent_skipped : get_or behind silent 0 ≡ 0

-- The spans of no lines.
abbrev pub AreNoSpans : List ℕ → List ℕ → Type 0
AreNoSpans first behind = AreSpans [] 0 first behind

-- From one index up to another no line takes of what has the key.
abbrev pub NoneTaken : List ℕ → List ℕ → ℕ → ℕ → Type 0
NoneTaken behind keys from to = (k : ℕ) → from ≤ k → k < to → get_or behind (get_or keys k 0) 0 ≡ 0
