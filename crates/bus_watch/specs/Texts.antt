-- The lines of what is found in a stream. Moments are nanoseconds of the stream, amounts bit times.
use Rattle.std.specs.Prelude.{ℕ, ◌+◌, ◌-◌, ◌*◌, nat_lt, List, [], ◌∷◌, ◌++◌, codes, decimal, Option}
use Rattle.std.specs.Option.{option_map_or}
use Rattle.bus_bounds.specs.Bounds.{Bounds}
use Rattle.bus_findings.specs.declared.judgement.Due.{Due}
use Rattle.bus_findings.specs.declared.judgement.Judgement.{Judgement}
use Rattle.bus_findings.specs.Terminals.{is_faulty}
use Rattle.bus_findings.specs.Texts.{fault_words, timer_word, where_so, within_words}
use Rattle.bus_watch.specs.declared.at.At.{At}
use Rattle.bus_watch.specs.declared.at.Looked.{Looked}

-- The first two lines.
abbrev pub head_lines : Bounds → List ℕ
head_lines bounds = codes "WATCH 1\n" ++ within_words bounds ++ 10 ∷ []

-- A keyword, and where a finding is.
abbrev pub place_words : List ℕ → At → List ℕ
place_words keyword at = keyword ++ decimal at.time ++ 32 ∷ [] ++ decimal at.line ++ 32 ∷ [] ++ decimal at.terminal

-- The faults of a transmission.
abbrev pub fault_line : At → Judgement → List ℕ
fault_line at found = place_words (codes "FAULT ") at ++ fault_words found ++ 10 ∷ []

-- It begins while an earlier one lasts, for so many bit times.
abbrev pub overlap_line : At → ℕ → List ℕ
overlap_line at amount = place_words (codes "NOTE ") at ++ codes " Overlap " ++ decimal amount ++ 10 ∷ []

-- What is found at a transmission.
unfoldable pub found_lines : At → Judgement → List ℕ
found_lines at found = where_so (is_faulty found) (fault_line at found) ++ where_so (nat_lt 0 found.overlap) (overlap_line at found.overlap)

-- A sender was due, and has been silent for so many bit times since.
abbrev pub silent_words : At → Due → ℕ → List ℕ
silent_words at due amount =
    place_words (codes "NOTE ") at ++ codes " Silent " ++ timer_word due.timer ++ 32 ∷ [] ++ decimal amount ++ 10 ∷ []

-- The same of one that was due at a moment of a window, and hadn't started until a look.
abbrev pub silent_line : Looked → ℕ → Due → List ℕ
silent_line looked terminal due =
    silent_words (record { time = 500 * (looked.base + due.moment); line = looked.line; terminal = terminal }) due
    (looked.bit - (looked.base + due.moment))

abbrev pub silence_lines : Looked → ℕ → Option Due → List ℕ
silence_lines looked terminal due = option_map_or (silent_line looked terminal) due []

-- So many transmissions came since the last start of a sender.
abbrev pub unheard_line : At → ℕ → List ℕ
unheard_line at count = place_words (codes "NOTE ") at ++ codes " Unheard " ++ decimal count ++ 10 ∷ []

-- A part ends: from one moment up to another, with so many transmissions, so many of them with a fault.
abbrev pub part_line : ℕ → ℕ → ℕ → ℕ → List ℕ
part_line start end sent faults =
    codes "PART " ++ decimal start ++ 32 ∷ [] ++ decimal end ++ 32 ∷ [] ++ decimal sent ++ 32 ∷ [] ++ decimal faults ++ 10 ∷ []
