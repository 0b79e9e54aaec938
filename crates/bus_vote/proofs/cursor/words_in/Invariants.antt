use Rattle.std.proofs.Common.{◌≡◌, None, take}
use Rattle.std.specs.List.{find}
use Rattle.bus_vote.specs.Rounds.{is_named}
use Rattle.bus_vote.proofs.cursor.words_in.Given as goal

-- none of the wordstrings so far is it
abbrev pub invariant-loop-string : goal.invariant-loop-string
invariant-loop-string l = find (is_named l.label l.ext) (take l.string-index l.strings) ≡ None
