use Rattle.std.proofs.Common.{◌≡◌, ◌++◌, take}
use Rattle.std.specs.List.{flat_map}
use Rattle.bus_vote.specs.inside.Finds.{string_finds}
use Rattle.bus_vote.proofs.finds.add_strings.Given as goal

-- the finds of the wordstrings so far are added
abbrev pub invariant-loop-string : goal.invariant-loop-string
invariant-loop-string l = l.finds.items ≡ l.fn.finds.items ++ flat_map (string_finds l.wanted l.list l.at l.terminal l.round) (take l.string-index l.strings)
