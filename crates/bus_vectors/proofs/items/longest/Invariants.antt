use Rattle.std.proofs.Common.{◌≡◌, map, take, length}
use Rattle.std.specs.List.{range_with_len}
use Rattle.bus_vectors.specs.Made.{made_word}
use Rattle.bus_vectors.proofs.items.longest.Given as goal

abbrev pub invariant-loop-place : goal.invariant-loop-place
invariant-loop-place l = (length l.words ≡ 40) × (take l.place l.words ≡ map (made_word l.number l.round l.i) (range_with_len 0 l.place))
