use Rattle.std.proofs.Common.{◌≡◌, ℕ, ◌<◌, get_or, true}
use Rattle.bus_words.specs.inside.Forms.{test_at}
use Rattle.bus_words.proofs.text.kept.Given as goal

abbrev pub invariant-loop-place : goal.invariant-loop-place
invariant-loop-place l = (k : ℕ) → k < l.place → test_at k (get_or l.text k 0) ≡ true
