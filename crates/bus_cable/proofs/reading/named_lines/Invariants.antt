use Rattle.std.proofs.Common.{◌≡◌, length}
use Rattle.bus_text.proofs.AllOfLaws.{with_front}
use Rattle.bus_cable.specs.Reading.{front_of, behind, named_lines}
use Rattle.bus_cable.specs.inside.Ahead.{ahead}
use Rattle.bus_cable.proofs.reading.named_lines.Given as goal

-- what is read so far, and what the lines ahead read as, are what all read as
abbrev pub invariant-loop-next : goal.invariant-loop-next
invariant-loop-next l = record {
  read : with_front l.named.items (named_lines l.most l.last (front_of l.word (ahead l.next l.lines))) ≡ named_lines l.most 0 (front_of l.word (ahead l.fn.first l.fn.lines));
  left : behind l.word (ahead l.next l.lines) ≡ behind l.word (ahead l.fn.first l.fn.lines);
}

abbrev pub decreases-loop-next : goal.decreases-loop-next
decreases-loop-next l = length (ahead l.next l.lines)
