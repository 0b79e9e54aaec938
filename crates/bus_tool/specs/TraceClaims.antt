-- What is claimed of `audit` and `vote`.
use Rattle.std.specs.Prelude.{◌≡◌, ◌↔◌, ℕ, Bool, true, false, List}
use Rattle.bus_strings.specs.Messages.{Entry}
use Rattle.bus_table.specs.Tables.{Table}
use Rattle.bus_trace.specs.Traces.{Recording}
use Rattle.bus_audit.specs.declared.answer.AuditAnswer.{AuditAnswer}
use Rattle.bus_audit.specs.declared.answer.AuditAnswer.TheVariants.{Lawful, Breach}
use Rattle.bus_audit.specs.Breaches.{IsAnswer}
use Rattle.bus_audit.specs.Meaning.{IsRight}
use Rattle.bus_vote.specs.VoteLaws.{IsWrittenWhereVoted, IsFixedByTwo, IsVotedInRuns}

-- What an audit finds:
--   first   the first breach, or none, and the number of garbled transmissions
--   right   it is that the trace is lawful exactly where each transmission is of a sender and fits it, and the list is the lawful list for
--           the trace's holds and its horizon
pub record IsFinding (table : Table) (trace : Recording) (answer : AuditAnswer) : Type 0 where
  pub first : IsAnswer table trace answer
  pub right : ((collided : ℕ) × (answer ≡ Lawful collided)) ↔ IsRight table trace

-- Whether the answer of an audit is that the trace is lawful.
abbrev pub is_lawful : AuditAnswer → Bool
is_lawful (Lawful collided) = true
is_lawful (Breach moment terminal kind) = false

-- What holds of the votes of a list:
--   written   each round in which two channels have words is among them
--   fixed     two channels that have the same words fix its vote
--   voted     where the list is the closed schedule of even hands of an accepted table, every round below the number of messages is voted,
--             from the words of the three hands
pub record TellsVotes (table : Table) (list : List Entry) : Type 0 where
  pub written : IsWrittenWhereVoted list
  pub fixed : IsFixedByTwo list
  pub voted : IsVotedInRuns table list
