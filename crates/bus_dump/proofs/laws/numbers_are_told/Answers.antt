use Rattle.bus_dump.proofs.NumberLemmas.{label_floating, label_number, message_floating, message_number}
use Rattle.bus_dump.proofs.laws.numbers_are_told.Goals as goal

pub returns-clause-labels : goal.returns-clause-labels
returns-clause-labels c dump breach table list t n single = record {
  floating = label_floating list t n;
  number = λ x bit i own e. label_number list t n x bit single i own e;
}

pub returns-clause-messages : goal.returns-clause-messages
returns-clause-messages c dump breach table list t n single = record {
  floating = message_floating list t n;
  number = λ k x at own on. message_number list t n k x single at own on;
}
