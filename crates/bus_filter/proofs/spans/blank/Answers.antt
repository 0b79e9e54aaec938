use Rattle.std.proofs.Common.{ℕ}
use Rattle.std.proofs.lemmas.List.{get_or-replicate, length-replicate}
use Rattle.bus_filter.proofs.spans.blank.Goals as goal

pub returns-clause-first_length : goal.returns-clause-first_length
returns-clause-first_length c = length-replicate {A = ℕ} 4098 0

pub returns-clause-behind_length : goal.returns-clause-behind_length
returns-clause-behind_length c = length-replicate {A = ℕ} 4098 0

pub returns-clause-first : goal.returns-clause-first
returns-clause-first c = λ k low. get_or-replicate 4098 k 0 0 low

pub returns-clause-behind : goal.returns-clause-behind
returns-clause-behind c = λ k low. get_or-replicate 4098 k 0 0 low
