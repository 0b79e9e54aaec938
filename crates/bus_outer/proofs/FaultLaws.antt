-- Laws of counts of faults, by which the clauses of several calls compose.
--
--   rose_later    it rose in the later of two calls, so in both together
--   rose_before   it rose in the earlier of two calls, so in both together
use Rattle.std.specs.Prelude.{ℕ, ◌≤◌}
use Rattle.std.proofs.Common.{inl, inr, arith}
use Rattle.std.proofs.lemmas.Bool.{cases_lt}
use Rattle.bus_outer.specs.Faults.{Rose}

-- No fall before a rise leaves a rise.
pub rose_later : (before mid now : ℕ) → before ≤ mid → Rose mid now → Rose before now
rose_later before mid now le r = elim r [ inl more ↦ inl (omega arith) | inr last ↦ inr last ]

-- No fall before a rise, nor after it, leaves a rise.
pub rose_before : (before mid now : ℕ) → before ≤ mid → Rose before mid → mid ≤ now → Rose before now
rose_before before mid now le r on = elim r [
  | inl more ↦ inl (omega arith)
  | inr last ↦ elim (cases_lt before now) [ inl more ↦ inl more | inr same ↦ inr (omega arith) ]
]
