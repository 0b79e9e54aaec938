-- How far the sources were read, and their counts, by where a command stopped.
use Rattle.std.specs.Prelude.{◌≡◌, ℕ, ◌⊎◌, ◌≤◌, ◌+◌, nat_lt, false, List, [], ◌++◌, Option, Some, None, IsSome}
use Rattle.std.proofs.Common.{arith, refl, sym, ap, ◌∙◌, subst, cond, inl, inr, length-append}
use Rattle.std.proofs.lemmas.Bool.Decides.{nat_tests}
use Rattle.bus_outer.specs.Sources.{Taken, TakesSome}
use Rattle.bus_outer.proofs.WriteLaws.{taken_on}
use Rattle.bus_trace.specs.Limits.{trace_limit}
use Rattle.bus_trace.specs.Traces.{text_in}
use Rattle.bus_command.specs.Kinds.{Kind, NoForm, NotRead, TooMuch, Wrong, Late, NotWritten, NoRoom, Answer}
use Rattle.bus_command.specs.Outside.{Seen, Sources, both, Stays, BothStay}
use Rattle.bus_command.specs.Heard.{heard_limit}
use Rattle.bus_command.specs.Readers.{Reader, Entire, Trace, Heard, TakesHeard, Named, Reach, Untouched, Broken, Within, Past, Judged, ReadsBy, Reads, reach_at}
use Rattle.bus_command.specs.Readers.{reach, First, Second, SourceCounts, OutCounts}
use Rattle.bus_command.specs.Steps.{stopped_at, StopsAt, StepCounts, IsEarly}
use Rattle.bus_command.specs.Acts.{IsBehind}
use Rattle.bus_command.proofs.CountLemmas.{looked_most}
use Rattle.bus_command.proofs.StageLaws.{IsLowRead}

-- at its own stage
here : (number stage : ℕ) (r : Reach) → stage ≡ number → reach_at number stage r ≡ r
here number stage r h =
    let less : nat_lt stage number ≡ false = grind (arith, nat_tests) in
    let more : nat_lt number stage ≡ false = grind (arith, nat_tests) in
    ap (λ b. cond b Untouched (cond (nat_lt number stage) Judged r)) less ∙ ap (λ b. cond b Judged r) more

own_reach : (number : ℕ) (k : Kind) → StopsAt number k → reach number k ≡ stopped_at k
own_reach number NoForm h = absurd h
own_reach number (NotRead source) h = here number source Broken h
own_reach number (TooMuch source) h = here number source Past h
own_reach number (Wrong source) h = here number source Judged h
own_reach number Late h = absurd h
own_reach number NotWritten h = absurd h
own_reach number NoRoom h = refl
own_reach number Answer h = absurd h

-- a source that wasn't pulled
pub untouched : (reader : Reader) (seen : Seen) → ReadsBy reader Untouched seen seen
untouched (Entire limit) seen = refl
untouched Trace seen = refl
untouched Heard seen = refl

-- nothing of it was taken
took_nothing : (bytes : Option (List ℕ)) → Taken bytes bytes []
took_nothing None = refl
took_nothing (Some text) = refl

pub nothing_within : (reader : Reader) (seen : Seen) → ReadsBy reader Within seen seen
nothing_within (Entire limit) seen = ([], took_nothing seen.bytes, omega arith)
nothing_within Trace seen = ([], took_nothing seen.bytes, omega arith)
nothing_within Heard seen = ([], took_nothing seen.bytes, omega arith)

-- the source at which a step stopped
pub reads_own : (reader : Reader) (number : ℕ) (k : Kind) (old new : Seen) → StopsAt number k → ReadsBy reader (stopped_at k) old new
    → ReadsBy reader (reach number k) old new
reads_own reader number k old new h r = subst (λ reach. ReadsBy reader reach old new) (sym (own_reach number k h)) r

heard_within : (old new : Option (List ℕ)) → TakesHeard old new → TakesSome old new (λ n. n ≤ trace_limit + heard_limit)
heard_within old new h =
    let text = text_in h.first.format h.trace in (
      text ++ h.behind.bytes,
      taken_on old h.between new text h.behind.bytes h.first.came h.behind.came,
      omega (arith, h.first.short, h.behind.known, looked_most (h.behind.bytes ++ h.behind.rest), length-append text h.behind.bytes),
    )

-- what was read as far as its reader goes was read within its limit
pub judged_within : (reader : Reader) (old new : Seen) → ReadsBy reader Judged old new → ReadsBy reader Within old new
judged_within (Entire limit) old new r = r.0
judged_within Trace old new r = elim r [
  | inl whole ↦ (text_in whole.1.format whole.0, whole.1.came, whole.1.short)
  | inr wrong ↦
      (wrong.2.bytes, wrong.2.came, wrong.2.known.1)
]
judged_within Heard old new r = elim r [
  | inl whole ↦ heard_within old.bytes new.bytes whole
  | inr wrong ↦ (wrong.2.bytes, wrong.2.came, omega (arith, wrong.2.known.1))
]

-- the first, where the second step stopped
pub reads_before : (reader : Reader) (k : Kind) (old new : Seen) → StopsAt 2 k → ReadsBy reader Judged old new
    → ReadsBy reader (reach 1 k) old new
reads_before reader NoForm old new h r = absurd h
reads_before reader (NotRead source) old new h r = subst (λ n. ReadsBy reader (reach_at 1 n Broken) old new) (sym h) r
reads_before reader (TooMuch source) old new h r = subst (λ n. ReadsBy reader (reach_at 1 n Past) old new) (sym h) r
reads_before reader (Wrong source) old new h r = subst (λ n. ReadsBy reader (reach_at 1 n Judged) old new) (sym h) r
reads_before reader Late old new h r = absurd h
reads_before reader NotWritten old new h r = absurd h
reads_before reader NoRoom old new h r = judged_within reader old new r
reads_before reader Answer old new h r = absurd h

-- a source that was read, where a command came to this behind both
pub reads_behind : (named : Named) (reader : Option Reader) (number : ℕ) (k : Kind) (old new : Seen) → (number ≡ 1) ⊎ (number ≡ 2) → IsBehind named k
    → Reads reader (reach number Answer) old new → Reads reader (reach number k) old new
reads_behind named None number k old new one h r = r
reads_behind named (Some reader) number NoForm old new one h r = absurd h
reads_behind named (Some reader) number (NotRead source) old new one h r = absurd h
reads_behind named (Some reader) number (TooMuch source) old new one h r = absurd h
reads_behind named (Some reader) number (Wrong source) old new (inl one) h r =
    subst (λ n. ReadsBy reader (reach_at n source Judged) old new) (sym one) (subst (λ s. ReadsBy reader (reach_at 1 s Judged) old new) (sym h.0) r)
reads_behind named (Some reader) number (Wrong source) old new (inr two) h r =
    subst (λ n. ReadsBy reader (reach_at n source Judged) old new) (sym two) (subst (λ s. ReadsBy reader (reach_at 2 s Judged) old new) (sym h.0) r)
reads_behind named (Some reader) number Late old new one h r = r
reads_behind named (Some reader) number NotWritten old new one h r = r
reads_behind named (Some reader) number NoRoom old new one h r = judged_within reader old new r
reads_behind named (Some reader) number Answer old new one h r = r

-- ---- the counts
pub behind_counts : (named : Named) (before after : Sources) (k : Kind) → IsBehind named k → BothStay before after → SourceCounts named before after k
behind_counts named before after NoForm h s = absurd h
behind_counts named before after (NotRead source) h s = absurd h
behind_counts named before after (TooMuch source) h s = absurd h
behind_counts named before after (Wrong source) h s = (inr (h.0, h.1), s)
behind_counts named before after Late h s = s
behind_counts named before after NotWritten h s = s
behind_counts named before after NoRoom h s = s
behind_counts named before after Answer h s = s

-- a read that failed is of the first or the second
pub low_read : (named : Named) (before after : Sources) (k : Kind) → SourceCounts named before after k → IsLowRead k
low_read named before after NoForm h = tt
low_read named before after (NotRead source) (First is some rises stays) = omega (arith, is)
low_read named before after (NotRead source) (Second is some stays rises) = omega (arith, is)
low_read named before after (TooMuch source) h = tt
low_read named before after (Wrong source) h = tt
low_read named before after Late h = tt
low_read named before after NotWritten h = tt
low_read named before after NoRoom h = tt
low_read named before after Answer h = tt

-- a step that stopped at the first source
pub first_counts : (named : Named) (k : Kind) (old new second : Seen) → IsSome named.first → StopsAt 1 k → StepCounts old new k
    → SourceCounts named (both old second) (both new second) k
first_counts named NoForm old new second some h c = absurd h
first_counts named (NotRead source) old new second some h c = First h some c refl
first_counts named (TooMuch source) old new second some h c = (inl (h, some), record { first = c; second = refl })
first_counts named (Wrong source) old new second some h c = (inl (h, some), record { first = c; second = refl })
first_counts named Late old new second some h c = absurd h
first_counts named NotWritten old new second some h c = absurd h
first_counts named NoRoom old new second some h c = record { first = c; second = refl }
first_counts named Answer old new second some h c = absurd h

-- a step that stopped at the second source
pub second_counts : (named : Named) (k : Kind) (first first' old new : Seen) → IsSome named.second → Stays first first' → StopsAt 2 k
    → StepCounts old new k → SourceCounts named (both first old) (both first' new) k
second_counts named NoForm first first' old new some stays h c = absurd h
second_counts named (NotRead source) first first' old new some stays h c = Second h some stays c
second_counts named (TooMuch source) first first' old new some stays h c = (inr (h, some), record { first = stays; second = c })
second_counts named (Wrong source) first first' old new some stays h c = (inr (h, some), record { first = stays; second = c })
second_counts named Late first first' old new some stays h c = absurd h
second_counts named NotWritten first first' old new some stays h c = absurd h
second_counts named NoRoom first first' old new some stays h c = record { first = stays; second = c }
second_counts named Answer first first' old new some stays h c = absurd h

-- nothing is written before an answer
pub early_out : (k : Kind) (out : Seen) → IsEarly k → OutCounts out out k
early_out NoForm out h = refl
early_out (NotRead source) out h = refl
early_out (TooMuch source) out h = refl
early_out (Wrong source) out h = refl
early_out Late out h = refl
early_out NotWritten out h = absurd h
early_out NoRoom out h = refl
early_out Answer out h = refl
