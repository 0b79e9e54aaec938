-- Why senders aren't run, by what is due.
use Rattle.std.specs.Prelude.{◌≡◌, ℕ, ◌<◌, ◌≤◌, nat_lt, true, false, Bool, List, Option, Some, None, Result, Ok, Err}
use Rattle.std.proofs.Common.{arith, refl, ap, cond, inl, inr}
use Rattle.std.proofs.lemmas.Bool.Decides.{nat_tests}
use Rattle.bus_text.proofs.AllOfLaws.{bind_ok}
use Rattle.bus_table.specs.Tables.{Table, Hand}
use Rattle.bus_dropout.specs.DropOut.{last_cycle, drop_end, LastIsLong}
use Rattle.bus_regime.specs.Verdicts.{verdict_of, is_accepted}
use Rattle.bus_regime.specs.declared.table_verdict.TableVerdict.{TableVerdict}
use Rattle.bus_schedule.specs.Closed.{closed_end}
use Rattle.bus_schedule.specs.Limits.{longest_end}
use Rattle.bus_schedule.specs.Uneven.{uneven_of}
use Rattle.bus_schedule.specs.declared.uneven.Uneven.{Uneven as UnevenHands}
use Rattle.bus_command.specs.Kinds.{kind_of, is_answer}
use Rattle.bus_command.proofs.ReadLemmas.{bind_err}
use Rattle.bus_tool.specs.Due.{uneven_refusal, even_due, accepted_due, short_due, last_due, may_run, can_run, can_schedule, may_drop, can_drop}
use Rattle.bus_tool.specs.Refusals.{Outcome, refuse, NotAccepted, ShortLast, TooLong}
use Rattle.bus_tool.proofs.AnswerLaws.{last_long}

-- ---- the steps
same_err : (a b : Outcome) → (let r : Result (Unit {0}) Outcome = Err a in r) ≡ Err b → b ≡ a
same_err a b h = cc

even_err : (found : Option UnevenHands) (o : Outcome) → even_due found ≡ Err o → (uneven : UnevenHands) × (found ≡ Some uneven) × (o ≡ uneven_refusal uneven)
even_err None o h = absurd cc
even_err (Some uneven) o h = (uneven, refl, same_err (uneven_refusal uneven) o h)

even_ok : (found : Option UnevenHands) (u : Unit {0}) → even_due found ≡ Ok u → found ≡ None
even_ok None u h = refl
even_ok (Some uneven) u h = absurd cc

abbrev accepted_if : Bool → TableVerdict → Result (Unit {0}) Outcome
accepted_if accepted verdict = cond accepted (Ok tt) (Err (refuse (NotAccepted verdict)))

accepted_by : (verdict : TableVerdict) (b : Bool) (u : Unit {0}) → is_accepted verdict ≡ b → accepted_if b verdict ≡ Ok u → is_accepted verdict ≡ true
accepted_by verdict true u e h = e
accepted_by verdict false u e h = absurd cc

accepted_ok : (verdict : TableVerdict) (u : Unit {0}) → accepted_due verdict ≡ Ok u → is_accepted verdict ≡ true
accepted_ok verdict u h = accepted_by verdict (is_accepted verdict) u refl h

refused_by : (verdict : TableVerdict) (b : Bool) (o : Outcome) → is_accepted verdict ≡ b → accepted_if b verdict ≡ Err o
    → (is_accepted verdict ≡ false) × (o ≡ refuse (NotAccepted verdict))
refused_by verdict true o e h = absurd cc
refused_by verdict false o e h = (e, same_err (refuse (NotAccepted verdict)) o h)

accepted_err : (verdict : TableVerdict) (o : Outcome) → accepted_due verdict ≡ Err o → (is_accepted verdict ≡ false) × (o ≡ refuse (NotAccepted verdict))
accepted_err verdict o h = refused_by verdict (is_accepted verdict) o refl h

abbrev short_if : Bool → ℕ → Result (Unit {0}) Outcome
short_if long end = cond long (Err (refuse (TooLong end))) (Ok tt)

long_by : (end : ℕ) (b : Bool) (o : Outcome) → nat_lt longest_end end ≡ b → short_if b end ≡ Err o → (longest_end < end) × (o ≡ refuse (TooLong end))
long_by end true o e h = (grind (arith, nat_tests, e), same_err (refuse (TooLong end)) o h)
long_by end false o e h = absurd cc

short_err : (end : ℕ) (o : Outcome) → short_due end ≡ Err o → (longest_end < end) × (o ≡ refuse (TooLong end))
short_err end o h = long_by end (nat_lt longest_end end) o refl h

short_by : (end : ℕ) (b : Bool) (u : Unit {0}) → nat_lt longest_end end ≡ b → short_if b end ≡ Ok u → end ≤ longest_end
short_by end true u e h = absurd cc
short_by end false u e h = grind (arith, nat_tests, e)

short_ok : (end : ℕ) (u : Unit {0}) → short_due end ≡ Ok u → end ≤ longest_end
short_ok end u h = short_by end (nat_lt longest_end end) u refl h

-- ---- `run`
-- nothing was asked for in vain
pub record IsRunnable (table : Table) (hands : List Hand) : Type 0 where
  pub even : uneven_of table hands ≡ None
  pub accepted : is_accepted (verdict_of table) ≡ true
  pub short : closed_end table hands ≤ longest_end

pub run_ok : (table : Table) (hands : List Hand) (u : Unit {0}) → can_run table hands ≡ Ok u → IsRunnable table hands
run_ok table hands u h =
    let one = bind_ok (may_run table hands) (λ _. short_due (closed_end table hands)) u h in
    let two = bind_ok (even_due (uneven_of table hands)) (λ _. accepted_due (verdict_of table)) one.0 one.1 in
    record { even = even_ok (uneven_of table hands) two.0 two.1; accepted = accepted_ok (verdict_of table) one.0 two.2; short = short_ok (closed_end table hands) u one.2 }

-- why the senders aren't run
pub data NotRun (table : Table) (hands : List Hand) (o : Outcome) : Type 0 where
  Differ : (uneven : UnevenHands) → uneven_of table hands ≡ Some uneven → o ≡ uneven_refusal uneven → NotRun table hands o
  Refused : is_accepted (verdict_of table) ≡ false → o ≡ refuse (NotAccepted (verdict_of table)) → NotRun table hands o
  Longer : uneven_of table hands ≡ None → is_accepted (verdict_of table) ≡ true → longest_end < closed_end table hands
      → o ≡ refuse (TooLong (closed_end table hands)) → NotRun table hands o

may_run_err : (table : Table) (hands : List Hand) (o : Outcome) → may_run table hands ≡ Err o → NotRun table hands o
may_run_err table hands o h = elim (bind_err (even_due (uneven_of table hands)) (λ _. accepted_due (verdict_of table)) o h) [
  | inl e ↦ (let w = even_err (uneven_of table hands) o e in Differ w.0 w.1 w.2)
  | inr w ↦ (let k = accepted_err (verdict_of table) o w.2 in Refused k.0 k.1)
]

pub run_err : (table : Table) (hands : List Hand) (o : Outcome) → can_run table hands ≡ Err o → NotRun table hands o
run_err table hands o h = elim (bind_err (may_run table hands) (λ _. short_due (closed_end table hands)) o h) [
  | inl e ↦ may_run_err table hands o e
  | inr w ↦
      let two = bind_ok (even_due (uneven_of table hands)) (λ _. accepted_due (verdict_of table)) w.0 w.1 in
      let k = short_err (closed_end table hands) o w.2 in
      Longer (even_ok (uneven_of table hands) two.0 two.1) (accepted_ok (verdict_of table) w.0 two.2) k.0 k.1
]

-- ---- `schedule`
-- nothing was asked for in vain
pub record IsSchedulable (table : Table) (hands : List Hand) : Type 0 where
  pub even : uneven_of table hands ≡ None
  pub short : closed_end table hands ≤ longest_end

pub schedule_ok : (table : Table) (hands : List Hand) (u : Unit {0}) → can_schedule table hands ≡ Ok u → IsSchedulable table hands
schedule_ok table hands u h =
    let one = bind_ok (even_due (uneven_of table hands)) (λ _. short_due (closed_end table hands)) u h in
    record { even = even_ok (uneven_of table hands) one.0 one.1; short = short_ok (closed_end table hands) u one.2 }

-- why there is no schedule
pub data NotScheduled (table : Table) (hands : List Hand) (o : Outcome) : Type 0 where
  Odd : (uneven : UnevenHands) → uneven_of table hands ≡ Some uneven → o ≡ uneven_refusal uneven → NotScheduled table hands o
  Endless : uneven_of table hands ≡ None → longest_end < closed_end table hands → o ≡ refuse (TooLong (closed_end table hands)) → NotScheduled table hands o

pub schedule_err : (table : Table) (hands : List Hand) (o : Outcome) → can_schedule table hands ≡ Err o → NotScheduled table hands o
schedule_err table hands o h = elim (bind_err (even_due (uneven_of table hands)) (λ _. short_due (closed_end table hands)) o h) [
  | inl e ↦ (let w = even_err (uneven_of table hands) o e in Odd w.0 w.1 w.2)
  | inr w ↦ (let k = short_err (closed_end table hands) o w.2 in Endless (even_ok (uneven_of table hands) w.0 w.1) k.0 k.1)
]

-- ---- `drop`
-- nothing was asked for in vain
pub record IsDroppable (table : Table) (hands : List Hand) : Type 0 where
  pub accepted : is_accepted (verdict_of table) ≡ true
  pub long : LastIsLong table hands
  pub short : drop_end table hands ≤ longest_end

pub drop_ok : (table : Table) (hands : List Hand) (u : Unit {0}) → can_drop table hands ≡ Ok u → IsDroppable table hands
drop_ok table hands u h =
    let one = bind_ok (may_drop table hands) (λ _. short_due (drop_end table hands)) u h in
    let two = bind_ok (accepted_due (verdict_of table)) (λ _. last_due (last_cycle table hands) table.ti) one.0 one.1 in
    record { accepted = accepted_ok (verdict_of table) two.0 two.1; long = last_long (last_cycle table hands) table.ti two.2; short = short_ok (drop_end table hands) u one.2 }

-- a last cycle that is refused
record IsShorter (last : Option ℕ) (ti : ℕ) (o : Outcome) : Type 0 where
  least : ℕ
  last_is : last ≡ Some least
  shorter : least < ti
  came : o ≡ refuse (ShortLast least ti)

abbrev last_if : Bool → ℕ → ℕ → Result (Unit {0}) Outcome
last_if short least ti = cond short (Err (refuse (ShortLast least ti))) (Ok tt)

shorter_by : (least ti : ℕ) (b : Bool) (o : Outcome) → nat_lt least ti ≡ b → last_if b least ti ≡ Err o → IsShorter (Some least) ti o
shorter_by least ti true o e k = record { least = least; last_is = refl; shorter = grind (arith, nat_tests, e); came = same_err (refuse (ShortLast least ti)) o k }
shorter_by least ti false o e k = absurd cc

last_err : (last : Option ℕ) (ti : ℕ) (o : Outcome) → last_due last ti ≡ Err o → IsShorter last ti o
last_err None ti o h = absurd cc
last_err (Some least) ti o h = shorter_by least ti (nat_lt least ti) o refl h

-- why the senders aren't run
pub data NotDropped (table : Table) (hands : List Hand) (o : Outcome) : Type 0 where
  Undropped : is_accepted (verdict_of table) ≡ false → o ≡ refuse (NotAccepted (verdict_of table)) → NotDropped table hands o
  Shorter : is_accepted (verdict_of table) ≡ true → (least : ℕ) → last_cycle table hands ≡ Some least → least < table.ti
      → o ≡ refuse (ShortLast least table.ti) → NotDropped table hands o
  Overlong : is_accepted (verdict_of table) ≡ true → LastIsLong table hands → longest_end < drop_end table hands
      → o ≡ refuse (TooLong (drop_end table hands)) → NotDropped table hands o

may_drop_err : (table : Table) (hands : List Hand) (o : Outcome) → may_drop table hands ≡ Err o → NotDropped table hands o
may_drop_err table hands o h = elim (bind_err (accepted_due (verdict_of table)) (λ _. last_due (last_cycle table hands) table.ti) o h) [
  | inl e ↦ (let k = accepted_err (verdict_of table) o e in Undropped k.0 k.1)
  | inr w ↦ (let k = last_err (last_cycle table hands) table.ti o w.2 in
      Shorter (accepted_ok (verdict_of table) w.0 w.1) k.least k.last_is k.shorter k.came)
]

pub drop_err : (table : Table) (hands : List Hand) (o : Outcome) → can_drop table hands ≡ Err o → NotDropped table hands o
drop_err table hands o h = elim (bind_err (may_drop table hands) (λ _. short_due (drop_end table hands)) o h) [
  | inl e ↦ may_drop_err table hands o e
  | inr w ↦
      let two = bind_ok (accepted_due (verdict_of table)) (λ _. last_due (last_cycle table hands) table.ti) w.0 w.1 in
      let k = short_err (drop_end table hands) o w.2 in
      Overlong (accepted_ok (verdict_of table) two.0 two.1) (last_long (last_cycle table hands) table.ti two.2) k.0 k.1
]

-- ---- no refusal is an answer
not_run_unwritten : (table : Table) (hands : List Hand) (o : Outcome) → NotRun table hands o → is_answer (kind_of o) ≡ false
not_run_unwritten table hands o (Differ uneven why e) = ap (λ (o : Outcome). is_answer (kind_of o)) e
not_run_unwritten table hands o (Refused why e) = ap (λ (o : Outcome). is_answer (kind_of o)) e
not_run_unwritten table hands o (Longer even accepted why e) = ap (λ (o : Outcome). is_answer (kind_of o)) e

pub run_unwritten : (table : Table) (hands : List Hand) (o : Outcome) → can_run table hands ≡ Err o → is_answer (kind_of o) ≡ false
run_unwritten table hands o h = not_run_unwritten table hands o (run_err table hands o h)

not_scheduled_unwritten : (table : Table) (hands : List Hand) (o : Outcome) → NotScheduled table hands o → is_answer (kind_of o) ≡ false
not_scheduled_unwritten table hands o (Odd uneven why e) = ap (λ (o : Outcome). is_answer (kind_of o)) e
not_scheduled_unwritten table hands o (Endless even why e) = ap (λ (o : Outcome). is_answer (kind_of o)) e

pub schedule_unwritten : (table : Table) (hands : List Hand) (o : Outcome) → can_schedule table hands ≡ Err o → is_answer (kind_of o) ≡ false
schedule_unwritten table hands o h = not_scheduled_unwritten table hands o (schedule_err table hands o h)

not_dropped_unwritten : (table : Table) (hands : List Hand) (o : Outcome) → NotDropped table hands o → is_answer (kind_of o) ≡ false
not_dropped_unwritten table hands o (Undropped why e) = ap (λ (o : Outcome). is_answer (kind_of o)) e
not_dropped_unwritten table hands o (Shorter accepted least is less e) = ap (λ (o : Outcome). is_answer (kind_of o)) e
not_dropped_unwritten table hands o (Overlong accepted long why e) = ap (λ (o : Outcome). is_answer (kind_of o)) e

pub drop_unwritten : (table : Table) (hands : List Hand) (o : Outcome) → can_drop table hands ≡ Err o → is_answer (kind_of o) ≡ false
drop_unwritten table hands o h = not_dropped_unwritten table hands o (drop_err table hands o h)
