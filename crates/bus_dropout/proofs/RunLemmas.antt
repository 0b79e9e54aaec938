-- The run of a bus whose senders fall silent, and the limit on its end.
use Rattle.std.specs.Prelude.{◌≡◌, ℕ, ◌≤◌, List, Result, Err, IsErrAnd}
use Rattle.std.proofs.Common.{arith, sym, ap, ◌∙◌, subst}
use Rattle.std.proofs.lemmas.Result.{err_from_is_err_and}
use Rattle.bus_strings.specs.Messages.{Entry}
use Rattle.bus_table.specs.Tables.{Table, Hand}
use Rattle.bus_medium.specs.Lawful.{Station, IsLawful}
use Rattle.bus_medium.specs.Timings.{quiet_of, stations_of}
use Rattle.bus_schedule.specs.declared.error.ScheduleError.{ScheduleError}
use Rattle.bus_schedule.specs.declared.error.ScheduleError.TheVariants.{Memory}
use Rattle.bus_schedule.specs.Limits.{longest_end, IsLimited}
use Rattle.bus_dropout.specs.DropOut.{dropout, drop_end}
use Rattle.bus_dropout.specs.Runs.{IsDropRun}

-- what is lawful up to the end is the run
pub the_run : (table : Table) (hands : List Hand) (list : List Entry) (quiet : ℕ) (stations : List Station) (horizon : ℕ)
    → quiet ≡ quiet_of table → stations ≡ stations_of table hands → horizon ≡ drop_end table hands → IsLawful quiet stations horizon list
    → IsDropRun table hands (dropout table hands) → IsDropRun table hands list
the_run table hands list quiet stations horizon quiet_is stations_is horizon_is law run =
    subst (IsDropRun table hands)
    (sym (run.only list
    (subst (λ q. IsLawful q (stations_of table hands) (drop_end table hands) list) quiet_is
    (subst (λ s. IsLawful quiet s (drop_end table hands) list) stations_is
    (subst (λ n. IsLawful quiet stations n list) horizon_is law)))))
    run

-- a result is limited by its end, whatever value it would have
pub limited_err : {X Y : Type 0} (end whole : ℕ) (e : ScheduleError) (result : Result Y ScheduleError) → end ≡ whole
    → IsLimited {X = X} end (Err e) → IsErrAnd result (λ came. came ≡ e) → IsLimited whole result
limited_err {X} {Y} end whole e result same limit h =
    let came = err_from_is_err_and result h in
    subst (λ r. IsLimited {X = Y} whole r) (sym (came.1 ∙ ap Err came.2))
    (subst (λ n. IsLimited {X = Y} n (Err e)) same
    (record { within = tt; too_long = λ more. err_again e (limit.too_long more); refused = limit.refused }))
  where
    err_again : (a : ScheduleError) {b : ScheduleError} → ◌≡◌ {A = Result X ScheduleError} (Err a) (Err b)
        → ◌≡◌ {A = Result Y ScheduleError} (Err a) (Err b)
    err_again a {b} h = ap Err (let k : a ≡ b = cc in k)

pub limited_memory : {Y : Type 0} (end whole : ℕ) (result : Result Y ScheduleError) → end ≡ whole → end ≤ longest_end
    → IsErrAnd result (λ came. came ≡ Memory) → IsLimited whole result
limited_memory {Y} end whole result same short h =
    let came = err_from_is_err_and result h in
    subst (λ r. IsLimited {X = Y} whole r) (sym (came.1 ∙ ap Err came.2))
    (record { within = tt; too_long = λ more. absurd (omega arith); refused = tt })
