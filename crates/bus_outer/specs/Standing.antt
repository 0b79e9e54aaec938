-- How a writer with a buffer stands between its calls.
use Rattle.std.specs.Prelude.{◌≡◌, ◌≤◌, ℕ, Bool, true, false, List}
use Rattle.std.specs.declared.option.Option.{Option}
use Rattle.bus_outer.specs.Faults.{Rose}
use Rattle.bus_outer.specs.Sinks.{Written}

-- Of the text so far, all but `rest` has gone to the sink. Until a write fails, `rest` waits in the buffer and no fault is counted.
pub record Stands {K : Type 0} (held : K → Option (List ℕ)) (faults : K → ℕ) (start now : K) (waiting : List ℕ) (failed : Bool)
    (text : List ℕ) : Type 0 where
  pub rest : List ℕ
  pub written : Written (held start) (held now) rest text
  pub waits : failed ≡ false → rest ≡ waiting
  pub same : failed ≡ false → faults now ≡ faults start
  pub later : faults start ≤ faults now
  pub cause : failed ≡ true → Rose (faults start) (faults now)
