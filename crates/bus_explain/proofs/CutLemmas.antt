-- A text that was cut is the beginning of a longer one.
use Rattle.std.specs.Prelude.{◌≡◌, ℕ, List, ◌++◌, Result, Err, IsErrAnd}
use Rattle.std.proofs.Common.{refl, sym, ap, ◌∙◌, subst}
use Rattle.std.proofs.lemmas.Result.{err_from_is_err_and}
use Rattle.bus_outer.specs.Sinks.{WritesText}
use Rattle.bus_outer.specs.declared.sink.Sink.{Ghosts as SinkGhosts}
use Rattle.bus_outer.specs.declared.sink.WriteFault.{WriteFault as Fault}
use Rattle.bus_outer.proofs.WriteLaws.{writes_cut}

pub text_cut : {K : Type 0} (ghosts : SinkGhosts K) (a b : K) (e : Fault) (result : Result (Unit {0}) Fault) (first second : List ℕ)
    → WritesText {T = Unit {0}} ghosts.held ghosts.faults a b (Err e) first → IsErrAnd result (λ came. came ≡ e)
    → WritesText ghosts.held ghosts.faults a b result (first ++ second)
text_cut ghosts a b e result first second w h =
    let came = err_from_is_err_and result h in
    let cut : Result (Unit {0}) Fault = Err e in
    subst (λ r. WritesText ghosts.held ghosts.faults a b r (first ++ second)) (sym (came.1 ∙ ap Err came.2))
    (writes_cut ghosts.held ghosts.faults a b e cut first second w refl)
