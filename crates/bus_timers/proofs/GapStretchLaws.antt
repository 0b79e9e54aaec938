-- What stretches of quiet and of carrier do to the place from which the terminal gap counts.
use Rattle.std.proofs.Common.{◌≡◌, ℕ, suc, zero, ◌+◌, ◌<◌, ◌≤◌, ◌++◌, ◌∷◌, [], Bool, true, false, List, length, replicate, Option, arith}
use Rattle.std.proofs.Common.{sym, subst, append_assoc}
use Rattle.std.proofs.lemmas.List.{length_push, append-nil}
use Rattle.bus_timers.specs.GapPlace.{GapFrom}
use Rattle.bus_timers.specs.GapLaws.{QuietsPlace, CarriersPlace, WaitingCarriersPlace}
use Rattle.bus_timers.proofs.GapStepLaws.{gap_quiet, gap_carrier_elapsed, gap_carrier_waiting}

-- a quiet stretch leaves the place, bit time for bit time
pub gap_quiets : QuietsPlace
gap_quiets sg past last g zero pos h = subst (λ p. GapFrom sg p last g) (sym (append-nil past)) h
gap_quiets sg past last g (suc k) pos h =
    subst (λ p. GapFrom sg p last g) (append_assoc past (false ∷ []) (replicate k false))
    (gap_quiets sg (past ++ false ∷ []) last g k pos (gap_quiet sg past last g pos h))

-- the first bit time of the stretch is there
elapsed_more : (sg : ℕ) (past : List Bool) (last : Option ℕ) (g k g' : ℕ) → 0 < sg → GapFrom sg past last g → g ≤ length past
    → g' ≡ length past + suc k → GapFrom sg (past ++ replicate (suc k) true) last g'
elapsed_more sg past last g zero g' pos h behind e = subst (λ n. GapFrom sg (past ++ true ∷ []) last n) (omega arith)
    (gap_carrier_elapsed sg past last g pos h behind)
elapsed_more sg past last g (suc k) g' pos h behind e =
    subst (λ p. GapFrom sg p last g') (append_assoc past (true ∷ []) (true ∷ replicate k true))
    (elapsed_more sg (past ++ true ∷ []) last (length past + 1) k g' pos (gap_carrier_elapsed sg past last g pos h behind)
    (omega (arith, length_push past true)) (omega (arith, length_push past true)))

-- the same before the synchronization gap has elapsed
waiting_more : (sg : ℕ) (past : List Bool) (last : Option ℕ) (g k g' : ℕ) → 0 < sg → GapFrom sg past last g → length past < g
    → g' ≡ length past + suc k + sg → GapFrom sg (past ++ replicate (suc k) true) last g'
waiting_more sg past last g zero g' pos h ahead e = subst (λ n. GapFrom sg (past ++ true ∷ []) last n) (omega arith)
    (gap_carrier_waiting sg past last g pos h ahead)
waiting_more sg past last g (suc k) g' pos h ahead e =
    subst (λ p. GapFrom sg p last g') (append_assoc past (true ∷ []) (true ∷ replicate k true))
    (waiting_more sg (past ++ true ∷ []) last (length past + 1 + sg) k g' pos (gap_carrier_waiting sg past last g pos h ahead)
    (omega (arith, length_push past true)) (omega (arith, length_push past true)))

-- a stretch of carrier puts the place right behind it
pub gap_carriers_elapsed : CarriersPlace
gap_carriers_elapsed sg past last g zero pos some h behind = absurd (omega arith)
gap_carriers_elapsed sg past last g (suc k) pos some h behind = elapsed_more sg past last g k (length past + suc k) pos h behind
    (omega arith)

-- and before the synchronization gap has elapsed, one such gap behind it
pub gap_carriers_waiting : WaitingCarriersPlace
gap_carriers_waiting sg past last g zero pos some h ahead = absurd (omega arith)
gap_carriers_waiting sg past last g (suc k) pos some h ahead = waiting_more sg past last g k (length past + suc k + sg) pos h ahead
    (omega arith)
