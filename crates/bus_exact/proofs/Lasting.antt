-- A sender starts once at most at each moment, so long hands last.
use Rattle.std.proofs.Common.{◌≡◌, ℕ, ◌+◌, ◌<◌, ◌≤◌, List, [], ◌∷◌, length, inl, inr, arith, sym, refl, ◌∙◌}
use Rattle.std.specs.Prelude.{nat_eq, nat_lt, ◌&&◌}
use Rattle.bus_strings.specs.Members.{In}
use Rattle.bus_strings.specs.Messages.{Entry}
use Rattle.bus_strings.specs.Transmissions.{Precedes, IsOrdered}
use Rattle.bus_medium.specs.Past.{own}
use Rattle.bus_medium.proofs.AscendingLaws.{behind_in}
use Rattle.bus_medium.proofs.PastLaws.{from_own}
use Rattle.bus_schedule.specs.Even.{messages_of}
use Rattle.bus_exact.specs.Settling.{LongHandsLast}
use Rattle.bus_exact.proofs.Courses.{ordered_filter}

-- transmissions of one terminal from a moment on, and before another
few : (n t from : ℕ) (l : List Entry) → IsOrdered Precedes l → ((x : Entry) → In x l → (x.terminal ≡ n) × (from ≤ x.moment) × (x.moment < t)) → from ≤ t
    → length l + from ≤ t
few n t from [] o all low = omega arith
few n t from (x ∷ l) o all low =
    let here = all x (inl refl) in
    let first : from ≤ x.moment = here.1 in
    let before : x.moment < t = here.2 in
    let rest : length l + (x.moment + 1) ≤ t = few n t (x.moment + 1) l o.1 (λ y i.
    (let there = all y (inr i) in (
      there.0,
      elim (behind_in x l y o.0 i) [
        | inl less ↦ omega arith
        | inr same ↦
            let less : x.terminal < y.terminal = same.1 in
            let one : x.terminal ≡ y.terminal = here.0 ∙ sym there.0 in
            absurd (omega arith)
      ],
      there.2,
    ))) (omega arith) in
    omega arith

pub long_hands_last : LongHandsLast
long_hands_last table hands delay wake horizon list long law sender t i less =
    let enough : horizon ≤ length (messages_of hands sender.number) = long sender i in
    let some : length (own list sender.number t) + 0 ≤ t =
    few sender.number t 0 (own list sender.number t) (ordered_filter Precedes (λ x. nat_eq x.terminal sender.number && nat_lt x.moment t) list law.ordered)
    (λ x j. (let f = from_own list sender.number t x j in (f.1, omega arith, f.2))) (omega arith) in
    omega arith
