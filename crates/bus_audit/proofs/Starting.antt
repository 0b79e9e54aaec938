-- What is kept at the settled start.
use Rattle.std.proofs.Common.{◌≡◌, ℕ, ◌+◌, ◌*◌, ◌<◌, ◌≤◌, List, [], ◌∷◌, length, map, inr, arith, sym, refl, ap, ◌∙◌, subst}
use Rattle.std.specs.Prelude.{IsTrue}
use Rattle.std.proofs.lemmas.List.{length-map}
use Rattle.std.proofs.lemmas.Option.{slice_get_within}
use Rattle.bus_strings.proofs.ListLaws.{some_at}
use Rattle.bus_table.specs.Tables.{Sender, Table}
use Rattle.bus_table.specs.Valid.{is_valid}
use Rattle.bus_table.proofs.ValidLaws.{valid_facts}
use Rattle.bus_trace.specs.declared.hold.Hold.{Hold}
use Rattle.bus_trace.specs.Traces.{Recording}
use Rattle.bus_medium.proofs.Seats.{same_some, map_at}
use Rattle.bus_audit.specs.declared.lazy_timers.LazyTimers.{LazyTimers}
use Rattle.bus_audit.specs.declared.lazy_timers.Heard.{Heard}
use Rattle.bus_audit.specs.inside.Watches.{ready, settled}
use Rattle.bus_audit.specs.inside.Keeping.{soon_of, lazy_of, watch_of, watches_of, IsKept, AreKept}
use Rattle.bus_audit.specs.inside.Standing.{JudgedTo}
use Rattle.bus_audit.proofs.Keeping.{soon_left}

-- where a walk begins
pub record Started (table : Table) (trace : Recording) (quiet : ℕ) (h : Heard) (ks : List LazyTimers) : Type 0 where
  pub judged : JudgedTo table trace (record { moment = 0; end = 0 }) (watches_of h ks) 0
  pub kept : AreKept h (quiet + 0) (quiet + 0) ks

settled_watch : (table : Table) (holds : List Hold) (s : Sender) → watch_of (record { from = 0; ended = 0; sg = table.sg }) (lazy_of (settled table holds s)) ≡ settled table holds s
settled_watch table holds s = ap (λ g. record (settled table holds s) { gap = g }) (let e : 0 + table.sg ≡ table.sg = omega arith in e)

pub settled_watches : (table : Table) (holds : List Hold) (ss : List Sender) → watches_of (record { from = 0; ended = 0; sg = table.sg }) (map lazy_of (map (settled table holds) ss)) ≡ map (settled table holds) ss
settled_watches table holds [] = refl
settled_watches table holds (s ∷ ss) =
    ap (λ w. w ∷ watches_of (record { from = 0; ended = 0; sg = table.sg }) (map lazy_of (map (settled table holds) ss))) (settled_watch table holds s)
    ∙ ap (λ ws. settled table holds s ∷ ws) (settled_watches table holds ss)

settled_is_kept : (table : Table) (holds : List Hold) (place : ℕ) (s : Sender) → IsKept (record { from = 0; ended = 0; sg = table.sg }) place place (lazy_of (settled table holds s))
settled_is_kept table holds place s =
    let w = settled table holds s in
    record {
      sg = refl;
      counted = inr refl;
      last = omega arith;
      fresh = λ new. absurd (omega arith);
      early = λ left.
          let exact : soon_of w ≡ 256 * ready w + w.number = soon_left w left in
          let same : ready (watch_of (record { from = 0; ended = 0; sg = table.sg }) (lazy_of w)) ≡ ready w = ap ready (settled_watch table holds s) in
          let r : soon_of w ≤ 256 * ready (watch_of (record { from = 0; ended = 0; sg = table.sg }) (lazy_of w)) + w.number = omega arith in r;
    }

pub settled_kept : (table : Table) (holds : List Hold) (place : ℕ) → 0 < place → AreKept (record { from = 0; ended = 0; sg = table.sg }) place place (map lazy_of (map (settled table holds) table.senders))
settled_kept table holds place some = record {
  from = some;
  ended = omega arith;
  each = λ j k at.
      let long : length (map lazy_of (map (settled table holds) table.senders)) ≡ length table.senders = length-map (map (settled table holds) table.senders) lazy_of ∙ length-map table.senders (settled table holds) in
      let within : j < length (map lazy_of (map (settled table holds) table.senders)) = slice_get_within (map lazy_of (map (settled table holds) table.senders)) j k at in
      let s = some_at table.senders j (omega arith) in
      let e : lazy_of (settled table holds s.0) ≡ k = same_some (lazy_of (settled table holds s.0)) k
      (sym (map_at lazy_of (map (settled table holds) table.senders) j (settled table holds s.0) (map_at (settled table holds) table.senders j s.0 s.1)) ∙ at) in
      subst (IsKept (record { from = 0; ended = 0; sg = table.sg }) place place) e (settled_is_kept table holds place s.0);
}

pub some_sg : (table : Table) → IsTrue (is_valid table) → 0 < table.sg
some_sg table valid = let h : 9 ≤ table.sg = (valid_facts table valid).sg_least in omega arith
