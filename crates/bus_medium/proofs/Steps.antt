-- How a lawful list grows, a terminal and a moment at a time, and that there is one at most: what holds of the lists of any rule, for the rule
-- of who is due without delays.
use Rattle.std.proofs.Common.{◌≡◌, ℕ, ◌+◌, ◌≤◌, ◌<◌, List, [], ◌∷◌, ◌++◌, length, Some, arith, sym, ap, ◌∙◌, subst}
use Rattle.std.specs.Prelude.{slice_get}
use Rattle.bus_timers.specs.MayStart.{MayStart}
use Rattle.bus_strings.specs.Members.{In}
use Rattle.bus_strings.specs.Messages.{Entry}
use Rattle.bus_medium.specs.Past.{past, own, last_place}
use Rattle.bus_medium.specs.Lawful.{Station, HaveOwnNumbers, HasEntry, IsDue, IsLawfulTo}
use Rattle.bus_medium.specs.LawfulLaws.{OneLawfulList, LawfulToHorizon}
use Rattle.bus_medium.specs.Stretches.{IdleStretch, LoneStart}
use Rattle.bus_medium.proofs.PastLaws.{before, past_before}
use Rattle.bus_medium.proofs.Ruled as ruled

-- what a sender does at a moment is told by what was before
pub same_past : (q : ℕ) (l m : List Entry) (t : ℕ) → before l t ≡ before m t → past q l t ≡ past q m t
same_past q l m t e = sym (past_before q l t t (omega arith)) ∙ ap (λ k. past q k t) e ∙ past_before q m t t (omega arith)

pub due_looks : (q : ℕ) (l m : List Entry) (s : Station) (t : ℕ) → before l t ≡ before m t → IsDue q l s t → IsDue q m s t
due_looks q l m s t e d =
    let owns : own l s.number t ≡ own m s.number t = ruled.same_own l m s.number t e in
    record {
      may = subst (λ p. MayStart s.timing p (last_place q (own m s.number t))) (same_past q l m t e)
          (subst (λ o. MayStart s.timing (past q l t) (last_place q o)) owns d.may);
      left = subst (λ o. length o < length s.hand) owns d.left;
    }

pub lawful_none : (q : ℕ) (ss : List Station) → IsLawfulTo q ss 0 0 []
lawful_none q = ruled.ruled_none (IsDue q) (due_looks q)

pub not_yet : (q : ℕ) (ss : List Station) (t n : ℕ) (l : List Entry) (k : ℕ) → IsLawfulTo q ss t n l → n ≤ k → HasEntry l k t → ⊥
not_yet q = ruled.not_yet (IsDue q) (due_looks q)

pub lawful_idle : (q : ℕ) (ss : List Station) (t n m : ℕ) (l : List Entry) → IsLawfulTo q ss t n l → n ≤ m
    → ((s : Station) → In s ss → n ≤ s.number → s.number < m → IsDue q l s t → ⊥) → IsLawfulTo q ss t m l
lawful_idle q = ruled.ruled_idle (IsDue q) (due_looks q)

pub lawful_start : (q : ℕ) (ss : List Station) (t n : ℕ) (l : List Entry) (s : Station) (x : Entry) → HaveOwnNumbers ss → IsLawfulTo q ss t n l
    → In s ss → s.number ≡ n → IsDue q l s t → x.moment ≡ t → x.terminal ≡ s.number
    → slice_get s.hand (length (own l s.number t)) ≡ Some x.message → IsLawfulTo q ss t (n + 1) (l ++ x ∷ [])
lawful_start q = ruled.ruled_start (IsDue q) (due_looks q)

pub lawful_next : (q : ℕ) (ss : List Station) (t n : ℕ) (l : List Entry) → ((s : Station) → In s ss → s.number < n) → IsLawfulTo q ss t n l
    → IsLawfulTo q ss (t + 1) 0 l
lawful_next q = ruled.ruled_next (IsDue q) (due_looks q)

pub lawful_whole : LawfulToHorizon
lawful_whole q = ruled.ruled_whole (IsDue q) (due_looks q)

pub idle_stretch : IdleStretch
idle_stretch q = ruled.idle_stretch (IsDue q) (due_looks q)

pub lone_start : LoneStart
lone_start q = ruled.lone_start (IsDue q) (due_looks q)

pub lawful_once : OneLawfulList
lawful_once q = ruled.ruled_once (IsDue q) (due_looks q)
