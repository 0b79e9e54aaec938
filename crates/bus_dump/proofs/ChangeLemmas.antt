-- What changes where: nothing where the same is seen.
use Rattle.std.proofs.Common.{◌≡◌, ℕ, zero, suc, ◌+◌, ◌-◌, ◌<◌, ◌≤◌, ◌⊎◌, inl, inr, Bool, true, false, cond, List, [], ◌∷◌, ◌++◌, append-nil}
use Rattle.std.proofs.Common.{arith, sym, refl, ap, ◌∙◌}
use Rattle.std.specs.List.{filter, flat_map, list_any, range_with_len}
use Rattle.std.proofs.lemmas.Bool.{eq-eqb}
use Rattle.std.proofs.lemmas.List.Concat.{flat_map-append}
use Rattle.bus_strings.proofs.ListLaws.{range_push}
use Rattle.bus_dump.specs.DumpTexts.{changes, changes_text, changes_at, changes_to, some_changes, value_line}
use Rattle.bus_dump.specs.Scenes.{Scene}
use Rattle.bus_dump.specs.Signals.{Signal, Value, Bit, Number, Floating, Unknown, value, is_same}
use Rattle.bus_dump.specs.inside.Walks.{change_put}
use Rattle.bus_dump.specs.inside.TimerWalks.{StaysAs}
use Rattle.bus_dump.proofs.RangeLemmas.{range_join}

-- ---- nothing changes
pub same_value : (v : Value) → is_same v v ≡ true
same_value (Bit true) = refl
same_value (Bit false) = refl
same_value (Number n) = eq-eqb n n refl
same_value Floating = refl
same_value Unknown = refl

no_change : (seen : Scene) (signals : List Signal) → list_any (changes seen seen) signals ≡ false
no_change seen [] = refl
no_change seen (s ∷ signals) = rw (same_value (value s seen)) (no_change seen signals)

pub quiet_text : (signals : List Signal) (seen : Scene) (t : ℕ) → changes_text signals seen seen t ≡ []
quiet_text signals seen t =
    ap (λ b. cond b (some_changes signals seen seen t) []) (no_change seen signals)

text_of : (signals : List Signal) (a b c d : Scene) (t : ℕ) → a ≡ c → b ≡ d → changes_text signals a b t ≡ changes_text signals c d t
text_of signals a b c d t e f = ap (λ x. changes_text signals x b t) e ∙ ap (λ x. changes_text signals c x t) f

-- nothing changes at bit times at which the same is seen as before
quiet_along : (signals : List Signal) (scene : ℕ → Scene) (seen : Scene) (a n : ℕ)
    → ((v : ℕ) → a ≤ v → v < a + n → (scene (v - 1) ≡ seen) × (scene v ≡ seen))
    → flat_map (changes_at signals scene) (range_with_len a n) ≡ []
quiet_along signals scene seen a zero h = refl
quiet_along signals scene seen a (suc n) h =
    let here = h a (omega arith) (omega arith) in
    ap (λ t. t ++ flat_map (changes_at signals scene) (range_with_len (a + 1) n))
    (text_of signals (scene (a - 1)) (scene a) seen seen a here.0 here.1 ∙ quiet_text signals seen a)
    ∙ quiet_along signals scene seen (a + 1) n (λ v l u. h v (omega arith) (omega arith))

steady_along : (signals : List Signal) (scene : ℕ → Scene) (t until n : ℕ) → StaysAs scene t until → t + n < until
    → flat_map (changes_at signals scene) (range_with_len (1 + t) n) ≡ []
steady_along signals scene t until n steady h =
    quiet_along signals scene (scene t) (1 + t) n (λ v l u. (steady (v - 1) (omega arith) (omega arith), steady v (omega arith) (omega arith)))

-- from bit time t to the next one at which something may change
pub changes_next : (signals : List Signal) (scene : ℕ → Scene) (from t u : ℕ) → from ≤ t → t < u → StaysAs scene t u
    → flat_map (changes_at signals scene) (range_with_len (from + 1) (t - from)) ++ changes_text signals (scene t) (scene u) u
    ≡ flat_map (changes_at signals scene) (range_with_len (from + 1) (u - from))
changes_next signals scene from t u low h steady =
    let n : ℕ = u - 1 - t in
    let d : ℕ = t - from in
    let f = changes_at signals scene in
    let last : 1 + t + n ≡ u = omega arith in
    let before : scene (u - 1) ≡ scene t = steady (u - 1) (omega arith) (omega arith) in
    let end : flat_map f (range_with_len (1 + t) (suc n)) ≡ changes_text signals (scene t) (scene u) u =
    ap (flat_map f) (range_push (1 + t) n)
    ∙ flat_map-append f (range_with_len (1 + t) n) ((1 + t + n) ∷ [])
    ∙ ap (λ x. x ++ flat_map f ((1 + t + n) ∷ [])) (steady_along signals scene t u n steady (omega arith))
    ∙ append-nil (f (1 + t + n))
    ∙ ap f last
    ∙ text_of signals (scene (u - 1)) (scene u) (scene t) (scene u) u before refl in
    sym (ap (λ m. flat_map f (range_with_len (from + 1) m)) (let e : u - from ≡ d + suc n = omega arith in e)
    ∙ ap (flat_map f) (range_join (from + 1) d (suc n))
    ∙ flat_map-append f (range_with_len (from + 1) d) (range_with_len (from + 1 + d) (suc n))
    ∙ ap (λ k. flat_map f (range_with_len (from + 1) d) ++ flat_map f (range_with_len k (suc n))) (let e : from + 1 + d ≡ 1 + t = omega arith in e)
    ∙ ap (λ x. flat_map f (range_with_len (from + 1) d) ++ x) end)

-- from the last bit time at which something changes to the end
pub changes_last : (signals : List Signal) (scene : ℕ → Scene) (from t until end : ℕ) → from ≤ t → t < until → end ≤ until
    → t ≤ from ⊎ t < end → StaysAs scene t until
    → flat_map (changes_at signals scene) (range_with_len (from + 1) (t - from)) ≡ changes_to signals scene from end
changes_last signals scene from t until end low some h reached steady =
    let n : ℕ = end - 1 - t in
    let d : ℕ = t - from in
    let f = changes_at signals scene in
    let all : end - (from + 1) ≡ d + n = elim reached [ inl at ↦ omega arith | inr below ↦ omega arith ] in
    sym (ap (λ m. flat_map f (range_with_len (from + 1) m)) all
    ∙ ap (flat_map f) (range_join (from + 1) d n)
    ∙ flat_map-append f (range_with_len (from + 1) d) (range_with_len (from + 1 + d) n)
    ∙ ap (λ k. flat_map f (range_with_len (from + 1) d) ++ flat_map f (range_with_len k n)) (let e : from + 1 + d ≡ 1 + t = omega arith in e)
    ∙ ap (λ x. flat_map f (range_with_len (from + 1) d) ++ x) (steady_along signals scene t until n steady (omega arith))
    ∙ append-nil (flat_map f (range_with_len (from + 1) d)))

-- from a bit time on: what has changed by then, and what is left
pub changes_left : (signals : List Signal) (scene : ℕ → Scene) (from t end : ℕ) → from ≤ t → t < end
    → flat_map (changes_at signals scene) (range_with_len (from + 1) (t - from)) ++ flat_map (changes_at signals scene) (range_with_len (1 + t) (end - 1 - t))
    ≡ changes_to signals scene from end
changes_left signals scene from t end low below =
    let n : ℕ = end - 1 - t in
    let d : ℕ = t - from in
    let f = changes_at signals scene in
    sym (ap (λ m. flat_map f (range_with_len (from + 1) m)) (let e : end - (from + 1) ≡ d + n = omega arith in e)
    ∙ ap (flat_map f) (range_join (from + 1) d n)
    ∙ flat_map-append f (range_with_len (from + 1) d) (range_with_len (from + 1 + d) n)
    ∙ ap (λ k. flat_map f (range_with_len (from + 1) d) ++ flat_map f (range_with_len k n)) (let e : from + 1 + d ≡ 1 + t = omega arith in e))

-- ---- puts
passing_by : (b : Bool) (line rest : List ℕ) (s : Signal) (f : Signal → List ℕ) (ss : List Signal) → line ≡ f s → rest ≡ flat_map f ss
    → cond b line [] ++ rest ≡ flat_map f (cond b (s ∷ ss) ss)
passing_by true line rest s f ss e h = ap (λ x. x ++ rest) e ∙ ap (λ x. f s ++ x) h
passing_by false line rest s f ss e h = h

pub changed_put : (before now : Scene) (signals : List Signal)
    → flat_map (change_put before now) signals ≡ flat_map (value_line now) (filter (changes before now) signals)
changed_put before now [] = refl
changed_put before now (s ∷ signals) =
    passing_by (changes before now s) (value_line now s) (flat_map (change_put before now) signals) s (value_line now)
    (filter (changes before now) signals) refl (changed_put before now signals)
