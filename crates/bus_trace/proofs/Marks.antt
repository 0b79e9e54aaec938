-- Marks that are wrong, and marks that are right.
use Rattle.std.proofs.Common.{arith, ◌≡◌, ℕ, ◌+◌, ◌<◌, ◌≤◌, Bool, true, false, ◌&&◌, ◌||◌, ◌==◌, ◌⊎◌, inl, inr, List, [], ◌∷◌, ◌++◌}
use Rattle.std.proofs.Common.{length, nat_lt, max, codes, refl, sym, ap, ◌∙◌}
use Rattle.std.specs.Str.{bytes_eq}
use Rattle.std.proofs.lemmas.Bool.Decides.{nat_tests}
use Rattle.std.proofs.lemmas.Slice.Eq.{bytes_eq-Decides}
use Rattle.bus_strings.specs.Messages.{Wordstring, Entry}
use Rattle.bus_strings.specs.Transmissions.{Precedes, end_of}
use Rattle.bus_strings.proofs.TestLaws.{or_false}
use Rattle.bus_trace.specs.declared.hold.Hold.{Hold}
use Rattle.bus_trace.specs.declared.format.Format.{Format}
use Rattle.bus_trace.specs.declared.format.Format.TheVariants.{One, Two}
use Rattle.bus_trace.specs.declared.keyword.Keyword.TheVariants as keyword
use Rattle.bus_trace.specs.declared.position.Position.{Position}
use Rattle.bus_trace.specs.declared.position.Position.TheVariants.{Start, Headed, Holding, Begun, Stringing, Closed, Ended}
use Rattle.bus_trace.specs.Traces.{mark_text}
use Rattle.bus_trace.specs.States.{ends_behind, earlier, last_moment, last_sender, last_end, is_hit, is_final, with_string, more_list}
use Rattle.bus_trace.specs.States.{may_follow, is_closed, is_mark, mark_of, starts_wrong, turns_wrong}
use Rattle.bus_trace.specs.inside.Sound.{PositionFits, MarkIs, MarkFits}
use Rattle.bus_trace.specs.inside.Reach.{IsReach}
use Rattle.bus_trace.proofs.Lasts.{of_last_push, earlier_push, earlier_with}

-- ---- fields
pub mark_is : (f : List ℕ) → is_mark f ≡ true → mark_text (mark_of f) ≡ f
mark_is f h = by_test (bytes_eq f (codes "C")) refl h where
  by_test : (t : Bool) → bytes_eq f (codes "C") ≡ t → (t || bytes_eq f (codes "-")) ≡ true → mark_text t ≡ f
  by_test true e k = sym ((bytes_eq-Decides f (codes "C")).0 e)
  by_test false e k = sym ((bytes_eq-Decides f (codes "-")).0 k)

pub mark_again : (m : Bool) → (is_mark (mark_text m) ≡ true) × (mark_of (mark_text m) ≡ m)
mark_again true = (refl, refl)
mark_again false = (refl, refl)

-- ---- a mark that isn't found wrong
pub unhit : (mark hit final : Bool) → starts_wrong mark hit final ≡ false → mark ≡ false → hit ≡ false
unhit true hit final h e = absurd cc
unhit false hit final h e = h

right : (mark hit met : Bool) → (mark ≡ false → hit ≡ false) → turns_wrong mark hit met ≡ false → mark ≡ (hit || met)
right true true met k h = refl
right true false true k h = refl
right true false false k h = absurd cc
right false true met k h = absurd (let e = k refl in cc)
right false false true k h = absurd cc
right false false false k h = refl

no_two : One ≡ Two → ⊥
no_two h = cc

pub mark_shown : (p : Position) (f : Format) (mark : Bool) (n h : ℕ) (hs : List Hold) (xs : List Entry) (met : Bool)
    → may_follow p f n keyword.Tx ≡ true → PositionFits p h hs xs → MarkFits p f mark xs
    → (is_closed p && turns_wrong mark (is_hit xs) met) ≡ false → f ≡ Two → MarkIs mark xs met
mark_shown Start f mark n h hs xs met m fits k e two = absurd cc
mark_shown Headed f mark n h hs xs met m fits k e two = absurd cc
mark_shown Holding f mark n h hs xs met m fits k e two = λ some. absurd (omega (arith, some, ap length fits))
mark_shown (Begun i j) f mark n h hs xs met m fits k e two = absurd cc
mark_shown Stringing One mark n h hs xs met m fits k e two = absurd (no_two two)
mark_shown Stringing Two mark n h hs xs met m fits k e two = absurd cc
mark_shown Closed f mark n h hs xs met m fits k e two = λ some. right mark (is_hit xs) met k.1 e
mark_shown Ended f mark n h hs xs met m fits k e two = absurd cc

pub begun_fits : (f : Format) (m n : ℕ) (mark : Bool) (xs : List Entry) → (f ≡ Two → MarkIs mark xs (nat_lt m (last_end xs)))
    → MarkFits (Begun m n) f mark xs
begun_fits One m n mark xs h = tt
begun_fits Two m n mark xs h = h refl

pub ended_fits : (f : Format) (mark : Bool) (xs : List Entry) → (f ≡ Two → MarkIs mark xs false) → MarkFits Ended f mark xs
ended_fits One mark xs h = tt
ended_fits Two mark xs h = h refl

pub ended_is : (f : Format) (mark : Bool) (xs : List Entry) → MarkFits Ended f mark xs → f ≡ Two → MarkIs mark xs false
ended_is One mark xs h two = absurd (no_two two)
ended_is Two mark xs h two = h

-- ---- right marks are never found wrong
pub turned : (hit met : Bool) → turns_wrong (hit || met) hit met ≡ false
turned true true = refl
turned true false = refl
turned false true = refl
turned false false = refl

pub started_last : (hit final : Bool) → starts_wrong hit hit final ≡ false
started_last true final = refl
started_last false final = refl

started : (hit met final : Bool) → (met ≡ true → final ≡ false) → starts_wrong (hit || met) hit final ≡ false
started true met final h = refl
started false true final h = h refl
started false false final h = refl

not_final : (m t h n : ℕ) → (m + 1 < h) ⊎ (t < n) → (m + 1 == h && t == n) ≡ false
not_final m t h n (inl k) = ap (λ b. b && t == n) (let e : (m + 1 == h) ≡ false = grind (arith, nat_tests) in e)
not_final m t h n (inr k) = ap (λ b. m + 1 == h && b) (let e : (t == n) ≡ false = grind (arith, nat_tests) in e) ∙ no (m + 1 == h) where
  no : (b : Bool) → (b && false) ≡ false
  no true = refl
  no false = refl

pub hit_push : (done : List Entry) (x : Entry) → is_hit (done ++ x ∷ []) ≡ ends_behind x.moment done
hit_push done x = ap (λ m. ends_behind m (earlier (done ++ x ∷ []))) (of_last_push (λ (y : Entry). y.moment) done x) ∙ ap (ends_behind x.moment) (earlier_push done x)

-- behind an entry that another follows
pub started_next : (h : ℕ) (done : List Entry) (x y : Entry) → Precedes x y → y.moment < h → y.terminal ≤ 128
    → starts_wrong (ends_behind x.moment done || nat_lt y.moment (end_of x)) (is_hit (done ++ x ∷ [])) (is_final h (done ++ x ∷ [])) ≡ false
started_next h done x y p below low =
    ap (λ b. starts_wrong (ends_behind x.moment done || nat_lt y.moment (end_of x)) b (is_final h (done ++ x ∷ []))) (hit_push done x)
    ∙ started (ends_behind x.moment done) (nat_lt y.moment (end_of x)) (is_final h (done ++ x ∷ []))
    (λ _. ap (λ m. m + 1 == h && last_sender (done ++ x ∷ []) == 128) (of_last_push (λ (y : Entry). y.moment) done x)
    ∙ ap (λ t. x.moment + 1 == h && t == 128) (of_last_push (λ (y : Entry). y.terminal) done x)
    ∙ not_final x.moment x.terminal h 128 (room p)) where
      room : Precedes x y → (x.moment + 1 < h) ⊎ (x.terminal < 128)
      room (inl k) = inl (omega (arith, k, below))
      room (inr k) = inr (omega (arith, k.1, low))

-- ---- a running reach
ends_last : (m : ℕ) (xs : List Entry) → ends_behind m xs ≡ (ends_behind m (earlier xs) || nat_lt m (last_end xs))
ends_last m [] = let e : nat_lt m 0 ≡ false = grind (arith, nat_tests) in sym e
ends_last m (x ∷ []) = or_false (nat_lt m (end_of x))
ends_last m (x ∷ y ∷ xs) = ap (λ b. nat_lt m (end_of x) || b) (ends_last m (y ∷ xs))
    ∙ assoc (nat_lt m (end_of x)) (ends_behind m (earlier (y ∷ xs))) (nat_lt m (last_end (y ∷ xs))) where
      assoc : (a b c : Bool) → (a || (b || c)) ≡ ((a || b) || c)
      assoc true b c = refl
      assoc false b c = refl

behind_either : (m a b : ℕ) → (nat_lt m a || nat_lt m b) ≡ nat_lt m (max a b)
behind_either m a b = grind (arith, nat_tests)

reach_push : (xs : List Entry) (x : Entry) (reach : ℕ) → IsReach xs reach → IsReach (xs ++ x ∷ []) (max reach (last_end xs))
reach_push xs x reach h = λ m. ap (ends_behind m) (earlier_push xs x) ∙ ends_last m xs ∙ ap (λ b. b || nat_lt m (last_end xs)) (h m)
    ∙ behind_either m reach (last_end xs)

pub reach_begun : (m n : ℕ) (xs : List Entry) (reach : ℕ) → IsReach xs reach → (w : Wordstring)
    → IsReach (more_list (Begun m n) w xs) (max reach (last_end xs))
reach_begun m n xs reach h w = reach_push xs (record { moment = m; terminal = n; message = w ∷ [] }) reach h

pub reach_with : (xs : List Entry) (reach : ℕ) → IsReach xs reach → (w : Wordstring) → IsReach (with_string w xs) reach
reach_with xs reach h w = λ m. ap (ends_behind m) (earlier_with w xs) ∙ h m

-- in every place but behind a TX line
pub reach_other : (p : Position) (xs : List Entry) (reach : ℕ) → ((m n : ℕ) → p ≡ Begun m n → ⊥) → IsReach xs reach → (w : Wordstring)
    → IsReach (more_list p w xs) reach
reach_other Start xs reach other h w = reach_with xs reach h w
reach_other Headed xs reach other h w = reach_with xs reach h w
reach_other Holding xs reach other h w = reach_with xs reach h w
reach_other (Begun m n) xs reach other h w = absurd (other m n refl)
reach_other Stringing xs reach other h w = reach_with xs reach h w
reach_other Closed xs reach other h w = reach_with xs reach h w
reach_other Ended xs reach other h w = reach_with xs reach h w

pub hit_is : (xs : List Entry) (reach moment : ℕ) → IsReach xs reach → moment ≡ last_moment xs → nat_lt moment reach ≡ is_hit xs
hit_is xs reach moment h e = ap (λ m. nat_lt m reach) e ∙ sym (h (last_moment xs))
