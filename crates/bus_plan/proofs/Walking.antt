-- The walk gives the planned offsets.
use Rattle.std.specs.Prelude.{◌≡◌, ◌≢◌, ℕ, ◌+◌, Bool, true, false, nat_lt, ◌==◌, List, [], ◌∷◌, ◌++◌, map}
use Rattle.std.specs.Prelude.{length}
use Rattle.std.proofs.Common.{inl, inr, arith, sym, refl, ap, ◌∙◌, subst, cond}
use Rattle.std.proofs.lemmas.Bool.{eq-eqb}
use Rattle.std.proofs.lemmas.Bool.Decides.{nat_tests}
use Rattle.bus_strings.specs.Members.{In}
use Rattle.bus_table.specs.Tables.{Sender}
use Rattle.bus_table.specs.Lengths.{longest}
use Rattle.bus_table.specs.inside.Orders.{Differ}
use Rattle.bus_table.specs.Offsets.{at_offset}
use Rattle.bus_plan.specs.Plans.{lead, greatest_first, second_greatest, planned_order, behind, second_gap, planned, offset_in}
use Rattle.bus_plan.specs.inside.Greatest.{greatest_tg, second_tg}
use Rattle.bus_plan.specs.inside.Walks.{offset_for, end_after, walk, walk_end, longest_with, gap_between}
use Rattle.bus_plan.proofs.Orders.{in_greatest, from_greatest}
use Rattle.bus_plan.proofs.Members.{differ_greatest}
use Rattle.bus_plan.proofs.Planned.{placed, planned_is}
use Rattle.bus_plan.proofs.Tops.{Led, led_greatest}

-- ---- those with another terminal gap
abbrev others_than : ℕ → List Sender → List Sender
others_than t [] = []
others_than t (s ∷ ss) = cond (s.tg == t) (others_than t ss) (s ∷ others_than t ss)

same_no : (a b : ℕ) → a ≢ b → (a == b) ≡ false
same_no a b h =
    (elim (a == b) as (λ w. (a == b) ≡ w → w ≡ false) [
      | true ↦ λ e. absurd (h (grind (arith, nat_tests)))
      | false ↦ λ e. refl
    ]) refl

others_all : (t : ℕ) (ss : List Sender) → ((s : Sender) → In s ss → t ≢ s.tg) → others_than t ss ≡ ss
others_all t [] h = refl
others_all t (s ∷ ss) h =
    ap (λ b. cond b (others_than t ss) (s ∷ others_than t ss)) (same_no s.tg t (λ e. h s (inl refl) (sym e)))
    ∙ ap (λ l. s ∷ l) (others_all t ss (λ x i. h x (inr i)))

-- what the head leaves
abbrev Leaves : List Sender → List Sender → Type 0
Leaves senders [] = senders ≡ []
Leaves senders (a ∷ bs) = bs ≡ others_than a.tg senders

leaves_lead : (a : Sender) (others led : List Sender) → Differ (λ s. s.tg) (a ∷ others) → ((x : Sender) → In x led → In x others)
    → Leaves others led → Leaves (a ∷ others) (lead a others led)
leaves_lead a others [] d sub h =
    sym (ap (λ b. cond b (others_than a.tg others) (a ∷ others_than a.tg others)) (eq-eqb a.tg a.tg refl) ∙ ap (others_than a.tg) h)
leaves_lead a others (b ∷ rest) d sub h =
    elim (nat_lt b.tg a.tg) as (λ w. Leaves (a ∷ others) (cond w (a ∷ others) (b ∷ (a ∷ rest)))) [
      | true ↦ sym (ap (λ b. cond b (others_than a.tg others) (a ∷ others_than a.tg others)) (eq-eqb a.tg a.tg refl)
          ∙ others_all a.tg others d.0)
      | false ↦ ap (λ l. a ∷ l) h ∙ sym (ap (λ w. cond w (others_than b.tg others) (a ∷ others_than b.tg others))
          (same_no a.tg b.tg (d.0 b (sub b (inl refl)))))
    ]

leaves_greatest : (senders : List Sender) → Differ (λ s. s.tg) senders → Leaves senders (greatest_first senders)
leaves_greatest [] d = refl
leaves_greatest (a ∷ others) d = leaves_lead a others (greatest_first others) d (from_greatest others) (leaves_greatest others d.1)

-- ---- the walk by what each sender's offset is
walked : (first second at end : ℕ) (f : Sender → ℕ) (ss : List Sender) → ((s : Sender) → In s ss → s.tg ≡ first → f s ≡ 0)
    → ((s : Sender) → In s ss → s.tg ≢ first → s.tg ≡ second → f s ≡ at)
    → map (λ s. at_offset (f s) s) (others_than second (others_than first ss)) ≡ behind end (others_than second (others_than first ss))
    → map f ss ≡ walk first second at end ss
walked first second at end f [] one two rest = refl
walked first second at end f (s ∷ ss) one two rest =
    let g : Sender → Sender = λ (x : Sender). at_offset (f x) x in
    let one_later = λ (x : Sender) (i : In x ss). one x (inr i) in
    let two_later = λ (x : Sender) (i : In x ss). two x (inr i) in
    (elim (s.tg == first) as (λ w. (s.tg == first) ≡ w
    → map (λ s. at_offset (f s) s) (others_than second (cond w (others_than first ss) (s ∷ others_than first ss)))
    ≡ behind end (others_than second (cond w (others_than first ss) (s ∷ others_than first ss)))
    → f s ∷ map f ss ≡ cond w 0 (cond (s.tg == second) at (end + s.tg)) ∷ walk first second at
    (cond w end (cond (s.tg == second) end (end + s.tg + longest s))) ss) [
      | true ↦ λ e r. ap (λ (n : ℕ). n ∷ map f ss) (one s (inl refl) (grind (arith, nat_tests)))
          ∙ ap (λ l. 0 ∷ l) (walked first second at end f ss one_later two_later r)
      | false ↦ λ e. (elim (s.tg == second) as (λ w. (s.tg == second) ≡ w
          → map (λ s. at_offset (f s) s) (cond w (others_than second (others_than first ss))
          (s ∷ others_than second (others_than first ss)))
          ≡ behind end (cond w (others_than second (others_than first ss)) (s ∷ others_than second (others_than first ss)))
          → f s ∷ map f ss ≡ cond w at (end + s.tg) ∷ walk first second at (cond w end (end + s.tg + longest s)) ss) [
            | true ↦ λ k r. ap (λ (n : ℕ). n ∷ map f ss)
                (two s (inl refl) (λ same. (grind (arith, nat_tests))) (grind (arith, nat_tests)))
                ∙ ap (λ l. at ∷ l) (walked first second at end f ss one_later two_later r)
            | false ↦ λ k r.
                ap (λ (n : ℕ). n ∷ map f ss) (ap head_at r)
                ∙ ap (λ l. (end + s.tg) ∷ l) (walked first second at (end + s.tg + longest s) f ss one_later two_later (ap tail_of r))
          ]) refl
    ]) refl rest
  where
    head_at : List Sender → ℕ
    head_at [] = 0
    head_at (x ∷ xs) = x.at

    tail_of : List Sender → List Sender
    tail_of [] = []
    tail_of (x ∷ xs) = xs

-- ---- senders by their terminal gaps
same_by_tg : (senders : List Sender) → Differ (λ s. s.tg) senders → (a b : Sender) → In a senders → In b senders → a.tg ≡ b.tg → a ≡ b
same_by_tg [] d a b i j e = absurd i
same_by_tg (s ∷ ss) d a b (inl p) (inl q) e = p ∙ sym q
same_by_tg (s ∷ ss) d a b (inl p) (inr j) e = absurd (d.0 b j (sym (ap (λ (x : Sender). x.tg) p) ∙ e))
same_by_tg (s ∷ ss) d a b (inr i) (inl q) e = absurd (d.0 a i (sym (ap (λ (x : Sender). x.tg) q) ∙ sym e))
same_by_tg (s ∷ ss) d a b (inr i) (inr j) e = same_by_tg ss d.1 a b i j e

longest_found : (senders : List Sender) → Differ (λ s. s.tg) senders → (a : Sender) → In a senders → longest_with a.tg senders ≡ longest a
longest_found [] d a i = absurd i
longest_found (s ∷ ss) d a (inl e) =
    ap (λ b. cond b (longest s) (longest_with a.tg ss)) (eq-eqb s.tg a.tg (ap (λ (x : Sender). x.tg) (sym e))) ∙ ap longest (sym e)
longest_found (s ∷ ss) d a (inr i) =
    ap (λ b. cond b (longest s) (longest_with a.tg ss)) (same_no s.tg a.tg (d.0 a i)) ∙ longest_found ss d.1 a i

-- ---- the walk gives the planned offsets
abbrev first_at : List Sender → ℕ
first_at [] = 0
first_at (x ∷ xs) = x.at

abbrev later_of : List Sender → List Sender
later_of [] = []
later_of (x ∷ xs) = xs

abbrev start_at : ℕ → List Sender → ℕ
start_at sg senders = longest_with (greatest_tg senders) senders + gap_between sg (greatest_tg senders) (second_tg senders)

abbrev start_end : ℕ → List Sender → ℕ
start_end sg senders = start_at sg senders + longest_with (second_tg senders) senders

abbrev IsWalk : ℕ → List Sender → List Sender → Type 0
IsWalk sg senders plan =
    map (λ s. offset_in plan s.number) senders
    ≡ walk (greatest_tg senders) (second_tg senders) (start_at sg senders) (start_end sg senders) senders

alone : (a : Sender) (n : ℕ) → offset_in (at_offset 0 a ∷ []) n ≡ 0
alone a n = chosen (a.number == n) where
  chosen : (b : Bool) → cond {A = ℕ} b 0 0 ≡ 0
  chosen true = refl
  chosen false = refl

walk_none : (sg : ℕ) (senders : List Sender) → senders ≡ [] → IsWalk sg senders []
walk_none sg senders e = subst (λ l. IsWalk sg l []) (sym e) refl

walk_one : (sg : ℕ) (senders : List Sender) (a : Sender) → a.tg ≡ greatest_tg senders → others_than a.tg senders ≡ []
    → ((x : Sender) → In x senders → x ≡ a) → IsWalk sg senders (at_offset 0 a ∷ [])
walk_one sg senders a top none full =
    let end : ℕ = start_end sg senders in
    let f : Sender → ℕ = λ (s : Sender). offset_in (at_offset 0 a ∷ []) s.number in
    let second : ℕ = second_tg senders in
    let nothing : others_than (greatest_tg senders) senders ≡ [] = ap (λ (t : ℕ). others_than t senders) (sym top) ∙ none in
    walked (greatest_tg senders) second (start_at sg senders) end f senders
    (λ s i e. alone a s.number)
    (λ s i apart e. absurd (apart (ap (λ (x : Sender). x.tg) (full s i) ∙ top)))
    (subst (λ l. map (λ s. at_offset (f s) s) (others_than second l) ≡ behind end (others_than second l)) (sym nothing) refl)

walk_two : (sg : ℕ) (senders : List Sender) (a b : Sender) (cs : List Sender) → Differ (λ s. s.number) (a ∷ b ∷ cs)
    → Differ (λ s. s.tg) senders → In a senders → In b senders
    → a.tg ≡ greatest_tg senders → b.tg ≡ second_tg senders → others_than b.tg (others_than a.tg senders) ≡ cs
    → IsWalk sg senders (planned sg (a ∷ b ∷ cs))
walk_two sg senders a b cs numbers gaps ina inb top next left =
    let plan : List Sender = planned sg (a ∷ b ∷ cs) in
    let f : Sender → ℕ = λ (s : Sender). offset_in plan s.number in
    let is : plan ≡ map (placed plan) (a ∷ b ∷ cs) = planned_is sg (a ∷ b ∷ cs) numbers in
    let zero_a : 0 ≡ f a = ap first_at is in
    let at_b : longest a + second_gap sg a b ≡ f b = ap (λ l. first_at (later_of l)) is in
    let rest : behind (longest a + second_gap sg a b + longest b) cs ≡ map (placed plan) cs = ap (λ l. later_of (later_of l)) is in
    let long_a : longest_with (greatest_tg senders) senders ≡ longest a = ap (λ (t : ℕ). longest_with t senders) (sym top)
    ∙ longest_found senders gaps a ina in
    let long_b : longest_with (second_tg senders) senders ≡ longest b = ap (λ (t : ℕ). longest_with t senders) (sym next)
    ∙ longest_found senders gaps b inb in
    let gap : gap_between sg (greatest_tg senders) (second_tg senders) ≡ second_gap sg a b =
    ap (λ (t : ℕ). gap_between sg t (second_tg senders)) (sym top) ∙ ap (λ (t : ℕ). gap_between sg a.tg t) (sym next) in
    let at : start_at sg senders ≡ longest a + second_gap sg a b =
    ap (λ (n : ℕ). n + gap_between sg (greatest_tg senders) (second_tg senders)) long_a ∙ ap (λ (n : ℕ). longest a + n) gap in
    let end : start_end sg senders ≡ longest a + second_gap sg a b + longest b =
    ap (λ (n : ℕ). n + longest_with (second_tg senders) senders) at ∙ ap (λ (n : ℕ). longest a + second_gap sg a b + n) long_b in
    let remain : others_than (second_tg senders) (others_than (greatest_tg senders) senders) ≡ cs =
    ap (λ (t : ℕ). others_than t (others_than (greatest_tg senders) senders)) (sym next)
    ∙ ap (λ (t : ℕ). others_than b.tg (others_than t senders)) (sym top) ∙ left in
    walked (greatest_tg senders) (second_tg senders) (start_at sg senders) (start_end sg senders) f senders
    (λ s i e. ap f (same_by_tg senders gaps s a i ina (e ∙ sym top)) ∙ sym zero_a)
    (λ s i apart e. ap f (same_by_tg senders gaps s b i inb (e ∙ sym next)) ∙ sym at_b ∙ sym at)
    (ap (map (placed plan)) remain ∙ sym rest ∙ ap (λ (n : ℕ). behind n cs) (sym end) ∙ ap (behind (start_end sg senders)) (sym remain))

walk_second : (sg : ℕ) (senders : List Sender) (a : Sender) (bs sec : List Sender) → Differ (λ s. s.number) (a ∷ sec)
    → Differ (λ s. s.tg) senders → ((x : Sender) → In x senders → In x (a ∷ bs)) → ((x : Sender) → In x (a ∷ bs) → In x senders)
    → ((x : Sender) → In x sec → In x bs)
    → Led senders (a ∷ bs) → Led bs sec → bs ≡ others_than a.tg senders → Leaves bs sec → IsWalk sg senders (planned sg (a ∷ sec))
walk_second sg senders a bs [] numbers gaps full sub of led led2 left left2 =
    walk_one sg senders a led.0 (sym left ∙ left2) (λ x i. elim (full x i) [ inl e ↦ e | inr j ↦ absurd (subst (λ l. In x l) left2 j) ])
walk_second sg senders a bs (b ∷ cs) numbers gaps full sub of led led2 left left2 =
    walk_two sg senders a b cs numbers gaps (sub a (inl refl)) (sub b (inr (of b (inl refl)))) led.0
    (led2.0 ∙ led.1) (ap (others_than b.tg) (sym left) ∙ sym left2)

pub offsets_walk : (sg : ℕ) (senders : List Sender) → Differ (λ s. s.number) senders → Differ (λ s. s.tg) senders
    → IsWalk sg senders (planned sg (planned_order senders))
offsets_walk sg senders numbers gaps =
    by_led (greatest_first senders) (differ_greatest (λ s. s.number) senders numbers) (differ_greatest (λ s. s.tg) senders gaps)
    (in_greatest senders) (from_greatest senders) (led_greatest senders) (leaves_greatest senders gaps)
  where
    by_led : (led : List Sender) → Differ (λ s. s.number) led → Differ (λ s. s.tg) led → ((x : Sender) → In x senders → In x led)
        → ((x : Sender) → In x led → In x senders) → Led senders led → Leaves senders led
        → IsWalk sg senders (planned sg (second_greatest led))
    by_led [] n t full sub h l = walk_none sg senders l
    by_led (a ∷ bs) n t full sub h l = walk_second sg senders a bs (greatest_first bs) (
      (λ x i. n.0 x (from_greatest bs x i)),
      differ_greatest (λ s. s.number) bs n.1,
    ) gaps full sub (from_greatest bs) h (led_greatest bs) l (leaves_greatest bs t.1)

-- ---- steps of the walk
pub walk_push : (first second at end : ℕ) (ss : List Sender) (s : Sender)
    → walk first second at end (ss ++ s ∷ [])
    ≡ walk first second at end ss ++ offset_for first second at (walk_end first second end ss) s ∷ []
walk_push first second at end [] s = refl
walk_push first second at end (t ∷ ss) s =
    ap (λ l. offset_for first second at end t ∷ l) (walk_push first second at (end_after first second end t) ss s)

pub walk_end_push : (first second end : ℕ) (ss : List Sender) (s : Sender)
    → walk_end first second end (ss ++ s ∷ []) ≡ end_after first second (walk_end first second end ss) s
walk_end_push first second end [] s = refl
walk_end_push first second end (t ∷ ss) s = walk_end_push first second (end_after first second end t) ss s

pub length-walk : (first second at end : ℕ) (ss : List Sender) → length (walk first second at end ss) ≡ length ss
length-walk first second at end [] = refl
length-walk first second at end (t ∷ ss) = let rest = length-walk first second at (end_after first second end t) ss in omega (arith, rest)
