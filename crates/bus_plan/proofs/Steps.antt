-- The steps of the code's walk.
use Rattle.std.specs.Prelude.{◌≡◌, ℕ, zero, suc, ◌+◌, ◌<◌, ◌≤◌, List, [], ◌∷◌, ◌++◌, take, get_or, length}
use Rattle.std.specs.List.{All}
use Rattle.std.proofs.Common.{inl, inr, arith, sym, refl, ap, ◌∙◌, subst}
use Rattle.std.proofs.lemmas.List.{take_all}
use Rattle.bus_strings.specs.Members.{In}
use Rattle.bus_strings.proofs.ListLaws.{take_read}
use Rattle.bus_table.specs.Tables.{Sender, Table}
use Rattle.bus_table.specs.inside.Facts.{SenderFacts, TableFacts}
use Rattle.bus_table.proofs.TurnLaws.{of_each, numbers_differ, gaps_differ}
use Rattle.bus_plan.specs.inside.Greatest.{greatest_tg, second_tg}
use Rattle.bus_plan.specs.Plans.{planned_offsets}
use Rattle.bus_plan.specs.inside.Walks.{offset_for, end_after, walk, walk_end, longest_with, gap_between}
use Rattle.bus_plan.proofs.Walking.{offsets_walk, walk_push, walk_end_push}

greatest_at_most : (n : ℕ) (senders : List Sender) → ((s : Sender) → In s senders → s.tg ≤ n)
    → (greatest_tg senders ≤ n) × (second_tg senders ≤ n)
greatest_at_most n [] h = (omega arith, omega arith)
greatest_at_most n (s ∷ senders) h =
    let one = h s (inl refl) in
    let rest = greatest_at_most n senders (λ x i. h x (inr i)) in
    let p = rest.0 in
    let q = rest.1 in
    (omega (arith, one, p), omega (arith, one, p, q))

pub tops_small : (table : Table) → TableFacts table → (senders : List Sender) → senders ≡ table.senders
    → (greatest_tg senders ≤ 256) × (second_tg senders ≤ 256)
tops_small table facts senders e =
    subst (λ ss. (greatest_tg ss ≤ 256) × (second_tg ss ≤ 256)) (sym e)
    (greatest_at_most 256 table.senders (λ s i. (of_each (SenderFacts table) table.senders facts.senders s i).tg_most))

pub walk_next : (first second at end : ℕ) (ss : List Sender) (i : ℕ) (s : Sender) → i < length ss → s ≡ get_or ss i s
    → walk first second at end (take (i + 1) ss)
    ≡ walk first second at end (take i ss) ++ offset_for first second at (walk_end first second end (take i ss)) s ∷ []
walk_next first second at end ss i s h e = ap (walk first second at end) (take_read ss i s h e) ∙ walk_push first second at end (take i ss) s

pub walk_end_next : (first second end : ℕ) (ss : List Sender) (i : ℕ) (s : Sender) → i < length ss → s ≡ get_or ss i s
    → walk_end first second end (take (i + 1) ss) ≡ end_after first second (walk_end first second end (take i ss)) s
walk_end_next first second end ss i s h e = ap (walk_end first second end) (take_read ss i s h e) ∙ walk_end_push first second end (take i ss) s

pub walk_told : (table : Table) → TableFacts table → (senders : List Sender) → senders ≡ table.senders
    → (items : List ℕ) (n first second long gap sg : ℕ)
    → length senders ≤ n → items ≡ walk first second (long + gap) (long + gap + longest_with second senders) (take n senders)
    → first ≡ greatest_tg senders → second ≡ second_tg senders → long ≡ longest_with first senders → gap ≡ gap_between sg first second
    → sg ≡ table.sg → items ≡ planned_offsets table
walk_told table facts senders same items n first second long gap sg all is f s l g t =
    is
    ∙ ap (walk first second (long + gap) (long + gap + longest_with second senders)) (take_all n senders all)
    ∙ ap (λ (x : ℕ). walk first second (x + gap) (x + gap + longest_with second senders) senders) l
    ∙ ap (λ (x : ℕ). walk first second (longest_with first senders + x)
    (longest_with first senders + x + longest_with second senders) senders) (g ∙ ap (λ (x : ℕ). gap_between x first second) t)
    ∙ ap (λ (x : ℕ). walk x second (longest_with x senders + gap_between table.sg x second)
    (longest_with x senders + gap_between table.sg x second + longest_with second senders) senders) f
    ∙ ap (λ (x : ℕ). walk (greatest_tg senders) x
    (longest_with (greatest_tg senders) senders + gap_between table.sg (greatest_tg senders) x)
    (longest_with (greatest_tg senders) senders + gap_between table.sg (greatest_tg senders) x + longest_with x senders) senders) s
    ∙ ap (λ (ss : List Sender). walk (greatest_tg ss) (second_tg ss)
    (longest_with (greatest_tg ss) ss + gap_between table.sg (greatest_tg ss) (second_tg ss))
    (longest_with (greatest_tg ss) ss + gap_between table.sg (greatest_tg ss) (second_tg ss) + longest_with (second_tg ss) ss) ss) same
    ∙ sym (offsets_walk table.sg table.senders (numbers_differ table facts) (gaps_differ table facts))

pub all_of : (P : ℕ → Type 0) (xs : List ℕ) → ((n : ℕ) → In n xs → P n) → All P xs
all_of P [] h k d l = absurd (omega arith)
all_of P (x ∷ xs) h zero d l = h x (inl refl)
all_of P (x ∷ xs) h (suc k) d l = all_of P xs (λ n i. h n (inr i)) k d (omega arith)
