-- Transmissions laid one behind the other.
use Rattle.std.proofs.Common.{◌≡◌, ℕ, zero, suc, ◌+◌, ◌<◌, ◌≤◌, false, ltb, List, [], ◌∷◌, ◌++◌, get_or, inl, inr, arith, sym, refl, ap, subst}
use Rattle.std.proofs.lemmas.Bool.{le-ltb, and_right}
use Rattle.std.proofs.lemmas.List.{append-nil, append_assoc}
use Rattle.bus_strings.specs.Members.{In}
use Rattle.bus_strings.specs.Messages.{Message, Entry, bits}
use Rattle.bus_strings.specs.Transmissions.{end_of, overlaps, Precedes, IsAscending}
use Rattle.bus_table.specs.Tables.{Sender}
use Rattle.bus_medium.specs.inside.Lazy.{HaveEnded}
use Rattle.bus_schedule.specs.Closed.{sends, turns, turns_end, origin, gap_schedule}
use Rattle.bus_schedule.specs.Runs.{IsClear}
use Rattle.bus_strings.proofs.MemberLaws.{in_push_cases, ordered_push}

-- none begins before the one before has ended, and all have ended at moment e
pub record IsLaid (list : List Entry) (e : ℕ) : Type 0 where
  pub ended : HaveEnded list e
  pub begun : (x : Entry) → In x list → x.moment < e
  pub ascends : IsAscending list
  pub clear : IsClear list

pub laid_later : (list : List Entry) (e later : ℕ) → e ≤ later → IsLaid list e → IsLaid list later
laid_later list e later low laid = record {
  ended = λ x i. let k : end_of x ≤ e = laid.ended x i in omega arith;
  begun = λ x i. let k : x.moment < e = laid.begun x i in omega arith;
  ascends = laid.ascends;
  clear = laid.clear;
}

pub laid_push : (list : List Entry) (x : Entry) (e : ℕ) → e ≤ x.moment → 0 < bits x.message → IsLaid list e → IsLaid (list ++ x ∷ []) (end_of x)
laid_push list x e low some laid = record {
  ended = λ y i. elim (in_push_cases list x y i) [
    | inl old ↦ let k : end_of y ≤ e = laid.ended y old in omega arith
    | inr same ↦ let k : end_of y ≡ end_of x = ap end_of same in omega arith
  ];
  begun = λ y i. elim (in_push_cases list x y i) [
    | inl old ↦ let k : y.moment < e = laid.begun y old in omega arith
    | inr same ↦ let k : y.moment ≡ x.moment = ap (λ (z : Entry). z.moment) same in omega arith
  ];
  ascends = ordered_push Precedes list x laid.ascends (λ y i. let k : y.moment < e = laid.begun y i in inl (omega arith));
  clear = ordered_push (λ y z. overlaps y z ≡ false) list x laid.clear (λ y i.
      let k : end_of y ≤ e = laid.ended y i in
      and_right (ltb y.moment (end_of x)) (ltb x.moment (end_of y)) (le-ltb x.moment (end_of y) (omega arith)));
}

-- the turns of a round, behind a list
pub laid_turns : (hands : ℕ → List Message) (round : ℕ) (order : List Sender) (from : ℕ) (list : List Entry)
    → ((sender : Sender) → In sender order → 0 < bits (get_or (hands sender.number) round []))
    → IsLaid list from → IsLaid (list ++ turns hands round order from) (turns_end hands round order from)
laid_turns hands round [] from list some laid = subst (λ l. IsLaid l from) (sym (append-nil list)) laid
laid_turns hands round (sender ∷ order) from list some laid =
    let x : Entry = sends hands round sender (from + sender.tg) in
    let one : IsLaid (list ++ sends hands round sender (from + sender.tg) ∷ []) (end_of (sends hands round sender (from + sender.tg))) = laid_push list (sends hands round sender (from + sender.tg)) from (omega arith) (some sender (inl refl)) laid in
    subst (λ l. IsLaid l (turns_end hands round (sender ∷ order) from)) (append_assoc list (x ∷ []) (turns hands round order (end_of x)))
    (laid_turns hands round order (end_of x) (list ++ x ∷ []) (λ b i. some b (inr i)) one)

-- so many rounds
pub laid_schedule : (hands : ℕ → List Message) (sg : ℕ) (order : ℕ → List Sender) (n : ℕ)
    → ((sender : Sender) (round : ℕ) → In sender (order round) → round < n → 0 < bits (get_or (hands sender.number) round []))
    → IsLaid (gap_schedule hands sg order n) (origin hands sg order n)
laid_schedule hands sg order zero some = record { ended = λ x i. absurd i; begun = λ x i. absurd i; ascends = tt; clear = tt }
laid_schedule hands sg order (suc n) some =
    laid_later (gap_schedule hands sg order (suc n)) (turns_end hands n (order n) (origin hands sg order n)) (origin hands sg order (suc n)) (omega arith)
    (laid_turns hands n (order n) (origin hands sg order n) (gap_schedule hands sg order n) (λ sender i. some sender n i (omega arith)) (laid_schedule hands sg order n (λ sender round i less. some sender round i (omega arith))))
