-- Senders by number and by place.
use Rattle.std.specs.Prelude.{slice_get, nat_eq, ◌==◌}
use Rattle.std.specs.List.{position, position_or_len, IsDistinct, AllByRecursion}
use Rattle.std.proofs.Common.{◌≡◌, ◌≢◌, ℕ, zero, suc, ◌+◌, ◌<◌, Bool, true, false, cond, List, [], ◌∷◌, map, length, set, Some, None, inl, inr, arith, refl, ap, sym, subst, ◌∙◌}
use Rattle.std.proofs.lemmas.Bool.{cases_lt, cases_eq, cases_Bool, lt-ltb, le-ltb, eq-eqb, eqb-true}
use Rattle.std.proofs.lemmas.List.Folds.{find_at}
use Rattle.std.proofs.lemmas.Option.{slice_get_past}
use Rattle.bus_strings.specs.Messages.{Entry}
use Rattle.bus_table.specs.Fits.{sender_of}
use Rattle.bus_table.specs.Tables.{Sender, Table}
use Rattle.bus_bounds.specs.Bounds.{Bounds}
use Rattle.bus_findings.specs.declared.watch.Watch.{Watch}
use Rattle.bus_findings.specs.Recorded.{recorded}
use Rattle.bus_findings.specs.Judging.{judgement_of, judgement_by, of_stranger, of_sender, last_start}
use Rattle.bus_findings.specs.inside.Standing.{AreWatched, IsWatch}
use Rattle.bus_findings.proofs.WatchLemmas.{watch_kept}

pub same_some : {X : Type 0} (a b : X) → Some a ≡ Some b → a ≡ b
same_some a b e = cc

number_test : ℕ → Sender → Bool
number_test n s = s.number == n

-- no place, no sender; and the sender at a place
pub no_place : (senders : List Sender) (n : ℕ) → position (λ s. s.number == n) senders ≡ None → sender_of senders n ≡ None
unfolding number_test
no_place senders n h =
    let k : ℕ = position_or_len (number_test n) senders in
    find_at (number_test n) senders ∙ slice_get_past senders k (elim (cases_lt k (length senders)) [
      | inl within ↦ absurd (let e : Some k ≡ None = sym (ap (λ b. cond b (Some k) None) (lt-ltb k (length senders) within)) ∙ h in cc)
      | inr past ↦ past
    ])

pub at_place : (senders : List Sender) (n k : ℕ) → position (λ s. s.number == n) senders ≡ Some k → (k < length senders) × (sender_of senders n ≡ slice_get senders k)
unfolding number_test
at_place senders n k h =
    let m : ℕ = position_or_len (number_test n) senders in
    elim (cases_lt m (length senders)) [
      | inl within ↦
          let e : m ≡ k = same_some m k (sym (ap (λ b. cond b (Some m) None) (lt-ltb m (length senders) within)) ∙ h) in
          (omega (arith, within, e), find_at (number_test n) senders ∙ ap (slice_get senders) e)
      | inr past ↦ absurd (let e : None ≡ Some k = sym (ap (λ b. cond b (Some m) None) (le-ltb m (length senders) past)) ∙ h in cc)
    ]

-- what is found has the number, and where nothing is found nobody has
pub found_number : (senders : List Sender) (n : ℕ) (s : Sender) → sender_of senders n ≡ Some s → s.number ≡ n
found_number [] n s h = absurd (let e : None ≡ Some s = h in cc)
found_number (t ∷ senders) n s h =
    elim (cases_Bool (t.number == n)) [
      | inl holds ↦
          let e : t ≡ s = same_some t s (sym (ap (λ b. cond b (Some t) (sender_of senders n)) holds) ∙ h) in
          sym (ap (λ (z : Sender). z.number) e) ∙ eqb-true t.number n holds
      | inr fails ↦ found_number senders n s (sym (ap (λ b. cond b (Some t) (sender_of senders n)) fails) ∙ h)
    ]

pub none_number : (senders : List Sender) (n k : ℕ) (s : Sender) → sender_of senders n ≡ None → slice_get senders k ≡ Some s → s.number ≢ n
none_number [] n k s none h = λ e. (let q : None ≡ Some s = h in cc)
none_number (t ∷ senders) n zero s none h = λ e.
    let same : t ≡ s = same_some t s h in
    let holds : (t.number == n) ≡ true = eq-eqb t.number n (ap (λ (z : Sender). z.number) same ∙ e) in
    let q : Some t ≡ None = sym (ap (λ b. cond b (Some t) (sender_of senders n)) holds) ∙ none in cc
none_number (t ∷ senders) n (suc k) s none h =
    elim (cases_Bool (t.number == n)) [
      | inl holds ↦ (let q : Some t ≡ None = sym (ap (λ b. cond b (Some t) (sender_of senders n)) holds) ∙ none in absurd (cc))
      | inr fails ↦ none_number senders n k s (sym (ap (λ b. cond b (Some t) (sender_of senders n)) fails) ∙ none) h
    ]

-- of all numbers that differ each has one place
apart_at : (n : ℕ) (senders : List Sender) (k : ℕ) (s : Sender) → AllByRecursion (λ m. nat_eq n m ≡ false) (map (λ t. t.number) senders)
    → slice_get senders k ≡ Some s → nat_eq n s.number ≡ false
apart_at n [] k s h e = absurd (let q : None ≡ Some s = e in cc)
apart_at n (t ∷ senders) zero s h e = let same : t ≡ s = same_some t s e in subst (λ (z : Sender). nat_eq n z.number ≡ false) same h.0
apart_at n (t ∷ senders) (suc k) s h e = apart_at n senders k s h.1 e

pub one_place : (senders : List Sender) (j k : ℕ) (s t : Sender) → IsDistinct nat_eq (map (λ z. z.number) senders) → slice_get senders j ≡ Some s
    → slice_get senders k ≡ Some t → s.number ≡ t.number → j ≡ k
unfolding IsDistinct
one_place [] j k s t d a b e = absurd (let q : None ≡ Some s = a in cc)
one_place (z ∷ senders) zero zero s t d a b e = refl
one_place (z ∷ senders) zero (suc k) s t d a b e =
    let same : z ≡ s = same_some z s a in
    let fails : nat_eq z.number t.number ≡ false = apart_at z.number senders k t d.0 b in
    let holds : nat_eq z.number t.number ≡ true = eq-eqb z.number t.number (ap (λ (y : Sender). y.number) same ∙ e) in
    absurd (cc (holds, fails))
one_place (z ∷ senders) (suc j) zero s t d a b e =
    let same : z ≡ t = same_some z t b in
    let fails : nat_eq z.number s.number ≡ false = apart_at z.number senders j s d.0 a in
    let holds : nat_eq z.number s.number ≡ true = eq-eqb z.number s.number (ap (λ (y : Sender). y.number) same ∙ sym e) in
    absurd (cc (holds, fails))
one_place (z ∷ senders) (suc j) (suc k) s t d a b e = ap suc (one_place senders j k s t d.1 a b e)

-- what is found, of a stranger and of a sender
pub judged_stranger : (bounds : Bounds) (table : Table) (list : List Entry) (x : Entry) → sender_of table.senders x.terminal ≡ None
    → judgement_of bounds table list x ≡ of_stranger list x
unfolding judgement_of
judged_stranger bounds table list x none = ap (judgement_by bounds table list x) none

pub judged_sender : (bounds : Bounds) (table : Table) (list : List Entry) (x : Entry) (s : Sender) → sender_of table.senders x.terminal ≡ Some s
    → judgement_of bounds table list x ≡ of_sender bounds table list s x (last_start (recorded bounds list) x.terminal x.moment)
unfolding judgement_of
judged_sender bounds table list x s some = ap (judgement_by bounds table list x) some

-- ---- what is kept of all senders, with one more transmission

set_same : {X : Type 0} → (xs : List X) (i : ℕ) (y : X) → i < length xs → slice_get (set xs i y) i ≡ Some y
set_same [] i y h = absurd (omega (arith, h))
set_same (x ∷ xs) zero y h = refl
set_same (x ∷ xs) (suc i) y h = set_same xs i y (omega (arith, h))

set_other : {X : Type 0} → (xs : List X) (i j : ℕ) (y : X) → i ≢ j → slice_get (set xs i y) j ≡ slice_get xs j
set_other [] i j y apart = refl
set_other (x ∷ xs) zero zero y apart = absurd (apart refl)
set_other (x ∷ xs) zero (suc j) y apart = refl
set_other (x ∷ xs) (suc i) zero y apart = refl
set_other (x ∷ xs) (suc i) (suc j) y apart = set_other xs i j y (λ e. apart (ap suc e))

pub watched_stranger : (bounds : Bounds) (table : Table) (list : List Entry) (i : ℕ) (x : Entry) (watches : List Watch) → slice_get list i ≡ Some x
    → sender_of table.senders x.terminal ≡ None → AreWatched bounds table list i watches → AreWatched bounds table list (i + 1) watches
watched_stranger bounds table list i x watches at none are = record {
  enough = are.enough;
  each = λ k s w a b. watch_kept bounds table list s.number i x w at (λ e. none_number table.senders x.terminal k s none a (sym e)) (are.each k s w a b);
}

pub watched_sender : (bounds : Bounds) (table : Table) (list : List Entry) (i k : ℕ) (x : Entry) (s : Sender) (watches : List Watch) (new : Watch)
    → slice_get list i ≡ Some x → IsDistinct nat_eq (map (λ z. z.number) table.senders) → slice_get table.senders k ≡ Some s → s.number ≡ x.terminal
    → k < length watches → length (set watches k new) ≡ length watches → IsWatch bounds table list x.terminal (i + 1) new → AreWatched bounds table list i watches
    → AreWatched bounds table list (i + 1) (set watches k new)
watched_sender bounds table list i k x s watches new at distinct here number low long is are = record {
  enough = omega (arith, are.enough, long);
  each = λ j t w a b. elim (cases_eq k j) [
    | inl same ↦
        let e : Some new ≡ Some w = sym (set_same watches k new low) ∙ ap (slice_get (set watches k new)) same ∙ b in
        let who : s ≡ t = same_some s t (sym here ∙ ap (slice_get table.senders) same ∙ a) in
        let its : x.terminal ≡ t.number = sym number ∙ ap (λ (z : Sender). z.number) who in
        subst (IsWatch bounds table list t.number (i + 1)) (same_some new w e) (subst (λ n. IsWatch bounds table list n (i + 1) new) its is)
    | inr apart ↦
        let e : slice_get watches j ≡ Some w = sym (set_other watches k j new apart) ∙ b in
        watch_kept bounds table list t.number i x w at (λ q. apart (one_place table.senders k j s t distinct here a (number ∙ q))) (are.each j t w a e)
  ];
}

pub place_same : (senders told : List Sender) (n m : ℕ) → told ≡ senders → m ≡ n → position (λ s. s.number == m) told ≡ position (λ s. s.number == n) senders
place_same senders told n m a b = ap (position (λ (s : Sender). s.number == m)) a ∙ ap (λ k. position (λ (s : Sender). s.number == k) senders) b
