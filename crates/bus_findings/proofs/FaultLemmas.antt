-- A bus has no fault exactly where it is good.
use Rattle.std.specs.Prelude.{nat_lt, is_some, not, sum_by}
use Rattle.std.proofs.Common.{◌≡◌, ℕ, ◌+◌, Bool, true, false, List, [], ◌∷◌, Option, Some, None, inl, inr, arith, refl, ap, sym, ◌∙◌}
use Rattle.std.proofs.lemmas.Bool.{cases_lt, lt-ltb}
use Rattle.std.proofs.lemmas.List.Sums.{sum_by-cons}
use Rattle.bus_strings.specs.Members.{In}
use Rattle.bus_strings.specs.Messages.{Entry}
use Rattle.bus_table.specs.Fits.{fits, sender_of}
use Rattle.bus_table.specs.Tables.{Sender, Table}
use Rattle.bus_trace.specs.Traces.{Recording}
use Rattle.bus_bounds.specs.Bounds.{Bounds}
use Rattle.bus_findings.specs.declared.judgement.Judgement.{Judgement}
use Rattle.bus_findings.specs.declared.judgement.Late.{Late}
use Rattle.bus_findings.specs.Judging.{judgement_of}
use Rattle.bus_findings.specs.Laws.{IsUnblamed, IsOfSender, IsOfTable, AreOfTable, GoodBusHasNoFault, NoFaultIsGoodBus, GoodFileHasNoFault, CourseFileHasNoFault}
use Rattle.bus_findings.specs.Laws.{FilesAreUnblamed, CourseFilesAreUnblamed}
use Rattle.bus_findings.specs.Terminals.{once, fault_count, faults_among, has_fault}
use Rattle.bus_findings.proofs.DueLemmas.{cases_option}
use Rattle.bus_findings.proofs.SenderLemmas.{found_number, judged_stranger, judged_sender}
use Rattle.bus_findings.proofs.FileLemmas.{clean_is_unblamed, unblamed_is_clean}

-- ---- sums

none_sum : {X : Type 0} (f : X → ℕ) → (xs : List X) → ((x : X) → In x xs → f x ≡ 0) → sum_by f xs ≡ 0
none_sum f [] none = refl
none_sum f (x ∷ xs) none =
    let here : f x ≡ 0 = none x (inl refl) in
    let rest : sum_by f xs ≡ 0 = none_sum f xs (λ z i. none z (inr i)) in
    let all : sum_by f (x ∷ xs) ≡ f x + sum_by f xs = sum_by-cons f x xs in
    omega (arith, here, rest, all)

sum_none : {X : Type 0} (f : X → ℕ) → (xs : List X) (x : X) → sum_by f xs ≡ 0 → In x xs → f x ≡ 0
sum_none f [] x e i = absurd i
sum_none f (y ∷ xs) x e i =
    let all : sum_by f (y ∷ xs) ≡ f y + sum_by f xs = sum_by-cons f y xs in
    elim i [
      | inl same ↦ (let here : f x ≡ f y = ap f same in omega (arith, e, all, here))
      | inr later ↦ sum_none f xs x (omega (arith, e, all)) later
    ]

-- ---- of one transmission

-- no fault is found at it
record HasNone (j : Judgement) : Type 0 where
  own : j.stranger ≡ false
  unblamed : IsUnblamed j
  fitting : j.misfit ≡ false

no_count : (j : Judgement) → HasNone j → fault_count j ≡ 0
no_count j none =
    let a : once j.stranger ≡ 0 = ap once none.own in
    let b : once (nat_lt 0 j.interval) ≡ 0 = ap (λ n. once (nat_lt 0 n)) none.unblamed.interval in
    let c : once (nat_lt 0 j.sync_gap) ≡ 0 = ap (λ n. once (nat_lt 0 n)) none.unblamed.sync_gap in
    let d : once (nat_lt 0 j.terminal_gap) ≡ 0 = ap (λ n. once (nat_lt 0 n)) none.unblamed.terminal_gap in
    let e : once (is_some j.late) ≡ 0 = ap (λ (l : Option Late). once (is_some l)) none.unblamed.late in
    let f : once j.misfit ≡ 0 = ap once none.fitting in
    omega (arith, a, b, c, d, e, f)

not_once : (b : Bool) → once b ≡ 0 → b ≡ false
not_once false e = refl
not_once true e = absurd (omega (arith, e))

not_over : (n : ℕ) → once (nat_lt 0 n) ≡ 0 → n ≡ 0
not_over n e = elim (cases_lt 0 n) [
  | inl some ↦ absurd (let q : once (nat_lt 0 n) ≡ 1 = ap once (lt-ltb 0 n some) in omega (arith, e, q))
  | inr none ↦ omega arith
]

not_there : {X : Type 0} (o : Option X) → once (is_some o) ≡ 0 → o ≡ None
not_there None e = refl
not_there (Some x) e = absurd (omega (arith, e))

count_none : (j : Judgement) → fault_count j ≡ 0 → HasNone j
count_none j none = record {
  own = not_once j.stranger (omega (arith, none));
  unblamed = record {
    interval = not_over j.interval (omega (arith, none));
    sync_gap = not_over j.sync_gap (omega (arith, none));
    terminal_gap = not_over j.terminal_gap (omega (arith, none));
    late = not_there j.late (omega (arith, none));
  };
  fitting = not_once j.misfit (omega (arith, none));
}

not_not : (b : Bool) → not b ≡ false → b ≡ true
not_not true e = refl
not_not false e = absurd (let q : true ≡ false = e in cc)

-- a sender of the table whose message fits, and that isn't blamed, has none; and who has none is such a one
good_has_none : (bounds : Bounds) (table : Table) (trace : Recording) (x : Entry) (is : IsOfTable table x)
    → IsUnblamed (judgement_of bounds table trace.list x) → HasNone (judgement_of bounds table trace.list x)
good_has_none bounds table trace x is u =
    let e = judged_sender bounds table trace.list x is.sender is.sender_is in
    record {
      own = ap (λ (j : Judgement). j.stranger) e;
      unblamed = u;
      fitting = ap (λ (j : Judgement). j.misfit) e ∙ ap not is.fitting;
    }

none_is_good : (bounds : Bounds) (table : Table) (trace : Recording) (x : Entry) → HasNone (judgement_of bounds table trace.list x) → IsOfTable table x
none_is_good bounds table trace x none =
    elim (cases_option (sender_of table.senders x.terminal)) [
      | inl stranger ↦
          absurd (let q : true ≡ false = sym (ap (λ (j : Judgement). j.stranger) (judged_stranger bounds table trace.list x stranger)) ∙ none.own in cc)
      | inr some ↦ record {
        sender = some.0;
        sender_is = some.1;
        fitting = not_not (fits some.0 x.message)
            (sym (ap (λ (j : Judgement). j.misfit) (judged_sender bounds table trace.list x some.0 some.1)) ∙ none.fitting);
      }
    ]

-- ---- of all

no_fault : (n : ℕ) → n ≡ 0 → nat_lt 0 n ≡ false
no_fault n e = ap (nat_lt 0) e

unblamed_no_fault : (bounds : Bounds) (table : Table) (trace : Recording) → AreOfTable table trace
    → ((sender : Sender) (x : Entry) → IsOfSender table trace sender x → sender_of table.senders sender.number ≡ Some sender
    → IsUnblamed (judgement_of bounds table trace.list x)) → has_fault bounds table trace ≡ false
unblamed_no_fault bounds table trace own none =
    no_fault (faults_among bounds table trace.list trace.list)
    (none_sum (λ x. fault_count (judgement_of bounds table trace.list x)) trace.list (λ x i.
    let is : IsOfTable table x = own x i in
    let number : is.sender.number ≡ x.terminal = found_number table.senders x.terminal is.sender is.sender_is in
    no_count (judgement_of bounds table trace.list x)
    (good_has_none bounds table trace x is
    (none is.sender x (record { there = i; sender_is = is.sender_is }) (ap (sender_of table.senders) number ∙ is.sender_is)))))

pub good_no_fault : GoodBusHasNoFault
good_no_fault bounds table trace t own clean =
    unblamed_no_fault bounds table trace own (λ sender x is found. clean_is_unblamed bounds table trace sender x t (clean sender found) is)

pub good_file_no_fault : FilesAreUnblamed → GoodFileHasNoFault
good_file_no_fault files bounds table trace t own keep =
    unblamed_no_fault bounds table trace own (λ sender x is found. files bounds table trace sender x t (keep sender found) is)

pub course_file_no_fault : CourseFilesAreUnblamed → CourseFileHasNoFault
course_file_no_fault files bounds table trace t own keep =
    unblamed_no_fault bounds table trace own (λ sender x is found. files bounds table trace sender x t (keep sender found) is)

pub no_fault_is_good : NoFaultIsGoodBus
no_fault_is_good bounds table trace t none =
    let f : Entry → ℕ = λ x. fault_count (judgement_of bounds table trace.list x) in
    let sum : sum_by f trace.list ≡ 0 = not_over (sum_by f trace.list) (ap once none) in
    let each : (x : Entry) → In x trace.list → HasNone (judgement_of bounds table trace.list x) =
    λ x i. count_none (judgement_of bounds table trace.list x) (sum_none f trace.list x sum i) in (
      λ x i. none_is_good bounds table trace x (each x i),
      λ sender found. unblamed_is_clean bounds table trace sender t found (λ x is. (each x is.there).unblamed),
    )
