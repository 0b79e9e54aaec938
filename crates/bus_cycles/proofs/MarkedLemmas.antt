-- Each fault is marked, and nothing else.
use Rattle.std.proofs.Common.{◌≡◌, ℕ, zero, suc, ◌+◌, Bool, true, false, cond, ltb, ◌||◌, List, [], ◌∷◌, ◌++◌, Option, Some, None, inl, inr, arith, sym, refl, ap, subst, ◌∙◌, append_assoc}
use Rattle.std.specs.Prelude.{slice_get}
use Rattle.std.specs.List.{flat_map, list_any}
use Rattle.std.specs.Option.{option_map_or}
use Rattle.std.proofs.lemmas.List.Sums.{sum_by-cons}
use Rattle.bus_strings.specs.Members.{In}
use Rattle.bus_findings.specs.declared.judgement.Judgement.{Judgement}
use Rattle.bus_findings.specs.Terminals.{fault_count, fault_sum, is_faulty}
use Rattle.bus_shapes.specs.declared.sent.Sent.{Sent}
use Rattle.bus_cycles.specs.Faults.{fault_at, fault_of, fault_text, fault_word, faults_of, has_fault, row_faults}
use Rattle.bus_cycles.specs.Laws.{IsPartOf}
use Rattle.bus_cycles.specs.MarkLaws.{FaultsAreMarked, NoFaultIsMarked}
use Rattle.bus_cycles.specs.Rows.{rows}
use Rattle.bus_cycles.specs.Surveys.{is_drawn}

-- ---- what is put of one of many is a part of what is put of all
pub part_of : {X : Type 0} (f : X → List ℕ) (xs : List X) (x : X) → In x xs → IsPartOf (f x) (flat_map f xs)
part_of f [] x i = absurd i
part_of f (y ∷ ys) x (inl same) = record { front = []; back = flat_map f ys; whole_is = ap (λ z. f z ++ flat_map f ys) (sym same) }
part_of f (y ∷ ys) x (inr i) =
    let r = part_of f ys x i in
    record {
      front = f y ++ r.front;
      back = r.back;
      whole_is = ap (λ t. f y ++ t) r.whole_is
          ∙ sym (append_assoc (f y) (r.front ++ f x) r.back)
          ∙ ap (λ t. t ++ r.back) (sym (append_assoc (f y) r.front (f x)));
    }

-- a part of a part
pub part_in : (part middle whole : List ℕ) → IsPartOf part middle → IsPartOf middle whole → IsPartOf part whole
part_in part middle whole a b = record {
  front = b.front ++ a.front;
  back = a.back ++ b.back;
  whole_is = b.whole_is
      ∙ ap (λ t. (b.front ++ t) ++ b.back) a.whole_is
      ∙ ap (λ t. t ++ b.back) (sym (append_assoc b.front (a.front ++ part) a.back))
      ∙ append_assoc (b.front ++ (a.front ++ part)) a.back b.back
      ∙ ap (λ t. t ++ (a.back ++ b.back)) (sym (append_assoc b.front a.front part));
}

pub part_front : (part whole more : List ℕ) → IsPartOf part whole → IsPartOf part (whole ++ more)
part_front part whole more a = part_in part whole (whole ++ more) a (record { front = []; back = more; whole_is = refl })

pub faults_marked : FaultsAreMarked
faults_marked page table window list judgements row sent found one own drawn at faulty =
    let text : fault_text page judgements row.place row.begin sent ≡ fault_at page row.place row.begin sent found =
    ap (λ b. cond b (fault_of page row.place row.begin sent (slice_get judgements sent.at)) []) drawn
    ∙ ap (fault_of page row.place row.begin sent) at
    ∙ ap (λ b. cond b (fault_at page row.place row.begin sent found) []) faulty in
    subst (λ t. IsPartOf t (faults_of page judgements (rows table window list))) text
    (part_in (fault_text page judgements row.place row.begin sent) (row_faults page judgements row) (faults_of page judgements (rows table window list))
    (part_front (fault_text page judgements row.place row.begin sent) (flat_map (fault_text page judgements row.place row.begin) row.sents)
    (fault_word page row.place (list_any (has_fault judgements) row.sents)) (part_of (fault_text page judgements row.place row.begin) row.sents sent own))
    (part_of (row_faults page judgements) (rows table window list) row one))

-- ---- nothing else
first : (a b : ℕ) → a + b ≡ 0 → a ≡ 0
first a b h = omega arith

second : (a b : ℕ) → a + b ≡ 0 → b ≡ 0
second a b h = omega arith

-- none of these has a fault
none_at : (judgements : List Judgement) (k : ℕ) (found : Judgement) → fault_sum judgements ≡ 0 → slice_get judgements k ≡ Some found → is_faulty found ≡ false
none_at [] k found none at = absurd cc
none_at (x ∷ xs) zero found none at =
    let same : x ≡ found = cc in
    let split : fault_count x + fault_sum xs ≡ 0 = sym (sum_by-cons fault_count x xs) ∙ none in
    let zero_is : fault_count x ≡ 0 = first (fault_count x) (fault_sum xs) split in
    ap (λ n. ltb 0 n) (ap fault_count (sym same) ∙ zero_is)
none_at (x ∷ xs) (suc k) found none at =
    let split : fault_count x + fault_sum xs ≡ 0 = sym (sum_by-cons fault_count x xs) ∙ none in
    none_at xs k found (second (fault_count x) (fault_sum xs) split) at

nothing_of : {X : Type 0} (f : X → List ℕ) (xs : List X) → ((x : X) → f x ≡ []) → flat_map f xs ≡ []
nothing_of f [] all = refl
nothing_of f (x ∷ xs) all = ap (λ t. t ++ flat_map f xs) (all x) ∙ nothing_of f xs all

none_of : {X : Type 0} (test : X → Bool) (xs : List X) → ((x : X) → test x ≡ false) → list_any test xs ≡ false
none_of test [] all = refl
none_of test (x ∷ xs) all = ap (λ b. b || list_any test xs) (all x) ∙ none_of test xs all

pub none_marked : NoFaultIsMarked
none_marked page judgements rows none =
    nothing_of (row_faults page judgements) rows (λ row.
    ap (λ t. t ++ fault_word page row.place (list_any (has_fault judgements) row.sents))
    (nothing_of (fault_text page judgements row.place row.begin) row.sents (λ sent. unmarked row.place row.begin sent))
    ∙ ap (fault_word page row.place) (none_of (has_fault judgements) row.sents (λ sent. untold sent (slice_get judgements sent.at) refl)))
  where
    unfound : (row begin : ℕ) (sent : Sent) (found : Option Judgement) → slice_get judgements sent.at ≡ found → fault_of page row begin sent found ≡ []
    unfound row begin sent None at = refl
    unfound row begin sent (Some found) at = ap (λ b. cond b (fault_at page row begin sent found) []) (none_at judgements sent.at found none at)

    untold : (sent : Sent) (found : Option Judgement) → slice_get judgements sent.at ≡ found → option_map_or is_faulty found false ≡ false
    untold sent None at = refl
    untold sent (Some found) at = none_at judgements sent.at found none at

    left_out : (b : Bool) (text : List ℕ) → text ≡ [] → cond b text [] ≡ []
    left_out true text e = e
    left_out false text e = refl

    unmarked : (row begin : ℕ) (sent : Sent) → fault_text page judgements row begin sent ≡ []
    unmarked row begin sent =
        left_out (is_drawn row) (fault_of page row begin sent (slice_get judgements sent.at)) (unfound row begin sent (slice_get judgements sent.at) refl)
