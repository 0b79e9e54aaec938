-- Lines that are spelled, one after another.
use Rattle.std.proofs.Common.{arith, ◌≡◌, ℕ, ◌<◌, ◌≤◌, ◌^◌, Bool, true, false, not, cond, List, [], ◌∷◌, ◌++◌}
use Rattle.std.proofs.Common.{length, Option, Some, Result, Ok, refl, sym, ap, subst, ◌∙◌, append_assoc}
use Rattle.std.specs.List.{join_with_byte, AllByRecursion}
use Rattle.std.specs.Fmt.{decimal}
use Rattle.std.specs.Int.{is_in_range}
use Rattle.std.proofs.lemmas.Bool.Decides.{nat_tests}
use Rattle.std.proofs.lemmas.List.Splits.{slice_split_at, slice_split_none}
use Rattle.std.proofs.lemmas.List.Elements.{All-from_recursion}
use Rattle.std.proofs.lemmas.Fmt.{length-decimal-le}
use Rattle.bus_text.specs.Lines.{is_blank}
use Rattle.bus_text.specs.Canonical.{spelled_line, spelled_lines}
use Rattle.bus_text.specs.inside.Spelled.{IsField, IsFieldByte}
use Rattle.bus_text.specs.Refusals.{unless}
use Rattle.bus_text.proofs.CanonicalLaws.{feedless_line}
use Rattle.bus_trace.specs.declared.reason.TraceReason.{TraceReason}
use Rattle.bus_trace.specs.Limits.{line_limit}
use Rattle.bus_trace.specs.Traces.{Line}
use Rattle.bus_trace.specs.States.{State}
use Rattle.bus_trace.specs.States.{is_space, spaced_fields, is_ended}
use Rattle.bus_trace.specs.States.{fields_step, step}
use Rattle.bus_trace.specs.Runs.{Going, Found, judged, run, ◌>>-◌}
use Rattle.bus_trace.proofs.Runs.{run-append, run-whole_line}

-- ---- fields of a line that joins fields
pub no_space : (b : ℕ) → is_blank b ≡ false → is_space b ≡ false
no_space b h = grind (arith, nat_tests)

pub spaceless : (f : List ℕ) → AllByRecursion IsFieldByte f → AllByRecursion (λ b. is_space b ≡ false) f
spaceless [] h = tt
spaceless (b ∷ bs) h = (no_space b h.0.no_blank, spaceless bs h.1)

pub fields_again : (fields : List (List ℕ)) → 0 < length fields → AllByRecursion IsField fields
    → spaced_fields (join_with_byte 32 fields) ≡ fields
fields_again [] some h = absurd (omega arith)
fields_again (f ∷ []) some h = slice_split_none is_space f (All-from_recursion _ f (spaceless f h.0.bytes))
fields_again (f ∷ g ∷ fields) some h =
    slice_split_at is_space f 32 (join_with_byte 32 (g ∷ fields)) (All-from_recursion _ f (spaceless f h.0.bytes)) refl
    ∙ ap (λ fs. f ∷ fs) (fields_again (g ∷ fields) (omega arith) h.1)

-- ---- lines, one after another
-- a line that has fields, and no more bytes than a line may have
pub record FitsLine (fields : Line) : Type 0 where
  pub some : 0 < length fields
  pub all : AllByRecursion IsField fields
  pub short : length (join_with_byte 32 fields) ≤ line_limit

-- where a line leads, what follows goes on from there
pub line_again : (s n : State) (fields : Line) (rest : List ℕ) → FitsLine fields → fields_step s fields ≡ Ok n
    → run (record { state = s; line = [] }) (spelled_line fields ++ rest) ≡ (judged s (Ok n) >>- λ m. run m rest)
unfolding step
line_again s n fields rest f h =
    run-append (record { state = s; line = [] }) (spelled_line fields) rest
    ∙ ap (λ o. o >>- λ m. run m rest)
    (run-whole_line (record { state = s; line = [] }) (join_with_byte 32 fields) (feedless_line fields f.all) (omega (arith, f.short))
    ∙ ap (judged s) (ap (fields_step s) (fields_again fields f.some f.all) ∙ h))

-- these lines lead from one state to another, and none of them ends the text
abbrev pub Leads : State → List Line → State → Type 0
Leads s [] n = s ≡ n
Leads s (fields ∷ lines) n = FitsLine fields × ((m : State) × (fields_step s fields ≡ Ok m) × (is_ended m.position ≡ false)
    × Leads m lines n)

pub leads_run : (s n : State) (lines : List Line) (rest : List ℕ) → Leads s lines n
    → run (record { state = s; line = [] }) (spelled_lines lines ++ rest) ≡ run (record { state = n; line = [] }) rest
leads_run s n [] rest h = ap (λ (x : State). run (record { state = x; line = [] }) rest) h
leads_run s n (fields ∷ lines) rest h =
    let m : State = h.1.0 in
    ap (run (record { state = s; line = [] })) (append_assoc (spelled_line fields) (spelled_lines lines) rest)
    ∙ line_again s m fields (spelled_lines lines ++ rest) h.0 h.1.1
    ∙ ap (λ t. cond t (Found m) (Going (record { state = m; line = [] })) >>- λ x. run x (spelled_lines lines ++ rest)) h.1.2
    ∙ leads_run m n lines rest h.1.3

pub leads_append : (s m n : State) (xs ys : List Line) → Leads s xs m → Leads m ys n → Leads s (xs ++ ys) n
leads_append s m n [] ys h k = subst (λ (x : State). Leads x ys n) (sym h) k
leads_append s m n (x ∷ xs) ys h k = (h.0, (h.1.0, h.1.1, h.1.2, leads_append h.1.0 m n xs ys h.1.3 k))

pub leads_one : (s n : State) (fields : Line) → FitsLine fields → fields_step s fields ≡ Ok n → is_ended n.position ≡ false
    → Leads s (fields ∷ []) n
leads_one s n fields f h e = (f, (n, h, e, refl))

-- ---- tests that pass
pub pass : {A : Type 0} (t : Bool) (r : TraceReason) (others : Option TraceReason) (x : A) (y : Result A TraceReason) → t ≡ true
    → unless others x ≡ y → unless (cond (not t) (Some r) others) x ≡ y
pass true r others x y h k = k
pass false r others x y h k = absurd cc

pub let_by : {A : Type 0} (t : Bool) (r : TraceReason) (others : Option TraceReason) (x : A) (y : Result A TraceReason) → t ≡ false
    → unless others x ≡ y → unless (cond t (Some r) others) x ≡ y
let_by true r others x y h k = absurd cc
let_by false r others x y h k = k

pub stand : {A : Type 0} (t : Bool) (x y z : A) → t ≡ true → x ≡ z → cond t x y ≡ z
stand true x y z h k = k
stand false x y z h k = absurd cc

pub within : (n lo hi : ℕ) → lo ≤ n → n ≤ hi → is_in_range lo hi n ≡ true
within n lo hi h k = grind (arith, nat_tests)

pub digits : (n most count : ℕ) → 0 < count → n ≤ most → most < 10 ^ count → most < 2 ^ 64 → length (decimal n) ≤ count
digits n most count c h k l = length-decimal-le count n c (omega (arith, h, k)) (omega (arith, h, l))
