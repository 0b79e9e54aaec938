-- A text that is read whole.
use Rattle.std.specs.Prelude.{◌≡◌, ℕ, ◌≤◌, ◌<◌, nat_lt, true, false, List, length, Option, Some, None, IfSome, Vec, Ok, Err}
use Rattle.std.specs.declared.alloc.Global.{Global}
use Rattle.std.proofs.Common.{arith, refl, sym, ap, subst, cond}
use Rattle.std.proofs.lemmas.Bool.Decides.{nat_tests}
use Rattle.std.proofs.lemmas.List.{length-append}
use Rattle.bus_outer.specs.Sources.{Taken, ReadsWhole, CountsRead}
use Rattle.bus_outer.specs.declared.whole.ReadError.{ReadError}
use Rattle.bus_outer.specs.declared.whole.ReadError.TheVariants.{Fault, TooLarge as Larger, Memory}
use Rattle.bus_command.specs.declared.outcome.Outcome.TheVariants.{TooLarge}
use Rattle.bus_command.specs.Stages.{stage_in}
use Rattle.bus_command.specs.Outside.{Seen}
use Rattle.bus_command.specs.Readers.{Entire}
use Rattle.bus_command.specs.Steps.{IsText, Takes}
use Rattle.bus_command.specs.inside.Steps.{read_refusal}
use Rattle.bus_command.specs.Due.{text_within}
use Rattle.bus_command.proofs.StageLaws.{if_map, some_all, told_or}

-- what was taken is no longer than the text
taken_within : (old new : Option (List ℕ)) (taken : List ℕ) → Taken old new taken → IfSome old (λ text. length taken ≤ length text)
taken_within old None taken h = subst (λ o. IfSome o (λ text. length taken ≤ length text)) (sym h) tt
taken_within old (Some rest) taken h = subst (λ o. IfSome o (λ text. length taken ≤ length text)) (sym h) (omega (arith, length-append taken rest))

pub short_text : {R : Type 0} (limit number : ℕ) (text : List ℕ) → length text ≤ limit → text_within {R = R} limit number text ≡ Ok text
short_text limit number text h = (let short : nat_lt limit (length text) ≡ false = grind (arith, nat_tests) in ap (λ b. cond b (Err (TooLarge number)) (Ok text)) short)

large_text : {R : Type 0} (limit number : ℕ) (text : List ℕ) → limit < length text → text_within {R = R} limit number text ≡ Err (TooLarge number)
large_text limit number text h = (let long : nat_lt limit (length text) ≡ true = grind (arith, nat_tests) in ap (λ b. cond b (Err (TooLarge number)) (Ok text)) long)

pub text_stage : (R : Type 0) (limit number : ℕ) (text : List ℕ) → number ≤ 3 → number ≤ stage_in (text_within {R = R} limit number text)
text_stage R limit number text h = elim (nat_lt limit (length text)) as (λ b. number ≤ stage_in {R = R} (cond b (Err (TooLarge number)) (Ok text))) [ true ↦ omega arith | false ↦ h ]

short_of : {R : Type 0} (limit number : ℕ) (v : Vec ℕ Global) (text : List ℕ) → length v.items ≤ limit → v.items ≡ text → text_within {R = R} limit number text ≡ Ok text
short_of limit number v text h same = short_text limit number text (subst (λ l. length l ≤ limit) same h)

pub text_taken : {R : Type 0} (limit number : ℕ) (old new : Seen) (v : Vec ℕ Global) → IfSome old.bytes (λ text. v.items ≡ text) → ReadsWhole limit old.bytes new.bytes (Ok v) → new.faults ≡ old.faults → Takes {R = R} IsText number (Entire limit) (text_within limit number) old new (Ok v)
text_taken limit number old new v whole r counts = record {
  gives = told_or old.bytes _ v.items (v.items, short_text limit number v.items r.2, refl)
      (if_map old.bytes _ _ (λ text same. (text, short_of limit number v text r.2 same, same)) whole);
  reads = ((v.items, r.0, r.2), r.1);
  stops = tt;
  counts = counts;
}

pub text_refused : {R : Type 0} (limit number : ℕ) (old new : Seen) (e : ReadError) → 1 ≤ number → number ≤ 2 → ReadsWhole limit old.bytes new.bytes (Err e) → CountsRead {T = Vec ℕ Global} old.faults new.faults (Err e)
    → Takes {R = R} {X = Vec ℕ Global} IsText number (Entire limit) (text_within limit number) old new (Err (read_refusal number e))
text_refused {R} limit number old new Fault some few r counts = record {
  gives = some_all old.bytes _ (λ text. text_stage R limit number text (omega arith));
  reads = r;
  stops = refl;
  counts = counts;
}
text_refused limit number old new Larger some few r counts = record {
  gives = told_or old.bytes _ r.0 (large_text limit number r.0 r.2.0)
      (if_map old.bytes _ _ (λ text longer. large_text limit number text (omega (arith, longer, r.2.0))) (taken_within old.bytes new.bytes r.0 r.1));
  reads = r;
  stops = refl;
  counts = counts;
}
text_refused {R} limit number old new Memory some few r counts = record {
  gives = some_all old.bytes _ (λ text. let s = text_stage R limit number text (omega arith) in omega arith);
  reads = r;
  stops = tt;
  counts = counts;
}
