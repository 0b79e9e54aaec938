-- A call over texts in memory.
use Rattle.std.specs.Prelude.{◌≡◌, ◌≢◌, ℕ, List, Option, Some, None, IfSome, IsNone, ◌↔◌}
use Rattle.std.proofs.Common.{arith, refl, sym, ap, subst, inl, inr}
use Rattle.bus_outer.specs.Faults.{Fails}
use Rattle.bus_command.specs.declared.outcome.Outcome.TheVariants.{Usage, Own, ReadFault, WriteFault, NoMemory}
use Rattle.bus_command.specs.declared.refusal.Place.TheVariants.{First, Second, Both}
use Rattle.bus_command.specs.declared.status.Status.{Status}
use Rattle.bus_command.specs.declared.status.Status.TheVariants as status
use Rattle.bus_command.specs.Kinds.{kind_of, stage_of}
use Rattle.bus_command.specs.Stages.{MayReplace}
use Rattle.bus_command.specs.Outside.{Seen, Outside, both, around, called}
use Rattle.bus_command.specs.Readers.{Named, First as AtFirst, Second as AtSecond, FailsToRead, SourceCounts, OutCounts, ForTexts}
use Rattle.bus_tool.specs.Forms.{Form, OnTable, OnMessages, OnTrace, Unwave, Drill, OnItself, Explain, ExplainBeside, Facts, Cable, form_of}
use Rattle.bus_tool.specs.Refusals.{Outcome, ToolRefusal, status_of, ends_of, TableMode, Unspaced, WaveText, Uneven, NotAccepted, ShortLast, TooLong, CableText, CableUnfit}
use Rattle.bus_tool.specs.Commands.{command_of, outcome_for}
use Rattle.bus_tool.specs.Acts.{Acts}
use Rattle.bus_tool.specs.inside.Acting.{DoesForm}
use Rattle.bus_tool.specs.InMemory.{IsStatusOf, IsStatusDue}

-- a source in memory with these bytes
abbrev steady : List ℕ → Seen
steady xs = record { bytes = Some xs; faults = 0 }

-- a sink that only counts
abbrev counting : Seen
counting = record { bytes = None; faults = 0 }

-- what a call sees over both
abbrev pub in_memory : List ℕ → List ℕ → Outside
in_memory first second = around (both (steady first) (steady second)) counting

-- their counts never rise
no_fault : Fails 0 0 → ⊥
no_fault f = elim f.1 [ inl h ↦ omega (arith, h) | inr h ↦ omega (arith, h) ]

no_read : (named : Named) (f s f' s' : List ℕ) (source : ℕ) → FailsToRead named (both (steady f) (steady s)) (both (steady f') (steady s')) source → ⊥
no_read named f s f' s' source (AtFirst is some rises stays) = no_fault rises
no_read named f s f' s' source (AtSecond is some stays rises) = no_fault rises

-- what is due of a form over texts that are told
of_form : (form : Form) (first second : List ℕ) (o : Outcome)
    → ForTexts (command_of form).named (both (steady first) (steady second)) (λ a b. MayReplace ((command_of form).due a b) o) → MayReplace ((command_of form).due first second) o
of_form (OnTable command) first second o h = h
of_form (OnMessages command) first second o h = h
of_form (OnTrace command) first second o h = h
of_form Unwave first second o h = h
of_form (Drill number) first second o h = h
of_form (OnItself about) first second o h = h
of_form Explain first second o h = h
of_form ExplainBeside first second o h = h
of_form Facts first second o h = h
of_form (Cable horizon) first second o h = h

-- an outcome that stands for the one that is due, where nothing failed
stands_status : (due o : Outcome) (named : Named) (f s f' s' : List ℕ) → MayReplace due o → SourceCounts named (both (steady f) (steady s)) (both (steady f') (steady s')) (kind_of o) → OutCounts counting counting (kind_of o) → o ≢ Usage → IsStatusOf due (status_of o)
stands_status due (ReadFault source) named f s f' s' h counts out form = absurd (no_read named f s f' s' source counts)
stands_status due WriteFault named f s f' s' h counts out form = absurd (no_fault out)
stands_status due NoMemory named f s f' s' h counts out form = inr (refl, λ e. (let z : stage_of (kind_of due) ≡ 0 = ap (λ o. stage_of (kind_of o)) e in omega arith))
stands_status due Usage named f s f' s' h counts out form = absurd (form refl)
stands_status due (Own First why) named f s f' s' h counts out form = inl (ap status_of (sym h))
stands_status due (Own Second why) named f s f' s' h counts out form = inl (ap status_of (sym h))
stands_status due (Own Both why) named f s f' s' h counts out form = inl (ap status_of (sym h))
stands_status due o named f s f' s' h counts out form = inl (ap status_of (sym h))

status_for : (form : Option Form) (o : Outcome) (f s f' s' : List ℕ) → (o ≡ Usage) ↔ IsNone form → IfSome form (λ form. DoesForm form (in_memory f s) (in_memory f' s') o) → IsStatusOf (outcome_for form f s) (status_of o)
status_for None o f s f' s' usage does = inl (ap status_of (usage.1 refl))
status_for (Some form) o f s f' s' usage does = stands_status ((command_of form).due f s) o (command_of form).named f s f' s' (of_form form f s o does.due) does.counts does.out_count does.form

pub answer_due : (words : List (List ℕ)) (f s f' s' : List ℕ) (o : Outcome) → Acts (called words (in_memory f s) (in_memory f' s')) o → IsStatusDue words f s (status_of o)
answer_due words f s f' s' o acts = status_for (form_of words) o f s f' s' acts.usage acts.does

-- and no fault is answered
own_no_fault : (why : ToolRefusal) → (ends_of why ≡ status.ReadFault → ⊥) × (ends_of why ≡ status.WriteFault → ⊥)
own_no_fault (TableMode needed) = (λ e. cc, λ e. cc)
own_no_fault (Unspaced fault) = (λ e. cc, λ e. cc)
own_no_fault (WaveText line reason) = (λ e. cc, λ e. cc)
own_no_fault (Uneven one one_count other other_count) = (λ e. cc, λ e. cc)
own_no_fault (NotAccepted verdict) = (λ e. cc, λ e. cc)
own_no_fault (ShortLast least ti) = (λ e. cc, λ e. cc)
own_no_fault (TooLong end) = (λ e. cc, λ e. cc)
own_no_fault (CableText line reason) = (λ e. cc, λ e. cc)
own_no_fault (CableUnfit error) = (λ e. cc, λ e. cc)

no_fault_of : (o : Outcome) (form : Option Form) (f s f' s' : List ℕ) → (o ≡ Usage) ↔ IsNone form → IfSome form (λ form. DoesForm form (in_memory f s) (in_memory f' s') o) → (status_of o ≡ status.ReadFault → ⊥) × (status_of o ≡ status.WriteFault → ⊥)
no_fault_of (ReadFault source) None f s f' s' usage does = absurd (let u : (let o : Outcome = ReadFault source in o) ≡ Usage = usage.1 refl in cc)
no_fault_of (ReadFault source) (Some form) f s f' s' usage does = absurd (no_read (command_of form).named f s f' s' source does.counts)
no_fault_of WriteFault None f s f' s' usage does = absurd (let u : (let o : Outcome = WriteFault in o) ≡ Usage = usage.1 refl in cc)
no_fault_of WriteFault (Some form) f s f' s' usage does = absurd (no_fault does.out_count)
no_fault_of (Own place why) form f s f' s' usage does = own_no_fault why
no_fault_of o form f s f' s' usage does = (λ e. cc, λ e. cc)

pub answer_unfailing : (words : List (List ℕ)) (f s f' s' : List ℕ) (o : Outcome) → Acts (called words (in_memory f s) (in_memory f' s')) o → (status_of o ≡ status.ReadFault → ⊥) × (status_of o ≡ status.WriteFault → ⊥)
answer_unfailing words f s f' s' o acts = no_fault_of o (form_of words) f s f' s' acts.usage acts.does

-- of the bytes of both texts
pub answer_is : (words : List (List ℕ)) (f s f' s' first second : List ℕ) (o : Outcome) (status : Status) → f ≡ first → s ≡ second
    → Acts (called words (in_memory f s) (in_memory f' s')) o → status ≡ status_of o → IsStatusDue words first second status
answer_is words f s f' s' first second o status e d acts is =
    subst (λ x. IsStatusDue words x second status) e (subst (λ y. IsStatusDue words f y status) d (subst (IsStatusDue words f s) (sym is) (answer_due words f s f' s' o acts)))
