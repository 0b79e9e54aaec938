-- What the marks of faults tell, and that there are none of what was recorded on a cable. The contracts of `laws::faults_are_marked` and of
-- `laws::cable_is_unmarked` say that each of these laws holds.
use Rattle.std.specs.Prelude.{◌≡◌, ◌↔◌, ℕ, Bool, ◌==◌, true, IsTrue, List, [], Some, slice_get}
use Rattle.std.specs.List.{count_by}
use Rattle.bus_strings.specs.Members.{In}
use Rattle.bus_strings.specs.Messages.{Entry}
use Rattle.bus_table.specs.Tables.{Table}
use Rattle.bus_table.specs.Valid.{is_valid}
use Rattle.bus_trace.specs.Traces.{Recording, IsTrace}
use Rattle.bus_audit.specs.declared.answer.AuditAnswer.TheVariants.{Lawful}
use Rattle.bus_dump.specs.declared.lane.Lane.{Lane}
use Rattle.bus_findings.specs.declared.judgement.Judgement.{Judgement}
use Rattle.bus_findings.specs.Terminals.{fault_sum, is_faulty}
use Rattle.bus_pen.specs.declared.scale.Scale.{Scale}
use Rattle.bus_shapes.specs.declared.told.Told.{Told}
use Rattle.bus_shapes.specs.declared.told.Told.TheVariants.{Audit, OnCable}
use Rattle.bus_picture.specs.Faults.{Fault, faults, faults_text}
use Rattle.bus_picture.specs.Strings.{has_moment}
use Rattle.bus_picture.specs.TimeLines.{lanes_in, plot_text}

-- At a transmission of a list, which begins at a moment of the scale, faults are found.
pub record IsFoundIn (scale : Scale) (list : List Entry) (judgements : List Judgement) (fault : Fault) : Type 0 where
  pub at : ℕ
  pub entry : Entry
  pub there : slice_get list at ≡ Some entry
  pub judged : slice_get judgements at ≡ Some fault.found
  pub moment : fault.moment ≡ entry.moment
  pub terminal : fault.terminal ≡ entry.terminal
  pub faulty : is_faulty fault.found ≡ true
  pub shown : has_moment scale fault.moment ≡ true

-- Exactly these are marked.
abbrev pub FaultsAreMarked : Type 0
FaultsAreMarked =
    (scale : Scale) (list : List Entry) (judgements : List Judgement) (fault : Fault)
    → In fault (faults scale list judgements) ↔ IsFoundIn scale list judgements fault

-- Of the lanes that are drawn exactly one is that of its terminal, and so has its dashes and its words.
abbrev pub FaultsHaveLanes : Type 0
FaultsHaveLanes =
    (scale : Scale) (told : Told) (table : Table) (trace : Recording) (judgements : List Judgement) (fault : Fault)
    → IsTrue (is_valid table) → IsTrace trace → In fault (faults scale trace.list judgements)
    → count_by (λ (lane : Lane). lane.terminal == fault.terminal) (lanes_in scale told table trace.list) ≡ 1

-- Where no fault is counted nothing is marked.
abbrev pub NoneIsMarked : Type 0
NoneIsMarked =
    (scale : Scale) (near : Bool) (lanes : List Lane) (list : List Entry) (judgements : List Judgement) → fault_sum judgements ≡ 0
    → faults_text scale near lanes (faults scale list judgements) ≡ []

-- But for its frame the time line of what was recorded on a cable is that of a lawful trace, in which no breach is marked: it has the same
-- lanes and the same plot.
abbrev pub CableIsUnmarked : Type 0
CableIsUnmarked =
    (scale : Scale) (bottom : ℕ) (drawn : List Lane) (table : Table) (trace : Recording) (garbled collided : ℕ)
    → (lanes_in scale (OnCable garbled) table trace.list ≡ lanes_in scale (Audit (Lawful collided)) table trace.list)
    × (plot_text scale bottom drawn (OnCable garbled) table trace ≡ plot_text scale bottom drawn (Audit (Lawful collided)) table trace)
