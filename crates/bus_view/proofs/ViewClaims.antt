-- What is claimed of the views.
use Rattle.std.specs.Prelude.{◌≡◌, ℕ, Bool, true, false, ◌&&◌, List, [], ◌∷◌, codes, Option, Some, None, IfSome, Ok}
use Rattle.std.proofs.Common.{cond, refl, sym, ap, ◌∙◌, subst}
use Rattle.bus_table.specs.Reading.{answer_of}
use Rattle.bus_table.specs.Tables.{Table}
use Rattle.bus_regime.specs.Verdicts.{verdict_of}
use Rattle.bus_shapes.specs.declared.told.Told.TheVariants.{Findings}
use Rattle.bus_trace.specs.TraceLaws.{ReadsBack}
use Rattle.bus_trace.specs.Traces.{Recording}
use Rattle.std.specs.Option.{option_map}
use Rattle.bus_bounds.specs.Bounds.{Bounds, most_delay, most_jitter, most_clocks}
use Rattle.bus_options.specs.Bounding.{AreNear, bounds_of, near_bounds_of}
use Rattle.bus_view.proofs.FormLemmas.{front_two, front_three, with_options}
use Rattle.bus_trace.specs.Windows.{Window, IsWindow}
use Rattle.bus_dump.specs.declared.dump.Dump.{Dump as AnyDump}
use Rattle.bus_dump.specs.declared.dump.Dump.TheVariants.{Vcd, Wires, Timers}
use Rattle.bus_dump.specs.Laws.{BreachIsTold, ClearListsShowNone}
use Rattle.bus_dump.specs.TimerLaws.{LawfulIsSingle}
use Rattle.bus_schedule.specs.Laws.{AcceptedIsClosed}
use Rattle.bus_schedule.specs.Runs.{IsClear}
use Rattle.bus_command.specs.declared.about.About.{About}
use Rattle.bus_command.specs.declared.about.About.TheVariants.{Help, Version}
use Rattle.bus_command.specs.About.{IsAbout, about_word}
use Rattle.bus_command.specs.Claims.{Answers}
use Rattle.bus_command.specs.Stages.{refusal_in}
use Rattle.bus_command.specs.declared.recorded.Recorded.{Recorded}
use Rattle.bus_command.specs.Due.{text_due, table_refusal_of, garbled_where, with_garbled, with_followed, recorded_due}
use Rattle.bus_command.specs.Heard.{garbled_in}
use Rattle.bus_command.specs.Kinds.{Answer, kind_of}
use Rattle.bus_command.specs.Outside.{Call}
use Rattle.bus_command.specs.declared.status.Status.TheVariants as status
use Rattle.bus_command.specs.declared.outcome.Outcome.TheVariants.{Done}
use Rattle.bus_command.specs.Readers.{ForTexts, entire, no_source, one_source, by_recorded, reader_of, text_limit}
use Rattle.bus_command.proofs.ClaimLemmas.{answers, claimed, refuses, does_of, room_of, told_itself, at_one, at_two, stands_told}
use Rattle.bus_command.proofs.LawTypes.{TextReadsAsItsTable}
use Rattle.bus_command.proofs.ReadLemmas.{held_trace}
use Rattle.bus_command.proofs.FollowedLemmas.{recorded_told, rest_behind}
use Rattle.bus_command.proofs.TextLemmas.{short_text}
use Rattle.bus_command.proofs.ToldLemmas.{table_told}
use Rattle.bus_view.specs.Acts.{view_program, Acts}
use Rattle.bus_view.specs.Answering.{Answers as Replies, IsTextOf, Refuses}
use Rattle.bus_view.specs.Asking.{IsPageOf, IsPictureOf, IsViewOf, bounds_in, view_word, window_in}
use Rattle.bus_view.specs.Claims.{AnswersDump, IsJudged, page_status}
use Rattle.bus_view.specs.Keeping.{Keeps}
use Rattle.bus_view.specs.Replies.{Is, TheDump, TheSaveFile, ThePicture, ThePage, OfItself}
use Rattle.bus_view.specs.Due.{first_breach, named_breach, told_of, single_outcome, recorded_answer, view_answer, drawing, painting, saved, window_or_whole, IsJudging, IsOfView, IsPage, IsView, page, page_answer}
use Rattle.bus_view.proofs.PageLaws.{page_answers}
use Rattle.bus_view.proofs.ReplyLemmas.{is_text, replies, text_status}
use Rattle.bus_view.specs.Forms.{OnTrace, OnItself, Page, View, Dump, SaveFile, Painted, Judged, Picture, TimeLine, Cycles, form_of, hears, page_by, view_by, window_by}
use Rattle.bus_view.specs.Itself.{itself_text}
use Rattle.bus_view.specs.Refusals.{Doubled, Outcome, ends_of, status_of}

-- the window of a view is one, and its bounds are within their limits
abbrev IsSound : View → Type 0
IsSound (Dump dump window) = IfSome window IsWindow
IsSound (Painted picture window) = IfSome window IsWindow
IsSound (SaveFile window) = IfSome window IsWindow
IsSound (Judged picture bounds window) = AreNear bounds × IfSome window IsWindow

-- the view of its own word, bounds and window
view_asked : (view : View) → view_by (view_word view) (Ok (bounds_in view)) (Ok (window_in view)) ≡ Some view
view_asked (Dump Vcd window) = refl
view_asked (Dump Wires window) = refl
view_asked (Dump Timers window) = refl
view_asked (SaveFile window) = refl
view_asked (Painted TimeLine window) = refl
view_asked (Painted Cycles window) = refl
view_asked (Judged TimeLine bounds window) = refl
view_asked (Judged Cycles bounds window) = refl

-- the words of a view ask for it
asked : (view : View) (table : Table) (trace : Recording) (call : Call) → IsViewOf view table trace call → form_of call.words ≡ Some (OnTrace view)
asked view table trace call h =
    let form = h.call_is.form in
    with_options (view_word view) form.first (form.second ∷ h.behind) call.words (record { plain = 3; options = h.options }) form.form h.given.line
    ∙ front_three (view_word view) form.first form.second h.behind h.options
    ∙ ap (λ b. option_map OnTrace (cond b (view_by (view_word view) (near_bounds_of h.options) (window_by h.options.from h.options.to)) None)) h.given.taken
    ∙ ap (λ bounds. option_map OnTrace (view_by (view_word view) bounds (window_by h.options.from h.options.to))) h.bounds
    ∙ ap (λ window. option_map OnTrace (view_by (view_word view) (Ok (bounds_in view)) window)) h.window
    ∙ ap (option_map OnTrace) (view_asked view)

-- the laws of the crates below, by which it follows
pub record DrawLaws : Type 0 where
  pub table_again : TextReadsAsItsTable
  pub trace_back : ReadsBack
  pub single : LawfulIsSingle
  pub closed : AcceptedIsClosed
  pub clear : ClearListsShowNone
  pub breach : BreachIsTold

-- what is due of texts that are told
module _ (laws : DrawLaws) (view : View) (call : Call) (outcome : Outcome) (table : Table) (trace : Recording) (acts : Acts call outcome)
    (h : IsViewOf view table trace call) (sound : IsSound view) where
  -- what is told behind the trace
  abbrev known : Option ℕ
  known = garbled_where (hears view) trace h.call_is.trace_told.stream

  abbrev value : Recorded
  value = with_followed table (with_garbled trace known)

  both_told : recorded_due {R = Doubled} (hears view) h.call_is.table_told.text h.call_is.trace_told.stream ≡ Ok value
  both_told =
      recorded_told {R = Doubled} (hears view) table trace h.call_is.table_told.text h.call_is.trace_told.stream
      (table_told {R = Doubled} laws.table_again table call.before.sources.first h.call_is.table_told)
      (held_trace {R = Doubled} laws.trace_back h.call_is.trace_told.stream trace h.call_is.trace_told.stands)

  sources : (P : List ℕ → List ℕ → Type 0) → ForTexts (by_recorded (hears view)) call.before.sources P
      → P h.call_is.table_told.text h.call_is.trace_told.stream
  sources =
      at_two entire (reader_of (hears view)) call.before.sources h.call_is.table_told.text h.call_is.trace_told.stream h.call_is.table_told.told
      h.call_is.trace_told.told

  did : Rattle.bus_command.specs.Acts.DoesForm view_program (OnTrace view) call.before call.after outcome
  did = does_of view_program call outcome (OnTrace view)
      (asked view table trace call h) acts

  pub shown : (behind : Option ℕ) → ((text : List ℕ) → IsOfView view table trace known text → IsOfView view table trace behind text)
      → kind_of (view_answer view table trace) ≡ Answer
      → Answers (status_of (view_answer view table trace)) (IsOfView view table trace behind) call (status_of outcome)
  shown behind shows answer_is =
      claimed ends_of (recorded_answer view) (IsView view) (by_recorded (hears view)) table_refusal_of (recorded_due (hears view))
      h.call_is.table_told.text h.call_is.trace_told.stream value (IsOfView view table trace behind) call outcome sources
      both_told answer_is shows did (record {
        first = h.call_is.undisturbed.first;
        second = h.call_is.undisturbed.second;
        out = h.call_is.undisturbed.out;
      })

  pub stands : Rattle.bus_command.specs.Stages.MayReplace (view_answer view table trace) outcome
  stands =
      stands_told (recorded_answer view) (by_recorded (hears view)) (recorded_due (hears view)) h.call_is.table_told.text
      h.call_is.trace_told.stream value call.before.sources outcome sources both_told did.due

  pub does : Rattle.bus_command.specs.Acts.DoesForm view_program (OnTrace view) call.before call.after outcome
  does = did

draw_claim : DrawLaws → (call : Call) (outcome : Outcome) (dump : AnyDump) (window : Option Window) (table : Table) (trace : Recording)
    → IfSome window IsWindow → Acts call outcome → IsViewOf (Dump dump window) table trace call
    → AnswersDump (Replies call (status_of outcome)) (Refuses call (status_of outcome)) dump (window_or_whole window trace) table trace
draw_claim laws call outcome dump window table trace s acts h =
    let shape : Window = window_or_whole window trace in
    let reply = TheDump dump shape (first_breach table trace) (verdict_of table) table trace in
    record {
      drawn = λ none.
          subst (λ e. Replies call (status_of outcome) (status_of (single_outcome e)) (Is reply)) none
          (replies call (status_of outcome) _ _ (Is reply) (λ text is. is_text reply (drawing dump shape table trace) text refl is)
          (shown laws (Dump dump window) call outcome table trace acts h s None (λ text is. is) (ap (λ e. kind_of (single_outcome e)) none)));
      breach = λ t. laws.breach dump (first_breach table trace) table trace.list t;
      refused = λ entry some.
          let did = does laws (Dump dump window) call outcome table trace acts h s in
          refuses ends_of (by_recorded false) (single_outcome (Some entry)) outcome _ call refl
          (subst (λ e. Rattle.bus_command.specs.Stages.MayReplace (single_outcome e) outcome) some
          (stands laws (Dump dump window) call outcome table trace acts h s))
          did.text did.counts did.out_count h.call_is.undisturbed;
      lawful = λ hands horizon fit lawful. laws.single table hands horizon trace.list h.call_is.table_told.valid fit lawful;
      clear = λ hands t accepted even is.
          laws.clear dump (first_breach table trace) table trace.list t
          (subst IsClear (sym is) (laws.closed table hands h.call_is.table_told.valid accepted even).clear);
    }

save_claim : DrawLaws → (call : Call) (outcome : Outcome) (window : Option Window) (table : Table) (trace : Recording) → IfSome window IsWindow
    → Acts call outcome → IsViewOf (SaveFile window) table trace call
    → Replies call (status_of outcome) status.Done (Is (TheSaveFile (window_or_whole window trace) (named_breach table trace) table trace))
save_claim laws call outcome window table trace s acts h =
    let shape : Window = window_or_whole window trace in
    let reply = TheSaveFile shape (named_breach table trace) table trace in
    replies call (status_of outcome) _ _ (Is reply) (λ text is. is_text reply (saved shape table trace) text refl is)
    (shown laws (SaveFile window) call outcome table trace acts h s None (λ text is. is) refl)

-- what is told behind a trace is what stands there
told_behind : (view : View) (table : Table) (trace : Recording) (garbled : Option ℕ) (call : Call) (h : IsPictureOf view table trace garbled call)
    → garbled_where true trace h.is.call_is.trace_told.stream ≡ garbled
told_behind view table trace garbled call h =
    ap garbled_in (rest_behind h.is.call_is.trace_told.stream trace h.is.call_is.trace_told.stands) ∙ h.behind

paint_claim : DrawLaws → (call : Call) (outcome : Outcome) (picture : Picture) (window : Option Window) (table : Table)
    (trace : Recording) (garbled : Option ℕ) → IfSome window IsWindow → Acts call outcome
    → IsPictureOf (Painted picture window) table trace garbled call
    → Replies call (status_of outcome) status.Done
    (Is (ThePicture picture (window_or_whole window trace) (verdict_of table) (told_of table trace garbled) table trace))
paint_claim laws call outcome picture window table trace garbled s acts h =
    let shape : Window = window_or_whole window trace in
    let reply = ThePicture picture shape (verdict_of table) (told_of table trace garbled) table trace in
    replies call (status_of outcome) _ _ (Is reply) (λ text is. is_text reply (painting picture shape table trace garbled) text refl is)
    (shown laws (Painted picture window) call outcome table trace acts h.is s garbled
    (λ text is. subst (λ g. IsOfView (Painted picture window) table trace g text) (told_behind (Painted picture window) table trace garbled call h) is) refl)

judged_text : (picture : Picture) (bounds : Bounds) (shape : Window) (table : Table) (trace : Recording) (garbled : Option ℕ) (text : List ℕ)
    → IsJudging picture bounds shape table trace garbled text → IsTextOf (IsJudged picture bounds shape table trace garbled) text
judged_text picture bounds shape table trace garbled text h = record {
  reply = ThePicture picture shape (verdict_of table) (Findings bounds h.found garbled) table trace;
  is = record { found = h.found; found_is = h.found_is; reply_is = refl };
  text_is = h.text_is;
}

judge_claim : DrawLaws → (call : Call) (outcome : Outcome) (picture : Picture) (bounds : Bounds) (window : Option Window) (table : Table)
    (trace : Recording) (garbled : Option ℕ) → AreNear bounds → IfSome window IsWindow → Acts call outcome
    → IsPictureOf (Judged picture bounds window) table trace garbled call
    → Replies call (status_of outcome) status.Done (IsJudged picture bounds (window_or_whole window trace) table trace garbled)
judge_claim laws call outcome picture bounds window table trace garbled n s acts h =
    let shape : Window = window_or_whole window trace in
    replies call (status_of outcome) _ (IsJudging picture bounds shape table trace garbled) _ (judged_text picture bounds shape table trace garbled)
    (shown laws (Judged picture bounds window) call outcome table trace acts h.is (n, s) garbled
    (λ text is.
    subst (λ g. IsOfView (Judged picture bounds window) table trace g text)
    (told_behind (Judged picture bounds window) table trace garbled call h) is) refl)

-- ---- pages
-- the words of a page ask for it
page_words : (asked : Option Bounds) (text : List ℕ) (call : Call) → IsPageOf asked text call → form_of call.words ≡ Some (Page asked)
page_words asked text call h =
    with_options (codes "page") h.path h.behind call.words (record { plain = 2; options = h.options }) h.form h.given.line
    ∙ front_two (codes "page") h.path h.behind h.options
    ∙ ap (λ b. cond b (page_by (bounds_of h.options)) None) h.given.taken ∙ ap page_by h.bounds

page_claim : (call : Call) (outcome : Outcome) (asked : Option Bounds) (text : List ℕ) → Acts call outcome → IsPageOf asked text call
    → Replies call (status_of outcome) (page_status (answer_of text)) (Is (ThePage asked text))
page_claim call outcome asked text acts h =
    subst (λ s. Replies call (status_of outcome) s (Is (ThePage asked text))) (text_status (answer_of text))
    (claimed ends_of page_answer (IsPage asked) (one_source entire) (λ first. refusal_in (text_due 1 first)) (λ a b. text_due 1 a)
    text [] text (IsTextOf (Is (ThePage asked text))) call outcome (at_one entire call.before.sources text h.told)
    (short_text {R = Doubled} text_limit 1 text h.short) (page_answers text) (λ written is. is_text (ThePage asked text) (page asked text) written refl is)
    (does_of view_program call outcome (Page asked) (page_words asked text call h) acts) h.undisturbed)

itself_form : (about : About) (words : List (List ℕ)) → words ≡ about_word about ∷ [] → form_of words ≡ Some (OnItself about)
itself_form Help words h = ap form_of h
itself_form Version words h = ap form_of h

itself_claim : (call : Call) (outcome : Outcome) (about : About) → Acts call outcome → IsAbout about call
    → Replies call (status_of outcome) status.Done (Is (OfItself about)) × (status_of outcome ≡ status.Done)
itself_claim call outcome about acts h =
    let form = itself_form about call.words h.form in
    let did = does_of view_program call outcome (OnItself about) form acts in
    let due : Outcome = Done in
    let told = answers ends_of no_source due outcome _ (λ text. text ≡ itself_text about) call refl (λ text is. is) did.due did.text did.counts
    did.out_count h.undisturbed in (
      replies call (status_of outcome) status.Done (λ text. text ≡ itself_text about) (Is (OfItself about))
          (λ text is. is_text (OfItself about) (itself_text about) text refl is) told,
      (told_itself ends_of outcome (itself_text about) call did.due (room_of view_program call outcome (OnItself about) form acts refl) told).done,
    )

pub keeps : DrawLaws → (call : Call) (outcome : Outcome) → Acts call outcome → Keeps call (status_of outcome)
keeps laws call outcome acts = record {
  draw = λ dump window table trace h. draw_claim laws call outcome dump window table trace h.0 acts h.1;
  save = λ window table trace h. save_claim laws call outcome window table trace h.0 acts h.1;
  paint = λ picture window table trace garbled h. paint_claim laws call outcome picture window table trace garbled h.0 acts h.1;
  judge = λ picture bounds window table trace garbled h.
      judge_claim laws call outcome picture bounds window table trace garbled h.0 h.1 acts h.2;
  page = λ bounds text h. page_claim call outcome bounds text acts h;
  itself = λ about h. itself_claim call outcome about acts h;
}
