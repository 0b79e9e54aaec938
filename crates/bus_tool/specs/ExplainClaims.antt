-- What is claimed of `explain`: what its numbers and its advices mean.
use Rattle.std.specs.Prelude.{◌≡◌, ℕ, ◌+◌, ◌≤◌, false, IsTrue, List, [], ◌∷◌, slice_get, Some, Err}
use Rattle.std.specs.List.{All, Contains}
use Rattle.bus_text.specs.Refusals.{Refusal}
use Rattle.bus_strings.specs.Members.{In}
use Rattle.bus_strings.specs.Messages.{Entry}
use Rattle.bus_strings.specs.Transmissions.{end_of}
use Rattle.bus_table.specs.declared.line.TakeLine.{TakeLine}
use Rattle.bus_table.specs.declared.mode.Mode.TheVariants.{Aperiodic, Periodic}
use Rattle.bus_table.specs.GoingOn.{GoesOnAsTold}
use Rattle.bus_table.specs.Reading.{text_reading}
use Rattle.bus_table.specs.Tables.{Table, Hand}
use Rattle.bus_table.specs.Valid.{is_valid}
use Rattle.bus_advice.specs.declared.advice.Advice.{Advice}
use Rattle.bus_advice.specs.Advices.{advices_of}
use Rattle.bus_advice.specs.declared.advice.Advice.TheVariants.{Start}
use Rattle.bus_advice.specs.Changes.{with_interval}
use Rattle.bus_advice.specs.Laws.{AdviceWorks, AreComplete, StartIsAdvised}
use Rattle.bus_reach.specs.Colliding.{CollideForEver}
use Rattle.bus_regime.specs.Starting.{never_parts}
use Rattle.bus_regime.specs.Gaps.{Gap, gaps}
use Rattle.bus_regime.specs.Verdicts.{verdict_of, is_accepted}
use Rattle.bus_schedule.specs.Closed.{closed}
use Rattle.bus_schedule.specs.Even.{are_even}
use Rattle.bus_schedule.specs.Laws.{StartsTooEarly}
use Rattle.bus_schedule.specs.Runs.{IsRun}
use Rattle.bus_filter.specs.Received.{ReceivedLine, Taker, received_by}
use Rattle.bus_feeds.specs.FeedLaws.{FitsTable, IsFedLine, EachFeedGives, taker_of}
use Rattle.bus_feeds.specs.Feeds.{is_fed}
use Rattle.bus_explain.specs.Accepted.{IsAcceptedWith}
use Rattle.bus_explain.specs.Figures.{gap_bits, spare}
use Rattle.bus_explain.specs.Laws.{IsGapTold, IsLoadOf, IsSpare}
use Rattle.bus_cable_plan.specs.Answers.{most_borne_of}
use Rattle.bus_cable_plan.specs.Meaning.{IsPlanOf, NoneBear}
use Rattle.bus_margins_periodic.specs.Sentences.{drifting}
use Rattle.bus_tool.specs.MarginsClaims.{TellsMargins, TellsTurns}
use Rattle.bus_tool.specs.ToleranceClaims.{SettlesFromAnyStart, TellsTolerance}

-- A sender of a periodic table starts behind the gap that is told of it: in the closed schedule of any even hands, at least so many bit
-- times behind the end of the transmission before its own.
pub record StartsBehind (table : Table) (gap : Gap) : Type 0 where
  pub told : IsGapTold gap
  pub left : (hands : List Hand) (k : ℕ) (x y : Entry) → IsTrue (are_even table hands) → slice_get (closed table hands) k ≡ Some x
      → slice_get (closed table hands) (k + 1) ≡ Some y → gap.sender.number ≡ y.terminal → end_of x + gap_bits gap ≤ y.moment

-- What is told of an accepted table holds of it:
--   runs        with as many messages for each, from the settled start and without delays, the senders take turns, no two of their
--               transmissions overlap, and from one start to its next each waits as the verdict's numbers say
--   spare       its transmit interval could rise by so much and no more, or, were its offsets planned anew, fall
--   load        it is that of the longest cycle
--   gaps        the senders of a periodic table start behind the gaps that are told of them, one for each in turn order
--   tolerance   as the tolerance line tells it
--   offsets     where it is periodic, some offsets bear the delay that is told to be the greatest, and none bear more
--   keeping     where it is aperiodic and oscillators are off by up to 50 millionths, its order comes or stands as its sentence tells it
--   drifting    where it is periodic, its senders keep their turns then as that sentence tells it
--   collides    where it is aperiodic and never parts, its senders can collide in every cycle, for ever
--   work        with the advised transmit interval it is accepted and starts itself, and with no greater one
--   settles     so that, with that, its order comes about from any start
--   whole       an advice is there where a transmit interval makes it start itself, and it doesn't with its own
pub record ExplainsAccepted (table : Table) : Type 0 where
  pub runs : (hands : List Hand) → IsTrue (are_even table hands) → IsRun table hands (closed table hands)
  pub spare : (least most : ℕ) → IsAcceptedWith table least most → IsSpare table.mode table (spare table least)
  pub load : (least most : ℕ) → IsAcceptedWith table least most → IsLoadOf table most
  pub gaps : table.mode ≡ Periodic → (gap : Gap) → In gap (gaps table) → StartsBehind table gap
  pub tolerance : TellsTolerance table
  pub offsets : table.mode ≡ Periodic → (d : ℕ) → most_borne_of table ≡ Some d
      → ((made : Table) × IsPlanOf d table made) × NoneBear (d + 1) table
  pub keeping : table.mode ≡ Aperiodic → TellsMargins drifting table
  pub drifting : table.mode ≡ Periodic → TellsTurns drifting table
  pub collides : table.mode ≡ Aperiodic → IsTrue (never_parts table) → CollideForEver table
  pub work : (advice : Advice) → In advice (advices_of table) → AdviceWorks table advice
  pub settles : (ti : ℕ) → In (Start ti) (advices_of table) → SettlesFromAnyStart (with_interval ti table)
  pub whole : StartIsAdvised table (advices_of table)

-- What is told of a refused table, and advised on it, holds of it:
--   early   in aperiodic mode the first sender's turn comes again, with the shortest messages, when it can't start
--   work    each advice works: with the advised number alone changed the table is accepted, and with none nearer to its own; or with the
--           planned offsets at the advised interval, in periodic mode, and at none from its own up to that with any offsets
--   whole   none is missing: where a change of one number makes the table accepted, or other offsets do at an interval from its own on,
--           there is an advice of that kind
pub record AdvisesRefused (table : Table) : Type 0 where
  pub early : table.mode ≡ Aperiodic → StartsTooEarly table
  pub work : (advice : Advice) → In advice (advices_of table) → AdviceWorks table advice
  pub whole : AreComplete table (advices_of table)

-- What is told of the TAKE lines of a table means, for every list whose transmissions fit it:
--   nothing   of a TAKE line that nothing feeds its terminal receives nothing
--   words     each line that a terminal receives is of a SEND line that feeds it, with all words that always come and none that never comes
--   gives     each transmission that a terminal hears gives all that always comes, of each TAKE line that it feeds
pub record TellsTakes (table : Table) : Type 0 where
  pub nothing : (list : List Entry) (number : ℕ) (take : TakeLine) → All (FitsTable table) list → is_fed table number take ≡ false
      → received_by list (taker_of number (take ∷ [])) ≡ []
  pub words : (list : List Entry) (taker : Taker) (line : ReceivedLine) → All (FitsTable table) list → Contains (received_by list taker) line
      → IsFedLine table list taker line
  pub gives : EachFeedGives

-- What the explanation of a text tells:
--   accepted   of an accepted table, as above
--   refused    of a refused one
--   takes      what is odd about the lines of a valid one, as above
--   unread     what it lists as what may stand at a refused line is exactly what goes on
pub record ExplainsText (text : List ℕ) : Type 0 where
  pub accepted : (table : Table) → IsTrue (is_valid table) → IsTrue (is_accepted (verdict_of table)) → ExplainsAccepted table
  pub refused : (table : Table) → IsTrue (is_valid table) → is_accepted (verdict_of table) ≡ false → AdvisesRefused table
  pub takes : (table : Table) → IsTrue (is_valid table) → TellsTakes table
  pub unread : (refusal : Refusal) → text_reading text ≡ Err refusal → GoesOnAsTold text refusal.line
