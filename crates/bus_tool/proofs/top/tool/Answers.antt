use Rattle.bus_tool.proofs.KeptPromises.{keeps, spells}
use Rattle.bus_tool.proofs.BorneLemmas.{TurnsLaws}
use Rattle.bus_tool.proofs.GroupClaims.{ReadLaws}
use Rattle.bus_tool.proofs.MarginsClaim.{MarginsLaws}
use Rattle.bus_tool.proofs.top.tool.Goals as goal

pub returns-clause-keeps : goal.returns-clause-keeps
returns-clause-keeps g c =
    let texts : ReadLaws = record {
      table_again = c.text_reads_as_its_table.ensures;
      items_again = c.texts_read_as_their_items.ensures.again;
      trace_back = c.traces_read_back.ensures.back;
    } in
    let drift : TurnsLaws = record { turns = c.turns_keep_turns.ensures.turns; leads = c.leads_follow_one.ensures.lead } in
    let levels : MarginsLaws = record {
      any = c.any_settles.ensures.settles;
      common = c.level_keeps_order.ensures.order;
      apart = c.level_keeps_order.ensures.apart;
      turns = drift;
    } in
    rw c.status.ensures (keeps (record {
      plan = record {
        texts = texts;
        text_stands = c.canonical_text_reads_as_its_table.ensures.stands;
        accepted = c.planned_is_accepted.ensures;
        refused = c.short_is_refused.ensures;
      };
      cable_plan = record {
        text_stands = c.canonical_text_reads_as_its_table.ensures.stands;
        plans = c.answers_are_right.ensures.plan;
        best = c.answers_are_right.ensures.best;
      };
      design = record {
        text_stands = c.canonical_text_reads_as_its_table.ensures.stands;
        meant = c.answers_are_meant.ensures;
        freest = c.free_is_freest.ensures;
      };
      wave = record {
        texts = texts;
        passes = c.waves_tell_traces.ensures.passes;
        one = c.waves_tell_traces.ensures.texts;
        back = c.waves_tell_traces.ensures.back;
        tell = c.waves_tell_traces.ensures.tell;
        runs = c.runs_are_spaced.ensures.spaced;
        read = c.runs_are_spaced.ensures.waves;
      };
      exact = c.verdicts_are_exact.ensures.settled;
      fails = c.verdicts_are_exact.ensures.refused;
      even = c.witnesses_have_schedules.ensures.even;
      give_hands = c.fitting_items_give_hands.ensures;
      one_list = c.one_lawful_list.ensures.table;
      even_agree = c.even_hands_agree.ensures;
      cables = record {
        table_again = c.text_reads_as_its_table.ensures;
        texts = record {
          again = c.texts_read_as_their_cables.ensures.again;
          found = c.texts_read_as_their_cables.ensures.found;
        };
        give_hands = c.fitting_items_give_hands.ensures;
        one = c.one_cable_list.ensures.table;
        none = c.one_cable_list.ensures.none;
        orderly = c.borne_is_orderly.ensures.aperiodic;
        periodic_orderly = c.borne_is_orderly.ensures.periodic;
      };
      scheduled = record {
        give_hands = c.fitting_items_give_hands.ensures;
        even_agree = c.even_hands_agree.ensures;
        orderly = c.closed_is_orderly.ensures;
        runs = c.accepted_is_closed.ensures;
      };
      answer = c.one_answer.ensures.computed;
      right = c.no_breach_is_right.ensures.answer;
      written = c.two_fix_the_vote.ensures.written;
      two = c.two_fix_the_vote.ensures.rounds;
      voted = c.runs_are_voted.ensures;
      diagnosed = record {
        runs = c.right_messages_run.ensures;
        first = c.named_item_is_first.ensures;
        turns = c.borne_cables_are_orderly.ensures;
        traces = c.whole_traces_are_traces.ensures;
      };
      facts = record {
        limits = c.limits_tell_bearing.ensures;
        in_time = c.data_are_in_time.ensures.aperiodic;
        periodic_in_time = c.data_are_in_time.ensures.periodic;
      };
      margins = levels;
      findings = record {
        unblamed = c.faults_are_just.ensures.unblamed;
        files = c.files_are_unblamed.ensures.keepers;
        courses = c.files_are_unblamed.ensures.courses;
        keepers = c.good_buses_have_no_fault.ensures.keepers;
        senders = c.good_buses_have_no_fault.ensures.courses;
        lawful = c.lawful_has_no_fault.ensures;
        amounts = c.faults_are_just.ensures.amounts;
        meaning = record {
          interval = c.amounts_are_true.ensures.interval;
          terminal_gap = c.amounts_are_true.ensures.gap;
          sync_gap = c.amounts_are_true.ensures.sync;
          late = c.amounts_are_true.ensures.late;
        };
        ticks = c.amounts_are_meant.ensures.next;
        gap = c.amounts_are_meant.ensures.gap;
      };
      explained = record {
        works = c.advices_work.ensures;
        whole = c.none_missing.ensures.refused;
        started = c.none_missing.ensures.accepted;
        never = c.some_never_part.ensures;
        rise = c.spare_is_rise.ensures;
        fall = c.spare_is_fall.ensures;
        load = c.load_is_of_longest_cycle.ensures;
        gaps = c.gaps_are_told.ensures;
        left = c.gaps_are_left.ensures;
        runs = c.accepted_is_closed.ensures;
        early = c.verdicts_are_exact.ensures.early;
        stops = c.what_may_stand_goes_on.ensures;
        unfed = c.unfed_is_silent.ensures.alone;
        fed = c.each_line_is_fed.ensures;
        gives = c.each_feed_gives.ensures;
        drift = drift;
        margins = levels;
        offsets = c.answers_are_right.ensures.most;
        reach = record {
          closed = c.borne_is_closed.ensures;
          offsets = c.periodic_borne_is_closed.ensures;
          exact = c.tolerance_is_exact.ensures.fails;
          breaks = c.periodic_bearing_is_exact.ensures.breaks;
          zero_borne = c.accepted_bear_zero.ensures.zero;
          settles = c.any_start_settles.ensures.settles;
          settles_on_cable = c.any_start_settles_on_cable.ensures.settles;
        };
      };
    }) _ c.act-outcome.result c.act-outcome.ensures)

pub returns-clause-spells : goal.returns-clause-spells
returns-clause-spells g c =
    let texts : ReadLaws = record {
      table_again = c.text_reads_as_its_table.ensures;
      items_again = c.texts_read_as_their_items.ensures.again;
      trace_back = c.traces_read_back.ensures.back;
    } in
    spells (record {
      text_stands = c.canonical_text_reads_as_its_table.ensures.stands;
      plans = c.answers_are_right.ensures.plan;
      best = c.answers_are_right.ensures.best;
    }) (record {
      text_stands = c.canonical_text_reads_as_its_table.ensures.stands;
      meant = c.answers_are_meant.ensures;
      freest = c.free_is_freest.ensures;
    }) (record {
      texts = texts;
      passes = c.waves_tell_traces.ensures.passes;
      one = c.waves_tell_traces.ensures.texts;
      back = c.waves_tell_traces.ensures.back;
      tell = c.waves_tell_traces.ensures.tell;
      runs = c.runs_are_spaced.ensures.spaced;
      read = c.runs_are_spaced.ensures.waves;
    }) _
