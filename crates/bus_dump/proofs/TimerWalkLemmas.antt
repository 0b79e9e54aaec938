-- What the timers of a walk tell, and how they move.
use Rattle.std.proofs.Common.{◌≡◌, ℕ, ◌+◌, ◌-◌, ◌<◌, ◌≤◌, Bool, true, false, ◌&&◌, ◌||◌, eqb, List, [], ◌∷◌, map}
use Rattle.std.proofs.Common.{inl, inr, arith, sym, refl, ap, subst, ◌∙◌}
use Rattle.std.specs.List.{AllByRecursion, list_any}
use Rattle.std.proofs.lemmas.Bool.{cases_lt, true≢false, eq-eqb}
use Rattle.bus_strings.specs.Members.{In}
use Rattle.bus_strings.proofs.MemberLaws.{any_in}
use Rattle.bus_strings.specs.Messages.{Entry}
use Rattle.bus_strings.specs.Transmissions.{carrier}
use Rattle.bus_table.specs.Tables.{Sender, Table}
use Rattle.bus_timers.specs.MayStartTest.{TestDecides}
use Rattle.bus_medium.specs.Timings.{quiet_of}
use Rattle.bus_dump.specs.declared.sender_timers.SenderTimers.{SenderTimers}
use Rattle.bus_dump.specs.declared.live.Live.{Live}
use Rattle.bus_dump.specs.declared.walk.Walk.{Walk}
use Rattle.bus_dump.specs.inside.SenderTimers.{tells_at}
use Rattle.bus_dump.specs.Scenes.{elapsed_at}
use Rattle.bus_dump.specs.Timers.{Elapsed}
use Rattle.bus_dump.specs.Seen.{Seen, seen_at}
use Rattle.bus_dump.specs.Signals.{is_on}
use Rattle.bus_dump.specs.inside.Walks.{BeginsFrom, IsWalkable, Stands, SteadyTo}
use Rattle.bus_dump.specs.inside.TimerWalks.{AreAllTimersOf, ElapsedStays, IsLasting, IsReady, IsTold, IsTimerWalk, Keeping, Lasts, NoneBetween, begins, timers_passed}
use Rattle.bus_dump.specs.inside.TimerWalks.{timer_turn, starts, starts_at}
use Rattle.bus_dump.specs.declared.timer_walk.TimerWalk.{TimerWalk}
use Rattle.bus_dump.proofs.LawLemmas.{carrier_seen}
use Rattle.bus_dump.proofs.AllTimerLemmas.{begins_is, starting, none_between, all_tell, all_pass, all_stay}

-- ---- a walk with timers
pub carrier_stays : (list : List Entry) (t until : ℕ) (seen : List Seen) (b : Bool) → SteadyTo list t until → seen ≡ seen_at list t → b ≡ list_any is_on seen
    → (v : ℕ) → t ≤ v → v < until → carrier list v ≡ b
carrier_stays list t until seen b steady e h v low high =
    sym (carrier_seen list v) ∙ ap (list_any is_on) (steady v low high) ∙ ap (list_any is_on) (sym e) ∙ sym h

pub timer_walk_tells : TestDecides → (table : Table) (list : List Entry) (t q : ℕ) (senders : List Sender) (all_timers all_timers' : List SenderTimers) (timers : List Elapsed)
    → q ≡ quiet_of table → AreAllTimersOf table list t senders all_timers → all_timers' ≡ all_timers → timers ≡ map (tells_at (q + t)) all_timers'
    → timers ≡ map (elapsed_at table list t) senders
timer_walk_tells decides table list t q senders all_timers all_timers' timers e c same is =
    is ∙ ap (map (tells_at (q + t))) same ∙ ap (λ x. map (tells_at (x + t)) all_timers) e ∙ all_tell decides table list t senders all_timers c

-- the timers tell the same as when they were asked
pub timer_walk_lasts : TestDecides → (table : Table) (t later : ℕ) (senders : List Sender) (timer_walk : TimerWalk) → IsWalkable timer_walk.walk.list.now
    → Lasts t timer_walk → timer_walk.since ≤ later → later < t → Keeping table senders timer_walk
    → map (elapsed_at table timer_walk.walk.list.now later) senders ≡ map (elapsed_at table timer_walk.walk.list.now timer_walk.since) senders
timer_walk_lasts decides table t later senders timer_walk walkable lasts low high keeping =
    let list : List Entry = timer_walk.walk.list.now in
    let since : ℕ = timer_walk.since in
    let live : List Live = timer_walk.starting.items in
    let q : timer_walk.quiet ≡ quiet_of table = keeping.0 in
    elim (cases_lt since later) [
      | inl behind ↦
          let k : ℕ = later - since in
          let at : later ≡ since + k = omega arith in
          let none : NoneBetween list since (since + k) = λ x i. elim (lasts.none x i) [ inl a ↦ inl a | inr b ↦ inr (omega arith) ] in
          let turns : AllByRecursion (λ sender_timers. timer_walk.quiet + timer_walk.still ≤ timer_turn since live (quiet_of table + since) lasts.limit timer_walk.carrier sender_timers) timer_walk.all_timers.items =
          subst (λ x. AllByRecursion (λ sender_timers. timer_walk.quiet + timer_walk.still ≤ timer_turn since live (x + since) lasts.limit timer_walk.carrier sender_timers) timer_walk.all_timers.items) q lasts.turns in
          let still : t ≤ timer_walk.still = lasts.still in
          let limit : timer_walk.quiet + since < lasts.limit = lasts.later in
          ap (λ v. map (elapsed_at table list v) senders) at
          ∙ all_stay decides table list since k lasts.limit (timer_walk.quiet + timer_walk.still) live timer_walk.carrier walkable.order (omega arith) none
          (λ v l u. lasts.carrier v l (omega arith)) lasts.begin (omega arith) (omega arith) senders timer_walk.all_timers.items turns keeping.1
      | inr here ↦ ap (λ v. map (elapsed_at table list v) senders) (let at : later ≡ since = omega arith in at)
    ]

-- the timers at a later bit time
pub timer_walk_passes : (table : Table) (t : ℕ) (senders : List Sender) (timer_walk : TimerWalk) (all_timers : List SenderTimers) → IsWalkable timer_walk.walk.list.now
    → timer_walk.since < t → Lasts t timer_walk
    → all_timers ≡ map (timers_passed timer_walk.since timer_walk.starting.items (timer_walk.quiet + timer_walk.since) (timer_walk.quiet + t) timer_walk.carrier) timer_walk.all_timers.items
    → Keeping table senders timer_walk → AreAllTimersOf table timer_walk.walk.list.now t senders all_timers
timer_walk_passes table t senders timer_walk all_timers walkable some lasts is keeping =
    let list : List Entry = timer_walk.walk.list.now in
    let since : ℕ = timer_walk.since in
    let live : List Live = timer_walk.starting.items in
    let b : Bool = timer_walk.carrier in
    let k : ℕ = t - since in
    let at : since + k ≡ t = omega arith in
    let none : NoneBetween list since (since + k) = λ x i. elim (lasts.none x i) [ inl a ↦ inl a | inr c ↦ inr (omega arith) ] in
    let on : AreAllTimersOf table list (since + k) senders (map (timers_passed since live (quiet_of table + since) (quiet_of table + (since + k)) b) timer_walk.all_timers.items) =
    all_pass table list since k live b walkable.order (omega arith) none (λ v l u. lasts.carrier v l (omega arith)) lasts.begin senders timer_walk.all_timers.items keeping.1 in
    subst (AreAllTimersOf table list t senders)
    (sym (is ∙ ap (λ x. map (timers_passed since live (x + since) (x + t) b) timer_walk.all_timers.items) keeping.0))
    (subst (λ u. AreAllTimersOf table list u senders (map (timers_passed since live (quiet_of table + since) (quiet_of table + u) b) timer_walk.all_timers.items)) at on)

-- nobody begins at a bit time at which none of what is live starts
none_starts : (list : List Entry) (t : ℕ) (w : Walk) (x : Entry) → IsWalkable list → Stands list t w → In x list
    → list_any (λ (one : Live). eqb one.moment t) w.live.items ≡ false → x.moment ≡ t → ⊥
none_starts list t w x walkable stands i none at =
    let here : starts list t x.terminal ≡ true =
    any_in (starts_at t x.terminal) list x i (rw (eq-eqb x.moment t at, eq-eqb x.terminal x.terminal refl) refl) in
    true≢false (sym (any_both w.live.items (begins_is list t x.terminal w walkable stands ∙ here)) ∙ none)
  where
    any_both : (ls : List Live) → list_any (λ (one : Live). eqb one.moment t && eqb one.terminal x.terminal) ls ≡ true
        → list_any (λ (one : Live). eqb one.moment t) ls ≡ true
    any_both [] h = h
    any_both (l ∷ ls) h = one (eqb l.moment t) (eqb l.terminal x.terminal) (any_both ls) h where
      one : (a b : Bool) → (list_any (λ (one : Live). eqb one.moment t && eqb one.terminal x.terminal) ls ≡ true → list_any (λ (one : Live). eqb one.moment t) ls ≡ true)
          → ((a && b) || list_any (λ (one : Live). eqb one.moment t && eqb one.terminal x.terminal) ls) ≡ true
          → (a || list_any (λ (one : Live). eqb one.moment t) ls) ≡ true
      one true b more k = refl
      one false b more k = more k

-- it lasts a bit time longer where the timers needn't be asked
pub lasts_on : (t : ℕ) (now : Bool) (timer_walk : TimerWalk) → IsTimerWalk t timer_walk → IsReady t timer_walk → carrier timer_walk.walk.list.now t ≡ now → IsLasting t now timer_walk
    → (timer_walk.since < t) × Lasts (t + 1) timer_walk
lasts_on t now timer_walk is (inr here) at lasting = absurd (let a : t < timer_walk.still = lasting.still in let b : timer_walk.still ≤ t = here.1 in omega arith)
lasts_on t now timer_walk is (inl ready) at lasting =
    let lasts = ready.1 in (
      ready.0,
      record {
        begin = lasts.begin;
        carrier = λ v low high. elim (cases_lt v t) [
          | inl before ↦ lasts.carrier v low before
          | inr here ↦ ap (carrier timer_walk.walk.list.now) (let e : v ≡ t = omega arith in e) ∙ at ∙ lasting.same
        ];
        none = λ x i. elim (lasts.none x i) [
          | inl a ↦ inl a
          | inr b ↦ elim (cases_lt t x.moment) [
            | inl more ↦ inr (omega arith)
            | inr less ↦ absurd (none_starts timer_walk.walk.list.now t timer_walk.walk x is.walkable is.stands i lasting.none (let e : x.moment ≡ t = omega arith in e))
          ]
        ];
        still = let a : t < timer_walk.still = lasting.still in omega arith;
        limit = lasts.limit;
        later = lasts.later;
        turns = lasts.turns;
      },
    )

-- and up to the next bit time at which something may change
pub lasts_to : (t until : ℕ) (timer_walk : TimerWalk) → IsTimerWalk t timer_walk → timer_walk.since ≤ t → Lasts (t + 1) timer_walk → t < until → until ≤ timer_walk.still
    → BeginsFrom timer_walk.walk.list.now timer_walk.walk.begun until → SteadyTo timer_walk.walk.list.now t until → Lasts until timer_walk
lasts_to t until timer_walk is since lasts later still ahead steady =
    let list : List Entry = timer_walk.walk.list.now in
    record {
      begin = lasts.begin;
      carrier = λ v low high. elim (cases_lt t v) [
        | inl behind ↦
            sym (carrier_seen list v) ∙ ap (list_any is_on) (steady v (omega arith) high) ∙ carrier_seen list t ∙ lasts.carrier t since (omega arith)
        | inr before ↦ lasts.carrier v low (omega arith)
      ];
      none = λ x i. elim (none_between list t until timer_walk.walk is.stands ahead x i) [
        | inl a ↦ elim (lasts.none x i) [ inl c ↦ inl c | inr d ↦ absurd (omega arith) ]
        | inr b ↦ inr b
      ];
      still = still;
      limit = lasts.limit;
      later = lasts.later;
      turns = lasts.turns;
    }

-- what passed of the timers that are looked at is what passed of all
pub passed_is : (t from to : ℕ) (b : Bool) (all_timers all_timers' passed' next : List SenderTimers) (live live' : List Live) → all_timers' ≡ all_timers → live' ≡ live
    → passed' ≡ map (timers_passed t live' from to b) all_timers' → next ≡ passed' → next ≡ map (timers_passed t live from to b) all_timers
passed_is t from to b all_timers all_timers' passed' next live live' c l p n =
    n ∙ p ∙ ap (map (timers_passed t live' from to b)) c ∙ ap (λ x. map (timers_passed t x from to b) all_timers) l

pub turns_are : (t place limit next : ℕ) (b : Bool) (all_timers all_timers' : List SenderTimers) (live live' : List Live) → all_timers' ≡ all_timers → live' ≡ live
    → AllByRecursion (λ sender_timers. next ≤ timer_turn t live' place limit b sender_timers) all_timers' → AllByRecursion (λ sender_timers. next ≤ timer_turn t live place limit b sender_timers) all_timers
turns_are t place limit next b all_timers all_timers' live live' c l all =
    subst (λ x. AllByRecursion (λ sender_timers. next ≤ timer_turn t x place limit b sender_timers) all_timers) l
    (subst (AllByRecursion (λ sender_timers. next ≤ timer_turn t live' place limit b sender_timers)) c all)

-- the timers that are told are those of bit time t, and stay
pub told_now : TestDecides → (table : Table) (t until : ℕ) (senders : List Sender) (timer_walk : TimerWalk) (timers : List Elapsed) → IsWalkable timer_walk.walk.list.now
    → Lasts until timer_walk → timer_walk.since ≤ t → t < until → Keeping table senders timer_walk → IsTold table senders timer_walk timers
    → (timers ≡ map (elapsed_at table timer_walk.walk.list.now t) senders) × ElapsedStays table timer_walk.walk.list.now senders t until
told_now decides table t until senders timer_walk timers walkable lasts low high keeping told =
    let here = timer_walk_lasts decides table until t senders timer_walk walkable lasts low high keeping in (
      told ∙ sym here,
      λ later a b. timer_walk_lasts decides table until later senders timer_walk walkable lasts (omega arith) b keeping ∙ sym here,
    )

-- timers that were asked at bit time t last a bit time
pub asked : (t limit q : ℕ) (now : Bool) (timer_walk : TimerWalk) (walk : Walk) (all_timers : List SenderTimers) → timer_walk.walk ≡ walk → IsWalkable walk.list.now
    → Stands walk.list.now t walk → timer_walk.since ≡ t → timer_walk.starting.items ≡ walk.live.items → timer_walk.carrier ≡ now → carrier walk.list.now t ≡ now
    → timer_walk.quiet ≡ q → timer_walk.all_timers.items ≡ all_timers → t < timer_walk.still → t < limit
    → AllByRecursion (λ sender_timers. q + timer_walk.still ≤ timer_turn t walk.live.items (q + t) (q + limit) now sender_timers) all_timers → Lasts (t + 1) timer_walk
asked t limit q now timer_walk walk all_timers w walkable stands since starting same at quiet is still later turns =
    let list : List Entry = walk.list.now in
    let own : timer_walk.walk.list.now ≡ list = ap (λ (x : Walk). x.list.now) w in
    record {
      begin = λ n.
          ap (λ x. begins x timer_walk.starting.items n) since ∙ ap (λ l. begins t l n) starting ∙ begins_is list t n walk walkable stands
          ∙ sym (ap (λ l. starts l timer_walk.since n) own ∙ ap (λ x. starts list x n) since);
      carrier = λ v low high.
          ap (λ l. carrier l v) own ∙ ap (carrier list) (let e : v ≡ t = omega (arith, low, high, since) in e) ∙ at ∙ sym same;
      none = λ x i. elim (cases_lt timer_walk.since x.moment) [ inl a ↦ inr (omega (arith, a, since)) | inr b ↦ inl (omega arith) ];
      still = omega arith;
      limit = q + limit;
      later = omega (arith, since, quiet, later);
      turns = moved timer_walk.all_timers.items all_timers is timer_walk.quiet quiet timer_walk.since since timer_walk.starting.items starting timer_walk.carrier same turns;
    }
  where
    moved : (all_timers' all_timers'' : List SenderTimers) → all_timers' ≡ all_timers'' → (q' : ℕ) → q' ≡ q → (since' : ℕ) → since' ≡ t → (live : List Live) → live ≡ walk.live.items
        → (b : Bool) → b ≡ now
        → AllByRecursion (λ sender_timers. q + timer_walk.still ≤ timer_turn t walk.live.items (q + t) (q + limit) now sender_timers) all_timers''
        → AllByRecursion (λ sender_timers. q' + timer_walk.still ≤ timer_turn since' live (q' + since') (q + limit) b sender_timers) all_timers'
    moved all_timers' all_timers'' e q' f since' g live h b k all =
        subst (λ x. AllByRecursion (λ sender_timers. q' + timer_walk.still ≤ timer_turn since' live (q' + since') (q + limit) b sender_timers) x) (sym e)
        (subst (λ x. AllByRecursion (λ sender_timers. q' + timer_walk.still ≤ timer_turn since' live (q' + since') (q + limit) x sender_timers) all_timers'') (sym k)
        (subst (λ x. AllByRecursion (λ sender_timers. q' + timer_walk.still ≤ timer_turn since' x (q' + since') (q + limit) now sender_timers) all_timers'') (sym h)
        (subst (λ x. AllByRecursion (λ sender_timers. q' + timer_walk.still ≤ timer_turn x walk.live.items (q' + x) (q + limit) now sender_timers) all_timers'') (sym g)
        (subst (λ x. AllByRecursion (λ sender_timers. x + timer_walk.still ≤ timer_turn t walk.live.items (x + t) (q + limit) now sender_timers) all_timers'') (sym f) all))))

-- what they told is what the timers tell
pub asked_told : TestDecides → (table : Table) (t : ℕ) (senders : List Sender) (old timer_walk : TimerWalk) (timers : List Elapsed) → timer_walk.walk ≡ old.walk
    → timer_walk.quiet ≡ old.quiet → timer_walk.all_timers.items ≡ old.all_timers.items → old.since ≡ t → timer_walk.since ≡ t
    → timers ≡ map (tells_at (old.quiet + t)) old.all_timers.items → Keeping table senders old
    → Keeping table senders timer_walk × IsTold table senders timer_walk timers
asked_told decides table t senders old timer_walk timers w quiet all_timers since now is keeping =
    let list : List Entry = old.walk.list.now in
    let own : timer_walk.walk.list.now ≡ list = ap (λ (x : Walk). x.list.now) w in
    let stood : AreAllTimersOf table list t senders old.all_timers.items = subst (λ x. AreAllTimersOf table list x senders old.all_timers.items) since keeping.1 in
    let told = timer_walk_tells decides table list t old.quiet senders old.all_timers.items old.all_timers.items timers keeping.0 stood refl is in (
      (
        quiet ∙ keeping.0,
        subst (λ l. AreAllTimersOf table l timer_walk.since senders timer_walk.all_timers.items) (sym own)
            (subst (λ x. AreAllTimersOf table list x senders timer_walk.all_timers.items) (sym now) (subst (AreAllTimersOf table list t senders) (sym all_timers) stood)),
      ),
      told ∙ sym (ap (λ l. map (elapsed_at table l timer_walk.since) senders) own ∙ ap (λ x. map (elapsed_at table list x) senders) now),
    )
