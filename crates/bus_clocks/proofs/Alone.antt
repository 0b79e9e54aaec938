-- A sender that is alone hears itself at once: its course is one of a bus without delay, where all hear as it does.
use Rattle.std.proofs.Common.{◌≡◌, ℕ, ◌+◌, ◌<◌, ◌≤◌, Bool, ◌||◌, cond, List, [], ◌∷◌, inl, inr, arith, sym, refl, ap, ◌∙◌, subst, eq-eqb, ne_eqb}
use Rattle.bus_clocks.specs.Buses.{Bus, among}
use Rattle.bus_clocks.specs.Entries.{AreClear, Entry, In, IsAscending, end_of}
use Rattle.bus_clocks.specs.Hearing.{Hears, hears_any}
use Rattle.bus_clocks.specs.Courses.{Course, IsCourse, IsLeftAlone, MayStart}
use Rattle.bus_clocks.specs.Room.{LeavesRoom}
use Rattle.bus_clocks.specs.Rounds.{AreSpaced, Follows, InRounds, next}
use Rattle.bus_clocks.proofs.Alike.{Alike, alike_back, may_alike, hears_as}
use Rattle.bus_clocks.proofs.Turns.{first_least}

pub among_more : (bus : Bus) → (bus.senders ≡ 1 → ⊥) → among bus ≡ bus
among_more bus more = ap (λ b. record bus { delay = cond b 0 bus.delay }) (ne_eqb bus.senders 1 more)

pub among_one : (bus : Bus) → bus.senders ≡ 1 → (among bus).delay ≡ 0
among_one bus one = ap (λ b. cond b 0 bus.delay) (eq-eqb bus.senders 1 one)

-- all hear as the sender does
abbrev pub as_first : Course → Course
as_first c = record c { hears = λ x n t. c.hears x 0 t; noise = λ n t. c.noise 0 t }

heard_first : (h : Entry → ℕ → ℕ → Bool) (l : List Entry) (t : ℕ) → hears_any h l 0 t ≡ hears_any (λ x n u. h x 0 u) l 0 t
heard_first h [] t = refl
heard_first h (x ∷ l) t = ap (λ b. h x 0 t || b) (heard_first h l t)

module _ (bus : Bus) (one : bus.senders ≡ 1) where
  first_is : (k : ℕ) → k < bus.senders → k ≡ 0
  first_is k known = omega arith

  pub room_alone : LeavesRoom bus → LeavesRoom (among bus)
  room_alone room = record {
    some = room.some;
    lasting = room.lasting;
    whole = room.whole;
    drop = room.drop;
    turns = λ j k some less known. absurd (omega arith);
    opening = λ j k less known. absurd (omega arith);
    waiting = λ j k one_j known other. absurd (other (first_is j one_j ∙ sym (first_is k known)));
    joining = λ j k less known. absurd (omega arith);
    alone = λ _. (let none : (among bus).delay ≡ 0 = among_one bus one in omega arith);
  }

  alike : (c : Course) (t : ℕ) → Alike c (as_first c) 0 0 t
  alike c t = record {
    up = refl;
    due = refl;
    tg = λ a. refl;
    sg = λ a. refl;
    ti = λ a. refl;
    heard = λ u less. ap (λ b. c.noise 0 u || b) (heard_first c.hears c.list u);
    there = λ x i mine less. (x, i, mine, refl);
    back = λ x i mine less. (x, i, mine, refl);
  }

  own_first : (c : Course) → IsCourse bus c → (x : Entry) → In x c.list → (n : ℕ) → Hears (λ y m t. c.hears y 0 t) 0 bus.drop x n
  own_first c ok x i n =
      hears_as c.hears (λ y m t. c.hears y 0 t) 0 bus.drop x x 0 n refl refl (λ t. refl)
      (subst (λ m. Hears c.hears 0 bus.drop x m) (first_is x.sender (ok.sent x i).0) (ok.own x i))

  pub course_alone : (c : Course) → IsCourse bus c → IsCourse (among bus) (as_first c)
  course_alone c ok = record {
    ordered = ok.ordered;
    sent = ok.sent;
    exact = λ k t known soon.
        let is : 0 ≡ k = sym (first_is k known) in (
          (λ h. (let both = (ok.exact k t known soon).0 h in
              (subst (λ i. MayStart (as_first c) i t) is (may_alike c (as_first c) 0 0 t (alike c t) (subst (λ i. MayStart c i t) (sym is) both.0)), both.1))),
          (λ both. (ok.exact k t known soon).1
              (subst (λ i. MayStart c i t) is (may_alike (as_first c) c 0 0 t (alike_back c (as_first c) 0 0 t (alike c t)) (subst (λ i. MayStart (as_first c) i t) (sym is) both.0)), both.1)),
        );
    own = λ x i. own_first c ok x i x.sender;
    others = λ x n i. subst (λ d. Hears (λ y m t. c.hears y 0 t) d bus.drop x n) (sym (among_one bus one)) (own_first c ok x i n);
    tg_low = ok.tg_low;
    tg_high = ok.tg_high;
    sg_low = ok.sg_low;
    sg_high = ok.sg_high;
    ti_low = ok.ti_low;
    ti_high = ok.ti_high;
  }

  pub left_alone : (c : Course) (up : ℕ) → IsLeftAlone bus c up → IsLeftAlone (among bus) (as_first c) up
  left_alone c up alone = record { powered = alone.powered; due = alone.due; still = λ n t low. alone.still 0 t low }

  -- rounds of the one are those of the other
  pub rounds_alone : (c : Course) (a v : ℕ) (l : List Entry) → InRounds (among bus) (as_first c) a v l → InRounds (among bus) c a v l
  rounds_alone c a v [] h = h
  rounds_alone c a v (x ∷ l) h = (h.0, h.1, h.2, rounds_alone c (next bus.senders a) (end_of x) l h.3)

  follows_alone : (c : Course) (least most : ℕ) (x : Entry) (l : List Entry) → Follows least most (as_first c) x l → Follows least most c x l
  follows_alone c least most x [] h = h
  follows_alone c least most x (y ∷ l) (inl h) = inl h
  follows_alone c least most x (y ∷ l) (inr h) = inr (h.0, follows_alone c least most x l h.1)

  pub spaced_alone : (c : Course) (least most : ℕ) (l : List Entry) → AreSpaced least most (as_first c) l → AreSpaced least most c l
  spaced_alone c least most [] h = tt
  spaced_alone c least most (x ∷ l) h = (follows_alone c least most x l h.0, spaced_alone c least most l h.1)

  pub next_alone : next bus.senders 0 ≡ 0
  next_alone = ap (λ n. next n 0) one

  -- each begins the delay behind the one before
  pub clear_alone : (c : Course) (v : ℕ) (l : List Entry) → bus.delay ≤ bus.sg_short 0 + bus.tg_short 0 → IsAscending l → InRounds (among bus) c 0 v l
      → ((x : Entry) → In x l → v + bus.delay ≤ x.moment) × AreClear bus.delay l
  clear_alone c v [] room up h = ((λ x i. absurd i), tt)
  clear_alone c v (y ∷ l) room up h =
      let low : v + bus.sg_short 0 + bus.tg_short 0 ≤ y.moment = h.1 in
      let rest = clear_alone c (end_of y) l room up.1 (subst (λ a. InRounds (among bus) c a (end_of y) l) next_alone h.3) in
      ((λ x i. (let late : y.moment ≤ x.moment = first_least y l up x i in omega arith)), (rest.0, rest.1))
