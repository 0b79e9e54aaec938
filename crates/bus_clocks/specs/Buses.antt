-- What is known of a bus whose clocks aren't exact: each timer, each time it is begun, takes a length of its own, within bounds. All times
-- are in ticks, of any length. Senders are told by their places in turn order: 0, 1, .. below `senders`.
use Rattle.std.specs.Prelude.{ℕ, zero, suc, ◌+◌, nat_eq, cond}

--   delay   nobody hears carrier later by more than this
--   drop    nobody hears so many quiet ticks in a row within a transmission
--   tg_*    the terminal gap of each sender: it elapses no earlier than the short and no later than the long length
--   sg_*    the synchronization gap, likewise
--   ti_*    the transmit interval, likewise
--   shortest, longest   how long a transmission lasts.
pub record Bus : Type 0 where
  pub senders : ℕ
  pub delay : ℕ
  pub drop : ℕ
  pub tg_short : ℕ → ℕ
  pub tg_long : ℕ → ℕ
  pub sg_short : ℕ → ℕ
  pub sg_long : ℕ → ℕ
  pub ti_short : ℕ → ℕ
  pub ti_long : ℕ → ℕ
  pub shortest : ℕ → ℕ
  pub longest : ℕ → ℕ

-- The bus as its senders hear each other: one that is alone hears itself at once.
abbrev pub among : Bus → Bus
among bus = record bus { delay = cond (nat_eq bus.senders 1) 0 bus.delay }

-- The sum over the first n senders.
abbrev pub sum_below : (ℕ → ℕ) → ℕ → ℕ
sum_below f zero = 0
sum_below f (suc n) = sum_below f n + f n
