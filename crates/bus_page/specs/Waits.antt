-- How long data wait at most for each terminal, without delays: data that just miss a start of it wait for its next start, and then for the
-- end of its longest message.
--   most   the verdict's: two starts of a sender are at most so far apart
use Rattle.std.specs.Prelude.{ℕ, ◌+◌, ◌-◌, ◌*◌, Bool, ◌==◌, max, List, ◌++◌, length, fold, codes, if◌then◌else◌}
use Rattle.bus_say.specs.Times.{time_text}
use Rattle.bus_table.specs.Lengths.{longest}
use Rattle.bus_table.specs.Tables.{Sender}
use Rattle.bus_pen.specs.declared.class.Class.{Class}
use Rattle.bus_pen.specs.declared.class.Class.TheVariants.{Counts}
use Rattle.bus_pen.specs.declared.scale.Scale.{Scale}
use Rattle.bus_pen.specs.Scales.{place}
use Rattle.bus_pen.specs.Shapes.{words_text}
use Rattle.bus_page.specs.Bars.{words_class}
use Rattle.bus_page.specs.Messages.{area_of, terminal_name}
use Rattle.bus_page.specs.declared.measures.TheConstants.{BAR_HEIGHT as bar_height, BAR_LINE as bar_line, BESIDE_BAR as beside_bar}
use Rattle.bus_page.specs.declared.measures.TheConstants.{ROW_HEIGHT as row_height, ROWS_TOP as rows_top, WAITS_LEFT as waits_left}
use Rattle.bus_page.specs.declared.measures.TheConstants.{WAITS_WIDTH as waits_width}
use Rattle.bus_page.specs.Rows.{rows}
use Rattle.bus_page.specs.Paints.{Limits, Paint, Sent, Wait, picture_end, picture_front, plain}

-- ---- a terminal
-- How a message looks: another colour where none is longer.
abbrev pub message_paint : Bool → Paint
message_paint longest_of_all = if longest_of_all then Limits else Sent

-- The words before a bar, and those behind one that ends here.
abbrev pub before_text : (top number : ℕ) → List ℕ
before_text top number = words_text Counts (waits_left - beside_bar) (top + bar_line) (terminal_name number)

abbrev pub behind_text : Class → (left top bits : ℕ) → List ℕ
behind_text class left top bits = words_text class (left + beside_bar) (top + bar_line) (time_text bits)

-- The row of a terminal with this longest message: the wait for its turn, and its message behind that.
abbrev pub row_text : Scale → (most greatest top number bits : ℕ) → List ℕ
row_text scale most greatest top number bits =
    before_text top number ++ plain Wait (area_of scale 0 most top bar_height)
    ++ plain (message_paint (bits == greatest)) (area_of scale most (most + bits) top bar_height)
    ++ behind_text (words_class (bits == greatest)) (place scale (most + bits)) top (most + bits)

-- The row of a sender.
abbrev pub sender_text : Scale → (most greatest top : ℕ) → Sender → List ℕ
sender_text scale most greatest top sender = row_text scale most greatest top sender.number (longest sender)

-- The rows of senders.
abbrev pub sender_rows : Scale → (most greatest : ℕ) → List Sender → List ℕ
sender_rows scale most greatest senders = rows (sender_text scale most greatest) row_height rows_top senders

-- ---- the picture
-- The longest of all messages.
abbrev pub greatest_message : List Sender → ℕ
greatest_message senders = fold (λ most sender. max most (longest sender)) 0 senders

-- From a start to the end of the longest message behind the longest wait.
abbrev pub waits_scale : (most greatest : ℕ) → Scale
waits_scale most greatest = record { from = 0; to = most + greatest; left = waits_left; width = waits_width }

-- The picture of these senders.
abbrev pub waits_text : (most : ℕ) → List Sender → List ℕ
waits_text most senders =
    picture_front (rows_top + row_height * length senders) (codes "How long data wait")
    ++ sender_rows (waits_scale most (greatest_message senders)) most (greatest_message senders) senders ++ picture_end

-- What its bars mean.
abbrev pub waits_legend : (most : ℕ) → List ℕ
waits_legend most =
    codes "<p>The first part of a bar is the time from a start of the terminal to its next one, at most " ++ time_text most
    ++ codes ". The second is its longest message; where no terminal has a longer one, it and the time behind it stand out.</p>\n"
