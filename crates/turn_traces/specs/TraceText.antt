-- Turns as lines: which turn it is, whose, and where; the instruction; and what the turn changes in registers, reads or writes in memory,
-- and comes to. This project's own.
use Rattle.std.specs.Prelude.{ℕ, zero, suc, ◌+◌, ◌-◌, ◌*◌, ◌/◌, ◌%◌, ◌==◌, ◌&&◌, ◌||◌, nat_le, nat_lt, Bool, true, false, if◌then◌else◌, List, [], ◌∷◌, ◌++◌}
use Rattle.std.specs.Prelude.{codes, drop, length, take, unwrap_or, Option, Some, None}
use Rattle.std.specs.Fmt.{decimal}
use Rattle.std.specs.Str.{bytes_eq}
use Rattle.memory.specs.Access.{fetched}
use Rattle.hart_core.specs.declared.harts.Status.{Status}
use Rattle.hart_core.specs.declared.harts.Status.TheVariants.{Running, Finished, Trapped}
use Rattle.hart_core.specs.HartState.{HartState, register, vector}
use Rattle.hart_core.specs.Turn.{next_of}
use Rattle.multi_hart.specs.Run.{State, hart_at, reads, turn, word_in, writes}
use Rattle.disassembler.specs.Listing.{hexadecimal_digit, hexadecimal_text, line_of}
use Rattle.turn_traces.specs.declared.wanted.TurnsWanted.{TurnsWanted}
use Rattle.turn_traces.specs.declared.ranges.WordRange.{WordRange}

-- ---- words of memory

-- the address of the word that has a byte
abbrev pub word_of : ℕ → ℕ
word_of place = place / 4 * 4

abbrev pub least : ℕ → ℕ → ℕ
least a b = if nat_lt a b then a else b

abbrev pub greatest : ℕ → ℕ → ℕ
greatest a b = if nat_lt a b then b else a

-- from the first of two ranges' words to the last
abbrev pub joined : WordRange → WordRange → WordRange
joined one other = record { first = least one.first other.first; last = greatest one.last other.last }

abbrev pub around : ℕ → Option WordRange → WordRange
around word None = record { first = word; last = word }
around word (Some words) = joined (record { first = word; last = word }) words

-- from the first word that has one of the bytes to the last
abbrev pub words_in : List ℕ → Option WordRange
words_in [] = None
words_in (place ∷ places) = Some (around (word_of place) (words_in places))

-- one of the bytes is the word's
abbrev pub has_byte_of : ℕ → List ℕ → Bool
has_byte_of word [] = false
has_byte_of word (place ∷ places) = if word_of place == word then true else has_byte_of word places

-- the bytes that the next turn of a hart reads, and those that it writes
abbrev pub reads_next : State → ℕ → List ℕ
reads_next state hart = reads (next_of state.text (length state.memory) (hart_at state hart)) (hart_at state hart)

abbrev pub writes_next : State → ℕ → List ℕ
writes_next state hart = writes (next_of state.text (length state.memory) (hart_at state hart)) (hart_at state hart)

-- what a word holds, and 0 where there is none
abbrev pub held : State → ℕ → ℕ
held state word = unwrap_or (word_in state word) 0

-- ---- registers

-- `  xN 0xVVVVVVVV`, where the register has another value than before
unfoldable pub scalar_text : ℕ → ℕ → ℕ → List ℕ
scalar_text before after r = if after == before then [] else codes "  x" ++ decimal r ++ codes " " ++ hexadecimal_text 8 after

-- of the registers numbered below this many; x0 always reads 0
unfoldable pub scalars_text : HartState → HartState → ℕ → List ℕ
scalars_text before after zero = []
scalars_text before after (suc r) = scalars_text before after r ++ scalar_text (register before r) (register after r) r

-- two digits a byte, the last byte first
unfoldable pub digits_of : List ℕ → List ℕ
digits_of [] = []
digits_of (byte ∷ bytes) = digits_of bytes ++ hexadecimal_digit (byte / 16) ∷ hexadecimal_digit (byte % 16) ∷ []

-- `  vN 0x` and 32 digits, the highest byte first, where not all bytes are those before
unfoldable pub vector_text : List ℕ → List ℕ → ℕ → List ℕ
vector_text before after v = if bytes_eq after before then [] else codes "  v" ++ decimal v ++ codes " 0x" ++ digits_of after

unfoldable pub vectors_text : HartState → HartState → ℕ → List ℕ
vectors_text before after zero = []
vectors_text before after (suc v) = vectors_text before after v ++ vector_text (vector before v) (vector after v) v

-- ---- memory

-- `  words 0xFIRST to 0xLAST ` and what is done with them
unfoldable pub several_text : WordRange → List ℕ → List ℕ
several_text words done =
    codes "  words " ++ hexadecimal_text 8 words.first ++ codes " to " ++ hexadecimal_text 8 words.last ++ codes " " ++ done

-- `  word 0xAAAAAAAA is V`
unfoldable pub word_read : ℕ → ℕ → List ℕ
word_read word value = codes "  word " ++ hexadecimal_text 8 word ++ codes " is " ++ hexadecimal_text 8 value

-- `  word 0xAAAAAAAA before V after W`
unfoldable pub word_written : ℕ → ℕ → ℕ → List ℕ
word_written word before after =
    codes "  word " ++ hexadecimal_text 8 word ++ codes " before " ++ hexadecimal_text 8 before
    ++ codes " after " ++ hexadecimal_text 8 after

abbrev pub read_text : ℕ → WordRange → List ℕ
read_text value words = if words.first == words.last then word_read words.first value else several_text words (codes "read")

abbrev pub written_text : ℕ → ℕ → WordRange → List ℕ → List ℕ
written_text before after words done =
    if words.first == words.last then word_written words.first before after else several_text words done

-- what is told of the words that are read and of those that are written, the first of which held this before the turn and holds that after it
unfoldable pub memory_text : ℕ → ℕ → Option WordRange → Option WordRange → List ℕ
memory_text before after None None = []
memory_text before after (Some read) None = read_text before read
memory_text before after None (Some written) = written_text before after written (codes "written")
memory_text before after (Some read) (Some written) = written_text before after (joined read written) (codes "read and written")

-- the first word of these
abbrev pub first_word : Option WordRange → Option WordRange → ℕ
first_word None None = 0
first_word (Some read) None = read.first
first_word None (Some written) = written.first
first_word (Some read) (Some written) = (joined read written).first

-- ---- a turn

-- `  finished` or `  trap`, where a turn has led there
unfoldable pub ending_text : Status → List ℕ
ending_text Running = []
ending_text Finished = codes "  finished"
ending_text (Trapped trap) = codes "  trap"

-- what a turn has changed, read or written that led from one state to another, where it touches these words
unfoldable pub effects_text : State → State → ℕ → Option WordRange → Option WordRange → List ℕ
effects_text before after hart read written =
    scalars_text (hart_at before hart) (hart_at after hart) 32
    ++ memory_text (held before (first_word read written)) (held after (first_word read written)) read written
    ++ vectors_text (hart_at before hart) (hart_at after hart) 32
    ++ ending_text (hart_at after hart).status
    ++ 10 ∷ []

-- `turn K hart H pc 0xPPPPPPPP `
unfoldable pub head_text : ℕ → ℕ → ℕ → List ℕ
head_text number hart pc = codes "turn " ++ decimal number ++ codes " hart " ++ decimal hart ++ codes " pc " ++ hexadecimal_text 8 pc ++ codes " "

-- the instruction that is due, and what its turn does
unfoldable pub made_text : State → ℕ → List ℕ
made_text state hart =
    line_of (unwrap_or (fetched state.text (hart_at state hart).pc) 0)
    ++ effects_text state (turn state hart) hart (words_in (reads_next state hart)) (words_in (writes_next state hart))

abbrev pub what_text : Status → State → ℕ → List ℕ
what_text Running state hart = made_text state hart
what_text Finished state hart = codes "idle" ++ 10 ∷ []
what_text (Trapped trap) state hart = codes "idle" ++ 10 ∷ []

-- the line of the turn of a number, of a hart that is to make it in a state
unfoldable pub turn_line : ℕ → ℕ → State → List ℕ
turn_line number hart state = head_text number hart (hart_at state hart).pc ++ what_text (hart_at state hart).status state hart

-- ---- turns

abbrev pub is_hart : Option ℕ → ℕ → Bool
is_hart None hart = true
is_hart (Some one) hart = one == hart

-- turns of such numbers and harts are wanted
abbrev pub is_due : TurnsWanted → ℕ → ℕ → Bool
is_due wanted number hart = nat_le wanted.from number && nat_le number wanted.to && is_hart wanted.hart hart

abbrev pub touches : Option ℕ → List ℕ → List ℕ → Bool
touches None read written = true
touches (Some word) read written = has_byte_of word read || has_byte_of word written

abbrev pub is_wanted : TurnsWanted → ℕ → ℕ → State → Bool
is_wanted wanted number hart state = is_due wanted number hart && touches wanted.address (reads_next state hart) (writes_next state hart)

unfoldable pub wanted_line : TurnsWanted → ℕ → ℕ → State → List ℕ
wanted_line wanted number hart state = if is_wanted wanted number hart state then turn_line number hart state else []

-- the lines of those turns that are wanted, in order, where the first of them has a number and is made in a state
unfoldable pub lines_from : TurnsWanted → ℕ → State → List ℕ → List ℕ
lines_from wanted number state [] = []
lines_from wanted number state (hart ∷ turns) = wanted_line wanted number hart state ++ lines_from wanted (number + 1) (turn state hart) turns

-- the lines of the wanted ones of a log's turns, the k-th of which is made after k turns
abbrev pub trace_text : TurnsWanted → State → List ℕ → List ℕ
trace_text wanted begin turns = lines_from wanted 0 begin turns

-- the turns from one place on up to before another one
abbrev pub piece : List ℕ → ℕ → ℕ → List ℕ
piece turns place next = take (next - place) (drop place turns)
