-- What the program prints of a machine: a heading and the registers of each hart, and the picture.
-- The text is this project's own.
use Rattle.std.specs.Prelude.{ℕ, zero, suc, ◌+◌, ◌*◌, ◌/◌, ◌%◌, ◌==◌, nat_lt, if◌then◌else◌, List, [], ◌∷◌, ◌++◌, length, codes, Option, Some, None}
use Rattle.std.specs.List.{list_all}
use Rattle.std.specs.Int.{w32, to_be_bytes}
use Rattle.std.specs.Fmt.{decimal}
use Rattle.rv_insn.specs.Trap.{trap_number}
use Rattle.hart_core.specs.declared.harts.Status.{Status}
use Rattle.hart_core.specs.declared.harts.Status.TheVariants.{Running, Finished, Trapped}
use Rattle.memory.specs.Access.{word_at}
use Rattle.hart_core.specs.HartState.{HartState, register, vector}
use Rattle.multi_hart.specs.Run.{State, hart_at, all_finished}
use Rattle.turn_log.specs.TurnLog.{count_of}
use Rattle.loader.specs.declared.outputs.Output.{Output}
use Rattle.picture.specs.Reading as spelling

-- ---- numbers

-- a hexadecimal digit, `0` to `9` or `a` to `f`
abbrev pub hex_digit : ℕ → ℕ
hex_digit d = if nat_lt d 10 then 48 + d else 87 + d

-- two digits a byte
abbrev pub hex_of : List ℕ → List ℕ
hex_of [] = []
hex_of (byte ∷ bytes) = hex_digit (byte / 16) ∷ hex_digit (byte % 16) ∷ hex_of bytes

-- `0x` and eight digits
unfoldable pub hex_word : ℕ → List ℕ
hex_word n = codes "0x" ++ hex_of (to_be_bytes w32 n)

abbrev pub newline : List ℕ
newline = 10 ∷ []

-- ---- a hart

unfoldable pub status_text : Status → List ℕ
status_text Running = codes "running"
status_text Finished = codes "finished"
status_text (Trapped trap) = codes "trap " ++ decimal (trap_number trap)

-- `hart H STATUS pc 0xPPPPPPPP turns N`
unfoldable pub heading : ℕ → Status → ℕ → ℕ → List ℕ
heading number status pc turns =
    codes "hart " ++ decimal number ++ codes " " ++ status_text status ++ codes " pc " ++ hex_word pc
    ++ codes " turns " ++ decimal turns ++ newline

-- `  xR 0xVVVVVVVV`, where the register isn't 0
unfoldable pub register_line : ℕ → ℕ → List ℕ
register_line r value = if value == 0 then [] else codes "  x" ++ decimal r ++ codes " " ++ hex_word value ++ newline

-- the lines of the registers numbered below this many
unfoldable pub register_lines : HartState → ℕ → List ℕ
register_lines hart zero = []
register_lines hart (suc r) = register_lines hart r ++ register_line r (register hart r)

-- `  vl N vtype 0xVVVVVVVV`
unfoldable pub configuration_line : ℕ → ℕ → List ℕ
configuration_line vl vtype = codes "  vl " ++ decimal vl ++ codes " vtype " ++ hex_word vtype ++ newline

-- `  vR ` and 32 digits, byte 0 first, where not all bytes are 0
unfoldable pub vector_line : ℕ → List ℕ → List ℕ
vector_line v bytes =
    if list_all (λ byte. byte == 0) bytes then [] else codes "  v" ++ decimal v ++ codes " " ++ hex_of bytes ++ newline

-- the lines of the vector registers numbered below this many
unfoldable pub vector_lines : HartState → ℕ → List ℕ
vector_lines hart zero = []
vector_lines hart (suc v) = vector_lines hart v ++ vector_line v (vector hart v)

unfoldable pub hart_text : ℕ → HartState → ℕ → List ℕ
hart_text number hart turns =
    heading number hart.status hart.pc turns ++ register_lines hart 32 ++ configuration_line hart.vl hart.vtype ++ vector_lines hart 32

-- the harts numbered below this many, each with the count of its turns
unfoldable pub hart_texts : State → List ℕ → ℕ → List ℕ
hart_texts state turns zero = []
hart_texts state turns (suc number) = hart_texts state turns number ++ hart_text number (hart_at state number) (count_of turns number)

-- ---- the picture

-- the address of a pixel
abbrev pub pixel_address : Output → ℕ → ℕ → ℕ
pixel_address output x y = output.address + y * output.stride + 4 * x

-- the word that is there
abbrev pub pixel : State → Output → ℕ → ℕ → ℕ
pixel state output x y = word_at state.text state.memory (pixel_address output x y)

-- the first this many pixels of a row
unfoldable pub row : State → Output → ℕ → ℕ → List ℕ
row state output y zero = []
row state output y (suc x) = row state output y x ++ pixel state output x y ∷ []

-- the first this many rows, as a picture's text has them
unfoldable pub rows : State → Output → ℕ → List ℕ
rows state output zero = []
rows state output (suc y) = rows state output y ++ spelling.row_text (row state output y output.width)

-- the picture's text; an output may be wider than what is read as a picture
unfoldable pub picture_text : State → Output → List ℕ
picture_text state output = spelling.heading output.width output.height ++ rows state output output.height

-- the picture is printed where there is an output and all harts have finished
unfoldable pub picture_part : State → Option Output → List ℕ
picture_part state None = []
picture_part state (Some output) = if all_finished state then picture_text state output else []

-- ---- the dump of a state that turns led to

unfoldable pub dumped : State → List ℕ → Option Output → List ℕ
dumped state turns output = hart_texts state turns (length state.harts) ++ picture_part state output
