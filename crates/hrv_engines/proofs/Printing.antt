-- Printed numbers, one more at the end.
use Rattle.std.proofs.Common.{◌≡◌, ℕ, zero, suc, ◌+◌, ◌/◌, ◌%◌, ◌^◌, ◌-◌, ◌<◌, List, [], ◌∷◌, ◌++◌, length, take, get_or, refl, sym, ap, ◌∙◌, append_assoc}
use Rattle.std.proofs.Common.{add-one}
use Rattle.std.proofs.Math.Dec.{eqb-suc-zero}
use Rattle.std.proofs.lemmas.List.{map-append, take_more}
use Rattle.std.specs.List.{join_with_byte}
use Rattle.std.specs.Prelude.{false, map, codes, ◌==◌, if◌then◌else◌}
use Rattle.std.specs.Fmt.{digits, padded_integral, format_spec}
use Rattle.std.proofs.lemmas.Fmt.{hex_byte}
use Rattle.hart_core.specs.HartState.{HartState, register, vector}
use Rattle.loader.specs.declared.outputs.Output.{Output}
use Rattle.multi_hart.specs.Run.{State, hart_at}
use Rattle.turn_log.specs.TurnLog.{count_of}
use Rattle.hrv_engines.specs.Talk.{hart_line, hart_lines}
use Rattle.picture.specs.Reading.{number_text, row_text}
use Rattle.hrv_engines.specs.Dump.{pixel, row, rows, hart_text, hart_texts, hex_digit, hex_of, register_line, register_lines, vector_line, vector_lines}

pub hex_of-append : (xs ys : List ℕ) → hex_of (xs ++ ys) ≡ hex_of xs ++ hex_of ys
hex_of-append [] ys = refl
hex_of-append (x ∷ xs) ys = ap (λ digits. hex_digit (x / 16) ∷ hex_digit (x % 16) ∷ digits) (hex_of-append xs ys)

-- the digits of one more byte
pub hex_of-more : (bytes : List ℕ) (i : ℕ) → i < length bytes → hex_of (take (i + 1) bytes) ≡ hex_of (take i bytes) ++ hex_of (get_or bytes i 0 ∷ [])
hex_of-more bytes i below = ap hex_of (take_more bytes i 0 below) ∙ hex_of-append (take i bytes) (get_or bytes i 0 ∷ [])

-- what `{byte:02x}` writes
pub hex_of-one : (byte : ℕ) → byte < 2 ^ 8 → padded_integral (format_spec 32 0 4 2 (2 ^ 64 - 1)) false [] (digits 16 false byte) ≡ hex_of (byte ∷ [])
hex_of-one byte small = hex_byte false byte small

-- a text that grew twice
pub joined : (start middle end front back all : List ℕ) → middle ≡ start ++ front → end ≡ middle ++ back → all ≡ front ++ back → end ≡ start ++ all
joined start middle end front back all a b c = b ∙ ap (λ text. text ++ back) a ∙ append_assoc start front back ∙ ap (λ text. start ++ text) (sym c)

-- one more register
pub register_lines-more : (hart : HartState) (r : ℕ) → register_lines hart (r + 1) ≡ register_lines hart r ++ register_line r (register hart r)
unfolding register_lines
register_lines-more hart r = rw add-one refl

pub vector_lines-more : (hart : HartState) (v : ℕ) → vector_lines hart (v + 1) ≡ vector_lines hart v ++ vector_line v (vector hart v)
unfolding vector_lines
vector_lines-more hart v = rw add-one refl

-- what is after texts before one more
abbrev pub separator : List (List ℕ) → List ℕ
separator [] = []
separator (text ∷ texts) = 32 ∷ []

pub joined-more : (texts : List (List ℕ)) (one : List ℕ) → join_with_byte 32 (texts ++ one ∷ []) ≡ join_with_byte 32 texts ++ (separator texts ++ one)
joined-more [] one = refl
joined-more (text ∷ []) one = refl
joined-more (text ∷ other ∷ texts) one =
    ap (λ rest. text ++ (32 ∷ rest)) (joined-more (other ∷ texts) one)
    ∙ sym (append_assoc text (32 ∷ join_with_byte 32 (other ∷ texts)) (32 ∷ one))

pub separator-more : (xs : List ℕ) (x : ℕ) → separator (map number_text (xs ++ x ∷ [])) ≡ 32 ∷ []
separator-more [] x = refl
separator-more (first ∷ others) x = refl

row-none : (state : State) (output : Output) (y : ℕ) → row state output y 0 ≡ []
unfolding row
row-none state output y = refl

row-more : (state : State) (output : Output) (y x : ℕ) → row state output y (suc x) ≡ row state output y x ++ pixel state output x y ∷ []
unfolding row
row-more state output y x = refl

separator-row : (state : State) (output : Output) (y x : ℕ) → separator (map number_text (row state output y x)) ≡ (if x == 0 then [] else codes " ")
separator-row state output y zero = ap (λ pixels. separator (map number_text pixels)) (row-none state output y)
separator-row state output y (suc x) =
    ap (λ pixels. separator (map number_text pixels)) (row-more state output y x)
    ∙ separator-more (row state output y x) (pixel state output x y)
    ∙ ap (λ is_first. if is_first then [] else codes " ") (sym (eqb-suc-zero x))

-- the numbers of the first this many pixels of a row
abbrev pub numbers : State → Output → ℕ → ℕ → List ℕ
numbers state output y x = join_with_byte 32 (map number_text (row state output y x))

-- one more number, one more row
pub numbers-more : (state : State) (output : Output) (y x : ℕ)
    → numbers state output y (x + 1) ≡ numbers state output y x ++ ((if x == 0 then [] else codes " ") ++ number_text (pixel state output x y))
unfolding row
numbers-more state output y x = rw add-one
    (ap (join_with_byte 32) (map-append number_text (row state output y x) (pixel state output x y ∷ []))
    ∙ joined-more (map number_text (row state output y x)) (number_text (pixel state output x y))
    ∙ ap (λ between. numbers state output y x ++ (between ++ number_text (pixel state output x y))) (separator-row state output y x))

pub rows-more : (state : State) (output : Output) (y : ℕ) → rows state output (y + 1) ≡ rows state output y ++ row_text (row state output y output.width)
unfolding rows
rows-more state output y = rw add-one refl

-- one more hart
pub hart_texts-more : (state : State) (turns : List ℕ) (number : ℕ) → hart_texts state turns (number + 1) ≡ hart_texts state turns number
    ++ hart_text number (hart_at state number) (count_of turns number)
unfolding hart_texts
hart_texts-more state turns number = rw add-one refl

-- one more line
pub hart_lines-more : (state : State) (number : ℕ) → hart_lines state (number + 1) ≡ hart_lines state number ++ hart_line number (hart_at state number)
unfolding hart_lines
hart_lines-more state number = rw add-one refl
