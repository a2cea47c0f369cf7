-- The grammar of a line's words. A line has no words, or a subject, a verb and what the verb takes:
--
--   line      = stage 'split' loop new new factor ( 'guard' | 'shift' )
--             | stage 'reorder' loop { loop }
--             | stage ( 'unroll' | 'vectorize' | 'parallel' ) loop
--             | func 'compute_root' | func 'compute_at' func loop
--   stage     = func [ '.' suffix ]
--
-- Funcs and loops are names: letters, digits and `_`, of which the first is no digit. A suffix is of these too, and may begin with
-- a digit: one that names no update is no fault of syntax.
-- This project's own.
use Rattle.std.specs.Prelude.{ℕ, ◌+◌, min, Bool, true, false, ◌&&◌, ◌==◌, if◌then◌else◌, List, [], ◌∷◌, length, take, drop, codes, Option, Some, None, Result}
use Rattle.std.specs.Prelude.{Ok, Err, not}
use Rattle.std.specs.List.{prefix_len}
use Rattle.std.specs.Str.{bytes_eq}
use Rattle.line_text.specs.Lines.{begins_name, continues_name, is_digit, decimal_number, ◌>>=◌, joined as with_byte}
use Rattle.schedule_lines.specs.declared.faults.ScheduleFault.{ScheduleFault}
use Rattle.schedule_lines.specs.declared.faults.ScheduleFault.TheVariants.{Syntax}
use Rattle.schedule_lines.specs.declared.lines.Subject.{Subject}
use Rattle.schedule_lines.specs.declared.lines.LoopDirective.{LoopDirective}
use Rattle.schedule_lines.specs.declared.lines.LoopDirective.TheVariants as on_loops
use Rattle.schedule_lines.specs.declared.lines.Computed.{Computed}
use Rattle.schedule_lines.specs.declared.lines.Computed.TheVariants as on_place
use Rattle.schedule_lines.specs.declared.lines.Directive.{Directive}
use Rattle.schedule_lines.specs.declared.lines.Directive.TheVariants as directives
use Rattle.schedule_lines.specs.declared.lines.ScheduleLine.{ScheduleLine}
use Rattle.schedule_lines.specs.declared.lines.ScheduleLine.TheVariants as lines
use Rattle.schedule_lines.specs.declared.stages.Mark.{Mark}
use Rattle.schedule_lines.specs.declared.stages.Mark.TheVariants as marks
use Rattle.schedule_lines.specs.declared.stages.Tail.{Tail}
use Rattle.schedule_lines.specs.declared.stages.Tail.TheVariants as tails

abbrev pub is_name : List ℕ → Bool
is_name [] = false
is_name (first ∷ rest) = begins_name first && prefix_len continues_name rest == length rest

abbrev pub is_number : List ℕ → Bool
is_number [] = false
is_number (first ∷ rest) = prefix_len is_digit (first ∷ rest) == length (first ∷ rest)

abbrev pub name : List ℕ → Result (List ℕ) ScheduleFault
name word = if is_name word then Ok word else Err Syntax

abbrev pub is_suffix : List ℕ → Bool
is_suffix [] = false
is_suffix (first ∷ rest) = prefix_len continues_name (first ∷ rest) == length (first ∷ rest)

-- what is after a stage's name: nothing, or a dot and a suffix
abbrev pub update_of : List ℕ → Result (Option (List ℕ)) ScheduleFault
update_of [] = Ok None
update_of (byte ∷ suffix) = if byte == 46 && is_suffix suffix then Ok (Some suffix) else Err Syntax

unfoldable pub subject : List ℕ → Result Subject ScheduleFault
subject word =
    let n = prefix_len continues_name word in
    name (take n word) >>= λ own. update_of (drop n word) >>= λ update. Ok (record { name = own; update = update })

-- a factor, cut off at 65
abbrev pub factor : List ℕ → Result ℕ ScheduleFault
factor word = if is_number word then Ok (min (decimal_number word) (64 + 1)) else Err Syntax

abbrev pub tail : List ℕ → Result Tail ScheduleFault
tail word =
    if bytes_eq word (codes "guard") then Ok tails.Guard
    else if bytes_eq word (codes "shift") then Ok tails.Shift
    else Err Syntax

unfoldable pub split : List (List ℕ) → Result LoopDirective ScheduleFault
split (of ∷ outer ∷ inner ∷ number ∷ end ∷ []) =
    factor number >>= λ n. tail end >>= λ t. name of >>= λ o. name outer >>= λ vo. name inner >>= λ vi.
    Ok (on_loops.Split (record { of = o; outer = vo; inner = vi; factor = n; tail = t }))
split _ = Err Syntax

abbrev pub are_names : List (List ℕ) → Bool
are_names [] = true
are_names (first ∷ others) = is_name first && are_names others

unfoldable pub reorder : List (List ℕ) → Result LoopDirective ScheduleFault
reorder [] = Err Syntax
reorder (first ∷ others) = if are_names (first ∷ others) then Ok (on_loops.Reorder (first ∷ others)) else Err Syntax

unfoldable pub mark : Mark → List (List ℕ) → Result LoopDirective ScheduleFault
mark kind (of ∷ []) = name of >>= λ n. Ok (on_loops.Mark kind n)
mark kind _ = Err Syntax

abbrev pub compute_root : List (List ℕ) → Result Computed ScheduleFault
compute_root [] = Ok on_place.Root
compute_root (first ∷ others) = Err Syntax

unfoldable pub compute_at : List (List ℕ) → Result Computed ScheduleFault
compute_at (func ∷ inside ∷ []) = name func >>= λ f. name inside >>= λ v. Ok (on_place.At (record { func = f; inside = v }))
compute_at _ = Err Syntax

abbrev pub of_loops : Result LoopDirective ScheduleFault → Result Directive ScheduleFault
of_loops given = given >>= λ d. Ok (directives.OfLoops d)

abbrev pub of_place : Result Computed ScheduleFault → Result Directive ScheduleFault
of_place given = given >>= λ c. Ok (directives.OfPlace c)

unfoldable pub directive : List ℕ → List (List ℕ) → Result Directive ScheduleFault
directive verb words =
    if bytes_eq verb (codes "split") then of_loops (split words)
    else if bytes_eq verb (codes "reorder") then of_loops (reorder words)
    else if bytes_eq verb (codes "unroll") then of_loops (mark marks.Unrolled words)
    else if bytes_eq verb (codes "vectorize") then of_loops (mark marks.Vectorized words)
    else if bytes_eq verb (codes "parallel") then of_loops (mark marks.Parallel words)
    else if bytes_eq verb (codes "compute_root") then of_place (compute_root words)
    else if bytes_eq verb (codes "compute_at") then of_place (compute_at words)
    else Err Syntax

-- A Func is computed as a whole, so its compute line has no dot.
abbrev pub joined_as : Subject → Directive → Option (List ℕ) → Result ScheduleLine ScheduleFault
joined_as own_subject (directives.OfPlace computed) (Some suffix) = Err Syntax
joined_as own_subject (directives.OfPlace computed) None = Ok
    (lines.Directive own_subject (directives.OfPlace computed))
joined_as own_subject (directives.OfLoops d) update = Ok (lines.Directive own_subject (directives.OfLoops d))

abbrev pub joined : Subject → Directive → Result ScheduleLine ScheduleFault
joined own_subject d = joined_as own_subject d own_subject.update

-- what the words of a line say
unfoldable pub line_of : List (List ℕ) → Result ScheduleLine ScheduleFault
line_of [] = Ok lines.Blank
line_of (front ∷ []) = Err Syntax
line_of (front ∷ verb ∷ others) = subject front >>= λ s. directive verb others >>= λ d. joined s d

-- ---- The words of a line: what is between spaces, up to a comment.

-- a byte in front of a comment, which `#` opens
abbrev pub is_in_text : ℕ → Bool
is_in_text byte = not (byte == 35)

-- a line without its comment
abbrev pub text_of : List ℕ → List ℕ
text_of line = take (prefix_len is_in_text line) line

-- a byte other than a space
abbrev pub is_in_word : ℕ → Bool
is_in_word byte = not (byte == 32)

-- The bytes begin with one of a word.
abbrev pub goes_on : List ℕ → Bool
goes_on [] = false
goes_on (byte ∷ rest) = is_in_word byte

-- the words of bytes
unfoldable pub words_of : List ℕ → List (List ℕ)
words_of [] = []
words_of (byte ∷ rest) =
    if byte == 32 then words_of rest
    else (if goes_on rest then with_byte byte (words_of rest) else (byte ∷ []) ∷ words_of rest)

-- the word that bytes without a space are, if there are any
abbrev pub word_of : List ℕ → List (List ℕ)
word_of [] = []
word_of (byte ∷ rest) = (byte ∷ rest) ∷ []
