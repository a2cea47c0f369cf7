-- Setting marks: which addresses may be marked, and what a session is with one more mark. Breaks and watches
-- together are at most 64. This project's own.
use Rattle.std.specs.Prelude.{ℕ, ◌+◌, ◌%◌, ◌==◌, ◌&&◌, Bool, nat_lt, not, if◌then◌else◌, List, [], ◌∷◌, ◌++◌, length, Result, Ok, Err}
use Rattle.std.specs.List.{list_any}
use Rattle.memory.specs.Access.{is_text_word, in_data}
use Rattle.debugger.specs.declared.refusals.SessionRefusal.{SessionRefusal}
use Rattle.debugger.specs.declared.refusals.SessionRefusal.TheVariants.{Address, TooManyMarks}
use Rattle.debugger.specs.Places.{SessionState}

abbrev pub most_marks : ℕ
most_marks = 64

abbrev pub marks : SessionState → ℕ
marks session = length session.breaks + length session.watches

-- an address where an aligned word begins, of which all four bytes are data
abbrev pub is_data_word : ℕ → ℕ → Bool
is_data_word bytes address = address % 4 == 0 && in_data bytes address 4

abbrev pub is_among : List ℕ → ℕ → Bool
is_among marks address = list_any (λ mark. mark == address) marks

-- An address that may not be marked is refused before a mark too many. One that is marked stays so, at any number of marks.
abbrev pub setting : Bool → Bool → SessionState → SessionState → Result SessionState SessionRefusal
setting may_be is_set session marked =
    if not may_be then Err Address
    else if is_set then Ok session
    else if nat_lt (marks session) most_marks then Ok marked
    else Err TooManyMarks

abbrev pub with_break : SessionState → ℕ → Result SessionState SessionRefusal
with_break session address =
    setting (is_text_word (length session.image.words) address) (is_among session.breaks address)
    session (record session { breaks = session.breaks ++ address ∷ [] })

abbrev pub with_watch : SessionState → ℕ → Result SessionState SessionRefusal
with_watch session address =
    setting (is_data_word (length session.image.bytes) address) (is_among session.watches address)
    session (record session { watches = session.watches ++ address ∷ [] })
