-- What gdb is told of memory. This project's own.
use Rattle.std.specs.Prelude.{ℕ, zero, suc, if◌then◌else◌, List, [], ◌∷◌, length, Option, Some, None}
use Rattle.memory.specs.Access.{byte_at, covers_load}
use Rattle.multi_hart.specs.Run.{State}
use Rattle.gdb_session.specs.Texts.{hex_of, refused}

-- the byte of text or data at an address, if one is there
unfoldable pub byte_in : State → ℕ → Option ℕ
byte_in state address =
    if covers_load (length state.text) (length state.memory) address 1 then Some (byte_at state.text state.memory address) else None

abbrev pub before_others : Option ℕ → List ℕ → List ℕ
before_others None others = []
before_others (Some byte) others = byte ∷ others

-- this many bytes from an address on, up to the first that isn't there
unfoldable pub bytes_from : State → ℕ → ℕ → List ℕ
bytes_from state address zero = []
bytes_from state address (suc count) = before_others (byte_in state address) (bytes_from state (suc address) count)

abbrev pub if_there : Option ℕ → List ℕ → List ℕ
if_there None text = refused
if_there (Some byte) text = text

-- refused where there is none
unfoldable pub memory_text : State → ℕ → ℕ → List ℕ
memory_text state address count = if_there (byte_in state address) (hex_of (bytes_from state address count))
