-- Runs, one turn longer.
use Rattle.std.proofs.Common.{◌≡◌, ℕ, zero, suc, arith, length-append, ◌+◌, ◌<◌, List, [], ◌∷◌, ◌++◌, length, take, get_or, Option, Some, None, ap, ◌∙◌}
use Rattle.std.proofs.Common.{length-set, refl}
use Rattle.std.specs.Prelude.{slice_get}
use Rattle.std.proofs.lemmas.List.{take_more}
use Rattle.hart_core.specs.HartState.{HartState}
use Rattle.multi_hart.specs.Run.{State, turn, turned, run, KeepsShape, opening_harts}
use Rattle.hart_core.specs.Turn.{Next, Rests, Traps, Does, next_of, made, numbers_read, effect}
use Rattle.hart_core.specs.Scalar.{kind_of, accesses, stored}
use Rattle.memory.specs.Access.{written_by, AreBytes}
use Rattle.memory.proofs.StaysBytes.{none-bytes, put-bytes, spread-bytes}
use Rattle.memory.proofs.Putting.{length-put}

pub run-push : (state : State) (turns : List ℕ) (hart : ℕ) → run state (turns ++ hart ∷ []) ≡ turn (run state turns) hart
run-push state [] hart = refl
run-push state (first ∷ turns) hart = run-push (turn state first) turns hart

pub run-more : (state : State) (turns : List ℕ) (i : ℕ) → i < length turns → run state (take (i + 1) turns) ≡ turn (run state (take i turns)) (get_or turns i 0)
run-more state turns i below = ap (run state) (take_more turns i 0 below) ∙ run-push state (take i turns) (get_or turns i 0)

length-turned : (state : State) (hart : ℕ) (one : Option HartState) → length (turned state hart one).harts ≡ length state.harts
length-turned state hart None = refl
length-turned state hart (Some one) = length-set state.harts hart _

-- no turn changes the number of harts
pub length-turn : (state : State) (hart : ℕ) → length (turn state hart).harts ≡ length state.harts
length-turn state hart = length-turned state hart (slice_get state.harts hart)

-- no turn changes the text or the number of data bytes
shape-turned : (state : State) (hart : ℕ) (one : Option HartState) → KeepsShape state (turned state hart one)
shape-turned state hart None = record { text = refl; bytes = refl; harts = refl }
shape-turned state hart (Some one) = record {
  text = refl;
  bytes = length-put state.memory (effect state.text state.memory one).places (effect state.text state.memory one).bytes;
  harts = length-set state.harts hart _;
}

pub shape-turn : (state : State) (hart : ℕ) → KeepsShape state (turn state hart)
shape-turn state hart = shape-turned state hart (slice_get state.harts hart)

pub shape-then : (s t u : State) → KeepsShape s t → KeepsShape t u → KeepsShape s u
shape-then s t u a b = record { text = b.text ∙ a.text; bytes = b.bytes ∙ a.bytes; harts = b.harts ∙ a.harts }

-- as many harts open as are counted
pub length-opening_harts : (entry count numbers : ℕ) → length (opening_harts entry count numbers) ≡ numbers
length-opening_harts entry count zero = refl
length-opening_harts entry count (suc number) =
    length-append (opening_harts entry count number) _ ∙ omega (arith, length-opening_harts entry count number)

pub shape-run : (state : State) (harts : List ℕ) → KeepsShape state (run state harts)
shape-run state [] = record { text = refl; bytes = refl; harts = refl }
shape-run state (hart ∷ harts) = shape-then state (turn state hart) (run (turn state hart) harts) (shape-turn state hart) (shape-run (turn state hart) harts)

-- data stay bytes
pub made-bytes : (text memory : List ℕ) (hart : HartState) (next : Next) → AreBytes (made text memory hart next).bytes
made-bytes text memory hart Rests = none-bytes
made-bytes text memory hart (Traps trap) = none-bytes
made-bytes text memory hart (Does insn) = spread-bytes (written_by (kind_of insn) (accesses insn hart)) (stored insn hart (numbers_read text memory hart insn))

pub effect-bytes : (text memory : List ℕ) (hart : HartState) → AreBytes (effect text memory hart).bytes
effect-bytes text memory hart = made-bytes text memory hart (next_of text (length memory) hart)

turned-bytes : (state : State) (hart : ℕ) (one : Option HartState) → AreBytes state.memory → AreBytes (turned state hart one).memory
turned-bytes state hart None b = b
turned-bytes state hart (Some one) b =
    let e = effect state.text state.memory one in
    put-bytes state.memory e.places e.bytes b (effect-bytes state.text state.memory one)

pub run-bytes : (state : State) (harts : List ℕ) → AreBytes state.memory → AreBytes (run state harts).memory
run-bytes state [] b = b
run-bytes state (hart ∷ harts) b = run-bytes (turn state hart) harts (turned-bytes state hart (slice_get state.harts hart) b)
