-- Where the pixels of an output stand.
use Rattle.std.proofs.Common.{◌≡◌, ℕ, ◌+◌, ◌-◌, ◌*◌, ◌/◌, ◌%◌, ◌<◌, ◌≤◌, length, Some, None, ap, arith}
use Rattle.std.specs.Prelude.{IsTrue}
use Rattle.std.proofs.Math.Nat.{mul-le-mul_left}
use Rattle.std.proofs.lemmas.Bool.Decides.{nat_tests}
use Rattle.memory.specs.Access.{data_start, Reads, fault_of, word_at}
use Rattle.loader.specs.declared.outputs.Output.{Output}
use Rattle.loader.specs.Image.{is_output, end_of}
use Rattle.multi_hart.specs.Run.{State, if_no_fault, word_in}
use Rattle.hrv_engines.specs.Dump.{pixel_address, pixel}

-- what the rules of an output say
pub record Lies (bytes : ℕ) (output : Output) : Type 0 where
  pub address : output.address % 4 ≡ 0
  pub stride : output.stride % 4 ≡ 0
  pub low : data_start ≤ output.address
  pub high : end_of output ≤ data_start + bytes

pub lies : (bytes : ℕ) (output : Output) → IsTrue (is_output bytes output) → Lies bytes output
lies bytes output h = record {
  address = grind (arith, nat_tests);
  stride = grind (arith, nat_tests);
  low = grind (arith, nat_tests);
  high = grind (arith, nat_tests);
}

fours : (stride y : ℕ) → stride % 4 ≡ 0 → (y * stride) % 4 ≡ 0
fours stride y h =
    let whole : stride ≡ 4 * (stride / 4) = omega arith in
    let e : y * stride ≡ y * (4 * (stride / 4)) = ap (λ s. y * s) whole in
    omega (arith, e)

pub before_last : (stride y height : ℕ) → y < height → y * stride ≤ (height - 1) * stride
before_last stride y height h =
    let e : stride * y ≤ stride * (height - 1) = mul-le-mul_left stride (omega arith) in
    omega (arith, e)

-- an aligned word of data can be loaded
no_fault : (words bytes address : ℕ) → address % 4 ≡ 0 → data_start ≤ address → address + 4 ≤ data_start + bytes → fault_of words bytes Reads address 4 ≡ None
no_fault words bytes address aligned low high = grind (arith, nat_tests)

pub pixel_no_fault : (words bytes : ℕ) (output : Output) (x y : ℕ) → IsTrue (is_output bytes output) → x < output.width → y < output.height
    → fault_of words bytes Reads (pixel_address output x y) 4 ≡ None
pixel_no_fault words bytes output x y h below_x below_y =
    let l = lies bytes output h in
    let a = fours output.stride y l.stride in
    let b = before_last output.stride y output.height below_y in
    let aligned : pixel_address output x y % 4 ≡ 0 = omega (arith, a, l.address) in
    let low : data_start ≤ pixel_address output x y = omega (arith, l.low) in
    let high : pixel_address output x y + 4 ≤ data_start + bytes = omega (arith, b, l.high) in
    no_fault words bytes (pixel_address output x y) aligned low high

-- so the word of a pixel is there
pub pixel_word : (state : State) (output : Output) (x y : ℕ) → IsTrue (is_output (length state.memory) output) → x < output.width → y < output.height
    → word_in state (pixel_address output x y) ≡ Some (pixel state output x y)
pixel_word state output x y h below_x below_y =
    ap (λ f. if_no_fault f (word_at state.text state.memory (pixel_address output x y))) (pixel_no_fault (length state.text) (length state.memory) output x y h
    below_x below_y)
