-- What has room in the frame has it in its parts.
use Rattle.std.proofs.Common.{◌≡◌, ℕ, suc, ◌+◌, ◌*◌, ◌^◌, ◌<◌, ◌≤◌, Bool, true, false, Option, Some, None, refl, ap, ◌∙◌, sym, subst, arith, inl, inr}
use Rattle.std.specs.Prelude.{◌⊎◌, ◌==◌, max, min, nat_le, if◌then◌else◌}
use Rattle.std.proofs.lemmas.Bool.Decides.{nat_tests}
use Rattle.halide_pipeline.specs.declared.expressions.Operation.{Operation}
use Rattle.halide_pipeline.specs.declared.expressions.Source.{Source}
use Rattle.loop_ir.specs.declared.expressions.Expr.{Expr}
use Rattle.loop_ir.specs.declared.expressions.Expr.TheOpen.{Expr-F}
use Rattle.loop_ir.specs.declared.expressions.Expr.TheOpen as layer
use Rattle.loop_ir.specs.declared.expressions.Expr.TheVariants as e
use Rattle.loop_ir.specs.declared.expressions.Linear.{Linear}
use Rattle.loop_ir.specs.Needs.{Need, beside_first, divisor_need, need_at, need_of, need}
use Rattle.loop_ir.specs.Sizes.{Size, kept, size_at, size_of}
use Rattle.loop_ir.proofs.Folds.{Both, left_of, right_of, folds_related}
use Rattle.loop_ir.proofs.Needs.{need_number, need_linear, need_binary, need_divide, need_remainder, need_select, need_load}
use Rattle.task_code_scalar.specs.Code.{frame_words}
use Rattle.task_code_scalar.specs.Faults.{LieLow, HasRoom, FitsFrame}
use Rattle.task_code_registers.specs.Registers.{first_value}
use Rattle.task_code_values.specs.Operands.{FitsOperand}
use Rattle.task_code_values.specs.Spilling.{HasSlot, IsDeep, FitsPair, FitsSecond, room_limit}
use Rattle.task_code_values.specs.Depths.{depth}
use Rattle.task_code_values.proofs.FirstOperands.{depth-over}
use Rattle.task_code_values.proofs.Parts.{need-some}

few-words : (frames : Option ℕ) → frame_words frames ≤ 1024
few-words None = omega arith
few-words (Some start) = omega arith

-- ---- leaves

abbrev SameLeaf : Size → Need → Type 0
SameLeaf w n = w.is_leaf ≡ n.is_leaf

same-level : (y : Expr-F (Both SameLeaf)) → SameLeaf (size_at (left_of SameLeaf y)) (need_at (right_of SameLeaf y))
same-level (layer.Number n) = refl
same-level (layer.Linear own) = refl
same-level (layer.Binary o a b) = refl
same-level (layer.Divide a c) = refl
same-level (layer.Remainder a c) = refl
same-level (layer.Select c a b) = refl
same-level (layer.Load source x y) = refl

-- what is no leaf counts what it takes to keep a first operand
pub waits : (expression : Expr) → (need_of expression).is_leaf ≡ false → kept (size_of expression) ≡ 15
unfolding size_of need_of
waits expression leaf = ap (λ (t : Bool). if t then 0 else 15)
    (folds_related SameLeaf size_at need_at same-level expression ∙ leaf)

-- ---- on the stack, or in the frame

pub deep-over : (frames : Option ℕ) (expression : Expr) (word k : ℕ) → 0 < k → k ≤ depth expression → FitsFrame frames expression word → IsDeep frames expression word
deep-over frames expression word k some most fits = (fits.0, (many, by fits.1))
  where
    many : 12 < need expression
    many = depth-over expression (omega (arith, some, most))

    by : HasRoom frames (need expression) word → need expression + word ≤ frame_words frames
    by (inl few) = absurd (let m = many in omega (arith, few, m))
    by (inr room) = room

pub stack-few : (expression : Expr) → need expression ≤ 12 → FitsOperand expression first_value
stack-few expression few leaf = omega (arith, few)

-- ---- parts

module _ (frames : Option ℕ) where
  through : (new_expression whole : Expr) (n : Need) (word : ℕ) → new_expression ≡ whole → need_of whole ≡ n → IsDeep frames new_expression word → n.count + word ≤ frame_words frames
  through new_expression whole n word eo en deep = subst (λ (y : Need). y.count + word ≤ frame_words frames) (ap need_of eo ∙ en) deep.1.1

  many : (new_expression whole : Expr) (n : Need) (word : ℕ) → new_expression ≡ whole → need_of whole ≡ n → IsDeep frames new_expression word → 12 < n.count
  many new_expression whole n word eo en deep = subst (λ (y : Need). 12 < y.count) (ap need_of eo ∙ en) deep.1.0

  pub number-shallow : (new_expression : Expr) (n word : ℕ) → new_expression ≡ e.Number n
      → IsDeep frames new_expression word → ⊥
  number-shallow new_expression n word eo deep = let k = many new_expression (e.Number n) _ word eo (need_number n) deep
      in omega (arith, k)

  pub linear-shallow : (new_expression : Expr) (sum : Linear) (word : ℕ) → new_expression ≡ e.Linear sum
      → IsDeep frames new_expression word → ⊥
  linear-shallow new_expression sum word eo deep = let k = many new_expression (e.Linear sum) _ word eo (need_linear sum) deep in omega (arith, k)

  second-room : (a b : Expr) (word : ℕ) → LieLow frames → max (need a) (beside_first (need_of b)) + word ≤ frame_words frames → FitsSecond frames b word
  second-room a b word low room leaf =
      let n : beside_first (need_of b) ≡ 1 + need b = ap (λ t. if t then 0 else 1 + need b) leaf in
      ((low, omega (arith, room, n)), (low, inr (omega (arith, room, n))))

  pub record DeepPair (a b : Expr) (word : ℕ) : Type 0 where
    pub first : FitsFrame frames a word
    pub second : FitsSecond frames b word

  pub binary-deep-fits : (new_expression : Expr) (o : Operation) (a b : Expr) (word : ℕ) → new_expression ≡ e.Binary o a b → IsDeep frames new_expression word → DeepPair a b word
  binary-deep-fits new_expression o a b word eo deep =
      let room = through new_expression (e.Binary o a b) _ word eo (need_binary o a b) deep in
      record { first = (deep.0, inr (omega (arith, room))); second = second-room a b word deep.0 room }

  pub load-deep-fits : (new_expression : Expr) (source : Source) (a b : Expr) (word : ℕ) → new_expression ≡ e.Load source a b → IsDeep frames new_expression word → DeepPair a b word
  load-deep-fits new_expression source a b word eo deep =
      let room = through new_expression (e.Load source a b) _ word eo (need_load source a b) deep in
      record { first = (deep.0, inr (omega (arith, room))); second = second-room a b word deep.0 room }

  divided : (a : Expr) (c word : ℕ) → LieLow frames → max (need a) (divisor_need c) + word ≤ frame_words frames → FitsFrame frames a word × (0 < c)
  divided a c word low room = ((low, inr (omega (arith, room))), by-test (c == 0) refl room)
    where
      by-test : (t : Bool) → (c == 0) ≡ t → max (need a) (if t then 2 ^ 32 else 2) + word ≤ frame_words frames → 0 < c
      by-test true is l = let f = few-words frames in absurd (omega (arith, l, f))
      by-test false is l = grind (arith, nat_tests, is)

  pub divide-deep-fits : (new_expression a : Expr) (c word : ℕ) → new_expression ≡ e.Divide a c → IsDeep frames new_expression word → FitsFrame frames a word × (0 < c)
  divide-deep-fits new_expression a c word eo deep = divided a c word deep.0 (through new_expression (e.Divide a c) _ word eo (need_divide a c) deep)

  pub remainder-deep-fits : (new_expression a : Expr) (c word : ℕ) → new_expression ≡ e.Remainder a c → IsDeep frames new_expression word → FitsFrame frames a word × (0 < c)
  remainder-deep-fits new_expression a c word eo deep = divided a c word deep.0 (through new_expression (e.Remainder a c) _ word eo (need_remainder a c) deep)

  pub record DeepTriple (c a b : Expr) (word : ℕ) : Type 0 where
    pub first : FitsFrame frames c word
    pub slot : HasSlot frames word
    pub second : FitsFrame frames a (word + 1)
    pub third : FitsPair frames b (word + 1)

  pub select-deep-fits : (new_expression c a b : Expr) (word : ℕ) → new_expression ≡ e.Select c a b → IsDeep frames new_expression word → DeepTriple c a b word
  select-deep-fits new_expression c a b word eo deep =
      let room = through new_expression (e.Select c a b) _ word eo (need_select c a b) deep in
      let s = need-some b in
      record {
        first = (deep.0, inr (omega (arith, room)));
        slot = (deep.0, omega (arith, room));
        second = (deep.0, inr (omega (arith, room)));
        third = ((deep.0, omega (arith, room, s)), (deep.0, inr (omega (arith, room))));
      }

-- the same of a part that is the same expression
pub deep-as : (frames : Option ℕ) (x a : Expr) (word : ℕ) → x ≡ a → FitsFrame frames a word → FitsFrame frames x word
deep-as frames x a word ex fits = subst (λ (y : Expr). FitsFrame frames y word) (sym ex) fits

pub second-as : (frames : Option ℕ) (x a : Expr) (word : ℕ) → x ≡ a → FitsSecond frames a word → FitsSecond frames x word
second-as frames x a word ex fits = subst (λ (y : Expr). FitsSecond frames y word) (sym ex) fits

pub pair-as : (frames : Option ℕ) (x a : Expr) (word : ℕ) → x ≡ a → FitsPair frames a word → FitsPair frames x word
pair-as frames x a word ex fits = subst (λ (y : Expr). FitsPair frames y word) (sym ex) fits

-- ---- measures

pub deep-measure : (m n t : ℕ) → 4 * n ≡ t → m < n → suc (4 * m) < t
deep-measure m n t et less = omega (arith, et, less)

pub pair-measure : (m n t : ℕ) → 4 * n ≡ t → m < n → 2 + 4 * m < t
pair-measure m n t et less = omega (arith, et, less)

pub beside-measure : (m n t : ℕ) → 4 * n ≡ t → m < n → 3 + 4 * m < t
beside-measure m n t et less = omega (arith, et, less)

pub own-spilling : (n t : ℕ) → suc (4 * n) ≡ t → 4 * n < t
own-spilling n t et = omega (arith, et)

pub own-pair : (n t : ℕ) → 2 + 4 * n ≡ t → suc (4 * n) < t
own-pair n t et = omega (arith, et)

pub own-beside : (n t : ℕ) → 3 + 4 * n ≡ t → 2 + 4 * n < t
own-beside n t et = omega (arith, et)

-- ---- all of the frame

pub limit-fits : (frames : Option ℕ) (expression : Expr) (k limit : ℕ) → k ≡ min (need expression) 2000 → limit ≡ room_limit frames → k ≤ limit → FitsFrame frames expression 0
limit-fits None expression k limit is el few = (tt, inl (omega (arith, is, el, few)))
limit-fits (Some start) expression k limit is el few = by-test (nat_le start 4294901760) refl el
  where
    by-test : (t : Bool) → nat_le start 4294901760 ≡ t → limit ≡ (if t then 1024 else 0)
        → FitsFrame (Some start) expression 0
    by-test true e g = (grind (arith, nat_tests, e), inr (omega (arith, is, g, few)))
    by-test false e g = let s = need-some expression in absurd (omega (arith, is, g, few, s))

pub limit-none : (frames : Option ℕ) (expression : Expr) (k limit : ℕ) → k ≡ min (need expression) 2000 → limit ≡ room_limit frames → limit < k → FitsFrame frames expression 0 → ⊥
limit-none None expression k limit is el many fits = by fits.1
  where
    by : (need expression ≤ 12) ⊎ (need expression + 0 ≤ 0) → ⊥
    by (inl l) = omega (arith, is, el, many, l)
    by (inr l) = omega (arith, is, el, many, l)
limit-none (Some start) expression k limit is el many fits = by fits.1
  where
    low : nat_le start 4294901760 ≡ true
    low = let l = fits.0 in grind (arith, nat_tests, l)

    el-is : limit ≡ 1024
    el-is = el ∙ ap (λ (t : Bool). if t then 1024 else 0) low

    by : (need expression ≤ 12) ⊎ (need expression + 0 ≤ 1024) → ⊥
    by (inl l) = let g = el-is in omega (arith, is, g, many, l)
    by (inr l) = let g = el-is in omega (arith, is, g, many, l)
