-- What statements mean that are made of others, where so many iterations are made of two parts: for each meaning alike.
use Rattle.std.proofs.Common.{◌≡◌, ℕ, ◌+◌, ◌^◌, ◌<◌, ◌≤◌, true, false, cond, ap, sym, ◌∙◌, arith}
use Rattle.std.specs.Prelude.{nat_lt}
use Rattle.std.proofs.lemmas.Bool.{lt-ltb}
use Rattle.loop_ir.specs.declared.expressions.Counter.{Counter}
use Rattle.loop_ir.specs.declared.statements.LoopKind.TheVariants as kinds
use Rattle.loop_ir.specs.declared.statements.Stmt.{Stmt}
use Rattle.loop_ir.specs.declared.statements.Stmt.TheVariants as s
use Rattle.loop_ir.specs.declared.statements.Whole.{Whole}
use Rattle.loop_ir.specs.Counters.{Values, with}
use Rattle.loop_ir.specs.Running.{whole_value}
use Rattle.task_code_borders.specs.Borders.{AreNumbers, is_border, iteration, of_stages}
use Rattle.task_code_borders.proofs.Standing.{numbers_stay, numbers_stay_in, stages_with, stages_hide, whole_blind, iteration_is, from_on, from_on_is}

-- how what iterations mean is put together
pub record AreMany {X : Type 0} (join : X → X → X) (many : ℕ → (ℕ → X) → X) : Type 0 where
  pub same : (n : ℕ) (f g : ℕ → X) → ((i : ℕ) → i < n → f i ≡ g i) → many n f ≡ many n g
  pub sum : (m n : ℕ) (f : ℕ → X) → many (m + n) f ≡ join (many m f) (many n (λ i. f (m + i)))
  pub one : (f : ℕ → X) → many 1 f ≡ f 0

-- a meaning of statements by those of their parts
pub record IsMeaning {X : Type 0} (join : X → X → X) (none : X) (many : ℕ → (ℕ → X) → X) (of : Stmt → Values → X) : Type 0 where
  pub sequence : (first second : Stmt) (values : Values) → of (s.Sequence first second) values ≡ join (of first values) (of second values)
  pub serial : (counter : Counter) (count : ℕ) (body : Stmt) (values : Values)
      → of (s.For counter count kinds.Serial body) values ≡ many count (λ i. of body (with counter i values))
  pub bind : (counter : Counter) (whole : Whole) (extent : ℕ) (body : Stmt) (values : Values) → of (s.Bind counter whole extent body) values
      ≡ cond (nat_lt (whole_value whole values) extent) (of body (with counter (whole_value whole values) values)) none

-- one of a statement, and one of what is made of it
pub record Sense (X : Type 0) : Type 0 where
  pub join : X → X → X
  pub none : X
  pub many : ℕ → (ℕ → X) → X
  pub law : AreMany join many
  pub of : Stmt → Values → X
  pub made_of : Stmt → Values → X
  pub mean : IsMeaning join none many of
  pub meant : IsMeaning join none many made_of

-- ---- wherever values are good, which they stay

module _ {X : Type 0} (own : Sense X) (Good : Values → Type 0)
    (stay : (counter : Counter) (v : ℕ) (values : Values) → is_border counter ≡ false → Good values → Good (with counter v values)) where
  abbrev pub SameIf : Stmt → Stmt → Type 0
  SameIf one statement = (values : Values) → Good values → own.made_of statement values ≡ own.of one (of_stages values)

  pub sequence_if : (first second one two : Stmt) → SameIf first one → SameIf second two → SameIf (s.Sequence first second) (s.Sequence one two)
  sequence_if first second one two is too = λ values are.
      own.meant.sequence one two values
      ∙ ap (λ x. own.join x (own.made_of two values)) (is values are) ∙ ap (own.join (own.of first (of_stages values))) (too values are)
      ∙ sym (own.mean.sequence first second (of_stages values))

  pub many_if : (counter : Counter) (count : ℕ) (body statement : Stmt) → is_border counter ≡ false → SameIf body statement → (values : Values) → Good values
      → own.many count (λ i. own.made_of statement (with counter i values)) ≡ own.many count (λ i. own.of body (with counter i (of_stages values)))
  many_if counter count body statement not is values are =
      own.law.same count (λ i. own.made_of statement (with counter i values)) (λ i. own.of body (with counter i (of_stages values)))
      (λ i less. is (with counter i values) (stay counter i values not are) ∙ ap (own.of body) (stages_with counter i values not))

  pub serial_if : (counter : Counter) (count : ℕ) (body statement : Stmt) → is_border counter ≡ false
      → SameIf body statement
      → SameIf (s.For counter count kinds.Serial body) (s.For counter count kinds.Serial statement)
  serial_if counter count body statement not is = λ values are.
      own.meant.serial counter count statement values ∙ many_if counter count body statement not is values are
      ∙ sym (own.mean.serial counter count body (of_stages values))

  pub bind_if : (counter : Counter) (whole : Whole) (extent : ℕ) (body statement : Stmt) → is_border counter ≡ false → is_border whole.outer ≡ false
      → is_border whole.inner ≡ false → SameIf body statement → SameIf (s.Bind counter whole extent body) (s.Bind counter whole extent statement)
  bind_if counter whole extent body statement not outer inner is = λ values are.
      let v = whole_value whole values in
      own.meant.bind counter whole extent statement values
      ∙ ap (λ x. cond (nat_lt v extent) x own.none)
      (is (with counter v values) (stay counter v values not are) ∙ ap (own.of body) (stages_with counter v values not))
      ∙ ap (λ n. cond (nat_lt n extent) (own.of body (with counter n (of_stages values))) own.none) (sym (whole_blind whole values outer inner))
      ∙ sym (own.mean.bind counter whole extent body (of_stages values))

-- ---- wherever numbers stand as they do

module _ {X : Type 0} (own : Sense X) where
  abbrev pub Same : Stmt → Stmt → Type 0
  Same one statement = (values : Values) → AreNumbers values → own.made_of statement values ≡ own.of one
      (of_stages values)

  abbrev pub Does : Counter → ℕ → ℕ → Stmt → Stmt → Type 0
  Does counter from count body statement =
      (values : Values) → AreNumbers values → own.made_of statement values ≡ own.many count (λ i. own.of body (with counter (from + i) (of_stages values)))

  pub same_sequence : (first second one two : Stmt) → Same first one → Same second two → Same (s.Sequence first second) (s.Sequence one two)
  same_sequence = sequence_if own AreNumbers numbers_stay

  pub same_serial : (counter : Counter) (count : ℕ) (body statement : Stmt) → is_border counter ≡ false
      → Same body statement
      → Same (s.For counter count kinds.Serial body) (s.For counter count kinds.Serial statement)
  same_serial = serial_if own AreNumbers numbers_stay

  pub same_bind : (counter : Counter) (whole : Whole) (extent : ℕ) (body statement : Stmt) → is_border counter ≡ false → is_border whole.outer ≡ false
      → is_border whole.inner ≡ false → Same body statement → Same (s.Bind counter whole extent body) (s.Bind counter whole extent statement)
  same_bind = bind_if own AreNumbers numbers_stay

  -- a loop of one iteration that counts for nothing
  pub same_once : (level : ℕ) (one statement : Stmt) → Same one statement
      → Same one (s.For (iteration level) 1 kinds.Serial statement)
  same_once level one statement is = λ values are.
      own.meant.serial (iteration level) 1 statement values
      ∙ own.law.one (λ i. own.made_of statement (with (iteration level) i values))
      ∙ is (with (iteration level) 0 values) (numbers_stay_in level 0 values are)
      ∙ ap (own.of one) (stages_hide (iteration level) 0 values (iteration_is level))

  -- ---- iterations from one on

  pub does_part : (counter : Counter) (level from count extent : ℕ) (body statement : Stmt) → is_border counter ≡ false → from + count ≤ extent → extent < 2 ^ 32
      → Same body statement → Does counter from count body (s.For (iteration level) count kinds.Serial (s.Bind counter (from_on level from) extent statement))
  does_part counter level from count extent body statement not within small is = λ values are.
      own.meant.serial (iteration level) count (s.Bind counter (from_on level from) extent statement) values
      ∙ own.law.same count (λ i. own.made_of (s.Bind counter (from_on level from) extent statement) (with (iteration level) i values))
      (λ i. own.of body (with counter (from + i) (of_stages values))) (λ i less. each values are i less)
    where
      each : (values : Values) → AreNumbers values → (i : ℕ) → i < count
          → own.made_of (s.Bind counter (from_on level from) extent statement) (with (iteration level) i values)
          ≡ own.of body (with counter (from + i) (of_stages values))
      each values are i less =
          let at = with (iteration level) i values in
          let low : from + i < extent = omega (arith, less, within) in
          let value : whole_value (from_on level from) at ≡ from + i = from_on_is level from i values are (omega (arith, low, small)) in
          let passes : nat_lt (from + i) extent ≡ true = lt-ltb (from + i) extent low in
          own.meant.bind counter (from_on level from) extent statement at
          ∙ ap (λ v. cond (nat_lt v extent) (own.made_of statement (with counter v at)) own.none) value
          ∙ ap (λ b. cond b (own.made_of statement (with counter (from + i) at)) own.none) passes
          ∙ is (with counter (from + i) at) (numbers_stay counter (from + i) at not (numbers_stay_in level i values are))
          ∙ ap (own.of body) (stages_with counter (from + i) at not ∙ ap (with counter (from + i)) (stages_hide (iteration level) i values (iteration_is level)))

  pub does_both : (counter : Counter) (from m middle n count : ℕ) (body one two : Stmt) → middle ≡ from + m → count ≡ m + n → Does counter from m body one
      → Does counter middle n body two → Does counter from count body (s.Sequence one two)
  does_both counter from m middle n count body one two at all is too = λ values are.
      own.meant.sequence one two values
      ∙ ap (λ x. own.join x (own.made_of two values)) (is values are)
      ∙ ap (own.join (own.many m (λ i. own.of body (with counter (from + i) (of_stages values)))))
      (too values are ∙ own.law.same n (λ i. own.of body (with counter (middle + i) (of_stages values)))
      (λ i. own.of body (with counter (from + (m + i)) (of_stages values)))
      (λ i less. ap (λ v. own.of body (with counter v (of_stages values))) (moved i)))
      ∙ sym (own.law.sum m n (λ i. own.of body (with counter (from + i) (of_stages values))))
      ∙ ap (λ k. own.many k (λ i. own.of body (with counter (from + i) (of_stages values)))) (sym all)
    where
      moved : (i : ℕ) → middle + i ≡ from + (m + i)
      moved i = omega (arith, at)

  pub does_all : (counter : Counter) (from count all : ℕ) (body statement : Stmt) → from ≡ 0 → count ≡ all → Does counter from count body statement
      → Same (s.For counter all kinds.Serial body) statement
  does_all counter from count all body statement none_before every is = λ values are.
      is values are
      ∙ own.law.same count (λ i. own.of body (with counter (from + i) (of_stages values))) (λ i. own.of body (with counter i (of_stages values)))
      (λ i less. ap (λ v. own.of body (with counter v (of_stages values))) (start i))
      ∙ ap (λ n. own.many n (λ i. own.of body (with counter i (of_stages values)))) every
      ∙ sym (own.mean.serial counter all body (of_stages values))
    where
      start : (i : ℕ) → from + i ≡ i
      start i = omega (arith, none_before)
