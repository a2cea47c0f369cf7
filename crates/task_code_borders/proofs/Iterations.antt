-- Statements whose parts are in parts, and loops in parts.
use Rattle.std.proofs.Common.{◌≡◌, ℕ, ◌+◌, ◌^◌, ◌<◌, ◌≤◌, false, refl, ap, sym, subst, ◌∙◌, arith}
use Rattle.std.specs.Prelude.{None}
use Rattle.loop_ir.specs.declared.expressions.Counter.{Counter}
use Rattle.loop_ir.specs.declared.statements.LoopKind.TheVariants as kinds
use Rattle.loop_ir.specs.declared.statements.Stmt.{Stmt}
use Rattle.loop_ir.specs.declared.statements.Stmt.TheVariants as s
use Rattle.loop_ir.specs.declared.statements.Whole.{Whole}
use Rattle.task_code_borders.specs.Blind.{IsBlindStatement}
use Rattle.task_code_borders.specs.Borders.{is_border, iteration, number}
use Rattle.task_code_borders.specs.Parted.{DoesIterations, IsParted}
use Rattle.task_code_borders.proofs.Meanings.{same_sequence, same_serial, same_bind, same_once, does_part, does_both, does_all}
use Rattle.task_code_borders.proofs.Senses.{running, tracing, sounding, at_once, in_runs}
use Rattle.task_code_borders.proofs.Standing.{from_on}

pub blind_parted : (statement : Stmt) → IsBlindStatement statement → IsParted statement statement
blind_parted statement is = record {
  runs = λ points inputs values are. is.runs points inputs values;
  traces = λ points inputs func x y values are. is.traces points inputs func x y values;
  sound = λ reads written loaded values are. is.sound reads written loaded values;
  at_once = λ reads values are. is.at_once reads values;
  in_runs = λ reads func x y expected values are. is.in_runs reads func x y expected values;
}

pub parted_sequence : (first second one two : Stmt) → IsParted first one → IsParted second two → IsParted (s.Sequence first second) (s.Sequence one two)
parted_sequence first second one two is too = record {
  runs = λ points inputs. same_sequence (running points inputs) first second one two (is.runs points inputs) (too.runs points inputs);
  traces = λ points inputs func x y. same_sequence (tracing points inputs func x y) first second one two (is.traces points inputs func x y)
      (too.traces points inputs func x y);
  sound = λ reads written loaded. same_sequence (sounding reads written loaded) first second one two (is.sound reads written loaded)
      (too.sound reads written loaded);
  at_once = λ reads. same_sequence (at_once reads) first second one two (is.at_once reads) (too.at_once reads);
  in_runs = λ reads func x y expected. same_sequence (in_runs reads func x y expected) first second one two (is.in_runs reads func x y expected)
      (too.in_runs reads func x y expected);
}

pub parted_serial : (counter : Counter) (count : ℕ) (body statement : Stmt) → is_border counter ≡ false
    → IsParted body statement
    → IsParted (s.For counter count kinds.Serial body) (s.For counter count kinds.Serial statement)
parted_serial counter count body statement not is = record {
  runs = λ points inputs. same_serial (running points inputs) counter count body statement not (is.runs points inputs);
  traces = λ points inputs func x y. same_serial (tracing points inputs func x y) counter count body statement not (is.traces points inputs func x y);
  sound = λ reads written loaded. same_serial (sounding reads written loaded) counter count body statement not (is.sound reads written loaded);
  at_once = λ reads. same_serial (at_once reads) counter count body statement not (is.at_once reads);
  in_runs = λ reads func x y expected. same_serial (in_runs reads func x y expected) counter count body statement not (is.in_runs reads func x y expected);
}

pub parted_bind : (counter : Counter) (whole : Whole) (extent : ℕ) (body statement : Stmt) → is_border counter ≡ false → is_border whole.outer ≡ false
    → is_border whole.inner ≡ false → IsParted body statement → IsParted (s.Bind counter whole extent body) (s.Bind counter whole extent statement)
parted_bind counter whole extent body statement not outer inner is = record {
  runs = λ points inputs. same_bind (running points inputs) counter whole extent body statement not outer inner (is.runs points inputs);
  traces = λ points inputs func x y. same_bind (tracing points inputs func x y) counter whole extent body statement not outer inner
      (is.traces points inputs func x y);
  sound = λ reads written loaded. same_bind (sounding reads written loaded) counter whole extent body statement not outer inner (is.sound reads written loaded);
  at_once = λ reads. same_bind (at_once reads) counter whole extent body statement not outer inner (is.at_once reads);
  in_runs = λ reads func x y expected. same_bind (in_runs reads func x y expected) counter whole extent body statement not outer inner
      (is.in_runs reads func x y expected);
}

pub parted_once : (level : ℕ) (statement new_statement : Stmt) → IsParted statement new_statement → IsParted statement (s.For (iteration level) 1 kinds.Serial new_statement)
parted_once level statement new_statement is = record {
  runs = λ points inputs. same_once (running points inputs) level statement new_statement (is.runs points inputs);
  traces = λ points inputs func x y. same_once (tracing points inputs func x y) level statement new_statement (is.traces points inputs func x y);
  sound = λ reads written loaded. same_once (sounding reads written loaded) level statement new_statement (is.sound reads written loaded);
  at_once = λ reads. same_once (at_once reads) level statement new_statement (is.at_once reads);
  in_runs = λ reads func x y expected. same_once (in_runs reads func x y expected) level statement new_statement (is.in_runs reads func x y expected);
}

-- ---- iterations from one on

pub part_does : (counter : Counter) (level from count extent : ℕ) (body statement : Stmt) → is_border counter ≡ false → from + count ≤ extent → extent < 2 ^ 32
    → IsParted body statement
    → DoesIterations counter from count body (s.For (iteration level) count kinds.Serial (s.Bind counter (from_on level from) extent statement))
part_does counter level from count extent body statement not within small is = record {
  runs = λ points inputs. does_part (running points inputs) counter level from count extent body statement not within small (is.runs points inputs);
  traces = λ points inputs func x y. does_part (tracing points inputs func x y) counter level from count extent body statement not within small
      (is.traces points inputs func x y);
  sound = λ reads written loaded. does_part (sounding reads written loaded) counter level from count extent body statement not within small
      (is.sound reads written loaded);
  at_once = λ reads. does_part (at_once reads) counter level from count extent body statement not within small (is.at_once reads);
  in_runs = λ reads func x y expected. does_part (in_runs reads func x y expected) counter level from count extent body statement not within small
      (is.in_runs reads func x y expected);
}

pub both_do : (counter : Counter) (from m middle n count : ℕ) (body one two : Stmt) → middle ≡ from + m → count ≡ m + n
    → DoesIterations counter from m body one → DoesIterations counter middle n body two → DoesIterations counter from count body (s.Sequence one two)
both_do counter from m middle n count body one two at all is too = record {
  runs = λ points inputs. does_both (running points inputs) counter from m middle n count body one two at all (is.runs points inputs)
      (too.runs points inputs);
  traces = λ points inputs func x y. does_both (tracing points inputs func x y) counter from m middle n count body one two at all
      (is.traces points inputs func x y) (too.traces points inputs func x y);
  sound = λ reads written loaded. does_both (sounding reads written loaded) counter from m middle n count body one two at all
      (is.sound reads written loaded) (too.sound reads written loaded);
  at_once = λ reads. does_both (at_once reads) counter from m middle n count body one two at all (is.at_once reads) (too.at_once reads);
  in_runs = λ reads func x y expected. does_both (in_runs reads func x y expected) counter from m middle n count body one two at all
      (is.in_runs reads func x y expected) (too.in_runs reads func x y expected);
}

pub all_do : (counter : Counter) (from count all : ℕ) (body statement : Stmt) → from ≡ 0 → count ≡ all → DoesIterations counter from count body statement
    → IsParted (s.For counter all kinds.Serial body) statement
all_do counter from count all body statement none_before every is = record {
  runs = λ points inputs. does_all (running points inputs) counter from count all body statement none_before every (is.runs points inputs);
  traces = λ points inputs func x y. does_all (tracing points inputs func x y) counter from count all body statement none_before every
      (is.traces points inputs func x y);
  sound = λ reads written loaded. does_all (sounding reads written loaded) counter from count all body statement none_before every
      (is.sound reads written loaded);
  at_once = λ reads. does_all (at_once reads) counter from count all body statement none_before every
      (is.at_once reads);
  in_runs = λ reads func x y expected. does_all (in_runs reads func x y expected) counter from count all body statement none_before every
      (is.in_runs reads func x y expected);
}

-- ---- statements as they are made

pub part_made : (loop_counter : Counter) (extent level from count : ℕ) (inside body inner bound : Stmt) (counter start : Counter) → counter ≡ iteration level
    → start ≡ number from → inner ≡ body
    → bound ≡ s.Bind loop_counter (record { outer = counter; inner = start; factor = 1; last = None }) extent inner → extent < 2 ^ 32
    → is_border loop_counter ≡ false → from + count ≤ extent → IsParted inside body
    → DoesIterations loop_counter from count inside (s.For counter count kinds.Serial bound)
part_made loop_counter extent level from count inside body inner bound counter start counter_is start_is inner_is bound_is small not within is =
    let e : s.For counter count kinds.Serial bound ≡ s.For (iteration level) count kinds.Serial (s.Bind loop_counter (from_on level from) extent body) =
    ap (λ b. s.For counter count kinds.Serial b) bound_is
    ∙ ap (λ b. s.For counter count kinds.Serial (s.Bind loop_counter (record { outer = counter; inner = start; factor = 1; last = None }) extent b)) inner_is
    ∙ ap (λ c. s.For c count kinds.Serial (s.Bind loop_counter (record { outer = c; inner = start; factor = 1; last = None }) extent body)) counter_is
    ∙ ap (λ c. s.For (iteration level) count kinds.Serial (s.Bind loop_counter (record { outer = iteration level; inner = c; factor = 1; last = None }) extent body))
    start_is in
    subst (λ m. DoesIterations loop_counter from count inside m) (sym e) (part_does loop_counter level from count extent inside body not within small is)

module _ (counter : Counter) (inside : Stmt) where
  abbrev Does : ℕ → ℕ → Stmt → Type 0
  Does from count statement = DoesIterations counter from count inside statement

  pub first_none : (first count : ℕ) (statement : Stmt) → first ≡ 0
      → DoesIterations counter first count inside statement
      → DoesIterations counter 0 (first + count) inside statement
  first_none first count statement none is =
      let same : count ≡ first + count = omega (arith, none) in subst (λ n. Does 0 n statement) same (subst (λ n. Does n count statement) none is)

  pub last_none : (from last : ℕ) (statement : Stmt) → last ≡ 0 → DoesIterations counter 0 from inside statement → DoesIterations counter 0 (from + last) inside statement
  last_none from last statement none is = let same : from ≡ from + last = omega (arith, none) in subst (λ n. Does 0 n statement) same is

  pub first_made : (first count : ℕ) (border body front statement all : Stmt) → body ≡ border
      → all ≡ s.Sequence front statement
      → (IsParted inside body → DoesIterations counter 0 first inside front) → IsParted inside border → DoesIterations counter first count inside statement
      → DoesIterations counter 0 (first + count) inside all
  first_made first count border body front statement all body_is all_is front_does parted is =
      let from : first ≡ 0 + first = omega arith in
      subst (Does 0 (first + count)) (sym all_is)
      (both_do counter 0 first first count (first + count) inside front statement from refl (front_does (subst (IsParted inside) (sym body_is) parted)) is)

  pub last_made : (from last : ℕ) (border body statement end all : Stmt) → body ≡ border
      → all ≡ s.Sequence statement end
      → (IsParted inside body → DoesIterations counter from last inside end) → IsParted inside border → DoesIterations counter 0 from inside statement
      → DoesIterations counter 0 (from + last) inside all
  last_made from last border body statement end all body_is all_is end_does parted is =
      let begins : from ≡ 0 + from = omega arith in
      subst (Does 0 (from + last)) (sym all_is)
      (both_do counter 0 from from last (from + last) inside statement end begins refl is (end_does (subst (IsParted inside) (sym body_is) parted)))

  pub parts_made : (first middle end last count level : ℕ) (front all boxed : Stmt) (around : Counter) → first + middle ≡ end → end + last ≡ count
      → around ≡ iteration level → boxed ≡ all → DoesIterations counter 0 (first + middle) inside front
      → (DoesIterations counter 0 end inside front → DoesIterations counter 0 (end + last) inside all)
      → IsParted (s.For counter count kinds.Serial inside) (s.For around 1 kinds.Serial boxed)
  parts_made first middle end last count level front all boxed around in_front at_end around_is boxed_is is then =
      let whole = then (subst (λ n. Does 0 n front) in_front is) in
      subst (λ m. IsParted (s.For counter count kinds.Serial inside) m)
      (sym (ap (λ c. s.For c 1 kinds.Serial boxed) around_is ∙ ap (λ b. s.For (iteration level) 1 kinds.Serial b) boxed_is))
      (parted_once level (s.For counter count kinds.Serial inside) all (all_do counter 0 (end + last) count inside all refl at_end whole))
