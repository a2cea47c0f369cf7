-- What is known of loop variables while code runs. This project's own.
use Rattle.std.specs.Prelude.{◌≡◌, ◌<◌, ℕ, ◌%◌, ◌^◌, ◌||◌, if◌then◌else◌, Bool, true, false, List, [], ◌∷◌}
use Rattle.halide_pipeline.specs.Pixel.{Reads}
use Rattle.loop_ir.specs.declared.expressions.Counter.{Counter}
use Rattle.loop_ir.specs.declared.expressions.Expr.{Expr}
use Rattle.loop_ir.specs.declared.expressions.Linear.{Linear}
use Rattle.loop_ir.specs.Counters.{Values, same_counter, with}
use Rattle.loop_ir.specs.Expressions.{linear_value, value, loads}
use Rattle.task_code_registers.specs.Strides.{has_counter}
use Rattle.task_code_loops.specs.declared.known.KnownSum.{KnownSum}
use Rattle.task_code_loops.specs.declared.bounds.Bound.{Bound}
use Rattle.task_code_loops.specs.Bounds.{AreBelow}
use Rattle.task_code_loops.specs.Known.{AreKnown}
use Rattle.task_code_names.specs.declared.names.Named.{Named}
use Rattle.task_code_names.specs.Names.{AreNames}
use Rattle.task_code_statements.specs.declared.contexts.Context.{Context}

-- variables have the values of their sums, and are below their counts, and names have those of their expressions
pub record Meets (context : Context) (values : Values) : Type 0 where
  pub known : AreKnown context.known.items values
  pub below : AreBelow context.bounds.items values
  pub named : AreNames context.names.items values

-- nothing is known
pub record IsEmpty (context : Context) : Type 0 where
  pub known : context.known.items ≡ []
  pub bounds : context.bounds.items ≡ []
  pub names : context.names.items ≡ []

-- Where one context is met, another one is in each iteration of a loop,
pub record MeetsLoop (context : Context) (counter : Counter) (count : ℕ) (new_context : Context) : Type 0 where
  pub meets : (values : Values) (i : ℕ) → i < count → Meets context values → Meets new_context (with counter i values)

-- where a variable is at the value of a sum,
pub record MeetsSum (context : Context) (counter : Counter) (sum : Linear) (new_context : Context) : Type 0 where
  pub meets : (values : Values) (v : ℕ) → v % 2 ^ 32 ≡ linear_value values sum → Meets context values → Meets new_context (with counter v values)

-- where one is at a number,
pub record MeetsNumber (context : Context) (counter : Counter) (number : ℕ) (new_context : Context) : Type 0 where
  pub meets : (values : Values) → values counter ≡ number → Meets context values → Meets new_context values

-- and where a name has the value of an expression that is a word and loads nothing.
pub record MeetsName (context : Context) (counter : Counter) (e : Expr) (new_context : Context) : Type 0 where
  pub meets : (values : Values) (v : ℕ) → v < 2 ^ 32 → ((reads : Reads) → value reads values e ≡ v) → ((reads : Reads) → loads reads values e ≡ [])
      → Meets context values → Meets new_context (with counter v values)

-- ---- names

-- names have their values wherever a variable is
abbrev pub StayNamed : Counter → List Named → List Named → Type 0
StayNamed counter names named_parts = (values : Values) (v : ℕ) → AreNames names values
    → AreNames named_parts (with counter v values)

-- so it is with those after others
abbrev pub KeepsNames : Counter → List Named → List Named → List Named → Type 0
KeepsNames counter names old new =
    (values : Values) (v : ℕ) → AreNames names values → AreNames old (with counter v values) → AreNames new (with counter v values)

-- ---- other variables

-- a number is known below which the variable stays
abbrev pub is_bounded : List Bound → Counter → Bool
is_bounded [] counter = false
is_bounded (own ∷ others) counter = if same_counter own.counter counter then true else is_bounded others counter

-- what is known of other variables than one, by sums without it
abbrev pub without : Counter → List KnownSum → List KnownSum
without counter [] = []
without counter (own ∷ others) =
    if same_counter own.counter counter || has_counter counter own.sum.terms then without counter others else own ∷ without counter others
