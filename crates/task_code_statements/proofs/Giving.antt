-- Code that gives names their values, and what is after it.
use Rattle.std.proofs.Common.{◌≡◌, ℕ, ◌+◌, ◌*◌, ◌%◌, ◌^◌, ◌<◌, List, [], ◌∷◌, ◌++◌, length, length-append, Bool, true, false, refl, ap, ◌∙◌, sym, subst, arith}
use Rattle.std.proofs.Common.{inl, inr}
use Rattle.std.specs.Prelude.{Option, Some, None}
use Rattle.std.specs.List.{list_all}
use Rattle.std.proofs.lemmas.Bool.{true≢false}
use Rattle.rv_insn.specs.declared.instructions.Insn.{Insn}
use Rattle.halide_pipeline.specs.Pixel.{Planes, Reads, reads_of}
use Rattle.loop_ir.specs.declared.expressions.Counter.{Counter}
use Rattle.loop_ir.specs.declared.expressions.Expr.{Expr}
use Rattle.loop_ir.specs.declared.statements.Stmt.{Stmt}
use Rattle.loop_ir.specs.declared.statements.Stmt.TheVariants as s
use Rattle.loop_ir.specs.Counters.{Values, with}
use Rattle.loop_ir.specs.Expressions.{value, linear_value}
use Rattle.loop_ir.specs.Running.{run}
use Rattle.multi_hart_laws.specs.Paths.{Path, Writes, end}
use Rattle.multi_hart_laws.proofs.Paths.{stand-front, stand-back, end-append}
use Rattle.task_code_scalar.specs.declared.layouts.Places.{Places}
use Rattle.task_code_scalar.specs.Doing.{Setting, stored_points}
use Rattle.task_code_scalar.proofs.Spelling.{emits_then, emits-apart}
use Rattle.task_code_registers.specs.declared.scopes.AffineForm.{AffineForm}
use Rattle.task_code_registers.specs.declared.scopes.Held.{Held}
use Rattle.task_code_registers.specs.Doing.{Did}
use Rattle.task_code_registers.specs.Emitting.{MakesOf}
use Rattle.task_code_registers.specs.Holding.{mentions}
use Rattle.task_code_registers.specs.Scopes.{IsKept, IsLeft, form_value}
use Rattle.task_code_registers.specs.Registers.{first_value}
use Rattle.task_code_registers.proofs.Going.{Went, went-hits, went-then, within}
use Rattle.task_code_registers.proofs.Knowing.{knows-still, knows-zero, kept-apart}
use Rattle.task_code_registers.proofs.Looping.{points_hit}
use Rattle.task_code_loops.specs.Beginning.{variable}
use Rattle.task_code_loops.proofs.Knowledge.{knows-with, stands-at}
use Rattle.task_code_values.specs.Storing.{MakesValue}
use Rattle.task_code_values.proofs.Standing.{kept-below}
use Rattle.task_code_names.specs.Copies.{IsLoadFree}
use Rattle.task_code_vector_loops.specs.Naming.{is_name}
use Rattle.task_code_statements.specs.declared.contexts.Context.{Context}
use Rattle.task_code_statements.specs.declared.names.Naming.{Naming}
use Rattle.task_code_statements.specs.Contexts.{Meets, MeetsName}
use Rattle.task_code_statements.specs.Naming.{KeepsValue, NamesHold, NamesIf, no_points}
use Rattle.task_code_statements.specs.Statements.{EmitsLoop, EmitsStatement}
use Rattle.task_code_statements.proofs.Plainness.{name-with}

-- ---- code after other code

module _ {own : Setting} {code : List Insn} {n : ℕ} {f : ℕ → ℕ} {memory : List ℕ} {funcs : Planes} {stored : ℕ → ℕ → ℕ → Bool} where
  abbrev went-of : {keeps_it fewer : ℕ → Type 0} → ((q : ℕ) → fewer q → keeps_it q) → Did own code n f memory keeps_it funcs stored
      → Went own code (λ at. at) (λ at. end at code) n f memory fewer funcs (points_hit stored)
  went-of less a = record {
    after = a.after;
    left = a.left;
    path = a.block;
    keeps = λ q k. a.keeps q (less q k);
    holds = a.holds;
    elsewhere = a.elsewhere;
    are_bytes = a.are_bytes;
    writes = a.writes;
  }

-- what was done is left to a larger whole, and nothing is stored in front
module _ (setting : Setting) (scope : List Held) (within_keeps : ℕ → Type 0) (first second : List Insn) (n k t : ℕ) (f : ℕ → ℕ) (memory : List ℕ)
    (middle funcs : Planes) (stored : ℕ → ℕ → ℕ → Bool) (kept : (q : ℕ) → IsKept scope q → within_keeps q) (is : n + k ≡ t)
    (one : Did setting first n f memory (IsKept scope) middle no_points) (other : Did setting second k one.after one.left within_keeps funcs stored) where
  abbrev whole : List Insn
  whole = first ++ second

  abbrev front : Went setting whole (λ at. at) (λ at. end at first) n f memory (IsKept scope) middle
      (points_hit no_points)
  front =
      within setting (λ at. at) (λ at. end at first) (λ at s. stand-front setting.world.text at first second s) (λ at. refl) (went-of (λ q h. h) one)

  abbrev back : Went setting whole (λ at. end at first) (λ at. end at whole) k one.after one.left (IsKept scope) funcs (points_hit stored)
  back =
      within setting (λ at. end at first) (λ at. end at whole) (λ at s. stand-back setting.world.text at first second s) (λ at. sym (end-append at first second))
      (went-of kept other)

  abbrev both : Went setting whole (λ at. at) (λ at. end at whole) (n + k) f memory (IsKept scope) funcs
      (points_hit stored)
  both = went-hits setting (λ func x y hit. inr hit) (went-then setting front back)

  abbrev pub done-behind : Did setting whole t f memory (IsKept scope) funcs stored
  done-behind = record {
    after = other.after;
    left = other.left;
    block = λ at s. subst (λ m. Path setting.world at (end at whole) m f memory other.after other.left) is
        (both.path at s);
    keeps = both.keeps;
    holds = other.holds;
    elsewhere = both.elsewhere;
    are_bytes = both.are_bytes;
    writes = λ func x y byte at hit of s. subst (λ m. Writes setting.world at m f memory byte) is (both.writes func x y byte at hit of s);
  }

pub statement-behind : (places : Places) (scope inner : List Held) (is_so within_so : Values → Type 0) (c0 c1 c2 : List ℕ) (statement : Stmt)
    → NamesHold c0 c1 places scope is_so inner within_so → EmitsStatement c1 c2 places inner within_so statement
    → EmitsStatement c0 c2 places scope is_so statement
statement-behind places scope inner is_so within_so c0 c1 c2 statement n x = record {
  insns = n.insns ++ x.insns;
  emits = emits_then n.emits x.emits;
  turns = λ named. length n.insns + x.turns (n.named_as named);
  does = λ own good at values named are holders meets may f memory funcs holds knows.
      let one = n.does own good at named holders meets f memory funcs holds knows in
      let t = length n.insns + x.turns (n.named_as named) in
      done-behind own scope (IsKept inner) n.insns x.insns (length n.insns) (x.turns (n.named_as named)) t f memory funcs
      (run own.points own.inputs statement values funcs) (stored_points own statement values funcs) n.kept refl one.did
      (x.does own good at values (n.named_as named) (n.are_named values named are) (n.holders holders)
      (n.meets own good at named holders meets f memory funcs holds knows) may one.did.after one.did.left funcs one.did.holds one.knows);
}

pub names-then : (places : Places) (scope inner last : List Held) (is_so within_so last_so : Values → Type 0) (c0 c1 c2 : List ℕ)
    → NamesHold c0 c1 places scope is_so inner within_so → NamesHold c1 c2 places inner within_so last last_so
    → NamesHold c0 c2 places scope is_so last last_so
names-then places scope inner last is_so within_so last_so c0 c1 c2 n x = record {
  insns = n.insns ++ x.insns;
  emits = emits_then n.emits x.emits;
  named_as = λ named. x.named_as (n.named_as named);
  are_named = λ values named are. x.are_named values (n.named_as named) (n.are_named values named are);
  holders = λ holders. x.holders (n.holders holders);
  kept = λ q h. x.kept q (n.kept q h);
  meets = λ own good at named holders meets f memory funcs holds knows.
      let one = n.does own good at named holders meets f memory funcs holds knows in
      x.meets own good at (n.named_as named) (n.holders holders) (n.meets own good at named holders meets f memory funcs holds knows) one.did.after
      one.did.left funcs one.did.holds one.knows;
  does = λ own good at named holders meets f memory funcs holds knows.
      let one = n.does own good at named holders meets f memory funcs holds knows in
      let two = x.does own good at (n.named_as named) (n.holders holders) (n.meets own good at named holders meets f memory funcs holds knows) one.did.after
      one.did.left funcs one.did.holds one.knows in
      record {
        did = done-behind own scope (IsKept inner) n.insns x.insns (length n.insns) (length x.insns) (length (n.insns ++ x.insns)) f memory funcs funcs
            no_points n.kept (sym (length-append n.insns x.insns)) one.did two.did;
        knows = two.knows;
      };
}

-- ---- a value in a register

pub value-kept : (places : Places) (scope : List Held) (register s : ℕ) (e : Expr) (none c1 c2 : List ℕ) → none ≡ []
    → MakesValue none c1 places scope 0 s e → MakesOf c1 c2 3 register s (λ v. (v + 0) % 2 ^ 32) → KeepsValue places scope register e c2
value-kept places scope register s e none c1 c2 en made y =
    let x = subst (λ c. MakesValue c c1 places scope 0 s e) en made in
    record {
      insns = x.insns ++ y.insns;
      emits = emits_then x.emits y.emits;
      does = λ own good at named holders free still f memory funcs holds knows.
          let hart = own.world.hart in
          let reads = reads_of own.inputs funcs in
          let v = value reads named e in
          let m = x.does own good at named holders f memory funcs holds knows (ap (list_all own.loaded) (still reads)) in
          let one : Did own x.insns (length x.insns) f memory (IsKept scope) funcs no_points = record {
            after = m.after;
            left = m.left;
            block = λ at s. m.line at s;
            keeps = λ q h. m.keeps q (kept-below scope q first_value (omega arith) holders h);
            holds = m.holds;
            elsewhere = λ byte other. m.before byte other.frame;
            are_bytes = m.are_bytes;
            writes = λ func x y byte at hit of s. absurd (true≢false (sym hit));
          } in
          let zero = knows-zero hart scope named m.after (knows-still hart scope named f m.after one.keeps knows) in
          let p = y.does own.world m.left m.after m.holds.size zero (subst (λ n. n < 2 ^ 32) (sym m.value) m.small) in
          let two : Did own y.insns (length y.insns) m.after m.left (IsKept scope) funcs no_points = record {
            after = p.after;
            left = m.left;
            block = λ at s. p.line at s;
            keeps = λ q h. let apart = kept-apart scope q holders h in p.others q (free.1 q h) apart.0 apart.1;
            holds = m.holds;
            elsewhere = λ byte other. refl;
            are_bytes = λ are. are;
            writes = λ func x y byte at hit of s. absurd (true≢false (sym hit));
          } in
          let small = m.small in
          let same : (v + 0) % 2 ^ 32 ≡ v = omega (arith, small) in
          record {
            did = done-behind own scope (IsKept scope) x.insns y.insns (length x.insns) (length y.insns) (length (x.insns ++ y.insns)) f memory funcs funcs
                no_points (λ q h. h) (sym (length-append x.insns y.insns)) one two;
            value = p.value ∙ ap (λ n. (n + 0) % 2 ^ 32) m.value ∙ same;
            small = small;
          };
    }

-- ---- a name

-- all sources hold 0
abbrev no_reads : Reads
no_reads source x y = 0

variable-form : (hart : ℕ) (values : Values) (counter : Counter) → values counter < 2 ^ 32 → form_value hart values (variable counter) ≡ values counter
unfolding form_value linear_value
variable-form hart values counter small =
    let n = values counter in
    let g : ((0 + (n * 1 + 0)) % 2 ^ 32 + hart * 0) % 2 ^ 32 ≡ n = omega (arith, small) in
    g

pub name-holds : (places : Places) (scope : List Held) (context : Context) (counter : Counter) (e : Expr) (register : ℕ) (words : List ℕ)
    (new_context : Context) (form : AffineForm) (inner : List Held) (c0 c1 : List ℕ) → is_name counter ≡ true → IsLoadFree e → mentions counter scope ≡ false
    → MeetsName context counter e new_context → IsLeft scope register → KeepsValue places scope register e words → form ≡ variable counter
    → inner ≡ record { register = register; form = form } ∷ scope → c1 ≡ c0 ++ words
    → NamesHold c0 c1 places scope (Meets context) inner (Meets new_context)
name-holds places scope context counter e register words new_context form inner c0 c1 is still loop_invariant new free x
    ef ei ec =
    subst (λ l. NamesHold c0 c1 places scope (Meets context) l (Meets new_context)) (sym (ei ∙ ap (λ k. record { register = register; form = k } ∷ scope) ef))
    (record {
      insns = x.insns;
      emits = emits-apart c0 c1 words x.insns x.emits ec;
      named_as = λ named. with counter (value no_reads named e) named;
      are_named = λ values named are. name-with values named counter (value no_reads named e) is are;
      holders = λ holders. (inl free.0, (free.1, holders));
      kept = λ q h. inr h;
      meets = λ own good at named holders meets f memory funcs holds knows.
          let a = x.does own good at named holders free (λ reads. still.none reads named) f memory funcs holds knows in
          let e0 = still.value_is (reads_of own.inputs funcs) no_reads named in
          new.meets named (value no_reads named e) (subst (λ n. n < 2 ^ 32) e0 a.small) (λ reads. still.value_is reads no_reads named)
          (λ reads. still.none reads named) meets;
      does = λ own good at named holders meets f memory funcs holds knows.
          let hart = own.world.hart in
          let v = value no_reads named e in
          let a = x.does own good at named holders free (λ reads. still.none reads named) f memory funcs holds knows in
          let e0 = still.value_is (reads_of own.inputs funcs) no_reads named in
          let here : with counter v named counter ≡ v = stands-at counter v named in
          let small = subst (λ n. n < 2 ^ 32) (e0 ∙ sym here) a.small in
          record {
            did = a.did;
            knows = (
              a.value ∙ e0 ∙ sym here ∙ sym (variable-form hart (with counter v named) counter small),
              knows-with counter v hart scope named a.did.after loop_invariant (knows-still hart scope named f a.did.after a.did.keeps knows),
            );
          };
    })

-- ---- as the emitters call them

pub none-given : (places : Places) (scope : List Held) (context : Context) (naming : Option Naming) (c0 c1 : List ℕ) → naming ≡ None
    → NamesIf c0 c1 places scope context naming → c1 ≡ c0
none-given places scope context naming c0 c1 is all = subst (λ o. NamesIf c0 c1 places scope context o) is all

pub some-given : (places : Places) (scope : List Held) (context : Context) (naming : Naming) (found_naming : Option Naming) (c0 c1 : List ℕ) → found_naming ≡ Some naming
    → NamesIf c0 c1 places scope context found_naming → NamesHold c0 c1 places scope (Meets context) naming.scope.items (Meets naming.context)
some-given places scope context naming found_naming c0 c1 is all = subst (λ o. NamesIf c0 c1 places scope context o) is
    all

pub more-if : (places : Places) (scope : List Held) (context : Context) (one more : Naming) (naming : Option Naming) (view : List Held) (c0 c1 c2 : List ℕ)
    → NamesHold c0 c1 places scope (Meets context) one.scope.items (Meets one.context) → naming ≡ Some more → view ≡ one.scope.items
    → NamesIf c1 c2 places view one.context naming → NamesHold c0 c2 places scope (Meets context) more.scope.items (Meets more.context)
more-if places scope context one more naming view c0 c1 c2 n is ev all =
    names-then places scope one.scope.items more.scope.items (Meets context) (Meets one.context) (Meets more.context) c0 c1 c2 n
    (subst (λ l. NamesHold c1 c2 places l (Meets one.context) more.scope.items (Meets more.context)) ev
    (some-given places view one.context more naming c1 c2 is all))

-- a loop after them
pub loop-behind : (places : Places) (scope view : List Held) (context : Context) (naming : Naming) (counter : Counter) (count : ℕ) (body : Stmt)
    (c0 c1 c2 : List ℕ) → NamesHold c0 c1 places scope (Meets context) naming.scope.items (Meets naming.context) → view ≡ naming.scope.items
    → EmitsLoop c1 c2 places view (Meets naming.context) counter count body → EmitsLoop c0 c2 places scope (Meets context) counter count body
loop-behind places scope view context naming counter count body c0 c1 c2 n ev loop kind plain =
    statement-behind places scope naming.scope.items (Meets context) (Meets naming.context) c0 c1 c2 (s.For counter count kind body) n
    (subst (λ l. EmitsStatement c1 c2 places l (Meets naming.context) (s.For counter count kind body)) ev (loop kind plain))

pub loop-alone : (places : Places) (scope : List Held) (is_so : Values → Type 0) (counter : Counter) (count : ℕ) (body : Stmt) (c0 c1 c2 : List ℕ)
    → c1 ≡ c0 → EmitsLoop c1 c2 places scope is_so counter count body → EmitsLoop c0 c2 places scope is_so counter count body
loop-alone places scope is_so counter count body c0 c1 c2 is loop kind plain =
    subst (λ c. EmitsStatement c c2 places scope is_so (s.For counter count kind body)) is (loop kind plain)

-- a statement after them
pub statement-after : (places : Places) (scope view : List Held) (context : Context) (naming : Naming) (statement : Stmt) (c0 c1 c2 : List ℕ)
    → NamesHold c0 c1 places scope (Meets context) naming.scope.items (Meets naming.context) → view ≡ naming.scope.items
    → EmitsStatement c1 c2 places view (Meets naming.context) statement → EmitsStatement c0 c2 places scope (Meets context) statement
statement-after places scope view context naming statement c0 c1 c2 n ev x =
    statement-behind places scope naming.scope.items (Meets context) (Meets naming.context) c0 c1 c2 statement n
    (subst (λ l. EmitsStatement c1 c2 places l (Meets naming.context) statement) ev x)
