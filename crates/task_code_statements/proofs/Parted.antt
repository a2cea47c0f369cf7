-- Code of a task whose loops are in parts does the task.
use Rattle.std.proofs.Common.{◌≡◌, ℕ, ◌+◌, ◌^◌, ◌<◌, List, [], ◌++◌, false, refl, ap, ◌∙◌, subst}
use Rattle.std.specs.Prelude.{IfSome, Option, Some, None}
use Rattle.rv_insn.specs.declared.instructions.Insn.{Insn}
use Rattle.halide_pipeline.specs.Pixel.{Planes, reads_of}
use Rattle.loop_ir.specs.declared.statements.Phase.{Phase}
use Rattle.loop_ir.specs.declared.statements.Stmt.{Stmt}
use Rattle.loop_ir.specs.Buffers.{Points}
use Rattle.loop_ir.specs.Counters.{Values}
use Rattle.loop_ir.specs.LoopLanes.{may_be_at_once}
use Rattle.loop_ir.specs.Running.{run, task_values}
use Rattle.loop_ir.specs.Runs.{stores_in_runs}
use Rattle.loop_ir.specs.Soundness.{is_sound}
use Rattle.loop_ir.specs.Stores.{Trace}
use Rattle.task_code_borders.specs.Blind.{IsBlindStatement}
use Rattle.task_code_borders.specs.Borders.{AreNumbers, of_stages}
use Rattle.task_code_borders.specs.Parted.{IsParted}
use Rattle.task_code_borders.proofs.Iterations.{blind_parted}
use Rattle.task_code_scalar.specs.declared.layouts.Places.{Places}
use Rattle.task_code_scalar.specs.Doing.{AreRun, Setting, IsSetting, HoldsFuncs, stored_points}
use Rattle.task_code_scalar.specs.Words.{Emits}
use Rattle.task_code_registers.specs.Doing.{Did}
use Rattle.task_code_registers.specs.Scopes.{IsKept}
use Rattle.task_code_vector_loops.specs.AtOnce.{MayRun}
use Rattle.task_code_statements.specs.Starts.{AppendsStarted, DoesStarted, IsOfStages, starts}
use Rattle.task_code_statements.specs.Tasks.{AppendsTask, HasDrawn, restored}
use Rattle.task_code_statements.proofs.Following.{did-is}
use Rattle.task_code_statements.proofs.Numbered.{numbers-are, stages-of-starts}
use Rattle.task_code_statements.proofs.Tasking.{task-done}

-- ---- the same setting, where runs are those of stages' variables

module _ (own_setting : Setting) where
  abbrev by-stages : Setting
  by-stages = record {
    world = own_setting.world;
    harts = own_setting.harts;
    places = own_setting.places;
    inputs = own_setting.inputs;
    points = own_setting.points;
    written = own_setting.written;
    loaded = own_setting.loaded;
    in_runs = own_setting.in_runs;
    run = λ func x y at. own_setting.run func x y (of_stages at);
  }

  run-as : (n func : ℕ) (x y : ℕ → ℕ) → AreRun by-stages n func x y → AreRun own_setting n func x y
  run-as n func x y are = record {
    values = of_stages are.values;
    each = are.each;
    all = are.all;
  }

  setting-as : IsSetting own_setting → IsSetting by-stages
  setting-as good = record {
    are_places = good.are_places;
    laid = good.laid;
    have = good.have;
    are_words = good.are_words;
    at_once = λ n func x y may sure. good.at_once n func x y may (λ in_runs. run-as n func x y (sure in_runs));
  }

  holds-as : (memory : List ℕ) (funcs : Planes) → HoldsFuncs own_setting memory funcs
      → HoldsFuncs by-stages memory funcs
  holds-as memory funcs holds = record {
    size = holds.size;
    are_bytes = holds.are_bytes;
    are_words = holds.are_words;
    holds = holds.holds;
  }

  holds-back : (memory : List ℕ) (funcs : Planes) → HoldsFuncs by-stages memory funcs
      → HoldsFuncs own_setting memory funcs
  holds-back memory funcs holds = record {
    size = holds.size;
    are_bytes = holds.are_bytes;
    are_words = holds.are_words;
    holds = holds.holds;
  }

  drawn-as : (task : ℕ) (f : ℕ → ℕ) → HasDrawn own_setting task f → HasDrawn by-stages task f
  drawn-as task f is = record {
    none = is.none;
    number = is.number;
    all = is.all;
    drawn = is.drawn;
  }

  did-back : (code : List Insn) (n : ℕ) (f : ℕ → ℕ) (memory : List ℕ) (keeps_it : ℕ → Type 0) (funcs : Planes) (stored : Points)
      → Did by-stages code n f memory keeps_it funcs stored → Did own_setting code n f memory keeps_it funcs stored
  did-back code n f memory keeps_it funcs stored a = record {
    after = a.after;
    left = a.left;
    block = a.block;
    keeps = a.keeps;
    holds = holds-back a.left funcs a.holds;
    elsewhere = a.elsewhere;
    are_bytes = a.are_bytes;
    writes = a.writes;
  }

  -- ---- what is asked of a statement in parts, and what it does

  module _ (body new_statement : Stmt) (values there : Values) (are : AreNumbers values) (stages : of_stages values ≡ there) (is : IsParted body new_statement) where
    may-parted : MayRun own_setting body there → MayRun by-stages new_statement values
    may-parted may = record {
      sound = λ funcs words.
          let reads = reads_of own_setting.inputs funcs in
          is.sound reads own_setting.written own_setting.loaded values are ∙ ap (is_sound reads own_setting.written own_setting.loaded body) stages ∙ may.sound funcs words;
      at_once = λ funcs words.
          let reads = reads_of own_setting.inputs funcs in
          is.at_once reads values are ∙ ap (may_be_at_once reads body) stages ∙ may.at_once funcs words;
      in_runs = λ funcs words func sure x y.
          let reads = reads_of own_setting.inputs funcs in
          is.in_runs reads func x y (own_setting.run func x y) values are ∙ ap (stores_in_runs reads func x y (own_setting.run func x y) body) stages
          ∙ may.in_runs funcs words func sure x y;
    }

    run-parted : (funcs : Planes) → run own_setting.points own_setting.inputs new_statement values funcs ≡ run own_setting.points own_setting.inputs body there funcs
    run-parted funcs =
        ap (λ (g : Planes → Planes). g funcs) (is.runs own_setting.points own_setting.inputs values are)
        ∙ ap (λ v. run own_setting.points own_setting.inputs body v funcs) stages

    stored-parted : (funcs : Planes) (func x y : ℕ) → stored_points own_setting new_statement values funcs func x y ≡ stored_points own_setting body there funcs func x y
    stored-parted funcs func x y =
        let start : Trace = record { funcs = funcs; is_stored = false } in
        ap (λ (g : Trace → Trace). (g start).is_stored) (is.traces own_setting.points own_setting.inputs func x y values
        are)
        ∙ ap (λ v. stored_points own_setting body v funcs func x y) stages

-- ---- tasks

pub parted-appends : (phase : Phase) (body : Stmt) (places : Places) (ticket : ℕ) (old new : List ℕ) (insns : List Insn) (turns : ℕ → ℕ)
    → ticket + 4 < 2 ^ 32
    → IsParted phase.body body → Emits old new (insns ++ restored ticket phase.tasks) → phase.tasks < 2 ^ 32 → IsOfStages phase.counter
    → DoesStarted places phase.counter phase.tasks body insns turns → AppendsTask old new phase places ticket
parted-appends phase body places ticket old new insns turns low is emits few of does = record {
  insns = insns ++ restored ticket phase.tasks;
  emits = emits;
  does = task-done phase places ticket insns turns [] low few
      (λ own good at-places task less may f memory funcs holds drawn.
      let values = starts phase.counter task in
      let there = task_values phase.counter task in
      let are = numbers-are there in
      let stages = stages-of-starts phase.counter task of in
      did-is refl (run-parted own phase.body body values there are stages is funcs)
      (λ func x y hit. stored-parted own phase.body body values there are stages is funcs func x y ∙ hit)
      (did-back own insns (turns task) f memory (IsKept []) _ _
      (does (by-stages own) (setting-as own good) at-places task less (may-parted own phase.body body values there are stages is may) f memory funcs
      (holds-as own memory funcs holds) (drawn-as own task f drawn))));
}

pub whole-appends : (phase : Phase) (places : Places) (ticket : ℕ) (old new : List ℕ) → ticket + 4 < 2 ^ 32 → IsBlindStatement phase.body
    → AppendsStarted old new phase places ticket → AppendsTask old new phase places ticket
whole-appends phase places ticket old new low blind x =
    parted-appends phase phase.body places ticket old new x.insns x.turns low (blind_parted phase.body blind) x.emits x.few x.of_stages x.does

pub made-appends : (phase new_phase : Phase) (body : Stmt) (places : Places) (ticket : ℕ) (old new : List ℕ) → ticket + 4 < 2 ^ 32
    → new_phase ≡ record { tasks = phase.tasks; counter = phase.counter; body = body; private = []; bytes = [] } → IsParted phase.body body
    → AppendsStarted old new new_phase places ticket → AppendsTask old new phase places ticket
made-appends phase new_phase body places ticket old new low is parted x =
    let y = subst (λ p. AppendsStarted old new p places ticket) is x in
    parted-appends phase body places ticket old new y.insns y.turns low parted y.emits y.few y.of_stages y.does

-- ---- words that are found

pub found-as : {A : Type 0} {P Q : A → Type 0} (found : Option A) → ((made : A) → P made → Q made) → IfSome found P → IfSome found Q
found-as None so is = tt
found-as (Some made) so is = so made is
