-- The example meets what is asked of tasks.
use Rattle.std.proofs.Common.{◌≡◌, ℕ, zero, suc, ◌+◌, ◌*◌, ◌%◌, ◌^◌, ◌<◌, List, [], ◌∷◌, ◌++◌, length, true, refl, ap, ◌∙◌, sym, subst, arith}
use Rattle.std.specs.Prelude.{◌==◌, ◌&&◌, map, if◌then◌else◌, pos, Some, slice_index, replicate}
use Rattle.std.specs.List.{list_all}
use Rattle.std.proofs.lemmas.Bool.{and_parts, true≢false}
use Rattle.std.proofs.lemmas.Bool.Decides.{nat_tests}
use Rattle.rv_insn.specs.declared.instructions.Insn.TheVariants.{Lui, AluImm, Shift, Alu}
use Rattle.rv_insn.specs.declared.operations.AluImmOp.TheVariants.{Addi}
use Rattle.rv_insn.specs.declared.operations.AluOp.TheVariants.{Add}
use Rattle.rv_insn.specs.declared.operations.ShiftOp.TheVariants.{Slli}
use Rattle.memory.specs.Access.{Word, access_at, number_in, touched}
use Rattle.halide_pipeline.specs.declared.expressions.Source.{Source}
use Rattle.halide_pipeline.specs.declared.expressions.Source.TheVariants as sources
use Rattle.halide_pipeline.specs.Pixel.{Planes, Reads, reads_of}
use Rattle.halide_pipeline.specs.Points.{Point, Seen}
use Rattle.loop_ir.specs.declared.expressions.Expr.TheVariants as e
use Rattle.loop_ir.specs.declared.expressions.Linear.{Linear}
use Rattle.loop_ir.specs.Buffers.{put}
use Rattle.loop_ir.specs.Counters.{Values}
use Rattle.loop_ir.specs.Expressions.{value, value_at, loads, seen, seen_at, linear_value}
use Rattle.loop_ir.specs.Running.{run_task, stored, task_values}
use Rattle.loop_ir.proofs.Folds.{at_number, at_linear}
use Rattle.loop_ir.specs.LoopLanes.{LoopLanes}
use Rattle.loop_ir.proofs.LoopLanes.{lanes_store}
use Rattle.loop_ir.proofs.Sound.{sound_store}
use Rattle.loop_ir.proofs.Trees.{run_store}
use Rattle.multi_hart_laws.specs.LaneMemory.{firsts}
use Rattle.multi_hart_laws.specs.Alone.{World}
use Rattle.multi_hart_laws.specs.Paths.{Line, end, update}
use Rattle.multi_hart_laws.proofs.Paths.{block-then, line-then, stand-back, stand-front, update-other, update-same, writes-first, writes-later}
use Rattle.multi_hart_laws.proofs.Rows as rows
use Rattle.task_code_scalar.specs.Evaluation.{IsPlace, ArePlaces}
use Rattle.task_code_scalar.specs.Layout.{func_point, address_of, size_of, AreWords, IsAt, MayStore, MayLoad, Laid}
use Rattle.task_code_scalar.specs.Doing.{Setting, IsSetting, MayBeWrittenAtOnce, SoundIn, RunsIn, HoldsFuncs}
use Rattle.task_code_scalar.proofs.Spelling.{stand-spelled}
use Rattle.task_code_scalar.proofs.Tracing.{hit-store}
use Rattle.task_code_scalar.proofs.Values.{Sets, alu-sets, imm-sets, shift-sets}
use Rattle.task_code_registers.proofs.Going.{Does}
use Rattle.task_code_values.proofs.Saving.{equal-parts, is-single, saved}
use Rattle.task_code_statements.specs.AtOnce.{AtOnceIn}
use Rattle.task_code_statements.specs.Tasks.{EachTaskEnds, restored}
use Rattle.task_code_statements.proofs.Tasking.{restores}
use Rattle.task_code.specs.Example.{example_counter, counted, example_store, example_phase, example_place, example_places, example_ticket, example_text}
use Rattle.task_code.specs.Example.{example_data, example_world, nothing, its_points, is_its_point, example_setting, ExampleIsDone}
use Rattle.task_code.proofs.ExampleWords.{example_insns, example-spelled, making, saving}

-- ---- its values

module _ (task : ℕ) (small : task < 2) where
  abbrev values : Values
  values = task_values (Some example_counter) task

  linear-is : (reads : Reads) (n : ℕ) → n < 8 → value reads values (e.Linear (counted n)) ≡ n + task
  unfolding value linear_value
  linear-is reads n l = at_linear ℕ (value_at reads values) (counted n) ∙ (let g : (n + (task * 1 + 0)) % 2 ^ 32 ≡ n + task = omega (arith, l, small) in g)

  number-is : (reads : Reads) → value reads values (e.Number 0) ≡ 0
  unfolding value
  number-is reads = at_number ℕ (value_at reads values) 0

  no-linear : (reads : Reads) (sum : Linear) → loads reads values (e.Linear sum) ≡ []
  unfolding seen
  no-linear reads sum = ap (λ (t : Seen). t.points) (at_linear Seen (seen_at reads values) sum)

  no-number : (reads : Reads) → loads reads values (e.Number 0) ≡ []
  unfolding seen
  no-number reads = ap (λ (t : Seen). t.points) (at_number Seen (seen_at reads values) 0)

  x-is : (reads : Reads) → value reads values example_store.x ≡ task
  x-is reads = linear-is reads 0 (omega arith) ∙ (let g : 0 + task ≡ task = omega arith in g)

  its-point : its_points task 0 task 0 ≡ true
  its-point = grind (arith, nat_tests)

  sound-is : SoundIn (example_setting task) example_phase.body values
  sound-is funcs are =
      let reads = reads_of nothing funcs in
      sound_store reads (its_points task) (is_its_point task) example_store values
      ∙ ap (λ a. its_points task 0 a (value reads values example_store.y) && list_all (is_its_point task) (loads reads values example_store.x
      ++ (loads reads values example_store.y ++ loads reads values example_store.value))) (x-is reads)
      ∙ ap (λ b. its_points task 0 task b && list_all (is_its_point task) (loads reads values example_store.x ++ (loads reads values example_store.y
      ++ loads reads values example_store.value))) (number-is reads)
      ∙ ap (λ p. its_points task 0 task 0 && list_all (is_its_point task) (p ++ (loads reads values example_store.y ++ loads reads values example_store.value)))
      (no-linear reads (counted 0))
      ∙ ap (λ p. its_points task 0 task 0 && list_all (is_its_point task) (p ++ loads reads values example_store.value)) (no-number reads)
      ∙ ap (λ p. its_points task 0 task 0 && list_all (is_its_point task) p) (no-linear reads (counted 7))
      ∙ ap (λ b. b && true) its-point

  left-is : run_task (its_points task) nothing example_phase task nothing 0 task 0 ≡ 7 + task
  left-is =
      let reads = reads_of nothing nothing in
      ap (λ (p : Planes). p 0 task 0) (run_store (its_points task) nothing example_store values nothing)
      ∙ ap (λ a. put (its_points task) 0 a (value reads values example_store.y) (value reads values example_store.value) nothing 0 task 0) (x-is reads)
      ∙ ap (λ b. put (its_points task) 0 task b (value reads values example_store.value) nothing 0 task 0) (number-is reads)
      ∙ ap (λ b. if b && (0 == 0 && (task == task && 0 == 0)) then value reads values example_store.value else 0) its-point
      ∙ ap (λ b. if b then value reads values example_store.value else 0) its-point
      ∙ linear-is reads 7 (omega arith)

-- ---- where its points lie

-- a point is the task's own
record IsIts (task func x y : ℕ) : Type 0 where
  pub func_is : 0 ≡ func
  pub column_is : task ≡ x
  pub row_is : 0 ≡ y

is-its : (task func x y : ℕ) → its_points task func x y ≡ true → IsIts task func x y
is-its task func x y is =
    let k = and_parts (func == 0) (x == task && y == 0) is in
    let j = and_parts (x == task) (y == 0) k.1 in
    let a = k.0 in
    let b = j.0 in
    let c = j.1 in
    record { func_is = same func 0 a; column_is = same x task b; row_is = same y 0 c }
  where
    same : (m n : ℕ) → (m == n) ≡ true → n ≡ m
    same m n t = grind (arith, nat_tests)

no-place : IsPlace (record { start = 0; width = 0; distance = 0; pixels = example_place.pixels })
no-place = record { start = omega arith; width = omega arith; distance = omega arith }

are-places : ArePlaces example_places
are-places (sources.Input zero) = no-place
are-places (sources.Input (suc k)) = no-place
are-places (sources.Func zero) = record { start = omega arith; width = omega arith; distance = omega arith }
are-places (sources.Func (suc zero)) = no-place
are-places (sources.Func (suc (suc k))) = no-place

may-store : (task : ℕ) → task < 2 → MayStore (example_world task) example_places 0 task 0
may-store zero l = record {
  are_words = refl;
  low = omega arith;
  may = record { aligned = refl; above = omega arith; below = omega arith; may = (refl, (refl, (refl, (refl, tt)))) };
}
may-store (suc zero) l = record {
  are_words = refl;
  low = omega arith;
  may = record { aligned = refl; above = omega arith; below = omega arith; may = (refl, (refl, (refl, (refl, tt)))) };
}
may-store (suc (suc n)) l = absurd (omega (arith, l))

may-load : (task : ℕ) → task < 2 → MayLoad (example_world task) example_places (func_point 0 task 0)
may-load zero l = record {
  column = omega arith;
  row = omega arith;
  low = omega arith;
  may = record {
    aligned = refl;
    above = omega arith;
    below =
        omega arith;
    may = (refl, (refl, (refl, (refl, tt))));
  };
  whole = record {
    aligned = refl;
    above = omega arith;
    below = omega arith;
    may =
        (refl, (refl, (refl, (refl, tt))));
  };
}
may-load (suc zero) l = record {
  column = omega arith;
  row = omega arith;
  low = omega arith;
  may = record {
    aligned = refl;
    above = omega arith;
    below =
        omega arith;
    may = (refl, (refl, (refl, (refl, tt))));
  };
  whole = record {
    aligned = refl;
    above = omega arith;
    below = omega arith;
    may =
        (refl, (refl, (refl, (refl, tt))));
  };
}
may-load (suc (suc n)) l = absurd (omega (arith, l))

zeros : (n i : ℕ) → slice_index (replicate n 0) i ≡ 0
zeros zero i = refl
zeros (suc n) zero = refl
zeros (suc n) (suc i) = zeros n i

starts-empty : (task : ℕ) → task < 2 → number_in example_text example_data Word (address_of (example_world task) example_places (func_point 0 task 0)) ≡ 0
starts-empty zero l = refl
starts-empty (suc zero) l = refl
starts-empty (suc (suc n)) l = absurd (omega (arith, l))

-- this many words have four times as many bytes
words-long : (i n : ℕ) (a : ℕ → ℕ) → length (touched (map (access_at Word) (firsts i n a))) ≡ 4 * n
words-long i zero a = refl
words-long i (suc n) a = let e = words-long (suc i) n a in let g : length (touched (map (access_at Word) (firsts i (suc n) a)))
    ≡ suc (suc (suc (suc (length (touched (map (access_at Word) (firsts (suc i) n a))))))) = refl in omega (arith, e, g)

are-words : (n k : ℕ) → n ≡ 4 * k → (n % 4 == 0) ≡ true
are-words n k e = let r : n % 4 ≡ 0 = omega (arith, e) in grind (arith, nat_tests, r)

module _ (task : ℕ) (small : task < 2) where
  -- what holds of the task's own point holds of each point that may be loaded
  of-loaded : (P : Point → Type 0) → P (func_point 0 task 0) → (source : Source) (x y : ℕ) → is_its_point task (record { source = source; x = x; y = y }) ≡ true
      → P (record { source = source; x = x; y = y })
  of-loaded P own (sources.Input k) x y is = absurd (true≢false (sym is))
  of-loaded P own (sources.Func k) x y is =
      let i = is-its task k x y is in
      subst (λ b. P (func_point k x b)) i.row_is (subst (λ a. P (func_point k a 0)) i.column_is (subst (λ f. P (func_point f task 0)) i.func_is own))

  laid-is : Laid (example_world task) example_places (its_points task) (is_its_point task)
  laid-is = record {
    stores = λ func x y is.
        let i = is-its task func x y is in
        subst (λ b. MayStore (example_world task) example_places func x b) i.row_is
        (subst (λ a. MayStore (example_world task) example_places func a 0) i.column_is
        (subst (λ f. MayStore (example_world task) example_places f task 0) i.func_is (may-store task small)));
    loads = λ point is. of-loaded (MayLoad (example_world task) example_places) (may-load task small) point.source point.x point.y is;
    apart = λ func x y point is can low high.
        let i = is-its task func x y is in
        subst (λ b. IsAt point func x b) i.row_is (subst (λ a. IsAt point func a 0) i.column_is (subst (λ f. IsAt point f task 0) i.func_is
        (of-loaded (λ p. IsAt p 0 task 0) (record { source_is = refl; column_is = refl; row_is = refl }) point.source point.x point.y can)));
    frame = record {
      low = λ word l. absurd (omega (arith, l));
      may_write = λ word l. absurd (omega (arith, l));
      may_read = λ word l. absurd (omega (arith, l));
      apart = λ word point l can. absurd (omega (arith, l));
      unowned = λ word byte task l low high owned. omega (arith, l);
    };
  }

  at-once-are : MayBeWrittenAtOnce (example_setting task)
  at-once-are n func x y is runs = λ address owner there owned. are-words _ n (words-long 0 n (λ k. address_of (example_world task) example_places
      (func_point func (x k) (y k))))

  good : IsSetting (example_setting task)
  good = record { are_places = are-places; laid = laid-is; have = λ func x y is. is; are_words = λ place x y lx ly. omega arith; at_once = at-once-are }

  once-is : AtOnceIn (example_setting task) example_phase.body (task_values (Some example_counter) task)
  once-is funcs are = ap (λ (r : LoopLanes). r.may_be_at_once (task_values (Some example_counter) task)) (lanes_store (reads_of nothing funcs) example_store)

  holds-nothing : HoldsFuncs (example_setting task) example_data nothing
  holds-nothing = record {
    size = refl;
    are_bytes = λ i. let z = zeros 16 i in omega (arith, z);
    are_words = λ place x y lx ly. omega arith;
    holds = λ point is. of-loaded (λ p. number_in example_text example_data (size_of example_places p) (address_of (example_world task) example_places p) ≡ 0)
        (starts-empty task small) point.source point.x point.y is ∙ sym (empty point.source point.x point.y);
  }
    where
      empty : (source : Source) (x y : ℕ) → reads_of nothing nothing source x y ≡ 0
      empty (sources.Input k) x y = refl
      empty (sources.Func k) x y = refl

-- ---- what its instructions do

module _ (w : World) (m : List ℕ) (l : length m ≡ w.size) (f : ℕ → ℕ) (task : ℕ) (small : task < 2) (is : f 12 ≡ task) where
  one : Sets w m l (AluImm Addi 20 12 (pos 7) ∷ []) f 20 ((task + 7) % 2 ^ 32)
  one = imm-sets w m l Addi f 20 12 (pos 7) task (omega arith) (omega arith) (omega arith) is

  two : Sets w m l (Shift Slli 15 12 2 ∷ []) one.after 15 (task * 4 % 2 ^ 32)
  two = shift-sets w m l Slli one.after 15 12 2 task (omega arith) (omega arith) (omega arith) (one.others 12 (λ e. omega (arith, e)) ∙ is)

  three : Sets w m l (Lui 13 512 ∷ []) two.after 13 0x00200000
  three = record {
    after = update two.after 13 0x00200000;
    line = rows.lui w two.after m l 13 512 (omega arith) (omega arith);
    value = update-same two.after 13 0x00200000;
    others = λ q n. update-other two.after 13 0x00200000 q n;
  }

  four : Sets w m l (Alu Add 15 15 13 ∷ []) three.after 15 ((task * 4 % 2 ^ 32 + 0x00200000) % 2 ^ 32)
  four = alu-sets w m l Add three.after 15 15 13 _ _ (omega arith) (omega arith) (omega arith) (omega arith)
      (three.others 15 (λ e. omega (arith, e)) ∙ two.value) three.value

  record Makes : Type 0 where
    pub after : ℕ → ℕ
    pub line : Line w making f m after m
    pub value : after 20 ≡ 7 + task
    pub address : after 15 ≡ 0x00200000 + 4 * task
    pub others : (q : ℕ) → q < 12 → after q ≡ f q

  makes : Makes
  makes = record {
    after = four.after;
    line = line-then w (AluImm Addi 20 12 (pos 7) ∷ []) (Shift Slli 15 12 2 ∷ (Lui 13 512 ∷ (Alu Add 15 15 13 ∷ []))) f one.after four.after m m m one.line
        (line-then w (Shift Slli 15 12 2 ∷ []) (Lui 13 512 ∷ (Alu Add 15 15 13 ∷ [])) one.after two.after four.after m m m two.line
        (line-then w (Lui 13 512 ∷ []) (Alu Add 15 15 13 ∷ []) two.after three.after four.after m m m three.line four.line));
    value = four.others 20 (λ e. omega (arith, e)) ∙ three.others 20 (λ e. omega (arith, e)) ∙ two.others 20 (λ e. omega (arith, e)) ∙ one.value
        ∙ (let g : (task + 7) % 2 ^ 32 ≡ 7 + task = omega (arith, small) in g);
    address = four.value ∙ (let g : (task * 4 % 2 ^ 32 + 0x00200000) % 2 ^ 32 ≡ 0x00200000 + 4 * task = omega (arith, small) in g);
    others = λ q first.
        four.others q (λ e. omega (arith, e, first)) ∙ three.others q (λ e. omega (arith, e, first)) ∙ two.others q (λ e. omega (arith, e, first))
        ∙ one.others q (λ e. omega (arith, e, first));
  }

module _ (setting : Setting) (good : IsSetting setting) (at-places : setting.places ≡ example_places) (task : ℕ)
    (small : task < 2)
    (sound : SoundIn setting example_phase.body (task_values (Some example_counter) task))
    (sure : RunsIn setting example_phase.body (task_values (Some example_counter) task)) (funcs : Planes) (words : AreWords funcs) where
  abbrev w : World
  w = setting.world

  abbrev at-task : Values
  at-task = task_values (Some example_counter) task

  abbrev reads : Reads
  reads = reads_of setting.inputs funcs

  abbrev its_hits : ℕ → ℕ → ℕ → Type 0
  its_hits func i j = (0 ≡ func) × ((value reads at-task example_store.x ≡ i) × (value reads at-task example_store.y ≡ j))

  spot-is : address_of w setting.places (func_point 0 (value reads at-task example_store.x) (value reads at-task example_store.y)) ≡ 0x00200008 + 4 * task
  spot-is =
      ap (λ a. address_of w setting.places (func_point 0 a (value reads at-task example_store.y)))
      (x-is task small reads)
      ∙ ap (λ b. address_of w setting.places (func_point 0 task b)) (number-is task small reads)
      ∙ ap (λ p. address_of w p (func_point 0 task 0)) at-places
      ∙ (let g : address_of w example_places (func_point 0 task 0) ≡ 0x00200008 + 4 * task = omega arith in g)

  value-is : value reads at-task example_store.value ≡ 7 + task
  value-is = linear-is task small reads 7 (omega arith)

  stores : (f : ℕ → ℕ) (memory : List ℕ) → HoldsFuncs setting memory funcs → f 15 ≡ 0x00200000 + 4 * task
      → f 20 ≡ 7 + task
      → Does setting saving 1 f memory (λ q. Unit {0}) (stored setting.points reads example_store at-task funcs)
      its_hits
  stores f memory holds e15 e20 =
      let k = and_parts (setting.written 0 (value reads at-task example_store.x) (value reads at-task example_store.y))
      _
      (sym (sound_store reads setting.written setting.loaded example_store at-task) ∙ sound funcs words) in
      let g : ((2097152 + 4 * task) + 8) % 2 ^ 32 ≡ 2097160 + 4 * task = omega (arith, small) in
      saved setting good at-task (λ q. Unit {0}) example_store 15 20 (pos 8) f memory funcs (omega arith) (omega arith) holds k.0
      (is-single setting good at-task example_store sure funcs words) (subst (λ n. n < 2 ^ 32) (sym value-is) (omega (arith, small)))
      (ap (λ n. (n + 8) % 2 ^ 32) e15 ∙ g ∙ sym spot-is) (e20 ∙ sym value-is)

example-does : EachTaskEnds example_places example_phase example_ticket example_insns (λ task. 13)
example-does own good at-places task less sound once sure f memory funcs holds is =
    let w = own.world in
    let values = task_values (Some example_counter) task in
    let a = makes w memory holds.size f task less is.drawn in
    let b = stores own good at-places task less sound sure funcs holds.are_words a.after memory holds a.address a.value in
    let c = restores w b.left b.holds.size b.after example_ticket 2 (omega arith) (omega arith) in
    let ends = restored example_ticket 2 in
    let still : (q : ℕ) → q < 12 → c.after q ≡ f q = (λ q low. c.others q (omega (arith, low)) ∙ b.keeps q tt ∙ a.others q low) in
    record {
      after = c.after;
      left = b.left;
      block = block-then w making (saving ++ ends) 4 9 f a.after c.after memory memory b.left a.line
          (block-then w saving ends 1 8 a.after b.after c.after memory b.left b.left b.path c.line);
      number = still 10 (omega arith) ∙ is.number;
      all = still 11 (omega arith) ∙ is.all;
      ticket_is = c.ticket_is;
      gate_is = c.gate_is;
      one = c.one;
      tasks_are = c.tasks_are;
      holds = subst (HoldsFuncs own b.left) (sym (run_store own.points own.inputs example_store values funcs)) b.holds;
      elsewhere = b.elsewhere;
      are_bytes = b.are_bytes;
      writes = λ func i j byte at hit of stand.
          let reads = reads_of own.inputs funcs in
          let back = stand-back w.text at making (saving ++ ends) stand in
          let hits = equal-parts 0 func (value reads values example_store.x) i (value reads values example_store.y) j
          (sym (hit-store own.points own.inputs func i j example_store values funcs) ∙ hit) in
          let last = b.writes func i j byte (end at making) hits of (stand-front w.text (end at making) saving ends back) in
          writes-later w at (end at making) 4 9 f a.after memory memory byte (a.line at (stand-front w.text at making (saving ++ ends) stand))
          (writes-first w (end at making) 1 8 a.after memory byte last);
    }

pub example-done : ExampleIsDone
example-done task f small drawn =
    let a = example-does (example_setting task) (good task small) refl task small (sound-is task small) (once-is task small)
    (λ funcs are func runs. absurd (true≢false (sym runs))) f example_data nothing (holds-nothing task small) drawn in
    let stands = stand-spelled [] example_text [] example_insns (omega arith) example-spelled in
    let at-address : address_of (example_world task) example_places (func_point 0 task 0) ≡ 0x00200008 + 4 * task = omega arith in
    record {
      good = good task small;
      sound = sound-is task small;
      at_once = once-is task small;
      in_runs = λ funcs are func runs. absurd (true≢false (sym runs));
      held = holds-nothing task small;
      after = a.after;
      left = a.left;
      path = a.block 65536 stands;
      tasks_are = a.tasks_are;
      holds = subst (λ b. number_in example_text a.left Word b ≡ 7 + task) at-address
          (a.holds.holds (func_point 0 task 0) (its-point task small) ∙ left-is task small);
    }
