-- The code of a choice leaves its value also where values wait in the hart's frame.
use Rattle.std.proofs.Common.{◌≡◌, ℕ, ◌+◌, ◌^◌, ◌<◌, ◌≤◌, List, ◌++◌, refl, ap, ◌∙◌, sym}
use Rattle.std.proofs.Common.{subst, arith, inl, inr}
use Rattle.std.specs.Prelude.{◌==◌, if◌then◌else◌}
use Rattle.rv_insn.specs.declared.instructions.Insn.{Insn}
use Rattle.memory.specs.Access.{word_at, byte_at, AreBytes}
use Rattle.halide_pipeline.specs.Pixel.{Planes, reads_of}
use Rattle.loop_ir.specs.declared.expressions.Expr.{Expr}
use Rattle.loop_ir.specs.declared.expressions.Expr.TheVariants as e
use Rattle.loop_ir.specs.Counters.{Values}
use Rattle.loop_ir.specs.Expressions.{value, loads}
use Rattle.loop_ir.specs.Sizes.{Size, size}
use Rattle.loop_ir.proofs.Sizes.{size_select}
use Rattle.multi_hart_laws.specs.Paths.{Line}
use Rattle.multi_hart_laws.proofs.Paths.{line-then}
use Rattle.task_code_scalar.specs.declared.layouts.Places.{Places}
use Rattle.task_code_scalar.specs.Code.{frame_words}
use Rattle.task_code_scalar.specs.Doing.{Setting, IsSetting, HoldsFuncs}
use Rattle.task_code_scalar.specs.Layout.{IsBefore, frame_word}
use Rattle.task_code_scalar.proofs.Evaluation.{chosen-below}
use Rattle.task_code_scalar.proofs.Spelling.{emits_then}
use Rattle.task_code_registers.specs.declared.scopes.Held.{Held}
use Rattle.task_code_registers.specs.Registers.{first_value}
use Rattle.task_code_registers.specs.Scopes.{Knows, AreHolders}
use Rattle.task_code_registers.proofs.Knowing.{knows-zero}
use Rattle.task_code_registers.proofs.Making.{short-then}
use Rattle.task_code_values.specs.Making.{IsBelow, Selects}
use Rattle.task_code_values.specs.Spilling.{second_value, third_value, Spills, Unspills, Pairs}
use Rattle.task_code_values.specs.Storing.{LeavesDeep, MakesValue}
use Rattle.task_code_values.proofs.Standing.{below-apart, below-more}
use Rattle.task_code_values.proofs.Evaluating.{value_select}
use Rattle.task_code_values.proofs.Evaluating.{loads_select}
use Rattle.task_code_values.proofs.Waiting.{there-still}
use Rattle.task_code_values.proofs.Deepening.{source-20, high-20, known, Passes, passes-parts, value-as}

below-first : IsBelow 32 first_value
below-first = (inr (omega arith), inl (omega arith))

below-second : IsBelow 32 second_value
below-second = (inr (omega arith), inl (omega arith))

first-third : first_value ≡ third_value → ⊥
first-third i = omega (arith, i)

second-third : second_value ≡ third_value → ⊥
second-third i = omega (arith, i)

-- what stays below the stack's first register stays below all
up-32 : (q : ℕ) → IsBelow first_value q → IsBelow 32 q
up-32 q h = below-more first_value 32 q (omega arith) h

not-third : (q : ℕ) → IsBelow first_value q → q ≡ third_value → ⊥
not-third q h i = let h1 = h.1 in omega (arith, i, h1)

one-more : (n : ℕ) → n ≤ n + 1
one-more n = omega arith

word-as : (a b : ℕ) → a ≡ b → b < 2 ^ 32 → a < 2 ^ 32
word-as a b e l = subst (λ n. n < 2 ^ 32) (sym e) l

-- what is chosen of equal words is equal
picked : (vc va vb dc da db : ℕ) → dc ≡ vc → da ≡ va → db ≡ vb → (if dc == 0 then db else da) ≡ (if vc == 0 then vb else va)
picked vc va vb dc da db ec ea eb =
    ap (λ n. if n == 0 then db else da) ec ∙ ap (λ n. if vc == 0 then n else da) eb ∙ ap (λ n. if vc == 0 then vb else n) ea

-- a word waits in the frame,
record Waits (setting : Setting) (funcs : Planes) (insns : List Insn) (word : ℕ) (f : ℕ → ℕ) (memory : List ℕ) (v : ℕ) : Type 0 where
  after : ℕ → ℕ
  left : List ℕ
  line : Line setting.world insns f memory after left
  there : word_at setting.world.text left (frame_word setting.world setting.places word) ≡ v
  small : v < 2 ^ 32
  keeps : (q : ℕ) → IsBelow first_value q → after q ≡ f q
  holds : HoldsFuncs setting left funcs
  before : (byte : ℕ) → IsBefore setting.world setting.places word byte → byte_at setting.world.text left byte ≡ byte_at setting.world.text memory byte
  are_bytes : AreBytes memory → AreBytes left

-- and two others stand in the stack's first registers
record Stand (setting : Setting) (funcs : Planes) (insns : List Insn) (word : ℕ) (f : ℕ → ℕ) (memory : List ℕ) (v first second : ℕ) : Type 0 where
  after : ℕ → ℕ
  left : List ℕ
  line : Line setting.world insns f memory after left
  there : word_at setting.world.text left (frame_word setting.world setting.places word) ≡ v
  first_is : after first_value ≡ first
  second_is : after second_value ≡ second
  small : v < 2 ^ 32
  small_first : first < 2 ^ 32
  small_second : second < 2 ^ 32
  keeps : (q : ℕ) → IsBelow first_value q → after q ≡ f q
  holds : HoldsFuncs setting left funcs
  before : (byte : ℕ) → IsBefore setting.world setting.places word byte → byte_at setting.world.text left byte ≡ byte_at setting.world.text memory byte
  are_bytes : AreBytes memory → AreBytes left

module _ (places : Places) (scope : List Held) where
  later-words : (own : Setting) (n k : ℕ) (one two : List ℕ)
      → ((byte : ℕ) → IsBefore own.world own.places n byte → byte_at own.world.text two byte ≡ byte_at own.world.text one byte) → k ≤ n → (byte : ℕ)
      → IsBefore own.world own.places k byte → byte_at own.world.text two byte ≡ byte_at own.world.text one byte
  later-words own n k one two same le byte out = same byte (λ other low high. out other (omega (arith, le, low)) high)

  -- first the condition waits in the frame,
  condition-waits : (c : Expr) (first s : ℕ) (c0 c1 c2 : List ℕ) (x : MakesValue c0 c1 places scope first s c) (k : Spills c1 c2 places scope s first)
      → (own : Setting) → IsSetting own → own.places ≡ places → (values : Values) → AreHolders scope → (f : ℕ → ℕ) (memory : List ℕ) (funcs : Planes)
      → HoldsFuncs own memory funcs → Knows own.world.hart scope values f → Passes places scope own (loads (reads_of own.inputs funcs) values c)
      → Waits own funcs (x.insns ++ k.insns) first f memory (value (reads_of own.inputs funcs) values c)
  condition-waits c first s c0 c1 c2 x k own good at values holders f memory funcs holds knows may =
      let w = own.world in
      let p = x.does own good at values holders f memory funcs holds knows may in
      let kp = known places scope w.hart values f p.after holders p.keeps knows in
      let small = word-as (p.after s) (value (reads_of own.inputs funcs) values c) p.value p.small in
      let g = k.does own good at values holders p.after p.left funcs p.holds kp small in
      record {
        after = g.after;
        left = g.left;
        line = line-then w x.insns k.insns f p.after g.after memory p.left g.left p.line g.line;
        there = g.there ∙ p.value;
        small = p.small;
        keeps = λ q h. g.keeps q (up-32 q h) ∙ p.keeps q h;
        holds = g.holds;
        before = λ byte out. g.before byte out ∙ p.before byte out;
        are_bytes = λ are. g.are_bytes (p.are_bytes are);
      }

  -- then both others are made beside each other,
  others-stand : (a b : Expr) (first t : ℕ) (c0 c1 c2 : List ℕ) → first < frame_words places.frames
      → (y : MakesValue c0 c1 places scope (first + 1) t a) (k : Pairs c1 c2 places scope (first + 1) t b)
      → (own : Setting) → IsSetting own → own.places ≡ places → (values : Values) → AreHolders scope → (insns : List Insn) (f : ℕ → ℕ)
      (memory : List ℕ) (funcs : Planes) (v : ℕ)
      → Waits own funcs insns first f memory v → Knows own.world.hart scope values f → Passes places scope own (loads (reads_of own.inputs funcs) values a)
      → Passes places scope own (loads (reads_of own.inputs funcs) values b)
      → Stand own funcs (insns ++ (y.insns ++ k.insns)) first f memory v (value (reads_of own.inputs funcs) values a)
      (value (reads_of own.inputs funcs) values b)
  others-stand a b first t c0 c1 c2 within y k own good at values holders insns f memory funcs v g knows may-a may-b =
      let w = own.world in
      let in-own = subst (λ (ps : Places). first < frame_words ps.frames) (sym at) within in
      let kg = known places scope w.hart values f g.after holders g.keeps knows in
      let q = y.does own good at values holders g.after g.left funcs g.holds kg may-a in
      let kq = known places scope w.hart values g.after q.after holders q.keeps kg in
      let small = word-as (q.after t) (value (reads_of own.inputs funcs) values a) q.value q.small in
      let r = k.does own good at values holders q.after q.left funcs q.holds kq may-b small in
      record {
        after = r.after;
        left = r.left;
        line = line-then w insns (y.insns ++ k.insns) f g.after r.after memory g.left r.left g.line
            (line-then w y.insns k.insns g.after q.after r.after g.left q.left r.left q.line r.line);
        there = there-still own good funcs first in-own g.left r.left v (λ byte out. r.before byte out ∙ q.before byte out) g.there;
        first_is = r.first_is ∙ q.value;
        second_is = r.second_is;
        small = g.small;
        small_first = q.small;
        small_second = r.small;
        keeps = λ n h. r.keeps n h ∙ q.keeps n h ∙ g.keeps n h;
        holds = r.holds;
        before = λ byte out. later-words own (first + 1) first q.left r.left r.before (one-more first) byte out
            ∙ later-words own (first + 1) first g.left q.left q.before (one-more first) byte out ∙ g.before byte out;
        are_bytes = λ are. r.are_bytes (q.are_bytes (g.are_bytes are));
      }

  -- and last it chooses of them
  choice-made : (first : ℕ) (c0 c1 c2 : List ℕ) (u : Unspills c0 c1 places scope first third_value)
      (o : Selects c1 c2 first_value third_value first_value second_value)
      → (own : Setting) → IsSetting own → own.places ≡ places → (values : Values) → AreHolders scope → (insns : List Insn) (f : ℕ → ℕ)
      (memory : List ℕ) (funcs : Planes) (vc va vb : ℕ)
      → Stand own funcs insns first f memory vc va vb → Knows own.world.hart scope values f
      → LeavesDeep own funcs (insns ++ (u.insns ++ o.insns)) first f memory first_value first_value (if vc == 0 then vb else va)
  choice-made first c0 c1 c2 u o own good at values holders insns f memory funcs vc va vb r knows =
      let w = own.world in
      let kr = known places scope w.hart values f r.after holders r.keeps knows in
      let d = u.does own good at values holders r.after r.left funcs vc r.holds kr r.there r.small in
      let d-keeps = λ (n : ℕ) (h : IsBelow first_value n). d.1.1.1 n (up-32 n h) (not-third n h) in
      let kd = known places scope w.hart values r.after d.0 holders d-keeps kr in
      let ea = d.1.1.1 first_value below-first first-third ∙ r.first_is in
      let eb = d.1.1.1 second_value below-second second-third ∙ r.second_is in
      let v = o.does w r.left d.0 r.holds.size (knows-zero w.hart scope values d.0 kd) (word-as (d.0 first_value) va ea r.small_first)
      (word-as (d.0 second_value) vb eb r.small_second) in
      record {
        after = v.after;
        left = r.left;
        line = line-then w insns (u.insns ++ o.insns) f r.after v.after memory r.left r.left r.line
            (line-then w u.insns o.insns r.after d.0 v.after r.left r.left r.left d.1.0 v.line);
        value = v.value ∙ picked vc va vb (d.0 third_value) (d.0 first_value) (d.0 second_value) d.1.1.0 ea eb;
        small = chosen-below (vc == 0) vb va (2 ^ 32) r.small_second r.small_first;
        keeps = λ n h. let z = below-apart first_value first_value n (inr (refl, high-20)) h in
            v.others n z.0 z.1.0 z.1.1 ∙ d-keeps n h ∙ r.keeps n h;
        holds = r.holds;
        before = r.before;
        are_bytes = r.are_bytes;
      }

  pub select-deep : (c a b : Expr) (first s t : ℕ) (c0 c1 c2 c3 c4 c5 c6 : List ℕ) → first < frame_words places.frames
      → MakesValue c0 c1 places scope first s c
      → Spills c1 c2 places scope s first → MakesValue c2 c3 places scope (first + 1) t a → Pairs c3 c4 places scope (first + 1) t b
      → Unspills c4 c5 places scope first third_value → Selects c5 c6 first_value third_value first_value second_value
      → MakesValue c0 c6 places scope first first_value (e.Select c a b)
  select-deep c a b first s t c0 c1 c2 c3 c4 c5 c6 within x k y j u o = record {
    insns = ((x.insns ++ k.insns) ++ (y.insns ++ j.insns)) ++ (u.insns ++ o.insns);
    emits = emits_then (emits_then (emits_then x.emits k.emits) (emits_then y.emits j.emits)) (emits_then u.emits o.emits);
    short =
        let n = ap (λ (z : Size). z.words) (size_select c a b) in
        let one = short-then x.insns k.insns (size c) 7 (size c + 7) x.short k.short (omega arith) in
        let two = short-then y.insns j.insns (size a) (size b + 15) (size a + (size b + 15)) y.short j.short (omega arith) in
        let all = short-then (x.insns ++ k.insns) (y.insns ++ j.insns) (size c + 7) (size a + (size b + 15))
        (size c + 7 + (size a + (size b + 15))) one two (omega arith) in
        let last = short-then u.insns o.insns 7 4 11 u.short o.short (omega arith) in
        short-then ((x.insns ++ k.insns) ++ (y.insns ++ j.insns)) (u.insns ++ o.insns) (size c + 7 + (size a + (size b + 15))) 11
        (size (e.Select c a b)) all last (omega (arith, n));
    source = source-20;
    which = inl refl;
    does = λ own good at values holders f memory funcs holds knows may.
        let reads = reads_of own.inputs funcs in
        let all = passes-parts places scope own (loads reads values c) (loads reads values a ++ loads reads values b) (subst (Passes places scope
        own) (loads_select reads
        values c a b) may) in
        let arms = passes-parts places scope own (loads reads values a) (loads reads values b) all.1 in
        let p = condition-waits c first s c0 c1 c2 x k own good at values holders f memory funcs holds knows all.0 in
        let q = others-stand a b first t c2 c3 c4 within y j own good at values holders (x.insns ++ k.insns) f memory funcs (value reads values c) p
        knows arms.0 arms.1 in
        let z = choice-made first c4 c5 c6 u o own good at values holders ((x.insns ++ k.insns) ++ (y.insns ++ j.insns)) f memory funcs
        (value reads values c) (value reads values a) (value reads values b) q knows in
        subst (LeavesDeep own funcs (((x.insns ++ k.insns) ++ (y.insns ++ j.insns)) ++ (u.insns ++ o.insns)) first f memory first_value first_value)
        (sym (value_select reads values c a b)) z;
  }

  pub select-deep-arm : (own c a b x y g : Expr) (first s t : ℕ) (c0 c1 c2 c3 c4 c5 c6 : List ℕ) → first < frame_words places.frames
      → own ≡ e.Select c a b → x ≡ c
      → y ≡ a → g ≡ b → MakesValue c0 c1 places scope first s x → Spills c1 c2 places scope s first → MakesValue c2 c3 places scope (first + 1) t y
      → Pairs c3 c4 places scope (first + 1) t g → Unspills c4 c5 places scope first third_value → Selects c5 c6 first_value third_value first_value
      second_value
      → MakesValue c0 c6 places scope first first_value own
  select-deep-arm own c a b x y g first s t c0 c1 c2 c3 c4 c5 c6 within eo ex ey eg u k v p q z =
      value-as places scope own (e.Select c a b) first first_value c0 c6 eo
      (select-deep c a b first s t c0 c1 c2 c3 c4 c5 c6 within (subst (MakesValue c0 c1 places scope first s) ex u) k
      (subst (MakesValue c2 c3 places scope (first + 1) t) ey v) (subst (Pairs c3 c4 places scope (first + 1) t) eg p) q z)
