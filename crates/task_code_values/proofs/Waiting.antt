-- Values that wait in the hart's frame.
use Rattle.std.proofs.Common.{◌≡◌, ℕ, ◌+◌, ◌*◌, ◌%◌, ◌^◌, ◌<◌, ◌≤◌, List, [], ◌∷◌, ◌++◌, length, Option, Some, None, refl, ap, ◌∙◌}
use Rattle.std.proofs.Common.{sym, subst, arith, inl, inr}
use Rattle.std.specs.Prelude.{◌≢◌, ◌⊎◌, ℤ, pos}
use Rattle.rv_insn.specs.declared.instructions.Insn.{Insn}
use Rattle.rv_insn.specs.declared.instructions.Insn.TheVariants.{AluImm, Load as Fetch, Store as Save}
use Rattle.rv_insn.specs.declared.operations.AluImmOp.TheVariants as alu_imms
use Rattle.rv_insn.specs.declared.operations.LoadOp.TheVariants as load_ops
use Rattle.rv_insn.specs.declared.operations.StoreOp.TheVariants as save_ops
use Rattle.memory.specs.Access.{byte_at, AreBytes, Word, word_at, put_number}
use Rattle.memory.proofs.Words.{word-put, word-same}
use Rattle.hart_core.specs.Scalar.{plus}
use Rattle.halide_pipeline.specs.Pixel.{Planes, reads_of}
use Rattle.loop_ir.specs.declared.expressions.Expr.{Expr}
use Rattle.loop_ir.specs.declared.expressions.Linear.{Linear}
use Rattle.loop_ir.specs.Counters.{Values}
use Rattle.loop_ir.specs.Expressions.{value, linear_value}
use Rattle.loop_ir.specs.Sizes.{size}
use Rattle.multi_hart_laws.specs.Alone.{World}
use Rattle.multi_hart_laws.specs.Paths.{update, Line}
use Rattle.multi_hart_laws.proofs.Paths.{update-same, update-other, line-then}
use Rattle.multi_hart_laws.proofs.Jumps as rules
use Rattle.task_code_scalar.specs.declared.layouts.Places.{Places}
use Rattle.task_code_scalar.specs.Code.{lower, place_of, frames_of, frame_words}
use Rattle.task_code_scalar.specs.Faults.{LieLow}
use Rattle.task_code_scalar.specs.Layout.{frame_word, IsBefore, address_of}
use Rattle.task_code_scalar.specs.Doing.{Setting, IsSetting, HoldsFuncs}
use Rattle.task_code_scalar.specs.Words.{Emits}
use Rattle.task_code_scalar.proofs.Spelling.{emits_then}
use Rattle.task_code_scalar.proofs.Storing.{stored-is, byte-other, size-stays, bytes-stay, number-other}
use Rattle.task_code_scalar.proofs.Values.{imm-sets}
use Rattle.task_code_registers.specs.declared.scopes.AffineForm.{AffineForm}
use Rattle.task_code_registers.specs.declared.scopes.Held.{Held}
use Rattle.task_code_registers.specs.declared.sums.At.{At}
use Rattle.task_code_registers.specs.Emitting.{MakesFormAddress}
use Rattle.task_code_registers.specs.Registers.{scratch, second_scratch, address_register, first_value, IsPlace, IsSource}
use Rattle.task_code_registers.specs.Scopes.{Knows, AreHolders, IsKept, form_value}
use Rattle.task_code_registers.proofs.Knowing.{knows-still, working-free}
use Rattle.task_code_registers.proofs.Making.{short-then, base-most}
use Rattle.task_code_values.specs.Making.{IsBelow}
use Rattle.task_code_values.specs.Spilling.{HasSlot, IsSlot, MakesSlot, second_value, Spills, Unspills, Pairs, IsFirst}
use Rattle.task_code_values.specs.Storing.{MakesValue}
use Rattle.task_code_values.proofs.Standing.{kept-below, below-apart, below-more}
use Rattle.task_code_values.proofs.Pointing.{at-offset}

-- ---- forms of words of the frame

pub slot-is : (start word : ℕ) (form : AffineForm) (sum : Linear) → form.sum ≡ sum → form.per_hart ≡ 4096 → ((values : Values)
    → linear_value values sum ≡ start + 4 * word)
    → length sum.terms ≡ 0 → IsSlot start word form
unfolding form_value
slot-is start word form sum same part number none = record {
  value = λ hart values.
      ap (λ (s : Linear). (linear_value values s + hart * form.per_hart) % 2 ^ 32) same ∙ ap (λ p. (linear_value values sum + hart * p) % 2 ^ 32) part
      ∙ ap (λ n. (n + hart * 4096) % 2 ^ 32) (number values);
  none = ap (λ (s : Linear). length s.terms) same ∙ none;
}

module _ (setting : Setting) (good : IsSetting setting) (funcs : Planes) (n : ℕ) (within : n < frame_words setting.places.frames) where
  abbrev w : World
  w = setting.world

  abbrev frame : ℕ
  frame = frame_word w setting.places n

  low : frame < 2 ^ 32
  low = good.laid.frame.low n within

  pub frame-is : (hart start : ℕ) → hart ≡ w.hart → start ≡ frames_of setting.places.frames → (start + 4 * n + hart * 4096) % 2 ^ 32 ≡ frame
  frame-is hart start eh es =
      let l = low in
      ap (λ h. (start + 4 * n + h * 4096) % 2 ^ 32) eh ∙ ap (λ s. (s + 4 * n + w.hart * 4096) % 2 ^ 32) es ∙ plain (frames_of setting.places.frames) w.hart l
    where
      plain : (s h : ℕ) → s + 4096 * h + 4 * n < 2 ^ 32 → (s + 4 * n + h * 4096) % 2 ^ 32 ≡ s + 4096 * h + 4 * n
      plain s h l = omega (arith, l)

  -- ---- a store and a load of it

  record Stored (is : List Insn) (f : ℕ → ℕ) (memory : List ℕ) (v : ℕ) : Type 0 where
    pub left : List ℕ
    pub line : Line w is f memory f left
    pub holds : HoldsFuncs setting left funcs
    pub before : (byte : ℕ) → IsBefore w setting.places n byte → byte_at w.text left byte ≡ byte_at w.text memory byte
    pub are_bytes : AreBytes memory → AreBytes left
    pub there : word_at w.text left frame ≡ v

  stored-there : (f : ℕ → ℕ) (memory : List ℕ) (b s v : ℕ) (z : ℤ) → HoldsFuncs setting memory funcs → b < 32 → s < 32 → plus (f b) z ≡ frame → f s ≡ v
      → v < 2 ^ 32
      → Stored (Save save_ops.Sw b s z ∷ []) f memory v
  stored-there f memory b s v z holds lb ls at-a es small =
      let may = good.laid.frame.may_write n within in
      let above = may.there.above in
      let below = may.there.below in
      let l = holds.size in
      let left-is = stored-is memory frame (f s) ∙ ap (put_number memory Word frame) es in
      let line = rules.store w f memory l save_ops.Sw b s frame z lb ls at-a may in
      record {
        left = put_number memory Word frame v;
        line = subst (λ m. Line w (Save save_ops.Sw b s z ∷ []) f memory f m) left-is line;
        holds = record {
          size = size-stays memory frame v ∙ l;
          are_bytes = bytes-stay memory frame v holds.are_bytes;
          are_words = holds.are_words;
          holds = λ point is.
              number-other (place_of setting.places point.source).pixels w.text memory frame (address_of w setting.places point) v
              (good.laid.frame.apart n point within is) ∙ holds.holds point is;
        };
        before = λ byte out. byte-other w.text memory frame v byte (out n (omega arith) within);
        are_bytes = bytes-stay memory frame v;
        there = word-put w.text memory frame v above (omega (arith, below, l)) small;
      }

  -- it stays where only later words change
  pub there-still : (first second : List ℕ) (v : ℕ)
      → ((byte : ℕ) → IsBefore w setting.places (n + 1) byte → byte_at w.text second byte ≡ byte_at w.text first byte) → word_at w.text first frame ≡ v
      → word_at w.text second frame ≡ v
  there-still first second v same is =
      let k = λ (i : ℕ) (l : i < 4). same (frame + i) (λ other after high. inl (omega (arith, after, l))) in
      word-same w.text second first frame
      (ap (λ b. byte_at w.text second b) (zero-more frame) ∙ k 0 (omega arith) ∙ ap (λ b. byte_at w.text first b) (sym (zero-more frame))) (k 1 (omega arith))
      (k 2 (omega arith)) (k 3 (omega arith)) ∙ is
    where
      zero-more : (b : ℕ) → b ≡ b + 0
      zero-more b = omega arith

-- ---- code

module _ (places : Places) (scope : List Held) where
  address-stays : (values : Values) (f g : ℕ → ℕ) → ((q : ℕ) → q ≢ address_register → q ≢ scratch → q ≢ second_scratch → g q ≡ f q) → (q : ℕ) → IsBelow 32 q
      → g q ≡ f q
  address-stays values f g same q k = let d = below-apart 32 address_register q (inl refl) k in same q d.0 d.1.0 d.1.1

  known : (hart : ℕ) (values : Values) (f g : ℕ → ℕ) (r : ℕ) → 20 ≤ r → AreHolders scope → ((q : ℕ) → IsBelow r q → g q ≡ f q) → Knows hart scope values f
      → Knows hart scope values g
  known hart values f g r low holders same knows = knows-still hart scope values f g (λ q h. same q (kept-below scope q r low holders h)) knows

  module _ (start word : ℕ) (form : AffineForm) (at : At) (c0 c1 c2 : List ℕ) (es : start ≡ frames_of places.frames) (within : word < frame_words places.frames)
      (slot : IsSlot start word form) (t : MakesFormAddress c0 c1 scope form address_register at) where
    t-short : length t.insns ≤ 6
    t-short = let k = t.short in let z = slot.none in let most = base-most form.per_hart in omega (arith, k, z, most)

    pub spill-made : (s : ℕ) → IsSource s → (s ≡ first_value) ⊎ IsKept scope s → Emits c1 c2 (Save save_ops.Sw at.register s (lower at.offset) ∷ [])
        → Spills c0 c2 places scope s word
    spill-made s source which z = record {
      insns = t.insns ++ (Save save_ops.Sw at.register s (lower at.offset) ∷ []);
      emits = emits_then t.emits z;
      short = short-then t.insns (Save save_ops.Sw at.register s (lower at.offset) ∷ []) 6 1 7 t-short (omega arith) (omega arith);
      does = λ own good at-places values holders f memory funcs holds knows small.
          let w = own.world in
          let in-own = subst (λ (ps : Places). word < frame_words ps.frames) (sym at-places) within in
          let free = working-free scope address_register holders (inl (omega arith, omega arith)) in
          let b = t.does w memory w.hart values f holds.size holders free knows in
          let e = at-offset (b.after at.register) at.offset _ t.fits t.small
          (b.value ∙ slot.value w.hart values
          ∙ frame-is own good funcs word in-own w.hart start refl (es ∙ ap (λ (ps : Places). frames_of ps.frames) (sym at-places))) in
          let fs = b.others s (apart which holders) source.1.0 source.1.1 in
          let m = stored-there own good funcs word in-own b.after memory at.register s (f s) (lower at.offset) holds t.low source.0 e fs small in
          record {
            after = b.after;
            left = m.left;
            line = line-then w t.insns (Save save_ops.Sw at.register s (lower at.offset) ∷ []) f b.after b.after memory memory m.left b.line m.line;
            keeps = address-stays values f b.after b.others;
            holds = m.holds;
            before = m.before;
            are_bytes = m.are_bytes;
            there = m.there;
          };
    }
      where
        apart : (s ≡ first_value) ⊎ IsKept scope s → AreHolders scope → s ≢ address_register
        apart (inl g) holders h = omega (arith, g, h)
        apart (inr h) holders g = working-free scope address_register holders (inl (omega arith, omega arith)) s h g

    pub unspill-made : (r : ℕ) → 1 ≤ r → r < 32 → Emits c1 c2 (Fetch load_ops.Lw r at.register (lower at.offset) ∷ []) → Unspills c0 c2 places scope word r
    unspill-made r low high z = record {
      insns = t.insns ++ (Fetch load_ops.Lw r at.register (lower at.offset) ∷ []);
      emits = emits_then t.emits z;
      short = short-then t.insns (Fetch load_ops.Lw r at.register (lower at.offset) ∷ []) 6 1 7 t-short (omega arith) (omega arith);
      does = λ own good at-places values holders f memory funcs v holds knows there small.
          let w = own.world in
          let in-own = subst (λ (ps : Places). word < frame_words ps.frames) (sym at-places) within in
          let free = working-free scope address_register holders (inl (omega arith, omega arith)) in
          let b = t.does w memory w.hart values f holds.size holders free knows in
          let e = at-offset (b.after at.register) at.offset _ t.fits t.small
          (b.value ∙ slot.value w.hart values
          ∙ frame-is own good funcs word in-own w.hart start refl (es ∙ ap (λ (ps : Places). frames_of ps.frames) (sym at-places))) in
          let a = frame_word w own.places word in
          let line = rules.load w b.after memory holds.size load_ops.Lw r at.register a (lower at.offset) low high t.low e (good.laid.frame.may_read
          word in-own) in (
            update b.after r (word_at w.text memory a),
            (
              line-then w t.insns (Fetch load_ops.Lw r at.register (lower at.offset) ∷ []) f b.after (update b.after r (word_at w.text memory a))
                  memory memory memory b.line line,
              (
                update-same b.after r (word_at w.text memory a) ∙ there,
                λ q k n. update-other b.after r (word_at w.text memory a) q n ∙ address-stays values f b.after b.others q k,
              ),
            ),
          );
    }

  -- ---- a first value waits while a second one is made

  pub pair-made : (word first s : ℕ) (e : Expr) (c0 c1 c2 c3 c4 : List ℕ) → word < frame_words places.frames → Spills c0 c1 places scope first word
      → MakesValue c1 c2 places scope (word + 1) s e
      → Emits c2 c3 (AluImm alu_imms.Addi second_value s (pos 0) ∷ []) → Unspills c3 c4 places scope word first_value → Pairs c0 c4 places scope word first e
  pair-made word first s e c0 c1 c2 c3 c4 within x y o z = record {
    insns = x.insns ++ (y.insns ++ ((AluImm alu_imms.Addi second_value s (pos 0) ∷ []) ++ z.insns));
    emits = emits_then x.emits (emits_then y.emits (emits_then o z.emits));
    short =
        let last = short-then (AluImm alu_imms.Addi second_value s (pos 0) ∷ []) z.insns 1 7 8 (omega arith) z.short (omega arith) in
        let rest = short-then y.insns ((AluImm alu_imms.Addi second_value s (pos 0) ∷ []) ++ z.insns) (size e) 8 (size e + 8) y.short
        last (omega arith) in
        short-then x.insns (y.insns ++ ((AluImm alu_imms.Addi second_value s (pos 0) ∷ []) ++ z.insns)) 7 (size e + 8) (size e + 15)
        x.short rest (omega arith);
    does = λ own good at-places values holders f memory funcs holds knows may small.
        let w = own.world in
        let in-own = subst (λ (ps : Places). word < frame_words ps.frames) (sym at-places) within in
        let a = x.does own good at-places values holders f memory funcs holds knows small in
        let k1 = known w.hart values f a.after 32 (omega arith) holders a.keeps knows in
        let b = y.does own good at-places values holders a.after a.left funcs a.holds k1 may in
        let k2 = known w.hart values a.after b.after first_value (omega arith) holders b.keeps k1 in
        let u = value (reads_of own.inputs funcs) values e in
        let i = imm-sets w b.left b.holds.size alu_imms.Addi b.after second_value s (pos 0) u (omega arith) (omega arith) y.source.0 b.value in
        let small-u = b.small in
        let is-u : (u + 0) % 2 ^ 32 ≡ u = omega (arith, small-u) in
        let i-stays = λ (q : ℕ) (k : IsBelow first_value q). i.others q (let k1 = k.1 in λ g. omega (arith, g, k1)) in
        let k3 = known w.hart values b.after i.after first_value (omega arith) holders i-stays k2 in
        let there = there-still own good funcs word in-own a.left b.left (f first) b.before a.there in
        let d = z.does own good at-places values holders i.after b.left funcs (f first) b.holds k3 there small in
        let second-below : IsBelow 32 second_value = (inr (omega arith), inl (omega arith)) in
        let two : second_value ≡ first_value → ⊥ = (λ g. omega (arith, g)) in
        record {
          after = d.0;
          left = b.left;
          line = line-then w x.insns (y.insns ++ ((AluImm alu_imms.Addi second_value s (pos 0) ∷ []) ++ z.insns)) f a.after d.0 memory a.left b.left a.line
              (line-then w y.insns ((AluImm alu_imms.Addi second_value s (pos 0) ∷ []) ++ z.insns) a.after b.after d.0 a.left b.left b.left b.line
              (line-then w (AluImm alu_imms.Addi second_value s (pos 0) ∷ []) z.insns b.after i.after d.0 b.left b.left b.left i.line d.1.0));
          first_is = d.1.1.0;
          second_is = d.1.1.1 second_value second-below two ∙ i.value ∙ is-u;
          small = small-u;
          keeps = λ q k. d.1.1.1 q (below-more first_value 32 q (omega arith) k) (let k1 = k.1 in λ g. omega (arith, g, k1)) ∙ i-stays q k ∙ b.keeps q k
              ∙ a.keeps q (below-more first_value 32 q (omega arith) k);
          holds = b.holds;
          before = λ byte out. b.before byte (λ other after high. out other (omega (arith, after)) high) ∙ a.before byte out;
          are_bytes = λ are. b.are_bytes (a.are_bytes are);
        };
  }

-- ---- as the emitters call them

few-words : (frames : Option ℕ) → frame_words frames ≤ 1024
few-words None = omega arith
few-words (Some start) = omega arith

low-start : (frames : Option ℕ) → LieLow frames → frames_of frames ≤ 4294901760
low-start None low = omega arith
low-start (Some start) low = low

pub slot-low : (frames : Option ℕ) (word start : ℕ) → start ≡ frames_of frames → HasSlot frames word → (start ≤ 4294901760) × (word < 1024)
slot-low frames word start es has =
    let few = few-words frames in
    let within = has.1 in
    let low = low-start frames has.0 in
    (omega (arith, es, low), omega (arith, few, within))

pub slot-makes : (scope : List Held) (frames : Option ℕ) (word start : ℕ) (form : AffineForm) (at : At) (c0 c1 : List ℕ) → start ≡ frames_of frames
    → IsSlot start word form
    → MakesFormAddress c0 c1 scope form address_register at → MakesSlot c0 c1 scope frames word at
slot-makes scope frames word start form at c0 c1 es slot x =
    record { form = form; slot = subst (λ k. IsSlot k word form) es slot; makes = x }

pub spills : (places : Places) (scope : List Held) (word s : ℕ) (at : At) (c0 c1 c2 : List ℕ) → HasSlot places.frames word → IsFirst scope s
    → MakesSlot c0 c1 scope places.frames word at → Emits c1 c2 (Save save_ops.Sw at.register s (lower at.offset) ∷ []) → Spills c0 c2 places scope s word
spills places scope word s at c0 c1 c2 has source x z =
    spill-made places scope (frames_of places.frames) word x.form at c0 c1 c2 refl has.1 x.slot x.makes s source.0 source.1 z

pub unspills : (places : Places) (scope : List Held) (word r : ℕ) (at : At) (c0 c1 c2 : List ℕ) → HasSlot places.frames word → IsPlace r
    → MakesSlot c0 c1 scope places.frames word at → Emits c1 c2 (Fetch load_ops.Lw r at.register (lower at.offset) ∷ []) → Unspills c0 c2 places scope word r
unspills places scope word r at c0 c1 c2 has place x z =
    unspill-made places scope (frames_of places.frames) word x.form at c0 c1 c2 refl has.1 x.slot x.makes r place.0.0 place.0.1 z

-- words after a word of the frame
pub slot-next : (frames : Option ℕ) (word : ℕ) → word < frame_words frames → word + 1 < 2 ^ 32
slot-next frames word within = let f = few-words frames in omega (arith, within, f)
