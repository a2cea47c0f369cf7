-- A test over a body.
use Rattle.std.proofs.Common.{◌≡◌, ℕ, ◌+◌, ◌*◌, ◌<◌, ◌≤◌, List, [], ◌∷◌, ◌++◌, length, Bool, true, false, refl, ap, ◌∙◌, sym, subst, arith, inl, inr}
use Rattle.std.proofs.Common.{append_assoc, length-append}
use Rattle.std.specs.Prelude.{◌≢◌, if◌then◌else◌, nat_lt, pos}
use Rattle.std.proofs.lemmas.Bool.{true≢false, ltb-true, cases_lt}
use Rattle.std.proofs.lemmas.Bool.Decides.{nat_tests}
use Rattle.rv_insn.specs.declared.instructions.Insn.{Insn}
use Rattle.rv_insn.specs.declared.instructions.Insn.TheVariants.{Branch, Jal}
use Rattle.rv_insn.specs.declared.operations.BranchOp.TheVariants as branches
use Rattle.halide_pipeline.specs.Pixel.{Planes}
use Rattle.loop_ir.specs.Buffers.{Points}
use Rattle.loop_ir.specs.Counters.{Values}
use Rattle.multi_hart_laws.specs.Alone.{World}
use Rattle.multi_hart_laws.specs.Paths.{Spot, Stand, end, Path, Line}
use Rattle.multi_hart_laws.proofs.Jumps as rules
use Rattle.multi_hart_laws.proofs.Paths.{spot, path-then, line-then, stand-front, stand-back, end-append}
use Rattle.task_code_scalar.specs.Code.{forth}
use Rattle.task_code_scalar.specs.Doing.{Setting, HoldsFuncs}
use Rattle.task_code_scalar.specs.Words.{Emits}
use Rattle.task_code_scalar.proofs.Looping.{end-length, forth-to}
use Rattle.task_code_scalar.proofs.Spelling.{emits_then, emits-apart}
use Rattle.task_code_registers.specs.declared.scopes.AffineForm.{AffineForm}
use Rattle.task_code_registers.specs.declared.scopes.Held.{Held}
use Rattle.task_code_registers.specs.Registers.{zero_register, address_register, scratch, second_scratch}
use Rattle.task_code_registers.specs.Doing.{Did}
use Rattle.task_code_registers.specs.Emitting.{Makes, MakesValue, sum_words}
use Rattle.task_code_registers.specs.Scopes.{Knows, AreHolders, IsKept, form_value}
use Rattle.task_code_registers.proofs.Going.{Went, no_hits, went-hits, went-then, within, still}
use Rattle.task_code_registers.proofs.Knowing.{knows-zero, knows-still, kept-apart, working-free}
use Rattle.task_code_registers.proofs.Looping.{marked-did, did-went, points_hit}
use Rattle.task_code_loops.specs.Guarding.{Comes, Guards, stored_if}

lt-is : (a c : ℕ) → a < c → nat_lt a c ≡ true
lt-is a c l = grind (arith, nat_tests)

lt-not : (a c : ℕ) → c ≤ a → nat_lt a c ≡ false
lt-not a c l = grind (arith, nat_tests)

not-below : (a c : ℕ) → nat_lt a c ≡ false → c ≤ a
not-below a c e = elim (cases_lt a c) [ inl l ↦ absurd (true≢false (sym (lt-is a c l) ∙ e)) | inr h ↦ h ]

-- what is somewhere ends where a word may begin
behind : (text : List ℕ) (at : ℕ) (is : List Insn) → Stand text at is → Spot (end at is)
behind text at [] s = s
behind text at (i ∷ is) s = behind text (at + 4) is s.1

module _ (scope : List Held) (form : AffineForm) (extent : ℕ) (body : List Insn) (c0 c1 c2 c3 c4 c5 words : List ℕ)
    (x : MakesValue c0 c1 scope form address_register) (y : Makes c1 c2 2 scratch (λ f. extent))
    (z : Emits c2 c3 (Branch branches.Bltu address_register scratch (pos 4) ∷ [])) (j : Emits c3 c4 (Jal zero_register (forth (length body + 1)) ∷ []))
    (b : Emits [] words body) (e : c5 ≡ c4 ++ words) where
  abbrev front : List Insn
  front = x.insns ++ y.insns

  abbrev over : List Insn
  over = Branch branches.Bltu address_register scratch (pos 4) ∷ Jal zero_register (forth (length body + 1)) ∷ body

  abbrev whole : List Insn
  whole = front ++ over

  -- the form and the extent are made
  record Made (w : World) (hart : ℕ) (values : Values) (memory : List ℕ) (f : ℕ → ℕ) : Type 0 where
    after : ℕ → ℕ
    line : Line w front f memory after memory
    value : after address_register ≡ form_value hart values form
    limit : after scratch ≡ extent
    others : (q : ℕ) → q ≢ scratch → q ≢ second_scratch → q ≢ address_register → after q ≡ f q
    keeps : (q : ℕ) → IsKept scope q → after q ≡ f q

  made : (w : World) (hart : ℕ) (values : Values) (memory : List ℕ) (f : ℕ → ℕ) → length memory ≡ w.size → AreHolders scope → Knows hart scope values f
      → Made w hart values memory f
  made w hart values memory f l holders knows =
      let free = working-free scope address_register holders (inl (omega arith, omega arith)) in
      let a = x.does w memory hart values f l holders free knows in
      let first : (q : ℕ) → IsKept scope q → a.after q ≡ f q = (λ q h. let s = kept-apart scope q holders h in a.others q (free q h) s.0 s.1) in
      let known = knows-still hart scope values f a.after first knows in
      let g = y.does w memory a.after l (knows-zero hart scope values a.after known) in
      let n1 : address_register ≢ scratch = (λ i. omega (arith, i)) in
      let n2 : address_register ≢ second_scratch = (λ i. omega (arith, i)) in
      record {
        after = g.after;
        line = line-then w x.insns y.insns f a.after g.after memory memory memory a.line g.line;
        value = g.others address_register n1 n1 n2 ∙ a.value;
        limit = g.value;
        others = λ q n1' n2' n3'. g.others q n1' n1' n2' ∙ a.others q n3' n1' n2';
        keeps = λ q h. let s = kept-apart scope q holders h in g.others q s.0 s.0 s.1 ∙ first q h;
      }

  abbrev entry : List Insn
  entry = front ++ (Branch branches.Bltu address_register scratch (pos 4) ∷ Jal zero_register (forth (length body + 1)) ∷ [])

  entry-body : whole ≡ entry ++ body
  entry-body = sym (append_assoc front (Branch branches.Bltu address_register scratch (pos 4) ∷ Jal zero_register (forth (length body + 1)) ∷ []) body)

  entry-end : (at : ℕ) → end at entry ≡ end at front + 4 + 4
  entry-end at = end-append at front (Branch branches.Bltu address_register scratch (pos 4) ∷ Jal zero_register (forth (length body + 1)) ∷ [])

  module _ (w : World) (hart : ℕ) (values : Values) (f : ℕ → ℕ) (memory : List ℕ) (holders : AreHolders scope) (size : length memory ≡ w.size)
      (knows : Knows hart scope values f) where
    abbrev v : ℕ
    v = form_value hart values form

    abbrev m : Made w hart values memory f
    m = made w hart values memory f size holders knows

    tests : (at : ℕ) → Stand w.text at whole → Stand w.text (end at front) over
    tests at s = stand-back w.text at front over s

    first : (at : ℕ) → Stand w.text at whole → Path w at (end at front) (length front) f memory m.after memory
    first at s = m.line at (stand-front w.text at front over s)

    -- the body is due
    enters : v < extent → Comes w whole (λ at. end at entry) (length front + 1) f memory
    enters less =
        let test : nat_lt (m.after address_register) (m.after scratch) ≡ true =
        ap (λ n. nat_lt n (m.after scratch)) m.value ∙ ap (nat_lt v) m.limit ∙ lt-is v extent less in
        record {
          after = m.after;
          keeps = m.others;
          path = λ at s.
              let from = end at front in
              let o = spot w.text (from + 4 + 4) body (tests at s).1.1 in
              let g : from + 4 * 2 ≡ from + 4 + 4 = omega arith in
              subst (λ p. Path w at p (length front + 1) f memory m.after memory) (sym (entry-end at))
              (path-then w at from (from + 4 + 4) (length front) 1 f m.after m.after memory memory memory (first at s)
              (rules.taken w m.after memory size branches.Bltu from (from + 4 + 4) address_register scratch (pos 4) (omega arith) (omega arith) test
              (tests at s).0 (forth-to from 2 (from + 4 + 4) g o.low) o.aligned));
        }

    -- or it is passed by
    passes : extent ≤ v → Comes w whole (λ at. end at whole) (length front + 2) f memory
    passes more =
        let test : nat_lt (m.after address_register) (m.after scratch) ≡ false =
        ap (λ n. nat_lt n (m.after scratch)) m.value ∙ ap (nat_lt v) m.limit ∙ lt-not v extent more in
        record {
          after = m.after;
          keeps = m.others;
          path = λ at s.
              let from = end at front in
              let to = end (from + 4 + 4) body in
              let p = spot w.text (from + 4) (Jal zero_register (forth (length body + 1)) ∷ body) (tests at s).1 in
              let o = behind w.text (from + 4 + 4) body (tests at s).1.1 in
              let g : from + 4 + 4 * (length body + 1) ≡ to = let k = end-length (from + 4 + 4) body in omega (arith, k) in
              subst (λ a. Path w at a (length front + 2) f memory m.after memory) (sym (end-append at front over))
              (path-then w at from to (length front) 2 f m.after m.after memory memory memory (first at s)
              (path-then w from (from + 4) to 1 1 m.after m.after m.after memory memory memory
              (rules.passed w m.after memory size branches.Bltu from address_register scratch (pos 4) (omega arith) (omega arith) test (tests at s).0 p.low)
              (rules.jump w m.after memory size (from + 4) to (forth (length body + 1)) (tests at s).1.0
              (forth-to (from + 4) (length body + 1) to g o.low) o.aligned)));
        }

  module _ (setting : Setting) (hart : ℕ) (values : Values) (t : ℕ) (left : Planes) (stored : Points) (f : ℕ → ℕ) (memory : List ℕ) (funcs : Planes)
      (holders : AreHolders scope) (holds : HoldsFuncs setting memory funcs) (knows : Knows hart scope values f) where
    abbrev value : ℕ
    value = form_value hart values form

    same : (to : ℕ → ℕ) (n : ℕ) (c : Comes setting.world whole to n f memory) (q : ℕ) → IsKept scope q → c.after q ≡ f q
    same to n c q h =
        let s = kept-apart scope q holders h in
        c.keeps q s.0 s.1 (λ e. working-free scope address_register holders (inl (omega arith, omega arith)) q h e)

    done : (c : Comes setting.world whole (λ at. end at entry) (length front + 1) f memory) → Did setting body t c.after memory (IsKept scope) left stored
        → Did setting whole (length front + 1 + t) f memory (IsKept scope) left stored
    done c d =
        let marked = marked-did (IsKept scope) (IsKept scope) (λ g. Unit {0}) (λ q h. h) (λ g same. tt) d in
        let one : Went setting whole (λ at. at) (λ at. end at entry) (length front + 1) f memory (IsKept scope) funcs no_hits =
        still setting (λ at. at) (λ at. end at entry) (length front + 1) c.after holds (same (λ at. end at entry) (length front + 1) c) c.path in
        let two : Went setting whole (λ at. end at entry) (λ at. end at whole) t c.after memory (IsKept scope) left (points_hit stored) =
        within setting (λ at. end at entry) (λ at. end at whole)
        (λ at s. stand-back setting.world.text at entry body (subst (Stand setting.world.text at) entry-body s))
        (λ at. sym (end-append at entry body) ∙ sym (ap (end at) entry-body)) marked.went in
        did-went (went-hits setting (λ func i k hit. inr hit) (went-then setting one two))

    passed : (c : Comes setting.world whole (λ at. end at whole) (length front + 2) f memory)
        → Did setting whole (length front + 2) f memory (IsKept scope) funcs (stored_if false stored)
    passed c =
        did-went (went-hits setting (λ func i k hit. absurd (true≢false (sym hit)))
        (still setting (λ at. at) (λ at. end at whole) (length front + 2) c.after holds (same (λ at. end at whole) (length front + 2) c) c.path))

    by-cases : (value < extent → (g : ℕ → ℕ) → Knows hart scope values g → Did setting body t g memory (IsKept scope) left stored) → (test : Bool)
        → nat_lt value extent ≡ test → Did setting whole (if test then length front + 1 + t else length front + 2) f memory (IsKept scope)
        (if test then left else funcs) (stored_if test stored)
    by-cases go true is =
        let less = ltb-true value extent is in
        let c = enters setting.world hart values f memory holders holds.size knows less in
        done c (go less c.after (knows-still hart scope values f c.after (same (λ at. end at entry) (length front + 1) c) knows))
    by-cases go false is = passed (passes setting.world hart values f memory holders holds.size knows (not-below value extent is))

  pub guards : Guards c0 c5 (sum_words form.per_hart form.sum.terms + 4) scope form extent body
  guards = record {
    insns = whole;
    emits = emits_then (emits_then x.emits y.emits) (emits_then z (emits_then j (emits-apart c4 c5 words body b e)));
    short =
        let n1 : length whole ≡ length front + length over = length-append front over in
        let n2 : length front ≡ length x.insns + length y.insns = length-append x.insns y.insns in
        let s1 = x.short in
        let s2 = y.short in
        omega (arith, n1, n2, s1, s2);
    before = length front + 1;
    past = length front + 2;
    front = entry;
    is = entry-body;
    enters = enters;
    passes = passes;
    does = λ setting hart values t left stored f memory funcs holders holds knows go.
        by-cases setting hart values t left stored f memory funcs holders holds knows go (nat_lt (form_value hart values form) extent) refl;
  }
